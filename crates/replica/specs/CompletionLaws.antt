-- The laws of a log completion: each way through its functions, and that a refusal by the entry's handler leaves the room as it was.
use Rattle.std.specs.Prelude.{◌≡◌, Bool, true, false, not, ◌&&◌, ◌||◌, leb, set}
use Rattle.std.proofs.Math.Path.{refl, sym, ap, subst}
use Rattle.std.proofs.Common.{◌∙◌, add-zero, eq-or-lt_of_le, arith, length-append}
use Rattle.std.proofs.Math.Bool.{and-false}
use mathlib.Core.List.{List, [], ◌∷◌, ◌++◌, append_assoc, append-nil}
use Rattle.std.proofs.Math.Logic.{⊎_elim}
use Prim.Native.Nat.{ℕ, zero, suc, ◌+◌, ◌-◌, ◌≤◌, ◌<◌}
use Rattle.std.proofs.Math.Nat.{zero-add}
use Rattle.std.proofs.Math.Dec.{ltb, eqb}
use Rattle.std.proofs.Math.ListN.{length}
use borrow.Author.Tests.{lt-ltb, le-ltb, le-leb, lt-leb, eq-eqb, ne_eqb, eqb-true, leb-true}
use Rattle.base.specs.Pick.{pick, pick_both, pick_cases, and_right}
use Rattle.base.specs.Gather.{gather, gather_none}
use Rattle.base.specs.Scan.{scan, scan_low, scan_below, scan_passed}
use Rattle.batch.specs.declared.Batch.{Batch}
use Rattle.batch.specs.Keys.{overfull}
use Rattle.actions.specs.declared.Action.TheVariants.{CommitNotice}
use Rattle.actions.specs.Actions.{Act, bare, write_at, write_actions}
use Rattle.actions.specs.Laws.{write_none, write_then}
use Rattle.slots.specs.declared.Slot.{Slot}
use Rattle.slots.specs.Slots.{logged_slot, passed_slot}
use Rattle.decide.specs.declared.Scalars.{Scalars}
use Rattle.decide.specs.Decide.{Decided}
use Rattle.decide.specs.declared.Reply.{Reply}
use Rattle.decide.specs.Scalars.{leads, strict, with_accept_bar, with_bars, with_log_size, notifies}
use Rattle.decide.specs.Decide.{decide_promised, is_stale, decide_accepted}
use Rattle.decide.specs.Laws.{Steady, Steady-self, Settles, done, refused, Settles-promised, Settles-accepted}
use Rattle.decide.specs.PrepareReply.{own_reply}
use Rattle.window.specs.declared.Window.{Window}
use Rattle.window.specs.declared.Placed.{Placed}
use Rattle.window.specs.Window.{slot_at, put_slot}
use Rattle.window.specs.Acts.{pass_acts}
use Rattle.window.specs.Summary.{walk}
use Rattle.window.specs.SummaryLaws.{Sums, Sums-steady, Sums-put_like, Sums-moved}
use Rattle.window.specs.Sweeps.{Swept}
use Rattle.window.specs.Bounded.{stop_in, passes}
use Rattle.window.specs.BoundedLaws.{stop_in_lem}
use Rattle.window.specs.Laws.{passes_status}
use Rattle.replica.specs.declared.Replica.{Replica}
use Rattle.replica.specs.Seen.{Handled}
use Rattle.replica.specs.declared.Entry.{Entry}
use Rattle.replica.specs.declared.Entry.TheVariants.{PrepareBal, AcceptData, CommitSlot}
use Rattle.replica.specs.declared.Done.{Done}
use Rattle.replica.specs.Record.{Outcome, kept, noting, settled, summed, with_window, place, number, log_end}
use Rattle.replica.specs.Fit.{ready}
use Rattle.replica.specs.Messages.{appended, noted, append_acts, tabled, replied_on, or_kept, in_range, is_elsewhere, reply_on}
use Rattle.replica.specs.Durability.{prepared_done, moved_accept, then_moved, accepted_done, notice_acts, pass_on, pass_stop, committed_done, done_on, logged_on, logged_step}
use Rattle.replica.specs.Step.{Told}
use Rattle.replica.specs.AdmitLaws.{Ready, gate_ready, gate_shut, ready_goes}
use Rattle.replica.specs.Admit.{ready_answer}
use Rattle.replica.specs.Acting.{SettleFits}
use Rattle.replica.specs.ActingLaws.{acted, told, with_summary, summed_refused}
use Rattle.replica.specs.Replying.{ReplyFits}
use Rattle.replica.specs.CompletionFits.{BarsFit, DoneFits, CommitFits, PassFits, Wrote}

-- ── the notice: what is written, by whether commit_bar stood still and by the test ──
module _ (sc : Scalars) (bar end : ℕ) (still : Bool) (n : ℕ) (room : List ℕ) where
  abbrev said : List Act
  said = pick still [] (notice_acts sc bar end)

  Wrote-none : said ≡ [] → Wrote said n room n room
  Wrote-none e = record { next = rw e (sym (add-zero n)); written = rw e (sym (write_none room n)) }

  pub notice_still : still ≡ true → Wrote said n room n room
  notice_still e = Wrote-none (rw e)

  pub notice_none : still ≡ false → notifies sc bar end ≡ false → Wrote said n room n room
  notice_none e f = Wrote-none (rw (e, f))

  pub notice_one : (after : List ℕ) → still ≡ false → notifies sc bar end ≡ true
      → after ≡ write_at room n (bare (CommitNotice (record { ballot = sc.bal_max_seen; bar = bar })) ∷ []) → Wrote said n room (n + 1) after
  notice_one after e f w =
      let s : said ≡ bare (CommitNotice (record { ballot = sc.bal_max_seen; bar = bar })) ∷ [] = rw (e, f) in
      record { next = rw s; written = rw s w }

-- the source's loop has the notice inside, after each turn of which commit_bar is the log end: the same actions as `pass_on`'s, one notice after it
module _ (r : Replica) where
  abbrev passing : ℕ → List Act
  passing i = pass_acts (number r.sc i) (slot_at r.window i)

  abbrev notice : ℕ → List Act
  notice i = notice_acts r.sc (number r.sc i) (log_end r)

  abbrev pub turn_acts : ℕ → List Act
  turn_acts i = passing i ++ notice (suc i)

  -- below the log end no turn gives a notice
  turns_quiet : (from stop : ℕ) → stop < r.window.len → gather turn_acts from stop ≡ gather passing from stop
  turns_quiet from zero h = refl
  turns_quiet from (suc j) h =
      rw (ne_eqb (r.sc.start + suc j) (log_end r) (λ e. omega arith), append-nil (passing j), turns_quiet from j (omega arith))

  pub notice_inside : (from stop : ℕ) → from ≤ stop → stop ≤ r.window.len → gather turn_acts from stop ≡ (pass_on r from stop).actions
  unfolding pass_on
  notice_inside from zero l h = rw (eq-eqb from 0 (omega arith))
  notice_inside from (suc j) l h =
      ⊎_elim
      (λ (e : from ≡ suc j). rw (eq-eqb from (suc j) e, gather_none turn_acts from (suc j) (omega arith), gather_none passing from (suc j) (omega arith)))
      (λ (u : from < suc j).
      rw (ne_eqb from (suc j) (λ e. omega arith), le-leb from j (omega arith), turns_quiet from j (omega arith), append_assoc (gather passing from j) (passing j) (notice (suc j))))
      (eq-or-lt_of_le l)

-- ── commit_bar ──
module _ (r : Replica) (from stop : ℕ) where
  abbrev passed_with : Scalars → Window → Replica
  passed_with sc w = record { sc = sc; bars = r.bars; window = w; keys = r.keys; reads = r.reads; summary = r.summary }

  -- as the code has it: the slots passed from the room's front on, then the notice
  pub passed_told : (p : Placed) (sc : Scalars) (bar end n : ℕ) (room mid after : List ℕ) → PassFits r from stop room → bar ≡ r.sc.start + stop → end ≡ log_end r
      → Swept (λ i s. passed_slot s) (λ i s. pass_acts (r.sc.start + i) s) from stop 0 r.window room p mid
      → Wrote (pick (eqb from stop) [] (notice_acts r.sc bar end)) p.next mid n after
      → sc ≡ with_bars r.sc r.sc.accept_bar bar r.sc.exec_bar
      → Told (summed (pass_on r from stop)) (record { answer = 0; count = n; replica = passed_with sc p.window }) room after
  unfolding pass_on
  passed_told p sc bar end n room mid after fits b e s w f =
      let first : List Act = gather (λ i. pass_acts (number r.sc i) (slot_at r.window i)) from stop in
      let then : List Act = pick (eqb from stop) [] (notice_acts r.sc bar end) in
      let sums : Sums sc p.window r.summary =
      rw s.window
      (rw (← fits.commit) at
      (Sums-moved r.sc sc r.window r.summary stop fits.sum (ap (λ (x : Scalars). x.start) f)
      (ap (λ (x : Scalars). x.commit_bar - x.start) f ∙ omega arith) (omega (arith, fits.ordered, fits.commit)) fits.present
      (λ j x y. fits.closed j (omega (arith, fits.commit)) y))) in
      acted {o = pass_on r from stop} (first ++ then) (passed_with sc p.window) r.summary n refl
      (w.next ∙ ap (λ (x : ℕ). x + length then) (s.next ∙ zero-add (length first)) ∙ sym (length-append first then))
      (write_then room mid after first then 0 p.next (omega arith) s.next s.written w.written)
      (rw (f, s.window, b, e)) sums

  pub pass_fits : (to : ℕ) (room : List ℕ) → CommitFits r room → from ≡ r.sc.commit_bar - r.sc.start → to ≤ r.window.len → stop ≡ stop_in r.window 0 3 from to
      → PassFits r from stop room
  pass_fits to room commit c b q =
      let f = commit.bars in
      let l = commit.long in
      let e = q ∙ stop_in_lem r.window from to 0 3 (omega (arith, f.within)) in
      record {
        low = f.low;
        within = f.within;
        ordered = omega (arith, e, scan_low (passes r.window 0 3) from to);
        high = omega (arith, e, f.within, scan_below (passes r.window 0 3) from to r.window.len (omega (arith, c, f.commit_high)) b);
        long = l;
        commit = c;
        present = omega (arith, e, scan_below (passes r.window 0 3) from to r.window.len (omega (arith, c, f.commit_high)) b);
        closed = λ j x y. leb-true 3 _ (and_right (leb 0 (slot_at r.window j).ballot) _ (scan_passed (passes r.window 0 3) from to j x (omega (arith, e))));
        sum = commit.sum;
      }

module _ (r : Replica) (slot : ℕ) where
  pub committed_kept : (slot ≡ r.sc.commit_bar → ⊥) → committed_done r slot ≡ kept 0 r
  unfolding committed_done
  committed_kept h = rw (ne_eqb slot r.sc.commit_bar h)

  pub committed_passes : (stop : ℕ) → BarsFit r → slot ≡ r.sc.commit_bar
      → stop ≡ stop_in r.window 0 3 (r.sc.commit_bar - r.sc.start) (r.sc.accept_bar - r.sc.start)
      → committed_done r slot ≡ pass_on r (r.sc.commit_bar - r.sc.start) stop
  unfolding committed_done pass_stop
  committed_passes stop f h e =
      let old : ℕ = r.sc.commit_bar - r.sc.start in
      let to : ℕ = r.sc.accept_bar - r.sc.start in
      rw (eq-eqb slot r.sc.commit_bar h)
      (ap (pass_on r old) (sym (e ∙ stop_in_lem r.window old to 0 3 (omega (arith, f.accept_is_high, f.within)) ∙ passes_status r.window 3 old to)))

-- ── accept_bar ──
module _ (r : Replica) (slot : ℕ) where
  pub moved_kept : (slot ≡ r.sc.accept_bar → ⊥) → r ≡ moved_accept r slot
  unfolding moved_accept
  moved_kept h = rw (ne_eqb slot r.sc.accept_bar h)

  pub moved_high : (stop : ℕ) → BarsFit r → stop ≡ stop_in r.window 0 2 (r.sc.accept_bar - r.sc.start) r.window.len → stop ≤ 64
  moved_high stop f e =
      omega (arith, e ∙ stop_in_lem r.window (r.sc.accept_bar - r.sc.start) r.window.len 0 2 f.within, scan_below (passes r.window 0 2) (r.sc.accept_bar - r.sc.start) r.window.len 64 (omega (arith, f.accept_is_high, f.within)) f.within)

  pub moved_on : (sc : Scalars) (stop bar : ℕ) → BarsFit r → slot ≡ r.sc.accept_bar
      → stop ≡ stop_in r.window 0 2 (r.sc.accept_bar - r.sc.start) r.window.len → bar ≡ r.sc.start + stop
      → sc ≡ with_bars r.sc bar r.sc.commit_bar r.sc.exec_bar
      → record { sc = sc; bars = r.bars; window = r.window; keys = r.keys; reads = r.reads; summary = r.summary } ≡ moved_accept r slot
  unfolding moved_accept
  moved_on sc stop bar fits h e b f =
      let from : ℕ = r.sc.accept_bar - r.sc.start in
      rw (eq-eqb slot r.sc.accept_bar h, f, b, e ∙ stop_in_lem r.window from r.window.len 0 2 fits.within ∙ passes_status r.window 2 from r.window.len)

-- the summary is the walk's before accept_bar moves, and after it
abbrev walked : Replica → Replica
walked r = with_summary r (walk r.sc r.window)

moved_walked : (r : Replica) (slot : ℕ) → moved_accept (walked r) slot ≡ walked (moved_accept r slot)
unfolding moved_accept
moved_walked r slot = go (not (eqb slot r.sc.accept_bar))
  where
    moved : Replica
    moved =
        with_window r
        (with_accept_bar r.sc
        (number r.sc (scan (λ i. leb 2 (slot_at r.window i).status) (place r.sc r.sc.accept_bar) r.window.len)))
        r.window

    go : (t : Bool) → pick t (walked r) (walked moved) ≡ walked (pick t r moved)
    go true = refl
    go false = refl

-- what is settled for one slot leaves the bars and the log as they were
pub bars_kept : (r p : Replica) → Steady r.sc p.sc → p.window.len ≡ r.window.len → BarsFit r → BarsFit p
bars_kept r p s l f =
    record {
      low = omega (arith, f.low, s.start);
      within = omega (arith, f.within, l);
      commit_low = omega (arith, f.commit_low, s.start, s.commit);
      commit_high = omega (arith, f.commit_high, s.start, s.commit, l);
      accept_low = omega (arith, f.accept_low, s.start, s.accept);
      accept_is_high = omega (arith, f.accept_is_high, s.start, s.accept, l);
    }

module _ (r : Replica) (f : BarsFit r) where
  abbrev Fine : Outcome → Type 0
  Fine o = BarsFit o.replica

  noting_bars : (t : Bool) (slot : ℕ) (b : Batch) (o : Outcome) → BarsFit o.replica → BarsFit (noting r t slot b o).replica
  unfolding noting
  noting_bars t slot b o g =
      pick_both Fine (not (t && eqb o.answer 0)) g
      (pick_both Fine (overfull r.keys b) f
      (record { low = g.low; within = g.within; commit_low = g.commit_low; commit_high = g.commit_high; accept_low = g.accept_low; accept_is_high = g.accept_is_high }))

  pub settled_bars : (i slot : ℕ) (s : Slot) (d : Decided) → Settles r.sc s d → BarsFit (settled r r.window i slot d).replica
  unfolding settled
  settled_bars i slot s d (done e k) =
      pick_both Fine (not (eqb d.answer 0)) f
      (noting_bars d.noted slot d.slot.batch _ (bars_kept r (with_window r d.sc (put_slot r.window i d.slot)) k refl f))
  settled_bars i slot s d (refused n h e) = rw (e, ne_eqb n 0 h) f

module _ (r : Replica) (i slot ballot : ℕ) (s : Slot) where
  abbrev settled_vote : Outcome
  settled_vote = settled r r.window i slot (decide_accepted r.sc s slot ballot)

  module _ {h : Handled} {room after : List ℕ} (d : Decided) (e : d ≡ decide_accepted r.sc s slot ballot) (t : Told (summed (settled r r.window i slot d)) h room after) where
    pub accepted_refused : (h.answer ≡ 0 → ⊥) → Told (summed (accepted_done r i slot ballot s)) h room after
    unfolding accepted_done
    accepted_refused n =
        let u : Told (summed settled_vote) h room after = rw e at t in
        told (rw (ne_eqb settled_vote.answer 0 (λ z. n (ap (λ (x : Handled). x.answer) u.handed ∙ z)))) u

    pub accepted_bars : BarsFit r → BarsFit h.replica
    accepted_bars f =
        let b = settled_bars r f i slot s (decide_accepted r.sc s slot ballot) (Settles-accepted r.sc s slot ballot) in
        rw (t.handed, e) (bars_kept settled_vote.replica (summed settled_vote).replica (Steady-self settled_vote.replica.sc) refl b)

    pub accepted_moved : (m : Replica) → h.answer ≡ 0 → m ≡ moved_accept h.replica slot
        → Told (summed (accepted_done r i slot ballot s)) (record { answer = 0; count = h.count; replica = m }) room after
    unfolding accepted_done
    accepted_moved m z g =
        let u : Told (summed settled_vote) h room after = rw e at t in
        let a : settled_vote.answer ≡ 0 = sym (ap (λ (x : Handled). x.answer) u.handed) ∙ z in
        let q : accepted_done r i slot ballot s ≡ record { answer = 0; replica = moved_accept settled_vote.replica slot; actions = settled_vote.actions } =
        rw (eq-eqb settled_vote.answer 0 a) in
        let kept : h.replica ≡ walked settled_vote.replica = ap (λ (x : Handled). x.replica) u.handed ∙ rw (eq-eqb settled_vote.answer 0 a) in
        let n : h.count ≡ length settled_vote.actions = ap (λ (x : Handled). x.count) u.handed in
        let p : m ≡ walked (moved_accept settled_vote.replica slot) = g ∙ ap (λ (x : Replica). moved_accept x slot) kept ∙ moved_walked settled_vote.replica slot in
        subst (λ (o : Outcome). Told o (record { answer = 0; count = h.count; replica = m }) room after) (sym (ap summed q))
        (record { handed = λ k. record { answer = 0; count = n k; replica = p k }; written = u.written })

-- ── PrepareBal ──
module _ (r : Replica) (i slot ballot : ℕ) (s : Slot) where
  pub prepared_stale : is_stale r.sc s ballot false ≡ true → prepared_done r i slot ballot s ≡ kept 0 r
  unfolding prepared_done
  prepared_stale a = rw a

  pub prepared_follows : (d : Decided) → is_stale r.sc s ballot false ≡ false → (r.sc.leader ≡ r.sc.id → ⊥) → d ≡ decide_promised r.sc s slot
      → prepared_done r i slot ballot s ≡ settled r r.window i slot d
  unfolding prepared_done
  prepared_follows d a h e = rw (a, ne_eqb r.sc.leader r.sc.id h, e)

  module _ (a : is_stale r.sc s ballot false ≡ false) (l : r.sc.leader ≡ r.sc.id) where
    pub prepared_unbooked : s.leader.present ≡ false → prepared_done r i slot ballot s ≡ kept 0 r
    unfolding prepared_done
    prepared_unbooked e = rw (a, eq-eqb r.sc.leader r.sc.id l, e)

    pub prepared_past : s.leader.endprep < slot → prepared_done r i slot ballot s ≡ kept 0 r
    unfolding prepared_done
    prepared_past h = rw (a, eq-eqb r.sc.leader r.sc.id l, lt-leb slot s.leader.endprep h, and-false)

    pub prepared_replies : (m : Reply) → s.leader.present ≡ true → slot ≤ s.leader.endprep → m ≡ own_reply r.sc s slot
        → prepared_done r i slot ballot s ≡ reply_on r r.sc.id m
    unfolding prepared_done
    prepared_replies m e h f = rw (a, eq-eqb r.sc.leader r.sc.id l, e, le-leb slot s.leader.endprep h, f)

module _ (r : Replica) (i slot : ℕ) (s : Slot) where
  pub own_fits : (room : List ℕ) (m : Reply) → DoneFits r i slot room → m ≡ own_reply r.sc s slot → ReplyFits r room m
  own_fits room m f e =
      record {
        long = f.long;
        low = f.bars.low;
        within = f.bars.within;
        from = rw e (omega (arith, f.named));
        commit_low = f.bars.commit_low;
        commit_high = f.bars.commit_high;
        sum = f.sum;
      }

module _ (r : Replica) (i slot : ℕ) where
  -- the slot at its own place
  done_settles : (room : List ℕ) (d : Decided) → DoneFits r i slot room → Settles r.sc (slot_at r.window i) d → SettleFits r r.window i slot d room
  done_settles room d f k =
      record {
        low = omega (arith, f.here, f.bars.within);
        long = f.long;
        within = f.bars.within;
        here = f.here;
        named = f.named;
        start = f.bars.low;
        commit = f.bars.commit_low;
        settles = k;
        sum = f.sum;
      }

  pub promised_settles : (room : List ℕ) (d : Decided) → DoneFits r i slot room → d ≡ decide_promised r.sc (slot_at r.window i) slot → SettleFits r r.window i slot d room
  promised_settles room d f e = done_settles room d f (rw e (Settles-promised r.sc (slot_at r.window i) slot))

  pub accepted_settles : (ballot : ℕ) (room : List ℕ) (d : Decided) → DoneFits r i slot room → d ≡ decide_accepted r.sc (slot_at r.window i) slot ballot → SettleFits r r.window i slot d room
  accepted_settles ballot room d f e = done_settles room d f (rw e (Settles-accepted r.sc (slot_at r.window i) slot ballot))

-- ── a refusal by the entry's handler gives no actions ──
pub record Quiet (o : Outcome) : Type 0 where
  pub none : (o.answer ≡ 0 → ⊥) → o.actions ≡ []

kept-Quiet : (n : ℕ) (r : Replica) → Quiet (kept n r)
kept-Quiet n r = record { none = λ h. refl }

done_only : (r : Replica) (acts : List Act) → Quiet (record { answer = 0; replica = r; actions = acts })
done_only r acts = record { none = λ h. absurd (h refl) }

or_kept-Quiet : (r : Replica) (o : Outcome) → Quiet (or_kept r o)
or_kept-Quiet r o = pick_cases Quiet (eqb o.answer 0) (λ t. record { none = λ h. absurd (h (eqb-true o.answer 0 t)) }) (λ t. kept-Quiet o.answer r)

noting-Quiet : (r : Replica) (t : Bool) (slot : ℕ) (b : Batch) (o : Outcome) → Quiet o → Quiet (noting r t slot b o)
unfolding noting
noting-Quiet r t slot b o q =
    pick_both Quiet (not (t && eqb o.answer 0)) q (pick_both Quiet (overfull r.keys b) (kept-Quiet 7 r) (done_only _ _))

settled-Quiet : (r : Replica) (w : Window) (i slot : ℕ) (d : Decided) → Quiet (settled r w i slot d)
unfolding settled
settled-Quiet r w i slot d =
    pick_both Quiet (not (eqb d.answer 0)) (kept-Quiet d.answer r) (noting-Quiet r d.noted slot d.slot.batch _ (done_only _ _))

reply_quiet : (r : Replica) (peer : ℕ) (m : Reply) → Quiet (reply_on r peer m)
unfolding reply_on
reply_quiet r peer m =
    pick_both Quiet (not (eqb m.ballot r.sc.bal_prep_sent)) (kept-Quiet 0 r)
    (pick_both Quiet (not (leads r.sc)) (kept-Quiet 4 r)
    (pick_both Quiet (is_elsewhere r.sc m) (kept-Quiet 0 r)
    (pick_both Quiet (not (in_range r m)) (kept-Quiet 6 r)
    (pick_both Quiet (not (slot_at r.window (place r.sc m.trigger)).leader.present) (kept-Quiet 0 r)
    (pick_both Quiet (leb (r.sc.start + 64) m.slot) (kept-Quiet 5 r)
    (or_kept-Quiet r
    (replied_on (tabled r peer m.bar) (noted r.sc (appended r (place r.sc m.slot) (place r.sc m.trigger)) (place r.sc m.slot) peer) (place r.sc m.slot) (place r.sc m.trigger) peer m
    (append_acts r (place r.sc m.slot)))))))))

moved_quiet : (slot : ℕ) (o : Outcome) → Quiet o → Quiet (then_moved slot o)
moved_quiet slot o q = pick_both Quiet (not (eqb o.answer 0)) q (done_only _ _)

pub done_quiet : (r : Replica) (i slot ballot : ℕ) (e : Entry) → Quiet (done_on r i slot ballot e)
unfolding prepared_done accepted_done committed_done pass_on
done_quiet r i slot ballot PrepareBal =
    pick_both Quiet (is_stale r.sc (slot_at r.window i) ballot false) (kept-Quiet 0 r)
    (pick_both Quiet (leads r.sc)
    (pick_both Quiet ((slot_at r.window i).leader.present && leb slot (slot_at r.window i).leader.endprep) (reply_quiet r _ _) (kept-Quiet 0 r))
    (settled-Quiet r _ i slot _))
done_quiet r i slot ballot AcceptData = moved_quiet slot _ (settled-Quiet r _ i slot _)
done_quiet r i slot ballot CommitSlot = pick_both Quiet (not (eqb slot r.sc.commit_bar)) (kept-Quiet 0 r) (done_only _ _)

-- ── the whole ──
module _ (r : Replica) (i size : ℕ) where
  pub logged_on_lem : (t : Slot) (sc : Scalars) → t ≡ logged_slot r.sc.wal_offset (slot_at r.window i) → sc ≡ with_log_size r.sc size
      → record { sc = sc; bars = r.bars; window = record { len = r.window.len; slots = set r.window.slots i t }; keys = r.keys; reads = r.reads; summary = r.summary } ≡ logged_on r i size
  unfolding logged_on
  logged_on_lem t sc e f = rw (e, f)

  pub logged_fits : (p : Replica) (slot : ℕ) (room : List ℕ) → p ≡ logged_on r i size → Ready r (length room) → i < r.window.len → slot ≡ r.sc.start + i
      → DoneFits p i slot room
  unfolding logged_on
  logged_fits p slot room e f h n =
      rw e (record {
        bars = record {
          low = f.low;
          within = f.within;
          commit_low = omega (arith, f.exec_low, f.exec_high);
          commit_high = f.commit_high;
          accept_low = f.accept_low;
          accept_is_high = f.accept_is_high;
        };
        here = h;
        named = n;
        long = f.long;
        sum = Sums-steady r.sc (with_log_size r.sc size) _ _ refl refl
            (Sums-put_like r.sc r.window r.summary i (logged_slot r.sc.wal_offset (slot_at r.window i)) same_status f.sum);
      })
    where
      same_status : (logged_slot r.sc.wal_offset (slot_at r.window i)).status ≡ (slot_at r.window i).status
      same_status =
          pick_both (λ (x : Slot). x.status ≡ (slot_at r.window i).status) (eqb (slot_at r.window i).wal_offset 0 || ltb r.sc.wal_offset (slot_at r.window i).wal_offset) refl refl

module _ (r : Replica) (room : ℕ) (d : Done) where
  pub logged_unready : (n : ℕ) → n ≡ ready_answer r room → (n ≡ 0 → ⊥) → logged_step r room d ≡ kept n r
  unfolding logged_step
  logged_unready n e h = gate_shut (ready_answer r room) n r _ (gate_ready r room _) e h

  module _ (e : ready r room ≡ true) where
    pub logged_below : d.slot < r.sc.start → logged_step r room d ≡ kept 0 r
    unfolding logged_step
    logged_below h = ready_goes r room _ e ∙ rw (lt-ltb d.slot r.sc.start h)

    module _ (h : r.sc.start ≤ d.slot) where
      pub logged_past : log_end r ≤ d.slot → logged_step r room d ≡ kept 4 r
      unfolding logged_step
      logged_past k = ready_goes r room _ e ∙ rw (le-ltb d.slot r.sc.start h, le-leb (log_end r) d.slot k)

      module _ (k : d.slot < log_end r) where
        pub logged_short : d.size < r.sc.wal_offset → logged_step r room d ≡ kept 6 r
        unfolding logged_step
        logged_short o =
            ready_goes r room _ e ∙ rw (le-ltb d.slot r.sc.start h, lt-leb (log_end r) d.slot k, lt-ltb d.size r.sc.wal_offset o)

        module _ (o : r.sc.wal_offset ≤ d.size) where
          abbrev handler : Outcome
          handler = done_on (logged_on r (place r.sc d.slot) d.size) (place r.sc d.slot) d.slot d.ballot d.entry

          goes : logged_step r room d ≡ or_kept r handler
          unfolding logged_step
          goes =
              ready_goes r room _ e
              ∙ rw (le-ltb d.slot r.sc.start h, lt-leb (log_end r) d.slot k, le-ltb d.size r.sc.wal_offset o)

          module _ (p : Replica) (q : p ≡ logged_on r (place r.sc d.slot) d.size) {g : Handled} {before after : List ℕ}
              (t : Told (summed (done_on p (place r.sc d.slot) d.slot d.ballot d.entry)) g before after) where
            handler-Told : Told (summed handler) g before after
            handler-Told = rw q at t

            pub logged_done : g.answer ≡ 0 → Told (summed (logged_step r room d)) g before after
            logged_done z =
                let u = handler-Told in
                let a : handler.answer ≡ 0 = sym (ap (λ (x : Handled). x.answer) u.handed) ∙ z in
                told (goes ∙ ap (λ (b : Bool). pick b handler (kept handler.answer r)) (eq-eqb handler.answer 0 a)) u

            pub logged_refused : (x : Handled) → (g.answer ≡ 0 → ⊥) → x ≡ record { answer = g.answer; count = 0; replica = r }
                → Told (summed (logged_step r room d)) x before after
            unfolding write_actions
            logged_refused x n c =
                let u = handler-Told in
                let a : g.answer ≡ handler.answer = ap (λ (y : Handled). y.answer) u.handed in
                let m : handler.answer ≡ 0 → ⊥ = λ z. n (a ∙ z) in
                let quiet : handler.actions ≡ [] = (done_quiet _ _ _ _ d.entry).none m in
                let e = goes ∙ ap (λ (b : Bool). pick b handler (kept handler.answer r)) (ne_eqb handler.answer 0 m) in
                subst (λ (o : Outcome). Told o x before after) (sym (ap summed e ∙ summed_refused handler.answer r (ne_eqb handler.answer 0 m)))
                (record { handed = c ∙ rw a; written = u.written ∙ ap (write_actions before) quiet })

-- ── in the base kind no completion is stale, so that its ballot is read nowhere ──
module _ (r : Replica) (i slot ballot ballot' : ℕ) (k : strict r.sc ≡ false) where
  pub done_alike : (e : Entry) → done_on r i slot ballot e ≡ done_on r i slot ballot' e
  unfolding prepared_done accepted_done decide_accepted
  done_alike PrepareBal = rw k
  done_alike AcceptData = rw k
  done_alike CommitSlot = refl
