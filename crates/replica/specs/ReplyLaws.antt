-- The laws of a PrepareReply: what is weighed before anything is written is what the definition does.
use Rattle.std.specs.Prelude.{◌≡◌, Bool, true, false, not, ◌&&◌, List, ◌++◌, ℕ, ◌+◌, ◌-◌, ◌≤◌, ◌<◌, ltb, leb, eqb, length}
use Rattle.std.proofs.Math.Path.{refl, ap}
use Rattle.std.proofs.Common.{inl, inr, sym, ◌∙◌, append-nil, add-zero, arith, length-append, get_or-set_same, get_or-set_other}
use Rattle.std.proofs.lemmas.List.{set-get_or}
use borrow.Author.Tests.{not-true, not-false, lt-ltb, le-ltb, le-leb, lt-leb, eq-eqb, ne_eqb, eqb-true, eqb-false}
use Rattle.base.specs.Pick.{clash, pick, pick_both, pick_cases, larger, larger_left}
use Rattle.base.specs.HowMany.{how_many_none, how_many_few}
use Rattle.base.specs.Over.{over_self}
use Rattle.base.specs.Gather.{gather, gather_self}
use Rattle.batch.specs.declared.Batch.{Batch}
use Rattle.batch.specs.declared.KeyTable.{KeyTable}
use Rattle.std.specs.Prelude.{Option, Some, None, is_some, ◌⊎◌}
use Rattle.std.specs.Option.{unwrap_or}
use Rattle.batch.specs.Batches.{Made, made, empty_batch, is_batch, make_batch}
use Rattle.batch.specs.Keys.{refresh, overfull}
use Rattle.actions.specs.Actions.{Act}
use Rattle.actions.specs.Laws.{write_then, length_write}
use Rattle.slots.specs.declared.LeaderBook.{LeaderBook}
use Rattle.slots.specs.declared.Slot.{Slot}
use Rattle.slots.specs.Slots.{no_slot, new_book, appended_slot, noted_slot, entered_slot}
use Rattle.decide.specs.declared.Scalars.{Scalars}
use Rattle.decide.specs.declared.PeerBars.{PeerBars}
use Rattle.decide.specs.Decide.{Decided}
use Rattle.decide.specs.declared.Reply.{Reply}
use Rattle.decide.specs.Weighing.{Weighed}
use Rattle.decide.specs.Scalars.{leads, strict}
use Rattle.decide.specs.Bars.{with_bar, with_fallen}
use Rattle.decide.specs.Laws.{fallen_is, WeighedRemains, weighed_remains}
use Rattle.decide.specs.Decide.{goes_on, decide_vote, is_counted, decide_count}
use Rattle.decide.specs.PrepareReply.{with_voted}
use Rattle.decide.specs.ReplyWays.{InLog}
use Rattle.decide.specs.Weighing.{unmoved, weighed_count, weighed_vote, weighed}
use Rattle.window.specs.declared.Window.{Window}
use Rattle.window.specs.declared.Placed.{Placed}
use Rattle.window.specs.Window.{slot_at, put_slot, sweep, filled}
use Rattle.window.specs.Acts.{enter_acts}
use Rattle.window.specs.Summary.{has_status}
use Rattle.window.specs.Kept.{counted_in}
use Rattle.window.specs.KeptLaws.{counted_in_lem}
use Rattle.window.specs.SummaryLaws.{Sums, Sums-filled, put_status, Sums-put_like, Sums-entered, Sums-steady, Sums-few}
use Rattle.window.specs.Sweeps.{Ranged, SweptIn, PromisesIn}
use Rattle.window.specs.Counting.{counts, counts_in}
use Rattle.window.specs.CountingLaws.{counts_in_lem}
use Rattle.window.specs.Bounded.{filled_in}
use Rattle.window.specs.BoundedLaws.{filled_in_lem}
use Rattle.window.specs.Places.{size, put_long, put_here, filled_long, filled_low, filled_most}
use Rattle.window.specs.Laws.{promises_many}
use Rattle.window.specs.RangeLaws.{swept_in, swept_self, promised_in}
use Rattle.replica.specs.declared.Replica.{Replica}
use Rattle.replica.specs.Record.{Outcome, kept, noting, summed, with_window, place, number}
use Rattle.replica.specs.Messages.{appended, noted, append_acts, counted_on, voted_on, replied_on, in_range, is_elsewhere, or_kept, reply_on, clean_reply, prepare_reply_step, appended_as}
use Rattle.replica.specs.Step.{Told}
use Rattle.replica.specs.Admit.{from_peer}
use Rattle.replica.specs.AdmitLaws.{gate_peer, peer_facts}
use Rattle.replica.specs.ActingLaws.{acted, noting_passes, noting_full, noting_acts}
use Rattle.replica.specs.Replying.{ReplyFits, PlacesFit, swept_to, placed, carried, reply_at}

-- one test on both sides
pick_meet : {A B C : Type 0} (f : A → C) (g : B → C) (t : Bool) {x y : A} {a b : B} → (t ≡ true → f x ≡ g a) → (t ≡ false → f y ≡ g b)
    → f (pick t x y) ≡ g (pick t a b)
pick_meet f g true p q = p refl
pick_meet f g false p q = q refl

-- a slot read back where another, or itself, was stored
pub read_back : (w : Window) (i j : ℕ) (x : Slot) → i < length w.slots → slot_at (put_slot w i x) j ≡ pick (eqb i j) x (slot_at w j)
read_back w i j x h =
    pick_cases (λ (y : Slot). slot_at (put_slot w i x) j ≡ y) (eqb i j)
    (λ t. rw (← eqb-true i j t) (get_or-set_same w.slots i x no_slot h))
    (λ t. get_or-set_other w.slots i j x no_slot (λ e. eqb-false i j t (sym e)))

-- storing what is there changes nothing
stored_back : (w : Window) (j : ℕ) (x : Slot) → x ≡ slot_at w j → put_slot w j x ≡ w
stored_back w j x e = rw e (rw (set-get_or w.slots j no_slot))

-- where the sweep into Accept ends, once it is known whether the quorum is made
pub swept_end : (w : Window) (j : ℕ) (g : Weighed) {t : Bool} → g.enters ≡ t → pick t w.len j ≡ swept_to w j g
swept_end w j g e = sym (ap (λ (x : Bool). pick x w.len j) e)

-- ── what was weighed, carried out: refused, 7, or done ──
module _ (r : Replica) (bars : PeerBars) (w : Window) (i j : ℕ) (m : Reply) (acts : List Act) (g : Weighed) where
  abbrev pub entered_acts : List Act
  entered_acts = gather (λ k. enter_acts (r.sc.start + k) m.ballot (slot_at (placed w i j g) k)) j (swept_to w j g)

  abbrev pub entered_window : Window
  entered_window = sweep (λ k s. entered_slot (strict r.sc) m.ballot s) j (swept_to w j g) (placed w i j g)

  pub carried_refused : (g.answer ≡ 0 → ⊥) → carried r bars w i j m acts g ≡ kept g.answer r
  unfolding carried
  carried_refused h = rw (ne_eqb g.answer 0 h)

  pub carried_full : g.answer ≡ 0 → (g.noted && overfull r.keys g.slot.batch) ≡ true → carried r bars w i j m acts g ≡ kept 7 r
  unfolding carried
  carried_full e f = rw (eq-eqb g.answer 0 e, f)

  pub carried_acts : g.answer ≡ 0 → (g.noted && overfull r.keys g.slot.batch) ≡ false
      → carried r bars w i j m acts g
      ≡ record {
        answer = 0;
        replica = record {
          sc = g.sc;
          bars = bars;
          window = entered_window;
          keys = pick g.noted (refresh m.slot g.slot.batch r.keys) r.keys;
          reads = r.reads;
          summary = r.summary;
        };
        actions = acts ++ entered_acts;
      }
  unfolding carried
  carried_acts e f = rw (eq-eqb g.answer 0 e, f)

-- ── the definition, test by test ──
module _ (r : Replica) (sc : Scalars) (bars : PeerBars) (w : Window) (i j peer : ℕ) (m : Reply) (acts : List Act) where
  -- the replica with the peer accept table
  abbrev listed : Replica
  listed = record { sc = sc; bars = bars; window = r.window; keys = r.keys; reads = r.reads; summary = r.summary }

  abbrev done : Weighed → Outcome
  done g = carried r bars w i j m acts g

  abbrev keyed : Weighed → Outcome → Outcome
  keyed g o = or_kept r (noting listed g.noted m.slot g.slot.batch o)

  abbrev entering : Weighed → ℕ → List Act
  entering g k = enter_acts (r.sc.start + k) m.ballot (slot_at (placed w i j g) k)

  noted_done : (g : Weighed) (v : Window) (xs : List Act) → g.answer ≡ 0 → v ≡ entered_window r bars w i j m acts g → xs ≡ acts ++ entered_acts r bars w i j m acts g
      → keyed g (record { answer = 0; replica = with_window listed g.sc v; actions = xs }) ≡ done g
  noted_done g v xs a p x = go (g.noted && overfull r.keys g.slot.batch) refl
    where
      go : (b : Bool) → (g.noted && overfull r.keys g.slot.batch) ≡ b
          → keyed g (record { answer = 0; replica = with_window listed g.sc v; actions = xs }) ≡ done g
      go true e =
          ap (or_kept r) (noting_full listed g.noted m.slot g.slot.batch _ refl e) ∙ sym (carried_full r bars w i j m acts g a e)
      go false e =
          ap (or_kept r) (noting_acts listed g.noted m.slot g.slot.batch (with_window listed g.sc v) xs e)
          ∙ rw (p, x) (sym (carried_acts r bars w i j m acts g a e))

  -- no slot enters Accept, and they do
  noted_still : (g : Weighed) (v : Window) → g.answer ≡ 0 → g.enters ≡ false → placed w i j g ≡ v
      → keyed g (record { answer = 0; replica = with_window listed g.sc v; actions = acts }) ≡ done g
  noted_still g v a e p =
      noted_done g v acts a
      (sym (ap (λ (t : Bool). sweep (λ k s. entered_slot (strict r.sc) m.ballot s) j (pick t w.len j) (placed w i j g)) e ∙ rw (over_self (λ k s. entered_slot (strict r.sc) m.ballot s) no_slot j (placed w i j g).slots) p))
      (sym
      (ap (λ (t : Bool). acts ++ gather (entering g) j (pick t w.len j)) e ∙ rw (gather_self (entering g) j) (append-nil acts)))

  noted_enters : (g : Weighed) → g.answer ≡ 0 → g.enters ≡ true → sc.start ≡ r.sc.start → strict sc ≡ strict r.sc
      → keyed g (record {
        answer = 0;
        replica = with_window listed g.sc (sweep (λ k s. entered_slot (strict sc) m.ballot s) j w.len (placed w i j g));
        actions = acts ++ gather (λ k. enter_acts (sc.start + k) m.ballot (slot_at (placed w i j g) k)) j w.len;
      })
      ≡ done g
  noted_enters g a e s q =
      noted_done g _ _ a
      (ap (λ (t : Bool). sweep (λ k s. entered_slot t m.ballot s) j w.len (placed w i j g)) q
      ∙ sym (ap (λ (t : Bool). sweep (λ k s. entered_slot (strict r.sc) m.ballot s) j (pick t w.len j) (placed w i j g)) e))
      (ap (λ (n : ℕ). acts ++ gather (λ k. enter_acts (n + k) m.ballot (slot_at (placed w i j g) k)) j w.len) s
      ∙ sym (ap (λ (t : Bool). acts ++ gather (entering g) j (pick t w.len j)) e))

  -- refused: the replica as it was before the table
  kept-done : (g : Weighed) (a : ℕ) → g.answer ≡ a → (a ≡ 0 → ⊥) → or_kept r (kept a listed) ≡ done g
  kept-done g a e h = rw (ne_eqb a 0 h) (rw (← e) (sym (carried_refused r bars w i j m acts g (λ z. h (sym e ∙ z)))))

  module _ (low : sc.start ≡ r.sc.start) (kind : strict sc ≡ strict r.sc) (d : Decided) where
    abbrev next : Window
    next = put_slot w i d.slot

    -- the count, by its decision
    counted_done : (e : Decided)
        → or_kept r (noting listed d.noted m.slot d.slot.batch (counted_on listed next j m.ballot acts e))
        ≡ done (weighed_count sc (slot_at w i) (slot_at w j) d e)
    unfolding counted_on
    counted_done e =
        pick_meet (λ (o : Outcome). or_kept r (noting listed d.noted m.slot d.slot.batch o)) done (not (eqb e.answer 0))
        (λ t.
        let h = eqb-false _ _ (not-true _ t) in
        ap (or_kept r) (noting_passes listed d.noted m.slot d.slot.batch (kept e.answer listed) h) ∙ kept-done _ e.answer refl h)
        (λ t.
        pick_cases
        (λ (o : Outcome).
        or_kept r (noting listed d.noted m.slot d.slot.batch o)
        ≡ done (record { answer = 0; noted = d.noted; enters = is_counted e.sc e.slot; sc = e.sc; slot = d.slot; trigger = e.slot }))
        (not (is_counted e.sc e.slot))
        (λ u. noted_still _ _ refl (not-true _ u) refl)
        (λ u. noted_enters _ refl (not-false _ u) low kind))

    -- the vote, by its decision
    voted_done : i < length w.slots → or_kept r (voted_on listed w i j peer m acts d) ≡ done (weighed_vote sc (slot_at w i) (slot_at w j) (eqb i j) (counts sc w j peer m) peer m d)
    unfolding voted_on
    voted_done h =
        let back = read_back w i j d.slot h in
        pick_meet (or_kept r) done (not (eqb d.answer 0)) (λ t. kept-done _ d.answer refl (eqb-false _ _ (not-true _ t)))
        (λ t.
        pick_meet (λ (o : Outcome). or_kept r (noting listed d.noted m.slot d.slot.batch o)) done (not (counts sc w j peer m))
        (λ u. noted_still _ _ refl refl (stored_back next j _ (sym back)))
        (λ u.
        ap (λ (x : Slot). or_kept r (noting listed d.noted m.slot d.slot.batch (counted_on listed next j m.ballot acts (decide_count sc x peer m.ballot)))) back
        ∙ counted_done _))

  pub replied_done : sc.start ≡ r.sc.start → strict sc ≡ strict r.sc → i < length w.slots
      → or_kept r (replied_on listed w i j peer m acts) ≡ carried r bars w i j m acts (weighed sc (slot_at w i) (slot_at w j) (eqb i j) (counts sc w j peer m) peer m)
  unfolding replied_on weighed noting
  replied_done low kind h =
      pick_meet (or_kept r) done (not (goes_on sc (slot_at w i) m.ballot))
      (λ t.
      noted_still (unmoved 0 sc (slot_at w i) (slot_at w j)) w refl refl
      (ap (λ (v : Window). put_slot v j (slot_at w j)) (stored_back w i _ refl) ∙ stored_back w j _ refl))
      (λ t. voted_done low kind (decide_vote sc (slot_at w i) m.ballot m.voted m.vote) h)

-- ── the code's own values ──
fallen_start : (sc : Scalars) (b : PeerBars) (peer bar : ℕ) → (with_fallen sc b peer bar).start ≡ sc.start
fallen_start sc b peer bar = ap (λ (x : Scalars). x.start) (fallen_is sc b peer bar).2

fallen_strict : (sc : Scalars) (b : PeerBars) (peer bar : ℕ) → strict (with_fallen sc b peer bar) ≡ strict sc
fallen_strict sc b peer bar = ap (λ (x : Scalars). strict x) (fallen_is sc b peer bar).2

fallen_commit : (sc : Scalars) (b : PeerBars) (peer bar : ℕ) → (with_fallen sc b peer bar).commit_bar ≡ sc.commit_bar
fallen_commit sc b peer bar = ap (λ (x : Scalars). x.commit_bar) (fallen_is sc b peer bar).2

length-noted : (r : Replica) (i j peer : ℕ) → length (noted r.sc (appended r i j) i peer).slots ≡ length r.window.slots
length-noted r i j peer = put_long (appended r i j) i _ ∙ filled_long (appended_as r j) r.window (i + 1)

-- the slot at place i and its trigger at place j: the appended window with the note, the scalars with a bar that fell, and what was weighed of them
module _ (r : Replica) (peer : ℕ) (m : Reply) (i j : ℕ) (w : Window) (fallen : Scalars) (g : Weighed) where
  pub record Weighs : Type 0 where
    pub window : w ≡ noted r.sc (appended r i j) i peer
    pub scalars : fallen ≡ with_fallen r.sc r.bars peer m.bar
    pub weighs : g ≡ weighed fallen (slot_at w i) (slot_at w j) (eqb i j) (counts fallen w j peer m) peer m
    pub here : i < length r.window.slots

  pub Weighs-read : {room : List ℕ} {book : LeaderBook} {a : Window} {s : Slot} {kind k : Bool} → PlacesFit r room i j → i < length r.window.slots
      → book ≡ new_book (number r.sc j) (slot_at r.window j).leader.endprep
      → a ≡ filled_in (appended_slot r.sc.bal_prep_sent book) r.window (i + 1) → kind ≡ strict r.sc → s ≡ noted_slot kind peer (slot_at a i) → w ≡ put_slot a i s
      → fallen ≡ with_fallen r.sc r.bars peer m.bar → k ≡ counts_in fallen w j peer m → g ≡ weighed fallen s (slot_at w j) (eqb i j) k peer m → Weighs
  Weighs-read {room} {book} {a} {s} {kind} {k} fits l b e q n p f c h =
      let grew : a ≡ appended r i j =
      e ∙ filled_in_lem _ r.window (i + 1) (omega (arith, fits.place)) ∙ ap (λ (x : LeaderBook). filled (appended_slot r.sc.bal_prep_sent x) r.window (i + 1)) b in
      let z : w ≡ noted r.sc (appended r i j) i peer = p ∙ rw (n, q, grew) in
      let short : w.len ≤ 64 = rw z (filled_most (appended_as r j) r.window (i + 1) 64 fits.within (omega (arith, fits.place))) in
      let back : slot_at w i ≡ s = rw p (put_here a i s (omega (arith, ap size grew, filled_long (appended_as r j) r.window (i + 1)))) in
      record {
        window = z;
        scalars = f;
        weighs = h ∙ rw (back, c ∙ counts_in_lem fallen w j peer m short (omega (arith, fits.trigger, fits.within)));
        here = l;
      }

  module _ (e : Weighs) where
    remains : WeighedRemains fallen (slot_at w i) (slot_at w j) (eqb i j) (counts fallen w j peer m) peer m (λ z. ap (λ (k : ℕ). (slot_at w k).status) (eqb-true i j z)) g
    remains = rw e.weighs (weighed_remains fallen (slot_at w i) (slot_at w j) (eqb i j) (counts fallen w j peer m) peer m (λ z. ap (λ (k : ℕ). (slot_at w k).status) (eqb-true i j z)))

    -- the sweep into Accept has room
    enter_fits : {room mid : List ℕ} {k to : ℕ} → PlacesFit r room i j → to ≡ swept_to w j g → k ≡ 0 + (i + 1 - r.window.len) → 3456 ≤ length mid
        → Ranged j to k mid r.sc.start
    enter_fits {room} {mid} {k} {to} f t n l =
        let a : w.len ≤ 64 = rw e.window (filled_most (appended_as r j) r.window (i + 1) 64 f.within (omega (arith, f.place))) in
        let b : r.window.len ≤ w.len = rw e.window (filled_low (appended_as r j) r.window (i + 1)) in
        let lo : j ≤ swept_to w j g = pick_both (λ (x : ℕ). j ≤ x) g.enters (omega (arith, f.trigger)) (omega arith) in
        let hi : swept_to w j g ≤ 64 = pick_both (λ (x : ℕ). x ≤ 64) g.enters a (omega (arith, f.trigger, f.within)) in
        record { ordered = omega arith; within = omega arith; places = omega (arith, f.place, f.trigger); long = l; low = f.low }

    reply_carried : reply_at r peer m i j ≡ carried r (with_bar r.sc r.bars peer m.bar) w i j m (append_acts r i) g
    unfolding reply_at
    reply_carried =
        replied_done r (with_fallen r.sc r.bars peer m.bar) (with_bar r.sc r.bars peer m.bar) (noted r.sc (appended r i j) i peer) i j peer m (append_acts r i) (fallen_start r.sc r.bars peer m.bar)
        (fallen_strict r.sc r.bars peer m.bar) (omega (arith, e.here, length-noted r i j peer))
        ∙ rw (e.weighs, e.scalars, e.window)

    pub reply_refused : (g.answer ≡ 0 → ⊥) → reply_at r peer m i j ≡ kept g.answer r
    reply_refused h = reply_carried ∙ carried_refused r _ w i j m _ g h

    pub reply_full : {b : Bool} → g.answer ≡ 0 → b ≡ (g.noted && overfull r.keys g.slot.batch) → b ≡ true → reply_at r peer m i j ≡ kept 7 r
    reply_full a f h = reply_carried ∙ carried_full r _ w i j m _ g a (sym f ∙ h)

    -- the slots are appended in Preparing, the two that are put have the status that they had: only those that enter Accept count anew
    placed-Sums : {room : List ℕ} → PlacesFit r room i j → Sums r.sc (placed w i j g) r.summary
    placed-Sums f =
        let cb : r.sc.commit_bar - r.sc.start ≤ r.window.len = omega (arith, f.commit_high) in
        let a : Sums r.sc w r.summary =
        rw e.window
        (Sums-put_like r.sc (appended r i j) r.summary i (noted_slot (strict r.sc) peer (slot_at (appended r i j) i)) refl
        (Sums-filled r.sc (appended_as r j) r.window (i + 1) r.summary (omega arith) cb f.sum)) in
        let x = remains in
        let b = Sums-put_like r.sc w r.summary i g.slot x.slot.status a in
        Sums-put_like r.sc (put_slot w i g.slot) r.summary j g.trigger (x.trigger ∙ sym (put_status w i g.slot x.slot.status j)) b

    reply_sums : {room : List ℕ} {to low more : ℕ} → PlacesFit r room i j → to ≡ swept_to w j g → low ≡ larger j (r.sc.commit_bar - r.sc.start)
        → more ≡ counted_in (placed w i j g) 1 low to
        → Sums g.sc (sweep (λ n s. entered_slot (strict r.sc) m.ballot s) j (swept_to w j g) (placed w i j g)) (record { first = r.summary.first; accepting = r.summary.accepting + more })
    reply_sums {room} {to} {low} {more} f t q n =
        let x = remains.slot in
        let a : w.len ≤ 64 = rw e.window (filled_most (appended_as r j) r.window (i + 1) 64 f.within (omega (arith, f.place))) in
        let b : r.window.len ≤ w.len = rw e.window (filled_low (appended_as r j) r.window (i + 1)) in
        let hi : swept_to w j g ≤ w.len = pick_both (λ (y : ℕ). y ≤ w.len) g.enters (omega arith) (omega (arith, f.trigger)) in
        Sums-steady r.sc g.sc _ _ (x.start ∙ ap (λ (y : Scalars). y.start) e.scalars ∙ fallen_start r.sc r.bars peer m.bar)
        (x.commit ∙ ap (λ (y : Scalars). y.commit_bar) e.scalars ∙ fallen_commit r.sc r.bars peer m.bar)
        (Sums-entered (strict r.sc) m.ballot r.sc (placed w i j g) r.summary j (swept_to w j g) refl (placed-Sums f) (omega (arith, f.commit_high)) hi
        (n ∙ counted_in_lem (placed w i j g) 1 low to (omega arith) ∙ rw (q, t)))

    -- both counts are of at most 64 slots
    pub more_few : {room : List ℕ} {to more : ℕ} (low : ℕ) → PlacesFit r room i j → to ≡ swept_to w j g → more ≡ counted_in (placed w i j g) 1 low to
        → r.summary.accepting + more ≤ 128
    more_few {room} {to} {more} low f t n =
        let l : w.len ≤ 64 = rw e.window (filled_most (appended_as r j) r.window (i + 1) 64 f.within (omega (arith, f.place))) in
        let hi : swept_to w j g ≤ 64 = pick_both (λ (y : ℕ). y ≤ 64) g.enters l (omega (arith, f.trigger, f.within)) in
        omega (arith, n ∙ counted_in_lem (placed w i j g) 1 low to (omega arith), how_many_few (has_status (placed w i j g) 1) low to, Sums-few f.sum f.within)

    pub reply_told : {room mid after : List ℕ} {k to low more : ℕ} {p : Placed} {b : Bool} {kind : Bool} {bars : PeerBars} {keys : KeyTable} → PlacesFit r room i j → g.answer ≡ 0
        → b ≡ (g.noted && overfull r.keys g.slot.batch) → b ≡ false
        → PromisesIn r.window.len (i + 1) 0 r.sc.start r.sc.bal_prep_sent room k mid → to ≡ swept_to w j g → kind ≡ strict r.sc
        → SweptIn (λ n s. entered_slot kind m.ballot s) (λ n s. enter_acts (r.sc.start + n) m.ballot s) j to k r.sc.start (placed w i j g) mid p after
        → bars ≡ with_bar r.sc r.bars peer m.bar → keys ≡ pick g.noted (refresh m.slot g.slot.batch r.keys) r.keys
        → low ≡ larger j (r.sc.commit_bar - r.sc.start) → more ≡ counted_in (placed w i j g) 1 low to
        → Told (summed (reply_at r peer m i j))
        (record { answer = 0; count = p.next; replica = record { sc = g.sc; bars = bars; window = p.window; keys = keys; reads = r.reads; summary = record { first = r.summary.first; accepting = r.summary.accepting + more } } }) room after
    reply_told {room} {mid} {after} {k} {to} {low} {more} {p} {b} {kind} {bars} {keys} fits a f h x' t q y' u v lo n' =
        let first = append_acts r i in
        let x = promised_in r.sc.start r.sc.bal_prep_sent r.window.len (i + 1) 0 room k mid x' (omega (arith, fits.place)) (omega (arith, fits.place)) fits.long fits.low in
        let many = promises_many r.sc.start r.sc.bal_prep_sent r.window.len (i + 1) in
        let l : length mid ≡ length room = ap length x.written ∙ length_write room 0 first (omega (arith, many, fits.place, fits.long)) in
        let y = swept_in y' (enter_fits fits t x.next (omega (arith, fits.long))) in
        let second = entered_acts r (with_bar r.sc r.bars peer m.bar) w i j m first g in
        let z = rw (t, q) at y in
        let n : k ≡ 0 + length first = omega (arith, x.next, many) in
        acted {o = reply_at r peer m i j} (first ++ second) (record { sc = g.sc; bars = bars; window = p.window; keys = keys; reads = r.reads; summary = r.summary })
        (record { first = r.summary.first; accepting = r.summary.accepting + more }) p.next refl (z.next ∙ sym (length-append first second ∙ omega arith))
        (write_then room mid after first second 0 k (omega arith) n x.written z.written)
        (reply_carried ∙ carried_acts r _ w i j m first g a (sym f ∙ h) ∙ rw (z.window, u, v)) (rw z.window (reply_sums fits t lo n'))

    -- no quorum: the two slots are put, no slot enters Accept, and the summary stands
    pub reply_still : {room mid : List ℕ} {k : ℕ} {b : Bool} {bars : PeerBars} {keys : KeyTable} → PlacesFit r room i j → g.answer ≡ 0
        → b ≡ (g.noted && overfull r.keys g.slot.batch) → b ≡ false
        → PromisesIn r.window.len (i + 1) 0 r.sc.start r.sc.bal_prep_sent room k mid → g.enters ≡ false
        → bars ≡ with_bar r.sc r.bars peer m.bar → keys ≡ pick g.noted (refresh m.slot g.slot.batch r.keys) r.keys
        → Told (summed (reply_at r peer m i j))
        (record { answer = 0; count = k; replica = record { sc = g.sc; bars = bars; window = placed w i j g; keys = keys; reads = r.reads; summary = r.summary } }) room mid
    reply_still {room} {mid} {k} {b} {bars} {keys} fits a f h x q u v =
        let from = larger j (r.sc.commit_bar - r.sc.start) in
        let none : 0 ≡ counted_in (placed w i j g) 1 from j =
        sym (counted_in_lem (placed w i j g) 1 from j (omega (arith, fits.trigger, fits.within)) ∙ how_many_none (has_status (placed w i j g) 1) from j (larger_left j _)) in
        let same : record { first = r.summary.first; accepting = r.summary.accepting + 0 } ≡ r.summary = rw (add-zero r.summary.accepting) in
        let told =
        reply_told {p = record { next = k; window = placed w i j g }} fits a f h x (swept_end w j g q) refl
        (swept_self (λ n s. entered_slot (strict r.sc) m.ballot s) (λ n s. enter_acts (r.sc.start + n) m.ballot s) j k r.sc.start (placed w i j g) mid) u v refl none in
        rw same at told

-- ── the tests before it ──
-- the tests from the ballot on, each where those before it have passed
abbrev pub book_at : Replica → Reply → Bool
book_at r m = (slot_at r.window (place r.sc m.trigger)).leader.present

module _ (r : Replica) (peer : ℕ) (m : Reply) where
  abbrev tested : Bool → Bool → Bool → Bool → Bool → Bool → Outcome
  tested a b c d e f =
      pick (not a) (kept 0 r)
      (pick (not b) (kept 4 r)
      (pick c (kept 0 r)
      (pick (not d) (kept 6 r)
      (pick (not e) (kept 0 r) (pick f (kept 5 r) (reply_at r peer m (place r.sc m.slot) (place r.sc m.trigger)))))))

  on_tested : (a b c d e f : Bool) → eqb m.ballot r.sc.bal_prep_sent ≡ a → leads r.sc ≡ b → is_elsewhere r.sc m ≡ c → in_range r m ≡ d → book_at r m ≡ e
      → leb (r.sc.start + 64) m.slot ≡ f → reply_on r peer m ≡ tested a b c d e f
  unfolding reply_on reply_at
  on_tested a b c d e f p q o s t u = rw (← p, ← q, ← o, ← s, ← t, ← u)

  pub on_other : (m.ballot ≡ r.sc.bal_prep_sent → ⊥) → reply_on r peer m ≡ kept 0 r
  on_other h = on_tested false _ _ _ _ _ (ne_eqb _ _ h) refl refl refl refl refl

  module _ (p : m.ballot ≡ r.sc.bal_prep_sent) where
    pub on_follower : leads r.sc ≡ false → reply_on r peer m ≡ kept 4 r
    on_follower h = on_tested true false _ _ _ _ (eq-eqb _ _ p) h refl refl refl refl

    module _ (q : leads r.sc ≡ true) where
      pub on_elsewhere : is_elsewhere r.sc m ≡ true → reply_on r peer m ≡ kept 0 r
      on_elsewhere h = on_tested true true true _ _ _ (eq-eqb _ _ p) q h refl refl refl

      module _ (o : is_elsewhere r.sc m ≡ false) where
        pub on_outside : in_range r m ≡ false → reply_on r peer m ≡ kept 6 r
        on_outside h = on_tested true true false false _ _ (eq-eqb _ _ p) q o h refl refl

        module _ (s : in_range r m ≡ true) where
          pub on_bookless : book_at r m ≡ false → reply_on r peer m ≡ kept 0 r
          on_bookless h = on_tested true true false true false _ (eq-eqb _ _ p) q o s h refl

          module _ (t : book_at r m ≡ true) where
            pub on_past : r.sc.start + 64 ≤ m.slot → reply_on r peer m ≡ kept 5 r
            on_past h = on_tested true true false true true true (eq-eqb _ _ p) q o s t (le-leb _ _ h)

            pub on_at : m.slot < r.sc.start + 64 → reply_on r peer m ≡ reply_at r peer m (place r.sc m.slot) (place r.sc m.trigger)
            on_at h = on_tested true true false true true false (eq-eqb _ _ p) q o s t (lt-leb _ _ h)

-- the places of the slot and of its trigger
pub places_fit : (r : Replica) (room : List ℕ) (m : Reply) → ReplyFits r room m → InLog r.sc.start r.window.len m → m.slot < r.sc.start + 64
    → PlacesFit r room (m.slot - r.sc.start) (m.trigger - r.sc.start)
places_fit r room m f g h =
    record {
      long = f.long;
      low = f.low;
      within = f.within;
      place = omega (arith, f.from);
      trigger = omega (arith, g.from, g.below);
      commit_low = f.commit_low;
      commit_high = f.commit_high;
      sum = f.sum;
    }

-- the call's own tests
made_answer : (b : Batch) → eqb (make_batch b.id b.count b.keys).answer 0 ≡ is_batch b.id b.count
unfolding make_batch
made_answer b = pick_cases (λ (x : Made). eqb x.answer 0 ≡ is_batch b.id b.count) (is_batch b.id b.count) (λ t. sym t) (λ t. sym t)

-- the code's tests of the batch of a vote, which it makes or finds to be none
pub vote_refused : (v : Bool) (o : Option Batch) → v ≡ true → is_some o ≡ false → true ≡ (v && not (eqb (made o).answer 0))
vote_refused v None p q = rw p
vote_refused v (Some b) p q = absurd (clash refl q)

pub vote_passed : (v : Bool) (o : Option Batch) → (v ≡ false) ⊎ (is_some o ≡ true) → false ≡ (v && not (eqb (made o).answer 0))
vote_passed v None (inl p) = rw p
vote_passed v None (inr q) = absurd (clash q refl)
vote_passed true (Some b) p = refl
vote_passed false (Some b) p = refl

pub made_or : (o : Option Batch) (none : Batch) → none ≡ empty_batch → unwrap_or o none ≡ (made o).batch
made_or None none e = e
made_or (Some b) none e = refl

module _ (r : Replica) (room peer : ℕ) (m : Reply) where
  abbrev pub reply_tested : Outcome
  reply_tested =
      pick (m.voted && not (is_batch m.vote.batch.id m.vote.batch.count)) (kept 10 r)
      (pick (ltb m.slot r.sc.start) (kept 0 r) (reply_on r peer (clean_reply m)))

  pub reply_gate : prepare_reply_step r room peer m ≡ pick (not (eqb (from_peer r room peer) 0)) (kept (from_peer r room peer) r) reply_tested
  unfolding prepare_reply_step
  reply_gate = gate_peer r room peer reply_tested

  module _ {made : Made} {bad : Bool} (e : made ≡ make_batch m.vote.batch.id m.vote.batch.count m.vote.batch.keys) (f : bad ≡ (m.voted && not (eqb made.answer 0))) where
    vote_tested : (m.voted && not (is_batch m.vote.batch.id m.vote.batch.count)) ≡ bad
    vote_tested = sym (f ∙ rw (e, made_answer m.vote.batch))

    pub reply_bad : bad ≡ true → reply_tested ≡ kept 10 r
    reply_bad h = rw (vote_tested, h)

    module _ (h : bad ≡ false) where
      pub reply_below : m.slot < r.sc.start → reply_tested ≡ kept 0 r
      reply_below l = rw (vote_tested, h, lt-ltb m.slot r.sc.start l)

      pub reply_goes : {n : Reply} → n ≡ with_voted m made.batch → r.sc.start ≤ m.slot → reply_tested ≡ reply_on r peer n
      reply_goes g l = rw (vote_tested, h, le-ltb m.slot r.sc.start l, g, e)

  pub reply_fits : {lent : List ℕ} {b : Batch} {n : Reply} → from_peer r (length lent) peer ≡ 0 → n ≡ with_voted m b → r.sc.start ≤ m.slot → ReplyFits r lent n
  reply_fits {lent} {b} {n} e f l =
      let a = (peer_facts r (length lent) peer e).facts in
      record {
        long = a.long;
        low = a.low;
        within = a.within;
        from = omega (arith, ap (λ (x : Reply). x.slot) f);
        commit_low = omega (arith, a.exec_low, a.exec_high);
        commit_high = a.commit_high;
        sum = a.sum;
      }
