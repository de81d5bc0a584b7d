-- The laws of Prepare, Accept and AcceptReply: one for each way out, in sections that add one fact each.
use Rattle.std.proofs.Math.Path.{◌≡◌, refl, sym, ap}
use Rattle.std.proofs.Common.{◌∙◌, zero-add, arith, length-append, lt-ltb, le-ltb, le-leb, eq-eqb, ne_eqb}
use Rattle.std.specs.Prelude.{Bool, true, false, not, ℕ, ◌+◌, ◌-◌, ◌≤◌, ◌<◌, ltb, leb, eqb}
use mathlib.Core.List.{List, [], ◌∷◌, ◌++◌}
use Rattle.std.proofs.Math.ListN.{length}
use Rattle.std.proofs.lemmas.Bool.{lt-leb}
use Rattle.base.specs.Pick.{pick, pick_cases, larger, larger_left, larger_right, larger_below}
use Rattle.base.specs.Gather.{gather}
use Rattle.base.specs.Find.{any}
use Rattle.batch.specs.declared.Batch.{Batch}
use Rattle.batch.specs.Batches.{Made}
use Rattle.batch.specs.Batches.{is_batch, make_batch}
use Rattle.actions.specs.declared.Action.TheVariants.{StatusDown}
use Rattle.actions.specs.Actions.{Act, bare, put_act}
use Rattle.actions.specs.Laws.{write_none, write_then, put_in}
use Rattle.slots.specs.declared.ReplicaBook.{ReplicaBook}
use Rattle.slots.specs.Slots.{prepared_slot, null_slot}
use Rattle.decide.specs.declared.Scalars.{Scalars}
use Rattle.decide.specs.Decide.{Decided}
use Rattle.decide.specs.Scalars.{strict, followed, steps_down}
use Rattle.decide.specs.Decide.{decide_accept, decide_accept_reply}
use Rattle.decide.specs.Laws.{Steady, Steady-followed, Settles-accept, Settles-reply}
use Rattle.window.specs.declared.Window.{Window}
use Rattle.window.specs.declared.Placed.{Placed}
use Rattle.window.specs.declared.Summary.{Summary}
use Rattle.window.specs.Window.{slot_at, grown, last_used}
use Rattle.window.specs.Acts.{promise}
use Rattle.window.specs.Sweeps.{Swept}
use Rattle.window.specs.Bounded.{filled_in}
use Rattle.window.specs.BoundedLaws.{filled_in_lem}
use Rattle.window.specs.Places.{filled_has, filled_most}
use Rattle.window.specs.Laws.{last_used_within}
use Rattle.window.specs.Kept.{prepared_from, counted_in}
use Rattle.window.specs.KeptLaws.{counted_in_lem}
use Rattle.window.specs.SummaryLaws.{Sums, Sums-steady, Sums-filled, Sums-prepared, unused_null}
use Rattle.replica.specs.declared.Replica.{Replica}
use Rattle.replica.specs.Record.{Outcome, kept, settled, summed, with_window, place, number, log_end}
use Rattle.replica.specs.Messages.{clean, down_acts, prepare_top, prepare_on, accept_on, accept_step, accept_reply_step}
use Rattle.replica.specs.Step.{Told}
use Rattle.replica.specs.Admit.{from_peer, from_owner}
use Rattle.replica.specs.AdmitLaws.{gate_owner, gate_peer, gate_shut, gate_open, Ready}
use Rattle.replica.specs.Acting.{SettleFits}
use Rattle.replica.specs.ActingLaws.{acted, with_summary}
use Rattle.replica.specs.MessageFits.{WroteDown, PrepareFits}

-- ── a leader that steps down says so first ──

module _ (sc : Scalars) (ballot : ℕ) (room : List ℕ) where
  pub down_none : steps_down sc ballot ≡ false → WroteDown sc ballot room 0 room
  down_none e =
      let none : down_acts sc ballot ≡ [] = ap (λ (t : Bool). pick t (bare StatusDown ∷ []) []) e in
      record { next = rw none; few = omega arith; written = rw (none, write_none room 0) }

  pub down_one : (after : List ℕ) → steps_down sc ballot ≡ true → 3456 ≤ length room → after ≡ put_act room 0 (bare StatusDown) → WroteDown sc ballot room 1 after
  down_one after e l p =
      let one : down_acts sc ballot ≡ bare StatusDown ∷ [] = ap (λ (t : Bool). pick t (bare StatusDown ∷ []) []) e in
      record { next = rw one; few = omega arith; written = rw one (p ∙ put_in room 0 (bare StatusDown) (omega arith) l) }

-- ── Prepare ──

-- where the sender may send
abbrev pub prepare_from : Replica → ℕ → ℕ → ℕ → Outcome
prepare_from r peer trigger ballot =
    pick (ltb trigger r.sc.start) (kept 0 r)
    (pick (ltb ballot r.sc.bal_max_seen) (kept 0 r)
    (pick (leb (r.sc.start + 64) trigger) (kept 5 r)
    (prepare_on r (grown r.window (place r.sc trigger + 1)) (place r.sc trigger) peer ballot)))

-- the window as the code has it, grown to the trigger's place
pub grown_fits : {v : Window} (w : Window) (n : ℕ) → v ≡ filled_in null_slot w n → w.len ≤ 64 → n ≤ 64 → v.len ≤ 64
grown_fits w n e h q = rw (e, filled_in_lem null_slot w n q) (filled_most null_slot w n 64 h q)

-- the summary is the walk of the log grown with null slots, too
pub grown_sums : {v : Window} (r : Replica) (n room : ℕ) → Ready r room → v ≡ filled_in null_slot r.window n → n ≤ 64 → Sums r.sc v r.summary
grown_sums r n room f e h =
    rw (e, filled_in_lem null_slot r.window n h) (Sums-filled r.sc null_slot r.window n r.summary (omega arith) (omega (arith, f.commit_high)) f.sum)

pub grown_has : {v : Window} (w : Window) (i : ℕ) → v ≡ filled_in null_slot w (i + 1) → i < 64 → i < v.len
grown_has w i e h = rw (e, filled_in_lem null_slot w (i + 1) (omega arith)) (omega (arith, filled_has null_slot w (i + 1)))

pub prepare_fits : {v : Window} (r : Replica) (from : ℕ) (room : List ℕ) → Ready r (length room) → v ≡ filled_in null_slot r.window (from + 1) → from < 64
    → PrepareFits r v from room
prepare_fits r from room f e h =
    record {
      low = f.low;
      within = grown_fits r.window (from + 1) e f.within (omega arith);
      inside = h;
      here = grown_has r.window from e h;
      long = f.long;
      commit = omega (arith, f.exec_low, f.exec_high);
      sum = grown_sums r (from + 1) (length room) f e (omega arith);
    }

-- the last place that it covers, as the code has it
pub top_within : (w : Window) (from last top : ℕ) → last ≡ last_used w → top ≡ larger from last → w.len ≤ 64 → from < 64 → (from ≤ top) × (top < 64)
top_within w from last top e f h q =
    (rw f (larger_left from last), rw f (larger_below from last 64 q (rw e (last_used_within w h))))

-- the slots that it covers end at `top`
abbrev pub book_to : Scalars → ℕ → ℕ → ℕ → ReplicaBook
book_to sc from top peer = record { present = true; source = peer; trigger = number sc from; endprep = number sc top }

module _ (r : Replica) (w : Window) (from peer ballot top : ℕ) (e : top ≡ prepare_top w from) (b : Bool)
    (f : b ≡ any (λ i. ltb ballot (slot_at w i).ballot) from (top + 1)) where
  pub prepare_above : b ≡ true → prepare_on r w from peer ballot ≡ kept 6 r
  unfolding prepare_on
  prepare_above h = rw (← e, ← f, h)

  -- as the code has it: the report, then the sweep from the place after it; the summary
  pub prepare_told : {room mid after : List ℕ} {k below : ℕ} {p : Placed} {sc : Scalars} {u : Summary} {kind : Bool} → kind ≡ strict r.sc → PrepareFits r w from room → b ≡ false → WroteDown r.sc ballot room k mid
      → Swept (λ i s. prepared_slot kind ballot (book_to r.sc from top peer) s) (λ i s. promise (number r.sc i) ballot ∷ []) from (top + 1) k w mid p after
      → sc ≡ followed r.sc peer ballot → below ≡ counted_in w 2 (r.sc.commit_bar - r.sc.start) from → u ≡ prepared_from kind r.summary (r.sc.start + from) below
      → Told (summed (prepare_on r w from peer ballot)) (record { answer = 0; count = p.next; replica = with_summary (with_window r sc p.window) u }) room after
  unfolding prepare_on
  prepare_told {room} {mid} {after} {k} {below} {p} {sc} {u} {kind} z fits h d s q n v =
      let down : List Act = down_acts r.sc ballot in
      let rest : List Act = gather (λ i. promise (number r.sc i) ballot ∷ []) from (top + 1) in
      acted (down ++ rest) (with_window r sc p.window) u p.next refl
      (s.next ∙ ap (λ (x : ℕ). x + length rest) d.next ∙ sym (length-append down rest))
      (write_then room mid after down rest 0 k (omega arith) (d.next ∙ sym (zero-add (length down))) d.written s.written)
      (rw (← e, ← f, h, s.window, q, z)) after_sums
    where
      steady : Steady r.sc sc
      steady = rw q (Steady-followed r.sc peer ballot)

      past : (j : ℕ) → top + 1 ≤ j → j < w.len → (slot_at w j).status < 2
      past j a l = unused_null w j (omega (arith, larger_right from (last_used w))) l

      after_sums : Sums sc p.window u
      after_sums =
          Sums-steady r.sc sc p.window u steady.start steady.commit
          (rw (s.window, v)
          (Sums-prepared r.sc w r.summary kind ballot (book_to r.sc from top peer) from (top + 1) fits.sum (omega (arith, larger_left from (last_used w))) fits.here past
          (n ∙ counted_in_lem w 2 (r.sc.commit_bar - r.sc.start) from (omega (arith, fits.inside)))))

-- ── Accept ──

-- 10: a batch is made of its numbers, or is none
module _ (b : Batch) (m : Made) (e : m ≡ make_batch b.id b.count b.keys) where
  pub batch_none : (m.answer ≡ 0 → ⊥) → is_batch b.id b.count ≡ false
  unfolding make_batch
  batch_none h =
      pick_cases (λ (x : Made). m ≡ x → is_batch b.id b.count ≡ false) (is_batch b.id b.count)
      (λ t q. absurd (h (ap (λ (x : Made). x.answer) q))) (λ t q. t) e

  pub batch_some : m.answer ≡ 0 → is_batch b.id b.count ≡ true
  unfolding make_batch
  batch_some h =
      pick_cases (λ (x : Made). m ≡ x → is_batch b.id b.count ≡ true) (is_batch b.id b.count) (λ t q. t)
      (λ t q. let z : ◌≡◌ {A = ℕ} 10 0 = sym (ap (λ (x : Made). x.answer) q) ∙ h in absurd (omega arith)) e

-- where the batch is one
abbrev accept_from : Replica → ℕ → ℕ → ℕ → Batch → Outcome
accept_from r peer slot ballot b =
    pick (ltb slot r.sc.start) (kept 0 r)
    (pick (ltb ballot r.sc.bal_max_seen) (kept 0 r)
    (pick (leb (r.sc.start + 64) slot) (kept 5 r)
    (accept_on r (grown r.window (place r.sc slot + 1)) (place r.sc slot) peer slot ballot b)))

-- where the sender may send
abbrev accept_made : Replica → ℕ → ℕ → ℕ → Batch → Outcome
accept_made r peer slot ballot b = pick (not (is_batch b.id b.count)) (kept 10 r) (accept_from r peer slot ballot (clean b))

module _ (r : Replica) (n peer slot ballot : ℕ) (b : Batch) (first : ℕ) (e : first ≡ from_owner r n peer ballot) where
  pub accept_shut : (first ≡ 0 → ⊥) → accept_step r n peer slot ballot b ≡ kept first r
  unfolding accept_step
  accept_shut h =
      gate_shut (from_owner r n peer ballot) first r (accept_made r peer slot ballot b) (gate_owner r n peer ballot (accept_made r peer slot ballot b)) e h

  module _ (z : first ≡ 0) (m : Made) (k : m ≡ make_batch b.id b.count b.keys) where
    accept_open : accept_step r n peer slot ballot b ≡ accept_made r peer slot ballot b
    unfolding accept_step
    accept_open =
        gate_open (from_owner r n peer ballot) first r (accept_made r peer slot ballot b) (gate_owner r n peer ballot (accept_made r peer slot ballot b)) e z

    pub accept_unmade : (m.answer ≡ 0 → ⊥) → accept_step r n peer slot ballot b ≡ kept 10 r
    accept_unmade h =
        accept_open
        ∙ ap (λ (t : Bool). pick (not t) (kept 10 r) (accept_from r peer slot ballot (clean b)))
        (batch_none b m k h)

    module _ (y : m.answer ≡ 0) where
      accept_step-accept_from : accept_step r n peer slot ballot b ≡ accept_from r peer slot ballot m.batch
      accept_step-accept_from =
          accept_open
          ∙ ap (λ (t : Bool). pick (not t) (kept 10 r) (accept_from r peer slot ballot (clean b)))
          (batch_some b m k y)
          ∙ ap (λ (x : Made). accept_from r peer slot ballot x.batch) (sym k)

      pub accept_below : slot < r.sc.start → accept_step r n peer slot ballot b ≡ kept 0 r
      accept_below h = accept_step-accept_from ∙ rw (lt-ltb slot r.sc.start h)

      module _ (f : r.sc.start ≤ slot) where
        pub accept_old : ballot < r.sc.bal_max_seen → accept_step r n peer slot ballot b ≡ kept 0 r
        accept_old h = accept_step-accept_from ∙ rw (le-ltb slot r.sc.start f, lt-ltb ballot r.sc.bal_max_seen h)

        module _ (g : r.sc.bal_max_seen ≤ ballot) where
          pub accept_past : r.sc.start + 64 ≤ slot → accept_step r n peer slot ballot b ≡ kept 5 r
          accept_past h =
              accept_step-accept_from ∙ rw (le-ltb slot r.sc.start f, le-ltb ballot r.sc.bal_max_seen g, le-leb (r.sc.start + 64) slot h)

          pub accept_goes : (w : Window) (d : Decided) → slot < r.sc.start + 64 → w ≡ filled_in null_slot r.window (place r.sc slot + 1)
              → d ≡ decide_accept r.sc (slot_at w (place r.sc slot)) peer slot ballot m.batch
              → accept_step r n peer slot ballot b ≡ settled r w (place r.sc slot) slot d
          accept_goes w d h q v =
              accept_step-accept_from
              ∙ rw (le-ltb slot r.sc.start f, le-ltb ballot r.sc.bal_max_seen g, lt-leb (r.sc.start + 64) slot h, ← filled_in_lem null_slot r.window (place r.sc slot + 1) (omega arith), ← q, ← v)

-- one slot of the log, which is grown to have it
pub accept_fits : {v : Window} {d : Decided} (r : Replica) (i peer slot ballot : ℕ) (b : Batch) (room : List ℕ) → Ready r (length room) → v ≡ filled_in null_slot r.window (i + 1)
    → i < 64 → slot ≡ r.sc.start + i → d ≡ decide_accept r.sc (slot_at v i) peer slot ballot b → SettleFits r v i slot d room
accept_fits {v} {d} r i peer slot ballot b room f e h n q =
    record {
      low = h;
      long = f.long;
      within = grown_fits r.window (i + 1) e f.within (omega arith);
      here = grown_has r.window i e h;
      named = n;
      start = f.low;
      commit = omega (arith, f.exec_low, f.exec_high);
      settles = rw q (Settles-accept r.sc (slot_at v i) peer slot ballot b);
      sum = grown_sums r (i + 1) (length room) f e (omega arith);
    }

-- ── AcceptReply ──
pub accept_reply_fits : {d : Decided} (r : Replica) (i peer slot ballot : ℕ) (room : List ℕ) → Ready r (length room) → i < r.window.len → slot ≡ r.sc.start + i
    → d ≡ decide_accept_reply r.sc (slot_at r.window i) peer slot ballot → SettleFits r r.window i slot d room
accept_reply_fits {d} r i peer slot ballot room f h n q =
    record {
      low = omega (arith, f.within);
      long = f.long;
      within = f.within;
      here = h;
      named = n;
      start = f.low;
      commit = omega (arith, f.exec_low, f.exec_high);
      settles = rw q (Settles-reply r.sc (slot_at r.window i) peer slot ballot);
      sum = f.sum;
    }

abbrev accept_reply_from : Replica → ℕ → ℕ → ℕ → Outcome
accept_reply_from r peer slot ballot =
    pick (ltb slot r.sc.start) (kept 0 r)
    (pick (not (eqb ballot r.sc.bal_prepared)) (kept 0 r)
    (pick (leb (log_end r) slot) (kept 4 r)
    (settled r r.window (place r.sc slot) slot (decide_accept_reply r.sc (slot_at r.window (place r.sc slot)) peer slot ballot))))

module _ (r : Replica) (n peer slot ballot first : ℕ) (e : first ≡ from_peer r n peer) where
  pub accept_reply_shut : (first ≡ 0 → ⊥) → accept_reply_step r n peer slot ballot ≡ kept first r
  unfolding accept_reply_step
  accept_reply_shut h =
      gate_shut (from_peer r n peer) first r (accept_reply_from r peer slot ballot) (gate_peer r n peer (accept_reply_from r peer slot ballot)) e h

  module _ (z : first ≡ 0) where
    accept_reply_open : accept_reply_step r n peer slot ballot ≡ accept_reply_from r peer slot ballot
    unfolding accept_reply_step
    accept_reply_open =
        gate_open (from_peer r n peer) first r (accept_reply_from r peer slot ballot) (gate_peer r n peer (accept_reply_from r peer slot ballot)) e z

    pub accept_reply_below : slot < r.sc.start → accept_reply_step r n peer slot ballot ≡ kept 0 r
    accept_reply_below h = accept_reply_open ∙ rw (lt-ltb slot r.sc.start h)

    module _ (f : r.sc.start ≤ slot) where
      pub accept_reply_other : (ballot ≡ r.sc.bal_prepared → ⊥) → accept_reply_step r n peer slot ballot ≡ kept 0 r
      accept_reply_other h = accept_reply_open ∙ rw (le-ltb slot r.sc.start f, ne_eqb ballot r.sc.bal_prepared h)

      module _ (g : ballot ≡ r.sc.bal_prepared) where
        pub accept_reply_past : log_end r ≤ slot → accept_reply_step r n peer slot ballot ≡ kept 4 r
        accept_reply_past h =
            accept_reply_open ∙ rw (le-ltb slot r.sc.start f, eq-eqb ballot r.sc.bal_prepared g, le-leb (log_end r) slot h)

        pub accept_reply_goes : (d : Decided) → slot < log_end r
            → d ≡ decide_accept_reply r.sc (slot_at r.window (place r.sc slot)) peer slot ballot
            → accept_reply_step r n peer slot ballot ≡ settled r r.window (place r.sc slot) slot d
        accept_reply_goes d h v =
            accept_reply_open
            ∙ rw (le-ltb slot r.sc.start f, eq-eqb ballot r.sc.bal_prepared g, lt-leb (log_end r) slot h, ← v)
