-- A timeout and a CommitNotice keep to the frame.
use Rattle.std.specs.Prelude.{◌≡◌, refl, true, false, List, [], ◌∷◌, ◌++◌, ◌⊎◌, ℕ, ◌+◌, ◌≤◌, ◌<◌, ltb, leb}
use Rattle.std.proofs.Common.{sym, ◌∙◌, subst, inl, inr, arith}
use mathlib.Core.List.Memᴰ
use borrow.Author.Tests.{ltb-true, ltb-false, leb-true}
use Rattle.base.specs.Pick.{pick_both, pick_cases, decide, tests, and_both}
use Rattle.base.specs.Gather.{gather, All-gather, in_gather}
use Rattle.base.specs.Scan.{scan_high, scan_passed}
use Rattle.base.specs.Among.{◌∈◌, All, All-append}
use Rattle.members.specs.Ballots.{ballot_above}
use Rattle.members.specs.Laws.{Next-given}
use Rattle.actions.specs.declared.Action.TheVariants.{Prepare, Heartbeat, StatusUp}
use Rattle.actions.specs.Actions.{Act, bare}
use Rattle.slots.specs.declared.Slot.{Slot}
use Rattle.slots.specs.Slots.{accepting, committed, executed, new_book, redone_slot, marked_slot, with_external, null_slot}
use Rattle.decide.specs.declared.Scalars.{Scalars}
use Rattle.decide.specs.Scalars.{stepped_up}
use Rattle.window.specs.declared.Window.{Window}
use Rattle.window.specs.Window.{slot_at, sweep, first_open, may_mark, mark_stop}
use Rattle.window.specs.Acts.{redo_acts, mark_acts}
use Rattle.window.specs.Places.{filled_has, sweep_long}
use Rattle.window.specs.ByPlace.{at_place, at_here, at_present, sweep_cases, sweep_at}
use Rattle.replica.specs.declared.Replica.{Replica}
use Rattle.replica.specs.Record.{place, number}
use Rattle.replica.specs.Leadership.{timeout_step, commit_notice_step}
use Rattle.replica.specs.Step.{Call}
use Rattle.laws.specs.WaysLeadership.{lead_window, lead_trigger, lead_end, led, timeout_step_ways, mark_window, mark_from, commit_notice_step_ways}
use Rattle.agreement.specs.Theorem.{commit_entry}
use Rattle.agreement.specs.Frame.{Cell, cell, view, Marked, ActOk, kept, cleared}
use Rattle.agreement.specs.Good.{GoodSlot, Good, StepOk, Ok, GoodReplica, Heads, Same-self, Heads-Same, Turned, Turned-Like, Turned-self, Each, assemble, at_number, Grew, grew, Good-Grew, Grew-ok, kept_ok}

-- ── step-up ──
-- below the first open slot all are committed
pub open_placed : (w : Window) (i : ℕ) → i < first_open w → 3 ≤ (at_place w i).status
unfolding first_open
open_placed w i h =
    subst (λ (x : Slot). 3 ≤ x.status) (sym (at_here w i (omega (arith, scan_high (λ i. leb committed (slot_at w i).status) 0 w.len (omega arith)))))
    (leb-true 3 (slot_at w i).status (scan_passed (λ i. leb committed (slot_at w i).status) 0 w.len i (omega arith) h))

module _ (r : Replica) (c : Call) (w : Window) (trigger endprep : ℕ) (g : GoodReplica r) (q : Grew r.window w)
    (done : (i : ℕ) → i < place r.sc r.sc.exec_bar → 3 ≤ (at_place w i).status) where
  abbrev pub raised : ℕ
  raised = ballot_above r.sc.bal_max_seen r.sc.id

  abbrev pub up_sc : Scalars
  up_sc = stepped_up r.sc trigger raised

  abbrev pub from : ℕ
  from = place r.sc r.sc.exec_bar

  abbrev pub redone : Slot → Slot
  redone s = redone_slot raised (new_book trigger endprep) s

  abbrev pub up_w : Window
  up_w = sweep (λ i s. redone s) from w.len w

  abbrev pub redoes : List Act
  redoes = gather (λ i. redo_acts (number r.sc i) raised (slot_at w i)) from w.len

  abbrev pub up_acts : List Act
  up_acts = bare StatusUp ∷ bare Heartbeat ∷ (redoes ++ (bare (Prepare (record { trigger = trigger; ballot = raised })) ∷ []))

  gw : Good r.sc w
  gw = Good-Grew g q

  above : r.sc.bal_max_seen < raised
  above = omega arith

  up_heads : Heads r.sc up_sc
  up_heads = record { id = refl; start = refl; mono = omega arith; lead = λ _. inr above; sent = λ _. refl; own = λ _. omega (arith, g.small) }

  up_high : (x : Slot) → GoodSlot r.sc x → 3 ≤ x.status → GoodSlot up_sc x
  up_high x k h = record { under = omega (arith, k.under, above); busy = λ _ _ z. absurd (omega arith); tidy = k.tidy; tidy_vote = k.tidy_vote }

  abbrev pub Up : ℕ → Slot → Slot → Type 0
  Up i x y = Turned (view r.sc w) up_sc (view up_sc up_w) up_acts (r.sc.start + i) x y

  redone_turned : (i : ℕ) (x : Slot) → GoodSlot r.sc x → Up i x (redone x)
  redone_turned i x k =
      pick_cases (Up i x) (leb executed x.status) (λ t. Turned-self x (up_high x k (omega (arith, tests)))) (λ _.
      pick_cases (Up i x) (leb committed x.status)
      (λ t. Turned-Like x (with_external x) (up_high x k (leb-true 3 x.status t)) (record { status = refl; ballot = refl; batch = refl; vote = refl }))
      (λ t.
      record {
        good = record { under = omega arith; busy = λ _ _ _. refl; tidy = k.tidy; tidy_vote = k.tidy_vote };
        step = cleared (λ z. omega arith) (inl above);
        rise = λ _ z. absurd (omega arith);
      }))

  -- a slot that is not in the range is committed or not there
  rest_good : (i : ℕ) → (from ≤ i → i < w.len → i < w.len → ⊥) → GoodSlot up_sc (at_place w i)
  rest_good i z =
      record {
        under = omega (arith, (gw.each i).under, above);
        busy = λ _ a b. absurd (go (decide (ltb i from)) a b);
        tidy = (gw.each i).tidy;
        tidy_vote = (gw.each i).tidy_vote;
      }
    where
      go : (ltb i from ≡ true) ⊎ (ltb i from ≡ false) → 1 ≤ (at_place w i).status → (at_place w i).status < 3 → ⊥
      go (inl e) a b = omega (arith, done i (ltb-true i from e))
      go (inr e) a b = let l : i < w.len = at_present w i a in z (ltb-false i from e) l l

  up_each : Each r.sc w c 0 up_sc up_w up_acts
  up_each i =
      sweep_cases (λ i s. redone s) from w.len w (Up i (at_place w i)) i (omega (arith, q.wide, q.short))
      (λ _ _ _. redone_turned i (at_place w i) (gw.each i)) (λ z. Turned-self (at_place w i) (rest_good i z))

  up_ok : StepOk (view r.sc r.window) c 0 up_sc up_w up_acts
  up_ok =
      Grew-ok r.sc r.window w c 0 up_sc up_w up_acts q
      (assemble r.sc w c 0 up_sc up_w up_acts gw up_heads (sweep_long (λ i s. redone s) from w.len w ∙ q.wide) q.short up_each (
        (tt, tt),
        (
          (tt, tt),
          All-append (ActOk (view r.sc w) c (view up_sc up_w) up_acts) redoes (bare (Prepare (record { trigger = trigger; ballot = raised })) ∷ [])
              (All-gather (λ i. redo_acts (number r.sc i) raised (slot_at w i)) (ActOk (view r.sc w) c (view up_sc up_w) up_acts) from w.len
              (λ i _ b. pick_both (All (ActOk (view r.sc w) c (view up_sc up_w) up_acts)) (leb committed (slot_at w i).status) tt
              ((refl, ((omega arith, omega (arith, q.short)), refl)), tt)))
              ((tt, tt), tt),
        ),
      )
      (λ z. absurd (z refl)))

pub timeout_step-Ok : (r : Replica) (c : Call) → GoodReplica r → (room source : ℕ) → Ok r c (timeout_step r room source)
timeout_step-Ok r c g room source =
    timeout_step_ways (Ok r c) r room source (λ n _. kept_ok r c g n)
    (λ ballot f.
    let q : Grew r.window (lead_window r) = grew r.window g (first_open r.window + 1) (omega (arith, f.room)) in
    subst (λ (b : ℕ). Ok r c (led r b)) (sym (Next-given r.sc.bal_max_seen r.sc.id ballot f.next).made)
    (up_ok r c (lead_window r) (lead_trigger r) (lead_end r) g q
    (λ i h. subst (λ (x : Slot). 3 ≤ x.status) (sym (q.each i)) (open_placed r.window i (omega (arith, f.open_high))))))

-- ── CommitNotice ──
module _ (r : Replica) (c : Call) (w : Window) (ballot from to : ℕ) (g : GoodReplica r) (q : Grew r.window w) (l : from ≤ to) (fits : to ≤ w.len)
    (seen : ballot ≡ r.sc.bal_max_seen) where
  abbrev pub stop : ℕ
  stop = mark_stop w ballot from to

  abbrev pub noticed_w : Window
  noticed_w = sweep (λ i s. marked_slot s) from stop w

  abbrev pub marks_at : ℕ → List Act
  marks_at i = mark_acts (number r.sc i) (slot_at w i)

  abbrev pub noticed : List Act
  noticed = gather marks_at from stop

  gw' : Good r.sc w
  gw' = Good-Grew g q

  stop_high : stop ≤ to
  unfolding mark_stop
  stop_high = scan_high (λ i. may_mark ballot (slot_at w i)) from to l

  -- where it marks, the slot is at or above Accepting, and not below the ballot
  may : (i : ℕ) → from ≤ i → i < stop → (ballot ≤ (slot_at w i).ballot) × (2 ≤ (slot_at w i).status)
  unfolding mark_stop
  may i a b =
      let (x, y) = and_both (leb ballot (slot_at w i).ballot) (leb accepting (slot_at w i).status) (scan_passed (λ i. may_mark ballot (slot_at w i)) from to i a b) in
      (leb-true ballot (slot_at w i).ballot x, leb-true 2 (slot_at w i).status y)

  abbrev pub Noticed : ℕ → Slot → Slot → Type 0
  Noticed i x y = Turned (view r.sc w) r.sc (view r.sc noticed_w) noticed (r.sc.start + i) x y

  noticed_in : (i : ℕ) → from ≤ i → i < stop → leb committed (slot_at w i).status ≡ false → commit_entry (r.sc.start + i) (slot_at w i).ballot ∈ noticed
  noticed_in i a b t = in_gather marks_at from stop i a b (rw t (Memᴰ.head refl))

  Noticed-turned : (i : ℕ) → from ≤ i → i < stop → GoodSlot r.sc (slot_at w i) → Noticed i (slot_at w i) (marked_slot (slot_at w i))
  Noticed-turned i a b k =
      pick_cases (Noticed i (slot_at w i)) (leb committed (slot_at w i).status) (λ t. Turned-self (slot_at w i) k) (λ t.
      record {
        good = record { under = k.under; busy = λ _ _ z. absurd (omega arith); tidy = k.tidy; tidy_vote = k.tidy_vote };
        step = kept (may i a b).1 (λ z. absurd (omega arith)) (record { on = omega arith; at = refl; val = refl });
        rise = λ _ _. noticed_in i a b t;
      })

  here : (i : ℕ) → i < stop → at_place w i ≡ slot_at w i
  here i b = at_here w i (omega (arith, stop_high))

  noticed-Each : Each r.sc w c 0 r.sc noticed_w noticed
  noticed-Each i =
      sweep_cases (λ i s. marked_slot s) from stop w (Noticed i (at_place w i)) i (omega (arith, q.wide, q.short))
      (λ a b _. subst (λ (x : Slot). Noticed i x (marked_slot x)) (sym (here i b)) (Noticed-turned i a b (subst (GoodSlot r.sc) (here i b) (gw'.each i))))
      (λ _. Turned-self (at_place w i) (gw'.each i))

  -- it is at the notice's ballot, since none is above the largest seen
  at_ballot : (i : ℕ) → from ≤ i → i < stop → (slot_at w i).ballot ≡ r.sc.bal_max_seen
  at_ballot i a b = omega (arith, (may i a b).0, (subst (GoodSlot r.sc) (here i b) (gw'.each i)).under)

  noticed_marked : (i : ℕ) → from ≤ i → i < stop → leb committed (slot_at w i).status ≡ false
      → Marked ((view r.sc w).slot (r.sc.start + i)) ((view r.sc noticed_w).slot (r.sc.start + i)) (slot_at w i).ballot r.sc.bal_max_seen
  noticed_marked i a b t =
      at_number (λ (x : Cell). Marked x ((view r.sc noticed_w).slot (r.sc.start + i)) (slot_at w i).ballot r.sc.bal_max_seen) r.sc.start w (r.sc.start + i) i refl
      (at_number (λ (y : Cell). Marked (cell (at_place w i)) y (slot_at w i).ballot r.sc.bal_max_seen) r.sc.start noticed_w (r.sc.start + i) i refl
      (subst (λ (y : Slot). Marked (cell (at_place w i)) (cell y) (slot_at w i).ballot r.sc.bal_max_seen)
      (sym (sweep_at (λ i s. marked_slot s) from stop w i (omega (arith, q.wide, q.short)) a b (omega (arith, stop_high))))
      (subst (λ (x : Slot). Marked (cell x) (cell (marked_slot x)) (slot_at w i).ballot r.sc.bal_max_seen) (sym (here i b))
      (rw t (record { was = omega (arith, tests, (may i a b).1); now = omega arith; at = refl; val = refl; says = refl; top = at_ballot i a b })))))

  noticed_ok : StepOk (view r.sc r.window) c 0 r.sc noticed_w noticed
  noticed_ok =
      Grew-ok r.sc r.window w c 0 r.sc noticed_w noticed q
      (assemble r.sc w c 0 r.sc noticed_w noticed gw' (Heads-Same gw' (Same-self r.sc))
      (sweep_long (λ i s. marked_slot s) from stop w ∙ q.wide) q.short noticed-Each
      (All-gather marks_at (ActOk (view r.sc w) c (view r.sc noticed_w) noticed) from stop
      (λ i a b. pick_cases (All (ActOk (view r.sc w) c (view r.sc noticed_w) noticed)) (leb committed (slot_at w i).status) (λ _. tt)
      (λ t. ((noticed_marked i a b t, ((omega arith, omega (arith, stop_high, fits, q.short)), refl)), tt))))
      (λ z. absurd (z refl)))

pub commit_notice_step-Ok : (r : Replica) (c : Call) → GoodReplica r → (room peer ballot bar : ℕ) → Ok r c (commit_notice_step r room peer ballot bar)
commit_notice_step-Ok r c g room peer ballot bar =
    commit_notice_step_ways (Ok r c) r room peer ballot bar (λ n _. kept_ok r c g n)
    (λ f. noticed_ok r c (mark_window r bar) ballot (mark_from r) (place r.sc bar) g (grew r.window g (place r.sc bar) (omega (arith, f.high)))
    (omega (arith, f.above)) (filled_has null_slot r.window (place r.sc bar)) f.seen)
