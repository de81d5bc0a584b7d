-- What a Prepare and a step-up say: prepare entries alone, each at its slot's ballot; a follower's slot has its endprep, past which no slot is in use (Sight,
-- `Promises`).
use Rattle.std.specs.Prelude.{◌≡◌, refl, true, false, List, [], ◌∷◌, ℕ, ◌+◌, ◌≤◌, ◌<◌, leb}
use Rattle.std.proofs.Common.{sym, ap, subst, ◌∙◌, arith, leb-false, eq-eqb}
use Rattle.std.proofs.lemmas.Bool.{lt-leb}
use Rattle.base.specs.Pick.{pick_both, pick_cases, clash, larger_right}
use Rattle.base.specs.Among.{All, All-append}
use Rattle.base.specs.Gather.{gather, All-gather}
use Rattle.actions.specs.declared.Action.TheVariants.{Prepare}
use Rattle.actions.specs.Actions.{Act, bare}
use Rattle.slots.specs.declared.Slot.{Slot}
use Rattle.slots.specs.Slots.{committed, executed, null_slot, new_book, prepared_slot, redone_slot}
use Rattle.decide.specs.Scalars.{leads, strict, steps_down}
use Rattle.window.specs.declared.Window.{Window}
use Rattle.window.specs.Window.{slot_at, first_open, last_used}
use Rattle.window.specs.Acts.{promise, redo_acts}
use Rattle.window.specs.Places.{filled_has}
use Rattle.window.specs.ByPlace.{at_place, at_here, sweep_cases, sweep_at}
use Rattle.replica.specs.declared.Replica.{Replica}
use Rattle.replica.specs.Record.{Outcome, place, number}
use Rattle.replica.specs.Messages.{down_acts, prepare_top, prepare_book}
use Rattle.replica.specs.Step.{Call}
use Rattle.laws.specs.OfScalars.{followed-Fixed}
use Rattle.laws.specs.Appended.{top_within}
use Rattle.laws.specs.WaysMessages.{prepare_window, prepare_end, prepared, Prepares}
use Rattle.laws.specs.WaysLeadership.{lead_window, lead_trigger, lead_end, lead_from, led, Leads}
use Rattle.agreement.specs.BySlot.{numbered, numbered_at, by_place}
use Rattle.agreement.specs.Theorem.{slot_of}
use Rattle.agreement.specs.Good.{GoodReplica, Grew, grew}
use Rattle.voting.specs.Unvoted.{past_last}
use Rattle.safety.specs.Sight.{Sight, sight_of, Promises, Says}

-- every action of a list says what is so, v before the call c and q after it
abbrev pub SaysAll : Sight → Call → Replica → List Act → Type 0
SaysAll v c q acts = All (λ (a : Act). Says v c (sight_of q) a.keys a.what) acts

abbrev pub Told : Replica → Call → Outcome → Type 0
Told r c o = SaysAll (sight_of r) c o.replica o.actions

-- ── a prepare entry by place ──
-- the slot has a follower's bookkeeping, and past its endprep no slot is in use
abbrev pub EndsAt : ℕ → Window → Slot → Type 0
EndsAt start w x = (x.replica.present ≡ true) × ((j : ℕ) → x.replica.endprep < start + j → (at_place w j).status ≡ 0)

pub Promises-at : (q : Replica) (start i ballot : ℕ) → q.sc.start ≡ start → i < q.window.len → (at_place q.window i).ballot ≡ ballot
    → (leads q.sc ≡ false → EndsAt start q.window (at_place q.window i)) → Promises (sight_of q) (start + i) ballot
Promises-at q start i ballot e l b n =
    let x : Slot = at_place q.window i in
    let here : slot_of q (start + i) ≡ x = subst (λ (k : ℕ). numbered q.sc.start q.window (k + i) ≡ x) e (numbered_at q.sc.start q.window i) in
    record {
      inside = omega arith;
      at = ap (λ (y : Slot). y.ballot) here ∙ b;
      ends = λ z. (
        subst (λ (y : Slot). y.replica.present ≡ true) (sym here) (n z).0,
        subst (λ (y : Slot). (k : ℕ) → y.replica.endprep < k → (slot_of q k).status ≡ 0) (sym here)
            (by_place (λ (k : ℕ) (_ y : Slot). x.replica.endprep < k → y.status ≡ 0) q.sc.start q.window q.window (λ _ _. refl) (λ j u. (n z).1 j (omega arith))),
      );
    }

-- ── Prepare ──
module _ (r : Replica) (g : GoodReplica r) (peer trigger ballot : ℕ) (f : Prepares r peer trigger ballot) where
  abbrev from : ℕ
  from = place r.sc trigger

  abbrev w : Window
  w = prepare_window r trigger

  abbrev asked : ℕ → Slot → Slot
  asked j s = prepared_slot (strict r.sc) ballot (prepare_book r.sc w from peer) s

  wide : Grew r.window w
  wide = grew r.window g (from + 1) (omega (arith, f.high))

  here : from < w.len
  here = omega (arith, filled_has null_slot r.window (from + 1))

  -- each slot from the trigger to the endprep is asked anew
  asked_at : (i : ℕ) → from ≤ i → i < prepare_end r trigger → at_place (prepared r peer trigger ballot).replica.window i ≡ asked i (at_place w i)
  asked_at i a b = sweep_at asked from (prepare_end r trigger) w i (omega (arith, wide.wide, wide.short)) a b (omega (arith, top_within w from here))

  past_asked : (j : ℕ) → prepare_top w from < j → (at_place (prepared r peer trigger ballot).replica.window j).status ≡ 0
  past_asked j l =
      sweep_cases asked from (prepare_end r trigger) w (λ (s : Slot). s.status ≡ 0) j (omega (arith, wide.wide, wide.short)) (λ x y z. absurd (omega arith))
      (λ out. past_last w j (omega (arith, larger_right from (last_used w))))

  asked_says : (i : ℕ) → from ≤ i → i < prepare_end r trigger → Promises (sight_of (prepared r peer trigger ballot).replica) (number r.sc i) ballot
  asked_says i a b =
      Promises-at (prepared r peer trigger ballot).replica r.sc.start i ballot (followed-Fixed r.sc peer ballot).start (omega (arith, top_within w from here))
      (ap (λ (x : Slot). x.ballot) (asked_at i a b))
      (λ _. subst (EndsAt r.sc.start (prepared r peer trigger ballot).replica.window) (sym (asked_at i a b)) (refl, λ j u. past_asked j (omega arith)))

  pub prepared_says : (c : Call) → Told r c (prepared r peer trigger ballot)
  prepared_says c =
      let Said : Act → Type 0 = λ (a : Act). Says (sight_of r) c (sight_of (prepared r peer trigger ballot).replica) a.keys a.what in
      All-append Said (down_acts r.sc ballot) (gather (λ i. promise (number r.sc i) ballot ∷ []) from (prepare_end r trigger))
      (pick_both (All Said) (steps_down r.sc ballot) (tt, tt) tt)
      (All-gather (λ i. promise (number r.sc i) ballot ∷ []) Said from (prepare_end r trigger) (λ i a b. (asked_says i a b, tt)))

-- ── a step-up: self leads after it ──
-- a slot below Committed is redone
redone_open : (ballot trigger endprep : ℕ) (s : Slot) → s.status < 3 → (redone_slot ballot (new_book trigger endprep) s).ballot ≡ ballot
redone_open ballot trigger endprep s l = rw (lt-leb executed s.status (omega arith), lt-leb committed s.status l)

module _ (r : Replica) (g : GoodReplica r) (source ballot : ℕ) (f : Leads r source ballot) where
  redone_says : (i : ℕ) → lead_from r ≤ i → i < (lead_window r).len → (slot_at (lead_window r) i).status < 3
      → Promises (sight_of (led r ballot).replica) (number r.sc i) ballot
  redone_says i a b l =
      let q : Grew r.window (lead_window r) = grew r.window g (first_open r.window + 1) (omega (arith, f.room)) in
      let e = sweep_at (λ i s. redone_slot ballot (new_book (lead_trigger r) (lead_end r)) s) (lead_from r) (lead_window r).len (lead_window r) i (omega (arith, q.wide, q.short)) a b b in
      Promises-at (led r ballot).replica r.sc.start i ballot refl b
      (ap (λ (x : Slot). x.ballot) (e ∙ ap (redone_slot ballot (new_book (lead_trigger r) (lead_end r))) (at_here (lead_window r) i b))
      ∙ redone_open ballot (lead_trigger r) (lead_end r) (slot_at (lead_window r) i) l)
      (λ z. absurd (clash (eq-eqb r.sc.id r.sc.id refl) z))

  pub led_says : (c : Call) → Told r c (led r ballot)
  led_says c =
      let Said : Act → Type 0 = λ (a : Act). Says (sight_of r) c (sight_of (led r ballot).replica) a.keys a.what in (
        tt,
        (
          tt,
          All-append Said (gather (λ i. redo_acts (number r.sc i) ballot (slot_at (lead_window r) i)) (lead_from r) (lead_window r).len)
              (bare (Prepare (record { trigger = lead_trigger r; ballot = ballot })) ∷ [])
              (All-gather (λ i. redo_acts (number r.sc i) ballot (slot_at (lead_window r) i)) Said (lead_from r) (lead_window r).len
              (λ i a b. pick_cases (All Said) (leb committed (slot_at (lead_window r) i).status) (λ _. tt) (λ t. (redone_says i a b (leb-false _ _ t), tt))))
              (tt, tt),
        ),
      )
