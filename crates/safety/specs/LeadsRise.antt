-- Of `Leads`: a step-up (`Rose`). Nobody is counted or noted in the new lead, the trigger's prepare entry is written, and past the endprep no slot is
-- Preparing.
use Rattle.std.specs.Prelude.{◌≡◌, refl, Bool, true, false, [], ◌∷◌, ◌⊎◌, ℕ, zero, suc, ◌+◌, ◌≤◌, ◌<◌, ltb, leb}
use Rattle.std.proofs.Common.{sym, ap, subst, ◌∙◌, inl, inr, arith, ltb-true, ltb-false}
use mathlib.Core.List.Memᴰ
use Rattle.std.proofs.lemmas.Bool.{lt-leb}
use Rattle.base.specs.Pick.{pick_cases, decide, clash, tests}
use Rattle.base.specs.Among.{◌∈◌, All, All-append, All-in}
use Rattle.base.specs.Gather.{gather, All-gather, in_gather}
use Rattle.base.specs.Find.{last, last_past}
use Rattle.base.specs.Scan.{scan_high}
use Rattle.members.specs.Sets.{has}
use Rattle.members.specs.Laws.{has_none}
use Rattle.actions.specs.declared.Action.TheVariants.{Prepare}
use Rattle.actions.specs.Actions.{Act, bare}
use Rattle.slots.specs.declared.Slot.{Slot}
use Rattle.slots.specs.Slots.{committed, executed, null_slot, new_book, redone_slot, with_external, with_leader, with_state, preparing}
use Rattle.window.specs.declared.Window.{Window}
use Rattle.window.specs.Window.{slot_at, grown, first_open, last_open}
use Rattle.window.specs.Acts.{promise, redo_acts}
use Rattle.window.specs.Places.{size, filled_has, filled_long, filled_most}
use Rattle.window.specs.ByPlace.{at_place, at_here, at_present, sweep_cases, sweep_at, grown_at}
use Rattle.replica.specs.declared.Replica.{Replica}
use Rattle.replica.specs.Record.{number}
use Rattle.replica.specs.Step.{Call}
use Rattle.laws.specs.OfFit.{fit_facts}
use Rattle.laws.specs.WaysLeadership.{lead_window, lead_trigger, lead_end, lead_from, led, Leads as StepsUp, Leads-up}
use Rattle.voting.specs.Claims.{core}
use Rattle.voting.specs.Reached.{Good as Reached}
use Rattle.voting.specs.Reigning.{open_low}
use Rattle.agreement.specs.BySlot.{numbered_at, by_place}
use Rattle.agreement.specs.OfLeadership.{open_placed}
use Rattle.safety.specs.Sight.{Sight, sight_of, Rose, rose, Leads}
use Rattle.safety.specs.LeadsRest.{sight_at, Writes}

-- ── the last open slot ──
-- the last index that passes a test passes it, or there is none
last_held : (p : ℕ → Bool) (other to : ℕ) → (last p other to ≡ other) ⊎ (p (last p other to) ≡ true)
last_held p other zero = inl refl
last_held p other (suc j) = pick_cases (λ (x : ℕ). (x ≡ other) ⊎ (p x ≡ true)) (p j) (λ t. inr t) (λ t. last_held p other j)

-- the last open slot is open, or it is the log's end
last_open_is_open : (w : Window) → (last_open w ≡ w.len) ⊎ ((slot_at w (last_open w)).status < 3)
unfolding last_open
last_open_is_open w = go (last_held (λ i. ltb (slot_at w i).status committed) w.len w.len)
  where
    go : {k : ℕ} → (k ≡ w.len) ⊎ (ltb (slot_at w k).status 3 ≡ true) → (k ≡ w.len) ⊎ ((slot_at w k).status < 3)
    go {k} (inl e) = inl e
    go {k} (inr e) = inr (ltb-true (slot_at w k).status 3 e)

-- past it all are committed
last_passed : (w : Window) (i : ℕ) → last_open w < i → i < w.len → 3 ≤ (at_place w i).status
unfolding last_open
last_passed w i l h =
    subst (λ (x : Slot). 3 ≤ x.status) (sym (at_here w i h))
    (ltb-false (slot_at w i).status 3 (last_past (λ i. ltb (slot_at w i).status committed) w.len w.len i l h))

first_high : (w : Window) → first_open w ≤ w.len
unfolding first_open
first_high w = scan_high (λ i. leb committed (slot_at w i).status) 0 w.len (omega arith)

-- where all are committed it is the log's end
last_end : (w : Window) → w.len ≤ first_open w → w.len ≤ last_open w
last_end w h = go (decide (ltb (last_open w) w.len)) (last_open_is_open w)
  where
    go : (ltb (last_open w) w.len ≡ true) ⊎ (ltb (last_open w) w.len ≡ false) → (last_open w ≡ w.len) ⊎ ((slot_at w (last_open w)).status < 3) → w.len ≤ last_open w
    go (inr t) x = ltb-false (last_open w) w.len t
    go (inl t) (inl e) = omega (arith, e)
    go (inl t) (inr e) =
        let l : last_open w < w.len = ltb-true (last_open w) w.len t in
        absurd (omega (arith, open_placed w (last_open w) (omega arith), ap (λ (x : Slot). x.status) (at_here w (last_open w) l)))

-- an open slot of the log with the trigger in it is not past it
open_last : (w : Window) (i : ℕ) → i < (grown w (first_open w + 1)).len → (at_place w i).status < 3 → i ≤ last_open w
open_last w i l h = go (decide (ltb i w.len)) (decide (ltb (last_open w) i)) (decide (ltb i (first_open w + 1)))
  where
    go : (ltb i w.len ≡ true) ⊎ (ltb i w.len ≡ false) → (ltb (last_open w) i ≡ true) ⊎ (ltb (last_open w) i ≡ false)
        → (ltb i (first_open w + 1) ≡ true) ⊎ (ltb i (first_open w + 1) ≡ false) → i ≤ last_open w
    go a (inr t) d = ltb-false (last_open w) i t
    go (inl a) (inl t) d = absurd (omega (arith, last_passed w i (ltb-true (last_open w) i t) (ltb-true i w.len a)))
    go (inr a) (inl t) (inl d) =
        let u = ltb-false i w.len a in
        let v = ltb-true i (first_open w + 1) d in
        absurd (omega (arith, first_high w, last_end w (omega arith), ltb-true (last_open w) i t))
    go (inr a) (inl t) (inr d) = absurd (omega (arith, filled_most null_slot w (first_open w + 1) i (ltb-false i w.len a) (ltb-false i (first_open w + 1) d)))

-- ── one slot ──
-- a slot that is Preparing after a step-up was below Committed, and its bookkeeping is new
record Begun (trigger endprep : ℕ) (x y : Slot) : Type 0 where
  pub was : x.status < 3
  pub book : y.leader ≡ new_book trigger endprep

redone_begun : (b trigger endprep : ℕ) (x : Slot) → (redone_slot b (new_book trigger endprep) x).status ≡ 1 → Begun trigger endprep x (redone_slot b (new_book trigger endprep) x)
redone_begun b trigger endprep x =
    pick_cases (λ (y : Slot). y.status ≡ 1 → Begun trigger endprep x y) (leb executed x.status) {a = x} (λ t z. absurd (omega (arith, tests)))
    (λ u. pick_cases (λ (y : Slot). y.status ≡ 1 → Begun trigger endprep x y) (leb committed x.status)
    {a = with_external x}
    {b = with_leader (with_state (with_external x) b preparing) (new_book trigger endprep)}
    (λ t z. absurd (omega (arith, tests))) (λ t z. record { was = omega (arith, tests); book = refl }))

redone_book : (b trigger endprep : ℕ) (x : Slot) → x.status < 3 → (redone_slot b (new_book trigger endprep) x).leader ≡ new_book trigger endprep
redone_book b trigger endprep x l = rw (lt-leb 4 x.status (omega arith), lt-leb 3 x.status l)

-- ── the call ──
module _ (r : Replica) (source b bar : ℕ) (c : Call) (g : Reached r.sc r.window) (f : StepsUp r source b) where
  abbrev pub up : Window
  up = (led r b).replica.window

  abbrev pub risen : Sight
  risen = sight_at (core (led r b).replica.sc) up bar

  long : (lead_window r).len ≤ size (lead_window r)
  long =
      omega (
        arith,
        filled_long null_slot r.window (first_open r.window + 1),
        g.whole,
        filled_most null_slot r.window (first_open r.window + 1) 64 (fit_facts r f.fits).numbers.window (omega (arith, f.room)),
      )

  at_lead : (i : ℕ) → at_place (lead_window r) i ≡ at_place r.window i
  at_lead i = grown_at r.window (first_open r.window + 1) i (let w = g.whole in omega (arith, f.room))

  -- a slot that is Preparing
  up-Begun : (i : ℕ) → (at_place up i).status ≡ 1 → Begun (lead_trigger r) (lead_end r) (at_place (lead_window r) i) (at_place up i) × (i < (lead_window r).len)
  up-Begun i =
      sweep_cases (λ k s. redone_slot b (new_book (lead_trigger r) (lead_end r)) s) (lead_from r) (lead_window r).len (lead_window r)
      (λ (y : Slot). y.status ≡ 1 → Begun (lead_trigger r) (lead_end r) (at_place (lead_window r) i) y × (i < (lead_window r).len)) i long
      (λ _ _ l z. (redone_begun b (lead_trigger r) (lead_end r) (at_place (lead_window r) i) z, l))
      (λ out z. absurd (outside out z))
    where
      outside : (lead_from r ≤ i → i < (lead_window r).len → i < (lead_window r).len → ⊥) → (at_place (lead_window r) i).status ≡ 1 → ⊥
      outside out z = go (decide (ltb i (lead_from r)))
        where
          go : (ltb i (lead_from r) ≡ true) ⊎ (ltb i (lead_from r) ≡ false) → ⊥
          go (inl t) = omega (arith, f.open_high, open_placed r.window i (let u = ltb-true i (lead_from r) t in omega (arith, f.open_high)), ap (λ (x : Slot). x.status) (at_lead i))
          go (inr t) = let l = at_present (lead_window r) i (omega arith) in out (ltb-false i (lead_from r) t) l l

  -- by number: its bookkeeping is new, and it is not past the endprep
  up_each : (k : ℕ) → (risen.slot k).status ≡ 1 → ((risen.slot k).leader ≡ new_book (lead_trigger r) (lead_end r)) × (k ≤ lead_end r)
  up_each =
      by_place (λ (k : ℕ) (x y : Slot). y.status ≡ 1 → (y.leader ≡ new_book (lead_trigger r) (lead_end r)) × (k ≤ lead_end r)) r.sc.start up up (λ k z. absurd (omega arith))
      (λ i z.
      let (t, l) = up-Begun i z in
      (t.book, let u = open_last r.window i l (subst (λ (x : Slot). x.status < 3) (at_lead i) t.was) in omega arith))

  -- a slot that was below Committed has the new bookkeeping
  up_book : (i : ℕ) → lead_from r ≤ i → i < (lead_window r).len → (at_place (lead_window r) i).status < 3 → (risen.slot (number r.sc i)).leader ≡ new_book (lead_trigger r) (lead_end r)
  up_book i lo hi s =
      ap (λ (x : Slot). x.leader)
      (numbered_at r.sc.start up i
      ∙ sweep_at (λ k s. redone_slot b (new_book (lead_trigger r) (lead_end r)) s) (lead_from r) (lead_window r).len (lead_window r) i long lo hi hi)
      ∙ redone_book b (lead_trigger r) (lead_end r) (at_place (lead_window r) i) s

  abbrev UpOk : Act → Type 0
  UpOk = Writes (λ s d. (risen.slot s).leader.endprep ≡ lead_end r) (λ s b e. ⊥)

  up_said : All UpOk (led r b).actions
  up_said = (
    tt,
    (
      tt,
      All-append UpOk (gather (λ i. redo_acts (number r.sc i) b (slot_at (lead_window r) i)) (lead_from r) (lead_window r).len) (bare (Prepare (record { trigger = lead_trigger r; ballot = b })) ∷ [])
          (All-gather (λ i. redo_acts (number r.sc i) b (slot_at (lead_window r) i)) UpOk (lead_from r) (lead_window r).len
          (λ i lo hi. pick_cases (All UpOk) (leb committed (slot_at (lead_window r) i).status) (λ t. tt)
          (λ t. (
            ap (λ x. x.endprep) (up_book i lo hi (subst (λ (x : Slot). x.status < 3) (sym (at_here (lead_window r) i hi)) (omega (arith, tests)))),
            tt,
          ))))
          (tt, tt),
    ),
  )

  -- the trigger is the first open slot
  open_here : first_open r.window < (lead_window r).len
  open_here = omega (arith, filled_has null_slot r.window (first_open r.window + 1))

  open_status : (at_place (lead_window r) (first_open r.window)).status < 3
  open_status = subst (λ (x : Slot). x.status < 3) (sym (at_lead (first_open r.window))) (open_low r.window)

  up_begins : promise (lead_trigger r) b ∈ (led r b).actions
  up_begins =
      Memᴰ.tail (Memᴰ.tail (Memᴰ.append_left (bare (Prepare (record { trigger = lead_trigger r; ballot = b })) ∷ [])
      (in_gather (λ i. redo_acts (number r.sc i) b (slot_at (lead_window r) i)) (lead_from r) (lead_window r).len (first_open r.window) (omega (arith, f.open_high)) open_here
      (subst (λ (x : Slot). promise (lead_trigger r) b ∈ redo_acts (lead_trigger r) b x) (at_here (lead_window r) (first_open r.window) open_here)
      (rw (lt-leb 3 (at_place (lead_window r) (first_open r.window)).status open_status) (Memᴰ.head refl))))))

  up_rose : Rose (sight_of r) risen (led r b).actions
  up_rose =
      record {
        above = Leads-up r source b f;
        unprepared = refl;
        uncounted = λ p z.
            clash
            (subst (λ x. has x.prepare_acks p ≡ true) (up_book (first_open r.window) (omega (arith, f.open_high)) open_here open_status) z) (has_none p);
        unnoted = λ k z.
            (let (t, _) = up_each k z in (λ p h. clash (subst (λ x. has x.notes p ≡ true) t h) (has_none p), ap (λ x. x.prepare_max_bal) t));
        begun = up_begins;
        ends = λ s k o l z. (let (_, t) = up_each k z in omega (arith, All-in UpOk up_said o));
      }

  pub led-Leads : Leads (sight_of r) c risen (led r b).actions
  led-Leads = record { mid = risen.slot; lead = λ l. rose up_rose; entries = λ s b e o. absurd (All-in UpOk up_said o) }
