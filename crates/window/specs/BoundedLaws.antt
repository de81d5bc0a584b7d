-- Growth and the searches, where their numbers are places of the window and where they are not.
use Rattle.std.specs.Prelude.{◌≡◌, refl, Option, Bool, true, false, not, ◌&&◌, ◌||◌, ◌⊎◌, ℕ, ◌+◌, ◌-◌, ◌≤◌, ◌<◌, leb, ltb, eqb, length, drop}
use Rattle.std.specs.List.{list_any, position, position_or_len}
use Rattle.std.specs.Option.{unwrap_or}
use Rattle.std.proofs.Common.{sym, ap, ◌∙◌, ⊎_elim, arith, le-leb, ltb-true, ltb-false, length-drop, length-take-le}
use Rattle.std.proofs.Math.Bool.{and-false}
use Rattle.std.proofs.lemmas.Bool.{lt-leb}
use Rattle.base.specs.Pick.{decide}
use Rattle.base.specs.Find.{any, any_none, twice}
use Rattle.base.specs.Scan.{scan, scan_end}
use Rattle.base.specs.Spans.{span, any_span, scan_span, position_or_end}
use Rattle.slots.specs.declared.Slot.{Slot}
use Rattle.slots.specs.Slots.{no_slot}
use Rattle.window.specs.declared.Window.{Window}
use Rattle.window.specs.Window.{slot_at, filled, last_used, last_open}
use Rattle.window.specs.Laws.{scan_same, filled_kept}
use Rattle.window.specs.Bounded.{filled_in, last_used_in, last_open_in, any_above_in, stop_in, executed_in, passes}

module _ (z : Slot) (w : Window) (n : ℕ) where
  pub filled_in_lem : n ≤ 64 → filled_in z w n ≡ filled z w n
  unfolding filled_in
  filled_in_lem h = rw (le-leb n 64 h)

  pub filled_out : 64 < n → filled_in z w n ≡ w
  unfolding filled_in
  filled_out h = rw (lt-leb n 64 h)

  pub filled_not : ((64 < n) ⊎ ((n ≤ 64) × (n ≤ w.len))) → w ≡ filled_in z w n
  filled_not = ⊎_elim (λ h. sym (filled_out h)) (λ h. filled_kept z w n h.1 ∙ sym (filled_in_lem h.0))

module _ (w : Window) where
  pub last_used_in_lem : w.len ≤ 64 → last_used_in w ≡ last_used w
  unfolding last_used_in
  last_used_in_lem h = rw (le-leb w.len 64 h)

  pub last_used_out : 64 < w.len → last_used_in w ≡ 0
  unfolding last_used_in
  last_used_out h = rw (lt-leb w.len 64 h)

  pub last_open_in_lem : w.len ≤ 64 → last_open_in w ≡ last_open w
  unfolding last_open_in
  last_open_in_lem h = rw (le-leb w.len 64 h)

  pub last_open_out : 64 < w.len → last_open_in w ≡ w.len
  unfolding last_open_in
  last_open_out h = rw (lt-leb w.len 64 h)

-- what the code finds before it looks at a slot: the range is not one of places of the window, or empty
abbrev pub Nowhere : ℕ → ℕ → Type 0
Nowhere from to = (64 < to) ⊎ ((to ≤ 64) × (to ≤ from))

-- the first slot of a range that fails a test, as the code finds it
pub first_of : (p : Slot → Bool) (w : Window) (from to n : ℕ) (r : Option ℕ) → length w.slots ≡ 64 → from ≤ to → to ≤ 64 → r ≡ position p (span from to w.slots)
    → n ≡ unwrap_or r (to - from) → from + n ≡ scan (λ i. not (p (slot_at w i))) from to
first_of p w from to n r l a b e f =
    let long : length (span from to w.slots) ≡ to - from = length-take-le (to - from) (drop from w.slots) (omega (arith, length-drop from w.slots)) in
    let g : n ≡ position_or_len p (span from to w.slots) = f ∙ rw e (position_or_end p (span from to w.slots) (to - from) long) in
    ap (λ (k : ℕ). from + k) g ∙ sym (scan_span p no_slot w.slots from to a (omega arith))

not_either : (p q : Bool) → not (p || q) ≡ (not p && not q)
not_either true q = refl
not_either false q = refl

not_below : (x b : ℕ) → not (ltb x b) ≡ leb b x
not_below x b =
    ⊎_elim
    (λ (t : ltb x b ≡ true). rw (t, lt-leb b x (ltb-true x b t)))
    (λ (t : ltb x b ≡ false). rw (t, le-leb b x (ltb-false x b t)))
    (decide (ltb x b))

module _ (w : Window) (from to : ℕ) where
  pub above_in : (ballot : ℕ) → to ≤ 64 → any_above_in w ballot from to ≡ any (λ i. ltb ballot (slot_at w i).ballot) from to
  unfolding any_above_in
  above_in ballot h = rw (le-leb to 64 h)

  pub above_nowhere : (ballot : ℕ) → Nowhere from to → false ≡ any_above_in w ballot from to
  unfolding any_above_in
  above_nowhere ballot = ⊎_elim (λ h. rw (lt-leb to 64 h)) (λ h. rw (any_none (λ i. ltb ballot (slot_at w i).ballot) from to h.1, and-false (leb to 64)))

  pub above_span : (ballot : ℕ) → length w.slots ≡ 64 → to ≤ 64 → list_any (λ (s : Slot). ltb ballot s.ballot) (span from to w.slots) ≡ any_above_in w ballot from to
  above_span ballot l h =
      sym (any_span (λ (s : Slot). ltb ballot s.ballot) no_slot w.slots from to (omega arith)) ∙ sym (above_in ballot h)

  pub above_out : (ballot : ℕ) → 64 < to → any_above_in w ballot from to ≡ false
  unfolding any_above_in
  above_out ballot h = rw (lt-leb to 64 h)

  pub stop_in_lem : (ballot status : ℕ) → to ≤ 64 → stop_in w ballot status from to ≡ scan (passes w ballot status) from to
  unfolding stop_in
  stop_in_lem ballot status h = rw (le-leb to 64 h)

  pub stop_nowhere : (ballot status : ℕ) → Nowhere from to → from ≡ stop_in w ballot status from to
  unfolding stop_in
  stop_nowhere ballot status = ⊎_elim (λ h. rw (lt-leb to 64 h)) (λ h. rw (le-leb to 64 h.0, scan_end (passes w ballot status) from to h.1))

  pub stop_found : (ballot status n : ℕ) (r : Option ℕ) → length w.slots ≡ 64 → from ≤ to → to ≤ 64
      → r ≡ position (λ (s : Slot). ltb s.ballot ballot || ltb s.status status) (span from to w.slots) → n ≡ unwrap_or r (to - from)
      → from + n ≡ stop_in w ballot status from to
  stop_found ballot status n r l a b e f =
      let p : Slot → Bool = λ s. ltb s.ballot ballot || ltb s.status status in
      first_of p w from to n r l a b e f
      ∙ scan_same (λ i. not (p (slot_at w i))) (passes w ballot status) (λ i. rw (not_either, not_below (slot_at w i).ballot ballot, not_below (slot_at w i).status status)) from to
      ∙ sym (stop_in_lem ballot status b)

  pub stop_out : (ballot status : ℕ) → 64 < to → stop_in w ballot status from to ≡ from
  unfolding stop_in
  stop_out ballot status h = rw (lt-leb to 64 h)

  pub executed_in_lem : to ≤ 64 → executed_in w from to ≡ scan (λ i. eqb (slot_at w i).status 4) from to
  unfolding executed_in
  executed_in_lem h = rw (le-leb to 64 h)

  pub executed_nowhere : Nowhere from to → from ≡ executed_in w from to
  unfolding executed_in
  executed_nowhere = ⊎_elim (λ h. rw (lt-leb to 64 h)) (λ h. rw (le-leb to 64 h.0, scan_end (λ i. eqb (slot_at w i).status 4) from to h.1))

  pub executed_found : (n : ℕ) (r : Option ℕ) → length w.slots ≡ 64 → from ≤ to → to ≤ 64 → r ≡ position (λ (s : Slot). not (eqb s.status 4)) (span from to w.slots)
      → n ≡ unwrap_or r (to - from) → from + n ≡ executed_in w from to
  executed_found n r l a b e f =
      let p : Slot → Bool = λ s. not (eqb s.status 4) in
      first_of p w from to n r l a b e f
      ∙ scan_same (λ i. not (p (slot_at w i))) (λ i. eqb (slot_at w i).status 4) (λ i. sym (twice (eqb (slot_at w i).status 4))) from to
      ∙ sym (executed_in_lem b)

  pub executed_out : 64 < to → executed_in w from to ≡ from
  unfolding executed_in
  executed_out h = rw (lt-leb to 64 h)
