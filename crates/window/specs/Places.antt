-- What stands at a place of a window after each of the ways in which a call changes it, whatever the length of the list behind it.
use Rattle.std.specs.Prelude.{◌≡◌, refl, ℕ, ◌≤◌, ◌<◌, ltb, leb, length}
use Rattle.std.proofs.Common.{le_refl, arith, length-set, get_or-set_same, get_or-set_other, ltb-true, ltb-false, leb-true, leb-false}
use Rattle.base.specs.Pick.{pick_cases}
use Rattle.base.specs.Over.{over, over_at, over_before, over_after, length-over, set_each, over_each}
use Rattle.slots.specs.declared.Slot.{Slot}
use Rattle.slots.specs.Slots.{no_slot}
use Rattle.window.specs.declared.Window.{Window}
use Rattle.window.specs.Window.{slot_at, put_slot, filled, sweep}

-- how many slots the list behind a window has
abbrev pub size : Window → ℕ
size w = length w.slots

module _ (w : Window) (i : ℕ) (s : Slot) where
  pub put_long : size (put_slot w i s) ≡ size w
  put_long = length-set w.slots i s

  pub put_here : i < size w → slot_at (put_slot w i s) i ≡ s
  put_here h = get_or-set_same w.slots i s no_slot h

  pub put_other : (j : ℕ) → (j ≡ i → ⊥) → slot_at (put_slot w i s) j ≡ slot_at w j
  put_other j n = get_or-set_other w.slots i j s no_slot n

  pub put_each : (P : Slot → Type 0) (j : ℕ) → (j ≡ i → P s) → P (slot_at w j) → P (slot_at (put_slot w i s) j)
  put_each P j p q = set_each no_slot P w.slots i j s p q

module _ (z : Slot) (w : Window) (n : ℕ) where
  pub filled_ways : (P : Window → Type 0) → (n ≤ w.len → P w) → (w.len < n → P (record { len = n; slots = over (λ i s. z) no_slot w.len n w.slots }))
      → P (filled z w n)
  unfolding filled
  filled_ways P p q = pick_cases P (leb n w.len) (λ t. p (leb-true _ _ t)) (λ t. q (leb-false _ _ t))

  pub filled_long : size (filled z w n) ≡ size w
  filled_long = filled_ways (λ (x : Window). size x ≡ size w) (λ h. refl) (λ h. length-over (λ i s. z) no_slot w.len n w.slots)

  pub filled_low : w.len ≤ (filled z w n).len
  filled_low = filled_ways (λ (x : Window). w.len ≤ x.len) (λ h. le_refl _) (λ h. omega arith)

  pub filled_has : n ≤ (filled z w n).len
  filled_has = filled_ways (λ (x : Window). n ≤ x.len) (λ h. h) (λ h. le_refl _)

  pub filled_most : (k : ℕ) → w.len ≤ k → n ≤ k → (filled z w n).len ≤ k
  filled_most k p q = filled_ways (λ (x : Window). x.len ≤ k) (λ h. p) (λ h. q)

  -- the slots that were present stay, those added are z
  pub filled_old : (j : ℕ) → j < w.len → slot_at (filled z w n) j ≡ slot_at w j
  filled_old j l = filled_ways (λ (x : Window). slot_at x j ≡ slot_at w j) (λ h. refl) (λ h. over_before (λ i s. z) no_slot w.len n w.slots j l)

  pub filled_new : (j : ℕ) → w.len ≤ j → j < n → j < size w → slot_at (filled z w n) j ≡ z
  filled_new j l u s =
      filled_ways (λ (x : Window). slot_at x j ≡ z) (λ h. absurd (omega arith)) (λ h. over_at (λ i s. z) no_slot w.len n w.slots j l u s)

  pub filled_each : (P : Slot → Type 0) (j : ℕ) → j < (filled z w n).len → (j < w.len → P (slot_at w j)) → P z → (size w ≤ j → P no_slot) → P (slot_at (filled z w n) j)
  filled_each P j l old new past =
      filled_ways (λ (x : Window). j < x.len → P (slot_at x j)) (λ h q. old q)
      (λ h q. over_each no_slot (λ i s. z) P w.len n w.slots j (λ out. old (below out q)) (λ a b. new) past)
      l
    where
      below : (w.len ≤ j → j < n → ⊥) → j < n → j < w.len
      below out q = pick_cases (λ (x : ℕ). j < w.len) (ltb j w.len) {a = 0} {b = 0} (λ t. ltb-true _ _ t) (λ t. absurd (out (ltb-false _ _ t) q))

module _ (f : ℕ → Slot → Slot) (from to : ℕ) (w : Window) where
  pub sweep_long : size (sweep f from to w) ≡ size w
  sweep_long = length-over f no_slot from to w.slots

  pub sweep_in : (j : ℕ) → from ≤ j → j < to → j < size w → slot_at (sweep f from to w) j ≡ f j (slot_at w j)
  sweep_in j a b c = over_at f no_slot from to w.slots j a b c

  pub sweep_before : (j : ℕ) → j < from → slot_at (sweep f from to w) j ≡ slot_at w j
  sweep_before j a = over_before f no_slot from to w.slots j a

  pub sweep_after : (j : ℕ) → to ≤ j → slot_at (sweep f from to w) j ≡ slot_at w j
  sweep_after j a = over_after f no_slot from to w.slots j a

  pub sweep_each : (P : Slot → Type 0) (j : ℕ) → P (slot_at w j) → (from ≤ j → j < to → P (slot_at w j) → P (f j (slot_at w j))) → (size w ≤ j → P no_slot)
      → P (slot_at (sweep f from to w) j)
  sweep_each P j p q past = over_each no_slot f P from to w.slots j (λ out. p) (λ a b. q a b p) past
