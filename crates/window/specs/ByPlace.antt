-- A window by place, null where the log does not reach, so that a window that only grows holds what it held: what stands at a place after
-- each of the ways in which a call changes a window.
use Rattle.std.specs.Prelude.{◌≡◌, true, false, ◌⊎◌, ℕ, ◌≤◌, ◌<◌, ltb, leb, get_or, set}
use Rattle.std.proofs.Math.Path.{refl, ap}
use Rattle.std.proofs.Common.{sym, ◌∙◌, inl, inr, arith, ltb-true, ltb-false, leb-true, leb-false, lt-ltb, le-ltb}
use Rattle.std.proofs.Math.ListN.{get_or-eq_default}
use Rattle.std.proofs.Math.Seq.{set_out}
use Rattle.base.specs.Pick.{pick, pick_cases, decide, same?, tests}
use Rattle.base.specs.Over.{over}
use Rattle.slots.specs.declared.Slot.{Slot}
use Rattle.slots.specs.Slots.{null_slot, no_slot}
use Rattle.window.specs.declared.Window.{Window}
use Rattle.window.specs.Window.{slot_at, put_slot, filled, grown, sweep}
use Rattle.window.specs.Places.{size, put_here, put_other, filled_low, filled_has, filled_most, filled_old, filled_new, sweep_in, sweep_before, sweep_after, sweep_each}

-- the slot at a place; null where the log does not reach, where `slot_at` reads whatever stands in the array
unfoldable pub at_place : Window → ℕ → Slot
at_place w i = pick (ltb i w.len) (slot_at w i) null_slot

module _ (w : Window) (i : ℕ) where
  pub at_here : i < w.len → at_place w i ≡ slot_at w i
  unfolding at_place
  at_here h = rw (lt-ltb i w.len h)

  pub at_past : w.len ≤ i → at_place w i ≡ null_slot
  unfolding at_place
  at_past h = rw (le-ltb i w.len h)

  -- a slot that is not null is present
  pub at_present : 0 < (at_place w i).status → i < w.len
  at_present h = go (decide (ltb i w.len))
    where
      go : (ltb i w.len ≡ true) ⊎ (ltb i w.len ≡ false) → i < w.len
      go (inl e) = ltb-true i w.len e
      go (inr e) = absurd (omega (arith, ap (λ (x : Slot). x.status) (at_past (ltb-false i w.len e))))

-- slots z up to a place: what stands there, or z past the log's end
pub filled_cases : (P : Slot → Type 0) (z : Slot) (w : Window) (n i : ℕ) → n ≤ size w → (w.len ≤ i → P z) → P (at_place w i) → P (at_place (filled z w n) i)
filled_cases P z w n i h new old = go (decide (ltb i w.len)) (decide (ltb i n))
  where
    go : (ltb i w.len ≡ true) ⊎ (ltb i w.len ≡ false) → (ltb i n ≡ true) ⊎ (ltb i n ≡ false) → P (at_place (filled z w n) i)
    go (inl a) b =
        rw (at_here (filled z w n) i (omega (arith, tests, filled_low z w n)), filled_old z w n i (ltb-true _ _ a)) (rw (at_here w i (ltb-true _ _ a)) at old)
    go (inr a) (inl b) =
        rw (at_here (filled z w n) i (omega (arith, tests, filled_has z w n)), filled_new z w n i (ltb-false _ _ a) (ltb-true _ _ b) (omega (arith, tests)))
        (new (ltb-false _ _ a))
    go (inr a) (inr b) =
        rw (at_past (filled z w n) i (filled_most z w n i (ltb-false _ _ a) (ltb-false _ _ b))) (rw (at_past w i (ltb-false _ _ a)) at old)

-- null slots: no slot changes
pub grown_at : (w : Window) (n i : ℕ) → n ≤ size w → at_place (grown w n) i ≡ at_place w i
grown_at w n i h = filled_cases (λ (x : Slot). x ≡ at_place w i) null_slot w n i h (λ l. sym (at_past w i l)) refl

-- ── one slot put ──
module _ (w : Window) (i : ℕ) (x : Slot) where
  pub put_cases : (P : Slot → Type 0) (j : ℕ) → (j ≡ i → j < w.len → P x) → ((j ≡ i → j < w.len → i < size w → ⊥) → P (at_place w j)) → P (at_place (put_slot w i x) j)
  unfolding at_place
  put_cases P j f g = go (decide (ltb j w.len)) (same? j i) (decide (ltb i (size w)))
    where
      go : (ltb j w.len ≡ true) ⊎ (ltb j w.len ≡ false) → (j ≡ i) ⊎ (j ≡ i → ⊥) → (ltb i (size w) ≡ true) ⊎ (ltb i (size w) ≡ false)
          → P (pick (ltb j w.len) (get_or (set w.slots i x) j no_slot) null_slot)
      go (inr a) e s = rw a (rw a at (g (λ _ l _. omega (arith, tests))))
      go (inl a) (inr d) s = rw (a, put_other w i x j d) (rw a at (g (λ e _ _. d e)))
      go (inl a) (inl e) (inl s) = rw a (rw (e, put_here w i x (ltb-true _ _ s)) (f e (ltb-true j w.len a)))
      go (inl a) (inl e) (inr s) = rw (a, set_out w.slots i x (ltb-false _ _ s)) (rw a at (g (λ _ _ l. omega (arith, tests))))

  pub put_at : i < w.len → w.len ≤ size w → at_place (put_slot w i x) i ≡ x
  put_at h l = put_cases (λ (y : Slot). y ≡ x) i (λ _ _. refl) (λ out. absurd (out refl h (omega arith)))

  pub put_elsewhere : (j : ℕ) → (j ≡ i → ⊥) → at_place (put_slot w i x) j ≡ at_place w j
  put_elsewhere j d = put_cases (λ (y : Slot). y ≡ at_place w j) j (λ e _. absurd (d e)) (λ _. refl)

-- ── a range swept ──
module _ (f : ℕ → Slot → Slot) (from to : ℕ) (w : Window) where
  pub sweep_cases : (P : Slot → Type 0) (i : ℕ) → w.len ≤ size w → (from ≤ i → i < to → i < w.len → P (f i (at_place w i)))
      → ((from ≤ i → i < to → i < w.len → ⊥) → P (at_place w i)) → P (at_place (sweep f from to w) i)
  unfolding at_place
  sweep_cases P i h a b = go (decide (ltb i w.len)) (decide (leb from i)) (decide (ltb i to))
    where
      go : (ltb i w.len ≡ true) ⊎ (ltb i w.len ≡ false) → (leb from i ≡ true) ⊎ (leb from i ≡ false) → (ltb i to ≡ true) ⊎ (ltb i to ≡ false)
          → P (pick (ltb i w.len) (get_or (over f no_slot from to w.slots) i no_slot) null_slot)
      go (inr e) p q = rw e (rw e at (b (λ _ _ l. omega (arith, tests))))
      go (inl e) (inr p) q = rw (e, sweep_before f from to w i (leb-false _ _ p)) (rw e at (b (λ l _ _. omega (arith, tests))))
      go (inl e) (inl p) (inr q) = rw (e, sweep_after f from to w i (ltb-false _ _ q)) (rw e at (b (λ _ l _. omega (arith, tests))))
      go (inl e) (inl p) (inl q) =
          rw (e, sweep_in f from to w i (leb-true _ _ p) (ltb-true _ _ q) (omega (arith, tests))) (rw e at (a (leb-true _ _ p) (ltb-true _ _ q) (ltb-true _ _ e)))

  pub sweep_at : (i : ℕ) → w.len ≤ size w → from ≤ i → i < to → i < w.len → at_place (sweep f from to w) i ≡ f i (at_place w i)
  sweep_at i h a b l = sweep_cases (λ (x : Slot). x ≡ f i (at_place w i)) i h (λ _ _ _. refl) (λ z. absurd (z a b l))

-- ── what a change keeps of every slot, it keeps of the slot at a place ──
module _ {A : Type 0} (p : Slot → A) where
  pub put_keeps : (w : Window) (i j : ℕ) (x : Slot) → p x ≡ p (slot_at w i) → p (at_place (put_slot w i x) j) ≡ p (at_place w j)
  put_keeps w i j x e =
      put_cases w i x (λ (y : Slot). p y ≡ p (at_place w j)) j (λ z l. e ∙ ap p (sym (at_here w i (omega arith)) ∙ ap (at_place w) (sym z))) (λ _. refl)

  pub sweep_keeps : (f : ℕ → Slot → Slot) → ((i : ℕ) (s : Slot) → p (f i s) ≡ p s) → (from to : ℕ) (w : Window) (j : ℕ)
      → p (at_place (sweep f from to w) j) ≡ p (at_place w j)
  unfolding at_place
  sweep_keeps f h from to w j =
      pick_cases (λ (y : Slot). p (pick (ltb j w.len) (slot_at (sweep f from to w) j) null_slot) ≡ p y) (ltb j w.len)
      (λ t. rw t
      (sweep_each f from to w (λ (y : Slot). p y ≡ p (slot_at w j)) j refl (λ _ _ _. h j (slot_at w j)) (λ l. ap p (sym (get_or-eq_default w.slots no_slot {n = j} l)))))
      (λ t. rw t)
