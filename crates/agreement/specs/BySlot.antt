-- A log seen by slot number: one accessor, null wherever the log has no slot.
use Rattle.std.specs.Prelude.{◌≡◌, true, false, ◌⊎◌, ℕ, ◌+◌, ◌-◌, ◌≤◌, ltb}
use Rattle.std.proofs.Common.{subst, inl, inr, arith, le-ltb}
use Rattle.base.specs.Pick.{pick, decide, tests}
use Rattle.slots.specs.declared.Slot.{Slot}
use Rattle.slots.specs.Slots.{null_slot}
use Rattle.window.specs.declared.Window.{Window}
use Rattle.window.specs.ByPlace.{at_place}

-- slot s of a log that begins at `start`: null below it and past its end
unfoldable pub numbered : ℕ → Window → ℕ → Slot
numbered start w s = pick (ltb s start) null_slot (at_place w (s - start))

-- ── by number and by place ──
pub numbered_at : (start : ℕ) (w : Window) (i : ℕ) → numbered start w (start + i) ≡ at_place w i
unfolding numbered
numbered_at start w i = let e : start + i - start ≡ i = omega arith in rw (le-ltb (start + i) start (omega arith), e)

-- the slot at a number that is not below the start
pub numbered_place : (start : ℕ) (w : Window) (s : ℕ) → start ≤ s → numbered start w s ≡ at_place w (s - start)
numbered_place start w s l =
    let e : start + (s - start) ≡ s = omega arith in subst (λ (n : ℕ). numbered start w n ≡ at_place w (s - start)) e (numbered_at start w (s - start))

-- what holds of two null slots, and of each place before and after, holds of every number
pub by_place : (P : ℕ → Slot → Slot → Type 0) (start : ℕ) (w w' : Window) → ((s : ℕ) → P s null_slot null_slot) → ((i : ℕ) → P (start + i) (at_place w i) (at_place w' i))
    → (s : ℕ) → P s (numbered start w s) (numbered start w' s)
unfolding numbered
by_place P start w w' n h s = go (decide (ltb s start))
  where
    go : (ltb s start ≡ true) ⊎ (ltb s start ≡ false) → P s (pick (ltb s start) null_slot (at_place w (s - start))) (pick (ltb s start) null_slot (at_place w' (s - start)))
    go (inl e) = rw e (n s)
    go (inr e) = let q : start + (s - start) ≡ s = omega (arith, tests) in rw e (rw q at (h (s - start)))
