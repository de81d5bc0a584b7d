-- The window with the slots that a PrepareReply appends, and the last place that a Prepare covers.
use Rattle.std.specs.Prelude.{◌≡◌, ℕ, ◌+◌, ◌≤◌, ◌<◌, ltb}
use Rattle.std.proofs.Common.{le_refl, arith}
use Rattle.base.specs.Pick.{larger_below}
use Rattle.base.specs.Find.{last_below}
use Rattle.slots.specs.declared.Slot.{Slot}
use Rattle.slots.specs.Slots.{no_slot}
use Rattle.window.specs.declared.Window.{Window}
use Rattle.window.specs.Window.{slot_at, last_used}
use Rattle.window.specs.Places.{size, filled_long, filled_low, filled_has, filled_most, filled_each}
use Rattle.window.specs.ByPlace.{at_place, filled_cases}
use Rattle.replica.specs.declared.Replica.{Replica}
use Rattle.replica.specs.Messages.{prepare_top, appended_as, appended}

module _ (r : Replica) (i j : ℕ) where
  pub appended_long : size (appended r i j) ≡ size r.window
  appended_long = filled_long (appended_as r j) r.window (i + 1)

  pub appended_low : r.window.len ≤ (appended r i j).len
  appended_low = filled_low (appended_as r j) r.window (i + 1)

  pub appended_has : i < (appended r i j).len
  appended_has = omega (arith, filled_has (appended_as r j) r.window (i + 1))

  pub appended_most : (k : ℕ) → r.window.len ≤ k → i < k → (appended r i j).len ≤ k
  appended_most k p q = filled_most (appended_as r j) r.window (i + 1) k p (omega arith)

  pub appended_each : (P : Slot → Type 0) (k : ℕ) → k < (appended r i j).len → (k < r.window.len → P (slot_at r.window k)) → P (appended_as r j)
      → (size r.window ≤ k → P no_slot)
      → P (slot_at (appended r i j) k)
  appended_each P k l old new past = filled_each (appended_as r j) r.window (i + 1) P k l old new past

pub appended_cases : (P : Slot → Type 0) (r : Replica) (i j k : ℕ) → i < size r.window → (r.window.len ≤ k → P (appended_as r j)) → P (at_place r.window k)
    → P (at_place (appended r i j) k)
appended_cases P r i j k h new old = filled_cases P (appended_as r j) r.window (i + 1) k (omega arith) new old

-- the last place that a Prepare covers is in the window
pub top_within : (w : Window) (from : ℕ) → from < w.len → prepare_top w from < w.len
unfolding last_used
top_within w from h = larger_below from (last_used w) w.len h (last_below (λ i. ltb 0 (slot_at w i).status) 0 w.len w.len (omega arith) (le_refl _))
