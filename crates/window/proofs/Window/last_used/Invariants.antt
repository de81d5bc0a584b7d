use mathlib.Core.Path.{◌≡◌}
use Prim.Native.Nat.{◌-◌, ◌≤◌}
use lib.Dec.{ltb}
use Rattle.base.specs.Find.{last}
use Rattle.window.specs.Window.{slot_at}
use Rattle.window.proofs.Window.last_used.Given as goal

abbrev pub invariant-loop-i : goal.invariant-loop-i
invariant-loop-i l = (l.found ≡ last (λ j. ltb 0 (slot_at l.self j).status) 0 l.i) × (l.i ≤ l.self.len)

abbrev pub decreases-loop-i : goal.decreases-loop-i
decreases-loop-i l = l.self.len - l.i
