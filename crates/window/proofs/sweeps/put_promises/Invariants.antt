use Rattle.window.specs.Sweeps.{Ranged, Promises}
use mathlib.Core.Path.{◌≡◌}
use Prim.Native.Nat.{◌-◌, ◌≤◌}
use lib.ListN.{length}
use Rattle.window.proofs.sweeps.put_promises.Given as goal

abbrev pub invariant-loop-i : goal.invariant-loop-i
invariant-loop-i l =
    Promises l.from l.i l.k l.start l.ballot l.initial.room l.n l.room
    × (Ranged l.from l.to l.k l.initial.room l.start × ((l.from ≤ l.i) × ((l.i - l.from ≤ l.to - l.from) × (length l.room ≡ length l.initial.room))))

abbrev pub decreases-loop-i : goal.decreases-loop-i
decreases-loop-i l = l.to - l.i
