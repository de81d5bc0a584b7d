use mathlib.Core.Path.{◌≡◌}
use Prim.Native.Nat.{◌+◌, ◌-◌, ◌*◌, ◌≤◌}
use lib.ListN.{length}
use Rattle.window.specs.Sweeps.{Ranged, Swept}
use Rattle.window.proofs.Window.sweep.Given as goal

abbrev pub invariant-loop-i : goal.invariant-loop-i
invariant-loop-i g l =
    Swept (λ j s. g.S.Sweep.after l.sweep s) (λ j s. g.S.Sweep.acts l.sweep (l.start + j) s) l.from l.i l.k l.initial.self l.initial.room (record { next = l.n; window = l.self }) l.room
    × (Ranged l.from l.to l.k l.initial.room l.start × ((l.from ≤ l.i) × ((l.i ≤ l.to) × ((l.n ≤ l.k + 2 * (l.i - l.from)) × (length l.room ≡ length l.initial.room)))))

abbrev pub decreases-loop-i : goal.decreases-loop-i
decreases-loop-i g l = l.to - l.i
