use mathlib.Core.Path.{◌≡◌}
use Prim.Native.Nat.{◌-◌, ◌≤◌}
use Rattle.decide.specs.Bars.{least_majority}
use Rattle.decide.proofs.PeerBars.least_majority.Given as goal

abbrev pub invariant-loop-m : goal.invariant-loop-m
invariant-loop-m l = (l.least ≡ least_majority l.sc l.self l.m) × (l.m ≤ 9)

abbrev pub decreases-loop-m : goal.decreases-loop-m
decreases-loop-m l = 9 - l.m
