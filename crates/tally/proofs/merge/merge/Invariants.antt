use Prim.Native.Nat.{◌-◌}
use Rattle.tally.specs.Turns.{Merging}
use Rattle.tally.proofs.merge.merge.Given as goal

abbrev pub invariant-loop-i : goal.invariant-loop-i
invariant-loop-i l = Merging l.initial.held l.reply l.i l.held

abbrev pub decreases-loop-i : goal.decreases-loop-i
decreases-loop-i l = l.n - l.i
