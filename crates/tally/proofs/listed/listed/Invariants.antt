use mathlib.Core.Path.{◌≡◌}
use Prim.Native.Nat.{◌-◌}
use Rattle.std.specs.Prelude.{replicate}
use Rattle.base.specs.Over.{over}
use Rattle.tally.specs.declared.KeyBest.{KeyBest}
use Rattle.tally.specs.Merge.{no_best}
use Rattle.tally.specs.Listed.{best_of}
use Rattle.tally.proofs.listed.listed.Given as goal

abbrev pub invariant-loop-i : goal.invariant-loop-i
invariant-loop-i l = l.bests ≡ over (λ i (k : KeyBest). best_of l.entries i) no_best 0 l.i (replicate 8 no_best)

abbrev pub decreases-loop-i : goal.decreases-loop-i
decreases-loop-i l = 8 - l.i
