use native.Mathlib.Omega.{arith}
use Rattle.std.specs.Prelude.{replicate}
use Rattle.base.specs.Over.{over_more}
use Rattle.tally.specs.declared.KeyBest.{KeyBest}
use Rattle.tally.specs.Merge.{no_best}
use Rattle.tally.specs.Listed.{best_of}
use Rattle.tally.proofs.listed.listed.Goals as goal

pub loop-i-preserved : goal.loop-i-preserved
loop-i-preserved c =
    rw (over_more (λ i (k : KeyBest). best_of c.args.entries i) no_best 0 c.loop-i.i (replicate 8 no_best) (omega arith), c.best_of.ensures, c.loop-i.invariant)
