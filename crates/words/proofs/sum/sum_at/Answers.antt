use Rattle.std.proofs.Common.{◌≡◌, sym, refl, ◌∙◌, arith}
use Rattle.words.specs.Sums.{total}
use Rattle.words.specs.SumLaws.{sum_here, sum_turn}
use Rattle.words.proofs.sum.sum_at.Goals as goal

pub loop-i-init : goal.loop-i-init
unfolding total
loop-i-init c = (refl, omega arith)

pub loop-i-preserved : goal.loop-i-preserved
loop-i-preserved c =
    let a = c.args in
    (sum_turn a.bytes.now a.at a.out c.loop-i.i _ _ c.loop-i.invariant.0 c.summand-sum.ensures, omega arith)

pub returns : goal.returns
returns c =
    let a = c.args in
    let e : c.loop-i.i ≡ a.n = omega arith in
    rw e at c.loop-i.invariant.0 ∙ sym (sum_here a.bytes.now a.at a.n a.out (omega arith))
