use Rattle.std.proofs.Common.{arith}
use Rattle.play.specs.LineLaws.{Shows-none, Shows-more, Shows-all}
use Rattle.play.proofs.lines.show_all.Goals as goal

pub loop-i-init : goal.loop-i-init
loop-i-init c = (Shows-none _ _ _ _, omega arith)

pub loop-i-preserved : goal.loop-i-preserved
loop-i-preserved c =
    let l = c.loop-i in
    (Shows-more _ _ l.i _ _ _ _ _ _ l.invariant.0 c.show_at-run.ensures, omega arith)

pub returns : goal.returns
returns c = let l = c.loop-i in Shows-all _ _ l.i _ _ _ _ (omega arith) l.invariant.0
