use Rattle.std.proofs.Common.{refl, arith}
use Rattle.play.specs.LineLaws.{Items-start, Items-turn, Items-all}
use Rattle.play.proofs.lines.put_items.Goals as goal

pub loop-i-init : goal.loop-i-init
loop-i-init c =
    (Items-start _ _ c.args.at c.requires, refl)

pub loop-i-preserved : goal.loop-i-preserved
loop-i-preserved c =
    (Items-turn _ _ _ c.loop-i.i _ _ _ _ _ c.loop-i.invariant.0 (omega arith) c.end_of-end.ensures c.put_item-place.ensures, omega arith)

pub returns : goal.returns
returns c = let l = c.loop-i in Items-all _ _ _ l.i _ _ l.invariant.0 (omega arith)
