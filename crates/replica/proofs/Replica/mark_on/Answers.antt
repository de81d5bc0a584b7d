use native.Mathlib.Omega.{arith}
use Rattle.window.specs.RangeLaws.{swept_in}
use Rattle.replica.specs.ElectionLaws.{mark_few, mark_first, mark_found, mark_told}
use Rattle.replica.proofs.Replica.mark_on.Goals as goal

pub overflow_sub-left : goal.overflow_sub-left
overflow_sub-left c =
    mark_few c.args.self c.args.w c.args.from c.args.stop c.requires (swept_in c.mark_range-p.ensures c.requires.ranged)

pub overflow_add-first : goal.overflow_add-first
overflow_add-first c =
    omega (arith, c.requires.ranged.low, mark_found c.args.self c.args.w c.args.from c.args.stop c.requires (swept_in c.mark_range-p.ensures c.requires.ranged) c.stop-open.ensures)

pub returns : goal.returns
returns c =
    let a = c.args in
    mark_told a.self a.w a.from a.stop c.requires (swept_in c.mark_range-p.ensures c.requires.ranged) c.stop-open.ensures
