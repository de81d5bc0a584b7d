use Rattle.std.proofs.Common.{◌-◌, ◌%◌, refl, arith}
use Rattle.feed.specs.Laws.{fronts_none, fronts_all}
use Rattle.feed.proofs.keep_rest.Goals as goal

pub returns-then-bytes-n : goal.returns-then-bytes-n
returns-then-bytes-n c = fronts_none _ _ c.if-bytes-n.true

pub returns : goal.returns
returns c = let n = c.args.n in fronts_all _ n _ (n - (n - n % 256)) _ (omega arith) refl (omega arith) c.copy_within.ensures.after
