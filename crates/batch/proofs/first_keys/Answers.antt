use Rattle.std.proofs.Common.{rules}
use Rattle.batch.specs.Laws.{first_copied}
use Rattle.batch.proofs.first_keys.Goals as goal

pub returns : goal.returns
returns c = first_copied c.min-n.result c.args.count c.args.keys c.copy_from_slice.new.self (search rules) c.min-n.ensures c.copy_from_slice.ensures.after
