use mathlib.Core.Path.{◌∙◌}
use Rattle.members.specs.Sets.{has, count, count_in}
use Rattle.members.specs.Table.{table_counts}
use Rattle.members.proofs.count.Goals as goal

-- here the test is computed over the whole table: with one wrong entry `all_right` is false, and nothing is found
pub returns : goal.returns
unfolding has count count_in
returns c = c.from.ensures ∙ search table_counts
