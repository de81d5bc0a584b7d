use Rattle.std.proofs.Common.{arith}
use Rattle.words.specs.DecimalLaws.{number_written, number_left}
use Rattle.words.proofs.text.put_number.Goals as goal

pub returns-then-text-width : goal.returns-then-text-width
returns-then-text-width c =
    let a = c.args in
    number_left a.text.now a.at a.n _ c.width_of-width.ensures (omega arith)

pub returns : goal.returns
returns c =
    let a = c.args in
    number_written a.text.now a.at a.n _ c.width_of-width.ensures _ (omega arith) c.spell.ensures
