use Rattle.std.proofs.Common.{arith}
use Rattle.play.specs.LineLaws.{row_past, row_fits}
use Rattle.play.proofs.lines.put_row.Goals as goal

pub returns-then-most-row : goal.returns-then-most-row
returns-then-most-row c = let a = c.args in row_past a.text.now a.at a.row.now (omega arith)

pub returns-then-text-need : goal.returns-then-text-need
returns-then-text-need c = let a = c.args in row_past a.text.now a.at a.row.now (omega arith)

pub returns : goal.returns
returns c =
    let a = c.args in
    row_fits a.text.now a.at a.row.now _ _ (omega arith) c.put_items.ensures
