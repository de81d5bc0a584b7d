use Rattle.std.proofs.Common.{sym, ap, ◌∙◌, arith}
use Rattle.actions.specs.Reading.{read_row}
use Rattle.actions.specs.ReadLaws.{read_in}
use Rattle.actions.proofs.get_action.Goals as goal

pub returns : goal.returns
returns c =
    c.read_row.ensures ∙ ap read_row c.row_at.ensures ∙ sym (read_in _ c.args.k (omega arith) (omega arith))
