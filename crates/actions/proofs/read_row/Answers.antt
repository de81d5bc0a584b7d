use Rattle.std.proofs.Common.{ap, ◌∙◌}
use Rattle.actions.specs.Actions.{keys_for}
use Rattle.actions.specs.Reading.{seen}
use Rattle.actions.specs.ReadLaws.{none_kept, some_kept}
use Rattle.actions.proofs.read_row.Goals as goal

pub returns-in_err-what : goal.returns-in_err-what
returns-in_err-what c = ap seen c.from_residual.ensures ∙ none_kept c.args.nums c.in_err-what.ensures

pub returns : goal.returns
returns c =
    some_kept c.args.nums _ _ c.in_ok-what.ensures (c.keys_for-keys.ensures ∙ ap (keys_for c.in_ok-what.what) c.row_keys.ensures)
