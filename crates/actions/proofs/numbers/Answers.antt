use Rattle.std.proofs.Common.{◌∙◌, arith}
use Rattle.actions.specs.ReadLaws.{row_made}
use Rattle.actions.proofs.numbers.Goals as goal

pub returns : goal.returns
returns c =
    row_made c.args.a c.args.keys _ _ (omega (arith, c.well_formed))
    (c.copy_from_slice.ensures.after ∙ c.own_numbers.ensures) c.copy_from_slice-2.ensures.after
