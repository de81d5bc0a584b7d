use mathlib.Core.Path.{refl, ◌∙◌}
use native.Mathlib.Omega.{arith}
use Rattle.window.specs.Laws.{last_open_within}
use Rattle.window.specs.BoundedLaws.{last_open_in_lem}
use Rattle.replica.specs.ActingLaws.{refused_told, told}
use Rattle.replica.specs.ElectionLaws.{step_below, step_full, step_on, lead_fits}
use Rattle.replica.proofs.Replica.step_up.Goals as goal

pub returns-then-trigger-sc : goal.returns-then-trigger-sc
returns-then-trigger-sc c =
    refused_told _ c.args.self c.refused.ensures (step_below c.args.self _ c.requires c.args.ballot c.if-trigger-sc.true)

pub returns-then-open-ge-SLOTS : goal.returns-then-open-ge-SLOTS
returns-then-open-ge-SLOTS c =
    refused_told _ c.args.self c.refused-then-open-ge-SLOTS.ensures (step_full c.args.self _ c.requires c.args.ballot c.if-trigger-sc.false c.if-open-ge-SLOTS.true)

pub overflow_add-endprep : goal.overflow_add-endprep
overflow_add-endprep c =
    omega (arith, c.requires.low, c.requires.within, c.last_open-last.ensures ∙ last_open_in_lem c.args.self.window c.requires.within, last_open_within c.args.self.window)

pub lead_on-requires : goal.lead_on-requires
lead_on-requires c =
    lead_fits c.args.self _ _ c.requires (omega (arith, c.if-open-ge-SLOTS.false)) c.grow_to-w.ensures

pub returns : goal.returns
returns c =
    told (step_on c.args.self _ c.requires c.args.ballot c.if-trigger-sc.false c.if-open-ge-SLOTS.false c.last_open-last.ensures c.grow_to-w.ensures) c.lead_on.ensures
