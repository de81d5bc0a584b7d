use mathlib.Core.Path.{◌∙◌}
use native.Mathlib.Omega.{arith}
use Rattle.tally.specs.Turns.{Merging-turn, merging_stop, merging_end}
use Rattle.tally.proofs.merge.merge.Goals as goal

pub returns-in_default : goal.returns-in_default
returns-in_default c =
    c.refused-in_default.ensures
    ∙ merging_stop _ _ c.if-n-gt-KEYS.false c.if-reply-gt-KEYS.false c.if-n-reply.false c.loop-i.i _ c.loop-i.invariant _ (omega arith)
    c.merge_key.ensures c.in_default.is

pub loop-i-preserved : goal.loop-i-preserved
loop-i-preserved c =
    Merging-turn _ _ c.loop-i.i _ _ _ c.loop-i.invariant (omega arith) c.merge_key.ensures c.in-Ok.is

pub returns : goal.returns
returns c =
    merging_end _ _ c.if-n-gt-KEYS.false c.if-reply-gt-KEYS.false c.if-n-reply.false c.loop-i.i _ c.loop-i.invariant (omega arith)
