use mathlib.Core.Path.{refl}
use Rattle.actions.specs.declared.Action.TheVariants.{Execute}
use Rattle.actions.specs.Actions.{act}
use Rattle.window.specs.Laws.{Turns-none, Turns-one, put_one, pass_empty, pass_other, pass_some}
use Rattle.window.proofs.sweeps.PassingSweep.turn.Goals as goal

pub returns-then-batch-eq0 : goal.returns-then-batch-eq0
returns-then-batch-eq0 c =
    let a = c.args in
    Turns-none _ _ _ _ _ _ c.passed-t.ensures (pass_empty a.slot a.s c.if-batch-eq0.true) refl

pub returns-then-s-ne-COMMITTED : goal.returns-then-s-ne-COMMITTED
returns-then-s-ne-COMMITTED c =
    let a = c.args in
    Turns-none _ _ _ _ _ _ c.passed-t.ensures (pass_other a.slot a.s c.if-batch-eq0.false c.if-s-ne-COMMITTED.true) refl

pub returns : goal.returns
returns c =
    let a = c.args in
    let order = act (Execute (record { slot = a.slot; batch = a.s.batch.id; count = a.s.batch.count })) a.s.batch.keys in
    Turns-one _ _ _ _ _ _ c.passed-t.ensures order (pass_some a.slot a.s c.if-batch-eq0.false c.if-s-ne-COMMITTED.false)
    (put_one _ _ c.requires order _ c.put_action.ensures)
