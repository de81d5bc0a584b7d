use mathlib.Core.Path.{refl}
use Rattle.actions.specs.declared.Action.TheVariants.{CommitSlot}
use Rattle.actions.specs.Actions.{bare}
use Rattle.window.specs.Laws.{Turns-none, Turns-one, put_one, mark_none, mark_some}
use Rattle.window.proofs.sweeps.MarkingSweep.turn.Goals as goal

pub returns-then-s-ge-COMMITTED : goal.returns-then-s-ge-COMMITTED
returns-then-s-ge-COMMITTED c =
    let a = c.args in
    Turns-none _ _ _ _ _ _ c.marked-t.ensures (mark_none a.slot a.s c.if-s-ge-COMMITTED.true) refl

pub returns : goal.returns
returns c =
    let entry = bare (CommitSlot (record { slot = c.args.slot; ballot = c.args.s.ballot })) in
    Turns-one _ _ _ _ _ _ c.marked-t.ensures entry (mark_some c.args.slot c.args.s c.if-s-ge-COMMITTED.false)
    (put_one _ _ c.requires entry _ c.put_action.ensures)
