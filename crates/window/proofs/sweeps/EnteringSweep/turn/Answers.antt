use mathlib.Core.Path.{refl}
use Rattle.actions.specs.declared.Action.TheVariants.{AcceptData, Accept}
use Rattle.actions.specs.Actions.{act}
use Rattle.decide.specs.Decide.{proposal}
use Rattle.window.specs.Laws.{Turns-none, Turns-two, put_two, enter_none, enter_some}
use Rattle.window.proofs.sweeps.EnteringSweep.turn.Goals as goal

pub returns-then-s-ne-PREPARING : goal.returns-then-s-ne-PREPARING
returns-then-s-ne-PREPARING c =
    let a = c.args in
    Turns-none _ _ _ _ _ _ c.entered-t.ensures (enter_none a.slot a.self.ballot a.s c.if-s-ne-PREPARING.true) refl

pub returns : goal.returns
returns c =
    let a = c.args in
    let content = proposal a.slot a.self.ballot a.s.batch in
    let entry = act (AcceptData content) a.s.batch.keys in
    let message = act (Accept content) a.s.batch.keys in
    Turns-two _ _ _ _ _ _ c.entered-t.ensures entry message (enter_some a.slot a.self.ballot a.s c.if-s-ne-PREPARING.false)
    (put_two _ _ c.requires entry _ _ message c.put_action.ensures c.put_action-2.ensures)
