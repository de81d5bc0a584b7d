use Rattle.base.specs.Pick.{refuted, granted}
use Rattle.replica.specs.MessageLaws.{down_none, down_one}
use Rattle.std.proofs.Common.{ap}
use Rattle.std.specs.Prelude.{not}
use Rattle.replica.proofs.messages.put_down.Goals as goal

pub returns-then-not-steps_down : goal.returns-then-not-steps_down
returns-then-not-steps_down c =
    let a = c.args in
    down_none a.sc a.ballot _ (refuted c.steps_down.ensures (ap not c.if-not-steps_down.true))

pub returns : goal.returns
returns c =
    down_one c.args.sc c.args.ballot _ _ (granted c.steps_down.ensures (ap not c.if-not-steps_down.false)) c.requires c.put_action.ensures
