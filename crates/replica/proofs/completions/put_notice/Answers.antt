use Rattle.base.specs.Pick.{refuted, granted}
use Rattle.actions.specs.declared.Action.TheVariants.{CommitNotice}
use Rattle.actions.specs.Actions.{bare}
use Rattle.window.specs.Laws.{put_one}
use Rattle.replica.specs.CompletionLaws.{notice_still, notice_none, notice_one}
use Rattle.std.proofs.Common.{ap}
use Rattle.std.specs.Prelude.{not}
use Rattle.replica.proofs.completions.put_notice.Goals as goal

pub returns-then-still : goal.returns-then-still
returns-then-still c = let a = c.args in notice_still a.sc a.bar a.end a.still a.n _ c.if-still.true

pub returns-then-not-notifies : goal.returns-then-not-notifies
returns-then-not-notifies c =
    let a = c.args in
    notice_none a.sc a.bar a.end a.still a.n _ c.if-still.false (refuted c.notifies.ensures (ap not c.if-not-notifies.true))

pub returns : goal.returns
returns c =
    let a = c.args in
    let notice = bare (CommitNotice (record { ballot = a.sc.bal_max_seen; bar = a.bar })) in
    notice_one a.sc a.bar a.end a.still a.n _ _ c.if-still.false (granted c.notifies.ensures (ap not c.if-not-notifies.false))
    (put_one _ _ c.requires notice _ c.put_action.ensures)
