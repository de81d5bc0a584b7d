use mathlib.Core.Path.{ap}
use Rattle.replica.specs.Seen.{answer_number, action_count}
use Rattle.replica.specs.SeenLaws.{failed}
use Rattle.replica.specs.CompletionLaws.{accepted_settles, accepted_refused, accepted_bars, accepted_moved}
use Rattle.replica.proofs.Replica.accepted_done.Goals as goal

pub settle-h-requires : goal.settle-h-requires
settle-h-requires c =
    accepted_settles c.args.self c.args.i c.args.slot c.args.ballot _ _ c.requires c.decide_accepted-d.ensures

pub returns-in_default : goal.returns-in_default
returns-in_default c =
    let a = c.args in
    accepted_refused a.self a.i a.slot a.ballot _ _ c.decide_accepted-d.ensures c.settle-h.ensures (failed _ c.in_default.not-Ok)

pub moved_accept-requires : goal.moved_accept-requires
moved_accept-requires c =
    let a = c.args in
    accepted_bars a.self a.i a.slot a.ballot _ _ c.decide_accepted-d.ensures c.settle-h.ensures c.requires.bars

pub returns : goal.returns
returns c =
    let a = c.args in
    rw (ap action_count c.in-Ok.is) at
    (accepted_moved a.self a.i a.slot a.ballot _ _ c.decide_accepted-d.ensures c.settle-h.ensures _ (ap answer_number c.in-Ok.is) c.moved_accept.ensures)
