use Rattle.std.proofs.Common.{ap}
use Rattle.replica.specs.Seen.{seen}
use Rattle.replica.specs.ActingLaws.{kept-Told, same_told}
use Rattle.reader.specs.Laws.{step_reads}
use Rattle.play.specs.Laws.{plays_at, plays_malformed, plays_named, plays_number}
use Rattle.play.proofs.calls.play_at.Goals as goal
use Rattle.play.proofs.calls.play_at.Goals.{in_default-via-in-Ok+else-not-is_malformed, in_default-via-in_default}

pub returns-in-Ok : goal.returns-in-Ok
returns-in-Ok c =
    let a = c.args in
    same_told (plays_at a.r _ _ a.at _ _ (step_reads _ a.at _ c.read_at.ensures) c.sum_is_right-right.ensures)
    (same_told (plays_named a.r _ _ _ _ c.is_malformed.ensures c.if-not-is_malformed.true) c.call.ensures)

pub returns-in_default : goal.returns-in_default
returns-in_default c =
    let a = c.args in
    same_told (plays_at a.r _ _ a.at _ _ (step_reads _ a.at _ c.read_at.ensures) c.sum_is_right-right.ensures)
    (kept-Told 13 a.r (ap seen c.refused.ensures) (elim c.in_default.branch [
      | in_default-via-in-Ok+else-not-is_malformed w ↦ plays_malformed a.r _ _ _ _ w.is_malformed.ensures w.if-not-is_malformed.false
      | in_default-via-in_default w ↦ plays_number a.r _ _ _ w.in_default.ensures.1
    ]))
