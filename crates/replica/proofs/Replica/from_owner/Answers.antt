use mathlib.Core.Path.{sym, ap, ◌∙◌}
use Rattle.base.specs.Pick.{refuted, granted}
use Rattle.std.specs.Prelude.{not}
use Rattle.replica.specs.SeenLaws.{refused_some, carried}
use Rattle.replica.specs.AdmitLaws.{owner_shut, owner_none, owner_some}
use Rattle.replica.proofs.Replica.from_owner.Goals as goal

pub returns-in_err-from_peer : goal.returns-in_err-from_peer
returns-in_err-from_peer c =
    let a = c.args in
    carried _ _ c.from_residual.ensures.1 ∙ owner_shut a.self a.room (refused_some _) a.peer a.ballot c.in_err-from_peer.ensures

pub returns-then-not-is_owner : goal.returns-then-not-is_owner
returns-then-not-is_owner c =
    let a = c.args in
    owner_none a.self a.room a.peer a.ballot (sym c.in_ok-from_peer.ensures) (refuted c.is_owner.ensures (ap not c.if-not-is_owner.true))

pub returns : goal.returns
returns c =
    let a = c.args in
    owner_some a.self a.room a.peer a.ballot (sym c.in_ok-from_peer.ensures) (granted c.is_owner.ensures (ap not c.if-not-is_owner.false))
