use mathlib.Core.Path.{sym, ap, ◌∙◌}
use Rattle.base.specs.Pick.{refuted, granted}
use Rattle.std.specs.Prelude.{not}
use Rattle.replica.specs.SeenLaws.{refused_some, carried}
use Rattle.replica.specs.AdmitLaws.{peer_shut, peer_none, peer_some}
use Rattle.replica.proofs.Replica.from_peer.Goals as goal

pub returns-in_err-test_ready : goal.returns-in_err-test_ready
returns-in_err-test_ready c =
    let a = c.args in
    carried _ _ c.from_residual.ensures.1 ∙ peer_shut a.self a.room (refused_some _) a.peer c.in_err-test_ready.ensures

pub returns-then-not-is_peer : goal.returns-then-not-is_peer
returns-then-not-is_peer c =
    let a = c.args in
    peer_none a.self a.room a.peer (sym c.in_ok-test_ready.ensures) (refuted c.is_peer.ensures (ap not c.if-not-is_peer.true))

pub returns : goal.returns
returns c =
    let a = c.args in
    peer_some a.self a.room a.peer (sym c.in_ok-test_ready.ensures) (granted c.is_peer.ensures (ap not c.if-not-is_peer.false))
