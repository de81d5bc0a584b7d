use native.Mathlib.Omega.{arith}
use mathlib.Core.Path.{sym, ◌∙◌}
use Rattle.replica.specs.SeenLaws.{refused_some, carried}
use Rattle.replica.specs.AdmitLaws.{member_shut, member_none, member_some}
use Rattle.replica.proofs.Replica.from_member.Goals as goal

pub returns-in_err-test_ready : goal.returns-in_err-test_ready
returns-in_err-test_ready c =
    let a = c.args in
    carried _ _ c.from_residual.ensures.1 ∙ member_shut a.self a.room (refused_some _) a.member c.in_err-test_ready.ensures

pub returns-then-self-member : goal.returns-then-self-member
returns-then-self-member c =
    let a = c.args in
    member_none a.self a.room a.member (sym c.in_ok-test_ready.ensures) c.if-self-member.true

pub returns : goal.returns
returns c =
    let a = c.args in
    member_some a.self a.room a.member (sym c.in_ok-test_ready.ensures) (omega arith)
