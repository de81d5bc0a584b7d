use borrow.Author.Tests.{ne_eqb}
use mathlib.Core.Path.{refl, sym, ◌∙◌}
use lib.ListN.{length}
use Rattle.replica.specs.SeenLaws.{refused_some}
use Rattle.replica.specs.AdmitLaws.{member_open}
use Rattle.replica.specs.ActingLaws.{refused_told, ignored_told, told}
use Rattle.replica.specs.ElectionLaws.{timeout_refused, timeout_ignored, timeout_goes, step_spent, Ready-fits}
use Rattle.replica.proofs.Replica.timeout.Goals as goal

pub returns-in-Err : goal.returns-in-Err
returns-in-Err c =
    let a = c.args in
    refused_told _ a.self c.refused.ensures (timeout_refused a.self (length a.room.now) a.source _ c.in-Err.ensures (refused_some _))

pub returns-then-ignores_timeout : goal.returns-then-ignores_timeout
returns-then-ignores_timeout c =
    let a = c.args in
    ignored_told a.self c.ignored.ensures
    (timeout_ignored a.self (length a.room.now) a.source _ c.in_default.ensures refl _ c.ignores_timeout.ensures c.if-ignores_timeout.true)
    (member_open a.self (length a.room.now) a.source c.in_default.ensures).sum

pub returns-in_default-next_ballot : goal.returns-in_default-next_ballot
returns-in_default-next_ballot c =
    let a = c.args in
    refused_told _ a.self c.refused-in_default-next_ballot.ensures
    (timeout_goes a.self (length a.room.now) a.source _ c.in_default.ensures refl _ c.ignores_timeout.ensures c.if-ignores_timeout.false
    c.next_ballot.ensures c.in_default-next_ballot.is ∙ step_spent a.self)

pub step_up-requires : goal.step_up-requires
step_up-requires c =
    let a = c.args in
    Ready-fits a.self _ (member_open a.self (length a.room.now) a.source c.in_default.ensures)

pub returns : goal.returns
returns c =
    let a = c.args in
    told
    (timeout_goes a.self (length a.room.now) a.source _ c.in_default.ensures refl _ c.ignores_timeout.ensures c.if-ignores_timeout.false
    c.next_ballot.ensures c.in-Some.is)
    c.step_up.ensures
