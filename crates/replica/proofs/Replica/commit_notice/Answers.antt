use borrow.Author.Tests.{ne_eqb}
use mathlib.Core.Path.{refl, sym, ◌∙◌}
use native.Mathlib.Omega.{arith}
use lib.ListN.{length}
use Rattle.replica.specs.SeenLaws.{refused_some}
use Rattle.replica.specs.AdmitLaws.{owner_open}
use Rattle.replica.specs.ActingLaws.{refused_told, ignored_told, told}
use Rattle.replica.specs.ElectionLaws.{notice_refused, notice_other, notice_known, notice_past, notice_marks, mark_fits}
use Rattle.replica.proofs.Replica.commit_notice.Goals as goal

pub returns-in-Err : goal.returns-in-Err
returns-in-Err c =
    let a = c.args in
    refused_told _ a.self c.refused.ensures
    (notice_refused a.self a.ballot a.bar (length a.room.now) a.peer _ c.in-Err.ensures (refused_some _))

pub returns-then-ballot-sc : goal.returns-then-ballot-sc
returns-then-ballot-sc c =
    let a = c.args in
    let facts = owner_open a.self (length a.room.now) a.peer a.ballot c.in_default.ensures in
    ignored_told a.self c.ignored.ensures
    (notice_other a.self a.ballot a.bar (length a.room.now) a.peer _ c.in_default.ensures refl c.if-ballot-sc.true)
    facts.sum

pub returns-then-bar-sc : goal.returns-then-bar-sc
returns-then-bar-sc c =
    let a = c.args in
    let facts = owner_open a.self (length a.room.now) a.peer a.ballot c.in_default.ensures in
    ignored_told a.self c.ignored-then-bar-sc.ensures
    (notice_known a.self a.ballot a.bar (length a.room.now) a.peer _ c.in_default.ensures refl c.if-ballot-sc.false c.if-bar-sc.true)
    facts.sum

pub overflow_add-past : goal.overflow_add-past
overflow_add-past c =
    let a = c.args in
    let facts = owner_open a.self (length a.room.now) a.peer a.ballot c.in_default.ensures in
    omega (arith, facts.low)

pub returns-then-past-bar : goal.returns-then-past-bar
returns-then-past-bar c =
    let a = c.args in
    refused_told _ a.self c.refused-then-past-bar.ensures
    (notice_past a.self a.ballot a.bar (length a.room.now) a.peer _ c.in_default.ensures refl c.if-ballot-sc.false (omega (arith, c.if-bar-sc.false)) c.if-past-bar.true)

pub overflow_sub-from : goal.overflow_sub-from
overflow_sub-from c =
    let a = c.args in
    let facts = owner_open a.self (length a.room.now) a.peer a.ballot c.in_default.ensures in
    let f = facts in omega (arith, f.exec_low, f.exec_high)

pub overflow_sub-to : goal.overflow_sub-to
overflow_sub-to c =
    let a = c.args in
    let facts = owner_open a.self (length a.room.now) a.peer a.ballot c.in_default.ensures in
    let f = facts in
    omega (arith, f.exec_low, f.exec_high, c.if-bar-sc.false)

pub mark_on-requires : goal.mark_on-requires
mark_on-requires c =
    let a = c.args in
    let facts = owner_open a.self (length a.room.now) a.peer a.ballot c.in_default.ensures in
    mark_fits a.self a.ballot a.bar c.grow_to-w.result _ facts (omega (arith, c.if-bar-sc.false)) (omega (arith, c.if-past-bar.false)) c.grow_to-w.ensures c.stop-stop.ensures

pub returns : goal.returns
returns c =
    let a = c.args in
    told
    (notice_marks a.self a.ballot a.bar (length a.room.now) a.peer _ c.in_default.ensures refl c.if-ballot-sc.false (omega (arith, c.if-bar-sc.false))
    (omega (arith, c.if-past-bar.false)) c.grow_to-w.ensures c.stop-stop.ensures)
    c.mark_on.ensures
