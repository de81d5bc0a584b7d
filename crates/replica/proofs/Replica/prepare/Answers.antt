use borrow.Author.Tests.{ne_eqb}
use mathlib.Core.Path.{refl, sym, ◌∙◌}
use Prim.Native.Nat.{◌-◌}
use native.Mathlib.Omega.{arith}
use lib.ListN.{length}
use Rattle.replica.specs.SeenLaws.{refused_some}
use Rattle.replica.specs.AdmitLaws.{owner_open}
use Rattle.replica.specs.ActingLaws.{refused_told, ignored_told, told}
use Rattle.replica.specs.MessageLaws.{prepare_fits}
use Rattle.replica.proofs.MessageLaws.{prepare_shut, prepare_below, prepare_old, prepare_past, prepare_goes}
use Rattle.replica.proofs.Replica.prepare.Goals as goal

pub returns-in-Err : goal.returns-in-Err
returns-in-Err c =
    let a = c.args in
    refused_told _ a.self c.refused.ensures (prepare_shut a.self _ a.peer a.trigger a.ballot _ c.in-Err.ensures (refused_some _))

pub returns-then-trigger-sc : goal.returns-then-trigger-sc
returns-then-trigger-sc c =
    let a = c.args in
    let facts = owner_open a.self (length a.room.now) a.peer a.ballot c.in_default.ensures in
    ignored_told a.self c.ignored.ensures
    (prepare_below a.self _ a.peer a.trigger a.ballot _ c.in_default.ensures refl c.if-trigger-sc.true)
    facts.sum

pub returns-then-ballot-sc : goal.returns-then-ballot-sc
returns-then-ballot-sc c =
    let a = c.args in
    let facts = owner_open a.self (length a.room.now) a.peer a.ballot c.in_default.ensures in
    ignored_told a.self c.ignored-then-ballot-sc.ensures
    (prepare_old a.self _ a.peer a.trigger a.ballot _ c.in_default.ensures refl c.if-trigger-sc.false c.if-ballot-sc.true)
    facts.sum

pub overflow_add-sc : goal.overflow_add-sc
overflow_add-sc c =
    let a = c.args in
    let facts = owner_open a.self (length a.room.now) a.peer a.ballot c.in_default.ensures in
    let f = facts in
    omega arith

pub returns-then-sc-trigger : goal.returns-then-sc-trigger
returns-then-sc-trigger c =
    let a = c.args in
    refused_told _ a.self c.refused-then-sc-trigger.ensures
    (prepare_past a.self _ a.peer a.trigger a.ballot _ c.in_default.ensures refl c.if-trigger-sc.false c.if-ballot-sc.false c.if-sc-trigger.true)

pub prepare_on-requires : goal.prepare_on-requires
prepare_on-requires c =
    let a = c.args in
    let facts = owner_open a.self (length a.room.now) a.peer a.ballot c.in_default.ensures in
    prepare_fits a.self (a.trigger - a.self.sc.start) _ facts c.grow_to-w.ensures (omega arith)

pub returns : goal.returns
returns c =
    let a = c.args in
    told
    (prepare_goes a.self _ a.peer a.trigger a.ballot _ c.in_default.ensures refl c.if-trigger-sc.false c.if-ballot-sc.false _ c.if-sc-trigger.false c.grow_to-w.ensures)
    c.prepare_on.ensures
