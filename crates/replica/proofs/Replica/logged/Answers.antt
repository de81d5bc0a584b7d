use borrow.Author.Tests.{ne_eqb}
use mathlib.Core.Path.{◌≡◌, refl, sym, ap, ◌∙◌}
use mathlib.Core.Bool.{true}
use native.Mathlib.Omega.{arith}
use lib.ListN.{length}
use Rattle.replica.specs.Seen.{answer_number, seen}
use Rattle.replica.specs.SeenLaws.{refused_some}
use Rattle.replica.specs.AdmitLaws.{ready_open, ready_holds}
use Rattle.replica.specs.ActingLaws.{refused_told, ignored_told}
use Rattle.replica.specs.CompletionLaws.{logged_unready, logged_below, logged_past, logged_short, logged_fits, logged_done, logged_refused}
use Rattle.replica.proofs.Replica.logged.Goals as goal

pub returns-in-Err : goal.returns-in-Err
returns-in-Err c =
    let a = c.args in
    refused_told _ a.self c.refused.ensures (logged_unready a.self _ a.done _ c.in-Err.ensures (refused_some _))

pub returns-then-done-sc : goal.returns-then-done-sc
returns-then-done-sc c =
    let a = c.args in
    let fine = ready_open a.self (length a.room.now) c.in_default.ensures in
    let facts = ready_holds a.self (length a.room.now) c.in_default.ensures in
    ignored_told a.self c.ignored.ensures (logged_below a.self _ a.done fine c.if-done-sc.true) facts.sum

pub overflow_add-end : goal.overflow_add-end
overflow_add-end c =
    let a = c.args in
    let facts = ready_holds a.self (length a.room.now) c.in_default.ensures in
    let f = facts in omega arith

pub returns-then-end-done : goal.returns-then-end-done
returns-then-end-done c =
    let a = c.args in
    let fine = ready_open a.self (length a.room.now) c.in_default.ensures in
    refused_told _ a.self c.refused-then-end-done.ensures (logged_past a.self _ a.done fine c.if-done-sc.false c.if-end-done.true)

pub returns-then-done-sc-2 : goal.returns-then-done-sc-2
returns-then-done-sc-2 c =
    let a = c.args in
    let fine = ready_open a.self (length a.room.now) c.in_default.ensures in
    refused_told _ a.self c.refused-then-done-sc-2.ensures (logged_short a.self _ a.done fine c.if-done-sc.false c.if-end-done.false c.if-done-sc-2.true)

pub logged_on-r-requires : goal.logged_on-r-requires
logged_on-r-requires c =
    let a = c.args in
    let facts = ready_holds a.self (length a.room.now) c.in_default.ensures in
    let f = facts in
    omega (arith, c.if-done-sc.false, c.if-end-done.false)

pub done_on-h-requires : goal.done_on-h-requires
done_on-h-requires c =
    let a = c.args in
    let facts = ready_holds a.self (length a.room.now) c.in_default.ensures in
    logged_fits a.self _ a.done.size _ a.done.slot _ c.logged_on-r.ensures facts (omega (arith, c.if-done-sc.false, c.if-end-done.false)) (omega (arith, c.if-done-sc.false))

pub returns-in-Err-outcome : goal.returns-in-Err-outcome
returns-in-Err-outcome c =
    let a = c.args in
    let fine = ready_open a.self (length a.room.now) c.in_default.ensures in
    logged_refused a.self _ a.done fine c.if-done-sc.false c.if-end-done.false c.if-done-sc-2.false _ c.logged_on-r.ensures c.done_on-h.ensures _
    (λ z. refused_some c.in-Err-outcome.error (sym (ap answer_number c.in-Err-outcome.is) ∙ z)) (rw c.in-Err-outcome.is (ap seen c.refused-in-Err-outcome.ensures))

pub returns : goal.returns
returns c =
    let a = c.args in
    let fine = ready_open a.self (length a.room.now) c.in_default.ensures in
    logged_done a.self _ a.done fine c.if-done-sc.false c.if-end-done.false c.if-done-sc-2.false _ c.logged_on-r.ensures c.done_on-h.ensures (ap answer_number c.in_default-outcome.is)
