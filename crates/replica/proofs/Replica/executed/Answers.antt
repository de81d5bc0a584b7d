use borrow.Author.Tests.{ne_eqb}
use mathlib.Core.Path.{◌≡◌, refl}
use Prim.Native.Nat.{◌-◌}
use mathlib.Core.Bool.{true}
use native.Mathlib.Omega.{arith}
use lib.ListN.{length}
use Rattle.replica.specs.SeenLaws.{refused_some}
use Rattle.replica.specs.AdmitLaws.{ready_open, ready_holds}
use Rattle.replica.specs.ActingLaws.{refused_told, ignored_told}
use Rattle.replica.specs.AddedLaws.{executed_sums, executed_unready, executed_below, executed_past, executed_moves, exec_fits}
use Rattle.replica.proofs.Replica.executed.Goals as goal

pub returns-in-Err : goal.returns-in-Err
returns-in-Err c =
    let a = c.args in
    refused_told _ a.self c.refused.ensures (executed_unready a.self _ a.slot _ c.in-Err.ensures (refused_some _))

pub returns-then-slot-sc : goal.returns-then-slot-sc
returns-then-slot-sc c =
    let a = c.args in
    let fine = ready_open a.self (length a.room.now) c.in_default.ensures in
    let facts = ready_holds a.self (length a.room.now) c.in_default.ensures in
    ignored_told a.self c.ignored.ensures (executed_below a.self _ a.slot fine c.if-slot-sc.true)
    facts.sum

pub overflow_add-end : goal.overflow_add-end
overflow_add-end c =
    let a = c.args in
    let facts = ready_holds a.self (length a.room.now) c.in_default.ensures in
    let f = facts in omega (arith, f.low, f.within)

pub returns-then-end-slot : goal.returns-then-end-slot
returns-then-end-slot c =
    let a = c.args in
    let fine = ready_open a.self (length a.room.now) c.in_default.ensures in
    refused_told _ a.self c.refused-then-end-slot.ensures (executed_past a.self _ a.slot fine c.if-slot-sc.false c.if-end-slot.true)

pub offset_bounds-w-at : goal.offset_bounds-w-at
offset_bounds-w-at c =
    let a = c.args in
    let facts = ready_holds a.self (length a.room.now) c.in_default.ensures in
    let f = facts in omega (arith, f.low, f.within)

pub bounds-w-at : goal.bounds-w-at
bounds-w-at c =
    let a = c.args in
    let facts = ready_holds a.self (length a.room.now) c.in_default.ensures in
    let f = facts in omega (arith, f.low, f.within)

pub moved_exec-moved-requires : goal.moved_exec-moved-requires
moved_exec-moved-requires c =
    let a = c.args in
    let facts = ready_holds a.self (length a.room.now) c.in_default.ensures in
    exec_fits facts

pub returns : goal.returns
returns c =
    let a = c.args in
    let fine = ready_open a.self (length a.room.now) c.in_default.ensures in
    let facts = ready_holds a.self (length a.room.now) c.in_default.ensures in
    ignored_told _ c.ignored-2.ensures
    (executed_moves a.self _ a.slot fine c.if-slot-sc.false c.if-end-slot.false _ _ c.executed.ensures c.moved_exec-moved.ensures)
    (executed_sums {r = a.self} (a.slot - a.self.sc.start) _ _ facts c.executed.ensures c.moved_exec-moved.ensures)
