use borrow.Author.Tests.{ne_eqb}
use mathlib.Core.Path.{◌≡◌, refl, sym, ◌∙◌}
use Prim.Native.Nat.{ℕ, ◌-◌}
use native.Mathlib.Omega.{arith}
use lib.ListN.{length}
use Rattle.replica.specs.SeenLaws.{refused_some}
use Rattle.replica.specs.AdmitLaws.{owner_open}
use Rattle.replica.specs.ActingLaws.{refused_told, ignored_told, told}
use Rattle.replica.specs.MessageLaws.{accept_fits, accept_shut, accept_unmade, accept_below, accept_old, accept_past, accept_goes}
use Rattle.replica.proofs.Replica.accept.Goals as goal

pub returns-in-Err : goal.returns-in-Err
returns-in-Err c =
    let a = c.args in
    refused_told _ a.self c.refused.ensures (accept_shut a.self _ a.peer a.slot a.ballot a.batch _ c.in-Err.ensures (refused_some _))

pub returns-in_default-make : goal.returns-in_default-make
returns-in_default-make c =
    let a = c.args in
    refused_told _ a.self c.refused-in_default-make.ensures
    (accept_unmade a.self _ a.peer a.slot a.ballot a.batch _ c.in_default.ensures refl _ c.in_default-make.ensures (λ (z : ◌≡◌ {A = ℕ} 10 0). omega arith))

pub returns-then-slot-sc : goal.returns-then-slot-sc
returns-then-slot-sc c =
    let a = c.args in
    let facts = owner_open a.self (length a.room.now) a.peer a.ballot c.in_default.ensures in
    ignored_told a.self c.ignored.ensures
    (accept_below a.self _ a.peer a.slot a.ballot a.batch _ c.in_default.ensures refl _ c.in-Some.ensures refl c.if-slot-sc.true)
    facts.sum

pub returns-then-ballot-sc : goal.returns-then-ballot-sc
returns-then-ballot-sc c =
    let a = c.args in
    let facts = owner_open a.self (length a.room.now) a.peer a.ballot c.in_default.ensures in
    ignored_told a.self c.ignored-then-ballot-sc.ensures
    (accept_old a.self _ a.peer a.slot a.ballot a.batch _ c.in_default.ensures refl _ c.in-Some.ensures refl c.if-slot-sc.false c.if-ballot-sc.true)
    facts.sum

pub overflow_add-sc : goal.overflow_add-sc
overflow_add-sc c =
    let a = c.args in
    let facts = owner_open a.self (length a.room.now) a.peer a.ballot c.in_default.ensures in
    let f = facts in
    omega arith

pub returns-then-sc-slot : goal.returns-then-sc-slot
returns-then-sc-slot c =
    let a = c.args in
    refused_told _ a.self c.refused-then-sc-slot.ensures
    (accept_past a.self _ a.peer a.slot a.ballot a.batch _ c.in_default.ensures refl _ c.in-Some.ensures refl c.if-slot-sc.false c.if-ballot-sc.false c.if-sc-slot.true)

pub settle-requires : goal.settle-requires
settle-requires c =
    let a = c.args in
    let facts = owner_open a.self (length a.room.now) a.peer a.ballot c.in_default.ensures in
    accept_fits a.self (a.slot - a.self.sc.start) a.peer a.slot a.ballot _ _ facts c.grow_to-w.ensures (omega (arith, c.if-sc-slot.false)) (omega (arith, c.if-slot-sc.false)) c.decide_accept-d.ensures

pub returns : goal.returns
returns c =
    let a = c.args in
    told
    (accept_goes a.self _ a.peer a.slot a.ballot a.batch _ c.in_default.ensures refl _ c.in-Some.ensures refl c.if-slot-sc.false c.if-ballot-sc.false _ _
    c.if-sc-slot.false c.grow_to-w.ensures c.decide_accept-d.ensures)
    c.settle.ensures
