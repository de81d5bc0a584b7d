use borrow.Author.Tests.{ne_eqb}
use mathlib.Core.Path.{refl, sym, ◌∙◌}
use Prim.Native.Nat.{◌-◌, ◌<◌}
use native.Mathlib.Omega.{arith}
use lib.ListN.{length}
use Rattle.replica.specs.SeenLaws.{refused_some}
use Rattle.replica.specs.AdmitLaws.{peer_open}
use Rattle.replica.specs.ActingLaws.{refused_told, ignored_told, told}
use Rattle.replica.specs.MessageLaws.{accept_reply_fits, accept_reply_shut, accept_reply_below, accept_reply_other, accept_reply_past, accept_reply_goes}
use Rattle.replica.proofs.Replica.accept_reply.Goals as goal

pub returns-in-Err : goal.returns-in-Err
returns-in-Err c =
    let a = c.args in
    refused_told _ a.self c.refused.ensures (accept_reply_shut a.self _ a.peer a.slot a.ballot _ c.in-Err.ensures (refused_some _))

pub returns-then-slot-sc : goal.returns-then-slot-sc
returns-then-slot-sc c =
    let a = c.args in
    let facts = peer_open a.self (length a.room.now) a.peer c.in_default.ensures in
    ignored_told a.self c.ignored.ensures
    (accept_reply_below a.self _ a.peer a.slot a.ballot _ c.in_default.ensures refl c.if-slot-sc.true)
    facts.sum

pub returns-then-ballot-sc : goal.returns-then-ballot-sc
returns-then-ballot-sc c =
    let a = c.args in
    let facts = peer_open a.self (length a.room.now) a.peer c.in_default.ensures in
    ignored_told a.self c.ignored-then-ballot-sc.ensures
    (accept_reply_other a.self _ a.peer a.slot a.ballot _ c.in_default.ensures refl c.if-slot-sc.false c.if-ballot-sc.true)
    facts.sum

pub overflow_add-end : goal.overflow_add-end
overflow_add-end c =
    let a = c.args in
    let facts = peer_open a.self (length a.room.now) a.peer c.in_default.ensures in
    let f = facts in
    omega arith

pub returns-then-end-slot : goal.returns-then-end-slot
returns-then-end-slot c =
    let a = c.args in
    refused_told _ a.self c.refused-then-end-slot.ensures
    (accept_reply_past a.self _ a.peer a.slot a.ballot _ c.in_default.ensures refl c.if-slot-sc.false c.if-ballot-sc.false c.if-end-slot.true)

pub offset_bounds-w-i : goal.offset_bounds-w-i
offset_bounds-w-i c =
    let a = c.args in
    let facts = peer_open a.self (length a.room.now) a.peer c.in_default.ensures in
    omega (arith, facts)

pub bounds-w-i : goal.bounds-w-i
bounds-w-i c =
    let a = c.args in
    let facts = peer_open a.self (length a.room.now) a.peer c.in_default.ensures in
    omega (arith, facts)

pub settle-requires : goal.settle-requires
settle-requires c =
    let a = c.args in
    let facts = peer_open a.self (length a.room.now) a.peer c.in_default.ensures in
    let f = facts in
    accept_reply_fits a.self (a.slot - a.self.sc.start) a.peer a.slot a.ballot _ f (omega (arith, c.if-end-slot.false, c.if-slot-sc.false)) (omega (arith, c.if-slot-sc.false)) c.decide_accept_reply-d.ensures

pub returns : goal.returns
returns c =
    let a = c.args in
    told
    (accept_reply_goes a.self _ a.peer a.slot a.ballot _ c.in_default.ensures refl c.if-slot-sc.false c.if-ballot-sc.false _ c.if-end-slot.false c.decide_accept_reply-d.ensures)
    c.settle.ensures
