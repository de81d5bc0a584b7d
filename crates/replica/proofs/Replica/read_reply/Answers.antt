use borrow.Author.Tests.{ne_eqb}
use mathlib.Core.Path.{refl, sym, ◌∙◌}
use native.Mathlib.Omega.{arith}
use lib.ListN.{length}
use Rattle.replica.specs.SeenLaws.{refused_some}
use Rattle.replica.specs.AdmitLaws.{member_open}
use Rattle.replica.specs.ActingLaws.{refused_told, ignored_told, told}
use Rattle.replica.specs.ReadCallLaws.{reply_shut, reply_long, reply_unknown, reply_known, answers_few}
use Rattle.replica.proofs.Replica.read_reply.Goals as goal

pub returns-in-Err : goal.returns-in-Err
returns-in-Err c =
    let a = c.args in
    refused_told _ a.self c.refused.ensures (reply_shut a.self _ a.peer a.id a.from_leader a.reply _ c.in-Err.ensures (refused_some _))

pub returns-then-reply-gt-KEYS : goal.returns-then-reply-gt-KEYS
returns-then-reply-gt-KEYS c =
    let a = c.args in
    refused_told _ a.self c.refused-then-reply-gt-KEYS.ensures (reply_long a.self _ a.peer a.id a.from_leader a.reply _ c.in_default.ensures refl c.if-reply-gt-KEYS.true)

pub returns-then-reads-at : goal.returns-then-reads-at
returns-then-reads-at c =
    let a = c.args in
    let facts = member_open a.self (length a.room.now) a.peer c.in_default.ensures in
    ignored_told a.self c.ignored.ensures
    (reply_unknown a.self _ a.peer a.id a.from_leader a.reply _ c.in_default.ensures refl c.if-reply-gt-KEYS.false _ c.find-at.ensures c.if-reads-at.true)
    facts.sum

pub offset_bounds-reads-at : goal.offset_bounds-reads-at
offset_bounds-reads-at c =
    let a = c.args in
    let facts = member_open a.self (length a.room.now) a.peer c.in_default.ensures in
    let f = facts in omega (arith, f.reads_few, c.if-reads-at.false)

pub bounds-reads-at : goal.bounds-reads-at
bounds-reads-at c =
    let a = c.args in
    let facts = member_open a.self (length a.room.now) a.peer c.in_default.ensures in
    let f = facts in omega (arith, f.reads_few, c.if-reads-at.false)

pub replied-requires : goal.replied-requires
replied-requires c =
    let a = c.args in
    let facts = member_open a.self (length a.room.now) a.peer c.in_default.ensures in
    let f = facts in
    record {
      few = answers_few a.self _ _ _ _ _ _ f.reads_fit c.if-reads-at.false c.reply_to-d.ensures;
      long = f.long;
      sum = f.sum;
    }

pub returns : goal.returns
returns c =
    let a = c.args in
    told
    (reply_known a.self _ a.peer a.id a.from_leader a.reply _ c.in_default.ensures refl c.if-reply-gt-KEYS.false _ c.find-at.ensures c.if-reads-at.false _ _ c.quorum-quorum.ensures
    c.reply_to-d.ensures)
    c.replied.ensures
