use Rattle.std.proofs.Common.{arith}
use Rattle.replica.specs.ActingLaws.{same_told}
use Rattle.trace.specs.declared.kind.Kind.TheVariants.{Prepare, PrepareReply, Accept, AcceptReply, CommitNotice, Timeout, Offer, Logged, Executed, OpenRead, ReadReply}
use Rattle.play.specs.Laws.{kind_is, names_call, names_own, calls_prepare, calls_reply, calls_accept, calls_accept_reply, calls_notice, calls_timeout, calls_offer, calls_logged, calls_executed, calls_open, calls_read}
use Rattle.play.proofs.calls.call.Goals as goal

pub returns-in-Prepare : goal.returns-in-Prepare
returns-in-Prepare c =
    let a = c.args in
    let e = kind_is a.r 0 a.rec Prepare c.requires c.in-Prepare.is in
    same_told (names_call a.r _ a.rec _ (omega (arith, e)) (calls_prepare a.r _ a.rec e)) c.prepare.ensures

pub returns-in-PrepareReply : goal.returns-in-PrepareReply
returns-in-PrepareReply c =
    let a = c.args in
    let e = kind_is a.r 0 a.rec PrepareReply c.requires c.in-PrepareReply.is in
    same_told (names_call a.r _ a.rec _ (omega (arith, e)) (calls_reply a.r _ a.rec _ e c.reply_of.ensures)) c.prepare_reply.ensures

pub returns-in-Accept : goal.returns-in-Accept
returns-in-Accept c =
    let a = c.args in
    let e = kind_is a.r 0 a.rec Accept c.requires c.in-Accept.is in
    same_told (names_call a.r _ a.rec _ (omega (arith, e)) (calls_accept a.r _ a.rec _ e c.batch_of.ensures)) c.accept.ensures

pub returns-in-AcceptReply : goal.returns-in-AcceptReply
returns-in-AcceptReply c =
    let a = c.args in
    let e = kind_is a.r 0 a.rec AcceptReply c.requires c.in-AcceptReply.is in
    same_told (names_call a.r _ a.rec _ (omega (arith, e)) (calls_accept_reply a.r _ a.rec e)) c.accept_reply.ensures

pub returns-in-CommitNotice : goal.returns-in-CommitNotice
returns-in-CommitNotice c =
    let a = c.args in
    let e = kind_is a.r 0 a.rec CommitNotice c.requires c.in-CommitNotice.is in
    same_told (names_call a.r _ a.rec _ (omega (arith, e)) (calls_notice a.r _ a.rec e)) c.commit_notice.ensures

pub returns-in-Timeout : goal.returns-in-Timeout
returns-in-Timeout c =
    let a = c.args in
    let e = kind_is a.r 0 a.rec Timeout c.requires c.in-Timeout.is in
    same_told (names_call a.r _ a.rec _ (omega (arith, e)) (calls_timeout a.r _ a.rec e)) c.timeout.ensures

pub returns-in-Offer : goal.returns-in-Offer
returns-in-Offer c =
    let a = c.args in
    let e = kind_is a.r 0 a.rec Offer c.requires c.in-Offer.is in
    same_told (names_own a.r _ a.rec _ (omega (arith, e)) (calls_offer a.r _ a.rec _ e c.batch_of-in-Offer.ensures)) c.offer.ensures

pub returns-in-Logged : goal.returns-in-Logged
returns-in-Logged c =
    let a = c.args in
    let e = kind_is a.r 0 a.rec Logged c.requires c.in-Logged.is in
    same_told (names_own a.r _ a.rec _ (omega (arith, e)) (calls_logged a.r _ a.rec _ e c.done_of.ensures)) c.logged.ensures

pub returns-in-Executed : goal.returns-in-Executed
returns-in-Executed c =
    let a = c.args in
    let e = kind_is a.r 0 a.rec Executed c.requires c.in-Executed.is in
    same_told (names_own a.r _ a.rec _ (omega (arith, e)) (calls_executed a.r _ a.rec e)) c.executed.ensures

pub returns-in-OpenRead : goal.returns-in-OpenRead
returns-in-OpenRead c =
    let a = c.args in
    let e = kind_is a.r 0 a.rec OpenRead c.requires c.in-OpenRead.is in
    same_told (names_own a.r _ a.rec _ (omega (arith, e)) (calls_open a.r _ a.rec _ e c.keys_of.ensures)) c.open_read.ensures

pub returns-in-ReadReply : goal.returns-in-ReadReply
returns-in-ReadReply c =
    let a = c.args in
    let e = kind_is a.r 0 a.rec ReadReply c.requires c.in-ReadReply.is in
    same_told (names_own a.r _ a.rec _ (omega (arith, e)) (calls_read a.r _ a.rec _ (λ z. omega arith) (λ z. omega arith) (λ z. omega arith) (λ z. omega arith) c.tally_of.ensures)) c.read_reply.ensures
