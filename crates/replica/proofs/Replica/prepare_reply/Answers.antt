use mathlib.Core.Path.{◌≡◌, refl, sym, ◌∙◌, ap}
use Rattle.std.specs.Prelude.{true, false, not, is_some, ◌⊎◌}
use Rattle.std.proofs.Common.{inl, inr}
use Rattle.decide.specs.PrepareReply.{with_voted}
use lib.ListN.{length}
use Rattle.replica.specs.SeenLaws.{refused_some}
use Rattle.replica.specs.AdmitLaws.{gate_shut, gate_open, peer_open}
use Rattle.replica.specs.ActingLaws.{refused_told, ignored_told, told}
use Rattle.replica.specs.ReplyLaws.{reply_gate, reply_bad, reply_below, reply_goes, reply_fits, vote_refused, vote_passed, made_or}
use Rattle.replica.proofs.Replica.prepare_reply.Goals.{else-m-via-then-m+else-is_none, else-m-via-else-m}
use Rattle.replica.proofs.Replica.prepare_reply.Goals as goal

pub returns-in-Err : goal.returns-in-Err
returns-in-Err c =
    let a = c.args in
    refused_told _ a.self c.refused.ensures (gate_shut _ _ a.self _ (reply_gate a.self (length a.room.now) a.peer a.m) c.in-Err.ensures (refused_some _))

pub returns-then-is_none : goal.returns-then-is_none
returns-then-is_none c =
    let a = c.args in
    let opened = gate_open _ _ a.self _ (reply_gate a.self (length a.room.now) a.peer a.m) c.in_default.ensures refl in
    let refused = vote_refused a.m.voted c.make-made.result c.if-m.true (c.is_none.ensures ∙ ap not c.if-is_none.true) in
    refused_told _ a.self c.refused-then-is_none.ensures (opened ∙ reply_bad a.self (length a.room.now) a.peer a.m c.make-made.ensures refused refl)

pub returns-then-m-self : goal.returns-then-m-self
returns-then-m-self c =
    let a = c.args in
    let opened = gate_open _ _ a.self _ (reply_gate a.self (length a.room.now) a.peer a.m) c.in_default.ensures refl in
    let way : (a.m.voted ≡ false) ⊎ (is_some c.make-made.result ≡ true) =
    elim c.else-m.branch [
      | else-m-via-then-m+else-is_none w ↦ inr (w.is_none.ensures ∙ ap not w.if-is_none.false)
      | else-m-via-else-m w ↦ inl w.if-m.false
    ] in
    let passed = vote_passed a.m.voted c.make-made.result way in
    ignored_told a.self c.ignored.ensures (opened ∙ reply_below a.self (length a.room.now) a.peer a.m c.make-made.ensures passed refl c.if-m-self.true)
    (peer_open a.self (length a.room.now) a.peer c.in_default.ensures).sum

pub reply_on-requires : goal.reply_on-requires
reply_on-requires c =
    let a = c.args in
    reply_fits a.self (length a.room.now) a.peer a.m (sym c.in_default.ensures) c.with_voted-clean.ensures c.if-m-self.false

pub returns : goal.returns
returns c =
    let a = c.args in
    let opened = gate_open _ _ a.self _ (reply_gate a.self (length a.room.now) a.peer a.m) c.in_default.ensures refl in
    let way : (a.m.voted ≡ false) ⊎ (is_some c.make-made.result ≡ true) =
    elim c.else-m.branch [
      | else-m-via-then-m+else-is_none w ↦ inr (w.is_none.ensures ∙ ap not w.if-is_none.false)
      | else-m-via-else-m w ↦ inl w.if-m.false
    ] in
    let passed = vote_passed a.m.voted c.make-made.result way in
    let batch = c.unwrap_or.ensures ∙ made_or c.make-made.result c.empty_batch.result c.empty_batch.ensures in
    told
    (opened
    ∙ reply_goes a.self (length a.room.now) a.peer a.m c.make-made.ensures passed refl (c.with_voted-clean.ensures ∙ ap (with_voted a.m) batch) c.if-m-self.false)
    c.reply_on.ensures
