use mathlib.Core.Path.{sym, ◌∙◌}
use Rattle.decide.specs.Ways.{flag, reply_idle, reply_broken, reply_known, reply_few, reply_quorum}
use Rattle.decide.proofs.Scalars.decide_accept_reply.Goals as goal

pub returns-then-not-awaits_accept : goal.returns-then-not-awaits_accept
returns-then-not-awaits_accept c = c.silent.ensures ∙ sym (reply_idle _ _ _ _ _ (flag c.awaits_accept.ensures c.if-not-awaits_accept.true))

pub returns-then-contradicts : goal.returns-then-contradicts
returns-then-contradicts c =
    sym (reply_broken _ _ _ _ _ (flag c.awaits_accept.ensures c.if-not-awaits_accept.false) (flag c.contradicts.ensures c.if-contradicts.true))

pub returns-then-contains : goal.returns-then-contains
returns-then-contains c =
    c.silent-then-contains.ensures
    ∙ sym (reply_known _ _ _ _ _ (flag c.awaits_accept.ensures c.if-not-awaits_accept.false) (flag c.contradicts.ensures c.if-contradicts.false)
    (flag c.contains.ensures c.if-contains.true))

pub returns-then-count-quorum : goal.returns-then-count-quorum
returns-then-count-quorum c =
    c.silent-then-count-quorum.ensures
    ∙ sym (reply_few _ _ _ _ _ (flag c.awaits_accept.ensures c.if-not-awaits_accept.false) (flag c.contradicts.ensures c.if-contradicts.false)
    (flag c.contains.ensures c.if-contains.false) _ _ _ c.acknowledged-known.ensures c.count.ensures c.quorum.ensures c.if-count-quorum.true)

pub returns : goal.returns
returns c =
    sym (reply_quorum _ _ _ _ _ (flag c.awaits_accept.ensures c.if-not-awaits_accept.false) (flag c.contradicts.ensures c.if-contradicts.false)
    (flag c.contains.ensures c.if-contains.false) _ _ _ c.acknowledged-known.ensures c.count.ensures c.quorum.ensures _ c.if-count-quorum.false c.committed-done.ensures)
