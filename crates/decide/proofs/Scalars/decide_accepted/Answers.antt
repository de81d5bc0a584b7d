use mathlib.Core.Path.{sym, ◌∙◌}
use borrow.Author.Tests.{not-true, not-false}
use Rattle.decide.specs.Ways.{flag, accepted_stale, accepted_own, accepted_old, accepted_none, accepted_said}
use Rattle.decide.proofs.Scalars.decide_accepted.Goals as goal

pub returns-then-is_stale : goal.returns-then-is_stale
returns-then-is_stale c = c.silent.ensures ∙ sym (accepted_stale _ _ _ _ (flag c.is_stale.ensures c.if-is_stale.true))

pub returns-then-s-self : goal.returns-then-s-self
returns-then-s-self c =
    c.decide_accept_reply.ensures ∙ sym (accepted_own _ _ _ _ (flag c.is_stale.ensures c.if-is_stale.false) c.if-self.true c.if-s-self.true)

pub returns-then-self : goal.returns-then-self
returns-then-self c =
    c.silent-then-self.ensures ∙ sym (accepted_old _ _ _ _ (flag c.is_stale.ensures c.if-is_stale.false) c.if-self.true c.if-s-self.false)

pub returns-then-not-s : goal.returns-then-not-s
returns-then-not-s c =
    c.silent-then-not-s.ensures ∙ sym (accepted_none _ _ _ _ (flag c.is_stale.ensures c.if-is_stale.false) c.if-self.false (not-true _ c.if-not-s.true))

pub returns : goal.returns
returns c =
    sym (accepted_said _ _ _ _ (flag c.is_stale.ensures c.if-is_stale.false) c.if-self.false (not-false _ c.if-not-s.false))
