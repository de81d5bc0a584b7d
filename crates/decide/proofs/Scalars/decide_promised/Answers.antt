use mathlib.Core.Path.{sym, ◌∙◌}
use borrow.Author.Tests.{not-true, not-false}
use Rattle.decide.specs.Ways.{promised_none, promised_said}
use Rattle.decide.proofs.Scalars.decide_promised.Goals as goal

pub returns-then-not-s : goal.returns-then-not-s
returns-then-not-s c = c.silent.ensures ∙ sym (promised_none _ _ _ (not-true _ c.if-not-s.true))

pub returns : goal.returns
returns c =
    sym (promised_said _ _ _ c.sent_vote-vote.result (not-false _ c.if-not-s.false) c.sent_vote-vote.ensures)
