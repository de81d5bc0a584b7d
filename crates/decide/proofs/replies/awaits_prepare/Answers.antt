use borrow.Author.Tests.{eq-eqb, ne_eqb}
use Rattle.decide.proofs.replies.awaits_prepare.Goals as goal

pub returns-then-s-eq-PREPARING : goal.returns-then-s-eq-PREPARING
returns-then-s-eq-PREPARING c = rw (eq-eqb _ _ c.if-s-eq-PREPARING.true)

pub returns-else-s-eq-PREPARING : goal.returns-else-s-eq-PREPARING
returns-else-s-eq-PREPARING c = rw (ne_eqb _ _ c.if-s-eq-PREPARING.false)
