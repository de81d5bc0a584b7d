use borrow.Author.Tests.{eq-eqb}
use Rattle.std.proofs.Common.{sym, ◌∙◌}
use Rattle.decide.proofs.Scalars.is_stale.Goals as goal

pub returns-then-of_accept : goal.returns-then-of_accept
returns-then-of_accept c = rw (sym c.strict.ensures ∙ c.if-strict.true, eq-eqb _ _ c.if-s-ballot.false, c.if-of_accept.true)
