use borrow.Author.Tests.{lt-leb, le-leb}
use mathlib.Core.Bool.{and-false}
use Rattle.std.proofs.Common.{sym, ◌∙◌}
use Rattle.decide.proofs.Scalars.names_other.Goals as goal

pub returns-then-s-lt-COMMITTED : goal.returns-then-s-lt-COMMITTED
returns-then-s-lt-COMMITTED c = rw (lt-leb 3 _ c.if-s-lt-COMMITTED.true, and-false)

pub returns : goal.returns
returns c = rw (sym c.strict.ensures ∙ c.if-not-strict.false, le-leb 3 _ c.if-s-lt-COMMITTED.false, c.ne.ensures)
