use borrow.Author.Tests.{lt-ltb, le-ltb}
use Rattle.decide.proofs.Scalars.followed.Goals as goal

pub returns-then-self-ballot : goal.returns-then-self-ballot
returns-then-self-ballot c = rw (lt-ltb _ _ c.if-self-ballot.true)

pub returns-else-self-ballot : goal.returns-else-self-ballot
returns-else-self-ballot c = rw (le-ltb _ _ c.if-self-ballot.false)
