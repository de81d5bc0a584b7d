use native.Mathlib.Omega.{arith}
use borrow.Author.Tests.{lt-ltb, le-ltb}
use Rattle.decide.proofs.replies.sent_vote.Goals as goal

pub returns-then-s-eq0 : goal.returns-then-s-eq0
returns-then-s-eq0 c = let s = c.args.s in rw (le-ltb 0 s.vote.ballot (omega arith)) c.no_vote.ensures

pub returns : goal.returns
returns c = let s = c.args.s in rw (lt-ltb 0 s.vote.ballot (omega arith))
