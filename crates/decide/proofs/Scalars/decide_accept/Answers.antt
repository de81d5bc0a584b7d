use mathlib.Core.Path.{sym}
use Rattle.decide.specs.Ways.{flag, accept_is_other, accept_is_high, accept_taken}
use Rattle.decide.proofs.Scalars.decide_accept.Goals as goal

pub returns-then-names_other : goal.returns-then-names_other
returns-then-names_other c = sym (accept_is_other _ _ _ _ _ _ (flag c.names_other.ensures c.if-names_other.true))

pub returns-then-ballot-s : goal.returns-then-ballot-s
returns-then-ballot-s c = sym (accept_is_high _ _ _ _ _ _ (flag c.names_other.ensures c.if-names_other.false) c.if-ballot-s.true)

pub returns : goal.returns
returns c =
    sym (accept_taken _ _ _ _ _ _ _ _ _ _ _ (flag c.names_other.ensures c.if-names_other.false) c.if-ballot-s.false c.strict.ensures c.followed-after.ensures
    c.accepted-taken.ensures c.proposal.ensures c.reported-says.ensures)
