use mathlib.Core.Path.{sym}
use Rattle.decide.specs.Ways.{offer_said}
use Rattle.decide.proofs.Scalars.decide_offer.Goals as goal

pub returns : goal.returns
returns c = sym (offer_said _ _ _ _ _ _ c.strict.ensures c.offered_slot-taken.ensures c.proposal-said.ensures)
