use borrow.Author.Tests.{eq-eqb, ne_eqb}
use Rattle.slots.proofs.Slot.lacks_note.Goals as goal

pub returns-then-self-eq-PREPARING : goal.returns-then-self-eq-PREPARING
returns-then-self-eq-PREPARING c = rw (eq-eqb _ _ c.if-self-eq-PREPARING.true, c.contains.ensures)

pub returns-else-self-eq-PREPARING : goal.returns-else-self-eq-PREPARING
returns-else-self-eq-PREPARING c = rw (ne_eqb _ _ c.if-self-eq-PREPARING.false)
