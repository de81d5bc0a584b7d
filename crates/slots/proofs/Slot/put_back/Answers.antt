use Rattle.std.proofs.Common.{⊎_elim}
use borrow.Author.Tests.{lt-leb}
use Rattle.slots.proofs.Slot.put_back.Goals as goal

pub returns : goal.returns
returns c = ⊎_elim (λ h. rw (h.0, lt-leb 3 _ h.1)) (λ h. rw h) c.else-strict.either
