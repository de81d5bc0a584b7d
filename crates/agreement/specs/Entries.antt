-- What a log holds, whatever the calls: each log action's slot is one of the 64 from the group's start on, an accept entry's batch is clean, and prepare
-- and commit entries have no keys.
use Rattle.std.specs.Prelude.{ℕ}
use Rattle.base.specs.Among.{All}
use Rattle.actions.specs.Actions.{Act}
use Rattle.agreement.specs.Theorem.{Group, World, begin, Reach}
use Rattle.agreement.specs.Frame.{Loggable}

abbrev pub EntryOk : ℕ → Act → Type 0
EntryOk start a = Loggable start a.keys a.what

abbrev pub EntriesFit : Type 0
EntriesFit = (g : Group) (w : World) → Reach g w → (m : ℕ) → All (EntryOk g.start) (w.did m)

pub none_yet : (g : Group) (m : ℕ) → All (EntryOk g.start) ((begin g).did m)
unfolding begin
none_yet g m = tt
