-- What is printed of a refusal.
use Rattle.std.specs.Prelude.{ℕ, List, codes}
use Rattle.replica.specs.declared.Refusal.{Refusal}
use Rattle.replica.specs.declared.Refusal.TheVariants.{Unready, NotAPeer, NotOwner, PastEnd, PastWindow, Contradiction, KeysFull, NoStepUp, NotLeading, Outside, ReadsFull, Conflict, Malformed, WrongSummary, Renamed}

abbrev pub refusal_text : Refusal → List ℕ
refusal_text Unready = codes "the action room is too short, or the record unfit"
refusal_text NotAPeer = codes "the sender is not another member"
refusal_text NotOwner = codes "the ballot is not its sender's"
refusal_text PastEnd = codes "the slot is past the log end, or self does not lead"
refusal_text PastWindow = codes "a slot past the window is needed"
refusal_text Contradiction = codes "what the source asserts does not hold"
refusal_text KeysFull = codes "more new keys than the table has free"
refusal_text NoStepUp = codes "no step-up from here"
refusal_text NotLeading = codes "no prepared leader to offer to"
refusal_text Outside = codes "numbers outside their bounds, or a read id in use"
refusal_text ReadsFull = codes "as many reads are open as may be"
refusal_text Conflict = codes "two values for a key at one slot"
refusal_text Malformed = codes "a malformed trace record"
refusal_text WrongSummary = codes "the summary is not that of the slots"
refusal_text Renamed = codes "another batch for a committed slot"
