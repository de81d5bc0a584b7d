-- What a call hands back: 01's number for its answer, the number of actions, and the replica. And the code's values, an outcome beside the replica, as such.
-- 01: "Where an answer is an enum, a definition states this paper's number and values for each of its cases. The promises use that definition."
use Rattle.std.specs.Prelude.{ℕ, Result, Ok, Err}
use Rattle.replica.specs.declared.Replica.{Replica}
use Rattle.replica.specs.declared.Refusal.{Refusal}
use Rattle.replica.specs.declared.Refusal.TheVariants.{Unready, NotAPeer, NotOwner, PastEnd, PastWindow, Contradiction, KeysFull, NoStepUp, NotLeading, Outside, ReadsFull, Conflict, Malformed, WrongSummary, Renamed}
use Rattle.replica.specs.declared as code

-- 01's "Answer numbers", 1 to 13; 02: 14, "summary not equal to the walk", and 15, "strict Accept with another batch for a committed slot"
abbrev pub refusal_number : Refusal → ℕ
refusal_number Unready = 1
refusal_number NotAPeer = 2
refusal_number NotOwner = 3
refusal_number PastEnd = 4
refusal_number PastWindow = 5
refusal_number Contradiction = 6
refusal_number KeysFull = 7
refusal_number NoStepUp = 8
refusal_number NotLeading = 9
refusal_number Outside = 10
refusal_number ReadsFull = 11
refusal_number Conflict = 12
refusal_number Malformed = 13
refusal_number WrongSummary = 14
refusal_number Renamed = 15

-- 0: "done, or ignored as the source ignores it"
abbrev pub answer_number : {A : Type 0} → Result A Refusal → ℕ
answer_number (Ok x) = 0
answer_number (Err e) = refusal_number e

-- "all but 0 give no actions"
abbrev pub action_count : Result ℕ Refusal → ℕ
action_count (Ok n) = n
action_count (Err e) = 0

-- a call
pub record Handled : Type 0 where
  pub answer : ℕ
  pub count : ℕ
  pub replica : Replica

abbrev pub seen : code.Handled.Handled → Handled
seen h = record { answer = answer_number h.outcome; count = action_count h.outcome; replica = h.replica }

-- a new replica
pub record Made : Type 0 where
  pub answer : ℕ
  pub replica : Replica

abbrev pub seen_new : code.Made.Made → Made
seen_new m = record { answer = answer_number m.outcome; replica = m.replica }
