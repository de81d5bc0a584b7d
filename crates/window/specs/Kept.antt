-- How the summary is kept: what becomes of its two numbers in each kind of change, from small values alone. That this is the walk is SummaryLaws.
use Rattle.std.specs.Prelude.{Option, Some, None, Bool, false, true, ◌&&◌, ℕ, ◌+◌, ◌-◌, ltb, leb, eqb}
use Rattle.base.specs.Pick.{pick}
use Rattle.base.specs.HowMany.{how_many}
use Rattle.slots.specs.Slots.{accepting, committed}
use Rattle.window.specs.declared.Window.{Window}
use Rattle.window.specs.declared.Summary.{Summary}
use Rattle.window.specs.declared.Survey as code
use Rattle.window.specs.Window.{fit_slots, first_open}
use Rattle.window.specs.Summary.{has_status}

-- the first open slot, where one slot is open now
abbrev pub lowered : ℕ → ℕ → ℕ
lowered first slot = pick (ltb slot first) slot first

-- a count of at most 64 slots, where one of them counted before or counts now
abbrev pub recounted : ℕ → Bool → Bool → ℕ
recounted n before now = pick before (pick now n (n - 1)) (pick now (pick (ltb n 64) (n + 1) n) n)

-- one slot went from one status to another
unfoldable pub changed : Summary → ℕ → ℕ → ℕ → ℕ → Summary
changed s commit slot before now =
    record {
      first = pick (ltb now committed) (lowered s.first slot) s.first;
      accepting = pick (ltb slot commit) s.accepting (recounted s.accepting (eqb before accepting) (eqb now accepting));
    }

-- the first open slot is none any more: what is then the first is found by a scan from there on
abbrev pub is_passed : Summary → ℕ → ℕ → Bool
is_passed s slot now = eqb slot s.first && leb committed now

-- Prepare: no slot from the trigger on is Accepting then, so that only those below it can be; a strict replica's committed slots stay committed
unfoldable pub prepared_from : Bool → Summary → ℕ → ℕ → Summary
prepared_from strict s trigger below = record { first = pick strict s.first (lowered s.first trigger); accepting = below }

-- the slots of a range that have a status, where the range is one of places of the window
unfoldable pub counted_in : Window → ℕ → ℕ → ℕ → ℕ
counted_in w status from to = pick (leb to 64) (how_many (has_status w status) from to) 0

-- what one pass over the slots in use finds: whether all are fit, the place of the first open one, and how many from a place on are Accepting
pub record Survey : Type 0 where
  pub fit : Bool
  pub first : ℕ
  pub accepting : ℕ

abbrev pub no_survey : Survey
no_survey = record { fit = false; first = 0; accepting = 0 }

unfoldable pub surveyed : ℕ → ℕ → Window → Survey
surveyed group from w =
    pick (leb w.len 64 && fit_slots group w) (record { fit = true; first = first_open w; accepting = how_many (has_status w accepting) from w.len })
    no_survey

-- what the code hands back of it: nothing where they are not all fit
abbrev pub survey_of : Option code.Survey → Survey
survey_of None = no_survey
survey_of (Some s) = record { fit = true; first = s.first; accepting = s.accepting }
