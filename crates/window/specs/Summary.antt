-- 02, Wish 1: what is asked of a log many times a minute, and the walk over all slots that answers it.
use Rattle.std.specs.Prelude.{Bool, ℕ, ◌+◌, ◌-◌, eqb}
use Rattle.base.specs.HowMany.{how_many}
use Rattle.slots.specs.Slots.{accepting}
use Rattle.decide.specs.declared.Scalars.{Scalars}
use Rattle.window.specs.declared.Window.{Window}
use Rattle.window.specs.declared.Summary.{Summary}
use Rattle.window.specs.Window.{slot_at, first_open}

-- the slot at a place has a status
abbrev pub has_status : Window → ℕ → ℕ → Bool
has_status w status i = eqb (slot_at w i).status status

-- "the first slot not committed (the log end if there is none)", by its number; "how many slots at or above commit_bar have status Accepting"
abbrev pub walk : Scalars → Window → Summary
walk sc w = record { first = sc.start + first_open w; accepting = how_many (has_status w accepting) (sc.commit_bar - sc.start) w.len }
