-- What the functions inside messages.rt count on, and what they hand back to each other.
use Rattle.std.specs.Prelude.{◌≡◌, List, ℕ, ◌≤◌, ◌<◌, length}
use Rattle.actions.specs.Actions.{write_at}
use Rattle.decide.specs.declared.Scalars.{Scalars}
use Rattle.window.specs.declared.Window.{Window}
use Rattle.window.specs.SummaryLaws.{Sums}
use Rattle.replica.specs.declared.Replica.{Replica}
use Rattle.replica.specs.Messages.{down_acts}

-- a leader that steps down says so at the room's front: the place after it, and the room
pub record WroteDown (sc : Scalars) (ballot : ℕ) (room : List ℕ) (k : ℕ) (after : List ℕ) : Type 0 where
  pub next : k ≡ length (down_acts sc ballot)
  pub few : k ≤ 1
  pub written : after ≡ write_at room 0 (down_acts sc ballot)

-- a Prepare from a place of the window w on, whose walk the summary is, with room for 192 actions
pub record PrepareFits (r : Replica) (w : Window) (from : ℕ) (room : List ℕ) : Type 0 where
  pub low : r.sc.start ≤ 4294967296
  pub within : w.len ≤ 64
  pub inside : from < 64
  pub here : from < w.len
  pub long : 3456 ≤ length room
  pub commit : r.sc.start ≤ r.sc.commit_bar
  pub sum : Sums r.sc w r.summary
