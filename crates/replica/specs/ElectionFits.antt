-- What a step-up and the marking of slots count on once their call is admitted.
use Rattle.std.specs.Prelude.{◌≡◌, ℕ, ◌+◌, ◌-◌, ◌≤◌, ◌<◌, List, length}
use Rattle.window.specs.declared.Window.{Window}
use Rattle.window.specs.Window.{slot_at}
use Rattle.window.specs.Sweeps.{Ranged}
use Rattle.window.specs.SummaryLaws.{Sums}
use Rattle.replica.specs.declared.Replica.{Replica}

-- exec_bar is a place of a window whose walk the summary is, and there is room for 192 actions
pub record StepFits (r : Replica) (w : Window) (room : List ℕ) : Type 0 where
  pub long : 3456 ≤ length room
  pub low : r.sc.start ≤ 4294967296
  pub within : w.len ≤ 64
  pub exec_low : r.sc.start ≤ r.sc.exec_bar
  pub exec_high : r.sc.exec_bar ≤ r.sc.start + w.len
  pub exec_commit : r.sc.exec_bar ≤ r.sc.commit_bar
  pub commit_high : r.sc.commit_bar ≤ r.sc.start + w.len
  pub sum : Sums r.sc w r.summary

-- the same, and the trigger is the first open slot
pub record LeadFits (r : Replica) (w : Window) (trigger : ℕ) (room : List ℕ) : Type 0 where
  pub fits : StepFits r w room
  pub named : trigger ≡ r.summary.first

-- the places from commit_bar's on that are marked are places of a window, at Accepting or above
pub record MarkFits (r : Replica) (w : Window) (from stop : ℕ) (room : List ℕ) : Type 0 where
  pub ranged : Ranged from stop 0 room r.sc.start
  pub within : w.len ≤ 64
  pub high : stop ≤ w.len
  pub commit : from ≡ r.sc.commit_bar - r.sc.start
  pub may : (j : ℕ) → from ≤ j → j < stop → 2 ≤ (slot_at w j).status
  pub sum : Sums r.sc w r.summary
