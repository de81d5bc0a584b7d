-- A log completion inside the crate: what its functions may count on, and what the notice hands back.
use Rattle.std.specs.Prelude.{◌≡◌, List, ℕ, ◌+◌, ◌-◌, ◌≤◌, ◌<◌, length}
use Rattle.actions.specs.Actions.{Act, write_at}
use Rattle.window.specs.Window.{slot_at}
use Rattle.window.specs.SummaryLaws.{Sums}
use Rattle.replica.specs.declared.Replica.{Replica}

-- the bars lie in the log, and the log in the window
pub record BarsFit (r : Replica) : Type 0 where
  pub low : r.sc.start ≤ 4294967296
  pub within : r.window.len ≤ 64
  pub commit_low : r.sc.start ≤ r.sc.commit_bar
  pub commit_high : r.sc.commit_bar ≤ r.sc.start + r.window.len
  pub accept_low : r.sc.start ≤ r.sc.accept_bar
  pub accept_is_high : r.sc.accept_bar ≤ r.sc.start + r.window.len

-- the slot named is the one at place i, with room for 192 actions
pub record DoneFits (r : Replica) (i slot : ℕ) (room : List ℕ) : Type 0 where
  pub bars : BarsFit r
  pub here : i < r.window.len
  pub named : slot ≡ r.sc.start + i
  pub long : 3456 ≤ length room
  pub sum : Sums r.sc r.window r.summary

-- the bars alone, with room for 192 actions
pub record CommitFits (r : Replica) (room : List ℕ) : Type 0 where
  pub bars : BarsFit r
  pub long : 3456 ≤ length room
  pub sum : Sums r.sc r.window r.summary

-- commit_bar walks from its place to another, over committed slots
pub record PassFits (r : Replica) (from stop : ℕ) (room : List ℕ) : Type 0 where
  pub low : r.sc.start ≤ 4294967296
  pub within : r.window.len ≤ 64
  pub ordered : from ≤ stop
  pub high : stop ≤ 64
  pub long : 3456 ≤ length room
  pub commit : from ≡ r.sc.commit_bar - r.sc.start
  pub present : stop ≤ r.window.len
  pub closed : (j : ℕ) → from ≤ j → j < stop → 3 ≤ (slot_at r.window j).status
  pub sum : Sums r.sc r.window r.summary

-- actions written from the n-th place on, and the next place
pub record Wrote (acts : List Act) (n : ℕ) (room : List ℕ) (m : ℕ) (after : List ℕ) : Type 0 where
  pub next : m ≡ n + length acts
  pub written : after ≡ write_at room n acts
