-- What a function inside the crate may count on.
use Rattle.std.specs.Prelude.{◌≡◌, List, ℕ, ◌+◌, ◌≤◌, ◌<◌, length}
use Rattle.decide.specs.Decide.{Decided}
use Rattle.decide.specs.Laws.{Settles}
use Rattle.window.specs.declared.Window.{Window}
use Rattle.window.specs.Window.{slot_at}
use Rattle.window.specs.SummaryLaws.{Sums}
use Rattle.replica.specs.declared.Replica.{Replica}

-- the slot named is the one at place i of a window whose walk the summary is, what was decided leaves start and commit_bar, and there is room for
-- 192 actions
pub record SettleFits (r : Replica) (w : Window) (i slot : ℕ) (d : Decided) (room : List ℕ) : Type 0 where
  pub low : i < 64
  pub long : 3456 ≤ length room
  pub within : w.len ≤ 64
  pub here : i < w.len
  pub named : slot ≡ r.sc.start + i
  pub start : r.sc.start ≤ 4294967296
  pub commit : r.sc.start ≤ r.sc.commit_bar
  pub settles : Settles r.sc (slot_at w i) d
  pub sum : Sums r.sc w r.summary
