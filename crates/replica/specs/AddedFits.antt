-- What moving exec_bar counts on.
use Rattle.std.specs.Prelude.{◌+◌, ◌≤◌}
use Rattle.replica.specs.declared.Replica.{Replica}

-- the bars are those of a window of 64 slots
pub record ExecFits (r : Replica) : Type 0 where
  pub low : r.sc.start ≤ 4294967296
  pub from : r.sc.start ≤ r.sc.exec_bar
  pub ordered : r.sc.exec_bar ≤ r.sc.commit_bar
  pub within : r.sc.commit_bar ≤ r.sc.start + 64
