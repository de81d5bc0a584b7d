-- What the functions that write a closed read's answers count on, and hand back: contracts inside the crate.
use Rattle.std.specs.Prelude.{◌≡◌, List, [], ◌∷◌, ℕ, ◌≤◌, ◌<◌, length}
use Rattle.base.specs.Gather.{gather}
use Rattle.tally.specs.declared.Read.{Read}
use Rattle.tally.specs.Open.{Replied}
use Rattle.actions.specs.Actions.{Act, write_at}
use Rattle.window.specs.SummaryLaws.{Sums}
use Rattle.replica.specs.declared.Replica.{Replica}
use Rattle.replica.specs.Quorumread.{answer_act}

-- a key's place, and room for 192 actions
pub record AnswerFits (i : ℕ) (room : List ℕ) : Type 0 where
  pub low : i < 8
  pub long : 3456 ≤ length room

-- no more answers than a read has keys, and room for 192 actions
pub record AnswersFit (answers : ℕ) (room : List ℕ) : Type 0 where
  pub few : answers ≤ 8
  pub long : 3456 ≤ length room

-- the same of what a reply makes of a read, and the summary is the walk's
pub record RepliedFits (r : Replica) (d : Replied) (room : List ℕ) : Type 0 where
  pub few : d.answers ≤ 8
  pub long : 3456 ≤ length room
  pub sum : Sums r.sc r.window r.summary

-- the answers for the first keys
abbrev pub answer_acts : ℕ → Read → ℕ → List Act
answer_acts leader read answers = gather (λ k. answer_act leader read k ∷ []) 0 answers

pub record Answers (leader : ℕ) (read : Read) (answers : ℕ) (room after : List ℕ) : Type 0 where
  pub many : answers ≡ length (answer_acts leader read answers)
  pub written : after ≡ write_at room 0 (answer_acts leader read answers)
