-- The accept entries of a log as numbers: what a computed log does not hold is read off this list.
use Rattle.std.specs.Prelude.{refl, List, [], ◌∷◌, ◌++◌, ℕ}
use Rattle.std.proofs.Common.{subst}
use mathlib.Core.List.Memᴰ
use Rattle.base.specs.Among.{◌∈◌}
use Rattle.batch.specs.declared.Batch.{Batch}
use Rattle.actions.specs.declared.Action.{Action}
use Rattle.actions.specs.declared.Action.TheVariants.{PrepareBal, AcceptData, CommitSlot, Prepare, PrepareReply, Accept, AcceptReply, CommitNotice, Heartbeat, StatusUp, StatusDown, Execute, ReadAnswer}
use Rattle.actions.specs.Actions.{Act}
use Rattle.agreement.specs.Theorem.{accept_entry}

-- an accept entry: slot, ballot, and the id of its batch
pub record Line : Type 0 where
  pub slot : ℕ
  pub ballot : ℕ
  pub batch : ℕ

abbrev pub line : ℕ → ℕ → ℕ → Line
line slot ballot batch = record { slot = slot; ballot = ballot; batch = batch }

abbrev pub line_of : Action → List Line
line_of (AcceptData p) = line p.slot p.ballot p.batch ∷ []
line_of (PrepareBal p) = []
line_of (CommitSlot p) = []
line_of (Prepare p) = []
line_of (PrepareReply p) = []
line_of (Accept p) = []
line_of (AcceptReply p) = []
line_of (CommitNotice p) = []
line_of Heartbeat = []
line_of StatusUp = []
line_of StatusDown = []
line_of (Execute p) = []
line_of (ReadAnswer p) = []

unfoldable pub lines : List Act → List Line
lines [] = []
lines (a ∷ l) = line_of a.what ++ lines l

pub lines_in : (slot ballot : ℕ) (b : Batch) (l : List Act) → accept_entry slot ballot b ∈ l → line slot ballot b.id ∈ lines l
unfolding lines
lines_in slot ballot b [] m = elim m [ ]
lines_in slot ballot b (a ∷ l) (Memᴰ.head e) = subst (λ (x : Act). line slot ballot b.id ∈ (line_of x.what ++ lines l)) e (Memᴰ.head refl)
lines_in slot ballot b (a ∷ l) (Memᴰ.tail m) = Memᴰ.append_right (line_of a.what) (lines_in slot ballot b l m)
