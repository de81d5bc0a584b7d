-- A group's worlds in the paper's words (voting, `Paper`): of one slot, what is accepted, issued, learned and proposed, as the logs, the
-- messages, the marks and the offers have it.
use Rattle.std.specs.Prelude.{◌≡◌, ◌⊎◌, ℕ}
use Rattle.base.specs.Among.{◌∈◌}
use Rattle.batch.specs.declared.Batch.{Batch}
use Rattle.batch.specs.Batches.{empty_batch}
use Rattle.slots.specs.declared.Vote.{Vote}
use Rattle.replica.specs.Messages.{clean}
use Rattle.replica.specs.Step.{call_offer, step}
use Rattle.agreement.specs.Theorem.{Group, Mark, World, Reach, begins, turn, accept_entry}
use Rattle.agreement.specs.Local.{accept_sent}

-- member m accepted the proposal v for slot s: its log has the accept entry
abbrev pub IsAccepted : World → ℕ → ℕ → Vote → Type 0
IsAccepted w s m v = accept_entry s v.ballot v.batch ∈ w.did m

-- the proposal v for slot s is issued: a member sent an Accept with it
abbrev pub IsIssued : World → ℕ → Vote → Type 0
IsIssued w s v = (m : ℕ) × (accept_sent s v.ballot v.batch ∈ w.did m)

-- member m learned that b is chosen for slot s: it marked the slot with b
abbrev pub IsLearned : World → ℕ → ℕ → Batch → Type 0
IsLearned w s m b = (ballot : ℕ) × (◌∈◌ {A = Mark} (record { who = m; slot = s; ballot = ballot; batch = b }) w.marks)

-- a batch was offered in the run, and the offer was taken
abbrev pub Offered : {g : Group} {w : World} → Reach g w → Batch → Type 0
Offered begins b = ⊥
Offered (turn {w = u} r m p room c a) b = Offered r b ⊎ ((c ≡ call_offer b) × ((step (u.replica m) room c).answer ≡ 0))

-- a batch is proposed: it is empty, or what was offered, its unused key numbers dropped
abbrev pub Proposed : {g : Group} {w : World} → Reach g w → Batch → Type 0
Proposed r b = (b ≡ empty_batch) ⊎ ((o : Batch) × (Offered r o) × (b ≡ clean o))
