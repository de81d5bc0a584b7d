-- 2.2: a batch that a leader commits by replies, or by its own completion, is chosen where the run is truthful: then a majority has its accept entry.
use Rattle.std.specs.Prelude.{◌≡◌, true, ◌⊎◌, ℕ}
use Rattle.base.specs.Among.{◌∈◌}
use Rattle.members.specs.Sets.{has}
use Rattle.batch.specs.declared.Batch.{Batch}
use Rattle.slots.specs.declared.Vote.{Vote}
use Rattle.replica.specs.declared.Entry.TheVariants.{AcceptData}
use Rattle.replica.specs.Record.{place}
use Rattle.replica.specs.Step.{call_accept_reply, call_logged, step}
use Rattle.laws.specs.WaysDurability.{completion}
use Rattle.voting.specs.Paper.{Chosen}
use Rattle.voting.specs.Quorums.{commit_of, acks_of}
use Rattle.agreement.specs.Theorem.{Group, World, slot_of, May, Reach, accept_entry}
use Rattle.agreement.specs.Worlds.{IsAccepted}
use Rattle.agreement.specs.Acks.{HasReplied, Truthful}

-- ── what is said ──
-- the proposal that slot s of member l holds: its ballot and batch
abbrev pub proposal_at : World → ℕ → ℕ → Vote
proposal_at w l s = record { ballot = (slot_of (w.replica l) s).ballot; batch = (slot_of (w.replica l) s).batch }

-- each member of a set is l itself, or has sent an AcceptReply for slot s at the ballot that l holds it at
abbrev pub AllReplied : World → ℕ → ℕ → ℕ → Type 0
AllReplied w l s set = (m : ℕ) → has set m ≡ true → (m ≡ l) ⊎ HasReplied w m s (proposal_at w l s).ballot

-- a leader l commits slot s by an AcceptReply from p: each member in accept_acks then is l, or has sent an AcceptReply for s at this ballot
abbrev pub CommitReplied : Type 0
CommitReplied = (g : Group) (w : World) → Reach g w → (l : ℕ) → g.present l ≡ true → (s said room p ballot : ℕ) → May w l room (call_accept_reply p s ballot)
    → commit_of s said ∈ (step (w.replica l) room (call_accept_reply p s ballot)).actions
    → AllReplied w l s (acks_of (step (w.replica l) room (call_accept_reply p s ballot)).replica.window (place (w.replica l).sc s))

-- and in a truthful run what it commits is chosen
abbrev pub CommitChosen : Type 0
CommitChosen = (g : Group) (w : World) (r : Reach g w) → Truthful r → (l : ℕ) → g.present l ≡ true → (s said room p ballot : ℕ) → May w l room (call_accept_reply p s ballot)
    → commit_of s said ∈ (step (w.replica l) room (call_accept_reply p s ballot)).actions → Chosen g.size (IsAccepted w s) (proposal_at w l s)

-- the same where l commits by its own AcceptData entry
abbrev pub OwnCommitReplied : Type 0
OwnCommitReplied = (g : Group) (w : World) → Reach g w → (l : ℕ) → g.present l ≡ true → (s said room bal offset : ℕ)
    → commit_of s said ∈ (step (w.replica l) room (call_logged (completion AcceptData s bal offset))).actions
    → AllReplied w l s (acks_of (step (w.replica l) room (call_logged (completion AcceptData s bal offset))).replica.window (place (w.replica l).sc s))

abbrev pub OwnCommitChosen : Type 0
OwnCommitChosen = (g : Group) (w : World) (r : Reach g w) → Truthful r → (l : ℕ) → g.present l ≡ true → (s said room bal offset : ℕ)
    → commit_of s said ∈ (step (w.replica l) room (call_logged (completion AcceptData s bal offset))).actions
    → Chosen g.size (IsAccepted w s) (proposal_at w l s)

-- ── in a truthful run a reply has its accept entry ──
abbrev pub HasEntry : World → ℕ → ℕ → ℕ → Type 0
HasEntry w m s ballot = (e : Batch) × (accept_entry s ballot e ∈ w.did m)
