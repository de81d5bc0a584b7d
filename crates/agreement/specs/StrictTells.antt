-- 02, Wish 6, what a strict member tells, over every run of a group of strict replicas: a reply comes from the completion of an entry at its own ballot,
-- and a vote that a PrepareReply tells is the highest-numbered accept entry that the member ever wrote for the slot, as a leader too. "Paxos Made Simple",
-- 2.2, phase 1 (b): "the highest-numbered proposal (if any) that it has accepted".
use Rattle.std.specs.Prelude.{◌≡◌, true, List, ◌⊎◌, ℕ, ◌+◌, ◌-◌, ◌≤◌, ◌<◌, ltb}
use Rattle.std.proofs.Common.{sym, ap, ◌∙◌, le_refl, arith}
use Rattle.base.specs.Pick.{pick_both}
use Rattle.base.specs.Among.{◌∈◌}
use Rattle.actions.specs.declared.Promised.{Promised}
use Rattle.actions.specs.declared.Accepted.{Accepted}
use Rattle.actions.specs.declared.Action.{Action}
use Rattle.actions.specs.declared.Action.TheVariants.{PrepareBal, AcceptData, CommitSlot, Prepare, PrepareReply, Accept, AcceptReply, CommitNotice, Heartbeat, StatusUp, StatusDown, Execute, ReadAnswer}
use Rattle.actions.specs.Actions.{Act, act}
use Rattle.slots.specs.declared.Vote.{Vote}
use Rattle.slots.specs.declared.Slot.{Slot}
use Rattle.slots.specs.Slots.{no_vote}
use Rattle.decide.specs.Decide.{sent_vote}
use Rattle.window.specs.ByPlace.{at_place}
use Rattle.replica.specs.declared.Replica.{Replica}
use Rattle.replica.specs.declared.Done.{Done}
use Rattle.replica.specs.declared.Entry.TheVariants.{PrepareBal as PrepareEntry, AcceptData as AcceptEntry}
use Rattle.replica.specs.Record.{place, log_end}
use Rattle.replica.specs.Step.{Call, call_logged, step}
use Rattle.laws.specs.WaysDurability.{completion}
use Rattle.voting.specs.Below.{Below, Below-new}
use Rattle.voting.specs.Votes.{vote_of}
use Rattle.voting.specs.StrictVotes.{entry_of}
use Rattle.voting.specs.Logging.{own_answer}
use Rattle.agreement.specs.BySlot.{numbered, numbered_at}
use Rattle.agreement.specs.Theorem.{Group, World, slot_of, begin, Reach}

-- v is none, or was accepted for slot s in a log h, and nothing higher was
pub record HighestAccepted (h : List Act) (s : ℕ) (v : Vote) : Type 0 where
  pub mine : (v.ballot ≡ 0) ⊎ (entry_of s v ∈ h)
  pub top : (x : Vote) → entry_of s x ∈ h → x.ballot ≤ v.ballot

-- the vote that a PrepareReply tells; none where its ballot is 0
abbrev pub told_vote : Promised → List ℕ → Vote
told_vote p keys = record { ballot = p.voted; batch = record { id = p.batch; count = p.count; keys = keys } }

-- ── THE STATEMENT: of any call of a present member in any reachable world of a strict group ──
pub record TellsTrue (r : Replica) (c : Call) (h : List Act) (acts : List Act) : Type 0 where
  -- "a vote told in a PrepareReply is the highest accepted", and not above the ballot asked; it answers the completion of its slot's prepare entry at the
  -- reply's own ballot
  pub promised : (p : Promised) (keys : List ℕ) → act (PrepareReply p) keys ∈ acts
      → ((size : ℕ) × (c ≡ call_logged (completion PrepareEntry p.slot p.ballot size)))
      × HighestAccepted h p.slot (told_vote p keys) × (p.voted ≤ p.ballot)
  -- an AcceptReply answers the completion of its slot's accept entry at its own ballot, which is the slot's vote
  pub accepted : (p : Accepted) (keys : List ℕ) → act (AcceptReply p) keys ∈ acts
      → ((size : ℕ) × (c ≡ call_logged (completion AcceptEntry p.slot p.ballot size))) × ((vote_of r p.slot).ballot ≡ p.ballot)
  -- a leader's own vote is among its answers: what it answers itself at the completion of its prepare entry tells the highest that it accepted
  pub own : (d : Done) → r.sc.start ≤ d.slot → d.slot < log_end r → HighestAccepted h d.slot (own_answer r d).vote

abbrev pub StrictTells : Type 0
StrictTells = (g : Group) → g.strict ≡ true → (w : World) → Reach g w → (m : ℕ) → g.present m ≡ true → (room : ℕ) (c : Call)
    → TellsTrue (w.replica m) c (w.did m) (step (w.replica m) room c).actions

-- the vote in a PrepareReply
abbrev pub tells_vote : List ℕ → Action → Vote
tells_vote keys (PrepareReply p) = told_vote p keys
tells_vote keys (AcceptData p) = no_vote
tells_vote keys (PrepareBal p) = no_vote
tells_vote keys (CommitSlot p) = no_vote
tells_vote keys (Prepare p) = no_vote
tells_vote keys (Accept p) = no_vote
tells_vote keys (AcceptReply p) = no_vote
tells_vote keys (CommitNotice p) = no_vote
tells_vote keys Heartbeat = no_vote
tells_vote keys StatusUp = no_vote
tells_vote keys StatusDown = no_vote
tells_vote keys (Execute p) = no_vote
tells_vote keys (ReadAnswer p) = no_vote

-- ── a member's votes and its ballots ──
pub start_below : (g : Group) (m : ℕ) → g.present m ≡ true → Below ((begin g).replica m).sc ((begin g).replica m).window
unfolding begin
start_below g m p = Below-new m g.size g.start (g.options m) (g.made m p)

-- what a slot sends is its vote or none
pub sent_low : (y : Slot) → (sent_vote y).ballot ≤ y.vote.ballot
sent_low y = pick_both (λ (v : Vote). v.ballot ≤ y.vote.ballot) (ltb 0 y.vote.ballot) (le_refl _) (omega arith)

-- ── a member's votes and its log ──
abbrev pub vote_at : Replica → ℕ → Vote
vote_at r s = (slot_of r s).vote

-- each slot's vote is the highest that the member accepted for it
pub record Voter (start : ℕ) (r : Replica) (h : List Act) : Type 0 where
  pub votes : (s : ℕ) → start ≤ s → HighestAccepted h s (vote_at r s)

-- by place and by number
pub by_number : (r : Replica) (s : ℕ) → r.sc.start ≤ s → (at_place r.window (place r.sc s)).vote ≡ vote_at r s
by_number r s l =
    let q : r.sc.start + (s - r.sc.start) ≡ s = omega arith in
    ap (λ (x : Slot). x.vote) (sym (numbered_at r.sc.start r.window (s - r.sc.start))) ∙ ap (λ (n : ℕ). (numbered r.sc.start r.window n).vote) q
