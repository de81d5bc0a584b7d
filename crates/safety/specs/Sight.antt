-- What one call of a strict replica may do, whatever the call: with demand 3's frame (agreement, `Frame`) all that the proof of 02's seventh wish uses of
-- `step`. It is stated of what is seen of a replica, slots by number, so that another kind of replica, or one whose window moved, can keep to it: of a slot
-- that has left the window its last cell may stand.
use Rattle.std.specs.Prelude.{◌≡◌, Bool, true, false, List, ◌⊎◌, ℕ, ◌≤◌, ◌<◌}
use Rattle.base.specs.Pick.{pick}
use Rattle.base.specs.Among.{◌∈◌, All}
use Rattle.members.specs.Sets.{has}
use Rattle.batch.specs.declared.Batch.{Batch}
use Rattle.actions.specs.declared.Action.{Action}
use Rattle.actions.specs.declared.Promised.{Promised}
use Rattle.actions.specs.declared.Order.{Order}
use Rattle.actions.specs.declared.Action.TheVariants.{PrepareBal, AcceptData, CommitSlot, Prepare, PrepareReply, Accept, AcceptReply, CommitNotice, Heartbeat, StatusUp, StatusDown, Execute, ReadAnswer}
use Rattle.actions.specs.Actions.{Act}
use Rattle.slots.specs.declared.Vote.{Vote}
use Rattle.slots.specs.declared.Slot.{Slot}
use Rattle.slots.specs.Slots.{null_slot, no_vote}
use Rattle.decide.specs.declared.Reply.{Reply}
use Rattle.decide.specs.Scalars.{leads, strict}
use Rattle.decide.specs.Decide.{sent_vote}
use Rattle.window.specs.Acts.{promise}
use Rattle.replica.specs.declared.Replica.{Replica}
use Rattle.replica.specs.declared.Entry.TheVariants.{PrepareBal as PrepareEntry, AcceptData as AcceptEntry}
use Rattle.replica.specs.Record.{log_end}
use Rattle.replica.specs.Fit.{fit}
use Rattle.replica.specs.Messages.{clean}
use Rattle.replica.specs.Step.{Call, call_prepare_reply, call_accept_reply, call_commit_notice, call_logged}
use Rattle.laws.specs.WaysDurability.{completion}
use Rattle.voting.specs.Paper.{Majority}
use Rattle.voting.specs.Reached.{Good as Reached}
use Rattle.voting.specs.StrictVotes.{VoteTurn}
use Rattle.agreement.specs.Theorem.{slot_of, accept_entry}
use Rattle.agreement.specs.Frame.{View, cell, Owns, Frame}
use Rattle.agreement.specs.Good.{GoodReplica}
use Rattle.agreement.specs.StrictTells.{told_vote}

-- ── what is seen ──
pub record Sight : Type 0 where
  pub me : ℕ
  pub group : ℕ
  pub start : ℕ
  pub leading : Bool
  -- bal_max_seen, bal_prep_sent, bal_prepared, and the trigger of the lead
  pub seen : ℕ
  pub sent : ℕ
  pub prepared : ℕ
  pub trigger : ℕ
  -- the log end and commit_bar
  pub stop : ℕ
  pub bar : ℕ
  pub slot : ℕ → Slot

abbrev pub sight_of : Replica → Sight
sight_of r =
    record {
      me = r.sc.id;
      group = r.sc.group;
      start = r.sc.start;
      leading = leads r.sc;
      seen = r.sc.bal_max_seen;
      sent = r.sc.bal_prep_sent;
      prepared = r.sc.bal_prepared;
      trigger = r.sc.lead_trigger;
      stop = log_end r;
      bar = r.sc.commit_bar;
      slot = slot_of r;
    }

-- what demand 3's frame sees of it
abbrev pub plain : Sight → View
plain v = record { me = v.me; start = v.start; leading = v.leading; seen = v.seen; slot = λ s. cell (v.slot s) }

-- the members of a slot's bookkeeping: who is noted there, who has acknowledged its accept entry, and the largest vote heard
abbrev pub notes : Slot → ℕ
notes x = x.leader.notes

abbrev pub acks : Slot → ℕ
acks x = x.leader.accept_acks

abbrev pub highest : Slot → ℕ
highest x = x.leader.prepare_max_bal

-- who is counted in this lead, at the trigger slot
abbrev pub counted : Sight → ℕ
counted v = (v.slot v.trigger).leader.prepare_acks

-- of a replica alone after any calls: who leads leads at a ballot of its own, which is the largest seen; no slot is above it, a leader's Preparing and
-- Accepting slots are at it; past the log end slots are null, and commit_bar is not past it; it is of a group of at most nine
pub record Fine (v : Sight) : Type 0 where
  pub sent : v.leading ≡ true → v.sent ≡ v.seen
  pub own : v.leading ≡ true → Owns v.me v.seen
  pub low : (s : ℕ) → (v.slot s).ballot ≤ v.seen
  pub busy : v.leading ≡ true → (s : ℕ) → 1 ≤ (v.slot s).status → (v.slot s).status < 3 → (v.slot s).ballot ≡ v.seen
  pub past : (s : ℕ) → v.stop ≤ s → v.slot s ≡ null_slot
  pub within : v.bar ≤ v.stop
  pub member : v.me < v.group
  pub few : v.group ≤ 9

-- ── what a call brings ──
-- the vote that a reply tells; none where it tells none
abbrev pub heard_vote : Reply → Vote
heard_vote m = pick m.voted (record { ballot = m.vote.ballot; batch = clean m.vote.batch }) no_vote

-- p's reply for slot s with endprep e and a vote, of this lead: a message at bal_prep_sent; or self's own prepare entry, "self uses its own endprep"
pub data Replied (v : Sight) (c : Call) (p s e : ℕ) (vote : Vote) : Type 0 where
  replied_peer : (m : Reply) → c ≡ call_prepare_reply p m → p < v.group → (p ≡ v.me → ⊥) → m.slot ≡ s → m.endprep ≡ e → m.ballot ≡ v.sent → vote ≡ heard_vote m → Replied v c p s e vote
  replied_own : (size : ℕ) → p ≡ v.me → c ≡ call_logged (completion PrepareEntry s v.sent size) → (v.slot s).ballot ≡ v.sent → (v.slot s).leader.endprep ≡ e
      → vote ≡ sent_vote (v.slot s) → Replied v c p s e vote

-- p acknowledges slot s at ballot b: its AcceptReply, or self's own accept entry
pub data Acked (v : Sight) (c : Call) (p s b : ℕ) : Type 0 where
  acked_peer : c ≡ call_accept_reply p s b → Acked v c p s b
  acked_own : (size : ℕ) → p ≡ v.me → c ≡ call_logged (completion AcceptEntry s b size) → Acked v c p s b

-- ── one slot, x before and y after ──
-- why a slot is marked: a majority has acknowledged it at the ballot of the lead, or the ballot's owner told a bar above it
pub data Marking (v : Sight) (c : Call) (v' : Sight) (s : ℕ) (x y : Slot) : Type 0 where
  tallied : v'.leading ≡ true → y.ballot ≡ v'.sent → Majority v.group (acks y) → Marking v c v' s x y
  noticed : (p b bar : ℕ) → c ≡ call_commit_notice p b bar → Owns p b → b ≡ x.ballot → s < bar → Marking v c v' s x y

pub record Marks (v : Sight) (c : Call) (v' : Sight) (s : ℕ) (x y : Slot) : Type 0 where
  pub was : x.status ≡ 2
  pub at : y.ballot ≡ x.ballot
  pub val : y.batch ≡ x.batch
  pub why : Marking v c v' s x y

-- the endprep that a follower's reply tells is of the slot's ballot: both stay, or the ballot rises, or its prepare entry is written
abbrev pub Ends : List Act → ℕ → Slot → Slot → Type 0
Ends acts s x y =
    ((y.ballot ≡ x.ballot) × (x.replica.present ≡ true → (y.replica.present ≡ true) × (y.replica.endprep ≡ x.replica.endprep)))
    ⊎ ((x.ballot < y.ballot) ⊎ (promise s y.ballot ∈ acts))

pub record SlotTurn (v : Sight) (c : Call) (v' : Sight) (acts : List Act) (s : ℕ) (x y : Slot) : Type 0 where
  -- (b): the vote changes only with its accept entry, and is the entry that the call writes
  pub vote : VoteTurn acts s x.vote y.vote
  -- (d): the ballot does not fall, a slot in use stays so, and what is committed stays with its batch
  pub up : x.ballot ≤ y.ballot
  pub stays : 0 < x.status → 0 < y.status
  pub fixed : 3 ≤ x.status → (3 ≤ y.status) × (y.batch ≡ x.batch)
  pub ends : Ends acts s x y
  -- (a): who acknowledged the slot at the ballot of the lead did so before, or by this call
  pub acked : v'.leading ≡ true → y.ballot ≡ v'.sent → (p : ℕ) → has (acks y) p ≡ true
      → ((v.leading ≡ true) × (v.sent ≡ v'.sent) × (x.ballot ≡ v.sent) × (has (acks x) p ≡ true)) ⊎ Acked v c p s y.ballot
  pub marks : x.status < 3 → 3 ≤ y.status → Marks v c v' s x y

-- commit_bar passes committed slots
pub record Bars (v v' : Sight) : Type 0 where
  pub grows : v.bar ≤ v'.bar
  pub passes : (s : ℕ) → v.bar ≤ s → s < v'.bar → 3 ≤ (v.slot s).status

-- ── what it says ──
-- a prepare entry is at its slot's ballot; a follower's slot has its endprep, and past it no slot is in use
pub record Promises (v' : Sight) (s b : ℕ) : Type 0 where
  pub inside : s < v'.stop
  pub at : (v'.slot s).ballot ≡ b
  pub ends : v'.leading ≡ false → ((v'.slot s).replica.present ≡ true) × ((k : ℕ) → (v'.slot s).replica.endprep < k → (v'.slot k).status ≡ 0)

-- (a): a PrepareReply answers the completion of its slot's prepare entry at its own ballot, and tells the slot's vote and endprep
pub record Answers (v : Sight) (c : Call) (p : Promised) (keys : List ℕ) : Type 0 where
  pub size : ℕ
  pub call : c ≡ call_logged (completion PrepareEntry p.slot p.ballot size)
  pub follows : v.leading ≡ false
  pub at : (v.slot p.slot).ballot ≡ p.ballot
  pub booked : (v.slot p.slot).replica.present ≡ true
  pub ends : (v.slot p.slot).replica.endprep ≡ p.endprep
  pub vote : told_vote p keys ≡ sent_vote (v.slot p.slot)

-- a CommitNotice is a leader's, at the ballot that it prepared, and does not tell more than its commit_bar
pub record Notices (v v' : Sight) (ballot bar : ℕ) : Type 0 where
  pub leading : v.leading ≡ true
  pub still : v'.leading ≡ true
  pub at : ballot ≡ v.seen
  pub same : v'.seen ≡ v.seen
  pub prepared : ballot ≡ v.prepared
  pub low : bar ≤ v'.bar

-- the batch that an Execute names
abbrev pub ordered : Order → List ℕ → Batch
ordered o keys = record { id = o.batch; count = o.count; keys = keys }

-- an Execute is of a committed slot, and names its batch
pub record Executes (v : Sight) (s : ℕ) (b : Batch) : Type 0 where
  pub done : 3 ≤ (v.slot s).status
  pub batch : (v.slot s).batch ≡ b

abbrev pub Says : Sight → Call → Sight → List ℕ → Action → Type 0
Says v c v' keys (PrepareBal p) = Promises v' p.slot p.ballot
Says v c v' keys (PrepareReply p) = Answers v c p keys
-- (a): and an AcceptReply the completion of its accept entry
Says v c v' keys (AcceptReply p) = (size : ℕ) × (c ≡ call_logged (completion AcceptEntry p.slot p.ballot size))
Says v c v' keys (CommitNotice p) = Notices v v' p.ballot p.bar
Says v c v' keys (Execute p) = Executes v p.slot (ordered p keys)
Says v c v' keys (AcceptData p) = Unit {0}
Says v c v' keys (CommitSlot p) = Unit {0}
Says v c v' keys (Prepare p) = Unit {0}
Says v c v' keys (Accept p) = Unit {0}
Says v c v' keys Heartbeat = Unit {0}
Says v c v' keys StatusUp = Unit {0}
Says v c v' keys StatusDown = Unit {0}
Says v c v' keys (ReadAnswer p) = Unit {0}

-- ── who leads after it ──
-- (c): what is noted at a Preparing slot, x before the call and y as its reply was heard: nothing new, or one reply, of which a larger vote is taken
pub data Noted (v : Sight) (c : Call) (k : ℕ) (x y : Slot) : Type 0 where
  still : notes y ≡ notes x → highest y ≡ highest x → y.batch ≡ x.batch → Noted v c k x y
  heard : (p e : ℕ) (vote : Vote) → Replied v c p k e vote → ((q : ℕ) → has (notes y) q ≡ true → (has (notes x) q ≡ true) ⊎ (q ≡ p))
      → ((q : ℕ) → has (notes x) q ≡ true → has (notes y) q ≡ true)
      → ((highest x < vote.ballot) × (highest y ≡ vote.ballot) × (y.batch ≡ vote.batch))
      ⊎ ((vote.ballot ≤ highest x) × (highest y ≡ highest x) × (y.batch ≡ x.batch)) → Noted v c k x y

-- (c): "A member counts once some reply of its with endprep e arrives when slot e exists at the leader and every slot from trigger to e that is Preparing
-- there has been noted from that member", the slots being as the reply was heard
pub record Counts (v : Sight) (c : Call) (v' : Sight) (mid : ℕ → Slot) (p : ℕ) : Type 0 where
  pub slot : ℕ
  pub end : ℕ
  pub vote : Vote
  pub reply : Replied v c p slot end vote
  pub high : end < v'.stop
  pub noted : (k : ℕ) → v.trigger ≤ k → k ≤ end → (mid k).status ≡ 1 → has (notes (mid k)) p ≡ true

-- a step-up: a larger ballot, nobody noted or counted, the trigger's prepare entry; past the endprep of the new bookkeeping no slot is Preparing
pub record Rose (v v' : Sight) (acts : List Act) : Type 0 where
  pub above : v.seen < v'.seen
  pub unprepared : v'.prepared ≡ 0
  pub uncounted : (p : ℕ) → has (counted v') p ≡ true → ⊥
  pub unnoted : (k : ℕ) → (v'.slot k).status ≡ 1 → ((p : ℕ) → has (notes (v'.slot k)) p ≡ true → ⊥) × (highest (v'.slot k) ≡ 0)
  pub begun : promise v'.trigger v'.sent ∈ acts
  pub ends : (s k : ℕ) → promise s v'.sent ∈ acts → (v'.slot s).leader.endprep < k → (v'.slot k).status ≡ 1 → ⊥

-- the lead goes on: `mid` is the slots as a reply was heard, before those of a quorum enter Accept; the slots after the call where none was
pub record GoesOn (v : Sight) (c : Call) (v' : Sight) (mid : ℕ → Slot) (acts : List Act) : Type 0 where
  pub leading : v.leading ≡ true
  pub seen : v'.seen ≡ v.seen
  pub sent : v'.sent ≡ v.sent
  pub trigger : v'.trigger ≡ v.trigger
  pub counts : (p : ℕ) → has (counted v') p ≡ true → (has (counted v) p ≡ true) ⊎ Counts v c v' mid p
  pub prepared : (v'.prepared ≡ v.prepared) ⊎ Majority v.group (counted v')
  -- a slot that is Preparing was so, or is new
  pub was : (k : ℕ) → (mid k).status ≡ 1 → ((v.slot k).status ≡ 1) ⊎ (v.stop ≤ k)
  pub noted : (k : ℕ) → (mid k).status ≡ 1 → Noted v c k (v.slot k) (mid k)
  pub after : (k : ℕ) → (v'.slot k).status ≡ 1 → ((mid k).status ≡ 1) × (notes (v'.slot k) ≡ notes (mid k)) × (highest (v'.slot k) ≡ highest (mid k)) × ((v'.slot k).batch ≡ (mid k).batch)
  -- a slot's endprep stays; a new slot that is prepared has the trigger slot's
  pub ends : (s : ℕ) → ((v'.slot s).leader.endprep ≡ (v.slot s).leader.endprep) ⊎ (v.stop ≤ s)
  pub new : (s b : ℕ) → promise s b ∈ acts → (v.stop ≤ s) × ((v'.slot s).leader.endprep ≡ (v.slot v.trigger).leader.endprep)

pub data Lead (v : Sight) (c : Call) (v' : Sight) (mid : ℕ → Slot) (acts : List Act) : Type 0 where
  rose : Rose v v' acts → Lead v c v' mid acts
  on : GoesOn v c v' mid acts → Lead v c v' mid acts

-- (c): why a leader writes an accept entry at a ballot of its own: the slot was Preparing as a quorum was counted, or it is offered at a prepared ballot
pub data Proposes (v v' : Sight) (mid : ℕ → Slot) (s b : ℕ) (e : Batch) : Type 0 where
  entered : v.leading ≡ true → v'.leading ≡ true → b ≡ v.sent → (mid s).status ≡ 1 → v.trigger ≤ s → e ≡ (mid s).batch → Majority v.group (counted v')
      → Proposes v v' mid s b e
  offered : v.leading ≡ true → v'.leading ≡ true → b ≡ v.sent → s ≡ v.stop → v.prepared ≡ v.sent → Proposes v v' mid s b e

pub record Leads (v : Sight) (c : Call) (v' : Sight) (acts : List Act) : Type 0 where
  pub mid : ℕ → Slot
  pub lead : v'.leading ≡ true → Lead v c v' mid acts
  pub entries : (s b : ℕ) (e : Batch) → accept_entry s b e ∈ acts → Owns v.me b → Proposes v v' mid s b e

-- ── the strict frame of a call c with answer n ──
pub record Strict (v : Sight) (c : Call) (n : ℕ) (v' : Sight) (acts : List Act) : Type 0 where
  pub frame : Frame (plain v) c n (plain v') acts
  pub fine : Fine v'
  pub group : v'.group ≡ v.group
  pub longer : v.stop ≤ v'.stop
  pub slot : (s : ℕ) → SlotTurn v c v' acts s (v.slot s) (v'.slot s)
  pub bars : Bars v v'
  pub said : All (λ (a : Act). Says v c v' a.keys a.what) acts
  pub leads : Leads v c v' acts

-- the replicas of which every call keeps to it
pub record Able (r : Replica) : Type 0 where
  pub good : GoodReplica r
  pub reached : Reached r.sc r.window
  pub fits : fit r ≡ true
  pub kind : strict r.sc ≡ true
