-- What one call may do, whatever the call: the only facts about `step` that the proofs over a group use. The slots are seen by number, and
-- of a slot only its status, ballot and batch, so that another kind of replica, or one whose log starts elsewhere, can keep to the same frame.
use Rattle.std.specs.Prelude.{◌≡◌, Bool, true, List, [], ◌⊎◌, ℕ, ◌+◌, ◌%◌, ◌≤◌, ◌<◌}
use Rattle.base.specs.Among.{◌∈◌, All}
use Rattle.batch.specs.declared.Batch.{Batch}
use Rattle.actions.specs.declared.Action.{Action}
use Rattle.actions.specs.declared.Proposal.{Proposal}
use Rattle.actions.specs.declared.Action.TheVariants.{PrepareBal, AcceptData, CommitSlot, Prepare, PrepareReply, Accept, AcceptReply, CommitNotice, Heartbeat, StatusUp, StatusDown, Execute, ReadAnswer}
use Rattle.actions.specs.Actions.{Act, no_keys}
use Rattle.slots.specs.declared.Slot.{Slot}
use Rattle.decide.specs.declared.Scalars.{Scalars}
use Rattle.decide.specs.Scalars.{leads}
use Rattle.window.specs.declared.Window.{Window}
use Rattle.replica.specs.Messages.{clean}
use Rattle.replica.specs.Step.{Call, call_accept}
use Rattle.agreement.specs.BySlot.{numbered}
use Rattle.agreement.specs.Theorem.{accept_entry, commit_entry}

-- ── what is seen of a replica ──
-- a view need not be read off the replica: of a slot that has left the log, its last cell may stand
pub record Cell : Type 0 where
  pub status : ℕ
  pub ballot : ℕ
  pub batch : Batch

abbrev pub cell : Slot → Cell
cell x = record { status = x.status; ballot = x.ballot; batch = x.batch }

pub record View : Type 0 where
  pub me : ℕ
  pub start : ℕ
  pub leading : Bool
  pub seen : ℕ
  pub slot : ℕ → Cell

abbrev pub view : Scalars → Window → View
view sc w = record { me = sc.id; start = sc.start; leading = leads sc; seen = sc.bal_max_seen; slot = λ s. cell (numbered sc.start w s) }

-- p made the ballot b
abbrev pub Owns : ℕ → ℕ → Type 0
Owns p b = b % 256 ≡ p + 1

-- the key numbers past the count are 0, and the numbers are those of a batch
abbrev pub Clean : Batch → Type 0
Clean b = clean b ≡ b

-- the slot holds b, accepted at the ballot or committed since
pub record Holds (x : Cell) (ballot : ℕ) (b : Batch) : Type 0 where
  pub on : 2 ≤ x.status
  pub at : x.ballot ≡ ballot
  pub val : x.batch ≡ b

-- ── actions ──
-- why an accept entry was written: as the leader, for a slot not yet accepted; or as told by the ballot's owner
pub data Why (v : View) (c : Call) (s ballot : ℕ) (b : Batch) : Type 0 where
  led : Owns v.me ballot → (v.slot s).status < 2 → v.leading ≡ true → ballot ≡ v.seen → Why v c s ballot b
  told : (p : ℕ) (m : Batch) → c ≡ call_accept p s ballot m → b ≡ clean m → Owns p ballot → (p ≡ v.me → ⊥) → Why v c s ballot b

-- an accept entry is at the largest ballot seen after the call, and the slot holds what it names
pub record Wrote (v : View) (c : Call) (v' : View) (s ballot : ℕ) (b : Batch) : Type 0 where
  pub top : ballot ≡ v'.seen
  pub held : Holds (v'.slot s) ballot b
  pub why : Why v c s ballot b

-- a commit entry is of a slot that was Accepting and is Committed now, its ballot and batch kept; it says this ballot, which is the largest seen
pub record Marked (x y : Cell) (said seen : ℕ) : Type 0 where
  pub was : x.status ≡ 2
  pub now : 3 ≤ y.status
  pub at : y.ballot ≡ x.ballot
  pub val : y.batch ≡ x.batch
  pub says : said ≡ y.ballot
  pub top : y.ballot ≡ seen

-- an Accept is sent for an own ballot, with its entry beside it
pub record Sent (v : View) (acts : List Act) (s ballot : ℕ) (b : Batch) : Type 0 where
  pub own : Owns v.me ballot
  pub logged : accept_entry s ballot b ∈ acts
  pub tidy : Clean b

abbrev pub named : Proposal → List ℕ → Batch
named p keys = record { id = p.batch; count = p.count; keys = keys }

abbrev pub SaidOk : View → Call → View → List Act → List ℕ → Action → Type 0
SaidOk v c v' acts keys (PrepareBal p) = p.ballot ≡ v'.seen
SaidOk v c v' acts keys (AcceptData p) = Wrote v c v' p.slot p.ballot (named p keys)
SaidOk v c v' acts keys (CommitSlot p) = Marked (v.slot p.slot) (v'.slot p.slot) p.ballot v'.seen
SaidOk v c v' acts keys (Prepare p) = Unit {0}
SaidOk v c v' acts keys (PrepareReply p) = Unit {0}
SaidOk v c v' acts keys (Accept p) = Sent v acts p.slot p.ballot (named p keys)
SaidOk v c v' acts keys (AcceptReply p) = Unit {0}
SaidOk v c v' acts keys (CommitNotice p) = Unit {0}
SaidOk v c v' acts keys Heartbeat = Unit {0}
SaidOk v c v' acts keys StatusUp = Unit {0}
SaidOk v c v' acts keys StatusDown = Unit {0}
SaidOk v c v' acts keys (Execute p) = Unit {0}
SaidOk v c v' acts keys (ReadAnswer p) = Unit {0}

-- one of the 64 slots from `start` on
abbrev pub InWindow : ℕ → ℕ → Type 0
InWindow start s = (start ≤ s) × (s < start + 64)

-- what a log that begins at `start` may hold: its entries' slots are of the window, an accept entry's batch is clean, and the others have no keys
abbrev pub Loggable : ℕ → List ℕ → Action → Type 0
Loggable start keys (PrepareBal p) = InWindow start p.slot × (keys ≡ no_keys)
Loggable start keys (AcceptData p) = InWindow start p.slot × Clean (named p keys)
Loggable start keys (CommitSlot p) = InWindow start p.slot × (keys ≡ no_keys)
Loggable start keys (Prepare p) = Unit {0}
Loggable start keys (PrepareReply p) = Unit {0}
Loggable start keys (Accept p) = Unit {0}
Loggable start keys (AcceptReply p) = Unit {0}
Loggable start keys (CommitNotice p) = Unit {0}
Loggable start keys Heartbeat = Unit {0}
Loggable start keys StatusUp = Unit {0}
Loggable start keys StatusDown = Unit {0}
Loggable start keys (Execute p) = Unit {0}
Loggable start keys (ReadAnswer p) = Unit {0}

-- v before the call and v' after it, acts all its actions
abbrev pub ActOk : View → Call → View → List Act → Act → Type 0
ActOk v c v' acts a = SaidOk v c v' acts a.keys a.what × Loggable v.start a.keys a.what

-- ── slots ──
-- what becomes of slot s, x before and y after: it stays below Accepting; it stays at or above Accepting with its ballot and batch; its accept
-- entry is written; or it is put back, and the call raised the largest ballot seen or left it another's
pub data SlotStep (v v' : View) (acts : List Act) (s : ℕ) (x y : Cell) : Type 0 where
  low : x.status < 2 → y.status < 2 → SlotStep v v' acts s x y
  kept : 2 ≤ x.status → (y.status ≡ 2 → x.status ≡ 2) → Holds y x.ballot x.batch → SlotStep v v' acts s x y
  wrote : 2 ≤ y.status → accept_entry s y.ballot y.batch ∈ acts → SlotStep v v' acts s x y
  cleared : (y.status ≡ 2 → ⊥) → (v.seen < v'.seen) ⊎ (Owns v.me v'.seen → ⊥) → SlotStep v v' acts s x y

-- ── the frame of a call c with answer n ──
pub record Frame (v : View) (c : Call) (n : ℕ) (v' : View) (acts : List Act) : Type 0 where
  pub same : v'.me ≡ v.me
  pub fixed : v'.start ≡ v.start
  pub mono : v.seen ≤ v'.seen
  -- who leads after the call led before it at the same ballot, or has a larger ballot
  pub lead : v'.leading ≡ true → ((v.leading ≡ true) × (v'.seen ≡ v.seen)) ⊎ (v.seen < v'.seen)
  pub slot : (s : ℕ) → SlotStep v v' acts s (v.slot s) (v'.slot s)
  -- a status rises to Committed only with a commit entry, at the slot's ballot
  pub rise : (s : ℕ) → (v.slot s).status < 3 → 3 ≤ (v'.slot s).status → commit_entry s (v'.slot s).ballot ∈ acts
  pub said : All (ActOk v c v' acts) acts
  -- "all but 0 give no actions"
  pub quiet : (n ≡ 0 → ⊥) → acts ≡ []
