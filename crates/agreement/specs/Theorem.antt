-- Demand 3. "Take replicas of one group, ids distinct, all fresh with the same start slot, each acting as 1 and 2 say, refused calls among the
-- rest. Timers fire, batches arrive and log completions are reported at any moment. A message sent may be lost, repeated or overtaken, but
-- arrives unchanged under its true sender, and none is made up. Then: the ballots in the prepare and accept entries each replica writes to its
-- log never fall; any two accept entries in any logs for one slot and ballot name one batch; two replicas that mark a slot committed at one
-- ballot hold the same batch in it as they mark it. (No claim across ballots: a log completion here names no ballot.)" Since 02's fifth wish it names
-- one, which a base replica ignores (Ignored) and a strict one asks for: of strict groups there is more, across ballots (safety/specs/ForGood).
use Rattle.std.specs.Prelude.{◌≡◌, Bool, true, ◌&&◌, List, [], ◌∷◌, ◌++◌, ℕ, ◌/◌, ◌%◌, ◌≤◌, ltb, leb, eqb}
use Rattle.base.specs.Pick.{pick}
use Rattle.base.specs.Gather.{gather}
use Rattle.base.specs.Among.{◌∈◌, All}
use Rattle.batch.specs.declared.Batch.{Batch}
use Rattle.tally.specs.declared.Tally.{Tally}
use Rattle.actions.specs.declared.Action.{Action}
use Rattle.actions.specs.declared.Action.TheVariants.{PrepareBal, AcceptData, CommitSlot, Prepare, PrepareReply, Accept, AcceptReply, CommitNotice, Heartbeat, StatusUp, StatusDown, Execute, ReadAnswer}
use Rattle.actions.specs.Actions.{Act, act, bare}
use Rattle.slots.specs.declared.Slot.{Slot}
use Rattle.slots.specs.Slots.{committed}
use Rattle.decide.specs.Decide.{proposal}
use Rattle.replica.specs.declared.Replica.{Replica}
use Rattle.replica.specs.declared.Done.{Done}
use Rattle.replica.specs.Record.{Outcome, new_replica, log_end}
use Rattle.replica.specs.Step.{Call, call_timeout, call_logged, call_offer, call_executed, call_open_read, call_read_reply, step, received}
use Rattle.agreement.specs.BySlot.{numbered}

-- ── a group: "replicas of one group, ids distinct, all fresh with the same start slot"; any members present, any options, but for the kind: 02,
-- Wish 6, "Demand 3 holds for groups of one kind" ──
-- each present member is what a call of new gave under its own id
pub record Group : Type 0 where
  pub size : ℕ
  pub start : ℕ
  pub options : ℕ → ℕ
  pub present : ℕ → Bool
  pub strict : Bool
  pub made : (m : ℕ) → present m ≡ true → (new_replica m size start (options m)).answer ≡ 0
  pub alike : (m : ℕ) → present m ≡ true → eqb (options m / 4 % 2) 1 ≡ strict

-- a slot marked committed: by whom, and the ballot and batch that it holds as it is marked
pub record Mark : Type 0 where
  pub who : ℕ
  pub slot : ℕ
  pub ballot : ℕ
  pub batch : Batch

-- the replicas; for each all that it ever did, in order: log entries, messages and the rest; and every mark
pub record World : Type 0 where
  pub replica : ℕ → Replica
  pub did : ℕ → List Act
  pub marks : List Mark

-- slot s of a replica, by its number, where `slot_at` and `at_place` are by place
abbrev pub slot_of : Replica → ℕ → Slot
slot_of r s = numbered r.sc.start r.window s

-- a mark: a slot's status rises to Committed in a call
abbrev pub rises : Slot → Slot → Bool
rises before after = ltb before.status committed && leb committed after.status

abbrev pub mark_at : ℕ → Replica → Replica → ℕ → List Mark
mark_at m before after s =
    pick (rises (slot_of before s) (slot_of after s)) (record { who = m; slot = s; ballot = (slot_of after s).ballot; batch = (slot_of after s).batch } ∷ []) []

unfoldable pub marks_of : ℕ → Replica → Replica → List Mark
marks_of m before after = gather (mark_at m before after) after.sc.start (log_end after)

-- f with another value at k
unfoldable pub upd : {A : Type 0} → (ℕ → A) → ℕ → A → ℕ → A
upd f k v j = pick (eqb j k) v (f j)

-- member m did o
unfoldable pub put : World → ℕ → Outcome → World
put w m o =
    record {
      replica = upd w.replica m o.replica;
      did = upd w.did m (w.did m ++ o.actions);
      marks = w.marks ++ marks_of m (w.replica m) o.replica;
    }

unfoldable pub begin : Group → World
begin g = record { replica = λ m. (new_replica m g.size g.start (g.options m)).replica; did = λ m. []; marks = [] }

-- what may happen to member m: "timers fire, batches arrive and log completions are reported at any moment", and executions, opened reads and
-- read replies too; a message that somebody sent, "unchanged under its true sender", at whomever and however often; and any refused call
pub data May (w : World) (m room : ℕ) : Call → Type 0 where
  timer : (source : ℕ) → May w m room (call_timeout source)
  offer : (b : Batch) → May w m room (call_offer b)
  logged : (d : Done) → May w m room (call_logged d)
  execution : (slot : ℕ) → May w m room (call_executed slot)
  opening : (id count : ℕ) (keys : List ℕ) → May w m room (call_open_read id count keys)
  replied : (peer id : ℕ) (from_leader : Bool) (reply : Tally) → May w m room (call_read_reply peer id from_leader reply)
  message : (from : ℕ) (a : Act) (c : Call) → a ∈ w.did from → c ∈ received from a → May w m room c
  refused : (c : Call) → ((step (w.replica m) room c).answer ≡ 0 → ⊥) → ((step (w.replica m) room c).answer ≡ 12 → ⊥) → May w m room c

-- the worlds that a group comes to: one call after another, each at a present member and with any room
pub data Reach (g : Group) : World → Type 0 where
  begins : Reach g (begin g)
  turn : {w : World} → Reach g w → (m : ℕ) → g.present m ≡ true → (room : ℕ) (c : Call) → May w m room c
      → Reach g (put w m (step (w.replica m) room c))

-- ── what is said of a world ──
-- the ballots of prepare and accept entries, in the order written
abbrev pub ballot_of : Action → List ℕ
ballot_of (PrepareBal p) = p.ballot ∷ []
ballot_of (AcceptData p) = p.ballot ∷ []
ballot_of (CommitSlot p) = []
ballot_of (Prepare p) = []
ballot_of (PrepareReply p) = []
ballot_of (Accept p) = []
ballot_of (AcceptReply p) = []
ballot_of (CommitNotice p) = []
ballot_of Heartbeat = []
ballot_of StatusUp = []
ballot_of StatusDown = []
ballot_of (Execute p) = []
ballot_of (ReadAnswer p) = []

unfoldable pub ballots : List Act → List ℕ
ballots [] = []
ballots (a ∷ l) = ballot_of a.what ++ ballots l

-- no number is below an earlier one
abbrev pub NeverFalls : List ℕ → Type 0
NeverFalls [] = Unit {0}
NeverFalls (b ∷ l) = All (λ c. b ≤ c) l × NeverFalls l

-- the accept entry for a slot and ballot that names a batch
abbrev pub accept_entry : ℕ → ℕ → Batch → Act
accept_entry slot ballot b = act (AcceptData (proposal slot ballot b)) b.keys

-- the commit entry for a slot at a ballot
abbrev pub commit_entry : ℕ → ℕ → Act
commit_entry slot ballot = bare (CommitSlot (record { slot = slot; ballot = ballot }))

-- (a), (b) and (c). One batch: the same id, count and key numbers, so the same id and list
pub record Agreement (w : World) : Type 0 where
  pub ballots_never_fall : (m : ℕ) → NeverFalls (ballots (w.did m))
  pub one_batch : (m m' s s' ballot ballot' : ℕ) (b b' : Batch) → accept_entry s ballot b ∈ w.did m → accept_entry s' ballot' b' ∈ w.did m'
      → s ≡ s' → ballot ≡ ballot' → b ≡ b'
  pub marks_agree : (k k' : Mark) → k ∈ w.marks → k' ∈ w.marks → k.slot ≡ k'.slot → k.ballot ≡ k'.ballot → k.batch ≡ k'.batch

-- the theorem; its proof is `agreement` in Group
abbrev pub Theorem : Type 0
Theorem = (g : Group) (w : World) → Reach g w → Agreement w
