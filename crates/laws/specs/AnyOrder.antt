-- 02, Wish 3, for the host of a replica: what may be relied on as members answer an open read. The proofs: InARow, BetweenReplies; runs: AnyOrderRuns.
use Rattle.std.specs.Prelude.{◌≡◌, Bool, true, false, List, [], ◌∷◌, ◌++◌, ℕ, ◌≤◌, ◌<◌}
use Rattle.base.specs.Among.{◌∈◌, SameMembers, All}
use Rattle.members.specs.Sets.{has, count_in}
use Rattle.members.specs.Many.{insert_all}
use Rattle.tally.specs.declared.Tally.{Tally}
use Rattle.tally.specs.declared.Read.{Read}
use Rattle.tally.specs.AnyOrder.{Agreeing}
use Rattle.tally.specs.ReadOrder.{read_after}
use Rattle.actions.specs.Actions.{Act}
use Rattle.decide.specs.Scalars.{quorum}
use Rattle.replica.specs.declared.Replica.{Replica}
use Rattle.replica.specs.Fit.{usable}
use Rattle.replica.specs.ReadCalls.{answer_acts}
use Rattle.replica.specs.Step.{Call, call_read_reply, step}
use Rattle.laws.specs.WaysAdded.{read_place, read_at}
use Rattle.laws.specs.Good.{Sized}
use Rattle.laws.specs.OpenReads.{Waiting}

-- ── a read, and who answers it ──

-- the read with this id
abbrev pub read_of : Replica → ℕ → Read
read_of r id = read_at r (read_place r id)

-- it is open, in a replica that calls lead to from a new one (`fit_stays`, `sizes_stay`, `Waiting-stays`)
pub record ReadOpen (id : ℕ) (r : Replica) : Type 0 where
  pub fits : usable r ≡ true
  pub sized : Sized r
  pub waiting : Waiting r
  pub known : read_place r id < r.reads.count

-- members answer it, member m with said m: they are the group's, their lists have at most 8 keys, and the replies of those not yet acknowledged agree with
-- what the read knows and with each other
pub record AgreeingReplies (id : ℕ) (said : ℕ → Tally) (r : Replica) (ms : List ℕ) : Type 0 where
  pub members : (m : ℕ) → m ∈ ms → m < r.sc.group
  pub few : (m : ℕ) → m ∈ ms → (said m).count ≤ 8
  pub with_held : (m : ℕ) → m ∈ ms → has (read_of r id).acks m ≡ false → Agreeing (read_of r id).tally (said m)
  pub with_each : (m n : ℕ) → m ∈ ms → n ∈ ms → has (read_of r id).acks m ≡ false → has (read_of r id).acks n ≡ false → Agreeing (said m) (said n)

-- how many are acknowledged with them
abbrev pub acknowledged_with : ℕ → Replica → List ℕ → ℕ
acknowledged_with id r ms = count_in (insert_all (read_of r id).acks ms)

-- the reply of a member, not marked from the leader
abbrev pub member_reply : ℕ → (ℕ → Tally) → ℕ → Call
member_reply id said m = call_read_reply m id false (said m)

-- ── one reply after the other ──

-- the replica after the replies of the list's members, all their actions, and what each is answered
module _ (room id : ℕ) (said : ℕ → Tally) where
  abbrev pub replied : Replica → List ℕ → Replica
  replied r [] = r
  replied r (m ∷ ms) = replied (step r room (member_reply id said m)).replica ms

  abbrev pub replied_acts : Replica → List ℕ → List Act
  replied_acts r [] = []
  replied_acts r (m ∷ ms) = (step r room (member_reply id said m)).actions ++ replied_acts (step r room (member_reply id said m)).replica ms

  abbrev pub replied_answers : Replica → List ℕ → List ℕ
  replied_answers r [] = []
  replied_answers r (m ∷ ms) = (step r room (member_reply id said m)).answer ∷ replied_answers (step r room (member_reply id said m)).replica ms

-- two replicas that are alike but for places of the table that no open read has
pub record SameInUse (a b : Replica) : Type 0 where
  pub sc : a.sc ≡ b.sc
  pub bars : a.bars ≡ b.bars
  pub window : a.window ≡ b.window
  pub keys : a.keys ≡ b.keys
  pub summary : a.summary ≡ b.summary
  pub count : a.reads.count ≡ b.reads.count
  pub reads : (i : ℕ) → i < a.reads.count → read_at a i ≡ read_at b i

pub record SameEnd (room id : ℕ) (said : ℕ → Tally) (r : Replica) (k l : List ℕ) : Type 0 where
  pub replica : SameInUse (replied room id said r k) (replied room id said r l)
  pub actions : replied_acts room id said r k ≡ replied_acts room id said r l
  pub answers : All (λ (answer : ℕ). answer ≡ 0) (replied_answers room id said r k)

-- "up to the quorum": any order and any repetition ends the same, with every reply answered 0
abbrev pub InAnyOrder : Type 0
InAnyOrder = (room id : ℕ) (said : ℕ → Tally) (r : Replica) (k l : List ℕ) → 3456 ≤ room → ReadOpen id r → AgreeingReplies id said r k
    → acknowledged_with id r k ≤ quorum r.sc → SameMembers k l → SameEnd room id said r k l

-- ── with any other calls between them ──

-- a call that is no reply to the read with this id
abbrev pub Aside : ℕ → Call → Type 0
Aside id c = (peer : ℕ) (from_leader : Bool) (reply : Tally) → c ≡ call_read_reply peer id from_leader reply → ⊥

-- calls from one replica to another: the replies of the list's members, in its order, and any others before, between and after them
pub data CallsBetween (id : ℕ) (said : ℕ → Tally) : Replica → List ℕ → Replica → Type 0 where
  no_more : {r : Replica} → CallsBetween id said r [] r
  aside : {r after : Replica} {ms : List ℕ} (room : ℕ) (c : Call) → Aside id c → CallsBetween id said (step r room c).replica ms after
      → CallsBetween id said r ms after
  from_member : {r after : Replica} {ms : List ℕ} (room m : ℕ) → 3456 ≤ room → CallsBetween id said (step r room (member_reply id said m)).replica ms after
      → CallsBetween id said r (m ∷ ms) after

-- the read with what the members have told it, whatever else its replica has done
abbrev pub answered_read : ℕ → (ℕ → Tally) → Replica → List ℕ → Read
answered_read id said r ms = read_after (quorum r.sc) said (read_of r id) ms

-- below the quorum the read stays open, and knows just that
abbrev pub KnowsHeard : Type 0
KnowsHeard = (id : ℕ) (said : ℕ → Tally) (r after : Replica) (ms : List ℕ) → ReadOpen id r → AgreeingReplies id said r ms → acknowledged_with id r ms < quorum r.sc
    → CallsBetween id said r ms after → ReadOpen id after × (read_of after id ≡ answered_read id said r ms)

-- so it depends neither on their order, nor on how often each is heard, nor on what else comes
abbrev pub SameRead : Type 0
SameRead = (id : ℕ) (said : ℕ → Tally) (r a b : Replica) (k l : List ℕ) → ReadOpen id r → AgreeingReplies id said r k → acknowledged_with id r k < quorum r.sc
    → SameMembers k l → CallsBetween id said r k a → CallsBetween id said r l b → read_of a id ≡ read_of b id

-- each reply on the way is answered 0, also the one that makes the quorum: no 12
abbrev pub AnsweredZero : Type 0
AnsweredZero = (id : ℕ) (said : ℕ → Tally) (r after : Replica) (ms : List ℕ) (room m : ℕ) → ReadOpen id r → AgreeingReplies id said r (ms ++ (m ∷ []))
    → acknowledged_with id r ms < quorum r.sc → CallsBetween id said r ms after → 3456 ≤ room → (step after room (member_reply id said m)).answer ≡ 0

-- "quorum answers", for every key of the read
abbrev pub all_answers : ℕ → Read → List Act
all_answers leader d = answer_acts leader d d.tally.count

-- the reply that makes the quorum answers by what all of them have told; a retry names the leader believed then
abbrev pub AnswersHeard : Type 0
AnswersHeard = (id : ℕ) (said : ℕ → Tally) (r after : Replica) (ms : List ℕ) (room m : ℕ) → ReadOpen id r → AgreeingReplies id said r (ms ++ (m ∷ []))
    → acknowledged_with id r ms < quorum r.sc → quorum r.sc ≤ acknowledged_with id r (ms ++ (m ∷ [])) → CallsBetween id said r ms after → 3456 ≤ room
    → (step after room (member_reply id said m)).actions ≡ all_answers after.sc.leader (answered_read id said r (ms ++ (m ∷ [])))

-- so which of them comes last makes no difference either
abbrev pub SameAnswers : Type 0
SameAnswers = (id : ℕ) (said : ℕ → Tally) (r a b : Replica) (k l : List ℕ) (room m n : ℕ) → ReadOpen id r → AgreeingReplies id said r (k ++ (m ∷ []))
    → acknowledged_with id r k < quorum r.sc → acknowledged_with id r l < quorum r.sc → quorum r.sc ≤ acknowledged_with id r (k ++ (m ∷ []))
    → SameMembers (k ++ (m ∷ [])) (l ++ (n ∷ [])) → CallsBetween id said r k a → CallsBetween id said r l b → 3456 ≤ room → a.sc.leader ≡ b.sc.leader
    → (step a room (member_reply id said m)).actions ≡ (step b room (member_reply id said n)).actions
