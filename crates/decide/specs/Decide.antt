-- What a call decides from the scalars and one slot.
use Rattle.std.specs.Prelude.{Bool, true, false, not, ◌&&◌, ◌||◌, List, ℕ, ltb, leb, eqb, Result, Ok, Err}
use Rattle.base.specs.Pick.{pick}
use Rattle.members.specs.Sets.{has, count_in}
use Rattle.batch.specs.declared.Batch.{Batch}
use Rattle.batch.specs.Batches.{same_batch}
use Rattle.actions.specs.declared.Action.TheVariants.{AcceptData, CommitSlot, PrepareReply, Accept, AcceptReply, StatusDown}
use Rattle.actions.specs.declared.Says.{Says}
use Rattle.actions.specs.declared.Says.TheVariants.{Nothing, One, Two}
use Rattle.actions.specs.declared.Proposal.{Proposal}
use Rattle.actions.specs.Actions.{no_keys}
use Rattle.slots.specs.declared.Vote.{Vote}
use Rattle.slots.specs.declared.Slot.{Slot}
use Rattle.slots.specs.Slots.{preparing, accepting, committed, no_vote, adopted_slot, counted_slot, accepted_slot, acknowledged_slot, committed_slot, offered_slot}
use Rattle.decide.specs.declared.Scalars.{Scalars}
use Rattle.decide.specs.declared.Decided as code
use Rattle.decide.specs.declared.Refusal.{Refusal}
use Rattle.decide.specs.declared.Refusal.TheVariants.{Contradiction, Renamed}
use Rattle.decide.specs.Scalars.{leads, quorum, strict, followed, steps_down, with_prepared}

-- what a call decides: its answer; the scalars and the slot after it; what it says, with a batch's keys beside it; and whether the slot's batch goes
-- into the key table
pub record Decided : Type 0 where
  pub answer : ℕ
  pub noted : Bool
  pub sc : Scalars
  pub slot : Slot
  pub says : Says
  pub keys : List ℕ

-- nothing is said: ignored, refused, or only noted
abbrev pub silent : ℕ → Scalars → Slot → Decided
silent answer sc s = record { answer = answer; noted = false; sc = sc; slot = s; says = Nothing; keys = no_keys }

-- the code's values: a refusal has the paper's number, a call that goes through has 0, and a refused one leaves the scalars and the slot as they were
abbrev pub number : Refusal → ℕ
number Contradiction = 6
number Renamed = 15

abbrev pub as_done : code.Decided → Decided
as_done d = record { answer = 0; noted = d.noted; sc = d.sc; slot = d.slot; says = d.says; keys = d.keys }

abbrev pub decided : Scalars → Slot → Result code.Decided Refusal → Decided
decided sc s (Ok d) = as_done d
decided sc s (Err e) = silent (number e) sc s

abbrev pub proposal : ℕ → ℕ → Batch → Proposal
proposal slot ballot b = record { slot = slot; ballot = ballot; batch = b.id; count = b.count }

-- 15: "strict Accept with another batch for a committed slot, after 5"; (d) would keep its status and take the batch
abbrev pub names_other : Scalars → Slot → Batch → Bool
names_other sc s b = strict sc && (leb committed s.status && not (same_batch s.batch b))

-- messages.rs, handle_msg_accept, where the ballot is not smaller than what was seen
unfoldable pub decide_accept : Scalars → Slot → ℕ → ℕ → ℕ → Batch → Decided
decide_accept sc s peer slot ballot b =
    pick (names_other sc s b) (silent 15 sc s)
    (pick (ltb ballot s.ballot) (silent 6 sc s)
    (record {
      answer = 0;
      noted = true;
      sc = followed sc peer ballot;
      slot = accepted_slot (strict sc) peer ballot b s;
      says = pick (steps_down sc ballot) (Two StatusDown (AcceptData (proposal slot ballot b))) (One (AcceptData (proposal slot ballot b)));
      keys = b.keys;
    }))

-- "ignore spurious duplications and outdated replies"
abbrev pub awaits_accept : Scalars → Slot → ℕ → Bool
awaits_accept sc s ballot = leads sc && (eqb s.status accepting && leb s.ballot ballot)

-- 01: "AcceptReply commits exactly if self leads, ballot = bal_prepared, status is Accepting, the slot's ballot is not larger, the sender
-- is new and its bit makes the quorum." From the asserts on, at a ballot that is bal_prepared. The entry says the slot's ballot, which stays
unfoldable pub decide_accept_reply : Scalars → Slot → ℕ → ℕ → ℕ → Decided
decide_accept_reply sc s peer slot ballot =
    pick (not (awaits_accept sc s ballot)) (silent 0 sc s)
    (pick (not (eqb s.ballot ballot) || (ltb sc.bal_max_seen ballot || not s.leader.present)) (silent 6 sc s)
    (pick (has s.leader.accept_acks peer) (silent 0 sc s)
    (pick (ltb (count_in (acknowledged_slot peer s).leader.accept_acks) (quorum sc)) (silent 0 sc (acknowledged_slot peer s))
    (record {
      answer = 0;
      noted = false;
      sc = sc;
      slot = committed_slot (acknowledged_slot peer s);
      says = One (CommitSlot (record { slot = slot; ballot = s.ballot }));
      keys = no_keys;
    }))))

-- messages.rs, handle_msg_prepare_reply: "ignore spurious duplications and outdated replies"
abbrev pub awaits_prepare : Slot → ℕ → Bool
awaits_prepare s ballot = eqb s.status preparing && leb s.ballot ballot

-- such a reply goes no further; at a strict leader it goes on to the count, 02, Wish 6, (c): "at any status"
abbrev pub goes_on : Scalars → Slot → ℕ → Bool
goes_on sc s ballot = strict sc || awaits_prepare s ballot

-- "a voted value replaces only on a strictly larger ballot", and only while replies are awaited
unfoldable pub decide_vote : Scalars → Slot → ℕ → Bool → Vote → Decided
decide_vote sc s ballot voted v =
    pick (not (awaits_prepare s ballot)) (silent 0 sc s)
    (pick (not (eqb s.ballot ballot) || (ltb sc.bal_max_seen ballot || (voted && not s.leader.present))) (silent 6 sc s)
    (pick (voted && ltb s.leader.prepare_max_bal v.ballot)
    (record { answer = 0; noted = true; sc = sc; slot = adopted_slot v s; says = Nothing; keys = no_keys })
    (silent 0 sc s)))

-- a quorum of members is counted at the trigger slot
abbrev pub is_counted : Scalars → Slot → Bool
is_counted sc t = leb (quorum sc) (count_in t.leader.prepare_acks)

-- a member that counts does so at the trigger slot; at quorum "self.bal_prepared = ballot"
unfoldable pub decide_count : Scalars → Slot → ℕ → ℕ → Decided
decide_count sc t peer ballot =
    pick (not (is_counted sc (counted_slot peer t))) (silent 0 sc (counted_slot peer t))
    (pick (ltb ballot sc.bal_prepared) (silent 6 sc t)
    (silent 0 (with_prepared sc ballot) (counted_slot peer t)))

-- durability.rs: "`voted` is sent only if its ballot is above 0"
abbrev pub sent_vote : Slot → Vote
sent_vote s = pick (ltb 0 s.vote.ballot) s.vote no_vote

-- handle_logged_prepare_bal on a follower: a PrepareReply to the source, at the slot's ballot
unfoldable pub decide_promised : Scalars → Slot → ℕ → Decided
decide_promised sc s slot =
    pick (not s.replica.present) (silent 0 sc s)
    (record {
      answer = 0;
      noted = false;
      sc = sc;
      slot = s;
      says = One (PrepareReply (record {
        member = s.replica.source;
        slot = slot;
        trigger = s.replica.trigger;
        endprep = s.replica.endprep;
        ballot = s.ballot;
        voted = (sent_vote s).ballot;
        batch = (sent_vote s).batch.id;
        count = (sent_vote s).batch.count;
        bar = sc.accept_bar;
      }));
      keys = (sent_vote s).batch.keys;
    })

-- 02, Wish 6, (a): "a prepare or accept completion replies or counts only if its ballot is the slot's ballot, and for an accept entry also the
-- voted ballot; bars move as before"
abbrev pub is_stale : Scalars → Slot → ℕ → Bool → Bool
is_stale sc s ballot of_accept = strict sc && not (eqb s.ballot ballot && (not of_accept || eqb s.vote.ballot ballot))

-- handle_logged_accept_data: on the leader "equivalent to receiving an Accept reply from myself", on a follower an AcceptReply to the source
unfoldable pub decide_accepted : Scalars → Slot → ℕ → ℕ → Decided
decide_accepted sc s slot ballot =
    pick (is_stale sc s ballot true) (silent 0 sc s)
    (pick (leads sc)
    (pick (eqb s.ballot sc.bal_prepared) (decide_accept_reply sc s sc.id slot s.ballot) (silent 0 sc s))
    (pick (not s.replica.present) (silent 0 sc s)
    (record {
      answer = 0;
      noted = false;
      sc = sc;
      slot = s;
      says = One (AcceptReply (record { member = s.replica.source; slot = slot; ballot = s.ballot }));
      keys = no_keys;
    })))

-- 9: "batch offered while self is not leader, bal_prepared is 0, or bal_prepared differs from bal_prep_sent"
abbrev pub may_offer : Scalars → Bool
may_offer sc = leads sc && (not (eqb sc.bal_prepared 0) && eqb sc.bal_prepared sc.bal_prep_sent)

-- 01, Offer: a slot in Accepting at bal_prepared; "refreshes the key table; AcceptData, then Accept"
unfoldable pub decide_offer : Scalars → ℕ → Batch → Decided
decide_offer sc slot b =
    record {
      answer = 0;
      noted = true;
      sc = sc;
      slot = offered_slot (strict sc) sc.bal_prepared b;
      says = Two (AcceptData (proposal slot sc.bal_prepared b)) (Accept (proposal slot sc.bal_prepared b));
      keys = b.keys;
    }
