-- Each way out of each decision, as the code takes it: the facts that lead there, and what the definition then says.
use Rattle.std.specs.Prelude.{◌≡◌, Bool, not, ◌&&◌, ◌||◌, ℕ, ◌≤◌, ◌<◌, ltb, eqb}
use Rattle.std.proofs.Common.{sym, ◌∙◌}
use Rattle.std.proofs.Math.Bool.{true, false, and-false}
use borrow.Author.Tests.{lt-ltb, le-ltb, eq-eqb, ne_eqb}
use Rattle.base.specs.Pick.{pick}
use Rattle.members.specs.Sets.{has, count_in}
use Rattle.batch.specs.declared.Batch.{Batch}
use Rattle.actions.specs.declared.Says.{Says}
use Rattle.actions.specs.declared.Says.TheVariants.{Nothing, One, Two}
use Rattle.actions.specs.declared.Proposal.{Proposal}
use Rattle.actions.specs.declared.Action.TheVariants.{AcceptData, CommitSlot, PrepareReply, Accept, AcceptReply, StatusDown}
use Rattle.actions.specs.Actions.{no_keys}
use Rattle.slots.specs.declared.Vote.{Vote}
use Rattle.slots.specs.declared.Slot.{Slot}
use Rattle.slots.specs.Slots.{adopted_slot, counted_slot, accepted_slot, acknowledged_slot, committed_slot, offered_slot}
use Rattle.decide.specs.declared.Scalars.{Scalars}
use Rattle.decide.specs.Scalars.{quorum, strict, followed, steps_down, with_prepared}
use Rattle.decide.specs.Decide.{silent, proposal, names_other, decide_accept, awaits_accept, decide_accept_reply, awaits_prepare, decide_vote}
use Rattle.decide.specs.Decide.{is_counted, decide_count, sent_vote, decide_promised, is_stale, decide_accepted, decide_offer}

-- what a call told of a test, and how the test came out
pub flag : {r t b : Bool} → r ≡ t → r ≡ b → t ≡ b
flag e f = sym e ∙ f

-- an assertion on a reply fails: on the slot's ballot, on the largest seen, or, where one is needed, on the leader's book
unfoldable pub contradicted : Scalars → Slot → ℕ → Bool → Bool
contradicted sc s ballot booked =
    not (eqb s.ballot ballot) || (ltb sc.bal_max_seen ballot || (booked && not s.leader.present))

-- ── Accept ──
module _ (sc : Scalars) (s : Slot) (peer slot ballot : ℕ) (b : Batch) where
  pub accept_is_other : names_other sc s b ≡ true → decide_accept sc s peer slot ballot b ≡ silent 15 sc s
  unfolding decide_accept
  accept_is_other n = rw n

  pub accept_is_high : names_other sc s b ≡ false → ballot < s.ballot → decide_accept sc s peer slot ballot b ≡ silent 6 sc s
  unfolding decide_accept
  accept_is_high n h = rw (n, lt-ltb ballot s.ballot h)

  pub accept_taken : (sc' : Scalars) (s' : Slot) (p : Proposal) (says : Says) (kind : Bool) → names_other sc s b ≡ false → s.ballot ≤ ballot → kind ≡ strict sc
      → sc' ≡ followed sc peer ballot → s' ≡ accepted_slot kind peer ballot b s → p ≡ proposal slot ballot b
      → says ≡ pick (steps_down sc ballot) (Two StatusDown (AcceptData p)) (One (AcceptData p))
      → decide_accept sc s peer slot ballot b ≡ record { answer = 0; noted = true; sc = sc'; slot = s'; says = says; keys = b.keys }
  unfolding decide_accept
  accept_taken sc' s' p says kind n h q e f g k = rw (n, le-ltb ballot s.ballot h, e, f, k, g, q)

-- ── AcceptReply ──
module _ (sc : Scalars) (s : Slot) (peer slot ballot : ℕ) where
  pub reply_idle : awaits_accept sc s ballot ≡ false → decide_accept_reply sc s peer slot ballot ≡ silent 0 sc s
  unfolding decide_accept_reply
  reply_idle a = rw a

  pub reply_broken : awaits_accept sc s ballot ≡ true → contradicted sc s ballot true ≡ true → decide_accept_reply sc s peer slot ballot ≡ silent 6 sc s
  unfolding decide_accept_reply contradicted
  reply_broken a k = rw (a, k)

  module _ (a : awaits_accept sc s ballot ≡ true) (k : contradicted sc s ballot true ≡ false) where
    pub reply_known : has s.leader.accept_acks peer ≡ true → decide_accept_reply sc s peer slot ballot ≡ silent 0 sc s
    unfolding decide_accept_reply contradicted
    reply_known h = rw (a, k, h)

    module _ (h : has s.leader.accept_acks peer ≡ false) (s' : Slot) (n q : ℕ)
        (e : s' ≡ acknowledged_slot peer s) (f : n ≡ count_in s'.leader.accept_acks) (g : q ≡ quorum sc) where
      few : (t : Bool) → ltb n q ≡ t → ltb (count_in (acknowledged_slot peer s).leader.accept_acks) (quorum sc) ≡ t
      few t w = rw (f, g, e) at w

      pub reply_few : n < q → decide_accept_reply sc s peer slot ballot ≡ silent 0 sc s'
      unfolding decide_accept_reply contradicted
      reply_few l = rw (a, k, h, few true (lt-ltb n q l), e)

      pub reply_quorum : (s'' : Slot) → q ≤ n → s'' ≡ committed_slot s'
          → decide_accept_reply sc s peer slot ballot
          ≡ record { answer = 0; noted = false; sc = sc; slot = s''; says = One (CommitSlot (record { slot = slot; ballot = s.ballot })); keys = no_keys }
      unfolding decide_accept_reply contradicted
      reply_quorum s'' l d = rw (a, k, h, few false (le-ltb n q l), d, e)

-- ── PrepareReply: the vote ──
module _ (sc : Scalars) (s : Slot) (ballot : ℕ) (voted : Bool) (v : Vote) where
  pub vote_idle : awaits_prepare s ballot ≡ false → decide_vote sc s ballot voted v ≡ silent 0 sc s
  unfolding decide_vote
  vote_idle a = rw a

  pub vote_broken : awaits_prepare s ballot ≡ true → contradicted sc s ballot voted ≡ true → decide_vote sc s ballot voted v ≡ silent 6 sc s
  unfolding decide_vote contradicted
  vote_broken a k = rw (a, k)

  module _ (a : awaits_prepare s ballot ≡ true) (k : contradicted sc s ballot voted ≡ false) where
    pub vote_none : voted ≡ false → decide_vote sc s ballot voted v ≡ silent 0 sc s
    unfolding decide_vote contradicted
    vote_none e = rw (a, k, e)

    pub vote_low : v.ballot ≤ s.leader.prepare_max_bal → decide_vote sc s ballot voted v ≡ silent 0 sc s
    unfolding decide_vote contradicted
    vote_low h = rw (a, k, le-ltb _ _ h, and-false voted)

    pub vote_taken : (s' : Slot) → voted ≡ true → s.leader.prepare_max_bal < v.ballot → s' ≡ adopted_slot v s
        → decide_vote sc s ballot voted v ≡ record { answer = 0; noted = true; sc = sc; slot = s'; says = Nothing; keys = no_keys }
    unfolding decide_vote contradicted
    vote_taken s' e h f = rw (a, k, e, lt-ltb _ _ h, f)

-- ── PrepareReply: the count ──
module _ (sc : Scalars) (t : Slot) (peer ballot : ℕ) (t' : Slot) (e : t' ≡ counted_slot peer t) where
  counted_is : (b : Bool) → is_counted sc t' ≡ b → is_counted sc (counted_slot peer t) ≡ b
  counted_is b f = rw e at f

  pub count_few : is_counted sc t' ≡ false → decide_count sc t peer ballot ≡ silent 0 sc t'
  unfolding decide_count
  count_few f = rw (counted_is false f, e)

  pub count_low : is_counted sc t' ≡ true → ballot < sc.bal_prepared → decide_count sc t peer ballot ≡ silent 6 sc t
  unfolding decide_count
  count_low f h = rw (counted_is true f, lt-ltb _ _ h)

  pub count_quorum : (sc' : Scalars) → is_counted sc t' ≡ true → sc.bal_prepared ≤ ballot → sc' ≡ with_prepared sc ballot
      → decide_count sc t peer ballot ≡ silent 0 sc' t'
  unfolding decide_count
  count_quorum sc' f h g = rw (counted_is true f, le-ltb _ _ h, e, g)

-- ── a logged PrepareBal ──
module _ (sc : Scalars) (s : Slot) (slot : ℕ) where
  pub promised_none : s.replica.present ≡ false → decide_promised sc s slot ≡ silent 0 sc s
  unfolding decide_promised
  promised_none e = rw e

  pub promised_said : (v : Vote) → s.replica.present ≡ true → v ≡ sent_vote s
      → decide_promised sc s slot
      ≡ record {
        answer = 0;
        noted = false;
        sc = sc;
        slot = s;
        says = One (PrepareReply (record {
          member = s.replica.source;
          slot = slot;
          trigger = s.replica.trigger;
          endprep = s.replica.endprep;
          ballot = s.ballot;
          voted = v.ballot;
          batch = v.batch.id;
          count = v.batch.count;
          bar = sc.accept_bar;
        }));
        keys = v.batch.keys;
      }
  unfolding decide_promised
  promised_said v e f = rw (e, f)

-- ── a logged AcceptData ──
module _ (sc : Scalars) (s : Slot) (slot ballot : ℕ) where
  pub accepted_stale : is_stale sc s ballot true ≡ true → decide_accepted sc s slot ballot ≡ silent 0 sc s
  unfolding decide_accepted
  accepted_stale a = rw a

  pub accepted_own : is_stale sc s ballot true ≡ false → sc.leader ≡ sc.id → s.ballot ≡ sc.bal_prepared → decide_accepted sc s slot ballot ≡ decide_accept_reply sc s sc.id slot s.ballot
  unfolding decide_accepted
  accepted_own a l e = rw (a, eq-eqb _ _ l, eq-eqb _ _ e)

  pub accepted_old : is_stale sc s ballot true ≡ false → sc.leader ≡ sc.id → (s.ballot ≡ sc.bal_prepared → ⊥) → decide_accepted sc s slot ballot ≡ silent 0 sc s
  unfolding decide_accepted
  accepted_old a l n = rw (a, eq-eqb _ _ l, ne_eqb _ _ n)

  pub accepted_none : is_stale sc s ballot true ≡ false → (sc.leader ≡ sc.id → ⊥) → s.replica.present ≡ false → decide_accepted sc s slot ballot ≡ silent 0 sc s
  unfolding decide_accepted
  accepted_none a l e = rw (a, ne_eqb _ _ l, e)

  pub accepted_said : is_stale sc s ballot true ≡ false → (sc.leader ≡ sc.id → ⊥) → s.replica.present ≡ true
      → decide_accepted sc s slot ballot
      ≡ record {
        answer = 0;
        noted = false;
        sc = sc;
        slot = s;
        says = One (AcceptReply (record { member = s.replica.source; slot = slot; ballot = s.ballot }));
        keys = no_keys;
      }
  unfolding decide_accepted
  accepted_said a l e = rw (a, ne_eqb _ _ l, e)

-- ── an offer ──
pub offer_said : (sc : Scalars) (slot : ℕ) (b : Batch) (s : Slot) (p : Proposal) (kind : Bool) → kind ≡ strict sc
    → s ≡ offered_slot kind sc.bal_prepared b → p ≡ proposal slot sc.bal_prepared b
    → decide_offer sc slot b ≡ record { answer = 0; noted = true; sc = sc; slot = s; says = Two (AcceptData p) (Accept p); keys = b.keys }
unfolding decide_offer
offer_said sc slot b s p kind q e f = rw (e, f, q)
