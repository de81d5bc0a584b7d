-- What each decision may be, by name, and the tests that lead to it.
use Rattle.std.specs.Prelude.{◌≡◌, Bool, false, ◌&&◌, ◌||◌, ℕ, ◌≤◌, ◌<◌, ltb, eqb}
use Rattle.std.proofs.Math.Bool.{true, not}
use borrow.Author.Tests.{ltb-true, ltb-false, eqb-true, not-true, not-false}
use Rattle.base.specs.Pick.{pick, pick_cases, and_left, and_right, or-false}
use Rattle.members.specs.Sets.{has, count_in}
use Rattle.batch.specs.declared.Batch.{Batch}
use Rattle.actions.specs.declared.Action.TheVariants.{AcceptData, CommitSlot, PrepareReply, AcceptReply, StatusDown}
use Rattle.actions.specs.declared.Says.TheVariants.{One, Two}
use Rattle.actions.specs.Actions.{no_keys}
use Rattle.slots.specs.declared.Slot.{Slot}
use Rattle.slots.specs.Slots.{accepting, counted_slot, accepted_slot, acknowledged_slot, committed_slot}
use Rattle.decide.specs.declared.Scalars.{Scalars}
use Rattle.decide.specs.Decide.{Decided}
use Rattle.decide.specs.Scalars.{leads, quorum, strict, followed, steps_down, with_prepared}
use Rattle.decide.specs.Decide.{silent, proposal, names_other, decide_accept, awaits_accept, decide_accept_reply, is_counted, decide_count, sent_vote, decide_promised, is_stale, decide_accepted}

-- ── an Accept taken ──
abbrev pub accepts : Scalars → Slot → ℕ → ℕ → ℕ → Batch → Decided
accepts sc s peer slot ballot b =
    record {
      answer = 0;
      noted = true;
      sc = followed sc peer ballot;
      slot = accepted_slot (strict sc) peer ballot b s;
      says = pick (steps_down sc ballot) (Two StatusDown (AcceptData (proposal slot ballot b))) (One (AcceptData (proposal slot ballot b)));
      keys = b.keys;
    }

pub decide_accept_ways : (P : Decided → Type 0) (sc : Scalars) (s : Slot) (peer slot ballot : ℕ) (b : Batch) → (names_other sc s b ≡ true → P (silent 15 sc s)) → P (silent 6 sc s)
    → (names_other sc s b ≡ false → s.ballot ≤ ballot → P (accepts sc s peer slot ballot b)) → P (decide_accept sc s peer slot ballot b)
unfolding decide_accept
decide_accept_ways P sc s peer slot ballot b other six on =
    pick_cases P (names_other sc s b) other (λ n. pick_cases P (ltb ballot s.ballot) (λ t. six) (λ t. on n (ltb-false _ _ t)))

-- ── an AcceptReply counted ──
abbrev pub commits : Scalars → Slot → ℕ → ℕ → Decided
commits sc s peer slot =
    record { answer = 0; noted = false; sc = sc; slot = committed_slot (acknowledged_slot peer s); says = One (CommitSlot (record { slot = slot; ballot = s.ballot })); keys = no_keys }

-- 01: "AcceptReply commits exactly if self leads, .. status is Accepting, .. the sender is new"
pub record Acknowledges (sc : Scalars) (s : Slot) (peer ballot : ℕ) : Type 0 where
  pub leading : leads sc ≡ true
  pub status : s.status ≡ 2
  pub even : s.ballot ≡ ballot
  pub seen : ballot ≤ sc.bal_max_seen
  pub booked : s.leader.present ≡ true
  pub new : has s.leader.accept_acks peer ≡ false

module _ (P : Decided → Type 0) (sc : Scalars) (s : Slot) (peer slot ballot : ℕ) where
  pub decide_accept_reply_ways : P (silent 0 sc s) → P (silent 6 sc s)
      → (Acknowledges sc s peer ballot → count_in (acknowledged_slot peer s).leader.accept_acks < quorum sc → P (silent 0 sc (acknowledged_slot peer s)))
      → (Acknowledges sc s peer ballot → quorum sc ≤ count_in (acknowledged_slot peer s).leader.accept_acks → P (commits sc s peer slot))
      → P (decide_accept_reply sc s peer slot ballot)
  unfolding decide_accept_reply
  decide_accept_reply_ways zero six more full =
      pick_cases P (not (awaits_accept sc s ballot)) (λ t. zero)
      (λ t. pick_cases P (not (eqb s.ballot ballot) || (ltb sc.bal_max_seen ballot || not s.leader.present)) (λ u. six)
      (λ u. pick_cases P (has s.leader.accept_acks peer) (λ v. zero)
      (λ v.
      let a = not-false (awaits_accept sc s ballot) t in
      let b = or-false (not (eqb s.ballot ballot)) _ u in
      let c = or-false (ltb sc.bal_max_seen ballot) _ b.1 in
      let f : Acknowledges sc s peer ballot =
      record {
        leading = and_left (leads sc) _ a;
        status = eqb-true _ _ (and_left (eqb s.status accepting) _ (and_right (leads sc) _ a));
        even = eqb-true _ _ (not-false _ b.0);
        seen = ltb-false _ _ c.0;
        booked = not-false _ c.1;
        new = v;
      } in
      pick_cases P (ltb (count_in (acknowledged_slot peer s).leader.accept_acks) (quorum sc)) (λ w. more f (ltb-true _ _ w)) (λ w. full f (ltb-false _ _ w)))))

-- ── a vote in a PrepareReply ──
pub record Hears (sc : Scalars) (s : Slot) (ballot : ℕ) : Type 0 where
  pub even : s.ballot ≡ ballot
  pub seen : ballot ≤ sc.bal_max_seen

-- ── a member counted at the trigger slot ──
pub decide_count_ways : (P : Decided → Type 0) (sc : Scalars) (t : Slot) (peer ballot : ℕ) → P (silent 6 sc t)
    → (is_counted sc (counted_slot peer t) ≡ false → P (silent 0 sc (counted_slot peer t)))
    → (is_counted sc (counted_slot peer t) ≡ true → sc.bal_prepared ≤ ballot → P (silent 0 (with_prepared sc ballot) (counted_slot peer t)))
    → P (decide_count sc t peer ballot)
unfolding decide_count
decide_count_ways P sc t peer ballot six less full =
    pick_cases P (not (is_counted sc (counted_slot peer t))) (λ u. less (not-true _ u))
    (λ u. pick_cases P (ltb ballot sc.bal_prepared) (λ v. six) (λ v. full (not-false _ u) (ltb-false _ _ v)))

-- ── log completions ──
abbrev pub promises : Scalars → Slot → ℕ → Decided
promises sc s slot =
    record {
      answer = 0;
      noted = false;
      sc = sc;
      slot = s;
      says = One (PrepareReply (record {
        member = s.replica.source;
        slot = slot;
        trigger = s.replica.trigger;
        endprep = s.replica.endprep;
        ballot = s.ballot;
        voted = (sent_vote s).ballot;
        batch = (sent_vote s).batch.id;
        count = (sent_vote s).batch.count;
        bar = sc.accept_bar;
      }));
      keys = (sent_vote s).batch.keys;
    }

pub decide_promised_ways : (P : Decided → Type 0) (sc : Scalars) (s : Slot) (slot : ℕ) → P (silent 0 sc s) → (s.replica.present ≡ true → P (promises sc s slot))
    → P (decide_promised sc s slot)
unfolding decide_promised
decide_promised_ways P sc s slot zero on = pick_cases P (not s.replica.present) (λ t. zero) (λ t. on (not-false _ t))

abbrev pub reports : Scalars → Slot → ℕ → Decided
reports sc s slot =
    record { answer = 0; noted = false; sc = sc; slot = s; says = One (AcceptReply (record { member = s.replica.source; slot = slot; ballot = s.ballot })); keys = no_keys }

-- 02, Wish 6, (a): a completion that a reply or a count follows on
pub record Heeded (sc : Scalars) (s : Slot) (ballot : ℕ) (of_accept : Bool) : Type 0 where
  pub slot : strict sc ≡ true → s.ballot ≡ ballot
  pub vote : strict sc ≡ true → of_accept ≡ true → s.vote.ballot ≡ ballot

pub heeded : (sc : Scalars) (s : Slot) (ballot : ℕ) (of_accept : Bool) → is_stale sc s ballot of_accept ≡ false → Heeded sc s ballot of_accept
heeded sc s ballot of_accept e =
    record {
      slot = λ k. eqb-true _ _ (and_left (eqb s.ballot ballot) _ (both k));
      vote = λ k o. eqb-true _ _ (rw o at (and_right (eqb s.ballot ballot) _ (both k)));
    }
  where
    both : strict sc ≡ true → (eqb s.ballot ballot && (not of_accept || eqb s.vote.ballot ballot)) ≡ true
    both k = not-false _ (rw k at e)

module _ (P : Decided → Type 0) (sc : Scalars) (s : Slot) (slot ballot : ℕ) where
  pub decide_accepted_ways : P (silent 0 sc s) → P (silent 6 sc s)
      → (Heeded sc s ballot true → s.ballot ≡ sc.bal_prepared → Acknowledges sc s sc.id s.ballot → count_in (acknowledged_slot sc.id s).leader.accept_acks < quorum sc → P (silent 0 sc (acknowledged_slot sc.id s)))
      → (Heeded sc s ballot true → s.ballot ≡ sc.bal_prepared → Acknowledges sc s sc.id s.ballot → quorum sc ≤ count_in (acknowledged_slot sc.id s).leader.accept_acks → P (commits sc s sc.id slot))
      → (Heeded sc s ballot true → leads sc ≡ false → s.replica.present ≡ true → P (reports sc s slot))
      → P (decide_accepted sc s slot ballot)
  unfolding decide_accepted
  decide_accepted_ways zero six more full on =
      pick_cases P (is_stale sc s ballot true) (λ a. zero)
      (λ a. pick_cases P (leads sc)
      (λ t. pick_cases P (eqb s.ballot sc.bal_prepared)
      (λ u. decide_accept_reply_ways P sc s sc.id slot s.ballot zero six (more (heeded sc s ballot true a) (eqb-true _ _ u)) (full (heeded sc s ballot true a) (eqb-true _ _ u))) (λ u. zero))
      (λ t. pick_cases P (not s.replica.present) (λ u. zero) (λ u. on (heeded sc s ballot true a) t (not-false _ u))))
