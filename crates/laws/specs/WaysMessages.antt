-- The ways that a Prepare, an Accept and an AcceptReply go: each leaves the replica as it was, or acts under facts that are listed here.
use Rattle.std.specs.Prelude.{◌≡◌, refl, Bool, true, false, not, ◌&&◌, ◌||◌, ◌⊎◌, [], ◌∷◌, ◌++◌, ℕ, ◌+◌, ◌≤◌, ◌<◌, ltb, leb, eqb}
use Rattle.std.proofs.Common.{sym, subst, inl, inr, arith, ltb-true, ltb-false, leb-false, le-leb, lt-ltb, eqb-true}
use Rattle.std.proofs.lemmas.Bool.{eqb-false, not-true, not-false}
use Rattle.base.specs.Pick.{pick_both, pick_cases, and_left, and_right, and_both, and_make, clash, decide}
use Rattle.base.specs.Gather.{gather}
use Rattle.base.specs.Find.{any}
use Rattle.members.specs.Ballots.{owns}
use Rattle.members.specs.Sets.{count_in}
use Rattle.batch.specs.declared.Batch.{Batch}
use Rattle.batch.specs.Batches.{is_batch}
use Rattle.batch.specs.Keys.{overfull}
use Rattle.actions.specs.Actions.{says_acts}
use Rattle.slots.specs.declared.Slot.{Slot}
use Rattle.slots.specs.Slots.{prepared_slot, acknowledged_slot}
use Rattle.decide.specs.declared.Scalars.{Scalars}
use Rattle.decide.specs.Decide.{Decided}
use Rattle.decide.specs.Decide.{names_other}
use Rattle.decide.specs.Scalars.{is_member, is_peer, strict, followed, quorum}
use Rattle.window.specs.declared.Window.{Window}
use Rattle.window.specs.Window.{slot_at, put_slot, grown, sweep}
use Rattle.window.specs.Acts.{promise}
use Rattle.replica.specs.declared.Replica.{Replica}
use Rattle.replica.specs.Record.{Outcome, kept, noting, settled, with_window, place, number, log_end}
use Rattle.replica.specs.Fit.{fit, roomy, sums, ready, unready}
use Rattle.replica.specs.Messages.{clean, down_acts, prepare_top, prepare_book, prepare_on, prepare_step, accept_step, accept_reply_step}
use Rattle.laws.specs.Leaves.{done, settled_to, settled-silent, noting_ways}
use Rattle.laws.specs.OfDecide.{accepts, commits, Acknowledges, decide_accept_ways, decide_accept_reply_ways}

-- the answers with which a replica is kept: 0 to 11, and 14 where the summary is not the walk's; neither 12 nor 13, and 15 by Accept alone
abbrev pub keeping : Replica → ℕ → Bool
keeping r a = leb a 11 || (eqb a 14 && not (sums r))

pub keeping_low : (r : Replica) (a : ℕ) → leb a 11 ≡ true → keeping r a ≡ true
keeping_low r a e = rw e

-- of every refusal and of every call that is ignored: the replica is as it was
abbrev pub Keeps : (Outcome → Type 0) → Replica → Type 0
Keeps P r = (a : ℕ) → keeping r a ≡ true → P (kept a r)

-- the same, told why a call is ignored
abbrev pub KeepsFor : Type 0 → (Outcome → Type 0) → Replica → Type 0
KeepsFor Why P r = (a : ℕ) → keeping r a ≡ true → (a ≡ 0 → Why) → P (kept a r)

-- the same past the first test, where 14 is given no more
abbrev pub KeepsLow : (Outcome → Type 0) → Replica → Type 0
KeepsLow P r = (a : ℕ) → leb a 11 ≡ true → P (kept a r)

abbrev pub KeepsLowFor : Type 0 → (Outcome → Type 0) → Replica → Type 0
KeepsLowFor Why P r = (a : ℕ) → leb a 11 ≡ true → (a ≡ 0 → Why) → P (kept a r)

-- 1 and 14
pub unready-keeping : (r : Replica) (n : ℕ) → ready r n ≡ false → keeping r (unready r n) ≡ true
unready-keeping r n e =
    pick_cases (λ (a : ℕ). keeping r a ≡ true) (roomy n && fit r)
    (λ t. rw (unsummed (decide (sums r)) (and_both (roomy n) (fit r) t)))
    (λ t. refl)
  where
    unsummed : (sums r ≡ true) ⊎ (sums r ≡ false) → (roomy n ≡ true) × (fit r ≡ true) → sums r ≡ false
    unsummed (inr f) b = f
    unsummed (inl u) b = absurd (clash (and_make b.0 (and_make b.1 u)) e)

pub unready_some : (r : Replica) (n : ℕ) → unready r n ≡ 0 → ⊥
unready_some r n = pick_both (λ (a : ℕ). a ≡ 0 → ⊥) (roomy n && fit r) (λ z. omega arith) (λ z. omega arith)

-- the sender is another member
pub record Peer (sc : Scalars) (peer : ℕ) : Type 0 where
  pub member : peer < sc.group
  pub other : peer ≡ sc.id → ⊥

pub peer_facts : (sc : Scalars) (peer : ℕ) → is_peer sc peer ≡ true → Peer sc peer
peer_facts sc peer e =
    record { member = ltb-true _ _ (and_left (is_member sc peer) _ e); other = eqb-false _ _ (not-true _ (and_right (is_member sc peer) _ e)) }

-- the record is fit
pub ready-fit : (r : Replica) (n : ℕ) → ready r n ≡ true → fit r ≡ true
ready-fit r n e = and_left (fit r) _ (and_right (roomy n) _ e)

-- ── Prepare ──
-- the window with the trigger's slot in it
abbrev pub prepare_window : Replica → ℕ → Window
prepare_window r trigger = grown r.window (place r.sc trigger + 1)

abbrev pub prepare_end : Replica → ℕ → ℕ
prepare_end r trigger = prepare_top (prepare_window r trigger) (place r.sc trigger) + 1

abbrev pub prepared : Replica → ℕ → ℕ → ℕ → Outcome
prepared r peer trigger ballot =
    done
    (with_window r (followed r.sc peer ballot)
    (sweep (λ i s. prepared_slot (strict r.sc) ballot (prepare_book r.sc (prepare_window r trigger) (place r.sc trigger) peer) s) (place r.sc trigger) (prepare_end r trigger)
    (prepare_window r trigger)))
    (down_acts r.sc ballot ++ gather (λ i. promise (number r.sc i) ballot ∷ []) (place r.sc trigger) (prepare_end r trigger))

pub record Prepares (r : Replica) (peer trigger ballot : ℕ) : Type 0 where
  pub fits : fit r ≡ true
  pub peer_is : Peer r.sc peer
  pub owned : owns ballot peer ≡ true
  pub low : r.sc.start ≤ trigger
  pub high : trigger < r.sc.start + 64
  pub seen : r.sc.bal_max_seen ≤ ballot
  pub none_above :
      any (λ i. ltb ballot (slot_at (prepare_window r trigger) i).ballot) (place r.sc trigger) (prepare_end r trigger) ≡ false

pub prepare_step_ways : (P : Outcome → Type 0) (r : Replica) (n peer trigger ballot : ℕ) → Keeps P r
    → (Prepares r peer trigger ballot → P (prepared r peer trigger ballot)) → P (prepare_step r n peer trigger ballot)
unfolding prepare_step prepare_on
prepare_step_ways P r n peer trigger ballot k on =
    pick_cases P (not (ready r n)) (λ a. k (unready r n) (unready-keeping r n (not-true _ a)))
    (λ a. pick_cases P (not (is_peer r.sc peer)) (λ b. k 2 refl)
    (λ b. pick_cases P (not (owns ballot peer)) (λ c. k 3 refl)
    (λ c. pick_cases P (ltb trigger r.sc.start) (λ d. k 0 refl)
    (λ d. pick_cases P (ltb ballot r.sc.bal_max_seen) (λ e. k 0 refl)
    (λ e. pick_cases P (leb (r.sc.start + 64) trigger) (λ f. k 5 refl)
    (λ f. pick_cases P (any (λ i. ltb ballot (slot_at (prepare_window r trigger) i).ballot) (place r.sc trigger) (prepare_end r trigger)) (λ g. k 6 refl)
    (λ g. on
    (record {
      fits = ready-fit r n (not-false _ a);
      peer_is = peer_facts r.sc peer (not-false _ b);
      owned = not-false _ c;
      low = ltb-false _ _ d;
      high = leb-false _ _ f;
      seen = ltb-false _ _ e;
      none_above = g;
    }))))))))

-- ── Accept ──
abbrev pub accept_window : Replica → ℕ → Window
accept_window r slot = grown r.window (place r.sc slot + 1)

-- why it is answered 15: a slot of the window, not at an old ballot, that is committed with another batch
abbrev pub other_named : Replica → ℕ → ℕ → Batch → Bool
other_named r slot ballot b =
    leb r.sc.start slot && (leb r.sc.bal_max_seen ballot
    && (ltb slot (r.sc.start + 64) && names_other r.sc (slot_at (accept_window r slot) (place r.sc slot)) (clean b)))

abbrev pub KeepsAccept : (Outcome → Type 0) → Replica → ℕ → ℕ → Batch → Type 0
KeepsAccept P r slot ballot b = (a : ℕ) → (keeping r a || (eqb a 15 && other_named r slot ballot b)) ≡ true → P (kept a r)

abbrev pub accept_decided : Replica → ℕ → ℕ → ℕ → Batch → Decided
accept_decided r peer slot ballot b = accepts r.sc (slot_at (accept_window r slot) (place r.sc slot)) peer slot ballot (clean b)

abbrev pub accepted : Replica → ℕ → ℕ → ℕ → Batch → Outcome
accepted r peer slot ballot b =
    done (settled_to r (accept_window r slot) (place r.sc slot) slot (accept_decided r peer slot ballot b))
    (says_acts (accept_decided r peer slot ballot b).says (clean b).keys)

pub record Accepts (r : Replica) (peer slot ballot : ℕ) (b : Batch) : Type 0 where
  pub fits : fit r ≡ true
  pub peer_is : Peer r.sc peer
  pub owned : owns ballot peer ≡ true
  pub batch : is_batch b.id b.count ≡ true
  pub low : r.sc.start ≤ slot
  pub high : slot < r.sc.start + 64
  pub seen : r.sc.bal_max_seen ≤ ballot
  pub not_other : names_other r.sc (slot_at (accept_window r slot) (place r.sc slot)) (clean b) ≡ false
  pub is_not_above : (slot_at (accept_window r slot) (place r.sc slot)).ballot ≤ ballot
  pub room : overfull r.keys (clean b) ≡ false

pub accept_step_ways : (P : Outcome → Type 0) (r : Replica) (n peer slot ballot : ℕ) (b : Batch) → KeepsAccept P r slot ballot b
    → (Accepts r peer slot ballot b → P (accepted r peer slot ballot b)) → P (accept_step r n peer slot ballot b)
unfolding accept_step settled
accept_step_ways P r n peer slot ballot b k on =
    pick_cases P (not (ready r n)) (λ x. k (unready r n) (rw (unready-keeping r n (not-true _ x))))
    (λ x. pick_cases P (not (is_peer r.sc peer)) (λ c. k 2 refl)
    (λ c. pick_cases P (not (owns ballot peer)) (λ d. k 3 refl)
    (λ d. pick_cases P (not (is_batch b.id b.count)) (λ e. k 10 refl)
    (λ e. pick_cases P (ltb slot r.sc.start) (λ f. k 0 refl)
    (λ f. pick_cases P (ltb ballot r.sc.bal_max_seen) (λ g. k 0 refl)
    (λ g. pick_cases P (leb (r.sc.start + 64) slot) (λ h. k 5 refl)
    (λ h. decide_accept_ways (λ (d : Decided). P (settled r (accept_window r slot) (place r.sc slot) slot d)) r.sc (slot_at (accept_window r slot) (place r.sc slot)) peer slot ballot (clean b)
    (λ o. k 15 (and_make (le-leb r.sc.start slot (ltb-false _ _ f)) (and_make (le-leb r.sc.bal_max_seen ballot (ltb-false _ _ g)) (and_make (lt-ltb slot (r.sc.start + 64) (leb-false _ _ h)) o)))) (k 6 refl)
    (λ o i. noting_ways P r true slot (clean b) _ _ refl (k 7 refl)
    (λ j. on
    (record {
      fits = ready-fit r n (not-false _ x);
      peer_is = peer_facts r.sc peer (not-false _ c);
      owned = not-false _ d;
      batch = not-false _ e;
      low = ltb-false _ _ f;
      high = leb-false _ _ h;
      seen = ltb-false _ _ g;
      not_other = o;
      is_not_above = i;
      room = j;
    }))))))))))

-- ── AcceptReply ──
abbrev pub replied_slot : Replica → ℕ → Slot
replied_slot r slot = slot_at r.window (place r.sc slot)

-- below the quorum the sender is put into the set; at the quorum the slot commits
abbrev pub acknowledged : Replica → ℕ → ℕ → Outcome
acknowledged r peer slot = done (with_window r r.sc (put_slot r.window (place r.sc slot) (acknowledged_slot peer (replied_slot r slot)))) []

abbrev pub after_committed : Replica → ℕ → ℕ → Outcome
after_committed r peer slot =
    let d = commits r.sc (replied_slot r slot) peer slot in
    done (with_window r r.sc (put_slot r.window (place r.sc slot) d.slot)) (says_acts d.says d.keys)

pub record Replies (r : Replica) (peer slot ballot : ℕ) : Type 0 where
  pub fits : fit r ≡ true
  pub peer_is : Peer r.sc peer
  pub low : r.sc.start ≤ slot
  pub high : slot < log_end r
  pub prepared : ballot ≡ r.sc.bal_prepared
  pub counts : Acknowledges r.sc (replied_slot r slot) peer ballot

pub accept_reply_step_ways : (P : Outcome → Type 0) (r : Replica) (n peer slot ballot : ℕ) → Keeps P r
    → (Replies r peer slot ballot → count_in (acknowledged_slot peer (replied_slot r slot)).leader.accept_acks < quorum r.sc → P (acknowledged r peer slot))
    → (Replies r peer slot ballot → quorum r.sc ≤ count_in (acknowledged_slot peer (replied_slot r slot)).leader.accept_acks → P (after_committed r peer slot))
    → P (accept_reply_step r n peer slot ballot)
unfolding accept_reply_step settled noting
accept_reply_step_ways P r n peer slot ballot k more full =
    pick_cases P (not (ready r n)) (λ a. k (unready r n) (unready-keeping r n (not-true _ a)))
    (λ a. pick_cases P (not (is_peer r.sc peer)) (λ b. k 2 refl)
    (λ b. pick_cases P (ltb slot r.sc.start) (λ c. k 0 refl)
    (λ c. pick_cases P (not (eqb ballot r.sc.bal_prepared)) (λ d. k 0 refl)
    (λ d. pick_cases P (leb (log_end r) slot) (λ e. k 4 refl)
    (λ e.
    let f : Acknowledges r.sc (replied_slot r slot) peer ballot → Replies r peer slot ballot =
    λ g.
    record {
      fits = ready-fit r n (not-false _ a);
      peer_is = peer_facts r.sc peer (not-false _ b);
      low = ltb-false _ _ c;
      high = leb-false _ _ e;
      prepared = eqb-true _ _ (not-false _ d);
      counts = g;
    } in
    decide_accept_reply_ways (λ (d : Decided). P (settled r r.window (place r.sc slot) slot d)) r.sc (replied_slot r slot) peer slot ballot
    (subst P (sym (settled-silent r (place r.sc slot) slot)) (k 0 refl)) (k 6 refl) (λ g q. more (f g) q) (λ g q. full (f g) q))))))
