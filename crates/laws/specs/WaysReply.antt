-- The ways that a PrepareReply goes, a member's or the leader's own.
use Rattle.std.specs.Prelude.{◌≡◌, not, ◌&&◌, ◌||◌, ◌⊎◌, ltb, eqb}
use Rattle.std.proofs.Math.Path.{refl}
use Rattle.std.proofs.Common.{subst, arith}
use Rattle.std.proofs.Math.Bool.{Bool, true, false}
use mathlib.Core.List.{List, ◌++◌}
use Rattle.std.proofs.Math.Logic.{inl, inr}
use Prim.Native.Nat.{ℕ, ◌+◌, ◌≤◌, ◌<◌}
use Rattle.std.proofs.Math.Dec.{leb}
use borrow.Author.Tests.{ltb-true, ltb-false, leb-true, leb-false, eqb-true, eqb-false, not-true, not-false}
use Rattle.base.specs.Pick.{pick, pick_cases, and_left, and_right, or-false, clash}
use Rattle.base.specs.Gather.{gather}
use Rattle.batch.specs.Batches.{is_batch}
use Rattle.batch.specs.declared.KeyTable.{KeyTable}
use Rattle.batch.specs.Keys.{overfull}
use Rattle.actions.specs.declared.Says.TheVariants.{Nothing}
use Rattle.actions.specs.Actions.{Act, no_keys}
use Rattle.slots.specs.declared.Slot.{Slot}
use Rattle.slots.specs.Slots.{adopted_slot, counted_slot, entered_slot}
use Rattle.decide.specs.declared.Scalars.{Scalars}
use Rattle.decide.specs.Decide.{Decided}
use Rattle.decide.specs.declared.Reply.{Reply}
use Rattle.decide.specs.Scalars.{leads, is_peer, strict, with_prepared}
use Rattle.decide.specs.Bars.{with_fallen}
use Rattle.decide.specs.Decide.{silent, awaits_prepare, goes_on, decide_vote, is_counted, decide_count}
use Rattle.window.specs.declared.Window.{Window}
use Rattle.window.specs.Window.{slot_at, put_slot, sweep}
use Rattle.window.specs.Counting.{counts}
use Rattle.window.specs.Acts.{enter_acts}
use Rattle.replica.specs.declared.Replica.{Replica}
use Rattle.replica.specs.Record.{Outcome, kept, noting, with_window, place, number, log_end}
use Rattle.replica.specs.Fit.{fit, ready, unready}
use Rattle.replica.specs.Messages.{appended, noted, append_acts, tabled, counted_on, voted_on, replied_on, in_range, is_elsewhere, or_kept, reply_on, clean_reply, prepare_reply_step}
use Rattle.laws.specs.Leaves.{done, keys_after, with_keys, noting_ways, noting_refused}
use Rattle.laws.specs.OfDecide.{Hears, decide_count_ways}
use Rattle.laws.specs.WaysMessages.{KeepsFor, KeepsLowFor, unready-keeping, unready_some, Peer, peer_facts, ready-fit}

-- "a voted value replaces only on a strictly larger ballot", and only where replies are awaited
abbrev pub adopts_vote : Slot → Reply → Bool
adopts_vote s m = awaits_prepare s m.ballot && (m.voted && ltb s.leader.prepare_max_bal m.vote.ballot)

abbrev pub heard_slot : Slot → Reply → Slot
heard_slot s m = pick (adopts_vote s m) (adopted_slot m.vote s) s

abbrev pub hearing : Bool → Scalars → Slot → Reply → Decided
hearing t sc s m = record { answer = 0; noted = t; sc = sc; slot = pick t (adopted_slot m.vote s) s; says = Nothing; keys = no_keys }

pub decide_vote_heard : (P : Decided → Type 0) (sc : Scalars) (s : Slot) (m : Reply) → P (silent 6 sc s)
    → ((awaits_prepare s m.ballot ≡ true → Hears sc s m.ballot × ((m.voted && not s.leader.present) ≡ false)) → P (hearing (adopts_vote s m) sc s m))
    → P (decide_vote sc s m.ballot m.voted m.vote)
unfolding decide_vote
decide_vote_heard P sc s m six on =
    pick_cases P (not (awaits_prepare s m.ballot)) (λ a. idle (not-true _ a) (on (λ z. absurd (clash z (not-true _ a)))))
    (λ a. pick_cases P (not (eqb s.ballot m.ballot) || (ltb sc.bal_max_seen m.ballot || (m.voted && not s.leader.present))) (λ t. six)
    (λ t.
    let b = or-false (not (eqb s.ballot m.ballot)) _ t in
    let c = or-false (ltb sc.bal_max_seen m.ballot) _ b.1 in
    either (m.voted && ltb s.leader.prepare_max_bal m.vote.ballot)
    (subst (λ (x : Bool). P (hearing (x && (m.voted && ltb s.leader.prepare_max_bal m.vote.ballot)) sc s m)) (not-false (awaits_prepare s m.ballot) a)
    (on (λ z. (record { even = eqb-true _ _ (not-false _ b.0); seen = ltb-false _ _ c.0 }, c.1))))))
  where
    idle : awaits_prepare s m.ballot ≡ false → P (hearing (adopts_vote s m) sc s m) → P (silent 0 sc s)
    idle e p = subst (λ (x : Bool). P (hearing (x && (m.voted && ltb s.leader.prepare_max_bal m.vote.ballot)) sc s m)) e p

    either : (t : Bool) → P (hearing t sc s m)
        → P (pick t (record { answer = 0; noted = true; sc = sc; slot = adopted_slot m.vote s; says = Nothing; keys = no_keys }) (silent 0 sc s))
    either true p = p
    either false p = p

-- the windows of a reply: with the slot in it, with the reply noted there, with the vote heard, with the member counted at the trigger slot
abbrev pub grown_window : Replica → Reply → Window
grown_window r m = appended r (place r.sc m.slot) (place r.sc m.trigger)

abbrev pub reply_window : Replica → ℕ → Reply → Window
reply_window r peer m = noted r.sc (grown_window r m) (place r.sc m.slot) peer

abbrev pub reply_slot : Replica → ℕ → Reply → Slot
reply_slot r peer m = slot_at (reply_window r peer m) (place r.sc m.slot)

abbrev pub heard_window : Replica → ℕ → Reply → Window
heard_window r peer m = put_slot (reply_window r peer m) (place r.sc m.slot) (heard_slot (reply_slot r peer m) m)

abbrev pub trigger_slot : Replica → ℕ → Reply → Slot
trigger_slot r peer m = slot_at (heard_window r peer m) (place r.sc m.trigger)

abbrev pub counted_window : Replica → ℕ → Reply → Window
counted_window r peer m = put_slot (heard_window r peer m) (place r.sc m.trigger) (counted_slot peer (trigger_slot r peer m))

abbrev pub tabled_sc : Replica → ℕ → Reply → Scalars
tabled_sc r peer m = with_fallen r.sc r.bars peer m.bar

abbrev pub reply_keys : Replica → ℕ → Reply → KeyTable
reply_keys r peer m = keys_after (adopts_vote (reply_slot r peer m) m) m.slot (heard_slot (reply_slot r peer m) m).batch r.keys

-- the replica after a reply that was heard
abbrev pub after_reply : Replica → ℕ → Reply → Scalars → Window → Replica
after_reply r peer m sc w = with_keys (with_window (tabled r peer m.bar) sc w) (reply_keys r peer m)

-- the ways of a reply that is acted on: only tabled; heard; counted below the quorum; the slots enter Accept
abbrev pub tabled_only : Replica → ℕ → Reply → Outcome
tabled_only r peer m = done (with_window (tabled r peer m.bar) (tabled_sc r peer m) (reply_window r peer m)) (append_acts r (place r.sc m.slot))

abbrev pub heard : Replica → ℕ → Reply → Outcome
heard r peer m = done (after_reply r peer m (tabled_sc r peer m) (heard_window r peer m)) (append_acts r (place r.sc m.slot))

abbrev pub counted : Replica → ℕ → Reply → Outcome
counted r peer m = done (after_reply r peer m (tabled_sc r peer m) (counted_window r peer m)) (append_acts r (place r.sc m.slot))

abbrev pub entered : Replica → ℕ → Reply → Outcome
entered r peer m =
    done
    (after_reply r peer m (with_prepared (tabled_sc r peer m) m.ballot)
    (sweep (λ i s. entered_slot (strict (tabled_sc r peer m)) m.ballot s) (place r.sc m.trigger) (reply_window r peer m).len (counted_window r peer m)))
    (append_acts r (place r.sc m.slot)
    ++ gather (λ i. enter_acts (number (tabled_sc r peer m) i) m.ballot (slot_at (counted_window r peer m) i)) (place r.sc m.trigger) (reply_window r peer m).len)

pub record Answers (r : Replica) (m : Reply) : Type 0 where
  pub sent : m.ballot ≡ r.sc.bal_prep_sent
  pub leading : leads r.sc ≡ true
  pub low : r.sc.start ≤ m.trigger
  pub from : m.trigger ≤ m.slot
  pub to : m.slot ≤ m.endprep
  pub logged : m.trigger < log_end r
  pub high : m.slot < r.sc.start + 64
  pub booked : (slot_at r.window (place r.sc m.trigger)).leader.present ≡ true
  pub own : is_elsewhere r.sc m ≡ false

-- the reply's slot has a place
pub reply_place : (r : Replica) (m : Reply) → Answers r m → place r.sc m.slot < 64
reply_place r m f = omega (arith, f.low, f.from, f.high)

-- why one is ignored: it is at another ballot, or its trigger has no leader's bookkeeping, or is another than a strict leader's
abbrev pub Unheard : Replica → Reply → Type 0
Unheard r m = (m.ballot ≡ r.sc.bal_prep_sent → ⊥) ⊎ (((slot_at r.window (place r.sc m.trigger)).leader.present ≡ false) ⊎ (is_elsewhere r.sc m ≡ true))

pub record Heard (r : Replica) (peer : ℕ) (m : Reply) : Type 0 where
  pub goes : goes_on (tabled_sc r peer m) (reply_slot r peer m) m.ballot ≡ true
  pub hears : awaits_prepare (reply_slot r peer m) m.ballot ≡ true
      → Hears (tabled_sc r peer m) (reply_slot r peer m) m.ballot × ((m.voted && not (reply_slot r peer m).leader.present) ≡ false)
  pub room : (adopts_vote (reply_slot r peer m) m && overfull r.keys (heard_slot (reply_slot r peer m) m).batch) ≡ false

-- the member counts
abbrev pub counts_now : Replica → ℕ → Reply → Bool
counts_now r peer m = counts (tabled_sc r peer m) (reply_window r peer m) (place r.sc m.trigger) peer m

abbrev pub is_full : Replica → ℕ → Reply → Bool
is_full r peer m = is_counted (tabled_sc r peer m) (counted_slot peer (trigger_slot r peer m))

counted_on_ways : (P : Outcome → Type 0) (r : Replica) (w : Window) (j peer ballot : ℕ) (acts : List Act) → P (kept 6 r)
    → (is_counted r.sc (counted_slot peer (slot_at w j)) ≡ false → P (done (with_window r r.sc (put_slot w j (counted_slot peer (slot_at w j)))) acts))
    → (is_counted r.sc (counted_slot peer (slot_at w j)) ≡ true → r.sc.bal_prepared ≤ ballot
    → P (done (with_window r (with_prepared r.sc ballot) (sweep (λ i s. entered_slot (strict r.sc) ballot s) j w.len (put_slot w j (counted_slot peer (slot_at w j)))))
    (acts ++ gather (λ i. enter_acts (number r.sc i) ballot (slot_at (put_slot w j (counted_slot peer (slot_at w j))) i)) j w.len)))
    → P (counted_on r w j ballot acts (decide_count r.sc (slot_at w j) peer ballot))
unfolding counted_on
counted_on_ways P r w j peer ballot acts six less full =
    decide_count_ways (λ (d : Decided). P (counted_on r w j ballot acts d)) r.sc (slot_at w j) peer ballot six
    (λ e. pick_cases P (not (is_counted r.sc (counted_slot peer (slot_at w j)))) (λ u. less e) (λ u. absurd (clash (not-false _ u) e)))
    (λ e b. pick_cases P (not (is_counted r.sc (counted_slot peer (slot_at w j)))) (λ u. absurd (clash e (not-true _ u))) (λ u. full e b))

module _ (P : Outcome → Type 0) (r : Replica) (peer : ℕ) (m : Reply) where
  replied_ways : P (kept 6 r) → P (kept 7 r) → (awaits_prepare (reply_slot r peer m) m.ballot ≡ false → P (tabled_only r peer m))
      → (Heard r peer m → counts_now r peer m ≡ false → P (heard r peer m))
      → (Heard r peer m → counts_now r peer m ≡ true → is_full r peer m ≡ false → P (counted r peer m))
      → (Heard r peer m → counts_now r peer m ≡ true → is_full r peer m ≡ true → (tabled_sc r peer m).bal_prepared ≤ m.ballot → P (entered r peer m))
      → P
      (or_kept r
      (replied_on (tabled r peer m.bar) (reply_window r peer m) (place r.sc m.slot) (place r.sc m.trigger) peer m (append_acts r (place r.sc m.slot))))
  unfolding replied_on voted_on
  replied_ways six seven only one less full =
      let r' : Replica = tabled r peer m.bar in
      let i : ℕ = place r.sc m.slot in
      let j : ℕ = place r.sc m.trigger in
      let w : Window = reply_window r peer m in
      let acts : List Act = append_acts r (place r.sc m.slot) in
      let s : Slot = reply_slot r peer m in
      let t : Bool = adopts_vote (reply_slot r peer m) m in
      let b = (heard_slot (reply_slot r peer m) m).batch in
      pick_cases (λ (o : Outcome). P (or_kept r o)) (not (goes_on r'.sc s m.ballot)) (λ e. only (or-false (strict r'.sc) _ (not-true _ e)).1)
      (λ e. decide_vote_heard (λ (d : Decided). P (or_kept r (voted_on r' w i j peer m acts d))) r'.sc s m six
      (λ h.
      let facts : (t && overfull r.keys b) ≡ false → Heard r peer m =
      λ q. record { goes = not-false _ e; hears = h; room = q } in
      pick_cases (λ (o : Outcome). P (or_kept r (noting r' t m.slot b o))) (not (counts_now r peer m))
      (λ u. noting_ways (λ (o : Outcome). P (or_kept r o)) r' t m.slot b _ _ refl seven (λ q. one (facts q) (not-true _ u)))
      (λ u. counted_on_ways (λ (o : Outcome). P (or_kept r (noting r' t m.slot b o))) r' (heard_window r peer m) j peer m.ballot acts
      (noting_refused (λ (o : Outcome). P (or_kept r o)) r' t m.slot b 6 r' (λ z. omega arith) six)
      (λ v. noting_ways (λ (o : Outcome). P (or_kept r o)) r' t m.slot b _ _ refl seven (λ q. less (facts q) (not-false _ u) v))
      (λ v x. noting_ways (λ (o : Outcome). P (or_kept r o)) r' t m.slot b _ _ refl seven (λ q. full (facts q) (not-false _ u) v x)))))

  pub reply_on_ways : KeepsLowFor (Unheard r m) P r → (Answers r m → awaits_prepare (reply_slot r peer m) m.ballot ≡ false → P (tabled_only r peer m))
      → (Answers r m → Heard r peer m → counts_now r peer m ≡ false → P (heard r peer m))
      → (Answers r m → Heard r peer m → counts_now r peer m ≡ true → is_full r peer m ≡ false → P (counted r peer m))
      → (Answers r m → Heard r peer m → counts_now r peer m ≡ true → is_full r peer m ≡ true → (tabled_sc r peer m).bal_prepared ≤ m.ballot → P (entered r peer m))
      → P (reply_on r peer m)
  unfolding reply_on
  reply_on_ways k only one less full =
      pick_cases P (not (eqb m.ballot r.sc.bal_prep_sent)) (λ a. k 0 refl (λ z. inl (eqb-false _ _ (not-true _ a))))
      (λ a. pick_cases P (not (leads r.sc)) (λ b. refuse 4 refl (λ z. omega arith))
      (λ b. pick_cases P (is_elsewhere r.sc m) (λ o. k 0 refl (λ z. inr (inr o)))
      (λ o. pick_cases P (not (in_range r m)) (λ c. refuse 6 refl (λ z. omega arith))
      (λ c. pick_cases P (not (slot_at r.window (place r.sc m.trigger)).leader.present) (λ d. k 0 refl (λ z. inr (inl (not-true _ d))))
      (λ d. pick_cases P (leb (r.sc.start + 64) m.slot) (λ e. refuse 5 refl (λ z. omega arith))
      (λ e.
      let g = not-false (in_range r m) c in
      let h = and_right (leb m.trigger m.slot) _ g in
      let i = and_right (leb m.slot m.endprep) _ h in
      let f : Answers r m =
      record {
        sent = eqb-true _ _ (not-false _ a);
        leading = not-false _ b;
        low = leb-true _ _ (and_left (leb r.sc.start m.trigger) _ i);
        from = leb-true _ _ (and_left (leb m.trigger m.slot) _ g);
        to = leb-true _ _ (and_left (leb m.slot m.endprep) _ h);
        logged = ltb-true _ _ (and_right (leb r.sc.start m.trigger) _ i);
        high = leb-false _ _ e;
        booked = not-false _ d;
        own = o;
      } in
      replied_ways (refuse 6 refl (λ z. omega arith)) (refuse 7 refl (λ z. omega arith)) (only f) (one f) (less f) (full f)))))))
    where
      refuse : (a : ℕ) → leb a 11 ≡ true → (a ≡ 0 → ⊥) → P (kept a r)
      refuse a h n = k a h (λ z. absurd (n z))

-- a reply from another member: its vote is a batch, and its unused keys are dropped
pub record FromPeer (r : Replica) (peer : ℕ) (m : Reply) : Type 0 where
  pub fits : fit r ≡ true
  pub peer_is : Peer r.sc peer
  pub batch : (m.voted && not (is_batch m.vote.batch.id m.vote.batch.count)) ≡ false
  pub low : r.sc.start ≤ m.slot

pub prepare_reply_step_ways : (P : Outcome → Type 0) (r : Replica) (n peer : ℕ) (m : Reply) → KeepsFor (m.slot < r.sc.start) P r
    → (FromPeer r peer m → P (reply_on r peer (clean_reply m))) → P (prepare_reply_step r n peer m)
unfolding prepare_reply_step
prepare_reply_step_ways P r n peer m k on =
    pick_cases P (not (ready r n)) (λ a. k (unready r n) (unready-keeping r n (not-true _ a)) (λ z. absurd (unready_some r n z)))
    (λ a. pick_cases P (not (is_peer r.sc peer)) (λ b. k 2 refl (λ z. absurd (omega arith)))
    (λ b. pick_cases P (m.voted && not (is_batch m.vote.batch.id m.vote.batch.count)) (λ c. k 10 refl (λ z. absurd (omega arith)))
    (λ c. pick_cases P (ltb m.slot r.sc.start) (λ d. k 0 refl (λ z. ltb-true _ _ d))
    (λ d. on (record { fits = ready-fit r n (not-false _ a); peer_is = peer_facts r.sc peer (not-false _ b); batch = c; low = ltb-false _ _ d })))))
