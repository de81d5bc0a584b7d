-- Of one call of a strict replica, each slot by number: 02, Wish 6, (a), (b) and (d), and why a slot is marked.
use Rattle.std.specs.Prelude.{◌≡◌, refl, true, false, ◌⊎◌, ℕ, ◌+◌, ◌-◌, ◌≤◌, ◌<◌, ltb}
use Rattle.std.proofs.Math.Path.{sym}
use Rattle.std.proofs.Common.{subst, ◌∙◌, arith, ltb-true, lt-ltb}
use Rattle.std.proofs.Math.Logic.{inl, inr}
use Rattle.base.specs.Pick.{decide, clash, tests}
use Rattle.base.specs.Among.{◌∈◌, All-in}
use Rattle.members.specs.Sets.{has}
use Rattle.members.specs.Laws.{has_none}
use Rattle.actions.specs.Actions.{Act}
use Rattle.slots.specs.declared.Vote.{Vote}
use Rattle.slots.specs.declared.Slot.{Slot}
use Rattle.slots.specs.Slots.{null_slot, executed_slot}
use Rattle.decide.specs.Decide.{decide_offer}
use Rattle.window.specs.declared.Window.{Window}
use Rattle.window.specs.Window.{slot_at}
use Rattle.window.specs.ByPlace.{at_place}
use Rattle.replica.specs.declared.Replica.{Replica}
use Rattle.replica.specs.Record.{Outcome, place}
use Rattle.replica.specs.Messages.{clean_reply}
use Rattle.replica.specs.Added.{moved_exec}
use Rattle.replica.specs.Step.{Call, call_prepare, call_prepare_reply, call_accept, call_accept_reply, call_commit_notice, call_timeout, call_logged, call_offer, call_executed, call_open_read, call_read_reply, step}
use Rattle.laws.proofs.Theorems.{start_stays}
use Rattle.laws.specs.WaysMessages.{prepare_step_ways, accept_step_ways, accept_reply_step_ways}
use Rattle.laws.specs.WaysLeadership.{timeout_step_ways, commit_notice_step_ways}
use Rattle.laws.specs.WaysAdded.{offer_step_ways, executed_step_ways}
use Rattle.voting.specs.Claims.{Of, open_read_way, read_reply_way}
use Rattle.voting.specs.Replying.{prepare_reply_way, map_reply}
use Rattle.voting.specs.Logging.{logged_way}
use Rattle.voting.specs.Backing.{Stood}
use Rattle.voting.specs.StrictVotes.{entry_of, VoteTurn, strict_votes}
use Rattle.agreement.specs.BySlot.{numbered, numbered_at}
use Rattle.agreement.specs.Theorem.{slot_of}
use Rattle.agreement.specs.Frame.{view, ActOk}
use Rattle.agreement.specs.Good.{GoodReplica, StepOk}
use Rattle.agreement.specs.Calls.{step-Ok}
use Rattle.safety.specs.Sight.{Sight, sight_of, acks, Acked, Marking, tallied, noticed, Marks, SlotTurn, Able}
use Rattle.safety.specs.TurnsSlots.{Fair, Fair-self, Fair-Mild, Fair-of, Mild-put, executed_mild}
use Rattle.safety.specs.TurnsMessages.{Why, FairThroughout, prepare_turns, accept_turns, acked_turns, reply_commit_turns}
use Rattle.safety.specs.TurnsReply.{Unmarked, reply_turns}
use Rattle.safety.specs.TurnsRest.{led_above, timeout_turns, notice_turns, log_turns, offer_turns}
use Rattle.safety.specs.TurnsAcks.{acked_at}

-- ── (d), of every call, by place ──
step_turns : (r : Replica) (room : ℕ) (c : Call) → Able r → Of (FairThroughout r c) (step r room c)
unfolding Of decide_offer moved_exec
step_turns r room c able = go c
  where
    g : GoodReplica r
    g = able.good

    go : (c : Call) → Of (FairThroughout r c) (step r room c)
    go (call_prepare peer trigger ballot) =
        prepare_step_ways (Of (FairThroughout r (call_prepare peer trigger ballot))) r room peer trigger ballot (λ a l i. Fair-self _)
        (λ f. prepare_turns r _ g able.kind peer trigger ballot f)
    go (call_prepare_reply peer m) =
        prepare_reply_way (FairThroughout r (call_prepare_reply peer m)) r room peer m (λ a l u i. Fair-self _)
        (λ f. map_reply (Unmarked r) (FairThroughout r (call_prepare_reply peer m)) r peer (clean_reply m) (λ a sc w acts h i. Fair-of (h i))
        (reply_turns r peer (clean_reply m) g.wide g.short (led_above r.sc r.window g)))
    go (call_accept peer slot ballot b) =
        accept_step_ways (Of (FairThroughout r (call_accept peer slot ballot b))) r room peer slot ballot b (λ a l i. Fair-self _)
        (λ f. accept_turns r _ g able.kind peer slot ballot b f)
    go (call_accept_reply peer slot ballot) =
        accept_reply_step_ways (Of (FairThroughout r (call_accept_reply peer slot ballot))) r room peer slot ballot (λ a l i. Fair-self _)
        (λ f q. acked_turns r _ g able.kind peer slot) (λ f q. reply_commit_turns r _ g able.kind peer slot ballot f q)
    go (call_commit_notice peer ballot bar) =
        commit_notice_step_ways (Of (FairThroughout r (call_commit_notice peer ballot bar))) r room peer ballot bar (λ a l i. Fair-self _) (λ f. notice_turns r peer ballot bar g f)
    go (call_timeout source) = timeout_step_ways (Of (FairThroughout r (call_timeout source))) r room source (λ a l i. Fair-self _) (λ b f. timeout_turns r _ g source b f)
    go (call_logged d) = logged_way (FairThroughout r (call_logged d)) r d room (λ a l u i. Fair-self _) (λ f. log_turns r (call_logged d) g d f)
    go (call_offer b) = offer_step_ways (Of (FairThroughout r (call_offer b))) r room b (λ a l i. Fair-self _) (λ f. offer_turns r _ g b f)
    go (call_executed slot) =
        executed_step_ways (Of (FairThroughout r (call_executed slot))) r room slot (λ a l i. Fair-self _)
        (λ f i. Fair-Mild (Mild-put r.window (place r.sc slot) (executed_slot (slot_at r.window (place r.sc slot))) (executed_mild (slot_at r.window (place r.sc slot))) i))
    go (call_open_read id count keys) = open_read_way (FairThroughout r (call_open_read id count keys)) r room (λ a acts i. Fair-self _) id count keys
    go (call_read_reply peer id from_leader reply) =
        read_reply_way (FairThroughout r (call_read_reply peer id from_leader reply)) r room (λ a acts i. Fair-self _) peer id from_leader reply

-- ── by number ──
below_start : (start : ℕ) (w : Window) (s : ℕ) → s < start → numbered start w s ≡ null_slot
unfolding numbered
below_start start w s l = rw (lt-ltb s start l)

-- what holds below the log's start, where slots are null, and of each place, before and after, holds of every number; `by_place` of BySlot, told where
by_number : (P : ℕ → Slot → Slot → Type 0) (start : ℕ) (w w' : Window) → ((s : ℕ) → s < start → P s null_slot null_slot) → ((i : ℕ) → P (start + i) (at_place w i) (at_place w' i))
    → (s : ℕ) → P s (numbered start w s) (numbered start w' s)
by_number P start w w' n h s = go (decide (ltb s start))
  where
    go : (ltb s start ≡ true) ⊎ (ltb s start ≡ false) → P s (numbered start w s) (numbered start w' s)
    go (inl e) = let l = ltb-true s start e in rw (below_start start w s l, below_start start w' s l) (n s l)
    go (inr e) =
        let q : start + (s - start) ≡ s = omega (arith, tests) in
        subst (λ (k : ℕ). P k (numbered start w k) (numbered start w' k)) q
        (subst (λ (y : Slot). P (start + (s - start)) (numbered start w (start + (s - start))) y) (sym (numbered_at start w' (s - start)))
        (subst (λ (x : Slot). P (start + (s - start)) x (at_place w' (s - start))) (sym (numbered_at start w (s - start))) (h (s - start))))

module _ (r : Replica) (room : ℕ) (c : Call) (able : Able r) where
  abbrev o : Outcome
  o = step r room c

  abbrev v : Sight
  v = sight_of r

  abbrev v' : Sight
  v' = sight_of o.replica

  ok : StepOk (view r.sc r.window) c o.answer o.replica.sc o.replica.window o.actions
  ok = step-Ok r room c able.good

  -- each action keeps to demand 3's frame
  said : {a : Act} → a ∈ o.actions → ActOk (view r.sc r.window) c (view o.replica.sc o.replica.window) o.actions a
  said m = All-in (ActOk (view r.sc r.window) c (view o.replica.sc o.replica.window) o.actions) ok.frame.said m

  -- what is shown by place
  record Parts (s : ℕ) (x y : Slot) : Type 0 where
    vote : VoteTurn o.actions s x.vote y.vote
    fair : Fair (Why r c o.replica.sc s x y) o.actions s x y
    acked : v'.leading ≡ true → y.ballot ≡ v'.sent → (p : ℕ) → has (acks y) p ≡ true
        → ((v.leading ≡ true) × (v.sent ≡ v'.sent) × (x.ballot ≡ v.sent) × (has (acks x) p ≡ true)) ⊎ Acked v c p s y.ballot

  -- no entry is of a slot below the log's start
  null_parts : (s : ℕ) → s < r.sc.start → Parts s null_slot null_slot
  null_parts s l =
      record {
        vote = record { moves = inl refl; holds = λ x m. absurd (none x m) };
        fair = Fair-self null_slot;
        acked = λ _ _ p h. absurd (clash h (has_none p));
      }
    where
      none : (x : Vote) → entry_of s x ∈ o.actions → ⊥
      none x m = let z : r.sc.start ≤ s = (said m).1.0.0 in omega arith

  at_parts : (i : ℕ) → Parts (r.sc.start + i) (at_place r.window i) (at_place o.replica.window i)
  unfolding Of
  at_parts i =
      record {
        vote = strict_votes r room c able.good.wide able.kind i;
        fair = step_turns r room c able i;
        acked = λ l b p h. either p (acked_at r room c able i l b p h);
      }
    where
      either : (p : ℕ) → (Stood r i v'.sent × (has (acks (at_place r.window i)) p ≡ true)) ⊎ Acked v c p (r.sc.start + i) (at_place o.replica.window i).ballot
          → ((v.leading ≡ true) × (v.sent ≡ v'.sent) × ((at_place r.window i).ballot ≡ v.sent) × (has (acks (at_place r.window i)) p ≡ true))
          ⊎ Acked v c p (r.sc.start + i) (at_place o.replica.window i).ballot
      either p (inl (k, h)) = inl (k.leading, k.same, k.at ∙ sym k.same, h)
      either p (inr k) = inr k

  parts : (s : ℕ) → Parts s (slot_of r s) (slot_of o.replica s)
  parts s =
      subst (λ (n : ℕ). Parts s (slot_of r s) (numbered n o.replica.window s)) (sym (start_stays r room c))
      (by_number Parts r.sc.start r.window o.replica.window null_parts at_parts s)

  -- a mark is of a slot that was Accepting, its ballot and batch kept, and this ballot is the largest seen (demand 3's frame)
  marking : (s : ℕ) → (slot_of r s).status < 3 → 3 ≤ (slot_of o.replica s).status → Marks v c v' s (slot_of r s) (slot_of o.replica s)
  marking s a b =
      let m = (said (ok.frame.rise s a b)).0 in
      record { was = m.was; at = m.at; val = m.val; why = go m.top ((parts s).fair.why a b) }
    where
      go : (slot_of o.replica s).ballot ≡ v'.seen → Why r c o.replica.sc s (slot_of r s) (slot_of o.replica s) → Marking v c v' s (slot_of r s) (slot_of o.replica s)
      go t (inl (l, m)) = tallied l (t ∙ sym (ok.good.sent l)) m
      go t (inr n) = noticed n.peer n.ballot n.bar n.call n.owned n.at n.low

-- THE THEOREM, of every call and every slot: what the strict frame says of one slot
pub slot_turns : (r : Replica) (room : ℕ) (c : Call) → Able r → (s : ℕ)
    → SlotTurn (sight_of r) c (sight_of (step r room c).replica) (step r room c).actions s (slot_of r s) (slot_of (step r room c).replica s)
slot_turns r room c able s =
    let k = parts r room c able s in
    record {
      vote = k.vote;
      up = k.fair.up;
      stays = k.fair.stays;
      fixed = k.fair.fixed;
      ends = k.fair.ends;
      acked = k.acked;
      marks = marking r room c able s;
    }
