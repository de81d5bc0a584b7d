-- 02, Wish 6, (c), a member's half: the endprep of a PrepareReply is the last slot that is not Null, and past it the member has no vote.
-- Of every replica of either kind that a history reaches from a new one: a Null slot has no vote.
use Rattle.std.specs.Prelude.{◌≡◌, refl, Bool, true, false, ◌&&◌, ◌||◌, List, [], ◌∷◌, ◌⊎◌, ltb, leb, eqb}
use Rattle.std.proofs.Common.{sym, ap, subst, ◌∙◌, inl, inr, le_refl, arith, ltb-true, ltb-false, leb-true}
use mathlib.Core.List.Memᴰ
use Prim.Native.Nat.{ℕ, ◌+◌, ◌≤◌, ◌<◌}
use Rattle.base.specs.Pick.{pick_both, pick_cases, and_right, decide, larger_left, larger_right}
use Rattle.base.specs.Find.{last_past}
use Rattle.base.specs.Among.{◌∈◌}
use Rattle.batch.specs.declared.Batch.{Batch}
use Rattle.slots.specs.declared.Slot.{Slot}
use Rattle.slots.specs.Slots.{preparing, accepting, committed, executed, null_slot, put_back, new_book, redone_slot, prepared_slot, entered_slot, marked_slot, passed_slot, executed_slot, logged_slot}
use Rattle.decide.specs.declared.Reply.{Reply}
use Rattle.decide.specs.Scalars.{strict, may_be}
use Rattle.decide.specs.Decide.{decide_offer}
use Rattle.window.specs.declared.Window.{Window}
use Rattle.window.specs.Window.{slot_at, grown, no_slots, first_open, last_used}
use Rattle.window.specs.Places.{filled_has, filled_most}
use Rattle.window.specs.ByPlace.{at_place, sweep_cases, sweep_at, at_here, at_past}
use Rattle.window.specs.Acts.{promise}
use Rattle.replica.specs.declared.Replica.{Replica}
use Rattle.replica.specs.Seen.{Made}
use Rattle.replica.specs.declared.Done.{Done}
use Rattle.replica.specs.Record.{Outcome, place, new_replica, fresh, zero_replica}
use Rattle.replica.specs.Messages.{clean_reply, prepare_book}
use Rattle.replica.specs.Durability.{pass_stop, logged_on}
use Rattle.replica.specs.Added.{moved_exec}
use Rattle.replica.specs.Step.{Call, call_prepare, call_prepare_reply, call_accept, call_accept_reply, call_commit_notice, call_timeout, call_logged, call_offer, call_executed, call_open_read, call_read_reply, step}
use Rattle.laws.specs.OfFit.{fit_facts}
use Rattle.laws.specs.WaysMessages.{Prepares, prepare_end, prepare_window, prepared, prepare_step_ways, Accepts, accept_window, accepted, accept_step_ways, accept_reply_step_ways}
use Rattle.laws.specs.WaysReply.{adopts_vote, grown_window, reply_window, reply_slot, heard_window, counted_window, Answers, reply_place}
use Rattle.laws.specs.WaysLeadership.{lead_window, lead_trigger, lead_end, lead_from, led, Leads, timeout_step_ways, mark_window, mark_from, mark_end, marked, Marks, commit_notice_step_ways}
use Rattle.laws.specs.WaysDurability.{logged, pass_from}
use Rattle.laws.specs.WaysAdded.{offer_window, Offers, offered, offer_step_ways, executed_step_ways}
use Rattle.laws.specs.Appended.{appended_cases}
use Rattle.voting.specs.Windows.{Whole, Whole-put, Whole-grown}
use Rattle.voting.specs.History.{Lent, told, play}
use Rattle.voting.specs.Claims.{Claim, Of, open_read_way, read_reply_way}
use Rattle.voting.specs.Replying.{entered_window, ReplyWays, prepare_reply_way}
use Rattle.voting.specs.Logging.{own_answer, LogWays, logged_way}
use Rattle.voting.specs.Below.{put_each, grown_each, swept_each}
use Rattle.voting.specs.Wholes.{Whole-step}

-- ── the invariant ──
pub record Unvoted (w : Window) : Type 0 where
  pub none : (i : ℕ) → (at_place w i).status ≡ 0 → (at_place w i).vote.ballot ≡ 0

-- of one slot
abbrev Blank : Slot → Type 0
Blank s = s.status ≡ 0 → s.vote.ballot ≡ 0

abbrev AllBlank : Window → Type 0
AllBlank w = (i : ℕ) → Blank (at_place w i)

abbrev StaysBlank : Claim
StaysBlank a sc w acts = AllBlank w

-- ── each change of a slot ──
-- Prepare and Accept leave no slot Null
put_back_some : (own : Bool) (status : ℕ) (s : Slot) → 0 < status → put_back own status s ≡ 0 → ⊥
put_back_some own status s l =
    pick_cases (λ (x : ℕ). x ≡ 0 → ⊥) (own && leb committed s.status)
    (λ t z. let c = leb-true committed s.status (and_right own _ t) in omega arith)
    (λ t z. omega arith)

module _ (s : Slot) (b : Blank s) where
  redone_blank : (ballot trigger endprep : ℕ) → Blank (redone_slot ballot (new_book trigger endprep) s)
  redone_blank ballot trigger endprep =
      pick_both Blank (leb executed s.status) b (pick_both Blank (leb committed s.status) b (λ z. absurd (omega arith)))

  entered_blank : (own : Bool) (ballot : ℕ) → Blank (entered_slot own ballot s)
  entered_blank own ballot = pick_both Blank (eqb s.status preparing) (λ z. absurd (omega arith)) b

  marked_blank : Blank (marked_slot s)
  marked_blank = pick_both Blank (leb committed s.status) b (λ z. absurd (omega arith))

  passed_blank : Blank (passed_slot s)
  passed_blank = pick_both Blank (eqb s.batch.id 0) (λ z. absurd (omega arith)) b

  executed_blank : Blank (executed_slot s)
  executed_blank = pick_both Blank (eqb s.status committed) (λ z. absurd (omega arith)) b

  logged_blank : (offset : ℕ) → Blank (logged_slot offset s)
  logged_blank offset = pick_both Blank (eqb s.wal_offset 0 || ltb offset s.wal_offset) b b

-- ── PrepareReply, also a leader's own ──
module _ (r : Replica) (peer : ℕ) (m : Reply) (h : Whole r.window) (k : AllBlank r.window) where
  appended_blank : Answers r m → AllBlank (grown_window r m)
  appended_blank f i =
      appended_cases Blank r (place r.sc m.slot) (place r.sc m.trigger) i (let u = reply_place r m f in omega arith)
      (λ l z. absurd (omega arith)) (k i)

  noted_blank : Answers r m → AllBlank (reply_window r peer m)
  noted_blank f = put_each Blank (grown_window r m) (appended_blank f) (place r.sc m.slot) _ (λ p. p)

  heard_blank : Answers r m → AllBlank (heard_window r peer m)
  heard_blank f =
      put_each Blank (reply_window r peer m) (noted_blank f) (place r.sc m.slot) _ (λ p. pick_both Blank (adopts_vote (reply_slot r peer m) m) p p)

  counted_blank : Answers r m → AllBlank (counted_window r peer m)
  counted_blank f = put_each Blank (heard_window r peer m) (heard_blank f) (place r.sc m.trigger) _ (λ p. p)

  entering_blank : Answers r m → AllBlank (entered_window r peer m)
  entering_blank f =
      swept_each Blank (counted_window r peer m) (counted_blank f) (λ z. refl) (λ i s. entered_slot (strict r.sc) m.ballot s)
      (λ i s p. entered_blank s p (strict r.sc) m.ballot) (place r.sc m.trigger) (counted_window r peer m).len

  reply_blank : ReplyWays StaysBlank r peer m
  reply_blank = record { passed = λ f t. noted_blank f; heard = λ f t. heard_blank f; counted = λ f t. counted_blank f; entered = λ f t q. entering_blank f }

-- ── each call ──
module _ (r : Replica) (h : Whole r.window) (k : AllBlank r.window) where
  wider : (n : ℕ) → n ≤ 64 → AllBlank (grown r.window n)
  wider n l = grown_each Blank r.window k n (omega arith)

  step_up_blank : (source b : ℕ) → Leads r source b → AllBlank (led r b).replica.window
  step_up_blank source b f =
      swept_each Blank (lead_window r) (wider (first_open r.window + 1) (omega (arith, f.room))) (λ z. refl)
      (λ i s. redone_slot b (new_book (lead_trigger r) (lead_end r)) s) (λ i s p. redone_blank s p b (lead_trigger r) (lead_end r)) (lead_from r) (lead_window r).len

  prepare_blank : (peer trigger ballot : ℕ) → Prepares r peer trigger ballot → AllBlank (prepared r peer trigger ballot).replica.window
  prepare_blank peer trigger ballot f =
      swept_each Blank (prepare_window r trigger) (wider (place r.sc trigger + 1) (omega (arith, f.high))) (λ z. refl)
      (λ j s. prepared_slot (strict r.sc) ballot (prepare_book r.sc (prepare_window r trigger) (place r.sc trigger) peer) s)
      (λ j s p z. absurd (put_back_some (strict r.sc) preparing s (omega arith) z)) (place r.sc trigger) (prepare_end r trigger)

  accept_blank : (peer slot ballot : ℕ) (b : Batch) → Accepts r peer slot ballot b → AllBlank (accepted r peer slot ballot b).replica.window
  accept_blank peer slot ballot b f =
      put_each Blank (accept_window r slot) (wider (place r.sc slot + 1) (omega (arith, f.high))) (place r.sc slot) _
      (λ p z. absurd (put_back_some (strict r.sc) accepting (slot_at (accept_window r slot) (place r.sc slot)) (omega arith) z))

  notice_blank : (peer ballot bar : ℕ) → Marks r peer ballot bar → AllBlank (marked r ballot bar).replica.window
  notice_blank peer ballot bar f =
      swept_each Blank (mark_window r bar) (wider (place r.sc bar) (omega (arith, f.high))) (λ z. refl) (λ i s. marked_slot s)
      (λ i s p. marked_blank s p) (mark_from r) (mark_end r ballot bar)

  offer_blank : (b : Batch) → Offers r b → AllBlank (offered r b).replica.window
  unfolding decide_offer
  offer_blank b f =
      put_each Blank (offer_window r) (wider (r.window.len + 1) (omega (arith, f.room))) r.window.len _ (λ p z. absurd (omega arith))

  log_blank : (d : Done) → LogWays StaysBlank r d
  unfolding Of logged_on
  log_blank d =
      let i : ℕ = place r.sc d.slot in
      let after : AllBlank (logged r d).window = put_each Blank r.window k i _ (λ p. logged_blank (slot_at r.window i) p r.sc.wal_offset) in
      record {
        only = λ u. after;
        own = λ e o. reply_blank (logged r d) r.sc.id (own_answer r d) (Whole-put r.window i _ h) after;
        promised = λ e _ n. after;
        acked = λ e _. put_each Blank (logged r d).window after i _ (λ p. p);
        commits = λ e _ a q. put_each Blank (logged r d).window after i _ (λ p z. absurd (omega arith));
        answered = λ e _ n. after;
        passes = λ e.
            swept_each Blank (logged r d).window after (λ z. refl) (λ i s. passed_slot s) (λ i s p. passed_blank s p)
            (pass_from (logged r d)) (pass_stop (logged r d));
      }

  step_blank : (room : ℕ) (c : Call) → Of StaysBlank (step r room c)
  unfolding Of moved_exec decide_offer
  step_blank room c = go c
    where
      go : (c : Call) → Of StaysBlank (step r room c)
      go (call_prepare peer trigger ballot) = prepare_step_ways (Of StaysBlank) r room peer trigger ballot (λ a l. k) (λ f. prepare_blank peer trigger ballot f)
      go (call_prepare_reply peer m) = prepare_reply_way StaysBlank r room peer m (λ a l u. k) (λ f. reply_blank r peer (clean_reply m) h k)
      go (call_accept peer slot ballot b) = accept_step_ways (Of StaysBlank) r room peer slot ballot b (λ a l. k) (λ f. accept_blank peer slot ballot b f)
      go (call_accept_reply peer slot ballot) =
          accept_reply_step_ways (Of StaysBlank) r room peer slot ballot (λ a l. k) (λ f q. put_each Blank r.window k (place r.sc slot) _ (λ p. p))
          (λ f q. put_each Blank r.window k (place r.sc slot) _ (λ p z. absurd (omega arith)))
      go (call_commit_notice peer ballot bar) = commit_notice_step_ways (Of StaysBlank) r room peer ballot bar (λ a l. k) (λ f. notice_blank peer ballot bar f)
      go (call_timeout source) = timeout_step_ways (Of StaysBlank) r room source (λ a l. k) (λ b f. step_up_blank source b f)
      go (call_logged d) = logged_way StaysBlank r d room (λ a l u. k) (λ f. log_blank d)
      go (call_offer b) = offer_step_ways (Of StaysBlank) r room b (λ a l. k) (λ f. offer_blank b f)
      go (call_executed slot) =
          executed_step_ways (Of StaysBlank) r room slot (λ a l. k)
          (λ f. put_each Blank r.window k (place r.sc slot) _ (λ p. executed_blank (slot_at r.window (place r.sc slot)) p))
      go (call_open_read id count keys) = open_read_way StaysBlank r room (λ a acts. k) id count keys
      go (call_read_reply peer id from_leader reply) = read_reply_way StaysBlank r room (λ a acts. k) peer id from_leader reply

-- ── on every replica reached from a new one ──
pub Unvoted-step : (r : Replica) (room : ℕ) (c : Call) → Whole r.window → Unvoted r.window → Unvoted (step r room c).replica.window
unfolding Of
Unvoted-step r room c h u = record { none = step_blank r h u.none room c }

pub Unvoted-play : (r : Replica) (h : List Lent) → Whole r.window → Unvoted r.window → Unvoted (play r h).window
Unvoted-play r [] w u = u
Unvoted-play r (c ∷ h) w u = Unvoted-play (told r c).replica h (Whole-step r c w) (Unvoted-step r c.room c.call w u)

none_unvoted : Unvoted no_slots
none_unvoted = record { none = λ i. subst Blank (sym (at_past no_slots i (omega arith))) (λ z. refl) }

pub Unvoted-new : (id group start options : ℕ) → (new_replica id group start options).answer ≡ 0 → Unvoted (new_replica id group start options).replica.window
unfolding new_replica
Unvoted-new id group start options =
    pick_cases (λ (x : Made). x.answer ≡ 0 → Unvoted x.replica.window) (may_be id group start options)
    {a = record { answer = 0; replica = fresh id group start options }}
    {b = record { answer = 10; replica = zero_replica }}
    (λ t e. none_unvoted) (λ t e. absurd (omega arith))

-- ── past the endprep that a Prepare leaves at its trigger, every slot is Null, and has no vote ──
pub past_last : (w : Window) (i : ℕ) → last_used w < i → (at_place w i).status ≡ 0
unfolding last_used
past_last w i l = go (decide (ltb i w.len))
  where
    go : (ltb i w.len ≡ true) ⊎ (ltb i w.len ≡ false) → (at_place w i).status ≡ 0
    go (inl t) =
        let u = ltb-true _ _ t in
        let z = ltb-false 0 (slot_at w i).status (last_past (λ i. ltb 0 (slot_at w i).status) 0 w.len i l u) in
        ap (λ (s : Slot). s.status) (at_here w i u) ∙ omega arith
    go (inr t) = ap (λ (s : Slot). s.status) (at_past w i (ltb-false _ _ t))

abbrev EndsNull : Replica → ℕ → Window → Type 0
EndsNull r trigger w = (i : ℕ) → (at_place w (place r.sc trigger)).replica.endprep < r.sc.start + i → (at_place w i).status ≡ 0

prepared_ends : (r : Replica) (peer trigger ballot : ℕ) → Whole r.window → Prepares r peer trigger ballot
    → EndsNull r trigger (prepared r peer trigger ballot).replica.window
prepared_ends r peer trigger ballot h f i l =
    let from : ℕ = place r.sc trigger in
    let w : Window = prepare_window r trigger in
    let long = Whole-grown r.window (from + 1) h in
    let most = filled_most null_slot r.window (from + 1) 64 (fit_facts r f.fits).numbers.window (omega (arith, f.high)) in
    let has = filled_has null_slot r.window (from + 1) in
    let top = larger_left from (last_used w) in
    let used = larger_right from (last_used w) in
    let end = ap (λ (s : Slot). s.replica.endprep) (sweep_at asked from (prepare_end r trigger) w from (omega arith) (le_refl from) (omega arith) (omega arith)) in
    sweep_cases asked from (prepare_end r trigger) w (λ (s : Slot). s.status ≡ 0) i (omega arith) (λ x y z. absurd (omega arith))
    (λ out. past_last w i (omega arith))
  where
    asked : ℕ → Slot → Slot
    asked j s = prepared_slot (strict r.sc) ballot (prepare_book r.sc (prepare_window r trigger) (place r.sc trigger) peer) s

pub prepare_ends : (r : Replica) (room peer trigger ballot : ℕ) → Whole r.window → Unvoted r.window
    → promise trigger ballot ∈ (step r room (call_prepare peer trigger ballot)).actions
    → let v = (step r room (call_prepare peer trigger ballot)).replica in
    (i : ℕ) → (at_place v.window (place r.sc trigger)).replica.endprep < r.sc.start + i
    → ((at_place v.window i).status ≡ 0) × ((at_place v.window i).vote.ballot ≡ 0)
prepare_ends r room peer trigger ballot h u m i l =
    let z = prepare_step_ways (λ (o : Outcome). promise trigger ballot ∈ o.actions → EndsNull r trigger o.replica.window) r room peer trigger ballot
    (λ a _ e. absurd (Memᴰ.not-nil e)) (λ f _. prepared_ends r peer trigger ballot h f) m i l in
    (z, (Unvoted-step r room (call_prepare peer trigger ballot) h u).none i z)
