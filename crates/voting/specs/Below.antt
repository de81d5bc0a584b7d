-- 02, Wish 6 / "Paxos Made Simple", 2.2, phase 1 (b): the vote told is not above the ballot asked. Of every replica of either kind that a history
-- reaches from a new one: no slot's vote is above the slot's ballot, and what a leader has Preparing is at the ballot of its lead.
use Rattle.std.specs.Prelude.{◌≡◌, refl, Bool, true, false, ◌||◌, List, [], ◌∷◌, ◌⊎◌, ltb, leb, eqb}
use Rattle.std.proofs.Common.{sym, ap, ◌∙◌, inl, inr, le_refl, arith, ltb-true, ltb-false, leb-true, eqb-true}
use Rattle.std.proofs.Math.Path.{subst}
use Prim.Native.Nat.{ℕ, ◌+◌, ◌≤◌, ◌<◌}
use Rattle.base.specs.Pick.{pick_both, pick_cases, decide, tests}
use Rattle.base.specs.Scan.{scan_high, scan_passed}
use Rattle.batch.specs.declared.Batch.{Batch}
use Rattle.slots.specs.declared.Vote.{Vote}
use Rattle.slots.specs.declared.Slot.{Slot}
use Rattle.slots.specs.Slots.{preparing, committed, executed, no_slot, null_slot, new_book, redone_slot, prepared_slot, entered_slot, marked_slot, passed_slot, executed_slot, logged_slot}
use Rattle.decide.specs.declared.Scalars.{Scalars}
use Rattle.decide.specs.declared.Reply.{Reply}
use Rattle.decide.specs.Scalars.{leads, strict, followed, stepped_up, may_be}
use Rattle.decide.specs.Decide.{decide_offer}
use Rattle.window.specs.declared.Window.{Window}
use Rattle.window.specs.Window.{slot_at, put_slot, sweep, grown, no_slots, first_open}
use Rattle.window.specs.Places.{size, filled_low, filled_most, sweep_each}
use Rattle.window.specs.ByPlace.{at_place, put_cases, sweep_cases, grown_at, at_here, at_past, at_present}
use Rattle.replica.specs.declared.Replica.{Replica}
use Rattle.replica.specs.Seen.{Made}
use Rattle.replica.specs.declared.Done.{Done}
use Rattle.replica.specs.Record.{place, new_replica, fresh, zero_replica}
use Rattle.replica.specs.Messages.{clean_reply, prepare_book}
use Rattle.replica.specs.Durability.{pass_stop, logged_on}
use Rattle.replica.specs.Added.{moved_exec}
use Rattle.replica.specs.Step.{Call, call_prepare, call_prepare_reply, call_accept, call_accept_reply, call_commit_notice, call_timeout, call_logged, call_offer, call_executed, call_open_read, call_read_reply, step}
use Rattle.laws.specs.OfFit.{fit_facts}
use Rattle.laws.specs.WaysMessages.{Prepares, prepare_end, prepare_window, prepared, prepare_step_ways, Accepts, accept_window, accepted, accept_step_ways, accept_reply_step_ways}
use Rattle.laws.specs.WaysReply.{adopts_vote, grown_window, reply_window, reply_slot, heard_window, counted_window, Answers, reply_place}
use Rattle.laws.specs.WaysLeadership.{lead_window, lead_trigger, lead_end, lead_from, led, Leads, timeout_step_ways, mark_window, mark_from, mark_end, marked, Marks, commit_notice_step_ways, Leads-up}
use Rattle.laws.specs.WaysDurability.{logged, pass_from}
use Rattle.laws.specs.WaysAdded.{offer_window, Offers, offered, offer_step_ways, executed_step_ways}
use Rattle.laws.specs.Appended.{appended_cases}
use Rattle.voting.specs.Windows.{Whole, Whole-put, Whole-grown}
use Rattle.voting.specs.History.{Lent, told, play}
use Rattle.voting.specs.Claims.{Claim, Of, open_read_way, read_reply_way}
use Rattle.voting.specs.Replying.{entered_window, ReplyWays, prepare_reply_way}
use Rattle.voting.specs.Logging.{own_answer, LogWays, logged_way}
use Rattle.voting.specs.Reached.{Good, Good-step, follows_none}

-- ── the invariant, beside `Good` ──
pub record Below (sc : Scalars) (w : Window) : Type 0 where
  -- a slot's vote is not above the slot's ballot
  pub votes : (i : ℕ) → (at_place w i).vote.ballot ≤ (at_place w i).ballot
  -- what a leader has Preparing is at the ballot of its lead
  pub mine : leads sc ≡ true → (i : ℕ) → (at_place w i).status ≡ preparing → (at_place w i).ballot ≡ sc.bal_prep_sent

-- of one slot
abbrev Fine : Scalars → Slot → Type 0
Fine sc s = (s.vote.ballot ≤ s.ballot) × (leads sc ≡ true → s.status ≡ preparing → s.ballot ≡ sc.bal_prep_sent)

abbrev AllFine : Scalars → Window → Type 0
AllFine sc w = (i : ℕ) → Fine sc (at_place w i)

abbrev StaysFine : Claim
StaysFine a sc w acts = AllFine sc w

-- ── each change of a slot ──
null_fine : (sc : Scalars) → Fine sc null_slot
null_fine sc = (le_refl 0, λ l z. absurd (omega arith))

module _ (sc : Scalars) (s : Slot) (f : Fine sc s) where
  -- "records the vote as its own" (strict): at the ballot of the lead, which is that of a Preparing slot
  entered_fine : (own : Bool) (ballot : ℕ) → leads sc ≡ true → ballot ≡ sc.bal_prep_sent → Fine sc (entered_slot own ballot s)
  entered_fine own ballot l e =
      pick_cases (Fine sc) (eqb s.status preparing)
      (λ t. (
        pick_both (λ (v : Vote). v.ballot ≤ s.ballot) own (let z = f.1 l (eqb-true s.status preparing t) in omega arith) f.0,
        λ _ z. absurd (omega arith),
      ))
      (λ t. f)

  marked_fine : Fine sc (marked_slot s)
  marked_fine = pick_both (Fine sc) (leb committed s.status) f (f.0, λ _ z. absurd (omega arith))

  passed_fine : Fine sc (passed_slot s)
  passed_fine = pick_both (Fine sc) (eqb s.batch.id 0) (f.0, λ _ z. absurd (omega arith)) f

  executed_fine : Fine sc (executed_slot s)
  executed_fine = pick_both (Fine sc) (eqb s.status committed) (f.0, λ _ z. absurd (omega arith)) f

  logged_fine : (offset : ℕ) → Fine sc (logged_slot offset s)
  logged_fine offset = pick_both (Fine sc) (eqb s.wal_offset 0 || ltb offset s.wal_offset) f f

redone_fine : (sc : Scalars) (s : Slot) (trigger endprep ballot : ℕ) → s.vote.ballot ≤ s.ballot → s.ballot ≤ ballot
    → Fine (stepped_up sc trigger ballot) (redone_slot ballot (new_book trigger endprep) s)
redone_fine sc s trigger endprep ballot v l =
    pick_cases (Fine (stepped_up sc trigger ballot)) (leb executed s.status) (λ t. (v, λ _ z. absurd (omega (arith, tests))))
    (λ t. pick_cases (Fine (stepped_up sc trigger ballot)) (leb committed s.status) (λ u. (v, λ _ z. absurd (omega (arith, tests))))
    (λ u. (omega arith, λ _ _. refl)))

-- ── each change of a window ──
module _ (P : Slot → Type 0) (w : Window) (h : (i : ℕ) → P (at_place w i)) where
  pub put_each : (k : ℕ) (x : Slot) → (P (slot_at w k) → P x) → (i : ℕ) → P (at_place (put_slot w k x) i)
  put_each k x f i = put_cases w k x P i (λ e l. f (subst P (at_here w k (omega arith)) (h k))) (λ out. h i)

  pub grown_each : (n : ℕ) → n ≤ size w → (i : ℕ) → P (at_place (grown w n) i)
  grown_each n l i = subst P (sym (grown_at w n i l)) (h i)

  pub swept_each : P no_slot → (f : ℕ → Slot → Slot) → ((k : ℕ) (s : Slot) → P s → P (f k s)) → (from to i : ℕ) → P (at_place (sweep f from to w) i)
  unfolding at_place
  swept_each none f g from to i =
      pick_cases P (ltb i w.len)
      (λ t. sweep_each f from to w P i (subst P (at_here w i (ltb-true _ _ t)) (h i)) (λ _ _ p. g i _ p) (λ _. none))
      (λ t. subst P (at_past w i (ltb-false _ _ t)) (h i))

-- ── PrepareReply, also a leader's own ──
module _ (r : Replica) (peer : ℕ) (m : Reply) (h : Whole r.window) (k : AllFine r.sc r.window) where
  abbrev Own : Slot → Type 0
  Own s = Fine r.sc s

  appended_fine : Answers r m → AllFine r.sc (grown_window r m)
  appended_fine f i =
      appended_cases Own r (place r.sc m.slot) (place r.sc m.trigger) i (let u = reply_place r m f in omega arith)
      (λ l. (omega arith, λ _ _. refl)) (k i)

  noted_fine : Answers r m → AllFine r.sc (reply_window r peer m)
  noted_fine f = put_each Own (grown_window r m) (appended_fine f) (place r.sc m.slot) _ (λ p. p)

  heard_fine : Answers r m → AllFine r.sc (heard_window r peer m)
  heard_fine f =
      put_each Own (reply_window r peer m) (noted_fine f) (place r.sc m.slot) _ (λ p. pick_both Own (adopts_vote (reply_slot r peer m) m) p p)

  counted_fine : Answers r m → AllFine r.sc (counted_window r peer m)
  counted_fine f = put_each Own (heard_window r peer m) (heard_fine f) (place r.sc m.trigger) _ (λ p. p)

  entering_fine : Answers r m → AllFine r.sc (entered_window r peer m)
  entering_fine f =
      swept_each Own (counted_window r peer m) (counted_fine f) (null_fine r.sc) (λ i s. entered_slot (strict r.sc) m.ballot s)
      (λ i s p. entered_fine r.sc s p (strict r.sc) m.ballot f.leading f.sent) (place r.sc m.trigger) (counted_window r peer m).len

  reply_fine : ReplyWays StaysFine r peer m
  reply_fine = record { passed = λ f t. noted_fine f; heard = λ f t. heard_fine f; counted = λ f t. counted_fine f; entered = λ f t q. entering_fine f }

-- ── each call ──
-- what is before the first slot below Committed is not Preparing
before_open : (w : Window) (i : ℕ) → i < first_open w → (at_place w i).status ≡ preparing → ⊥
unfolding first_open
before_open w i l e =
    let n = scan_high (λ i. leb committed (slot_at w i).status) 0 w.len (omega arith) in
    let c = leb-true committed (slot_at w i).status (scan_passed (λ i. leb committed (slot_at w i).status) 0 w.len i (omega arith) l) in
    omega (arith, ap (λ (s : Slot). s.status) (at_here w i (omega arith)))

module _ (r : Replica) (g : Good r.sc r.window) (k : AllFine r.sc r.window) where
  abbrev Here : Slot → Type 0
  Here s = Fine r.sc s

  wider : (n : ℕ) → n ≤ 64 → AllFine r.sc (grown r.window n)
  wider n l = grown_each Here r.window k n (let w = g.whole in omega arith)

  -- a step-up acts where no slot below Committed is below exec_bar: so each that is Preparing after it is at the new ballot
  step_up_fine : (source b : ℕ) → Leads r source b → AllFine (stepped_up r.sc (lead_trigger r) b) (led r b).replica.window
  step_up_fine source b f i =
      let n : ℕ = first_open r.window + 1 in
      let up = Leads-up r source b f in
      let same = grown_at r.window n i (let w = g.whole in omega (arith, f.room)) in
      let high = filled_most null_slot r.window n 64 (fit_facts r f.fits).numbers.window (omega (arith, f.room)) in
      let at = wider n (omega (arith, f.room)) i in
      sweep_cases (λ i s. redone_slot b (new_book (lead_trigger r) (lead_end r)) s) (lead_from r) (lead_window r).len (lead_window r)
      (Fine (stepped_up r.sc (lead_trigger r) b)) i (omega (arith, Whole-grown r.window n g.whole))
      (λ x y z. redone_fine r.sc (at_place (lead_window r) i) (lead_trigger r) (lead_end r) b at.0
      (omega (arith, g.slots i, ap (λ (s : Slot). s.ballot) same)))
      (λ out. (at.0, λ _ e. absurd (left out (ap (λ (s : Slot). s.status) (sym same) ∙ e) (decide (ltb i (lead_from r))))))
    where
      left : (lead_from r ≤ i → i < (lead_window r).len → i < (lead_window r).len → ⊥) → (at_place r.window i).status ≡ preparing
          → (ltb i (lead_from r) ≡ true) ⊎ (ltb i (lead_from r) ≡ false) → ⊥
      left out e (inl t) = before_open r.window i (omega (arith, tests, f.open_high)) e
      left out e (inr t) =
          let here = at_present r.window i (omega arith) in
          let long = filled_low null_slot r.window (first_open r.window + 1) in
          out (ltb-false _ _ t) (omega arith) (omega arith)

  abbrev Under : ℕ → Slot → Type 0
  Under ballot s = (s.vote.ballot ≤ s.ballot) × (s.ballot ≤ ballot)

  -- who takes a Prepare or an Accept leads no more
  prepare_fine : (peer trigger ballot : ℕ) → Prepares r peer trigger ballot
      → AllFine (followed r.sc peer ballot) (prepared r peer trigger ballot).replica.window
  prepare_fine peer trigger ballot f i = (
    (swept_each (Under ballot) (prepare_window r trigger)
        (grown_each (Under ballot) r.window (λ j. ((k j).0, omega (arith, g.slots j, f.seen))) (place r.sc trigger + 1)
        (let w = g.whole in omega (arith, f.high)))
        (le_refl 0, omega arith) (λ j s. prepared_slot (strict r.sc) ballot (prepare_book r.sc (prepare_window r trigger) (place r.sc trigger) peer) s)
        (λ j s p. (omega (arith, p.0, p.1), le_refl ballot)) (place r.sc trigger) (prepare_end r trigger) i).0,
    λ l _. absurd (follows_none r peer ballot g f.peer_is f.owned f.seen l),
  )

  accept_fine : (peer slot ballot : ℕ) (b : Batch) → Accepts r peer slot ballot b
      → AllFine (followed r.sc peer ballot) (accepted r peer slot ballot b).replica.window
  accept_fine peer slot ballot b f i = (
    put_each (λ s. s.vote.ballot ≤ s.ballot) (accept_window r slot) (λ j. (wider (place r.sc slot + 1) (omega (arith, f.high)) j).0)
        (place r.sc slot) _ (λ p. le_refl ballot) i,
    λ l _. absurd (follows_none r peer ballot g f.peer_is f.owned f.seen l),
  )

  notice_fine : (peer ballot bar : ℕ) → Marks r peer ballot bar → AllFine r.sc (marked r ballot bar).replica.window
  notice_fine peer ballot bar f =
      swept_each Here (mark_window r bar) (wider (place r.sc bar) (omega (arith, f.high))) (null_fine r.sc) (λ i s. marked_slot s)
      (λ i s p. marked_fine r.sc s p) (mark_from r) (mark_end r ballot bar)

  offer_fine : (b : Batch) → Offers r b → AllFine r.sc (offered r b).replica.window
  unfolding decide_offer
  offer_fine b f =
      put_each Here (offer_window r) (wider (r.window.len + 1) (omega (arith, f.room))) r.window.len _
      (λ p. (pick_both (λ (v : Vote). v.ballot ≤ r.sc.bal_prepared) (strict r.sc) (le_refl _) (omega arith), λ _ z. absurd (omega arith)))

  log_fine : (d : Done) → LogWays StaysFine r d
  unfolding Of logged_on
  log_fine d =
      let i : ℕ = place r.sc d.slot in
      let after : AllFine r.sc (logged r d).window =
      put_each Here r.window k i _ (λ p. logged_fine r.sc (slot_at r.window i) p r.sc.wal_offset) in
      record {
        only = λ u. after;
        own = λ e o. reply_fine (logged r d) r.sc.id (own_answer r d) (Whole-put r.window i _ g.whole) after;
        promised = λ e _ n. after;
        acked = λ e _. put_each Here (logged r d).window after i _ (λ p. p);
        commits = λ e _ a q. put_each Here (logged r d).window after i _ (λ p. (p.0, λ _ z. absurd (omega arith)));
        answered = λ e _ n. after;
        passes = λ e.
            swept_each Here (logged r d).window after (null_fine r.sc) (λ i s. passed_slot s) (λ i s p. passed_fine r.sc s p)
            (pass_from (logged r d)) (pass_stop (logged r d));
      }

  step_fine : (room : ℕ) (c : Call) → Of StaysFine (step r room c)
  unfolding Of moved_exec decide_offer
  step_fine room c = go c
    where
      go : (c : Call) → Of StaysFine (step r room c)
      go (call_prepare peer trigger ballot) = prepare_step_ways (Of StaysFine) r room peer trigger ballot (λ a l. k) (λ f. prepare_fine peer trigger ballot f)
      go (call_prepare_reply peer m) = prepare_reply_way StaysFine r room peer m (λ a l u. k) (λ f. reply_fine r peer (clean_reply m) g.whole k)
      go (call_accept peer slot ballot b) = accept_step_ways (Of StaysFine) r room peer slot ballot b (λ a l. k) (λ f. accept_fine peer slot ballot b f)
      go (call_accept_reply peer slot ballot) =
          accept_reply_step_ways (Of StaysFine) r room peer slot ballot (λ a l. k) (λ f q. put_each Here r.window k (place r.sc slot) _ (λ p. p))
          (λ f q. put_each Here r.window k (place r.sc slot) _ (λ p. (p.0, λ _ z. absurd (omega arith))))
      go (call_commit_notice peer ballot bar) = commit_notice_step_ways (Of StaysFine) r room peer ballot bar (λ a l. k) (λ f. notice_fine peer ballot bar f)
      go (call_timeout source) = timeout_step_ways (Of StaysFine) r room source (λ a l. k) (λ b f. step_up_fine source b f)
      go (call_logged d) = logged_way StaysFine r d room (λ a l u. k) (λ f. log_fine d)
      go (call_offer b) = offer_step_ways (Of StaysFine) r room b (λ a l. k) (λ f. offer_fine b f)
      go (call_executed slot) =
          executed_step_ways (Of StaysFine) r room slot (λ a l. k)
          (λ f. put_each Here r.window k (place r.sc slot) _ (λ p. executed_fine r.sc (slot_at r.window (place r.sc slot)) p))
      go (call_open_read id count keys) = open_read_way StaysFine r room (λ a acts. k) id count keys
      go (call_read_reply peer id from_leader reply) = read_reply_way StaysFine r room (λ a acts. k) peer id from_leader reply

-- ── on every replica reached from a new one ──
pub Below-step : (r : Replica) (room : ℕ) (c : Call) → Good r.sc r.window → Below r.sc r.window
    → Below (step r room c).replica.sc (step r room c).replica.window
unfolding Of
Below-step r room c g b =
    let s = step_fine r g (λ i. (b.votes i, λ l. b.mine l i)) room c in
    record { votes = λ i. (s i).0; mine = λ l i. (s i).1 l }

pub Below-play : (r : Replica) (h : List Lent) → Good r.sc r.window → Below r.sc r.window → Below (play r h).sc (play r h).window
Below-play r [] g b = b
Below-play r (c ∷ h) g b = Below-play (told r c).replica h (Good-step r c g) (Below-step r c.room c.call g b)

none_below : (sc : Scalars) → Below sc no_slots
none_below sc =
    let n : AllFine sc no_slots = λ i. subst (Fine sc) (sym (at_past no_slots i (omega arith))) (null_fine sc) in
    record { votes = λ i. (n i).0; mine = λ l i. (n i).1 l }

pub Below-new : (id group start options : ℕ) → (new_replica id group start options).answer ≡ 0
    → Below (new_replica id group start options).replica.sc (new_replica id group start options).replica.window
unfolding new_replica
Below-new id group start options =
    pick_cases (λ (x : Made). x.answer ≡ 0 → Below x.replica.sc x.replica.window) (may_be id group start options)
    {a = record { answer = 0; replica = fresh id group start options }}
    {b = record { answer = 10; replica = zero_replica }}
    (λ t e. none_below _) (λ t e. absurd (omega arith))
