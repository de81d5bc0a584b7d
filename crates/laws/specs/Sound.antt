-- What holds of every outcome: which answers there are, that all but 0 give no actions and all but 0 and 12 change nothing, that there are
-- no more than 191 actions, and what never changes.
use Rattle.std.specs.Prelude.{◌≡◌, Bool, true, false, ◌||◌, ◌&&◌, ◌⊎◌, List, [], ◌∷◌, ℕ, ◌+◌, ◌≤◌, ltb, leb, eqb, length}
use Rattle.std.proofs.Math.Path.{refl}
use Rattle.std.proofs.Common.{sym, ap, subst, ◌∙◌, inl, inr, le_refl, arith, ne_eqb}
use Rattle.base.specs.Pick.{pick, clash, and_left, and_right, and_both, and_make, or_cases}
use Rattle.base.specs.Gather.{length-gather}
use Rattle.batch.specs.declared.Batch.{Batch}
use Rattle.tally.specs.declared.Tally.{Tally}
use Rattle.tally.specs.declared.Read.{Read}
use Rattle.tally.specs.Open.{smaller, with_tally, with_ack}
use Rattle.actions.specs.declared.Action.TheVariants.{StatusUp, Heartbeat}
use Rattle.actions.specs.Actions.{Act, bare}
use Rattle.slots.specs.Slots.{prepared_slot, new_book, redone_slot, marked_slot, passed_slot, null_slot}
use Rattle.decide.specs.declared.Reply.{Reply}
use Rattle.decide.specs.Decide.{decide_offer}
use Rattle.decide.specs.Scalars.{strict}
use Rattle.window.specs.declared.Window.{Window}
use Rattle.window.specs.Window.{slot_at, first_open}
use Rattle.window.specs.Acts.{mark_acts}
use Rattle.window.specs.Summary.{walk}
use Rattle.window.specs.Places.{size, put_long, filled_long, sweep_long}
use Rattle.replica.specs.declared.Replica.{Replica}
use Rattle.replica.specs.declared.Done.{Done}
use Rattle.replica.specs.Record.{Outcome, kept, summed, place, number}
use Rattle.replica.specs.Messages.{prepare_book, prepare_step, or_kept, clean_reply, prepare_reply_step, accept_step, accept_reply_step}
use Rattle.replica.specs.Leadership.{timeout_step, commit_notice_step}
use Rattle.replica.specs.Durability.{moved_accept, pass_stop, logged_step}
use Rattle.replica.specs.Quorumread.{answer_act, open_read_step, read_reply_step}
use Rattle.replica.specs.Added.{moved_exec, offer_step, executed_step}
use Rattle.replica.specs.ActingLaws.{with_summary}
use Rattle.laws.specs.OfScalars.{Fixed, Fixed-same, Fixed-then, followed-Fixed}
use Rattle.laws.specs.OfFit.{FitNumbers, fit_facts}
use Rattle.laws.specs.Conflict.{TallyOnly, conflict_only}
use Rattle.laws.specs.Leaves.{done, or_kept_ways}
use Rattle.laws.specs.WaysMessages.{keeping, keeping_low, Keeps, prepare_window, prepare_end, prepare_step_ways, accept_window, other_named, accept_decided, accept_step_ways, accept_reply_step_ways}
use Rattle.laws.specs.WaysReply.{prepare_reply_step_ways}
use Rattle.laws.specs.WaysLeadership.{lead_window, lead_from, lead_trigger, lead_end, mark_end, timeout_step_ways, mark_from, mark_window, commit_notice_step_ways}
use Rattle.laws.specs.WaysDurability.{Logs, logged, with_slot, pass_from, logged_step_ways}
use Rattle.laws.specs.WaysAdded.{offer_window, offer_step_ways, executed_step_ways, open_read_step_ways, read_at, read_place, merged_read, closed, stayed, read_reply_step_ways}
use Rattle.laws.specs.Counts.{says_few, smaller_left, prepared_few, reply_on_leaves, led_few, mark_few, mark_end_fits, moved_fixed, moved_window, Completes-leaves, passed_few, logged-Fixed, logged_long, logged_numbers, read_few}

-- the answers of every call but 12: those with which a replica is kept, and 15 in the strict kind
abbrev pub answering : Replica → ℕ → Bool
answering r a = keeping r a || (eqb a 15 && strict r.sc)

pub record Sound (C : Outcome → Type 0) (r : Replica) (o : Outcome) : Type 0 where
  pub answers : (answering r o.answer || eqb o.answer 12) ≡ true
  pub silent : (o.answer ≡ 0 → ⊥) → o.actions ≡ []
  pub same : (o.answer ≡ 0 → ⊥) → (o.answer ≡ 12 → ⊥) → o.replica ≡ r
  pub conflict : o.answer ≡ 12 → C o
  pub few : length o.actions ≤ 191
  pub fixed : Fixed r.sc o.replica.sc
  pub long : size o.replica.window ≡ size r.window

module _ (C : Outcome → Type 0) where
  Sound-answer : (r : Replica) (a : ℕ) → answering r a ≡ true → Sound C r (kept a r)
  Sound-answer r a h =
      record { answers = rw h; silent = λ n. refl; same = λ n m. refl; conflict = λ e. absurd (clash h (ap (answering r) e)); few = omega arith; fixed = Fixed-same r.sc; long = refl }

  Sound-kept : (r : Replica) → Keeps (Sound C r) r
  Sound-kept r a h = Sound-answer r a (rw h)

  -- what is left to show of a call that acts
  module _ (r after : Replica) (acts : List Act) where
    Sound-done : length acts ≤ 191 → Fixed r.sc after.sc → size after.window ≡ size r.window → Sound C r (done after acts)
    Sound-done f s l =
        record { answers = refl; silent = λ n. absurd (n refl); same = λ n m. absurd (n refl); conflict = λ e. absurd (omega arith); few = f; fixed = s; long = l }

  pub prepare_sound : (r : Replica) (n peer trigger ballot : ℕ) → Sound C r (prepare_step r n peer trigger ballot)
  prepare_sound r n peer trigger ballot =
      prepare_step_ways (Sound C r) r n peer trigger ballot (Sound-kept r)
      (λ f. Sound-done r _ _ (prepared_few r peer trigger ballot f) (followed-Fixed r.sc peer ballot)
      (sweep_long (λ i s. prepared_slot (strict r.sc) ballot (prepare_book r.sc (prepare_window r trigger) (place r.sc trigger) peer) s) (place r.sc trigger) (prepare_end r trigger) (prepare_window r trigger)
      ∙ filled_long null_slot r.window (place r.sc trigger + 1)))

  -- ── Accept, AcceptReply ──
  pub accept_sound : (r : Replica) (n peer slot ballot : ℕ) (b : Batch) → Sound C r (accept_step r n peer slot ballot b)
  accept_sound r n peer slot ballot b =
      accept_step_ways (Sound C r) r n peer slot ballot b (λ a h. Sound-answer r a (fifteen a h))
      (λ f. Sound-done r _ _ (omega (arith, says_few (accept_decided r peer slot ballot b).says (accept_decided r peer slot ballot b).keys)) (followed-Fixed r.sc peer ballot)
      (put_long (accept_window r slot) (place r.sc slot) _ ∙ filled_long null_slot r.window (place r.sc slot + 1)))
    where
      -- 15 is the strict kind's
      fifteen : (a : ℕ) → (keeping r a || (eqb a 15 && other_named r slot ballot b)) ≡ true → answering r a ≡ true
      fifteen a h = go (or_cases (keeping r a) _ h)
        where
          either : (x : Bool) {y : Bool} → y ≡ true → (x || y) ≡ true
          either true e = refl
          either false e = e

          go : (keeping r a ≡ true) ⊎ ((eqb a 15 && other_named r slot ballot b) ≡ true) → answering r a ≡ true
          go (inl e) = rw e
          go (inr e) =
              let (x, y) = and_both (eqb a 15) (other_named r slot ballot b) e in
              let z = and_right (ltb slot (r.sc.start + 64)) _ (and_right (leb r.sc.bal_max_seen ballot) _ (and_right (leb r.sc.start slot) _ y)) in
              either (keeping r a) (and_make x (and_left (strict r.sc) _ z))

  pub accept_reply_sound : (r : Replica) (n peer slot ballot : ℕ) → Sound C r (accept_reply_step r n peer slot ballot)
  accept_reply_sound r n peer slot ballot =
      accept_reply_step_ways (Sound C r) r n peer slot ballot (Sound-kept r)
      (λ f q. Sound-done r _ _ (omega arith) (Fixed-same r.sc) (put_long r.window (place r.sc slot) _))
      (λ f q. Sound-done r _ _ (omega arith) (Fixed-same r.sc) (put_long r.window (place r.sc slot) _))

  pub prepare_reply_sound : (r : Replica) (n peer : ℕ) (m : Reply) → Sound C r (prepare_reply_step r n peer m)
  prepare_reply_sound r n peer m =
      prepare_reply_step_ways (Sound C r) r n peer m (λ a h z. Sound-kept r a h)
      (λ f. reply_on_leaves (Sound C r) r peer (clean_reply m) (fit_facts r f.fits).numbers.window (λ a h. Sound-kept r a (keeping_low r a h)) (λ after acts. Sound-done r after acts))

  pub timeout_sound : (r : Replica) (n source : ℕ) → Sound C r (timeout_step r n source)
  timeout_sound r n source =
      timeout_step_ways (Sound C r) r n source (Sound-kept r)
      (λ ballot f. Sound-done r _ _ (led_few r source ballot (bare StatusUp) (bare Heartbeat) _ f) (record { id = refl; group = refl; start = refl; options = refl })
      (sweep_long (λ i s. redone_slot ballot (new_book (lead_trigger r) (lead_end r)) s) (lead_from r) (lead_window r).len (lead_window r) ∙ filled_long null_slot r.window (first_open r.window + 1)))

  pub commit_notice_sound : (r : Replica) (n peer ballot bar : ℕ) → Sound C r (commit_notice_step r n peer ballot bar)
  commit_notice_sound r n peer ballot bar =
      commit_notice_step_ways (Sound C r) r n peer ballot bar (Sound-kept r)
      (λ f. Sound-done r _ _
      (omega (
        arith,
        mark_end_fits r ballot bar f.above f.high,
        length-gather (λ i. mark_acts (number r.sc i) (slot_at (mark_window r bar) i)) (λ i. mark_few (number r.sc i) (slot_at (mark_window r bar) i)) (mark_from r) (mark_end r ballot bar),
      ))
      (Fixed-same r.sc)
      (sweep_long (λ i s. marked_slot s) (mark_from r) (mark_end r ballot bar) (mark_window r bar) ∙ filled_long null_slot r.window (place r.sc bar)))

  pub logged_sound : (r : Replica) (n : ℕ) (d : Done) → Sound C r (logged_step r n d)
  logged_sound r n d =
      let r' : Replica = logged r d in
      let numbers : Logs r d → FitNumbers r'.sc r'.window.len = λ f. logged_numbers r d (fit_facts r f.fits).numbers in
      let acts : (after : Replica) (acts : List Act) → length acts ≤ 191 → Fixed r'.sc after.sc → size after.window ≡ size r'.window → Sound C r (done after acts) =
      λ after acts few fixed long. Sound-done r after acts few (Fixed-then _ _ _ (logged-Fixed r d) fixed) (long ∙ logged_long r d) in
      let idle : Sound C r (done r' []) = acts r' [] (omega arith) (Fixed-same r'.sc) refl in
      logged_step_ways (Sound C r) r n d (λ a h z. Sound-kept r a h) (λ f z. idle)
      (λ f e o. reply_on_leaves (λ (o : Outcome). Sound C r (or_kept r o)) r' r'.sc.id _ (numbers f).window
      (λ a h. or_kept_ways (Sound C r) r a r' (λ z. idle) (λ z. Sound-kept r a (keeping_low r a h))) acts)
      (λ f e h l p. acts r' _ (omega arith) (Fixed-same r'.sc) refl)
      (λ f e after says c.
      Completes-leaves (λ (x : Replica) (y : List Act). Sound C r (done (moved_accept x d.slot) y)) r' (place r.sc d.slot) d.slot d.ballot after says c
      (λ s y few. acts _ y (omega arith) (Fixed-then _ _ _ (Fixed-same r'.sc) (moved_fixed (with_slot r' (place r.sc d.slot) s) d.slot))
      (subst (λ (w : Window). size w ≡ size r'.window) (sym (moved_window (with_slot r' (place r.sc d.slot) s) d.slot)) (put_long r'.window (place r.sc d.slot) s))))
      (λ f e at. acts _ _ (passed_few r' (numbers f)) (record { id = refl; group = refl; start = refl; options = refl })
      (sweep_long (λ i s. passed_slot s) (pass_from r') (pass_stop r') r'.window))

  -- ── the added calls ──
  pub offer_sound : (r : Replica) (n : ℕ) (b : Batch) → Sound C r (offer_step r n b)
  unfolding decide_offer
  offer_sound r n b =
      offer_step_ways (Sound C r) r n b (Sound-kept r)
      (λ f. Sound-done r _ _ (omega arith) (Fixed-same r.sc) (put_long (offer_window r) r.window.len _ ∙ filled_long null_slot r.window (r.window.len + 1)))

  pub executed_sound : (r : Replica) (n slot : ℕ) → Sound C r (executed_step r n slot)
  unfolding moved_exec
  executed_sound r n slot =
      executed_step_ways (Sound C r) r n slot (Sound-kept r)
      (λ f. Sound-done r _ _ (omega arith) (record { id = refl; group = refl; start = refl; options = refl }) (put_long r.window (place r.sc slot) _))

  -- ── reads ──
  pub open_read_sound : (r : Replica) (n id count : ℕ) (keys : List ℕ) → Sound C r (open_read_step r n id count keys)
  open_read_sound r n id count keys =
      open_read_step_ways (Sound C r) r n id count keys (Sound-kept r) (λ f. Sound-done r _ _ (omega arith) (Fixed-same r.sc) refl)

  Sound-closed : (r : Replica) (i : ℕ) (d : Read) (k : ℕ) → k ≤ 8 → Sound C r (closed r i d k)
  Sound-closed r i d k h =
      Sound-done r _ _ (omega (arith, length-gather (λ i. answer_act r.sc.leader d i ∷ []) (λ i. le_refl 1) 0 k)) (Fixed-same r.sc) refl

  Sound-stayed : (r : Replica) (i : ℕ) (d : Read) → Sound C r (stayed 0 r i d)
  Sound-stayed r i d = Sound-done r _ _ (omega arith) (Fixed-same r.sc) refl

pub read_reply_sound : (r : Replica) (n peer id : ℕ) (from_leader : Bool) (reply : Tally)
    → Sound (λ (o : Outcome). TallyOnly r id o.replica) r (read_reply_step r n peer id from_leader reply)
read_reply_sound r n peer id from_leader reply =
    let C : Outcome → Type 0 = λ o. TallyOnly r id o.replica in
    let i : ℕ = read_place r id in
    let d : Read = read_at r (read_place r id) in
    read_reply_step_ways (Sound C r) r n peer id from_leader reply (Sound-kept C r)
    (λ f. Sound-closed C r i (with_tally d reply) (smaller d.tally.count reply.count)
    (omega (arith, read_few r peer id reply f, smaller_left d.tally.count reply.count)))
    (λ f k. Sound-closed C r i (with_ack (merged_read d reply k) peer) d.tally.count (read_few r peer id reply f)) (λ f. Sound-stayed C r i d)
    (λ f k. Sound-stayed C r i (with_ack (merged_read d reply k) peer))
    (λ f k.
    record {
      answers = refl;
      silent = λ n. refl;
      same = λ n m. absurd (m refl);
      conflict = λ e. conflict_only r id reply k;
      few = omega arith;
      fixed = Fixed-same r.sc;
      long = refl;
    })

-- the summary changes in a call that is answered 0 alone
pub summed_same : (o : Outcome) → (o.answer ≡ 0 → ⊥) → summed o ≡ o
summed_same o n =
    let q : pick (eqb o.answer 0) (walk o.replica.sc o.replica.window) o.replica.summary ≡ o.replica.summary = rw (ne_eqb o.answer 0 n) in
    λ k. record { answer = o.answer; replica = with_summary o.replica (q k); actions = o.actions }

pub Sound-summed : (C : Outcome → Type 0) (r : Replica) (o : Outcome) → Sound C r o → Sound C r (summed o)
Sound-summed C r o s =
    record {
      answers = s.answers;
      silent = s.silent;
      same = λ n m. ap (λ (x : Outcome). x.replica) (summed_same o n) ∙ s.same n m;
      conflict = λ e. subst C (sym (summed_same o (λ z. omega arith))) (s.conflict e);
      few = s.few;
      fixed = s.fixed;
      long = s.long;
    }
