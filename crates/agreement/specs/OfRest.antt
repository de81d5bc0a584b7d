-- Log completions, offer, executed and the calls on reads keep to the frame.
use Rattle.std.specs.Prelude.{◌≡◌, Bool, true, not, ◌&&◌, ◌||◌, List, [], ◌∷◌, ℕ, ◌+◌, ◌≤◌, ◌<◌, ltb, eqb}
use Rattle.std.proofs.Math.Path.{refl}
use Rattle.std.proofs.Common.{sym, ◌∙◌, ap, subst, arith}
use mathlib.Core.List.Memᴰ
use Rattle.std.proofs.Math.Dec.{leb}
use borrow.Author.Tests.{leb-true, eqb-true}
use Rattle.base.specs.Pick.{pick_both, pick_cases, tests, and_both, and_right}
use Rattle.base.specs.Gather.{gather, All-gather}
use Rattle.base.specs.Scan.{scan_passed}
use Rattle.base.specs.Among.{All, All-append}
use Rattle.batch.specs.declared.Batch.{Batch}
use Rattle.batch.specs.Batches.{make_batch}
use Rattle.tally.specs.declared.Tally.{Tally}
use Rattle.tally.specs.declared.Read.{Read}
use Rattle.tally.specs.Open.{with_tally, with_ack, smaller}
use Rattle.actions.specs.declared.Action.TheVariants.{Accept}
use Rattle.actions.specs.Actions.{Act, act}
use Rattle.slots.specs.declared.Vote.{Vote}
use Rattle.slots.specs.declared.Slot.{Slot}
use Rattle.slots.specs.Slots.{no_vote, committed, logged_slot, passed_slot, executed_slot, offered_slot, null_slot}
use Rattle.decide.specs.declared.Scalars.{Scalars}
use Rattle.decide.specs.Scalars.{leads, strict, urgent, with_log_size}
use Rattle.decide.specs.Decide.{proposal, sent_vote, decide_offer}
use Rattle.decide.specs.PrepareReply.{own_reply}
use Rattle.window.specs.declared.Window.{Window}
use Rattle.window.specs.Window.{slot_at, put_slot}
use Rattle.window.specs.Acts.{pass_acts}
use Rattle.window.specs.Places.{put_long, filled_has, sweep_long}
use Rattle.window.specs.ByPlace.{at_place, at_here, at_past, put_cases, put_at, sweep_cases}
use Rattle.replica.specs.declared.Replica.{Replica}
use Rattle.replica.specs.declared.Done.{Done}
use Rattle.replica.specs.Record.{Outcome, place, number, log_end}
use Rattle.replica.specs.Messages.{clean, reply_on}
use Rattle.replica.specs.Durability.{moved_accept, pass_stop, logged_on, logged_step}
use Rattle.replica.specs.Quorumread.{open_read_step, answer_act, read_reply_step}
use Rattle.replica.specs.Added.{offer_step, moved_exec, executed_step}
use Rattle.replica.specs.Step.{Call}
use Rattle.laws.specs.WaysDurability.{logged, logged_at, Logs, Completes, completes_silent, completes_more, completes_commit, completes_report, moved_ways, pass_from, passed, logged_step_ways}
use Rattle.laws.specs.WaysAdded.{offer_window, offer_step_ways, executed_window, after_executed, executed_step_ways, open_read_step_ways, read_place, read_at, merged_read, closed, read_reply_step_ways}
use Rattle.agreement.specs.Theorem.{accept_entry}
use Rattle.agreement.specs.Frame.{Cell, cell, View, view, Owns, Clean, Holds, led, ActOk, kept, wrote, Frame}
use Rattle.agreement.specs.Good.{GoodSlot, Good, StepOk, Ok, GoodReplica, Same, Same-self, Heads-Same, good_same, Turned, Like, Like-self, good_like, Turned-self, Each, assemble, at_number, view-Like, Grew, grew, Good-Grew, Grew-ok, kept_ok}
use Rattle.agreement.specs.OfMessages.{clean-clean, Plain, acked_ok, marked_ok}
use Rattle.agreement.specs.OfReply.{Good-all, reply_on-Ok}

-- ── nothing that counts changes ──
pub idle_ok : (sc : Scalars) (w : Window) (c : Call) (n : ℕ) (acts : List Act) → Good sc w → Plain acts → ((n ≡ 0 → ⊥) → acts ≡ []) → StepOk (view sc w) c n sc w acts
idle_ok sc w c n acts g plain quiet =
    assemble sc w c n sc w acts g (Heads-Same g (Same-self sc)) g.wide g.short (λ i. Turned-self (at_place w i) (g.each i))
    (plain (view sc w) c (view sc w) acts) quiet

-- other numbers after the call, with the same leader and ballots
after_same : (v : View) (c : Call) (n : ℕ) (sc sc' : Scalars) (w : Window) (acts : List Act) → Same sc sc' → StepOk v c n sc w acts → StepOk v c n sc' w acts
after_same v c n sc sc' w acts q k =
    record { good = Good-all q k.good; frame = subst (λ (v' : View). Frame v c n v' acts) (sym (view-Like sc sc' w w q (λ i. Like-self (at_place w i)))) k.frame }

-- a slot at or above Committed stays so, with its ballot and batch
pub record Risen (x y : Slot) : Type 0 where
  pub was : 3 ≤ x.status
  pub is : 3 ≤ y.status
  pub ballot : y.ballot ≡ x.ballot
  pub batch : y.batch ≡ x.batch
  pub vote : y.vote ≡ x.vote

Turned-Risen : {v v' : View} {sc : Scalars} {acts : List Act} {s : ℕ} (x y : Slot) → GoodSlot sc x → Risen x y → Turned v sc v' acts s x y
Turned-Risen {v} {v'} {sc} x y k z =
    record {
      good = record {
        under = omega (arith, k.under, z.ballot);
        busy = λ _ _ a. absurd (omega (arith, z.is));
        tidy = subst Clean (sym z.batch) k.tidy;
        tidy_vote = subst (λ (u : Vote). Clean u.batch) (sym z.vote) k.tidy_vote;
      };
      step = kept (omega (arith, z.was)) (λ a. absurd (omega (arith, z.is))) (record { on = omega (arith, z.is); at = z.ballot; val = z.batch });
      rise = λ a _. absurd (omega (arith, z.was));
    }

-- ── log completions ──
module _ (r : Replica) (c : Call) (g : GoodReplica r) where
  passed_risen : (i : ℕ) → pass_from r ≤ i → i < pass_stop r → Risen (slot_at r.window i) (passed_slot (slot_at r.window i))
  unfolding pass_stop
  passed_risen i a b =
      let z : 3 ≤ (slot_at r.window i).status = leb-true 3 (slot_at r.window i).status
      (scan_passed (λ i. leb committed (slot_at r.window i).status) (pass_from r) (place r.sc r.sc.accept_bar) i a b) in
      pick_both (Risen (slot_at r.window i)) (eqb (slot_at r.window i).batch.id 0)
      (record { was = z; is = omega arith; ballot = refl; batch = refl; vote = refl })
      (record { was = z; is = z; ballot = refl; batch = refl; vote = refl })

  passed-Ok : Ok r c (passed r)
  passed-Ok =
      let sc' : Scalars = (passed r).replica.sc in
      let w' : Window = (passed r).replica.window in
      let q : Same r.sc sc' = record { id = refl; start = refl; leader = refl; sent = refl; seen = refl } in
      let acts : List Act = (passed r).actions in
      let plain : Act → Type 0 = ActOk (view r.sc r.window) c (view sc' w') acts in
      assemble r.sc r.window c 0 sc' w' acts g (Heads-Same g q) (sweep_long (λ i s. passed_slot s) (pass_from r) (pass_stop r) r.window ∙ g.wide) g.short
      (λ i.
      sweep_cases (λ i s. passed_slot s) (pass_from r) (pass_stop r) r.window (Turned (view r.sc r.window) sc' (view sc' w') acts (r.sc.start + i) (at_place r.window i)) i
      (omega (arith, g.wide, g.short))
      (λ a b l.
      Turned-Risen (at_place r.window i) (passed_slot (at_place r.window i)) (good_same q (g.each i))
      (subst (λ (x : Slot). Risen x (passed_slot x)) (sym (at_here r.window i l)) (passed_risen i a b)))
      (λ _. Turned-self (at_place r.window i) (good_same q (g.each i))))
      (All-append plain (gather (λ i. pass_acts (number r.sc i) (slot_at r.window i)) (pass_from r) (pass_stop r)) _
      (All-gather (λ i. pass_acts (number r.sc i) (slot_at r.window i)) plain (pass_from r) (pass_stop r)
      (λ i _ _. pick_both (All plain) (eqb (slot_at r.window i).batch.id 0 || not (eqb (slot_at r.window i).status committed)) tt ((tt, tt), tt)))
      (pick_both (All plain) (eqb (pass_from r) (pass_stop r)) tt
      (pick_both (All plain)
      (eqb (number r.sc (pass_stop r)) (log_end r) && (leads r.sc &&
      (ltb 0 r.sc.bal_prepared && (eqb r.sc.bal_prepared r.sc.bal_max_seen && urgent r.sc)))) ((tt, tt), tt) tt)))
      (λ z. absurd (z refl))

  -- an AcceptData entry, before accept_bar moves
  completed_ok : (i slot ballot : ℕ) → slot ≡ r.sc.start + i → i < r.window.len → (after : Replica) (acts : List Act) → Completes r i slot ballot after acts
      → StepOk (view r.sc r.window) c 0 after.sc after.window acts
  completed_ok i slot ballot at h _ _ completes_silent = idle_ok r.sc r.window c 0 [] g (λ _ _ _ _. tt) (λ _. refl)
  completed_ok i slot ballot at h _ _ (completes_more k b a q) = acked_ok r.sc r.window c g slot i at h r.sc.id
  completed_ok i slot ballot at h _ _ (completes_commit k b a q) = marked_ok r.sc r.window c g slot i at h r.sc.id a.status a.leading
  completed_ok i slot ballot at h _ _ (completes_report k n p) = idle_ok r.sc r.window c 0 _ g (λ _ _ _ _. ((tt, tt), tt)) (λ z. absurd (z refl))

-- accept_bar moves
moved_ok : (v : View) (c : Call) (r : Replica) (slot : ℕ) (acts : List Act) → StepOk v c 0 r.sc r.window acts
    → StepOk v c 0 (moved_accept r slot).sc (moved_accept r slot).window acts
moved_ok v c r slot acts k =
    moved_ways (λ (x : Replica). StepOk v c 0 x.sc x.window acts) r slot k
    (λ bar. after_same v c 0 r.sc _ r.window acts (record { id = refl; start = refl; leader = refl; sent = refl; seen = refl }) k)

-- the replica with the size of its log
module _ (r : Replica) (g : GoodReplica r) (d : Done) (f : Logs r d) where
  abbrev i : ℕ
  i = place r.sc d.slot

  abbrev offset : Slot
  offset = logged_slot r.sc.wal_offset (slot_at r.window i)

  logged_like : (n : ℕ) → Like (at_place r.window n) (at_place (put_slot r.window i offset) n)
  logged_like n =
      put_cases r.window i offset (Like (at_place r.window n)) n
      (λ e l.
      subst (λ (x : Slot). Like x offset) (sym (ap (at_place r.window) e ∙ at_here r.window i (omega arith)))
      (pick_both (Like (slot_at r.window i)) (eqb (slot_at r.window i).wal_offset 0 || ltb r.sc.wal_offset (slot_at r.window i).wal_offset)
      (record { status = refl; ballot = refl; batch = refl; vote = refl }) (Like-self (slot_at r.window i))))
      (λ _. Like-self (at_place r.window n))

  logged_good : GoodReplica (logged r d)
  unfolding logged_on
  logged_good =
      record {
        small = g.small;
        sent = g.sent;
        own = g.own;
        wide = put_long r.window i offset ∙ g.wide;
        short = g.short;
        each = λ n. good_same (record { id = refl; start = refl; leader = refl; sent = refl; seen = refl }) (good_like (g.each n) (logged_like n));
      }

  logged-view : view (logged r d).sc (logged r d).window ≡ view r.sc r.window
  unfolding logged_on
  logged-view = view-Like r.sc (with_log_size r.sc d.size) r.window (put_slot r.window i offset)
      (record { id = refl; start = refl; leader = refl; sent = refl; seen = refl }) logged_like

  logged_at_place : d.slot ≡ (logged r d).sc.start + i
  unfolding logged_on
  logged_at_place = omega (arith, f.low)

  logged_in : i < (logged r d).window.len
  unfolding logged_on
  logged_in = omega (arith, f.low, f.high)

  tidy_sent_vote : Clean (sent_vote (logged_at r d)).batch
  unfolding make_batch
  tidy_sent_vote = pick_both (λ (v : Vote). Clean v.batch) (ltb 0 (logged_at r d).vote.ballot)
      (subst (λ (x : Slot). Clean x.vote.batch) (at_here (logged r d).window i logged_in) (logged_good.each i).tidy_vote) refl

  from_logged : (c : Call) (n : ℕ) (sc : Scalars) (w : Window) (acts : List Act) → StepOk (view (logged r d).sc (logged r d).window) c n sc w acts
      → StepOk (view r.sc r.window) c n sc w acts
  from_logged c n sc w acts k = subst (λ (v : View). StepOk v c n sc w acts) logged-view k

pub logged_step-Ok : (r : Replica) (c : Call) → GoodReplica r → (room : ℕ) (d : Done) → Ok r c (logged_step r room d)
logged_step-Ok r c g room d =
    let r' : Replica = logged r d in
    logged_step_ways (Ok r c) r room d (λ n _ _. kept_ok r c g n)
    (λ f _. from_logged r g d f c 0 _ _ _ (idle_ok r'.sc r'.window c 0 [] (logged_good r g d f) (λ _ _ _ _. tt) (λ _. refl)))
    (λ f e o.
    let own : Outcome = reply_on r' r'.sc.id (own_reply r'.sc (logged_at r d) d.slot) in
    pick_cases (Ok r c) (eqb own.answer 0) (λ _. from_logged r g d f c _ _ _ _ (reply_on-Ok r' c (logged_good r g d f) r'.sc.id (own_reply r'.sc (logged_at r d) d.slot) (tidy_sent_vote r g d f)))
    (λ _. kept_ok r c g own.answer))
    (λ f e h n p. from_logged r g d f c 0 _ _ _ (idle_ok r'.sc r'.window c 0 _ (logged_good r g d f) (λ _ _ _ _. ((tt, tt), tt)) (λ z. absurd (z refl))))
    (λ f e after acts k. moved_ok _ c after d.slot acts
    (from_logged r g d f c 0 _ _ _ (completed_ok r' c (logged_good r g d f) (place r.sc d.slot) d.slot d.ballot (logged_at_place r g d f) (logged_in r g d f) after acts k)))
    (λ f e at. from_logged r g d f c 0 _ _ _ (passed-Ok r' c (logged_good r g d f)))

-- ── offer ──
module _ (sc : Scalars) (w : Window) (c : Call) (g : Good sc w) (i slot : ℕ) (b : Batch) (at : slot ≡ sc.start + i) (h : i < w.len) (null : (at_place w i).status < 2)
    (lead : leads sc ≡ true) (kind : Bool) (ballot : ℕ) (top : ballot ≡ sc.bal_max_seen) (t : Clean b) where
  abbrev pub offered : Slot
  offered = offered_slot kind ballot b

  abbrev pub offered_w : Window
  offered_w = put_slot w i offered

  abbrev pub offers : List Act
  offers = accept_entry slot ballot b ∷ act (Accept (proposal slot ballot b)) b.keys ∷ []

  offered_own : Owns sc.id ballot
  offered_own = omega (arith, g.own lead)

  offered_each : Each sc w c 0 sc offered_w offers
  unfolding make_batch
  offered_each k =
      put_cases w i offered (Turned (view sc w) sc (view sc offered_w) offers (sc.start + k) (at_place w k)) k
      (λ e _.
      record {
        good = record { under = omega arith; busy = λ _ _ _. top; tidy = t; tidy_vote = pick_both (λ (v : Vote). Clean v.batch) kind {a = record { ballot = ballot; batch = b }} {b = no_vote} t refl };
        step = wrote (omega arith) (Memᴰ.head (ap (λ (z : ℕ). accept_entry z ballot b) (omega arith)));
        rise = λ _ z. absurd (omega arith);
      })
      (λ _. Turned-self (at_place w k) (g.each k))

  offered_held : Holds ((view sc offered_w).slot slot) ballot b
  offered_held =
      at_number (λ (x : Cell). Holds x ballot b) sc.start offered_w slot i at
      (subst (λ (y : Slot). Holds (cell y) ballot b) (sym (put_at w i offered h (omega (arith, g.wide, g.short)))) (record { on = omega arith; at = refl; val = refl }))

  offered_ok : StepOk (view sc w) c 0 sc offered_w offers
  offered_ok =
      assemble sc w c 0 sc offered_w offers g (Heads-Same g (Same-self sc)) (put_long w i offered ∙ g.wide) g.short offered_each (
        (record { top = top; held = offered_held; why = led offered_own (at_number (λ (x : Cell). x.status < 2) sc.start w slot i at null) lead top }, ((omega arith, omega (arith, g.short)), t)),
        ((record { own = offered_own; logged = Memᴰ.head refl; tidy = t }, tt), tt),
      )
      (λ z. absurd (z refl))

pub offer_step-Ok : (r : Replica) (c : Call) → GoodReplica r → (room : ℕ) (b : Batch) → Ok r c (offer_step r room b)
unfolding decide_offer
offer_step-Ok r c g room b =
    offer_step_ways (Ok r c) r room b (λ n _. kept_ok r c g n)
    (λ f.
    let a = and_both (leads r.sc) _ f.may in
    let z : r.sc.bal_prepared ≡ r.sc.bal_prep_sent = eqb-true _ _ (and_right (not (eqb r.sc.bal_prepared 0)) _ a.1) in
    let w : Window = offer_window r in
    let q : Grew r.window w = grew r.window g (r.window.len + 1) (omega (arith, f.room)) in
    Grew-ok r.sc r.window w c 0 r.sc _ _ q
    (offered_ok r.sc w c (Good-Grew g q) r.window.len (log_end r) (clean b) refl (omega (arith, filled_has null_slot r.window (r.window.len + 1)))
    (subst (λ (x : Slot). x.status < 2) (sym (q.each r.window.len ∙ at_past r.window r.window.len (omega arith))) (omega arith))
    a.0 (strict r.sc) r.sc.bal_prepared (z ∙ g.sent a.0) (clean-clean b)))

-- ── executed ──
executed_each : (sc : Scalars) (w : Window) (c : Call) (sc' : Scalars) (i : ℕ) → Good sc w → Same sc sc' → i < w.len
    → Each sc w c 0 sc' (put_slot w i (executed_slot (slot_at w i))) []
executed_each sc w c sc' i g q h n =
    put_cases w i (executed_slot (slot_at w i)) (Turned (view sc w) sc' (view sc' (put_slot w i (executed_slot (slot_at w i)))) [] (sc.start + n) (at_place w n)) n
    (λ e _.
    subst (λ (x : Slot). Turned (view sc w) sc' (view sc' (put_slot w i (executed_slot (slot_at w i)))) [] (sc.start + n) x (executed_slot (slot_at w i)))
    (sym (ap (at_place w) e ∙ at_here w i h))
    (pick_cases (Turned (view sc w) sc' (view sc' (put_slot w i (executed_slot (slot_at w i)))) [] (sc.start + n) (slot_at w i)) (eqb (slot_at w i).status committed)
    (λ t. Turned-Risen (slot_at w i) _ here (record { was = omega (arith, tests); is = omega arith; ballot = refl; batch = refl; vote = refl }))
    (λ _. Turned-self (slot_at w i) here)))
    (λ _. Turned-self (at_place w n) (good_same q (g.each n)))
  where
    here : GoodSlot sc' (slot_at w i)
    here = good_same q (subst (GoodSlot sc) (at_here w i h) (g.each i))

pub executed_step-Ok : (r : Replica) (c : Call) → GoodReplica r → (room slot : ℕ) → Ok r c (executed_step r room slot)
unfolding moved_exec
executed_step-Ok r c g room slot =
    executed_step_ways (Ok r c) r room slot (λ n _. kept_ok r c g n)
    (λ f.
    let q : Same r.sc (after_executed r slot).replica.sc = record { id = refl; start = refl; leader = refl; sent = refl; seen = refl } in
    assemble r.sc r.window c 0 (after_executed r slot).replica.sc (executed_window r slot) [] g (Heads-Same g q) (put_long r.window (place r.sc slot) _ ∙ g.wide) g.short
    (executed_each r.sc r.window c (after_executed r slot).replica.sc (place r.sc slot) g q (omega (arith, f.low, f.high))) tt (λ _. refl))

-- ── reads ──
pub open_read_step-Ok : (r : Replica) (c : Call) → GoodReplica r → (room id count : ℕ) (keys : List ℕ) → Ok r c (open_read_step r room id count keys)
open_read_step-Ok r c g room id count keys = open_read_step_ways (Ok r c) r room id count keys (λ n _. kept_ok r c g n) (λ f. kept_ok r c g 0)

pub read_reply_step-Ok : (r : Replica) (c : Call) → GoodReplica r → (room peer id : ℕ) (from_leader : Bool) (reply : Tally)
    → Ok r c (read_reply_step r room peer id from_leader reply)
read_reply_step-Ok r c g room peer id from_leader reply =
    let d : Read = read_at r (read_place r id) in
    read_reply_step_ways (Ok r c) r room peer id from_leader reply (λ n _. kept_ok r c g n) (λ f. answered (with_tally d reply) (smaller d.tally.count reply.count))
    (λ f k. answered (with_ack (merged_read d reply k) peer) d.tally.count) (λ f. kept_ok r c g 0) (λ f k. kept_ok r c g 0) (λ f k. kept_ok r c g 12)
  where
    answered : (d : Read) (n : ℕ) → Ok r c (closed r (read_place r id) d n)
    answered d n =
        idle_ok r.sc r.window c 0 (gather (λ k. answer_act r.sc.leader d k ∷ []) 0 n) g
        (λ v c v' all. All-gather (λ k. answer_act r.sc.leader d k ∷ []) (ActOk v c v' all) 0 n (λ _ _ _. ((tt, tt), tt))) (λ z. absurd (z refl))
