-- A reign: self steps up and leads on at that ballot. The trigger slot that its Prepare names is at the ballot and stays at it, so that each Accept which
-- an answer with this trigger makes it send rests on a majority that answered at this ballot.
use Rattle.std.specs.Prelude.{◌≡◌, true, false, not, ◌&&◌, List, [], ◌∷◌, ◌++◌, ◌⊎◌, ℕ, ◌+◌, ◌≤◌, ◌<◌, ltb, leb}
use Rattle.std.proofs.Math.Path.{refl, ap}
use Rattle.std.proofs.Common.{sym, subst, ◌∙◌, inl, inr, arith}
use Rattle.std.proofs.Math.Dec.{eqb}
use borrow.Author.Tests.{ltb-true, ltb-false, eqb-true, eq-eqb, leb-false, lt-leb}
use Rattle.base.specs.Pick.{and_both, decide}
use Rattle.base.specs.Among.{◌∈◌}
use Rattle.base.specs.Scan.{scan_stopped}
use Rattle.members.specs.Sets.{has}
use Rattle.batch.specs.declared.Batch.{Batch}
use Rattle.actions.specs.Actions.{Act}
use Rattle.slots.specs.declared.Slot.{Slot}
use Rattle.slots.specs.Slots.{null_slot, new_book, redone_slot, committed, marked_slot, passed_slot}
use Rattle.decide.specs.declared.Reply.{Reply}
use Rattle.decide.specs.Scalars.{leads}
use Rattle.decide.specs.Decide.{decide_offer}
use Rattle.window.specs.declared.Window.{Window}
use Rattle.window.specs.Window.{slot_at, put_slot, first_open}
use Rattle.window.specs.Places.{size, filled_long, filled_has, filled_most}
use Rattle.window.specs.ByPlace.{at_place, at_here, at_past, put_keeps, put_cases, sweep_keeps, sweep_at, grown_at}
use Rattle.replica.specs.declared.Replica.{Replica}
use Rattle.replica.specs.declared.Done.{Done}
use Rattle.replica.specs.declared.Entry.TheVariants.{PrepareBal}
use Rattle.replica.specs.Record.{place}
use Rattle.replica.specs.Messages.{clean_reply}
use Rattle.replica.specs.Durability.{pass_stop, logged_on}
use Rattle.replica.specs.Added.{moved_exec}
use Rattle.replica.specs.Step.{Call, call_prepare, call_prepare_reply, call_accept, call_accept_reply, call_commit_notice, call_timeout, call_logged, call_offer, call_executed, call_open_read, call_read_reply, step}
use Rattle.laws.specs.OfFit.{fit_facts}
use Rattle.laws.specs.WaysMessages.{prepare_step_ways, accept_step_ways, accept_reply_step_ways}
use Rattle.laws.specs.WaysReply.{reply_window, heard_window, counted_window, Answers, reply_place}
use Rattle.laws.specs.WaysLeadership.{lead_window, lead_trigger, lead_end, lead_from, led, Leads, timeout_step_ways, mark_window, mark_from, mark_end, commit_notice_step_ways, Leads-up}
use Rattle.laws.specs.WaysDurability.{completion, logged, logged_at, pass_from}
use Rattle.laws.specs.WaysAdded.{offer_window, Offers, offered, offer_step_ways, executed_step_ways}
use Rattle.laws.specs.Appended.{appended_cases}
use Rattle.voting.specs.Windows.{Whole, Whole-put}
use Rattle.voting.specs.Keeping.{marked_keeps, passed_keeps, executed_keeps}
use Rattle.voting.specs.History.{Lent, told, play}
use Rattle.voting.specs.Claims.{core, Claim, Of, open_read_way, read_reply_way}
use Rattle.voting.specs.Replying.{ReplyWays, prepare_reply_way}
use Rattle.voting.specs.Logging.{own_answer, LogWays, logged_way}
use Rattle.voting.specs.Promises.{play-Grows}
use Rattle.voting.specs.Reached.{Good, Good-step, Good-play, follows_none}
use Rattle.voting.specs.Quorums.{kind_of}
use Rattle.voting.specs.Backing.{Standing, stands, Stood, PrepareAck, Once, noted_same, heard_same, entered_same, after_same}
use Rattle.voting.specs.Majorities.{ByMajority, enter_by_majority, own_enter_by_majority, answered_over}

abbrev ballot_of : Slot → ℕ
ballot_of s = s.ballot

-- ── one call: while self leads on at the ballot, a slot at it stays at it ──
abbrev StaysAt : ℕ → ℕ → Claim
StaysAt i b a sc w acts = leads sc ≡ true → sc.bal_prep_sent ≡ b → (at_place w i).ballot ≡ b

module _ (r : Replica) (peer : ℕ) (m : Reply) (i b : ℕ) (h : Whole r.window) (same : r.sc.bal_prep_sent ≡ b) (at : (stands r i).ballot ≡ b) where
  wide_at : Answers r m → (at_place (reply_window r peer m) i).ballot ≡ b
  wide_at f =
      ap (λ (x : Standing). x.ballot) (noted_same r peer m i)
      ∙ appended_cases (λ (x : Slot). x.ballot ≡ b) r (place r.sc m.slot) (place r.sc m.trigger) i (let u = reply_place r m f in omega arith) (λ l. same) at

  heard_at : Answers r m → (at_place (heard_window r peer m) i).ballot ≡ b
  heard_at f = ap (λ (x : Standing). x.ballot) (heard_same r peer m i) ∙ wide_at f

  counted_at : Answers r m → (at_place (counted_window r peer m) i).ballot ≡ b
  counted_at f = put_keeps ballot_of (heard_window r peer m) (place r.sc m.trigger) i _ refl ∙ heard_at f

  reply_stays_at : ReplyWays (StaysAt i b) r peer m
  reply_stays_at =
      record {
        passed = λ f t l e. wide_at f;
        heard = λ f t l e. heard_at f;
        counted = λ f t l e. counted_at f;
        entered = λ f t q l e. ap (λ (x : Standing). x.ballot) (entered_same r peer m i) ∙ counted_at f;
      }

module _ (r : Replica) (i b : ℕ) (g : Good r.sc r.window) (s : Stood r i b) where
  log_at : (d : Done) → LogWays (StaysAt i b) r d
  unfolding Of logged_on
  log_at d =
      let e : (at_place (logged r d).window i).ballot ≡ b = ap (λ (x : Standing). x.ballot) (after_same r d i) ∙ s.at in
      let put : (x : Slot) → x.ballot ≡ (logged_at r d).ballot → (at_place (put_slot (logged r d).window (place r.sc d.slot) x) i).ballot ≡ b =
      λ x q. put_keeps ballot_of (logged r d).window (place r.sc d.slot) i x q ∙ e in
      record {
        only = λ u l q. e;
        own = λ z o. reply_stays_at (logged r d) r.sc.id (own_answer r d) i b (Whole-put r.window (place r.sc d.slot) _ g.whole) s.same e;
        promised = λ z _ n l q. e;
        acked = λ z _ l q. put _ refl;
        commits = λ z _ a k l q. put _ refl;
        answered = λ z _ n l q. e;
        passes = λ z l q.
            sweep_keeps ballot_of (λ k v. passed_slot v) (λ k v. passed_keeps ballot_of (λ s n. refl) v) (pass_from (logged r d)) (pass_stop (logged r d)) (logged r d).window i ∙ e;
      }

  offer_at : (x : Batch) → Offers r x → (at_place (offered r x).replica.window i).ballot ≡ b
  unfolding decide_offer
  offer_at x f =
      let may = and_both (leads r.sc) (not (eqb r.sc.bal_prepared 0) && eqb r.sc.bal_prepared r.sc.bal_prep_sent) f.may in
      let even = and_both (not (eqb r.sc.bal_prepared 0)) (eqb r.sc.bal_prepared r.sc.bal_prep_sent) may.1 in
      put_cases (offer_window r) r.window.len _ (λ (y : Slot). y.ballot ≡ b) i (λ z u. eqb-true r.sc.bal_prepared r.sc.bal_prep_sent even.1 ∙ s.same)
      (λ out. ap ballot_of (grown_at r.window (r.window.len + 1) i (let w = g.whole in omega (arith, f.room))) ∙ s.at)

  step-StaysAt : (room : ℕ) (c : Call) → Of (StaysAt i b) (step r room c)
  unfolding Of moved_exec
  step-StaysAt room c = go c
    where
      go : (c : Call) → Of (StaysAt i b) (step r room c)
      go (call_prepare peer trigger ballot) =
          prepare_step_ways (Of (StaysAt i b)) r room peer trigger ballot (λ a z l e. s.at)
          (λ f l e. absurd (follows_none r peer ballot g f.peer_is f.owned f.seen l))
      go (call_prepare_reply peer m) =
          prepare_reply_way (StaysAt i b) r room peer m (λ a z u l e. s.at) (λ f. reply_stays_at r peer (clean_reply m) i b g.whole s.same s.at)
      go (call_accept peer slot ballot x) =
          accept_step_ways (Of (StaysAt i b)) r room peer slot ballot x (λ a z l e. s.at)
          (λ f l e. absurd (follows_none r peer ballot g f.peer_is f.owned f.seen l))
      go (call_accept_reply peer slot ballot) =
          accept_reply_step_ways (Of (StaysAt i b)) r room peer slot ballot (λ a z l e. s.at)
          (λ f q l e. put_keeps ballot_of r.window (place r.sc slot) i _ refl ∙ s.at) (λ f q l e. put_keeps ballot_of r.window (place r.sc slot) i _ refl ∙ s.at)
      go (call_commit_notice peer ballot bar) =
          commit_notice_step_ways (Of (StaysAt i b)) r room peer ballot bar (λ a z l e. s.at)
          (λ f l e.
          sweep_keeps ballot_of (λ k v. marked_slot v) (λ k v. marked_keeps ballot_of (λ s n. refl) v) (mark_from r) (mark_end r ballot bar) (mark_window r bar) i
          ∙ ap ballot_of (grown_at r.window (place r.sc bar) i (let w = g.whole in omega (arith, f.high))) ∙ s.at)
      go (call_timeout source) =
          timeout_step_ways (Of (StaysAt i b)) r room source (λ a z l e. s.at)
          (λ n f l e. absurd (let x = g.sent in let y = s.same in omega (arith, Leads-up r source n f)))
      go (call_logged d) = logged_way (StaysAt i b) r d room (λ a z u l e. s.at) (λ f. log_at d)
      go (call_offer x) = offer_step_ways (Of (StaysAt i b)) r room x (λ a z l e. s.at) (λ f l e. offer_at x f)
      go (call_executed slot) =
          executed_step_ways (Of (StaysAt i b)) r room slot (λ a z l e. s.at)
          (λ f l e. put_keeps ballot_of r.window (place r.sc slot) i _ (executed_keeps ballot_of (λ s n. refl) (slot_at r.window (place r.sc slot))) ∙ s.at)
      go (call_open_read id count keys) = open_read_way (StaysAt i b) r room (λ a acts l e. s.at) id count keys
      go (call_read_reply peer id from_leader reply) = read_reply_way (StaysAt i b) r room (λ a acts l e. s.at) peer id from_leader reply

  Stood-step : (c : Lent) → leads (told r c).replica.sc ≡ true → (told r c).replica.sc.bal_prep_sent ≡ b → Stood (told r c).replica i b
  unfolding Of
  Stood-step c l e = record { leading = l; same = e; at = step-StaysAt c.room c.call l e }

-- ── a history through which self leads on at the ballot ──
abbrev pub LeadsOn : ℕ → Replica → List Lent → Type 0
LeadsOn b r [] = Unit {0}
LeadsOn b r (c ∷ h) = (leads (told r c).replica.sc ≡ true) × ((told r c).replica.sc.bal_prep_sent ≡ b) × LeadsOn b (told r c).replica h

pub Stood-on : (r : Replica) (h : List Lent) (i b : ℕ) → Good r.sc r.window → Stood r i b → LeadsOn b r h → Stood (play r h) i b
Stood-on r [] i b g s k = s
Stood-on r (c ∷ h) i b g s (l, e, k) = Stood-on (told r c).replica h i b (Good-step r c g) (Stood-step r i b g s c l e) k

-- ── the step-up ──
open_stops : (w : Window) → first_open w < w.len → leb 3 (slot_at w (first_open w)).status ≡ false
unfolding first_open
open_stops w l = scan_stopped (λ i. leb committed (slot_at w i).status) 0 w.len l

-- the first slot below Committed, the Prepare's trigger: it is below Committed
pub open_low : (w : Window) → (at_place w (first_open w)).status < 3
open_low w = go (decide (ltb (first_open w) w.len))
  where
    go : (ltb (first_open w) w.len ≡ true) ⊎ (ltb (first_open w) w.len ≡ false) → (at_place w (first_open w)).status < 3
    go (inl t) =
        let l = ltb-true (first_open w) w.len t in
        let e = ap (λ (s : Slot). s.status) (at_here w (first_open w) l) in
        omega (arith, leb-false 3 (slot_at w (first_open w)).status (open_stops w l))
    go (inr t) = omega (arith, ap (λ (s : Slot). s.status) (at_past w (first_open w) (ltb-false (first_open w) w.len t)))

redone_low : (b trigger endprep : ℕ) (s : Slot) → s.status < 3 → (redone_slot b (new_book trigger endprep) s).ballot ≡ b
redone_low b trigger endprep s l = rw (lt-leb 4 s.status (omega arith), lt-leb 3 s.status l)

abbrev UpAt : Replica → Claim
UpAt r a sc w acts = (sc.bal_prep_sent ≡ r.sc.bal_prep_sent → ⊥) → (leads sc ≡ true) × ((at_place w (first_open r.window)).ballot ≡ sc.bal_prep_sent)

led_stands : (r : Replica) (source b : ℕ) → Good r.sc r.window → Leads r source b → (at_place (led r b).replica.window (first_open r.window)).ballot ≡ b
led_stands r source b g f =
    let i : ℕ = first_open r.window in
    let wide = filled_has null_slot r.window (i + 1) in
    let long : (lead_window r).len ≤ size (lead_window r) =
    omega (arith, filled_long null_slot r.window (i + 1), g.whole, filled_most null_slot r.window (i + 1) 64 (fit_facts r f.fits).numbers.window (omega (arith, f.room))) in
    ap ballot_of
    (sweep_at (λ k s. redone_slot b (new_book (lead_trigger r) (lead_end r)) s) (lead_from r) (lead_window r).len (lead_window r) i long (omega (arith, f.open_high)) (omega arith) (omega arith))
    ∙ redone_low b (lead_trigger r) (lead_end r) (at_place (lead_window r) i)
    (subst (λ (s : Slot). s.status < 3) (sym (grown_at r.window (i + 1) i (let w = g.whole in omega (arith, f.room)))) (open_low r.window))

-- after a step-up self leads, and the trigger slot of its Prepare is at its ballot
pub step_up_stands : (r : Replica) (c : Lent) (source : ℕ) → c.call ≡ call_timeout source → Good r.sc r.window
    → ((told r c).replica.sc.bal_prep_sent ≡ r.sc.bal_prep_sent → ⊥) → Stood (told r c).replica (first_open r.window) (told r c).replica.sc.bal_prep_sent
unfolding Of
step_up_stands r c source q g n =
    let both : Of (UpAt r) (step r c.room c.call) =
    subst (λ (k : Call). Of (UpAt r) (step r c.room k)) (sym q)
    (timeout_step_ways (Of (UpAt r)) r c.room source (λ a l n. absurd (n refl)) (λ b f n. (eq-eqb r.sc.id r.sc.id refl, led_stands r source b g f))) in
    record { leading = (both n).0; same = refl; at = (both n).1 }

-- ── the whole sentence ──
-- self steps up by the call u and leads on through h
pub record Reigns (r : Replica) (u : Lent) (h : List Lent) : Type 0 where
  pub good : Good r.sc r.window
  pub source : ℕ
  pub timer : u.call ≡ call_timeout source
  pub new : (told r u).replica.sc.bal_prep_sent ≡ r.sc.bal_prep_sent → ⊥
  pub on : LeadsOn (told r u).replica.sc.bal_prep_sent (told r u).replica h

-- each member of the majority with which c makes it send an Accept has answered at this ballot
abbrev pub EachAnswered : Replica → Lent → List Lent → Lent → ℕ → Type 0
EachAnswered r u h c ballot =
    (p : ℕ) → has (stands (told (play r (u ∷ h)) c).replica (first_open r.window)).prepare p ≡ true
    → Once (λ q k. PrepareAck q (first_open r.window) p k) ballot r ((u ∷ h) ++ (c ∷ []))

module _ (r : Replica) (u : Lent) (h : List Lent) (k : Reigns r u h) where
  abbrev now : Replica
  now = play r (u ∷ h)

  trigger_is_place : (trigger : ℕ) → trigger ≡ lead_trigger r → place now.sc trigger ≡ first_open r.window
  trigger_is_place trigger e = omega (arith, e, (play-Grows r (u ∷ h)).start)

  reign_each : (c : Lent) (trigger ballot : ℕ) → trigger ≡ lead_trigger r
      → ByMajority now.sc.group now.sc.bal_prep_sent (place now.sc trigger) ballot (core (told now c).replica.sc) (told now c).replica.window
      → EachAnswered r u h c ballot
  reign_each c trigger ballot e m =
      let b : ℕ = (told r u).replica.sc.bal_prep_sent in
      let i : ℕ = first_open r.window in
      let by : ByMajority now.sc.group now.sc.bal_prep_sent i ballot (core (told now c).replica.sc) (told now c).replica.window =
      subst (λ (j : ℕ). ByMajority now.sc.group now.sc.bal_prep_sent j ballot (core (told now c).replica.sc) (told now c).replica.window) (trigger_is_place trigger e) m in
      let s : Stood now i b = Stood-on (told r u).replica h i b (Good-step r u k.good) (step_up_stands r u k.source k.timer k.good k.new) k.on in
      let after : Stood (told now c).replica i b = Stood-step now i b (Good-play r (u ∷ h) k.good) s c by.leading (by.same ∙ s.same) in
      let before : Stood r i ballot → ⊥ = λ z. k.new (sym s.same ∙ sym by.asked ∙ sym z.same) in
      (answered_over r (u ∷ h) c i ballot k.good before by).each (after.at ∙ sym s.same ∙ sym by.asked)

  -- an answer whose trigger is that of its Prepare
  pub reign_answered : (room peer : ℕ) (m : Reply) → m.trigger ≡ lead_trigger r → (x : Act) → x ∈ (step now room (call_prepare_reply peer m)).actions → kind_of x ≡ 6
      → EachAnswered r u h (record { room = room; call = call_prepare_reply peer m }) m.ballot
  reign_answered room peer m e x o kind =
      reign_each (record { room = room; call = call_prepare_reply peer m }) m.trigger m.ballot e
      (enter_by_majority now room peer m (Good-play r (u ∷ h) k.good).whole x o kind)

  -- and its own
  pub own_reign_answered : (room slot bal offset : ℕ) → (own_answer now (completion PrepareBal slot bal offset)).trigger ≡ lead_trigger r → (x : Act)
      → x ∈ (step now room (call_logged (completion PrepareBal slot bal offset))).actions → kind_of x ≡ 6
      → EachAnswered r u h (record { room = room; call = call_logged (completion PrepareBal slot bal offset) })
      (own_answer now (completion PrepareBal slot bal offset)).ballot
  own_reign_answered room slot bal offset e x o kind =
      reign_each (record { room = room; call = call_logged (completion PrepareBal slot bal offset) })
      (own_answer now (completion PrepareBal slot bal offset)).trigger (own_answer now (completion PrepareBal slot bal offset)).ballot e
      (own_enter_by_majority now room slot bal offset (Good-play r (u ∷ h) k.good).whole x o kind)
