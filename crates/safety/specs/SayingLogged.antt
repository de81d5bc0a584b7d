-- What a log completion says: a reply answers the completion of its entry at its own ballot, and a PrepareReply tells the slot's vote and endprep; a
-- CommitNotice is a leader's, at the ballot that it prepared, and tells its commit_bar; an Execute names the batch of a committed slot.
use Rattle.std.specs.Prelude.{◌≡◌, refl, true, false, not, ◌||◌, List, [], ℕ, ◌<◌, ltb, eqb}
use Rattle.std.proofs.Math.Path.{sym, ap}
use Rattle.std.proofs.Common.{◌∙◌, le_refl, arith, eqb-true}
use Rattle.std.proofs.lemmas.Bool.{not-false}
use Rattle.base.specs.Pick.{pick, pick_both, pick_cases, and_both, or-false}
use Rattle.base.specs.Among.{All, All-append}
use Rattle.base.specs.Gather.{gather, All-gather}
use Rattle.actions.specs.Actions.{Act}
use Rattle.slots.specs.declared.Slot.{Slot}
use Rattle.slots.specs.Slots.{committed, with_offset}
use Rattle.decide.specs.Scalars.{leads, strict, urgent, notifies}
use Rattle.decide.specs.Decide.{sent_vote}
use Rattle.decide.specs.PrepareReply.{own_reply}
use Rattle.window.specs.Window.{slot_at}
use Rattle.window.specs.Acts.{pass_acts}
use Rattle.window.specs.ByPlace.{at_here}
use Rattle.replica.specs.declared.Replica.{Replica}
use Rattle.replica.specs.declared.Done.{Done}
use Rattle.replica.specs.declared.Entry.{Entry}
use Rattle.replica.specs.declared.Entry.TheVariants.{PrepareBal, AcceptData}
use Rattle.replica.specs.Record.{Outcome, place, number, log_end}
use Rattle.replica.specs.Messages.{reply_on}
use Rattle.replica.specs.Durability.{moved_accept, notice_acts, pass_stop, logged_on, logged_step}
use Rattle.replica.specs.Step.{call_logged}
use Rattle.laws.specs.Leaves.{done}
use Rattle.laws.specs.OfDecide.{Heeded}
use Rattle.laws.specs.WaysDurability.{completion, logged, logged_at, Logs, Completes, completes_silent, completes_more, completes_commit, completes_report, pass_from, passed, promise_acts, logged_step_ways}
use Rattle.voting.specs.Windows.{Whole, Whole-put}
use Rattle.agreement.specs.BySlot.{numbered_at, numbered_place}
use Rattle.agreement.specs.Theorem.{slot_of}
use Rattle.safety.specs.Sight.{sight_of, Notices, Executes, Says}
use Rattle.safety.specs.Bars.{logged_slot_keeps, pass_within, logged_numbers}
use Rattle.safety.specs.Saying.{SaysAll, Told}
use Rattle.safety.specs.SayingReply.{reply_says}

module _ (r : Replica) (d : Done) (f : Logs r d) where
  -- the completion's slot by number: it differs from what the reply is read off in its offset alone
  slot_told : {A : Type 0} (p : Slot → A) → ((x : Slot) (offset : ℕ) → p (with_offset x offset) ≡ p x) → p (slot_of r d.slot) ≡ p (logged_at r d)
  unfolding logged_on
  slot_told p o =
      sym (logged_slot_keeps p o r d d.slot)
      ∙ ap p (numbered_place r.sc.start (logged r d).window d.slot f.low ∙ at_here (logged r d).window (place r.sc d.slot) (omega (arith, f.low, f.high)))

  -- the call, by the kind and the ballot that the entry is known to have
  call_is : (e : Entry) → d.entry ≡ e → (ballot : ℕ) → ballot ≡ d.ballot → call_logged d ≡ call_logged (completion e d.slot ballot d.size)
  call_is e k ballot b = λ i. call_logged (completion (k i) d.slot (sym b i) d.size)

  -- ── a follower's prepare entry ──
  promised_says : d.entry ≡ PrepareBal → strict r.sc ≡ true → Heeded (logged r d).sc (logged_at r d) d.ballot false → leads (logged r d).sc ≡ false
      → (logged_at r d).replica.present ≡ true → SaysAll (sight_of r) (call_logged d) (logged r d) (promise_acts (logged r d).sc (logged_at r d) d.slot)
  unfolding logged_on
  promised_says e k h n p = (
    record {
      size = d.size;
      call = call_is PrepareBal e (logged_at r d).ballot (h.slot k);
      follows = n;
      at = slot_told (λ (x : Slot). x.ballot) (λ x n. refl);
      booked = slot_told (λ (x : Slot). x.replica.present) (λ x n. refl) ∙ p;
      ends = slot_told (λ (x : Slot). x.replica.endprep) (λ x n. refl);
      vote = sym (slot_told sent_vote (λ x n. refl));
    },
    tt,
  )

  -- ── an accept entry: a follower's AcceptReply ──
  completed_says : d.entry ≡ AcceptData → strict (logged r d).sc ≡ true → (after : Replica) (acts : List Act)
      → Completes (logged r d) (place r.sc d.slot) d.slot d.ballot after acts → Told r (call_logged d) (done (moved_accept after d.slot) acts)
  completed_says e k _ _ completes_silent = tt
  completed_says e k _ _ (completes_more h b a q) = tt
  completed_says e k _ _ (completes_commit h b a q) = (tt, tt)
  completed_says e k _ _ (completes_report h n p) = ((d.size, call_is AcceptData e (logged_at r d).ballot (h.slot k)), tt)

-- ── a commit entry ──
-- what a leader's notice tells
notice_says : (r : Replica) (d : Done) → notifies (logged r d).sc (number (logged r d).sc (pass_stop (logged r d))) (log_end (logged r d)) ≡ true
    → Notices (sight_of r) (sight_of (passed (logged r d)).replica) (logged r d).sc.bal_max_seen (number (logged r d).sc (pass_stop (logged r d)))
unfolding logged_on
notice_says r d t =
    let sc = (logged r d).sc in
    let a = (and_both (eqb (number sc (pass_stop (logged r d))) (log_end (logged r d))) _ t).1 in
    let b = and_both (leads sc) _ a in
    let c = (and_both (ltb 0 sc.bal_prepared) _ b.1).1 in
    record {
      leading = b.0;
      still = b.0;
      at = refl;
      same = refl;
      prepared = sym (eqb-true _ _ (and_both (eqb sc.bal_prepared sc.bal_max_seen) (urgent sc) c).0);
      low = le_refl _;
    }

-- an Execute: of a slot that the bar passes and that is committed
execute_says : (r : Replica) (d : Done) → Logs r d → (i : ℕ) → i < pass_stop (logged r d) → (slot_at (logged r d).window i).status ≡ 3
    → Executes (sight_of r) (number (logged r d).sc i) (slot_at (logged r d).window i).batch
execute_says r d f i l e = record { done = (let z = same (λ (x : Slot). x.status) (λ x n. refl) in omega arith); batch = same (λ (x : Slot). x.batch) (λ x n. refl) }
  where
    same : {A : Type 0} (p : Slot → A) → ((x : Slot) (offset : ℕ) → p (with_offset x offset) ≡ p x) → p (slot_of r (number (logged r d).sc i)) ≡ p (slot_at (logged r d).window i)
    same p o =
        sym (logged_slot_keeps p o r d (number (logged r d).sc i))
        ∙ ap p (numbered_at (logged r d).sc.start (logged r d).window i ∙ at_here (logged r d).window i (pass_within (logged r d) (logged_numbers r d f) i l))

passed_says : (r : Replica) (d : Done) → Logs r d → Told r (call_logged d) (passed (logged r d))
passed_says r d f =
    let q : Replica = logged r d in
    let Said : Act → Type 0 = λ (a : Act). Says (sight_of r) (call_logged d) (sight_of (passed q).replica) a.keys a.what in
    let notice : List Act = notice_acts q.sc (number q.sc (pass_stop q)) (log_end q) in
    All-append Said (gather (λ i. pass_acts (number q.sc i) (slot_at q.window i)) (pass_from q) (pass_stop q)) (pick (eqb (pass_from q) (pass_stop q)) [] notice)
    (All-gather (λ i. pass_acts (number q.sc i) (slot_at q.window i)) Said (pass_from q) (pass_stop q)
    (λ i a b. pick_cases (All Said) (eqb (slot_at q.window i).batch.id 0 || not (eqb (slot_at q.window i).status committed)) (λ _. tt)
    (λ t. (execute_says r d f i b (eqb-true _ _ (not-false _ (or-false (eqb (slot_at q.window i).batch.id 0) _ t).1)), tt))))
    (pick_both (All Said) (eqb (pass_from q) (pass_stop q)) {a = []} {b = notice} tt
    (pick_cases (All Said) (notifies q.sc (number q.sc (pass_stop q)) (log_end q)) (λ t. (notice_says r d t, tt)) (λ t. tt)))

-- ── the call ──
pub logged_says : (r : Replica) (room : ℕ) (d : Done) → Whole r.window → strict r.sc ≡ true → Told r (call_logged d) (logged_step r room d)
unfolding logged_on
logged_says r room d h k =
    let q : Replica = logged r d in
    logged_step_ways (Told r (call_logged d)) r room d (λ n _ _. tt) (λ f _. tt)
    (λ f e o.
    let own : Outcome = reply_on q q.sc.id (own_reply q.sc (logged_at r d) d.slot) in
    pick_cases (Told r (call_logged d)) (eqb own.answer 0)
    (λ _. reply_says (sight_of r) (call_logged d) q (Whole-put r.window (place r.sc d.slot) _ h) q.sc.id (own_reply q.sc (logged_at r d) d.slot)) (λ _. tt))
    (λ f e o n p. promised_says r d f e k o n p) (λ f e after acts o. completed_says r d f e k after acts o) (λ f e at. passed_says r d f)
