-- Of `Leads`: a log completion. A leader's own prepare entry is its own reply, "self uses its own endprep"; any other lets the lead go on as it was.
use Rattle.std.specs.Prelude.{◌≡◌, Bool, true, not, ◌||◌, ℕ, ◌≤◌, ◌<◌, ltb, eqb}
use Rattle.std.proofs.Math.Path.{refl, sym, ap, subst}
use Rattle.std.proofs.Common.{◌∙◌, arith}
use Rattle.std.proofs.Math.Bool.{false}
use mathlib.Core.List.{[], ◌++◌}
use Rattle.base.specs.Pick.{pick, pick_both}
use Rattle.base.specs.Among.{All, All-append}
use Rattle.base.specs.Gather.{gather, All-gather}
use Rattle.members.specs.Sets.{fits_group}
use Rattle.slots.specs.declared.Slot.{Slot}
use Rattle.slots.specs.Slots.{committed, no_vote, with_offset, passed_slot, logged_slot}
use Rattle.decide.specs.Scalars.{leads, notifies}
use Rattle.decide.specs.Decide.{sent_vote}
use Rattle.window.specs.Window.{slot_at, put_slot}
use Rattle.window.specs.Acts.{pass_acts}
use Rattle.window.specs.ByPlace.{at_place, at_here, put_keeps}
use Rattle.replica.specs.declared.Replica.{Replica}
use Rattle.replica.specs.declared.Done.{Done}
use Rattle.replica.specs.declared.Entry.{Entry}
use Rattle.replica.specs.declared.Entry.TheVariants.{PrepareBal as PrepareEntry}
use Rattle.replica.specs.Record.{place, number, log_end}
use Rattle.replica.specs.Fit.{fit}
use Rattle.replica.specs.Durability.{notice_acts, pass_stop, logged_on}
use Rattle.replica.specs.Step.{call_logged}
use Rattle.laws.specs.OfFit.{fit_facts}
use Rattle.laws.specs.OfDecide.{heeded}
use Rattle.laws.specs.WaysReply.{Answers}
use Rattle.laws.specs.WaysDurability.{completion, logged, logged_at, Logs, OwnReply, pass_from}
use Rattle.voting.specs.Windows.{Whole-put}
use Rattle.voting.specs.Keeping.{logged_keeps}
use Rattle.voting.specs.Claims.{Of}
use Rattle.voting.specs.Logging.{own_answer, LogWays}
use Rattle.voting.specs.Backing.{Standing, stands, after_same}
use Rattle.agreement.specs.Theorem.{slot_of}
use Rattle.agreement.specs.BySlot.{numbered_place}
use Rattle.safety.specs.Sight.{sight_of, Replied, replied_own, Able}
use Rattle.safety.specs.LeadsRest.{Silent, Rest, Rests, Rests-then, Rests-put, Rests-sweep, Rests-lead, passed_rest, logged_rest, acked_rest, committed_rest}
use Rattle.safety.specs.LeadsNoted.{vote_in, face_of}
use Rattle.safety.specs.LeadsReply.{LeadsAfter, reply_leads}

-- the sets of a fit record are within its group
pub within : (r : Replica) → fit r ≡ true → (j : ℕ) → j < r.window.len → fits_group (stands r j).prepare r.sc.group ≡ true
within r f j l = subst (λ (s : Slot). fits_group s.leader.prepare_acks r.sc.group ≡ true) (sym (at_here r.window j l)) ((fit_facts r f).slots j l).prepare

-- while self leads its Preparing slots are at bal_prep_sent
pub busy_low : (r : Replica) → Able r → leads r.sc ≡ true → (i : ℕ) → (at_place r.window i).status ≡ 1 → (at_place r.window i).ballot ≤ r.sc.bal_prep_sent
busy_low r a l i z = omega (arith, a.good.sent l, (a.good.each i).busy l (omega arith) (omega arith))

-- a vote is sent only where there is one
sent_twice : (x : Slot) → pick (ltb 0 x.vote.ballot) (sent_vote x) no_vote ≡ sent_vote x
sent_twice x = go (ltb 0 x.vote.ballot)
  where
    go : (t : Bool) → pick t (pick t x.vote no_vote) no_vote ≡ pick t x.vote no_vote
    go true = refl
    go false = refl

-- commit_bar passes slots: no entry
pass_silent : (q : Replica)
    → All Silent (gather (λ i. pass_acts (number q.sc i) (slot_at q.window i)) (pass_from q) (pass_stop q)
    ++ pick (eqb (pass_from q) (pass_stop q)) [] (notice_acts q.sc (number q.sc (pass_stop q)) (log_end q)))
pass_silent q =
    All-append Silent (gather (λ i. pass_acts (number q.sc i) (slot_at q.window i)) (pass_from q) (pass_stop q)) _
    (All-gather (λ i. pass_acts (number q.sc i) (slot_at q.window i)) Silent (pass_from q) (pass_stop q)
    (λ i l u. pick_both (All Silent) (eqb (slot_at q.window i).batch.id 0 || not (eqb (slot_at q.window i).status committed)) tt (tt, tt)))
    (pick_both (All Silent) (eqb (pass_from q) (pass_stop q)) {a = []} {b = notice_acts q.sc (number q.sc (pass_stop q)) (log_end q)} tt
    (pick_both (All Silent) (notifies q.sc (number q.sc (pass_stop q)) (log_end q)) (tt, tt) tt))

module _ (r : Replica) (d : Done) (a : Able r) (f : Logs r d) where
  abbrev offset : Slot
  offset = logged_slot r.sc.wal_offset (slot_at r.window (place r.sc d.slot))

  -- a slot after the completion's offsets, where they are not looked at
  module _ {A : Type 0} (p : Slot → A) (e : (s : Slot) (n : ℕ) → p (with_offset s n) ≡ p s) where
    logged_each : (i : ℕ) → p (at_place (logged r d).window i) ≡ p (at_place r.window i)
    unfolding logged_on
    logged_each i = put_keeps p r.window (place r.sc d.slot) i offset (logged_keeps p e r.sc.wal_offset (slot_at r.window (place r.sc d.slot)))

    logged_as : p (logged_at r d) ≡ p (slot_of r d.slot)
    unfolding logged_on
    logged_as =
        ap p (sym (at_here (logged r d).window (place r.sc d.slot) (omega (arith, f.low, f.high)))) ∙ logged_each (place r.sc d.slot)
        ∙ sym (ap p (numbered_place r.sc.start r.window d.slot f.low))

  logged-Rests : Rests r.window (logged r d).window
  unfolding logged_on
  logged-Rests = Rests-put r.window (place r.sc d.slot) offset (logged_rest r.sc.wal_offset (slot_at r.window (place r.sc d.slot)))

  -- a leader's own prepare entry at the ballot that it sent
  own_replied : d.entry ≡ PrepareEntry → OwnReply (logged r d) (logged_at r d) d.slot d.ballot → Answers (logged r d) (own_answer r d)
      → Replied (sight_of r) (call_logged d) r.sc.id d.slot (own_answer r d).endprep (vote_in (own_answer r d))
  unfolding logged_on
  own_replied e o q =
      replied_own d.size refl
      (ap (λ (x : Entry). call_logged (completion x d.slot d.ballot d.size)) e
      ∙ ap (λ (b : ℕ). call_logged (completion PrepareEntry d.slot b d.size)) (sym ((heeded (logged r d).sc (logged_at r d) d.ballot false o.heeds).slot a.kind) ∙ q.sent))
      (sym (logged_as (λ (x : Slot). x.ballot) (λ s n. refl)) ∙ q.sent) (sym (logged_as (λ (x : Slot). x.leader.endprep) (λ s n. refl)))
      (sent_twice (logged_at r d) ∙ logged_as sent_vote (λ s n. refl))

  own_busy : leads r.sc ≡ true → (i : ℕ) → (at_place (logged r d).window i).status ≡ 1 → (at_place (logged r d).window i).ballot ≤ r.sc.bal_prep_sent
  own_busy l i z =
      omega (arith, logged_each (λ (x : Slot). x.ballot) (λ s n. refl) i, busy_low r a l i (sym (logged_each (λ (x : Slot). x.status) (λ s n. refl) i) ∙ z))

  pub log_leads : LogWays (LeadsAfter (sight_of r) (call_logged d)) r d
  unfolding Of logged_on
  log_leads =
      let n = (fit_facts r f.fits).numbers in
      let put : (x : Slot) → Rest (logged_at r d) x → Rests r.window (put_slot (logged r d).window (place r.sc d.slot) x) =
      λ x h. Rests-then logged-Rests (Rests-put (logged r d).window (place r.sc d.slot) x h) in
      let long = Whole-put r.window (place r.sc d.slot) offset a.reached.whole in
      record {
        only = λ u bar. Rests-lead r (call_logged d) _ [] bar logged-Rests tt;
        own = λ e o.
            reply_leads (logged r d) r.window r.sc.commit_bar (call_logged d) r.sc.id (own_answer r d)
            long n.window a.kind refl (λ i. sym (logged_each face_of (λ s n. refl) i)) own_busy n.member
            (λ j l. subst (λ (s : Standing). fits_group s.prepare r.sc.group ≡ true) (sym (after_same r d j)) (within r f.fits j l)) (own_replied e o);
        promised = λ e _ l bar. Rests-lead r (call_logged d) _ _ bar logged-Rests (tt, tt);
        acked = λ e _ bar. Rests-lead r (call_logged d) _ _ bar (put _ (acked_rest r.sc.id (logged_at r d))) tt;
        commits = λ e _ k q bar. Rests-lead r (call_logged d) _ _ bar (put _ (committed_rest r.sc.id (logged_at r d))) (tt, tt);
        answered = λ e _ l bar. Rests-lead r (call_logged d) _ _ bar logged-Rests (tt, tt);
        passes = λ e bar.
            Rests-lead r (call_logged d) _ _ bar
            (Rests-then logged-Rests (Rests-sweep passed_slot (pass_from (logged r d)) (pass_stop (logged r d)) (logged r d).window (let x = n.window in omega arith) passed_rest))
            (pass_silent (logged r d));
      }
