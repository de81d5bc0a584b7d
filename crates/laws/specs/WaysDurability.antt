-- The ways that a log completion goes.
use Rattle.std.specs.Prelude.{◌≡◌, true, false, not, ◌&&◌, List, [], ◌++◌, ℕ, ◌≤◌, ◌<◌, ltb, leb, eqb}
use Rattle.std.proofs.Math.Path.{refl}
use Rattle.std.proofs.Common.{sym, ap, subst, ◌∙◌, arith}
use borrow.Author.Tests.{ltb-true, ltb-false, leb-true, leb-false, le-leb, eqb-true, eq-eqb, not-true, not-false}
use Rattle.base.specs.Pick.{pick, pick_both, pick_cases, and_left, and_right, and_make, clash}
use Rattle.base.specs.Gather.{gather}
use Rattle.members.specs.Sets.{count_in}
use Rattle.actions.specs.Actions.{Act, says_acts}
use Rattle.slots.specs.declared.Slot.{Slot}
use Rattle.slots.specs.Slots.{passed_slot, acknowledged_slot}
use Rattle.decide.specs.declared.Scalars.{Scalars}
use Rattle.decide.specs.Decide.{Decided}
use Rattle.decide.specs.Scalars.{leads, quorum, with_bars}
use Rattle.decide.specs.Decide.{is_stale}
use Rattle.decide.specs.PrepareReply.{own_reply}
use Rattle.window.specs.declared.Window.{Window}
use Rattle.window.specs.Window.{slot_at, put_slot, sweep}
use Rattle.window.specs.Acts.{pass_acts}
use Rattle.replica.specs.declared.Replica.{Replica}
use Rattle.replica.specs.declared.Entry.{Entry}
use Rattle.replica.specs.declared.Entry.TheVariants.{PrepareBal, AcceptData, CommitSlot}
use Rattle.replica.specs.declared.Done.{Done}
use Rattle.replica.specs.Record.{Outcome, kept, noting, settled, with_window, place, number, log_end}
use Rattle.replica.specs.Fit.{fit, ready, unready}
use Rattle.replica.specs.Messages.{or_kept, reply_on}
use Rattle.replica.specs.Durability.{entry_number, prepared_done, moved_accept, then_moved, accepted_done, notice_acts, pass_on, pass_stop, committed_done, done_on, logged_on, logged_step}
use Rattle.laws.specs.Leaves.{done, put_back, settled-silent}
use Rattle.laws.specs.OfDecide.{commits, promises, reports, Acknowledges, Heeded, heeded, decide_promised_ways, decide_accepted_ways}
use Rattle.laws.specs.WaysMessages.{KeepsFor, unready-keeping, unready_some, ready-fit}

-- a completion by its parts
abbrev pub completion : Entry → ℕ → ℕ → ℕ → Done
completion entry slot ballot size = record { entry = entry; slot = slot; ballot = ballot; size = size }

-- two kinds of entry are not one
pub other_entry : {A : Type 0} (a b : Entry) → eqb (entry_number a) (entry_number b) ≡ false → a ≡ b → A
other_entry a b n e = absurd (clash (eq-eqb _ _ (ap entry_number e)) n)

-- the replica with the size of its log, and the slot of the completion in it
abbrev pub logged : Replica → Done → Replica
logged r d = logged_on r (place r.sc d.slot) d.size

abbrev pub logged_at : Replica → Done → Slot
logged_at r d = slot_at (logged r d).window (place r.sc d.slot)

pub record Logs (r : Replica) (d : Done) : Type 0 where
  pub fits : fit r ≡ true
  pub low : r.sc.start ≤ d.slot
  pub high : d.slot < log_end r
  pub size : r.sc.wal_offset ≤ d.size

-- a PrepareBal entry on the leader, for a slot up to its endprep: its own reply
pub record OwnReply (r : Replica) (s : Slot) (slot ballot : ℕ) : Type 0 where
  pub heeds : is_stale r.sc s ballot false ≡ false
  pub leading : leads r.sc ≡ true
  pub booked : s.leader.present ≡ true
  pub within : slot ≤ s.leader.endprep

-- a follower's PrepareReply to its source
abbrev pub promise_acts : Scalars → Slot → ℕ → List Act
promise_acts sc s slot = says_acts (promises sc s slot).says (promises sc s slot).keys

prepared_done_ways : (P : Outcome → Type 0) (r : Replica) (i slot ballot : ℕ) → ((OwnReply r (slot_at r.window i) slot ballot → ⊥) → P (kept 0 r))
    → (OwnReply r (slot_at r.window i) slot ballot → P (reply_on r r.sc.id (own_reply r.sc (slot_at r.window i) slot)))
    → (Heeded r.sc (slot_at r.window i) ballot false → leads r.sc ≡ false → (slot_at r.window i).replica.present ≡ true
    → P (done r (promise_acts r.sc (slot_at r.window i) slot)))
    → P (prepared_done r i slot ballot (slot_at r.window i))
unfolding prepared_done settled noting
prepared_done_ways P r i slot ballot zero own told =
    let s : Slot = slot_at r.window i in
    pick_cases P (is_stale r.sc s ballot false) (λ h. zero (λ o. clash h o.heeds))
    (λ h. pick_cases P (leads r.sc)
    (λ a. pick_cases P (s.leader.present && leb slot s.leader.endprep)
    (λ b. own (record { heeds = h; leading = a; booked = and_left s.leader.present _ b; within = leb-true _ _ (and_right s.leader.present _ b) }))
    (λ b. zero (λ o. clash (and_make o.booked (le-leb _ _ o.within)) b)))
    (λ a. decide_promised_ways (λ (d : Decided). P (settled r r.window i slot d)) r.sc s slot (subst P (sym (settled-silent r i slot)) (zero (λ o. clash o.leading a)))
    (λ b. subst (λ (w : Window). P (done (with_window r r.sc w) (promise_acts r.sc s slot))) (sym (put_back r.window i)) (told (heeded r.sc s ballot false h) a b))))

-- an AcceptData entry: what it makes of the replica before accept_bar moves, and what it says
abbrev pub with_slot : Replica → ℕ → Slot → Replica
with_slot r i s = with_window r r.sc (put_slot r.window i s)

pub data Completes (r : Replica) (i slot ballot : ℕ) : Replica → List Act → Type 0 where
  completes_silent : Completes r i slot ballot r []
  completes_more : Heeded r.sc (slot_at r.window i) ballot true → (slot_at r.window i).ballot ≡ r.sc.bal_prepared → Acknowledges r.sc (slot_at r.window i) r.sc.id (slot_at r.window i).ballot
      → count_in (acknowledged_slot r.sc.id (slot_at r.window i)).leader.accept_acks < quorum r.sc
      → Completes r i slot ballot (with_slot r i (acknowledged_slot r.sc.id (slot_at r.window i))) []
  completes_commit : Heeded r.sc (slot_at r.window i) ballot true → (slot_at r.window i).ballot ≡ r.sc.bal_prepared → Acknowledges r.sc (slot_at r.window i) r.sc.id (slot_at r.window i).ballot
      → quorum r.sc ≤ count_in (acknowledged_slot r.sc.id (slot_at r.window i)).leader.accept_acks
      → Completes r i slot ballot (with_slot r i (commits r.sc (slot_at r.window i) r.sc.id slot).slot)
      (says_acts (commits r.sc (slot_at r.window i) r.sc.id slot).says (commits r.sc (slot_at r.window i) r.sc.id slot).keys)
  completes_report : Heeded r.sc (slot_at r.window i) ballot true → leads r.sc ≡ false → (slot_at r.window i).replica.present ≡ true
      → Completes r i slot ballot r (says_acts (reports r.sc (slot_at r.window i) slot).says (reports r.sc (slot_at r.window i) slot).keys)

accepted_done_ways : (P : Outcome → Type 0) (r : Replica) (i slot ballot : ℕ) → P (kept 6 r)
    → ((after : Replica) (acts : List Act) → Completes r i slot ballot after acts → P (done (moved_accept after slot) acts))
    → P (accepted_done r i slot ballot (slot_at r.window i))
unfolding accepted_done settled noting
accepted_done_ways P r i slot ballot six on =
    let s : Slot = slot_at r.window i in
    decide_accepted_ways (λ (d : Decided). P (then_moved slot (settled r r.window i slot d))) r.sc s slot ballot
    (subst (λ (o : Outcome). P (then_moved slot o)) (sym (settled-silent r i slot)) (on r [] completes_silent)) six
    (λ h b f q. on _ _ (completes_more h b f q)) (λ h b f q. on _ _ (completes_commit h b f q))
    (λ h a b. subst (λ (w : Window). P (done (moved_accept (with_window r r.sc w) slot) (says_acts (reports r.sc s slot).says (reports r.sc s slot).keys)))
    (sym (put_back r.window i)) (on _ _ (completes_report h a b)))

-- accept_bar stays or moves, and nothing else
pub moved_ways : (P : Replica → Type 0) (r : Replica) (slot : ℕ) → P r
    → ((bar : ℕ) → P (with_window r (with_bars r.sc bar r.sc.commit_bar r.sc.exec_bar) r.window)) → P (moved_accept r slot)
unfolding moved_accept
moved_ways P r slot p q = pick_both P (not (eqb slot r.sc.accept_bar)) p (q _)

-- a CommitSlot entry at commit_bar: the bar passes the committed slots
abbrev pub pass_from : Replica → ℕ
pass_from r = place r.sc r.sc.commit_bar

abbrev pub passed : Replica → Outcome
passed r =
    done
    (with_window r (with_bars r.sc r.sc.accept_bar (number r.sc (pass_stop r)) r.sc.exec_bar)
    (sweep (λ i s. passed_slot s) (pass_from r) (pass_stop r) r.window))
    (gather (λ i. pass_acts (number r.sc i) (slot_at r.window i)) (pass_from r) (pass_stop r)
    ++ pick (eqb (pass_from r) (pass_stop r)) [] (notice_acts r.sc (number r.sc (pass_stop r)) (log_end r)))

committed_done_ways : (P : Outcome → Type 0) (r : Replica) (slot : ℕ) → P (kept 0 r) → (slot ≡ r.sc.commit_bar → P (passed r)) → P (committed_done r slot)
unfolding committed_done pass_on
committed_done_ways P r slot zero on =
    pick_cases P (not (eqb slot r.sc.commit_bar)) (λ a. zero) (λ a. on (eqb-true _ _ (not-false _ a)))

module _ (P : Outcome → Type 0) (r : Replica) (n : ℕ) (d : Done) where
  pub logged_step_ways : KeepsFor (d.slot < r.sc.start) P r
      → (Logs r d → (d.entry ≡ PrepareBal → OwnReply (logged r d) (logged_at r d) d.slot d.ballot → ⊥) → P (done (logged r d) []))
      → (Logs r d → d.entry ≡ PrepareBal → OwnReply (logged r d) (logged_at r d) d.slot d.ballot
      → P (or_kept r (reply_on (logged r d) (logged r d).sc.id (own_reply (logged r d).sc (logged_at r d) d.slot))))
      → (Logs r d → d.entry ≡ PrepareBal → Heeded (logged r d).sc (logged_at r d) d.ballot false → leads (logged r d).sc ≡ false → (logged_at r d).replica.present ≡ true
      → P (done (logged r d) (promise_acts (logged r d).sc (logged_at r d) d.slot)))
      → (Logs r d → d.entry ≡ AcceptData → (after : Replica) (acts : List Act) → Completes (logged r d) (place r.sc d.slot) d.slot d.ballot after acts
      → P (done (moved_accept after d.slot) acts))
      → (Logs r d → d.entry ≡ CommitSlot → d.slot ≡ (logged r d).sc.commit_bar → P (passed (logged r d)))
      → P (logged_step r n d)
  unfolding logged_step
  logged_step_ways k idle own told moved pass =
      pick_cases P (not (ready r n)) (λ a. k (unready r n) (unready-keeping r n (not-true _ a)) (λ z. absurd (unready_some r n z)))
      (λ a. pick_cases P (ltb d.slot r.sc.start) (λ b. k 0 refl (λ z. ltb-true _ _ b))
      (λ b. pick_cases P (leb (log_end r) d.slot) (λ c. k 4 refl (λ z. absurd (omega arith)))
      (λ c. pick_cases P (ltb d.size r.sc.wal_offset) (λ e. k 6 refl (λ z. absurd (omega arith)))
      (λ e.
      go (record { fits = ready-fit r n (not-false _ a); low = ltb-false _ _ b; high = leb-false _ _ c; size = ltb-false _ _ e }) d.entry refl))))
    where
      go : Logs r d → (e : Entry) → d.entry ≡ e → P (or_kept r (done_on (logged r d) (place r.sc d.slot) d.slot d.ballot e))
      go f PrepareBal e =
          prepared_done_ways (λ (o : Outcome). P (or_kept r o)) (logged r d) (place r.sc d.slot) d.slot d.ballot (λ n. idle f (λ z. n)) (own f e) (told f e)
      go f AcceptData e =
          accepted_done_ways (λ (o : Outcome). P (or_kept r o)) (logged r d) (place r.sc d.slot) d.slot d.ballot (k 6 refl (λ z. absurd (omega arith))) (moved f e)
      go f CommitSlot e = committed_done_ways (λ (o : Outcome). P (or_kept r o)) (logged r d) d.slot (idle f (λ z. other_entry CommitSlot PrepareBal refl (sym e ∙ z))) (pass f e)
