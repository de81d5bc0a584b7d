-- 02, Wish 1: "A Prepare or a repeated Accept can make it fall." No other call makes the first slot not committed fall.
use Rattle.std.specs.Prelude.{◌≡◌, Bool, true, false, not, ◌||◌, List, ℕ, ◌≤◌, eqb}
use Rattle.std.proofs.Common.{le_refl, arith, get_or-set_other, le-leb}
use Rattle.std.proofs.Math.Dec.{ltb}
use Rattle.std.proofs.lemmas.Bool.{not-false}
use Rattle.base.specs.Pick.{pick_both}
use Rattle.actions.specs.Actions.{Act}
use Rattle.slots.specs.declared.Slot.{Slot}
use Rattle.slots.specs.Slots.{null_slot, new_book, put_back, prepared_slot, redone_slot, entered_slot, marked_slot, passed_slot, executed_slot}
use Rattle.slots.specs.Statuses.{redone_closed, marked_closed, entered_closed, passed_closed, executed_closed}
use Rattle.decide.specs.declared.Reply.{Reply}
use Rattle.decide.specs.Scalars.{strict}
use Rattle.window.specs.Window.{slot_at, put_slot}
use Rattle.window.specs.Places.{filled_low, filled_old}
use Rattle.window.specs.Rising.{Rises, Rises-self, Rises-then, Rises-filled, Rises-put, Rises-sweep}
use Rattle.replica.specs.declared.Replica.{Replica}
use Rattle.replica.specs.declared.Done.{Done}
use Rattle.replica.specs.Record.{Outcome, place}
use Rattle.replica.specs.Messages.{prepare_book, appended_as, or_kept, clean_reply, reply_on}
use Rattle.replica.specs.Durability.{pass_stop, logged_on}
use Rattle.replica.specs.Added.{moved_exec}
use Rattle.replica.specs.Step.{Call, call_prepare, call_prepare_reply, call_accept, call_accept_reply, call_commit_notice, call_timeout, call_logged, call_offer, call_executed, call_open_read, call_read_reply, does}
use Rattle.laws.specs.Leaves.{done, or_kept_ways}
use Rattle.laws.specs.WaysMessages.{Keeps, KeepsLow, prepare_window, prepare_end, prepare_step_ways, accept_window, accept_step_ways, accept_reply_step_ways}
use Rattle.laws.specs.WaysReply.{grown_window, reply_window, tabled_sc, reply_slot, heard_slot, heard_window, counted_window, adopts_vote, reply_on_ways, prepare_reply_step_ways}
use Rattle.laws.specs.WaysLeadership.{lead_window, lead_from, lead_trigger, lead_end, timeout_step_ways, mark_window, mark_from, mark_end, commit_notice_step_ways}
use Rattle.laws.specs.WaysDurability.{Completes, completes_silent, completes_more, completes_commit, completes_report, logged, pass_from, moved_ways, logged_step_ways}
use Rattle.laws.specs.WaysAdded.{offer_window, offer_step_ways, executed_step_ways, open_read_step_ways, read_reply_step_ways}

-- the two calls in which it may fall, in the base kind; a strict replica keeps what is committed, 02, Wish 6, (d)
abbrev pub may_fall : Bool → Call → Bool
may_fall strict (call_prepare peer trigger ballot) = not strict
may_fall strict (call_prepare_reply peer m) = false
may_fall strict (call_accept peer slot ballot b) = not strict
may_fall strict (call_accept_reply peer slot ballot) = false
may_fall strict (call_commit_notice peer ballot bar) = false
may_fall strict (call_timeout source) = false
may_fall strict (call_logged d) = false
may_fall strict (call_offer b) = false
may_fall strict (call_executed slot) = false
may_fall strict (call_open_read id count keys) = false
may_fall strict (call_read_reply peer id from_leader reply) = false

-- ── what a call that acts makes of the slots ──
module _ (P : Outcome → Type 0) (r : Replica) (peer : ℕ) (m : Reply) where
  appended_rises : Rises r.window (reply_window r peer m)
  appended_rises =
      Rises-then (Rises-filled (appended_as r (place r.sc m.trigger)) r.window _) (Rises-put (grown_window r m) (place r.sc m.slot) _ (λ h. h))

  heard_rises : Rises r.window (heard_window r peer m)
  heard_rises =
      Rises-then appended_rises
      (Rises-put (reply_window r peer m) (place r.sc m.slot) (heard_slot (reply_slot r peer m) m)
      (λ h. pick_both (λ (x : Slot). 3 ≤ x.status) (adopts_vote (reply_slot r peer m) m) h h))

  counted_rises : Rises r.window (counted_window r peer m)
  counted_rises = Rises-then heard_rises (Rises-put (heard_window r peer m) (place r.sc m.trigger) _ (λ h. h))

  -- slots are appended in Preparing, and no status falls
  reply_on-Rises : KeepsLow P r → ((after : Replica) (acts : List Act) → Rises r.window after.window → P (done after acts)) → P (reply_on r peer m)
  reply_on-Rises k on =
      reply_on_ways P r peer m (λ a h z. k a h) (λ f a. on _ _ appended_rises) (λ f h e. on _ _ heard_rises) (λ f h e q. on _ _ counted_rises)
      (λ f h e q b.
      on _ _
      (Rises-then counted_rises
      (Rises-sweep (λ i s. entered_slot (strict (tabled_sc r peer m)) m.ballot s) (place r.sc m.trigger) (reply_window r peer m).len (counted_window r peer m)
      (λ j h. entered_closed (slot_at (counted_window r peer m) j) (strict (tabled_sc r peer m)) m.ballot h))))

-- (d), of one slot
kept_closed : (strict : Bool) (x : Slot) (status : ℕ) → strict ≡ true → 3 ≤ x.status → 3 ≤ put_back strict status x
kept_closed strict x status e h = rw (e, le-leb 3 x.status h) h

module _ (r : Replica) (n : ℕ) where
  abbrev pub Raised : Outcome → Type 0
  Raised o = Rises r.window o.replica.window

  kept_raised : Keeps Raised r
  kept_raised a h = Rises-self r.window

  logged_raised : (d : Done) → Rises r.window (logged r d).window
  unfolding logged_on
  logged_raised d =
      Rises-put r.window (place r.sc d.slot) _
      (λ h. pick_both (λ (x : Slot). 3 ≤ x.status) (eqb (slot_at r.window (place r.sc d.slot)).wal_offset 0 || ltb r.sc.wal_offset (slot_at r.window (place r.sc d.slot)).wal_offset) h h)

  completed_raised : (d : Done) (after : Replica) (acts : List Act) → Completes (logged r d) (place r.sc d.slot) d.slot d.ballot after acts → Rises r.window after.window
  completed_raised d _ _ completes_silent = logged_raised d
  completed_raised d _ _ (completes_more h a b c) = Rises-then (logged_raised d) (Rises-put (logged r d).window (place r.sc d.slot) _ (λ h. h))
  completed_raised d _ _ (completes_commit h a b c) = Rises-then (logged_raised d) (Rises-put (logged r d).window (place r.sc d.slot) _ (λ h. le_refl 3))
  completed_raised d _ _ (completes_report h a b) = logged_raised d

  offer_raised : (x : Slot) → Rises r.window (put_slot (offer_window r) r.window.len x)
  offer_raised x =
      record {
        len = filled_low null_slot r.window _;
        closed = λ j l h.
            rw (get_or-set_other (offer_window r).slots r.window.len j x _ (λ z. omega arith), filled_old null_slot r.window _ j l) h;
      }

  executed_raised : (slot : ℕ) → Rises r.window (moved_exec r (put_slot r.window (place r.sc slot) (executed_slot (slot_at r.window (place r.sc slot))))).window
  unfolding moved_exec
  executed_raised slot = Rises-put r.window (place r.sc slot) _ (λ h. executed_closed (slot_at r.window (place r.sc slot)) h)

  pub other_raised : (c : Call) → may_fall (strict r.sc) c ≡ false → Raised (does r n c)
  other_raised (call_prepare peer trigger ballot) e =
      prepare_step_ways Raised r n peer trigger ballot kept_raised
      (λ f.
      Rises-then (Rises-filled null_slot r.window _)
      (Rises-sweep (λ i s. prepared_slot (strict r.sc) ballot (prepare_book r.sc (prepare_window r trigger) (place r.sc trigger) peer) s) (place r.sc trigger) (prepare_end r trigger)
      (prepare_window r trigger) (λ j h. kept_closed (strict r.sc) (slot_at (prepare_window r trigger) j) 1 (not-false _ e) h)))
  other_raised (call_accept peer slot ballot b) e =
      accept_step_ways Raised r n peer slot ballot b (λ a h. Rises-self r.window)
      (λ f.
      Rises-then (Rises-filled null_slot r.window _)
      (Rises-put (accept_window r slot) (place r.sc slot) _ (λ h. kept_closed (strict r.sc) (slot_at (accept_window r slot) (place r.sc slot)) 2 (not-false _ e) h)))
  other_raised (call_prepare_reply peer m) e =
      prepare_reply_step_ways Raised r n peer m (λ a h z. kept_raised a h) (λ f. reply_on-Rises Raised r peer (clean_reply m) (λ a h. Rises-self r.window) (λ after acts p. p))
  other_raised (call_accept_reply peer slot ballot) e =
      accept_reply_step_ways Raised r n peer slot ballot kept_raised (λ f q. Rises-put r.window (place r.sc slot) _ (λ h. h))
      (λ f q. Rises-put r.window (place r.sc slot) _ (λ h. le_refl 3))
  other_raised (call_commit_notice peer ballot bar) e =
      commit_notice_step_ways Raised r n peer ballot bar kept_raised
      (λ f.
      Rises-then (Rises-filled null_slot r.window (place r.sc bar))
      (Rises-sweep (λ i s. marked_slot s) (mark_from r) (mark_end r ballot bar) (mark_window r bar) (λ j h. marked_closed (slot_at (mark_window r bar) j))))
  other_raised (call_timeout source) e =
      timeout_step_ways Raised r n source kept_raised
      (λ ballot f.
      Rises-then (Rises-filled null_slot r.window _)
      (Rises-sweep (λ i s. redone_slot ballot (new_book (lead_trigger r) (lead_end r)) s) (lead_from r) (lead_window r).len (lead_window r)
      (λ j h. redone_closed (slot_at (lead_window r) j) ballot (new_book (lead_trigger r) (lead_end r)) h)))
  other_raised (call_logged d) e =
      logged_step_ways Raised r n d (λ a h z. kept_raised a h) (λ f z. logged_raised d)
      (λ f e o.
      reply_on-Rises (λ (o : Outcome). Raised (or_kept r o)) (logged r d) (logged r d).sc.id _
      (λ a h. or_kept_ways Raised r a (logged r d) (λ z. logged_raised d) (λ z. Rises-self r.window))
      (λ after acts p. Rises-then (logged_raised d) p))
      (λ f e h l p. logged_raised d)
      (λ f e after acts k.
      moved_ways (λ (x : Replica). Rises r.window x.window) after d.slot (completed_raised d after acts k) (λ bar. completed_raised d after acts k))
      (λ f e at.
      Rises-then (logged_raised d)
      (Rises-sweep (λ i s. passed_slot s) (pass_from (logged r d)) (pass_stop (logged r d)) (logged r d).window
      (λ j h. passed_closed (slot_at (logged r d).window j) h)))
  other_raised (call_offer b) e = offer_step_ways Raised r n b kept_raised (λ f. offer_raised _)
  other_raised (call_executed slot) e = executed_step_ways Raised r n slot kept_raised (λ f. executed_raised slot)
  other_raised (call_open_read id count keys) e = open_read_step_ways Raised r n id count keys kept_raised (λ f. Rises-self r.window)
  other_raised (call_read_reply peer id from_leader reply) e =
      read_reply_step_ways Raised r n peer id from_leader reply kept_raised (λ f. Rises-self r.window) (λ f k. Rises-self r.window) (λ f. Rises-self r.window)
      (λ f k. Rises-self r.window) (λ f k. Rises-self r.window)
