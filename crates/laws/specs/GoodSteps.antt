-- A good replica stays good after every call.
use Rattle.std.specs.Prelude.{◌≡◌, List, length}
use Rattle.std.proofs.Math.Path.{refl}
use Rattle.std.proofs.Common.{◌∙◌, arith}
use Rattle.std.proofs.Math.Bool.{Bool, true}
use Prim.Native.Nat.{ℕ, ◌+◌, ◌<◌}
use Rattle.std.proofs.Math.Dec.{eqb}
use Rattle.base.specs.Scan.{scan, scan_high}
use Rattle.batch.specs.declared.Batch.{Batch}
use Rattle.tally.specs.declared.Tally.{Tally}
use Rattle.tally.specs.declared.Read.{Read}
use Rattle.tally.specs.Open.{new_read, with_ack}
use Rattle.actions.specs.Actions.{Act}
use Rattle.slots.specs.declared.Slot.{Slot}
use Rattle.slots.specs.Slots.{new_book, prepared_slot, redone_slot, entered_slot, marked_slot, executed_slot, acknowledged_slot, null_slot}
use Rattle.decide.specs.declared.Reply.{Reply}
use Rattle.decide.specs.Decide.{decide_offer}
use Rattle.decide.specs.Scalars.{strict}
use Rattle.window.specs.declared.Window.{Window}
use Rattle.window.specs.Window.{slot_at, put_slot, first_open}
use Rattle.window.specs.Places.{filled_low, filled_has}
use Rattle.replica.specs.declared.Replica.{Replica}
use Rattle.replica.specs.Record.{Outcome, place, number, log_end}
use Rattle.replica.specs.Messages.{clean, prepare_book, prepare_step, reply_on, clean_reply, prepare_reply_step, accept_step, accept_reply_step}
use Rattle.replica.specs.Leadership.{timeout_step, commit_notice_step}
use Rattle.replica.specs.Quorumread.{open_read_step, read_reply_step}
use Rattle.replica.specs.Added.{moved_exec, offer_step, executed_step}
use Rattle.laws.specs.OfScalars.{Fixed-same, Fixed-then, followed-Fixed, fallen_fixed}
use Rattle.laws.specs.OfFit.{FitNumbers}
use Rattle.laws.specs.Leaves.{done}
use Rattle.laws.specs.WaysMessages.{Keeps, KeepsLow, prepare_window, prepare_end, prepare_step_ways, accept_window, accept_step_ways, Replies, replied_slot, accept_reply_step_ways}
use Rattle.laws.specs.WaysReply.{Answers, grown_window, reply_window, reply_slot, adopts_vote, heard_slot, heard_window, trigger_slot, counted_window, tabled_sc, reply_on_ways, prepare_reply_step_ways, reply_place}
use Rattle.laws.specs.WaysLeadership.{lead_window, lead_from, lead_trigger, lead_end, timeout_step_ways, mark_window, mark_from, mark_end, commit_notice_step_ways}
use Rattle.laws.specs.WaysDurability.{with_slot}
use Rattle.laws.specs.WaysAdded.{offer_window, offer_step_ways, executed_step_ways, open_read_step_ways, read_at, read_place, merged_read, read_reply_step_ways}
use Rattle.laws.specs.Good.{Good, GoodBatch, GoodSlot, GoodWindow, GoodRead, GoodReads, Good-after}
use Rattle.laws.specs.GoodSlots.{good_clean, good_prepared, good_redone, good_noted, good_heard, good_counted, good_entered, good_accepted, good_acknowledged, good_committed, good_marked, good_executed, good_offered, good_put, good_grown, good_sweep, good_appended}
use Rattle.laws.specs.GoodParts.{numbers_more, numbers_followed, numbers_prepared, numbers_moved, numbers_fallen, numbers_led, bars_long, good_keys, good_new, good_merged, good_acked, good_put_read, good_close, good_open}
use Rattle.laws.specs.Appended.{appended_low, appended_has}

module _ (Z : Type 0) (r : Replica) (g : Good Z r) where
  -- the good replica after a call
  abbrev pub After : Outcome → Type 0
  After o = Good Z o.replica

  After-kept : Keeps After r
  After-kept a h = g

  -- ── messages ──
  pub prepare_good : (n peer trigger ballot : ℕ) → After (prepare_step r n peer trigger ballot)
  prepare_good n peer trigger ballot =
      prepare_step_ways After r n peer trigger ballot After-kept
      (λ f.
      let k : ℕ = place r.sc trigger + 1 in
      let w = good_grown Z r.sc.group r.window k (omega (arith, f.low, f.high)) g.window in
      Good-after Z r _ (followed-Fixed r.sc peer ballot)
      (numbers_followed r.sc _ (numbers_more r.sc r.window.len g.numbers _ (filled_low null_slot r.window k) w.room) peer ballot f.peer_is.member)
      (good_sweep Z r.sc.group (λ i s. prepared_slot (strict r.sc) ballot (prepare_book r.sc (prepare_window r trigger) (place r.sc trigger) peer) s) (place r.sc trigger)
      (prepare_end r trigger) (prepare_window r trigger) (λ i s p. good_prepared Z r.sc.group (strict r.sc) ballot _ s p) w)
      g.keys g.reads g.bars)

  pub accept_good : (n peer slot ballot : ℕ) (b : Batch) → After (accept_step r n peer slot ballot b)
  accept_good n peer slot ballot b =
      accept_step_ways After r n peer slot ballot b (λ a h. g)
      (λ f.
      let k : ℕ = place r.sc slot + 1 in
      let w = good_grown Z r.sc.group r.window k (omega (arith, f.low, f.high)) g.window in
      let s : Slot = slot_at (accept_window r slot) (place r.sc slot) in
      Good-after Z r _ (followed-Fixed r.sc peer ballot)
      (numbers_followed r.sc _ (numbers_more r.sc r.window.len g.numbers _ (filled_low null_slot r.window k) w.room) peer ballot f.peer_is.member)
      (good_put Z r.sc.group (accept_window r slot) (place r.sc slot) _
      (good_accepted Z r.sc.group (strict r.sc) peer ballot (clean b) s (good_clean Z b) (w.each (place r.sc slot) (omega (arith, filled_has null_slot r.window k)))) w)
      (good_keys Z true slot (clean b) r.keys g.keys) g.reads g.bars)

  -- one slot written anew, all else as it was
  pub with_slot-Good : (i : ℕ) (s : Slot) → GoodSlot Z r.sc.group s → Good Z (with_slot r i s)
  with_slot-Good i s p =
      Good-after Z r _ (Fixed-same r.sc) g.numbers (good_put Z r.sc.group r.window i s p g.window) g.keys g.reads g.bars

  pub accept_reply_good : (n peer slot ballot : ℕ) → After (accept_reply_step r n peer slot ballot)
  accept_reply_good n peer slot ballot =
      let s : Replies r peer slot ballot → GoodSlot Z r.sc.group (acknowledged_slot peer (replied_slot r slot)) =
      λ f.
      good_acknowledged Z r.sc.group peer (replied_slot r slot) f.peer_is.member
      (g.window.each (place r.sc slot) (omega (arith, f.low, f.high))) in
      accept_reply_step_ways After r n peer slot ballot After-kept (λ f q. with_slot-Good (place r.sc slot) _ (s f))
      (λ f q. with_slot-Good (place r.sc slot) _ (good_committed Z r.sc.group (acknowledged_slot peer (replied_slot r slot)) (s f)))

  -- a PrepareReply that acts, whatever the outcome is wrapped in
  pub reply_on-Good : (P : Outcome → Type 0) (peer : ℕ) (m : Reply) → peer < r.sc.group → GoodBatch Z m.vote.batch → KeepsLow P r
      → ((after : Replica) (acts : List Act) → Good Z after → P (done after acts)) → P (reply_on r peer m)
  reply_on-Good P peer m member vote k on =
      let i : ℕ = place r.sc m.slot in
      let j : ℕ = place r.sc m.trigger in
      let group : ℕ = r.sc.group in
      let a : Answers r m → GoodWindow Z group (grown_window r m) = λ f. good_appended Z group r i j (reply_place r m f) g.window in
      let w : Answers r m → GoodWindow Z group (reply_window r peer m) =
      λ f. good_put Z group (grown_window r m) i _ (good_noted Z group (strict r.sc) peer (slot_at (grown_window r m) i) member ((a f).each i (appended_has r i j))) (a f) in
      let heard : Answers r m → GoodWindow Z group (heard_window r peer m) =
      λ f.
      good_put Z group (reply_window r peer m) i (heard_slot (reply_slot r peer m) m)
      (good_heard Z group (reply_slot r peer m) m vote ((w f).each i (appended_has r i j))) (w f) in
      let counted : Answers r m → GoodWindow Z group (counted_window r peer m) =
      λ f.
      good_put Z group (heard_window r peer m) j _
      (good_counted Z group peer (trigger_slot r peer m) member ((heard f).each j (omega (arith, f.low, f.logged, appended_low r i j)))) (heard f) in
      let fixed = fallen_fixed r.sc r.bars peer m.bar in
      let numbers : Answers r m → FitNumbers (tabled_sc r peer m) (reply_window r peer m).len =
      λ f. numbers_fallen r.sc _ (numbers_more r.sc r.window.len g.numbers _ (appended_low r i j) (w f).room) r.bars peer m.bar in
      let keys = good_keys Z (adopts_vote (reply_slot r peer m) m) m.slot (heard_slot (reply_slot r peer m) m).batch r.keys g.keys in
      let bars : Z → length (Rattle.decide.specs.Bars.with_bar r.sc r.bars peer m.bar).bars ≡ 9 = λ z. bars_long r.sc r.bars peer m.bar ∙ g.bars z in
      reply_on_ways P r peer m (λ a h z. k a h)
      (λ f a. on _ _ (Good-after Z r _ fixed (numbers f) (w f) g.keys g.reads bars))
      (λ f h e. on _ _ (Good-after Z r _ fixed (numbers f) (heard f) keys g.reads bars))
      (λ f h e q. on _ _ (Good-after Z r _ fixed (numbers f) (counted f) keys g.reads bars))
      (λ f h e q b. on _ _
      (Good-after Z r _ (Fixed-then _ _ _ fixed (record { id = refl; group = refl; start = refl; options = refl }))
      (numbers_prepared (tabled_sc r peer m) (reply_window r peer m).len (numbers f) m.ballot)
      (good_sweep Z group (λ i s. entered_slot (strict (tabled_sc r peer m)) m.ballot s) j (reply_window r peer m).len (counted_window r peer m) (λ i s p. good_entered Z group (strict (tabled_sc r peer m)) m.ballot s p) (counted f)) keys g.reads bars))

  pub prepare_reply_good : (n peer : ℕ) (m : Reply) → After (prepare_reply_step r n peer m)
  prepare_reply_good n peer m =
      prepare_reply_step_ways After r n peer m (λ a h z. g)
      (λ f. reply_on-Good After peer (clean_reply m) f.peer_is.member (good_clean Z m.vote.batch) (λ a h. g) (λ after acts p. p))

  -- ── leadership ──
  pub timeout_good : (n source : ℕ) → After (timeout_step r n source)
  timeout_good n source =
      timeout_step_ways After r n source After-kept
      (λ ballot f.
      let k : ℕ = first_open r.window + 1 in
      let w = good_grown Z r.sc.group r.window k (omega (arith, f.room)) g.window in
      Good-after Z r _ (record { id = refl; group = refl; start = refl; options = refl })
      (numbers_led r.sc _ (lead_trigger r) ballot (numbers_more r.sc r.window.len g.numbers _ (filled_low null_slot r.window k) w.room))
      (good_sweep Z r.sc.group (λ i s. redone_slot ballot (new_book (lead_trigger r) (lead_end r)) s) (lead_from r) (lead_window r).len (lead_window r)
      (λ i s p. good_redone Z r.sc.group ballot (lead_trigger r) (lead_end r) s p) w)
      g.keys g.reads (λ z. refl))

  pub commit_notice_good : (n peer ballot bar : ℕ) → After (commit_notice_step r n peer ballot bar)
  commit_notice_good n peer ballot bar =
      commit_notice_step_ways After r n peer ballot bar After-kept
      (λ f.
      let w = good_grown Z r.sc.group r.window (place r.sc bar) (omega (arith, f.high)) g.window in
      Good-after Z r _ (Fixed-same r.sc)
      (numbers_more r.sc r.window.len g.numbers _ (filled_low null_slot r.window (place r.sc bar)) w.room)
      (good_sweep Z r.sc.group (λ i s. marked_slot s) (mark_from r) (mark_end r ballot bar) (mark_window r bar) (λ i s p. good_marked Z r.sc.group s p) w)
      g.keys g.reads g.bars)

  -- ── the added calls ──
  pub offer_good : (n : ℕ) (b : Batch) → After (offer_step r n b)
  unfolding decide_offer
  offer_good n b =
      offer_step_ways After r n b After-kept
      (λ f.
      let k : ℕ = r.window.len + 1 in
      let w = good_grown Z r.sc.group r.window k (omega (arith, f.room)) g.window in
      Good-after Z r _ (Fixed-same r.sc) (numbers_more r.sc r.window.len g.numbers _ (filled_low null_slot r.window k) w.room)
      (good_put Z r.sc.group (offer_window r) r.window.len _ (good_offered Z r.sc.group (strict r.sc) r.sc.bal_prepared (clean b) (good_clean Z b)) w)
      (good_keys Z true (log_end r) (clean b) r.keys g.keys) g.reads g.bars)

  pub executed_good : (n slot : ℕ) → After (executed_step r n slot)
  unfolding moved_exec
  executed_good n slot =
      executed_step_ways After r n slot After-kept
      (λ f.
      let i : ℕ = place r.sc slot in
      let w : Window = put_slot r.window i (executed_slot (slot_at r.window i)) in
      let p : ℕ → Bool = λ k. eqb (slot_at w k).status 4 in
      let from : ℕ = place r.sc r.sc.exec_bar in
      let to : ℕ = place r.sc r.sc.commit_bar in
      let f' = g.numbers in
      Good-after Z r _ (record { id = refl; group = refl; start = refl; options = refl })
      (numbers_moved r.sc r.window.len g.numbers r.sc.accept_bar r.sc.commit_bar (number r.sc (scan p from to)) r.sc.wal_offset r.sc.peer_accept_max
      (omega arith) (omega (arith, scan_high p from to (omega arith))) f'.log f'.accept f'.accept_log)
      (good_put Z r.sc.group r.window i _ (good_executed Z r.sc.group _ (g.window.each i (omega (arith, f.low, f.high)))) g.window) g.keys g.reads
      g.bars)

  -- ── reads ──
  pub open_read_good : (n id count : ℕ) (keys : List ℕ) → After (open_read_step r n id count keys)
  open_read_good n id count keys =
      open_read_step_ways After r n id count keys After-kept
      (λ f. Good-after Z r _ (Fixed-same r.sc) g.numbers g.window g.keys
      (good_open Z r.sc.group r.reads (new_read id count keys) f.room (good_new Z r.sc.group id count keys f.few) g.reads) g.bars)

  pub read_reply_good : (n peer id : ℕ) (from_leader : Bool) (reply : Tally) → After (read_reply_step r n peer id from_leader reply)
  read_reply_good n peer id from_leader reply =
      let i : ℕ = read_place r id in
      let d : Read = read_at r (read_place r id) in
      let group : ℕ = r.sc.group in
      let reads : (rs : Rattle.tally.specs.declared.Reads.Reads) → GoodReads Z group rs → Good Z (Rattle.replica.specs.Quorumread.with_reads r rs) =
      λ rs p. Good-after Z r _ (Fixed-same r.sc) g.numbers g.window g.keys p g.bars in
      let closes = reads (Rattle.tally.specs.Open.close_read r.reads i) (good_close Z group r.reads i g.reads) in
      let stays : (d : Read) → GoodRead Z group d → Good Z (Rattle.replica.specs.Quorumread.with_reads r (Rattle.tally.specs.Open.put_read r.reads i d)) =
      λ d p. reads _ (good_put_read Z group r.reads i d p g.reads) in
      read_reply_step_ways After r n peer id from_leader reply After-kept (λ f. closes) (λ f k. closes) (λ f. stays d (g.reads.each i f.known))
      (λ f k. stays (with_ack (merged_read d reply k) peer)
      (good_acked Z group (merged_read d reply k) peer f.member (good_merged Z group d reply k (g.reads.each i f.known))))
      (λ f k. stays (merged_read d reply k) (good_merged Z group d reply k (g.reads.each i f.known)))
