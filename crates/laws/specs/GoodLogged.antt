-- A log completion, and with it every call, keeps a good replica good.
use Rattle.std.proofs.Math.Path.{refl}
use Rattle.std.proofs.Math.Bool.{Bool}
use Rattle.std.specs.Prelude.{not, List, eqb}
use Prim.Native.Nat.{ℕ, ◌+◌, ◌≤◌, ◌<◌}
use native.Mathlib.Omega.{arith}
use Rattle.std.proofs.Math.Dec.{leb}
use Rattle.base.specs.Pick.{pick_both}
use Rattle.base.specs.Scan.{scan, scan_low, scan_high, scan_below}
use Rattle.actions.specs.Actions.{Act}
use Rattle.slots.specs.Slots.{passed_slot, acknowledged_slot}
use Rattle.decide.specs.PrepareReply.{own_reply}
use Rattle.window.specs.Window.{slot_at}
use Rattle.replica.specs.declared.Replica.{Replica}
use Rattle.replica.specs.declared.Done.{Done}
use Rattle.replica.specs.Record.{Outcome, place, number}
use Rattle.replica.specs.Messages.{or_kept}
use Rattle.replica.specs.Durability.{moved_accept, pass_stop, logged_on, logged_step}
use Rattle.replica.specs.Step.{Call, call_prepare, call_prepare_reply, call_accept, call_accept_reply, call_commit_notice, call_timeout, call_logged, call_offer, call_executed, call_open_read, call_read_reply, does, step}
use Rattle.laws.specs.Leaves.{or_kept_ways}
use Rattle.laws.specs.WaysDurability.{Logs, logged, logged_at, Completes, completes_silent, completes_more, completes_commit, completes_report, passed, pass_from, logged_step_ways}
use Rattle.laws.specs.Counts.{logged_numbers, logged-Fixed}
use Rattle.laws.specs.Good.{Good, Good-after}
use Rattle.laws.specs.GoodSlots.{good_acknowledged, good_committed, good_logged, good_passed, good_sent, good_put, good_sweep}
use Rattle.laws.specs.GoodParts.{numbers_moved}
use Rattle.laws.specs.GoodSteps.{with_slot-Good, reply_on-Good, prepare_good, prepare_reply_good, accept_good, accept_reply_good, commit_notice_good, timeout_good, offer_good, executed_good, open_read_good, read_reply_good}

module _ (Z : Type 0) (r : Replica) (g : Good Z r) where
  -- accept_bar moves to a place of the log
  pub moved_good : (slot : ℕ) → Good Z (moved_accept r slot)
  unfolding moved_accept
  moved_good slot =
      let p : ℕ → Bool = λ i. leb 2 (slot_at r.window i).status in
      let from : ℕ = place r.sc r.sc.accept_bar in
      let f = g.numbers in
      pick_both (Good Z) (not (eqb slot r.sc.accept_bar)) g
      (Good-after Z r _ (record { id = refl; group = refl; start = refl; options = refl })
      (numbers_moved r.sc r.window.len g.numbers (number r.sc (scan p from r.window.len)) r.sc.commit_bar r.sc.exec_bar r.sc.wal_offset
      r.sc.peer_accept_max f.exec f.commit f.log (omega arith) (omega (arith, scan_high p from r.window.len (omega arith))))
      g.window g.keys g.reads g.bars)

  -- commit_bar moves over committed slots, within the log
  pub passed-Good : Good Z (passed r).replica
  unfolding pass_stop
  passed-Good =
      let p : ℕ → Bool = λ i. leb 3 (slot_at r.window i).status in
      let from : ℕ = place r.sc r.sc.commit_bar in
      let to : ℕ = place r.sc r.sc.accept_bar in
      let f = g.numbers in
      Good-after Z r _ (record { id = refl; group = refl; start = refl; options = refl })
      (numbers_moved r.sc r.window.len g.numbers r.sc.accept_bar (number r.sc (scan p from to)) r.sc.exec_bar r.sc.wal_offset r.sc.peer_accept_max
      f.exec (omega (arith, scan_low p from to)) (omega (arith, scan_below p from to r.window.len (omega arith) (omega arith))) f.accept f.accept_log)
      (good_sweep Z r.sc.group (λ i s. passed_slot s) (pass_from r) (pass_stop r) r.window (λ i s q. good_passed Z r.sc.group s q) g.window) g.keys g.reads g.bars

  completed_good : (i slot ballot : ℕ) (after : Replica) (acts : List Act) → i < r.window.len → Completes r i slot ballot after acts → Good Z after
  completed_good i slot ballot _ _ l completes_silent = g
  completed_good i slot ballot _ _ l (completes_more h b f q) =
      with_slot-Good Z r g i _ (good_acknowledged Z r.sc.group r.sc.id (slot_at r.window i) g.numbers.member (g.window.each i l))
  completed_good i slot ballot _ _ l (completes_commit h b f q) =
      with_slot-Good Z r g i _
      (good_committed Z r.sc.group (acknowledged_slot r.sc.id (slot_at r.window i))
      (good_acknowledged Z r.sc.group r.sc.id (slot_at r.window i) g.numbers.member (g.window.each i l)))
  completed_good i slot ballot _ _ l (completes_report h a b) = g

  -- the size of the log
  pub sized_good : (d : Done) → r.sc.start ≤ d.slot → d.slot < r.sc.start + r.window.len → Good Z (logged r d)
  unfolding logged_on
  sized_good d l u =
      Good-after Z r (logged r d) (logged-Fixed r d) (logged_numbers r d g.numbers)
      (good_put Z r.sc.group r.window (place r.sc d.slot) _
      (good_logged Z r.sc.group r.sc.wal_offset (slot_at r.window (place r.sc d.slot)) (g.window.each (place r.sc d.slot) (omega arith))) g.window)
      g.keys g.reads g.bars

  logged_in : (d : Done) → r.sc.start ≤ d.slot → d.slot < r.sc.start + r.window.len → place r.sc d.slot < (logged r d).window.len
  unfolding logged_on
  logged_in d l u = omega arith

module _ (Z : Type 0) (r : Replica) (g : Good Z r) where
  logged_good : (n : ℕ) (d : Done) → Good Z (logged_step r n d).replica
  logged_good n d =
      let r' : Replica = logged r d in
      let i : ℕ = place r.sc d.slot in
      let g' : Logs r d → Good Z (logged r d) = λ f. sized_good Z r g d f.low f.high in
      let at : Logs r d → place r.sc d.slot < (logged r d).window.len = λ f. logged_in Z r g d f.low f.high in
      logged_step_ways (λ (o : Outcome). Good Z o.replica) r n d (λ a h z. g) (λ f z. g' f)
      (λ f e o. reply_on-Good Z r' (g' f) (λ (o : Outcome). Good Z (or_kept r o).replica) r'.sc.id (own_reply r'.sc (logged_at r d) d.slot) (g' f).numbers.member
      (good_sent Z r'.sc.group (logged_at r d) ((g' f).window.each i (at f)))
      (λ a h. or_kept_ways (λ (o : Outcome). Good Z o.replica) r a r' (λ z. g' f) (λ z. g)) (λ after acts p. p))
      (λ f e h l p. g' f) (λ f e after acts c. moved_good Z after (completed_good Z r' (g' f) i d.slot d.ballot after acts (at f) c) d.slot) (λ f e b. passed-Good Z r' (g' f))

  -- every call
  does-Good : (n : ℕ) (c : Call) → Good Z (does r n c).replica
  does-Good n (call_prepare peer trigger ballot) = prepare_good Z r g n peer trigger ballot
  does-Good n (call_prepare_reply peer m) = prepare_reply_good Z r g n peer m
  does-Good n (call_accept peer slot ballot b) = accept_good Z r g n peer slot ballot b
  does-Good n (call_accept_reply peer slot ballot) = accept_reply_good Z r g n peer slot ballot
  does-Good n (call_commit_notice peer ballot bar) = commit_notice_good Z r g n peer ballot bar
  does-Good n (call_timeout source) = timeout_good Z r g n source
  does-Good n (call_logged d) = logged_good n d
  does-Good n (call_offer b) = offer_good Z r g n b
  does-Good n (call_executed slot) = executed_good Z r g n slot
  does-Good n (call_open_read id count keys) = open_read_good Z r g n id count keys
  does-Good n (call_read_reply peer id from_leader reply) = read_reply_good Z r g n peer id from_leader reply

  pub step-Good : (n : ℕ) (c : Call) → Good Z (step r n c).replica
  step-Good n c =
      let h = does-Good n c in
      record { numbers = h.numbers; window = h.window; keys = h.keys; reads = h.reads; bars = h.bars }
