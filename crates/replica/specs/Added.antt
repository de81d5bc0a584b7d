-- 01, "Added calls": offer and executed.
use Rattle.std.specs.Prelude.{not, [], ℕ, ◌+◌, ltb, leb, eqb}
use Rattle.base.specs.Pick.{pick}
use Rattle.base.specs.Scan.{scan}
use Rattle.batch.specs.declared.Batch.{Batch}
use Rattle.batch.specs.Batches.{is_batch}
use Rattle.slots.specs.Slots.{executed, executed_slot}
use Rattle.decide.specs.Scalars.{with_exec_bar}
use Rattle.decide.specs.Decide.{may_offer, decide_offer}
use Rattle.window.specs.declared.Window.{Window}
use Rattle.window.specs.Window.{slot_at, put_slot, grown}
use Rattle.replica.specs.declared.Replica.{Replica}
use Rattle.replica.specs.Record.{Outcome, kept, settled, with_window, place, number, log_end}
use Rattle.replica.specs.Fit.{ready, unready}
use Rattle.replica.specs.Messages.{clean}

-- "Offer: appends a slot in Accepting at bal_prepared"
unfoldable pub offer_step : Replica → ℕ → Batch → Outcome
offer_step r room b =
    pick (not (ready r room)) (kept (unready r room) r)
    (pick (not (is_batch b.id b.count)) (kept 10 r)
    (pick (not (may_offer r.sc)) (kept 9 r)
    (pick (leb 64 r.window.len) (kept 5 r)
    (settled r (grown r.window (r.window.len + 1)) r.window.len (log_end r) (decide_offer r.sc (log_end r) (clean b))))))

-- "then exec_bar moves over Executed slots below commit_bar"
unfoldable pub moved_exec : Replica → Window → Replica
moved_exec r w =
    with_window r
    (with_exec_bar r.sc
    (number r.sc (scan (λ i. eqb (slot_at w i).status executed) (place r.sc r.sc.exec_bar) (place r.sc r.sc.commit_bar))))
    w

-- "Executed: ignored below start; a Committed slot becomes Executed, other statuses stay"
unfoldable pub executed_step : Replica → ℕ → ℕ → Outcome
executed_step r room slot =
    pick (not (ready r room)) (kept (unready r room) r)
    (pick (ltb slot r.sc.start) (kept 0 r)
    (pick (leb (log_end r) slot) (kept 4 r)
    (record {
      answer = 0;
      replica = moved_exec r (put_slot r.window (place r.sc slot) (executed_slot (slot_at r.window (place r.sc slot))));
      actions = [];
    })))
