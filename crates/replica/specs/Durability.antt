-- 002, durability.rs: log completions.
use Rattle.std.specs.Prelude.{false, not, ◌&&◌, List, [], ◌∷◌, ◌++◌, ℕ, ltb, leb, eqb}
use Rattle.base.specs.Pick.{pick}
use Rattle.base.specs.Gather.{gather}
use Rattle.base.specs.Scan.{scan}
use Rattle.actions.specs.declared.Action.TheVariants.{CommitNotice}
use Rattle.actions.specs.Actions.{Act, bare}
use Rattle.slots.specs.declared.Slot.{Slot}
use Rattle.slots.specs.Slots.{accepting, committed, logged_slot, passed_slot}
use Rattle.decide.specs.declared.Scalars.{Scalars}
use Rattle.decide.specs.Scalars.{leads, notifies, with_accept_bar, with_commit_bar, with_log_size}
use Rattle.decide.specs.Decide.{decide_promised, is_stale, decide_accepted}
use Rattle.decide.specs.PrepareReply.{own_reply}
use Rattle.window.specs.Window.{slot_at, put_slot, sweep}
use Rattle.window.specs.Acts.{pass_acts}
use Rattle.replica.specs.declared.Replica.{Replica}
use Rattle.replica.specs.declared.Entry.{Entry}
use Rattle.replica.specs.declared.Entry.TheVariants.{PrepareBal, AcceptData, CommitSlot}
use Rattle.replica.specs.declared.Done.{Done}
use Rattle.replica.specs.Record.{Outcome, kept, settled, with_window, place, number, log_end}
use Rattle.replica.specs.Fit.{ready, unready}
use Rattle.replica.specs.Messages.{or_kept, reply_on}

-- 01's numbers of the entries
abbrev pub entry_number : Entry → ℕ
entry_number PrepareBal = 1
entry_number AcceptData = 2
entry_number CommitSlot = 3

-- the slot s stands at place i: the leader answers itself for slots up to its endprep, a follower answers the source; a strict replica's silence
-- is `is_stale`
unfoldable pub prepared_done : Replica → ℕ → ℕ → ℕ → Slot → Outcome
prepared_done r i slot ballot s =
    pick (is_stale r.sc s ballot false) (kept 0 r)
    (pick (leads r.sc)
    (pick (s.leader.present && leb slot s.leader.endprep) (reply_on r r.sc.id (own_reply r.sc s slot)) (kept 0 r))
    (settled r r.window i slot (decide_promised r.sc s slot)))

-- "update index of the first non-accepting instance", where the slot logged is at accept_bar
unfoldable pub moved_accept : Replica → ℕ → Replica
moved_accept r slot =
    pick (not (eqb slot r.sc.accept_bar)) r
    (with_window r
    (with_accept_bar r.sc
    (number r.sc (scan (λ i. leb accepting (slot_at r.window i).status) (place r.sc r.sc.accept_bar) r.window.len)))
    r.window)

abbrev pub then_moved : ℕ → Outcome → Outcome
then_moved slot o =
    pick (not (eqb o.answer 0)) o (record { answer = 0; replica = moved_accept o.replica slot; actions = o.actions })

unfoldable pub accepted_done : Replica → ℕ → ℕ → ℕ → Slot → Outcome
accepted_done r i slot ballot s = then_moved slot (settled r r.window i slot (decide_accepted r.sc s slot ballot))

-- "if I'm the leader and urgent CommitNotice is on", once the end of the log is committed
abbrev pub notice_acts : Scalars → ℕ → ℕ → List Act
notice_acts sc bar end =
    pick (notifies sc bar end)
    (bare (CommitNotice (record { ballot = sc.bal_max_seen; bar = bar })) ∷ [])
    []

-- "update index of the first non-committed instance": commit_bar walks from place `from` to `stop`. The source's notice stands inside the loop,
-- after a turn that brings commit_bar to the log end. `stop` is not past the log end, so that is the last turn or none: one notice after the
-- loop, if it made a turn, is the same (`notice_inside` of CompletionLaws)
unfoldable pub pass_on : Replica → ℕ → ℕ → Outcome
pass_on r from stop =
    record {
      answer = 0;
      replica = with_window r (with_commit_bar r.sc (number r.sc stop)) (sweep (λ i s. passed_slot s) from stop r.window);
      actions =
          gather (λ i. pass_acts (number r.sc i) (slot_at r.window i)) from stop
          ++ pick (eqb from stop) [] (notice_acts r.sc (number r.sc stop) (log_end r));
    }

unfoldable pub pass_stop : Replica → ℕ
pass_stop r =
    scan (λ i. leb committed (slot_at r.window i).status) (place r.sc r.sc.commit_bar) (place r.sc r.sc.accept_bar)

unfoldable pub committed_done : Replica → ℕ → Outcome
committed_done r slot = pick (not (eqb slot r.sc.commit_bar)) (kept 0 r) (pass_on r (place r.sc r.sc.commit_bar) (pass_stop r))

abbrev pub done_on : Replica → ℕ → ℕ → ℕ → Entry → Outcome
done_on r i slot ballot PrepareBal = prepared_done r i slot ballot (slot_at r.window i)
done_on r i slot ballot AcceptData = accepted_done r i slot ballot (slot_at r.window i)
done_on r i slot ballot CommitSlot = committed_done r slot

-- "update first wal_offset of slot, then update self.wal_offset"
unfoldable pub logged_on : Replica → ℕ → ℕ → Replica
logged_on r i size =
    with_window r (with_log_size r.sc size) (put_slot r.window i (logged_slot r.sc.wal_offset (slot_at r.window i)))

-- "A completion below start changes nothing, not even wal_offset"; a refusal of the entry's handler refuses the whole call
unfoldable pub logged_step : Replica → ℕ → Done → Outcome
logged_step r room d =
    pick (not (ready r room)) (kept (unready r room) r)
    (pick (ltb d.slot r.sc.start) (kept 0 r)
    (pick (leb (log_end r) d.slot) (kept 4 r)
    (pick (ltb d.size r.sc.wal_offset) (kept 6 r)
    (or_kept r (done_on (logged_on r (place r.sc d.slot) d.size) (place r.sc d.slot) d.slot d.ballot d.entry)))))
