-- 001, leadership.rs: become_a_leader (a timeout) and CommitNotice with advance_commit_bar. check_leader is `followed` and `down_acts`.
use Rattle.std.specs.Prelude.{not, [], ◌∷◌, ◌++◌, ℕ, ◌+◌, ltb, leb, eqb}
use Rattle.base.specs.Pick.{pick}
use Rattle.base.specs.Gather.{gather}
use Rattle.std.specs.declared.option.Option.{Option}
use Rattle.std.specs.declared.option.Option.TheVariants.{None, Some}
use Rattle.members.specs.Ballots.{owns, next_ballot, next_answer}
use Rattle.actions.specs.declared.Action.TheVariants.{Prepare, Heartbeat, StatusUp}
use Rattle.actions.specs.Actions.{bare}
use Rattle.slots.specs.Slots.{new_book, redone_slot, marked_slot}
use Rattle.decide.specs.Scalars.{is_member, is_peer, stepped_up, ignores_timeout}
use Rattle.decide.specs.Bars.{unknown_bars}
use Rattle.window.specs.declared.Window.{Window}
use Rattle.window.specs.Window.{slot_at, grown, sweep, first_open, last_open, mark_stop}
use Rattle.window.specs.Acts.{redo_acts, mark_acts}
use Rattle.replica.specs.declared.Replica.{Replica}
use Rattle.replica.specs.Record.{Outcome, kept, with_window, place, number}
use Rattle.replica.specs.Fit.{ready, unready}

-- ── Timeout: become_a_leader "is ignored if a leader is known and is not the timeout's source, or if disallowed" (`ignores_timeout`) ──

-- "Action order: status up, heartbeat, PrepareBal by rising slot, Prepare." The window w has the trigger slot
unfoldable pub lead_on : Replica → Window → ℕ → ℕ → ℕ → Outcome
lead_on r w trigger endprep ballot =
    record {
      answer = 0;
      replica =
          record {
            sc = stepped_up r.sc trigger ballot;
            bars = unknown_bars r.bars.own;
            window = sweep (λ i s. redone_slot ballot (new_book trigger endprep) s) (place r.sc r.sc.exec_bar) w.len w;
            keys = r.keys;
            reads = r.reads;
            summary = r.summary;
          };
      actions =
          bare StatusUp ∷ bare Heartbeat
          ∷ (gather (λ i. redo_acts (number r.sc i) ballot (slot_at w i)) (place r.sc r.sc.exec_bar) w.len
          ++ (bare (Prepare (record { trigger = trigger; ballot = ballot })) ∷ []));
    }

-- 8: no ballot left, then "first uncommitted slot below exec_bar"; "With no uncommitted slot it appends one null slot" (5)
unfoldable pub step_up : Replica → Option ℕ → Outcome
step_up r None = kept (next_answer None) r
step_up r (Some b) =
    let first : ℕ = first_open r.window in
    let last : ℕ = last_open r.window in
    pick (ltb (number r.sc first) r.sc.exec_bar) (kept 8 r)
    (pick (leb 64 first) (kept 5 r)
    (lead_on r (grown r.window (first + 1)) (number r.sc first) (number r.sc last) b))

unfoldable pub timeout_step : Replica → ℕ → ℕ → Outcome
timeout_step r room source =
    pick (not (ready r room)) (kept (unready r room) r)
    (pick (not (is_member r.sc source)) (kept 2 r)
    (pick (ignores_timeout r.sc source) (kept 0 r)
    (step_up r (next_ballot r.sc.bal_max_seen r.sc.id))))

-- ── CommitNotice: advance_commit_bar "needs ballot = bal_max_seen, fills null slots below the told bar, marks, and stops at the first slot
-- with a smaller ballot or a status below Accepting" ──
-- the window w has every slot below the told bar: the slots at places `from` to `stop` are marked
unfoldable pub mark_on : Replica → Window → ℕ → ℕ → Outcome
mark_on r w from stop =
    record {
      answer = 0;
      replica = with_window r r.sc (sweep (λ i s. marked_slot s) from stop w);
      actions = gather (λ i. mark_acts (number r.sc i) (slot_at w i)) from stop;
    }

unfoldable pub commit_notice_step : Replica → ℕ → ℕ → ℕ → ℕ → Outcome
commit_notice_step r room peer ballot bar =
    pick (not (ready r room)) (kept (unready r room) r)
    (pick (not (is_peer r.sc peer)) (kept 2 r)
    (pick (not (owns ballot peer)) (kept 3 r)
    (pick (not (eqb ballot r.sc.bal_max_seen)) (kept 0 r)
    (pick (leb bar r.sc.commit_bar) (kept 0 r)
    (pick (ltb (r.sc.start + 64) bar) (kept 5 r)
    (let w : Window = grown r.window (place r.sc bar) in
    mark_on r w (place r.sc r.sc.commit_bar) (mark_stop w ballot (place r.sc r.sc.commit_bar) (place r.sc bar))))))))
