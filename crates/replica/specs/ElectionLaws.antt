-- The laws of a timeout and of CommitNotice: each way through the code is a case of the definition.
use Rattle.std.specs.Prelude.{◌≡◌, Bool, true, false, not, ℕ, ◌+◌, ◌-◌, ◌≤◌, ◌<◌, ltb, eqb}
use Rattle.std.proofs.Math.Path.{refl, ap}
use Rattle.std.proofs.Common.{sym, ◌∙◌, arith}
use mathlib.Core.List.{List, [], ◌∷◌, ◌++◌}
use Rattle.std.proofs.Math.Nat.{zero-add}
use Rattle.std.proofs.Math.Dec.{leb}
use Rattle.std.proofs.Math.ListN.{length, length-append}
use borrow.Author.Tests.{lt-ltb, le-ltb, le-leb, lt-leb, eq-eqb, ne_eqb}
use Rattle.base.specs.Pick.{pick}
use Rattle.base.specs.Scan.{scan, scan_below}
use Rattle.std.specs.declared.option.Option.{Option}
use Rattle.std.specs.declared.option.Option.TheVariants.{None, Some}
use Rattle.members.specs.Ballots.{next_ballot}
use Rattle.actions.specs.declared.Action.TheVariants.{Prepare, Heartbeat, StatusUp}
use Rattle.actions.specs.Actions.{Act, bare, write_at, put_act}
use Rattle.actions.specs.Laws.{write_then, put_in, length_put, length_write}
use Rattle.slots.specs.declared.LeaderBook.{LeaderBook}
use Rattle.slots.specs.Slots.{new_book, redone_slot, marked_slot, null_slot}
use Rattle.decide.specs.declared.Scalars.{Scalars}
use Rattle.decide.specs.declared.PeerBars.{PeerBars}
use Rattle.decide.specs.Scalars.{stepped_up, ignores_timeout}
use Rattle.decide.specs.Bars.{unknown_bars}
use Rattle.window.specs.declared.Window.{Window}
use Rattle.window.specs.declared.Placed.{Placed}
use Rattle.window.specs.Window.{slot_at, grown, sweep, first_open, mark_stop}
use Rattle.window.specs.SummaryLaws.{Sums, Sums-steady, Sums-filled, Sums-redone, Sums-marked, marked_few}
use Rattle.window.specs.Acts.{redo_acts, mark_acts}
use Rattle.window.specs.Sweeps.{sweep_acts, Swept}
use Rattle.window.specs.Bounded.{filled_in, last_open_in, stop_in, passes}
use Rattle.window.specs.BoundedLaws.{filled_in_lem, last_open_in_lem, stop_in_lem}
use Rattle.window.specs.Places.{filled_low, filled_has, filled_most}
use Rattle.window.specs.Laws.{first_open_within, mark_stop_stop, mark_stop_low, mark_stop_within, mark_stop_may, passes_status}
use Rattle.replica.specs.declared.Replica.{Replica}
use Rattle.replica.specs.Record.{Outcome, kept, summed, with_window}
use Rattle.replica.specs.Leadership.{lead_on, step_up, timeout_step, mark_on, commit_notice_step}
use Rattle.replica.specs.Step.{Told}
use Rattle.replica.specs.Admit.{from_member, from_owner}
use Rattle.replica.specs.AdmitLaws.{gate_member, gate_owner, gate_shut, gate_open, Ready}
use Rattle.replica.specs.ActingLaws.{acted, with_summary}
use Rattle.replica.specs.ElectionFits.{StepFits, LeadFits, MarkFits}

-- ── a timeout ──
module _ (r : Replica) (room source : ℕ) where
  abbrev until_step_up : Bool → Outcome
  until_step_up ignored = pick ignored (kept 0 r) (step_up r (next_ballot r.sc.bal_max_seen r.sc.id))

  timeout_gate : timeout_step r room source
      ≡ pick (not (eqb (from_member r room source) 0)) (kept (from_member r room source) r) (until_step_up (ignores_timeout r.sc source))
  unfolding timeout_step
  timeout_gate = gate_member r room source (until_step_up (ignores_timeout r.sc source))

  module _ (n : ℕ) (e : n ≡ from_member r room source) where
    pub timeout_refused : (n ≡ 0 → ⊥) → timeout_step r room source ≡ kept n r
    timeout_refused h = gate_shut (from_member r room source) n r (until_step_up (ignores_timeout r.sc source)) timeout_gate e h

    module _ (h : n ≡ 0) (b : Bool) (f : b ≡ ignores_timeout r.sc source) where
      timeout_on : timeout_step r room source ≡ until_step_up b
      timeout_on =
          gate_open (from_member r room source) n r (until_step_up (ignores_timeout r.sc source)) timeout_gate e h ∙ ap until_step_up (sym f)

      pub timeout_ignored : b ≡ true → timeout_step r room source ≡ kept 0 r
      timeout_ignored g = timeout_on ∙ ap until_step_up g

      pub timeout_goes : {x y : Option ℕ} → b ≡ false → x ≡ next_ballot r.sc.bal_max_seen r.sc.id → x ≡ y → timeout_step r room source ≡ step_up r y
      timeout_goes g p q = timeout_on ∙ ap until_step_up g ∙ ap (step_up r) (sym p ∙ q)

pub step_spent : (r : Replica) → step_up r None ≡ kept 8 r
unfolding step_up
step_spent r = refl

-- ── the trigger slot: the first open one, as the summary has it ──
module _ (r : Replica) (room : List ℕ) (f : StepFits r r.window room) where
  abbrev trigger : ℕ
  trigger = r.summary.first

  found : trigger ≡ r.sc.start + first_open r.window
  found = f.sum.first

  pub found_within : trigger ≤ r.sc.start + r.window.len
  found_within = omega (arith, found, first_open_within r.window)

  place_is : trigger - r.sc.start ≡ first_open r.window
  place_is = omega (arith, found)

  module _ (ballot : ℕ) where
    pub step_below : trigger < r.sc.exec_bar → step_up r (Some ballot) ≡ kept 8 r
    unfolding step_up
    step_below h = rw (lt-ltb (r.sc.start + first_open r.window) r.sc.exec_bar (omega (arith, found)))

    module _ (h : r.sc.exec_bar ≤ trigger) where
      pub step_full : 64 ≤ trigger - r.sc.start → step_up r (Some ballot) ≡ kept 5 r
      unfolding step_up
      step_full q =
          rw (le-ltb (r.sc.start + first_open r.window) r.sc.exec_bar (omega (arith, found)), le-leb 64 (first_open r.window) (omega (arith, place_is)))

      pub step_on : {last : ℕ} {w : Window} → trigger - r.sc.start < 64 → last ≡ last_open_in r.window → w ≡ filled_in null_slot r.window (trigger - r.sc.start + 1)
          → step_up r (Some ballot) ≡ lead_on r w trigger (r.sc.start + last) ballot
      unfolding step_up
      step_on q g e =
          rw (e, filled_in_lem null_slot r.window (trigger - r.sc.start + 1) (omega arith), g, last_open_in_lem r.window f.within, place_is, le-ltb (r.sc.start + first_open r.window) r.sc.exec_bar (omega (arith, found)), lt-leb 64 (first_open r.window) (omega (arith, place_is)), found)

-- what an admitted call hands on, and what the window with the trigger slot keeps of it
pub Ready-fits : (r : Replica) (room : List ℕ) → Ready r (length room) → StepFits r r.window room
Ready-fits r room f =
    record {
      long = f.long;
      low = f.low;
      within = f.within;
      exec_low = f.exec_low;
      exec_high = omega (arith, f.exec_high, f.commit_high);
      exec_commit = f.exec_high;
      commit_high = f.commit_high;
      sum = f.sum;
    }

pub lead_fits : (r : Replica) (w : Window) (room : List ℕ) {n : ℕ} → StepFits r r.window room → n ≤ 64 → w ≡ filled_in null_slot r.window n
    → LeadFits r w r.summary.first room
lead_fits r w room {n} f h e =
    let g : w ≡ grown r.window n = e ∙ filled_in_lem null_slot r.window n h in
    let l : w.len ≡ (grown r.window n).len = ap (λ (v : Window). v.len) g in
    record {
      fits = record {
        long = f.long;
        low = f.low;
        within = omega (arith, filled_most null_slot r.window n 64 f.within h);
        exec_low = f.exec_low;
        exec_high = omega (arith, f.exec_high, filled_low null_slot r.window n);
        exec_commit = f.exec_commit;
        commit_high = omega (arith, f.commit_high, filled_low null_slot r.window n);
        sum = rw g (Sums-filled r.sc null_slot r.window n r.summary (omega arith) (omega (arith, f.commit_high)) f.sum);
      };
      named = refl;
    }

-- ── "status up, heartbeat, PrepareBal by rising slot, Prepare" ──
module _ (r : Replica) (w : Window) (trigger endprep ballot : ℕ) where
  pub lead_told : {room a b d z : List ℕ} {p : Placed} {book : LeaderBook} {s : Scalars} {t : PeerBars} → LeadFits r w trigger room
      → a ≡ put_act room 0 (bare StatusUp) → b ≡ put_act a 1 (bare Heartbeat) → book ≡ new_book trigger endprep
      → Swept (λ i s. redone_slot ballot book s) (λ i s. redo_acts (r.sc.start + i) ballot s) (r.sc.exec_bar - r.sc.start) w.len 2 w b p d
      → z ≡ put_act d p.next (bare (Prepare (record { trigger = trigger; ballot = ballot }))) → s ≡ stepped_up r.sc trigger ballot → t ≡ unknown_bars r.bars.own
      → Told (summed (lead_on r w trigger endprep ballot))
      (record { answer = 0; count = p.next + 1; replica = record { sc = s; bars = t; window = p.window; keys = r.keys; reads = r.reads; summary = record { first = trigger; accepting = 0 } } }) room z
  unfolding lead_on
  lead_told {room} {a} {b} {d} {z} {p} {book} {s} {t} lead x y k q u v m =
      let f = lead.fits in
      let redo : List Act = sweep_acts (λ i s. redo_acts (r.sc.start + i) ballot s) (r.sc.exec_bar - r.sc.start) w.len w in
      let two : List Act = bare StatusUp ∷ bare Heartbeat ∷ [] in
      let ask : List Act = bare (Prepare (record { trigger = trigger; ballot = ballot })) ∷ [] in
      let la : length a ≡ length room = ap length x ∙ length_put room 0 (bare StatusUp) in
      let lb : length b ≡ length a = ap length y ∙ length_put a 1 (bare Heartbeat) in
      let ld : length d ≡ length b = ap length q.written ∙ length_write b 2 redo (omega (arith, f, q.next, q.few)) in
      let t2 : b ≡ write_at room 0 two =
      write_then room a b (bare StatusUp ∷ []) (bare Heartbeat ∷ []) 0 1 (omega arith) refl (x ∙ put_in room 0 (bare StatusUp) (omega arith) f.long)
      (y ∙ put_in a 1 (bare Heartbeat) (omega arith) (omega (arith, f.long))) in
      let t3 : d ≡ write_at room 0 (two ++ redo) = write_then room b d two redo 0 2 (omega arith) refl t2 q.written in
      let t4 : z ≡ write_at room 0 ((two ++ redo) ++ ask) =
      write_then room d z (two ++ redo) ask 0 p.next (omega arith) (omega (arith, q.next)) t3
      (u ∙ put_in d p.next _ (omega (arith, f, q.few)) (omega (arith, f.long))) in
      let e : Sums s p.window (record { first = trigger; accepting = 0 }) =
      rw (v, q.window)
      (Sums-steady r.sc (stepped_up r.sc trigger ballot) _ _ refl refl
      (Sums-redone r.sc w r.summary ballot book (r.sc.exec_bar - r.sc.start) lead.named f.sum (omega (arith, f.exec_commit, f.exec_low)))) in
      acted {o = lead_on r w trigger endprep ballot} ((two ++ redo) ++ ask) (record { sc = s; bars = t; window = p.window; keys = r.keys; reads = r.reads; summary = r.summary }) (record { first = trigger; accepting = 0 }) (p.next + 1) refl
      (omega (arith, q.next, length-append redo ask)) t4 (rw (v, m, q.window, k)) e

-- ── CommitNotice ──
module _ (r : Replica) (ballot bar : ℕ) where
  -- the places of commit_bar and of the told bar
  abbrev old : ℕ
  old = r.sc.commit_bar - r.sc.start

  abbrev new : ℕ
  new = bar - r.sc.start

  abbrev after_notice : Outcome
  after_notice =
      pick (not (eqb ballot r.sc.bal_max_seen)) (kept 0 r)
      (pick (leb bar r.sc.commit_bar) (kept 0 r)
      (pick (ltb (r.sc.start + 64) bar) (kept 5 r)
      (mark_on r (grown r.window new) old (mark_stop (grown r.window new) ballot old new))))

  module _ (room peer n : ℕ) (e : n ≡ from_owner r room peer ballot) where
    notice_gate : commit_notice_step r room peer ballot bar ≡ pick (not (eqb (from_owner r room peer ballot) 0)) (kept (from_owner r room peer ballot) r) after_notice
    unfolding commit_notice_step
    notice_gate = gate_owner r room peer ballot after_notice

    pub notice_refused : (n ≡ 0 → ⊥) → commit_notice_step r room peer ballot bar ≡ kept n r
    notice_refused h = gate_shut (from_owner r room peer ballot) n r after_notice notice_gate e h

    module _ (h : n ≡ 0) where
      notice_on : commit_notice_step r room peer ballot bar ≡ after_notice
      notice_on = gate_open (from_owner r room peer ballot) n r after_notice notice_gate e h

      pub notice_other : (ballot ≡ r.sc.bal_max_seen → ⊥) → commit_notice_step r room peer ballot bar ≡ kept 0 r
      notice_other g = notice_on ∙ rw (ne_eqb ballot r.sc.bal_max_seen g)

      module _ (g : ballot ≡ r.sc.bal_max_seen) where
        pub notice_known : bar ≤ r.sc.commit_bar → commit_notice_step r room peer ballot bar ≡ kept 0 r
        notice_known k = notice_on ∙ rw (eq-eqb ballot r.sc.bal_max_seen g, le-leb bar r.sc.commit_bar k)

        module _ (k : r.sc.commit_bar < bar) where
          pub notice_past : r.sc.start + 64 < bar → commit_notice_step r room peer ballot bar ≡ kept 5 r
          notice_past l = notice_on ∙ rw (eq-eqb ballot r.sc.bal_max_seen g, lt-leb bar r.sc.commit_bar k, lt-ltb (r.sc.start + 64) bar l)

          pub notice_marks : {w : Window} {stop : ℕ} → bar ≤ r.sc.start + 64 → w ≡ filled_in null_slot r.window new → stop ≡ stop_in w ballot 2 old new
              → commit_notice_step r room peer ballot bar ≡ mark_on r w old stop
          notice_marks {w} {stop} l p' q' =
              let p : w ≡ grown r.window new = p' ∙ filled_in_lem null_slot r.window new (omega arith) in
              let q : stop ≡ mark_stop w ballot old new = q' ∙ stop_in_lem w old new ballot 2 (omega arith) ∙ sym (mark_stop_stop w ballot old new) in
              notice_on
              ∙ rw (eq-eqb ballot r.sc.bal_max_seen g, lt-leb bar r.sc.commit_bar k, le-ltb (r.sc.start + 64) bar l, ← p, q)

  -- the places that are marked are places of the window, and what was grown is null
  pub mark_fits : {stop : ℕ} (w : Window) (room : List ℕ) → Ready r (length room) → r.sc.commit_bar < bar → bar ≤ r.sc.start + 64
      → w ≡ filled_in null_slot r.window new → stop ≡ stop_in w ballot 2 old new → MarkFits r w old stop room
  mark_fits {stop} w room f h l g e =
      let q : w ≡ grown r.window new = g ∙ filled_in_lem null_slot r.window new (omega arith) in
      let n : w.len ≡ (grown r.window new).len = ap (λ (v : Window). v.len) q in
      let s : stop ≡ mark_stop w ballot old new = e ∙ stop_in_lem w old new ballot 2 (omega arith) ∙ sym (mark_stop_stop w ballot old new) in
      let low = mark_stop_low w ballot old new in
      let high = mark_stop_within w ballot old new (omega arith) in
      record {
        ranged = record { ordered = omega arith; within = omega arith; places = omega arith; long = f.long; low = f.low };
        within = omega (arith, filled_most null_slot r.window new 64 f.within (omega arith));
        high = omega (arith, filled_has null_slot r.window new);
        commit = refl;
        may = λ j a b. mark_stop_may w ballot old new j a (omega (arith, s));
        sum = rw q (Sums-filled r.sc null_slot r.window new r.summary (omega arith) (omega (arith, f.commit_high)) f.sum);
      }

module _ (r : Replica) (w : Window) (from stop : ℕ) {room : List ℕ} (f : MarkFits r w from stop room) where
  marking : (j : ℕ) → r.sc.commit_bar - r.sc.start ≤ j → j < stop → 2 ≤ (slot_at w j).status
  marking j a b = f.may j (omega (arith, f.commit)) b

  -- there are as many Accepting slots to take away as entries were written
  pub mark_few : {after : List ℕ} {p : Placed} → Swept (λ i s. marked_slot s) (λ i s. mark_acts (r.sc.start + i) s) from stop 0 w room p after
      → p.next ≤ r.summary.accepting
  mark_few {after} {p} q =
      marked_few r.sc w r.summary r.sc.start stop f.sum (omega (arith, f.commit, f.ranged.ordered)) f.high marking
      (q.next ∙ zero-add _ ∙ ap (λ (k : ℕ). length (sweep_acts (λ i s. mark_acts (r.sc.start + i) s) k stop w)) f.commit)

  pub mark_first : r.sc.start ≤ r.summary.first
  mark_first = omega (arith, f.sum.first)

  -- where the scan ends is a place of the window
  pub mark_found : {after : List ℕ} {p : Placed} {k : ℕ} → Swept (λ i s. marked_slot s) (λ i s. mark_acts (r.sc.start + i) s) from stop 0 w room p after
      → k ≡ stop_in p.window 0 3 (r.summary.first - r.sc.start) p.window.len → k ≤ 64
  mark_found {after} {p} {k} q e =
      let l : p.window.len ≡ w.len = ap (λ (v : Window). v.len) q.window in
      let a = stop_in_lem p.window (r.summary.first - r.sc.start) p.window.len 0 3 (omega (arith, f.within)) in
      omega (arith, e ∙ a, f.within, f.sum.first, first_open_within w, scan_below (passes p.window 0 3) (r.summary.first - r.sc.start) p.window.len 64 (omega (arith, f.within, f.sum.first, first_open_within w)) (omega (arith, f.within)))

  pub mark_told : {after : List ℕ} {p : Placed} {k : ℕ}
      → Swept (λ i s. marked_slot s) (λ i s. mark_acts (r.sc.start + i) s) from stop 0 w room p after
      → k ≡ stop_in p.window 0 3 (r.summary.first - r.sc.start) p.window.len
      → Told (summed (mark_on r w from stop))
      (record { answer = 0; count = p.next; replica = with_summary (with_window r r.sc p.window) (record { first = r.sc.start + k; accepting = r.summary.accepting - p.next }) }) room after
  unfolding mark_on
  mark_told {after} {p} {k} q g =
      acted {o = mark_on r w from stop} (sweep_acts (λ i s. mark_acts (r.sc.start + i) s) from stop w) (with_window r r.sc p.window) (record { first = r.sc.start + k; accepting = r.summary.accepting - p.next }) p.next refl
      (q.next ∙ zero-add _) q.written (rw q.window)
      (rw q.window
      (rw (← f.commit) at
      (Sums-marked r.sc w r.summary r.sc.start stop f.sum (omega (arith, f.commit, f.ranged.ordered)) f.high marking
      (scanned)
      (q.next ∙ zero-add _ ∙ ap (λ (k : ℕ). length (sweep_acts (λ i s. mark_acts (r.sc.start + i) s) k stop w)) f.commit))))
    where
      scanned : k ≡ scan (λ j. leb 3 (slot_at (sweep (λ i s. marked_slot s) (r.sc.commit_bar - r.sc.start) stop w) j).status) (r.summary.first - r.sc.start) w.len
      scanned =
          g ∙ rw (q.window, f.commit) (stop_in_lem (sweep (λ i s. marked_slot s) (r.sc.commit_bar - r.sc.start) stop w) (r.summary.first - r.sc.start) w.len 0 3 f.within)
          ∙ passes_status (sweep (λ i s. marked_slot s) (r.sc.commit_bar - r.sc.start) stop w) 3 (r.summary.first - r.sc.start) w.len
