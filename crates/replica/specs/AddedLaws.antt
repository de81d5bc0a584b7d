-- The laws of the added calls: each way through offer and executed.
use Rattle.std.specs.Prelude.{◌≡◌, refl, true, false, not, List, ℕ, ◌+◌, ◌-◌, ◌≤◌, ◌<◌, ltb, leb, eqb, length}
use Rattle.std.proofs.Common.{◌∙◌, arith, lt-ltb, le-ltb, le-leb}
use Rattle.std.proofs.lemmas.Bool.{lt-leb}
use Rattle.base.specs.Pick.{pick}
use Rattle.base.specs.Scan.{scan_high}
use Rattle.batch.specs.declared.Batch.{Batch}
use Rattle.batch.specs.Batches.{is_batch}
use Rattle.slots.specs.declared.Slot.{Slot}
use Rattle.slots.specs.Slots.{executed_slot, null_slot}
use Rattle.decide.specs.declared.Scalars.{Scalars}
use Rattle.decide.specs.Decide.{Decided}
use Rattle.decide.specs.Scalars.{with_bars}
use Rattle.decide.specs.Decide.{may_offer, decide_offer}
use Rattle.decide.specs.Laws.{Settles-offer}
use Rattle.window.specs.declared.Window.{Window}
use Rattle.window.specs.Window.{slot_at, put_slot, grown}
use Rattle.window.specs.SummaryLaws.{Sums-steady, Sums-executed}
use Rattle.window.specs.Bounded.{filled_in, executed_in}
use Rattle.window.specs.BoundedLaws.{filled_in_lem, executed_in_lem}
use Rattle.replica.specs.declared.Replica.{Replica}
use Rattle.replica.specs.Record.{Outcome, kept, settled, with_window, log_end}
use Rattle.replica.specs.Fit.{ready}
use Rattle.replica.specs.AdmitLaws.{Ready, gate_ready, gate_shut, ready_goes}
use Rattle.replica.specs.Admit.{ready_answer}
use Rattle.replica.specs.Acting.{SettleFits}
use Rattle.replica.specs.ActingLaws.{Summed}
use Rattle.replica.specs.MessageLaws.{grown_fits, grown_sums, grown_has}
use Rattle.replica.specs.Messages.{clean}
use Rattle.replica.specs.Added.{offer_step, moved_exec, executed_step}
use Rattle.replica.specs.AddedFits.{ExecFits}

-- ── offer ──
module _ (r : Replica) (room : ℕ) (b : Batch) where
  abbrev offer_tests : Outcome
  offer_tests =
      pick (not (is_batch b.id b.count)) (kept 10 r)
      (pick (not (may_offer r.sc)) (kept 9 r)
      (pick (leb 64 r.window.len) (kept 5 r)
      (settled r (grown r.window (r.window.len + 1)) r.window.len (log_end r) (decide_offer r.sc (log_end r) (clean b)))))

  pub offer_unready : (n : ℕ) → n ≡ ready_answer r room → (n ≡ 0 → ⊥) → offer_step r room b ≡ kept n r
  unfolding offer_step
  offer_unready n e h = gate_shut (ready_answer r room) n r offer_tests (gate_ready r room offer_tests) e h

  module _ (e : ready r room ≡ true) where
    offer_goes : offer_step r room b ≡ offer_tests
    unfolding offer_step
    offer_goes = ready_goes r room offer_tests e

    pub offer_none : is_batch b.id b.count ≡ false → offer_step r room b ≡ kept 10 r
    offer_none f = offer_goes ∙ rw f

    module _ (f : is_batch b.id b.count ≡ true) where
      pub offer_denied : may_offer r.sc ≡ false → offer_step r room b ≡ kept 9 r
      offer_denied g = offer_goes ∙ rw (f, g)

      module _ (g : may_offer r.sc ≡ true) where
        pub offer_full : 64 ≤ r.window.len → offer_step r room b ≡ kept 5 r
        offer_full h = offer_goes ∙ rw (f, g, le-leb 64 r.window.len h)

        pub offer_settles : r.window.len < 64 → (w : Window) (c : Batch) (d : Decided) → w ≡ filled_in null_slot r.window (r.window.len + 1) → c ≡ clean b
            → d ≡ decide_offer r.sc (log_end r) c → offer_step r room b ≡ settled r w r.window.len (log_end r) d
        offer_settles h w c d p q s = offer_goes ∙ rw (f, g, lt-leb 64 r.window.len h, p, filled_in_lem null_slot r.window (r.window.len + 1) (omega arith), s, q)

-- ── executed ──
module _ (r : Replica) (w : Window) where
  -- where exec_bar stops is a place of the window
  pub exec_stop : (stop : ℕ) → ExecFits r
      → stop ≡ executed_in w (r.sc.exec_bar - r.sc.start) (r.sc.commit_bar - r.sc.start) → stop ≤ 64
  exec_stop stop f e =
      omega (
        arith,
        f.within,
        e ∙ executed_in_lem w (r.sc.exec_bar - r.sc.start) (r.sc.commit_bar - r.sc.start) (omega (arith, f.within)),
        scan_high (λ i. eqb (slot_at w i).status 4) (r.sc.exec_bar - r.sc.start) (r.sc.commit_bar - r.sc.start) (omega (arith, f.ordered)),
      )

  pub exec_moved : (stop : ℕ) (sc : Scalars) → ExecFits r
      → stop ≡ executed_in w (r.sc.exec_bar - r.sc.start) (r.sc.commit_bar - r.sc.start)
      → sc ≡ with_bars r.sc r.sc.accept_bar r.sc.commit_bar (r.sc.start + stop) → with_window r sc w ≡ moved_exec r w
  unfolding moved_exec
  exec_moved stop sc fits e f =
      rw (f, e ∙ executed_in_lem w (r.sc.exec_bar - r.sc.start) (r.sc.commit_bar - r.sc.start) (omega (arith, fits.within)))

module _ (r : Replica) (room slot : ℕ) where
  abbrev executed_tests : Outcome
  executed_tests =
      pick (ltb slot r.sc.start) (kept 0 r)
      (pick (leb (log_end r) slot) (kept 4 r)
      (kept 0 (moved_exec r (put_slot r.window (slot - r.sc.start) (executed_slot (slot_at r.window (slot - r.sc.start)))))))

  pub executed_unready : (n : ℕ) → n ≡ ready_answer r room → (n ≡ 0 → ⊥) → executed_step r room slot ≡ kept n r
  unfolding executed_step
  executed_unready n e h = gate_shut (ready_answer r room) n r executed_tests (gate_ready r room executed_tests) e h

  module _ (e : ready r room ≡ true) where
    executed_goes : executed_step r room slot ≡ executed_tests
    unfolding executed_step
    executed_goes = ready_goes r room executed_tests e

    pub executed_below : slot < r.sc.start → executed_step r room slot ≡ kept 0 r
    executed_below h = executed_goes ∙ rw (lt-ltb slot r.sc.start h)

    pub executed_past : r.sc.start ≤ slot → log_end r ≤ slot → executed_step r room slot ≡ kept 4 r
    executed_past h l = executed_goes ∙ rw (le-ltb slot r.sc.start h, le-leb (log_end r) slot l)

    pub executed_moves : r.sc.start ≤ slot → slot < log_end r → (s : Slot) (p : Replica) → s ≡ executed_slot (slot_at r.window (slot - r.sc.start))
        → p ≡ moved_exec r (put_slot r.window (slot - r.sc.start) s) → executed_step r room slot ≡ kept 0 p
    executed_moves h l s p a q = executed_goes ∙ rw (le-ltb slot r.sc.start h, lt-leb (log_end r) slot l, q, a)

-- the log with the slot that the batch takes
pub offer_fits : {w : Window} {d : Decided} (r : Replica) (slot : ℕ) (b : Batch) (room : List ℕ) → Ready r (length room) → r.window.len < 64
    → w ≡ filled_in null_slot r.window (r.window.len + 1) → slot ≡ r.sc.start + r.window.len → d ≡ decide_offer r.sc slot b
    → SettleFits r w r.window.len slot d room
offer_fits {w} {d} r slot b room f h e n q =
    record {
      low = h;
      long = f.long;
      within = grown_fits r.window (r.window.len + 1) e f.within (omega arith);
      here = grown_has r.window r.window.len e h;
      named = n;
      start = f.low;
      commit = omega (arith, f.exec_low, f.exec_high);
      settles = rw q (Settles-offer r.sc (slot_at w r.window.len) slot b);
      sum = grown_sums r (r.window.len + 1) (length room) f e (omega arith);
    }

-- exec_bar moves, and a Committed slot is Executed: the summary stays
pub executed_sums : {r p : Replica} (i room : ℕ) (s : Slot) → Ready r room → s ≡ executed_slot (slot_at r.window i) → p ≡ moved_exec r (put_slot r.window i s) → Summed p
unfolding moved_exec
executed_sums {r} {p} i room s f e q =
    rw (q, e) (Sums-steady r.sc _ _ r.summary refl refl (Sums-executed r.sc r.window r.summary i f.sum))

-- a fit record's bars
pub exec_fits : {r : Replica} {room : ℕ} → Ready r room → ExecFits r
exec_fits f =
    record {
      low = f.low;
      from = f.exec_low;
      ordered = f.exec_high;
      within = omega (arith, f.commit_high, f.within);
    }
