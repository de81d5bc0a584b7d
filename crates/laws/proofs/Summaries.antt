-- The rest of specs/Summaries.antt: what stands on a theorem that a must-fail edit makes false.
use Rattle.std.specs.Prelude.{◌≡◌, Bool, true, false, ◌&&◌, ◌⊎◌, ℕ}
use Rattle.std.proofs.Common.{sym, ap, ◌∙◌, inl, inr, eq-eqb}
use Rattle.base.specs.Pick.{pick, and_left, and_right, and_make, decide, same?}
use Rattle.window.specs.Summary.{walk}
use Rattle.window.specs.SummaryLaws.{Sums-walk, walk-Sums}
use Rattle.replica.specs.declared.Replica.{Replica}
use Rattle.replica.specs.Record.{Outcome}
use Rattle.replica.specs.Fit.{fit, roomy, sums, usable, ready}
use Rattle.replica.specs.AdmitLaws.{ready_facts}
use Rattle.replica.specs.ActingLaws.{Summed}
use Rattle.replica.specs.Step.{Call, does, step}
use Rattle.laws.specs.Room.{step-unready}
use Rattle.laws.specs.Theorems.{fit_stays}
use Rattle.laws.proofs.Theorems.{refusals_keep, conflict}
use Rattle.laws.specs.Summaries.{Summed-sums, conflict_frame, sums-Summed}

module _ (r : Replica) (n : ℕ) (c : Call) where
  abbrev after : Replica
  after = (step r n c).replica

  -- answered 0 it is the walk's, whatever it was
  pub summary_zero : (step r n c).answer ≡ 0 → after.summary ≡ walk after.sc after.window
  summary_zero e = rw (eq-eqb (does r n c).answer 0 e)

  -- answered otherwise it is what it was, and so are the numbers and the slots
  pub summary_kept : ((step r n c).answer ≡ 0 → ⊥) → (after.sc ≡ r.sc) × (after.window ≡ r.window) × (after.summary ≡ r.summary)
  summary_kept z = go (same? (step r n c).answer 12)
    where
      go : ((step r n c).answer ≡ 12) ⊎ ((step r n c).answer ≡ 12 → ⊥) → (after.sc ≡ r.sc) × (after.window ≡ r.window) × (after.summary ≡ r.summary)
      go (inl e) = conflict_frame r c (step r n c) (conflict r n c e)
      go (inr t) =
          let e = refusals_keep r n c z t in
          (ap (λ (x : Replica). x.sc) e, ap (λ (x : Replica). x.window) e, ap (λ (x : Replica). x.summary) e)

  -- a record whose summary is the walk's keeps it so
  pub Summed-stays : Summed r → Summed after
  Summed-stays s = go (same? (step r n c).answer 0)
    where
      go : ((step r n c).answer ≡ 0) ⊎ ((step r n c).answer ≡ 0 → ⊥) → Summed after
      go (inl e) = walk-Sums (summary_zero e)
      go (inr z) =
          let k = summary_kept z in
          let a = sym k.0 in
          let b = sym k.1 in
          walk-Sums (k.2 ∙ Sums-walk s ∙ (λ i. walk (a i) (b i)))

  -- THE SUMMARY: answered neither 1 nor 14, it is the walk's
  pub summary_walks : ((step r n c).answer ≡ 1 → ⊥) → ((step r n c).answer ≡ 14 → ⊥) → after.summary ≡ walk after.sc after.window
  summary_walks one fourteen = go (decide (ready r n))
    where
      shut : (t : Bool) → pick {A = ℕ} t 14 1 ≡ (step r n c).answer → ⊥
      shut true e = fourteen (sym e)
      shut false e = one (sym e)

      go : (ready r n ≡ true) ⊎ (ready r n ≡ false) → after.summary ≡ walk after.sc after.window
      go (inl e) = Sums-walk (Summed-stays (ready_facts r n e).sum)
      go (inr e) = absurd (shut (roomy n && fit r) (sym (ap (λ (o : Outcome). o.answer) (step-unready r n c e))))

  pub usable_stays : usable r ≡ true → usable after ≡ true
  usable_stays e =
      and_make (fit_stays r n c (and_left (fit r) (sums r) e)) (Summed-sums after (Summed-stays (sums-Summed r (and_right (fit r) (sums r) e))))
