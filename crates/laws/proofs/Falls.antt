-- The rest of specs/Falls.antt: what stands on a theorem that a must-fail edit makes false.
use Rattle.std.specs.Prelude.{◌≡◌, refl, true, false, ◌⊎◌, ℕ, ◌≤◌, ◌<◌}
use Rattle.std.proofs.Common.{ap, inl, inr, arith}
use Rattle.base.specs.Pick.{decide, same?}
use Rattle.decide.specs.Scalars.{strict}
use Rattle.window.specs.declared.Summary.{Summary}
use Rattle.window.specs.Window.{slot_at}
use Rattle.window.specs.Rising.{first_rises}
use Rattle.replica.specs.declared.Replica.{Replica}
use Rattle.replica.specs.Record.{Outcome}
use Rattle.replica.specs.Fit.{ready}
use Rattle.replica.specs.AdmitLaws.{ready_facts}
use Rattle.replica.specs.Step.{Call, call_prepare, call_prepare_reply, call_accept, call_accept_reply, call_commit_notice, call_timeout, call_logged, call_offer, call_executed, call_open_read, call_read_reply, step}
use Rattle.laws.specs.Room.{step-unready}
use Rattle.laws.proofs.Summaries.{summary_zero, summary_kept}
use Rattle.laws.proofs.Theorems.{start_stays}
use Rattle.laws.specs.Falls.{may_fall, other_raised}

-- THE THEOREM: of any record, a call that is neither a Prepare nor an Accept leaves it no smaller, and in the strict kind no call makes it fall
pub falls_only : (r : Replica) (n : ℕ) (c : Call) → may_fall (strict r.sc) c ≡ false → r.summary.first ≤ (step r n c).replica.summary.first
falls_only r n c e = go (decide (ready r n)) (same? (step r n c).answer 0)
  where
    go : (ready r n ≡ true) ⊎ (ready r n ≡ false) → ((step r n c).answer ≡ 0) ⊎ ((step r n c).answer ≡ 0 → ⊥)
        → r.summary.first ≤ (step r n c).replica.summary.first
    go (inl t) (inl z) =
        omega (
          arith,
          (ready_facts r n t).sum.first,
          ap (λ (x : Summary). x.first) (summary_zero r n c z),
          first_rises r.window (step r n c).replica.window (other_raised r n c e),
          start_stays r n c,
        )
    go (inl t) (inr z) = omega (arith, ap (λ (x : Summary). x.first) (summary_kept r n c z).2)
    go (inr t) w = omega (arith, ap (λ (o : Outcome). o.replica.summary.first) (step-unready r n c t))

-- 02, Wish 6, (d), of each slot: what is Committed or Executed at a strict replica stays so, whatever is called
pub committed_stays : (r : Replica) (n : ℕ) (c : Call) (i : ℕ) → strict r.sc ≡ true → i < r.window.len → 3 ≤ (slot_at r.window i).status
    → 3 ≤ (slot_at (step r n c).replica.window i).status
committed_stays r n c i k l h = (other_raised r n c (rw k (none c))).closed i l h
  where
    none : (c : Call) → may_fall true c ≡ false
    none (call_prepare peer trigger ballot) = refl
    none (call_prepare_reply peer m) = refl
    none (call_accept peer slot ballot b) = refl
    none (call_accept_reply peer slot ballot) = refl
    none (call_commit_notice peer ballot bar) = refl
    none (call_timeout source) = refl
    none (call_logged d) = refl
    none (call_offer b) = refl
    none (call_executed slot) = refl
    none (call_open_read id count keys) = refl
    none (call_read_reply peer id from_leader reply) = refl
