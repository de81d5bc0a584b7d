-- Replies to an open read with any other calls between them: whatever comes, the read knows what the members heard so far have told it. The statements are
-- `KnowsHeard`, `SameRead`, `AnsweredZero`, `AnswersHeard` and `SameAnswers` (AnyOrder).
use Rattle.std.specs.Prelude.{◌≡◌, refl, true, false, ℕ, ◌≤◌, ◌<◌}
use Rattle.std.proofs.Common.{sym, ap, ◌∙◌, arith}
use Rattle.tally.specs.declared.Tally.{Tally}
use Rattle.tally.specs.declared.Read.{Read}
use Rattle.tally.specs.Open.{reply_to}
use Rattle.tally.specs.ReadLaws.{find_only, put_count, put_here}
use Rattle.decide.specs.Scalars.{quorum}
use Rattle.replica.specs.declared.Replica.{Replica}
use Rattle.replica.specs.Fit.{usable}
use Rattle.replica.specs.AdmitLaws.{ready_last, ready_zero, member_some}
use Rattle.replica.specs.ReadCallLaws.{reply_known}
use Rattle.replica.specs.Quorumread.{replied_step}
use Rattle.replica.specs.Step.{step}
use Rattle.laws.specs.OfFit.{fit_facts}
use Rattle.laws.specs.WaysAdded.{read_place, read_at, stayed}
use Rattle.laws.specs.Good.{Sized}
use Rattle.laws.specs.OpenReads.{Waiting}
use Rattle.laws.specs.AnyOrder.{read_of, ReadOpen, member_reply}
use Rattle.laws.specs.Summaries.{usable-fit}

-- ANOTHER CALL

-- a read stands in the table, at whatever place
abbrev pub Stands : Read → Replica → Type 0
Stands d a = (i : ℕ) × (i < a.reads.count) × (read_at a i ≡ d)

-- where it stands it is found
pub Stands-open : (id : ℕ) (a : Replica) (d : Read) → usable a ≡ true → Sized a → Waiting a → d.id ≡ id → Stands d a → ReadOpen id a × (read_of a id ≡ d)
Stands-open id a d f s w e (i, h, at) =
    let place : read_place a id ≡ i = find_only a.reads id i (fit_facts a (usable-fit a f)).reads.count w.ids h (ap (λ (x : Read). x.id) at ∙ e) in
    (record { fits = f; sized = s; waiting = w; known = rw place h }, ap (λ (x : ℕ). read_at a x) place ∙ at)

-- A REPLY OF A MEMBER

module _ (id : ℕ) (said : ℕ → Tally) (r : Replica) (o : ReadOpen id r) (n : ℕ) (roomy : 3456 ≤ n) where
  -- the read as the reply leaves it, where it does not close
  pub reply_leaves : (m : ℕ) → m < r.sc.group → (said m).count ≤ 8 → (d : Read)
      → replied_step r (read_place r id) (reply_to (quorum r.sc) m false (said m) (read_of r id)) ≡ stayed 0 r (read_place r id) d
      → Stands d (step r n (member_reply id said m)).replica
  reply_leaves m l f d e =
      rw
      (reply_known r n m id false (said m) 0 (member_some r n m (ready_zero r n (sym (ready_last r n roomy) ∙ o.fits)) l) refl f (read_place r id) refl o.known (quorum r.sc)
      (reply_to (quorum r.sc) m false (said m) (read_of r id)) refl refl
      ∙ e) (
        read_place r id,
        omega (arith, o.known, put_count r.reads (read_place r id) d),
        put_here r.reads (read_place r id) d o.sized.reads (fit_facts r (usable-fit r o.fits)).reads.count o.known,
      )
