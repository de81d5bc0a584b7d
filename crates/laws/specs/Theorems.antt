-- What holds of every call, over all replicas, rooms and calls.
use Rattle.std.specs.Prelude.{◌≡◌, refl, true, false, ◌⊎◌, ℕ, ◌≤◌, ◌<◌, leb}
use Rattle.std.proofs.Common.{sym, subst, ◌∙◌, inl, inr, le-leb}
use Rattle.std.proofs.Math.Bool.{and-false}
use Rattle.std.proofs.lemmas.Bool.{lt-leb}
use Rattle.base.specs.Pick.{pick_both, decide}
use Rattle.decide.specs.Scalars.{may_be, fit_scalars}
use Rattle.replica.specs.declared.Replica.{Replica}
use Rattle.replica.specs.Seen.{Made}
use Rattle.replica.specs.Record.{Outcome, kept, zero_replica, new_replica}
use Rattle.replica.specs.Fit.{fit, sums}
use Rattle.replica.specs.Step.{Call, step}
use Rattle.laws.specs.Room.{step-unready, step_room}
use Rattle.laws.specs.OfFit.{fresh_fits, fit_facts, facts_fit}
use Rattle.laws.specs.Good.{Sized, Fits-Good, Good-Fits, Good-Sized, fresh-Sized, zero_sized}
use Rattle.laws.specs.GoodLogged.{step-Good}

-- 01: "each call is lent room for 192": the room's length decides only between 1 and the rest
pub short_room : (r : Replica) (n : ℕ) (c : Call) → n < 3456 → step r n c ≡ kept 1 r
short_room r n c h = step-unready r n c (rw (lt-leb 3456 n h)) ∙ rw (lt-leb 3456 n h)

pub any_room : (r : Replica) (n n' : ℕ) (c : Call) → 3456 ≤ n → 3456 ≤ n' → step r n c ≡ step r n' c
any_room r n n' c h h' = step_room r n n' c (rw (le-leb 3456 n h, le-leb 3456 n' h'))

-- 1: "record unfit"
pub unfit : (r : Replica) (n : ℕ) (c : Call) → fit r ≡ false → step r n c ≡ kept 1 r
unfit r n c e = step-unready r n c (rw (e, and-false (leb 3456 n))) ∙ rw (e, and-false (leb 3456 n))

-- 02, Wish 1: "14, summary not equal to the walk, after 1"
pub unsummed : (r : Replica) (n : ℕ) (c : Call) → 3456 ≤ n → fit r ≡ true → sums r ≡ false → step r n c ≡ kept 14 r
unsummed r n c h e f = step-unready r n c (rw (le-leb 3456 n h, e, f)) ∙ rw (le-leb 3456 n h, e)

-- 01: "A refused new replica is the all-zero record, which is unfit."
zero_unfit : fit zero_replica ≡ false
unfolding fit fit_scalars
zero_unfit = refl

pub zero_refuses : (n : ℕ) (c : Call) → step zero_replica n c ≡ kept 1 zero_replica
zero_refuses n c = unfit zero_replica n c zero_unfit

-- a new replica is fit and answered 0, or is the all-zero record and answered 10
pub new_fits : (id group start options : ℕ) → may_be id group start options ≡ true
    → ((new_replica id group start options).answer ≡ 0) × (fit (new_replica id group start options).replica ≡ true)
unfolding new_replica
new_fits id group start options e = rw e (refl, fresh_fits id group start options e)

pub new_refused : (id group start options : ℕ) → may_be id group start options ≡ false
    → ((new_replica id group start options).answer ≡ 10) × ((new_replica id group start options).replica ≡ zero_replica)
unfolding new_replica
new_refused id group start options e = rw e (refl, refl)

-- a fit replica stays fit, whatever the call
pub fit_stays : (r : Replica) (n : ℕ) (c : Call) → fit r ≡ true → fit (step r n c).replica ≡ true
fit_stays r n c e =
    facts_fit (step r n c).replica (Good-Fits ⊥ (step r n c).replica (step-Good ⊥ r (Fits-Good ⊥ r (λ z. absurd z) (fit_facts r e)) n c))

-- the lists behind its arrays keep their sizes, whatever the call and whatever lists it brings
pub sizes_stay : (r : Replica) (n : ℕ) (c : Call) → Sized r → Sized (step r n c).replica
sizes_stay r n c s = go (decide (fit r))
  where
    go : (fit r ≡ true) ⊎ (fit r ≡ false) → Sized (step r n c).replica
    go (inl e) =
        Good-Sized (Unit {0}) (step r n c).replica tt (step-Good (Unit {0}) r (Fits-Good (Unit {0}) r (λ z. s) (fit_facts r e)) n c)
    go (inr e) = subst (λ (o : Outcome). Sized o.replica) (sym (unfit r n c e)) s

-- a new replica, made or refused, has them
pub new_sized : (id group start options : ℕ) → Sized (new_replica id group start options).replica
unfolding new_replica
new_sized id group start options =
    pick_both (λ (m : Made). Sized m.replica) (may_be id group start options) (fresh-Sized id group start options) zero_sized
