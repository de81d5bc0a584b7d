-- The rest of specs/Theorems.antt: what stands on a theorem that a must-fail edit makes false.
use Rattle.std.specs.Prelude.{◌≡◌, Bool, true, false, not, ◌&&◌, [], ◌⊎◌, ℕ, ◌/◌, ◌%◌, ◌≤◌, leb, eqb, length}
use Rattle.std.proofs.Common.{ap, inl, inr, ⊎_elim, arith, eqb-true}
use Rattle.std.proofs.lemmas.Bool.{not-true}
use Rattle.base.specs.Pick.{and_left, and_right, or_cases, clash, tests}
use Rattle.decide.specs.Scalars.{strict}
use Rattle.window.specs.Places.{size}
use Rattle.replica.specs.declared.Replica.{Replica}
use Rattle.replica.specs.Fit.{sums}
use Rattle.replica.specs.Step.{Call, step}
use Rattle.laws.specs.WaysMessages.{keeping}
use Rattle.laws.specs.Sound.{answering}
use Rattle.laws.proofs.Sound.{step-Sound}
use Rattle.laws.specs.Conflict.{Conflicts}

-- 01: "all but 0 give no actions"
pub refusals_silent : (r : Replica) (n : ℕ) (c : Call) → ((step r n c).answer ≡ 0 → ⊥) → (step r n c).actions ≡ []
refusals_silent r n c = (step-Sound r n c).silent

-- 01: "All but 0 and 12 change nothing"
pub refusals_keep : (r : Replica) (n : ℕ) (c : Call) → ((step r n c).answer ≡ 0 → ⊥) → ((step r n c).answer ≡ 12 → ⊥) → (step r n c).replica ≡ r
refusals_keep r n c = (step-Sound r n c).same

-- 01: "No call gives more than 192 actions"
pub few_actions : (r : Replica) (n : ℕ) (c : Call) → length (step r n c).actions ≤ 192
few_actions r n c = omega (arith, (step-Sound r n c).few)

-- 01's table of answers, with 02's 14 where the summary is not the walk's and 15 in the strict kind; 13 is the trace's
pub few_answers : (r : Replica) (n : ℕ) (c : Call)
    → ((step r n c).answer ≤ 12) ⊎ ((((step r n c).answer ≡ 14) × (sums r ≡ false)) ⊎ (((step r n c).answer ≡ 15) × (strict r.sc ≡ true)))
few_answers r n c = go (or_cases (answering r (step r n c).answer) _ (step-Sound r n c).answers)
  where
    wrong : (t : Bool) → ((eqb (step r n c).answer 14 && not t) ≡ true) → ((step r n c).answer ≡ 14) × (t ≡ false)
    wrong t e = (eqb-true _ _ (and_left (eqb (step r n c).answer 14) (not t) e), not-true t (and_right (eqb (step r n c).answer 14) (not t) e))

    go : (answering r (step r n c).answer ≡ true) ⊎ (eqb (step r n c).answer 12 ≡ true)
        → ((step r n c).answer ≤ 12) ⊎ ((((step r n c).answer ≡ 14) × (sums r ≡ false)) ⊎ (((step r n c).answer ≡ 15) × (strict r.sc ≡ true)))
    go (inl k) =
        ⊎_elim
        (λ (t : keeping r (step r n c).answer ≡ true).
        ⊎_elim (λ (u : leb (step r n c).answer 11 ≡ true). inl (omega (arith, tests))) (λ u. inr (inl (wrong (sums r) u))) (or_cases (leb (step r n c).answer 11) _ t))
        (λ u. inr (inr (eqb-true _ _ (and_left (eqb (step r n c).answer 15) _ u), and_right (eqb (step r n c).answer 15) _ u)))
        (or_cases (keeping r (step r n c).answer) _ k)
    go (inr e) = inl (omega (arith, tests))

-- 02, Wish 1: 14 to no record that has the walk's numbers
pub never_fourteen : (r : Replica) (n : ℕ) (c : Call) → sums r ≡ true → (step r n c).answer ≡ 14 → ⊥
never_fourteen r n c e f =
    ⊎_elim (λ (t : (step r n c).answer ≤ 12). omega arith) (λ t. ⊎_elim (λ (u : ((step r n c).answer ≡ 14) × (sums r ≡ false)). clash e u.1) (λ u. omega (arith, u.0)) t)
    (few_answers r n c)

-- 02, Wish 6: 15 to no base replica
pub never_fifteen : (r : Replica) (n : ℕ) (c : Call) → strict r.sc ≡ false → (step r n c).answer ≡ 15 → ⊥
never_fifteen r n c e f =
    ⊎_elim (λ (t : (step r n c).answer ≤ 12). omega arith) (λ t. ⊎_elim (λ (u : ((step r n c).answer ≡ 14) × (sums r ≡ false)). omega (arith, u.0)) (λ u. clash u.1 e) t)
    (few_answers r n c)

pub id_stays : (r : Replica) (n : ℕ) (c : Call) → (step r n c).replica.sc.id ≡ r.sc.id
id_stays r n c = (step-Sound r n c).fixed.id

pub group_stays : (r : Replica) (n : ℕ) (c : Call) → (step r n c).replica.sc.group ≡ r.sc.group
group_stays r n c = (step-Sound r n c).fixed.group

pub options_stay : (r : Replica) (n : ℕ) (c : Call) → (step r n c).replica.sc.options ≡ r.sc.options
options_stay r n c = (step-Sound r n c).fixed.options

-- 01: "start_slot .. does not move"
-- 02, Wish 6: the kind is chosen when it is made
pub kind_stays : (r : Replica) (n : ℕ) (c : Call) → strict (step r n c).replica.sc ≡ strict r.sc
kind_stays r n c = ap (λ (o : ℕ). eqb (o / 4 % 2) 1) (options_stay r n c)

pub start_stays : (r : Replica) (n : ℕ) (c : Call) → (step r n c).replica.sc.start ≡ r.sc.start
start_stays r n c = (step-Sound r n c).fixed.start

-- the list behind the window keeps its length
pub slots_stay : (r : Replica) (n : ℕ) (c : Call) → size (step r n c).replica.window ≡ size r.window
slots_stay r n c = (step-Sound r n c).long

-- 12 is given to a reply to a read alone, and changes only that read's tally
pub conflict : (r : Replica) (n : ℕ) (c : Call) → (step r n c).answer ≡ 12 → Conflicts r c (step r n c)
conflict r n c = (step-Sound r n c).conflict
