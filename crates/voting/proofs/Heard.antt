-- The rest of specs/Heard.antt: what stands on a theorem that a must-fail edit makes false.
use Rattle.std.specs.Prelude.{◌≡◌, refl, List, [], ◌∷◌, ◌⊎◌, ◌≤◌, ◌<◌, ltb}
use Rattle.std.proofs.Common.{ap, inl, inr, arith}
use Rattle.base.specs.Pick.{pick, pick_cases, tests}
use Rattle.base.specs.Among.{◌∈◌, All}
use Rattle.slots.specs.declared.Vote.{Vote}
use Rattle.voting.specs.Paper.{Highest, Choice}
use Rattle.voting.specs.Heard.{best, best_above, best_is_from}

pub best_largest : (v : Vote) (l : List Vote) → All (λ (x : Vote). x.ballot ≤ (best v l).ballot) l
best_largest v [] = tt
best_largest v (x ∷ l) = (
  pick_cases (λ (y : Vote). x.ballot ≤ (best y l).ballot) (ltb v.ballot x.ballot) (λ t. best_above x l) (λ t. omega (arith, tests, best_above v l)),
  best_largest (pick (ltb v.ballot x.ballot) x v) l,
)

-- from nothing heard it is the paper's choice
pub best-Choice : (own : Vote) (l : List Vote) → own.ballot ≡ 0 → All (λ (x : Vote). 0 < x.ballot) l → Choice own.batch l (best own l).batch
best-Choice own [] z a = inl (refl, refl)
best-Choice own (x ∷ l) z a = inr (go (best_is_from own (x ∷ l)) (best_largest own (x ∷ l)))
  where
    go : (best own (x ∷ l) ≡ own) ⊎ (best own (x ∷ l) ∈ (x ∷ l)) → All (λ (y : Vote). y.ballot ≤ (best own (x ∷ l)).ballot) (x ∷ l)
        → (v : Vote) × (Highest (x ∷ l) v) × (v.batch ≡ (best own (x ∷ l)).batch)
    go (inl e) h = let q = ap (λ (y : Vote). y.ballot) e in let p = h.0 in let o = a.0 in absurd (omega arith)
    go (inr m) h = (best own (x ∷ l), (m, h), refl)
