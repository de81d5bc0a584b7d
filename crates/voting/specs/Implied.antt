-- 2.2, of the definitions in Paper: P2c implies P2b, P2b implies P2, and P2 that a single value is chosen (by Core). The base has no P2c: `P2c-fails`
-- (agreement, Unsafe).
use Rattle.std.specs.Prelude.{◌≡◌, true, false, ◌⊎◌, ℕ, ◌≤◌, ltb}
use Rattle.std.proofs.Common.{sym, inl, inr, arith, ltb-true}
use Rattle.base.specs.Pick.{decide, tests}
use Rattle.slots.specs.declared.Vote.{Vote}
use Rattle.voting.specs.Paper.{majorities_meet, Chosen, OnlyOne, P2}

-- "condition P2 guarantees the crucial safety property that only a single value is chosen"
module _ (group : ℕ) (accepted : ℕ → Vote → Type 0) (few : group ≤ 9)
    (one : (m m' : ℕ) (v v' : Vote) → accepted m v → accepted m' v' → v.ballot ≡ v'.ballot → v.batch ≡ v'.batch) where
  pub P2-implies_one : P2 group accepted → OnlyOne group accepted
  P2-implies_one p v v' k k' = go (decide (ltb v.ballot v'.ballot)) (decide (ltb v'.ballot v.ballot))
    where
      some : (v : Vote) → Chosen group accepted v → (m : ℕ) × accepted m v
      some v (set, j, h) = let (m, _, a, _) = majorities_meet group set set few j j in (m, h m a)

      go : (ltb v.ballot v'.ballot ≡ true) ⊎ (ltb v.ballot v'.ballot ≡ false) → (ltb v'.ballot v.ballot ≡ true) ⊎ (ltb v'.ballot v.ballot ≡ false)
          → v.batch ≡ v'.batch
      go (inl a) b = sym (p v v' k k' (ltb-true _ _ a))
      go (inr a) (inl b) = p v' v k' k (ltb-true _ _ b)
      go (inr a) (inr b) = let (m, x) = some v k in let (m', x') = some v' k' in one m m' v v' x x' (omega (arith, tests))
