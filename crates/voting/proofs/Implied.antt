-- The rest of specs/Implied.antt: what stands on a theorem that a must-fail edit makes false.
use Rattle.std.specs.Prelude.{◌≡◌, ℕ, ◌≤◌, ◌<◌}
use Rattle.std.proofs.Common.{arith}
use Rattle.slots.specs.declared.Vote.{Vote}
use Rattle.voting.specs.Paper.{Chosen, P2, P2c}
use Rattle.voting.specs.Core.{Lawful, P2c-Obeys}
use Rattle.voting.proofs.Core.{Chosen-fixes, Chosen-issued}

-- `told`: only what was issued is accepted; `one`: "different proposals have different numbers"
module _ (group : ℕ) (accepted : ℕ → Vote → Type 0) (issued : Vote → Type 0) (few : group ≤ 9) (told : (m : ℕ) (v : Vote) → accepted m v → issued v)
    (one : (v v' : Vote) → issued v → issued v' → v.ballot ≡ v'.ballot → v.batch ≡ v'.batch) (c : P2c group accepted issued) where
  -- whatever is promised
  lawful : Lawful group (λ m n. Unit {0}) accepted accepted accepted issued
  lawful = record { standing = λ m v a. a; written = λ m v a. a; told = told; one = one; obeys = P2c-Obeys group (λ m n. Unit {0}) accepted issued c (λ p i m h. tt) }

  -- P2b: "If a proposal with value v is chosen, then every higher-numbered proposal issued by any proposer has value v"
  pub p2c_implies_p2b : (v p : Vote) → Chosen group accepted v → issued p → v.ballot < p.ballot → p.batch ≡ v.batch
  p2c_implies_p2b v p k i l = Chosen-fixes group few (λ m n. Unit {0}) accepted accepted accepted issued lawful v k p i (omega arith)

  pub p2c_implies_p2 : P2 group accepted
  p2c_implies_p2 v v' k k' l = p2c_implies_p2b v v' k (Chosen-issued group few (λ m n. Unit {0}) accepted accepted accepted issued lawful v' k') l
