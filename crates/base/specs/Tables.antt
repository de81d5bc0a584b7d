-- Tables: a test that is computed over a whole list holds at each entry, with its place.
use Rattle.std.specs.Prelude.{◌≡◌, Bool, true, ◌&&◌, List, [], ◌∷◌, ℕ, zero, suc, ◌<◌, length, get_or}
use Rattle.std.proofs.Common.{le_of_suc-le-suc, not-suc-le-zero}
use Rattle.base.specs.Pick.{and_left, and_right}

-- the test passes at each place of the list and the entry there
abbrev pub all_pass : (ℕ → ℕ → Bool) → List ℕ → Bool
all_pass f [] = true
all_pass f (x ∷ xs) = f 0 x && all_pass (λ (k : ℕ). f (suc k)) xs

-- so it passes at the place that one asks for
pub pass_at : (f : ℕ → ℕ → Bool) (xs : List ℕ) → all_pass f xs ≡ true → (k : ℕ) → k < length xs → f k (get_or xs k 0) ≡ true
pass_at f [] t k h = absurd (not-suc-le-zero h)
pass_at f (x ∷ xs) t zero h = and_left (f 0 x) _ t
pass_at f (x ∷ xs) t (suc k) h = pass_at (λ (j : ℕ). f (suc j)) xs (and_right (f 0 x) _ t) k (le_of_suc-le-suc h)
