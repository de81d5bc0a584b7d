-- Bytes put into lent bytes at a place: what stands there is replaced, and all else stays.
use Rattle.std.specs.Prelude.{◌≡◌, ℕ, ◌+◌, List, ◌++◌, length, take, drop, nat_le}
use Rattle.base.specs.Pick.{pick}

-- the list with vs in place of what stands from `at` on
unfoldable pub put_at : List ℕ → ℕ → List ℕ → List ℕ
put_at l at vs = take at l ++ vs ++ drop (at + length vs) l

-- the same where there is room for it; else the list as it was
unfoldable pub put : List ℕ → ℕ → List ℕ → List ℕ
put l at vs = pick (nat_le (at + length vs) (length l)) (put_at l at vs) l

-- the place after it where there is room for it; else the same place
unfoldable pub next : List ℕ → ℕ → List ℕ → ℕ
next l at vs = pick (nat_le (at + length vs) (length l)) (at + length vs) at

-- what a call that puts vs hands back and leaves
pub record Written (l : List ℕ) (at : ℕ) (vs : List ℕ) (r : ℕ) (after : List ℕ) : Type 0 where
  pub place : r ≡ next l at vs
  pub bytes : after ≡ put l at vs
