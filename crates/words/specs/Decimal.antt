-- A number as decimal text: its ASCII digits, the most significant first, with no zero in front but for the number 0.
use Rattle.std.specs.Prelude.{ℕ, zero, suc, ◌+◌, ◌-◌, ◌/◌, ◌%◌, ◌^◌, ◌<◌, ◌≤◌, List, [], ◌∷◌, ◌++◌, nat_lt}
use Rattle.base.specs.Pick.{pick}

-- the digits of n, where k are enough
abbrev pub decimal_for : ℕ → ℕ → List ℕ
decimal_for zero n = []
decimal_for (suc k) n = pick (nat_lt n 10) ((48 + n) ∷ []) (decimal_for k (n / 10) ++ ((48 + n % 10) ∷ []))

-- every number of 64 bits has at most 20
unfoldable pub decimal : ℕ → List ℕ
decimal n = decimal_for 20 n

-- ── what the code writes, in terms of its loop: `decimal-Wide` says that it is the text ──

-- the last k digits of n, zeros in front among them
abbrev pub digits : ℕ → ℕ → List ℕ
digits zero n = []
digits (suc k) n = digits k (n / 10) ++ ((48 + n % 10) ∷ [])

-- w digits are as many as n has
pub record Wide (n w : ℕ) : Type 0 where
  pub some : 0 < w
  pub most : w ≤ 20
  pub held : n < 10 ^ w
  pub needed : 1 < w → 10 ^ (w - 1) ≤ n
