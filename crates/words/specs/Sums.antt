-- Sums of four-byte words. 01: "the sum of the other 63 four-byte words, wrapping at 2^32".
use Rattle.std.specs.Prelude.{ℕ, zero, suc, ◌+◌, ◌*◌, ◌%◌, ◌^◌, List, length, ◌==◌, nat_le}
use Rattle.base.specs.Pick.{pick}
use Rattle.words.specs.Little.{number_at}

-- the sum of n words from `at` on, but for the one numbered `out` (for none, where that is n or more)
unfoldable pub total : List ℕ → ℕ → ℕ → ℕ → ℕ
total l at out zero = 0
total l at out (suc i) = total l at out i + pick (i == out) 0 (number_at 4 l (at + 4 * i))

-- the same, wrapping at 2^32; 0 where there are not so many words
unfoldable pub sum_of : List ℕ → ℕ → ℕ → ℕ → ℕ
sum_of l at n out = pick (nat_le (at + 4 * n) (length l)) (total l at out n % 2 ^ 32) 0
