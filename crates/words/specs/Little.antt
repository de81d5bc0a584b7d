-- Little-endian numbers: the least significant byte first.
use Rattle.std.specs.Prelude.{ℕ, zero, suc, ◌+◌, ◌*◌, ◌/◌, ◌%◌, List, [], ◌∷◌, length, take, drop, nat_le}
use Rattle.base.specs.Pick.{pick}

-- the number that a list of bytes is
abbrev pub little : List ℕ → ℕ
little [] = 0
little (b ∷ rest) = b + 256 * little rest

-- the n bytes from `at` on
abbrev pub part : List ℕ → ℕ → ℕ → List ℕ
part l at n = take n (drop at l)

-- the number of the n bytes from `at` on; 0 where there are not so many
unfoldable pub number_at : ℕ → List ℕ → ℕ → ℕ
number_at n l at = pick (nat_le (at + n) (length l)) (little (part l at n)) 0

-- the n bytes of a number
abbrev pub bytes_of : ℕ → ℕ → List ℕ
bytes_of zero v = []
bytes_of (suc n) v = v % 256 ∷ bytes_of n (v / 256)
