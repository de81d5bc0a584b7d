-- The definitions at their edges: one list of rows, closed by computation.
use Rattle.std.specs.Prelude.{ℕ, Bool, true, false, ◌&&◌, T, List, [], ◌∷◌, ◌==◌}
use Rattle.words.specs.Little.{number_at, bytes_of}
use Rattle.words.specs.Sums.{total, sum_of}
use Rattle.words.specs.Decimal.{decimal}
use Rattle.words.specs.Put.{put_at, put}

-- what is computed, and what it must be
pub record Row : Type 0 where
  pub got : List ℕ
  pub due : List ℕ

abbrev pub row : List ℕ → List ℕ → Row
row a b = record { got = a; due = b }

abbrev pub same : List ℕ → List ℕ → Bool
same [] [] = true
same [] (y ∷ ys) = false
same (x ∷ xs) [] = false
same (x ∷ xs) (y ∷ ys) = x == y && same xs ys

abbrev pub hold : List Row → Bool
hold [] = true
hold (r ∷ rest) = same r.got r.due && hold rest

-- three words: 2^32 - 1, 7 and 2
abbrev pub three : List ℕ
three = 255 ∷ 255 ∷ 255 ∷ 255 ∷ 7 ∷ 0 ∷ 0 ∷ 0 ∷ 2 ∷ 0 ∷ 0 ∷ 0 ∷ []

abbrev pub rows : List Row
rows =
    row (decimal 0) (48 ∷ [])
    ∷ row (decimal 9) (57 ∷ [])
    ∷ row (decimal 10) (49 ∷ 48 ∷ [])
    ∷ row (decimal 18446744073709551615) (49 ∷ 56 ∷ 52 ∷ 52 ∷ 54 ∷ 55 ∷ 52 ∷ 52 ∷ 48 ∷ 55 ∷ 51 ∷ 55 ∷ 48 ∷ 57 ∷ 53 ∷ 53 ∷ 49 ∷ 54 ∷ 49 ∷ 53 ∷ [])
    ∷ row (number_at 4 three 4 ∷ number_at 4 three 8 ∷ number_at 4 three 9 ∷ number_at 8 three 4 ∷ []) (7 ∷ 2 ∷ 0 ∷ 8589934599 ∷ [])
    ∷ row (sum_of three 0 3 1 ∷ sum_of three 0 3 3 ∷ sum_of three 4 2 0 ∷ sum_of three 0 4 1 ∷ []) (1 ∷ 8 ∷ 2 ∷ 0 ∷ [])
    ∷ row (bytes_of 4 258) (2 ∷ 1 ∷ 0 ∷ 0 ∷ [])
    ∷ row (put (1 ∷ 2 ∷ 3 ∷ []) 1 (8 ∷ 9 ∷ [])) (1 ∷ 8 ∷ 9 ∷ [])
    ∷ row (put (1 ∷ 2 ∷ 3 ∷ []) 2 (8 ∷ 9 ∷ [])) (1 ∷ 2 ∷ 3 ∷ [])
    ∷ []

pub rows_hold : T (hold rows)
unfolding decimal number_at total sum_of put_at put
rows_hold = tt
