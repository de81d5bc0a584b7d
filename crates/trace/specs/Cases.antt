-- Both sides of each edge of a record, closed by computation.
use Rattle.std.specs.Prelude.{Bool, true, false, not, ◌&&◌, ◌||◌, List, [], ◌∷◌, ◌++◌, ℕ, T, eqb, replicate}
use Rattle.words.specs.Little.{number_at}
use Rattle.words.specs.Sums.{total, sum_of}
use Rattle.words.specs.Put.{put_at, put}
use Rattle.trace.specs.declared.Record.{Record}
use Rattle.trace.specs.declared.Next.{Next}
use Rattle.trace.specs.declared.Next.TheVariants.{Whole, Short, End}
use Rattle.trace.specs.Records.{numbers_at, fields_at, record_at, sum_right, sum_written, malformed, next_at}

-- a record of which the other numbers play no part
abbrev pub plain : ℕ → ℕ → ℕ → List ℕ → Record
plain kind sub count entries =
    record {
      kind = kind;
      peer = 0;
      sub = sub;
      count = count;
      slot = 0;
      trigger = 0;
      endprep = 0;
      ballot = 0;
      voted = 0;
      batch = 0;
      bar = 0;
      entries = entries;
    }

abbrev pub none : List ℕ
none = replicate 24 0

-- the second entry has tag 3
abbrev pub third : List ℕ
third = 2 ∷ 0 ∷ 0 ∷ 3 ∷ replicate 20 0

-- 01's first record, "new (group 1, id 0, start 0)": sub 1, so the first word, and the sum, is 65536
abbrev pub first : List ℕ
first = 0 ∷ 0 ∷ 1 ∷ 0 ∷ 0 ∷ 0 ∷ 1 ∷ 0 ∷ replicate 248 0

-- the same with a key of 9 in its last entry
abbrev pub other : List ℕ
other = 0 ∷ 0 ∷ 1 ∷ 0 ∷ 0 ∷ 0 ∷ 1 ∷ 0 ∷ (replicate 224 0 ++ (9 ∷ replicate 23 0))

abbrev pub is_whole : Next → ℕ → Bool
is_whole (Whole b) at = eqb b at
is_whole Short at = false
is_whole End at = false

abbrev pub is_short : Next → Bool
is_short (Whole b) = false
is_short Short = true
is_short End = false

abbrev pub every : List Bool → Bool
every [] = true
every (t ∷ rest) = t && every rest

abbrev pub some : List Bool → Bool
some [] = false
some (t ∷ rest) = t || some rest

-- each of these holds
abbrev pub yes : List Bool
yes =
    malformed (plain 0 0 0 none) false
    ∷ malformed (plain 12 0 0 none) true
    ∷ malformed (plain 7 0 9 none) true
    ∷ malformed (plain 2 2 0 none) true
    ∷ malformed (plain 8 0 0 none) true
    ∷ malformed (plain 8 4 0 none) true
    ∷ malformed (plain 11 2 0 none) true
    ∷ malformed (plain 11 0 2 third) true
    ∷ sum_right first 0
    ∷ sum_right (sum_written other 0) 0
    ∷ eqb (record_at first 0).sub 1
    ∷ is_whole (next_at first 0) 0
    ∷ is_short (next_at first 1)
    ∷ is_short (next_at first 255)
    ∷ []

-- and none of these
abbrev pub no : List Bool
no =
    malformed (plain 0 9 0 none) true
    ∷ malformed (plain 11 1 8 none) true
    ∷ malformed (plain 7 0 8 none) true
    ∷ malformed (plain 2 1 0 none) true
    ∷ malformed (plain 8 1 0 none) true
    ∷ malformed (plain 8 3 0 none) true
    ∷ malformed (plain 11 0 1 third) true
    ∷ malformed (plain 10 0 2 third) true
    ∷ sum_right other 0
    ∷ sum_right first 1
    ∷ is_short (next_at first 0)
    ∷ is_short (next_at first 256)
    ∷ is_whole (next_at first 256) 256
    ∷ []

pub cases_hold : T (every yes && not (some no))
unfolding malformed sum_right sum_written record_at fields_at numbers_at next_at number_at total sum_of put_at put
cases_hold = tt
