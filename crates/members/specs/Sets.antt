-- Sets of members. 01: "a member set"; a group has at most 9 members, so a set is bits 0 to 8 of a number.
use Rattle.std.specs.Prelude.{Bool, ◌&&◌, ◌||◌, ℕ, zero, suc, ◌+◌, ◌/◌, ◌%◌, ◌^◌, ltb, leb, eqb}
use Rattle.base.specs.Pick.{pick, one}

-- member m is in the set: bit m of it is 1, and m is one of 0 to 8
unfoldable pub has : ℕ → ℕ → Bool
has set m = leb m 8 && eqb (set / 2 ^ m % 2) 1

-- the set with m put in; a number that is no set (above 511) stays, and so does a set where m is no member (above 8) or is in it
unfoldable pub insert : ℕ → ℕ → ℕ
insert set m = pick (ltb 511 set || ltb 8 m || has set m) set (set + 2 ^ m)

-- how many of 0 to n - 1 are in f
unfoldable pub count : ℕ → (ℕ → Bool) → ℕ
count zero f = 0
count (suc n) f = count n f + one (f n)

-- how many of the members 0 to 8 are in the set
unfoldable pub count_in : ℕ → ℕ
count_in set = count 9 (has set)

-- no bit at or past n is 1: the set has no member outside a group of n
abbrev pub fits_group : ℕ → ℕ → Bool
fits_group set n = ltb set (2 ^ n)
