-- Ballots. 01: "New ballot: (floor(bal_max_seen/256)+1)*256 + id + 1. A ballot's owner is (ballot mod 256) - 1."
use Rattle.std.specs.Prelude.{Bool, ◌||◌, ℕ, ◌+◌, ◌-◌, ◌*◌, ◌/◌, ◌%◌, ltb, eqb}
use Rattle.base.specs.Pick.{pick}
use Rattle.std.specs.declared.option.Option.{Option}
use Rattle.std.specs.declared.option.Option.TheVariants.{None, Some}

-- the remainder names the owner; a remainder of 0 names nobody
abbrev pub owner_of : ℕ → Option ℕ
owner_of ballot = pick (eqb (ballot % 256) 0) None (Some (ballot % 256 - 1))

-- whether m made the ballot
abbrev pub owns : ℕ → ℕ → Bool
owns ballot m = eqb (ballot % 256) (m + 1)

abbrev pub ballot_above : ℕ → ℕ → ℕ
ballot_above max id = (max / 256 + 1) * 256 + id + 1

-- 01, answer 8: "floor(bal_max_seen/256) = 2^56 - 1"; and an id above 254 owns no ballot
abbrev pub next_ballot : ℕ → ℕ → Option ℕ
next_ballot max id = pick (ltb 254 id || eqb (max / 256) 72057594037927935) None (Some (ballot_above max id))

-- 01's answer number for each case
abbrev pub next_answer : Option ℕ → ℕ
next_answer (Some b) = 0
next_answer None = 8
