-- Groups and quorums. 01: "Group of 1, 3, 5, 7 or 9 members; quorum = floor(n/2)+1."
use Rattle.std.specs.Prelude.{Bool, ◌&&◌, ℕ, ◌+◌, ◌/◌, ◌%◌, leb, eqb}

abbrev pub group_size : ℕ → Bool
group_size n = leb n 9 && eqb (n % 2) 1

abbrev pub quorum_of : ℕ → ℕ
quorum_of n = n / 2 + 1
