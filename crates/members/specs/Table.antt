-- The table of member counts. 02: "That each entry is right is shown once over the whole table."
use Rattle.std.specs.Prelude.{◌≡◌, Bool, true, List, ℕ, ◌%◌, eqb, length, get_or}
use Rattle.std.proofs.Common.{◌∙◌, arith, eqb-true}
use Rattle.base.specs.Tables.{all_pass, pass_at}
use Rattle.members.specs.Sets.{count_in}
use Rattle.members.specs.Laws.{count_low}

-- an entry is right: it is the number of members of the set whose number is its place
abbrev pub right_entry : ℕ → ℕ → Bool
right_entry set entry = eqb entry (count_in set)

-- the test of a table, which is computed over the whole of it
abbrev pub all_right : List ℕ → Bool
all_right table = all_pass right_entry table

-- a table of 512 entries that passes it gives every number's count, read at the number's bits 0 to 8
pub table_counts : (table : List ℕ) (set : ℕ) → length table ≡ 512 → all_right table ≡ true → get_or table (set % 512) 0 ≡ count_in set
table_counts table set n t =
    eqb-true (get_or table (set % 512) 0) (count_in (set % 512)) (pass_at right_entry table t (set % 512) (omega arith)) ∙ count_low set
