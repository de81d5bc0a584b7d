-- What is printed of a best answer.
use Rattle.std.specs.Prelude.{ℕ, List, ◌++◌, codes, decimal}
use Rattle.tally.specs.declared.Best.{Best}
use Rattle.tally.specs.declared.Best.TheVariants.{Nothing, Slot, Value}

-- 01's three numbers: tag, slot and value
abbrev pub best_text : Best → List ℕ
best_text Nothing = codes "0 0 0"
best_text (Slot s) = codes "1 " ++ decimal s ++ codes " 0"
best_text (Value h) = codes "2 " ++ decimal h.slot ++ codes " " ++ decimal h.value
