-- A tally from the numbers that name it, as 01's trace has them: three for each key.
use Rattle.std.specs.Prelude.{List, [], ◌∷◌, ℕ, ◌*◌, ◌+◌, eqb, get_or}
use Rattle.base.specs.Pick.{pick}
use Rattle.tally.specs.declared.Best.TheVariants.{Nothing, Slot, Value}
use Rattle.tally.specs.declared.KeyBest.{KeyBest}
use Rattle.tally.specs.declared.Tally.{Tally}

-- "tag (0 nothing, 1 slot, 2 value), slot, value"
abbrev pub best_from : ℕ → ℕ → ℕ → KeyBest
best_from tag slot value =
    record { best = pick (eqb tag 0) Nothing (pick (eqb tag 1) (Slot slot) (Value (record { slot = slot; value = value }))) }

abbrev pub best_of : List ℕ → ℕ → KeyBest
best_of entries i = best_from (get_or entries (3 * i) 0) (get_or entries (3 * i + 1) 0) (get_or entries (3 * i + 2) 0)

abbrev pub listed : ℕ → List ℕ → Tally
listed count e =
    record { count = count; bests = best_of e 0 ∷ best_of e 1 ∷ best_of e 2 ∷ best_of e 3 ∷ best_of e 4 ∷ best_of e 5 ∷ best_of e 6 ∷ best_of e 7 ∷ [] }
