-- What a call on one slot says, at the next place of the room. It may say two actions, so it says nothing where two have no room.
use Rattle.std.specs.Prelude.{◌≡◌, Bool, ◌||◌, List, ℕ, ◌+◌, ltb, length}
use Rattle.base.specs.Pick.{pick}
use Rattle.actions.specs.Actions.{Act, write_at}

-- no place for two actions from the k-th on
abbrev pub cramped : List ℕ → ℕ → Bool
cramped room k = ltb 190 k || ltb (length room) 3456

unfoldable pub say_acts : List ℕ → ℕ → List Act → List ℕ
say_acts room k acts = pick (cramped room k) room (write_at room k acts)

unfoldable pub place_after : List ℕ → ℕ → List Act → ℕ
place_after room k acts = pick (cramped room k) k (k + length acts)

-- the room afterwards and the next place
pub record Said (room : List ℕ) (k : ℕ) (acts : List Act) (next : ℕ) (after : List ℕ) : Type 0 where
  pub placed : next ≡ place_after room k acts
  pub written : after ≡ say_acts room k acts
