-- 02, Wish 5, over a group's worlds: two runs of one group of base replicas whose completions differ only in the ballot lead to the same world, so to the same replicas,
-- logs, messages and marks.
use Rattle.std.specs.Prelude.{◌≡◌, true, List, [], ◌∷◌, ℕ}
use Rattle.replica.specs.Step.{Call, step}
use Rattle.laws.specs.BallotIgnored.{Alike}
use Rattle.agreement.specs.Theorem.{Group, World, put, begin, May, Reach, begins, turn}

-- two runs that are alike turn by turn: the same member, the same room, and calls that are alike
pub data AlikeReach (g : Group) : (w w' : World) → Reach g w → Reach g w' → Type 0 where
  both_begin : AlikeReach g (begin g) (begin g) begins begins
  both_turn : {w w' : World} {r : Reach g w} {r' : Reach g w'} → AlikeReach g w w' r r' → (m : ℕ) (p : g.present m ≡ true) (room : ℕ) (c c' : Call)
      (a : May w m room c) (a' : May w' m room c') → Alike c c'
      → AlikeReach g (put w m (step (w.replica m) room c)) (put w' m (step (w'.replica m) room c')) (turn r m p room c a) (turn r' m p room c' a')

-- the calls of a run, the last one first
abbrev pub calls_of : {g : Group} {w : World} → Reach g w → List Call
calls_of begins = []
calls_of (turn r m p room c a) = c ∷ calls_of r
