-- Histories: a list of calls, each with the room it is lent, played one after the other from a replica.
use Rattle.std.specs.Prelude.{◌≡◌, refl, Bool, ◌&&◌, List, [], ◌∷◌, ◌++◌, ℕ, ltb, eqb, length}
use Rattle.replica.specs.declared.Replica.{Replica}
use Rattle.replica.specs.Record.{Outcome}
use Rattle.replica.specs.Step.{Call, step}

-- a call, and how many numbers of room it is lent
pub record Lent : Type 0 where
  pub room : ℕ
  pub call : Call

abbrev pub told : Replica → Lent → Outcome
told r c = step r c.room c.call

abbrev pub play : Replica → List Lent → Replica
play r [] = r
play r (c ∷ h) = play (told r c).replica h

-- one call more
pub play-append : (r : Replica) (h : List Lent) (c : Lent) → play r (h ++ (c ∷ [])) ≡ (told (play r h) c).replica
play-append r [] c = refl
play-append r (x ∷ h) c = play-append (told r x).replica h c

-- a call acts: answer 0, with an action
abbrev pub acts : Outcome → Bool
acts o = eqb o.answer 0 && ltb 0 (length o.actions)
