-- 02, Wish 5, over runs: "two runs whose completions differ only in that field agree in state, answers and actions", call by call.
use Rattle.std.specs.Prelude.{◌≡◌, refl, false, List, [], ◌∷◌, ℕ}
use Rattle.std.proofs.Common.{◌∙◌, ap}
use Rattle.decide.specs.Scalars.{strict}
use Rattle.replica.specs.declared.Replica.{Replica}
use Rattle.replica.specs.declared.Done.{Done}
use Rattle.replica.specs.Record.{Outcome}
use Rattle.replica.specs.Step.{Call}
use Rattle.laws.proofs.Theorems.{kind_stays}
use Rattle.laws.specs.BallotIgnored.{Alike, ballot_ignored, saying, saying-Alike}
use Rattle.voting.specs.History.{Lent, told, play}

-- two lists of calls that are alike, call by call, each with the same room
pub data AlikeRuns : List Lent → List Lent → Type 0 where
  none : AlikeRuns [] []
  next : (room : ℕ) (c c' : Call) (h h' : List Lent) → Alike c c' → AlikeRuns h h' → AlikeRuns (record { room = room; call = c } ∷ h) (record { room = room; call = c' } ∷ h')

-- what each call comes to: its answer, its actions, and the replica after it
abbrev pub outcomes : Replica → List Lent → List Outcome
outcomes r [] = []
outcomes r (c ∷ h) = told r c ∷ outcomes (told r c).replica h

-- THE THEOREM, over runs
pub runs_agree : (r : Replica) (h h' : List Lent) → strict r.sc ≡ false → AlikeRuns h h' → (outcomes r h ≡ outcomes r h') × (play r h ≡ play r h')
runs_agree r _ _ base none = (refl, refl)
runs_agree r _ _ base (next room c c' h h' a more) =
    let e : told r (record { room = room; call = c }) ≡ told r (record { room = room; call = c' }) = ballot_ignored r room c c' base a in
    let after : Replica = (told r (record { room = room; call = c' })).replica in
    let (x, y) = runs_agree after h h' (kind_stays r room c' ∙ base) more in (
      λ k. e k ∷ (ap (λ (q : Outcome). outcomes q.replica h) e ∙ x) k,
      ap (λ (q : Outcome). play q.replica h) e ∙ y,
    )

-- that it is about every run: with any ballots in its completions
module _ (f : Done → ℕ) where
  abbrev pub saying_all : List Lent → List Lent
  saying_all [] = []
  saying_all (c ∷ h) = record { room = c.room; call = saying f c.call } ∷ saying_all h

  pub any_run : (h : List Lent) → AlikeRuns h (saying_all h)
  any_run [] = none
  any_run (c ∷ h) = next c.room c.call (saying f c.call) h (saying_all h) (saying-Alike f c.call) (any_run h)
