-- The actions that a call writes for one slot of a range.
use Rattle.std.specs.Prelude.{not, ◌||◌, List, [], ◌∷◌, ℕ, leb, eqb}
use Rattle.base.specs.Pick.{pick}
use Rattle.actions.specs.declared.Action.TheVariants.{PrepareBal, AcceptData, CommitSlot, Accept, Execute}
use Rattle.actions.specs.Actions.{Act, act, bare}
use Rattle.slots.specs.declared.Slot.{Slot}
use Rattle.slots.specs.Slots.{preparing, committed}
use Rattle.decide.specs.Decide.{proposal}

abbrev pub promise : ℕ → ℕ → Act
promise slot ballot = bare (PrepareBal (record { slot = slot; ballot = ballot }))

-- step-up: "PrepareBal by rising slot", for the slots below Committed
abbrev pub redo_acts : ℕ → ℕ → Slot → List Act
redo_acts slot ballot s = pick (leb committed s.status) [] (promise slot ballot ∷ [])

-- "At quorum every Preparing slot from trigger on gives AcceptData, then Accept."
abbrev pub enter_acts : ℕ → ℕ → Slot → List Act
enter_acts slot ballot s =
    pick (eqb s.status preparing)
    (act (AcceptData (proposal slot ballot s.batch)) s.batch.keys ∷ act (Accept (proposal slot ballot s.batch)) s.batch.keys ∷ [])
    []

-- CommitNotice: the slots below Committed are marked, each with its own ballot, which marking keeps
abbrev pub mark_acts : ℕ → Slot → List Act
mark_acts slot s = pick (leb committed s.status) [] (bare (CommitSlot (record { slot = slot; ballot = s.ballot })) ∷ [])

-- "One Execute action per batch"; an empty batch is executed at once
abbrev pub pass_acts : ℕ → Slot → List Act
pass_acts slot s =
    pick (eqb s.batch.id 0 || not (eqb s.status committed)) []
    (act (Execute (record { slot = slot; batch = s.batch.id; count = s.batch.count })) s.batch.keys ∷ [])
