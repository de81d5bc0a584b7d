-- Actions and the room they are written into. 01: "An action is 18 numbers: kind, member (255 = all), slot, trigger, endprep, ballot,
-- voted ballot, batch id, bar, key count, eight keys. A read answer has read id, place, tag and value in the four after the member.
-- What the source's message or entry lacks is 0; room past the last action stays."
use Rattle.std.specs.Prelude.{◌||◌, List, [], ◌∷◌, ◌++◌, ℕ, ◌+◌, ◌*◌, ltb, leb, length, get_or, take, drop, replicate}
use Rattle.base.specs.Pick.{pick}
use Rattle.actions.specs.declared.Action.{Action}
use Rattle.actions.specs.declared.Says.{Says}
use Rattle.actions.specs.declared.Says.TheVariants.{Nothing, One, Two}
use Rattle.actions.specs.declared.Action.TheVariants.{PrepareBal, AcceptData, CommitSlot, Prepare, PrepareReply, Accept, AcceptReply, CommitNotice, Heartbeat, StatusUp, StatusDown, Execute, ReadAnswer}

abbrev pub everyone : ℕ
everyone = 255

abbrev pub no_keys : List ℕ
no_keys = replicate 8 0

-- the batch of an action has keys; an action that carries no batch has none
abbrev pub keys_for : Action → List ℕ → List ℕ
keys_for (AcceptData p) keys = keys
keys_for (PrepareReply p) keys = keys
keys_for (Accept p) keys = keys
keys_for (Execute p) keys = keys
keys_for (PrepareBal p) keys = no_keys
keys_for (CommitSlot p) keys = no_keys
keys_for (Prepare p) keys = no_keys
keys_for (AcceptReply p) keys = no_keys
keys_for (CommitNotice p) keys = no_keys
keys_for Heartbeat keys = no_keys
keys_for StatusUp keys = no_keys
keys_for StatusDown keys = no_keys
keys_for (ReadAnswer p) keys = no_keys

-- an action with the keys beside it
pub record Act : Type 0 where
  pub what : Action
  pub keys : List ℕ

abbrev pub act : Action → List ℕ → Act
act a keys = record { what = a; keys = keys_for a keys }

-- an action that carries no batch
abbrev pub bare : Action → Act
bare a = act a no_keys

-- eight numbers, whatever the list's length, so that an action has 18 with no condition
abbrev pub eight_of : List ℕ → List ℕ
eight_of l = get_or l 0 0 ∷ get_or l 1 0 ∷ get_or l 2 0 ∷ get_or l 3 0 ∷ get_or l 4 0 ∷ get_or l 5 0 ∷ get_or l 6 0 ∷ get_or l 7 0 ∷ []

abbrev pub row : ℕ → ℕ → ℕ → ℕ → ℕ → ℕ → ℕ → ℕ → ℕ → ℕ → List ℕ → List ℕ
row kind member slot trigger endprep ballot voted batch bar count keys =
    kind ∷ member ∷ slot ∷ trigger ∷ endprep ∷ ballot ∷ voted ∷ batch ∷ bar ∷ count ∷ eight_of keys

-- 01: "Kinds 1 to 13: PrepareBal, AcceptData, CommitSlot, Prepare, PrepareReply, Accept, AcceptReply, CommitNotice, heartbeat, status up,
-- status down, Execute, read answer." 02, Wish 5: "Every log action, CommitSlot too (there, the slot's ballot), .. now carries its ballot"
abbrev pub numbers_of : Action → List ℕ → List ℕ
numbers_of (PrepareBal p) keys = row 1 0 p.slot 0 0 p.ballot 0 0 0 0 keys
numbers_of (AcceptData p) keys = row 2 0 p.slot 0 0 p.ballot 0 p.batch 0 p.count keys
numbers_of (CommitSlot p) keys = row 3 0 p.slot 0 0 p.ballot 0 0 0 0 keys
numbers_of (Prepare p) keys = row 4 everyone 0 p.trigger 0 p.ballot 0 0 0 0 keys
numbers_of (PrepareReply p) keys = row 5 p.member p.slot p.trigger p.endprep p.ballot p.voted p.batch p.bar p.count keys
numbers_of (Accept p) keys = row 6 everyone p.slot 0 0 p.ballot 0 p.batch 0 p.count keys
numbers_of (AcceptReply p) keys = row 7 p.member p.slot 0 0 p.ballot 0 0 0 0 keys
numbers_of (CommitNotice p) keys = row 8 everyone 0 0 0 p.ballot 0 0 p.bar 0 keys
numbers_of Heartbeat keys = row 9 everyone 0 0 0 0 0 0 0 0 keys
numbers_of StatusUp keys = row 10 0 0 0 0 0 0 0 0 0 keys
numbers_of StatusDown keys = row 11 0 0 0 0 0 0 0 0 0 keys
numbers_of (Execute p) keys = row 12 0 p.slot 0 0 0 0 p.batch 0 p.count keys
numbers_of (ReadAnswer p) keys = row 13 0 p.read p.place p.tag p.value 0 0 0 0 keys

-- the numbers of actions, one after the other
abbrev pub flat : List Act → List ℕ
flat [] = []
flat (a ∷ rest) = numbers_of a.what a.keys ++ flat rest

-- the list with vs in place of what stands from `at` on
abbrev pub put_at : List ℕ → ℕ → List ℕ → List ℕ
put_at l at vs = take at l ++ vs ++ drop (at + length vs) l

-- the room with the actions written from the place of the k-th on, and as it was elsewhere
unfoldable pub write_at : List ℕ → ℕ → List Act → List ℕ
write_at room k acts = put_at room (18 * k) (flat acts)

-- the room with the actions at its front, and as it was past them
unfoldable pub write_actions : List ℕ → List Act → List ℕ
write_actions room acts = flat acts ++ drop (18 * length acts) room

-- one action at the k-th place; nothing where k is not below 192 or the room is short of 192 actions
unfoldable pub put_act : List ℕ → ℕ → Act → List ℕ
put_act room k a = pick (leb 192 k || ltb (length room) 3456) room (write_at room k (a ∷ []))

-- the actions that a call on one slot says, with the batch's keys
abbrev pub says_acts : Says → List ℕ → List Act
says_acts Nothing keys = []
says_acts (One a) keys = act a keys ∷ []
says_acts (Two a b) keys = act a keys ∷ act b keys ∷ []
