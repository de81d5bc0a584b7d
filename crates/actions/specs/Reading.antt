-- An action read back from the room. The numbers of a row that its kind does not use are ignored.
use Rattle.std.specs.Prelude.{Bool, true, false, ◌&&◌, ◌||◌, List, [], ◌∷◌, ℕ, ◌*◌, ltb, leb, eqb, length, get_or, take, drop}
use Rattle.std.specs.declared.option.Option.{Option}
use Rattle.std.specs.declared.option.Option.TheVariants.{None, Some}
use Rattle.base.specs.Pick.{pick}
use Rattle.actions.specs.declared.Action.{Action}
use Rattle.actions.specs.declared.Action.TheVariants.{PrepareBal, AcceptData, CommitSlot, Prepare, PrepareReply, Accept, AcceptReply, CommitNotice, Heartbeat, StatusUp, StatusDown, Execute, ReadAnswer}
use Rattle.actions.specs.declared.Got as code
use Rattle.actions.specs.Actions.{no_keys, keys_for}

-- an action with its keys, and whether there is one
pub record Got : Type 0 where
  pub found : Bool
  pub what : Action
  pub keys : List ℕ

-- by its kind; a heartbeat at 9, and where there is no such kind
unfoldable pub action_of : ℕ → ℕ → ℕ → ℕ → ℕ → ℕ → ℕ → ℕ → ℕ → ℕ → Action
action_of kind member slot trigger endprep ballot voted batch bar count =
    pick (eqb kind 1) (PrepareBal (record { slot = slot; ballot = ballot }))
    (pick (eqb kind 2) (AcceptData (record { slot = slot; ballot = ballot; batch = batch; count = count }))
    (pick (eqb kind 3) (CommitSlot (record { slot = slot; ballot = ballot }))
    (pick (eqb kind 4) (Prepare (record { trigger = trigger; ballot = ballot }))
    (pick (eqb kind 5)
    (PrepareReply
    (record { member = member; slot = slot; trigger = trigger; endprep = endprep; ballot = ballot; voted = voted; batch = batch; count = count; bar = bar }))
    (pick (eqb kind 6) (Accept (record { slot = slot; ballot = ballot; batch = batch; count = count }))
    (pick (eqb kind 7) (AcceptReply (record { member = member; slot = slot; ballot = ballot }))
    (pick (eqb kind 8) (CommitNotice (record { ballot = ballot; bar = bar }))
    (pick (eqb kind 10) StatusUp
    (pick (eqb kind 11) StatusDown
    (pick (eqb kind 12) (Execute (record { slot = slot; batch = batch; count = count }))
    (pick (eqb kind 13) (ReadAnswer (record { read = slot; place = trigger; tag = endprep; value = ballot }))
    Heartbeat)))))))))))

abbrev pub row_action : List ℕ → Action
row_action l =
    action_of (get_or l 0 0) (get_or l 1 0) (get_or l 2 0) (get_or l 3 0) (get_or l 4 0) (get_or l 5 0) (get_or l 6 0) (get_or l 7 0) (get_or l 8 0) (get_or l 9 0)

abbrev pub row_keys : List ℕ → List ℕ
row_keys l = get_or l 10 0 ∷ get_or l 11 0 ∷ get_or l 12 0 ∷ get_or l 13 0 ∷ get_or l 14 0 ∷ get_or l 15 0 ∷ get_or l 16 0 ∷ get_or l 17 0 ∷ []

abbrev pub is_kind : ℕ → Bool
is_kind kind = leb 1 kind && leb kind 13

abbrev pub nothing_read : Got
nothing_read = record { found = false; what = Heartbeat; keys = no_keys }

-- what the code hands back: none is a heartbeat that was not found
abbrev pub seen : Option code.Got → Got
seen None = nothing_read
seen (Some g) = record { found = true; what = g.what; keys = g.keys }

-- the action of a row that has a kind
abbrev pub row_kept : List ℕ → Option Action
row_kept l = pick (is_kind (get_or l 0 0)) (Some (row_action l)) None

-- what the 18 numbers say
unfoldable pub read_row : List ℕ → Got
read_row l = record { found = is_kind (get_or l 0 0); what = row_action l; keys = keys_for (row_action l) (row_keys l) }

-- the action at the k-th place; none where k is not below 192 or the room is short of 192 actions
unfoldable pub read_act : List ℕ → ℕ → Got
read_act room k = pick (leb 192 k || ltb (length room) 3456) nothing_read (read_row (take 18 (drop (18 * k) room)))
