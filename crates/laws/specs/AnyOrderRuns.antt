-- Runs of read replies, closed by computation: three members in all six orders and with repetitions; what a host must still care about; and runs that meet
-- the theorems' hypotheses.
use Rattle.std.specs.Prelude.{◌≡◌, refl, Bool, true, ◌&&◌, List, [], ◌∷◌, ◌++◌, ℕ, ◌≤◌, ◌<◌, T, eqb, replicate}
use mathlib.Core.List.Memᴰ
use Rattle.std.proofs.Common.{le_refl, arith}
use Rattle.base.specs.Pick.{pick}
use Rattle.base.specs.Among.{◌∈◌, SameMembers, All, All-in}
use Rattle.base.specs.Scan.{scan}
use Rattle.members.specs.Sets.{has, insert, count, count_in}
use Rattle.batch.specs.Batches.{same_list}
use Rattle.tally.specs.declared.Best.{Best}
use Rattle.tally.specs.declared.Best.TheVariants.{Nothing, Slot as SlotAlone}
use Rattle.tally.specs.declared.Tally.{Tally}
use Rattle.tally.specs.Merge.{no_best, merge}
use Rattle.tally.specs.Open.{find_read, open_read, close_read, put_read, reply_to, fit_reads}
use Rattle.tally.proofs.AnyOrder.{answered_agreeing}
use Rattle.actions.specs.Actions.{flat}
use Rattle.slots.specs.Slots.{fit_slot}
use Rattle.decide.specs.Scalars.{quorum, fit_scalars}
use Rattle.window.specs.Window.{first_open, fit_slots}
use Rattle.replica.specs.declared.Replica.{Replica}
use Rattle.replica.specs.Record.{new_replica}
use Rattle.replica.specs.Fit.{fit}
use Rattle.replica.specs.Quorumread.{open_read_step, replied_step, read_reply_step}
use Rattle.replica.specs.Step.{Call, call_prepare, call_open_read, call_read_reply, step}
use Rattle.replica.specs.Cases.{open_reads, look, Run, run, right_runs, right_run, right_turn, asked, told, fresh, held, answers, of_one, with_value}
use Rattle.laws.specs.AnyOrder.{read_of, AgreeingReplies, acknowledged_with, member_reply, replied, replied_acts, replied_answers, Aside, CallsBetween, no_more, aside, from_member}

-- member 2 of a group of five opens read 5, for four keys
abbrev pub four_keys : Call
four_keys = call_open_read 5 4 (4 ∷ 6 ∷ 8 ∷ 10 ∷ replicate 4 0)

abbrev pub asked_four : Replica
asked_four = (step (new_replica 2 5 0 0).replica 3456 four_keys).replica

abbrev pub of_four : Best → Best → Best → Best → Tally
of_four a b c d = record { count = 4; bests = record { best = a } ∷ record { best = b } ∷ record { best = c } ∷ record { best = d } ∷ replicate 4 no_best }

-- what members 0, 1 and 3 reply: a slot alone and the same slot with its value, a value and smaller slots, nothing and a value, a value and a larger slot
abbrev pub three_say : ℕ → Tally
three_say m =
    pick (eqb m 0) (of_four (SlotAlone 7) (with_value 5 1) Nothing (with_value 8 2))
    (pick (eqb m 1) (of_four (with_value 7 9) (SlotAlone 4) (SlotAlone 3) (SlotAlone 9)) (of_four (SlotAlone 6) Nothing (with_value 3 8) Nothing))

-- the replies of a list's members: every answer is 0, and these are the actions and the open reads
abbrev pub zeros : List ℕ → Bool
zeros [] = true
zeros (x ∷ l) = eqb x 0 && zeros l

abbrev pub ends_with : List ℕ → List ℕ → List ℕ → Bool
ends_with acts reads ms =
    zeros (replied_answers 3456 5 three_say asked_four ms)
    && (same_list (flat (replied_acts 3456 5 three_say asked_four ms)) acts && same_list (open_reads (replied 3456 5 three_say asked_four ms)) reads)

abbrev pub each_order : (List ℕ → Bool) → List (List ℕ) → Bool
each_order f [] = true
each_order f (ms ∷ l) = f ms && each_order f l

-- all six orders, and some with repetitions
abbrev pub orders : List (List ℕ)
orders =
    (0 ∷ 1 ∷ 3 ∷ []) ∷ (0 ∷ 3 ∷ 1 ∷ []) ∷ (1 ∷ 0 ∷ 3 ∷ []) ∷ (1 ∷ 3 ∷ 0 ∷ []) ∷ (3 ∷ 0 ∷ 1 ∷ []) ∷ (3 ∷ 1 ∷ 0 ∷ [])
    ∷ (0 ∷ 0 ∷ 1 ∷ 3 ∷ []) ∷ (3 ∷ 1 ∷ 3 ∷ 1 ∷ 0 ∷ []) ∷ (1 ∷ 0 ∷ 3 ∷ 0 ∷ 1 ∷ 3 ∷ [])
    ∷ []

-- the read closes: the value of slot 7, that of slot 5, that of slot 3; and of the fourth key slot 9 alone is known, so retry
pub orders_hold : T (each_order (ends_with (answers 0 2 9 ++ (answers 1 2 1 ++ (answers 2 2 8 ++ answers 3 1 255))) []) orders)
unfolding new_replica fit fit_scalars fit_slots fit_slot fit_reads open_read_step replied_step read_reply_step find_read open_read close_read put_read reply_to merge scan has insert count count_in first_open
orders_hold = tt

-- two of them, below the quorum: the read stays open and knows the same
pub pairs_hold : T (each_order (ends_with [] (5 ∷ 3 ∷ 4 ∷ 2 ∷ 7 ∷ 9 ∷ 6 ∷ 2 ∷ 5 ∷ 1 ∷ 8 ∷ 1 ∷ 3 ∷ 0 ∷ 10 ∷ 1 ∷ 9 ∷ 0 ∷ [])) ((0 ∷ 1 ∷ []) ∷ (1 ∷ 0 ∷ []) ∷ (1 ∷ 1 ∷ 0 ∷ 1 ∷ []) ∷ []))
unfolding new_replica fit fit_scalars fit_slots fit_slot fit_reads open_read_step replied_step read_reply_step find_read open_read close_read put_read reply_to merge scan has insert count count_in first_open
pairs_hold = tt

-- what a host must still care about: runs of one read of one key that end otherwise in another order
unfoldable pub limits : List Run
limits =
    -- two values at one slot: the second is 12, whichever it is, and the first is what is known
    run 2 5 (asked ∷ told 0 (of_one (with_value 7 9)) 0 (held 1 2 7 9) [] ∷ told 1 (of_one (with_value 7 8)) 12 (held 1 2 7 9) [] ∷ [])
    ∷ run 2 5 (asked ∷ told 1 (of_one (with_value 7 8)) 0 (held 2 2 7 8) [] ∷ told 0 (of_one (with_value 7 9)) 12 (held 2 2 7 8) [] ∷ [])
    -- and with a larger slot told between them no 12 at all
    ∷ run 2 5
    (asked
    ∷ told 0 (of_one (with_value 7 9)) 0 (held 1 2 7 9) []
    ∷ told 3 (of_one (SlotAlone 8)) 0 (held 9 1 8 0) []
    ∷ told 1 (of_one (with_value 7 8)) 0 [] (answers 0 1 255)
    ∷ [])
    -- a reply marked from the leader closes the read with its own list; after the quorum it comes too late
    ∷ run 2 3
    (asked
    ∷ fresh (call_read_reply 1 5 true (of_one (with_value 5 3))) 0 [] (answers 0 2 3)
    ∷ told 0 (of_one (with_value 7 9)) 0 [] []
    ∷ told 2 (of_one Nothing) 0 [] []
    ∷ [])
    ∷ run 2 3
    (asked
    ∷ told 0 (of_one (with_value 7 9)) 0 (held 1 2 7 9) []
    ∷ told 2 (of_one Nothing) 0 [] (answers 0 2 9)
    ∷ fresh (call_read_reply 1 5 true (of_one (with_value 5 3))) 0 [] []
    ∷ [])
    -- more members than make a quorum: those who come first are heard
    ∷ run 2 3
    (asked
    ∷ told 0 (of_one (with_value 7 9)) 0 (held 1 2 7 9) []
    ∷ told 1 (of_one Nothing) 0 [] (answers 0 2 9)
    ∷ told 2 (of_one (SlotAlone 9)) 0 [] []
    ∷ [])
    ∷ run 2 3
    (asked
    ∷ told 2 (of_one (SlotAlone 9)) 0 (held 4 1 9 0) []
    ∷ told 1 (of_one Nothing) 0 [] (answers 0 1 255)
    ∷ told 0 (of_one (with_value 7 9)) 0 [] []
    ∷ [])
    -- a member that says two things: the first is heard
    ∷ run 2 5 (asked ∷ told 0 (of_one (SlotAlone 7)) 0 (held 1 1 7 0) [] ∷ told 0 (of_one (with_value 7 9)) 0 (held 1 1 7 0) [] ∷ [])
    ∷ run 2 5 (asked ∷ told 0 (of_one (with_value 7 9)) 0 (held 1 2 7 9) [] ∷ told 0 (of_one (SlotAlone 7)) 0 (held 1 2 7 9) [] ∷ [])
    ∷ []

pub limits_hold : T (right_runs look limits)
unfolding limits right_runs right_run right_turn new_replica fit fit_scalars fit_slots fit_slot fit_reads open_read_step replied_step read_reply_step find_read open_read close_read put_read reply_to merge scan has insert count count_in first_open
limits_hold = tt

-- THE HYPOTHESES ARE MET, by the first of the orders: so the theorem says of another, with repetitions, what was computed above

abbrev pub first_order : List ℕ
first_order = 0 ∷ 1 ∷ 3 ∷ []

abbrev pub another : List ℕ
another = 3 ∷ 1 ∷ 3 ∷ 1 ∷ 0 ∷ []

-- each reply merges into the open read's tally, and into each other
abbrev Merges : Tally → ℕ → Type 0
Merges held m = (merge held (three_say m)).answer ≡ 0

held_merges : All (Merges (read_of asked_four 5).tally) first_order
unfolding merge scan new_replica open_read_step open_read find_read fit fit_scalars fit_slots fit_reads first_open
held_merges = (refl, (refl, (refl, tt)))

each_merges : All (λ (m : ℕ). All (Merges (three_say m)) first_order) first_order
unfolding merge scan
each_merges = ((refl, (refl, (refl, tt))), ((refl, (refl, (refl, tt))), ((refl, (refl, (refl, tt))), tt)))

pub met_hears : AgreeingReplies 5 three_say asked_four first_order
unfolding new_replica fit fit_scalars fit_slots fit_reads open_read_step find_read open_read scan first_open
met_hears =
    record {
      members = λ m o. All-in (λ (x : ℕ). x < 5) {l = first_order} (omega arith, (omega arith, (omega arith, tt))) o;
      few = λ m o. All-in (λ (x : ℕ). (three_say x).count ≤ 8) {l = first_order} (omega arith, (omega arith, (omega arith, tt))) o;
      with_held = λ m o e. answered_agreeing (read_of asked_four 5).tally (three_say m) (All-in (Merges (read_of asked_four 5).tally) held_merges o);
      with_each = λ m n o p e f.
          answered_agreeing (three_say m) (three_say n) (All-in (Merges (three_say m)) (All-in (λ (x : ℕ). All (Merges (three_say x)) first_order) each_merges o) p);
    }

pub met_quorum : acknowledged_with 5 asked_four first_order ≤ quorum asked_four.sc
unfolding new_replica fit fit_scalars fit_slots fit_reads open_read_step find_read open_read scan has insert count count_in first_open
met_quorum = le_refl 3

pub same_members : SameMembers first_order another
same_members =
    record {
      there = λ m o.
          All-in (λ (x : ℕ). x ∈ another) {l = first_order}
          (Memᴰ.tail (Memᴰ.tail (Memᴰ.tail (Memᴰ.tail (Memᴰ.head refl)))), (Memᴰ.tail (Memᴰ.head refl), (Memᴰ.head refl, tt))) o;
      back = λ m o.
          let one : 1 ∈ first_order = Memᴰ.tail (Memᴰ.head refl) in
          let last : 3 ∈ first_order = Memᴰ.tail (Memᴰ.tail (Memᴰ.head refl)) in
          All-in (λ (x : ℕ). x ∈ first_order) {l = another} (last, (one, (last, (one, (Memᴰ.head refl, tt))))) o;
    }

-- with other calls between them: a Prepare after the first; another read opened before, and the replies the other way round, one of them twice
abbrev pub two : List ℕ
two = 0 ∷ 1 ∷ []

abbrev pub turned : List ℕ
turned = 1 ∷ 0 ∷ 1 ∷ []

abbrev pub with_prepare : Replica
with_prepare = (step (step (step asked_four 3456 (member_reply 5 three_say 0)).replica 3456 (call_prepare 0 2 257)).replica 3456 (member_reply 5 three_say 1)).replica

abbrev pub with_read : Replica
with_read = replied 3456 5 three_say (step asked_four 3456 (call_open_read 6 1 (replicate 8 0))).replica turned

Aside-prepare : Aside 5 (call_prepare 0 2 257)
Aside-prepare peer leader reply e = let z : ◌≡◌ {A = ℕ} 0 1 = cc in omega arith

Aside-open : Aside 5 (call_open_read 6 1 (replicate 8 0))
Aside-open peer leader reply e = let z : ◌≡◌ {A = ℕ} 0 1 = cc in omega arith

pub met_prepare : CallsBetween 5 three_say asked_four two with_prepare
met_prepare = from_member 3456 0 (le_refl 3456) (aside 3456 (call_prepare 0 2 257) Aside-prepare (from_member 3456 1 (le_refl 3456) no_more))

pub met_read : CallsBetween 5 three_say asked_four turned with_read
met_read =
    aside 3456 (call_open_read 6 1 (replicate 8 0)) Aside-open
    (from_member 3456 1 (le_refl 3456) (from_member 3456 0 (le_refl 3456) (from_member 3456 1 (le_refl 3456) no_more)))

pub met_below : acknowledged_with 5 asked_four two < quorum asked_four.sc
unfolding new_replica fit fit_scalars fit_slots fit_reads open_read_step find_read open_read scan has insert count count_in first_open
met_below = le_refl 3

-- the reply that makes the quorum, the last of one order and of another
abbrev pub with_other : Replica
with_other = replied 3456 5 three_say (step asked_four 3456 (call_open_read 6 1 (replicate 8 0))).replica two

abbrev pub backwards : List ℕ
backwards = 3 ∷ 1 ∷ []

pub met_other : CallsBetween 5 three_say asked_four two with_other
met_other =
    aside 3456 (call_open_read 6 1 (replicate 8 0)) Aside-open (from_member 3456 0 (le_refl 3456) (from_member 3456 1 (le_refl 3456) no_more))

pub met_backwards : CallsBetween 5 three_say asked_four backwards (replied 3456 5 three_say asked_four backwards)
met_backwards = from_member 3456 3 (le_refl 3456) (from_member 3456 1 (le_refl 3456) no_more)
