-- Merging a reply. 01: "For each key, the best answer is nothing, a slot alone, or a slot with a value. Merging a reply:"
use Rattle.std.specs.Prelude.{Bool, true, false, not, ◌&&◌, ℕ, ltb, leb, eqb, get_or, Result, Ok, Err}
use Rattle.base.specs.Pick.{pick}
use Rattle.base.specs.Over.{over}
use Rattle.base.specs.Scan.{scan}
use Rattle.tally.specs.declared.Held.{Held}
use Rattle.tally.specs.declared.Best.{Best}
use Rattle.tally.specs.declared.Best.TheVariants.{Nothing, Slot, Value}
use Rattle.tally.specs.declared.KeyBest.{KeyBest}
use Rattle.tally.specs.declared.Tally.{Tally}
use Rattle.tally.specs.declared.MergeError.{MergeError}
use Rattle.tally.specs.declared.MergeError.TheVariants.{HeldTooLong, ReplyTooLong, UnequalLengths, Conflict}
use Rattle.tally.specs.declared as code
use Rattle.tally.specs.declared.ReadAnswer.{ReadAnswer}

-- 01's numbers of a best answer: tag, slot, value
abbrev pub best_numbers : Best → ℕ × ℕ × ℕ
best_numbers Nothing = (0, 0, 0)
best_numbers (Slot s) = (1, s, 0)
best_numbers (Value h) = (2, h.slot, h.value)

-- a reply merged into one key: what is best known of it then, or a conflict
abbrev pub MergedKey : Type 0
MergedKey = Result Best code.Conflict.Conflict

abbrev pub clashing : MergedKey
clashing = Err (record {})

-- "slot and value": 02, of "a value that meets an empty tally": "From now on it is kept"; 01: "over a slot alone, stored if its slot is not
-- smaller; over a slot with value, stored if larger, and at an equal slot another value is a conflict."
abbrev pub merge_value : Best → Held → MergedKey
merge_value Nothing h = Ok (Value h)
merge_value (Slot t) h = pick (leb t h.slot) (Ok (Value h)) (Ok (Slot t))
merge_value (Value k) h =
    pick (ltb k.slot h.slot) (Ok (Value h))
    (pick (eqb k.slot h.slot && not (eqb k.value h.value)) clashing
    (Ok (Value k)))

-- "slot alone: stored if nothing is held, or if its slot is larger"
abbrev pub merge_slot : Best → ℕ → MergedKey
merge_slot Nothing s = Ok (Slot s)
merge_slot (Slot t) s = pick (ltb t s) (Ok (Slot s)) (Ok (Slot t))
merge_slot (Value k) s = pick (ltb k.slot s) (Ok (Slot s)) (Ok (Value k))

-- "reply nothing: no change"
abbrev pub merge_key : Best → Best → MergedKey
merge_key held Nothing = Ok held
merge_key held (Slot s) = merge_slot held s
merge_key held (Value h) = merge_value held h

-- 01's number for each case: a conflict is 12
abbrev pub merged_answer : MergedKey → ℕ
merged_answer (Ok b) = 0
merged_answer (Err e) = 12

abbrev pub conflicts : MergedKey → Bool
conflicts (Ok b) = false
conflicts (Err e) = true

-- what a key holds after the merge: on a conflict what it held
abbrev pub merged_best : Best → MergedKey → Best
merged_best held (Ok b) = b
merged_best held (Err e) = held

abbrev pub no_best : KeyBest
no_best = record { best = Nothing }

-- what a tally knows of key i
abbrev pub best_at : Tally → ℕ → Best
best_at t i = (get_or t.bests i no_best).best

-- at key i the two do not conflict
abbrev pub agree_at : Tally → Tally → ℕ → Bool
agree_at held reply i = not (conflicts (merge_key (best_at held i) (best_at reply i)))

-- the first key below `count` at which the two conflict, or the count
abbrev pub conflict_at : Tally → Tally → ℕ
conflict_at held reply = scan (agree_at held reply) 0 held.count

abbrev pub merge_at : Tally → ℕ → KeyBest → KeyBest
merge_at reply i held = record { best = merged_best held.best (merge_key held.best (best_at reply i)) }

-- the first n keys merged with the reply's
abbrev pub merge_up_to : Tally → Tally → ℕ → Tally
merge_up_to held reply n = record { count = held.count; bests = over (merge_at reply) no_best 0 n held.bests }

-- a reply merged into a tally: 01's number for the answer (0, 1, 6, 10 or 12), and the tally after it
pub record Merged : Type 0 where
  pub answer : ℕ
  pub tally : Tally

-- 01's number for each way that a merge is refused, or ends early
abbrev pub error_number : MergeError → ℕ
error_number HeldTooLong = 1
error_number ReplyTooLong = 10
error_number UnequalLengths = 6
error_number Conflict = 12

-- and for what the code's merge comes to: 0 where it is done
abbrev pub outcome_number : Result Unit MergeError → ℕ
outcome_number (Ok done) = 0
outcome_number (Err e) = error_number e

abbrev pub lent : Result Unit MergeError → Tally → Merged
lent outcome tally = record { answer = outcome_number outcome; tally = tally }

abbrev pub numbered : code.Merged.Merged → Merged
numbered m = lent m.outcome m.tally

-- 1: a tally held with a count above 8; 10: a reply's "list .. outside the above"; "unequal lengths are 6"; "On conflict: answer 12, merges for
-- earlier keys stay"
unfoldable pub merge : Tally → Tally → Merged
merge held reply =
    pick (ltb 8 held.count) (record { answer = 1; tally = held })
    (pick (ltb 8 reply.count) (record { answer = 10; tally = held })
    (pick (not (eqb held.count reply.count)) (record { answer = 6; tally = held })
    (record { answer = pick (ltb (conflict_at held reply) held.count) (merged_answer clashing) 0; tally = merge_up_to held reply (conflict_at held reply) })))

-- "quorum answers: nothing = not found (tag 0), slot alone = retry naming the leader (1), value = the value (2)"
abbrev pub answer_of : ℕ → Best → ReadAnswer
answer_of leader Nothing = record { tag = 0; value = 0 }
answer_of leader (Slot s) = record { tag = 1; value = leader }
answer_of leader (Value h) = record { tag = 2; value = h.value }
