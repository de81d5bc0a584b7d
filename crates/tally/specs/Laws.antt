-- What a merge and a reply promise of each key, of the answer and of the read, beyond their definitions.
use Rattle.std.specs.Prelude.{◌≡◌, not, ℕ, ◌≤◌, ◌<◌, eqb, Option, Some, None, Result, Ok, Err}
use Rattle.std.proofs.Math.Path.{refl}
use Rattle.std.proofs.Common.{sym, ap, ◌∙◌, arith}
use Rattle.std.proofs.Math.Bool.{false}
use Rattle.std.proofs.lemmas.List.{get_or-replicate}
use Rattle.base.specs.Pick.{pick, clash}
use Rattle.tally.specs.declared.Held.{Held}
use Rattle.tally.specs.declared.Best.{Best}
use Rattle.tally.specs.declared.Best.TheVariants.{Nothing, Slot, Value}
use Rattle.tally.specs.declared.KeyBest.{KeyBest}
use Rattle.tally.specs.declared.Tally.{Tally}
use Rattle.tally.specs.declared.Reads.{Reads}
use Rattle.tally.specs.declared.MergeError.{MergeError}
use Rattle.tally.specs.declared.MergeError.TheVariants.{HeldTooLong, ReplyTooLong, UnequalLengths, Conflict}
use Rattle.tally.specs.declared.OpenError.{OpenError}
use Rattle.tally.specs.declared.OpenError.TheVariants.{Outside, Full}
use Rattle.tally.specs.declared as code
use Rattle.tally.specs.Merge.{MergedKey, clashing, Merged, error_number, outcome_number, lent, numbered, best_numbers, answer_of, merge_key, conflicts, no_best, best_at}
use Rattle.tally.specs.Larger.{level}
use Rattle.tally.specs.Open.{Opened, Replied, numbered_open, numbered_reply, stays_open, nothing_known}

-- ONE KEY

-- 02: what meets nothing held is kept as it came, its value too; so it is no conflict
pub first_kept : (b : Best) → merge_key Nothing b ≡ Ok b
first_kept Nothing = refl
first_kept (Slot s) = refl
first_kept (Value h) = refl

-- where a slot alone is known, no value was told for it or for a larger one: only then is the answer retry
pub retry_told : (s : ℕ) (h : Held) → level (Value h) ≤ level (Slot s) → h.slot < s
retry_told s h q = omega arith

-- what a read answers has the tag of the best answer known
pub answer_tag : (leader : ℕ) (b : Best) → (answer_of leader b).tag ≡ (best_numbers b).0
answer_tag leader Nothing = refl
answer_tag leader (Slot s) = refl
answer_tag leader (Value h) = refl

pub clashed : (m : MergedKey) → not (conflicts m) ≡ false → m ≡ clashing
clashed (Ok b) e = absurd (clash refl e)
clashed (Err c) e = refl

-- so it is for the first reply to a read: of a new one nothing is known
pub new_blank : (count i : ℕ) → count ≤ 8 → i < count → best_at (nothing_known count) i ≡ Nothing
new_blank count i few h = ap (λ (k : KeyBest). k.best) (get_or-replicate 8 i no_best no_best (omega arith))

-- THE CODE'S OUTCOMES. 01's number tells any two of them apart: each is the one that its number names

abbrev pub error_named : ℕ → MergeError
error_named n = pick (eqb n 1) HeldTooLong (pick (eqb n 10) ReplyTooLong (pick (eqb n 6) UnequalLengths Conflict))

abbrev pub outcome_named : ℕ → Result Unit MergeError
outcome_named n = pick (eqb n 0) (Ok tt) (Err (error_named n))

pub outcome_by_name : (o : Result Unit MergeError) → outcome_named (outcome_number o) ≡ o
outcome_by_name (Ok done) = refl
outcome_by_name (Err HeldTooLong) = refl
outcome_by_name (Err ReplyTooLong) = refl
outcome_by_name (Err UnequalLengths) = refl
outcome_by_name (Err Conflict) = refl

-- so a promise of `merge_into` or `merge` is met by one outcome alone
pub lent_unique : (o p : Result Unit MergeError) (t u : Tally) → lent o t ≡ lent p u → (o ≡ p) × (t ≡ u)
lent_unique o p t u e =
    (sym (outcome_by_name o) ∙ (ap (λ (m : Merged). outcome_named m.answer) e ∙ outcome_by_name p), ap (λ (m : Merged). m.tally) e)

pub numbered_unique : (m n : code.Merged.Merged) → numbered m ≡ numbered n → m ≡ n
numbered_unique m n e = let same = lent_unique m.outcome n.outcome m.tally n.tally e in rw (same.0, same.1)

-- of a reply that is not merged to its end only a conflict leaves the read changed
pub only_conflict_stays : (e : MergeError) → (e ≡ Conflict → ⊥) → stays_open (error_number e) ≡ false
only_conflict_stays HeldTooLong h = refl
only_conflict_stays ReplyTooLong h = refl
only_conflict_stays UnequalLengths h = refl
only_conflict_stays Conflict h = absurd (h refl)

-- and one of `open_read`
abbrev pub opening_named : ℕ → Result Unit OpenError
opening_named n = pick (eqb n 0) (Ok tt) (Err (pick (eqb n 10) Outside Full))

pub opening_by_name : (o : Result Unit OpenError) (rs : Reads) → opening_named (numbered_open o rs).answer ≡ o
opening_by_name (Ok done) rs = refl
opening_by_name (Err Outside) rs = refl
opening_by_name (Err Full) rs = refl

pub opening_reads : (o : Result Unit OpenError) (rs : Reads) → (numbered_open o rs).reads ≡ rs
opening_reads (Ok done) rs = refl
opening_reads (Err e) rs = refl

pub opened_unique : (o p : Result Unit OpenError) (rs ss : Reads) → numbered_open o rs ≡ numbered_open p ss → (o ≡ p) × (rs ≡ ss)
opened_unique o p rs ss e = (
  sym (opening_by_name o rs) ∙ (ap (λ (m : Opened). opening_named m.answer) e ∙ opening_by_name p ss),
  sym (opening_reads o rs) ∙ (ap (λ (m : Opened). m.reads) e ∙ opening_reads p ss),
)

-- and one of `reply_to`
abbrev pub reply_named : Replied → code.Replied.Replied
reply_named d = record { outcome = pick d.closes (Ok (Some d.answers)) (pick (eqb d.answer 0) (Ok None) (Err (error_named d.answer))); read = d.read }

pub reply_by_name : (d : code.Replied.Replied) → reply_named (numbered_reply d) ≡ d
reply_by_name d = of d.outcome refl
  where
    of : (o : Result (Option ℕ) MergeError) → d.outcome ≡ o → reply_named (numbered_reply d) ≡ d
    of (Ok (Some n)) e = rw e
    of (Ok None) e = rw e
    of (Err HeldTooLong) e = rw e
    of (Err ReplyTooLong) e = rw e
    of (Err UnequalLengths) e = rw e
    of (Err Conflict) e = rw e

pub replied_unique : (d e : code.Replied.Replied) → numbered_reply d ≡ numbered_reply e → d ≡ e
replied_unique d e f = sym (reply_by_name d) ∙ (ap reply_named f ∙ reply_by_name e)
