-- 01, "Worth of each promise": no program that 01 names meets the promises. A program is what it would give of a record, a room's length and
-- a call; on a call of a new replica it hands back what no promise allows.
use Rattle.std.specs.Prelude.{◌≡◌, refl, List, [], ℕ, zero, suc, length, replicate}
use Rattle.std.proofs.Common.{sym, ap, ◌∙◌, arith}
use Rattle.std.proofs.lemmas.List.{length-replicate}
use Rattle.base.specs.Scan.{scan}
use Rattle.tally.specs.Open.{fit_reads}
use Rattle.actions.specs.Actions.{Act, write_actions}
use Rattle.slots.specs.Slots.{fit_slot}
use Rattle.decide.specs.Scalars.{fit_scalars}
use Rattle.window.specs.Window.{fit_slots, first_open, last_used, filled}
use Rattle.replica.specs.declared.Replica.{Replica}
use Rattle.replica.specs.Seen.{Handled}
use Rattle.replica.specs.Record.{Outcome, kept, new_replica}
use Rattle.replica.specs.Fit.{fit}
use Rattle.replica.specs.Messages.{prepare_on, prepare_step}
use Rattle.replica.specs.Step.{Call, call_prepare, step, handled, Told}

-- what a program gives of each call
abbrev pub Program : Type 0
Program = Replica → ℕ → Call → Outcome

-- it meets the promises: each call is told as `Told` has it, of a room of any length
abbrev pub Promised : Program → Type 0
Promised program =
    (r : Replica) (c : Call) (room : List ℕ)
    → Told (step r (length room) c) (handled (program r (length room) c)) room (write_actions room (program r (length room) c).actions)

-- of that the theorems below count on what is handed back alone: answer, number of actions, replica
abbrev pub Meets : Program → Type 0
Meets program = (r : Replica) (n : ℕ) (c : Call) → handled (program r n c) ≡ handled (step r n c)

pub Promised-Meets : (program : Program) → Promised program → Meets program
Promised-Meets program p r n c =
    ap (λ (k : ℕ). handled (program r k c)) (sym (length-replicate n 0))
    ∙ ((p r c (replicate n 0)).handed ∙ ap (λ (k : ℕ). handled (step r k c)) (length-replicate n 0))

-- and so does a program that gives what `step` gives
pub same_meets : (program : Program) → ((r : Replica) (n : ℕ) (c : Call) → program r n c ≡ step r n c) → Meets program
same_meets program e r n c = ap handled (e r n c)

-- member 2 of 3, new; and a Prepare of member 0 for slot 0
abbrev pub young : Replica
young = (new_replica 2 3 0 0).replica

abbrev pub asked : Call
asked = call_prepare 0 0 257

-- what `step` gives of that Prepare: 0, one slot, one action
pub asked_answer : (step young 3456 asked).answer ≡ 0
unfolding new_replica fit fit_scalars fit_slots fit_reads filled prepare_on prepare_step last_used first_open scan
asked_answer = refl

pub asked_count : length (step young 3456 asked).actions ≡ 1
unfolding new_replica fit fit_scalars fit_slots fit_reads filled prepare_on prepare_step last_used first_open scan
asked_count = refl

pub asked_again : length (step (step young 3456 asked).replica 3456 asked).actions ≡ 1
unfolding new_replica fit fit_scalars fit_slots fit_reads fit_slot filled prepare_on prepare_step last_used first_open scan
asked_again = refl

-- a Prepare from no member: 2, and no action
abbrev pub stranger : Call
stranger = call_prepare 3 0 260

pub stranger_count : length (step young 3456 stranger).actions ≡ 0
unfolding new_replica fit fit_scalars fit_slots fit_reads filled prepare_on prepare_step last_used first_open scan
stranger_count = refl

-- "the program that answers 8 to all", whatever else it gives
pub eights_wrong : (program : Program) → ((r : Replica) (n : ℕ) (c : Call) → (program r n c).answer ≡ 8) → Meets program → ⊥
eights_wrong program eight meets =
    let z : ◌≡◌ {A = ℕ} 8 0 = sym (eight young 3456 asked) ∙ (ap (λ (h : Handled). h.answer) (meets young 3456 asked) ∙ asked_answer) in absurd (omega arith)

abbrev pub eights : Program
eights r n c = kept 8 r

pub no_eights : Meets eights → ⊥
no_eights = eights_wrong eights (λ r n c. refl)

-- "answers 0 with no actions", whatever it makes of the record
pub silence_wrong : (program : Program) → ((r : Replica) (n : ℕ) (c : Call) → ((program r n c).answer ≡ 0) × ((program r n c).actions ≡ [])) → Meets program → ⊥
silence_wrong program quiet meets =
    let z : ◌≡◌ {A = ℕ} 0 1 =
    sym (ap (λ (l : List Act). length l) (quiet young 3456 asked).1) ∙ (ap (λ (h : Handled). h.count) (meets young 3456 asked) ∙ asked_count) in
    absurd (omega arith)

-- here one that makes all that `step` makes of the record
abbrev pub silent : Program
silent r n c = kept 0 (step r n c).replica

pub no_silence : Meets silent → ⊥
no_silence = silence_wrong silent (λ r n c. (refl, refl))

-- "idles": it keeps the record, with 0 and no actions
abbrev pub idle : Program
idle r n c = kept 0 r

pub no_idling : Meets idle → ⊥
no_idling = silence_wrong idle (λ r n c. (refl, refl))

-- a program that knows how many calls it has served, and what it gives of two calls in a row
abbrev pub Serving : Type 0
Serving = ℕ → Program

abbrev pub MeetsTwice : Serving → Type 0
MeetsTwice p =
    (r : Replica) (n : ℕ) (c d : Call)
    → (handled (p 0 r n c) ≡ handled (step r n c)) × (handled (p 1 (p 0 r n c).replica n d) ≡ handled (step (p 0 r n c).replica n d))

-- "serves its first call and then only says 0", with no actions
abbrev pub once : Serving
once zero r n c = step r n c
once (suc k) r n c = kept 0 r

pub no_once : MeetsTwice once → ⊥
no_once meets =
    let z : ◌≡◌ {A = ℕ} 0 1 = ap (λ (h : Handled). h.count) (meets young 3456 asked asked).1 ∙ asked_again in absurd (omega arith)

-- "a made-up action count, since the count is the defined list's length": no other count is told
pub no_made_up_count : {o : Outcome} {h : Handled} {room after : List ℕ} → (h.count ≡ length o.actions → ⊥) → Told o h room after → ⊥
no_made_up_count other t = other (ap (λ (h : Handled). h.count) t.handed)

-- one that says the same count of every call: of the Prepare it would have to be 1, and of one from no member 0
abbrev pub counted : ℕ → Outcome → Handled
counted k o = record { answer = o.answer; count = k; replica = o.replica }

pub no_fixed_count : (k : ℕ) → ((r : Replica) (n : ℕ) (c : Call) → counted k (step r n c) ≡ handled (step r n c)) → ⊥
no_fixed_count k fixed =
    let one : k ≡ 1 = ap (λ (h : Handled). h.count) (fixed young 3456 asked) ∙ asked_count in
    let none : k ≡ 0 = ap (λ (h : Handled). h.count) (fixed young 3456 stranger) ∙ stranger_count in
    absurd (omega arith)
