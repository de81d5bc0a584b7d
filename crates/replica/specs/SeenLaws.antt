-- The laws of what a call hands back: no refusal has the number 0, and what is seen tells two values of the code apart.
use Rattle.std.specs.Prelude.{◌≡◌, refl, List, [], ◌∷◌, ℕ, ◌-◌, false, eqb, get_or, Result, Ok, Err, IsErrAnd}
use Rattle.std.proofs.Common.{sym, ap, ◌∙◌}
use borrow.Author.Tests.{eqb-false}
use Rattle.replica.specs.declared.Replica.{Replica}
use Rattle.replica.specs.declared.Refusal.{Refusal}
use Rattle.replica.specs.declared.Refusal.TheVariants.{Unready, NotAPeer, NotOwner, PastEnd, PastWindow, Contradiction, KeysFull, NoStepUp, NotLeading, Outside, ReadsFull, Conflict, Malformed, WrongSummary, Renamed}
use Rattle.replica.specs.declared as code
use Rattle.replica.specs.Seen.{Handled, Made, refusal_number, answer_number, action_count, seen, seen_new}

pub refused_apart : (e : Refusal) → eqb (refusal_number e) 0 ≡ false
refused_apart Unready = refl
refused_apart NotAPeer = refl
refused_apart NotOwner = refl
refused_apart PastEnd = refl
refused_apart PastWindow = refl
refused_apart Contradiction = refl
refused_apart KeysFull = refl
refused_apart NoStepUp = refl
refused_apart NotLeading = refl
refused_apart Outside = refl
refused_apart ReadsFull = refl
refused_apart Conflict = refl
refused_apart Malformed = refl
refused_apart WrongSummary = refl
refused_apart Renamed = refl

pub refused_some : (e : Refusal) → refusal_number e ≡ 0 → ⊥
refused_some e = eqb-false (refusal_number e) 0 (refused_apart e)

-- what is not refused has the number 0
pub passed : {A : Type 0} (t : Result A Refusal) → ((e : Refusal) → t ≡ Err e → ⊥) → answer_number t ≡ 0
passed (Ok x) h = refl
passed (Err e) h = absurd (h e refl)

-- and what is refused has not
pub failed : {A : Type 0} (t : Result A Refusal) → ((x : A) → t ≡ Ok x → ⊥) → answer_number t ≡ 0 → ⊥
failed (Ok x) h z = h x refl
failed (Err e) h z = refused_some e z

-- what `?` hands on is the refusal that was found
pub carried : {A : Type 0} (t : Result A Refusal) (e : Refusal) → IsErrAnd t (λ (x : Refusal). x ≡ e) → answer_number t ≡ refusal_number e
carried (Ok x) e h = absurd h
carried (Err x) e h = ap refusal_number h

-- the refusal that a number names
abbrev of_number : ℕ → Refusal
of_number n =
    get_or
    (Unready ∷ NotAPeer ∷ NotOwner ∷ PastEnd ∷ PastWindow ∷ Contradiction ∷ KeysFull ∷ NoStepUp ∷ NotLeading ∷ Outside ∷ ReadsFull ∷ Conflict ∷ Malformed ∷ WrongSummary
    ∷ Renamed ∷ [])
    (n - 1) Unready

of_its_number : (e : Refusal) → of_number (refusal_number e) ≡ e
of_its_number Unready = refl
of_its_number NotAPeer = refl
of_its_number NotOwner = refl
of_its_number PastEnd = refl
of_its_number PastWindow = refl
of_its_number Contradiction = refl
of_its_number KeysFull = refl
of_its_number NoStepUp = refl
of_its_number NotLeading = refl
of_its_number Outside = refl
of_its_number ReadsFull = refl
of_its_number Conflict = refl
of_its_number Malformed = refl
of_its_number WrongSummary = refl
of_its_number Renamed = refl

-- no two refusals have one number
pub number_unique : (a b : Refusal) → refusal_number a ≡ refusal_number b → a ≡ b
number_unique a b e = sym (of_its_number a) ∙ (ap of_number e ∙ of_its_number b)

outcome_unique : (x y : Result ℕ Refusal) → answer_number x ≡ answer_number y → action_count x ≡ action_count y → x ≡ y
outcome_unique (Ok n) (Ok m) e f = ap Ok f
outcome_unique (Ok n) (Err b) e f = absurd (refused_some b (sym e))
outcome_unique (Err a) (Ok m) e f = absurd (refused_some a e)
outcome_unique (Err a) (Err b) e f = ap Err (number_unique a b e)

made_unique : (x y : Result Unit Refusal) → answer_number x ≡ answer_number y → x ≡ y
made_unique (Ok x) (Ok y) e = refl
made_unique (Ok x) (Err b) e = absurd (refused_some b (sym e))
made_unique (Err a) (Ok y) e = absurd (refused_some a e)
made_unique (Err a) (Err b) e = ap Err (number_unique a b e)

-- two values of the code of which the same is seen are one, so that a promise by `seen` or `seen_new` allows one value
pub seen_unique : (g h : code.Handled.Handled) → seen g ≡ seen h → g ≡ h
seen_unique g h e =
    let o = outcome_unique g.outcome h.outcome (ap (λ (x : Handled). x.answer) e) (ap (λ (x : Handled). x.count) e) in
    let r : g.replica ≡ h.replica = ap (λ (x : Handled). x.replica) e in
    λ k. record { outcome = o k; replica = r k }

pub seen_new_unique : (a b : code.Made.Made) → seen_new a ≡ seen_new b → a ≡ b
seen_new_unique a b e =
    let o = made_unique a.outcome b.outcome (ap (λ (x : Made). x.answer) e) in
    let r : a.replica ≡ b.replica = ap (λ (x : Made). x.replica) e in
    λ k. record { outcome = o k; replica = r k }
