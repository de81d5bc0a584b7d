use native.Mathlib.Omega.{arith}
use Rattle.base.specs.Pick.{refuted, granted}
use Rattle.decide.specs.NumberWays.{scalars_len}
use Rattle.window.specs.SummaryLaws.{first_within}
use Rattle.replica.specs.Fit.{fit}
use Rattle.replica.specs.FitLaws.{Surveyed, surveyed_facts, unfit_scalars, unfit_slots, unfit_keys, reads_unfit, fit_ends, scalars_low, seen_unfit, unsummed_first, unsummed_accepting, summed_both}
use Rattle.replica.specs.AdmitLaws.{answer_short, answer_unfit, answer_unsummed, answer_ready}
use Rattle.std.proofs.Common.{◌≡◌, refl, true, false, ap}
use Rattle.std.specs.Prelude.{not, Some}
use Rattle.window.specs.Kept.{survey_of}
use Rattle.replica.proofs.Replica.test_ready.Goals as goal
use Rattle.replica.proofs.Replica.test_ready.Goals.{After-is_fit-2}

-- what is known once the slots are walked, and once the reads are fit too
walked : (c : After-is_fit-2) → Surveyed c.args.self (survey_of (Some c.in-Some.seen))
walked c = surveyed_facts c.args.self c.is_fit.ensures (ap not c.if-not-is_fit.false) c.in-Some.ensures refl

fine : (c : After-is_fit-2) → not c.is_fit-2.result ≡ false → fit c.args.self ≡ true
fine c e = granted (fit_ends c.args.self (walked c).numbers (walked c).slots c.if-self-gt-TABLE.false c.is_fit-2.ensures) e

pub returns-then-room-lt-ROOM : goal.returns-then-room-lt-ROOM
returns-then-room-lt-ROOM c = let a = c.args in answer_short a.self a.room c.if-room-lt-ROOM.true

pub returns-then-not-is_fit : goal.returns-then-not-is_fit
returns-then-not-is_fit c =
    let a = c.args in
    answer_unfit a.self a.room c.if-room-lt-ROOM.false (unfit_scalars a.self (refuted c.is_fit.ensures (ap not c.if-not-is_fit.true)))

pub overflow_sub-from : goal.overflow_sub-from
overflow_sub-from c = (scalars_low c.args.self (granted c.is_fit.ensures (ap not c.if-not-is_fit.false))).1

pub returns-in_default : goal.returns-in_default
returns-in_default c =
    let a = c.args in
    let short = scalars_len _ _ (granted c.is_fit.ensures (ap not c.if-not-is_fit.false)) in
    answer_unfit a.self a.room c.if-room-lt-ROOM.false (unfit_slots a.self (seen_unfit a.self c.in_default.ensures short refl))

pub returns-then-self-gt-TABLE : goal.returns-then-self-gt-TABLE
returns-then-self-gt-TABLE c =
    let a = c.args in
    answer_unfit a.self a.room c.if-room-lt-ROOM.false (unfit_keys a.self c.if-self-gt-TABLE.true)

pub returns-then-not-is_fit-2 : goal.returns-then-not-is_fit-2
returns-then-not-is_fit-2 c =
    let a = c.args in
    let k = walked (goal.at.returns-then-not-is_fit-2 c).After-is_fit-2 in
    answer_unfit a.self a.room c.if-room-lt-ROOM.false (reads_unfit a.self k.numbers k.slots c.if-self-gt-TABLE.false c.is_fit-2.ensures (ap not c.if-not-is_fit-2.true))

pub overflow_add-first : goal.overflow_add-first
overflow_add-first c =
    let r = c.args.self in
    let k = walked (goal.at.overflow_add-first c).After-is_fit-2 in
    omega (arith, scalars_low r k.numbers, k.place, first_within r.window, k.short)

pub returns-then-self-first : goal.returns-then-self-first
returns-then-self-first c =
    let a = c.args in
    let d = (goal.at.returns-then-self-first c).After-is_fit-2 in
    answer_unsummed a.self a.room c.if-room-lt-ROOM.false (fine d (ap not c.if-not-is_fit-2.false)) (unsummed_first a.self (walked d).first c.if-self-first.true)

pub returns-then-self-seen : goal.returns-then-self-seen
returns-then-self-seen c =
    let a = c.args in
    let d = (goal.at.returns-then-self-seen c).After-is_fit-2 in
    answer_unsummed a.self a.room c.if-room-lt-ROOM.false (fine d (ap not c.if-not-is_fit-2.false))
    (unsummed_accepting a.self (walked d).first (walked d).accepting c.if-self-seen.true)

pub returns : goal.returns
returns c =
    let a = c.args in
    let d = (goal.at.returns c).After-is_fit-2 in
    answer_ready a.self a.room c.if-room-lt-ROOM.false (fine d (ap not c.if-not-is_fit-2.false))
    (summed_both a.self (walked d).first (walked d).accepting c.if-self-first.false c.if-self-seen.false)
