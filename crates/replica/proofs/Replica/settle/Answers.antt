use borrow.Author.Tests.{ne_eqb}
use mathlib.Core.Path.{refl, sym, ◌∙◌}
use Prim.Native.Nat.{◌<◌}
use native.Mathlib.Omega.{arith}
use lib.ListN.{length}
use Rattle.decide.specs.Laws.{refused_some}
use Rattle.replica.specs.ActingLaws.{refused_told, settled_refused, settled_full, settled-Told, settled_sums, settled_scanned, settled_open}
use Rattle.std.proofs.Common.{ap}
use Rattle.std.specs.Prelude.{not}
use Rattle.replica.proofs.Replica.settle.Goals as goal
use Rattle.replica.proofs.Replica.settle.Goals.{In-Ok}

-- the place is one of the array
wide : (c : In-Ok) → c.args.i < length c.args.w.slots
wide c = omega (arith, c.requires.low, c.well_formed)

pub returns-in-Err : goal.returns-in-Err
returns-in-Err c =
    let a = c.args in
    rw c.in-Err.is
    (refused_told _ a.self c.refused.ensures (rw c.from.ensures (settled_refused a.self _ a.i a.slot _ (refused_some c.in-Err.refusal))))

pub returns-then-too_many : goal.returns-then-too_many
returns-then-too_many c =
    let a = c.args in
    rw c.in-Ok.is
    (refused_told _ a.self c.refused-then-too_many.ensures (settled_full a.self _ a.i a.slot _ refl (sym c.too_many.ensures ∙ c.if-too_many.true)))

pub returns-then-not-is_passed : goal.returns-then-not-is_passed
returns-then-not-is_passed c =
    let a = c.args in
    rw c.in-Ok.is
    (settled-Told a.self _ a.i a.slot _ refl c.too_many.ensures c.if-too_many.false (omega (arith, c.requires.long)) c.say-n.ensures c.note_if-self.ensures
    (settled_sums (rw c.in-Ok.is at c.requires) refl (wide (goal.at.returns-then-not-is_passed c).In-Ok) c.changed-sum.ensures c.is_passed.ensures (ap not c.if-not-is_passed.true)))

pub overflow_add-first : goal.overflow_add-first
overflow_add-first c =
    omega (arith, settled_open (rw c.in-Ok.is at c.requires) refl (wide (goal.at.overflow_add-first c).In-Ok) c.stop-open.ensures)

pub returns : goal.returns
returns c =
    let a = c.args in
    rw c.in-Ok.is
    (settled-Told a.self _ a.i a.slot _ refl c.too_many.ensures c.if-too_many.false (omega (arith, c.requires.long)) c.say-n.ensures c.note_if-self.ensures
    (settled_scanned (rw c.in-Ok.is at c.requires) refl (wide (goal.at.returns c).In-Ok) c.changed-sum.ensures c.is_passed.ensures (ap not c.if-not-is_passed.false) c.stop-open.ensures))
