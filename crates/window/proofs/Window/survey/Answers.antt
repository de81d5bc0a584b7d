use mathlib.Core.Path.{◌≡◌, refl, sym, ◌∙◌}
use native.Mathlib.Omega.{arith}
use lib.Dec.{leb}
use borrow.Author.Tests.{le-leb, lt-leb}
use Rattle.base.specs.Pick.{pick, one}
use Rattle.base.specs.Find.{any_self}
use Rattle.base.specs.Scan.{scan_end}
use Rattle.base.specs.HowMany.{how_many_none}
use Rattle.window.specs.Window.{slot_at}
use Rattle.window.specs.Summary.{has_status}
use Rattle.window.specs.Laws.{unfit_slot, slots_more}
use Rattle.window.specs.KeptLaws.{byte_one, open_turn, count_turn, turn_few, one_small, survey_out, survey_unfit, survey_found}
use Rattle.std.proofs.Common.{ap}
use Rattle.std.specs.Prelude.{not}
use Rattle.window.proofs.Window.survey.Goals.{then-from-i, else-from-i}
use Rattle.window.proofs.Window.survey.Goals as goal

pub returns-then-self-gt-SLOTS : goal.returns-then-self-gt-SLOTS
returns-then-self-gt-SLOTS c =
    let a = c.args in
    survey_out a.group a.from a.self c.if-self-gt-SLOTS.true

pub loop-i-init : goal.loop-i-init
loop-i-init c =
    let a = c.args in
    (any_self (unfit_slot a.group a.self) 0, (sym (scan_end (λ j. leb 3 (slot_at a.self j).status) 0 0 (omega arith)), (sym (how_many_none (has_status a.self 2) a.from 0 (omega arith)), omega arith)))

pub returns-then-not-is_fit : goal.returns-then-not-is_fit
returns-then-not-is_fit c =
    let a = c.args in
    survey_unfit a.group a.from a.self c.loop-i.i _ (omega arith) c.is_fit.ensures (ap not c.if-not-is_fit.true)

pub overflow_add-accepting : goal.overflow_add-accepting
overflow_add-accepting c =
    omega (arith, one_small c.if-from-i.from c.from.result (c.from.ensures ∙ byte_one c.if-from-i.from))

pub loop-i-preserved : goal.loop-i-preserved
loop-i-preserved c =
    let a = c.args in
    let i = c.loop-i.i in
    let p = has_status a.self 2 in
    let more : c.from.result ≡ pick (leb a.from i) (one (p i)) 0 =
    elim c.if-from-i.branch [
      | then-from-i w ↦ c.from.ensures ∙ rw (w.from-is, le-leb _ _ w.if-from-i.true) (byte_one (p i))
      | else-from-i w ↦ c.from.ensures ∙ rw (w.from-is, lt-leb _ _ w.if-from-i.false)
    ] in (
      slots_more a.group a.self i _ c.loop-i.invariant.0 c.is_fit.ensures (ap not c.if-not-is_fit.false),
      (
        open_turn (λ j. leb 3 (slot_at a.self j).status) _ _ i c.loop-i.invariant.1.0 c.next_open-first.ensures,
        (count_turn p a.from _ _ _ i c.loop-i.invariant.1.1.0 refl more, omega (arith, turn_few (p i) a.from i _ _ refl more)),
      ),
    )

pub returns : goal.returns
returns c =
    let a = c.args in
    survey_found a.group a.from a.self c.loop-i.i c.if-self-gt-SLOTS.false c.loop-i.invariant.0 (omega arith) c.loop-i.invariant.1.0 c.loop-i.invariant.1.1.0
