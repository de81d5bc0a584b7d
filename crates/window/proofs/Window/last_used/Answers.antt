use mathlib.Core.Path.{◌≡◌, refl, sym, ◌∙◌}
use Rattle.std.specs.Prelude.{ℕ, Bool}
use borrow.Author.Tests.{lt-ltb, le-ltb}
use Rattle.base.specs.Pick.{pick}
use native.Mathlib.Omega.{arith}
use lib.Dec.{ltb}
use Rattle.window.specs.Window.{slot_at}
use Rattle.window.specs.Laws.{last_turn, last_used_found}
use Rattle.window.specs.BoundedLaws.{last_used_in_lem, last_used_out}
use Rattle.window.proofs.Window.last_used.Goals.{then-self-i-gt-NULL, else-self-i-gt-NULL}
use Rattle.window.proofs.Window.last_used.Goals as goal

pub returns-then-self-gt-SLOTS : goal.returns-then-self-gt-SLOTS
returns-then-self-gt-SLOTS c = sym (last_used_out c.args.self c.if-self-gt-SLOTS.true)

pub loop-i-init : goal.loop-i-init
loop-i-init c = (refl, omega arith)

pub loop-i-preserved : goal.loop-i-preserved
loop-i-preserved c =
    let w = c.args.self in
    let i = c.loop-i.i in
    let p : ℕ → Bool = λ j. ltb 0 (slot_at w j).status in
    let turn : c.if-self-i-gt-NULL.found ≡ pick (p i) i c.loop-i.found =
    elim c.if-self-i-gt-NULL.branch [
      | then-self-i-gt-NULL v ↦ v.found-is ∙ rw (lt-ltb _ _ v.if-self-i-gt-NULL.true)
      | else-self-i-gt-NULL v ↦ v.found-is ∙ rw (le-ltb _ _ v.if-self-i-gt-NULL.false)
    ] in
    (last_turn p 0 i _ _ c.loop-i.invariant.0 turn, omega arith)

pub returns : goal.returns
returns c =
    let w = c.args.self in
    last_used_found w _ c.loop-i.i c.loop-i.invariant.0 (omega arith) ∙ sym (last_used_in_lem w c.if-self-gt-SLOTS.false)
