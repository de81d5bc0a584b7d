use mathlib.Core.Path.{◌≡◌, refl, sym, ◌∙◌}
use Rattle.std.specs.Prelude.{ℕ, Bool}
use borrow.Author.Tests.{lt-ltb, le-ltb}
use Rattle.base.specs.Pick.{pick}
use native.Mathlib.Omega.{arith}
use lib.Dec.{ltb}
use Rattle.window.specs.Window.{slot_at}
use Rattle.window.specs.Laws.{last_turn, last_open_found}
use Rattle.window.specs.BoundedLaws.{last_open_in_lem, last_open_out}
use Rattle.window.proofs.Window.last_open.Goals.{then-self-i-lt-COMMITTED, else-self-i-lt-COMMITTED}
use Rattle.window.proofs.Window.last_open.Goals as goal

pub returns-then-self-gt-SLOTS : goal.returns-then-self-gt-SLOTS
returns-then-self-gt-SLOTS c = sym (last_open_out c.args.self c.if-self-gt-SLOTS.true)

pub loop-i-init : goal.loop-i-init
loop-i-init c = (refl, omega arith)

pub loop-i-preserved : goal.loop-i-preserved
loop-i-preserved c =
    let w = c.args.self in
    let i = c.loop-i.i in
    let p : ℕ → Bool = λ j. ltb (slot_at w j).status 3 in
    let turn : c.if-self-i-lt-COMMITTED.found ≡ pick (p i) i c.loop-i.found =
    elim c.if-self-i-lt-COMMITTED.branch [
      | then-self-i-lt-COMMITTED v ↦ v.found-is ∙ rw (lt-ltb _ _ v.if-self-i-lt-COMMITTED.true)
      | else-self-i-lt-COMMITTED v ↦ v.found-is ∙ rw (le-ltb _ _ v.if-self-i-lt-COMMITTED.false)
    ] in
    (last_turn p w.len i _ _ c.loop-i.invariant.0 turn, omega arith)

pub returns : goal.returns
returns c =
    let w = c.args.self in
    last_open_found w _ c.loop-i.i c.loop-i.invariant.0 (omega arith) ∙ sym (last_open_in_lem w c.if-self-gt-SLOTS.false)
