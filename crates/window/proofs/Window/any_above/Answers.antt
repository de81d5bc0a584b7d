use mathlib.Core.Path.{◌≡◌, ◌∙◌}
use Rattle.std.specs.Prelude.{Bool, ltb, length}
use Rattle.std.proofs.Common.{rules}
use Rattle.std.proofs.lemmas.Iterator.{YieldsList-from_slice}
use Rattle.std.proofs.lemmas.Iterator.Search.{any_from_yields_List}
use Rattle.base.specs.Pick.{tests}
use Rattle.base.specs.Spans.{span}
use Rattle.slots.specs.declared.Slot.{Slot}
use Rattle.window.specs.BoundedLaws.{above_nowhere, above_span}
use Rattle.window.proofs.Window.any_above.Goals as goal

pub returns-then-to-gt-SLOTS : goal.returns-then-to-gt-SLOTS
returns-then-to-gt-SLOTS c = let a = c.args in above_nowhere a.self a.from a.to a.ballot c.then-to-gt-SLOTS.either

pub returns : goal.returns
returns c =
    let a = c.args in
    let long : length a.self.slots ≡ 64 = search rules in
    let p : Slot → Bool = λ s. ltb a.ballot s.ballot in
    any_from_yields_List p _ _ c.any.result c.any.ensures.ran (YieldsList-from_slice (span a.from a.to a.self.slots) (cc)) (λ x b q k. search (rules, tests))
    ∙ above_span a.self a.from a.to a.ballot long c.if-to-gt-SLOTS.false
