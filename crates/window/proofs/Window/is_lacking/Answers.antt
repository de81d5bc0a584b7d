use mathlib.Core.Path.{◌≡◌, ◌∙◌}
use Rattle.std.specs.Prelude.{length}
use Rattle.std.proofs.Common.{rules}
use Rattle.std.proofs.lemmas.Iterator.{YieldsList-from_slice}
use Rattle.std.proofs.lemmas.Iterator.Search.{any_from_yields_List}
use Rattle.base.specs.Pick.{tests}
use Rattle.base.specs.Spans.{span}
use Rattle.slots.specs.Slots.{lacks_note}
use Rattle.window.specs.CountingLaws.{lacking_nowhere, lacking_span}
use Rattle.window.proofs.Window.is_lacking.Goals as goal

pub returns-then-to-gt-SLOTS : goal.returns-then-to-gt-SLOTS
returns-then-to-gt-SLOTS c = let a = c.args in lacking_nowhere a.self a.peer a.from a.to c.then-to-gt-SLOTS.either

pub returns : goal.returns
returns c =
    let a = c.args in
    let long : length a.self.slots ≡ 64 = search rules in
    any_from_yields_List (lacks_note a.peer) _ _ c.any.result c.any.ensures.ran (YieldsList-from_slice (span a.from a.to a.self.slots) (cc)) (λ x b q k. search (rules, tests))
    ∙ lacking_span a.self a.peer a.from a.to long c.if-to-gt-SLOTS.false
