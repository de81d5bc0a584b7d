use mathlib.Core.Path.{◌≡◌, ◌∙◌}
use Rattle.std.specs.Prelude.{Bool, eqb, length}
use Rattle.std.proofs.Common.{rules}
use Rattle.std.proofs.lemmas.Iterator.{YieldsList-from_slice}
use Rattle.std.proofs.lemmas.Iterator.Consumers.{count_from_yields_List, YieldsList-from_filter}
use Rattle.base.specs.Pick.{tests}
use Rattle.base.specs.Spans.{span}
use Rattle.slots.specs.declared.Slot.{Slot}
use Rattle.window.specs.KeptLaws.{counted_nowhere, counted_span}
use Rattle.window.proofs.Window.count_at.Goals as goal

pub returns-then-to-gt-SLOTS : goal.returns-then-to-gt-SLOTS
returns-then-to-gt-SLOTS c = let a = c.args in counted_nowhere a.self a.status a.from a.to c.then-to-gt-SLOTS.either

pub returns : goal.returns
returns c =
    let a = c.args in
    let long : length a.self.slots ≡ 64 = search rules in
    let p : Slot → Bool = λ s. eqb s.status a.status in
    count_from_yields_List _ c.count.result c.count.ensures.ran
    (YieldsList-from_filter _ p (YieldsList-from_slice (span a.from a.to a.self.slots) (cc)) c.filter.ensures.closure (λ x b q k. search (rules, tests)))
    ∙ counted_span a.self a.status a.from a.to long c.if-to-gt-SLOTS.false
