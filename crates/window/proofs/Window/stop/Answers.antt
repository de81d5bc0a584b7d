use mathlib.Core.Path.{◌≡◌}
use native.Mathlib.Omega.{arith}
use Rattle.std.specs.Prelude.{Bool, ◌||◌, ltb, length}
use Rattle.std.proofs.Common.{rules}
use Rattle.std.proofs.lemmas.Iterator.{YieldsList-from_slice}
use Rattle.std.proofs.lemmas.Iterator.Search.{position_from_yields_List}
use Rattle.base.specs.Pick.{tests}
use Rattle.base.specs.Spans.{span}
use Rattle.slots.specs.declared.Slot.{Slot}
use Rattle.window.specs.BoundedLaws.{stop_nowhere, stop_found}
use Rattle.window.proofs.Window.stop.Goals as goal

pub returns-then-to-gt-SLOTS : goal.returns-then-to-gt-SLOTS
returns-then-to-gt-SLOTS c = let a = c.args in stop_nowhere a.self a.from a.to a.ballot a.status c.then-to-gt-SLOTS.either

pub returns : goal.returns
returns c =
    let a = c.args in
    let long : length a.self.slots ≡ 64 = search rules in
    let p : Slot → Bool = λ s. ltb s.ballot a.ballot || ltb s.status a.status in
    stop_found a.self a.from a.to a.ballot a.status c.unwrap_or.result c.position-found.result long (omega arith) c.if-to-gt-SLOTS.false
    (position_from_yields_List p _ _ c.position-found.result c.position-found.ensures.ran (YieldsList-from_slice (span a.from a.to a.self.slots) (cc)) (λ x b q k. search (rules, tests)))
    c.unwrap_or.ensures
