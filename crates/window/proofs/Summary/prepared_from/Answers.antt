use mathlib.Core.Path.{refl, ◌∙◌}
use Rattle.window.specs.KeptLaws.{min_lowered, prepared_made}
use Rattle.window.proofs.Summary.prepared_from.Goals as goal

pub returns-then-strict : goal.returns-then-strict
returns-then-strict c =
    let a = c.args in
    prepared_made a.strict a.self a.trigger a.below refl (rw c.if-strict.true)

pub returns-else-strict : goal.returns-else-strict
returns-else-strict c =
    let a = c.args in
    prepared_made a.strict a.self a.trigger a.below (c.min-first.ensures ∙ min_lowered a.self.first a.trigger) (rw c.if-strict.false)
