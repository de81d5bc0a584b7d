use mathlib.Core.Path.{◌∙◌}
use native.Mathlib.Omega.{arith}
use Rattle.batch.specs.Laws.{clip-min}
use Rattle.batch.specs.KeyLaws.{new_here}
use Rattle.batch.proofs.KeyTable.is_new.Goals as goal

pub returns-then-not-known : goal.returns-then-not-known
returns-then-not-known c =
    let a = c.args in
    let t = a.self.now in
    new_here t.keys t.count a.keys.now a.i c.find.result c.min.result (c.min.ensures ∙ clip-min 256 t.count) c.find.ensures c.if-not-known.true (omega (arith, c.requires, c.well_formed)) c.contains.result c.contains.ensures.value
