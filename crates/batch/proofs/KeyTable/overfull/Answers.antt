use mathlib.Core.Path.{◌∙◌}
use native.Mathlib.Omega.{arith}
use Rattle.batch.specs.Laws.{clip-min}
use Rattle.batch.specs.KeyLaws.{new_few, overfull_count, overfull_fits, overfull_new}
use Rattle.batch.proofs.KeyTable.overfull.Goals as goal

pub returns-then-self-gt-TABLE : goal.returns-then-self-gt-TABLE
returns-then-self-gt-TABLE c = let t = c.args.self.now in overfull_count t.keys t.count c.args.batch c.if-self-gt-TABLE.true

pub returns-then-self-n-le-TABLE : goal.returns-then-self-n-le-TABLE
returns-then-self-n-le-TABLE c =
    let t = c.args.self.now in
    let b = c.args.batch in
    overfull_fits t.keys t.count b c.min-n.result (c.min-n.ensures ∙ clip-min 8 b.count) c.if-self-n-le-TABLE.true

pub overflow_add-result : goal.overflow_add-result
overflow_add-result c =
    let t = c.args.self.now in
    omega (arith, new_few t.keys t.count c.args.batch.keys c.min-n.result)

pub returns : goal.returns
returns c =
    let t = c.args.self.now in
    let b = c.args.batch in
    overfull_new t.keys t.count b c.min-n.result c.new_keys.result (c.min-n.ensures ∙ clip-min 8 b.count) c.new_keys.ensures
