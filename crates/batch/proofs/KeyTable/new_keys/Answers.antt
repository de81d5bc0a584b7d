use mathlib.Core.Path.{◌≡◌, ◌∙◌, ap}
use native.Mathlib.Omega.{arith}
use Rattle.batch.specs.Keys.{count1, is_new}
use Rattle.batch.specs.KeyLaws.{new_none, new_more, count1_few, count1-byte}
use Rattle.batch.proofs.KeyTable.new_keys.Goals as goal

pub loop-i-init : goal.loop-i-init
loop-i-init c = (new_none _ _ _, omega arith)

pub loop-i-preserved : goal.loop-i-preserved
loop-i-preserved c =
    let a = c.args in
    let t = a.self.now in
    let i = c.loop-i.i in
    let new = is_new t.keys t.count a.keys.now i in
    let one : c.from-fresh.result ≡ count1 new = c.from-fresh.ensures ∙ count1-byte c.is_new.result ∙ ap count1 c.is_new.ensures in
    let few = count1_few new in
    (new_more t.keys t.count a.keys.now i c.loop-i.fresh c.from-fresh.result c.loop-i.invariant.0 one, omega arith)
