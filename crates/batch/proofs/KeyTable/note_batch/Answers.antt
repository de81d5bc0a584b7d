use mathlib.Core.Path.{◌≡◌, ◌∙◌, ap}
use Prim.Native.Nat.{ℕ}
use Rattle.std.specs.Prelude.{take, length}
use Rattle.std.proofs.Common.{rules}
use Rattle.batch.specs.Laws.{clip-min}
use Rattle.batch.specs.KeyLaws.{notes_none, notes_next, notes_all}
use Rattle.batch.proofs.KeyTable.note_batch.Goals as goal

pub loop-key-init : goal.loop-key-init
loop-key-init c =
    let a = c.args in
    (notes_none a.slot a.batch.keys a.self.now, ap (λ (n : ℕ). take n a.batch.keys) (c.min.ensures ∙ clip-min 8 a.batch.count))

pub loop-key-preserved : goal.loop-key-preserved
loop-key-preserved c =
    let a = c.args in
    let n = c.min.result in
    (notes_next a.slot a.batch.keys n a.self.now c.loop-key.self c.note.new.self c.loop-key.key-index c.loop-key-test.true c.loop-key.invariant.0 c.note.ensures, c.loop-key.invariant.1)

pub returns : goal.returns
returns c =
    let a = c.args in
    let long : length a.batch.keys ≡ 8 = search rules in
    notes_all a.slot a.batch a.self.now c.loop-key.self c.min.result c.loop-key.key-index long (c.min.ensures ∙ clip-min 8 a.batch.count) c.loop-key.auto.key-index-end c.loop-key-test.false c.loop-key.invariant.0
