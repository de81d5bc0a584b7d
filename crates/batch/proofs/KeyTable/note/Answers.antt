use mathlib.Core.Path.{◌∙◌}
use Rattle.batch.specs.Laws.{clip-min, larger_is}
use Rattle.batch.specs.KeyLaws.{note_found, note_stays, note_adds}
use Rattle.batch.proofs.KeyTable.note.Goals as goal

pub returns-then-at-min : goal.returns-then-at-min
returns-then-at-min c =
    let a = c.args in
    note_found a.slot a.self.now a.key c.find-at.result c.min.result (c.min.ensures ∙ clip-min 256 a.self.now.count) c.find-at.ensures c.max.result c.if-at-min.true (c.max.ensures ∙ larger_is _ _)

pub returns-then-self-lt-TABLE : goal.returns-then-self-lt-TABLE
returns-then-self-lt-TABLE c =
    let a = c.args in
    note_adds a.slot a.self.now a.key c.find-at.result c.min.result (c.min.ensures ∙ clip-min 256 a.self.now.count) c.find-at.ensures c.if-at-min.false c.if-self-lt-TABLE.true

pub returns-else-self-lt-TABLE : goal.returns-else-self-lt-TABLE
returns-else-self-lt-TABLE c =
    let a = c.args in
    note_stays a.slot a.self.now a.key c.find-at.result c.min.result (c.min.ensures ∙ clip-min 256 a.self.now.count) c.find-at.ensures c.if-at-min.false c.if-self-lt-TABLE.false
