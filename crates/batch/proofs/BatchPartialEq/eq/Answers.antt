use mathlib.Core.Path.{sym, ◌∙◌}
use borrow.Author.Tests.{ne_eqb}
use Rattle.batch.specs.Laws.{same_id, same_fronts}
use Rattle.batch.proofs.BatchPartialEq.eq.Goals as goal

pub returns-then-self-other : goal.returns-then-self-other
returns-then-self-other c =
    let a = c.args in
    c.eq.ensures ∙ same_fronts a.self.now a.other.now c.min-n.result c.min-m.result c.min-n.ensures c.min-m.ensures c.if-self-other.true

pub returns-else-self-other : goal.returns-else-self-other
returns-else-self-other c =
    let a = c.args in
    ne_eqb a.self.now.id a.other.now.id c.if-self-other.false ∙ sym (same_id a.self.now a.other.now c.if-self-other.false)
