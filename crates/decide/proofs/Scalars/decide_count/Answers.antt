use mathlib.Core.Path.{sym, ◌∙◌}
use Rattle.decide.specs.Ways.{flag, count_few, count_low, count_quorum}
use Rattle.decide.proofs.Scalars.decide_count.Goals as goal

pub returns-then-not-is_counted : goal.returns-then-not-is_counted
returns-then-not-is_counted c =
    c.silent.ensures ∙ sym (count_few _ _ _ _ _ c.counted-more.ensures (flag c.is_counted.ensures c.if-not-is_counted.true))

pub returns-then-ballot-self : goal.returns-then-ballot-self
returns-then-ballot-self c =
    sym (count_low _ _ _ _ _ c.counted-more.ensures (flag c.is_counted.ensures c.if-not-is_counted.false) c.if-ballot-self.true)

pub returns : goal.returns
returns c =
    c.silent-2.ensures
    ∙ sym (count_quorum _ _ _ _ _ c.counted-more.ensures _ (flag c.is_counted.ensures c.if-not-is_counted.false) c.if-ballot-self.false
    c.with_prepared.ensures)
