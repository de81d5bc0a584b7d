use mathlib.Core.Path.{refl, sym, ◌∙◌}
use Rattle.batch.specs.Laws.{make_done, make_refused}
use Rattle.batch.proofs.make.Goals as goal

pub returns-then-not-is_batch : goal.returns-then-not-is_batch
returns-then-not-is_batch c = make_refused _ _ _ _ (sym c.if-not-is_batch.true ∙ c.is_batch.ensures) refl

pub returns : goal.returns
returns c = make_done _ _ _ _ (sym c.if-not-is_batch.false ∙ c.is_batch.ensures) c.first_keys.ensures
