use mathlib.Core.Path.{◌≡◌, refl, ◌∙◌}
use lib.Dec.{ltb}
use borrow.Author.Tests.{lt-ltb, le-ltb}
use Rattle.base.specs.Pick.{pick}
use Rattle.window.specs.Kept.{lowered}
use Rattle.window.specs.KeptLaws.{min_lowered, changed_made}
use Rattle.window.proofs.Summary.changed.Goals.{then-now-lt-COMMITTED, else-now-lt-COMMITTED}
use Rattle.window.proofs.Summary.changed.Goals as goal

pub returns-then-slot-commit_bar : goal.returns-then-slot-commit_bar
returns-then-slot-commit_bar c =
    let a = c.args in
    let first : c.if-now-lt-COMMITTED.first ≡ pick (ltb a.now 3) (lowered a.self.first a.slot) a.self.first =
    elim c.if-now-lt-COMMITTED.branch [
      | then-now-lt-COMMITTED w ↦ w.first-is ∙ rw (lt-ltb _ _ w.if-now-lt-COMMITTED.true) (w.min-first.ensures ∙ min_lowered a.self.first a.slot)
      | else-now-lt-COMMITTED w ↦ w.first-is ∙ rw (le-ltb _ _ w.if-now-lt-COMMITTED.false)
    ] in
    changed_made a.self a.commit_bar a.slot a.before a.now refl first c.recount-many.ensures (rw (lt-ltb _ _ c.if-slot-commit_bar.true))

pub returns-else-slot-commit_bar : goal.returns-else-slot-commit_bar
returns-else-slot-commit_bar c =
    let a = c.args in
    let first : c.if-now-lt-COMMITTED.first ≡ pick (ltb a.now 3) (lowered a.self.first a.slot) a.self.first =
    elim c.if-now-lt-COMMITTED.branch [
      | then-now-lt-COMMITTED w ↦ w.first-is ∙ rw (lt-ltb _ _ w.if-now-lt-COMMITTED.true) (w.min-first.ensures ∙ min_lowered a.self.first a.slot)
      | else-now-lt-COMMITTED w ↦ w.first-is ∙ rw (le-ltb _ _ w.if-now-lt-COMMITTED.false)
    ] in
    changed_made a.self a.commit_bar a.slot a.before a.now refl first c.recount-many.ensures (rw (le-ltb _ _ c.if-slot-commit_bar.false))
