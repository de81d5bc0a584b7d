use Rattle.std.proofs.Common.{ℕ, refl, sym, ap, ◌∙◌}
use Rattle.replica.specs.Record.{kept}
use Rattle.replica.specs.Seen.{answer_number, seen}
use Rattle.replica.specs.SeenLaws.{refused_some}
use Rattle.replica.specs.ActingLaws.{kept-Told}
use Rattle.play.specs.Laws.{renews_not, renews}
use Rattle.play.proofs.calls.renew.Goals as goal

pub returns : goal.returns
returns c =
    let a = c.args in
    kept-Told 0 _ refl (renews a.r a.rec _ c.new-made.ensures (ap answer_number c.in_default.is))

pub returns-in-Err : goal.returns-in-Err
returns-in-Err c =
    let a = c.args in
    let e = ap answer_number c.in-Err.is in
    kept-Told _ a.r (ap seen c.refused.ensures)
    (renews_not a.r a.rec _ c.new-made.ensures (λ z. refused_some c.in-Err.refusal (sym e ∙ z)) ∙ ap (λ (n : ℕ). kept n a.r) e)
