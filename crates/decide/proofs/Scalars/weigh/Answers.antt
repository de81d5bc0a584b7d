use mathlib.Core.Path.{◌≡◌, refl, ◌∙◌}
use Rattle.base.specs.Pick.{pick}
use Rattle.std.proofs.lemmas.Result.{err_from_is_err_and}
use Rattle.decide.specs.Ways.{flag}
use Rattle.decide.specs.Laws.{refused_some}
use Rattle.decide.specs.ReplyWays.{weigh_outdated, weigh_refused, weigh_more, weigh_overtaken, weigh_counted}
use Rattle.decide.proofs.Scalars.weigh.Goals.{then-own, else-own}
use Rattle.decide.proofs.Scalars.weigh.Goals as goal

pub returns-then-not-goes_on : goal.returns-then-not-goes_on
returns-then-not-goes_on c =
    let a = c.args in
    c.unmoved.ensures ∙ weigh_outdated a.self a.s a.t a.own a.counts a.peer a.m (flag c.goes_on.ensures c.if-not-goes_on.true)

pub returns-in_err-v : goal.returns-in_err-v
returns-in_err-v c =
    let a = c.args in
    let p = err_from_is_err_and c.from_residual.result c.from_residual.ensures.1 in
    rw (p.1, p.2)
    (weigh_refused a.self a.s a.t a.own a.counts a.peer a.m (flag c.goes_on.ensures c.if-not-goes_on.false) (rw c.in_err-v.was at c.decide_vote.ensures)
    (refused_some _))

pub returns-then-not-counts : goal.returns-then-not-counts
returns-then-not-counts c =
    let a = c.args in
    let base : c.if-own.base ≡ pick a.own c.in_ok-v.v.slot a.t =
    elim c.if-own.branch [
      | then-own w ↦ rw (w.base-is, w.if-own.true)
      | else-own w ↦ rw (w.base-is, w.if-own.false)
    ] in
    weigh_more a.self a.s a.t a.own a.counts a.peer a.m (flag c.goes_on.ensures c.if-not-goes_on.false) (rw c.in_ok-v.was at c.decide_vote.ensures) refl
    base c.if-not-counts.true

pub returns-in_err-d : goal.returns-in_err-d
returns-in_err-d c =
    let a = c.args in
    let base : c.if-own.base ≡ pick a.own c.in_ok-v.v.slot a.t =
    elim c.if-own.branch [
      | then-own w ↦ rw (w.base-is, w.if-own.true)
      | else-own w ↦ rw (w.base-is, w.if-own.false)
    ] in
    let p = err_from_is_err_and c.from_residual-in_err-d.result c.from_residual-in_err-d.ensures.1 in
    rw (p.1, p.2)
    (weigh_overtaken a.self a.s a.t a.own a.counts a.peer a.m (flag c.goes_on.ensures c.if-not-goes_on.false) (rw c.in_ok-v.was at c.decide_vote.ensures) refl
    base c.if-not-counts.false (rw c.in_err-d.was at c.decide_count.ensures) (refused_some _))

pub returns : goal.returns
returns c =
    let a = c.args in
    let base : c.if-own.base ≡ pick a.own c.in_ok-v.v.slot a.t =
    elim c.if-own.branch [
      | then-own w ↦ rw (w.base-is, w.if-own.true)
      | else-own w ↦ rw (w.base-is, w.if-own.false)
    ] in
    weigh_counted a.self a.s a.t a.own a.counts a.peer a.m (flag c.goes_on.ensures c.if-not-goes_on.false) (rw c.in_ok-v.was at c.decide_vote.ensures) refl
    base c.if-not-counts.false (rw c.in_ok-d.was at c.decide_count.ensures) refl c.is_counted-enters.ensures
