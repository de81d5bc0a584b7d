use mathlib.Core.Path.{◌≡◌, refl, ◌∙◌, ap}
use Prim.Native.Nat.{◌+◌, ◌≤◌, ◌<◌}
use native.Mathlib.Omega.{arith}
use Rattle.base.specs.Pick.{larger}
use Rattle.window.specs.BoundedLaws.{last_used_in_lem, above_in}
use Rattle.window.specs.RangeLaws.{swept_in}
use Rattle.replica.specs.Messages.{prepare_top}
use Rattle.replica.specs.ActingLaws.{refused_told}
use Rattle.replica.specs.MessageLaws.{top_within, prepare_above, prepare_told}
use Rattle.replica.proofs.Replica.prepare_on.Goals as goal
use Rattle.replica.proofs.Replica.prepare_on.Goals.{After-larger_of-top}

-- the last place prepared: it is a place of the window, and the one that the definition names
top : (c : After-larger_of-top) → (c.args.from ≤ c.larger_of-top.result) × (c.larger_of-top.result < 64)
top c = top_within c.args.w c.args.from _ _ (c.last_used-last.ensures ∙ last_used_in_lem c.args.w c.requires.within) c.larger_of-top.ensures c.requires.within c.requires.inside

covered : (c : After-larger_of-top) → c.larger_of-top.result ≡ prepare_top c.args.w c.args.from
covered c = c.larger_of-top.ensures ∙ ap (larger c.args.from) (c.last_used-last.ensures ∙ last_used_in_lem c.args.w c.requires.within)

pub overflow_add-end : goal.overflow_add-end
overflow_add-end c =
    let t = top (goal.at.overflow_add-end c).After-larger_of-top in
    omega arith

pub returns-then-any_above : goal.returns-then-any_above
returns-then-any_above c =
    let a = c.args in
    let t = top (goal.at.returns-then-any_above c).After-larger_of-top in
    refused_told _ a.self c.refused.ensures
    (prepare_above a.self a.w a.from a.peer a.ballot _ (covered (goal.at.returns-then-any_above c).After-larger_of-top) _ (c.any_above.ensures ∙ above_in a.w a.from (c.larger_of-top.result + 1) a.ballot (omega (arith, t))) c.if-any_above.true)

pub overflow_add-endprep : goal.overflow_add-endprep
overflow_add-endprep c =
    let t = top (goal.at.overflow_add-endprep c).After-larger_of-top in
    omega arith

pub returns : goal.returns
returns c =
    let a = c.args in
    let t = top (goal.at.returns c).After-larger_of-top in
    prepare_told a.self a.w a.from a.peer a.ballot _ (covered (goal.at.returns c).After-larger_of-top) _ (c.any_above.ensures ∙ above_in a.w a.from (c.larger_of-top.result + 1) a.ballot (omega (arith, t))) c.strict-strict.ensures c.requires c.if-any_above.false c.put_down-k.ensures
    (swept_in c.prepare_range-p.ensures (omega (arith, t, c.requires, c.put_down-k.ensures.few, c.put_down-k.auto.room)))
    c.followed-self.ensures c.count_at-below.ensures c.prepared_from-self.ensures
