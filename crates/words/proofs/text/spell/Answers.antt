use Rattle.std.proofs.Common.{◌≡◌, length, sym, ◌∙◌, arith, length-set}
use Rattle.words.specs.DecimalLaws.{pair_stored, first_stored}
use Rattle.words.specs.PutLaws.{put_none}
use Rattle.words.proofs.text.spell.Goals as goal

pub bounds-text-end-in-loop-left : goal.bounds-text-end-in-loop-left
bounds-text-end-in-loop-left c = simp length-set (omega arith)

pub loop-left-preserved : goal.loop-left-preserved
loop-left-preserved c =
    let l = c.loop-left in
    let a = c.args in
    let h : length l.text ≡ length a.text.now = l.invariant.1.1 in
    (pair_stored l.text a.at l.left _ _ l.rest (omega arith) (omega arith) c.digit.ensures c.digit-in-loop-left.ensures ∙ l.invariant.0, simp length-set (omega arith))

pub shape_of-text-then-left-eq1 : goal.shape_of-text-then-left-eq1
shape_of-text-then-left-eq1 c = simp length-set (omega arith)

pub returns-then-left-eq1 : goal.returns-then-left-eq1
returns-then-left-eq1 c =
    let l = c.loop-left in
    let a = c.args in
    let e : l.left ≡ 1 = omega arith in
    first_stored l.text a.at _ l.rest (omega arith) c.digit-then-left-eq1.ensures ∙ rw e at l.invariant.0

pub returns-else-left-eq1 : goal.returns-else-left-eq1
returns-else-left-eq1 c =
    let l = c.loop-left in
    let a = c.args in
    let e : l.left ≡ 0 = omega arith in
    sym (put_none l.text a.at) ∙ rw e at l.invariant.0
