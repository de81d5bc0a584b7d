use mathlib.Core.Path.{sym}
use native.Mathlib.Omega.{arith}
use Rattle.trace.specs.Laws.{right_here, right_past}
use Rattle.trace.proofs.check.sum_is_right.Goals as goal

pub returns-then-bytes-lt256 : goal.returns-then-bytes-lt256
returns-then-bytes-lt256 c = let a = c.args in sym (right_past a.bytes.now a.at (omega arith))

pub returns-then-bytes-at : goal.returns-then-bytes-at
returns-then-bytes-at c = let a = c.args in sym (right_past a.bytes.now a.at (omega arith))

pub returns : goal.returns
returns c =
    let a = c.args in
    rw (c.word_at-told.ensures, c.sum_at-due.ensures) (sym (right_here a.bytes.now a.at (omega arith)))
