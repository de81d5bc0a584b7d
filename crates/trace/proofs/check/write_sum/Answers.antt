use mathlib.Core.Path.{sym, ◌∙◌}
use native.Mathlib.Omega.{arith}
use Rattle.trace.specs.Laws.{written_here, written_past}
use Rattle.trace.proofs.check.write_sum.Goals as goal

pub returns-then-bytes-lt256 : goal.returns-then-bytes-lt256
returns-then-bytes-lt256 c = let a = c.args in sym (written_past a.bytes.now a.at (omega arith))

pub returns-then-bytes-at : goal.returns-then-bytes-at
returns-then-bytes-at c = let a = c.args in sym (written_past a.bytes.now a.at (omega arith))

pub returns : goal.returns
returns c =
    let a = c.args in
    c.put_word.ensures ∙ rw c.sum_at-sum.ensures (sym (written_here a.bytes.now a.at (omega arith)))
