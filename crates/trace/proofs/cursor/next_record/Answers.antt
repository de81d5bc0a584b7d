use mathlib.Core.Path.{sym}
use native.Mathlib.Omega.{arith}
use Rattle.trace.specs.Laws.{next_end, next_short, next_whole}
use Rattle.trace.proofs.cursor.next_record.Goals as goal

pub returns-then-bytes-at : goal.returns-then-bytes-at
returns-then-bytes-at c = let a = c.args in sym (next_end a.bytes.now a.at c.if-bytes-at.true)

pub returns-then-bytes-at-lt256 : goal.returns-then-bytes-at-lt256
returns-then-bytes-at-lt256 c = let a = c.args in sym (next_short a.bytes.now a.at (omega arith) (omega arith))

pub returns : goal.returns
returns c = let a = c.args in sym (next_whole a.bytes.now a.at (omega arith))
