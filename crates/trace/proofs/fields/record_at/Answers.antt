use mathlib.Core.Path.{sym, ◌∙◌}
use native.Mathlib.Omega.{arith}
use Rattle.trace.specs.Laws.{record_here, record_past}
use Rattle.trace.proofs.fields.record_at.Goals as goal

pub returns-then-bytes-lt256 : goal.returns-then-bytes-lt256
returns-then-bytes-lt256 c = let a = c.args in c.no_record.ensures ∙ sym (record_past a.bytes.now a.at (omega arith))

pub returns-then-bytes-at : goal.returns-then-bytes-at
returns-then-bytes-at c = let a = c.args in c.no_record-then-bytes-at.ensures ∙ sym (record_past a.bytes.now a.at (omega arith))

pub returns : goal.returns
returns c = let a = c.args in c.whole_record.ensures ∙ sym (record_here a.bytes.now a.at (omega arith))
