use Rattle.std.proofs.Common.{◌∙◌, arith}
use Rattle.words.specs.LittleLaws.{eight_read}
use Rattle.words.proofs.little.number_at.Goals as goal

pub returns : goal.returns
returns c =
    let a = c.args in
    c.from_le_bytes.ensures ∙ rw c.taken.ensures (eight_read a.bytes.now a.at (omega arith))
