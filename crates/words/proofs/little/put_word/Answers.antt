use Rattle.std.proofs.Common.{sym, ◌∙◌, arith}
use Rattle.words.specs.Little.{bytes_of}
use Rattle.words.specs.PutLaws.{put_past, put_over}
use Rattle.words.specs.LittleLaws.{le_bytes}
use Rattle.words.proofs.little.put_word.Goals as goal

pub returns-then-bytes-lt4 : goal.returns-then-bytes-lt4
returns-then-bytes-lt4 c = let a = c.args in sym (put_past a.bytes.now a.at (bytes_of 4 a.n) (omega arith))

pub returns : goal.returns
returns c =
    let a = c.args in
    put_over a.bytes.now a.at (bytes_of 4 a.n) _ _ (omega arith) (omega arith)
    (c.copy_from_slice.ensures.after ∙ c.to_le_bytes.ensures ∙ le_bytes a.n)
