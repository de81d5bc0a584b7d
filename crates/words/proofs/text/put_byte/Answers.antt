use Rattle.std.proofs.Common.{[], ◌∷◌, refl, arith}
use Rattle.words.specs.PutLaws.{put_one, Written-fits, written_past}
use Rattle.words.proofs.text.put_byte.Goals as goal

pub returns-then-at-text : goal.returns-then-at-text
returns-then-at-text c = let a = c.args in Written-fits a.text.now a.at (a.byte ∷ []) _ _ (omega arith) refl (put_one a.text.now a.at a.byte c.if-at-text.true)

pub returns : goal.returns
returns c = let a = c.args in written_past a.text.now a.at (a.byte ∷ []) (omega arith)
