use Rattle.std.proofs.Common.{◌≡◌, ◌≤◌, length}
use Rattle.words.specs.Put.{put_at}
use Rattle.words.specs.Decimal.{digits}
use Rattle.words.proofs.text.spell.Given as goal

abbrev pub invariant-loop-left : goal.invariant-loop-left
invariant-loop-left l = (put_at l.text l.at (digits l.left l.rest) ≡ put_at l.initial.text l.at (digits l.width l.n)) × ((l.left ≤ l.width) × (length l.text ≡ length l.initial.text))

abbrev pub decreases-loop-left : goal.decreases-loop-left
decreases-loop-left l = l.left
