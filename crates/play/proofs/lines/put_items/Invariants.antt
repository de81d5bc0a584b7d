use Rattle.std.proofs.Common.{◌≡◌, ◌-◌, length}
use Rattle.play.specs.LineLaws.{Items}
use Rattle.play.proofs.lines.put_items.Given as goal

abbrev pub invariant-loop-i : goal.invariant-loop-i
invariant-loop-i l =
    Items l.row l.initial.text l.at l.i l.place l.text × (length l.text ≡ length l.initial.text)

abbrev pub decreases-loop-i : goal.decreases-loop-i
decreases-loop-i l = length l.row - l.i
