use Rattle.std.proofs.Common.{◌≡◌, ◌-◌, ◌/◌, ◌≤◌, length}
use Rattle.play.specs.Lines.{Shows, shown}
use Rattle.play.proofs.lines.show_all.Given as goal

abbrev pub invariant-loop-i : goal.invariant-loop-i
invariant-loop-i l =
    Shows (shown l.bytes l.i (record { run = l.initial.run; room = l.initial.room; text = l.initial.text })) l.run l.room l.text
    × ((l.i ≤ length l.bytes / 256) × ((length l.room ≡ length l.initial.room) × (length l.text ≡ length l.initial.text)))

abbrev pub decreases-loop-i : goal.decreases-loop-i
decreases-loop-i l = length l.bytes / 256 - l.i
