use mathlib.Core.Path.{◌≡◌}
use Prim.Native.Nat.{◌-◌, ◌≤◌}
use lib.ListN.{length}
use Rattle.replica.specs.ReadCalls.{Answers}
use Rattle.replica.proofs.reads_calls.put_answers.Given as goal

abbrev pub invariant-loop-i : goal.invariant-loop-i
invariant-loop-i l = Answers l.leader l.read l.i l.initial.room l.room × ((l.i ≤ l.answers) × (length l.room ≡ length l.initial.room))

abbrev pub decreases-loop-i : goal.decreases-loop-i
decreases-loop-i l = l.answers - l.i
