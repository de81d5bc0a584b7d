use Rattle.std.specs.Prelude.{◌≡◌, ◌≤◌}
use Rattle.batch.specs.Keys.{new_keys}
use Rattle.batch.proofs.KeyTable.new_keys.Given as goal

abbrev pub invariant-loop-i : goal.invariant-loop-i
invariant-loop-i l = (l.fresh ≡ new_keys l.self.keys l.self.count l.keys l.i) × ((l.i ≤ l.n) × (l.fresh ≤ l.i))
