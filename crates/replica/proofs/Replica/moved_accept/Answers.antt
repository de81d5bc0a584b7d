use mathlib.Core.Path.{refl}
use native.Mathlib.Omega.{arith}
use Rattle.replica.specs.CompletionLaws.{moved_kept, moved_high, moved_on}
use Rattle.replica.proofs.Replica.moved_accept.Goals as goal

pub returns-then-slot-sc : goal.returns-then-slot-sc
returns-then-slot-sc c = let a = c.args in moved_kept a.self a.slot c.if-slot-sc.true

pub overflow_add-bar : goal.overflow_add-bar
overflow_add-bar c =
    let h = moved_high c.args.self c.args.slot c.stop-stop.result c.requires c.stop-stop.ensures in
    omega arith

pub returns : goal.returns
returns c =
    let a = c.args in
    moved_on a.self a.slot _ _ _ c.requires c.if-slot-sc.false c.stop-stop.ensures refl c.with_bars-self.ensures
