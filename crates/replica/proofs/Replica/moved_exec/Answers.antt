use native.Mathlib.Omega.{arith}
use Rattle.replica.specs.AddedLaws.{exec_stop, exec_moved}
use Rattle.replica.proofs.Replica.moved_exec.Goals as goal

pub overflow_add-bar : goal.overflow_add-bar
overflow_add-bar c =
    omega (arith, c.requires.low, exec_stop c.args.self c.args.window _ c.requires c.executed_to-stop.ensures)

pub returns : goal.returns
returns c =
    let a = c.args in
    exec_moved a.self a.window _ _ c.requires c.executed_to-stop.ensures c.with_bars.ensures
