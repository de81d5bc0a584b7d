use mathlib.Core.Path.{refl}
use native.Mathlib.Omega.{arith}
use Rattle.replica.specs.ActingLaws.{ignored_told, told}
use Rattle.replica.specs.CompletionLaws.{committed_kept, committed_passes, pass_fits}
use Rattle.replica.proofs.Replica.committed_done.Goals as goal

pub returns-then-slot-sc : goal.returns-then-slot-sc
returns-then-slot-sc c =
    let a = c.args in
    ignored_told a.self c.ignored.ensures (committed_kept a.self a.slot c.if-slot-sc.true) c.requires.sum

pub pass_on-requires : goal.pass_on-requires
pass_on-requires c =
    pass_fits c.args.self _ _ _ _ c.requires refl (omega (arith, c.requires)) c.stop-stop.ensures

pub returns : goal.returns
returns c =
    let a = c.args in
    told (committed_passes a.self a.slot _ c.requires.bars c.if-slot-sc.false c.stop-stop.ensures) c.pass_on.ensures
