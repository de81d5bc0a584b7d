use mathlib.Core.Path.{◌≡◌}
use native.Mathlib.Omega.{arith}
use Rattle.decide.specs.Turns.{least_start, least_turn}
use Rattle.decide.proofs.PeerBars.least_majority.Goals as goal

pub loop-m-init : goal.loop-m-init
loop-m-init c = (least_start _ _, omega arith)

pub loop-m-preserved : goal.loop-m-preserved
loop-m-preserved c = (least_turn _ _ _ _ _ c.loop-m.invariant.0 c.lesser-least.ensures, omega arith)

pub returns : goal.returns
returns c =
    let h : c.loop-m.m ≡ 9 = omega arith in
    rw h at c.loop-m.invariant.0
