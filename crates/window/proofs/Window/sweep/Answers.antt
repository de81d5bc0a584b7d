use mathlib.Core.Path.{◌≡◌}
use Prim.Native.Nat.{◌+◌}
use native.Mathlib.Omega.{arith}
use Rattle.base.specs.Pick.{refuted, granted}
use Rattle.window.specs.Laws.{sweep_start, sweep_turn}
use Rattle.window.specs.RangeLaws.{ranged_facts, unswept, Swept-all}
use Rattle.std.proofs.Common.{ap}
use Rattle.std.specs.Prelude.{not}
use Rattle.window.proofs.Window.sweep.Goals as goal

pub returns-then-not-in_range : goal.returns-then-not-in_range
returns-then-not-in_range g c =
    let a = c.args in
    unswept _ _ a.from a.to a.k a.start _ _ (refuted c.in_range.ensures (ap not c.if-not-in_range.true))

pub loop-i-init : goal.loop-i-init
loop-i-init g c =
    let a = c.args in
    let f = ranged_facts a.from a.to a.k a.room.now a.start (granted c.in_range.ensures (ap not c.if-not-in_range.false)) in
    (sweep_start (λ j s. g.S.Sweep.after a.sweep s) (λ j s. g.S.Sweep.acts a.sweep (a.start + j) s) a.from a.k _ _, (f, omega (arith, f)))

pub loop-i-preserved : goal.loop-i-preserved
loop-i-preserved g c =
    let a = c.args in (
      sweep_turn (λ j s. g.S.Sweep.after a.sweep s) (λ j s. g.S.Sweep.acts a.sweep (a.start + j) s) a.from a.k _ _ _ _ _ _ c.loop-i.i c.loop-i.invariant.1.1.0 (omega (arith, c.loop-i.invariant.1.0)) c.loop-i.invariant.0
          c.turn-p.ensures,
      (c.loop-i.invariant.1.0, omega arith),
    )

pub returns : goal.returns
returns g c =
    let a = c.args in
    let h : c.loop-i.i ≡ a.to = omega arith in
    Swept-all _ _ a.from a.to a.k a.start _ _ _ _ (granted c.in_range.ensures (ap not c.if-not-in_range.false)) (rw h at c.loop-i.invariant.0)
