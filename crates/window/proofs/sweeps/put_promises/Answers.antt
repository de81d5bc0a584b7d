use Rattle.base.specs.Pick.{refuted, granted}
use Rattle.window.specs.Laws.{Promises-start, Promises-turn, Promises-end}
use Rattle.window.specs.RangeLaws.{ranged_facts, unpromised, promised_all}
use native.Mathlib.Omega.{arith}
use Rattle.std.proofs.Common.{ap}
use Rattle.std.specs.Prelude.{not}
use Rattle.window.proofs.sweeps.put_promises.Goals as goal

pub returns-then-not-in_range : goal.returns-then-not-in_range
returns-then-not-in_range c =
    let a = c.args in
    unpromised a.start a.ballot a.from a.to a.k _ (refuted c.in_range.ensures (ap not c.if-not-in_range.true))

pub loop-i-init : goal.loop-i-init
loop-i-init c =
    let a = c.args in
    let f = ranged_facts a.from a.to a.k a.room.now a.start (granted c.in_range.ensures (ap not c.if-not-in_range.false)) in
    (Promises-start a.from a.k a.start a.ballot _, (f, omega (arith, f)))

pub loop-i-preserved : goal.loop-i-preserved
loop-i-preserved c =
    let a = c.args in (
      Promises-turn a.from a.k a.start a.ballot _ _ _ _ c.loop-i.i c.loop-i.invariant.1.1.0 (omega (arith, c.loop-i.invariant.1.0)) c.loop-i.invariant.0
          c.put_promise.ensures,
      (c.loop-i.invariant.1.0, omega arith),
    )

pub returns : goal.returns
returns c =
    let a = c.args in
    promised_all a.start a.ballot a.from a.to a.k _ _ _ (granted c.in_range.ensures (ap not c.if-not-in_range.false))
    (Promises-end a.from a.k a.start a.ballot _ _ _ c.loop-i.i a.to c.loop-i.invariant.1.1.0 (omega arith) c.loop-i.invariant.1.1.1.0 c.loop-i.invariant.0)
