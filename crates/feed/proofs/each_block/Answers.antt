use Rattle.std.proofs.Common.{arith}
use Rattle.feed.proofs.Blocks.{was_ok, stands_first, stands_read, ends_short, ends_done, given_none, given_last, stands_next, rest_few}
use Rattle.feed.proofs.each_block.Goals as goal
use Rattle.feed.proofs.each_block.Goals.{else-n-gt0-via-then-n-gt0+else-is_err, else-n-gt0-via-else-n-gt0}

pub loop-init : goal.loop-init
loop-init g c = record { stands = stands_first g.T.Taker.takes _ _ _; few = λ h. omega arith }

pub loop-preserved : goal.loop-preserved
loop-preserved g c =
    let s = stands_read g.T.Taker.takes _ _ _ _ _ _ _ _ _ _ c.loop.invariant.stands c.in-Ok.ensures.behind c.in-Ok.ensures.next in
    let took = was_ok _ _ _ c.take_block-in-loop.ensures c.is_err-in-loop.ensures.value c.if-is_err-2.false in
    record { stands = stands_next g.T.Taker.takes _ _ _ _ _ _ _ _ s _ _ took c.keep_rest-have.ensures; few = λ h. rest_few g.T.Taker.takes _ _ _ _ c.take_block-in-loop.new.self _ _ _ s _ _ c.keep_rest-have.ensures }

pub returns-then-input-clause-given : goal.returns-then-input-clause-given
returns-then-input-clause-given g c =
    let stands = c.loop.invariant.stands in
    let behind = c.in-Ok.ensures.behind in
    let next = c.in-Ok.ensures.next in
    let s = stands_read g.T.Taker.takes _ _ _ _ _ _ _ _ _ _ stands behind next in
    let few = ends_short g.T.Taker.takes _ _ _ _ _ _ _ _ _ _ stands behind next c.if-input.true in
    let done = ends_done g.T.Taker.takes _ _ _ _ _ _ _ _ _ _ stands behind next c.if-input.true c.loop.invariant.few in
    elim c.else-n-gt0.branch [
      | else-n-gt0-via-then-n-gt0+else-is_err w ↦
          rw w.taker-is (given_last g.T.Taker.takes _ _ _ _ _ _ _ _ s w.if-n-gt0.true
          (was_ok _ _ _ w.take_block.ensures w.is_err.ensures.value w.if-is_err.false)
          (λ h. let k = c.loop.invariant.few h in omega (arith, few)) done)
      | else-n-gt0-via-else-n-gt0 w ↦ rw w.taker-is (given_none g.T.Taker.takes _ _ _ _ c.loop.taker _ _ _ s (omega arith) done)
    ]
