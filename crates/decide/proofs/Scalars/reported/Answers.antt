use Rattle.decide.specs.Ways.{flag}
use Rattle.decide.proofs.Scalars.reported.Goals as goal

pub returns-then-steps_down : goal.returns-then-steps_down
returns-then-steps_down c = rw (flag c.steps_down.ensures c.if-steps_down.true)

pub returns : goal.returns
returns c = rw (flag c.steps_down.ensures c.if-steps_down.false)
