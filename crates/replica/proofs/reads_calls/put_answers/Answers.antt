use mathlib.Core.Path.{◌≡◌}
use native.Mathlib.Omega.{arith}
use Rattle.replica.specs.ReadCallLaws.{Answers-start, Answers-turn}
use Rattle.replica.proofs.reads_calls.put_answers.Goals as goal

pub loop-i-init : goal.loop-i-init
loop-i-init c = (Answers-start _ _ _, omega arith)

pub loop-i-preserved : goal.loop-i-preserved
loop-i-preserved c =
    let a = c.args in
    (Answers-turn a.leader a.read _ _ _ c.loop-i.i c.loop-i.invariant.0 c.put_answer.ensures, omega arith)

pub returns : goal.returns
returns c =
    let h : c.loop-i.i ≡ c.args.answers = omega arith in
    rw h at c.loop-i.invariant.0
