use Rattle.replica.specs.ReadCallLaws.{answer_put}
use Rattle.replica.proofs.reads_calls.put_answer.Goals as goal

pub returns : goal.returns
returns c =
    answer_put c.args.leader c.args.read _ _ c.args.i _ c.requires c.answer_of-said.ensures c.put_action.ensures
