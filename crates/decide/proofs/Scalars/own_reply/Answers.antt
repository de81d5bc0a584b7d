use Rattle.decide.specs.ReplyWays.{own_reply_lem}
use Rattle.decide.proofs.Scalars.own_reply.Goals as goal

pub returns : goal.returns
returns c = let a = c.args in own_reply_lem a.self a.s a.slot _ c.sent_vote-vote.ensures
