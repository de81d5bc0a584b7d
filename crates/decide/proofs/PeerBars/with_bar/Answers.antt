use Rattle.decide.specs.Turns.{with_bar_past, with_bar_at}
use Rattle.std.proofs.Common.{rules}
use Rattle.decide.proofs.PeerBars.with_bar.Goals as goal

pub returns-then-m-gt8 : goal.returns-then-m-gt8
returns-then-m-gt8 c = with_bar_past _ _ _ _ _ (search rules) c.if-m-gt8.true c.owns.ensures

pub returns : goal.returns
returns c = with_bar_at _ _ _ _ _ c.owns.ensures
