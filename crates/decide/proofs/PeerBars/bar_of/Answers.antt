use mathlib.Core.Path.{sym}
use Rattle.decide.specs.Turns.{bar_past}
use Rattle.std.proofs.Common.{rules}
use Rattle.decide.proofs.PeerBars.bar_of.Goals as goal

pub returns-then-m-gt8 : goal.returns-then-m-gt8
returns-then-m-gt8 c = sym (bar_past c.args.self c.args.m (search rules) c.if-m-gt8.true)
