use mathlib.Core.Path.{sym}
use borrow.Author.Tests.{not-true, not-false}
use Rattle.decide.specs.Turns.{lesser_absent, lesser_high, lesser_few, lesser_found}
use Rattle.decide.specs.Ways.{flag}
use Rattle.std.proofs.Common.{ap}
use Rattle.std.specs.Prelude.{not}
use Rattle.decide.proofs.PeerBars.lesser.Goals as goal

pub returns-then-not-has_entry : goal.returns-then-not-has_entry
returns-then-not-has_entry c =
    let a = c.args in
    sym (lesser_absent a.sc a.self a.m a.least (flag c.has_entry.ensures (not-true _ (ap not c.if-not-has_entry.true))))

pub returns-then-least-bar : goal.returns-then-least-bar
returns-then-least-bar c =
    let a = c.args in
    sym (lesser_high a.sc a.self a.m a.least _ c.bar_of-bar.ensures c.if-least-bar.true)

pub returns-then-not_above-quorum : goal.returns-then-not_above-quorum
returns-then-not_above-quorum c =
    let a = c.args in
    sym (lesser_few a.sc a.self a.m a.least _ _ _ c.bar_of-bar.ensures c.not_above.ensures c.quorum.ensures c.if-not_above-quorum.true)

pub returns : goal.returns
returns c =
    let a = c.args in
    sym (lesser_found a.sc a.self a.m a.least _ _ _ (flag c.has_entry.ensures (not-false _ (ap not c.if-not-has_entry.false))) c.bar_of-bar.ensures
    c.if-least-bar.false c.not_above.ensures c.quorum.ensures c.if-not_above-quorum.false)
