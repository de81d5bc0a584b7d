use mathlib.Core.Path.{sym, ◌∙◌}
use borrow.Author.Tests.{not-true, not-false}
use Rattle.decide.specs.Turns.{fallen_absent, fallen_not, fallen_kept, fallen_to}
use Rattle.decide.specs.Ways.{flag}
use Rattle.std.proofs.Common.{ap}
use Rattle.std.specs.Prelude.{not}
use Rattle.decide.proofs.PeerBars.with_fallen.Goals as goal

pub returns-then-not-has_entry : goal.returns-then-not-has_entry
returns-then-not-has_entry c = sym (fallen_absent _ _ _ _ (flag c.has_entry.ensures (not-true _ (ap not c.if-not-has_entry.true))))

pub returns-then-bar_of-bar : goal.returns-then-bar_of-bar
returns-then-bar_of-bar c = sym (fallen_not _ _ _ _ _ c.bar_of.ensures c.if-bar_of-bar.true)

pub returns-then-sc-least : goal.returns-then-sc-least
returns-then-sc-least c =
    sym (fallen_kept _ _ _ _ _ _ c.with_bar-after.ensures c.least_majority-least.ensures c.if-sc-least.true)

pub returns : goal.returns
returns c =
    c.with_peer_max.ensures
    ∙ sym (fallen_to _ _ _ _ _ _ c.with_bar-after.ensures c.least_majority-least.ensures _ (flag c.has_entry.ensures (not-false _ (ap not c.if-not-has_entry.false)))
    c.bar_of.ensures c.if-bar_of-bar.false c.if-sc-least.false)
