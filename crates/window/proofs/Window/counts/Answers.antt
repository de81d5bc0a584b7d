use mathlib.Core.Path.{sym, ◌∙◌}
use native.Mathlib.Omega.{arith}
use Rattle.base.specs.Pick.{refuted, granted}
use Rattle.window.specs.CountingLaws.{counts_long, counts_past, counts_base, counts_known, counts_below, counts_beyond, counts_noted}
use Rattle.std.proofs.Common.{ap}
use Rattle.std.specs.Prelude.{not}
use Rattle.window.proofs.Window.counts.Goals as goal

pub returns-then-self-gt-SLOTS : goal.returns-then-self-gt-SLOTS
returns-then-self-gt-SLOTS c = let a = c.args in counts_long a.sc a.self a.j a.peer a.m c.if-self-gt-SLOTS.true

pub returns-then-j-ge-SLOTS : goal.returns-then-j-ge-SLOTS
returns-then-j-ge-SLOTS c = let a = c.args in counts_past a.sc a.self a.j a.peer a.m c.if-j-ge-SLOTS.true

pub returns-then-not-strict : goal.returns-then-not-strict
returns-then-not-strict c =
    let a = c.args in
    counts_base a.sc a.self a.j a.peer a.m c.if-self-gt-SLOTS.false (omega (arith, c.if-j-ge-SLOTS.false)) (refuted c.strict.ensures (ap not c.if-not-strict.true))

pub returns-then-contains : goal.returns-then-contains
returns-then-contains c =
    let a = c.args in
    counts_known a.sc a.self a.j a.peer a.m c.if-self-gt-SLOTS.false (omega (arith, c.if-j-ge-SLOTS.false)) (granted c.strict.ensures (ap not c.if-not-strict.false)) (sym c.contains.ensures ∙ c.if-contains.true)

pub returns-then-m-sc : goal.returns-then-m-sc
returns-then-m-sc c =
    let a = c.args in
    counts_below a.sc a.self a.j a.peer a.m c.if-self-gt-SLOTS.false (omega (arith, c.if-j-ge-SLOTS.false)) (granted c.strict.ensures (ap not c.if-not-strict.false)) (sym c.contains.ensures ∙ c.if-contains.false) c.if-m-sc.true

pub returns-then-self-e : goal.returns-then-self-e
returns-then-self-e c =
    let a = c.args in
    counts_beyond a.sc a.self a.j a.peer a.m c.if-self-gt-SLOTS.false (omega (arith, c.if-j-ge-SLOTS.false)) (granted c.strict.ensures (ap not c.if-not-strict.false)) (sym c.contains.ensures ∙ c.if-contains.false) c.if-m-sc.false c.if-self-e.true

pub returns : goal.returns
returns c =
    let a = c.args in
    counts_noted a.sc a.self a.j a.peer a.m c.if-self-gt-SLOTS.false (omega (arith, c.if-j-ge-SLOTS.false)) (granted c.strict.ensures (ap not c.if-not-strict.false)) (sym c.contains.ensures ∙ c.if-contains.false) c.if-m-sc.false
    (omega (arith, c.if-self-e.false)) c.is_lacking.ensures
