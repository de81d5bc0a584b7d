use mathlib.Core.Path.{◌≡◌, refl}
use mathlib.Core.Bool.{true, false}
use native.Mathlib.Omega.{arith}
use borrow.Author.Tests.{not-true, not-false}
use Rattle.base.specs.Pick.{refuted, granted}
use Rattle.decide.specs.Scalars.{leads}
use Rattle.decide.specs.ReplyWays.{InLog, range_facts}
use Rattle.decide.specs.Ways.{flag}
use Rattle.replica.specs.Messages.{in_range, is_elsewhere}
use Rattle.replica.specs.ActingLaws.{refused_told, ignored_told, told}
use Rattle.replica.specs.ReplyLaws.{places_fit, on_other, on_follower, on_elsewhere, on_outside, on_bookless, on_past, on_at}
use Rattle.std.proofs.Common.{ap}
use Rattle.std.specs.Prelude.{not}
use Rattle.replica.proofs.Replica.reply_on.Goals as goal
use Rattle.replica.proofs.Replica.reply_on.Goals.{After-is_in_log}

-- what the first three tests have told
led : (c : After-is_in_log) → leads c.args.self.sc ≡ true
led c = granted c.leads.ensures (ap not c.if-not-leads.false)

own : (c : After-is_in_log) → is_elsewhere c.args.self.sc c.args.m ≡ false
own c = flag c.is_elsewhere.ensures c.if-is_elsewhere.false

within : (c : After-is_in_log) → not c.is_in_log.result ≡ false → in_range c.args.self c.args.m ≡ true
within c e = granted c.is_in_log.ensures e

ranged : (c : After-is_in_log) → not c.is_in_log.result ≡ false → InLog c.args.self.sc.start c.args.self.window.len c.args.m
ranged c e = range_facts c.args.self.sc.start c.args.self.window.len c.args.m (within c e)

pub returns-then-m-sc : goal.returns-then-m-sc
returns-then-m-sc c =
    let a = c.args in
    ignored_told a.self c.ignored.ensures (on_other a.self a.peer a.m c.if-m-sc.true) c.requires.sum

pub returns-then-not-leads : goal.returns-then-not-leads
returns-then-not-leads c =
    let a = c.args in
    refused_told _ a.self c.refused.ensures (on_follower a.self a.peer a.m c.if-m-sc.false (refuted c.leads.ensures (ap not c.if-not-leads.true)))

pub returns-then-is_elsewhere : goal.returns-then-is_elsewhere
returns-then-is_elsewhere c =
    let a = c.args in
    ignored_told a.self c.ignored-then-is_elsewhere.ensures (on_elsewhere a.self a.peer a.m c.if-m-sc.false (granted c.leads.ensures (ap not c.if-not-leads.false)) (flag c.is_elsewhere.ensures c.if-is_elsewhere.true)) c.requires.sum

pub returns-then-not-is_in_log : goal.returns-then-not-is_in_log
returns-then-not-is_in_log c =
    let d = (goal.at.returns-then-not-is_in_log c).After-is_in_log in
    let a = c.args in
    refused_told _ a.self c.refused-then-not-is_in_log.ensures (on_outside a.self a.peer a.m c.if-m-sc.false (led d) (own d) (refuted c.is_in_log.ensures (ap not c.if-not-is_in_log.true)))

pub returns-then-not-t : goal.returns-then-not-t
returns-then-not-t c =
    let d = (goal.at.returns-then-not-t c).After-is_in_log in
    let a = c.args in
    ignored_told a.self c.ignored-then-not-t.ensures (on_bookless a.self a.peer a.m c.if-m-sc.false (led d) (own d) (within d (ap not c.if-not-is_in_log.false)) (not-true _ c.if-not-t.true))
    c.requires.sum

pub returns-then-end-m : goal.returns-then-end-m
returns-then-end-m c =
    let d = (goal.at.returns-then-end-m c).After-is_in_log in
    let a = c.args in
    refused_told _ a.self c.refused-then-end-m.ensures (on_past a.self a.peer a.m c.if-m-sc.false (led d) (own d) (within d (ap not c.if-not-is_in_log.false)) (not-false _ c.if-not-t.false) c.if-end-m.true)

pub reply_at-requires : goal.reply_at-requires
reply_at-requires c =
    let d = (goal.at.reply_at-requires c).After-is_in_log in
    places_fit c.args.self _ c.args.m c.requires (ranged d (ap not c.if-not-is_in_log.false)) c.if-end-m.false

pub returns : goal.returns
returns c =
    let d = (goal.at.returns c).After-is_in_log in
    let a = c.args in
    told (on_at a.self a.peer a.m c.if-m-sc.false (led d) (own d) (within d (ap not c.if-not-is_in_log.false)) (not-false _ c.if-not-t.false) c.if-end-m.false) c.reply_at.ensures
