use mathlib.Core.Path.{◌≡◌}
use mathlib.Core.Bool.{false}
use borrow.Author.Tests.{not-true, not-false}
use Rattle.decide.specs.Decide.{is_stale}
use Rattle.decide.specs.Ways.{flag}
use Rattle.window.specs.Window.{slot_at}
use Rattle.replica.specs.ActingLaws.{ignored_told, told}
use Rattle.replica.specs.CompletionLaws.{prepared_stale, prepared_follows, prepared_unbooked, prepared_past, prepared_replies, own_fits, promised_settles}
use Rattle.replica.proofs.Replica.prepared_done.Goals as goal

pub returns-then-is_stale : goal.returns-then-is_stale
returns-then-is_stale c =
    let a = c.args in
    ignored_told a.self c.ignored.ensures (prepared_stale a.self a.i a.slot a.ballot _ (flag c.is_stale.ensures c.if-is_stale.true)) c.requires.sum

pub settle-requires : goal.settle-requires
settle-requires c =
    promised_settles c.args.self c.args.i c.args.slot _ _ c.requires c.decide_promised-d.ensures

pub returns-then-sc : goal.returns-then-sc
returns-then-sc c =
    let a = c.args in
    told (prepared_follows a.self a.i a.slot a.ballot _ _ (flag c.is_stale.ensures c.if-is_stale.false) c.if-sc.true c.decide_promised-d.ensures) c.settle.ensures

pub returns-then-not-s : goal.returns-then-not-s
returns-then-not-s c =
    let a = c.args in
    ignored_told a.self c.ignored-then-not-s.ensures (prepared_unbooked a.self a.i a.slot a.ballot _ (flag c.is_stale.ensures c.if-is_stale.false) c.if-sc.false (not-true _ c.if-not-s.true))
    c.requires.sum

pub returns-then-s-slot : goal.returns-then-s-slot
returns-then-s-slot c =
    let a = c.args in
    ignored_told a.self c.ignored-then-s-slot.ensures (prepared_past a.self a.i a.slot a.ballot _ (flag c.is_stale.ensures c.if-is_stale.false) c.if-sc.false c.if-s-slot.true)
    c.requires.sum

pub reply_on-requires : goal.reply_on-requires
reply_on-requires c =
    own_fits c.args.self c.args.i c.args.slot (slot_at c.args.self.window c.args.i) _ _ c.requires c.own_reply-m.ensures

pub returns : goal.returns
returns c =
    let a = c.args in
    told (prepared_replies a.self a.i a.slot a.ballot _ (flag c.is_stale.ensures c.if-is_stale.false) c.if-sc.false _ (not-false _ c.if-not-s.false) c.if-s-slot.false c.own_reply-m.ensures) c.reply_on.ensures
