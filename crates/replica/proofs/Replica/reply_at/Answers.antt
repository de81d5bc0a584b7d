use native.Mathlib.Omega.{arith}
use mathlib.Core.Path.{◌≡◌, refl}
use borrow.Author.Tests.{ne_eqb, not-true, not-false}
use Rattle.window.specs.Window.{put_slot}
use Rattle.decide.specs.Weighing.{as_weighed}
use Rattle.decide.specs.Laws.{refused_some}
use Rattle.replica.specs.ActingLaws.{refused_told}
use Rattle.replica.specs.Replying.{swept_to}
use Rattle.replica.specs.ReplyLaws.{swept_end, Weighs, Weighs-read, more_few, reply_refused, reply_full, reply_told, reply_still}
use Rattle.replica.proofs.Replica.reply_at.Goals as goal
use Rattle.replica.proofs.Replica.reply_at.Goals.{In-Ok}

-- what was decided, of the slots and the counts that the code has read
weighs : (c : In-Ok) → Weighs c.args.self c.args.peer c.args.m c.args.i c.args.j (put_slot c.append-w.result c.args.i c.noted-s.result) c.with_fallen-fallen.result (as_weighed c.in-Ok.g)
weighs c =
    let a = c.args in
    Weighs-read a.self a.peer a.m a.i a.j (put_slot c.append-w.result a.i c.noted-s.result) _ _ c.requires (omega (arith, c.well_formed, c.requires)) c.new_book-book.ensures
    c.append-w.ensures c.strict-strict.ensures c.noted-s.ensures refl c.with_fallen-fallen.ensures c.counts-counts.ensures c.in-Ok.ensures

pub returns-in-Err : goal.returns-in-Err
returns-in-Err c =
    let a = c.args in
    let weighs = Weighs-read a.self a.peer a.m a.i a.j (put_slot c.append-w.result a.i c.noted-s.result) _ _ c.requires (omega (arith, c.well_formed, c.requires)) c.new_book-book.ensures
    c.append-w.ensures c.strict-strict.ensures c.noted-s.ensures refl c.with_fallen-fallen.ensures c.counts-counts.ensures c.in-Err.ensures in
    refused_told _ a.self c.refused.ensures (rw c.from.ensures (reply_refused a.self a.peer a.m a.i a.j _ _ _ weighs (refused_some c.in-Err.refusal)))

pub returns-then-too_many : goal.returns-then-too_many
returns-then-too_many c =
    let known = weighs (goal.at.returns-then-too_many c).In-Ok in
    let a = c.args in
    refused_told _ a.self c.refused-then-too_many.ensures
    (reply_full a.self a.peer a.m a.i a.j _ _ _ known refl c.too_many.ensures c.if-too_many.true)

pub returns-then-not-g : goal.returns-then-not-g
returns-then-not-g c =
    let known = weighs (goal.at.returns-then-not-g c).In-Ok in
    let a = c.args in
    reply_still a.self a.peer a.m a.i a.j _ _ _ known c.requires refl c.too_many.ensures c.if-too_many.false c.put_promises-k.ensures
    (not-true c.in-Ok.g.enters c.if-not-g.true) c.with_bar-self.ensures c.note_if-self.ensures

pub overflow_add-accepting : goal.overflow_add-accepting
overflow_add-accepting c =
    let known = weighs (goal.at.overflow_add-accepting c).In-Ok in
    let whole = swept_end (put_slot c.append-w.result c.args.i c.noted-s.result) c.args.j (as_weighed c.in-Ok.g) (not-false c.in-Ok.g.enters c.if-not-g.false) in
    let a = c.args in
    omega (
      arith,
      more_few a.self a.peer a.m a.i a.j _ _ _ known _ c.requires whole c.count_at-more.ensures,
    )

pub returns : goal.returns
returns c =
    let known = weighs (goal.at.returns c).In-Ok in
    let whole = swept_end (put_slot c.append-w.result c.args.i c.noted-s.result) c.args.j (as_weighed c.in-Ok.g) (not-false c.in-Ok.g.enters c.if-not-g.false) in
    let a = c.args in
    reply_told a.self a.peer a.m a.i a.j _ _ _ known c.requires refl c.too_many.ensures c.if-too_many.false c.put_promises-k.ensures
    whole c.strict-strict.ensures c.enter_range-p.ensures c.with_bar-self.ensures c.note_if-self.ensures c.larger_of-low.ensures c.count_at-more.ensures
