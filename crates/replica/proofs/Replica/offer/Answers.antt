use borrow.Author.Tests.{ne_eqb}
use mathlib.Core.Path.{◌≡◌, refl}
use mathlib.Core.Bool.{true}
use native.Mathlib.Omega.{arith}
use Prim.Native.Nat.{ℕ}
use lib.ListN.{length}
use Rattle.base.specs.Pick.{refuted, granted}
use Rattle.batch.specs.Batches.{Made}
use Rattle.replica.specs.SeenLaws.{refused_some}
use Rattle.replica.specs.AdmitLaws.{ready_open, ready_holds}
use Rattle.replica.specs.ActingLaws.{refused_told, told}
use Rattle.replica.specs.MessageLaws.{batch_none, batch_some}
use Rattle.replica.specs.AddedLaws.{offer_fits, offer_unready, offer_none, offer_denied, offer_full, offer_settles}
use Rattle.std.proofs.Common.{ap}
use Rattle.std.specs.Prelude.{not}
use Rattle.replica.proofs.Replica.offer.Goals as goal

pub returns-in-Err : goal.returns-in-Err
returns-in-Err c =
    let a = c.args in
    refused_told _ a.self c.refused.ensures (offer_unready a.self _ a.batch _ c.in-Err.ensures (refused_some _))

pub returns-in_default-make : goal.returns-in_default-make
returns-in_default-make c =
    let a = c.args in
    let fine = ready_open a.self (length a.room.now) c.in_default.ensures in
    refused_told _ a.self c.refused-in_default-make.ensures
    (offer_none a.self _ a.batch fine (batch_none a.batch _ c.in_default-make.ensures (λ (z : ◌≡◌ {A = ℕ} 10 0). omega arith)))

pub returns-then-not-may_offer : goal.returns-then-not-may_offer
returns-then-not-may_offer c =
    let a = c.args in
    let fine = ready_open a.self (length a.room.now) c.in_default.ensures in
    let batched = batch_some a.batch _ c.in-Some.ensures refl in
    refused_told _ a.self c.refused-then-not-may_offer.ensures
    (offer_denied a.self _ a.batch fine batched (refuted c.may_offer.ensures (ap not c.if-not-may_offer.true)))

pub returns-then-len-ge-SLOTS : goal.returns-then-len-ge-SLOTS
returns-then-len-ge-SLOTS c =
    let a = c.args in
    let fine = ready_open a.self (length a.room.now) c.in_default.ensures in
    let batched = batch_some a.batch _ c.in-Some.ensures refl in
    refused_told _ a.self c.refused-then-len-ge-SLOTS.ensures
    (offer_full a.self _ a.batch fine batched (granted c.may_offer.ensures (ap not c.if-not-may_offer.false)) c.if-len-ge-SLOTS.true)

pub overflow_add-slot : goal.overflow_add-slot
overflow_add-slot c =
    let a = c.args in
    let facts = ready_holds a.self (length a.room.now) c.in_default.ensures in
    let f = facts in omega (arith, f.low, f.within)

pub settle-requires : goal.settle-requires
settle-requires c =
    let a = c.args in
    let facts = ready_holds a.self (length a.room.now) c.in_default.ensures in
    offer_fits a.self _ _ _ facts c.if-len-ge-SLOTS.false c.grow_to-w.ensures refl c.decide_offer-d.ensures

pub returns : goal.returns
returns c =
    let a = c.args in
    let fine = ready_open a.self (length a.room.now) c.in_default.ensures in
    let batched = batch_some a.batch _ c.in-Some.ensures refl in
    told
    (offer_settles a.self _ a.batch fine batched (granted c.may_offer.ensures (ap not c.if-not-may_offer.false)) c.if-len-ge-SLOTS.false _ _ _ c.grow_to-w.ensures
    (ap (λ (m : Made). m.batch) c.in-Some.ensures) c.decide_offer-d.ensures)
    c.settle.ensures
