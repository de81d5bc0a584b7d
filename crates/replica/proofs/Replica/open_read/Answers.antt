use lib.ListN.{length}
use mathlib.Core.Path.{refl}
use Rattle.replica.specs.SeenLaws.{refused_some}
use Rattle.replica.specs.AdmitLaws.{ready_open, ready_holds}
use Rattle.replica.specs.ActingLaws.{refused_told, keep}
use Rattle.replica.specs.ReadCallLaws.{open_unready, open_ready}
use Rattle.replica.proofs.Replica.open_read.Goals as goal

pub returns-in-Err : goal.returns-in-Err
returns-in-Err c =
    let a = c.args in
    refused_told _ a.self c.refused.ensures (open_unready a.self _ a.id a.count a.keys _ c.in-Err.ensures (refused_some _))

pub returns-in-Ok : goal.returns-in-Ok
returns-in-Ok c =
    let a = c.args in
    keep 0 _ refl
    (open_ready a.self _ a.id a.count a.keys _ (ready_open a.self (length a.room.now) c.in_default.ensures) c.in-Ok.ensures)
    (ready_holds a.self (length a.room.now) c.in_default.ensures).sum

pub returns-in-Err-open_read : goal.returns-in-Err-open_read
returns-in-Err-open_read c =
    let a = c.args in
    let e = open_ready a.self _ a.id a.count a.keys _ (ready_open a.self (length a.room.now) c.in_default.ensures) c.in-Err-open_read.ensures in
    refused_told _ _ refl (rw c.from.ensures e)
