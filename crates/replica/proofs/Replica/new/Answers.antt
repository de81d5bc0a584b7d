use Rattle.base.specs.Pick.{refuted, granted}
use Rattle.replica.specs.FitLaws.{new_refused, new_made}
use Rattle.std.proofs.Common.{ap}
use Rattle.std.specs.Prelude.{not}
use Rattle.replica.proofs.Replica.new.Goals as goal

pub returns-then-not-may_be : goal.returns-then-not-may_be
returns-then-not-may_be c =
    let a = c.args in
    new_refused a.id a.group a.start a.options c.no_slots-window.ensures c.empty_table-keys.ensures c.no_reads-reads.ensures
    (refuted c.may_be.ensures (ap not c.if-not-may_be.true))

pub returns : goal.returns
returns c =
    let a = c.args in
    new_made a.id a.group a.start a.options c.no_slots-window.ensures c.empty_table-keys.ensures c.no_reads-reads.ensures
    (granted c.may_be.ensures (ap not c.if-not-may_be.false))
