use Rattle.trace.specs.Laws.{fields_read}
use Rattle.trace.proofs.fields.whole_record.Goals as goal

pub returns : goal.returns
returns c =
    let a = c.args in
    fields_read a.bytes.now a.at _ _ _ _ _ _ _ _ _ _ _ _
    c.from.ensures c.from-2.ensures c.from-3.ensures c.from-4.ensures
    c.number_at.ensures c.number_at-2.ensures
    c.number_at-3.ensures c.number_at-4.ensures
    c.number_at-5.ensures c.number_at-6.ensures c.number_at-7.ensures c.numbers.ensures
