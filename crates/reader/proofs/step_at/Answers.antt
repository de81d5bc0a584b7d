use Rattle.reader.specs.Laws.{step_made}
use Rattle.reader.proofs.step_at.Goals as goal

pub returns : goal.returns
returns c =
    let a = c.args in
    step_made a.bytes.now a.at _ _ _ c.next_record.ensures c.record_at.ensures c.after_at.ensures
