use mathlib.Core.Path.{sym, ◌∙◌}
use Rattle.reader.specs.Laws.{after_found, whole_fits}
use Rattle.std.proofs.Common.{rules}
use Rattle.reader.proofs.after_at.Goals as goal

pub overflow_add-result : goal.overflow_add-result
overflow_add-result c =
    let a = c.args in
    let f = whole_fits a.bytes.now a.at _ (sym c.next_record.ensures ∙ c.in-Whole.is) in
    search rules

pub returns-in-Whole : goal.returns-in-Whole
returns-in-Whole c =
    let a = c.args in
    sym (after_found a.bytes.now a.at _ (sym c.next_record.ensures ∙ c.in-Whole.is))

pub returns-in-Short : goal.returns-in-Short
returns-in-Short c =
    let a = c.args in
    sym (after_found a.bytes.now a.at _ (sym c.next_record.ensures ∙ c.in-Short.is))

pub returns-in-End : goal.returns-in-End
returns-in-End c =
    let a = c.args in
    sym (after_found a.bytes.now a.at _ (sym c.next_record.ensures ∙ c.in-End.is))
