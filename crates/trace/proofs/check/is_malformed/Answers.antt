use Rattle.std.proofs.Common.{sym, ◌∙◌, ap, arith}
use Rattle.std.specs.Prelude.{◌≡◌, ◌≤◌}
use Rattle.trace.specs.Kinds.{number_of, number_most, number_unique}
use Rattle.trace.specs.Laws.{bad_sum, bad_number, bad_count, bad_sub, no_tags, by_tags}
use Rattle.trace.proofs.check.is_malformed.Goals as goal
use Rattle.trace.proofs.check.is_malformed.Goals.{then-not-right-via-then-not-right, then-not-right-via-else-not-right+then-rec-gt8, then-not-right-via-else-not-right+else-rec-gt8+then-not-sub_known}

pub returns-in_default : goal.returns-in_default
returns-in_default c = sym (bad_number _ _ c.in_default.ensures.1)

pub returns-then-not-right : goal.returns-then-not-right
returns-then-not-right c =
    let a = c.args in
    let k : a.rec.kind ≤ 11 = omega (arith, number_most c.in-Ok.kind, c.in-Ok.ensures) in
    elim c.then-not-right.branch [
      | then-not-right-via-then-not-right w ↦ sym (bad_sum a.rec a.right w.if-not-right.true)
      | then-not-right-via-else-not-right+then-rec-gt8 w ↦ sym (bad_count a.rec a.right w.if-not-right.false k w.if-rec-gt8.true)
      | then-not-right-via-else-not-right+else-rec-gt8+then-not-sub_known w ↦
          sym (bad_sub a.rec a.right w.if-not-right.false k w.if-rec-gt8.false (rw (sym c.in-Ok.ensures) (sym w.sub_known.ensures ∙ w.if-not-sub_known.true)))
    ]

pub returns-in-ReadReply : goal.returns-in-ReadReply
returns-in-ReadReply c =
    let a = c.args in
    let e : a.rec.kind ≡ 11 = sym c.in-Ok.ensures ∙ ap number_of c.in-ReadReply.is in
    c.bad_tag.ensures
    ∙ sym (by_tags a.rec a.right c.if-not-right.false (omega arith) c.if-rec-gt8.false (rw (sym c.in-Ok.ensures) (sym c.sub_known.ensures ∙ c.if-not-sub_known.false)) e)

pub returns-in_default-kind : goal.returns-in_default-kind
returns-in_default-kind c =
    let a = c.args in
    let k : a.rec.kind ≤ 11 = omega (arith, number_most c.in-Ok.kind, c.in-Ok.ensures) in
    sym (no_tags a.rec a.right c.if-not-right.false k c.if-rec-gt8.false (rw (sym c.in-Ok.ensures) (sym c.sub_known.ensures ∙ c.if-not-sub_known.false))
    (λ e. c.in_default-kind.not-ReadReply (number_unique _ _ (c.in-Ok.ensures ∙ e))))
