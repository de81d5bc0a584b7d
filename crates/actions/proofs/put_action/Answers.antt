use Rattle.std.proofs.Common.{refl, sym, ap, ◌∙◌, length, ◌≡◌, ◌*◌, arith}
use Rattle.std.proofs.lemmas.Slice.{put_mid-paste}
use Rattle.actions.specs.Actions.{act, numbers_of}
use Rattle.actions.specs.Laws.{put_in, paste_done, length_numbers}
use Rattle.actions.proofs.put_action.Goals as goal

pub returns : goal.returns
returns c =
    let a = c.args in
    let own = c.keys_for-own.result in
    let long : length c.numbers-nums.result ≡ 18 = ap length c.numbers-nums.ensures ∙ length_numbers a.a own in
    paste_done _ _ _ a.k 18 (act a.a a.keys)
    (put_mid-paste (18 * a.k) _ _ _ c.numbers-nums.result 18 c.copy_from_slice.ensures.after (omega arith) (omega arith)) refl
    (c.numbers-nums.ensures ∙ ap (numbers_of a.a) c.keys_for-own.ensures)
    ∙ sym (put_in _ a.k (act a.a a.keys) (omega arith) (omega arith))
