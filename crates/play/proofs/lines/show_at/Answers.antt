use Rattle.std.proofs.Common.{refl, ◌∙◌}
use Rattle.play.specs.LineLaws.{Shows-at}
use Rattle.play.proofs.lines.show_at.Goals as goal

pub returns : goal.returns
returns c =
    let a = c.args in
    Shows-at (record { run = a.run; room = a.room.now; text = a.text.now }) _ a.at _ _ _ _ _ _ c.play_at-h.ensures refl
    (c.line_of-line.ensures ∙ rw (c.answer.ensures, c.count.ensures)) c.put_row-place.ensures
