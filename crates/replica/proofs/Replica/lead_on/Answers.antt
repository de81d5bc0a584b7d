use native.Mathlib.Omega.{arith}
use Rattle.window.specs.RangeLaws.{swept_in}
use Rattle.replica.specs.ElectionLaws.{lead_told}
use Rattle.replica.proofs.Replica.lead_on.Goals as goal

pub returns : goal.returns
returns c =
    let g = c.args in
    lead_told g.self g.w g.trigger g.endprep g.ballot c.requires c.put_action.ensures c.put_action-2.ensures
    c.new_book-book.ensures (swept_in c.redo_range-p.ensures (omega (arith, c.requires, c.put_action-2.auto.room, c.put_action.auto.room))) c.put_action-3.ensures c.stepped_up-self.ensures c.unknown_bars-self.ensures
