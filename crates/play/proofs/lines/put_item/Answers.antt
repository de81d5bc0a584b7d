use Rattle.play.specs.LineLaws.{item_written}
use Rattle.play.proofs.lines.put_item.Goals as goal

pub returns : goal.returns
returns c =
    item_written c.args.text.now c.args.at c.args.n c.args.end _ _ _ _ c.requires c.put_number-place.ensures c.put_byte.ensures
