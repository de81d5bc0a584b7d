use Rattle.decide.proofs.Scalars.is_counted.Goals as goal

pub returns : goal.returns
returns c = rw (c.count.ensures, c.quorum.ensures)
