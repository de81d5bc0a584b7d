use Rattle.slots.proofs.Slot.accepted.Goals as goal

pub returns : goal.returns
returns c =
    rw (c.with_replica.ensures, c.with_batch.ensures, c.with_state.ensures, c.sourced.ensures, c.put_back-status.ensures)
    at c.with_vote.ensures
