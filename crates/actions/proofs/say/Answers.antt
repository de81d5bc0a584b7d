use Rattle.std.proofs.Common.{⊎_elim}
use Rattle.actions.specs.Laws.{Said-past, Said-short, Said-Nothing, Said-One, Said-Two}
use Rattle.actions.proofs.say.Goals as goal

pub returns-then-k : goal.returns-then-k
returns-then-k c =
    let a = c.args in
    ⊎_elim (Said-past _ a.k a.says a.keys) (λ h. Said-short _ a.k a.says a.keys h.1) c.then-k.either

pub returns-in-Nothing : goal.returns-in-Nothing
returns-in-Nothing c =
    let a = c.args in
    Said-Nothing _ a.k a.says a.keys c.if-k.false c.if-room-lt-ROOM.false c.in-Nothing.is

pub returns-in-One : goal.returns-in-One
returns-in-One c =
    let a = c.args in
    Said-One _ a.k a.says a.keys c.if-k.false c.if-room-lt-ROOM.false _ _ c.in-One.is c.put_action.ensures

pub returns-in-Two : goal.returns-in-Two
returns-in-Two c =
    let a = c.args in
    Said-Two _ a.k a.says a.keys c.if-k.false c.if-room-lt-ROOM.false _ _ _ _ c.in-Two.is c.put_action-in-Two.ensures c.put_action-in-Two-2.ensures
