use Rattle.window.specs.Acts.{promise}
use Rattle.window.specs.Laws.{Turns-none, Turns-one, redo_none, redo_some}
use mathlib.Core.Path.{refl}
use Rattle.window.proofs.sweeps.RedoingSweep.turn.Goals as goal

pub returns-then-s-ge-COMMITTED : goal.returns-then-s-ge-COMMITTED
returns-then-s-ge-COMMITTED c =
    let a = c.args in
    Turns-none _ _ _ _ _ _ c.redone-t.ensures (redo_none a.slot a.self.ballot a.s c.if-s-ge-COMMITTED.true) refl

pub returns : goal.returns
returns c =
    let a = c.args in
    Turns-one _ _ _ _ _ _ c.redone-t.ensures (promise a.slot a.self.ballot) (redo_some a.slot a.self.ballot a.s c.if-s-ge-COMMITTED.false)
    c.put_promise.ensures
