use mathlib.Core.Path.{◌≡◌}
use mathlib.Core.Bool.{false}
use Prim.Native.Nat.{◌-◌, ◌≤◌}
use lib.Dec.{leb}
use Rattle.base.specs.Find.{any}
use Rattle.base.specs.Scan.{scan}
use Rattle.base.specs.HowMany.{how_many}
use Rattle.window.specs.Window.{slot_at}
use Rattle.window.specs.Summary.{has_status}
use Rattle.window.specs.Laws.{unfit_slot}
use Rattle.window.proofs.Window.survey.Given as goal

abbrev pub invariant-loop-i : goal.invariant-loop-i
invariant-loop-i l =
    (any (unfit_slot l.group l.self) 0 l.i ≡ false) × ((l.first ≡ scan (λ j. leb 3 (slot_at l.self j).status) 0 l.i) × ((l.accepting ≡ how_many (has_status l.self 2) l.from l.i) × ((l.i ≤ l.self.len) × (l.accepting ≤ l.i))))

abbrev pub decreases-loop-i : goal.decreases-loop-i
decreases-loop-i l = l.self.len - l.i
