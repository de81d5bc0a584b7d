-- A window of 64 slots stays one, through every call and every history, on every record.
use Rattle.std.proofs.Common.{◌∙◌}
use Rattle.std.specs.Prelude.{List, [], ◌∷◌}
use Rattle.replica.specs.declared.Replica.{Replica}
use Rattle.laws.proofs.Theorems.{slots_stay}
use Rattle.voting.specs.Windows.{Whole}
use Rattle.voting.specs.History.{Lent, told, play}

pub Whole-step : (r : Replica) (c : Lent) → Whole r.window → Whole (told r c).replica.window
Whole-step r c h = slots_stay r c.room c.call ∙ h

pub Whole-play : (r : Replica) (h : List Lent) → Whole r.window → Whole (play r h).window
Whole-play r [] w = w
Whole-play r (c ∷ h) w = Whole-play (told r c).replica h (Whole-step r c w)
