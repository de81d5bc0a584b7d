-- What growth and the searches hand back of any numbers. A window has 64 places: where more are asked for, nothing grows and nothing is found.
use Rattle.std.specs.Prelude.{Bool, ◌&&◌, ℕ, ltb, leb, eqb}
use Rattle.base.specs.Pick.{pick}
use Rattle.base.specs.Find.{any}
use Rattle.base.specs.Scan.{scan}
use Rattle.slots.specs.declared.Slot.{Slot}
use Rattle.slots.specs.Slots.{executed}
use Rattle.window.specs.declared.Window.{Window}
use Rattle.window.specs.Window.{slot_at, filled, last_used, last_open}

unfoldable pub filled_in : Slot → Window → ℕ → Window
filled_in z w n = pick (leb n 64) (filled z w n) w

unfoldable pub last_used_in : Window → ℕ
last_used_in w = pick (leb w.len 64) (last_used w) 0

unfoldable pub last_open_in : Window → ℕ
last_open_in w = pick (leb w.len 64) (last_open w) w.len

-- some slot of a range has a larger ballot
unfoldable pub any_above_in : Window → ℕ → ℕ → ℕ → Bool
any_above_in w ballot from to = leb to 64 && any (λ i. ltb ballot (slot_at w i).ballot) from to

-- a slot is at least at a ballot and a status
abbrev pub passes : Window → ℕ → ℕ → ℕ → Bool
passes w ballot status i = leb ballot (slot_at w i).ballot && leb status (slot_at w i).status

-- the first place of a range whose slot is below a ballot or a status, and the first whose slot is not Executed
unfoldable pub stop_in : Window → ℕ → ℕ → ℕ → ℕ → ℕ
stop_in w ballot status from to = pick (leb to 64) (scan (passes w ballot status) from to) from

unfoldable pub executed_in : Window → ℕ → ℕ → ℕ
executed_in w from to = pick (leb to 64) (scan (λ i. eqb (slot_at w i).status executed) from to) from
