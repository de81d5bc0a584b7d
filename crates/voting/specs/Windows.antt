-- Windows of 64 slots, as the struct has them: a list's length is no part of a record's type here.
use Rattle.std.specs.Prelude.{◌≡◌, ℕ, length}
use Rattle.std.proofs.Common.{◌∙◌}
use Rattle.slots.specs.declared.Slot.{Slot}
use Rattle.slots.specs.Slots.{null_slot}
use Rattle.window.specs.declared.Window.{Window}
use Rattle.window.specs.Window.{put_slot, grown, sweep}
use Rattle.window.specs.Places.{put_long, sweep_long, filled_long}

abbrev pub Whole : Window → Type 0
Whole w = length w.slots ≡ 64

pub Whole-put : (w : Window) (i : ℕ) (s : Slot) → Whole w → Whole (put_slot w i s)
Whole-put w i s h = put_long w i s ∙ h

pub Whole-sweep : (f : ℕ → Slot → Slot) (from to : ℕ) (w : Window) → Whole w → Whole (sweep f from to w)
Whole-sweep f from to w h = sweep_long f from to w ∙ h

pub Whole-grown : (w : Window) (n : ℕ) → Whole w → Whole (grown w n)
Whole-grown w n h = filled_long null_slot w n ∙ h
