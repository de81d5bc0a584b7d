-- The log's slots: the slot at a place, growth, searches, fitness, and one change of each slot of a range.
use Rattle.std.specs.Prelude.{Bool, not, ◌&&◌, ℕ, ltb, leb, get_or, set, replicate}
use Rattle.base.specs.Pick.{pick}
use Rattle.base.specs.Over.{over}
use Rattle.base.specs.Find.{any, last}
use Rattle.base.specs.Scan.{scan}
use Rattle.slots.specs.declared.Slot.{Slot}
use Rattle.slots.specs.Slots.{accepting, committed, null_slot, no_slot, fit_slot}
use Rattle.window.specs.declared.Window.{Window}

-- 01: "Window of 64 slots from start_slot". The slot at a place
abbrev pub slot_at : Window → ℕ → Slot
slot_at w i = get_or w.slots i no_slot

abbrev pub put_slot : Window → ℕ → Slot → Window
put_slot w i s = record { len = w.len; slots = set w.slots i s }

-- a slot z at each place from the log's end up to n; each is written first, whatever stood there
unfoldable pub filled : Slot → Window → ℕ → Window
filled z w n = pick (leb n w.len) w (record { len = n; slots = over (λ i s. z) no_slot w.len n w.slots })

-- "filling in null instances if needed": filled with null slots, where a PrepareReply fills with slots in Preparing
abbrev pub grown : Window → ℕ → Window
grown w n = filled null_slot w n

-- f of each slot from one place up to another
abbrev pub sweep : (ℕ → Slot → Slot) → ℕ → ℕ → Window → Window
sweep f from to w = record { len = w.len; slots = over f no_slot from to w.slots }

-- 01: "Fresh: .. no slots."
abbrev pub no_slots : Window
no_slots = record { len = 0; slots = replicate 64 null_slot }

-- 01, answer 1: "a member set .. outside the group": the slots in use
unfoldable pub fit_slots : ℕ → Window → Bool
fit_slots group w = not (any (λ i. not (fit_slot group (slot_at w i))) 0 w.len)

-- Prepare: "covers trigger to the larger of trigger and the last non-null slot"
unfoldable pub last_used : Window → ℕ
last_used w = last (λ i. ltb 0 (slot_at w i).status) 0 w.len

-- the places of the first and the last slot below Committed, the length where there is none
unfoldable pub first_open : Window → ℕ
first_open w = scan (λ i. leb committed (slot_at w i).status) 0 w.len

unfoldable pub last_open : Window → ℕ
last_open w = last (λ i. ltb (slot_at w i).status committed) w.len w.len

-- CommitNotice: "stops at the first slot with a smaller ballot or a status below Accepting"
abbrev pub may_mark : ℕ → Slot → Bool
may_mark ballot s = leb ballot s.ballot && leb accepting s.status

unfoldable pub mark_stop : Window → ℕ → ℕ → ℕ → ℕ
mark_stop w ballot from to = scan (λ i. may_mark ballot (slot_at w i)) from to
