-- What the window's loops hand back. A sweep changes each slot of a range and writes that slot's actions.
use Rattle.std.specs.Prelude.{◌≡◌, Bool, ◌&&◌, List, [], ◌∷◌, ℕ, ◌+◌, ◌-◌, ◌*◌, ◌≤◌, leb, length}
use Rattle.base.specs.Pick.{pick}
use Rattle.base.specs.Gather.{gather}
use Rattle.actions.specs.Actions.{Act, write_at}
use Rattle.slots.specs.declared.Slot.{Slot}
use Rattle.window.specs.declared.Window.{Window}
use Rattle.window.specs.declared.Placed.{Placed}
use Rattle.window.specs.declared.Turned.{Turned}
use Rattle.window.specs.Window.{slot_at, sweep}
use Rattle.window.specs.Acts.{promise}

-- the actions of each slot of a range, as it was before the sweep
abbrev pub sweep_acts : (ℕ → Slot → List Act) → ℕ → ℕ → Window → List Act
sweep_acts g from to w = gather (λ i. g i (slot_at w i)) from to

-- what writing at most two actions from the n-th place on counts on; and for each slot of a range, also as a test
pub record TwoFit (n : ℕ) (room : List ℕ) : Type 0 where
  pub place : n + 2 ≤ 192
  pub long : 3456 ≤ length room

pub record Ranged (from to k : ℕ) (room : List ℕ) (start : ℕ) : Type 0 where
  pub ordered : from ≤ to
  pub within : to ≤ 64
  pub places : k + 2 * (to - from) ≤ 192
  pub long : 3456 ≤ length room
  pub low : start ≤ 4294967296

-- the places of the window, two places of the room for each slot, a room of 192 actions, and a start as a fit record has it
unfoldable pub ranged : ℕ → ℕ → ℕ → ℕ → ℕ → Bool
ranged from to k room start =
    leb from to && (leb to 64 && (leb (k + 2 * (to - from)) 192 && (leb 3456 room && leb start 4294967296)))

-- what a turn hands back that makes x of a slot and writes its actions from the n-th place on
pub record Turns (x : Slot) (acts : List Act) (n : ℕ) (room : List ℕ) (p : Turned) (after : List ℕ) : Type 0 where
  pub slot : p.slot ≡ x
  pub next : p.next ≡ n + length acts
  pub few : p.next ≤ n + 2
  pub written : after ≡ write_at room n acts

-- what a loop hands back that makes f i s of each slot s of a range and writes its actions g i s from the k-th place on
module _ (f : ℕ → Slot → Slot) (g : ℕ → Slot → List Act) where
  pub record Swept (from to k : ℕ) (w : Window) (room : List ℕ) (p : Placed) (after : List ℕ) : Type 0 where
    pub window : p.window ≡ sweep f from to w
    pub next : p.next ≡ k + length (sweep_acts g from to w)
    pub few : p.next ≤ k + 2 * (to - from)
    pub written : after ≡ write_at room k (sweep_acts g from to w)

  -- the same of any numbers: where the range does not pass the test nothing is done
  abbrev pub swept_acts : ℕ → ℕ → ℕ → ℕ → Window → List ℕ → List Act
  swept_acts from to k start w room = pick (ranged from to k (length room) start) (sweep_acts g from to w) []

  abbrev pub swept_window : ℕ → ℕ → ℕ → ℕ → Window → List ℕ → Window
  swept_window from to k start w room = pick (ranged from to k (length room) start) (sweep f from to w) w

  pub record SweptIn (from to k start : ℕ) (w : Window) (room : List ℕ) (p : Placed) (after : List ℕ) : Type 0 where
    pub handed : p ≡ record { next = k + length (swept_acts from to k start w room); window = swept_window from to k start w room }
    pub few : p.next ≤ k + 2 * (to - from)
    pub written : after ≡ write_at room k (swept_acts from to k start w room)

-- what writing a promise for each place of a range hands back
pub record Promises (from to k start ballot : ℕ) (room : List ℕ) (n : ℕ) (after : List ℕ) : Type 0 where
  pub next : n ≡ k + (to - from)
  pub written : after ≡ write_at room k (gather (λ i. promise (start + i) ballot ∷ []) from to)

-- the same of any numbers
abbrev pub promises_acts : ℕ → ℕ → ℕ → ℕ → ℕ → List ℕ → List Act
promises_acts from to k start ballot room =
    pick (ranged from to k (length room) start) (gather (λ i. promise (start + i) ballot ∷ []) from to) []

pub record PromisesIn (from to k start ballot : ℕ) (room : List ℕ) (n : ℕ) (after : List ℕ) : Type 0 where
  pub next : n ≡ k + length (promises_acts from to k start ballot room)
  pub written : after ≡ write_at room k (promises_acts from to k start ballot room)
