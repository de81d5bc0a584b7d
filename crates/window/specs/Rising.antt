-- Windows in which every committed slot stays committed: the first open slot never falls from one to the other.
use Rattle.std.specs.Prelude.{◌≡◌, true, false, ℕ, ◌≤◌, ◌<◌, ltb}
use Rattle.std.proofs.Common.{⊎_elim, le_refl, arith}
use Rattle.base.specs.Pick.{decide, tests}
use Rattle.slots.specs.declared.Slot.{Slot}
use Rattle.window.specs.declared.Window.{Window}
use Rattle.window.specs.Window.{slot_at, put_slot, filled, sweep, first_open}
use Rattle.window.specs.Places.{put_each, filled_low, filled_old, sweep_each}
use Rattle.window.specs.SummaryLaws.{first_within, first_closed, first_open_is_open, present}

pub record Rises (w v : Window) : Type 0 where
  pub len : w.len ≤ v.len
  pub closed : (j : ℕ) → j < w.len → 3 ≤ (slot_at w j).status → 3 ≤ (slot_at v j).status

pub first_rises : (w v : Window) → Rises w v → first_open w ≤ first_open v
first_rises w v h =
    ⊎_elim
    (λ (t : ltb (first_open v) (first_open w) ≡ true).
    let u : first_open v < first_open w = omega (arith, tests) in
    absurd
    (omega (arith, first_open_is_open v (omega (arith, first_within w, h.len)), h.closed (first_open v) (omega (arith, first_within w)) (first_closed w (first_open v) u))))
    (λ (t : ltb (first_open v) (first_open w) ≡ false). omega (arith, tests))
    (decide (ltb (first_open v) (first_open w)))

pub Rises-self : (w : Window) → Rises w w
Rises-self w = record { len = le_refl w.len; closed = λ j l h. h }

pub Rises-then : {u v w : Window} → Rises u v → Rises v w → Rises u w
Rises-then a b = record { len = omega (arith, a.len, b.len); closed = λ j l h. b.closed j (omega (arith, a.len)) (a.closed j l h) }

-- it grows
pub Rises-filled : (z : Slot) (w : Window) (n : ℕ) → Rises w (filled z w n)
Rises-filled z w n = record { len = filled_low z w n; closed = λ j l h. rw (filled_old z w n j l) h }

-- one slot is put that is committed where it was
pub Rises-put : (w : Window) (i : ℕ) (x : Slot) → (3 ≤ (slot_at w i).status → 3 ≤ x.status) → Rises w (put_slot w i x)
Rises-put w i x k =
    record { len = le_refl w.len; closed = λ j l h. put_each w i x (λ (y : Slot). 3 ≤ y.status) j (λ e. k (rw e at h)) h }

-- each slot of a range is changed so
pub Rises-sweep : (f : ℕ → Slot → Slot) (from to : ℕ) (w : Window) → ((j : ℕ) → 3 ≤ (slot_at w j).status → 3 ≤ (f j (slot_at w j)).status) → Rises w (sweep f from to w)
Rises-sweep f from to w k =
    record {
      len = le_refl w.len;
      closed = λ j l h.
          sweep_each f from to w (λ (y : Slot). 3 ≤ y.status) j h (λ a b _. k j h) (λ s. absurd (omega (arith, present w j (omega arith))));
    }
