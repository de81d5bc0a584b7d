-- What the changes make of a slot's status: of these none opens a slot that is committed, and but for a mark none commits one.
use Rattle.std.specs.Prelude.{◌≡◌, Bool, true, ℕ, ◌≤◌, ◌<◌, leb, eqb}
use Rattle.std.proofs.Math.Bool.{and-false}
use Rattle.std.proofs.Common.{arith, le-leb, leb-true}
use Rattle.std.proofs.lemmas.Bool.{lt-leb}
use Rattle.base.specs.Pick.{pick_both, pick_cases, tests}
use Rattle.slots.specs.declared.LeaderBook.{LeaderBook}
use Rattle.slots.specs.declared.Slot.{Slot}
use Rattle.slots.specs.Slots.{put_back, redone_slot, entered_slot, marked_slot, passed_slot, executed_slot}

module _ (x : Slot) where
  pub redone_closed : (ballot : ℕ) (book : LeaderBook) → 3 ≤ x.status → 3 ≤ (redone_slot ballot book x).status
  redone_closed ballot book h =
      pick_cases (λ (y : Slot). 3 ≤ y.status) (leb 4 x.status) (λ t. h)
      (λ t. pick_cases (λ (y : Slot). 3 ≤ y.status) (leb 3 x.status) (λ u. h) (λ u. absurd (omega (arith, tests))))

  pub redone_open : (ballot : ℕ) (book : LeaderBook) → x.status < 3 → (redone_slot ballot book x).status ≡ 1
  redone_open ballot book h = rw (lt-leb 4 x.status (omega arith), lt-leb 3 x.status h)

  pub marked_closed : 3 ≤ (marked_slot x).status
  marked_closed = pick_cases (λ (y : Slot). 3 ≤ y.status) (leb 3 x.status) (λ t. leb-true _ _ t) (λ t. omega arith)

  pub entered_closed : (strict : Bool) (ballot : ℕ) → 3 ≤ x.status → 3 ≤ (entered_slot strict ballot x).status
  entered_closed strict ballot h = pick_cases (λ (y : Slot). 3 ≤ y.status) (eqb x.status 1) (λ t. absurd (omega (arith, tests))) (λ t. h)

  pub entered_open : (strict : Bool) (ballot : ℕ) → x.status < 3 → (entered_slot strict ballot x).status < 3
  entered_open strict ballot h = pick_both (λ (y : Slot). y.status < 3) (eqb x.status 1) (omega arith) h

  -- Prepare and Accept give a status below Committed their own; a committed slot keeps its status in the strict kind
  pub put_back_open : (strict : Bool) (status : ℕ) → x.status < 3 → put_back strict status x ≡ status
  put_back_open strict status h = rw (lt-leb 3 x.status h, and-false strict)

  pub put_back_closed : (status : ℕ) → 3 ≤ x.status → put_back true status x ≡ x.status
  put_back_closed status h = rw (le-leb 3 x.status h)

  pub passed_closed : 3 ≤ x.status → 3 ≤ (passed_slot x).status
  passed_closed h = pick_both (λ (y : Slot). 3 ≤ y.status) (eqb x.batch.id 0) (omega arith) h

  pub executed_closed : 3 ≤ x.status → 3 ≤ (executed_slot x).status
  executed_closed h = pick_both (λ (y : Slot). 3 ≤ y.status) (eqb x.status 3) (omega arith) h
