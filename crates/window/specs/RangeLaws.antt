-- The test of a range, and a sweep or promises of one that passes it and of one that does not.
use Rattle.std.specs.Prelude.{◌≡◌, refl, true, false, List, [], ℕ, ◌+◌, ◌-◌, ◌*◌, ◌≤◌, ◌<◌, leb, length}
use Rattle.std.proofs.Common.{sym, ap, ◌∙◌, ⊎_elim, add-zero, arith}
use Rattle.std.proofs.Math.Bool.{and-false}
use borrow.Author.Tests.{le-leb, lt-leb, leb-true}
use Rattle.base.specs.Pick.{coincide, pick, pick_both, and_both, decide, tests}
use Rattle.base.specs.Over.{over_self}
use Rattle.base.specs.Gather.{gather, gather_none, gather_self}
use Rattle.actions.specs.Actions.{Act, write_at}
use Rattle.actions.specs.Laws.{write_none}
use Rattle.slots.specs.declared.Slot.{Slot}
use Rattle.slots.specs.Slots.{no_slot}
use Rattle.window.specs.declared.Window.{Window}
use Rattle.window.specs.declared.Placed.{Placed}
use Rattle.window.specs.Window.{slot_at, sweep}
use Rattle.window.specs.Sweeps.{sweep_acts, swept_acts, swept_window, ranged, Ranged, Swept, SweptIn, Promises, PromisesIn}
use Rattle.window.specs.Laws.{promises_of, promises_many}

-- each test of it that fails, and the last where the others have passed
module _ (from to k room start : ℕ) where
  pub range_turned : to < from → false ≡ ranged from to k room start
  unfolding ranged
  range_turned h = rw (lt-leb from to h)

  pub range_past : 64 < to → false ≡ ranged from to k room start
  unfolding ranged
  range_past h = rw (lt-leb to 64 h, and-false)

  pub range_full : 192 < k + 2 * (to - from) → false ≡ ranged from to k room start
  unfolding ranged
  range_full h = rw (lt-leb (k + 2 * (to - from)) 192 h, and-false, and-false)

  pub range_short : room < 3456 → false ≡ ranged from to k room start
  unfolding ranged
  range_short h = rw (lt-leb 3456 room h, and-false, and-false, and-false)

  pub range_last : from ≤ to → to ≤ 64 → k + 2 * (to - from) ≤ 192 → 3456 ≤ room → leb start 4294967296 ≡ ranged from to k room start
  unfolding ranged
  range_last a b c d = rw (le-leb from to a, le-leb to 64 b, le-leb (k + 2 * (to - from)) 192 c, le-leb 3456 room d)

-- the test as facts
module _ (from to k : ℕ) (room : List ℕ) (start : ℕ) where
  pub ranged_facts : ranged from to k (length room) start ≡ true → Ranged from to k room start
  unfolding ranged
  ranged_facts e =
      let a = and_both (leb from to) _ e in
      let b = and_both (leb to 64) _ a.1 in
      let c = and_both (leb (k + 2 * (to - from)) 192) _ b.1 in
      let d = and_both (leb 3456 (length room)) _ c.1 in
      record {
        ordered = leb-true from to a.0;
        within = leb-true to 64 b.0;
        places = leb-true (k + 2 * (to - from)) 192 c.0;
        long = leb-true 3456 (length room) d.0;
        low = leb-true start 4294967296 d.1;
      }

  pub ranged-true : Ranged from to k room start → ranged from to k (length room) start ≡ true
  ranged-true f =
      sym (range_last from to k (length room) start f.ordered f.within f.places f.long) ∙ le-leb start 4294967296 f.low

module _ (f : ℕ → Slot → Slot) (g : ℕ → Slot → List Act) (from to k start : ℕ) (w : Window) (room : List ℕ) where
  pub unswept : ranged from to k (length room) start ≡ false → SweptIn f g from to k start w room (record { next = k; window = w }) room
  unswept e = record { handed = rw (e, add-zero k); few = omega arith; written = rw (e, write_none room k) }

  module _ (p : Placed) (after : List ℕ) where
    pub Swept-all : ranged from to k (length room) start ≡ true → Swept f g from to k w room p after → SweptIn f g from to k start w room p after
    Swept-all e s = record { handed = rw (e, ← s.next, ← s.window); few = s.few; written = rw e s.written }

-- an empty range does nothing, whether or not it passes the test
module _ (f : ℕ → Slot → Slot) (g : ℕ → Slot → List Act) (j k start : ℕ) (w : Window) (room : List ℕ) where
  pub swept_self : SweptIn f g j j k start w room (record { next = k; window = w }) room
  swept_self =
      let t = ranged j j k (length room) start in
      let a : swept_acts f g j j k start w room ≡ [] = pick_both (λ (x : List Act). x ≡ []) t (gather_self (λ i. g i (slot_at w i)) j) refl in
      let b : swept_window f g j j k start w room ≡ w = pick_both (λ (x : Window). x ≡ w) t (rw (over_self f no_slot j w.slots)) refl in
      record { handed = rw (a, b, add-zero k); few = omega arith; written = rw (a, write_none room k) }

-- any two outcomes that the promise allows coincide, of a sweep and of promises
pub swept_unique : {f : ℕ → Slot → Slot} {g : ℕ → Slot → List Act} {from to k start : ℕ} {w : Window} {room after after' : List ℕ} {p p' : Placed}
    → SweptIn f g from to k start w room p after → SweptIn f g from to k start w room p' after' → (p ≡ p') × (after ≡ after')
swept_unique s t = (coincide s.handed t.handed, coincide s.written t.written)

pub promised_unique : {from to k start ballot n n' : ℕ} {room after after' : List ℕ} → PromisesIn from to k start ballot room n after
    → PromisesIn from to k start ballot room n' after' → (n ≡ n') × (after ≡ after')
promised_unique s t = (coincide s.next t.next, coincide s.written t.written)

-- what a caller knows whose range is one of the window's
pub swept_in : {f : ℕ → Slot → Slot} {g : ℕ → Slot → List Act} {from to k start : ℕ} {w : Window} {room : List ℕ} {p : Placed} {after : List ℕ}
    → SweptIn f g from to k start w room p after → Ranged from to k room start → Swept f g from to k w room p after
swept_in {f} {g} {from} {to} {k} {start} {w} {room} {p} s r =
    let e : ranged from to k (length room) start ≡ true = ranged-true from to k room start r in
    let h : p ≡ record { next = k + length (sweep_acts g from to w); window = sweep f from to w } = rw e at s.handed in
    record { window = ap (λ (x : Placed). x.window) h; next = ap (λ (x : Placed). x.next) h; few = s.few; written = rw e at s.written }

-- promises for a range that fails the test, that passes it, and what a caller knows whose numbers are within their bounds
module _ (start ballot from to k : ℕ) (room : List ℕ) where
  pub unpromised : ranged from to k (length room) start ≡ false → PromisesIn from to k start ballot room k room
  unpromised e = record { next = rw (e, add-zero k); written = rw (e, write_none room k) }

  module _ (n : ℕ) (after : List ℕ) where
    pub promised_all : ranged from to k (length room) start ≡ true → Promises from to k start ballot room n after → PromisesIn from to k start ballot room n after
    promised_all e p = record { next = rw e (omega (arith, p.next, promises_many start ballot from to)); written = rw e p.written }

    -- an empty range needs no test: there is nothing to write
    pub promised_in : PromisesIn from to k start ballot room n after → to ≤ 64 → k + 2 * (to - from) ≤ 192 → 3456 ≤ length room → start ≤ 4294967296
        → Promises from to k start ballot room n after
    promised_in p a b c d =
        ⊎_elim
        (λ (t : leb from to ≡ true).
        made (rw (ranged-true from to k room start (record { ordered = leb-true from to t; within = a; places = b; long = c; low = d }))))
        (λ (t : leb from to ≡ false).
        let h : to < from = omega (arith, tests) in
        made (rw (← range_turned from to k (length room) start h, gather_none (promises_of start ballot) from to (omega arith))))
        (decide (leb from to))
      where
        made : pick (ranged from to k (length room) start) (gather (promises_of start ballot) from to) [] ≡ gather (promises_of start ballot) from to
            → Promises from to k start ballot room n after
        made e =
            let m = promises_many start ballot from to in
            record { next = p.next ∙ ap (λ (x : List Act). k + length x) e ∙ omega arith; written = p.written ∙ ap (write_at room k) e }
