-- A new strict replica is one of which every call keeps to the strict frame, and a call leaves such a one. What holds of it alone (Sight, `Fine`).
use Rattle.std.specs.Prelude.{◌≡◌, refl, true, ℕ, ◌+◌, ◌-◌, ◌/◌, ◌%◌, ◌≤◌, ◌<◌, ltb, eqb}
use Rattle.std.proofs.Common.{ap, ◌∙◌, arith, ltb-true}
use Rattle.base.specs.Pick.{pick_cases, and_both}
use Rattle.members.specs.Groups.{group_size}
use Rattle.members.specs.Laws.{group_bounds}
use Rattle.slots.specs.declared.Slot.{Slot}
use Rattle.slots.specs.Slots.{null_slot}
use Rattle.decide.specs.Scalars.{strict, may_be}
use Rattle.window.specs.declared.Window.{Window}
use Rattle.window.specs.ByPlace.{at_place, at_past}
use Rattle.replica.specs.declared.Replica.{Replica}
use Rattle.replica.specs.Seen.{Made}
use Rattle.replica.specs.Record.{new_replica, fresh, zero_replica}
use Rattle.replica.specs.Fit.{fit}
use Rattle.replica.specs.Step.{Call, step}
use Rattle.laws.specs.OfFit.{fit_facts, fresh_fits}
use Rattle.laws.specs.Theorems.{fit_stays}
use Rattle.laws.proofs.Theorems.{kind_stays}
use Rattle.voting.specs.Reached.{Good-step, good_new}
use Rattle.agreement.specs.BySlot.{numbered, numbered_place, by_place}
use Rattle.agreement.specs.Good.{GoodReplica}
use Rattle.agreement.specs.Calls.{step-Ok}
use Rattle.agreement.specs.Group.{fresh_good}
use Rattle.safety.specs.Sight.{sight_of, Fine, Able}

-- ── a call ──
pub Able-step : (r : Replica) (room : ℕ) (c : Call) → Able r → Able (step r room c).replica
Able-step r room c a =
    record {
      good = (step-Ok r room c a.good).good;
      reached = Good-step r (record { room = room; call = c }) a.reached;
      fits = fit_stays r room c a.fits;
      kind = kind_stays r room c ∙ a.kind;
    }

-- ── a new replica ──
-- what `GoodReplica` and the fit test ask of it
made : (id size start options : ℕ) → (new_replica id size start options).answer ≡ 0
    → GoodReplica (new_replica id size start options).replica × (fit (new_replica id size start options).replica ≡ true)
    × ((new_replica id size start options).replica ≡ fresh id size start options)
unfolding new_replica
made id size start options =
    pick_cases (λ (z : Made). z.answer ≡ 0 → GoodReplica z.replica × (fit z.replica ≡ true) × (z.replica ≡ fresh id size start options)) (may_be id size start options)
    {a = record { answer = 0; replica = fresh id size start options }}
    {b = record { answer = 10; replica = zero_replica }}
    (λ t e.
    let a = and_both (group_size size) _ t in
    let b = group_bounds size a.0 in
    let c = ltb-true id size (and_both (ltb id size) _ a.1).0 in
    (fresh_good id size start options (omega arith), fresh_fits id size start options t, refl))
    (λ t e. absurd (omega arith))

pub Able-new : (id size start options : ℕ) → (new_replica id size start options).answer ≡ 0 → eqb (options / 4 % 2) 1 ≡ true
    → Able (new_replica id size start options).replica
Able-new id size start options e k =
    let m = made id size start options e in
    record {
      good = m.0;
      reached = good_new id size start options e;
      fits = m.1;
      kind = ap (λ (r : Replica). strict r.sc) m.2 ∙ k;
    }

-- ── slots by number ──
-- what holds of a null slot, and of each place, holds of every number
pub every_slot : (P : Slot → Type 0) (start : ℕ) (w : Window) → P null_slot → ((i : ℕ) → P (at_place w i)) → (s : ℕ) → P (numbered start w s)
every_slot P start w n h s = by_place (λ (s : ℕ) (x y : Slot). P y) start w w (λ s. n) h s

-- past the log's end
pub numbered_past : (start : ℕ) (w : Window) (s : ℕ) → start + w.len ≤ s → numbered start w s ≡ null_slot
numbered_past start w s l = numbered_place start w s (omega arith) ∙ at_past w (s - start) (omega arith)

-- ── what holds of it alone ──
pub Fine-of : (r : Replica) → Able r → Fine (sight_of r)
Fine-of r a =
    record {
      sent = a.good.sent;
      own = a.good.own;
      low = every_slot (λ (x : Slot). x.ballot ≤ r.sc.bal_max_seen) r.sc.start r.window (omega arith) (λ i. (a.good.each i).under);
      busy = λ l.
          every_slot (λ (x : Slot). 1 ≤ x.status → x.status < 3 → x.ballot ≡ r.sc.bal_max_seen) r.sc.start r.window (λ u _. absurd (omega arith))
          (λ i. (a.good.each i).busy l);
      past = numbered_past r.sc.start r.window;
      within = (fit_facts r a.fits).numbers.log;
      member = (fit_facts r a.fits).numbers.member;
      few = (group_bounds r.sc.group (fit_facts r a.fits).numbers.size).1;
    }
