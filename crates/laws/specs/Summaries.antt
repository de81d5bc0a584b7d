-- 02, Wish 1: "keep it in a small summary, equal to the full walk after every call".
use Rattle.std.specs.Prelude.{◌≡◌, refl, true, ℕ, ◌≤◌, ◌<◌, leb, eqb}
use Rattle.std.proofs.Common.{arith, eq-eqb, eqb-true, leb-true}
use Rattle.base.specs.Pick.{pick_both, and_left, and_both, and_make}
use Rattle.base.specs.Scan.{scan, scan_passed}
use Rattle.decide.specs.Scalars.{may_be}
use Rattle.window.specs.Window.{slot_at, first_open}
use Rattle.window.specs.Summary.{walk}
use Rattle.replica.specs.declared.Replica.{Replica}
use Rattle.replica.specs.Seen.{Made}
use Rattle.replica.specs.Record.{Outcome, new_replica, place}
use Rattle.replica.specs.Fit.{fit, sums, usable}
use Rattle.replica.specs.Durability.{pass_stop}
use Rattle.replica.specs.ActingLaws.{Summed}
use Rattle.replica.specs.Step.{Call, call_prepare, call_prepare_reply, call_accept, call_accept_reply, call_commit_notice, call_timeout, call_logged, call_offer, call_executed, call_open_read, call_read_reply}
use Rattle.laws.specs.Conflict.{Conflicts}

-- ── the test as a fact ──
pub sums-Summed : (r : Replica) → sums r ≡ true → Summed r
sums-Summed r e =
    let b = and_both (eqb r.summary.first (walk r.sc r.window).first) _ e in
    record { first = eqb-true _ _ b.0; accepting = eqb-true _ _ b.1 }

pub Summed-sums : (r : Replica) → Summed r → sums r ≡ true
Summed-sums r s = and_make (eq-eqb _ _ s.first) (eq-eqb _ _ s.accepting)

pub usable-fit : (r : Replica) → usable r ≡ true → fit r ≡ true
usable-fit r e = and_left (fit r) (sums r) e

-- ── after every call ──
-- 12 leaves the numbers, the slots and the summary
pub conflict_frame : (r : Replica) (c : Call) (o : Outcome) → Conflicts r c o
    → (o.replica.sc ≡ r.sc) × (o.replica.window ≡ r.window) × (o.replica.summary ≡ r.summary)
conflict_frame r (call_read_reply peer id from_leader reply) o t = (t.sc, t.window, t.summary)
conflict_frame r (call_prepare peer trigger ballot) o t = absurd t
conflict_frame r (call_prepare_reply peer m) o t = absurd t
conflict_frame r (call_accept peer slot ballot b) o t = absurd t
conflict_frame r (call_accept_reply peer slot ballot) o t = absurd t
conflict_frame r (call_commit_notice peer ballot bar) o t = absurd t
conflict_frame r (call_timeout source) o t = absurd t
conflict_frame r (call_logged d) o t = absurd t
conflict_frame r (call_offer b) o t = absurd t
conflict_frame r (call_executed slot) o t = absurd t
conflict_frame r (call_open_read id count keys) o t = absurd t

-- commit_bar passes committed slots alone: none of them is Accepting, so that the count does not change by it
pub passes_committed : (r : Replica) (j : ℕ) → place r.sc r.sc.commit_bar ≤ j → j < pass_stop r → 3 ≤ (slot_at r.window j).status
unfolding pass_stop
passes_committed r j low below =
    leb-true 3 _
    (scan_passed (λ i. leb 3 (slot_at r.window i).status) (place r.sc r.sc.commit_bar) (place r.sc r.sc.accept_bar) j low below)

-- a new replica has it, made or refused: (start, 0), or all zero
pub new_sums : (id group start options : ℕ) → sums (new_replica id group start options).replica ≡ true
unfolding new_replica first_open scan
new_sums id group start options =
    pick_both (λ (m : Made). sums m.replica ≡ true) (may_be id group start options) (and_make (eq-eqb start _ (omega arith)) refl) refl
