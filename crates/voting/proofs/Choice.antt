-- The rest of specs/Choice.antt: what stands on a theorem that a must-fail edit makes false.
use Rattle.std.specs.Prelude.{◌≡◌, refl, List, [], ◌∷◌, ℕ, ◌-◌, ◌≤◌}
use Rattle.std.proofs.Common.{sym, ap, subst, ◌∙◌, arith}
use Rattle.slots.specs.declared.Vote.{Vote}
use Rattle.window.specs.ByPlace.{at_place}
use Rattle.replica.specs.declared.Replica.{Replica}
use Rattle.voting.specs.Paper.{Choice}
use Rattle.voting.specs.History.{Lent, told, play}
use Rattle.voting.specs.Promises.{step_core}
use Rattle.voting.specs.Reached.{Good, Good-step}
use Rattle.voting.specs.Heard.{held_by, held_at, best, heard, heard_in, Steady, Reign, best-append}
use Rattle.voting.proofs.Heard.{best-Choice}
use Rattle.voting.proofs.Held.{held_call}
use Rattle.voting.specs.Choice.{heard_all}

-- while self leads at one ballot, what a slot holds changes only by replies that arrive for it, to the largest
pub held_step : (r : Replica) (c : Lent) (s : ℕ) → Good r.sc r.window → r.sc.start ≤ s → Steady r c s → held_at (told r c).replica s ≡ best (held_at r s) (heard r c s)
held_step r c s g st k =
    ap (λ (x : ℕ). held_by (at_place (told r c).replica.window (s - x))) (step_core r c).start
    ∙ held_call r c.room c.call s g st k.leading k.leads_on k.same k.here

pub held_play : (r : Replica) (h : List Lent) (s : ℕ) → Good r.sc r.window → r.sc.start ≤ s → Reign r h s → held_at (play r h) s ≡ best (held_at r s) (heard_in r h s)
held_play r [] s g st k = refl
held_play r (c ∷ h) s g st k =
    held_play (told r c).replica h s (Good-step r c g) (omega (arith, (step_core r c).start)) k.1
    ∙ ap (λ (v : Vote). best v (heard_in (told r c).replica h s)) (held_step r c s g st k.0)
    ∙ sym (best-append (held_at r s) (heard r c s) (heard_in (told r c).replica h s))

-- 2.2, phase 2 (a): a slot of which nothing was heard yet at this ballot, and any history through which self leads at it: what the slot holds
-- at its end is the paper's choice among the votes heard, and what the slot held at its start where none was
pub choice : (r : Replica) (h : List Lent) (s : ℕ) → Good r.sc r.window → r.sc.start ≤ s → (held_at r s).ballot ≡ 0 → Reign r h s
    → Choice (held_at r s).batch (heard_in r h s) (held_at (play r h) s).batch
choice r h s g st z k =
    subst (λ (v : Vote). Choice (held_at r s).batch (heard_in r h s) v.batch) (sym (held_play r h s g st k)) (best-Choice (held_at r s) (heard_in r h s) z (heard_all r h s))
