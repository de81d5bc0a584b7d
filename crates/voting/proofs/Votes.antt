-- The rest of specs/Votes.antt: what stands on a theorem that a must-fail edit makes false.
use Rattle.std.specs.Prelude.{◌≡◌, refl, false, List, [], ◌∷◌, ℕ, ◌-◌, ◌≤◌}
use Rattle.std.proofs.Common.{sym, ap, subst, ◌∙◌, le_refl, arith}
use Rattle.base.specs.Among.{All, All-append, All-map}
use Rattle.slots.specs.declared.Vote.{Vote}
use Rattle.decide.specs.Scalars.{strict}
use Rattle.window.specs.ByPlace.{at_place}
use Rattle.replica.specs.declared.Replica.{Replica}
use Rattle.voting.specs.Windows.{Whole}
use Rattle.voting.specs.History.{Lent, told, play}
use Rattle.voting.specs.Promises.{step_core}
use Rattle.voting.specs.Wholes.{Whole-step}
use Rattle.voting.specs.Votes.{All-with, IsBetween, last_append, last_of, last_of-All, later, still_base, taken, takes, takes_held, takes_largest, vote_call, vote_of}

-- on any record whose window has 64 slots: a call changes a slot's vote only where it is an Accept for it that acts, and then to its own
pub vote_step : (r : Replica) (c : Lent) (s : ℕ) → Whole r.window → strict r.sc ≡ false → r.sc.start ≤ s → vote_of (told r c).replica s ≡ last_of (vote_of r s) (takes r c s)
vote_step r c s h base l = ap (λ (x : ℕ). (at_place (told r c).replica.window (s - x)).vote) (step_core r c).start ∙ vote_call r c.room c.call s h base l

-- 2.2: over any history from any record with a window of 64 slots, a slot's vote is that of the last Accept taken for it
pub vote_last : (r : Replica) (h : List Lent) (s : ℕ) → Whole r.window → strict r.sc ≡ false → r.sc.start ≤ s → vote_of (play r h) s ≡ last_of (vote_of r s) (taken r h s)
vote_last r [] s g base l = refl
vote_last r (c ∷ h) s g base l =
    vote_last (told r c).replica h s (Whole-step r c g) (still_base r c base) (later r c s l)
    ∙ ap (λ (v : Vote). last_of v (taken (told r c).replica h s)) (vote_step r c s g base l)
    ∙ sym (last_append (vote_of r s) (takes r c s) (taken (told r c).replica h s))

-- everything taken in a history is not below what was seen before it
pub taken_above : (r : Replica) (h : List Lent) (s : ℕ) → All (λ (v : Vote). r.sc.bal_max_seen ≤ v.ballot) (taken r h s)
taken_above r [] s = tt
taken_above r (c ∷ h) s =
    All-append (λ (v : Vote). r.sc.bal_max_seen ≤ v.ballot) (takes r c s) (taken (told r c).replica h s)
    (All-map (IsBetween r (told r c).replica) (λ (v : Vote). r.sc.bal_max_seen ≤ v.ballot) (λ v p. p.0) (takes r c s) (takes_largest r c.room c.call s))
    (All-map (λ (v : Vote). (told r c).replica.sc.bal_max_seen ≤ v.ballot) (λ (v : Vote). r.sc.bal_max_seen ≤ v.ballot)
    (λ v p. omega (arith, (step_core r c).seen)) (taken (told r c).replica h s) (taken_above (told r c).replica h s))

-- 2.2: and its ballot is the largest of all that were taken for it
pub vote_largest : (r : Replica) (h : List Lent) (s : ℕ) → Whole r.window → strict r.sc ≡ false → r.sc.start ≤ s
    → All (λ (v : Vote). v.ballot ≤ (vote_of (play r h) s).ballot) (taken r h s)
vote_largest r [] s g base l = tt
vote_largest r (c ∷ h) s g base l =
    All-append (λ (v : Vote). v.ballot ≤ (vote_of (play r (c ∷ h)) s).ballot) (takes r c s) (taken (told r c).replica h s)
    (All-with (IsBetween r (told r c).replica) (λ (v : Vote). vote_of (told r c).replica s ≡ v) (λ (v : Vote). v.ballot ≤ (vote_of (play r (c ∷ h)) s).ballot) first (takes r c s)
    (takes_largest r c.room c.call s)
    (takes_held r c.room c.call s (vote_of (told r c).replica s) (vote_step r c s g base l)))
    (vote_largest (told r c).replica h s (Whole-step r c g) (still_base r c base) (later r c s l))
  where
    first : (v : Vote) → IsBetween r (told r c).replica v → vote_of (told r c).replica s ≡ v → v.ballot ≤ (vote_of (play r (c ∷ h)) s).ballot
    first v b e =
        subst (λ (x : Vote). v.ballot ≤ x.ballot) (sym (vote_last (told r c).replica h s (Whole-step r c g) (still_base r c base) (later r c s l)))
        (last_of-All (λ (x : Vote). v.ballot ≤ x.ballot) (vote_of (told r c).replica s) (taken (told r c).replica h s)
        (subst (λ (x : Vote). v.ballot ≤ x.ballot) (sym e) (le_refl v.ballot))
        (All-map (λ (x : Vote). (told r c).replica.sc.bal_max_seen ≤ x.ballot) (λ (x : Vote). v.ballot ≤ x.ballot) (λ x p. let z = b.1 in omega arith) (taken (told r c).replica h s)
        (taken_above (told r c).replica h s)))
