-- The rest of specs/Telling.antt: what stands on a theorem that a must-fail edit makes false.
use Rattle.std.specs.Prelude.{◌≡◌, List, [], false, ◌⊎◌, ℕ, ◌≤◌}
use Rattle.std.proofs.Common.{sym, subst, ◌∙◌, inl, inr}
use Rattle.base.specs.Among.{◌∈◌}
use Rattle.slots.specs.declared.Vote.{Vote}
use Rattle.decide.specs.Scalars.{strict}
use Rattle.replica.specs.declared.Replica.{Replica}
use Rattle.voting.specs.Paper.{Highest}
use Rattle.voting.specs.Windows.{Whole}
use Rattle.voting.specs.History.{Lent, play}
use Rattle.voting.specs.Votes.{vote_of, taken, last_of}
use Rattle.voting.proofs.Votes.{vote_last, vote_largest}
use Rattle.voting.specs.Telling.{last_in}

-- 2.2, phase 1 (b): a base replica's slot's vote is the highest-numbered of the Accepts taken for it, where one was; on any record with a window of 64
-- slots. What it wrote as a leader is none of them: of the strict kind see `strict_votes` (StrictVotes)
pub vote_highest : (r : Replica) (h : List Lent) (s : ℕ) → Whole r.window → strict r.sc ≡ false → r.sc.start ≤ s
    → ((taken r h s ≡ []) × (vote_of (play r h) s ≡ vote_of r s)) ⊎ Highest (taken r h s) (vote_of (play r h) s)
vote_highest r h s w base l = go (last_in (vote_of r s) (taken r h s))
  where
    go : ((taken r h s ≡ []) × (last_of (vote_of r s) (taken r h s) ≡ vote_of r s)) ⊎ (last_of (vote_of r s) (taken r h s) ∈ taken r h s)
        → ((taken r h s ≡ []) × (vote_of (play r h) s ≡ vote_of r s)) ⊎ Highest (taken r h s) (vote_of (play r h) s)
    go (inl e) = inl (e.0, vote_last r h s w base l ∙ e.1)
    go (inr m) = inr (subst (λ (v : Vote). v ∈ taken r h s) (sym (vote_last r h s w base l)) m, vote_largest r h s w base l)
