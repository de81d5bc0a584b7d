-- The rest of specs/Core.antt: what stands on a theorem that a must-fail edit makes false.
use Rattle.std.specs.Prelude.{◌≡◌, true, false, ◌⊎◌, ℕ, zero, suc, ◌≤◌, ◌<◌, ltb}
use Rattle.std.proofs.Common.{sym, ◌∙◌, inl, inr, arith, ltb-true, ltb-false}
use Rattle.base.specs.Pick.{decide, same?}
use Rattle.slots.specs.declared.Vote.{Vote}
use Rattle.voting.specs.Paper.{Chosen, AcceptedBelow, majorities_meet}
use Rattle.voting.specs.Core.{Lawful, Obeys, Values, Votes, Vows}

-- ── the argument ──
module _ (group : ℕ) (few : group ≤ 9) (vows : Vows) (lasts stands wrote : Votes) (issued : Vote → Type 0) (law : Lawful group vows lasts stands wrote issued) where
  pub Chosen-issued : (v : Vote) → Chosen group lasts v → issued v
  Chosen-issued v (set, j, h) = let (m, _, a, _) = majorities_meet group set set few j j in law.told m v (law.written m v (law.standing m v (h m a)))

  -- P2b: "If a proposal with value v is chosen, then every higher-numbered proposal issued by any proposer has value v", by induction on its number
  later : (k : ℕ) (v : Vote) → Chosen group lasts v → (p : Vote) → p.ballot < k → issued p → v.ballot ≤ p.ballot → p.batch ≡ v.batch
  later zero v c p l i o = absurd (omega arith)
  later (suc k) v c p l i o = go (same? v.ballot p.ballot) (λ x. later k v c x)
    where
      s : Obeys group vows wrote stands p
      s = law.obeys p i

      -- a member of S has accepted v
      shared : v.ballot < p.ballot → AcceptedBelow stands s.set p.ballot v
      shared u =
          let (by, q, h) = c in
          let (m, _, a, b) = majorities_meet group s.set by few s.most q in
          ((m, a, law.standing m v (h m b)), u)

      go : (v.ballot ≡ p.ballot) ⊎ (v.ballot ≡ p.ballot → ⊥) → ((x : Vote) → x.ballot < k → issued x → v.ballot ≤ x.ballot → x.batch ≡ v.batch) → p.batch ≡ v.batch
      go (inl e) ih = sym (law.one v p (Chosen-issued v c) i e)
      go (inr d) ih = by s.value
        where
          below : v.ballot < p.ballot
          below = omega arith

          by : Values wrote stands s.set p → p.batch ≡ v.batch
          by (inl none) = absurd (none v (shared below))
          by (inr (x, ((m, _, y), u), e, top)) = sym e ∙ ih x (omega arith) (law.told m x y) (top v (shared below))

  -- what is issued at the number of a chosen proposal, or above it, has its value
  pub Chosen-fixes : (v : Vote) → Chosen group lasts v → (p : Vote) → issued p → v.ballot ≤ p.ballot → p.batch ≡ v.batch
  Chosen-fixes v c p = later (suc p.ballot) v c p (omega arith)

  -- P2, and 2.1: "Only a single value is chosen"
  pub Chosen-agree : (v v' : Vote) → Chosen group lasts v → Chosen group lasts v' → v.batch ≡ v'.batch
  Chosen-agree v v' c c' = go (decide (ltb v'.ballot v.ballot))
    where
      go : (ltb v'.ballot v.ballot ≡ true) ⊎ (ltb v'.ballot v.ballot ≡ false) → v.batch ≡ v'.batch
      go (inl e) = Chosen-fixes v' c' v (Chosen-issued v c) (let l : v'.ballot < v.ballot = ltb-true _ _ e in omega arith)
      go (inr e) = sym (Chosen-fixes v c v' (Chosen-issued v' c') (ltb-false _ _ e))
