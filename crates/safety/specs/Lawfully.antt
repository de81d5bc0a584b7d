-- A scene in which each member is as it is alone, and each accept entry stands with the owner of its ballot: its votes are of proposals that were issued, and
-- "different proposals have different numbers". Where they obey P2c, too, the paper's argument holds of it (voting, `Core`).
use Rattle.std.specs.Prelude.{◌≡◌, Bool, true, false, List, [], ◌⊎◌, ℕ}
use Rattle.std.proofs.Common.{sym, subst, inl, inr, arith}
use mathlib.Core.List.Memᴰ
use Rattle.base.specs.Pick.{decide}
use Rattle.base.specs.Among.{◌∈◌}
use Rattle.actions.specs.Actions.{Act}
use Rattle.slots.specs.declared.Vote.{Vote}
use Rattle.voting.specs.Core.{Obeys, Lawful}
use Rattle.voting.specs.StrictVotes.{entry_of}
use Rattle.agreement.specs.Theorem.{accept_entry}
use Rattle.safety.specs.Scene.{Scene, HasPromised, Cast, Voted, Lasts, Issued}
use Rattle.safety.specs.Alone.{Alone}

module _ (present : ℕ → Bool) (g : Scene) (alone : (m : ℕ) → present m ≡ true → Alone m (g.sight m) (g.did m) (g.log m) (g.reported m))
    (nothing : (m : ℕ) → present m ≡ false → (g.did m ≡ []) × (g.log m ≡ [])) where
  -- only present members do anything
  pub member : (p : ℕ) {a : Act} → a ∈ g.did p → present p ≡ true
  member p {a} m = go (decide (present p))
    where
      go : (present p ≡ true) ⊎ (present p ≡ false) → present p ≡ true
      go (inl e) = e
      go (inr e) = absurd (Memᴰ.not-nil (subst (λ (l : List Act). a ∈ l) (nothing p e).0 m))

  -- what stands in a log was done
  stood : (m : ℕ) {a : Act} → a ∈ g.log m → a ∈ g.did m
  stood m {a} i = go (decide (present m))
    where
      go : (present m ≡ true) ⊎ (present m ≡ false) → a ∈ g.did m
      go (inl p) = (alone m p).local.stands i
      go (inr p) = absurd (Memᴰ.not-nil (subst (λ (l : List Act). a ∈ l) (nothing m p).1 i))

  one_issued : (s : ℕ) (x y : Vote) → Issued g s x → Issued g s y → x.ballot ≡ y.ballot → x.batch ≡ y.batch
  one_issued s x y (p, o, m) (p', o', m') e =
      let w : p' ≡ p = omega arith in
      (alone p (member p m)).local.one s x.ballot x.batch y.batch m
      (subst (λ (j : ℕ). accept_entry s x.ballot y.batch ∈ g.did j) w (subst (λ (b : ℕ). accept_entry s b y.batch ∈ g.did p') (sym e) m')) o

  module _ (from : (m s : ℕ) (x : Vote) → entry_of s x ∈ g.did m → Issued g s x) where
    pub Voted-Issued : (s m : ℕ) (x : Vote) → Voted g s m x → Issued g s x
    Voted-Issued s m x a = from m s x (stood m a)

    pub lawful : (size s : ℕ) → ((x : Vote) → Issued g s x → Obeys size (HasPromised g) (Cast g s) (Voted g s) x)
        → Lawful size (HasPromised g) (Lasts g s) (Voted g s) (Cast g s) (Issued g s)
    lawful size s obeys = record { standing = λ m x y. y.0; written = λ m x y. stood m y; told = λ m x y. from m s x y; one = one_issued s; obeys = obeys }
