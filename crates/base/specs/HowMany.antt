-- `how_many p from to`: at how many indices of a range a test holds.
use Rattle.std.specs.Prelude.{◌≡◌, refl, Bool, true, false, ℕ, zero, suc, ◌+◌, ◌-◌, ◌≤◌, ◌<◌, leb}
use Rattle.std.proofs.Common.{sym, ap, ⊎_elim, le_refl, eq-or-lt_of_le, add-one, arith, le-leb, leb-true}
use Rattle.std.proofs.lemmas.Bool.{lt-leb}
use Rattle.base.specs.Pick.{pick, one, pick_cases, tests}

pub one_few : (t : Bool) → one t ≤ 1
one_few true = omega arith
one_few false = omega arith

module _ (p : ℕ → Bool) where
  abbrev pub how_many : ℕ → ℕ → ℕ
  how_many from zero = 0
  how_many from (suc j) = pick (leb from j) (how_many from j + one (p j)) (how_many from j)

  pub how_many_none : (from to : ℕ) → to ≤ from → how_many from to ≡ 0
  how_many_none from zero h = refl
  how_many_none from (suc j) h = rw (lt-leb from j h) (how_many_none from j (omega arith))

  -- a turn of a loop that goes up
  pub how_many_more : (from i : ℕ) → from ≤ i → how_many from (i + 1) ≡ how_many from i + one (p i)
  how_many_more from i h = rw (add-one i, le-leb from i h)

  pub how_many_before : (from i : ℕ) → i < from → how_many from (i + 1) ≡ how_many from i
  how_many_before from i h = rw (add-one i, lt-leb from i h)

  pub how_many_few : (from to : ℕ) → how_many from to ≤ to - from
  how_many_few from zero = omega arith
  how_many_few from (suc j) =
      pick_cases (λ (x : ℕ). x ≤ suc j - from) (leb from j)
      (λ t. omega (arith, tests, how_many_few from j, one_few (p j)))
      (λ t. omega (arith, how_many_few from j))

  -- two ranges side by side
  pub how_many_split : (from mid to : ℕ) → from ≤ mid → mid ≤ to → how_many from to ≡ how_many from mid + how_many mid to
  how_many_split from mid zero a b = rw (how_many_none from mid (omega arith))
  how_many_split from mid (suc j) a b =
      ⊎_elim
      (λ (e : mid ≡ suc j).
      let n = how_many_none mid (suc j) (omega arith) in
      let s : how_many from (suc j) ≡ how_many from mid = ap (how_many from) (sym e) in
      rw n (omega (arith, s)))
      (λ (u : mid < suc j).
      let q = how_many_split from mid j a (omega arith) in
      rw (le-leb from j (omega arith), le-leb mid j (omega arith)) (omega (arith, q)))
      (eq-or-lt_of_le b)

  -- it holds nowhere in the range
  pub how_many_nowhere : (from to : ℕ) → ((i : ℕ) → from ≤ i → i < to → p i ≡ false) → how_many from to ≡ 0
  how_many_nowhere from zero h = refl
  how_many_nowhere from (suc j) h =
      pick_cases (λ (x : ℕ). x ≡ 0) (leb from j)
      (λ t. rw (h j (leb-true from j t) (le_refl (suc j))) (omega (arith, how_many_nowhere from j (λ i l u. h i l (omega arith)))))
      (λ t. how_many_nowhere from j (λ i l u. h i l (omega arith)))

-- two tests that agree throughout a range
pub how_many_same : (p q : ℕ → Bool) (from to : ℕ) → ((i : ℕ) → from ≤ i → i < to → p i ≡ q i) → how_many p from to ≡ how_many q from to
how_many_same p q from zero h = refl
how_many_same p q from (suc j) h =
    pick_cases (λ (x : ℕ). x ≡ how_many q from (suc j)) (leb from j)
    (λ t. rw (t, h j (leb-true from j t) (le_refl (suc j)), how_many_same p q from j (λ i l u. h i l (omega arith))))
    (λ t. rw t (how_many_same p q from j (λ i l u. h i l (omega arith))))

-- a test that holds just where one of two others does, and these never both
pub how_many_both : (p q r : ℕ → Bool) (from to : ℕ) → ((i : ℕ) → from ≤ i → i < to → one (p i) ≡ one (q i) + one (r i))
    → how_many p from to ≡ how_many q from to + how_many r from to
how_many_both p q r from zero h = refl
how_many_both p q r from (suc j) h =
    pick_cases (λ (x : ℕ). x ≡ how_many q from (suc j) + how_many r from (suc j)) (leb from j)
    (λ t. rw t (omega (arith, h j (leb-true from j t) (le_refl (suc j)), how_many_both p q r from j (λ i l u. h i l (omega arith)))))
    (λ t. rw t (how_many_both p q r from j (λ i l u. h i l (omega arith))))
