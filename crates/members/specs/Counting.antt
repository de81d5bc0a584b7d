-- How many numbers below n pass a test, for any n and any test: the laws of `count`.
use Rattle.std.specs.Prelude.{◌≡◌, refl, Bool, true, false, ◌⊎◌, ℕ, zero, suc, ◌+◌, ◌≤◌, ◌<◌, eqb}
use Rattle.std.proofs.Common.{sym, inl, inr, le_refl, arith, ne_eqb}
use Rattle.base.specs.Pick.{decide, same?, one}
use Rattle.members.specs.Sets.{count}

-- two tests that agree below n count alike
pub count_same : (n : ℕ) (f g : ℕ → Bool) → ((i : ℕ) → i < n → f i ≡ g i) → count n f ≡ count n g
unfolding count
count_same zero f g h = refl
count_same (suc n) f g h = rw (h n (le_refl (suc n)), count_same n f g (λ i l. h i (omega arith)))

-- a test that passes nowhere below n counts none
pub count_none : (n : ℕ) (f : ℕ → Bool) → ((i : ℕ) → i < n → f i ≡ false) → count n f ≡ 0
unfolding count
count_none zero f h = refl
count_none (suc n) f h = rw (h n (le_refl (suc n)), count_none n f (λ i l. h i (omega arith)))

-- a test that passes wherever another does counts no less
pub count_mono : (n : ℕ) (f g : ℕ → Bool) → ((i : ℕ) → i < n → f i ≡ true → g i ≡ true) → count n f ≤ count n g
unfolding count
count_mono zero f g h = le_refl 0
count_mono (suc n) f g h = go (decide (f n)) (count_mono n f g (λ i l. h i (omega arith)))
  where
    go : (f n ≡ true) ⊎ (f n ≡ false) → count n f ≤ count n g → count n f + one (f n) ≤ count n g + one (g n)
    go (inl e) ih = rw (e, h n (le_refl (suc n)) e) (omega arith)
    go (inr e) ih = rw e (omega arith)

-- no test counts more than n
pub count_most : (n : ℕ) (f : ℕ → Bool) → count n f ≤ n
unfolding count
count_most zero f = le_refl 0
count_most (suc n) f = go (f n) (count_most n f)
  where
    go : (t : Bool) → count n f ≤ n → count n f + one t ≤ suc n
    go true ih = omega arith
    go false ih = omega arith

-- a test that passes nowhere from n on counts the same up to any end past n
pub count_cut : (n m : ℕ) (f : ℕ → Bool) → n ≤ m → ((i : ℕ) → n ≤ i → f i ≡ false) → count m f ≡ count n f
unfolding count
count_cut n zero f l h = let e : n ≡ 0 = omega arith in rw e
count_cut n (suc m) f l h = go (same? n (suc m)) (λ (q : n ≤ m). count_cut n m f q h)
  where
    go : (n ≡ suc m) ⊎ (n ≡ suc m → ⊥) → (n ≤ m → count m f ≡ count n f) → count m f + one (f m) ≡ count n f
    go (inl e) ih = rw e
    go (inr e) ih = rw (h m (omega arith)) (omega (arith, ih (omega arith)))

-- a test that passes at one place more counts one more
pub count_put : (n i : ℕ) (f g : ℕ → Bool) → i < n → f i ≡ true → g i ≡ false → ((j : ℕ) → j < n → eqb j i ≡ false → f j ≡ g j) → count n f ≡ count n g + 1
unfolding count
count_put zero i f g l p q h = elim l [ ]
count_put (suc n) i f g l p q h = go (same? i n) (λ (u : i < n). count_put n i f g u p q (λ j v. h j (omega arith)))
  where
    go : (i ≡ n) ⊎ (i ≡ n → ⊥) → (i < n → count n f ≡ count n g + 1) → count n f + one (f n) ≡ (count n g + one (g n)) + 1
    go (inl e) ih =
        let same = count_same i f g (λ j v. h j (omega arith) (ne_eqb j i (λ z. omega arith))) in
        rw (← e, p, q) (omega arith)
    go (inr e) ih = rw (h n (le_refl (suc n)) (ne_eqb n i (λ z. e (sym z)))) (omega (arith, ih (omega arith)))

-- two tests that together count more than n pass at one place
pub overlap : (n : ℕ) (f g : ℕ → Bool) → n < count n f + count n g → (i : ℕ) × (i < n) × (f i ≡ true) × (g i ≡ true)
unfolding count
overlap zero f g h = absurd (omega arith)
overlap (suc n) f g h = go (f n) (g n) refl refl h (overlap n f g)
  where
    up : (i : ℕ) × (i < n) × (f i ≡ true) × (g i ≡ true) → (i : ℕ) × (i < suc n) × (f i ≡ true) × (g i ≡ true)
    up (i, l, p, q) = (i, omega arith, p, q)

    go : (a b : Bool) → f n ≡ a → g n ≡ b → suc n < (count n f + one a) + (count n g + one b)
        → (n < count n f + count n g → (i : ℕ) × (i < n) × (f i ≡ true) × (g i ≡ true)) → (i : ℕ) × (i < suc n) × (f i ≡ true) × (g i ≡ true)
    go true true p q h ih = (n, le_refl (suc n), p, q)
    go true false p q h ih = up (ih (omega arith))
    go false true p q h ih = up (ih (omega arith))
    go false false p q h ih = up (ih (omega arith))
