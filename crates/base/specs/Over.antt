-- `over f d from to l`: f at each index from `from` up to and without `to`, one after the other: what a loop over a part of an array does.
-- It recurses at the end, so that a turn of the loop, i to i + 1, is one unfolding.
use Rattle.std.specs.Prelude.{◌≡◌, refl, true, false, List, ◌⊎◌, ℕ, zero, suc, ◌+◌, ◌≤◌, ◌<◌, length, get_or, set, leb, ltb}
use Rattle.std.proofs.Common.{ap, ◌∙◌, inl, inr, ⊎_elim, le_refl, eq-or-lt_of_le, add-one, arith, length-set, get_or-set_same, get_or-set_other, le-leb, ltb-true, ltb-false}
use Rattle.std.proofs.Math.ListN.{get_or-eq_default}
use Rattle.std.proofs.Math.Seq.{set_out}
use Rattle.std.proofs.lemmas.Bool.{lt-leb}
use Rattle.base.specs.Pick.{pick, pick_both, pick_cases, decide, same?, tests}

module _ {A : Type 0} (f : ℕ → A → A) (d : A) where
  abbrev pub step_at : ℕ → List A → List A
  step_at i l = set l i (f i (get_or l i d))

  abbrev pub over : ℕ → ℕ → List A → List A
  over from zero l = l
  over from (suc j) l = pick (leb from j) (step_at j (over from j l)) (over from j l)

  -- an empty range
  pub over_none : (from to : ℕ) (l : List A) → to ≤ from → over from to l ≡ l
  over_none from zero l h = refl
  over_none from (suc j) l h = rw (lt-leb from j h) (over_none from j l (omega arith))

  pub over_self : (i : ℕ) (l : List A) → over i i l ≡ l
  over_self i l = over_none i i l (le_refl i)

  -- one more turn of the loop
  pub over_more : (from i : ℕ) (l : List A) → from ≤ i → over from (i + 1) l ≡ step_at i (over from i l)
  over_more from i l h = rw (add-one i, le-leb from i h)

  pub length-over : (from to : ℕ) (l : List A) → length (over from to l) ≡ length l
  length-over from zero l = refl
  length-over from (suc j) l =
      pick_both (λ (x : List A). length x ≡ length l) (leb from j) (length-set (over from j l) j _ ∙ length-over from j l) (length-over from j l)

  -- by index: one that the range does not have keeps its element, and one that it has gets f of it
  pub over_after : (from to : ℕ) (l : List A) (j : ℕ) → to ≤ j → get_or (over from to l) j d ≡ get_or l j d
  over_after from zero l j h = refl
  over_after from (suc i) l j h =
      pick_both (λ (x : List A). get_or x j d ≡ get_or l j d) (leb from i)
      (get_or-set_other (over from i l) i j _ d (λ e. omega arith) ∙ over_after from i l j (omega arith)) (over_after from i l j (omega arith))

  pub over_before : (from to : ℕ) (l : List A) (j : ℕ) → j < from → get_or (over from to l) j d ≡ get_or l j d
  over_before from zero l j h = refl
  over_before from (suc i) l j h =
      pick_cases (λ (x : List A). get_or x j d ≡ get_or l j d) (leb from i)
      (λ t. get_or-set_other (over from i l) i j _ d (λ e. omega (arith, tests)) ∙ over_before from i l j h)
      (λ t. over_before from i l j h)

  pub over_at : (from to : ℕ) (l : List A) (j : ℕ) → from ≤ j → j < to → j < length l → get_or (over from to l) j d ≡ f j (get_or l j d)
  over_at from zero l j h p q = elim p [ ]
  over_at from (suc i) l j h p q =
      rw (le-leb from i (omega arith))
      (⊎_elim
      (λ (e : j ≡ i). rw e (get_or-set_same (over from i l) i _ d (rw length-over (rw e at q)) ∙ ap (f i) (over_after from i l i (le_refl i))))
      (λ (u : j < i). get_or-set_other (over from i l) i j _ d (λ e. omega arith) ∙ over_at from i l j h u q)
      (eq-or-lt_of_le (omega arith)))

-- an element after a store or a sweep, whatever the length of the list
module _ {A : Type 0} (d : A) where
  pub set_each : (P : A → Type 0) (l : List A) (i j : ℕ) (x : A) → (j ≡ i → P x) → P (get_or l j d) → P (get_or (set l i x) j d)
  set_each P l i j x p q = go (same? j i) (decide (ltb i (length l)))
    where
      go : (j ≡ i) ⊎ (j ≡ i → ⊥) → (ltb i (length l) ≡ true) ⊎ (ltb i (length l) ≡ false) → P (get_or (set l i x) j d)
      go (inl e) (inl t) = rw (e, get_or-set_same l i x d (ltb-true _ _ t)) (p e)
      go (inl e) (inr t) = rw (set_out l i x (ltb-false _ _ t)) q
      go (inr n) t = rw (get_or-set_other l i j x d n) q

  module _ (f : ℕ → A → A) where
    -- what an index holds after a sweep: what it held, outside the range; f of it, in it; the default, past the list's end
    pub over_each : (P : A → Type 0) (from to : ℕ) (l : List A) (j : ℕ) → ((from ≤ j → j < to → ⊥) → P (get_or l j d)) → (from ≤ j → j < to → P (f j (get_or l j d)))
        → (length l ≤ j → P d)
        → P (get_or (over f d from to l) j d)
    over_each P from to l j out on past = go (decide (ltb j from)) (decide (ltb j to)) (decide (ltb j (length l)))
      where
        go : (ltb j from ≡ true) ⊎ (ltb j from ≡ false) → (ltb j to ≡ true) ⊎ (ltb j to ≡ false) → (ltb j (length l) ≡ true) ⊎ (ltb j (length l) ≡ false)
            → P (get_or (over f d from to l) j d)
        go (inl a) b c = rw (over_before f d from to l j (ltb-true _ _ a)) (out (λ p q. omega (arith, tests)))
        go (inr a) (inr b) c = rw (over_after f d from to l j (ltb-false _ _ b)) (out (λ p q. omega (arith, tests)))
        go (inr a) (inl b) (inl c) = rw (over_at f d from to l j (ltb-false _ _ a) (ltb-true _ _ b) (ltb-true _ _ c)) (on (ltb-false _ _ a) (ltb-true _ _ b))
        go (inr a) (inl b) (inr c) =
            rw (get_or-eq_default (over f d from to l) d {n = j} (omega (arith, tests, length-over f d from to l))) (past (ltb-false _ _ c))
