-- `scan p i end`: the first index from i up to and without `end` at which a test fails, or `end`: where a loop that stops early stops.
use Rattle.std.specs.Prelude.{◌≡◌, Bool, true, false, ◌&&◌, ltb, leb, eqb}
use Rattle.std.proofs.Common.{sym, ap, ⊎_elim, le_refl, eq-or-lt_of_le, add-one, eq-eqb}
use Prim.Native.Nat.{ℕ, zero, suc, ◌+◌, ◌-◌, ◌≤◌, ◌<◌}
use native.Mathlib.Omega.{arith}
use Rattle.base.specs.Pick.{pick, pick_cases, and_both, clash, decide, tests}

module _ (p : ℕ → Bool) where
  abbrev pub scan_for : ℕ → ℕ → ℕ
  scan_for zero i = i
  scan_for (suc k) i = pick (p i) (scan_for k (suc i)) i

  unfoldable pub scan : ℕ → ℕ → ℕ
  scan i end = scan_for (end - i) i

  -- a turn that goes on, and the two ways out of the loop
  pub scan_on : (i end : ℕ) → i < end → p i ≡ true → scan i end ≡ scan (i + 1) end
  unfolding scan
  scan_on i end h t =
      let e : end - i ≡ suc (end - (i + 1)) = omega arith in
      rw (e, t) (ap (scan_for (end - (i + 1))) (sym (add-one i)))

  pub scan_stop : (i end : ℕ) → i < end → p i ≡ false → scan i end ≡ i
  unfolding scan
  scan_stop i end h t =
      let e : end - i ≡ suc (end - (i + 1)) = omega arith in
      rw (e, t)

  pub scan_end : (i end : ℕ) → end ≤ i → scan i end ≡ i
  unfolding scan
  scan_end i end h = let e : end - i ≡ 0 = omega arith in rw e

  scan_for_low : (k i : ℕ) → i ≤ scan_for k i
  scan_for_low zero i = le_refl i
  scan_for_low (suc k) i = pick_cases (λ (x : ℕ). i ≤ x) (p i) (λ t. omega (arith, scan_for_low k (suc i))) (λ t. le_refl i)

  scan_for_high : (k i : ℕ) → scan_for k i ≤ i + k
  scan_for_high zero i = omega arith
  scan_for_high (suc k) i = pick_cases (λ (x : ℕ). x ≤ i + suc k) (p i) (λ t. omega (arith, scan_for_high k (suc i))) (λ t. omega arith)

  scan_for_passed : (k i j : ℕ) → i ≤ j → j < scan_for k i → p j ≡ true
  scan_for_passed zero i j h q = absurd (omega arith)
  scan_for_passed (suc k) i j h q =
      pick_cases (λ (x : ℕ). j < x → p j ≡ true) (p i)
      (λ t q'. ⊎_elim (λ (e : i ≡ j). rw (← e) t) (λ (u : i < j). scan_for_passed k (suc i) j u q') (eq-or-lt_of_le h))
      (λ t q'. absurd (omega arith))
      q

  scan_for_stopped : (k i : ℕ) → scan_for k i < i + k → p (scan_for k i) ≡ false
  scan_for_stopped zero i q = absurd (omega arith)
  scan_for_stopped (suc k) i q =
      pick_cases (λ (x : ℕ). x < i + suc k → p x ≡ false) (p i) (λ t q'. scan_for_stopped k (suc i) (omega arith)) (λ t q'. t) q

  -- it lies in the range, each index before it passed the test, and it did not where it is below the end
  pub scan_low : (i end : ℕ) → i ≤ scan i end
  unfolding scan
  scan_low i end = scan_for_low (end - i) i

  pub scan_high : (i end : ℕ) → i ≤ end → scan i end ≤ end
  unfolding scan
  scan_high i end h = omega (arith, scan_for_high (end - i) i)

  -- also where the range is empty
  pub scan_below : (i end k : ℕ) → i ≤ k → end ≤ k → scan i end ≤ k
  scan_below i end k a b =
      ⊎_elim
      (λ (t : leb i end ≡ true). omega (arith, scan_high i end (omega (arith, tests))))
      (λ (t : leb i end ≡ false). omega (arith, scan_end i end (omega (arith, tests))))
      (decide (leb i end))

  pub scan_passed : (i end j : ℕ) → i ≤ j → j < scan i end → p j ≡ true
  unfolding scan
  scan_passed i end j h q = scan_for_passed (end - i) i j h q

  pub scan_stopped : (i end : ℕ) → scan i end < end → p (scan i end) ≡ false
  unfolding scan
  scan_stopped i end q = scan_for_stopped (end - i) i (omega (arith, scan_for_low (end - i) i))

  -- the one index with these properties
  pub scan_is : (i end k : ℕ) → i ≤ k → k ≤ end → ((j : ℕ) → i ≤ j → j < k → p j ≡ true) → (k < end → p k ≡ false) → scan i end ≡ k
  scan_is i end k a b passed stopped =
      ⊎_elim
      (λ (t : ltb (scan i end) k ≡ true).
      let l : scan i end < k = omega (arith, tests) in
      absurd (clash (passed (scan i end) (scan_low i end) l) (scan_stopped i end (omega arith))))
      (λ (t : ltb (scan i end) k ≡ false).
      ⊎_elim
      (λ (e : k ≡ scan i end). sym e)
      (λ (u : k < scan i end).
      absurd (clash (scan_passed i end k a u) (stopped (omega (arith, scan_high i end (omega arith))))))
      (eq-or-lt_of_le (omega (arith, tests))))
      (decide (ltb (scan i end) k))

  -- a turn of a loop that goes up and notes where the test first fails
  pub scan_more : (i : ℕ) → scan 0 (i + 1) ≡ pick (eqb (scan 0 i) i && p i) (i + 1) (scan 0 i)
  scan_more i = pick_cases (λ (x : ℕ). scan 0 (i + 1) ≡ x) (eqb (scan 0 i) i && p i) all some
    where
      high : scan 0 i ≤ i
      high = scan_high 0 i (omega arith)

      all : (eqb (scan 0 i) i && p i) ≡ true → scan 0 (i + 1) ≡ i + 1
      all t =
          let b = and_both (eqb (scan 0 i) i) (p i) t in
          scan_is 0 (i + 1) (i + 1) (omega arith) (omega arith)
          (λ j l u.
          ⊎_elim (λ (e : j ≡ i). rw e b.1) (λ (v : j < i). scan_passed 0 i j l (omega (arith, tests, b.0))) (eq-or-lt_of_le (omega arith)))
          (λ z. absurd (omega arith))

      some : (eqb (scan 0 i) i && p i) ≡ false → scan 0 (i + 1) ≡ scan 0 i
      some t =
          scan_is 0 (i + 1) (scan 0 i) (omega arith) (omega (arith, high)) (λ j l u. scan_passed 0 i j l u)
          (λ z.
          ⊎_elim
          (λ (e : scan 0 i ≡ i). rw e (rw (eq-eqb (scan 0 i) i e) at t))
          (λ (u : scan 0 i < i). scan_stopped 0 i u)
          (eq-or-lt_of_le high))
