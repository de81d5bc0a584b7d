-- Laws of sums of words.
use Rattle.std.specs.Prelude.{◌≡◌, ℕ, zero, suc, ◌+◌, ◌*◌, ◌%◌, ◌^◌, ◌<◌, ◌≤◌, true, false, ◌⊎◌, List, length, ◌==◌, nat_le, nat_lt}
use Rattle.std.proofs.Math.Path.{refl}
use Rattle.std.proofs.Common.{sym, ◌∙◌, inl, inr, add-one, arith, le-leb}
use Rattle.std.proofs.lemmas.Bool.{lt-leb}
use Rattle.base.specs.Pick.{pick, pick_cases, decide, tests}
use Rattle.words.specs.Little.{number_at, bytes_of}
use Rattle.words.specs.LittleLaws.{number_put, number_elsewhere}
use Rattle.words.specs.Put.{put}
use Rattle.words.specs.PutLaws.{length_put}
use Rattle.words.specs.Sums.{total, sum_of}

module _ (l : List ℕ) (at n out : ℕ) where
  pub sum_here : at + 4 * n ≤ length l → sum_of l at n out ≡ total l at out n % 2 ^ 32
  unfolding sum_of
  sum_here h = rw (le-leb (at + 4 * n) (length l) h)

  pub sum_past : length l < at + 4 * n → sum_of l at n out ≡ 0
  unfolding sum_of
  sum_past h = rw (lt-leb (at + 4 * n) (length l) h)

  -- a sum is below 2^32
  pub sum_below : sum_of l at n out < 2 ^ 32
  unfolding sum_of
  sum_below = pick_cases (λ (x : ℕ). x < 2 ^ 32) (nat_le (at + 4 * n) (length l)) (λ t. omega arith) (λ t. omega arith)

-- a turn of the loop that adds a word
pub sum_turn : (l : List ℕ) (at out i s w : ℕ) → s ≡ total l at out i % 2 ^ 32 → w ≡ pick (i == out) 0 (number_at 4 l (at + 4 * i))
    → (s + w) % 2 ^ 32 ≡ total l at out (i + 1) % 2 ^ 32
unfolding total
sum_turn l at out i s w e f = rw (add-one i, ← f) (omega arith)

-- ── the sum written into the word that it leaves out ──

module _ (l : List ℕ) (at out v : ℕ) (h : at + 4 * out + 4 ≤ length l) where
  -- a word that is not left out is as it was
  word_kept : (i : ℕ) → pick (i == out) 0 (number_at 4 (put l (at + 4 * out) (bytes_of 4 v)) (at + 4 * i)) ≡ pick (i == out) 0 (number_at 4 l (at + 4 * i))
  word_kept i = go (decide (i == out)) (decide (nat_lt i out))
    where
      go : ((i == out) ≡ true) ⊎ ((i == out) ≡ false) → (nat_lt i out ≡ true) ⊎ (nat_lt i out ≡ false)
          → pick (i == out) 0 (number_at 4 (put l (at + 4 * out) (bytes_of 4 v)) (at + 4 * i)) ≡ pick (i == out) 0 (number_at 4 l (at + 4 * i))
      go (inl e) q = rw e
      go (inr e) (inl q) = rw (number_elsewhere l (at + 4 * out) 4 v h 4 (at + 4 * i) (inl (omega (arith, tests))))
      go (inr e) (inr q) = rw (number_elsewhere l (at + 4 * out) 4 v h 4 (at + 4 * i) (inr (omega (arith, tests))))

  total-put : (n : ℕ) → total (put l (at + 4 * out) (bytes_of 4 v)) at out n ≡ total l at out n
  unfolding total
  total-put zero = refl
  total-put (suc i) = rw (total-put i, word_kept i)

  -- and so is the sum
  pub sum_put : (n : ℕ) → sum_of (put l (at + 4 * out) (bytes_of 4 v)) at n out ≡ sum_of l at n out
  unfolding sum_of
  sum_put n = rw (length_put l (at + 4 * out) (bytes_of 4 v), total-put n)

-- the sum that was written is the sum of the other words
pub number_at-sum_of : (l : List ℕ) (at n out : ℕ) → at + 4 * out + 4 ≤ length l
    → number_at 4 (put l (at + 4 * out) (bytes_of 4 (sum_of l at n out))) (at + 4 * out) ≡ sum_of (put l (at + 4 * out) (bytes_of 4 (sum_of l at n out))) at n out
number_at-sum_of l at n out h =
    number_put l (at + 4 * out) 4 (sum_of l at n out) h (sum_below l at n out) ∙ sym (sum_put l at out (sum_of l at n out) h n)
