-- Searches of a range of indices: whether a test holds somewhere in it (`any`), and the last index below `to` at which it holds (`last`).
use Rattle.std.specs.Prelude.{◌≡◌, refl, Bool, true, false, not, ℕ, zero, suc, ◌+◌, ◌≤◌, ◌<◌, leb}
use Rattle.std.proofs.Common.{sym, ap, ◌∙◌, true≢false, ⊎_elim, le_refl, eq-or-lt_of_le, add-one, arith, le-leb, leb-true}
use Rattle.std.proofs.lemmas.Bool.{not-true, not-false, lt-leb}
use Rattle.base.specs.Pick.{pick, pick_same, pick_cases, clash}

not_true_is : (t : Bool) → (t ≡ true → ⊥) → t ≡ false
not_true_is true h = elim (h refl) [ ]
not_true_is false h = refl

pub twice : (t : Bool) → t ≡ not (not t)
twice true = refl
twice false = refl

module _ (p : ℕ → Bool) where
  abbrev pub any : ℕ → ℕ → Bool
  any from zero = false
  any from (suc j) = pick (leb from j) (pick (p j) true (any from j)) (any from j)

  pub any_none : (from to : ℕ) → to ≤ from → any from to ≡ false
  any_none from zero h = refl
  any_none from (suc j) h = rw (lt-leb from j h) (any_none from j (omega arith))

  pub any_self : (i : ℕ) → any i i ≡ false
  any_self i = any_none i i (le_refl i)

  -- a turn that does not find it
  pub any_more : (from i : ℕ) → from ≤ i → any from i ≡ false → p i ≡ false → any from (i + 1) ≡ false
  any_more from i h e f = rw (add-one i, le-leb from i h, f, e)

  -- a turn that does
  pub any_found : (from i to : ℕ) → from ≤ i → i < to → p i ≡ true → any from to ≡ true
  any_found from i zero h q f = elim q [ ]
  any_found from i (suc j) h q f =
      rw (le-leb from j (omega arith))
      (⊎_elim
      (λ (e : i ≡ j). rw (rw e at f))
      (λ (u : i < j). rw (any_found from i j h u f) (pick_same (p j) true))
      (eq-or-lt_of_le (omega arith)))

  -- what a search that found nothing says of each index
  pub any-false : (from to i : ℕ) → any from to ≡ false → from ≤ i → i < to → p i ≡ false
  any-false from to i e h q = not_true_is (p i) (λ t. true≢false (sym (any_found from i to h q t) ∙ e))

  -- a search for something unfit: a turn that finds it, one that does not, and the end
  pub search_found : (i to : ℕ) (b : Bool) → i < to → b ≡ not (p i) → not b ≡ true → false ≡ not (any 0 to)
  search_found i to b l e h = sym (ap not (any_found 0 i to (omega arith) l (flipped (p i) b e h)))
    where
      flipped : (x y : Bool) → y ≡ not x → not y ≡ true → x ≡ true
      flipped true y e h = refl
      flipped false y e h = absurd (clash e (not-true y h))

  pub search_more : (i : ℕ) (b : Bool) → any 0 i ≡ false → b ≡ not (p i) → not b ≡ false → any 0 (i + 1) ≡ false
  search_more i b e f h = any_more 0 i (omega arith) e (flipped (p i) b f h)
    where
      flipped : (x y : Bool) → y ≡ not x → not y ≡ false → x ≡ false
      flipped true y e h = absurd (clash (not-false y h) e)
      flipped false y e h = refl

  pub search_done : (i to : ℕ) → any 0 i ≡ false → i ≡ to → true ≡ not (any 0 to)
  search_done i to e h = sym (ap not (rw h at e))

  -- the last index below `to` at which the test holds, `other` where there is none
  abbrev pub last : ℕ → ℕ → ℕ
  last other zero = other
  last other (suc j) = pick (p j) j (last other j)

  -- a turn of a loop that goes up
  pub last_more : (other i : ℕ) → last other (i + 1) ≡ pick (p i) i (last other i)
  last_more other i = rw (add-one i)

  -- it is below `to` or the other
  pub last_below : (other to k : ℕ) → other < k → to ≤ k → last other to < k
  last_below other zero k h q = h
  last_below other (suc j) k h q = pick_cases (λ (x : ℕ). x < k) (p j) (λ t. q) (λ t. last_below other j k h (omega arith))

  -- no index past it and below `to` passes the test
  pub last_past : (other to i : ℕ) → last other to < i → i < to → p i ≡ false
  last_past other zero i h q = elim q [ ]
  last_past other (suc j) i h q =
      pick_cases (λ (x : ℕ). x < i → p i ≡ false) (p j)
      (λ t h'. absurd (omega arith))
      (λ t h'. ⊎_elim (λ (e : i ≡ j). rw e t) (λ (u : i < j). last_past other j i h' u) (eq-or-lt_of_le (omega arith)))
      h

-- a test that fails throughout a range
pub any_nowhere : (p : ℕ → Bool) (from to : ℕ) → ((i : ℕ) → from ≤ i → i < to → p i ≡ false) → any p from to ≡ false
any_nowhere p from zero h = refl
any_nowhere p from (suc j) h =
    pick_cases (λ (x : Bool). x ≡ false) (leb from j)
    (λ t. rw (h j (leb-true from j t) (le_refl (suc j))) (any_nowhere p from j (λ i l u. h i l (omega arith))))
    (λ t. any_nowhere p from j (λ i l u. h i l (omega arith)))
