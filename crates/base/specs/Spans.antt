-- Searches of a range of places, as searches of the part of a list that stands there: `any`, `scan` and `how_many` by index against the library's words.
use Rattle.std.specs.Prelude.{Some, None, nat_lt, [], ◌∷◌, ◌≡◌, refl, Bool, true, false, not, cond, ◌||◌, List, ℕ, zero, suc, ◌+◌, ◌-◌, ◌≤◌, leb, length, get_or, take, drop}
use Rattle.std.specs.List.{list_any, filter, position, position_or_len}
use Rattle.std.specs.Option.{unwrap_or}
use Rattle.std.proofs.Common.{ap, ◌∙◌, arith, leb-true, length-drop, drop-cons}
use Rattle.std.proofs.lemmas.List.{get_or-drop}
use Rattle.std.proofs.lemmas.List.Folds.{list_any_more}
use Rattle.std.proofs.lemmas.List.Filters.{length-filter_more}
use Rattle.base.specs.Pick.{pick, one, pick_cases, tests}
use Rattle.base.specs.Find.{any, any_none}
use Rattle.base.specs.Scan.{scan_for, scan}
use Rattle.base.specs.HowMany.{how_many, how_many_none}

-- the part of a list from one place up to another
abbrev pub span : {A : Type 0} → ℕ → ℕ → List A → List A
span from to xs = take (to - from) (drop from xs)

or_pick : (a b : Bool) → pick b true a ≡ (a || b)
or_pick true true = refl
or_pick true false = refl
or_pick false true = refl
or_pick false false = refl

one-cond : (b : Bool) → one b ≡ cond b 1 0
one-cond true = refl
one-cond false = refl

-- a turn of a scan from place i, by what the scan of the rest answers
on_or_stop : (t : Bool) (a b i : ℕ) → a ≡ suc i + b → pick t a i ≡ i + cond t (1 + b) 0
on_or_stop true a b i e = omega arith
on_or_stop false a b i e = omega arith

-- what a search answers, or the end
some_or : (t : Bool) (k n : ℕ) → (t ≡ false → n ≡ k) → unwrap_or (cond t (Some k) None) n ≡ k
some_or true k n h = refl
some_or false k n h = h refl

within : (t : Bool) (a n : ℕ) → a ≤ n → cond t (1 + a) 0 ≤ suc n
within true a n h = omega arith
within false a n h = omega arith

module _ {A : Type 0} (p : A → Bool) (d : A) (xs : List A) where
  -- the element that a turn of the loop adds
  span_here : (from j : ℕ) → from ≤ j → get_or (drop from xs) (j - from) d ≡ get_or xs j d
  span_here from j h =
      let at : from + (j - from) ≡ j = omega arith in
      get_or-drop from xs (j - from) d ∙ ap (λ (i : ℕ). get_or xs i d) at

  pub any_span : (from to : ℕ) → to ≤ length xs → any (λ i. p (get_or xs i d)) from to ≡ list_any p (span from to xs)
  any_span from zero h = let e : 0 - from ≡ 0 = omega arith in rw e
  any_span from (suc j) h =
      pick_cases (λ (x : Bool). x ≡ list_any p (span from (suc j) xs)) (leb from j)
      (λ t.
      let l : from ≤ j = leb-true from j t in
      let e : suc j - from ≡ (j - from) + 1 = omega arith in
      rw (e, list_any_more p (drop from xs) (j - from) d (omega (arith, length-drop from xs)), span_here from j l, ← any_span from j (omega arith)) (or_pick (any (λ i. p (get_or xs i d)) from j) (p (get_or xs j d))))
      (λ t.
      let e : suc j - from ≡ 0 = omega (arith, tests) in
      rw (any_none (λ i. p (get_or xs i d)) from j (omega (arith, tests)), e))

  pub how_many_span : (from to : ℕ) → to ≤ length xs → how_many (λ i. p (get_or xs i d)) from to ≡ length (filter p (span from to xs))
  how_many_span from zero h = let e : 0 - from ≡ 0 = omega arith in rw e
  how_many_span from (suc j) h =
      pick_cases (λ (x : ℕ). x ≡ length (filter p (span from (suc j) xs))) (leb from j)
      (λ t.
      let l : from ≤ j = leb-true from j t in
      let e : suc j - from ≡ (j - from) + 1 = omega arith in
      rw (e, length-filter_more p (drop from xs) (j - from) d (omega (arith, length-drop from xs)), span_here from j l, ← how_many_span from j (omega arith), one-cond))
      (λ t.
      let e : suc j - from ≡ 0 = omega (arith, tests) in
      rw (how_many_none (λ i. p (get_or xs i d)) from j (omega (arith, tests)), e))

  -- a scan goes on while the test fails
  scan_for_span : (k i : ℕ) → i + k ≤ length xs → scan_for (λ j. not (p (get_or xs j d))) k i ≡ i + position_or_len p (take k (drop i xs))
  scan_for_span zero i h = omega arith
  scan_for_span (suc k) i h =
      rw (drop-cons xs i d (omega arith))
      (on_or_stop (not (p (get_or xs i d))) (scan_for (λ j. not (p (get_or xs j d))) k (suc i)) (position_or_len p (take k (drop (suc i) xs))) i (scan_for_span k (suc i) (omega arith)))

  pub scan_span : (from to : ℕ) → from ≤ to → to ≤ length xs → scan (λ i. not (p (get_or xs i d))) from to ≡ from + position_or_len p (span from to xs)
  unfolding scan
  scan_span from to h l = scan_for_span (to - from) from (omega arith)

  -- the same from a list's beginning
  pub any_front : (n : ℕ) → n ≤ length xs → any (λ i. p (get_or xs i d)) 0 n ≡ list_any p (take n xs)
  any_front n h = let e : n - 0 ≡ n = omega arith in rw e at (any_span 0 n h)

  pub how_many_front : (n : ℕ) → n ≤ length xs → how_many (λ i. p (get_or xs i d)) 0 n ≡ length (filter p (take n xs))
  how_many_front n h = let e : n - 0 ≡ n = omega arith in rw e at (how_many_span 0 n h)

  pub scan_front : (n : ℕ) → n ≤ length xs → scan (λ i. not (p (get_or xs i d))) 0 n ≡ position_or_len p (take n xs)
  scan_front n h =
      let e : n - 0 ≡ n = omega arith in
      let s = rw e at (scan_span 0 n (omega arith) h) in
      omega arith

-- `.position(..).unwrap_or(n)` at a list of n elements
module _ {A : Type 0} (p : A → Bool) where
  pub position_within : (xs : List A) → position_or_len p xs ≤ length xs
  position_within [] = omega arith
  position_within (x ∷ xs) = within (not (p x)) (position_or_len p xs) (length xs) (position_within xs)

  pub position_or_end : (xs : List A) (n : ℕ) → length xs ≡ n → unwrap_or (position p xs) n ≡ position_or_len p xs
  position_or_end xs n e =
      some_or (nat_lt (position_or_len p xs) (length xs)) (position_or_len p xs) n (λ f. omega (arith, tests, position_within xs))
