-- Laws of batches.
use lib.Pointwise.{pointwise}
use Rattle.std.specs.Prelude.{min, max, replicate, drop, ◌++◌, ◌-◌, Option, Some, None, ◌≡◌, refl, Bool, true, false, ◌⊎◌, List, [], ◌∷◌, ℕ, zero, suc, ◌+◌, ◌≤◌, ◌<◌, ltb, leb, eqb, get_or, take}
use Rattle.std.proofs.Common.{sym, ◌∙◌, inl, inr, ⊎_elim, le_refl, add-one, arith, take-suc, get_or-take, ext_get_or, leb-true, eqb-true, lt-ltb, le-ltb, eq-eqb, ne_eqb}
use Rattle.std.proofs.Math.Path.{ap}
use Rattle.std.specs.Cmp.{IsPartialEquivalence}
use Rattle.std.proofs.Math.ListN.{length, get_or-append}
use Rattle.std.proofs.lemmas.List.{length-append, length-drop, get_or-drop, get_or-replicate, get_or-append_right}
use borrow.Author.Tests.{ltb-true, ltb-false}
use Rattle.std.proofs.Math.Seq.{length-take-le}
use Rattle.base.specs.Pick.{larger, pick_cases, decide, clash, and_both, and_left, and_make, tests}
use Rattle.batch.specs.declared.Batch.{Batch}
use Rattle.batch.specs.Batches.{Made, made, empty_batch, key_at, first_keys, is_batch, make_batch, clip, key_count, key_list, same_list, same_batch}

-- a count that is no more than the size is the number of places in use
pub clip_is : (size count : ℕ) → count ≤ size → clip size count ≡ count
clip_is size count h = rw (le-ltb size count h)

-- it is the smaller of the two
pub clip-min : (size count : ℕ) → min count size ≡ clip size count
clip-min size count = pick_cases (λ (x : ℕ). min count size ≡ x) (ltb size count) (λ t. omega (arith, tests)) (λ t. omega (arith, tests))

-- the code's words for the larger of two, and for lists that are the same
pub larger_is : (a b : ℕ) → max a b ≡ larger a b
larger_is a b = pick_cases (λ (x : ℕ). max a b ≡ x) (ltb a b) (λ t. omega (arith, tests)) (λ t. omega (arith, tests))

pub same_pointwise : (xs ys : List ℕ) → pointwise eqb xs ys ≡ same_list xs ys
same_pointwise [] [] = refl
same_pointwise [] (y ∷ ys) = refl
same_pointwise (x ∷ xs) [] = refl
same_pointwise (x ∷ xs) (y ∷ ys) = rw (same_pointwise xs ys)

pub clip_within : (size count : ℕ) → clip size count ≤ size
clip_within size count = pick_cases (λ (x : ℕ). x ≤ size) (ltb size count) (λ t. le_refl size) (λ t. omega (arith, tests))

-- two lists are the same exactly where they are equal
pub same_list-true : (xs ys : List ℕ) → same_list xs ys ≡ true → xs ≡ ys
same_list-true [] [] e = refl
same_list-true [] (y ∷ ys) e = absurd (clash e refl)
same_list-true (x ∷ xs) [] e = absurd (clash e refl)
same_list-true (x ∷ xs) (y ∷ ys) e =
    let h = and_both (eqb x y) (same_list xs ys) e in
    let p : x ≡ y = eqb-true x y h.0 in
    let q : xs ≡ ys = same_list-true xs ys h.1 in
    cc

pub same_list_self : (xs : List ℕ) → same_list xs xs ≡ true
same_list_self [] = refl
same_list_self (x ∷ xs) = and_make (eq-eqb x x refl) (same_list_self xs)

pub same_list_equal : (xs ys : List ℕ) → xs ≡ ys → same_list xs ys ≡ true
same_list_equal xs ys e = rw e (same_list_self ys)

pub same_list_other : (xs ys : List ℕ) → (xs ≡ ys → ⊥) → same_list xs ys ≡ false
same_list_other xs ys h = ⊎_elim (λ t. absurd (h (same_list-true xs ys t))) (λ f. f) (decide (same_list xs ys))

-- the fronts of two lists: a turn of a comparison, and its two ways out
pub take_more : (a b : List ℕ) (i : ℕ) → i < length a → i < length b → take i a ≡ take i b → get_or a i 0 ≡ get_or b i 0 → take (i + 1) a ≡ take (i + 1) b
take_more a b i p q e f = rw (add-one i, take-suc a i 0 p, take-suc b i 0 q, e, f)

pub take_other : (a b : List ℕ) (n i : ℕ) → i < n → (get_or a i 0 ≡ get_or b i 0 → ⊥) → same_list (take n a) (take n b) ≡ false
take_other a b n i h f =
    same_list_other (take n a) (take n b)
    (λ e. f (sym (get_or-take n a i 0 h) ∙ ap (λ (l : List ℕ). get_or l i 0) e ∙ get_or-take n b i 0 h))

-- 01: "Two batches are one if id and list are equal."
pub same_is : (a b : Batch) → same_batch a b ≡ true → (a.id ≡ b.id) × (key_list a ≡ key_list b)
unfolding same_batch
same_is a b e =
    let h = and_both (eqb a.id b.id) (same_list (key_list a) (key_list b)) e in
    (eqb-true a.id b.id h.0, same_list-true (key_list a) (key_list b) h.1)

pub is_same : (a b : Batch) → a.id ≡ b.id → key_list a ≡ key_list b → same_batch a b ≡ true
unfolding same_batch
is_same a b p q = and_make (eq-eqb a.id b.id p) (same_list_equal (key_list a) (key_list b) q)

turned : (a b : Batch) → same_batch a b ≡ true → same_batch b a ≡ true
turned a b t = let e = same_is a b t in is_same b a (sym e.0) (sym e.1)

-- it is an equality, as `==` asks
pub same_batch_laws : IsPartialEquivalence same_batch
same_batch_laws = record {
  symm = λ a b. ⊎_elim (λ t. t ∙ sym (turned a b t)) (λ f. ⊎_elim (λ u. absurd (clash (turned b a u) f)) (λ g. f ∙ sym g) (decide (same_batch b a))) (decide (same_batch a b));
  trans = λ a b c p q. let x = same_is a b p in let y = same_is b c q in is_same a c (x.0 ∙ y.0) (x.1 ∙ y.1);
}

-- the ways in which a comparison of two batches ends
pub same_id : (a b : Batch) → (a.id ≡ b.id → ⊥) → same_batch a b ≡ false
unfolding same_batch
same_id a b h = rw (ne_eqb a.id b.id h)

module _ (a b : Batch) (h : a.id ≡ b.id) where
  pub same_counts : (p : length a.keys ≡ 8) (q : length b.keys ≡ 8) → (key_count a ≡ key_count b → ⊥) → same_batch a b ≡ false
  unfolding same_batch
  same_counts p q f =
      rw (eq-eqb a.id b.id h)
      (same_list_other (key_list a) (key_list b)
      (λ e. f
      (sym (length-take-le (key_count a) a.keys (omega (arith, clip_within 8 a.count))) ∙ ap length e
      ∙ length-take-le (key_count b) b.keys (omega (arith, clip_within 8 b.count)))))

  pub same_lists : (n : ℕ) → n ≡ key_count a → n ≡ key_count b → (t : Bool) → t ≡ same_list (take n a.keys) (take n b.keys) → t ≡ same_batch a b
  unfolding same_batch
  same_lists n p q t e = rw (eq-eqb a.id b.id h, ← p, ← q) e

-- `==`, by the parts of the lists that are compared
pub same_fronts : (a b : Batch) (n m : ℕ) → n ≡ min a.count 8 → m ≡ min b.count 8 → a.id ≡ b.id → pointwise eqb (take n a.keys) (take m b.keys) ≡ same_batch a b
unfolding same_batch
same_fronts a b n m p q e =
    rw (eq-eqb a.id b.id e, ← (p ∙ clip-min 8 a.count), ← (q ∙ clip-min 8 b.count)) (same_pointwise (take n a.keys) (take m b.keys))

-- what is made tells two values of the code apart, so `make_batch` says which one `make` gives
pub made_unique : (a b : Option Batch) → made a ≡ made b → a ≡ b
made_unique None None e = refl
made_unique None (Some b) e = absurd (let h : ◌≡◌ {A = ℕ} 10 0 = ap (λ (m : Made). m.answer) e in omega arith)
made_unique (Some a) None e = absurd (let h : ◌≡◌ {A = ℕ} 0 10 = ap (λ (m : Made). m.answer) e in omega arith)
made_unique (Some a) (Some b) e = ap Some (ap (λ (m : Made). m.batch) e)

-- a batch made from numbers: the answer is 0 or 10
pub made_answer : (id count : ℕ) (keys : List ℕ) → ((make_batch id count keys).answer ≡ 0) ⊎ ((make_batch id count keys).answer ≡ 10)
unfolding make_batch
made_answer id count keys = pick_cases (λ (m : Made). (m.answer ≡ 0) ⊎ (m.answer ≡ 10)) (is_batch id count) (λ t. inl refl) (λ t. inr refl)

pub make_done : (id count : ℕ) (keys kept : List ℕ) → true ≡ is_batch id count → kept ≡ first_keys count keys
    → record { answer = 0; batch = record { id = id; count = count; keys = kept } } ≡ make_batch id count keys
unfolding make_batch
make_done id count keys kept t e = rw (← t, e)

pub make_refused : (id count : ℕ) (keys : List ℕ) (none : Batch) → false ≡ is_batch id count → none ≡ empty_batch → record { answer = 10; batch = none } ≡ make_batch id count keys
unfolding make_batch
make_refused id count keys none t e = rw (← t, e)

pub made_few : (id count : ℕ) (keys : List ℕ) → (make_batch id count keys).batch.count ≤ 8
unfolding make_batch
made_few id count keys =
    pick_cases (λ (m : Made). m.batch.count ≤ 8) (is_batch id count)
    (λ t. leb-true count 8 (and_left (leb count 8) _ t)) (λ t. omega arith)

pub made_eight : (id count : ℕ) (keys : List ℕ) → length (make_batch id count keys).batch.keys ≡ 8
unfolding make_batch
made_eight id count keys = pick_cases (λ (m : Made). length m.batch.keys ≡ 8) (is_batch id count) (λ t. refl) (λ t. refl)

pub first_at : (n : ℕ) (l : List ℕ) (i : ℕ) → i < 8 → get_or (first_keys n l) i 0 ≡ key_at n l i
first_at n l zero h = refl
first_at n l (suc zero) h = refl
first_at n l (suc (suc zero)) h = refl
first_at n l (suc (suc (suc zero))) h = refl
first_at n l (suc (suc (suc (suc zero)))) h = refl
first_at n l (suc (suc (suc (suc (suc zero))))) h = refl
first_at n l (suc (suc (suc (suc (suc (suc zero)))))) h = refl
first_at n l (suc (suc (suc (suc (suc (suc (suc zero))))))) h = refl
first_at n l (suc (suc (suc (suc (suc (suc (suc (suc i)))))))) h = absurd (omega arith)

-- eight keys, each the one that stands at its place
pub first_eight : (n : ℕ) (l : List ℕ) (a b c d e f g h : ℕ) → a ≡ key_at n l 0 → b ≡ key_at n l 1 → c ≡ key_at n l 2 → d ≡ key_at n l 3 → e ≡ key_at n l 4
    → f ≡ key_at n l 5 → g ≡ key_at n l 6 → h ≡ key_at n l 7 → a ∷ b ∷ c ∷ d ∷ e ∷ f ∷ g ∷ h ∷ [] ≡ first_keys n l
first_eight n l a b c d e f g h p0 p1 p2 p3 p4 p5 p6 p7 = rw (p0, p1, p2, p3, p4, p5, p6, p7)

-- the code's copy of the first n keys over zeros
pub first_copied : (n count : ℕ) (l kept : List ℕ) → length l ≡ 8 → n ≡ min count 8 → kept ≡ take n l → kept ++ drop n (replicate 8 0) ≡ first_keys count l
first_copied n count l kept e u k =
    let p : length (take n l) ≡ n = length-take-le n l (omega arith) in
    let m : length kept ≡ n = rw k p in
    let q : length (drop {A = ℕ} n (replicate 8 0)) ≡ 8 - n = length-drop {A = ℕ} n (replicate 8 0) in
    ext_get_or 0 (kept ++ drop n (replicate 8 0)) (first_keys count l) (length-append kept (drop n (replicate 8 0)) ∙ omega arith)
    (λ i v.
    let w : i < 8 = omega (arith, length-append kept (drop n (replicate 8 0))) in
    at i w (decide (ltb i n)) ∙ sym (first_at count l i w))
  where
    at : (i : ℕ) → i < 8 → (ltb i n ≡ true) ⊎ (ltb i n ≡ false) → get_or (kept ++ drop n (replicate 8 0)) i 0 ≡ key_at count l i
    at i w (inl t) =
        let h : i < n = ltb-true i n t in
        let m : length kept ≡ n = rw k (length-take-le n l (omega arith)) in
        rw (get_or-append kept (drop n (replicate 8 0)) 0 i (omega arith), k, get_or-take n l i 0 h, lt-ltb i count (omega arith))
    at i w (inr f) =
        let h : n ≤ i = ltb-false i n f in
        let m : length kept ≡ n = rw k (length-take-le n l (omega arith)) in
        let j : n + (i - n) ≡ i = omega arith in
        rw (get_or-append_right {X = ℕ} kept (drop n (replicate 8 0)) n i 0 m h, get_or-drop {A = ℕ} n (replicate 8 0) (i - n) 0, j, get_or-replicate {A = ℕ} 8 i 0 0 w, le-ltb i count (omega arith))

-- the first keys begin with the list that was given
pub first_take : (n : ℕ) (l : List ℕ) → n ≤ 8 → length l ≡ 8 → take n (first_keys n l) ≡ take n l
first_take n l h e =
    let p : length (take n (first_keys n l)) ≡ n = length-take-le n (first_keys n l) h in
    let q : length (take n l) ≡ n = length-take-le n l (omega arith) in
    ext_get_or 0 (take n (first_keys n l)) (take n l) (p ∙ sym q)
    (λ i u.
    let v : i < n = omega arith in
    get_or-take n (first_keys n l) i 0 v ∙ first_at n l i (omega arith) ∙ rw (lt-ltb i n v) (sym (get_or-take n l i 0 v)))

-- what a batch that was made holds: what was given
pub record Holds (number many : ℕ) (keys : List ℕ) (b : Batch) : Type 0 where
  pub id : b.id ≡ number
  pub count : b.count ≡ many
  pub list : key_list b ≡ take many keys

pub made_holds : (id count : ℕ) (keys : List ℕ) → length keys ≡ 8 → (make_batch id count keys).answer ≡ 0 → Holds id count keys (make_batch id count keys).batch
unfolding make_batch
made_holds id count keys e =
    pick_cases (λ (m : Made). m.answer ≡ 0 → Holds id count keys m.batch) (is_batch id count)
    (λ t z.
    let h : count ≤ 8 = leb-true count 8 (and_left (leb count 8) _ t) in
    record { id = refl; count = refl; list = rw (clip_is 8 count h) (first_take count keys h e) })
    (λ t z. absurd (omega arith))
