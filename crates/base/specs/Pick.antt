-- A choice by a test: `pick test a b` is a where the test holds and b where it does not. It reads like an early return.
use Rattle.std.specs.Prelude.{◌≡◌, refl, Bool, true, false, not, ◌&&◌, ◌||◌, ◌⊎◌, ℕ, suc, ◌≤◌, ◌<◌, ltb, eqb}
use Rattle.std.proofs.Common.{sym, ◌∙◌, inl, inr, arith, ltb-true, ltb-false, leb-true, leb-false, eqb-true}
use Rattle.std.proofs.lemmas.Bool.{eqb-false, not-true, not-false}

-- two answers that an equation allows are one: the worth of every promise that is an equation
pub coincide : {A : Type 0} {d x y : A} → x ≡ d → y ≡ d → x ≡ y
coincide p q = p ∙ sym q

-- the tests on numbers as facts, for `omega (arith, tests)`
pub ruleset tests = (ltb-true, ltb-false, leb-true, leb-false, eqb-true, eqb-false)

abbrev pub pick : {A : Type 0} → Bool → A → A → A
pick true a b = a
pick false a b = b

-- the larger of two numbers
abbrev pub larger : ℕ → ℕ → ℕ
larger a b = pick (ltb a b) b a

-- 1 where a test holds, for counting
abbrev pub one : Bool → ℕ
one true = 1
one false = 0

-- what holds of both holds of the choice
pub pick_both : {A : Type 0} (P : A → Type 0) (t : Bool) {a b : A} → P a → P b → P (pick t a b)
pick_both P true p q = p
pick_both P false p q = q

-- what each shows where the test picks it
pub pick_cases : {A : Type 0} (P : A → Type 0) (t : Bool) {a b : A} → (t ≡ true → P a) → (t ≡ false → P b) → P (pick t a b)
pick_cases P true p q = p refl
pick_cases P false p q = q refl

pub pick_same : {A : Type 0} (t : Bool) (a : A) → pick t a a ≡ a
pick_same true a = refl
pick_same false a = refl

-- two choices by one test are a choice of two
pub pick_through : {A B : Type 0} (f : A → B) (t : Bool) {x y : B} {a b : A} → (t ≡ true → x ≡ f a) → (t ≡ false → y ≡ f b) → pick t x y ≡ f (pick t a b)
pick_through f true p q = p refl
pick_through f false p q = q refl

-- a test that picks a number above 0 did not hold where the choice is 0
pub pick_zero : (t : Bool) (n y : ℕ) → pick t (suc n) y ≡ 0 → (t ≡ false) × (y ≡ 0)
pick_zero true n y e = let h : ⊥ = omega arith in elim h [ ]
pick_zero false n y e = (refl, e)

-- the test itself, as a sum that carries its equation
pub decide : (t : Bool) → (t ≡ true) ⊎ (t ≡ false)
decide true = inl refl
decide false = inr refl

pub clash : {t : Bool} → t ≡ true → t ≡ false → ⊥
clash {t} p q = let z : ◌≡◌ {A = ℕ} 0 1 = cc in omega arith

-- a test that a function makes, where the code goes on by its answer
pub refuted : {t b : Bool} → t ≡ b → not t ≡ true → b ≡ false
refuted {t} {b} e h = sym e ∙ not-true t h

pub granted : {t b : Bool} → t ≡ b → not t ≡ false → b ≡ true
granted {t} {b} e h = sym e ∙ not-false t h

pub same? : (a b : ℕ) → (a ≡ b) ⊎ (a ≡ b → ⊥)
same? a b = go (eqb a b) refl
  where
    go : (t : Bool) → eqb a b ≡ t → (a ≡ b) ⊎ (a ≡ b → ⊥)
    go true e = inl (eqb-true a b e)
    go false e = inr (eqb-false a b e)

pub and_left : (a b : Bool) → (a && b) ≡ true → a ≡ true
and_left true b e = refl
and_left false b e = e

pub and_right : (a b : Bool) → (a && b) ≡ true → b ≡ true
and_right true b e = e
and_right false b e = absurd (clash e refl)

pub and_both : (a b : Bool) → (a && b) ≡ true → (a ≡ true) × (b ≡ true)
and_both a b e = (and_left a b e, and_right a b e)

pub and_make : {a b : Bool} → a ≡ true → b ≡ true → (a && b) ≡ true
and_make {a} {b} p q = rw (p, q)

pub or_cases : (a b : Bool) → (a || b) ≡ true → (a ≡ true) ⊎ (b ≡ true)
or_cases true b e = inl refl
or_cases false b e = inr e

pub or-false : (a b : Bool) → (a || b) ≡ false → (a ≡ false) × (b ≡ false)
or-false true b e = absurd (clash refl e)
or-false false b e = (refl, e)

pub larger_left : (a b : ℕ) → a ≤ larger a b
larger_left a b = pick_cases (λ (x : ℕ). a ≤ x) (ltb a b) (λ t. omega (arith, tests)) (λ t. omega arith)

pub larger_right : (a b : ℕ) → b ≤ larger a b
larger_right a b = pick_cases (λ (x : ℕ). b ≤ x) (ltb a b) (λ t. omega arith) (λ t. omega (arith, tests))

pub larger_below : (a b k : ℕ) → a < k → b < k → larger a b < k
larger_below a b k p q = pick_both (λ (x : ℕ). x < k) (ltb a b) q p

pub larger_least : (a b k : ℕ) → a ≤ k → b ≤ k → larger a b ≤ k
larger_least a b k p q = pick_both (λ (x : ℕ). x ≤ k) (ltb a b) q p
