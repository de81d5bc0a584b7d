-- `gather g from to`: the lists g i for each i from `from` up to and without `to`, one after the other: what a loop writes.
use Rattle.std.specs.Prelude.{◌≡◌, refl, List, [], ◌++◌, ℕ, zero, suc, ◌+◌, ◌-◌, ◌*◌, ◌≤◌, ◌<◌, length, leb}
use mathlib.Core.List.Memᴰ
use Rattle.std.proofs.Common.{⊎_elim, le_refl, eq-or-lt_of_le, add-one, arith, length-append, le-leb, leb-true}
use Rattle.std.proofs.lemmas.Bool.{lt-leb}
use Rattle.base.specs.Pick.{pick, pick_cases}
use Rattle.base.specs.Among.{◌∈◌, All, All-append}

module _ {B : Type 0} (g : ℕ → List B) where
  abbrev pub gather : ℕ → ℕ → List B
  gather from zero = []
  gather from (suc j) = pick (leb from j) (gather from j ++ g j) (gather from j)

  -- where each is of two elements at most
  pub length-gather_two : ((i : ℕ) → length (g i) ≤ 2) → (from to : ℕ) → length (gather from to) ≤ 2 * (to - from)
  length-gather_two k from zero = omega arith
  length-gather_two k from (suc j) =
      pick_cases (λ (x : List B). length x ≤ 2 * (suc j - from)) (leb from j)
      (λ t. omega (arith, leb-true, length-append (gather from j) (g j), length-gather_two k from j, k j))
      (λ t. omega (arith, length-gather_two k from j))

  pub gather_none : (from to : ℕ) → to ≤ from → gather from to ≡ []
  gather_none from zero h = refl
  gather_none from (suc j) h = rw (lt-leb from j h) (gather_none from j (omega arith))

  pub gather_self : (i : ℕ) → gather i i ≡ []
  gather_self i = gather_none i i (le_refl i)

  -- one more turn of the loop
  pub gather_more : (from i : ℕ) → from ≤ i → gather from (i + 1) ≡ gather from i ++ g i
  gather_more from i h = rw (add-one i, le-leb from i h)

  -- where each is of k elements at most
  pub length-gather : ((i : ℕ) → length (g i) ≤ 1) → (from to : ℕ) → length (gather from to) ≤ to - from
  length-gather k from zero = omega arith
  length-gather k from (suc j) =
      pick_cases (λ (x : List B). length x ≤ suc j - from) (leb from j)
      (λ t. omega (arith, leb-true, length-append (gather from j) (g j), length-gather k from j, k j))
      (λ t. omega (arith, length-gather k from j))

  -- what is in it stands in the list of an index of the range
  pub gather_in : {a : B} (from to : ℕ) → a ∈ gather from to → (i : ℕ) × (from ≤ i) × (i < to) × (a ∈ g i)
  gather_in from zero m = absurd (Memᴰ.not-nil m)
  gather_in {a} from (suc j) m =
      pick_cases (λ (x : List B). a ∈ x → (i : ℕ) × (from ≤ i) × (i < suc j) × (a ∈ g i)) (leb from j)
      (λ t m'.
      ⊎_elim (λ (o : a ∈ gather from j). up (gather_in from j o)) (λ (o : a ∈ g j). (j, leb-true from j t, le_refl (suc j), o))
      (Memᴰ.append_cases (gather from j) m'))
      (λ t m'. up (gather_in from j m'))
      m
    where
      up : (i : ℕ) × (from ≤ i) × (i < j) × (a ∈ g i) → (i : ℕ) × (from ≤ i) × (i < suc j) × (a ∈ g i)
      up (i, l, u, o) = (i, l, omega arith, o)

  -- and what stands in one of these is in it
  pub in_gather : {a : B} (from to i : ℕ) → from ≤ i → i < to → a ∈ g i → a ∈ gather from to
  in_gather {a = a} from zero i l u m = elim u [ ]
  in_gather {a} from (suc j) i l u m =
      rw (le-leb from j (omega arith))
      (⊎_elim
      (λ (e : i ≡ j). Memᴰ.append_right (gather from j) (rw e at m))
      (λ (v : i < j). Memᴰ.append_left (g j) (in_gather from j i l v m))
      (eq-or-lt_of_le (omega arith)))

  pub All-gather : (P : B → Type 0) (from to : ℕ) → ((i : ℕ) → from ≤ i → i < to → All P (g i)) → All P (gather from to)
  All-gather P from zero h = tt
  All-gather P from (suc j) h =
      pick_cases (λ (x : List B). All P x) (leb from j)
      (λ t. All-append P (gather from j) (g j) (All-gather P from j (λ i l u. h i l (omega arith))) (h j (leb-true from j t) (le_refl (suc j))))
      (λ t. All-gather P from j (λ i l u. h i l (omega arith)))
