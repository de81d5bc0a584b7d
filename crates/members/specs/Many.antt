-- Many members put into a set: what it holds, and that neither order nor repetition makes a difference.
use Rattle.std.specs.Prelude.{◌≡◌, refl, Bool, true, false, List, [], ◌∷◌, ◌++◌, ◌⊎◌, ℕ, ◌≤◌, ◌<◌, eqb}
use Rattle.std.proofs.Common.{sym, ◌∙◌, inl, inr, eqb-true}
use Rattle.std.proofs.Math.Bool.{or-true}
use mathlib.Core.List.Memᴰ
use Rattle.base.specs.Pick.{or_cases}
use Rattle.base.specs.Among.{◌∈◌, SameMembers}
use Rattle.members.specs.Sets.{has, insert, count_in}
use Rattle.members.specs.Counting.{count_mono}
use Rattle.members.specs.Laws.{sets_same, has-insert, has_inserted, insert_below}

-- each put in, one after the other
abbrev pub insert_all : ℕ → List ℕ → ℕ
insert_all set [] = set
insert_all set (m ∷ ms) = insert_all (insert set m) ms

-- numbers that are members of some group
abbrev pub Members : List ℕ → Type 0
Members ms = (m : ℕ) → m ∈ ms → m < 9

pub insert_all_below : (set : ℕ) (ms : List ℕ) → set < 512 → insert_all set ms < 512
insert_all_below set [] s = s
insert_all_below set (m ∷ ms) s = insert_all_below (insert set m) ms (insert_below set m s)

pub insert_all-append : (set : ℕ) (ks ls : List ℕ) → insert_all set (ks ++ ls) ≡ insert_all (insert_all set ks) ls
insert_all-append set [] ls = refl
insert_all-append set (m ∷ ks) ls = insert_all-append (insert set m) ks ls

-- who was in it stays in it
pub insert_all_kept : (set : ℕ) (ms : List ℕ) (x : ℕ) → set < 512 → Members ms → has set x ≡ true → x < 9 → has (insert_all set ms) x ≡ true
insert_all_kept set [] x s h e l = e
insert_all_kept set (m ∷ ms) x s h e l =
    insert_all_kept (insert set m) ms x (insert_below set m s) (λ y o. h y (Memᴰ.tail o))
    (has-insert set m x s (h m (Memᴰ.head refl)) l ∙ rw (e, or-true)) l

-- who is put in is in it
pub insert_all_in : (set : ℕ) (ms : List ℕ) (x : ℕ) → set < 512 → Members ms → x ∈ ms → has (insert_all set ms) x ≡ true
insert_all_in set [] x s h x5 = elim x5 [ ]
insert_all_in set (m ∷ ms) x s h (Memᴰ.head e) =
    let l : m < 9 = h m (Memᴰ.head refl) in
    rw e (insert_all_kept (insert set m) ms m (insert_below set m s) (λ y o. h y (Memᴰ.tail o)) (has_inserted set m s l) l)
insert_all_in set (m ∷ ms) x s h (Memᴰ.tail o) = insert_all_in (insert set m) ms x (insert_below set m s) (λ y p. h y (Memᴰ.tail p)) o

-- and nobody else
pub insert_all_from : (set : ℕ) (ms : List ℕ) (x : ℕ) → set < 512 → Members ms → x < 9 → has (insert_all set ms) x ≡ true → (has set x ≡ true) ⊎ (x ∈ ms)
insert_all_from set [] x s h l e = inl e
insert_all_from set (m ∷ ms) x s h l e = go (insert_all_from (insert set m) ms x (insert_below set m s) (λ y o. h y (Memᴰ.tail o)) l e)
  where
    put : (eqb x m ≡ true) ⊎ (has set x ≡ true) → (has set x ≡ true) ⊎ (x ∈ (m ∷ ms))
    put (inl t) = inr (Memᴰ.head (eqb-true x m t))
    put (inr t) = inl t

    go : (has (insert set m) x ≡ true) ⊎ (x ∈ ms) → (has set x ≡ true) ⊎ (x ∈ (m ∷ ms))
    go (inl t) = put (or_cases (eqb x m) (has set x) (sym (has-insert set m x s (h m (Memᴰ.head refl)) l) ∙ t))
    go (inr o) = inr (Memᴰ.tail o)

-- no fewer are in it than before
pub insert_all_count : (set : ℕ) (ms : List ℕ) → set < 512 → Members ms → count_in set ≤ count_in (insert_all set ms)
unfolding count_in
insert_all_count set ms s h = count_mono 9 (has set) (has (insert_all set ms)) (λ i l e. insert_all_kept set ms i s h e l)

-- neither order nor repetition makes a difference
pub insert_all_same : (set : ℕ) (ks ls : List ℕ) → set < 512 → Members ks → SameMembers ks ls → insert_all set ks ≡ insert_all set ls
insert_all_same set ks ls s h w =
    sets_same (insert_all set ks) (insert_all set ls) (insert_all_below set ks s) (insert_all_below set ls s)
    (λ m l. same (has (insert_all set ks) m) (has (insert_all set ls) m)
    (λ e. over ks ls m l h other (λ o. w.there m o) e) (λ e. over ls ks m l other h (λ o. w.back m o) e))
  where
    other : Members ls
    other m o = h m (w.back m o)

    same : (a b : Bool) → (a ≡ true → b ≡ true) → (b ≡ true → a ≡ true) → a ≡ b
    same true b f g = sym (f refl)
    same false true f g = g refl
    same false false f g = refl

    over : (xs ys : List ℕ) (m : ℕ) → m < 9 → Members xs → Members ys → (m ∈ xs → m ∈ ys) → has (insert_all set xs) m ≡ true → has (insert_all set ys) m ≡ true
    over xs ys m l p q f e = go (insert_all_from set xs m s p l e)
      where
        go : (has set m ≡ true) ⊎ (m ∈ xs) → has (insert_all set ys) m ≡ true
        go (inl t) = insert_all_kept set ys m s q t l
        go (inr o) = insert_all_in set ys m s q (f o)
