-- One key: a merge is the larger of two in one order (nothing, then by slot, at one slot a value above none). So of answers that agree neither order nor
-- repetition makes a difference.
use Rattle.std.specs.Prelude.{◌≡◌, refl, Bool, true, false, not, ◌&&◌, List, [], ◌∷◌, ℕ, suc, ◌+◌, ◌≤◌, ◌<◌, ltb, leb, eqb, Ok, Err}
use Rattle.std.proofs.Common.{sym, ap, ◌∙◌, ⊎_elim, le_refl, arith, lt-ltb, le-ltb, eqb-true, eq-eqb, ne_eqb}
use mathlib.Core.List.Memᴰ
use Rattle.std.proofs.lemmas.Bool.{not-true}
use Rattle.base.specs.Pick.{pick, larger, pick_both, pick_cases, pick_same, pick_through, clash, same?, and_both, larger_left, larger_right, tests}
use Rattle.base.specs.Among.{◌∈◌, SameMembers}
use Rattle.tally.specs.declared.Best.{Best}
use Rattle.tally.specs.declared.Best.TheVariants.{Nothing, Slot, Value}
use Rattle.tally.specs.Merge.{MergedKey, clashing, best_numbers, merge_key, conflicts, merged_best}

-- ONE ORDER

-- how much is known of a key: nothing, then by slot, and at one slot a value above none
abbrev pub level : Best → ℕ
level Nothing = 0
level (Slot s) = suc (s + s)
level (Value h) = suc (suc (h.slot + h.slot))

-- the larger of two; of two at one level the first
abbrev pub more_known : Best → Best → Best
more_known a b = pick (ltb (level a) (level b)) b a

pub more_right : (a b : Best) → level a < level b → more_known a b ≡ b
more_right a b h = rw (lt-ltb (level a) (level b) h)

pub more_left : (a b : Best) → level b ≤ level a → more_known a b ≡ a
more_left a b h = rw (le-ltb (level a) (level b) h)

pub more_level : (a b : Best) → level (more_known a b) ≡ larger (level a) (level b)
more_level a b = sym (pick_through level (ltb (level a) (level b)) (λ t. refl) (λ t. refl))

-- A MERGE IS THE LARGER OF TWO

-- what is told takes the place of what is held exactly where it is more
taken_or_kept : (held told : Best) (taken : Bool) (else : MergedKey) → merged_best held else ≡ held
    → (taken ≡ true → level held < level told) → (taken ≡ false → level told ≤ level held)
    → merged_best held (pick taken (Ok told) else) ≡ more_known held told
taken_or_kept held told taken else stays above below =
    pick_cases (λ (m : MergedKey). merged_best held m ≡ more_known held told) taken (λ e. sym (more_right held told (above e)))
    (λ e. stays ∙ sym (more_left held told (below e)))

-- whatever is held and told, a conflict too
pub merged_more : (held reply : Best) → merged_best held (merge_key held reply) ≡ more_known held reply
merged_more held Nothing = sym (more_left held Nothing (omega arith))
merged_more Nothing (Slot s) = sym (more_right Nothing (Slot s) (omega arith))
merged_more (Slot t) (Slot s) =
    taken_or_kept (Slot t) (Slot s) (ltb t s) (Ok (Slot t)) refl (λ e. omega (arith, tests)) (λ e. omega (arith, tests))
merged_more (Value k) (Slot s) =
    taken_or_kept (Value k) (Slot s) (ltb k.slot s) (Ok (Value k)) refl (λ e. omega (arith, tests)) (λ e. omega (arith, tests))
merged_more Nothing (Value h) = sym (more_right Nothing (Value h) (omega arith))
merged_more (Slot t) (Value h) =
    taken_or_kept (Slot t) (Value h) (leb t h.slot) (Ok (Slot t)) refl (λ e. omega (arith, tests)) (λ e. omega (arith, tests))
merged_more (Value k) (Value h) =
    let other : Bool = eqb k.slot h.slot && not (eqb k.value h.value) in
    taken_or_kept (Value k) (Value h) (ltb k.slot h.slot) (pick other clashing (Ok (Value k)))
    (pick_both (λ (m : MergedKey). merged_best (Value k) m ≡ Value k) other refl refl) (λ e. omega (arith, tests)) (λ e. omega (arith, tests))

-- a merge that is no conflict leaves what it says
pub merged_into : (held : Best) (m : MergedKey) → conflicts m ≡ false → m ≡ Ok (merged_best held m)
merged_into held (Ok b) e = refl
merged_into held (Err c) e = absurd (clash refl e)

pub no_clash : (m : MergedKey) → (m ≡ clashing → ⊥) → conflicts m ≡ false
no_clash (Ok b) h = refl
no_clash (Err c) h = absurd (h refl)

-- ANSWERS THAT AGREE

-- two answers are the same only with the same value
pub valued : {slot v w : ℕ} → Value (record { slot = slot; value = v }) ≡ Value (record { slot = slot; value = w }) → v ≡ w
valued e = ap (λ (b : Best). (best_numbers b).2) e

-- 02: "no two hold different values for one key at one slot"
abbrev pub Agree : Best → Best → Type 0
Agree a b = (slot v w : ℕ) → a ≡ Value (record { slot = slot; value = v }) → b ≡ Value (record { slot = slot; value = w }) → v ≡ w

pub Agree-sym : (a b : Best) → Agree a b → Agree b a
Agree-sym a b g slot v w e f = sym (g slot w v f e)

-- an answer agrees with itself
pub Agree-self : (a : Best) → Agree a a
Agree-self a slot v w e f = valued (sym e ∙ f)

-- it is exactly that they do not conflict
pub Agree-merges : (a b : Best) → Agree a b → conflicts (merge_key a b) ≡ false
Agree-merges a Nothing g = refl
Agree-merges Nothing (Slot s) g = refl
Agree-merges (Slot t) (Slot s) g = pick_both (λ (m : MergedKey). conflicts m ≡ false) (ltb t s) refl refl
Agree-merges (Value k) (Slot s) g = pick_both (λ (m : MergedKey). conflicts m ≡ false) (ltb k.slot s) refl refl
Agree-merges Nothing (Value h) g = refl
Agree-merges (Slot t) (Value h) g = pick_both (λ (m : MergedKey). conflicts m ≡ false) (leb t h.slot) refl refl
Agree-merges (Value k) (Value h) g =
    pick_both (λ (m : MergedKey). conflicts m ≡ false) (ltb k.slot h.slot) refl
    (pick_cases (λ (m : MergedKey). conflicts m ≡ false) (eqb k.slot h.slot && not (eqb k.value h.value))
    (λ t.
    let two = and_both (eqb k.slot h.slot) (not (eqb k.value h.value)) t in
    let one : k.value ≡ h.value = g k.slot k.value h.value refl (rw (eqb-true k.slot h.slot two.0)) in
    absurd (clash (eq-eqb k.value h.value one) (not-true _ two.1)))
    (λ t. refl))

pub merges_agree : (a b : Best) → conflicts (merge_key a b) ≡ false → Agree a b
merges_agree a b g slot v w e f =
    ⊎_elim (λ (same : v ≡ w). same)
    (λ (other : v ≡ w → ⊥).
    absurd (clash refl (rw (e, f, le-ltb slot slot (le_refl slot), eq-eqb slot slot refl, ne_eqb v w other) at g)))
    (same? v w)

-- where two agree, what is known is fixed by its level
pub Agree-fixed : (a b : Best) → Agree a b → level a ≡ level b → a ≡ b
Agree-fixed Nothing Nothing g e = refl
Agree-fixed Nothing (Slot s) g e = absurd (omega arith)
Agree-fixed Nothing (Value h) g e = absurd (omega arith)
Agree-fixed (Slot t) Nothing g e = absurd (omega arith)
Agree-fixed (Slot t) (Slot s) g e = ap (λ (x : ℕ). Slot x) (omega arith)
Agree-fixed (Slot t) (Value h) g e = absurd (omega arith)
Agree-fixed (Value k) Nothing g e = absurd (omega arith)
Agree-fixed (Value k) (Slot s) g e = absurd (omega arith)
Agree-fixed (Value k) (Value h) g e =
    let at : h.slot ≡ k.slot = omega arith in
    let one : k.value ≡ h.value = g k.slot k.value h.value refl (rw at) in
    rw (at, one)

-- of one twice it is the one; of two that agree it is the same whichever comes first; of three, whichever two are taken first
pub more_self : (a : Best) → more_known a a ≡ a
more_self a = pick_same (ltb (level a) (level a)) a

pub more_commutes : (a b : Best) → Agree a b → more_known a b ≡ more_known b a
more_commutes a b g =
    pick_cases (λ (x : Best). x ≡ more_known b a) (ltb (level a) (level b)) (λ t. sym (more_left b a (omega (arith, tests))))
    (λ t. pick_cases (λ (x : Best). a ≡ x) (ltb (level b) (level a)) (λ u. refl) (λ u. Agree-fixed a b g (omega (arith, tests))))

pub more_associates : (a b c : Best) → more_known (more_known a b) c ≡ more_known a (more_known b c)
more_associates a b c =
    pick_cases (λ (x : Best). more_known x c ≡ more_known a (more_known b c)) (ltb (level a) (level b))
    (λ t. sym (more_right a (more_known b c) (omega (arith, tests, more_level b c, larger_left (level b) (level c)))))
    (λ t. pick_cases (λ (x : Best). more_known a c ≡ more_known a x) (ltb (level b) (level c)) (λ u. refl)
    (λ u. more_left a c (omega (arith, tests)) ∙ sym (more_left a b (omega (arith, tests)))))

pub more_agrees : (a b c : Best) → Agree a c → Agree b c → Agree (more_known a b) c
more_agrees a b c p q = pick_both (λ (x : Best). Agree x c) (ltb (level a) (level b)) q p

-- MANY ANSWERS

-- the larger of what is held and of each that is told, one after the other
abbrev pub most_known : Best → List Best → Best
most_known held [] = held
most_known held (told ∷ l) = most_known (more_known held told) l

-- it is one of them
pub most_among : (held : Best) (l : List Best) → most_known held l ∈ (held ∷ l)
most_among held [] = Memᴰ.head refl
most_among held (told ∷ l) = go (most_among (more_known held told) l)
  where
    go : most_known (more_known held told) l ∈ (more_known held told ∷ l) → most_known (more_known held told) l ∈ (held ∷ (told ∷ l))
    go (Memᴰ.head e) =
        pick_both (λ (x : Best). most_known (more_known held told) l ≡ x → most_known (more_known held told) l ∈ (held ∷ (told ∷ l))) (ltb (level held) (level told))
        (λ f. Memᴰ.tail (Memᴰ.head f)) (λ f. Memᴰ.head f) e
    go (Memᴰ.tail m) = Memᴰ.tail (Memᴰ.tail m)

-- and none is above it
pub most_above : (held : Best) (l : List Best) (b : Best) → b ∈ (held ∷ l) → level b ≤ level (most_known held l)
most_above held [] b (Memᴰ.tail x5) = elim x5 [ ]
most_above held [] b (Memᴰ.head e) = rw e (le_refl _)
most_above held (told ∷ l) b (Memᴰ.head e) =
    rw e (omega (arith, more_level held told, larger_left (level held) (level told), most_above (more_known held told) l (more_known held told) (Memᴰ.head refl)))
most_above held (told ∷ l) b (Memᴰ.tail (Memᴰ.head e)) =
    rw e (omega (arith, more_level held told, larger_right (level held) (level told), most_above (more_known held told) l (more_known held told) (Memᴰ.head refl)))
most_above held (told ∷ l) b (Memᴰ.tail (Memᴰ.tail m)) = most_above (more_known held told) l b (Memᴰ.tail m)

-- so, where all agree, any order and any repetition gives the same: both are the one with the highest level
pub most_same : (held : Best) (k l : List Best) → ((a b : Best) → a ∈ (held ∷ k) → b ∈ (held ∷ k) → Agree a b) → SameMembers k l → most_known held k ≡ most_known held l
most_same held k l g s =
    let here : most_known held k ∈ (held ∷ k) = most_among held k in
    let there : most_known held l ∈ (held ∷ k) = within (most_among held l) in
    Agree-fixed (most_known held k) (most_known held l) (g _ _ here there)
    (omega (arith, most_above held k (most_known held l) there, most_above held l (most_known held k) (back here)))
  where
    within : {b : Best} → b ∈ (held ∷ l) → b ∈ (held ∷ k)
    within (Memᴰ.head e) = Memᴰ.head e
    within (Memᴰ.tail m) = Memᴰ.tail (s.back _ m)

    back : {b : Best} → b ∈ (held ∷ k) → b ∈ (held ∷ l)
    back (Memᴰ.head e) = Memᴰ.head e
    back (Memᴰ.tail m) = Memᴰ.tail (s.there _ m)
