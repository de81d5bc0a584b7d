-- The least bar that a quorum of entries is not above is the quorum-th of the entries sorted, as the source finds it; and there are entries
-- enough wherever the source looks.
use Rattle.std.specs.Prelude.{◌≡◌, Bool, true, not, ◌&&◌, ◌||◌, ◌⊎◌, ltb, eqb, length, get_or}
use Rattle.std.proofs.Math.Path.{refl, ap}
use Rattle.std.proofs.Common.{sym, ◌∙◌, arith, length-append}
use Rattle.std.proofs.Math.Bool.{false, and-true, and-false, or-true}
use mathlib.Core.List.{List, [], ◌∷◌, ◌++◌}
use Rattle.std.proofs.Math.Logic.{inl, inr}
use Prim.Native.Nat.{ℕ, zero, suc, ◌+◌, ◌-◌, ◌%◌, ◌≤◌, ◌<◌}
use Rattle.std.proofs.Math.Nat.{le_refl}
use Rattle.std.proofs.Math.Dec.{leb}
use Rattle.std.proofs.Math.ListN.{get_or-eq_default}
use borrow.Author.Tests.{le-leb, lt-leb, lt-ltb, le-ltb, eq-eqb, leb-true, leb-false, ltb-true, ltb-false, eqb-true, eqb-false}
use Rattle.base.specs.Pick.{pick, pick_both, pick_cases, tests, decide, clash, and_left, and_right, and_make, one}
use Rattle.base.specs.Among.{All, All-append, All-map}
use Rattle.members.specs.Sets.{count}
use Rattle.members.specs.Groups.{group_size}
use Rattle.members.specs.Counting.{count_same, count_cut, count_put}
use Rattle.members.specs.Laws.{group_bounds}
use Rattle.decide.specs.declared.Scalars.{Scalars}
use Rattle.decide.specs.declared.PeerBars.{PeerBars}
use Rattle.decide.specs.Scalars.{unknown_bar, is_member, quorum}
use Rattle.decide.specs.Bars.{bar_of, has_entry, entries, put_sorted, sorted, quorumth, not_above, least_majority, with_bar}

-- how many of a list are not above x
unfoldable low : ℕ → List ℕ → ℕ
low x [] = 0
low x (y ∷ l) = one (leb y x) + low x l

-- ── sorting keeps how many are low, the length, and what holds of every element ──
low_put : (x y : ℕ) (l : List ℕ) → low x (put_sorted y l) ≡ one (leb y x) + low x l
unfolding low put_sorted
low_put x y [] = refl
low_put x y (z ∷ l) =
    pick_both (λ (k : List ℕ). low x k ≡ one (leb y x) + (one (leb z x) + low x l)) (leb y z) refl (omega (arith, low_put x y l))

low-sorted : (x : ℕ) (l : List ℕ) → low x (sorted l) ≡ low x l
unfolding low sorted
low-sorted x [] = refl
low-sorted x (y ∷ l) = omega (arith, low_put x y (sorted l), low-sorted x l)

low_most : (x : ℕ) (l : List ℕ) → low x l ≤ length l
unfolding low
low_most x [] = le_refl 0
low_most x (y ∷ l) = go (leb y x) (low_most x l)
  where
    go : (t : Bool) → low x l ≤ length l → one t + low x l ≤ suc (length l)
    go true h = omega arith
    go false h = omega arith

length_put : (y : ℕ) (l : List ℕ) → length (put_sorted y l) ≡ suc (length l)
unfolding put_sorted
length_put y [] = refl
length_put y (z ∷ l) = pick_both (λ (k : List ℕ). length k ≡ suc (suc (length l))) (leb y z) refl (ap suc (length_put y l))

length-sorted : (l : List ℕ) → length (sorted l) ≡ length l
unfolding sorted
length-sorted [] = refl
length-sorted (y ∷ l) = length_put y (sorted l) ∙ ap suc (length-sorted l)

All-put : (P : ℕ → Type 0) (y : ℕ) (l : List ℕ) → P y → All P l → All P (put_sorted y l)
unfolding put_sorted
All-put P y [] p h = (p, tt)
All-put P y (z ∷ l) p h = pick_both (λ (k : List ℕ). All P k) (leb y z) (p, h) (h.0, All-put P y l p h.1)

All-sorted : (P : ℕ → Type 0) (l : List ℕ) → All P l → All P (sorted l)
unfolding sorted
All-sorted P [] h = tt
All-sorted P (y ∷ l) h = All-put P y (sorted l) h.0 (All-sorted P l h.1)

All-at : (P : ℕ → Type 0) (l : List ℕ) (i : ℕ) → All P l → i < length l → P (get_or l i unknown_bar)
All-at P [] i h q = absurd (omega arith)
All-at P (y ∷ l) zero h q = h.0
All-at P (y ∷ l) (suc i) h q = All-at P l i h.1 (omega arith)

-- ── a sorted list rises ──
abbrev Rises : List ℕ → Type 0
Rises [] = Unit {0}
Rises (x ∷ l) = All (λ (y : ℕ). x ≤ y) l × Rises l

Rises-put : (y : ℕ) (l : List ℕ) → Rises l → Rises (put_sorted y l)
unfolding put_sorted
Rises-put y [] h = (tt, tt)
Rises-put y (z ∷ l) h =
    pick_cases (λ (k : List ℕ). Rises k) (leb y z)
    (λ t. ((omega (arith, tests), All-map (λ (w : ℕ). z ≤ w) (λ (w : ℕ). y ≤ w) (λ w q. omega (arith, tests)) l h.0), h))
    (λ t. (All-put (λ (w : ℕ). z ≤ w) y l (omega (arith, tests)) h.0, Rises-put y l h.1))

Rises-sorted : (l : List ℕ) → Rises (sorted l)
unfolding sorted
Rises-sorted [] = tt
Rises-sorted (y ∷ l) = Rises-put y (sorted l) (Rises-sorted l)

-- in a rising list, the element at i has i + 1 that are not above it
Rises-many : (l : List ℕ) (i : ℕ) → Rises l → i < length l → i < low (get_or l i unknown_bar) l
unfolding low
Rises-many [] i h q = absurd (omega arith)
Rises-many (x ∷ l) zero h q = rw (le-leb x x (le_refl x)) (omega arith)
Rises-many (x ∷ l) (suc i) h q =
    rw (le-leb x (get_or l i unknown_bar) (All-at (λ (y : ℕ). x ≤ y) l i h.0 (omega arith))) (omega (arith, Rises-many l i h.1 (omega arith)))

-- and what is less than the element at i has at most i
none_low : (v : ℕ) (l : List ℕ) → All (λ (y : ℕ). v < y) l → low v l ≡ 0
unfolding low
none_low v [] h = refl
none_low v (x ∷ l) h = rw (lt-leb x v h.0) (omega (arith, none_low v l h.1))

Rises-few : (l : List ℕ) (i v : ℕ) → Rises l → i < length l → v < get_or l i unknown_bar → low v l ≤ i
unfolding low
Rises-few [] i v h q u = absurd (omega arith)
Rises-few (x ∷ l) zero v h q u =
    rw (lt-leb x v u) (omega (arith, none_low v l (All-map (λ (y : ℕ). x ≤ y) (λ (y : ℕ). v < y) (λ y w. omega arith) l h.0)))
Rises-few (x ∷ l) (suc i) v h q u = go (leb x v) (Rises-few l i v h.1 (omega arith) u)
  where
    go : (t : Bool) → low v l ≤ i → one t + low v l ≤ suc i
    go true k = omega arith
    go false k = omega arith

-- ── the table's entries ──
low-append : (x y : ℕ) (l : List ℕ) → low x (l ++ (y ∷ [])) ≡ low x l + one (leb y x)
unfolding low
low-append x y [] = omega arith
low-append x y (z ∷ l) = omega (arith, low-append x y l)

pick_through_length : (t : Bool) (l : List ℕ) (y : ℕ) → length (pick t (l ++ (y ∷ [])) l) ≡ length l + one t
pick_through_length true l y = length-append l (y ∷ [])
pick_through_length false l y = omega arith

-- a group of n has n members
count_below : (n g : ℕ) → n ≤ g → count n (λ m. ltb m g) ≡ n
unfolding count
count_below zero g h = refl
count_below (suc n) g h = rw (lt-ltb n g h) (omega (arith, count_below n g (omega arith)))

count_members : (g : ℕ) → g ≤ 9 → count 9 (λ m. ltb m g) ≡ g
count_members g h = count_cut g 9 (λ m. ltb m g) h (λ i l. le-ltb i g l) ∙ count_below g g (le_refl g)

module _ (sc : Scalars) (b : PeerBars) where
  count-entries : (x n : ℕ) → count n (λ m. has_entry sc b m && leb (bar_of b m) x) ≡ low x (entries sc b n)
  unfolding count entries low
  count-entries x zero = refl
  count-entries x (suc m) = go (decide (has_entry sc b m)) (count-entries x m)
    where
      go : (has_entry sc b m ≡ true) ⊎ (has_entry sc b m ≡ false) → count m (λ k. has_entry sc b k && leb (bar_of b k) x) ≡ low x (entries sc b m)
          → count m (λ k. has_entry sc b k && leb (bar_of b k) x) + one (has_entry sc b m && leb (bar_of b m) x)
          ≡ low x (pick (has_entry sc b m) (entries sc b m ++ (bar_of b m ∷ [])) (entries sc b m))
      go (inl e) ih = rw e (omega (arith, low-append x (bar_of b m) (entries sc b m)))
      go (inr e) ih = rw e (omega arith)

  not_above-low : (x : ℕ) → not_above sc b x ≡ low x (entries sc b 9)
  unfolding not_above
  not_above-low x = count-entries x 9

  -- a turn takes the entry where all three tests hold
  takes : ℕ → Bool
  takes m = has_entry sc b m && (leb (quorum sc) (not_above sc b (bar_of b m)) && ltb (bar_of b m) (least_majority sc b m))

  least_falls : (m : ℕ) → least_majority sc b (suc m) ≤ least_majority sc b m
  unfolding least_majority takes
  least_falls m =
      pick_cases (λ (x : ℕ). x ≤ least_majority sc b m) (takes m)
      (λ t. omega (arith, ltb-true (bar_of b m) (least_majority sc b m) (and_right (leb (quorum sc) (not_above sc b (bar_of b m))) _ (and_right (has_entry sc b m) _ t))))
      (λ t. le_refl (least_majority sc b m))

  least_here : (m : ℕ) → has_entry sc b m ≡ true → quorum sc ≤ not_above sc b (bar_of b m) → least_majority sc b (suc m) ≤ bar_of b m
  unfolding least_majority takes
  least_here m e q = pick_cases (λ (x : ℕ). x ≤ bar_of b m) (takes m) (λ t. le_refl (bar_of b m)) (λ t. go t (decide (ltb (bar_of b m) (least_majority sc b m))))
    where
      go : takes m ≡ false → (ltb (bar_of b m) (least_majority sc b m) ≡ true) ⊎ (ltb (bar_of b m) (least_majority sc b m) ≡ false) → least_majority sc b m ≤ bar_of b m
      go t (inl u) = absurd (clash (and_make e (and_make (le-leb (quorum sc) (not_above sc b (bar_of b m)) q) u)) t)
      go t (inr u) = ltb-false (bar_of b m) (least_majority sc b m) u

  abbrev Above : ℕ → ℕ → Type 0
  Above n e = quorum sc ≤ not_above sc b e → least_majority sc b n ≤ e

  -- the least is below every entry that a quorum is not above
  least_below : (n : ℕ) → All (Above n) (entries sc b n)
  unfolding entries
  least_below zero = tt
  least_below (suc m) =
      let old : All (Above (suc m)) (entries sc b m) =
      All-map (Above m) (Above (suc m)) (λ e h q. omega (arith, h q, least_falls m)) (entries sc b m) (least_below m)
      in
      pick_cases (λ (l : List ℕ). All (Above (suc m)) l) (has_entry sc b m)
      (λ t. All-append (Above (suc m)) (entries sc b m) (bar_of b m ∷ []) old (least_here m t, tt))
      (λ t. old)

  -- and a quorum is not above it, where it is known
  least_many : (n : ℕ) → (least_majority sc b n ≡ unknown_bar) ⊎ (quorum sc ≤ not_above sc b (least_majority sc b n))
  unfolding least_majority takes
  least_many zero = inl refl
  least_many (suc m) =
      pick_cases (λ (x : ℕ). (x ≡ unknown_bar) ⊎ (quorum sc ≤ not_above sc b x)) (takes m)
      (λ t. inr (leb-true _ _ (and_left (leb (quorum sc) (not_above sc b (bar_of b m))) _ (and_right (has_entry sc b m) _ t))))
      (λ t. least_many m)

  All-entries : (P : ℕ → Type 0) → ((m : ℕ) → P (bar_of b m)) → (n : ℕ) → All P (entries sc b n)
  unfolding entries
  All-entries P h zero = tt
  All-entries P h (suc m) =
      pick_both (λ (l : List ℕ). All P l) (has_entry sc b m) (All-append P (entries sc b m) (bar_of b m ∷ []) (All-entries P h m) (h m, tt)) (All-entries P h m)

  -- where the source's index is in range
  least_sorted : ((m : ℕ) → bar_of b m ≤ unknown_bar) → quorum sc ≤ length (entries sc b 9) → least_majority sc b 9 ≡ quorumth sc b
  least_sorted small enough = go (least_many 9)
    where
      rising : List ℕ
      rising = sorted (entries sc b 9)

      inside : quorum sc - 1 < length rising
      inside = omega (arith, length-sorted (entries sc b 9))

      same : (x : ℕ) → not_above sc b x ≡ low x rising
      same x = not_above-low x ∙ sym (low-sorted x (entries sc b 9))

      below : least_majority sc b 9 ≤ quorumth sc b
      below =
          All-at (Above 9) rising (quorum sc - 1) (All-sorted (Above 9) (entries sc b 9) (least_below 9)) inside
          (omega (arith, same (quorumth sc b), Rises-many rising (quorum sc - 1) (Rises-sorted (entries sc b 9)) inside))

      known : quorumth sc b ≤ unknown_bar
      known =
          All-at (λ (x : ℕ). x ≤ unknown_bar) rising (quorum sc - 1)
          (All-sorted (λ (x : ℕ). x ≤ unknown_bar) (entries sc b 9) (All-entries (λ (x : ℕ). x ≤ unknown_bar) small 9)) inside

      least : quorum sc ≤ not_above sc b (least_majority sc b 9)
          → (ltb (least_majority sc b 9) (quorumth sc b) ≡ true) ⊎ (ltb (least_majority sc b 9) (quorumth sc b) ≡ false) → quorumth sc b ≤ least_majority sc b 9
      least q (inl t) =
          absurd
          (omega (
            arith,
            same (least_majority sc b 9),
            Rises-few rising (quorum sc - 1) (least_majority sc b 9) (Rises-sorted (entries sc b 9)) inside (ltb-true (least_majority sc b 9) (quorumth sc b) t),
          ))
      least q (inr t) = ltb-false (least_majority sc b 9) (quorumth sc b) t

      go : (least_majority sc b 9 ≡ unknown_bar) ⊎ (quorum sc ≤ not_above sc b (least_majority sc b 9)) → least_majority sc b 9 ≡ quorumth sc b
      go (inl e) = omega (arith, below, known)
      go (inr q) = omega (arith, below, least q (decide (ltb (least_majority sc b 9) (quorumth sc b))))

  -- what the code finds by counting is what the source finds by sorting, on every table: bars are 64-bit numbers
  pub least_is_quorumth : ((m : ℕ) → bar_of b m ≤ unknown_bar) → least_majority sc b 9 ≡ quorumth sc b
  least_is_quorumth small = go (decide (leb (quorum sc) (length (entries sc b 9))))
    where
      -- fewer entries than a quorum: none has a quorum that is not above it
      few : length (entries sc b 9) < quorum sc → (least_majority sc b 9 ≡ unknown_bar) ⊎ (quorum sc ≤ not_above sc b (least_majority sc b 9)) → least_majority sc b 9 ≡ unknown_bar
      few l (inl e) = e
      few l (inr q) = absurd (omega (arith, not_above-low (least_majority sc b 9), low_most (least_majority sc b 9) (entries sc b 9)))

      go : (leb (quorum sc) (length (entries sc b 9)) ≡ true) ⊎ (leb (quorum sc) (length (entries sc b 9)) ≡ false) → least_majority sc b 9 ≡ quorumth sc b
      go (inl e) = least_sorted small (leb-true _ _ e)
      go (inr e) =
          let l = leb-false (quorum sc) (length (entries sc b 9)) e in
          few l (least_many 9) ∙ sym (get_or-eq_default (sorted (entries sc b 9)) unknown_bar {n = quorum sc - 1} (omega (arith, length-sorted (entries sc b 9))))

  -- ── there are entries enough wherever a member's bar can fall ──
  length-entries : (n : ℕ) → length (entries sc b n) ≡ count n (has_entry sc b)
  unfolding entries count
  length-entries zero = refl
  length-entries (suc m) =
      pick_through_length (has_entry sc b m) (entries sc b m) (bar_of b m) ∙ ap (λ (k : ℕ). k + one (has_entry sc b m)) (length-entries m)

  entries_enough : (m : ℕ) → group_size sc.group ≡ true → sc.id < sc.group → has_entry sc b m ≡ true → quorum sc ≤ length (entries sc b 9)
  entries_enough m g i h = rw (length-entries 9) (go (decide b.own))
    where
      small : sc.group ≤ 9
      small = (group_bounds sc.group g).1

      odd : sc.group % 2 ≡ 1
      odd = eqb-true (sc.group % 2) 1 (and_right (leb sc.group 9) _ g)

      go : (b.own ≡ true) ⊎ (b.own ≡ false) → quorum sc ≤ count 9 (has_entry sc b)
      go (inl o) =
          let e = count_same 9 (has_entry sc b) (λ k. ltb k sc.group) (λ k l. rw (o, or-true (not (eqb k sc.id)), and-true (ltb k sc.group))) in
          omega (arith, odd, count_members sc.group small)
      go (inr o) =
          let e =
          count_put 9 sc.id (λ k. ltb k sc.group) (has_entry sc b) (omega (arith, small)) (lt-ltb sc.id sc.group i)
          (rw (eq-eqb sc.id sc.id refl, o, and-false (ltb sc.id sc.group)))
          (λ k l q. rw (q, and-true (ltb k sc.group)))
          in
          let k = ltb-true m sc.group (and_left (ltb m sc.group) _ h) in
          let q = other (decide (eqb m sc.id)) in
          omega (arith, odd, count_members sc.group small)
        where
          other : (eqb m sc.id ≡ true) ⊎ (eqb m sc.id ≡ false) → m ≡ sc.id → ⊥
          other (inl t) z = clash (and_right (ltb m sc.group) _ h) (rw (t, o))
          other (inr t) z = eqb-false m sc.id t z

-- who told a bar has an entry
with_bar_entry : (sc : Scalars) (b : PeerBars) (m bar : ℕ) → is_member sc m ≡ true → has_entry sc (with_bar sc b m bar) m ≡ true
unfolding with_bar
with_bar_entry sc b m bar e = go (decide (eqb m sc.id))
  where
    go : (eqb m sc.id ≡ true) ⊎ (eqb m sc.id ≡ false) → (is_member sc m && (not (eqb m sc.id) || (b.own || eqb m sc.id))) ≡ true
    go (inl t) = rw (e, t, or-true b.own)
    go (inr t) = rw (e, t)

-- so in a fit group the table has a quorum of entries whenever the source looks, and its index is in range
pub fallen_enough : (sc : Scalars) (b : PeerBars) (m bar : ℕ) → group_size sc.group ≡ true → sc.id < sc.group → is_member sc m ≡ true
    → quorum sc ≤ length (entries sc (with_bar sc b m bar) 9)
fallen_enough sc b m bar g i e = entries_enough sc (with_bar sc b m bar) m g i (with_bar_entry sc b m bar e)
