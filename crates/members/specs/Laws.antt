-- Laws of member sets, quorums and ballots: what callers and theorems cite instead of the definitions' text.
use Rattle.std.specs.Prelude.{◌≡◌, refl, true, false, ◌||◌, ◌⊎◌, ℕ, zero, suc, ◌+◌, ◌-◌, ◌*◌, ◌/◌, ◌%◌, ◌^◌, ◌≤◌, ◌<◌, ltb, leb, eqb}
use Rattle.std.proofs.Common.{sym, ap, ◌∙◌, inl, inr, lt_of_lt_of_le, div-one, pow-suc, le-div_iff_mul-le, arith, pow_pos, pow_mono, lt-ltb, le-ltb, le-leb, eq-eqb, ne_eqb, ltb-true, ltb-false, leb-true, eqb-true}
use Rattle.std.proofs.Math.Bool.{and-false, or-true}
use Rattle.std.proofs.Math.Nat.{div-eq_of_lt, div-div-eq-div-mul, pow-succ'}
use Rattle.std.proofs.Math.Dec.{eqb-zero-suc, eqb-suc-zero, eqb-suc-suc}
use Rattle.std.proofs.Math.Arith.{mod-mul}
use Rattle.std.proofs.lemmas.Bool.{lt-leb, eqb-false}
use Rattle.base.specs.Pick.{pick, tests, decide, and_left, and_right, or-false}
use Rattle.members.specs.Sets.{has, insert, count, count_in, fits_group}
use Rattle.members.specs.Counting.{count_same, count_most, count_none, count_cut, count_put, overlap}
use Rattle.members.specs.Groups.{group_size, quorum_of}
use Rattle.members.specs.Ballots.{owns, owner_of, ballot_above, next_ballot}
use Rattle.std.specs.declared.option.Option.TheVariants.{None, Some}

-- ── bits of a number ──

-- bit m + 1 is bit m of the half
half : (x m : ℕ) → x / 2 ^ suc m ≡ x / 2 / 2 ^ m
half x m = ap (λ (d : ℕ). x / d) (pow-succ' 2 m) ∙ sym (div-div-eq-div-mul x 2 (2 ^ m))

-- bit 0 is of the number itself
first : (x : ℕ) → x / 2 ^ 0 ≡ x
first x = div-one x

-- where bit i is 0, adding 2 ^ i sets it and leaves every other
set_bit : (x i j : ℕ) → x / 2 ^ i % 2 ≡ 0 → (x + 2 ^ i) / 2 ^ j % 2 ≡ pick (eqb j i) 1 (x / 2 ^ j % 2)
set_bit x zero zero h = omega (arith, first x, first (x + 2 ^ 0))
set_bit x zero (suc j) h =
    let e : (x + 2 ^ 0) / 2 ≡ x / 2 = omega (arith, first x) in
    ap (λ (q : ℕ). q % 2) (half (x + 2 ^ 0) j ∙ ap (λ (q : ℕ). q / 2 ^ j) e ∙ sym (half x j)) ∙ rw (eqb-suc-zero j)
set_bit x (suc i) zero h = rw (eqb-zero-suc i) (omega (arith, first x, first (x + 2 ^ suc i)))
set_bit x (suc i) (suc j) h =
    let e : (x + 2 ^ suc i) / 2 ≡ x / 2 + 2 ^ i = omega arith in
    let g : x / 2 / 2 ^ i % 2 ≡ 0 = rw half at h in
    rw (eqb-suc-suc j i, half x j)
    (ap (λ (q : ℕ). q % 2) (half (x + 2 ^ suc i) j ∙ ap (λ (q : ℕ). q / 2 ^ j) e) ∙ set_bit (x / 2) i j g)

-- and it stays below a power of two above 2 ^ i
set_below : (x i n : ℕ) → x < 2 ^ n → i < n → x / 2 ^ i % 2 ≡ 0 → x + 2 ^ i < 2 ^ n
set_below x zero zero h l z = elim l [ ]
set_below x (suc i) zero h l z = elim l [ ]
set_below x zero (suc n) h l z = omega (arith, first x)
set_below x (suc i) (suc n) h l z =
    let g : x / 2 / 2 ^ i % 2 ≡ 0 = rw half at z in
    omega (arith, set_below (x / 2) i n (omega arith) (omega arith) g)

-- what is left modulo 2 ^ (n + 1) has bit 0 of the number, and above it what is left of the half
low_half : (x n : ℕ) → x % 2 ^ suc n ≡ x / 2 % 2 ^ n * 2 + x % 2
low_half x n = ap (λ (d : ℕ). x % d) (pow-suc 2 n) ∙ mod-mul x (pow_pos n) (omega arith)

-- so below bit n its bits are the number's own
low_bit : (x i n : ℕ) → i < n → x % 2 ^ n / 2 ^ i % 2 ≡ x / 2 ^ i % 2
low_bit x zero zero l = elim l [ ]
low_bit x (suc i) zero l = elim l [ ]
low_bit x zero (suc n) l = omega (arith, low_half x n, first x, first (x % 2 ^ suc n))
low_bit x (suc i) (suc n) l =
    let e : x % 2 ^ suc n / 2 ≡ x / 2 % 2 ^ n = omega (arith, low_half x n) in
    rw (half (x % 2 ^ suc n) i, half x i, e) (low_bit (x / 2) i n (omega arith))

-- two numbers below 2 ^ n with the same bits are one
same_bits : (x y n : ℕ) → x < 2 ^ n → y < 2 ^ n → ((i : ℕ) → i < n → x / 2 ^ i % 2 ≡ y / 2 ^ i % 2) → x ≡ y
same_bits x y zero h k e = omega arith
same_bits x y (suc n) h k e =
    let upper : x / 2 ≡ y / 2 =
    same_bits (x / 2) (y / 2) n (omega arith) (omega arith) (λ i l. rw (← half x i, ← half y i) (e (suc i) (omega arith))) in
    omega (arith, first x, first y, e 0 (omega arith))

-- ── who is in a set ──

-- a number above 8 is no member of any set
pub has_past : (set m : ℕ) → 8 < m → has set m ≡ false
unfolding has
has_past set m h = rw (lt-leb m 8 h)

-- of a member, its bit says whether it is in
pub has_bit : (set m : ℕ) → m ≤ 8 → has set m ≡ eqb (set / 2 ^ m % 2) 1
unfolding has
has_bit set m h = rw (le-leb m 8 h)

-- who is not in it has bit 0
out_bit : (set m : ℕ) → m ≤ 8 → has set m ≡ false → set / 2 ^ m % 2 ≡ 0
out_bit set m h e = let q = eqb-false (set / 2 ^ m % 2) 1 (sym (has_bit set m h) ∙ e) in omega arith

-- nobody is in the empty set
pub has_none : (m : ℕ) → has 0 m ≡ false
unfolding has
has_none m = let e : 0 / 2 ^ m ≡ 0 = div-eq_of_lt (pow_pos m) in rw e (and-false (leb m 8))

-- who is in a set is one of 0 to 8
pub has_member : (set m : ℕ) → has set m ≡ true → m < 9
unfolding has
has_member set m e = let h = leb-true m 8 (and_left (leb m 8) _ e) in omega arith

-- two sets with the same members are one
pub sets_same : (a b : ℕ) → a < 512 → b < 512 → ((m : ℕ) → m < 9 → has a m ≡ has b m) → a ≡ b
sets_same a b h k e =
    same_bits a b 9 h k (λ m l. one (a / 2 ^ m % 2) (b / 2 ^ m % 2) (sym (has_bit a m (omega arith)) ∙ (e m l ∙ has_bit b m (omega arith))) (omega arith) (omega arith))
  where
    one : (x y : ℕ) → eqb x 1 ≡ eqb y 1 → x < 2 → y < 2 → x ≡ y
    one x y f u v = go (decide (eqb x 1))
      where
        go : (eqb x 1 ≡ true) ⊎ (eqb x 1 ≡ false) → x ≡ y
        go (inl t) = let w = eqb-true y 1 (sym f ∙ t) in omega (arith, tests)
        go (inr t) = let w = eqb-false y 1 (sym f ∙ t) in omega (arith, tests)

-- ── putting a member in: the four cases ──

-- a number above 511 is no set, and stays
pub insert_full : (set m : ℕ) → 511 < set → insert set m ≡ set
unfolding insert
insert_full set m h = rw (lt-ltb 511 set h)

-- a number above 8 is no member
pub insert_past : (set m : ℕ) → 8 < m → insert set m ≡ set
unfolding insert
insert_past set m h = rw (lt-ltb 8 m h, or-true)

-- who is in it already changes nothing
pub insert_again : (set m : ℕ) → has set m ≡ true → insert set m ≡ set
unfolding insert
insert_again set m e = rw (e, or-true)

-- who is not in it adds its bit
pub insert_new : (set m : ℕ) → set < 512 → m < 9 → has set m ≡ false → insert set m ≡ set + 2 ^ m
unfolding insert
insert_new set m h l e = rw (le-ltb 511 set (omega arith), le-ltb 8 m (omega arith), e)

-- who is in it after: the one put in, and who was in it
pub has-insert : (set i j : ℕ) → set < 512 → i < 9 → j < 9 → has (insert set i) j ≡ (eqb j i || has set j)
has-insert set i j s l k = go (decide (has set i)) (decide (eqb j i))
  where
    put : has set i ≡ false → has (insert set i) j ≡ eqb (pick (eqb j i) 1 (set / 2 ^ j % 2)) 1
    put e =
        rw (insert_new set i s l e)
        (has_bit (set + 2 ^ i) j (omega arith) ∙ ap (λ (b : ℕ). eqb b 1) (set_bit set i j (out_bit set i (omega arith) e)))

    go : (has set i ≡ true) ⊎ (has set i ≡ false) → (eqb j i ≡ true) ⊎ (eqb j i ≡ false) → has (insert set i) j ≡ (eqb j i || has set j)
    go (inl e) (inl q) = rw (insert_again set i e, q, eqb-true j i q) e
    go (inl e) (inr q) = rw (insert_again set i e, q)
    go (inr e) (inl q) = put e ∙ rw q
    go (inr e) (inr q) = put e ∙ rw q (sym (has_bit set j (omega arith)))

-- the one put in is in it
pub has_inserted : (set i : ℕ) → set < 512 → i < 9 → has (insert set i) i ≡ true
has_inserted set i s l = has-insert set i i s l l ∙ rw (eq-eqb i i refl)

-- ── sets within a group ──

-- the empty set is within every group
pub within_none : (n : ℕ) → fits_group 0 n ≡ true
within_none n = lt-ltb 0 (2 ^ n) (pow_pos n)

-- who is in a set within a group of n is below n
pub within_below : (set n i : ℕ) → fits_group set n ≡ true → has set i ≡ true → i < n
unfolding has
within_below set n i f e = go (decide (ltb i n))
  where
    go : (ltb i n ≡ true) ⊎ (ltb i n ≡ false) → i < n
    go (inl t) = ltb-true i n t
    go (inr t) =
        let p : 2 ^ n ≤ 2 ^ i = pow_mono (ltb-false i n t) in
        let z : set / 2 ^ i ≡ 0 = div-eq_of_lt (omega (arith, tests)) in
        let b = eqb-true (set / 2 ^ i % 2) 1 (and_right (leb i 8) _ e) in
        absurd (omega arith)

-- putting in a member of the group keeps it within
pub within_insert : (set n i : ℕ) → fits_group set n ≡ true → i < n → fits_group (insert set i) n ≡ true
within_insert set n i f l = go (decide (ltb 511 set)) (decide (ltb 8 i)) (decide (has set i))
  where
    go : (ltb 511 set ≡ true) ⊎ (ltb 511 set ≡ false) → (ltb 8 i ≡ true) ⊎ (ltb 8 i ≡ false) → (has set i ≡ true) ⊎ (has set i ≡ false)
        → fits_group (insert set i) n ≡ true
    go (inl t) u e = rw (insert_full set i (ltb-true 511 set t)) f
    go (inr t) (inl u) e = rw (insert_past set i (ltb-true 8 i u)) f
    go (inr t) (inr u) (inl e) = rw (insert_again set i e) f
    go (inr t) (inr u) (inr e) =
        rw (insert_new set i (omega (arith, tests)) (omega (arith, tests)) e)
        (lt-ltb (set + 2 ^ i) (2 ^ n) (set_below set i n (ltb-true set (2 ^ n) f) l (out_bit set i (omega (arith, tests)) e)))

-- a set within a group is below 512
pub within_small : (set n : ℕ) → n ≤ 9 → fits_group set n ≡ true → set < 512
within_small set n l f = lt_of_lt_of_le (ltb-true set (2 ^ n) f) (pow_mono l)

-- a set stays below 512, whatever is put in
pub insert_below : (set i : ℕ) → set < 512 → insert set i < 512
insert_below set i s = go (decide (ltb i 9))
  where
    go : (ltb i 9 ≡ true) ⊎ (ltb i 9 ≡ false) → insert set i < 512
    go (inl t) = ltb-true (insert set i) (2 ^ 9) (within_insert set 9 i (lt-ltb set (2 ^ 9) s) (ltb-true i 9 t))
    go (inr t) = rw (insert_past set i (ltb-false i 9 t)) s

-- ── how many are in a set ──

-- at most nine
pub count_nine : (set : ℕ) → count_in set ≤ 9
unfolding count_in
count_nine set = count_most 9 (has set)

-- none in the empty set
pub count_empty : count_in 0 ≡ 0
unfolding count_in
count_empty = count_none 9 (has 0) (λ i l. has_none i)

-- of a set within a group of n, it is enough to count the group
pub count_group : (set n : ℕ) → n ≤ 9 → fits_group set n ≡ true → count_in set ≡ count n (has set)
unfolding count_in
count_group set n l f = count_cut n 9 (has set) l (λ i h. out i h (decide (has set i)))
  where
    out : (i : ℕ) → n ≤ i → (has set i ≡ true) ⊎ (has set i ≡ false) → has set i ≡ false
    out i h (inl e) = let b = within_below set n i f e in absurd (omega arith)
    out i h (inr e) = e

-- and at most n are in it
pub count_within : (set n : ℕ) → n ≤ 9 → fits_group set n ≡ true → count_in set ≤ n
count_within set n l f = omega (arith, count_group set n l f, count_most n (has set))

-- putting in one who is not in it makes it one more
pub count_new : (set i : ℕ) → set < 512 → i < 9 → has set i ≡ false → count_in (insert set i) ≡ count_in set + 1
unfolding count_in
count_new set i s l e =
    count_put 9 i (has (insert set i)) (has set) l (has_inserted set i s l) e (λ j k q. has-insert set i j s l k ∙ rw q)

-- and putting in one who is in it changes nothing
pub count_again : (set i : ℕ) → has set i ≡ true → count_in (insert set i) ≡ count_in set
count_again set i e = ap count_in (insert_again set i e)

-- a number's members are those of its bits 0 to 8
pub count_low : (set : ℕ) → count_in (set % 512) ≡ count_in set
unfolding count_in
count_low set = count_same 9 (has (set % 512)) (has set) same
  where
    same : (i : ℕ) → i < 9 → has (set % 512) i ≡ has set i
    same i l =
        has_bit (set % 512) i (omega arith) ∙ ap (λ (b : ℕ). eqb b 1) (low_bit set i 9 l) ∙ sym (has_bit set i (omega arith))

-- a group has 1 to 9 members
pub group_bounds : (n : ℕ) → group_size n ≡ true → (0 < n) × (n ≤ 9)
group_bounds n e =
    let odd = eqb-true (n % 2) 1 (and_right (leb n 9) _ e) in
    (omega arith, leb-true n 9 (and_left (leb n 9) _ e))

-- a quorum of a group is no more than the group
pub quorum_most : (n : ℕ) → 0 < n → quorum_of n ≤ n
quorum_most n l = omega arith

-- any two quorums of one group share a member
pub quorums_meet : (n a b : ℕ) → n ≤ 9 → fits_group a n ≡ true → fits_group b n ≡ true → quorum_of n ≤ count_in a → quorum_of n ≤ count_in b
    → (i : ℕ) × (i < n) × (has a i ≡ true) × (has b i ≡ true)
quorums_meet n a b l f g p q = overlap n (has a) (has b) (omega (arith, count_group a n l f, count_group b n l g))

-- ── shifts, as the code has them ──

-- a set is within n exactly if nothing is left of it after n bits
pub within_shift : (set n : ℕ) → eqb (set / 2 ^ n) 0 ≡ fits_group set n
within_shift set n = go (decide (ltb set (2 ^ n)))
  where
    go : (ltb set (2 ^ n) ≡ true) ⊎ (ltb set (2 ^ n) ≡ false) → eqb (set / 2 ^ n) 0 ≡ ltb set (2 ^ n)
    go (inl t) = eq-eqb _ 0 (div-eq_of_lt (ltb-true set (2 ^ n) t)) ∙ sym t
    go (inr t) =
        let q : 1 ≤ set / 2 ^ n = (le-div_iff_mul-le (pow_pos n)).1 (omega (arith, tests)) in
        ne_eqb (set / 2 ^ n) 0 (λ z. omega arith) ∙ sym t

-- every number of 64 bits is within 64 or more
pub within_all : (set n : ℕ) → set < 2 ^ 64 → 63 < n → fits_group set n ≡ true
within_all set n s l = lt-ltb set (2 ^ n) (lt_of_lt_of_le s (pow_mono l))

-- a member's bit is no more than 256
pub bit_small : (m : ℕ) → m ≤ 8 → 2 ^ m ≤ 256
bit_small m l = pow_mono l

-- the sum that the code makes, with the shift as it is denoted
pub inserted : (set m : ℕ) → set < 512 → m < 9 → has set m ≡ false → set + (1 * 2 ^ m) % 18446744073709551616 ≡ insert set m
inserted set m s l e = let h = bit_small m (omega arith) in omega (arith, insert_new set m s l e)

-- ── ballots ──

-- who owns a ballot is its owner
pub owner_of-owns : (ballot m : ℕ) → owns ballot m ≡ true → owner_of ballot ≡ Some m
owner_of-owns ballot m e =
    let h = eqb-true (ballot % 256) (m + 1) e in
    let k : ballot % 256 - 1 ≡ m = omega arith in
    rw (ne_eqb (ballot % 256) 0 (λ z. omega arith), k)

-- and its owner owns it
pub owns_of_owner : (ballot m : ℕ) → owner_of ballot ≡ Some m → owns ballot m ≡ true
owns_of_owner ballot m = go (decide (eqb (ballot % 256) 0))
  where
    go : (eqb (ballot % 256) 0 ≡ true) ⊎ (eqb (ballot % 256) 0 ≡ false) → owner_of ballot ≡ Some m → owns ballot m ≡ true
    go (inl t) e = let z : ◌≡◌ {A = ℕ} 0 1 = cc (rw t at e) in absurd (omega arith)
    go (inr t) e =
        let h = eqb-false (ballot % 256) 0 t in
        let k : ballot % 256 - 1 ≡ m = cc (rw t at e) in
        eq-eqb (ballot % 256) (m + 1) (omega arith)

-- a ballot has one owner
pub owners_same : (ballot m k : ℕ) → owns ballot m ≡ true → owns ballot k ≡ true → m ≡ k
owners_same ballot m k p q = omega (arith, tests)

-- a ballot that is owned is not 0
pub owned_positive : (ballot m : ℕ) → owns ballot m ≡ true → 0 < ballot
owned_positive ballot m e = omega (arith, tests)

-- an owner is at most 254
pub owner_small : (ballot m : ℕ) → owns ballot m ≡ true → m ≤ 254
owner_small ballot m e = omega (arith, tests)

-- the next ballot's owner is the id that it was made for
pub next_owned : (max id : ℕ) → id ≤ 254 → owns (ballot_above max id) id ≡ true
next_owned max id l = eq-eqb (ballot_above max id % 256) (id + 1) (omega arith)

-- the same, by name
pub next_owner : (max id : ℕ) → id ≤ 254 → owner_of (ballot_above max id) ≡ Some id
next_owner max id l = owner_of-owns (ballot_above max id) id (next_owned max id l)

-- it is larger than the largest seen
pub next_larger : (max id : ℕ) → max < ballot_above max id
next_larger max id = omega arith

-- next ballots of different ids never coincide, whatever each has seen
pub next_apart : (max id max' id' : ℕ) → id ≤ 254 → id' ≤ 254 → ballot_above max id ≡ ballot_above max' id' → id ≡ id'
next_apart max id max' id' l l' e = omega arith

-- where it is not refused it fits 64 bits
pub next_fits : (max id : ℕ) → max < 2 ^ 64 → id ≤ 254 → (max / 256 ≡ 72057594037927935 → ⊥) → ballot_above max id < 2 ^ 64
next_fits max id h l n = omega arith

-- what is known of a next ballot that was made
pub record Next (max id ballot : ℕ) : Type 0 where
  pub small : id ≤ 254
  pub left : max / 256 ≡ 72057594037927935 → ⊥
  pub made : ballot ≡ ballot_above max id

-- and it is known of each
pub Next-given : (max id ballot : ℕ) → next_ballot max id ≡ Some ballot → Next max id ballot
Next-given max id ballot = go (decide (ltb 254 id || eqb (max / 256) 72057594037927935))
  where
    go : ((ltb 254 id || eqb (max / 256) 72057594037927935) ≡ true) ⊎ ((ltb 254 id || eqb (max / 256) 72057594037927935) ≡ false)
        → next_ballot max id ≡ Some ballot → Next max id ballot
    go (inl t) e = let z : ◌≡◌ {A = ℕ} 0 1 = cc (rw t at e) in absurd (omega arith)
    go (inr t) e =
        let h = or-false (ltb 254 id) _ t in
        record { small = ltb-false 254 id h.0; left = eqb-false (max / 256) 72057594037927935 h.1; made = cc (rw t at e) }

-- it is refused at the last round
pub next_spent : (max id : ℕ) → max / 256 ≡ 72057594037927935 → next_ballot max id ≡ None
next_spent max id e = rw (eq-eqb (max / 256) 72057594037927935 e, or-true)

-- and to an id that owns no ballot
pub next_stranger : (max id : ℕ) → 254 < id → next_ballot max id ≡ None
next_stranger max id l = rw (lt-ltb 254 id l)

-- and made in every other case
pub next_made : (max id : ℕ) → id ≤ 254 → (max / 256 ≡ 72057594037927935 → ⊥) → next_ballot max id ≡ Some (ballot_above max id)
next_made max id l n = rw (le-ltb 254 id l, ne_eqb (max / 256) 72057594037927935 n)
