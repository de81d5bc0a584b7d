-- Laws of decimal text: how many digits, that they are the number's, and a turn of the loop that writes them.
use Rattle.std.specs.Prelude.{◌≡◌, ℕ, zero, suc, ◌+◌, ◌-◌, ◌*◌, ◌/◌, ◌%◌, ◌^◌, ◌<◌, ◌≤◌, List, [], ◌∷◌, ◌++◌, length, nat_lt, slice_index, slice_index_or, slice_set, refl}
use Rattle.std.proofs.Common.{sym, ap, ◌∙◌, pow-suc, arith, length-append, length-set, lt-ltb, le-ltb}
use Rattle.base.specs.Pick.{pick_cases, tests}
use Rattle.base.specs.Among.{All, All-append}
use Rattle.words.specs.Put.{put_at, Written}
use Rattle.words.specs.PutLaws.{put_one, put_last, Written-fits, written_past}
use Rattle.words.specs.Decimal.{decimal_for, decimal, digits, Wide}

pub length-digits : (k n : ℕ) → length (digits k n) ≡ k
length-digits zero n = refl
length-digits (suc k) n = length-append (digits k (n / 10)) ((48 + n % 10) ∷ []) ∙ omega (arith, length-digits k (n / 10))

-- the text of n is its last digits, as many as it has
wide_digits : (k w n : ℕ) → w ≤ k → 0 < w → n < 10 ^ w → (1 < w → 10 ^ (w - 1) ≤ n) → decimal_for k n ≡ digits w n
wide_digits (suc k) zero n h p q r = elim p [ ]
wide_digits zero w n h p q r = absurd (omega arith)
wide_digits (suc k) (suc zero) n h p q r =
    let e : n % 10 ≡ n = omega arith in
    rw (lt-ltb n 10 (omega arith), e)
wide_digits (suc k) (suc (suc w)) n h p q r =
    let a : 10 ^ suc (suc w) ≡ 10 ^ suc w * 10 = pow-suc 10 (suc w) in
    let b : 10 ^ suc w ≡ 10 ^ w * 10 = pow-suc 10 w in
    let c : suc (suc w) - 1 ≡ suc w = omega arith in
    let d : suc w - 1 ≡ w = omega arith in
    let m : 10 ^ suc w ≤ n = rw c at (r (omega arith)) in
    rw (le-ltb n 10 (omega arith))
    (ap (λ (x : List ℕ). x ++ ((48 + n % 10) ∷ [])) (wide_digits k (suc w) (n / 10) (omega arith) (omega arith) (omega arith) (λ u. rw d (omega arith))))

pub decimal-Wide : (n w : ℕ) → Wide n w → decimal n ≡ digits w n
unfolding decimal
decimal-Wide n w h = wide_digits 20 w n h.most h.some h.held h.needed

-- ── the loop that writes the digits, from the last on ──

-- what is left to write, with the last of it stored
digit_stored : (t : List ℕ) (at i v m : ℕ) → at + i < length t → v ≡ 48 + m % 10 → put_at (slice_set t (at + i) v) at (digits i (m / 10)) ≡ put_at t at (digits (suc i) m)
digit_stored t at i v m h e =
    let n : at + length (digits i (m / 10)) ≡ at + i = omega (arith, length-digits i (m / 10)) in
    rw e (rw n at (put_last t at (digits i (m / 10)) (48 + m % 10) (omega arith)))

-- a turn stores two
pub pair_stored : (t : List ℕ) (at j x y m : ℕ) → 1 < j → at + j ≤ length t → x ≡ 48 + m % 100 % 10 → y ≡ 48 + m % 100 / 10 % 10
    → put_at (slice_set (slice_set t (at + j - 1) x) (at + j - 2) y) at (digits (j - 2) (m / 100)) ≡ put_at t at (digits j m)
pair_stored t at zero x y m h k e f = elim h [ ]
pair_stored t at (suc zero) x y m h k e f = absurd (omega arith)
pair_stored t at (suc (suc i)) x y m h k e f =
    let a : at + suc (suc i) - 1 ≡ at + suc i = omega arith in
    let b : at + suc (suc i) - 2 ≡ at + i = omega arith in
    let c : suc (suc i) - 2 ≡ i = omega arith in
    let d : m / 100 ≡ m / 10 / 10 = omega arith in
    rw (a, b, c, d)
    (digit_stored (slice_set t (at + suc i) x) at i y (m / 10) (omega (arith, length-set t (at + suc i) x)) (omega arith)
    ∙ digit_stored t at (suc i) x m (omega arith) (omega arith))

-- the last store, of a first digit that stands alone
pub first_stored : (t : List ℕ) (at v m : ℕ) → at < length t → v ≡ 48 + m % 10 → slice_set t at v ≡ put_at t at (digits 1 m)
first_stored t at v m h e = rw e (put_one t at (48 + m % 10) h)

-- what a call that puts a number shows
module _ (l : List ℕ) (at n w : ℕ) (h : Wide n w) where
  long : length (decimal n) ≡ w
  long = ap length (decimal-Wide n w h) ∙ length-digits w n

  pub number_written : (after : List ℕ) → at + w ≤ length l → after ≡ put_at l at (digits w n) → Written l at (decimal n) (at + w) after
  number_written after k e =
      let q = long in
      Written-fits l at (decimal n) (at + w) after (omega arith) (omega arith) (e ∙ ap (put_at l at) (sym (decimal-Wide n w h)))

  pub number_left : length l < at + w → Written l at (decimal n) at l
  number_left k = let q = long in written_past l at (decimal n) (omega arith)

-- ── the text itself ──

-- of every list of digits: at most k, and at least one where k is not 0
for_most : (k n : ℕ) → length (decimal_for k n) ≤ k
for_most zero n = omega arith
for_most (suc k) n =
    pick_cases (λ (x : List ℕ). length x ≤ suc k) (nat_lt n 10)
    (λ t. omega arith)
    (λ t. omega (arith, length-append (decimal_for k (n / 10)) ((48 + n % 10) ∷ []), for_most k (n / 10)))

pub decimal_most : (n : ℕ) → length (decimal n) ≤ 20
unfolding decimal
decimal_most n = for_most 20 n

-- each is one of `0` to `9`
abbrev pub IsDigit : ℕ → Type 0
IsDigit d = (48 ≤ d) × (d ≤ 57)

for_digits : (k n : ℕ) → All IsDigit (decimal_for k n)
for_digits zero n = tt
for_digits (suc k) n =
    pick_cases (All IsDigit) (nat_lt n 10)
    (λ t. ((omega arith, omega (arith, tests)), tt))
    (λ t. All-append IsDigit (decimal_for k (n / 10)) ((48 + n % 10) ∷ []) (for_digits k (n / 10)) ((omega arith, omega arith), tt))

pub decimal_digits : (n : ℕ) → All IsDigit (decimal n)
unfolding decimal
decimal_digits n = for_digits 20 n

-- the first digit of a list of digits that has one stays the first
front : (xs ys : List ℕ) → 48 < slice_index xs 0 → slice_index (xs ++ ys) 0 ≡ slice_index xs 0
front [] ys h = absurd (omega arith)
front (x ∷ xs) ys h = refl

for_front : (k n : ℕ) → 0 < n → n < 10 ^ k → 48 < slice_index (decimal_for k n) 0
for_front zero n h q = absurd (omega arith)
for_front (suc k) n h q =
    let p : 10 ^ suc k ≡ 10 ^ k * 10 = pow-suc 10 k in
    pick_cases (λ (x : List ℕ). 48 < slice_index x 0) (nat_lt n 10)
    (λ t. omega arith)
    (λ t.
    let r : 48 < slice_index_or (decimal_for k (n / 10)) 0 0 = for_front k (n / 10) (omega (arith, tests)) (omega arith) in
    omega (arith, front (decimal_for k (n / 10)) ((48 + n % 10) ∷ []) r))

-- no zero in front, but for the number 0
pub decimal_front : (n : ℕ) → 0 < n → n < 2 ^ 64 → 48 < slice_index (decimal n) 0
unfolding decimal
decimal_front n h q = for_front 20 n h (omega arith)

-- the number that a text of digits is, after the digits so far
abbrev pub read_from : ℕ → List ℕ → ℕ
read_from so [] = so
read_from so (d ∷ rest) = read_from (10 * so + (d - 48)) rest

read_last : (so : ℕ) (ds : List ℕ) (d : ℕ) → read_from so (ds ++ (d ∷ [])) ≡ 10 * read_from so ds + (d - 48)
read_last so [] d = refl
read_last so (e ∷ ds) d = read_last (10 * so + (e - 48)) ds d

for_read : (k n : ℕ) → n < 10 ^ k → read_from 0 (decimal_for k n) ≡ n
for_read zero n h = omega arith
for_read (suc k) n h =
    let p : 10 ^ suc k ≡ 10 ^ k * 10 = pow-suc 10 k in
    pick_cases (λ (x : List ℕ). read_from 0 x ≡ n) (nat_lt n 10)
    (λ t. omega arith)
    (λ t. read_last 0 (decimal_for k (n / 10)) (48 + n % 10) ∙ omega (arith, for_read k (n / 10) (omega arith)))

-- the text of a number of 64 bits is read back as that number
pub decimal_read : (n : ℕ) → n < 2 ^ 64 → read_from 0 (decimal n) ≡ n
unfolding decimal
decimal_read n h = for_read 20 n (omega arith)

-- so two numbers with one text are one
pub decimal_same : (m n : ℕ) → m < 2 ^ 64 → n < 2 ^ 64 → decimal m ≡ decimal n → m ≡ n
decimal_same m n h k e = sym (decimal_read m h) ∙ ap (read_from 0) e ∙ decimal_read n k
