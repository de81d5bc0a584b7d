-- Laws of little-endian numbers.
use Rattle.std.specs.Prelude.{◌≡◌, ℕ, zero, suc, ◌+◌, ◌*◌, ◌/◌, ◌%◌, ◌^◌, ◌<◌, ◌≤◌, ◌⊎◌, List, [], ◌∷◌, length, nat_le, slice_index, slice_set, refl}
use Rattle.std.proofs.Common.{sym, ap, ◌∙◌, pow-suc, add-one, drop-cons, le-leb, ⊎_elim}
use Rattle.std.specs.Int.{w32, w64, from_le_bytes, to_le_bytes}
use native.Mathlib.Omega.{arith}
use Rattle.std.proofs.lemmas.List.Edits.{sets-eq}
use Rattle.std.proofs.lemmas.Bool.{lt-leb}
use Rattle.base.specs.Pick.{pick}
use Rattle.words.specs.Little.{little, part, number_at, bytes_of}
use Rattle.words.specs.Put.{put_at, put}
use Rattle.words.specs.PutLaws.{put_fits, length-put_at, part_put, part_before, part_after}

module _ (n : ℕ) (l : List ℕ) (at : ℕ) where
  pub number_here : at + n ≤ length l → number_at n l at ≡ little (part l at n)
  unfolding number_at
  number_here h = rw (le-leb (at + n) (length l) h)

  pub number_past : length l < at + n → number_at n l at ≡ 0
  unfolding number_at
  number_past h = rw (lt-leb (at + n) (length l) h)

-- a part is its first byte and the part after it
part-cons : (l : List ℕ) (at b n : ℕ) → b ≡ at + 1 → at < length l → part l at (suc n) ≡ slice_index l at ∷ part l b n
part-cons l at b n e h = rw (e, add-one at, drop-cons l at 0 h)

-- the four bytes, and the eight
part_four : (l : List ℕ) (at : ℕ) → at + 4 ≤ length l
    → part l at 4 ≡ slice_index l at ∷ slice_index l (at + 1) ∷ slice_index l (at + 2) ∷ slice_index l (at + 3) ∷ []
part_four l at h =
    part-cons l at (at + 1) 3 refl (omega arith)
    ∙ rw (part-cons l (at + 1) (at + 2) 2 (omega arith) (omega arith), part-cons l (at + 2) (at + 3) 1 (omega arith) (omega arith), part-cons l (at + 3) (at + 4) 0 (omega arith) (omega arith))

part_eight : (l : List ℕ) (at : ℕ) → at + 8 ≤ length l
    → part l at 8 ≡ slice_index l at ∷ slice_index l (at + 1) ∷ slice_index l (at + 2) ∷ slice_index l (at + 3) ∷ part l (at + 4) 4
part_eight l at h =
    part-cons l at (at + 1) 7 refl (omega arith)
    ∙ rw (part-cons l (at + 1) (at + 2) 6 (omega arith) (omega arith), part-cons l (at + 2) (at + 3) 5 (omega arith) (omega arith), part-cons l (at + 3) (at + 4) 4 (omega arith) (omega arith))

-- four bytes, one by one
pub word_read : (l : List ℕ) (at : ℕ) → at + 4 ≤ length l
    → number_at 4 l at ≡ little (slice_index l at ∷ slice_index l (at + 1) ∷ slice_index l (at + 2) ∷ slice_index l (at + 3) ∷ [])
word_read l at h = number_here 4 l at h ∙ ap little (part_four l at h)

-- eight bytes are two words
pub number_words : (l : List ℕ) (at : ℕ) → at + 8 ≤ length l → number_at 8 l at ≡ number_at 4 l at + 4294967296 * number_at 4 l (at + 4)
number_words l at h =
    number_here 8 l at h ∙ ap little (part_eight l at h) ∙ omega (arith, word_read l at (omega arith), number_here 4 l (at + 4) (omega arith))

-- std's number of four bytes, or of eight, is the number that they are
module _ (l : List ℕ) (at : ℕ) where
  pub four_read : at + 4 ≤ length l → from_le_bytes w32 (part l at 4) ≡ number_at 4 l at
  four_read h = rw (part_four l at h) (omega arith) ∙ sym (word_read l at h)

  pub eight_read : at + 8 ≤ length l → from_le_bytes w64 (part l at 8) ≡ number_at 8 l at
  eight_read h =
      let p = part_four l (at + 4) (omega arith) in
      let q : part l at 8 ≡ slice_index l at ∷ slice_index l (at + 1) ∷ slice_index l (at + 2) ∷ slice_index l (at + 3) ∷ slice_index l (at + 4) ∷ slice_index l (at + 4 + 1) ∷ slice_index l (at + 4 + 2) ∷ slice_index l (at + 4 + 3) ∷ [] =
      part_eight l at h ∙ rw p in
      rw (number_here 8 l at h, q) (omega arith)

-- ── written ──

pub length_bytes : (n v : ℕ) → length (bytes_of n v) ≡ n
length_bytes zero v = refl
length_bytes (suc n) v = ap suc (length_bytes n (v / 256))

-- what is written is read
pub little_bytes : (n v : ℕ) → v < 256 ^ n → little (bytes_of n v) ≡ v
little_bytes zero v h = omega arith
little_bytes (suc n) v h =
    let p : 256 ^ suc n ≡ 256 ^ n * 256 = pow-suc 256 n in
    omega (arith, little_bytes n (v / 256) (omega arith))

-- four stores of one byte each
pub word_stored : (l : List ℕ) (at n a b c d : ℕ) → at + 4 ≤ length l → a ≡ n % 256 → b ≡ n / 256 % 256 → c ≡ n / 65536 % 256 → d ≡ n / 16777216 % 256
    → slice_set (slice_set (slice_set (slice_set l at a) (at + 1) b) (at + 2) c) (at + 3) d ≡ put l at (bytes_of 4 n)
unfolding put_at
word_stored l at n a b c d h p q r s =
    let e1 : at + 1 ≡ suc at = omega arith in
    let e2 : at + 2 ≡ suc (suc at) = omega arith in
    let e3 : at + 3 ≡ suc (suc (suc at)) = omega arith in
    let c' : c ≡ n / 256 / 256 % 256 = omega arith in
    let d' : d ≡ n / 256 / 256 / 256 % 256 = omega arith in
    rw (e1, e2, e3, p, q, c', d', put_fits l at (bytes_of 4 n) h) (sets-eq (bytes_of 4 n) l at h)

-- std's four bytes of a number are its own
pub le_bytes : (n : ℕ) → to_le_bytes w32 n ≡ bytes_of 4 n
le_bytes n =
    let c : n / 65536 % 256 ≡ n / 256 / 256 % 256 = omega arith in
    let d : n / 16777216 % 256 ≡ n / 256 / 256 / 256 % 256 = omega arith in
    rw (c, d)

module _ (l : List ℕ) (at n v : ℕ) (h : at + n ≤ length l) where
  -- the number that was written
  pub number_put : v < 256 ^ n → number_at n (put l at (bytes_of n v)) at ≡ v
  number_put k =
      let e : length (bytes_of n v) ≡ n = length_bytes n v in
      let r : at + length (bytes_of n v) ≤ length l = omega arith in
      rw (put_fits l at (bytes_of n v) r)
      (number_here n (put_at l at (bytes_of n v)) at (omega (arith, length-put_at l at (bytes_of n v) r))
      ∙ ap little (part_put l at (bytes_of n v) (omega arith) n (sym e))
      ∙ little_bytes n v k)

  -- a number that lies elsewhere
  pub number_elsewhere : (m b : ℕ) → (b + m ≤ at) ⊎ (at + n ≤ b) → number_at m (put l at (bytes_of n v)) b ≡ number_at m l b
  unfolding number_at
  number_elsewhere m b k =
      let e : length (bytes_of n v) ≡ n = length_bytes n v in
      let r : at + length (bytes_of n v) ≤ length l = omega arith in
      rw (put_fits l at (bytes_of n v) r, length-put_at l at (bytes_of n v) r)
      (ap (λ (x : List ℕ). pick (nat_le (b + m) (length l)) (little x) 0)
      (⊎_elim (part_before l at (bytes_of n v) (omega arith) b m) (λ (u : at + n ≤ b). part_after l at (bytes_of n v) (omega arith) b m (omega arith)) k))
