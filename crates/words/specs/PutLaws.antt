-- Laws of bytes put into bytes: lengths, runs that follow each other, and what a part holds afterwards.
use Rattle.std.specs.Prelude.{◌≡◌, ℕ, suc, ◌+◌, ◌-◌, ◌<◌, ◌≤◌, List, [], ◌∷◌, ◌++◌, length, take, drop, nat_le, slice_index, slice_set, refl}
use Rattle.std.proofs.Math.Path.{sym, ap}
use Rattle.std.proofs.Common.{◌∙◌, append_assoc, append-nil, add-zero, length-append, take-append-drop, take_at, get_or-take, get_or-drop, le-leb}
use borrow.Rule.Slice.PartMut.{put_mid}
use native.Mathlib.Omega.{arith}
use Rattle.std.proofs.Math.ListN.{length-drop}
use Rattle.std.proofs.Math.Seq.{length-take-le, drop_at, drop-append-add, drop-append-le, take-append_seam, append_snoc, drop-drop}
use Rattle.std.proofs.lemmas.List.{take-append-le, take-set-le, set_split}
use Rattle.std.proofs.lemmas.List.Edits.{sets-eq}
use Rattle.std.proofs.lemmas.Bool.{lt-leb}
use Rattle.base.specs.Pick.{coincide, pick_cases, tests}
use Rattle.words.specs.Put.{put_at, put, next, Written}
use Rattle.words.specs.Little.{part}

-- ── with room and without ──

module _ (l : List ℕ) (at : ℕ) (vs : List ℕ) where
  pub put_fits : at + length vs ≤ length l → put l at vs ≡ put_at l at vs
  unfolding put
  put_fits h = rw (le-leb (at + length vs) (length l) h)

  pub put_past : length l < at + length vs → put l at vs ≡ l
  unfolding put
  put_past h = rw (lt-leb (at + length vs) (length l) h)

  -- a copy into a part of that length
  pub put_over : (k : ℕ) (ys : List ℕ) → at + length vs ≤ length l → k ≡ length vs → ys ≡ vs → put_mid at k l ys ≡ put l at vs
  unfolding put_at
  put_over k ys h e f =
      rw (e, f, put_fits h, append_assoc (take at l) vs (drop (at + length vs) l), drop-drop (length vs) at l)

  pub next_fits : at + length vs ≤ length l → next l at vs ≡ at + length vs
  unfolding next
  next_fits h = rw (le-leb (at + length vs) (length l) h)

  pub next_past : length l < at + length vs → next l at vs ≡ at
  unfolding next
  next_past h = rw (lt-leb (at + length vs) (length l) h)

  -- what a call shows where there is room, and where there is none
  pub Written-fits : (r : ℕ) (after : List ℕ) → at + length vs ≤ length l → r ≡ at + length vs → after ≡ put_at l at vs → Written l at vs r after
  Written-fits r after h p q = record { place = p ∙ sym (next_fits h); bytes = q ∙ sym (put_fits h) }

  pub written_past : length l < at + length vs → Written l at vs at l
  written_past h = record { place = sym (next_past h); bytes = sym (put_past h) }

-- any two outcomes that the promise allows coincide
pub Written-unique : {l vs after after' : List ℕ} {at r r' : ℕ} → Written l at vs r after → Written l at vs r' after' → (r ≡ r') × (after ≡ after')
Written-unique s t = (coincide s.place t.place, coincide s.bytes t.bytes)

-- ── lengths ──

-- what is put, with what stands before it
front : (l vs : List ℕ) (at : ℕ) → at ≤ length l → length (take at l ++ vs) ≡ at + length vs
front l vs at h = length-append (take at l) vs ∙ ap (λ (n : ℕ). n + length vs) (length-take-le at l h)

pub length-put_at : (l : List ℕ) (at : ℕ) (vs : List ℕ) → at + length vs ≤ length l → length (put_at l at vs) ≡ length l
unfolding put_at
length-put_at l at vs h =
    length-append (take at l ++ vs) (drop (at + length vs) l)
    ∙ omega (arith, front l vs at (omega arith), length-drop (at + length vs) l)

pub length_put : (l : List ℕ) (at : ℕ) (vs : List ℕ) → length (put l at vs) ≡ length l
unfolding put
length_put l at vs =
    pick_cases (λ (x : List ℕ). length x ≡ length l) (nat_le (at + length vs) (length l))
    (λ t. length-put_at l at vs (omega (arith, tests)))
    (λ t. refl)

-- ── runs ──

-- nothing
pub put_none : (l : List ℕ) (at : ℕ) → put_at l at [] ≡ l
unfolding put_at
put_none l at = rw (append-nil (take at l), add-zero at) (take-append-drop at l)

-- one byte is a store
pub put_one : (l : List ℕ) (at v : ℕ) → at < length l → slice_set l at v ≡ put_at l at (v ∷ [])
unfolding put_at
put_one l at v h = sets-eq (v ∷ []) l at (omega arith)

-- a run that follows another
pub put_append : (l : List ℕ) (at : ℕ) (xs ys : List ℕ) → at ≤ length l → put_at (put_at l at xs) (at + length xs) ys ≡ put_at l at (xs ++ ys)
unfolding put_at
put_append l at xs ys h =
    let p : List ℕ = take at l in
    let e : length (p ++ xs) ≡ at + length xs = front l xs at h in
    let m : at + length xs + length ys ≡ length (p ++ xs) + length ys = omega arith in
    let t : at + length xs + length ys ≡ at + length (xs ++ ys) = omega (arith, length-append xs ys) in
    rw (take_at (p ++ xs) _ (at + length xs) e, m, drop-append-add (p ++ xs) _ (length ys), drop-drop (length ys) (at + length xs) l, t, append_assoc p xs ys)

-- two calls, one after the other, with room for both
pub Written-then : (l a b xs ys : List ℕ) (at n m : ℕ) → at + length xs + length ys ≤ length l → Written l at xs n a → Written a n ys m b → Written l at (xs ++ ys) m b
Written-then l a b xs ys at n m h p q =
    let e : a ≡ put_at l at xs = p.bytes ∙ put_fits l at xs (omega arith) in
    let f : n ≡ at + length xs = p.place ∙ next_fits l at xs (omega arith) in
    let k : length a ≡ length l = ap length e ∙ length-put_at l at xs (omega arith) in
    let r : n + length ys ≤ length a = omega arith in
    let t : length (xs ++ ys) ≡ length xs + length ys = length-append xs ys in
    let u : m ≡ n + length ys = q.place ∙ next_fits a n ys r in
    Written-fits l at (xs ++ ys) m b (omega arith) (omega arith)
    (q.bytes ∙ put_fits a n ys r ∙ ap (λ (x : List ℕ). put_at x n ys) e ∙ ap (λ (i : ℕ). put_at (put_at l at xs) i ys) f ∙ put_append l at xs ys (omega arith))

-- a run's last byte may be stored first
pub put_last : (l : List ℕ) (at : ℕ) (vs : List ℕ) (v : ℕ) → at + length vs < length l
    → put_at (slice_set l (at + length vs) v) at vs ≡ put_at l at (vs ++ (v ∷ []))
unfolding put_at
put_last l at vs v h =
    let i : ℕ = at + length vs in
    let t : length (take i l) ≡ i = length-take-le i l (omega arith) in
    let d : drop i (slice_set l i v) ≡ v ∷ drop (suc i) l =
    ap (drop i) (set_split l i v h) ∙ drop_at (take i l) (v ∷ drop (suc i) l) i t in
    let n : at + length (vs ++ (v ∷ [])) ≡ suc i = omega (arith, length-append vs (v ∷ [])) in
    rw (take-set-le at l i v (omega arith), d, n, ← append_assoc (take at l) vs (v ∷ []), append_snoc (take at l ++ vs) v (drop (suc i) l))

-- ── parts afterwards ──

module _ (l : List ℕ) (at : ℕ) (vs : List ℕ) (h : at ≤ length l) where
  -- the part that was put
  pub part_put : (n : ℕ) → n ≡ length vs → part (put_at l at vs) at n ≡ vs
  unfolding put_at
  part_put n e =
      rw (append_assoc (take at l) vs (drop (at + length vs) l), drop_at (take at l) _ at (length-take-le at l h), e)
      (take-append_seam vs (drop (at + length vs) l))

  -- a part that ends before it
  pub part_before : (b n : ℕ) → b + n ≤ at → part (put_at l at vs) b n ≡ part l b n
  unfolding put_at
  part_before b n k =
      let t : length (take at l) ≡ at = length-take-le at l h in
      let r : List ℕ = drop (at + length vs) l in
      let d : length (drop b (take at l)) ≡ at - b = length-drop b (take at l) ∙ omega arith in
      let u : part (put_at l at vs) b n ≡ part (take at l) b n =
      rw (append_assoc (take at l) vs r, drop-append-le b (take at l) (vs ++ r) (omega arith))
      (take-append-le n (drop b (take at l)) (vs ++ r) (omega arith)) in
      u ∙ cut
    where
      cut : part (take at l) b n ≡ part l b n
      cut =
          let t : length (take at l) ≡ at = length-take-le at l h in
          let d : length (drop b (take at l)) ≡ at - b = length-drop b (take at l) ∙ omega arith in
          sym
          (ap (λ (x : List ℕ). part x b n) (sym (take-append-drop at l))
          ∙ rw (drop-append-le b (take at l) (drop at l) (omega arith)) (take-append-le n (drop b (take at l)) (drop at l) (omega arith)))

  -- a part that begins after it
  pub part_after : (b n : ℕ) → at + length vs ≤ b → part (put_at l at vs) b n ≡ part l b n
  unfolding put_at
  part_after b n k =
      let e : length (take at l ++ vs) ≡ at + length vs = front l vs at h in
      let m : b ≡ length (take at l ++ vs) + (b - (at + length vs)) = omega arith in
      let j : at + length vs + (b - (at + length vs)) ≡ b = omega arith in
      ap (take n)
      (ap (λ (x : ℕ). drop x (put_at l at vs)) m
      ∙ drop-append-add (take at l ++ vs) (drop (at + length vs) l) (b - (at + length vs))
      ∙ drop-drop (b - (at + length vs)) (at + length vs) l
      ∙ ap (λ (x : ℕ). drop x l) j)

-- ── single bytes afterwards ──

-- a byte is the first of the part that begins there
byte_part : (l : List ℕ) (i : ℕ) → slice_index l i ≡ slice_index (part l i 1) 0
byte_part l i = sym (get_or-take 1 (drop i l) 0 0 (omega arith) ∙ get_or-drop i l 0 0 ∙ ap (λ (n : ℕ). slice_index l n) (add-zero i))

module _ (l : List ℕ) (at : ℕ) (vs : List ℕ) (h : at ≤ length l) where
  pub byte_before : (i : ℕ) → i < at → slice_index (put_at l at vs) i ≡ slice_index l i
  byte_before i k =
      byte_part (put_at l at vs) i ∙ ap (λ (x : List ℕ). slice_index x 0) (part_before l at vs h i 1 (omega arith)) ∙ sym (byte_part l i)

  pub byte_after : (i : ℕ) → at + length vs ≤ i → slice_index (put_at l at vs) i ≡ slice_index l i
  byte_after i k = byte_part (put_at l at vs) i ∙ ap (λ (x : List ℕ). slice_index x 0) (part_after l at vs h i 1 k) ∙ sym (byte_part l i)
