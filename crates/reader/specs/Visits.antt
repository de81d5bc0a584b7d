-- Stepping from the first place visits exactly the whole records at 0, 256, 512, .., then the short rest if there is one, then the end for ever.
use Rattle.std.specs.Prelude.{◌≡◌, List, length}
use Rattle.std.proofs.Math.Path.{refl}
use Rattle.std.proofs.Common.{◌∙◌}
use Prim.Native.Nat.{ℕ, zero, suc, ◌+◌, ◌*◌, ◌≤◌, ◌<◌}
use native.Mathlib.Omega.{arith}
use Rattle.std.specs.Borrow.{Bor}
use Rattle.trace.specs.declared.Next.TheVariants.{Whole, Short, End}
use Rattle.trace.specs.Records.{fields_at, no_record, next_at}
use Rattle.trace.specs.Laws.{found_whole}
use Rattle.reader.specs.Steps.{step_at, reader_after, place_after}
use Rattle.reader.specs.Laws.{after_whole, after_short, after_end, step_whole, step_short, step_end, three, after_within}

-- a reader that goes on n times stands where n steps lead
pub reader_place : (bytes : Bor (List ℕ)) (n : ℕ) → reader_after bytes n ≡ record { bytes = bytes; at = place_after bytes.now n }
unfolding reader_after place_after
reader_place bytes zero = refl
reader_place bytes (suc n) = rw (reader_place bytes n)

module _ (l : List ℕ) where
  -- the place after n steps is the smaller of 256 * n and the length
  pub place_before : (n : ℕ) → 256 * n ≤ length l → place_after l n ≡ 256 * n
  unfolding place_after
  place_before zero h = refl
  place_before (suc n) h = rw (place_before n (omega arith)) (after_whole l (256 * n) (omega arith) ∙ omega arith)

  pub place_past : (n : ℕ) → length l ≤ 256 * n → place_after l n ≡ length l
  unfolding place_after
  place_past zero h = omega arith
  place_past (suc n) h =
      three l (256 * n)
      (λ w. rw (place_before n (omega arith)) (after_whole l (256 * n) w ∙ omega arith))
      (λ s w. rw (place_before n (omega arith)) (after_short l (256 * n) s w))
      (λ e. rw (place_past n e) (after_end l (length l) (omega arith)))

  -- it never passes the length
  pub place_within : (n : ℕ) → place_after l n ≤ length l
  unfolding place_after
  place_within zero = omega arith
  place_within (suc n) = after_within l (place_after l n) (place_within n)

  module _ (n : ℕ) where
    -- each of the three; every n is one of them
    pub visits_whole : 256 * n + 256 ≤ length l → step_at l (place_after l n) ≡ record { found = Whole (256 * n); read = fields_at l (256 * n); after = 256 * n + 256 }
    visits_whole h = rw (place_before n (omega arith)) (step_whole l (256 * n) h)

    pub visits_short : 256 * n < length l → length l < 256 * n + 256 → step_at l (place_after l n) ≡ record { found = Short; read = no_record; after = length l }
    visits_short h k = rw (place_before n (omega arith)) (step_short l (256 * n) h k)

    pub visits_end : length l ≤ 256 * n → step_at l (place_after l n) ≡ record { found = End; read = no_record; after = length l }
    visits_end h = rw (place_past n h) (step_end l (length l) (omega arith))

    -- no other record is visited
    pub visited_whole : (begin : ℕ) → next_at l (place_after l n) ≡ Whole begin → (begin ≡ 256 * n) × (256 * n + 256 ≤ length l)
    visited_whole begin e =
        let f = found_whole l (place_after l n) begin e in
        three l (256 * n)
        (λ w. (omega (arith, place_before n (omega arith)), w))
        (λ s w. absurd (omega (arith, place_before n (omega arith))))
        (λ z. absurd (omega (arith, place_past n z)))
