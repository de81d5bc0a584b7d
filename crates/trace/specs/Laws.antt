-- Laws of records: how the code reads them, that a written sum is right and changes nothing else, and what each step finds.
use Rattle.std.proofs.Math.Path.{◌≡◌, refl}
use Rattle.std.proofs.Common.{sym, ◌∙◌, inl, inr, add-one, arith, length-append}
use Rattle.std.specs.Prelude.{Bool, true, false, not, ◌&&◌, ◌⊎◌, ltb, leb, eqb, set, replicate}
use mathlib.Core.List.{List, [], ◌∷◌, ◌++◌, append_assoc, append-nil}
use Prim.Native.Nat.{ℕ, zero, suc, ◌+◌, ◌-◌, ◌*◌, ◌≤◌, ◌<◌}
use Rattle.std.proofs.Math.ListN.{length, get_or}
use Rattle.std.proofs.lemmas.List.{set_at}
use borrow.Author.Tests.{lt-ltb, le-ltb, le-leb, lt-leb, leb-true, leb-false, ltb-false, eq-eqb, ne_eqb, not-false}
use Rattle.base.specs.Pick.{pick_cases, decide, or-false}
use Rattle.base.specs.Find.{any-false}
use Rattle.words.specs.Little.{number_at, bytes_of}
use Rattle.words.specs.LittleLaws.{number_elsewhere}
use Rattle.words.specs.Put.{put}
use Rattle.words.specs.PutLaws.{put_fits, length_put, byte_before, byte_after}
use Rattle.words.specs.Sums.{sum_of}
use Rattle.words.specs.SumLaws.{number_at-sum_of}
use Rattle.trace.specs.declared.Record.{Record}
use Rattle.trace.specs.declared.Next.TheVariants.{Whole, Short, End}
use Rattle.trace.specs.Records.{numbers_at, fields_at, no_record, whole_at, record_at, sum_right, sum_written, sub_known, bad_tag, malformed, next_at}

-- ── reading ──

pub record_here : (l : List ℕ) (at : ℕ) → at + 256 ≤ length l → record_at l at ≡ fields_at l at
unfolding record_at
record_here l at h = rw (le-leb (at + 256) (length l) h)

pub record_past : (l : List ℕ) (at : ℕ) → length l < at + 256 → record_at l at ≡ no_record
unfolding record_at
record_past l at h = rw (lt-leb (at + 256) (length l) h)

pub length_numbers : (l : List ℕ) (at n : ℕ) → length (numbers_at l at n) ≡ n
unfolding numbers_at
length_numbers l at zero = refl
length_numbers l at (suc n) = length-append (numbers_at l at n) _ ∙ omega (arith, length_numbers l at n)

-- the loop that reads the numbers into an array of zeros: its start, a turn, and its end
pub numbers_start : (l : List ℕ) (at n : ℕ) → replicate n 0 ≡ numbers_at l at 0 ++ replicate (n - 0) 0
unfolding numbers_at
numbers_start l at n = let e : n - 0 ≡ n = omega arith in rw e

pub numbers_turn : (l : List ℕ) (at n i v : ℕ) (read : List ℕ) → i < n → read ≡ numbers_at l at i ++ replicate (n - i) 0 → v ≡ number_at 8 l (at + 8 * i)
    → set read i v ≡ numbers_at l at (i + 1) ++ replicate (n - (i + 1)) 0
unfolding numbers_at
numbers_turn l at n i v read h e f =
    let k : n - i ≡ suc (n - (i + 1)) = omega arith in
    rw (e, k, f, add-one i)
    (set_at (numbers_at l at i) 0 (replicate (n - suc i) 0) (number_at 8 l (at + 8 * i)) i (length_numbers l at i)
    ∙ sym (append_assoc (numbers_at l at i) (number_at 8 l (at + 8 * i) ∷ []) (replicate (n - suc i) 0)))

pub numbers_done : (l : List ℕ) (at n i : ℕ) (read : List ℕ) → read ≡ numbers_at l at i ++ replicate (n - i) 0 → i ≡ n → read ≡ numbers_at l at n
numbers_done l at n i read e f =
    let z : n - n ≡ 0 = omega arith in
    e ∙ rw (f, z) (append-nil (numbers_at l at n))

-- a record made of numbers that were read one by one
pub fields_read : (l : List ℕ) (at kind peer sub count slot trigger endprep ballot voted batch bar : ℕ) (entries : List ℕ)
    → kind ≡ get_or l at 0 → peer ≡ get_or l (at + 1) 0 → sub ≡ get_or l (at + 2) 0 → count ≡ get_or l (at + 3) 0
    → slot ≡ number_at 8 l (at + 8) → trigger ≡ number_at 8 l (at + 16) → endprep ≡ number_at 8 l (at + 24) → ballot ≡ number_at 8 l (at + 32)
    → voted ≡ number_at 8 l (at + 40) → batch ≡ number_at 8 l (at + 48) → bar ≡ number_at 8 l (at + 56) → entries ≡ numbers_at l (at + 64) 24
    → record {
      kind = kind;
      peer = peer;
      sub = sub;
      count = count;
      slot = slot;
      trigger = trigger;
      endprep = endprep;
      ballot = ballot;
      voted = voted;
      batch = batch;
      bar = bar;
      entries = entries;
    } ≡ fields_at l at
unfolding fields_at
fields_read l at kind peer sub count slot trigger endprep ballot voted batch bar entries a b c d e f g h i j k m = cc

-- ── the sum ──

pub right_past : (l : List ℕ) (at : ℕ) → length l < at + 256 → sum_right l at ≡ false
unfolding sum_right
right_past l at h = rw (lt-leb (at + 256) (length l) h)

pub right_here : (l : List ℕ) (at : ℕ) → at + 256 ≤ length l → sum_right l at ≡ eqb (number_at 4 l (at + 4)) (sum_of l at 64 1)
unfolding sum_right
right_here l at h = rw (le-leb (at + 256) (length l) h)

module _ (l : List ℕ) (at : ℕ) where
  pub written_past : length l < at + 256 → sum_written l at ≡ l
  unfolding sum_written
  written_past h = rw (lt-leb (at + 256) (length l) h)

  pub written_here : at + 256 ≤ length l → sum_written l at ≡ put l (at + 4) (bytes_of 4 (sum_of l at 64 1))
  unfolding sum_written
  written_here h = rw (le-leb (at + 256) (length l) h)

  pub written_length : length (sum_written l at) ≡ length l
  unfolding sum_written
  written_length = pick_cases (λ (x : List ℕ). length x ≡ length l) (whole_at l at) (λ t. length_put l (at + 4) _) (λ t. refl)

  -- what was written is accepted
  pub written_right : at + 256 ≤ length l → sum_right (sum_written l at) at ≡ true
  written_right h =
      right_here (sum_written l at) at (omega (arith, written_length))
      ∙ rw (written_here h) (eq-eqb _ _ (number_at-sum_of l at 64 1 (omega arith)))

  -- and no byte outside the sum's four is changed
  pub written_elsewhere : (i : ℕ) → (i < at + 4) ⊎ (at + 8 ≤ i) → get_or (sum_written l at) i 0 ≡ get_or l i 0
  unfolding sum_written
  written_elsewhere i o = pick_cases (λ (x : List ℕ). get_or x i 0 ≡ get_or l i 0) (whole_at l at) (λ t. kept (leb-true _ _ t) o) (λ t. refl)
    where
      kept : at + 256 ≤ length l → (i < at + 4) ⊎ (at + 8 ≤ i) → get_or (put l (at + 4) (bytes_of 4 (sum_of l at 64 1))) i 0 ≡ get_or l i 0
      kept h (inl k) = rw (put_fits l (at + 4) (bytes_of 4 (sum_of l at 64 1)) (omega arith)) (byte_before l (at + 4) _ (omega arith) i k)
      kept h (inr k) = rw (put_fits l (at + 4) (bytes_of 4 (sum_of l at 64 1)) (omega arith)) (byte_after l (at + 4) _ (omega arith) i (omega arith))

-- so the record is the same record
module _ (l : List ℕ) (at : ℕ) (h : at + 256 ≤ length l) where
  number_kept : (b : ℕ) → at + 8 ≤ b → number_at 8 (sum_written l at) b ≡ number_at 8 l b
  number_kept b k = rw (written_here l at h) (number_elsewhere l (at + 4) 4 (sum_of l at 64 1) (omega arith) 8 b (inr (omega arith)))

  numbers_kept : (b n : ℕ) → at + 8 ≤ b → numbers_at (sum_written l at) b n ≡ numbers_at l b n
  unfolding numbers_at
  numbers_kept b zero k = refl
  numbers_kept b (suc n) k = rw (numbers_kept b n k, number_kept (b + 8 * n) (omega arith))

  byte_kept : (i : ℕ) → i < at + 4 → get_or (sum_written l at) i 0 ≡ get_or l i 0
  byte_kept i k = written_elsewhere l at i (inl k)

  pub written_record : record_at (sum_written l at) at ≡ record_at l at
  unfolding fields_at
  written_record =
      record_here (sum_written l at) at (omega (arith, written_length l at))
      ∙ rw (
        byte_kept at (omega arith),
        byte_kept (at + 1) (omega arith),
        byte_kept (at + 2) (omega arith),
        byte_kept (at + 3) (omega arith),
        number_kept (at + 8) (omega arith),
        number_kept (at + 16) (omega arith),
        number_kept (at + 24) (omega arith),
        number_kept (at + 32) (omega arith),
        number_kept (at + 40) (omega arith),
        number_kept (at + 48) (omega arith),
        number_kept (at + 56) (omega arith),
        numbers_kept (at + 64) 24 (omega arith),
      )
      (sym (record_here l at h))

-- ── stepping ──

module _ (l : List ℕ) (at : ℕ) where
  pub next_end : length l ≤ at → next_at l at ≡ End
  unfolding next_at
  next_end h = rw (le-leb (length l) at h)

  pub next_short : at < length l → length l < at + 256 → next_at l at ≡ Short
  unfolding next_at
  next_short h k = rw (lt-leb (length l) at h, lt-leb (at + 256) (length l) k)

  pub next_whole : at + 256 ≤ length l → next_at l at ≡ Whole at
  unfolding next_at
  next_whole h = rw (lt-leb (length l) at (omega arith), le-leb (at + 256) (length l) h)

  -- a record found is whole, and begins at the place that was asked for
  pub found_whole : (b : ℕ) → next_at l at ≡ Whole b → (b ≡ at) × (at + 256 ≤ length l)
  unfolding next_at
  found_whole b = go (decide (leb (length l) at)) (decide (whole_at l at))
    where
      go : (leb (length l) at ≡ true) ⊎ (leb (length l) at ≡ false) → (whole_at l at ≡ true) ⊎ (whole_at l at ≡ false) → next_at l at ≡ Whole b → (b ≡ at) × (at + 256 ≤ length l)
      go (inl t) w e = let z : ◌≡◌ {A = ℕ} 0 1 = cc (rw t at e) in absurd (omega arith)
      go (inr t) (inl w) e = (cc (rw (t, w) at e), leb-true (at + 256) (length l) w)
      go (inr t) (inr w) e = let z : ◌≡◌ {A = ℕ} 0 1 = cc (rw (t, w) at e) in absurd (omega arith)

  pub found_short : next_at l at ≡ Short → (at < length l) × (length l < at + 256)
  unfolding next_at
  found_short = go (decide (leb (length l) at)) (decide (whole_at l at))
    where
      go : (leb (length l) at ≡ true) ⊎ (leb (length l) at ≡ false) → (whole_at l at ≡ true) ⊎ (whole_at l at ≡ false) → next_at l at ≡ Short → (at < length l) × (length l < at + 256)
      go (inl t) w e = let z : ◌≡◌ {A = ℕ} 0 1 = cc (rw t at e) in absurd (omega arith)
      go (inr t) (inl w) e = let z : ◌≡◌ {A = ℕ} 0 1 = cc (rw (t, w) at e) in absurd (omega arith)
      go (inr t) (inr w) e = (leb-false (length l) at t, leb-false (at + 256) (length l) w)

-- ── malformed: each test in turn, where those before it did not decide ──

module _ (r : Record) (right : Bool) where
  pub bad_sum : right ≡ false → malformed r right ≡ true
  unfolding malformed
  bad_sum e = rw e

  module _ (s : right ≡ true) where
    pub bad_kind : 11 < r.kind → malformed r right ≡ true
    unfolding malformed
    bad_kind h = rw (s, lt-ltb 11 r.kind h)

    module _ (k : r.kind ≤ 11) where
      pub bad_count : 8 < r.count → malformed r right ≡ true
      unfolding malformed
      bad_count h = rw (s, le-ltb 11 r.kind k, lt-ltb 8 r.count h)

      module _ (n : r.count ≤ 8) where
        pub bad_sub : sub_known r.kind r.sub ≡ false → malformed r right ≡ true
        unfolding malformed
        bad_sub e = rw (s, le-ltb 11 r.kind k, le-ltb 8 r.count n, e)

        module _ (u : sub_known r.kind r.sub ≡ true) where
          pub no_tags : (r.kind ≡ 11 → ⊥) → malformed r right ≡ false
          unfolding malformed
          no_tags h = rw (s, le-ltb 11 r.kind k, le-ltb 8 r.count n, u, ne_eqb r.kind 11 h)

          pub by_tags : r.kind ≡ 11 → malformed r right ≡ bad_tag r.count r.entries
          unfolding malformed
          by_tags h = rw (s, le-ltb 11 r.kind k, le-ltb 8 r.count n, u, eq-eqb r.kind 11 h)

-- a number of no kind decides by itself
pub bad_number : (r : Record) (right : Bool) → 11 < r.kind → malformed r right ≡ true
unfolding malformed
bad_number r true h = rw (lt-ltb 11 r.kind h)
bad_number r false h = refl

-- what is known of a record that is not malformed
pub record WellFormed (r : Record) (right : Bool) : Type 0 where
  pub summed : right ≡ true
  pub known : r.kind ≤ 11
  pub few : r.count ≤ 8
  pub known_sub : sub_known r.kind r.sub ≡ true
  pub tagged : r.kind ≡ 11 → (i : ℕ) → i < r.count → get_or r.entries (3 * i) 0 ≤ 2

-- and it is known of each
pub well_formed : (r : Record) (right : Bool) → malformed r right ≡ false → WellFormed r right
unfolding malformed
well_formed r right e =
    let a = or-false _ (eqb r.kind 11 && bad_tag r.count r.entries) e in
    let b = or-false _ (not (sub_known r.kind r.sub)) a.0 in
    let c = or-false _ (ltb 8 r.count) b.0 in
    let d = or-false (not right) (ltb 11 r.kind) c.0 in
    record {
      summed = not-false right d.0;
      known = ltb-false 11 r.kind d.1;
      few = ltb-false 8 r.count c.1;
      known_sub = not-false _ b.1;
      tagged = λ k i h. ltb-false 2 _ (any-false (λ j. ltb 2 (get_or r.entries (3 * j) 0)) 0 r.count i (rw (eq-eqb r.kind 11 k) at a.1) (omega arith) h);
    }
