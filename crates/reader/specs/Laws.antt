-- Laws of one step: how the code finds the place after it, and what each step is.
use Rattle.std.specs.Prelude.{◌≡◌, true, false, List, ◌⊎◌, ℕ, ◌+◌, ◌≤◌, ◌<◌, leb, length}
use Rattle.std.proofs.Math.Path.{ap}
use Rattle.std.proofs.Common.{inl, inr, arith, leb-true, leb-false}
use Rattle.base.specs.Pick.{decide}
use Rattle.trace.specs.declared.Next.{Next}
use Rattle.trace.specs.declared.Next.TheVariants.{Whole, Short, End}
use Rattle.trace.specs.declared.Record.{Record}
use Rattle.trace.specs.Records.{fields_at, no_record, record_at, next_at}
use Rattle.trace.specs.Laws.{record_here, record_past, next_end, next_short, next_whole, found_whole}
use Rattle.reader.specs.declared.Step.{Step}
use Rattle.reader.specs.Steps.{after_of, after_at, step_at}

module _ (l : List ℕ) (at : ℕ) where
  -- the code's cases
  pub after_found : (n : Next) → next_at l at ≡ n → after_at l at ≡ after_of n (length l) at
  unfolding after_at
  after_found n e = rw e

  pub whole_fits : (begin : ℕ) → next_at l at ≡ Whole begin → begin + 256 ≤ length l
  whole_fits begin e = let f = found_whole l at begin e in omega arith

  pub step_made : (found : Next) (read : Record) (after : ℕ) → found ≡ next_at l at → read ≡ record_at l at → after ≡ after_at l at
      → record { found = found; read = read; after = after } ≡ step_at l at
  unfolding step_at
  step_made found read after e f g = cc

  -- the numbers that a step hands back are the record's at its place
  pub step_reads : (s : Step) → s ≡ step_at l at → s.read ≡ record_at l at
  unfolding step_at
  step_reads s e = ap (λ (x : Step). x.read) e

  -- a whole record, the short rest, the end
  pub after_whole : at + 256 ≤ length l → after_at l at ≡ at + 256
  after_whole h = after_found (Whole at) (next_whole l at h)

  pub after_short : at < length l → length l < at + 256 → after_at l at ≡ length l
  after_short h k = after_found Short (next_short l at h k)

  pub after_end : length l ≤ at → after_at l at ≡ at
  after_end h = after_found End (next_end l at h)

  pub step_whole : at + 256 ≤ length l → step_at l at ≡ record { found = Whole at; read = fields_at l at; after = at + 256 }
  unfolding step_at
  step_whole h = rw (next_whole l at h, record_here l at h, after_whole h)

  pub step_short : at < length l → length l < at + 256 → step_at l at ≡ record { found = Short; read = no_record; after = length l }
  unfolding step_at
  step_short h k = rw (next_short l at h k, record_past l at k, after_short h k)

  pub step_end : length l ≤ at → step_at l at ≡ record { found = End; read = no_record; after = at }
  unfolding step_at
  step_end h = rw (next_end l at h, record_past l at (omega arith), after_end h)

  -- every place is one of the three
  pub three : {P : Type 0} → (at + 256 ≤ length l → P) → (at < length l → length l < at + 256 → P) → (length l ≤ at → P) → P
  three {P} whole short end = go (decide (leb (length l) at)) (decide (leb (at + 256) (length l)))
    where
      go : (leb (length l) at ≡ true) ⊎ (leb (length l) at ≡ false) → (leb (at + 256) (length l) ≡ true) ⊎ (leb (at + 256) (length l) ≡ false) → P
      go (inl e) w = end (leb-true _ _ e)
      go (inr s) (inl w) = whole (leb-true _ _ w)
      go (inr s) (inr w) = short (leb-false _ _ s) (leb-false _ _ w)

  -- a step that began within the bytes ends within them, and goes on unless it is at the end
  pub after_within : at ≤ length l → after_at l at ≤ length l
  after_within h = three (λ w. omega (arith, after_whole w)) (λ s w. omega (arith, after_short s w)) (λ e. omega (arith, after_end e))

  pub after_on : at < length l → at < after_at l at
  after_on h = three (λ w. omega (arith, after_whole w)) (λ s w. omega (arith, after_short s w)) (λ e. omega arith)
