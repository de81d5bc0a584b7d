-- Stepping through a trace. 01: "A reader steps through a lent trace, one record at a time."
use Rattle.std.specs.Prelude.{List, ℕ, zero, suc, ◌+◌, length}
use Rattle.std.specs.Borrow.{Bor}
use Rattle.trace.specs.declared.Next.{Next}
use Rattle.trace.specs.declared.Next.TheVariants.{Whole, Short, End}
use Rattle.trace.specs.Records.{record_at, next_at}
use Rattle.reader.specs.declared.Reader.{Reader}
use Rattle.reader.specs.declared.Step.{Step}

-- 01: "256-byte records", "short last record": the place after what stands at a place; at the end it stays
abbrev pub after_of : Next → ℕ → ℕ → ℕ
after_of (Whole begin) len at = begin + 256
after_of Short len at = len
after_of End len at = at

unfoldable pub after_at : List ℕ → ℕ → ℕ
after_at l at = after_of (next_at l at) (length l) at

-- 01: "one record at a time": what stands at a place, its numbers where it is a whole record, and the place after it
unfoldable pub step_at : List ℕ → ℕ → Step
step_at l at = record { found = next_at l at; read = record_at l at; after = after_at l at }

-- a reader at the first place of lent bytes
abbrev pub started : Bor (List ℕ) → Reader
started bytes = record { bytes = bytes; at = 0 }

-- the reader of the same bytes after what stands at its place
abbrev pub moved_on : Reader → Reader
moved_on r = record { bytes = r.bytes; at = after_at r.bytes.now r.at }

-- where a reader stands after n steps
unfoldable pub reader_after : Bor (List ℕ) → ℕ → Reader
reader_after bytes zero = started bytes
reader_after bytes (suc n) = moved_on (reader_after bytes n)

unfoldable pub place_after : List ℕ → ℕ → ℕ
place_after l zero = 0
place_after l (suc n) = after_at l (place_after l n)
