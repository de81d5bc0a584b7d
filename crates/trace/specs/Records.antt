-- The trace's records. 01: "`replay` reads 256-byte records from standard input, no header, little-endian."
use Rattle.std.specs.Prelude.{Bool, true, not, ◌&&◌, ◌||◌, List, [], ◌∷◌, ◌++◌, ℕ, zero, suc, ◌+◌, ◌*◌, ltb, leb, eqb, length, get_or, replicate}
use Rattle.base.specs.Pick.{pick}
use Rattle.base.specs.Find.{any}
use Rattle.words.specs.Little.{number_at, bytes_of}
use Rattle.words.specs.Put.{put}
use Rattle.words.specs.Sums.{sum_of}
use Rattle.trace.specs.declared.Record.{Record}
use Rattle.trace.specs.declared.Next.{Next}
use Rattle.trace.specs.declared.Next.TheVariants.{Whole, Short, End}

-- n numbers of 8 bytes, from `at` on
unfoldable pub numbers_at : List ℕ → ℕ → ℕ → List ℕ
numbers_at l at zero = []
numbers_at l at (suc n) = numbers_at l at n ++ (number_at 8 l (at + 8 * n) ∷ [])

-- 01: "Bytes 0 to 3: kind, peer, sub, count. Bytes 4 to 7: the sum of the other 63 four-byte words, wrapping at 2^32. From 8: slot, trigger,
-- endprep, ballot, voted ballot, batch, bar (8 bytes each). From 64: eight entries of three numbers"
unfoldable pub fields_at : List ℕ → ℕ → Record
fields_at l at =
    record {
      kind = get_or l at 0;
      peer = get_or l (at + 1) 0;
      sub = get_or l (at + 2) 0;
      count = get_or l (at + 3) 0;
      slot = number_at 8 l (at + 8);
      trigger = number_at 8 l (at + 16);
      endprep = number_at 8 l (at + 24);
      ballot = number_at 8 l (at + 32);
      voted = number_at 8 l (at + 40);
      batch = number_at 8 l (at + 48);
      bar = number_at 8 l (at + 56);
      entries = numbers_at l (at + 64) 24;
    }

abbrev pub no_record : Record
no_record =
    record {
      kind = 0;
      peer = 0;
      sub = 0;
      count = 0;
      slot = 0;
      trigger = 0;
      endprep = 0;
      ballot = 0;
      voted = 0;
      batch = 0;
      bar = 0;
      entries = replicate 24 0;
    }

-- whether a whole record begins at a place
abbrev pub whole_at : List ℕ → ℕ → Bool
whole_at l at = leb (at + 256) (length l)

-- the record that begins at a place; all zero where there is none
unfoldable pub record_at : List ℕ → ℕ → Record
record_at l at = pick (whole_at l at) (fields_at l at) no_record

-- 01: "Bytes 4 to 7: the sum of the other 63 four-byte words, wrapping at 2^32."
unfoldable pub sum_right : List ℕ → ℕ → Bool
sum_right l at = whole_at l at && eqb (number_at 4 l (at + 4)) (sum_of l at 64 1)

-- the bytes with that sum in its place
unfoldable pub sum_written : List ℕ → ℕ → List ℕ
sum_written l at = pick (whole_at l at) (put l (at + 4) (bytes_of 4 (sum_of l at 64 1))) l

-- 01: "2 PrepareReply (sub 1 = voted)", "8 log done (sub 1 PrepareBal, 2 AcceptData, 3 CommitSlot)", "11 read reply (sub 1 = from leader)"
abbrev pub sub_known : ℕ → ℕ → Bool
sub_known kind sub = pick (eqb kind 2 || eqb kind 11) (leb sub 1) (pick (eqb kind 8) (leb 1 sub && leb sub 3) true)

-- 01: "tag (0 nothing, 1 slot, 2 value)": a counted entry with another
abbrev pub bad_tag : ℕ → List ℕ → Bool
bad_tag count entries = any (λ i. ltb 2 (get_or entries (3 * i) 0)) 0 count

-- 01: "A wrong sum, unknown kind, sub (in kinds 2, 8, 11) or tag (in kind 11's counted entries), count over 8 or short last record prints 13"
unfoldable pub malformed : Record → Bool → Bool
malformed r right =
    not right || ltb 11 r.kind || ltb 8 r.count || not (sub_known r.kind r.sub) || (eqb r.kind 11 && bad_tag r.count r.entries)

-- 01: "eight entries of three numbers: key, 0, 0"
abbrev pub keys_of : Record → List ℕ
keys_of r =
    let e : List ℕ = r.entries in
    get_or e 0 0 ∷ get_or e 3 0 ∷ get_or e 6 0 ∷ get_or e 9 0 ∷ get_or e 12 0 ∷ get_or e 15 0 ∷ get_or e 18 0 ∷ get_or e 21 0 ∷ []

-- what stands at a place: nothing, 1 to 255 bytes, or a whole record
unfoldable pub next_at : List ℕ → ℕ → Next
next_at l at = pick (leb (length l) at) End (pick (whole_at l at) (Whole at) Short)
