-- The highest-slot table. 01: "refresh_highest_slot keeps the larger slot per key"; "Highest-slot table: 256 keys."
use Rattle.std.specs.Prelude.{Bool, true, false, not, ◌&&◌, List, ℕ, zero, suc, ◌+◌, ltb, leb, eqb, get_or, set, replicate}
use Rattle.base.specs.Pick.{pick, larger}
use Rattle.base.specs.Find.{any}
use Rattle.base.specs.Scan.{scan}
use Rattle.batch.specs.declared.Batch.{Batch}
use Rattle.batch.specs.declared.KeyTable.{KeyTable}
use Rattle.batch.specs.Batches.{clip, key_count}

abbrev pub empty_table : KeyTable
empty_table = record { count = 0; keys = replicate 256 0; slots = replicate 256 0 }

abbrev pub other_at : List ℕ → ℕ → ℕ → Bool
other_at used key i = not (eqb (get_or used i 0) key)

-- the first place in use that holds the key, or how many are in use where none does
unfoldable pub place_in : List ℕ → ℕ → ℕ → ℕ
place_in used count key = scan (other_at used key) 0 (clip 256 count)

abbrev pub holds : List ℕ → ℕ → ℕ → Bool
holds used count key = ltb (place_in used count key) (clip 256 count)

-- the two of a table; above they are of any list and count, as the functions on lent arrays take them
abbrev pub place_of : KeyTable → ℕ → ℕ
place_of t key = place_in t.keys t.count key

abbrev pub knows : KeyTable → ℕ → Bool
knows t key = holds t.keys t.count key

-- the highest slot known for a key, 0 where none is
abbrev pub slot_for : KeyTable → ℕ → ℕ
slot_for t key = pick (knows t key) (get_or t.slots (place_of t key) 0) 0

-- a known key keeps the larger slot
abbrev pub raised : ℕ → KeyTable → ℕ → KeyTable
raised slot t key =
    record { count = t.count; keys = t.keys; slots = set t.slots (place_of t key) (larger (get_or t.slots (place_of t key) 0) slot) }

-- a new key takes the next place
abbrev pub added : ℕ → KeyTable → ℕ → KeyTable
added slot t key = record { count = t.count + 1; keys = set t.keys t.count key; slots = set t.slots t.count slot }

-- a full table stays: 7 is asked before
unfoldable pub note_key : ℕ → KeyTable → ℕ → KeyTable
note_key slot t key = pick (knows t key) (raised slot t key) (pick (leb 256 t.count) t (added slot t key))

-- the first n keys of a list, noted one after the other
unfoldable pub note_keys : ℕ → List ℕ → KeyTable → ℕ → KeyTable
note_keys slot keys t zero = t
note_keys slot keys t (suc i) = note_key slot (note_keys slot keys t i) (get_or keys i 0)

-- refresh_highest_slot: each key that the batch puts
abbrev pub refresh : ℕ → Batch → KeyTable → KeyTable
refresh slot b t = note_keys slot b.keys t (key_count b)

-- as `one` of members, which this crate does not depend on
abbrev pub count1 : Bool → ℕ
count1 true = 1
count1 false = 0

abbrev pub same_at : List ℕ → ℕ → ℕ → Bool
same_at keys i j = eqb (get_or keys j 0) (get_or keys i 0)

-- key i of a list stands earlier in it
abbrev pub repeats : List ℕ → ℕ → Bool
repeats keys i = any (same_at keys i) 0 i

-- key i of a list is neither in the table nor earlier in the list
abbrev pub is_new : List ℕ → ℕ → List ℕ → ℕ → Bool
is_new used count keys i = not (holds used count (get_or keys i 0)) && not (repeats keys i)

-- how many different keys among the first n of a list the table lacks
unfoldable pub new_keys : List ℕ → ℕ → List ℕ → ℕ → ℕ
new_keys used count keys zero = 0
new_keys used count keys (suc i) = new_keys used count keys i + count1 (is_new used count keys i)

-- 7: "the call would add more new keys than the table has free"
unfoldable pub overfull_in : List ℕ → ℕ → Batch → Bool
overfull_in used count b = ltb 256 (count + new_keys used count b.keys (key_count b))

-- the same of a table
abbrev pub overfull : KeyTable → Batch → Bool
overfull t b = overfull_in t.keys t.count b

-- a batch that is not noted asks for no room, and leaves the table as it was
abbrev pub too_many : Bool → KeyTable → Batch → Bool
too_many noted t b = noted && overfull t b

abbrev pub note_if : Bool → ℕ → Batch → KeyTable → KeyTable
note_if noted slot b t = pick noted (refresh slot b t) t
