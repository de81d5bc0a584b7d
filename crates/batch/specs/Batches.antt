-- Batches. 01: "Batch: a 64-bit id with a list of 0 to 8 key numbers it puts; id 0 = empty, no keys."
use Rattle.std.specs.Prelude.{Option, Some, None, Bool, true, false, not, ◌&&◌, ◌||◌, List, [], ◌∷◌, ℕ, ltb, leb, eqb, get_or, take, replicate}
use Rattle.base.specs.Pick.{pick}
use Rattle.batch.specs.declared.Batch.{Batch}

abbrev pub empty_batch : Batch
empty_batch = record { id = 0; count = 0; keys = replicate 8 0 }

-- empty means id 0: a batch with an id and no keys still gets its Execute
abbrev pub is_empty : Batch → Bool
is_empty b = eqb b.id 0

-- key numbers past the count are dropped
abbrev pub key_at : ℕ → List ℕ → ℕ → ℕ
key_at count keys i = pick (ltb i count) (get_or keys i 0) 0

-- eight of them
abbrev pub first_keys : ℕ → List ℕ → List ℕ
first_keys n l = key_at n l 0 ∷ key_at n l 1 ∷ key_at n l 2 ∷ key_at n l 3 ∷ key_at n l 4 ∷ key_at n l 5 ∷ key_at n l 6 ∷ key_at n l 7 ∷ []

-- 10: "list or batch with numbers outside the above": more than 8 keys, or keys at id 0
abbrev pub is_batch : ℕ → ℕ → Bool
is_batch id count = leb count 8 && (not (eqb id 0) || eqb count 0)

-- a batch made from numbers: the answer 0, or 10 and the empty batch
pub record Made : Type 0 where
  pub answer : ℕ
  pub batch : Batch

-- the code says 10 by no batch
abbrev pub made : Option Batch → Made
made None = record { answer = 10; batch = empty_batch }
made (Some b) = record { answer = 0; batch = b }

unfoldable pub make_batch : ℕ → ℕ → List ℕ → Made
make_batch id count keys =
    pick (is_batch id count)
    (record { answer = 0; batch = record { id = id; count = count; keys = first_keys count keys } })
    (record { answer = 10; batch = empty_batch })

-- how many places of an array a count uses: no more than there are
abbrev pub clip : ℕ → ℕ → ℕ
clip size count = pick (ltb size count) size count

-- how many of the eight key numbers a batch uses
abbrev pub key_count : Batch → ℕ
key_count b = clip 8 b.count

-- the list of a batch
abbrev pub key_list : Batch → List ℕ
key_list b = take (key_count b) b.keys

abbrev pub same_list : List ℕ → List ℕ → Bool
same_list [] [] = true
same_list [] (y ∷ ys) = false
same_list (x ∷ xs) [] = false
same_list (x ∷ xs) (y ∷ ys) = eqb x y && same_list xs ys

-- 01: "Two batches are one if id and list are equal."
unfoldable pub same_batch : Batch → Batch → Bool
same_batch a b = eqb a.id b.id && same_list (key_list a) (key_list b)
