-- Laws of a refresh: no slot falls, no count falls, where 7 is not answered each key of the batch is noted, and distinct keys stay distinct.
use Rattle.std.specs.Prelude.{◌≡◌, Bool, ◌&&◌, ◌||◌, List, ltb}
use Rattle.std.proofs.Math.Path.{refl, ap}
use Rattle.std.proofs.Common.{sym, ◌∙◌, eq-or-lt_of_le}
use Rattle.std.proofs.Math.Bool.{true, false, not}
use Rattle.std.proofs.Math.Logic.{inl, inr, ⊎_elim}
use Prim.Native.Nat.{ℕ, zero, suc, ◌+◌, ◌≤◌, ◌<◌}
use Rattle.std.proofs.Math.Nat.{le_refl}
use native.Mathlib.Omega.{arith}
use Rattle.std.proofs.Math.Dec.{eqb}
use Rattle.std.proofs.Math.ListN.{get_or}
use borrow.Author.Tests.{ltb-false, le-leb, eqb-true, eqb-false, eq-eqb}
use Rattle.base.specs.Pick.{pick, pick_cases, larger, larger_right, decide, tests}
use Rattle.base.specs.Find.{any, any_found}
use Rattle.batch.specs.declared.Batch.{Batch}
use Rattle.batch.specs.declared.KeyTable.{KeyTable}
use Rattle.batch.specs.Batches.{key_count}
use Rattle.batch.specs.Keys.{empty_table, knows, slot_for, added, note_key, note_keys, refresh, count1, is_new, new_keys, overfull_in, overfull}
use Rattle.batch.specs.KeyLaws.{Shaped, Room, holds_not, note_cases, note_shaped, note_count, note_knows, note_slot, note_other, note_grows, note_counts, in_use, at_new, at_old}

-- key j of a list is the key
abbrev pub is_at : List ℕ → ℕ → ℕ → Bool
is_at keys key j = eqb (get_or keys j 0) key

de_morgan : (a b : Bool) → (not a && not b) ≡ not (a || b)
de_morgan true b = refl
de_morgan false b = refl

or-pick : (a x e : Bool) → ((a || x) || e) ≡ (a || pick e true x)
or-pick true x e = refl
or-pick false true true = refl
or-pick false true false = refl
or-pick false false true = refl
or-pick false false false = refl

larger_again : (a b : ℕ) → larger (larger a b) b ≡ larger a b
larger_again a b =
    pick_cases (λ (x : ℕ). x ≡ larger a b) (ltb (larger a b) b)
    (λ t. absurd (omega (arith, tests, larger_right a b))) (λ t. refl)

any-suc : (p : ℕ → Bool) (i : ℕ) → any p 0 (suc i) ≡ pick (p i) true (any p 0 i)
any-suc p i = rw (le-leb 0 i (omega arith))

module _ (slot : ℕ) (keys : List ℕ) (t : KeyTable) (s : Shaped t) where
  pub notes_shaped : (n : ℕ) → Shaped (note_keys slot keys t n)
  unfolding note_keys
  notes_shaped zero = s
  notes_shaped (suc i) = note_shaped slot (note_keys slot keys t i) (get_or keys i 0) (notes_shaped i)

  pub notes_count : (n : ℕ) → t.count ≤ (note_keys slot keys t n).count
  unfolding note_keys
  notes_count zero = le_refl t.count
  notes_count (suc i) = omega (arith, notes_count i, note_count slot (note_keys slot keys t i) (get_or keys i 0))

  pub notes_grows : (n key : ℕ) → slot_for t key ≤ slot_for (note_keys slot keys t n) key
  unfolding note_keys
  notes_grows zero key = le_refl (slot_for t key)
  notes_grows (suc i) key = omega (arith, notes_grows i key, note_grows slot (note_keys slot keys t i) (notes_shaped i) (get_or keys i 0) key)

  -- where there is room for what is new: the count, which keys are known, and every key's slot
  record Noted (n : ℕ) : Type 0 where
    many : (note_keys slot keys t n).count ≡ t.count + new_keys t.keys t.count keys n
    known : (key : ℕ) → knows (note_keys slot keys t n) key ≡ (knows t key || any (is_at keys key) 0 n)

  new_is : (i : ℕ) → Noted i → is_new t.keys t.count keys i ≡ not (knows (note_keys slot keys t i) (get_or keys i 0))
  new_is i m = de_morgan (knows t (get_or keys i 0)) _ ∙ ap not (sym (m.known (get_or keys i 0)))

  has_room : (i : ℕ) → t.count + new_keys t.keys t.count keys (suc i) ≤ 256 → Noted i → Room (note_keys slot keys t i) (get_or keys i 0)
  unfolding new_keys
  has_room i h m =
      ⊎_elim (λ e. inl e)
      (λ (e : knows (note_keys slot keys t i) (get_or keys i 0) ≡ false).
      let one : count1 (is_new t.keys t.count keys i) ≡ 1 = ap count1 (new_is i m ∙ ap not e) in
      inr (omega (arith, m.many)))
      (decide (knows (note_keys slot keys t i) (get_or keys i 0)))

  noted : (n : ℕ) → t.count + new_keys t.keys t.count keys n ≤ 256 → Noted n
  unfolding note_keys new_keys
  noted zero h = record { many = omega arith; known = λ key. or_none (knows t key) }
    where
      or_none : (a : Bool) → a ≡ (a || false)
      or_none true = refl
      or_none false = refl
  noted (suc i) h =
      let m = noted i (omega arith) in
      let r = has_room i h m in
      let key = get_or keys i 0 in
      record {
        many = omega (arith, note_counts slot (note_keys slot keys t i) (notes_shaped i) key r, m.many, ap count1 (new_is i m));
        known = λ other.
            note_knows slot (note_keys slot keys t i) (notes_shaped i) key other r
            ∙ rw (m.known other, any-suc (is_at keys other) i) (or-pick (knows t other) (any (is_at keys other) 0 i) (eqb key other));
      }

  -- each key of the list has the larger of its slot and the new one, and every other key has its own
  pub notes_slot : (n : ℕ) → t.count + new_keys t.keys t.count keys n ≤ 256 → (key : ℕ)
      → slot_for (note_keys slot keys t n) key ≡ pick (any (is_at keys key) 0 n) (larger (slot_for t key) slot) (slot_for t key)
  unfolding note_keys new_keys
  notes_slot zero h key = refl
  notes_slot (suc i) h key =
      let l : t.count + new_keys t.keys t.count keys i ≤ 256 = omega arith in
      let before = notes_slot i l key in
      rw (any-suc (is_at keys key) i)
      (⊎_elim
      (λ (e : eqb (get_or keys i 0) key ≡ true).
      let p : get_or keys i 0 ≡ key = eqb-true (get_or keys i 0) key e in
      rw (e, ← p)
      (note_slot slot (note_keys slot keys t i) (notes_shaped i) (get_or keys i 0) (has_room i h (noted i l))
      ∙ rw (p, before) (again (any (is_at keys key) 0 i) (slot_for t key))))
      (λ (e : eqb (get_or keys i 0) key ≡ false).
      rw e (note_other slot (note_keys slot keys t i) (notes_shaped i) (get_or keys i 0) key (eqb-false (get_or keys i 0) key e) ∙ before))
      (decide (eqb (get_or keys i 0) key)))
    where
      again : (b : Bool) (a : ℕ) → larger (pick b (larger a slot) a) slot ≡ larger a slot
      again true a = larger_again a slot
      again false a = refl

-- two places in use never hold one key
abbrev pub Distinct : KeyTable → Type 0
Distinct t = (i j : ℕ) → i < t.count → j < t.count → get_or t.keys i 0 ≡ get_or t.keys j 0 → i ≡ j

pub Distinct-empty : Distinct empty_table
Distinct-empty i j u v e = absurd (omega arith)

pub note_distinct : (slot : ℕ) (t : KeyTable) (key : ℕ) → Shaped t → Distinct t → Distinct (note_key slot t key)
note_distinct slot t key s d = note_cases slot t key Distinct (λ e. d) (λ e h. d) fresh
  where
    fresh : knows t key ≡ false → t.count < 256 → Distinct (added slot t key)
    fresh f h i j u v e =
        ⊎_elim
        (λ (p : i ≡ t.count).
        ⊎_elim (λ (q : j ≡ t.count). omega arith) (λ (w : j < t.count). absurd (apart i j p w e)) (eq-or-lt_of_le (omega arith)))
        (λ (w : i < t.count).
        ⊎_elim (λ (q : j ≡ t.count). absurd (apart j i q w (sym e)))
        (λ (z : j < t.count). d i j w z (sym (at_old slot t s key h i w) ∙ e ∙ at_old slot t s key h j z)) (eq-or-lt_of_le (omega arith)))
        (eq-or-lt_of_le (omega arith))
      where
        -- the new key is not one of the old
        apart : (a b : ℕ) → a ≡ t.count → b < t.count → get_or (added slot t key).keys a 0 ≡ get_or (added slot t key).keys b 0 → ⊥
        apart a b p w q =
            holds_not t.keys t.count key f b (rw (in_use slot t s) w)
            (sym (at_old slot t s key h b w) ∙ sym q ∙ ap (λ (x : ℕ). get_or (added slot t key).keys x 0) p ∙ at_new slot t s key h)

pub notes_distinct : (slot : ℕ) (keys : List ℕ) (t : KeyTable) → Shaped t → Distinct t → (n : ℕ) → Distinct (note_keys slot keys t n)
unfolding note_keys
notes_distinct slot keys t s d zero = d
notes_distinct slot keys t s d (suc i) =
    note_distinct slot (note_keys slot keys t i) (get_or keys i 0) (notes_shaped slot keys t s i) (notes_distinct slot keys t s d i)

-- refresh_highest_slot, of a whole batch
module _ (slot : ℕ) (b : Batch) (t : KeyTable) (s : Shaped t) where
  pub refresh-Shaped : Shaped (refresh slot b t)
  refresh-Shaped = notes_shaped slot b.keys t s (key_count b)

  pub refresh-Distinct : Distinct t → Distinct (refresh slot b t)
  refresh-Distinct d = notes_distinct slot b.keys t s d (key_count b)

  -- no slot falls, nor does the count
  pub refresh_grows : (key : ℕ) → slot_for t key ≤ slot_for (refresh slot b t) key
  refresh_grows key = notes_grows slot b.keys t s (key_count b) key

  pub refresh_count : t.count ≤ (refresh slot b t).count
  refresh_count = notes_count slot b.keys t s (key_count b)

  -- where 7 is not answered
  module _ (h : overfull t b ≡ false) where
    fits_new : t.count + new_keys t.keys t.count b.keys (key_count b) ≤ 256
    unfolding overfull_in
    fits_new = ltb-false 256 (t.count + new_keys t.keys t.count b.keys (key_count b)) h

    pub refresh_adds : (refresh slot b t).count ≡ t.count + new_keys t.keys t.count b.keys (key_count b)
    refresh_adds = (noted slot b.keys t s (key_count b) fits_new).many

    pub refresh-knows : (key : ℕ) → knows (refresh slot b t) key ≡ (knows t key || any (is_at b.keys key) 0 (key_count b))
    refresh-knows key = (noted slot b.keys t s (key_count b) fits_new).known key

    pub refresh_slot : (key : ℕ) → slot_for (refresh slot b t) key ≡ pick (any (is_at b.keys key) 0 (key_count b)) (larger (slot_for t key) slot) (slot_for t key)
    refresh_slot key = notes_slot slot b.keys t s (key_count b) fits_new key

    pub refresh_reaches : (i : ℕ) → i < key_count b → slot ≤ slot_for (refresh slot b t) (get_or b.keys i 0)
    refresh_reaches i u =
        let key = get_or b.keys i 0 in
        let e = any_found (is_at b.keys key) 0 i (key_count b) (omega arith) u (eq-eqb key key refl) in
        rw (refresh_slot key, e) (larger_right (slot_for t key) slot)
