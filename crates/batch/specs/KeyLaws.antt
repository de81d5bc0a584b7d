-- Laws of the highest-slot table: where a key is found, what noting a key does to every key's slot, and how the count grows.
use Rattle.std.specs.Prelude.{Option, min, take, ◌≡◌, Bool, true, false, not, ◌&&◌, ◌||◌, ◌⊎◌, List, ltb, leb, eqb, length, get_or, set}
use Rattle.std.proofs.Math.Path.{refl, sym}
use Rattle.std.proofs.Common.{ap, ◌∙◌, inl, inr, ⊎_elim, le_refl, eq-or-lt_of_le, add-one, length-set, get_or-set_same, get_or-set_other}
use Rattle.std.proofs.Math.Bool.{or-true, or-false}
use Prim.Native.Nat.{ℕ, zero, suc, ◌+◌, ◌≤◌, ◌<◌}
use native.Mathlib.Omega.{arith}
use borrow.Author.Tests.{ltb-true, ltb-false, lt-ltb, le-ltb, le-leb, lt-leb, leb-true, leb-false, eqb-true, eq-eqb, ne_eqb, not-false}
use Rattle.base.specs.Pick.{pick_cases, larger, larger_left, larger_right, decide, clash, same?, tests}
use Rattle.base.specs.Find.{any, any_more, any_found}
use Rattle.base.specs.Spans.{any_front, scan_front, position_or_end}
use Rattle.std.specs.List.{list_any, position}
use Rattle.std.specs.Option.{unwrap_or}
use Rattle.std.proofs.lemmas.List.{length-take, length-take-le, get_or-take}
use mir.Val.{bool_byte}
use Rattle.base.specs.Scan.{scan, scan_passed, scan_stopped}
use Rattle.batch.specs.declared.Batch.{Batch}
use Rattle.batch.specs.declared.KeyTable.{KeyTable}
use Rattle.batch.specs.Batches.{clip, key_count}
use Rattle.batch.specs.Laws.{clip_is, clip-min, clip_within}
use Rattle.batch.specs.Keys.{empty_table, other_at, place_in, holds, place_of, knows, slot_for, raised, added, note_key, note_keys, refresh, count1, same_at, repeats, is_new, new_keys, overfull_in}

pub other_here : (used : List ℕ) (key i : ℕ) → get_or used i 0 ≡ key → other_at used key i ≡ false
other_here used key i e = rw (eq-eqb (get_or used i 0) key e)

pub other_on : (used : List ℕ) (key i : ℕ) → (get_or used i 0 ≡ key → ⊥) → other_at used key i ≡ true
other_on used key i h = rw (ne_eqb (get_or used i 0) key h)

module _ (used : List ℕ) (count key : ℕ) where
  -- where a search begins
  pub place_start : (end : ℕ) → end ≡ clip 256 count → scan (other_at used key) 0 end ≡ place_in used count key
  unfolding place_in
  place_start end e = rw e

  -- no place before the one that is found holds the key, and that one does
  pub place_before : (j : ℕ) → j < place_in used count key → get_or used j 0 ≡ key → ⊥
  unfolding place_in
  place_before j h e = clash (scan_passed (other_at used key) 0 (clip 256 count) j (omega arith) h) (other_here used key j e)

  pub holds_at : holds used count key ≡ true → get_or used (place_in used count key) 0 ≡ key
  unfolding place_in
  holds_at t = eqb-true _ _ (not-false _ (scan_stopped (other_at used key) 0 (clip 256 count) (ltb-true _ _ t)))

  pub place_low : (i : ℕ) → get_or used i 0 ≡ key → place_in used count key ≤ i
  place_low i e = ⊎_elim (λ t. absurd (place_before i (ltb-true _ _ t) e)) (λ f. ltb-false i _ f) (decide (ltb i (place_in used count key)))

  pub holds_here : (i : ℕ) → i < clip 256 count → get_or used i 0 ≡ key → holds used count key ≡ true
  holds_here i h e = let l = place_low i e in lt-ltb (place_in used count key) (clip 256 count) (omega arith)

  pub holds_not : holds used count key ≡ false → (i : ℕ) → i < clip 256 count → get_or used i 0 ≡ key → ⊥
  holds_not f i h e = clash (holds_here i h e) f

  pub not_holds : ((i : ℕ) → i < clip 256 count → get_or used i 0 ≡ key → ⊥) → holds used count key ≡ false
  not_holds h = ⊎_elim (λ t. absurd (h (place_in used count key) (ltb-true _ _ t) (holds_at t))) (λ f. f) (decide (holds used count key))

  -- the first place that holds the key is the one that is found
  pub place_is : (i : ℕ) → i < clip 256 count → get_or used i 0 ≡ key → ((j : ℕ) → j < i → get_or used j 0 ≡ key → ⊥) → place_in used count key ≡ i
  place_is i h e f =
      let l = place_low i e in
      ⊎_elim (λ (p : place_in used count key ≡ i). p) (λ (u : place_in used count key < i). absurd (f _ u (holds_at (holds_here i h e)))) (eq-or-lt_of_le l)

-- the code's search
pub found_place : (used : List ℕ) (count key n : ℕ) → length used ≡ 256 → n ≡ min count 256 → (r : Option ℕ) → r ≡ position (λ k. eqb k key) (take n used)
    → unwrap_or r n ≡ place_in used count key
unfolding place_in
found_place used count key n e u r q =
    let p : ℕ → Bool = λ k. eqb k key in
    rw (q, position_or_end p (take n used) n (length-take-le n used (omega arith)), ← (u ∙ clip-min 256 count)) (sym (scan_front p 0 used n (omega arith)))

-- noting a key: the three cases
module _ (slot : ℕ) (t : KeyTable) (key : ℕ) where
  pub note_known : knows t key ≡ true → note_key slot t key ≡ raised slot t key
  unfolding note_key
  note_known e = rw e

  pub note_full : knows t key ≡ false → 256 ≤ t.count → note_key slot t key ≡ t
  unfolding note_key
  note_full e h = rw (e, le-leb 256 t.count h)

  pub note_new : knows t key ≡ false → t.count < 256 → note_key slot t key ≡ added slot t key
  unfolding note_key
  note_new e h = rw (e, lt-leb 256 t.count h)

  pub note_cases : (P : KeyTable → Type 0) → (knows t key ≡ true → P (raised slot t key)) → (knows t key ≡ false → 256 ≤ t.count → P t)
      → (knows t key ≡ false → t.count < 256 → P (added slot t key)) → P (note_key slot t key)
  unfolding note_key
  note_cases P a b c =
      pick_cases P (knows t key) a
      (λ f. pick_cases P (leb 256 t.count) (λ u. b f (leb-true 256 t.count u)) (λ u. c f (leb-false 256 t.count u)))

-- what every table has that was made empty and then only noted keys
pub record Shaped (t : KeyTable) : Type 0 where
  pub keys : length t.keys ≡ 256
  pub slots : length t.slots ≡ 256
  pub few : t.count ≤ 256

pub Shaped-empty : Shaped empty_table
Shaped-empty = record { keys = refl; slots = refl; few = omega arith }

pub note_shaped : (slot : ℕ) (t : KeyTable) (key : ℕ) → Shaped t → Shaped (note_key slot t key)
note_shaped slot t key s =
    note_cases slot t key Shaped (λ e. record { keys = s.keys; slots = length-set t.slots _ _ ∙ s.slots; few = s.few }) (λ e h. s)
    (λ e h. record { keys = length-set t.keys _ _ ∙ s.keys; slots = length-set t.slots _ _ ∙ s.slots; few = omega arith })

-- the count never falls
pub note_count : (slot : ℕ) (t : KeyTable) (key : ℕ) → t.count ≤ (note_key slot t key).count
note_count slot t key = note_cases slot t key (λ (x : KeyTable). t.count ≤ x.count) (λ e. le_refl _) (λ e h. le_refl _) (λ e h. omega arith)

-- there is room for a key that is known, and for any where a place is free
abbrev pub Room : KeyTable → ℕ → Type 0
Room t key = (knows t key ≡ true) ⊎ (t.count < 256)

module _ (slot : ℕ) (t : KeyTable) (s : Shaped t) where
  pub in_use : clip 256 t.count ≡ t.count
  in_use = clip_is 256 t.count s.few

  known_below : (other : ℕ) → knows t other ≡ true → place_of t other < t.count
  known_below other e = rw in_use at (ltb-true (place_of t other) (clip 256 t.count) e)

  -- a key that takes the next place is found there, and every other key is found where it was, or is not
  module _ (key : ℕ) (h : t.count < 256) where
    in_use_then : clip 256 (t.count + 1) ≡ t.count + 1
    in_use_then = clip_is 256 (t.count + 1) (omega arith)

    pub at_new : get_or (added slot t key).keys t.count 0 ≡ key
    at_new = get_or-set_same t.keys t.count key 0 (omega (arith, s.keys))

    pub at_old : (j : ℕ) → j < t.count → get_or (added slot t key).keys j 0 ≡ get_or t.keys j 0
    at_old j u = get_or-set_other t.keys t.count j key 0 (λ e. omega arith)

    added_place : knows t key ≡ false → place_of (added slot t key) key ≡ t.count
    added_place f =
        place_is _ _ key t.count (rw in_use_then (omega arith)) at_new
        (λ j u e. holds_not t.keys t.count key f j (rw in_use u) (sym (at_old j u) ∙ e))

    added_known : (other : ℕ) → knows t other ≡ true → place_of (added slot t key) other ≡ place_of t other
    added_known other e =
        let l = known_below other e in
        place_is _ _ other (place_of t other) (rw in_use_then (omega arith)) (at_old (place_of t other) l ∙ holds_at t.keys t.count other e)
        (λ j u f. place_before t.keys t.count other j u (sym (at_old j (omega arith)) ∙ f))

    added_keeps : (other : ℕ) → knows t other ≡ true → knows (added slot t key) other ≡ true
    added_keeps other e =
        let l = known_below other e in
        rw (added_known other e, in_use_then) (lt-ltb (place_of t other) (t.count + 1) (omega arith))

    added-knows : knows t key ≡ false → knows (added slot t key) key ≡ true
    added-knows f = rw (added_place f, in_use_then) (lt-ltb t.count (t.count + 1) (omega arith))

    added_lacks : (other : ℕ) → (other ≡ key → ⊥) → knows t other ≡ false → knows (added slot t key) other ≡ false
    added_lacks other n f =
        not_holds _ _ other
        (λ i u e.
        let v : i < t.count + 1 = rw in_use_then at u in
        ⊎_elim (λ (p : i ≡ t.count). n (sym e ∙ ap (λ (x : ℕ). get_or (added slot t key).keys x 0) p ∙ at_new))
        (λ (w : i < t.count). holds_not t.keys t.count other f i (rw in_use w) (sym (at_old i w) ∙ e)) (eq-or-lt_of_le (omega arith)))

  -- which keys are known after one is noted
  pub note_knows : (key other : ℕ) → Room t key → knows (note_key slot t key) other ≡ (knows t other || eqb key other)
  note_knows key other r =
      ⊎_elim
      (λ (p : key ≡ other). rw (eq-eqb key other p, or-true, ← p) (self_known r))
      (λ n. rw (ne_eqb key other n, or-false) (other_known n))
      (same? key other)
    where
      self_known : Room t key → knows (note_key slot t key) key ≡ true
      self_known r =
          note_cases slot t key (λ (x : KeyTable). knows x key ≡ true) (λ e. e)
          (λ e h. ⊎_elim (λ (k : knows t key ≡ true). absurd (clash k e)) (λ (u : t.count < 256). absurd (omega arith)) r) (λ e h. added-knows key h e)

      other_known : (key ≡ other → ⊥) → knows (note_key slot t key) other ≡ knows t other
      other_known n =
          note_cases slot t key (λ (x : KeyTable). knows x other ≡ knows t other) (λ e. refl) (λ e h. refl)
          (λ e h. ⊎_elim (λ (k : knows t other ≡ true). added_keeps key h other k ∙ sym k)
          (λ (k : knows t other ≡ false). added_lacks key h other (λ p. n (sym p)) k ∙ sym k) (decide (knows t other)))

  -- a key that is noted has the larger of its slot and the new one, and every other key has its own
  pub note_slot : (key : ℕ) → Room t key → slot_for (note_key slot t key) key ≡ larger (slot_for t key) slot
  note_slot key r =
      note_cases slot t key (λ (x : KeyTable). slot_for x key ≡ larger (slot_for t key) slot)
      (λ e. rw (e, get_or-set_same t.slots (place_of t key) (larger (get_or t.slots (place_of t key) 0) slot) 0 (omega (arith, known_below key e, s.few, s.slots))))
      (λ e h. ⊎_elim (λ (k : knows t key ≡ true). absurd (clash k e)) (λ (u : t.count < 256). absurd (omega arith)) r)
      (λ e h. rw (added-knows key h e, e, added_place key h e, get_or-set_same t.slots t.count slot 0 (omega (arith, s.slots))) (zero_larger slot))
    where
      zero_larger : (n : ℕ) → n ≡ larger 0 n
      zero_larger n = pick_cases (λ (x : ℕ). n ≡ x) (ltb 0 n) (λ e. refl) (λ e. omega (arith, tests))

  pub note_other : (key other : ℕ) → (key ≡ other → ⊥) → slot_for (note_key slot t key) other ≡ slot_for t other
  note_other key other n =
      note_cases slot t key (λ (x : KeyTable). slot_for x other ≡ slot_for t other) kept (λ e h. refl) fresh
    where
      kept : knows t key ≡ true → slot_for (raised slot t key) other ≡ slot_for t other
      kept e =
          ⊎_elim
          (λ (k : knows t other ≡ true). rw k
          (get_or-set_other t.slots (place_of t key) (place_of t other) _ 0
          (λ p. n (sym (holds_at t.keys t.count key e) ∙ ap (λ (x : ℕ). get_or t.keys x 0) (sym p) ∙ holds_at t.keys t.count other k))))
          (λ (k : knows t other ≡ false). rw k)
          (decide (knows t other))

      fresh : knows t key ≡ false → t.count < 256 → slot_for (added slot t key) other ≡ slot_for t other
      fresh e h =
          ⊎_elim
          (λ (k : knows t other ≡ true). rw (added_keeps key h other k, k, added_known key h other k)
          (get_or-set_other t.slots t.count (place_of t other) slot 0 (λ p. omega (arith, known_below other k))))
          (λ (k : knows t other ≡ false). rw (added_lacks key h other (λ p. n (sym p)) k, k))
          (decide (knows t other))

  -- so no key's slot falls, and the key that is noted has at least the new one
  pub note_grows : (key other : ℕ) → slot_for t other ≤ slot_for (note_key slot t key) other
  note_grows key other = ⊎_elim (λ (p : key ≡ other). rw (← p) self) (λ n. rw (note_other key other n) (le_refl (slot_for t other))) (same? key other)
    where
      self : slot_for t key ≤ slot_for (note_key slot t key) key
      self =
          ⊎_elim (λ (k : knows t key ≡ true). rw (note_slot key (inl k)) (larger_left (slot_for t key) slot))
          (λ (k : knows t key ≡ false).
          ⊎_elim (λ u. rw (note_full slot t key k (leb-true 256 t.count u)) (le_refl (slot_for t key)))
          (λ u. rw (note_slot key (inr (leb-false 256 t.count u))) (larger_left (slot_for t key) slot)) (decide (leb 256 t.count)))
          (decide (knows t key))

  pub note_reaches : (key : ℕ) → Room t key → slot ≤ slot_for (note_key slot t key) key
  note_reaches key r = rw (note_slot key r) (larger_right (slot_for t key) slot)

  -- the count grows by one for a new key
  pub note_counts : (key : ℕ) → Room t key → (note_key slot t key).count ≡ t.count + count1 (not (knows t key))
  note_counts key r =
      note_cases slot t key (λ (x : KeyTable). x.count ≡ t.count + count1 (not (knows t key)))
      (λ e. rw e (omega arith))
      (λ e h. ⊎_elim (λ (k : knows t key ≡ true). absurd (clash k e)) (λ (u : t.count < 256). absurd (omega arith)) r)
      (λ e h. rw e)

-- the same for a batch's keys, one after the other
pub notes_none : (slot : ℕ) (keys : List ℕ) (t : KeyTable) → t ≡ note_keys slot keys t 0
unfolding note_keys
notes_none slot keys t = refl

pub notes_more : (slot : ℕ) (keys : List ℕ) (t s r : KeyTable) (i : ℕ) → s ≡ note_keys slot keys t i → r ≡ note_key slot s (get_or keys i 0) → r ≡ note_keys slot keys t (i + 1)
unfolding note_keys
notes_more slot keys t s r i p q = rw (add-one i, ← p) q

-- a turn of the code's loop over the first n keys, and its end
pub notes_next : (slot : ℕ) (keys : List ℕ) (n : ℕ) (t s r : KeyTable) (i : ℕ) → i < length (take n keys) → s ≡ note_keys slot keys t i
    → r ≡ note_key slot s (get_or (take n keys) i 0) → r ≡ note_keys slot keys t (i + 1)
notes_next slot keys n t s r i h p q =
    notes_more slot keys t s r i p (q ∙ ap (note_key slot s) (get_or-take n keys i 0 (omega (arith, simp length-take at h))))

pub notes_all : (slot : ℕ) (b : Batch) (t s : KeyTable) (n i : ℕ) → length b.keys ≡ 8 → n ≡ key_count b → i ≤ length (take n b.keys) → length (take n b.keys) ≤ i
    → s ≡ note_keys slot b.keys t i → s ≡ refresh slot b t
notes_all slot b t s n i e u h l p =
    let long = length-take-le n b.keys (omega (arith, clip_within 8 b.count)) in
    let q : i ≡ key_count b = omega arith in
    p ∙ ap (note_keys slot b.keys t) q

-- noting a key by the place where it was looked for
module _ (slot : ℕ) (t : KeyTable) (key at used : ℕ) (u : used ≡ clip 256 t.count) (p : at ≡ place_of t key) where
  pub found_knows : at < used → knows t key ≡ true
  found_knows h = lt-ltb (place_of t key) (clip 256 t.count) (omega arith)

  pub missed_knows : used ≤ at → knows t key ≡ false
  missed_knows h = le-ltb (place_of t key) (clip 256 t.count) (omega arith)

  pub note_found : (v : ℕ) → at < used → v ≡ larger (get_or t.slots at 0) slot → record { count = t.count; keys = t.keys; slots = set t.slots at v } ≡ note_key slot t key
  note_found v h e = rw (note_known slot t key (found_knows h), e, p)

  pub note_stays : used ≤ at → 256 ≤ t.count → t ≡ note_key slot t key
  note_stays h l = sym (note_full slot t key (missed_knows h) l)

  pub note_adds : used ≤ at → t.count < 256 → added slot t key ≡ note_key slot t key
  note_adds h l = sym (note_new slot t key (missed_knows h) l)

-- a key that stands earlier in its list: a turn of the search, and its two ways out
module _ (keys : List ℕ) (i : ℕ) where
  pub repeats_more : (j : ℕ) → any (same_at keys i) 0 j ≡ false → (get_or keys j 0 ≡ get_or keys i 0 → ⊥) → any (same_at keys i) 0 (j + 1) ≡ false
  repeats_more j e n = any_more (same_at keys i) 0 j (omega arith) e (ne_eqb (get_or keys j 0) (get_or keys i 0) n)

  pub repeats_found : (j : ℕ) → j < i → get_or keys j 0 ≡ get_or keys i 0 → true ≡ repeats keys i
  repeats_found j h e = sym (any_found (same_at keys i) 0 j i (omega arith) h (eq-eqb (get_or keys j 0) (get_or keys i 0) e))

  pub repeats_none : (j : ℕ) → j ≡ i → any (same_at keys i) 0 j ≡ false → false ≡ repeats keys i
  repeats_none j h e = sym (rw h at e)

-- whether a key is new, by the place where it was looked for
module _ (used : List ℕ) (count : ℕ) (keys : List ℕ) (i at end : ℕ) (u : end ≡ clip 256 count) (p : at ≡ place_in used count (get_or keys i 0)) where
  pub new_known : at < end → 0 ≡ count1 (is_new used count keys i)
  new_known h =
      let e : holds used count (get_or keys i 0) ≡ true = lt-ltb (place_in used count (get_or keys i 0)) (clip 256 count) (omega arith) in
      rw e

  pub new_repeated : true ≡ repeats keys i → 0 ≡ count1 (is_new used count keys i)
  new_repeated e = rw (← e) (none (holds used count (get_or keys i 0)))
    where
      none : (b : Bool) → 0 ≡ count1 (not b && false)
      none true = refl
      none false = refl

  pub new_one : end ≤ at → false ≡ repeats keys i → 1 ≡ count1 (is_new used count keys i)
  new_one h f =
      let e : holds used count (get_or keys i 0) ≡ false = le-ltb (place_in used count (get_or keys i 0)) (clip 256 count) (omega arith) in
      rw (e, ← f)

  -- by the code's search of what stands before it
  pub new_here : end ≤ at → i ≤ length keys → (t : Bool) → t ≡ list_any (λ k. eqb k (get_or keys i 0)) (take i keys) → not t ≡ is_new used count keys i
  new_here h l t q =
      let e : holds used count (get_or keys i 0) ≡ false = le-ltb (place_in used count (get_or keys i 0)) (clip 256 count) (omega arith) in
      rw (e, q) (ap not (sym (any_front (λ k. eqb k (get_or keys i 0)) 0 keys i l)))

pub count1_few : (b : Bool) → count1 b ≤ 1
count1_few true = omega arith
count1_few false = omega arith

pub count1-byte : (b : Bool) → bool_byte b ≡ count1 b
count1-byte true = refl
count1-byte false = refl

module _ (used : List ℕ) (count : ℕ) (keys : List ℕ) where
  pub new_none : 0 ≡ new_keys used count keys 0
  unfolding new_keys
  new_none = refl

  pub new_more : (i fresh one : ℕ) → fresh ≡ new_keys used count keys i → one ≡ count1 (is_new used count keys i) → fresh + one ≡ new_keys used count keys (i + 1)
  unfolding new_keys
  new_more i fresh one p q = rw (add-one i, p, q)

  -- no more keys are new than there are
  pub new_few : (n : ℕ) → new_keys used count keys n ≤ n
  unfolding new_keys
  new_few zero = omega arith
  new_few (suc i) = omega (arith, new_few i, count1_few (is_new used count keys i))

-- 7: the three ways in which the question is answered
module _ (used : List ℕ) (count : ℕ) (b : Batch) where
  pub overfull_count : 256 < count → true ≡ overfull_in used count b
  unfolding overfull_in
  overfull_count h = sym (lt-ltb 256 (count + new_keys used count b.keys (key_count b)) (omega arith))

  pub overfull_fits : (n : ℕ) → n ≡ key_count b → count + n ≤ 256 → false ≡ overfull_in used count b
  unfolding overfull_in
  overfull_fits n e h = sym (le-ltb 256 (count + new_keys used count b.keys (key_count b)) (omega (arith, new_few used count b.keys (key_count b))))

  pub overfull_new : (n fresh : ℕ) → n ≡ key_count b → fresh ≡ new_keys used count b.keys n → ltb 256 (count + fresh) ≡ overfull_in used count b
  unfolding overfull_in
  overfull_new n fresh e f = rw (f, e)
