-- What the table of open reads promises: a search finds the id asked for, a read is added at the end or taken out, and ids stay distinct; its fit test.
use Rattle.std.specs.Prelude.{◌≡◌, Bool, true, false, not, ◌&&◌, ◌||◌, Option, take, ℕ, ◌+◌, ◌-◌, ◌≤◌, ◌<◌, length, get_or, set, eqb}
use Rattle.std.proofs.Math.Path.{refl}
use Rattle.std.proofs.Common.{sym, ap, ◌∙◌, ⊎_elim, le_refl, arith, length-set, get_or-set_same, get_or-set_other, set-set}
use Rattle.std.proofs.Math.Bool.{and-false}
use mathlib.Core.List.Memᴰ
use mathlib.Core.List.{List, [], ◌∷◌}
use Rattle.std.proofs.Math.ListN.{get_or-map}
use Rattle.std.proofs.Math.Seq.{map-set_same}
use Rattle.std.proofs.lemmas.List.{set-get_or, length-take-le}
use Rattle.std.specs.List.{list_any, list_all, position}
use Rattle.std.specs.Option.{unwrap_or}
use Rattle.std.proofs.Math.Dec.{ltb, leb}
use borrow.Author.Tests.{le-ltb, le-leb, lt-leb, ltb-true, ltb-false, leb-false, eqb-true, eqb-false, not-true, not-false}
use Rattle.base.specs.Pick.{pick, pick_both, pick_cases, decide, same?, and_right, or-false, tests}
use Rattle.base.specs.Among.{◌∈◌}
use Rattle.base.specs.Find.{twice, any, any-false, search_found, search_more, search_done}
use Rattle.base.specs.Scan.{scan_high, scan_passed, scan_stopped}
use Rattle.base.specs.Spans.{any_front, scan_front, position_or_end}
use Rattle.tally.specs.declared.Read.{Read}
use Rattle.tally.specs.declared.Reads.{Reads}
use Rattle.tally.specs.Open.{Opened, new_read, no_read, other_id_at, find_read, open_read, close_read, put_read, fit_read, fit_reads}

abbrev pub read_at : Reads → ℕ → Read
read_at rs i = get_or rs.reads i no_read

abbrev pub id_at : Reads → ℕ → ℕ
id_at rs i = (read_at rs i).id

-- no two reads in use have one id
abbrev pub Distinct : Reads → Type 0
Distinct rs = (i j : ℕ) → i < rs.count → j < rs.count → id_at rs i ≡ id_at rs j → i ≡ j

-- A SEARCH

module _ (rs : Reads) (id : ℕ) where
  pub find_within : find_read rs id ≤ rs.count
  unfolding find_read
  find_within =
      pick_both (λ (x : ℕ). x ≤ rs.count) (ltb 16 rs.count) (le_refl _) (scan_high (other_id_at rs id) 0 rs.count (omega arith))

  -- below the count, the read there is the one asked for
  pub find_id : find_read rs id < rs.count → id_at rs (find_read rs id) ≡ id
  unfolding find_read
  find_id =
      pick_cases (λ (x : ℕ). x < rs.count → id_at rs x ≡ id) (ltb 16 rs.count) (λ t h. absurd (omega arith))
      (λ t h. eqb-true _ _ (not-false _ (scan_stopped (other_id_at rs id) 0 rs.count h)))

  -- at the count, no read has it
  pub find_absent : rs.count ≤ 16 → rs.count ≤ find_read rs id → (i : ℕ) → i < rs.count → id_at rs i ≡ id → ⊥
  unfolding find_read
  find_absent few =
      pick_cases (λ (x : ℕ). rs.count ≤ x → (i : ℕ) → i < rs.count → id_at rs i ≡ id → ⊥) (ltb 16 rs.count)
      (λ t h i q. absurd (omega (arith, tests)))
      (λ t h i q. eqb-false _ _ (not-true _ (scan_passed (other_id_at rs id) 0 rs.count i (omega arith) (omega arith))))

  -- where ids are distinct it is found at its place
  pub find_only : (i : ℕ) → rs.count ≤ 16 → Distinct rs → i < rs.count → id_at rs i ≡ id → find_read rs id ≡ i
  find_only i few d h e =
      ⊎_elim (λ (t : ltb (find_read rs id) rs.count ≡ true). d (find_read rs id) i (ltb-true _ _ t) h (find_id (ltb-true _ _ t) ∙ sym e))
      (λ (t : ltb (find_read rs id) rs.count ≡ false). absurd (find_absent few (ltb-false _ _ t) i h e))
      (decide (ltb (find_read rs id) rs.count))

  -- and where no read has it, nowhere
  pub find_nowhere : ((i : ℕ) → i < rs.count → id_at rs i ≡ id → ⊥) → rs.count ≤ find_read rs id
  find_nowhere n =
      ⊎_elim (λ (t : ltb (find_read rs id) rs.count ≡ true). absurd (n (find_read rs id) (ltb-true _ _ t) (find_id (ltb-true _ _ t))))
      (λ (t : ltb (find_read rs id) rs.count ≡ false). ltb-false _ _ t)
      (decide (ltb (find_read rs id) rs.count))

-- A READ OPENED

module _ (rs : Reads) (id count : ℕ) (keys : List ℕ) where
  -- the table with the read at its end
  abbrev pub added : Reads
  added = record { count = rs.count + 1; reads = set rs.reads rs.count (new_read id count keys) }

  pub open_cases : (P : Opened → Type 0) → P (record { answer = 10; reads = rs }) → P (record { answer = 11; reads = rs })
      → (rs.count ≤ find_read rs id → rs.count < 16 → P (record { answer = 0; reads = added }))
      → P (open_read rs id count keys)
  unfolding open_read
  open_cases P ten full one =
      pick_cases P (eqb count 0 || ltb 8 count || ltb (find_read rs id) rs.count) (λ a. ten)
      (λ a. pick_cases P (leb 16 rs.count) (λ b. full)
      (λ b. one (ltb-false _ _ (or-false (eqb count 0 || ltb 8 count) _ a).1) (leb-false _ _ b)))

  pub open_answers : (open_read rs id count keys).answer ∈ (0 ∷ 10 ∷ 11 ∷ [])
  open_answers =
      open_cases (λ (o : Opened). o.answer ∈ (0 ∷ 10 ∷ 11 ∷ [])) (Memᴰ.tail (Memᴰ.head refl))
      (Memᴰ.tail (Memᴰ.tail (Memᴰ.head refl))) (λ f h. Memᴰ.head refl)

  -- answers 10 and 11 change nothing
  pub open_refused : ((open_read rs id count keys).answer ≡ 0 → ⊥) → (open_read rs id count keys).reads ≡ rs
  open_refused =
      open_cases (λ (o : Opened). (o.answer ≡ 0 → ⊥) → o.reads ≡ rs) (λ z. refl) (λ z. refl) (λ f h z. absurd (z refl))

  -- answer 0: one read more, at the end; the others as they were; the id was not in use
  pub record Added (after : Reads) : Type 0 where
    pub room : rs.count < 16
    pub more : after.count ≡ rs.count + 1
    pub last : rs.count < length rs.reads → read_at after rs.count ≡ new_read id count keys
    pub others : (i : ℕ) → (i ≡ rs.count → ⊥) → read_at after i ≡ read_at rs i
    pub fresh : (i : ℕ) → i < rs.count → id_at rs i ≡ id → ⊥

  pub open_added : (open_read rs id count keys).answer ≡ 0 → Added (open_read rs id count keys).reads
  open_added =
      open_cases (λ (o : Opened). o.answer ≡ 0 → Added o.reads) (λ z. absurd (omega arith)) (λ z. absurd (omega arith))
      (λ f h z.
      record {
        room = h;
        more = refl;
        last = λ q. get_or-set_same rs.reads rs.count _ no_read q;
        others = λ i n. get_or-set_other rs.reads rs.count i _ no_read n;
        fresh = find_absent rs id (omega arith) f;
      })

  pub open_length : length (open_read rs id count keys).reads.reads ≡ length rs.reads
  open_length =
      open_cases (λ (o : Opened). length o.reads.reads ≡ length rs.reads) refl refl (λ f h. length-set rs.reads rs.count _)

  grown_distinct : (after : Reads) → length rs.reads ≡ 16 → Added after → Distinct rs → Distinct after
  grown_distinct after sized a d i j p q e =
      let new : id_at after rs.count ≡ id = ap (λ (r : Read). r.id) (a.last (omega (arith, a.room))) in
      let old : (k : ℕ) → (k ≡ rs.count → ⊥) → id_at after k ≡ id_at rs k = λ k n. ap (λ (r : Read). r.id) (a.others k n) in
      ⊎_elim
      (λ (x : i ≡ rs.count).
      ⊎_elim (λ (y : j ≡ rs.count). x ∙ sym y)
      (λ (y : j ≡ rs.count → ⊥).
      absurd (a.fresh j (omega (arith, a.more, y)) (sym (old j y) ∙ (sym e ∙ (ap (λ (k : ℕ). id_at after k) x ∙ new)))))
      (same? j rs.count))
      (λ (x : i ≡ rs.count → ⊥).
      ⊎_elim
      (λ (y : j ≡ rs.count). absurd (a.fresh i (omega (arith, a.more, x)) (sym (old i x) ∙ (e ∙ (ap (λ (k : ℕ). id_at after k) y ∙ new)))))
      (λ (y : j ≡ rs.count → ⊥). d i j (omega (arith, a.more, x)) (omega (arith, a.more, y)) (sym (old i x) ∙ (e ∙ old j y)))
      (same? j rs.count))
      (same? i rs.count)

  pub open_distinct : length rs.reads ≡ 16 → Distinct rs → Distinct (open_read rs id count keys).reads
  open_distinct sized d =
      ⊎_elim (λ (z : (open_read rs id count keys).answer ≡ 0). grown_distinct _ sized (open_added z) d)
      (λ (z : (open_read rs id count keys).answer ≡ 0 → ⊥). rw (open_refused z) d)
      (same? (open_read rs id count keys).answer 0)

-- A READ CLOSED

module _ (rs : Reads) (at : ℕ) where
  -- the table with the last read in its place
  abbrev pub without : Reads
  without = record { count = rs.count - 1; reads = set rs.reads at (read_at rs (rs.count - 1)) }

  pub close_cases : (P : Reads → Type 0) → P rs → (rs.count ≤ 16 → at < rs.count → P without) → P (close_read rs at)
  unfolding close_read
  close_cases P same less =
      pick_cases P (ltb 16 rs.count || leb rs.count at) (λ a. same)
      (λ a. less (ltb-false _ _ (or-false _ _ a).0) (leb-false _ _ (or-false (ltb 16 rs.count) _ a).1))

  pub close_length : length (close_read rs at).reads ≡ length rs.reads
  close_length = close_cases (λ (o : Reads). length o.reads ≡ length rs.reads) refl (λ f h. length-set rs.reads at _)

  pub close_here : rs.count ≤ 16 → at < rs.count → close_read rs at ≡ without
  unfolding close_read
  close_here few h = rw (le-ltb 16 rs.count few, lt-leb rs.count at h)

  pub close_count : rs.count ≤ 16 → at < rs.count → (close_read rs at).count + 1 ≡ rs.count
  close_count few h = rw (close_here few h) (omega arith)

  pub close_last : length rs.reads ≡ 16 → rs.count ≤ 16 → at < rs.count → read_at (close_read rs at) at ≡ read_at rs (rs.count - 1)
  close_last sized few h = rw (close_here few h) (get_or-set_same rs.reads at _ no_read (omega arith))

  pub close_others : (i : ℕ) → (i ≡ at → ⊥) → read_at (close_read rs at) i ≡ read_at rs i
  close_others i n = close_cases (λ (o : Reads). read_at o i ≡ read_at rs i) refl (λ f h. get_or-set_other rs.reads at i _ no_read n)

  -- the place that a read in use had before
  abbrev from : ℕ → ℕ
  from i = pick (eqb i at) (rs.count - 1) i

  from_below : (i : ℕ) → i < rs.count - 1 → from i < rs.count
  from_below i p = pick_both (λ (x : ℕ). x < rs.count) (eqb i at) (omega arith) (omega arith)

  from_one : (i j : ℕ) → i < rs.count - 1 → j < rs.count - 1 → from i ≡ from j → i ≡ j
  from_one i j p q =
      pick_cases (λ (x : ℕ). x ≡ from j → i ≡ j) (eqb i at)
      (λ t. pick_cases (λ (x : ℕ). rs.count - 1 ≡ x → i ≡ j) (eqb j at) (λ u e. omega (arith, tests)) (λ u e. absurd (omega arith)))
      (λ t. pick_cases (λ (x : ℕ). i ≡ x → i ≡ j) (eqb j at) (λ u e. absurd (omega arith)) (λ u e. e))

  moved : at < length rs.reads → (i : ℕ) → read_at without i ≡ read_at rs (from i)
  moved h i =
      pick_cases (λ (x : ℕ). read_at without i ≡ read_at rs x) (eqb i at)
      (λ t. rw (eqb-true i at t) (get_or-set_same rs.reads at _ no_read h))
      (λ t. get_or-set_other rs.reads at i _ no_read (eqb-false i at t))

  pub close_distinct : length rs.reads ≡ 16 → Distinct rs → Distinct (close_read rs at)
  close_distinct sized d =
      close_cases Distinct d
      (λ f h i j p q e.
      let before : (k : ℕ) → id_at without k ≡ id_at rs (from k) = λ k. ap (λ (r : Read). r.id) (moved (omega arith) k) in
      from_one i j p q (d (from i) (from j) (from_below i p) (from_below j q) (sym (before i) ∙ (e ∙ before j))))

  -- what holds of every read in use holds of those that are left
  pub close_each : (P : Read → Type 0) → length rs.reads ≡ 16 → ((i : ℕ) → i < rs.count → P (read_at rs i))
      → (i : ℕ) → i < (close_read rs at).count → P (read_at (close_read rs at) i)
  close_each P sized p =
      close_cases (λ (o : Reads). (i : ℕ) → i < o.count → P (read_at o i)) p (λ f h i q. rw (moved (omega arith) i) (p (from i) (from_below i q)))

  -- no other read has the id of the one that closes
  pub close_gone : length rs.reads ≡ 16 → rs.count ≤ 16 → Distinct rs → at < rs.count → (i : ℕ) → i < (close_read rs at).count
      → id_at (close_read rs at) i ≡ id_at rs at → ⊥
  close_gone sized few d h =
      rw (close_here few h)
      (λ i q e.
      pick_cases (λ (x : ℕ). x ≡ at → ⊥) (eqb i at) (λ t f. omega (arith, tests)) (λ t f. omega (arith, tests))
      (d (from i) at (from_below i q) h (sym (ap (λ (r : Read). r.id) (moved (omega arith) i)) ∙ e)))

-- A READ WRITTEN ANEW

module _ (rs : Reads) (at : ℕ) (r : Read) where
  pub put_cases : (P : Reads → Type 0) → P rs → (rs.count ≤ 16 → at < rs.count → P (record { count = rs.count; reads = set rs.reads at r })) → P (put_read rs at r)
  unfolding put_read
  put_cases P same new =
      pick_cases P (ltb 16 rs.count || leb rs.count at) (λ a. same)
      (λ a. new (ltb-false _ _ (or-false _ _ a).0) (leb-false _ _ (or-false (ltb 16 rs.count) _ a).1))

  pub put_count : (put_read rs at r).count ≡ rs.count
  put_count = put_cases (λ (o : Reads). o.count ≡ rs.count) refl (λ f h. refl)

  pub put_length : length (put_read rs at r).reads ≡ length rs.reads
  put_length = put_cases (λ (o : Reads). length o.reads ≡ length rs.reads) refl (λ f h. length-set rs.reads at r)

  pub put_others : (i : ℕ) → (i ≡ at → ⊥) → read_at (put_read rs at r) i ≡ read_at rs i
  put_others i n = put_cases (λ (o : Reads). read_at o i ≡ read_at rs i) refl (λ f h. get_or-set_other rs.reads at i r no_read n)

  pub put_here : length rs.reads ≡ 16 → rs.count ≤ 16 → at < rs.count → read_at (put_read rs at r) at ≡ r
  unfolding put_read
  put_here sized few h = rw (le-ltb 16 rs.count few, lt-leb rs.count at h) (get_or-set_same rs.reads at r no_read (omega arith))

  -- the same id, written anew
  put_ids : r.id ≡ id_at rs at → (i : ℕ) → id_at (put_read rs at r) i ≡ id_at rs i
  put_ids e i =
      put_cases (λ (o : Reads). id_at o i ≡ id_at rs i) refl
      (λ f h.
      let id_of : Read → ℕ = λ x. x.id in
      sym (get_or-map id_of (set rs.reads at r) i no_read)
      ∙ (ap (λ (l : List ℕ). get_or l i 0) (map-set_same id_of rs.reads at r no_read e) ∙ get_or-map id_of rs.reads i no_read))

  pub put_distinct : r.id ≡ id_at rs at → Distinct rs → Distinct (put_read rs at r)
  put_distinct e d i j p q x = d i j (omega (arith, put_count)) (omega (arith, put_count)) (sym (put_ids e i) ∙ (x ∙ put_ids e j))

-- a read written anew twice, or as it stands
module _ (rs : Reads) (at : ℕ) where
  pub put_again : (r s : Read) → put_read (put_read rs at r) at s ≡ put_read rs at s
  unfolding put_read
  put_again r s =
      pick_cases (λ (o : Reads). put_read o at s ≡ put_read rs at s) (ltb 16 rs.count || leb rs.count at) (λ t. refl)
      (λ t. rw t (ap (λ (l : List Read). record { count = rs.count; reads = l }) (set-set rs.reads at r s)))

  pub put_back : put_read rs at (read_at rs at) ≡ rs
  unfolding put_read
  put_back =
      pick_both (λ (o : Reads). o ≡ rs) (ltb 16 rs.count || leb rs.count at) refl
      (ap (λ (l : List Read). record { count = rs.count; reads = l }) (set-get_or rs.reads at no_read))

-- a read closed after it was written anew: in the places in use as if it had closed before
module _ (rs : Reads) (at : ℕ) (r : Read) (sized : length rs.reads ≡ 16) (few : rs.count ≤ 16) (h : at < rs.count) where
  pub close_put_count : (close_read (put_read rs at r) at).count ≡ (close_read rs at).count
  close_put_count =
      let n = put_count rs at r in
      let before = close_count rs at few h in
      let after = close_count (put_read rs at r) at (omega arith) (omega arith) in
      omega arith

  pub close_put_each : (i : ℕ) → i < (close_read (put_read rs at r) at).count → read_at (close_read (put_read rs at r) at) i ≡ read_at (close_read rs at) i
  close_put_each i l =
      let n = put_count rs at r in
      let before = close_count rs at few h in
      ⊎_elim
      (λ (e : i ≡ at).
      rw e
      (close_last (put_read rs at r) at (put_length rs at r ∙ sized) (omega arith) (omega arith)
      ∙ (ap (λ (x : ℕ). read_at (put_read rs at r) (x - 1)) n
      ∙ (put_others rs at r (rs.count - 1) (λ z. omega (arith, close_put_count)) ∙ sym (close_last rs at sized few h)))))
      (λ (e : i ≡ at → ⊥). close_others (put_read rs at r) at i e ∙ (put_others rs at r i e ∙ sym (close_others rs at i e)))
      (same? i at)

-- THE FIT TEST

abbrev pub unfit_read : ℕ → Reads → ℕ → Bool
unfit_read group rs i = not (fit_read group (read_at rs i))

-- by the code's loop, and what the answer says of each read in use
module _ (group : ℕ) (rs : Reads) where
  pub reads_many : 16 < rs.count → false ≡ fit_reads group rs
  unfolding fit_reads
  reads_many h = rw (lt-leb rs.count 16 h)

  pub reads_found : (i : ℕ) (b : Bool) → i < rs.count → b ≡ fit_read group (read_at rs i) → not b ≡ true → false ≡ fit_reads group rs
  unfolding fit_reads
  reads_found i b l e h =
      rw (← search_found (unfit_read group rs) i rs.count b l (e ∙ twice (fit_read group (read_at rs i))) h, and-false)

  pub reads_more : (i : ℕ) (b : Bool) → any (unfit_read group rs) 0 i ≡ false → b ≡ fit_read group (read_at rs i) → not b ≡ false
      → any (unfit_read group rs) 0 (i + 1) ≡ false
  reads_more i b a e h = search_more (unfit_read group rs) i b a (e ∙ twice (fit_read group (read_at rs i))) h

  pub reads_done : (i : ℕ) → rs.count ≤ 16 → any (unfit_read group rs) 0 i ≡ false → i ≡ rs.count → true ≡ fit_reads group rs
  unfolding fit_reads
  reads_done i l a h = rw (le-leb rs.count 16 l) (search_done (unfit_read group rs) i rs.count a h)

  pub read_fits : (i : ℕ) → fit_reads group rs ≡ true → i < rs.count → fit_read group (read_at rs i) ≡ true
  unfolding fit_reads
  read_fits i e l =
      not-false _
      (any-false (unfit_read group rs) 0 rs.count i (not-true (any (unfit_read group rs) 0 rs.count) (and_right (leb rs.count 16) _ e)) (omega arith) l)

-- THE CODE'S SEARCHES, of the part of the list that is in use

pub find_by : (rs : Reads) (id : ℕ) → length rs.reads ≡ 16 → rs.count ≤ 16 → (r : Option ℕ) → r ≡ position (λ (d : Read). eqb d.id id) (take rs.count rs.reads)
    → unwrap_or r rs.count ≡ find_read rs id
unfolding find_read
find_by rs id sized few r e =
    let p : Read → Bool = λ d. eqb d.id id in
    rw (e, position_or_end p (take rs.count rs.reads) rs.count (length-take-le rs.count rs.reads (omega arith)), le-ltb 16 rs.count few)
    (sym (scan_front p no_read rs.reads rs.count (omega arith)))

all_or_not : (a b c : Bool) → not b ≡ c → not (not a || b) ≡ (a && c)
all_or_not true b c e = e
all_or_not false b c e = refl

all_not : (p : Read → Bool) (l : List Read) → not (list_any (λ (d : Read). not (p d)) l) ≡ list_all p l
all_not p [] = refl
all_not p (d ∷ l) = all_or_not (p d) (list_any (λ (d : Read). not (p d)) l) (list_all p l) (all_not p l)

pub fit_by : (group : ℕ) (rs : Reads) → length rs.reads ≡ 16 → rs.count ≤ 16 → list_all (fit_read group) (take rs.count rs.reads) ≡ fit_reads group rs
unfolding fit_reads
fit_by group rs sized few =
    rw (le-leb rs.count 16 few, any_front (λ (d : Read). not (fit_read group d)) no_read rs.reads rs.count (omega arith))
    (sym (all_not (fit_read group) (take rs.count rs.reads)))
