-- The summary, kept in a few comparisons, is the walk's: for a log that grows, for one slot that changes, and for each sweep.
use Rattle.std.specs.Prelude.{◌≡◌, refl, Bool, false, ◌&&◌, List, ℕ, zero, suc, ◌+◌, ◌-◌, ◌≤◌, ◌<◌, eqb, length}
use Rattle.std.proofs.Math.Path.{sym, ap}
use Rattle.std.proofs.Common.{subst, ◌∙◌, ⊎_elim, le_refl, eq-or-lt_of_le, arith, length-append}
use Rattle.std.proofs.Math.Bool.{true}
use Rattle.std.proofs.Math.Dec.{ltb, leb}
use Rattle.std.proofs.Math.ListN.{get_or-eq_default}
use borrow.Author.Tests.{le-leb, lt-leb, lt-ltb, eq-eqb, ne_eqb, ltb-true, ltb-false, leb-true, leb-false, eqb-true}
use Rattle.base.specs.Pick.{one, larger, larger_left, larger_right, larger_least, pick_cases, and_left, and_right, and_make, clash, decide, same?, tests}
use Rattle.base.specs.Gather.{gather}
use Rattle.base.specs.Scan.{scan, scan_is, scan_high, scan_passed, scan_stopped}
use Rattle.base.specs.Find.{last_past}
use Rattle.base.specs.HowMany.{how_many, how_many_none, how_many_more, how_many_few, how_many_split, how_many_nowhere, how_many_same, how_many_both}
use Rattle.actions.specs.Actions.{Act}
use Rattle.slots.specs.declared.Slot.{Slot}
use Rattle.slots.specs.declared.LeaderBook.{LeaderBook}
use Rattle.slots.specs.declared.ReplicaBook.{ReplicaBook}
use Rattle.slots.specs.Slots.{no_slot, prepared_slot, redone_slot, entered_slot, marked_slot, passed_slot, executed_slot}
use Rattle.slots.specs.Statuses.{redone_closed, redone_open, marked_closed, entered_closed, entered_open, passed_closed}
use Rattle.decide.specs.declared.Scalars.{Scalars}
use Rattle.window.specs.declared.Window.{Window}
use Rattle.window.specs.declared.Summary.{Summary}
use Rattle.window.specs.Window.{slot_at, put_slot, filled, sweep, first_open, last_used}
use Rattle.window.specs.Acts.{mark_acts}
use Rattle.window.specs.Places.{size, put_here, put_other, put_each, filled_low, filled_old, filled_each, sweep_long, sweep_in, sweep_before, sweep_after, sweep_each}
use Rattle.window.specs.Summary.{has_status, walk}
use Rattle.window.specs.Kept.{lowered, recounted, changed, is_passed, prepared_from}

-- the summary's two numbers are the walk's
pub record Sums (sc : Scalars) (w : Window) (s : Summary) : Type 0 where
  pub first : s.first ≡ sc.start + first_open w
  pub accepting : s.accepting ≡ how_many (has_status w 2) (sc.commit_bar - sc.start) w.len

pub Sums-walk : {sc : Scalars} {w : Window} {s : Summary} → Sums sc w s → s ≡ walk sc w
Sums-walk e = λ k. record { first = e.first k; accepting = e.accepting k }

pub walk-Sums : {sc : Scalars} {w : Window} {s : Summary} → s ≡ walk sc w → Sums sc w s
walk-Sums e = record { first = ap (λ (x : Summary). x.first) e; accepting = ap (λ (x : Summary). x.accepting) e }

pub Sums-few : {sc : Scalars} {w : Window} {s : Summary} → Sums sc w s → w.len ≤ 64 → s.accepting ≤ 64
Sums-few {sc} {w} e l = omega (arith, e.accepting, how_many_few (has_status w 2) (sc.commit_bar - sc.start) w.len)

-- ── the first open slot, by the statuses below it and its own ──
module _ (w : Window) where
  pub first_within : first_open w ≤ w.len
  unfolding first_open
  first_within = scan_high (λ i. leb 3 (slot_at w i).status) 0 w.len (omega arith)

  pub first_closed : (j : ℕ) → j < first_open w → 3 ≤ (slot_at w j).status
  unfolding first_open
  first_closed j h = leb-true _ _ (scan_passed (λ i. leb 3 (slot_at w i).status) 0 w.len j (omega arith) h)

  pub first_open_is_open : first_open w < w.len → (slot_at w (first_open w)).status < 3
  unfolding first_open
  first_open_is_open h = leb-false _ _ (scan_stopped (λ i. leb 3 (slot_at w i).status) 0 w.len h)

  pub first_is : (k : ℕ) → k ≤ w.len → ((j : ℕ) → j < k → 3 ≤ (slot_at w j).status) → (k < w.len → (slot_at w k).status < 3) → first_open w ≡ k
  unfolding first_open
  first_is k h closed still =
      scan_is (λ i. leb 3 (slot_at w i).status) 0 w.len k (omega arith) h (λ j l u. le-leb 3 _ (closed j u)) (λ u. lt-leb 3 _ (still u))

  -- found by a scan from a place below which none is open
  pub first_from : (k : ℕ) → k ≤ w.len → ((j : ℕ) → j < k → 3 ≤ (slot_at w j).status) → scan (λ i. leb 3 (slot_at w i).status) k w.len ≡ first_open w
  first_from k h closed =
      scan_is (λ i. leb 3 (slot_at w i).status) k w.len (first_open w) low first_within
      (λ j l u. le-leb 3 _ (first_closed j u)) (λ u. lt-leb 3 _ (first_open_is_open u))
    where
      low : k ≤ first_open w
      low =
          ⊎_elim
          (λ (t : ltb (first_open w) k ≡ true).
          let u : first_open w < k = omega (arith, tests) in
          absurd (omega (arith, closed (first_open w) u, first_open_is_open (omega arith))))
          (λ (t : ltb (first_open w) k ≡ false). omega (arith, tests))
          (decide (ltb (first_open w) k))

-- a slot that is not null is in the list
pub present : (w : Window) (j : ℕ) → 0 < (slot_at w j).status → j < size w
present w j h =
    ⊎_elim
    (λ (t : ltb j (size w) ≡ true). ltb-true _ _ t)
    (λ (t : ltb j (size w) ≡ false).
    absurd (omega (arith, ap (λ (s : Slot). s.status) (get_or-eq_default w.slots no_slot {n = j} (ltb-false _ _ t)))))
    (decide (ltb j (size w)))

-- the slot that was the first open one: whether it is none any more
module _ (s : Summary) (slot now : ℕ) where
  unpassed : is_passed s slot now ≡ false → slot ≡ s.first → now < 3
  unpassed p q =
      ⊎_elim (λ (t : leb 3 now ≡ true). absurd (clash (and_make (eq-eqb slot s.first q) t) p)) (λ (t : leb 3 now ≡ false). leb-false 3 now t) (decide (leb 3 now))

  passed_at : is_passed s slot now ≡ true → slot ≡ s.first
  passed_at p = eqb-true slot s.first (and_left (eqb slot s.first) (leb 3 now) p)

-- ── the log grows by slots that are neither committed nor Accepting ──
module _ (sc : Scalars) (z : Slot) (w : Window) (n : ℕ) (s : Summary) (q : z.status < 2) (c : sc.commit_bar - sc.start ≤ w.len) where
  new_low : (j : ℕ) → w.len ≤ j → j < (filled z w n).len → (slot_at (filled z w n) j).status < 2
  new_low j l u =
      filled_each z w n (λ (x : Slot). x.status < 2) j u (λ h. absurd (omega arith)) q (λ h. omega arith)

  pub Sums-filled : Sums sc w s → Sums sc (filled z w n) s
  Sums-filled e =
      let v = filled z w n in
      let f : first_open v ≡ first_open w =
      first_is v (first_open w) (omega (arith, first_within w, filled_low z w n))
      (λ j u. rw (filled_old z w n j (omega (arith, first_within w))) (first_closed w j u))
      (λ u.
      ⊎_elim
      (λ (a : first_open w ≡ w.len). omega (arith, new_low (first_open w) (omega arith) u))
      (λ (a : first_open w < w.len). rw (filled_old z w n (first_open w) a) (first_open_is_open w a))
      (eq-or-lt_of_le (first_within w))) in
      let a = how_many_split (has_status v 2) (sc.commit_bar - sc.start) w.len v.len c (filled_low z w n) in
      let b : how_many (has_status v 2) w.len v.len ≡ 0 =
      how_many_nowhere (has_status v 2) w.len v.len (λ i l u. ne_eqb (slot_at v i).status 2 (λ h. omega (arith, new_low i l u))) in
      let d : how_many (has_status v 2) (sc.commit_bar - sc.start) w.len ≡ how_many (has_status w 2) (sc.commit_bar - sc.start) w.len =
      how_many_same (has_status v 2) (has_status w 2) (sc.commit_bar - sc.start) w.len
      (λ i l u. ap (λ (x : Slot). eqb x.status 2) (filled_old z w n i u)) in
      record { first = omega (arith, e.first); accepting = omega (arith, e.accepting) }

-- ── every slot stays open or closed, Accepting or not ──
pub record Alike (x y : ℕ) : Type 0 where
  pub closed : leb 3 y ≡ leb 3 x
  pub accepting : eqb y 2 ≡ eqb x 2

pub Sums-Alike : (sc : Scalars) (w v : Window) (s : Summary) → v.len ≡ w.len → ((j : ℕ) → j < w.len → Alike (slot_at w j).status (slot_at v j).status) → Sums sc w s → Sums sc v s
Sums-Alike sc w v s l h e =
    let f : first_open v ≡ first_open w =
    first_is v (first_open w) (omega (arith, first_within w))
    (λ j u. leb-true 3 _ ((h j (omega (arith, first_within w))).closed ∙ le-leb 3 _ (first_closed w j u)))
    (λ u. leb-false 3 _ ((h (first_open w) (omega arith)).closed ∙ lt-leb 3 _ (first_open_is_open w (omega arith)))) in
    let d : how_many (has_status v 2) (sc.commit_bar - sc.start) w.len ≡ how_many (has_status w 2) (sc.commit_bar - sc.start) w.len =
    how_many_same (has_status v 2) (has_status w 2) (sc.commit_bar - sc.start) w.len (λ i a u. (h i u).accepting) in
    record { first = omega (arith, e.first); accepting = e.accepting ∙ sym d ∙ ap (how_many (has_status v 2) (sc.commit_bar - sc.start)) (sym l) }

-- no status changes
Sums-like : (sc : Scalars) (w v : Window) (s : Summary) → v.len ≡ w.len → ((j : ℕ) → j < w.len → (slot_at v j).status ≡ (slot_at w j).status) → Sums sc w s → Sums sc v s
Sums-like sc w v s l h e = Sums-Alike sc w v s l (λ j u. record { closed = ap (leb 3) (h j u); accepting = ap (λ (n : ℕ). eqb n 2) (h j u) }) e

pub put_status : (w : Window) (i : ℕ) (x : Slot) → x.status ≡ (slot_at w i).status → (j : ℕ) → (slot_at (put_slot w i x) j).status ≡ (slot_at w j).status
put_status w i x h j =
    put_each w i x (λ (y : Slot). y.status ≡ (slot_at w j).status) j (λ q. h ∙ ap (λ (k : ℕ). (slot_at w k).status) (sym q)) refl

pub Sums-put_like : (sc : Scalars) (w : Window) (s : Summary) (i : ℕ) (x : Slot) → x.status ≡ (slot_at w i).status → Sums sc w s → Sums sc (put_slot w i x) s
Sums-put_like sc w s i x h e = Sums-like sc w (put_slot w i x) s refl (λ j l. put_status w i x h j) e

-- a Committed slot becomes Executed
pub Sums-executed : (sc : Scalars) (w : Window) (s : Summary) (i : ℕ) → Sums sc w s → Sums sc (put_slot w i (executed_slot (slot_at w i))) s
Sums-executed sc w s i e =
    Sums-Alike sc w (put_slot w i (executed_slot (slot_at w i))) s refl
    (λ j l.
    put_each w i (executed_slot (slot_at w i)) (λ (y : Slot). Alike (slot_at w j).status y.status) j
    (λ q. subst (λ (k : ℕ). Alike (slot_at w k).status (executed_slot (slot_at w i)).status) (sym q) (alike (slot_at w i)))
    (record { closed = refl; accepting = refl }))
    e
  where
    alike : (x : Slot) → Alike x.status (executed_slot x).status
    alike x =
        pick_cases (λ (y : Slot). Alike x.status y.status) (eqb x.status 3)
        (λ t. record { closed = sym (le-leb 3 x.status (omega (arith, tests))); accepting = sym (ne_eqb x.status 2 (λ z. omega (arith, tests))) })
        (λ t. record { closed = refl; accepting = refl })

-- scalars that start and commit_bar are the same of
pub Sums-steady : (sc other : Scalars) (w : Window) (s : Summary) → other.start ≡ sc.start → other.commit_bar ≡ sc.commit_bar → Sums sc w s → Sums other w s
Sums-steady sc other w s a b e = record { first = omega (arith, e.first); accepting = rw (a, b) e.accepting }

-- ── one slot changes ──
module _ (sc : Scalars) (w : Window) (s : Summary) (i : ℕ) (x : Slot) (e : Sums sc w s) (l : i < w.len) (z : i < size w) (short : w.len ≤ 64) (c : sc.start ≤ sc.commit_bar) where
  abbrev after : Window
  after = put_slot w i x

  abbrev old : ℕ
  old = (slot_at w i).status

  here : (slot_at after i).status ≡ x.status
  here = ap (λ (y : Slot). y.status) (put_here w i x z)

  else_where : (j : ℕ) → (j ≡ i → ⊥) → (slot_at after j).status ≡ (slot_at w j).status
  else_where j d = ap (λ (y : Slot). y.status) (put_other w i x j d)

  -- the count, where the slot is below commit_bar and where it is not
  count_below : (from : ℕ) → i < from → how_many (has_status after 2) from w.len ≡ how_many (has_status w 2) from w.len
  count_below from h =
      how_many_same (has_status after 2) (has_status w 2) from w.len (λ j a b. ap (λ (n : ℕ). eqb n 2) (else_where j (λ q. omega arith)))

  count_here : (from : ℕ) → from ≤ i → how_many (has_status after 2) from w.len + one (eqb old 2) ≡ how_many (has_status w 2) from w.len + one (eqb x.status 2)
  count_here from h =
      let p = has_status after 2 in
      let q = has_status w 2 in
      let p1 = how_many_split p from i w.len h (omega arith) in
      let p2 = how_many_split p i (i + 1) w.len (omega arith) (omega arith) in
      let p3 : how_many p i (i + 1) ≡ how_many p i i + one (eqb (slot_at after i).status 2) = how_many_more p i i (le_refl i) in
      let p4 = how_many_none p i i (le_refl i) in
      let p5 : one (eqb (slot_at after i).status 2) ≡ one (eqb x.status 2) = ap (λ (n : ℕ). one (eqb n 2)) here in
      let q1 = how_many_split q from i w.len h (omega arith) in
      let q2 = how_many_split q i (i + 1) w.len (omega arith) (omega arith) in
      let q3 : how_many q i (i + 1) ≡ how_many q i i + one (eqb old 2) = how_many_more q i i (le_refl i) in
      let q4 = how_many_none q i i (le_refl i) in
      let a : how_many p from i ≡ how_many q from i = how_many_same p q from i (λ j u v. ap (λ (n : ℕ). eqb n 2) (else_where j (λ t. omega arith))) in
      let b : how_many p (i + 1) w.len ≡ how_many q (i + 1) w.len =
      how_many_same p q (i + 1) w.len (λ j u v. ap (λ (n : ℕ). eqb n 2) (else_where j (λ t. omega arith))) in
      omega arith

  recounts : (from : ℕ) → from ≤ i → s.accepting ≡ how_many (has_status w 2) from w.len
      → recounted s.accepting (eqb old 2) (eqb x.status 2) ≡ how_many (has_status after 2) from w.len
  recounts from h f = go (eqb old 2) (eqb x.status 2) (count_here from h)
    where
      few : how_many (has_status after 2) from w.len ≤ 64
      few = omega (arith, how_many_few (has_status after 2) from w.len)

      go : (a b : Bool) → how_many (has_status after 2) from w.len + one a ≡ how_many (has_status w 2) from w.len + one b
          → recounted s.accepting a b ≡ how_many (has_status after 2) from w.len
      go true true g = omega arith
      go true false g = omega arith
      go false true g = rw (lt-ltb s.accepting 64 (omega (arith, few))) (omega arith)
      go false false g = omega arith

  kept_accepting : (changed s sc.commit_bar (sc.start + i) old x.status).accepting ≡ how_many (has_status after 2) (sc.commit_bar - sc.start) w.len
  unfolding changed
  kept_accepting =
      pick_cases (λ (n : ℕ). n ≡ how_many (has_status after 2) (sc.commit_bar - sc.start) w.len) (ltb (sc.start + i) sc.commit_bar)
      (λ t. e.accepting ∙ sym (count_below (sc.commit_bar - sc.start) (omega (arith, tests))))
      (λ t. recounts (sc.commit_bar - sc.start) (omega (arith, tests)) e.accepting)

  -- the first open slot, but where it is none any more
  kept_first : is_passed s (sc.start + i) x.status ≡ false → (changed s sc.commit_bar (sc.start + i) old x.status).first ≡ sc.start + first_open after
  unfolding changed
  kept_first p =
      pick_cases (λ (n : ℕ). n ≡ sc.start + first_open after) (ltb x.status 3)
      (λ t.
      pick_cases (λ (n : ℕ). n ≡ sc.start + first_open after) (ltb (sc.start + i) s.first)
      (λ u. ap (λ (n : ℕ). sc.start + n) (sym (lower t u)))
      (λ u. e.first ∙ ap (λ (n : ℕ). sc.start + n) (sym (same t u))))
      (λ t. e.first ∙ ap (λ (n : ℕ). sc.start + n) (sym (still t)))
    where
      lower : ltb x.status 3 ≡ true → ltb (sc.start + i) s.first ≡ true → first_open after ≡ i
      lower t u =
          first_is after i (omega arith) (λ j v. omega (arith, else_where j (λ q. omega arith), first_closed w j (omega (arith, tests, e.first))))
          (λ v. omega (arith, tests, here))

      keeps : i ≡ first_open w → x.status < 3
      keeps q = unpassed s (sc.start + i) x.status p (omega (arith, e.first))

      -- every slot below the first stays closed, and the first stays open
      unmoved : (i < first_open w → 3 ≤ x.status) → first_open after ≡ first_open w
      unmoved g =
          first_is after (first_open w) (first_within w)
          (λ j v. ⊎_elim (λ (q : j ≡ i). omega (arith, here, ap (λ (k : ℕ). (slot_at after k).status) q, g (omega arith))) (λ (d : j ≡ i → ⊥). omega (arith, else_where j d, first_closed w j v)) (same? j i))
          (λ v. ⊎_elim (λ (q : first_open w ≡ i). omega (arith, here, ap (λ (k : ℕ). (slot_at after k).status) q, keeps (sym q))) (λ (d : first_open w ≡ i → ⊥). omega (arith, else_where (first_open w) d, first_open_is_open w v)) (same? (first_open w) i))

      same : ltb x.status 3 ≡ true → ltb (sc.start + i) s.first ≡ false → first_open after ≡ first_open w
      same t u = unmoved (λ v. absurd (omega (arith, tests, e.first)))

      still : ltb x.status 3 ≡ false → first_open after ≡ first_open w
      still t = unmoved (λ v. ltb-false _ _ t)

  pub Sums-put : is_passed s (sc.start + i) x.status ≡ false → Sums sc after (changed s sc.commit_bar (sc.start + i) old x.status)
  Sums-put p = record { first = kept_first p; accepting = kept_accepting }

  -- where it is none any more, by a scan from there on
  pub Sums-passed : (k : ℕ) → is_passed s (sc.start + i) x.status ≡ true → k ≡ scan (λ j. leb 3 (slot_at after j).status) i w.len
      → Sums sc after (record { first = sc.start + k; accepting = (changed s sc.commit_bar (sc.start + i) old x.status).accepting })
  Sums-passed k p f =
      record { first = ap (λ (n : ℕ). sc.start + n) (f ∙ first_from after i (omega arith) below); accepting = kept_accepting }
    where
      at : i ≡ first_open w
      at = omega (arith, e.first, passed_at s (sc.start + i) x.status p)

      below : (j : ℕ) → j < i → 3 ≤ (slot_at after j).status
      below j u = omega (arith, else_where j (λ q. omega arith), first_closed w j (omega (arith, at)))

-- ── sweeps ──
-- the status of a slot of a range after a sweep, where f makes of each status what g says
module _ (f : ℕ → Slot → Slot) (from to : ℕ) (w : Window) where
  abbrev swept : Window
  swept = sweep f from to w

  out_low : (j : ℕ) → j < from → (slot_at swept j).status ≡ (slot_at w j).status
  out_low j h = ap (λ (x : Slot). x.status) (sweep_before f from to w j h)

  out_high : (j : ℕ) → to ≤ j → (slot_at swept j).status ≡ (slot_at w j).status
  out_high j h = ap (λ (x : Slot). x.status) (sweep_after f from to w j h)

  -- what f makes of a slot that is there holds of it after the sweep, and so it does where there is none
  in_range : (P : ℕ → Type 0) (j : ℕ) → from ≤ j → j < to → P (f j (slot_at w j)).status → P 0 → P (slot_at swept j).status
  in_range P j a b h z =
      ⊎_elim
      (λ (t : ltb j (size w) ≡ true). rw (sweep_in f from to w j a b (ltb-true _ _ t)) h)
      (λ (t : ltb j (size w) ≡ false).
      sweep_each f from to w (λ (x : Slot). P x.status) j
      (rw (get_or-eq_default w.slots no_slot {n = j} (ltb-false _ _ t)) z) (λ _ _ _. h) (λ _. z))
      (decide (ltb j (size w)))

  -- no slot is opened and none is closed: the first open one stays
  first_same : ((j : ℕ) → from ≤ j → j < to → 3 ≤ (slot_at w j).status → 3 ≤ (f j (slot_at w j)).status)
      → ((j : ℕ) → from ≤ j → j < to → (slot_at w j).status < 3 → (f j (slot_at w j)).status < 3) → first_open swept ≡ first_open w
  first_same closes opens =
      first_is swept (first_open w) (first_within w) (λ j u. go_closed j (first_closed w j u)) (λ u. go_open (first_open w) (first_open_is_open w u))
    where
      go_closed : (j : ℕ) → 3 ≤ (slot_at w j).status → 3 ≤ (slot_at swept j).status
      go_closed j h =
          sweep_each f from to w (λ (x : Slot). 3 ≤ x.status) j h (λ a b _. closes j a b h) (λ l. absurd (omega (arith, present w j (omega arith))))

      go_open : (j : ℕ) → (slot_at w j).status < 3 → (slot_at swept j).status < 3
      go_open j h = sweep_each f from to w (λ (x : Slot). x.status < 3) j h (λ a b _. opens j a b h) (λ l. omega arith)

-- Prepare: from the trigger on no slot is Accepting; in the base kind none is committed either, in the strict kind the committed ones stay
module _ (sc : Scalars) (w : Window) (s : Summary) (strict : Bool) (ballot : ℕ) (book : ReplicaBook) (from to : ℕ) where
  abbrev prepares : ℕ → Slot → Slot
  prepares i x = prepared_slot strict ballot book x

  module _ (e : Sums sc w s) (h : from < to) (l : from < w.len) (high : (j : ℕ) → to ≤ j → j < w.len → (slot_at w j).status < 2) where
    abbrev prepared : Window
    prepared = swept prepares from to w

    unaccepted : (j : ℕ) → from ≤ j → j < w.len → (slot_at prepared j).status ≡ 2 → ⊥
    unaccepted j a b =
        ⊎_elim
        (λ (t : ltb j to ≡ true).
        in_range prepares from to w (λ (n : ℕ). n ≡ 2 → ⊥) j a (ltb-true _ _ t)
        (pick_cases (λ (n : ℕ). n ≡ 2 → ⊥) (strict && leb 3 (slot_at w j).status) (λ u z. omega (arith, leb-true 3 (slot_at w j).status (and_right strict (leb 3 (slot_at w j).status) u))) (λ u z. omega arith))
        (λ z. omega arith))
        (λ (t : ltb j to ≡ false) z. omega (arith, out_high prepares from to w j (ltb-false _ _ t), high j (ltb-false _ _ t) b))
        (decide (ltb j to))

    opened : strict ≡ false → (j : ℕ) → from ≤ j → j < w.len → (slot_at prepared j).status < 2
    opened k j a b =
        ⊎_elim
        (λ (t : ltb j to ≡ true). in_range prepares from to w (λ (n : ℕ). n < 2) j a (ltb-true _ _ t) (rw k (omega arith)) (omega arith))
        (λ (t : ltb j to ≡ false). omega (arith, out_high prepares from to w j (ltb-false _ _ t), high j (ltb-false _ _ t) b))
        (decide (ltb j to))

    first_lowered : strict ≡ false → lowered s.first (sc.start + from) ≡ sc.start + first_open prepared
    first_lowered k =
        pick_cases (λ (n : ℕ). n ≡ sc.start + first_open prepared) (ltb (sc.start + from) s.first)
        (λ t.
        ap (λ (n : ℕ). sc.start + n)
        (sym (first_is prepared from (omega arith) (λ j u. omega (arith, out_low prepares from to w j u, first_closed w j (omega (arith, tests, e.first)))) (λ u. omega (arith, opened k from (le_refl from) l)))))
        (λ t.
        e.first
        ∙ ap (λ (n : ℕ). sc.start + n)
        (sym (first_is prepared (first_open w) (first_within w) (λ j u. omega (arith, out_low prepares from to w j (omega (arith, tests, e.first)), first_closed w j u))
        (λ u.
        ⊎_elim
        (λ (q : first_open w ≡ from). omega (arith, opened k (first_open w) (omega arith) u))
        (λ (q : first_open w < from). omega (arith, out_low prepares from to w (first_open w) q, first_open_is_open w u))
        (eq-or-lt_of_le (omega (arith, tests, e.first)))))))

    first_kept : strict ≡ true → s.first ≡ sc.start + first_open prepared
    first_kept k =
        e.first
        ∙ ap (λ (n : ℕ). sc.start + n)
        (sym (first_same prepares from to w (λ j a b u. rw (k, le-leb 3 (slot_at w j).status u) u) (λ j a b u. rw (k, lt-leb 3 (slot_at w j).status u) (omega arith))))

    count_below_trigger : (cb : ℕ) → how_many (has_status w 2) cb from ≡ how_many (has_status prepared 2) cb w.len
    count_below_trigger cb =
        ⊎_elim
        (λ (t : leb cb from ≡ true).
        let a = how_many_split (has_status prepared 2) cb from w.len (leb-true _ _ t) (omega arith) in
        let b : how_many (has_status prepared 2) cb from ≡ how_many (has_status w 2) cb from =
        how_many_same (has_status prepared 2) (has_status w 2) cb from (λ i x y. ap (λ (n : ℕ). eqb n 2) (out_low prepares from to w i y)) in
        let d : how_many (has_status prepared 2) from w.len ≡ 0 =
        how_many_nowhere (has_status prepared 2) from w.len (λ i x y. ne_eqb (slot_at prepared i).status 2 (unaccepted i x y)) in
        omega arith)
        (λ (t : leb cb from ≡ false).
        how_many_none (has_status w 2) cb from (omega (arith, tests))
        ∙ sym (how_many_nowhere (has_status prepared 2) cb w.len (λ i x y. ne_eqb (slot_at prepared i).status 2 (unaccepted i (omega (arith, tests)) y))))
        (decide (leb cb from))

    pub Sums-prepared : {below : ℕ} → below ≡ how_many (has_status w 2) (sc.commit_bar - sc.start) from → Sums sc prepared (prepared_from strict s (sc.start + from) below)
    unfolding prepared_from
    Sums-prepared q =
        record {
          first = pick_cases (λ (n : ℕ). n ≡ sc.start + first_open prepared) strict first_kept first_lowered;
          accepting = q ∙ count_below_trigger (sc.commit_bar - sc.start);
        }

-- past the last slot that is used every slot is null
pub unused_null : (w : Window) (j : ℕ) → last_used w < j → j < w.len → (slot_at w j).status < 2
unfolding last_used
unused_null w j a b = omega (arith, ltb-false 0 (slot_at w j).status (last_past (λ i. ltb 0 (slot_at w i).status) 0 w.len j a b))

-- step-up: what was Accepting is Preparing, from a place not above commit_bar on
module _ (sc : Scalars) (w : Window) (s : Summary) (ballot : ℕ) (book : LeaderBook) (from : ℕ) where
  abbrev redoes : ℕ → Slot → Slot
  redoes i x = redone_slot ballot book x

  pub Sums-redone : {first : ℕ} → first ≡ s.first → Sums sc w s → from ≤ sc.commit_bar - sc.start
      → Sums sc (sweep redoes from w.len w) (record { first = first; accepting = 0 })
  Sums-redone q e c =
      let v = sweep redoes from w.len w in
      let f : first_open v ≡ first_open w =
      first_same redoes from w.len w (λ j a b h. redone_closed (slot_at w j) ballot book h) (λ j a b h. omega (arith, redone_open (slot_at w j) ballot book h)) in
      let n : how_many (has_status v 2) (sc.commit_bar - sc.start) w.len ≡ 0 =
      how_many_nowhere (has_status v 2) (sc.commit_bar - sc.start) w.len
      (λ i a b.
      ne_eqb (slot_at v i).status 2
      (in_range redoes from w.len w (λ (k : ℕ). k ≡ 2 → ⊥) i (omega arith) b
      (λ z.
      ⊎_elim
      (λ (t : ltb (slot_at w i).status 3 ≡ true). omega (arith, redone_open (slot_at w i) ballot book (ltb-true _ _ t)))
      (λ (t : ltb (slot_at w i).status 3 ≡ false). omega (arith, redone_closed (slot_at w i) ballot book (ltb-false _ _ t)))
      (decide (ltb (slot_at w i).status 3)))
      (λ z. omega arith))) in
      record { first = omega (arith, e.first); accepting = sym n }

-- CommitNotice: each slot that is marked was Accepting, and gives one entry
module _ (sc : Scalars) (w : Window) (s : Summary) (start stop : ℕ) where
  abbrev marks : ℕ → Slot → Slot
  marks i x = marked_slot x

  pub marked_many : (from to : ℕ) → ((j : ℕ) → from ≤ j → j < to → 2 ≤ (slot_at w j).status)
      → length (gather (λ i. mark_acts (start + i) (slot_at w i)) from to) ≡ how_many (has_status w 2) from to
  marked_many from zero h = refl
  marked_many from (suc j) h =
      pick_cases (λ (l : List Act). length l ≡ how_many (has_status w 2) from (suc j)) (leb from j)
      (λ t.
      rw t
      (length-append (gather (λ i. mark_acts (start + i) (slot_at w i)) from j) (mark_acts (start + j) (slot_at w j))
      ∙ omega (arith, marked_many from j (λ i a b. h i a (omega arith)), one_entry (slot_at w j) (h j (leb-true from j t) (le_refl (suc j))))))
      (λ t. rw t (marked_many from j (λ i a b. h i a (omega arith))))
    where
      one_entry : (x : Slot) → 2 ≤ x.status → length (mark_acts (start + j) x) ≡ one (eqb x.status 2)
      one_entry x k =
          pick_cases (λ (l : List Act). length l ≡ one (eqb x.status 2)) (leb 3 x.status)
          (λ t. rw (ne_eqb x.status 2 (λ z. omega (arith, tests))))
          (λ t. rw (eq-eqb x.status 2 (omega (arith, tests))))

  module _ (e : Sums sc w s) (low : sc.commit_bar - sc.start ≤ stop) (high : stop ≤ w.len)
      (may : (j : ℕ) → sc.commit_bar - sc.start ≤ j → j < stop → 2 ≤ (slot_at w j).status) where
    abbrev marked : Window
    marked = sweep marks (sc.commit_bar - sc.start) stop w

    stays_closed : (j : ℕ) → 3 ≤ (slot_at w j).status → 3 ≤ (slot_at marked j).status
    stays_closed j h =
        sweep_each marks (sc.commit_bar - sc.start) stop w (λ (x : Slot). 3 ≤ x.status) j h (λ a b _. marked_closed (slot_at w j))
        (λ l. absurd (omega (arith, present w j (omega arith))))

    now_closed : (j : ℕ) → sc.commit_bar - sc.start ≤ j → j < stop → 3 ≤ (slot_at marked j).status
    now_closed j a b =
        rw (sweep_in marks (sc.commit_bar - sc.start) stop w j a b (present w j (omega (arith, may j a b)))) (marked_closed (slot_at w j))

    pub Sums-marked : {k n : ℕ} → k ≡ scan (λ j. leb 3 (slot_at marked j).status) (s.first - sc.start) w.len
        → n ≡ length (gather (λ i. mark_acts (start + i) (slot_at w i)) (sc.commit_bar - sc.start) stop)
        → Sums sc marked (record { first = sc.start + k; accepting = s.accepting - n })
    Sums-marked {k} {n} f g =
        let cb : ℕ = sc.commit_bar - sc.start in
        let at : s.first - sc.start ≡ first_open w = omega (arith, e.first) in
        let a = how_many_split (has_status w 2) cb stop w.len low high in
        let b = how_many_split (has_status marked 2) cb stop w.len low high in
        let d : how_many (has_status marked 2) cb stop ≡ 0 =
        how_many_nowhere (has_status marked 2) cb stop (λ i x y. ne_eqb (slot_at marked i).status 2 (λ z. omega (arith, now_closed i x y))) in
        let h : how_many (has_status marked 2) stop w.len ≡ how_many (has_status w 2) stop w.len =
        how_many_same (has_status marked 2) (has_status w 2) stop w.len (λ i x y. ap (λ (m : ℕ). eqb m 2) (out_high marks cb stop w i x)) in
        record {
          first = ap (λ (m : ℕ). sc.start + m)
              (f ∙ ap (λ (m : ℕ). scan (λ j. leb 3 (slot_at marked j).status) m w.len) at
              ∙ first_from marked (first_open w) (first_within w) (λ j u. stays_closed j (first_closed w j u)));
          accepting = omega (arith, e.accepting, marked_many cb stop may);
        }

    -- there are as many to take away
    pub marked_few : {n : ℕ} → n ≡ length (gather (λ i. mark_acts (start + i) (slot_at w i)) (sc.commit_bar - sc.start) stop) → n ≤ s.accepting
    marked_few g =
        omega (arith, e.accepting, marked_many (sc.commit_bar - sc.start) stop may, how_many_split (has_status w 2) (sc.commit_bar - sc.start) stop w.len low high)

-- quorum: each Preparing slot of the range is Accepting then
module _ (strict : Bool) (ballot : ℕ) (sc : Scalars) (w : Window) (s : Summary) (from to : ℕ) where
  abbrev enters : ℕ → Slot → Slot
  enters i x = entered_slot strict ballot x

  abbrev entered : Window
  entered = sweep enters from to w

  entered_one : (x : Slot) → one (eqb (entered_slot strict ballot x).status 2) ≡ one (eqb x.status 2) + one (eqb x.status 1)
  entered_one x =
      pick_cases (λ (y : Slot). one (eqb y.status 2) ≡ one (eqb x.status 2) + one (eqb x.status 1)) (eqb x.status 1)
      (λ t. rw (t, ne_eqb x.status 2 (λ z. omega (arith, tests)))) (λ t. rw t (omega arith))

  in_both : (j : ℕ) → from ≤ j → j < to → one (has_status entered 2 j) ≡ one (has_status w 2 j) + one (has_status w 1 j)
  in_both j a b =
      ⊎_elim
      (λ (t : ltb j (size w) ≡ true). rw (sweep_in enters from to w j a b (ltb-true _ _ t)) (entered_one (slot_at w j)))
      (λ (t : ltb j (size w) ≡ false).
      let z : slot_at w j ≡ no_slot = get_or-eq_default w.slots no_slot {n = j} (ltb-false _ _ t) in
      let y : slot_at entered j ≡ no_slot = get_or-eq_default entered.slots no_slot {n = j} (omega (arith, tests, sweep_long enters from to w)) in
      rw (y, z))
      (decide (ltb j (size w)))

  count_entered : (cb : ℕ) → cb ≤ w.len → to ≤ w.len
      → how_many (has_status entered 2) cb w.len ≡ how_many (has_status w 2) cb w.len + how_many (has_status w 1) (larger from cb) to
  count_entered cb c l =
      ⊎_elim
      (λ (t : ltb (larger from cb) to ≡ true). inside (ltb-true _ _ t))
      (λ (t : ltb (larger from cb) to ≡ false). outside (ltb-false _ _ t))
      (decide (ltb (larger from cb) to))
    where
      same : (i : ℕ) → (from ≤ i → i < to → ⊥) → has_status entered 2 i ≡ has_status w 2 i
      same i out =
          sweep_each enters from to w (λ (x : Slot). eqb x.status 2 ≡ has_status w 2 i) i refl (λ a b _. absurd (out a b))
          (λ h. ap (λ (x : Slot). eqb x.status 2) (sym (get_or-eq_default w.slots no_slot {n = i} h)))

      outside : to ≤ larger from cb
          → how_many (has_status entered 2) cb w.len ≡ how_many (has_status w 2) cb w.len + how_many (has_status w 1) (larger from cb) to
      outside h =
          how_many_same (has_status entered 2) (has_status w 2) cb w.len
          (λ i a b. same i (λ x y. omega (arith, larger_least from cb i x a)))
          ∙ omega (arith, how_many_none (has_status w 1) (larger from cb) to h)

      inside : larger from cb < to
          → how_many (has_status entered 2) cb w.len ≡ how_many (has_status w 2) cb w.len + how_many (has_status w 1) (larger from cb) to
      inside h =
          let m : ℕ = larger from cb in
          let low = larger_right from cb in
          let p1 = how_many_split (has_status entered 2) cb m w.len low (omega arith) in
          let p2 = how_many_split (has_status entered 2) m to w.len (omega arith) l in
          let q1 = how_many_split (has_status w 2) cb m w.len low (omega arith) in
          let q2 = how_many_split (has_status w 2) m to w.len (omega arith) l in
          let a = how_many_same (has_status entered 2) (has_status w 2) cb m (λ i x y. same i (λ u v. omega (arith, larger_least from cb i u x))) in
          let b = how_many_both (has_status entered 2) (has_status w 2) (has_status w 1) m to (λ i x y. in_both i (omega (arith, larger_left from cb)) y) in
          let d = how_many_same (has_status entered 2) (has_status w 2) to w.len (λ i x y. same i (λ u v. omega arith)) in
          omega arith

  pub Sums-entered : {first n : ℕ} → first ≡ s.first → Sums sc w s → sc.commit_bar - sc.start ≤ w.len → to ≤ w.len
      → n ≡ how_many (has_status w 1) (larger from (sc.commit_bar - sc.start)) to → Sums sc entered (record { first = first; accepting = s.accepting + n })
  Sums-entered q e c l g =
      let f : first_open entered ≡ first_open w =
      first_same enters from to w (λ j a b h. entered_closed (slot_at w j) strict ballot h) (λ j a b h. entered_open (slot_at w j) strict ballot h) in
      record { first = omega (arith, e.first); accepting = omega (arith, e.accepting, count_entered (sc.commit_bar - sc.start) c l) }

-- commit_bar passes slots that are committed: none of them is Accepting, so that the count stays
module _ (sc other : Scalars) (w : Window) (s : Summary) (stop : ℕ) where
  abbrev passes_by : ℕ → Slot → Slot
  passes_by i x = passed_slot x

  pub Sums-moved : Sums sc w s → other.start ≡ sc.start → other.commit_bar - other.start ≡ stop → sc.commit_bar - sc.start ≤ stop → stop ≤ w.len
      → ((j : ℕ) → sc.commit_bar - sc.start ≤ j → j < stop → 3 ≤ (slot_at w j).status)
      → Sums other (sweep passes_by (sc.commit_bar - sc.start) stop w) s
  Sums-moved e q r low high closed =
      let cb : ℕ = sc.commit_bar - sc.start in
      let v = sweep passes_by cb stop w in
      let f : first_open v ≡ first_open w =
      first_same passes_by cb stop w (λ j a b h. passed_closed (slot_at w j) h) (λ j a b h. absurd (omega (arith, closed j a b))) in
      let a = how_many_split (has_status w 2) cb stop w.len low high in
      let n : how_many (has_status w 2) cb stop ≡ 0 =
      how_many_nowhere (has_status w 2) cb stop (λ i x y. ne_eqb (slot_at w i).status 2 (λ z. omega (arith, closed i x y))) in
      let h : how_many (has_status v 2) stop w.len ≡ how_many (has_status w 2) stop w.len =
      how_many_same (has_status v 2) (has_status w 2) stop w.len (λ i x y. ap (λ (m : ℕ). eqb m 2) (out_high passes_by cb stop w i x)) in
      record { first = omega (arith, e.first); accepting = e.accepting ∙ omega arith ∙ sym h ∙ ap (λ (m : ℕ). how_many (has_status v 2) m w.len) (sym r) }
