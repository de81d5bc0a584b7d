-- The laws of the window's loops: one turn that writes no action, one or two; where a sweep begins and a turn of it; growth; searches.
use Rattle.std.specs.Prelude.{◌≡◌, refl, Bool, true, false, not, List, [], ◌∷◌, ℕ, zero, suc, ◌+◌, ◌-◌, ◌*◌, ◌≤◌, ◌<◌, leb, ltb, length, get_or, set, replicate}
use Rattle.std.proofs.Math.Path.{sym}
use Rattle.std.proofs.Common.{ap, ◌∙◌, ⊎_elim, le_refl, eq-or-lt_of_le, add-zero, add_assoc, arith, length-append}
use Rattle.std.proofs.Math.Bool.{and-false, not-not}
use Rattle.std.proofs.Math.Seq.{paste}
use Rattle.std.proofs.lemmas.List.{length-replicate}
use Rattle.std.proofs.lemmas.List.Edits.{paste_none, fill_from_more}
use Rattle.std.proofs.lemmas.Slice.{put_mid-paste}
use borrow.Rule.Slice.PartMut.{put_mid}
use borrow.Author.Tests.{le-leb, lt-leb, eq-eqb, ne_eqb, leb-true}
use Rattle.base.specs.Pick.{pick, pick_cases, and_right, and_make, tests}
use Rattle.base.specs.Over.{over, over_self, over_more, over_after}
use Rattle.base.specs.Gather.{gather, gather_none, gather_self, gather_more}
use Rattle.base.specs.Find.{any, any_none, any_self, last, last_more, last_below, search_found, search_more, search_done}
use Rattle.base.specs.Scan.{scan, scan_for, scan_low, scan_high, scan_passed}
use Rattle.actions.specs.declared.Action.TheVariants.{AcceptData, Accept, CommitSlot, Execute}
use Rattle.actions.specs.Actions.{Act, act, bare, write_at, put_act}
use Rattle.actions.specs.Laws.{write_none, write_then, put_in, length_put, room_start, room_turn}
use Rattle.slots.specs.declared.Slot.{Slot}
use Rattle.slots.specs.Slots.{no_slot, fit_slot}
use Rattle.decide.specs.Decide.{proposal}
use Rattle.window.specs.declared.Window.{Window}
use Rattle.window.specs.declared.Placed.{Placed}
use Rattle.window.specs.declared.Turned.{Turned}
use Rattle.window.specs.Window.{slot_at, filled, last_used, first_open, last_open, mark_stop, fit_slots}
use Rattle.window.specs.Acts.{promise, enter_acts, redo_acts, mark_acts, pass_acts}
use Rattle.window.specs.Sweeps.{TwoFit, Turns, Swept, Promises}
use Rattle.window.specs.Bounded.{passes}

-- no action, one, or two, written from the n-th place on
module _ (x y : Slot) (acts : List Act) (n : ℕ) (room after : List ℕ) (e : y ≡ x) where
  pub Turns-none : acts ≡ [] → after ≡ room → Turns x acts n room (record { next = n; slot = y }) after
  Turns-none h q = record { slot = e; next = rw (h, add-zero n); few = omega arith; written = rw (h, write_none room n) q }

  pub Turns-one : (a : Act) → acts ≡ a ∷ [] → after ≡ write_at room n (a ∷ []) → Turns x acts n room (record { next = n + 1; slot = y }) after
  Turns-one a h p = record { slot = e; next = rw h; few = omega arith; written = rw h p }

  pub Turns-two : (a b : Act) → acts ≡ a ∷ b ∷ [] → after ≡ write_at room n (a ∷ b ∷ []) → Turns x acts n room (record { next = n + 2; slot = y }) after
  Turns-two a b h p = record { slot = e; next = rw h; few = omega arith; written = rw h p }

-- what one call of put_action leaves where two actions have room, and what two leave
module _ (n : ℕ) (room : List ℕ) (f : TwoFit n room) (a : Act) where
  pub put_one : (after : List ℕ) → after ≡ put_act room n a → after ≡ write_at room n (a ∷ [])
  put_one after p = p ∙ put_in room n a (omega (arith, f.place)) f.long

  pub put_two : (mid after : List ℕ) (b : Act) → mid ≡ put_act room n a → after ≡ put_act mid (n + 1) b → after ≡ write_at room n (a ∷ b ∷ [])
  put_two mid after b p q =
      let l : length mid ≡ length room = ap length p ∙ length_put room n a in
      write_then room mid after (a ∷ []) (b ∷ []) n (n + 1) (omega (arith, f.place, f.long)) refl (put_one mid p)
      (q ∙ put_in mid (n + 1) b (omega (arith, f.place)) (omega (arith, f.long)))

-- the actions of one slot, by its status and its batch
module _ (slot ballot : ℕ) (s : Slot) where
  pub redo_none : 3 ≤ s.status → redo_acts slot ballot s ≡ []
  redo_none h = rw (le-leb 3 s.status h)

  pub redo_some : s.status < 3 → redo_acts slot ballot s ≡ promise slot ballot ∷ []
  redo_some h = rw (lt-leb 3 s.status h)

  pub enter_none : (s.status ≡ 1 → ⊥) → enter_acts slot ballot s ≡ []
  enter_none h = rw (ne_eqb s.status 1 h)

  pub enter_some : s.status ≡ 1
      → enter_acts slot ballot s ≡ act (AcceptData (proposal slot ballot s.batch)) s.batch.keys ∷ act (Accept (proposal slot ballot s.batch)) s.batch.keys ∷ []
  enter_some h = rw (eq-eqb s.status 1 h)

module _ (slot : ℕ) (s : Slot) where
  pub mark_none : 3 ≤ s.status → mark_acts slot s ≡ []
  mark_none h = rw (le-leb 3 s.status h)

  pub mark_some : s.status < 3 → mark_acts slot s ≡ bare (CommitSlot (record { slot = slot; ballot = s.ballot })) ∷ []
  mark_some h = rw (lt-leb 3 s.status h)

  pub pass_empty : s.batch.id ≡ 0 → pass_acts slot s ≡ []
  pass_empty h = rw (eq-eqb s.batch.id 0 h)

  pub pass_other : (s.batch.id ≡ 0 → ⊥) → (s.status ≡ 3 → ⊥) → pass_acts slot s ≡ []
  pass_other h q = rw (ne_eqb s.batch.id 0 h, ne_eqb s.status 3 q)

  pub pass_some : (s.batch.id ≡ 0 → ⊥) → s.status ≡ 3
      → pass_acts slot s ≡ act (Execute (record { slot = slot; batch = s.batch.id; count = s.batch.count })) s.batch.keys ∷ []
  pass_some h q = rw (ne_eqb s.batch.id 0 h, eq-eqb s.status 3 q)

-- a loop that sweeps: where it begins, and a turn of it
module _ (f : ℕ → Slot → Slot) (g : ℕ → Slot → List Act) (from k : ℕ) (w : Window) (room : List ℕ) where
  pub sweep_start : Swept f g from from k w room (record { next = k; window = w }) room
  sweep_start =
      record {
        window = rw (over_self f no_slot from w.slots);
        next = rw (gather_self (λ i. g i (get_or w.slots i no_slot)) from, add-zero k);
        few = omega arith;
        written = room_start room k (λ i. g i (get_or w.slots i no_slot)) from;
      }

  pub sweep_turn : (p : Placed) (q : Turned) (r t : List ℕ) (i : ℕ) → from ≤ i → 18 * k ≤ length room → Swept f g from i k w room p r
      → Turns (f i (get_or p.window.slots i no_slot)) (g i (get_or p.window.slots i no_slot)) p.next r q t
      → Swept f g from (i + 1) k w room (record { next = q.next; window = record { len = p.window.len; slots = set p.window.slots i q.slot } }) t
  sweep_turn p q r t i h l a b =
      let same : get_or p.window.slots i no_slot ≡ get_or w.slots i no_slot =
      ap (λ (v : Window). get_or v.slots i no_slot) a.window ∙ over_after f no_slot from i w.slots i (le_refl i) in
      let acts : ℕ → List Act = λ j. g j (get_or w.slots j no_slot) in
      record {
        window = rw (b.slot, a.window, over_more f no_slot from i w.slots h);
        next =
            b.next ∙ rw (same, a.next, gather_more acts from i h, length-append (gather acts from i) (acts i))
            (add_assoc k (length (gather acts from i)) (length (acts i)));
        few = omega (arith, a.few, b.few);
        written = room_turn room k acts from r t i p.next h l a.next a.written (rw same at b.written);
      }

-- a range that may be empty: what a loop from `from` on has at its last index i it has at `to`
pub range_end : {X : Type 0} (h : ℕ → X) (from i to : ℕ) → from ≤ i → to ≤ i → i - from ≤ to - from → (to ≤ from → h from ≡ h to) → h i ≡ h to
range_end h from i to p q r e =
    ⊎_elim
    (λ (same : to ≡ i). ap h (sym same))
    (λ (past : to < i). let z : i ≡ from = omega arith in ap h z ∙ e (omega arith))
    (eq-or-lt_of_le q)

-- one promise for each place of a range
module _ (start ballot : ℕ) where
  abbrev pub promises_of : ℕ → List Act
  promises_of i = promise (start + i) ballot ∷ []

  pub promises_many : (from to : ℕ) → length (gather promises_of from to) ≡ to - from
  promises_many from zero = omega arith
  promises_many from (suc j) =
      pick_cases (λ (x : List Act). length x ≡ suc j - from) (leb from j)
      (λ t. length-append (gather promises_of from j) (promises_of j) ∙ omega (arith, tests, promises_many from j))
      (λ t. promises_many from j ∙ omega (arith, tests))

-- a loop that writes them: where it begins, a turn of it, its end
module _ (from k start ballot : ℕ) (room : List ℕ) where
  pub Promises-start : Promises from from k start ballot room k room
  Promises-start = record { next = omega arith; written = room_start room k (promises_of start ballot) from }

  pub Promises-turn : (n : ℕ) (r t : List ℕ) (i : ℕ) → from ≤ i → 18 * k ≤ length room → Promises from i k start ballot room n r
      → t ≡ write_at r n (promise (start + i) ballot ∷ []) → Promises from (i + 1) k start ballot room (n + 1) t
  Promises-turn n r t i h l p e =
      record {
        next = omega (arith, p.next);
        written = room_turn room k (promises_of start ballot) from r t i n h l (omega (arith, p.next, promises_many start ballot from i)) p.written e;
      }

  pub Promises-end : (n : ℕ) (r : List ℕ) (i to : ℕ) → from ≤ i → to ≤ i → i - from ≤ to - from → Promises from i k start ballot room n r
      → Promises from to k start ballot room n r
  Promises-end n r i to h q u p =
      let g : ℕ → List Act = promises_of start ballot in
      let same : gather g from i ≡ gather g from to =
      range_end (gather g from) from i to h q u (λ v. gather_self g from ∙ sym (gather_none g from to v)) in
      record { next = omega (arith, p.next); written = rw same at p.written }

-- one value at each place from the window's end up to n: as a loop writes it, and as the library does
module _ (z : Slot) (w : Window) where
  over_paste : (i : ℕ) → w.len + i ≤ length w.slots → over (λ j s. z) no_slot w.len (w.len + i) w.slots ≡ paste w.slots w.len (replicate i z) i
  over_paste zero h =
      ap (λ (m : ℕ). over (λ j s. z) no_slot w.len m w.slots) (add-zero w.len) ∙ over_self (λ j s. z) no_slot w.len w.slots ∙ paste_none w.slots w.len (replicate 0 z)
  over_paste (suc i) h =
      let e : w.len + suc i ≡ w.len + i + 1 = omega arith in
      let f : i + 1 ≡ suc i = omega arith in
      let g = fill_from_more w.slots w.len i z (omega arith) in
      ap (λ (m : ℕ). over (λ j s. z) no_slot w.len m w.slots) e
      ∙ over_more (λ j s. z) no_slot w.len (w.len + i) w.slots (omega arith)
      ∙ ap (λ (x : List Slot). set x (w.len + i) z) (over_paste i (omega arith))
      ∙ rw f at g

  pub filled_part : (n : ℕ) (part : List Slot) → w.len < n → n ≤ length w.slots → part ≡ replicate (n - w.len) z
      → record { len = n; slots = put_mid w.len (n - w.len) w.slots part } ≡ filled z w n
  unfolding filled
  filled_part n part h l e =
      let k : w.len + (n - w.len) ≡ n = omega arith in
      rw (lt-leb n w.len h, put_mid-paste w.len (n - w.len) w.slots part (replicate (n - w.len) z) (n - w.len) e refl (sym (length-replicate (n - w.len) z))) (ap (λ (x : List Slot). record { len = n; slots = x }) (sym (over_paste (n - w.len) (omega arith)) ∙ ap (λ (m : ℕ). over (λ j s. z) no_slot w.len m w.slots) k))

module _ (z : Slot) (w : Window) (n : ℕ) where
  pub filled_kept : n ≤ w.len → w ≡ filled z w n
  unfolding filled
  filled_kept h = rw (le-leb n w.len h)

-- ── searches ──
-- a loop that finds the last: a turn of it
pub last_turn : (p : ℕ → Bool) (other i found new : ℕ) → found ≡ last p other i → new ≡ pick (p i) i found → new ≡ last p other (i + 1)
last_turn p other i found new e f = f ∙ ap (pick (p i) i) e ∙ sym (last_more p other i)

pub last_used_found : (w : Window) (found i : ℕ) → found ≡ last (λ j. ltb 0 (slot_at w j).status) 0 i → i ≡ w.len → found ≡ last_used w
unfolding last_used
last_used_found w found i e h = rw h at e

pub last_open_found : (w : Window) (found i : ℕ) → found ≡ last (λ j. ltb (slot_at w j).status 3) w.len i → i ≡ w.len → found ≡ last_open w
unfolding last_open
last_open_found w found i e h = rw h at e

-- a loop that looks for one and ends
pub any_end : (p : ℕ → Bool) (from i to : ℕ) → from ≤ i → to ≤ i → i - from ≤ to - from → any p from i ≡ false → false ≡ any p from to
any_end p from i to h q u e = sym e ∙ range_end (any p from) from i to h q u (λ v. any_self p from ∙ sym (any_none p from to v))

-- a loop that stops early: the test of a turn
module _ (w : Window) (ballot status i : ℕ) where
  pub passes_low : (slot_at w i).ballot < ballot → passes w ballot status i ≡ false
  passes_low h = rw (lt-leb ballot (slot_at w i).ballot h)

  pub passes_early : (slot_at w i).status < status → passes w ballot status i ≡ false
  passes_early h = rw (lt-leb status (slot_at w i).status h, and-false (leb ballot (slot_at w i).ballot))

  pub passes_both : ballot ≤ (slot_at w i).ballot → status ≤ (slot_at w i).status → passes w ballot status i ≡ true
  passes_both h q = and_make (le-leb ballot (slot_at w i).ballot h) (le-leb status (slot_at w i).status q)

-- two tests that agree stop at one place
scan_for_same : (p q : ℕ → Bool) → ((i : ℕ) → p i ≡ q i) → (k i : ℕ) → scan_for p k i ≡ scan_for q k i
scan_for_same p q e zero i = refl
scan_for_same p q e (suc k) i = rw (e i, scan_for_same p q e k (suc i))

pub scan_same : (p q : ℕ → Bool) → ((i : ℕ) → p i ≡ q i) → (from to : ℕ) → scan p from to ≡ scan q from to
unfolding scan
scan_same p q e from to = scan_for_same p q e (to - from) from

pub passes_status : (w : Window) (status from to : ℕ) → scan (passes w 0 status) from to ≡ scan (λ i. leb status (slot_at w i).status) from to
passes_status w status = scan_same (passes w 0 status) (λ i. leb status (slot_at w i).status) (λ i. rw (le-leb 0 (slot_at w i).ballot (omega arith)))

pub mark_stop_stop : (w : Window) (ballot from to : ℕ) → mark_stop w ballot from to ≡ scan (passes w ballot 2) from to
unfolding mark_stop
mark_stop_stop w ballot from to = refl

-- where they lie
pub first_open_within : (w : Window) → first_open w ≤ w.len
unfolding first_open
first_open_within w = scan_high (λ i. leb 3 (slot_at w i).status) 0 w.len (omega arith)

pub last_open_within : (w : Window) → last_open w ≤ w.len
unfolding last_open
last_open_within w = omega (arith, last_below (λ i. ltb (slot_at w i).status 3) w.len w.len (suc w.len) (omega arith) (omega arith))

pub mark_stop_low : (w : Window) (ballot from to : ℕ) → from ≤ mark_stop w ballot from to
unfolding mark_stop
mark_stop_low w ballot from to = scan_low (passes w ballot 2) from to

pub mark_stop_within : (w : Window) (ballot from to : ℕ) → from ≤ to → mark_stop w ballot from to ≤ to
unfolding mark_stop
mark_stop_within w ballot from to h = scan_high (passes w ballot 2) from to h

pub mark_stop_may : (w : Window) (ballot from to j : ℕ) → from ≤ j → j < mark_stop w ballot from to → 2 ≤ (slot_at w j).status
unfolding mark_stop
mark_stop_may w ballot from to j a b =
    leb-true 2 (slot_at w j).status (and_right (leb ballot (slot_at w j).ballot) _ (scan_passed (passes w ballot 2) from to j a b))

pub last_used_within : (w : Window) → w.len ≤ 64 → last_used w < 64
unfolding last_used
last_used_within w h = last_below (λ i. ltb 0 (slot_at w i).status) 0 w.len 64 (omega arith) h

-- a loop that looks for an unfit slot
module _ (group : ℕ) (w : Window) where
  abbrev pub unfit_slot : ℕ → Bool
  unfit_slot i = not (fit_slot group (slot_at w i))

  pub slots_found : (i : ℕ) (b : Bool) → i < w.len → b ≡ fit_slot group (slot_at w i) → not b ≡ true → false ≡ fit_slots group w
  unfolding fit_slots
  slots_found i b l e h = search_found unfit_slot i w.len b l (e ∙ sym (not-not (fit_slot group (slot_at w i)))) h

  pub slots_more : (i : ℕ) (b : Bool) → any unfit_slot 0 i ≡ false → b ≡ fit_slot group (slot_at w i) → not b ≡ false → any unfit_slot 0 (i + 1) ≡ false
  slots_more i b a e h = search_more unfit_slot i b a (e ∙ sym (not-not (fit_slot group (slot_at w i)))) h

  pub slots_done : (i : ℕ) → any unfit_slot 0 i ≡ false → i ≡ w.len → true ≡ fit_slots group w
  unfolding fit_slots
  slots_done i a h = search_done unfit_slot i w.len a h
