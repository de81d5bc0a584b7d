-- The laws of reading: a row by its kind, and that what was written is read back.
use Rattle.std.specs.Prelude.{◌≡◌, refl, Bool, true, false, ◌⊎◌, List, [], ◌∷◌, ◌++◌, ℕ, zero, suc, ◌+◌, ◌*◌, ◌≤◌, ◌<◌, leb, length, get_or, set, take, drop, replicate}
use Rattle.std.specs.declared.option.Option.{Option}
use Rattle.std.specs.declared.option.Option.TheVariants.{None, Some}
use Rattle.base.specs.Pick.{pick, decide, clash}
use borrow.Rule.Slice.PartMut.{put_mid}
use Rattle.std.proofs.Common.{inl, inr, sym, ap, ◌∙◌, append_assoc, append-nil, zero-add, arith, length-drop, drop_of_length-le, take_at, drop_at, length-take-le, get_or-drop, drop-cons}
use Rattle.std.proofs.Math.Bool.{or-true}
use Rattle.std.proofs.Math.Seq.{drop-append-add, paste}
use borrow.Author.Tests.{le-leb, lt-leb, lt-ltb, le-ltb, ne_eqb}
use Rattle.actions.specs.declared.Action.{Action}
use Rattle.actions.specs.declared.Action.TheVariants.{PrepareBal, AcceptData, CommitSlot, Prepare, PrepareReply, Accept, AcceptReply, CommitNotice, Heartbeat, StatusUp, StatusDown, Execute, ReadAnswer}
use Rattle.actions.specs.declared.Got as code
use Rattle.actions.specs.Actions.{Act, no_keys, act, eight_of, keys_for, numbers_of, flat, write_at, write_actions, put_act}
use Rattle.actions.specs.Reading.{Got, seen, row_kept, action_of, row_action, row_keys, is_kind, nothing_read, read_row, read_act}
use Rattle.actions.specs.Laws.{length_numbers, put_in, length_put, length_front, paste_turn}

-- a turn of the loop that reads 18 numbers, and what it leaves
pub copy_turn : (r room zeros : List ℕ) (at j : ℕ) → r ≡ paste zeros 0 (drop at room) j → j < length zeros → at + j < length room
    → set r j (get_or room (at + j) 0) ≡ paste zeros 0 (drop at room) (j + 1)
copy_turn r room zeros at j e p q =
    ap (set r j) (sym (get_or-drop at room j 0))
    ∙ ap (λ (i : ℕ). set r i (get_or (drop at room) j 0)) (sym (zero-add j))
    ∙ paste_turn r zeros (drop at room) 0 j e (omega arith) (omega (arith, length-drop at room))

pub copy_done : (r room : List ℕ) (at j : ℕ) → r ≡ paste (replicate 18 0) 0 (drop at room) j → j ≡ 18 → r ≡ take 18 (drop at room)
copy_done r room at j e h = e ∙ rw (h) (append-nil (take 18 (drop at room)))

-- eight keys are themselves
pub eight_of_lem : (l : List ℕ) → length l ≡ 8 → eight_of l ≡ l
eight_of_lem l h =
    let end : drop 8 l ≡ [] = drop_of_length-le l {i = 8} (omega arith) in
    rw (
      ← end,
      turn 7 (omega arith),
      turn 6 (omega arith),
      turn 5 (omega arith),
      turn 4 (omega arith),
      turn 3 (omega arith),
      turn 2 (omega arith),
      turn 1 (omega arith),
      turn 0 (omega arith),
    )
  where
    turn : (j : ℕ) → j < 8 → get_or l j 0 ∷ drop (suc j) l ≡ drop j l
    turn j p = sym (drop-cons l j 0 (omega arith))

-- ten numbers of its own, and eight keys beside them
own_then : (a : Action) (keys : List ℕ) → take 10 (numbers_of a no_keys) ++ eight_of keys ≡ numbers_of a keys
own_then (PrepareBal p) keys = refl
own_then (AcceptData p) keys = refl
own_then (CommitSlot p) keys = refl
own_then (Prepare p) keys = refl
own_then (PrepareReply p) keys = refl
own_then (Accept p) keys = refl
own_then (AcceptReply p) keys = refl
own_then (CommitNotice p) keys = refl
own_then Heartbeat keys = refl
own_then StatusUp keys = refl
own_then StatusDown keys = refl
own_then (Execute p) keys = refl
own_then (ReadAnswer p) keys = refl

pub row_made : (a : Action) (keys own rest : List ℕ) → length keys ≡ 8 → own ≡ take 10 (numbers_of a no_keys) → rest ≡ keys
    → put_mid 10 8 (own ++ no_keys) rest ≡ numbers_of a keys
row_made a keys own rest h e f =
    let n : length (take 10 (numbers_of a no_keys)) ≡ 10 = length-take-le 10 (numbers_of a no_keys) (omega (arith, length_numbers a no_keys)) in
    rw (e, f, take_at (take 10 (numbers_of a no_keys)) no_keys 10 n, drop_at (take 10 (numbers_of a no_keys)) no_keys 10 n, append-nil keys)
    (ap (λ (x : List ℕ). take 10 (numbers_of a no_keys) ++ x) (sym (eight_of_lem keys h)) ∙ own_then a keys)

-- what the numbers of an action say
pub read_of_numbers : (a : Action) (keys : List ℕ) → read_row (numbers_of a keys) ≡ record { found = true; what = a; keys = keys_for a (eight_of keys) }
unfolding read_row action_of
read_of_numbers (PrepareBal p) keys = refl
read_of_numbers (AcceptData p) keys = refl
read_of_numbers (CommitSlot p) keys = refl
read_of_numbers (Prepare p) keys = refl
read_of_numbers (PrepareReply p) keys = refl
read_of_numbers (Accept p) keys = refl
read_of_numbers (AcceptReply p) keys = refl
read_of_numbers (CommitNotice p) keys = refl
read_of_numbers Heartbeat keys = refl
read_of_numbers StatusUp keys = refl
read_of_numbers StatusDown keys = refl
read_of_numbers (Execute p) keys = refl
read_of_numbers (ReadAnswer p) keys = refl

-- eight keys of an action's own are its own again
own_keys : (a : Action) (keys : List ℕ) → length keys ≡ 8 → keys_for a (eight_of (keys_for a keys)) ≡ keys_for a keys
own_keys (PrepareBal p) keys e = refl
own_keys (AcceptData p) keys e = eight_of_lem keys e
own_keys (CommitSlot p) keys e = refl
own_keys (Prepare p) keys e = refl
own_keys (PrepareReply p) keys e = eight_of_lem keys e
own_keys (Accept p) keys e = eight_of_lem keys e
own_keys (AcceptReply p) keys e = refl
own_keys (CommitNotice p) keys e = refl
own_keys Heartbeat keys e = refl
own_keys StatusUp keys e = refl
own_keys StatusDown keys e = refl
own_keys (Execute p) keys e = eight_of_lem keys e
own_keys (ReadAnswer p) keys e = refl

-- a row by its kind, as the code tells it apart
module _ (l : List ℕ) where
  pub kind_is : (n : ℕ) → get_or l 0 0 ≡ n
      → action_of n (get_or l 1 0) (get_or l 2 0) (get_or l 3 0) (get_or l 4 0) (get_or l 5 0) (get_or l 6 0) (get_or l 7 0) (get_or l 8 0) (get_or l 9 0) ≡ row_action l
  kind_is n e = rw e

  abbrev pub IsNot : ℕ → Type 0
  IsNot n = get_or l 0 0 ≡ n → ⊥

  pub no_kind : (((((((((((Unit {0} × IsNot 1) × IsNot 2) × IsNot 3) × IsNot 4) × IsNot 5) × IsNot 6) × IsNot 7) × IsNot 8) × IsNot 10) × IsNot 11) × IsNot 12) × IsNot 13 → Heartbeat ≡ row_action l
  unfolding action_of
  no_kind h =
      rw (
        ne_eqb (get_or l 0 0) 1 h.0.0.0.0.0.0.0.0.0.0.0.1,
        ne_eqb (get_or l 0 0) 2 h.0.0.0.0.0.0.0.0.0.0.1,
        ne_eqb (get_or l 0 0) 3 h.0.0.0.0.0.0.0.0.0.1,
        ne_eqb (get_or l 0 0) 4 h.0.0.0.0.0.0.0.0.1,
        ne_eqb (get_or l 0 0) 5 h.0.0.0.0.0.0.0.1,
        ne_eqb (get_or l 0 0) 6 h.0.0.0.0.0.0.1,
        ne_eqb (get_or l 0 0) 7 h.0.0.0.0.0.1,
        ne_eqb (get_or l 0 0) 8 h.0.0.0.0.1,
        ne_eqb (get_or l 0 0) 10 h.0.0.0.1,
        ne_eqb (get_or l 0 0) 11 h.0.0.1,
        ne_eqb (get_or l 0 0) 12 h.0.1,
        ne_eqb (get_or l 0 0) 13 h.1,
      )

  pub kind_low : get_or l 0 0 < 1 → leb 1 (get_or l 0 0) ≡ is_kind (get_or l 0 0)
  kind_low h = rw (lt-leb 1 (get_or l 0 0) h)

  pub kind_high : 1 ≤ get_or l 0 0 → leb (get_or l 0 0) 13 ≡ is_kind (get_or l 0 0)
  kind_high h = rw (le-leb 1 (get_or l 0 0) h)

  pub row_read : (t : Bool) (a : Action) (keys own : List ℕ) → t ≡ is_kind (get_or l 0 0) → a ≡ row_action l → keys ≡ row_keys l → own ≡ keys_for a keys
      → record { found = t; what = a; keys = own } ≡ read_row l
  unfolding read_row
  row_read t a keys own e f g h = rw (h, g, f, e)

  -- what the code says of a row: its action where it has a kind, and none where it has not
  pub kept_is : (n : ℕ) → get_or l 0 0 ≡ n
      → pick (is_kind n) (Some (action_of n (get_or l 1 0) (get_or l 2 0) (get_or l 3 0) (get_or l 4 0) (get_or l 5 0) (get_or l 6 0) (get_or l 7 0) (get_or l 8 0) (get_or l 9 0))) None
      ≡ row_kept l
  kept_is n e = rw e

  outside : is_kind (get_or l 0 0) ≡ false → (n : ℕ) → is_kind n ≡ true → IsNot n
  outside f n t e = clash (ap is_kind e ∙ t) f

  pub none_kept : None ≡ row_kept l → nothing_read ≡ read_row l
  none_kept h = go (decide (is_kind (get_or l 0 0)))
    where
      go : (is_kind (get_or l 0 0) ≡ true) ⊎ (is_kind (get_or l 0 0) ≡ false) → nothing_read ≡ read_row l
      go (inl t) = let z : ◌≡◌ {A = ℕ} 0 1 = cc (rw t at h) in absurd (omega arith)
      go (inr f) =
          let no : (n : ℕ) → is_kind n ≡ true → IsNot n = outside f in
          row_read false Heartbeat (row_keys l) no_keys (sym f)
          (no_kind ((((((((((((tt, no 1 refl), no 2 refl), no 3 refl), no 4 refl), no 5 refl), no 6 refl), no 7 refl), no 8 refl), no 10 refl), no 11 refl), no 12 refl), no 13 refl))
          refl refl

  pub some_kept : (a : Action) (own : List ℕ) → Some a ≡ row_kept l → own ≡ keys_for a (row_keys l) → record { found = true; what = a; keys = own } ≡ read_row l
  some_kept a own h e = go (decide (is_kind (get_or l 0 0)))
    where
      go : (is_kind (get_or l 0 0) ≡ true) ⊎ (is_kind (get_or l 0 0) ≡ false) → record { found = true; what = a; keys = own } ≡ read_row l
      go (inl t) = let k : a ≡ row_action l = cc (rw t at h) in row_read true a (row_keys l) own (sym t) k refl e
      go (inr f) = let z : ◌≡◌ {A = ℕ} 0 1 = cc (rw f at h) in absurd (omega arith)

-- what the code hands back is told by what is seen of it
pub seen_unique : (x y : Option code.Got) → seen x ≡ seen y → x ≡ y
seen_unique None None e = refl
seen_unique None (Some g) e = absurd (clash refl (sym (ap (λ (r : Got). r.found) e)))
seen_unique (Some g) None e = absurd (clash refl (ap (λ (r : Got). r.found) e))
seen_unique (Some g) (Some h) e =
    let w : g.what ≡ h.what = ap (λ (r : Got). r.what) e in
    let k : g.keys ≡ h.keys = ap (λ (r : Got). r.keys) e in
    ap Some (alike w k)
  where
    alike : g.what ≡ h.what → g.keys ≡ h.keys → g ≡ h
    alike w k = let r : code.Got = record { what = g.what; keys = g.keys } in rw (w, k)

-- where there is a row, and where there is none
pub read_in : (room : List ℕ) (k : ℕ) → k < 192 → 3456 ≤ length room → read_act room k ≡ read_row (take 18 (drop (18 * k) room))
unfolding read_act
read_in room k h l = rw (lt-leb 192 k h, le-ltb (length room) 3456 l)

pub read_past : (room : List ℕ) (k : ℕ) → 192 ≤ k → read_act room k ≡ nothing_read
unfolding read_act
read_past room k h = rw (le-leb 192 k h)

pub read_short : (room : List ℕ) (k : ℕ) → length room < 3456 → read_act room k ≡ nothing_read
unfolding read_act
read_short room k h = rw (lt-ltb (length room) 3456 h, or-true (leb 192 k))

-- the numbers at the place that an action was put at are its own
pub row_written : (room : List ℕ) (k : ℕ) (a : Act) → 18 * k ≤ length room → take 18 (drop (18 * k) (write_at room k (a ∷ []))) ≡ numbers_of a.what a.keys
unfolding write_at
row_written room k a h =
    let p : List ℕ = take (18 * k) room in
    let n : List ℕ = numbers_of a.what a.keys in
    let z : List ℕ = drop (18 * k + length n) room in
    rw (append-nil n, append_assoc p n z, drop_at p (n ++ z) (18 * k) (length-take-le (18 * k) room h)) (take_at n z 18 (length_numbers a.what a.keys))

-- what was put is read back
pub read_back : (room : List ℕ) (k : ℕ) (a : Action) (keys : List ℕ) → k < 192 → 3456 ≤ length room → length keys ≡ 8
    → read_act (put_act room k (act a keys)) k ≡ record { found = true; what = a; keys = keys_for a keys }
read_back room k a keys h l e =
    read_in (put_act room k (act a keys)) k h (omega (arith, length_put room k (act a keys)))
    ∙ ap (λ (x : List ℕ). read_row (take 18 (drop (18 * k) x))) (put_in room k (act a keys) h l)
    ∙ ap read_row (row_written room k (act a keys) (omega arith))
    ∙ read_of_numbers a (keys_for a keys)
    ∙ ap (λ (x : List ℕ). record { found = true; what = a; keys = x }) (own_keys a keys e)

-- each of the actions at the front is read back
flat_at : (acts : List Act) (z : List ℕ) (i : ℕ) (d : Act) → i < length acts
    → take 18 (drop (18 * i) (flat acts ++ z)) ≡ numbers_of (get_or acts i d).what (get_or acts i d).keys
flat_at [] z i d h = absurd (omega arith)
flat_at (a ∷ rest) z zero d h =
    let n : List ℕ = numbers_of a.what a.keys in
    ap (take 18) (append_assoc n (flat rest) z) ∙ take_at n (flat rest ++ z) 18 (length_numbers a.what a.keys)
flat_at (a ∷ rest) z (suc i) d h =
    let n : List ℕ = numbers_of a.what a.keys in
    let e : 18 * suc i ≡ length n + 18 * i = omega (arith, length_numbers a.what a.keys) in
    rw (e, append_assoc n (flat rest) z, drop-append-add n (flat rest ++ z) (18 * i)) (flat_at rest z i d (omega arith))

pub read_written : (room : List ℕ) (acts : List Act) (i : ℕ) (d : Act) → i < length acts → length acts ≤ 192 → 3456 ≤ length room
    → read_act (write_actions room acts) i ≡ record { found = true; what = (get_or acts i d).what; keys = keys_for (get_or acts i d).what (eight_of (get_or acts i d).keys) }
unfolding write_actions
read_written room acts i d h m l =
    read_in (flat acts ++ drop (18 * length acts) room) i (omega arith) (omega (arith, length_front room acts (omega arith)))
    ∙ ap read_row (flat_at acts (drop (18 * length acts) room) i d h)
    ∙ read_of_numbers (get_or acts i d).what (get_or acts i d).keys
