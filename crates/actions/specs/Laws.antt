-- The laws of a room with actions written into it.
use Rattle.std.specs.Prelude.{◌≡◌, refl, ◌||◌, ℕ, ◌+◌, ◌*◌, ◌≤◌, ◌<◌, ltb, leb, length, get_or, set, take, drop}
use Rattle.std.proofs.Math.Path.{sym, ap}
use Rattle.std.proofs.Common.{◌∙◌, add-zero, zero-add, add-one, arith, length-append, length-drop, take-append-drop, take_at, drop_at, length-take-le, drop-drop, take_all, le-leb, lt-ltb, le-ltb, leb-false, ltb-false}
use Rattle.std.proofs.Math.Bool.{or-true}
use mathlib.Core.List.{List, [], ◌∷◌, ◌++◌, append_assoc, append-nil}
use Rattle.std.proofs.Math.Seq.{drop-append-add, paste, paste-suc}
use Rattle.std.proofs.lemmas.Bool.{lt-leb}
use Rattle.base.specs.Gather.{gather, gather_self, gather_more}
use Rattle.base.specs.Pick.{coincide, pick_cases, or-false}
use Rattle.actions.specs.declared.Action.{Action}
use Rattle.actions.specs.declared.Action.TheVariants.{PrepareBal, AcceptData, CommitSlot, Prepare, PrepareReply, Accept, AcceptReply, CommitNotice, Heartbeat, StatusUp, StatusDown, Execute, ReadAnswer}
use Rattle.actions.specs.declared.Says.{Says}
use Rattle.actions.specs.declared.Says.TheVariants.{Nothing, One, Two}
use Rattle.actions.specs.Actions.{Act, act, numbers_of, flat, write_at, write_actions, put_act, says_acts}
use Rattle.actions.specs.Saying.{say_acts, place_after, Said}

-- an action has 18 numbers, whatever its keys
pub length_numbers : (a : Action) (keys : List ℕ) → length (numbers_of a keys) ≡ 18
length_numbers (PrepareBal p) keys = refl
length_numbers (AcceptData p) keys = refl
length_numbers (CommitSlot p) keys = refl
length_numbers (Prepare p) keys = refl
length_numbers (PrepareReply p) keys = refl
length_numbers (Accept p) keys = refl
length_numbers (AcceptReply p) keys = refl
length_numbers (CommitNotice p) keys = refl
length_numbers Heartbeat keys = refl
length_numbers StatusUp keys = refl
length_numbers StatusDown keys = refl
length_numbers (Execute p) keys = refl
length_numbers (ReadAnswer p) keys = refl

pub length-flat : (acts : List Act) → length (flat acts) ≡ 18 * length acts
length-flat [] = refl
length-flat (a ∷ rest) = length-append (numbers_of a.what a.keys) (flat rest) ∙ omega (arith, length_numbers a.what a.keys, length-flat rest)

pub flat-append : (xs ys : List Act) → flat (xs ++ ys) ≡ flat xs ++ flat ys
flat-append [] ys = refl
flat-append (a ∷ rest) ys = rw (flat-append rest ys) (sym (append_assoc (numbers_of a.what a.keys) (flat rest) (flat ys)))

-- no action
pub write_none : (room : List ℕ) (k : ℕ) → write_at room k [] ≡ room
unfolding write_at
write_none room k = rw (append-nil (take (18 * k) room), add-zero (18 * k)) (take-append-drop (18 * k) room)

-- actions that follow others
pub write_append : (room : List ℕ) (k : ℕ) (xs ys : List Act) (n : ℕ) → 18 * k ≤ length room → n ≡ k + length xs
    → write_at (write_at room k xs) n ys ≡ write_at room k (xs ++ ys)
unfolding write_at
write_append room k xs ys n h e =
    let p : List ℕ = take (18 * k) room in
    let l : length (p ++ flat xs) ≡ 18 * n = length-append p (flat xs) ∙ omega (arith, length-take-le (18 * k) room h, length-flat xs) in
    let m : 18 * n + length (flat ys) ≡ length (p ++ flat xs) + length (flat ys) = omega arith in
    let t : 18 * k + length (flat xs) + length (flat ys) ≡ 18 * k + length (flat xs ++ flat ys) = omega (arith, length-append (flat xs) (flat ys)) in
    rw (
      take_at (p ++ flat xs) _ (18 * n) l,
      m,
      drop-append-add (p ++ flat xs) _ (length (flat ys)),
      drop-drop (length (flat ys)) (18 * k + length (flat xs)) room,
      t,
      flat-append xs ys,
      append_assoc p (flat xs) (flat ys),
    )

-- the same as two calls leave it, one after the other
pub write_then : (room r t : List ℕ) (xs ys : List Act) (k n : ℕ) → 18 * k ≤ length room → n ≡ k + length xs
    → r ≡ write_at room k xs → t ≡ write_at r n ys → t ≡ write_at room k (xs ++ ys)
write_then room r t xs ys k n h e p q = q ∙ ap (λ (x : List ℕ). write_at x n ys) p ∙ write_append room k xs ys n h e

-- from the front
pub write_front : (room : List ℕ) (acts : List Act) → write_at room 0 acts ≡ write_actions room acts
unfolding write_at write_actions
write_front room acts = rw (zero-add (length (flat acts)), length-flat acts)

pub length_write : (room : List ℕ) (k : ℕ) (acts : List Act) → 18 * (k + length acts) ≤ length room → length (write_at room k acts) ≡ length room
unfolding write_at
length_write room k acts h =
    length-append (take (18 * k) room ++ flat acts) (drop (18 * k + length (flat acts)) room)
    ∙ omega (arith, length-append (take (18 * k) room) (flat acts), length-take-le (18 * k) room (omega arith), length-flat acts, length-drop (18 * k + length (flat acts)) room)

pub length_front : (room : List ℕ) (acts : List Act) → 18 * length acts ≤ length room → length (write_actions room acts) ≡ length room
length_front room acts h = ap length (sym (write_front room acts)) ∙ length_write room 0 acts (omega arith)

-- the front has the numbers, and everything past the last action stays
pub front_written : (room : List ℕ) (acts : List Act) → take (18 * length acts) (write_actions room acts) ≡ flat acts
unfolding write_actions
front_written room acts = take_at (flat acts) (drop (18 * length acts) room) (18 * length acts) (length-flat acts)

pub rest_stays : (room : List ℕ) (acts : List Act) → drop (18 * length acts) (write_actions room acts) ≡ drop (18 * length acts) room
unfolding write_actions
rest_stays room acts = drop_at (flat acts) (drop (18 * length acts) room) (18 * length acts) (length-flat acts)

-- an action at a place of the room that there is
pub put_in : (room : List ℕ) (k : ℕ) (a : Act) → k < 192 → 3456 ≤ length room → put_act room k a ≡ write_at room k (a ∷ [])
unfolding put_act
put_in room k a h l = rw (lt-leb 192 k h, le-ltb (length room) 3456 l)

-- and at one that there is not
pub put_past : (room : List ℕ) (k : ℕ) (a : Act) → 192 ≤ k → put_act room k a ≡ room
unfolding put_act
put_past room k a h = rw (le-leb 192 k h)

pub put_short : (room : List ℕ) (k : ℕ) (a : Act) → length room < 3456 → put_act room k a ≡ room
unfolding put_act
put_short room k a h = rw (lt-ltb (length room) 3456 h, or-true (leb 192 k))

pub length_put : (room : List ℕ) (k : ℕ) (a : Act) → length (put_act room k a) ≡ length room
unfolding put_act
length_put room k a =
    pick_cases (λ (x : List ℕ). length x ≡ length room) (leb 192 k || ltb (length room) 3456) (λ t. refl)
    (λ t. let f = or-false (leb 192 k) (ltb (length room) 3456) t in length_write room k (a ∷ []) (omega (arith, leb-false 192 k f.0, ltb-false (length room) 3456 f.1)))

-- actions put one after the other
unfoldable pub put_acts : List ℕ → ℕ → List Act → List ℕ
put_acts room k [] = room
put_acts room k (a ∷ rest) = put_acts (put_act room k a) (k + 1) rest

pub puts_in : (room : List ℕ) (k : ℕ) (acts : List Act) → k + length acts ≤ 192 → 3456 ≤ length room → put_acts room k acts ≡ write_at room k acts
unfolding put_acts
puts_in room k [] h l = sym (write_none room k)
puts_in room k (a ∷ rest) h l =
    puts_in (put_act room k a) (k + 1) rest (omega arith) (omega (arith, length_put room k a))
    ∙ ap (λ (x : List ℕ). write_at x (k + 1) rest) (put_in room k a (omega arith) l)
    ∙ write_append room k (a ∷ []) rest (k + 1) (omega arith) refl

-- any two outcomes that the promise allows coincide
pub Said-unique : {room after after' : List ℕ} {k n n' : ℕ} {acts : List Act} → Said room k acts n after → Said room k acts n' after' → (n ≡ n') × (after ≡ after')
Said-unique s t = (coincide s.placed t.placed, coincide s.written t.written)

-- what a call on one slot says, where two actions have room
pub say_in : (room : List ℕ) (k : ℕ) (acts : List Act) → k + 2 ≤ 192 → 3456 ≤ length room → say_acts room k acts ≡ write_at room k acts
unfolding say_acts
say_in room k acts h l = rw (le-ltb 190 k (omega arith), le-ltb (length room) 3456 l)

pub place_in : (room : List ℕ) (k : ℕ) (acts : List Act) → k + 2 ≤ 192 → 3456 ≤ length room → place_after room k acts ≡ k + length acts
unfolding place_after
place_in room k acts h l = rw (le-ltb 190 k (omega arith), le-ltb (length room) 3456 l)

pub Said-in : {room after : List ℕ} {k next : ℕ} {acts : List Act} → Said room k acts next after → k + 2 ≤ 192 → 3456 ≤ length room
    → (next ≡ k + length acts) × (after ≡ write_at room k acts)
Said-in {room} {after} {k} {next} {acts} s h l = (s.placed ∙ place_in room k acts h l, s.written ∙ say_in room k acts h l)

-- a turn of the loop that copies the 18 numbers, and what it leaves
pub paste_turn : (r r₀ vs : List ℕ) (at j : ℕ) → r ≡ paste r₀ at vs j → at + j < length r₀ → j < length vs
    → set r (at + j) (get_or vs j 0) ≡ paste r₀ at vs (j + 1)
paste_turn r r₀ vs at j e p q = rw (add-one j) (ap (λ (l : List ℕ). set l (at + j) (get_or vs j 0)) e ∙ paste-suc r₀ at vs j 0 p q)

pub paste_done : (r r₀ vs : List ℕ) (k j : ℕ) (a : Act) → r ≡ paste r₀ (18 * k) vs j → j ≡ 18 → vs ≡ numbers_of a.what a.keys
    → r ≡ write_at r₀ k (a ∷ [])
unfolding write_at
paste_done r r₀ vs k j a e h n =
    let l : length (numbers_of a.what a.keys) ≡ 18 = length_numbers a.what a.keys in
    let t : take 18 (numbers_of a.what a.keys) ≡ numbers_of a.what a.keys = take_all 18 (numbers_of a.what a.keys) (omega arith) in
    e ∙ rw (h, n, t, append-nil (numbers_of a.what a.keys), l)

-- a loop that writes actions: where it begins, and a turn that writes those of i at the next place n
module _ (room : List ℕ) (k : ℕ) (g : ℕ → List Act) (from : ℕ) where
  pub room_start : room ≡ write_at room k (gather g from from)
  room_start = sym (ap (write_at room k) (gather_self g from) ∙ write_none room k)

  pub room_turn : (r t : List ℕ) (i n : ℕ) → from ≤ i → 18 * k ≤ length room → n ≡ k + length (gather g from i)
      → r ≡ write_at room k (gather g from i) → t ≡ write_at r n (g i) → t ≡ write_at room k (gather g from (i + 1))
  room_turn r t i n h l c e f =
      write_then room r t (gather g from i) (g i) k n l c e f ∙ ap (write_at room k) (sym (gather_more g from i h))

-- what a call on one slot says: where two actions have no place, and where they have
module _ (room : List ℕ) (k : ℕ) (says : Says) (keys : List ℕ) where
  pub Said-past : 190 < k → Said room k (says_acts says keys) k room
  unfolding say_acts place_after
  Said-past h = record { placed = rw (lt-ltb 190 k h); written = rw (lt-ltb 190 k h) }

  pub Said-short : length room < 3456 → Said room k (says_acts says keys) k room
  unfolding say_acts place_after
  Said-short h = record { placed = rw (lt-ltb (length room) 3456 h, or-true (ltb 190 k)); written = rw (lt-ltb (length room) 3456 h, or-true (ltb 190 k)) }

  module _ (h : k ≤ 190) (l : 3456 ≤ length room) where
    pub Said-Nothing : says ≡ Nothing → Said room k (says_acts says keys) k room
    Said-Nothing e =
        rw e (record { placed = sym (place_in room k [] (omega arith) l ∙ add-zero k); written = sym (say_in room k [] (omega arith) l ∙ write_none room k) })

    pub Said-One : (a : Action) (after : List ℕ) → says ≡ One a → after ≡ put_act room k (act a keys) → Said room k (says_acts says keys) (k + 1) after
    Said-One a after e f =
        rw e (record {
          placed = sym (place_in room k (act a keys ∷ []) (omega arith) l);
          written = f ∙ put_in room k (act a keys) (omega arith) l ∙ sym (say_in room k (act a keys ∷ []) (omega arith) l);
        })

    pub Said-Two : (a b : Action) (mid after : List ℕ) → says ≡ Two a b → mid ≡ put_act room k (act a keys) → after ≡ put_act mid (k + 1) (act b keys)
        → Said room k (says_acts says keys) (k + 2) after
    unfolding put_acts
    Said-Two a b mid after e f g =
        let both : List Act = act a keys ∷ act b keys ∷ [] in
        rw e (record {
          placed = sym (place_in room k both (omega arith) l);
          written = g ∙ ap (λ (x : List ℕ). put_act x (k + 1) (act b keys)) f ∙ puts_in room k both (omega arith) l ∙ sym (say_in room k both (omega arith) l);
        })
