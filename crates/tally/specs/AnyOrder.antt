-- 02, Wish 3: "any order and any repetition of the same replies gives the same tally". Below one key's laws (Larger) it is carried to lists once.
use Rattle.std.specs.Prelude.{◌≡◌, refl, true, false, not, List, [], ◌∷◌, map, ℕ, ◌≤◌, ◌<◌, length, ltb}
use Rattle.std.proofs.Common.{sym, ap, ◌∙◌, ⊎_elim, le_refl, arith, ext_get_or, ltb-true, ltb-false}
use mathlib.Core.List.Memᴰ
use Rattle.base.specs.Pick.{decide, clash, tests}
use Rattle.base.specs.Among.{◌∈◌, SameMembers, All}
use Rattle.base.specs.Over.{length-over}
use Rattle.base.specs.Scan.{scan_high, scan_end, scan_stopped}
use Rattle.tally.specs.declared.Best.{Best}
use Rattle.tally.specs.declared.Tally.{Tally}
use Rattle.tally.specs.Merge.{no_best, best_at, agree_at, conflict_at, merge_at, merge_up_to, merge}
use Rattle.tally.specs.Turns.{Merging, merging_end}
use Rattle.tally.specs.Larger.{Agree, Agree-sym, Agree-self, Agree-merges, most_known}

-- WHAT IS SAID

-- a tally as the code has it: at most 8 keys, and places for 8
pub record Eight (t : Tally) : Type 0 where
  pub few : t.count ≤ 8
  pub places : length t.bests ≡ 8

-- 02: "of one length, in which no two hold different values for one key at one slot"
pub record Agreeing (a b : Tally) : Type 0 where
  pub even : a.count ≡ b.count
  pub each : (i : ℕ) → i < a.count → Agree (best_at a i) (best_at b i)

-- replies that agree with what is held and with each other
pub record Consistent (held : Tally) (replies : List Tally) : Type 0 where
  pub with_held : (t : Tally) → t ∈ replies → Agreeing held t
  pub with_each : (s t : Tally) → s ∈ replies → t ∈ replies → Agreeing s t

-- replies merged one after the other, and what each is answered
abbrev pub merge_all : Tally → List Tally → Tally
merge_all held [] = held
merge_all held (reply ∷ replies) = merge_all (merge held reply).tally replies

abbrev pub merge_answers : Tally → List Tally → List ℕ
merge_answers held [] = []
merge_answers held (reply ∷ replies) = (merge held reply).answer ∷ merge_answers (merge held reply).tally replies

-- any order, any repetition: lists with the same members leave the same tally, its unused places too
abbrev pub TallyAnyOrder : Type 0
TallyAnyOrder = (held : Tally) (k l : List Tally) → Eight held → Consistent held k → SameMembers k l → merge_all held k ≡ merge_all held l

-- and each reply is answered 0: "no conflict then"
abbrev pub NoConflict : Type 0
NoConflict = (held : Tally) (k : List Tally) → Eight held → Consistent held k → All (λ (answer : ℕ). answer ≡ 0) (merge_answers held k)

-- the same is known of each key; what stands in the places past the count is that of the tally merged into
pub record Alike (a b : Tally) : Type 0 where
  pub even : a.count ≡ b.count
  pub each : (i : ℕ) → i < a.count → best_at a i ≡ best_at b i

-- TWO THAT AGREE

-- every key merged
abbrev pub joined : Tally → Tally → Tally
joined held reply = merge_up_to held reply held.count

pub joined-Eight : (held reply : Tally) → Eight held → Eight (joined held reply)
joined-Eight held reply w = record { few = w.few; places = length-over (merge_at reply) no_best 0 held.count held.bests ∙ w.places }

-- no merge is refused, none conflicts, and every key is merged
module _ (held reply : Tally) (few : held.count ≤ 8) (g : Agreeing held reply) where
  agree_through : conflict_at held reply ≡ held.count
  agree_through =
      ⊎_elim
      (λ (t : ltb (conflict_at held reply) held.count ≡ true).
      let below : conflict_at held reply < held.count = ltb-true _ _ t in
      absurd (clash (ap not (Agree-merges _ _ (g.each (conflict_at held reply) below))) (scan_stopped (agree_at held reply) 0 held.count below)))
      (λ (t : ltb (conflict_at held reply) held.count ≡ false). omega (arith, tests, scan_high (agree_at held reply) 0 held.count (omega arith)))
      (decide (ltb (conflict_at held reply) held.count))

  pub agreeing_merge : merge held reply ≡ record { answer = 0; tally = joined held reply }
  agreeing_merge =
      let all : Merging held reply held.count (joined held reply) =
      record { tally = refl; on = scan_end (agree_at held reply) held.count held.count (le_refl _) ∙ sym agree_through; within = le_refl _ } in
      sym (merging_end held reply few (omega (arith, g.even)) g.even held.count (joined held reply) all (le_refl _))

pub Agreeing-self : (t : Tally) → Agreeing t t
Agreeing-self t = record { even = refl; each = λ i h. Agree-self (best_at t i) }

pub Agreeing-sym : (a b : Tally) → Agreeing a b → Agreeing b a
Agreeing-sym a b g = record { even = sym g.even; each = λ i h. Agree-sym (best_at a i) (best_at b i) (g.each i (omega (arith, g.even))) }

-- two tallies are one where count and places are
pub same_tally : (a b : Tally) → a.count ≡ b.count → length a.bests ≡ length b.bests → ((i : ℕ) → best_at a i ≡ best_at b i) → a ≡ b
same_tally a b e l f =
    let bests : a.bests ≡ b.bests = ext_get_or no_best a.bests b.bests l (λ i h. ap (λ (x : Best). record { best = x }) (f i)) in rw (e, bests)

pub by_count : (P : ℕ → Type 0) (n : ℕ) → ((i : ℕ) → i < n → P i) → ((i : ℕ) → n ≤ i → P i) → (i : ℕ) → P i
by_count P n below past i =
    ⊎_elim (λ (t : ltb i n ≡ true). below i (ltb-true _ _ t)) (λ (t : ltb i n ≡ false). past i (ltb-false _ _ t)) (decide (ltb i n))

-- MANY THAT AGREE

-- what all of them leave: of each key the largest that was held or told; the unused places as they were
pub record MostKnown (held : Tally) (replies : List Tally) (after : Tally) : Type 0 where
  pub even : after.count ≡ held.count
  pub places : length after.bests ≡ length held.bests
  pub each : (i : ℕ) → i < held.count → best_at after i ≡ most_known (best_at held i) (map (λ (t : Tally). best_at t i) replies)
  pub past : (i : ℕ) → held.count ≤ i → best_at after i ≡ best_at held i

-- what is held and told of one key agrees
pub key_agrees : (held : Tally) (k : List Tally) → Consistent held k → (i : ℕ) → i < held.count
    → (a b : Best) → a ∈ (best_at held i ∷ map (λ (t : Tally). best_at t i) k) → b ∈ (best_at held i ∷ map (λ (t : Tally). best_at t i) k) → Agree a b
key_agrees held k g i h a b = both
  where
    at : Tally → Best
    at t = best_at t i

    told : (x : Best) → x ∈ map at k → Agree (at held) x
    told x m = let o = Memᴰ.of_map at k m in rw (← o.2) ((g.with_held o.0 o.1).each i h)

    both : a ∈ (at held ∷ map at k) → b ∈ (at held ∷ map at k) → Agree a b
    both (Memᴰ.head e) (Memᴰ.head f) = rw (e, f) (Agree-self (at held))
    both (Memᴰ.head e) (Memᴰ.tail n) = rw e (told b n)
    both (Memᴰ.tail m) (Memᴰ.head f) = rw f (Agree-sym (at held) a (told a m))
    both (Memᴰ.tail m) (Memᴰ.tail n) =
        let o = Memᴰ.of_map at k m in
        let u = Memᴰ.of_map at k n in
        rw (← o.2, ← u.2) ((g.with_each o.0 u.0 o.1 u.1).each i (omega (arith, (g.with_held o.0 o.1).even)))

pub Consistent-same : (held : Tally) (k l : List Tally) → Consistent held k → SameMembers k l → Consistent held l
Consistent-same held k l g s =
    record { with_held = λ t m. g.with_held t (s.back t m); with_each = λ t u m n. g.with_each t u (s.back t m) (s.back u n) }
