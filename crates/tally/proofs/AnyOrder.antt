-- The rest of specs/AnyOrder.antt: what stands on a theorem that a must-fail edit makes false.
use Rattle.std.specs.Prelude.{◌≡◌, refl, List, [], ◌∷◌, map, ℕ, ◌<◌}
use Rattle.std.proofs.Common.{sym, ap, ◌∙◌, arith}
use mathlib.Core.List.Memᴰ
use Rattle.base.specs.Among.{map_members}
use Rattle.base.specs.Over.{length-over}
use Rattle.tally.specs.declared.Best.{Best}
use Rattle.tally.specs.declared.Tally.{Tally}
use Rattle.tally.specs.Merge.{merge_key, no_best, best_at, merge_at, merge}
use Rattle.tally.specs.Larger.{more_known, merges_agree, no_clash, merged_more, more_self, more_commutes, more_associates, more_agrees, most_known, most_same}
use Rattle.tally.proofs.Laws.{merged_at, kept_at, merge-Joined}
use Rattle.tally.specs.AnyOrder.{Agreeing, Agreeing-self, Agreeing-sym, Alike, Consistent, Consistent-same, Eight, MostKnown, NoConflict, TallyAnyOrder, agreeing_merge, by_count, joined, joined-Eight, key_agrees, merge_all, same_tally}

-- of each key the larger of the two
pub joined_at : (held reply : Tally) → Eight held → (i : ℕ) → i < held.count → best_at (joined held reply) i ≡ more_known (best_at held i) (best_at reply i)
joined_at held reply w i h =
    merged_at held reply held.count i h (omega (arith, w.few, w.places)) ∙ merged_more (best_at held i) (best_at reply i)

-- two agree exactly where one merged into the other is answered 0
pub answered_agreeing : (held reply : Tally) → (merge held reply).answer ≡ 0 → Agreeing held reply
answered_agreeing held reply e =
    let j = merge-Joined held reply e in
    record { even = j.even; each = λ i h. merges_agree (best_at held i) (best_at reply i) (no_clash (merge_key (best_at held i) (best_at reply i)) (j.apart i h)) }

-- what agrees with both agrees with the two merged
pub Agreeing-joined : (a b t : Tally) → Eight a → Agreeing a b → Agreeing a t → Agreeing b t → Agreeing (joined a b) t
Agreeing-joined a b t w g p q =
    record {
      even = p.even;
      each = λ i h.
          rw (joined_at a b w i h) (more_agrees (best_at a i) (best_at b i) (best_at t i) (p.each i h) (q.each i (omega (arith, g.even))));
    }

-- 02: "merging is commutative, associative and idempotent"
pub merge_idempotent : (t : Tally) → Eight t → merge t t ≡ record { answer = 0; tally = t }
merge_idempotent t w =
    let same : joined t t ≡ t =
    same_tally (joined t t) t refl ((joined-Eight t t w).places ∙ sym w.places)
    (by_count (λ (i : ℕ). best_at (joined t t) i ≡ best_at t i) t.count (λ i h. joined_at t t w i h ∙ more_self (best_at t i)) (λ i h. kept_at t t t.count i h)) in
    agreeing_merge t t w.few (Agreeing-self t) ∙ ap (λ (x : Tally). record { answer = 0; tally = x }) same

pub merge_commutes : (a b : Tally) → Eight a → Eight b → Agreeing a b → Alike (merge a b).tally (merge b a).tally
merge_commutes a b v w g =
    rw (agreeing_merge a b v.few g, agreeing_merge b a w.few (Agreeing-sym a b g))
    (record {
      even = g.even;
      each = λ i h.
          joined_at a b v i h ∙ (more_commutes (best_at a i) (best_at b i) (g.each i h) ∙ sym (joined_at b a w i (omega (arith, g.even))));
    })

pub merge_associates : (a b c : Tally) → Eight a → Eight b → Agreeing a b → Agreeing b c → Agreeing a c
    → merge (merge a b).tally c ≡ merge a (merge b c).tally
merge_associates a b c v w p q r =
    let left : Agreeing (joined a b) c = Agreeing-joined a b c v p r q in
    let right : Agreeing a (joined b c) = Agreeing-sym (joined b c) a (Agreeing-joined b c a w q (Agreeing-sym a b p) (Agreeing-sym a c r)) in
    let same : joined (joined a b) c ≡ joined a (joined b c) =
    same_tally (joined (joined a b) c) (joined a (joined b c)) refl
    ((joined-Eight (joined a b) c (joined-Eight a b v)).places ∙ sym (joined-Eight a (joined b c) v).places)
    (by_count (λ (i : ℕ). best_at (joined (joined a b) c) i ≡ best_at (joined a (joined b c)) i) a.count
    (λ i h.
    joined_at (joined a b) c (joined-Eight a b v) i h
    ∙ (ap (λ (x : Best). more_known x (best_at c i)) (joined_at a b v i h)
    ∙ (more_associates (best_at a i) (best_at b i) (best_at c i)
    ∙ sym (joined_at a (joined b c) v i h ∙ ap (λ (x : Best). more_known (best_at a i) x) (joined_at b c w i (omega (arith, p.even)))))))
    (λ i h. kept_at (joined a b) c a.count i h ∙ (kept_at a b a.count i h ∙ sym (kept_at a (joined b c) a.count i h)))) in
    rw (agreeing_merge a b v.few p, agreeing_merge b c w.few q, agreeing_merge (joined a b) c v.few left, agreeing_merge a (joined b c) v.few right, same)

-- one is merged, and the rest still agree
Consistent-next : (held reply : Tally) (replies : List Tally) → Eight held → Consistent held (reply ∷ replies) → Consistent (joined held reply) replies
Consistent-next held reply replies w g =
    record {
      with_held = λ t m.
          Agreeing-joined held reply t w (g.with_held reply (Memᴰ.head refl)) (g.with_held t (Memᴰ.tail m))
          (g.with_each reply t (Memᴰ.head refl) (Memᴰ.tail m));
      with_each = λ s t m n. g.with_each s t (Memᴰ.tail m) (Memᴰ.tail n);
    }

pub all_largest : (held : Tally) (replies : List Tally) → Eight held → Consistent held replies → MostKnown held replies (merge_all held replies)
all_largest held [] w g = record { even = refl; places = refl; each = λ i h. refl; past = λ i h. refl }
all_largest held (reply ∷ replies) w g =
    let next : MostKnown (joined held reply) replies (merge_all (joined held reply) replies) =
    all_largest (joined held reply) replies (joined-Eight held reply w) (Consistent-next held reply replies w g) in
    rw (agreeing_merge held reply w.few (g.with_held reply (Memᴰ.head refl)))
    (record {
      even = next.even;
      places = next.places ∙ length-over (merge_at reply) no_best 0 held.count held.bests;
      each = λ i h. next.each i h ∙ ap (λ (x : Best). most_known x (map (λ (t : Tally). best_at t i) replies)) (joined_at held reply w i h);
      past = λ i h. next.past i h ∙ kept_at held reply held.count i h;
    })

pub no_conflict : NoConflict
no_conflict held [] w g = tt
no_conflict held (reply ∷ replies) w g =
    rw (agreeing_merge held reply w.few (g.with_held reply (Memᴰ.head refl)))
    (refl, no_conflict (joined held reply) replies (joined-Eight held reply w) (Consistent-next held reply replies w g))

pub any_order : TallyAnyOrder
any_order held k l w g s =
    let a : MostKnown held k (merge_all held k) = all_largest held k w g in
    let b : MostKnown held l (merge_all held l) = all_largest held l w (Consistent-same held k l g s) in
    same_tally (merge_all held k) (merge_all held l) (a.even ∙ sym b.even) (a.places ∙ sym b.places)
    (by_count (λ (i : ℕ). best_at (merge_all held k) i ≡ best_at (merge_all held l) i) held.count
    (λ i h.
    a.each i h
    ∙ (most_same (best_at held i) (map (λ (t : Tally). best_at t i) k) (map (λ (t : Tally). best_at t i) l) (key_agrees held k g i h)
    (map_members (λ (t : Tally). best_at t i) k l s)
    ∙ sym (b.each i h)))
    (λ i h. a.past i h ∙ sym (b.past i h)))
