-- 02, Wish 6, (d): a strict replica takes no other batch in a committed slot (15). Two clean batches that are one by 01's "id and list are equal" are equal
-- records, so the slot keeps its batch.
use Rattle.std.specs.Prelude.{◌≡◌, true, false, List, [], ◌⊎◌, ℕ, ◌≤◌, ◌<◌, ltb, length, get_or}
use Rattle.std.proofs.Common.{sym, ap, subst, ◌∙◌, inl, inr, arith, length-take-le, get_or-take, ext_get_or, le-ltb}
use Rattle.base.specs.Pick.{pick_cases, decide, tests}
use Rattle.batch.specs.declared.Batch.{Batch}
use Rattle.batch.specs.Batches.{Made}
use Rattle.batch.specs.Batches.{is_batch, make_batch, key_count, key_list, same_batch}
use Rattle.batch.specs.Laws.{clip_is, same_is, made_few, made_eight, first_at}
use Rattle.agreement.specs.Frame.{Clean}

-- past its count a batch that was made has zeros
made_past : (id count : ℕ) (keys : List ℕ) (i : ℕ) → i < 8 → (make_batch id count keys).batch.count ≤ i → get_or (make_batch id count keys).batch.keys i 0 ≡ 0
unfolding make_batch
made_past id count keys i h =
    pick_cases (λ (m : Made). m.batch.count ≤ i → get_or m.batch.keys i 0 ≡ 0) (is_batch id count)
    (λ t l. first_at count keys i h ∙ rw (le-ltb i count l)) (λ t l. first_at 0 [] i h ∙ rw (le-ltb i 0 l))

record Tidy (b : Batch) : Type 0 where
  few : b.count ≤ 8
  eight : length b.keys ≡ 8
  past : (i : ℕ) → i < 8 → b.count ≤ i → get_or b.keys i 0 ≡ 0
  many : length (key_list b) ≡ b.count

tidy : (b : Batch) → Clean b → Tidy b
tidy b e =
    let few : b.count ≤ 8 = subst (λ (x : Batch). x.count ≤ 8) e (made_few b.id b.count b.keys) in
    let eight : length b.keys ≡ 8 = subst (λ (x : Batch). length x.keys ≡ 8) e (made_eight b.id b.count b.keys) in
    let clip = clip_is 8 b.count few in
    record {
      few = few;
      eight = eight;
      past = λ i h. subst (λ (x : Batch). x.count ≤ i → get_or x.keys i 0 ≡ 0) e (made_past b.id b.count b.keys i h);
      many = length-take-le (key_count b) b.keys (omega arith) ∙ clip;
    }

pub one_batch : (a b : Batch) → Clean a → Clean b → same_batch a b ≡ true → a ≡ b
one_batch a b p q e = λ k. record { id = both.0 k; count = counts k; keys = keys k }
  where
    both : (a.id ≡ b.id) × (key_list a ≡ key_list b)
    both = same_is a b e

    ta : Tidy a
    ta = tidy a p

    tb : Tidy b
    tb = tidy b q

    counts : a.count ≡ b.count
    counts = sym ta.many ∙ ap length both.1 ∙ tb.many

    at : (i : ℕ) → i < 8 → (ltb i a.count ≡ true) ⊎ (ltb i a.count ≡ false) → get_or a.keys i 0 ≡ get_or b.keys i 0
    at i h (inl t) =
        let ca = clip_is 8 a.count ta.few in
        let cb = clip_is 8 b.count tb.few in
        sym (get_or-take (key_count a) a.keys i 0 (omega (arith, tests))) ∙ ap (λ (l : List ℕ). get_or l i 0) both.1
        ∙ get_or-take (key_count b) b.keys i 0 (omega (arith, tests, counts))
    at i h (inr t) = ta.past i h (omega (arith, tests)) ∙ sym (tb.past i h (omega (arith, tests, counts)))

    keys : a.keys ≡ b.keys
    keys = ext_get_or 0 a.keys b.keys (ta.eight ∙ sym tb.eight) (λ i u. at i (omega (arith, ta.eight)) (decide (ltb i a.count)))
