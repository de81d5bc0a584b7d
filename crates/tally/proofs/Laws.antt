-- The rest of specs/Laws.antt: what stands on a theorem that a must-fail edit makes false.
use Rattle.std.specs.Prelude.{◌≡◌, Bool, true, not, [], ◌∷◌, ℕ, ◌≤◌, ◌<◌, length, ltb, leb, eqb, Ok}
use Rattle.std.proofs.Math.Path.{refl}
use Rattle.std.proofs.Common.{sym, ap, ◌∙◌, ⊎_elim, le_refl, arith}
use Rattle.std.proofs.Math.Bool.{false}
use mathlib.Core.List.Memᴰ
use Rattle.std.proofs.Math.ListN.{get_or-eq_default}
use borrow.Author.Tests.{ltb-true, ltb-false, leb-false, eqb-true, eqb-false, not-true, not-false}
use Rattle.base.specs.Pick.{coincide, pick_both, pick_cases, decide, clash, larger_right, tests}
use Rattle.base.specs.Among.{◌∈◌}
use Rattle.base.specs.Over.{length-over, over_at, over_after}
use Rattle.base.specs.Scan.{scan_high, scan_passed, scan_stopped}
use Rattle.members.specs.Sets.{has, insert, count_in}
use Rattle.tally.specs.declared.Best.TheVariants.{Nothing}
use Rattle.tally.specs.declared.KeyBest.{KeyBest}
use Rattle.tally.specs.declared.Tally.{Tally}
use Rattle.tally.specs.declared.Read.{Read}
use Rattle.tally.specs.Merge.{MergedKey, clashing, Merged, merge_key, merged_answer, conflicts, merged_best, no_best, best_at, agree_at, conflict_at, merge_at, merge_up_to, merge}
use Rattle.tally.specs.Larger.{level, merged_into}
use Rattle.tally.proofs.Larger.{merged_level, merged_rises}
use Rattle.tally.specs.Open.{Replied, with_tally, with_ack, stays, replaced, reply_to}
use Rattle.tally.specs.Laws.{clashed, first_kept}

-- A TALLY

module _ (held reply : Tally) where
  pub merged_at : (n i : ℕ) → i < n → i < length held.bests
      → best_at (merge_up_to held reply n) i ≡ merged_best (best_at held i) (merge_key (best_at held i) (best_at reply i))
  merged_at n i h q = ap (λ (k : KeyBest). k.best) (over_at (merge_at reply) no_best 0 n held.bests i (omega arith) h q)

  pub kept_at : (n i : ℕ) → n ≤ i → best_at (merge_up_to held reply n) i ≡ best_at held i
  kept_at n i h = ap (λ (k : KeyBest). k.best) (over_after (merge_at reply) no_best 0 n held.bests i h)

  conflict_within : conflict_at held reply ≤ held.count
  conflict_within = scan_high (agree_at held reply) 0 held.count (omega arith)

  -- a merge is one of five: three refusals, a conflict, or all keys merged
  pub merge_cases : (P : Merged → Type 0) → P (record { answer = 1; tally = held }) → P (record { answer = 10; tally = held })
      → P (record { answer = 6; tally = held })
      → (held.count ≡ reply.count → held.count ≤ 8 → conflict_at held reply < held.count
      → P (record { answer = merged_answer clashing; tally = merge_up_to held reply (conflict_at held reply) }))
      → (held.count ≡ reply.count → held.count ≤ 8 → conflict_at held reply ≡ held.count
      → P (record { answer = 0; tally = merge_up_to held reply (conflict_at held reply) }))
      → P (merge held reply)
  unfolding merge
  merge_cases P one ten six stop done =
      pick_cases P (ltb 8 held.count) (λ a. one)
      (λ a. pick_cases P (ltb 8 reply.count) (λ b. ten)
      (λ b. pick_cases P (not (eqb held.count reply.count)) (λ c. six)
      (λ c.
      let even : held.count ≡ reply.count = eqb-true _ _ (not-false _ c) in
      let few : held.count ≤ 8 = ltb-false _ _ a in
      pick_cases (λ (x : ℕ). P (record { answer = x; tally = merge_up_to held reply (conflict_at held reply) })) (ltb (conflict_at held reply) held.count)
      (λ d. stop even few (ltb-true _ _ d))
      (λ d. done even few (omega (arith, tests, conflict_within))))))

  pub merge_answers_are : (merge held reply).answer ∈ (0 ∷ 1 ∷ 6 ∷ 10 ∷ 12 ∷ [])
  merge_answers_are =
      merge_cases (λ (m : Merged). m.answer ∈ (0 ∷ 1 ∷ 6 ∷ 10 ∷ 12 ∷ [])) (Memᴰ.tail (Memᴰ.head refl))
      (Memᴰ.tail (Memᴰ.tail (Memᴰ.tail (Memᴰ.head refl))))
      (Memᴰ.tail (Memᴰ.tail (Memᴰ.head refl)))
      (λ e f h. Memᴰ.tail (Memᴰ.tail (Memᴰ.tail (Memᴰ.tail (Memᴰ.head refl)))))
      (λ e f h. Memᴰ.head refl)

  pub merge_count : (merge held reply).tally.count ≡ held.count
  merge_count = merge_cases (λ (m : Merged). m.tally.count ≡ held.count) refl refl refl (λ e f h. refl) (λ e f h. refl)

  pub merge-length : length (merge held reply).tally.bests ≡ length held.bests
  merge-length =
      merge_cases (λ (m : Merged). length m.tally.bests ≡ length held.bests) refl refl refl
      (λ e f h. length-over (merge_at reply) no_best 0 (conflict_at held reply) held.bests)
      (λ e f h. length-over (merge_at reply) no_best 0 (conflict_at held reply) held.bests)

  rises_to : (n i : ℕ) → level (best_at held i) ≤ level (best_at (merge_up_to held reply n) i)
  rises_to n i =
      ⊎_elim
      (λ (h : ltb i n ≡ true).
      ⊎_elim
      (λ (q : ltb i (length held.bests) ≡ true).
      rw (merged_at n i (ltb-true _ _ h) (ltb-true _ _ q)) (merged_rises (best_at held i) (best_at reply i)))
      (λ (q : ltb i (length held.bests) ≡ false).
      let none : level (best_at held i) ≡ 0 = ap (λ (k : KeyBest). level k.best) (get_or-eq_default held.bests no_best (ltb-false _ _ q)) in omega arith)
      (decide (ltb i (length held.bests))))
      (λ (h : ltb i n ≡ false). rw (kept_at n i (ltb-false _ _ h)) (le_refl _))
      (decide (ltb i n))

  -- whatever the answer, nothing known of a key is lost
  pub merge_rises : (i : ℕ) → level (best_at held i) ≤ level (best_at (merge held reply).tally i)
  merge_rises i =
      merge_cases (λ (m : Merged). level (best_at held i) ≤ level (best_at m.tally i)) (le_refl _) (le_refl _) (le_refl _)
      (λ e f h. rises_to (conflict_at held reply) i) (λ e f h. rises_to (conflict_at held reply) i)

  -- answer 0: the lists are as long, no key conflicts, and each is merged
  pub record Joined (after : Tally) : Type 0 where
    pub even : held.count ≡ reply.count
    pub few : held.count ≤ 8
    pub apart : (i : ℕ) → i < held.count → merge_key (best_at held i) (best_at reply i) ≡ clashing → ⊥
    pub each : (i : ℕ) → i < held.count → i < length held.bests → merge_key (best_at held i) (best_at reply i) ≡ Ok (best_at after i)

  -- answer 12: the first key that conflicts; those before it are merged, those from it on are as they were
  pub record Stopped (after : Tally) : Type 0 where
    pub at : ℕ
    pub below : at < held.count
    pub here : merge_key (best_at held at) (best_at reply at) ≡ clashing
    pub earlier : (i : ℕ) → i < at → i < length held.bests → merge_key (best_at held i) (best_at reply i) ≡ Ok (best_at after i)
    pub later : (i : ℕ) → at ≤ i → best_at after i ≡ best_at held i

  passed : (i : ℕ) → i < conflict_at held reply → agree_at held reply i ≡ true
  passed i h = scan_passed (agree_at held reply) 0 held.count i (omega arith) h

  passed_into : (i : ℕ) → i < conflict_at held reply → i < length held.bests
      → merge_key (best_at held i) (best_at reply i) ≡ Ok (best_at (merge_up_to held reply (conflict_at held reply)) i)
  passed_into i h q = rw (merged_at (conflict_at held reply) i h q) (merged_into (best_at held i) _ (not-true _ (passed i h)))

  pub merge-Joined : (merge held reply).answer ≡ 0 → Joined (merge held reply).tally
  merge-Joined =
      merge_cases (λ (m : Merged). m.answer ≡ 0 → Joined m.tally) (λ z. absurd (omega arith)) (λ z. absurd (omega arith)) (λ z. absurd (omega arith))
      (λ e f h z. absurd (omega arith))
      (λ e f h z.
      record {
        even = e;
        few = f;
        apart = λ i q x. clash (passed i (omega arith)) (rw x);
        each = λ i q. passed_into i (omega arith);
      })

  -- answer 0: of each key as much is known as was told, or more
  pub merge_takes : (merge held reply).answer ≡ 0 → (i : ℕ) → i < held.count → i < length held.bests
      → level (best_at reply i) ≤ level (best_at (merge held reply).tally i)
  merge_takes e i h q =
      rw (← ap (λ (m : MergedKey). level (merged_best (best_at held i) m)) ((merge-Joined e).each i h q), merged_level (best_at held i) (best_at reply i))
      (larger_right (level (best_at held i)) (level (best_at reply i)))

  pub merge-Stopped : (merge held reply).answer ≡ merged_answer clashing → Stopped (merge held reply).tally
  merge-Stopped =
      merge_cases (λ (m : Merged). m.answer ≡ 12 → Stopped m.tally) (λ z. absurd (omega arith)) (λ z. absurd (omega arith)) (λ z. absurd (omega arith))
      (λ e f h z.
      record {
        at = conflict_at held reply;
        below = h;
        here = clashed _ (scan_stopped (agree_at held reply) 0 held.count h);
        earlier = passed_into;
        later = kept_at (conflict_at held reply);
      })
      (λ e f h z. absurd (omega arith))

  -- "All but 0 and 12 change nothing"
  pub merge_refused : ((merge held reply).answer ≡ 0 → ⊥) → ((merge held reply).answer ≡ merged_answer clashing → ⊥) → (merge held reply).tally ≡ held
  merge_refused =
      merge_cases (λ (m : Merged). (m.answer ≡ 0 → ⊥) → (m.answer ≡ 12 → ⊥) → m.tally ≡ held) (λ z w. refl) (λ z w. refl) (λ z w. refl)
      (λ e f h z w. absurd (w refl)) (λ e f h z w. absurd (z refl))

  -- where nothing is known yet a reply is no conflict, and what it tells of each key is known after it
  module _ (blank : (i : ℕ) → i < held.count → best_at held i ≡ Nothing) where
    taken_as_told : (i : ℕ) → i < held.count → merge_key (best_at held i) (best_at reply i) ≡ Ok (best_at reply i)
    taken_as_told i h = rw (blank i h) (first_kept (best_at reply i))

    pub first_no_conflict : (merge held reply).answer ≡ merged_answer clashing → ⊥
    first_no_conflict e =
        let s = merge-Stopped e in clash refl (ap (λ (m : MergedKey). conflicts m) (sym s.here ∙ taken_as_told s.at s.below))

    pub first_held : (merge held reply).answer ≡ 0 → (i : ℕ) → i < held.count → i < length held.bests
        → best_at (merge held reply).tally i ≡ best_at reply i
    first_held e i h q = ap (λ (m : MergedKey). merged_best Nothing m) (sym ((merge-Joined e).each i h q) ∙ taken_as_told i h)

  -- any two outcomes that `merge_into`'s promise allows coincide
  pub merged_unique : {answer answer' : ℕ} {after after' : Tally} → (answer ≡ (merge held reply).answer) × (after ≡ (merge held reply).tally)
      → (answer' ≡ (merge held reply).answer) × (after' ≡ (merge held reply).tally) → (answer ≡ answer') × (after ≡ after')
  merged_unique s t = (coincide s.0 t.0, coincide s.1 t.1)

-- A READ

module _ (quorum peer : ℕ) (leads : Bool) (reply : Tally) (r : Read) where
  -- a reply is one of five: it replaces the list, its sender is known, the merge is not done, or it is, and waits or closes
  pub reply_cases : (P : Replied → Type 0) → P (replaced r reply) → P (stays 0 r)
      → (((merge r.tally reply).answer ≡ 0 → ⊥) → P (stays (merge r.tally reply).answer (with_tally r (merge r.tally reply).tally)))
      → P (stays 0 (with_ack (with_tally r (merge r.tally reply).tally) peer))
      → P
      (record {
        answer = 0;
        closes = true;
        answers = (merge r.tally reply).tally.count;
        read = with_ack (with_tally r (merge r.tally reply).tally) peer;
      })
      → P (reply_to quorum peer leads reply r)
  unfolding reply_to
  reply_cases P all again undone waits closes =
      pick_both P leads all
      (pick_both P (has r.acks peer) again
      (pick_cases P (not (eqb (merge r.tally reply).answer 0)) (λ d. undone (eqb-false _ _ (not-true _ d)))
      (λ d. pick_both P (leb quorum (count_in (insert r.acks peer))) closes waits)))

  pub reply_answers : (reply_to quorum peer leads reply r).answer ∈ (0 ∷ 1 ∷ 6 ∷ 10 ∷ 12 ∷ [])
  reply_answers =
      reply_cases (λ (o : Replied). o.answer ∈ (0 ∷ 1 ∷ 6 ∷ 10 ∷ 12 ∷ [])) (Memᴰ.head refl) (Memᴰ.head refl)
      (λ h. merge_answers_are r.tally reply) (Memᴰ.head refl) (Memᴰ.head refl)

  -- id and keys stay, whatever the answer
  pub reply_id : (reply_to quorum peer leads reply r).read.id ≡ r.id
  reply_id = reply_cases (λ (o : Replied). o.read.id ≡ r.id) refl refl (λ h. refl) refl refl

  pub reply_keeps_keys : (reply_to quorum peer leads reply r).read.keys ≡ r.keys
  reply_keeps_keys = reply_cases (λ (o : Replied). o.read.keys ≡ r.keys) refl refl (λ h. refl) refl refl

  -- answer 12: "merges for earlier keys stay, the sender is not acknowledged, the read stays open"
  pub reply_conflict : (reply_to quorum peer leads reply r).answer ≡ merged_answer clashing
      → reply_to quorum peer leads reply r ≡ stays (merged_answer clashing) (with_tally r (merge r.tally reply).tally)
  reply_conflict =
      reply_cases (λ (o : Replied). o.answer ≡ 12 → o ≡ stays 12 (with_tally r (merge r.tally reply).tally))
      (λ z. absurd (omega arith)) (λ z. absurd (omega arith)) (λ h z. rw z) (λ z. absurd (omega arith)) (λ z. absurd (omega arith))

  -- all but 0 and 12 change nothing, and the read stays open
  pub reply_refused : ((reply_to quorum peer leads reply r).answer ≡ 0 → ⊥) → ((reply_to quorum peer leads reply r).answer ≡ merged_answer clashing → ⊥)
      → reply_to quorum peer leads reply r ≡ stays (reply_to quorum peer leads reply r).answer r
  reply_refused =
      reply_cases (λ (o : Replied). (o.answer ≡ 0 → ⊥) → (o.answer ≡ 12 → ⊥) → o ≡ stays o.answer r)
      (λ z w. absurd (z refl)) (λ z w. absurd (z refl)) (λ h z w. rw (merge_refused r.tally reply z w)) (λ z w. absurd (z refl)) (λ z w. absurd (z refl))

  -- no more keys are answered than the read has
  pub reply_few : (reply_to quorum peer leads reply r).answers ≤ r.tally.count
  reply_few =
      reply_cases (λ (o : Replied). o.answers ≤ r.tally.count)
      (pick_cases (λ (x : ℕ). x ≤ r.tally.count) (ltb r.tally.count reply.count) (λ t. le_refl _) (λ t. omega (arith, tests)))
      (omega arith) (λ h. omega arith) (omega arith) (omega (arith, merge_count r.tally reply))

  -- a read closes only with answer 0, and answers keys only as it closes
  pub reply_closes : (reply_to quorum peer leads reply r).closes ≡ true → (reply_to quorum peer leads reply r).answer ≡ 0
  reply_closes =
      reply_cases (λ (o : Replied). o.closes ≡ true → o.answer ≡ 0) (λ z. refl) (λ z. refl) (λ h z. absurd (clash z refl)) (λ z. refl) (λ z. refl)

  pub reply_waits : (reply_to quorum peer leads reply r).closes ≡ false → (reply_to quorum peer leads reply r).answers ≡ 0
  reply_waits =
      reply_cases (λ (o : Replied). o.closes ≡ false → o.answers ≡ 0) (λ z. absurd (clash refl z)) (λ z. refl) (λ h z. refl) (λ z. refl) (λ z. absurd (clash refl z))

  -- a read that waits for its quorum waits on, unless it closes
  pub reply_open : count_in r.acks < quorum → (reply_to quorum peer leads reply r).closes ≡ false → count_in (reply_to quorum peer leads reply r).read.acks < quorum
  unfolding reply_to
  reply_open h =
      let P : Replied → Type 0 = λ o. o.closes ≡ false → count_in o.read.acks < quorum in
      pick_both P leads (λ z. absurd (clash refl z))
      (pick_both P (has r.acks peer) (λ z. h)
      (pick_both P (not (eqb (merge r.tally reply).answer 0)) (λ z. h)
      (pick_cases P (leb quorum (count_in (insert r.acks peer))) (λ t z. absurd (clash refl z)) (λ t z. leb-false _ _ t))))
