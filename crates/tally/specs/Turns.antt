-- The turns of the two loops, of a merge and of a search of the table: what is known at each place, and the ways out.
use Rattle.std.specs.Prelude.{◌≡◌, refl, ℕ, ◌+◌, ◌≤◌, ◌<◌, get_or, set, Ok}
use Rattle.std.proofs.Math.Path.{sym}
use Rattle.std.proofs.Common.{ap, ◌∙◌, le_refl}
use native.Mathlib.Omega.{arith}
use borrow.Author.Tests.{lt-ltb, le-ltb, eq-eqb, ne_eqb}
use Rattle.base.specs.Over.{over_self, over_more, over_after}
use Rattle.base.specs.Scan.{scan, scan_on, scan_stop, scan_end}
use Rattle.tally.specs.declared.Best.{Best}
use Rattle.tally.specs.declared.KeyBest.{KeyBest}
use Rattle.tally.specs.declared.Tally.{Tally}
use Rattle.tally.specs.declared.Reads.{Reads}
use Rattle.tally.specs.Open.{no_read, other_id_at, find_read}
use Rattle.tally.specs.Merge.{MergedKey, clashing, merge_key, no_best, best_at, agree_at, conflict_at, merge_at, merge_up_to, merge}

module _ (held reply : Tally) where
  -- the keys below i are merged, and none of them conflicts
  pub record Merging (i : ℕ) (s : Tally) : Type 0 where
    pub tally : s ≡ merge_up_to held reply i
    pub on : scan (agree_at held reply) i held.count ≡ conflict_at held reply
    pub within : i ≤ held.count

  pub Merging-start : Merging 0 held
  Merging-start = record { tally = rw (over_self (merge_at reply) no_best 0 held.bests); on = refl; within = omega arith }

  -- what stands at i is still what was held
  pub merging_at : (i : ℕ) (s : Tally) → s ≡ merge_up_to held reply i → best_at s i ≡ best_at held i
  merging_at i s e = rw e (ap (λ (k : KeyBest). k.best) (over_after (merge_at reply) no_best 0 i held.bests i (le_refl i)))

  pub Merging-turn : (i : ℕ) (s : Tally) (m : MergedKey) (b : Best) → Merging i s → i < held.count → m ≡ merge_key (best_at s i) (best_at reply i) → m ≡ Ok b
      → Merging (i + 1) (record { count = s.count; bests = set s.bests i (record { best = b }) })
  Merging-turn i s m b g h e f =
      let same : merge_key (best_at held i) (best_at reply i) ≡ Ok b = rw (← merging_at i s g.tally, ← e) f in
      let here : merge_key (best_at (merge_up_to held reply i) i) (best_at reply i) ≡ Ok b = rw (← g.tally, ← e) f in
      record {
        tally = rw (over_more (merge_at reply) no_best 0 i held.bests (omega arith), here, g.tally);
        on = sym (scan_on (agree_at held reply) i held.count h (rw same)) ∙ g.on;
        within = omega arith;
      }

  pub refuse_held : 8 < held.count → merge held reply ≡ record { answer = 1; tally = held }
  unfolding merge
  refuse_held h = rw (lt-ltb 8 held.count h)

  module _ (few : held.count ≤ 8) where
    pub refuse_reply : 8 < reply.count → merge held reply ≡ record { answer = 10; tally = held }
    unfolding merge
    refuse_reply h = rw (le-ltb 8 held.count few, lt-ltb 8 reply.count h)

    module _ (fewer : reply.count ≤ 8) where
      pub refuse_lengths : (held.count ≡ reply.count → ⊥) → merge held reply ≡ record { answer = 6; tally = held }
      unfolding merge
      refuse_lengths h = rw (le-ltb 8 held.count few, le-ltb 8 reply.count fewer, ne_eqb held.count reply.count h)

      module _ (even : held.count ≡ reply.count) (i : ℕ) (s : Tally) (g : Merging i s) where
        pub merging_stop : (m : MergedKey) → i < held.count → m ≡ merge_key (best_at s i) (best_at reply i) → m ≡ clashing
            → record { answer = 12; tally = s } ≡ merge held reply
        unfolding merge
        merging_stop m h e f =
            let same : merge_key (best_at held i) (best_at reply i) ≡ clashing = rw (← merging_at i s g.tally, ← e) f in
            let stop : conflict_at held reply ≡ i = sym g.on ∙ scan_stop (agree_at held reply) i held.count h (rw same) in
            rw (le-ltb 8 held.count few, le-ltb 8 reply.count fewer, eq-eqb held.count reply.count even, stop, lt-ltb i held.count h, g.tally)

        pub merging_end : held.count ≤ i → record { answer = 0; tally = s } ≡ merge held reply
        unfolding merge
        merging_end h =
            let stop : conflict_at held reply ≡ i = sym g.on ∙ scan_end (agree_at held reply) i held.count h in
            rw (le-ltb 8 held.count few, le-ltb 8 reply.count fewer, eq-eqb held.count reply.count even, stop, le-ltb i held.count h, g.tally)

module _ (rs : Reads) (id : ℕ) where
  -- the search has come to place i, and no read before it has the id
  pub record Finding (i : ℕ) : Type 0 where
    pub on : scan (other_id_at rs id) i rs.count ≡ scan (other_id_at rs id) 0 rs.count
    pub within : i ≤ rs.count

  pub find_start : Finding 0
  find_start = record { on = refl; within = omega arith }

  pub find_turn : (i : ℕ) → Finding i → i < rs.count → ((get_or rs.reads i no_read).id ≡ id → ⊥) → Finding (i + 1)
  find_turn i g h e =
      record { on = sym (scan_on (other_id_at rs id) i rs.count h (rw (ne_eqb (get_or rs.reads i no_read).id id e))) ∙ g.on; within = omega arith }

  pub find_full : 16 < rs.count → rs.count ≡ find_read rs id
  unfolding find_read
  find_full h = rw (lt-ltb 16 rs.count h)

  module _ (few : rs.count ≤ 16) (i : ℕ) (g : Finding i) where
    pub find_here : i < rs.count → (get_or rs.reads i no_read).id ≡ id → i ≡ find_read rs id
    unfolding find_read
    find_here h e =
        rw (le-ltb 16 rs.count few)
        (sym (scan_stop (other_id_at rs id) i rs.count h (rw (eq-eqb (get_or rs.reads i no_read).id id e))) ∙ g.on)

    pub find_none : rs.count ≤ i → rs.count ≡ find_read rs id
    unfolding find_read
    find_none h =
        let e : rs.count ≡ i = omega arith in
        rw (le-ltb 16 rs.count few) (e ∙ (sym (scan_end (other_id_at rs id) i rs.count h) ∙ g.on))
