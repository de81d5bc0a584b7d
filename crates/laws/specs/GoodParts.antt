-- The scalars, the key table and the table of reads stay good after every change.
use Rattle.std.specs.Prelude.{◌≡◌, refl, Bool, true, false, ◌||◌, List, ◌⊎◌, length, get_or, set, ltb, eqb}
use Rattle.std.proofs.Common.{sym, subst, ◌∙◌, inl, inr, arith, get_or-set_same}
use Prim.Native.Nat.{ℕ, zero, suc, ◌+◌, ◌-◌, ◌≤◌, ◌<◌}
use Rattle.std.proofs.Math.ListN.{length-set, get_or-eq_default}
use Rattle.std.proofs.Math.Dec.{leb}
use borrow.Author.Tests.{leb-false, ltb-true, ltb-false, lt-ltb, le-leb}
use Rattle.base.specs.Pick.{pick_cases, pick_both, and_left, and_right, and_make, or-false, decide, tests}
use Rattle.base.specs.Over.{length-over, set_each}
use Rattle.members.specs.Laws.{within_none, within_insert}
use Rattle.batch.specs.declared.Batch.{Batch}
use Rattle.batch.specs.declared.KeyTable.{KeyTable}
use Rattle.batch.specs.Batches.{key_count}
use Rattle.batch.specs.Keys.{knows, note_key, note_keys}
use Rattle.tally.specs.declared.Tally.{Tally}
use Rattle.tally.specs.declared.Read.{Read}
use Rattle.tally.specs.declared.Reads.{Reads}
use Rattle.tally.specs.Merge.{no_best, merge_at}
use Rattle.tally.specs.Open.{no_read, new_read, with_ack, close_read, put_read}
use Rattle.decide.specs.declared.Scalars.{Scalars}
use Rattle.decide.specs.declared.PeerBars.{PeerBars}
use Rattle.decide.specs.Scalars.{with_ballots, with_numbers, followed, with_prepared, stepped_up}
use Rattle.decide.specs.Bars.{with_bar, with_fallen}
use Rattle.laws.specs.OfScalars.{fallen_ways}
use Rattle.laws.specs.OfFit.{FitNumbers}
use Rattle.laws.specs.Leaves.{keys_after}
use Rattle.laws.specs.WaysAdded.{merged_read}
use Rattle.laws.specs.Conflict.{put_ways}
use Rattle.laws.specs.Good.{GoodKeys, GoodRead, GoodReads}

or_right : (a b : Bool) → b ≡ true → (a || b) ≡ true
or_right true b e = refl
or_right false b e = e

-- ── the scalars ──
module _ (sc : Scalars) (len : ℕ) (f : FitNumbers sc len) where
  pub numbers_more : (more : ℕ) → len ≤ more → more ≤ 64 → FitNumbers sc more
  numbers_more more l h =
      record {
        size = f.size;
        member = f.member;
        start = f.start;
        window = h;
        leader = f.leader;
        exec = f.exec;
        commit = f.commit;
        log = omega arith;
        accept = f.accept;
        accept_log = omega arith;
      }

  -- ballots may be anything, the leader is a member
  pub numbers_ballots : (leader sent prepared seen : ℕ) → leader < sc.group
      → FitNumbers (with_ballots sc (record { leader = leader; bal_prep_sent = sent; bal_prepared = prepared; bal_max_seen = seen })) len
  numbers_ballots leader sent prepared seen h =
      record {
        size = f.size;
        member = f.member;
        start = f.start;
        window = f.window;
        leader = or_right (eqb leader 255) _ (lt-ltb _ _ h);
        exec = f.exec;
        commit = f.commit;
        log = f.log;
        accept = f.accept;
        accept_log = f.accept_log;
      }

  pub numbers_followed : (peer ballot : ℕ) → peer < sc.group → FitNumbers (followed sc peer ballot) len
  numbers_followed peer ballot h =
      pick_both (λ (x : Scalars). FitNumbers x len) (ltb sc.bal_max_seen ballot) (numbers_ballots peer sc.bal_prep_sent sc.bal_prepared ballot h) f

  pub numbers_prepared : (ballot : ℕ) → FitNumbers (with_prepared sc ballot) len
  numbers_prepared ballot =
      record {
        size = f.size;
        member = f.member;
        start = f.start;
        window = f.window;
        leader = f.leader;
        exec = f.exec;
        commit = f.commit;
        log = f.log;
        accept = f.accept;
        accept_log = f.accept_log;
      }

  -- the bars in their order
  pub numbers_moved : (accept commit exec offset max : ℕ) → sc.start ≤ exec → exec ≤ commit → commit ≤ sc.start + len → sc.start ≤ accept → accept ≤ sc.start + len
      → FitNumbers
      (with_numbers sc (record { accept_bar = accept; commit_bar = commit; exec_bar = exec; wal_offset = offset; peer_accept_max = max }))
      len
  numbers_moved accept commit exec offset max a b c d e =
      record {
        size = f.size;
        member = f.member;
        start = f.start;
        window = f.window;
        leader = f.leader;
        exec = a;
        commit = b;
        log = c;
        accept = d;
        accept_log = e;
      }

  pub numbers_fallen : (b : PeerBars) (m bar : ℕ) → FitNumbers (with_fallen sc b m bar) len
  numbers_fallen b m bar =
      fallen_ways (λ (x : Scalars). FitNumbers x len) sc b m bar f
      (λ max. numbers_moved sc.accept_bar sc.commit_bar sc.exec_bar sc.wal_offset max f.exec f.commit f.log f.accept f.accept_log)

pub numbers_led : (sc : Scalars) (len trigger ballot : ℕ) → FitNumbers sc len → FitNumbers (stepped_up sc trigger ballot) len
numbers_led sc len trigger ballot f =
    let g = numbers_ballots sc len f sc.id ballot 0 ballot f.member in
    record {
      size = g.size;
      member = g.member;
      start = g.start;
      window = g.window;
      leader = g.leader;
      exec = g.exec;
      commit = g.commit;
      log = g.log;
      accept = g.accept;
      accept_log = g.accept_log;
    }

pub bars_long : (sc : Scalars) (b : PeerBars) (m bar : ℕ) → length (with_bar sc b m bar).bars ≡ length b.bars
unfolding with_bar
bars_long sc b m bar = length-set b.bars m bar

-- ── the key table ──
module _ (Z : Type 0) where
  good_note : (slot : ℕ) (t : KeyTable) (key : ℕ) → GoodKeys Z t → GoodKeys Z (note_key slot t key)
  unfolding note_key
  good_note slot t key g =
      pick_both (GoodKeys Z) (knows t key) (record { few = g.few; keys = g.keys; slots = λ z. length-set t.slots _ _ ∙ g.slots z })
      (pick_cases (GoodKeys Z) (leb 256 t.count) (λ e. g)
      (λ e.
      record {
        few = omega (arith, tests);
        keys = λ z. length-set t.keys t.count key ∙ g.keys z;
        slots = λ z. length-set t.slots t.count slot ∙ g.slots z;
      }))

  good_notes : (slot : ℕ) (keys : List ℕ) (t : KeyTable) (n : ℕ) → GoodKeys Z t → GoodKeys Z (note_keys slot keys t n)
  unfolding note_keys
  good_notes slot keys t zero g = g
  good_notes slot keys t (suc i) g = good_note slot (note_keys slot keys t i) (get_or keys i 0) (good_notes slot keys t i g)

  pub good_keys : (noted : Bool) (slot : ℕ) (b : Batch) (t : KeyTable) → GoodKeys Z t → GoodKeys Z (keys_after noted slot b t)
  good_keys noted slot b t g = pick_both (GoodKeys Z) noted (good_notes slot b.keys t (key_count b) g) g

-- ── reads ──
module _ (Z : Type 0) (group : ℕ) where
  pub good_new : (id count : ℕ) (keys : List ℕ) → count ≤ 8 → GoodRead Z group (new_read id count keys)
  good_new id count keys h = record { fits = and_make (le-leb _ _ h) (within_none group); keys = λ z. refl; bests = λ z. refl }

  pub good_merged : (d : Read) (reply : Tally) (k : ℕ) → GoodRead Z group d → GoodRead Z group (merged_read d reply k)
  good_merged d reply k g = record { fits = g.fits; keys = g.keys; bests = λ z. length-over (merge_at reply) no_best 0 k d.tally.bests ∙ g.bests z }

  pub good_acked : (d : Read) (peer : ℕ) → peer < group → GoodRead Z group d → GoodRead Z group (with_ack d peer)
  good_acked d peer h g =
      record {
        fits = and_make (and_left (leb d.tally.count 8) _ g.fits) (within_insert d.acks group peer (and_right (leb d.tally.count 8) _ g.fits) h);
        keys = g.keys;
        bests = g.bests;
      }

  good_none : (rs : Reads) (j : ℕ) → (Z → length rs.reads ≡ 16) → j < 16 → length rs.reads ≤ j → GoodRead Z group no_read
  good_none rs j long h past =
      record { fits = and_make refl (within_none group); keys = λ z. absurd (omega (arith, long z)); bests = λ z. absurd (omega (arith, long z)) }

  pub good_put_read : (rs : Reads) (i : ℕ) (d : Read) → GoodRead Z group d → GoodReads Z group rs → GoodReads Z group (put_read rs i d)
  good_put_read rs i d p g =
      put_ways rs i d (GoodReads Z group) g
      (record {
        few = g.few;
        long = λ z. length-set rs.reads i d ∙ g.long z;
        each = λ j l. set_each no_read (GoodRead Z group) rs.reads i j d (λ e. p) (g.each j l);
      })

  -- the last read takes the place of the one that closes
  pub good_close : (rs : Reads) (i : ℕ) → GoodReads Z group rs → GoodReads Z group (close_read rs i)
  unfolding close_read
  good_close rs i g =
      pick_cases (GoodReads Z group) (ltb 16 rs.count || leb rs.count i) (λ t. g)
      (λ t.
      let h = leb-false rs.count i (or-false (ltb 16 rs.count) _ t).1 in
      record {
        few = omega (arith, g.few);
        long = λ z. length-set rs.reads i _ ∙ g.long z;
        each = λ j l. set_each no_read (GoodRead Z group) rs.reads i j _ (λ e. g.each (rs.count - 1) (omega arith)) (g.each j (omega arith));
      })

  -- a read more, at the end
  pub good_open : (rs : Reads) (d : Read) → rs.count < 16 → GoodRead Z group d → GoodReads Z group rs
      → GoodReads Z group (record { count = rs.count + 1; reads = set rs.reads rs.count d })
  good_open rs d h p g =
      record {
        few = omega arith;
        long = λ z. length-set rs.reads rs.count d ∙ g.long z;
        each = λ j l. each j l (decide (ltb j rs.count));
      }
    where
      each : (j : ℕ) → j < rs.count + 1 → (ltb j rs.count ≡ true) ⊎ (ltb j rs.count ≡ false) → GoodRead Z group (get_or (set rs.reads rs.count d) j no_read)
      each j l (inl t) = set_each no_read (GoodRead Z group) rs.reads rs.count j d (λ e. p) (g.each j (ltb-true _ _ t))
      each j l (inr t) = last j (omega (arith, tests)) (decide (ltb j (length rs.reads)))
        where
          last : (j : ℕ) → j ≡ rs.count → (ltb j (length rs.reads) ≡ true) ⊎ (ltb j (length rs.reads) ≡ false) → GoodRead Z group (get_or (set rs.reads rs.count d) j no_read)
          last j e (inl t) = rw e (subst (GoodRead Z group) (sym (get_or-set_same rs.reads rs.count d no_read (omega (arith, tests)))) p)
          last j e (inr t) =
              subst (GoodRead Z group) (sym (get_or-eq_default (set rs.reads rs.count d) no_read {n = j} (omega (arith, tests, length-set rs.reads rs.count d))))
              (good_none rs j g.long (omega arith) (ltb-false _ _ t))
