-- The rest of specs/ReadOrder.antt: what stands on a theorem that a must-fail edit makes false.
use Rattle.std.specs.Prelude.{◌≡◌, refl, true, false, List, [], ◌∷◌, ◌++◌, map, ◌⊎◌, ℕ, ◌≤◌, ◌<◌, leb}
use Rattle.std.proofs.Common.{sym, ap, ◌∙◌, inl, inr, arith}
use mathlib.Core.List.Memᴰ
use Rattle.base.specs.Pick.{pick_both, decide}
use Rattle.base.specs.Among.{◌∈◌, map_members}
use Rattle.members.specs.Sets.{has, insert, count_in}
use Rattle.members.specs.Laws.{insert_again, insert_below, count_new}
use Rattle.members.specs.Many.{insert_all, insert_all_count, insert_all_same}
use Rattle.tally.specs.declared.Tally.{Tally}
use Rattle.tally.specs.Merge.{Merged}
use Rattle.tally.specs.declared.Read.{Read}
use Rattle.tally.specs.Open.{Replied, stays, quorum_closes, acknowledged, reply_to}
use Rattle.tally.specs.Cases.{reply_again, reply_new}
use Rattle.tally.specs.AnyOrder.{Agreeing, merge_all, joined, joined-Eight, agreeing_merge}
use Rattle.tally.proofs.AnyOrder.{Agreeing-joined, any_order}
use Rattle.tally.specs.ReadOrder.{Agreed, Agreed-same, ReadAnyOrder, collected, joined_by, new_consistent, newcomers, newcomers_same, out_before, read_after}

module _ (quorum : ℕ) (said : ℕ → Tally) where
  module _ (d : Read) (m : ℕ) where
    pub after_again : has d.acks m ≡ true → reply_to quorum m false (said m) d ≡ stays 0 d
    after_again t = reply_again quorum m (said m) d false refl t

    pub after_new : has d.acks m ≡ false → d.tally.count ≤ 8 → Agreeing d.tally (said m) → reply_to quorum m false (said m) d ≡ quorum_closes quorum (joined_by said d m)
    after_new t few g =
        reply_new quorum m (said m) d false refl t ∙ ap (λ (x : Merged). acknowledged quorum m d x) (agreeing_merge d.tally (said m) few g)

  closes_read : (d : Read) → (quorum_closes quorum d).read ≡ d
  closes_read d = pick_both (λ (o : Replied). o.read ≡ d) (leb quorum (count_in d.acks)) refl refl

  -- of a list with one more, the first reply: the member is known, or it is counted
  pub Agreed-cases : (P : Replied → Type 0) (d : Read) (m : ℕ) (ms : List ℕ) → Agreed said d (m ∷ ms)
      → (has d.acks m ≡ true → Agreed said d ms → P (stays 0 d))
      → (has d.acks m ≡ false → Agreed said (joined_by said d m) ms → P (quorum_closes quorum (joined_by said d m))) → P (reply_to quorum m false (said m) d)
  Agreed-cases P d m ms g known new = go (decide (has d.acks m))
    where
      first : m < 9
      first = g.members m (Memᴰ.head refl)

      before : (x : ℕ) → x ∈ ms → has (insert d.acks m) x ≡ false → has d.acks x ≡ false
      before x o e = (out_before d.acks m x g.set first (g.members x (Memᴰ.tail o)) e).1

      go : (has d.acks m ≡ true) ⊎ (has d.acks m ≡ false) → P (reply_to quorum m false (said m) d)
      go (inl t) =
          rw (after_again d m t)
          (known t
          (record {
            eight = g.eight;
            set = g.set;
            members = λ x o. g.members x (Memᴰ.tail o);
            with_held = λ x o. g.with_held x (Memᴰ.tail o);
            with_each = λ x y o p. g.with_each x y (Memᴰ.tail o) (Memᴰ.tail p);
          }))
      go (inr t) =
          let one : Agreeing d.tally (said m) = g.with_held m (Memᴰ.head refl) t in
          rw (after_new d m t g.eight.few one)
          (new t
          (record {
            eight = joined-Eight d.tally (said m) g.eight;
            set = insert_below d.acks m g.set;
            members = λ x o. g.members x (Memᴰ.tail o);
            with_held = λ x o e.
                Agreeing-joined d.tally (said m) (said x) g.eight one (g.with_held x (Memᴰ.tail o) (before x o e))
                (g.with_each m x (Memᴰ.head refl) (Memᴰ.tail o) t (before x o e));
            with_each = λ x y o p e f. g.with_each x y (Memᴰ.tail o) (Memᴰ.tail p) (before x o e) (before y p f);
          }))

  pub after_collected : (d : Read) (ms : List ℕ) → Agreed said d ms → read_after quorum said d ms ≡ collected said d ms
  after_collected d [] g = refl
  after_collected d (m ∷ ms) g =
      Agreed-cases (λ (o : Replied). read_after quorum said o.read ms ≡ collected said d (m ∷ ms)) d m ms g
      (λ t k. rw (insert_again d.acks m t, t) (after_collected d ms k))
      (λ t k.
      let rest : List Tally = map said (newcomers (insert d.acks m) ms) in
      let first : merge_all (joined d.tally (said m)) rest ≡ merge_all d.tally (said m ∷ rest) =
      sym (ap (λ (x : Merged). merge_all x.tally rest) (agreeing_merge d.tally (said m) g.eight.few (g.with_held m (Memᴰ.head refl) t))) in
      rw (closes_read (joined_by said d m), t)
      (after_collected (joined_by said d m) ms k
      ∙ ap (λ (x : Tally). record { id = d.id; acks = insert_all (insert d.acks m) ms; keys = d.keys; tally = x }) first))

  -- the first of two lists, then the second
  pub after_append : (d : Read) (k l : List ℕ) → read_after quorum said d (k ++ l) ≡ read_after quorum said (read_after quorum said d k) l
  after_append d [] l = refl
  after_append d (m ∷ k) l = after_append (reply_to quorum m false (said m) d).read k l

  pub Agreed-append : (d : Read) (k l : List ℕ) → Agreed said d (k ++ l) → Agreed said (read_after quorum said d k) l
  Agreed-append d [] l g = g
  Agreed-append d (m ∷ k) l g =
      Agreed-cases (λ (o : Replied). Agreed said (read_after quorum said o.read k) l) d m (k ++ l) g (λ t h. Agreed-append d k l h)
      (λ t h. rw (closes_read (joined_by said d m)) (Agreed-append (joined_by said d m) k l h))

  -- with a quorum acknowledged and nobody more, all who speak are known, and nothing changes
  pub after_full : (d : Read) (ms : List ℕ) → Agreed said d ms → quorum ≤ count_in d.acks → count_in (insert_all d.acks ms) ≤ quorum → read_after quorum said d ms ≡ d
  after_full d [] g h l = refl
  after_full d (m ∷ ms) g h l =
      Agreed-cases (λ (o : Replied). read_after quorum said o.read ms ≡ d) d m ms g (λ t k. after_full d ms k h (rw (insert_again d.acks m t) at l))
      (λ t k.
      absurd
      (omega (
        arith,
        count_new d.acks m g.set (g.members m (Memᴰ.head refl)) t,
        insert_all_count (insert d.acks m) ms k.set k.members,
      )))

pub read_any_order : ReadAnyOrder
read_any_order quorum said d k l g w =
    let acks : insert_all d.acks k ≡ insert_all d.acks l = insert_all_same d.acks k l g.set g.members w in
    let tally : merge_all d.tally (map said (newcomers d.acks k)) ≡ merge_all d.tally (map said (newcomers d.acks l)) =
    any_order d.tally (map said (newcomers d.acks k)) (map said (newcomers d.acks l)) g.eight (new_consistent said d k g)
    (map_members said (newcomers d.acks k) (newcomers d.acks l) (newcomers_same d.acks k l g.set g.members w)) in
    after_collected quorum said d k g ∙ rw (acks, tally) (sym (after_collected quorum said d l (Agreed-same said d k l g w)))
