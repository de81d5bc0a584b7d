-- Each case of opening a read and of a reply to one, under the tests that lead to it.
use Rattle.std.specs.Prelude.{◌≡◌, Bool, true, false, List, ℕ, ◌+◌, ◌≤◌, ◌<◌, set}
use Rattle.std.proofs.Common.{ap, ◌∙◌}
use borrow.Author.Tests.{lt-ltb, le-ltb, le-leb, lt-leb, eq-eqb, ne_eqb}
use Rattle.members.specs.Sets.{has}
use Rattle.tally.specs.declared.Tally.{Tally}
use Rattle.tally.specs.declared.Read.{Read}
use Rattle.tally.specs.declared.Reads.{Reads}
use Rattle.tally.specs.Merge.{Merged, merge}
use Rattle.tally.specs.Open.{Replied, new_read, find_read, open_read, with_tally, with_ack, stays, replaced, quorum_closes, acknowledged, reply_to}

module _ (rs : Reads) (id count : ℕ) (keys : List ℕ) where
  pub open_empty : count ≡ 0 → open_read rs id count keys ≡ record { answer = 10; reads = rs }
  unfolding open_read
  open_empty h = rw (eq-eqb count 0 h)

  module _ (some : count ≡ 0 → ⊥) where
    pub open_long : 8 < count → open_read rs id count keys ≡ record { answer = 10; reads = rs }
    unfolding open_read
    open_long h = rw (ne_eqb count 0 some, lt-ltb 8 count h)

    module _ (short : count ≤ 8) where
      pub open_used : find_read rs id < rs.count → open_read rs id count keys ≡ record { answer = 10; reads = rs }
      unfolding open_read
      open_used h = rw (ne_eqb count 0 some, le-ltb 8 count short, lt-ltb (find_read rs id) rs.count h)

      module _ (free : rs.count ≤ find_read rs id) where
        pub open_full : 16 ≤ rs.count → open_read rs id count keys ≡ record { answer = 11; reads = rs }
        unfolding open_read
        open_full h = rw (ne_eqb count 0 some, le-ltb 8 count short, le-ltb (find_read rs id) rs.count free, le-leb 16 rs.count h)

        pub open_one : rs.count < 16
            → open_read rs id count keys ≡ record { answer = 0; reads = record { count = rs.count + 1; reads = set rs.reads rs.count (new_read id count keys) } }
        unfolding open_read
        open_one h = rw (ne_eqb count 0 some, le-ltb 8 count short, le-ltb (find_read rs id) rs.count free, lt-leb 16 rs.count h)

module _ (quorum peer : ℕ) (r : Read) (m : Merged) (next : Read) (e : next ≡ with_tally r m.tally) where
  pub acknowledged_not : (o : Replied) → (m.answer ≡ 0 → ⊥) → o ≡ stays m.answer next → o ≡ acknowledged quorum peer r m
  acknowledged_not o h f = rw (ne_eqb m.answer 0 h, ← e) f

  pub acknowledged_in : (o : Replied) (acked : Read) → m.answer ≡ 0 → acked ≡ with_ack next peer → o ≡ quorum_closes quorum acked → o ≡ acknowledged quorum peer r m
  acknowledged_in o acked h f g =
      rw (eq-eqb m.answer 0 h) (g ∙ ap (λ (x : Read). quorum_closes quorum x) (f ∙ ap (λ (x : Read). with_ack x peer) e))

module _ (quorum peer : ℕ) (reply : Tally) (r : Read) where
  pub reply_leader : (l : Bool) → l ≡ true → reply_to quorum peer l reply r ≡ replaced r reply
  unfolding reply_to
  reply_leader l h = rw h

  pub reply_again : (l : Bool) → l ≡ false → has r.acks peer ≡ true → reply_to quorum peer l reply r ≡ stays 0 r
  unfolding reply_to
  reply_again l h k = rw (h, k)

  pub reply_new : (l : Bool) → l ≡ false → has r.acks peer ≡ false → reply_to quorum peer l reply r ≡ acknowledged quorum peer r (merge r.tally reply)
  unfolding reply_to
  reply_new l h k = rw (h, k)
