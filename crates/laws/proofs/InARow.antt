-- The rest of specs/InARow.antt: what stands on a theorem that a must-fail edit makes false.
use Rattle.std.specs.Prelude.{◌≡◌, refl, true, false, List, [], ◌∷◌, ◌++◌, ℕ, ◌≤◌, ◌<◌, leb, length}
use Rattle.std.proofs.Common.{sym, ap, subst, ◌∙◌, append-nil, ⊎_elim, arith, leb-true, leb-false}
use mathlib.Core.List.Memᴰ
use Rattle.base.specs.Pick.{pick_cases, decide, clash}
use Rattle.base.specs.Among.{◌∈◌, All}
use Rattle.members.specs.Sets.{count_in}
use Rattle.members.specs.Laws.{insert_again}
use Rattle.members.specs.Many.{insert_all}
use Rattle.tally.specs.declared.Tally.{Tally}
use Rattle.tally.specs.declared.Read.{Read}
use Rattle.tally.specs.declared.Reads.{Reads}
use Rattle.tally.specs.Open.{Replied}
use Rattle.tally.specs.Open.{close_read, put_read, stays, reply_to}
use Rattle.tally.specs.ReadLaws.{id_at, Distinct, find_id, find_only, find_nowhere, close_gone, close_put_count, close_put_each, put_count, put_length, put_here, put_distinct, put_again, put_back}
use Rattle.tally.specs.ReadOrder.{read_after, Agreed, joined_by}
use Rattle.tally.proofs.ReadOrder.{Agreed-cases, after_full, read_any_order}
use Rattle.actions.specs.Actions.{Act}
use Rattle.decide.specs.Scalars.{quorum}
use Rattle.replica.specs.declared.Replica.{Replica}
use Rattle.replica.specs.Record.{Outcome, summed}
use Rattle.replica.specs.Fit.{usable, ready}
use Rattle.replica.specs.AdmitLaws.{ready_last, ready_zero, ready_facts, member_some}
use Rattle.replica.specs.Step.{step}
use Rattle.replica.specs.Quorumread.{with_reads, replied_step}
use Rattle.replica.specs.ReadCallLaws.{replied_summed, reply_known}
use Rattle.laws.specs.OfFit.{fit_facts}
use Rattle.laws.specs.WaysAdded.{read_place}
use Rattle.laws.specs.AnyOrder.{read_of, ReadOpen, AgreeingReplies, acknowledged_with, member_reply, replied, replied_acts, replied_answers, SameInUse, InAnyOrder, all_answers}
use Rattle.laws.specs.Summaries.{usable-fit}
use Rattle.laws.proofs.Summaries.{usable_stays}
use Rattle.laws.specs.InARow.{Agreed-of, acknowledged_same, ignored, replied_open, replied_shut, replies_within, same_refl, same_sym, same_trans}

-- a replica with a read open at place p, and the same with that read as d
module _ (room id : ℕ) (said : ℕ → Tally) (r : Replica) (p : ℕ) where
  abbrev with : Read → Replica
  with d = with_reads r (put_read r.reads p d)

  -- what holds of r itself
  record Base : Type 0 where
    below : p < r.reads.count
    table : r.reads.count ≤ 16
    long : length r.reads.reads ≡ 16
    ids : Distinct r.reads
    here : id_at r.reads p ≡ id
    roomy : 3456 ≤ room

  -- what holds of the read and of the members yet to be heard
  record Stage (d : Read) (ms : List ℕ) : Type 0 where
    fits : usable (with d) ≡ true
    named : d.id ≡ id
    agreed : Agreed said d ms
    members : (m : ℕ) → m ∈ ms → m < r.sc.group
    few : (m : ℕ) → m ∈ ms → (said m).count ≤ 8
    waits : count_in d.acks < quorum r.sc
    up_to : count_in (insert_all d.acks ms) ≤ quorum r.sc

  -- how it ends, by what the read is then: still open, or closed with its answers
  record Ends (d : Read) (after : Replica) (acts : List Act) (zeros : List ℕ) : Type 0 where
    done : All (λ (answer : ℕ). answer ≡ 0) zeros
    still : leb (quorum r.sc) (count_in d.acks) ≡ false → (after ≡ with d) × (acts ≡ [])
    shut : leb (quorum r.sc) (count_in d.acks) ≡ true → SameInUse after (with_reads r (close_read r.reads p)) × (acts ≡ all_answers r.sc.leader d)

  module _ (base : Base) where
    found : (d : Read) → d.id ≡ id → read_place (with d) id ≡ p
    found d e =
        find_only (put_read r.reads p d) id p (omega (arith, base.table, put_count r.reads p d)) (put_distinct r.reads p d (e ∙ sym base.here) base.ids)
        (omega (arith, base.below, put_count r.reads p d)) (ap (λ (x : Read). x.id) (put_here r.reads p d base.long base.table base.below) ∙ e)

    with-with : (d e : Read) → with_reads (with d) (put_read (with d).reads p e) ≡ with e
    with-with d e = ap (λ (rs : Reads). with_reads r rs) (put_again r.reads p d e)

    on : (a : Replica) → usable a ≡ true → ready a room ≡ true
    on a f = sym (ready_last a room base.roomy) ∙ f

    one_reply : (d : Read) (m : ℕ) → usable (with d) ≡ true → d.id ≡ id → m < r.sc.group → (said m).count ≤ 8
        → step (with d) room (member_reply id said m) ≡ replied_step (with d) p (reply_to (quorum r.sc) m false (said m) d)
    one_reply d m f e l q =
        ap summed
        (reply_known (with d) room m id false (said m) 0 (member_some (with d) room m (ready_zero (with d) room (on (with d) f)) l) refl q p (sym (found d e))
        (omega (arith, base.below, put_count r.reads p d)) (quorum r.sc) (reply_to (quorum r.sc) m false (said m) d) refl
        (ap (λ (x : Read). reply_to (quorum r.sc) m false (said m) x) (sym (put_here r.reads p d base.long base.table base.below))))
        ∙ replied_summed (with d) p (reply_to (quorum r.sc) m false (said m) d) (ready_facts (with d) room (on (with d) f)).sum

    -- the read has closed: what it was leaves no trace in a place that is in use
    abbrev shut_at : Read → Replica
    shut_at d = with_reads (with d) (close_read (with d).reads p)

    shut_same : (d : Read) → SameInUse (shut_at d) (with_reads r (close_read r.reads p))
    shut_same d =
        record {
          sc = refl;
          bars = refl;
          window = refl;
          keys = refl;
          summary = refl;
          count = close_put_count r.reads p d base.long base.table base.below;
          reads = close_put_each r.reads p d base.long base.table base.below;
        }

    shut_gone : (d : Read) → d.id ≡ id → (shut_at d).reads.count ≤ read_place (shut_at d) id
    shut_gone d e =
        let few : (with d).reads.count ≤ 16 = omega (arith, base.table, put_count r.reads p d) in
        let below : p < (with d).reads.count = omega (arith, base.below, put_count r.reads p d) in
        let named : id_at (with d).reads p ≡ id = ap (λ (x : Read). x.id) (put_here r.reads p d base.long base.table base.below) ∙ e in
        find_nowhere (close_read (with d).reads p) id
        (λ i h f.
        close_gone (with d).reads p (put_length r.reads p d ∙ base.long) few (put_distinct r.reads p d (e ∙ sym base.here) base.ids) below i h
        (f ∙ sym named))

    -- what comes of the rest, once one reply has made o of the read
    abbrev Then : Read → List ℕ → Replied → Type 0
    Then d ms o =
        let after : Outcome = replied_step (with d) p o in
        usable after.replica ≡ true
        → Ends (read_after (quorum r.sc) said o.read ms) (replied room id said after.replica ms) (after.actions ++ replied_acts room id said after.replica ms)
        (after.answer ∷ replied_answers room id said after.replica ms)

    -- it stays open, as e
    Then-open : (d e : Read) (ms : List ℕ)
        → (usable (with e) ≡ true → Ends (read_after (quorum r.sc) said e ms) (replied room id said (with e) ms) (replied_acts room id said (with e) ms) (replied_answers room id said (with e) ms))
        → Then d ms (stays 0 e)
    Then-open d e ms rest =
        rw (replied_open (with d) p e, with-with d e) (λ f. record { done = (refl, (rest f).done); still = (rest f).still; shut = (rest f).shut })

    -- it closes, as e: whoever comes after is ignored
    Then-shut : (d e : Read) (ms : List ℕ) → d.id ≡ id → Agreed said e ms → ((m : ℕ) → m ∈ ms → m < r.sc.group) → ((m : ℕ) → m ∈ ms → (said m).count ≤ 8)
        → count_in (insert_all e.acks ms) ≤ quorum r.sc → leb (quorum r.sc) (count_in e.acks) ≡ true
        → Then d ms (record { answer = 0; closes = true; answers = e.tally.count; read = e })
    Then-shut d e ms named agreed members few up_to t =
        rw (replied_shut (with d) p e, after_full (quorum r.sc) said e ms agreed (leb-true _ _ t) up_to)
        (λ f.
        let rest = ignored room id said (shut_at d) (on (shut_at d) f) (shut_gone d named) ms members few in
        record {
          done = (refl, rest.zeros);
          still = λ z. absurd (clash t z);
          shut = λ z. (rw rest.replica (shut_same d), rw rest.actions (append-nil (all_answers r.sc.leader e)));
        })

    ends : (d : Read) (ms : List ℕ) → Stage d ms
        → Ends (read_after (quorum r.sc) said d ms) (replied room id said (with d) ms) (replied_acts room id said (with d) ms) (replied_answers room id said (with d) ms)
    ends d [] s = record { done = tt; still = λ e. (refl, refl); shut = λ e. absurd (omega (arith, leb-true, s.waits)) }
    ends d (m ∷ ms) s =
        let first : step (with d) room (member_reply id said m) ≡ replied_step (with d) p (reply_to (quorum r.sc) m false (said m) d) =
        one_reply d m s.fits s.named (s.members m (Memᴰ.head refl)) (s.few m (Memᴰ.head refl)) in
        let members : (x : ℕ) → x ∈ ms → x < r.sc.group = λ x o. s.members x (Memᴰ.tail o) in
        let few : (x : ℕ) → x ∈ ms → (said x).count ≤ 8 = λ x o. s.few x (Memᴰ.tail o) in
        subst
        (λ (o : Outcome). Ends (read_after (quorum r.sc) said d (m ∷ ms)) (replied room id said o.replica ms) (o.actions ++ replied_acts room id said o.replica ms)
        (o.answer ∷ replied_answers room id said o.replica ms))
        (sym first)
        (Agreed-cases (quorum r.sc) said (Then d ms) d m ms s.agreed
        (λ t k. Then-open d d ms
        (λ f. ends d ms (record { fits = f; named = s.named; agreed = k; members = members; few = few; waits = s.waits; up_to = rw (insert_again d.acks m t) at s.up_to })))
        (λ t k.
        let e : Read = joined_by said d m in
        pick_cases (Then d ms) (leb (quorum r.sc) (count_in e.acks)) (Then-shut d e ms s.named k members few s.up_to)
        (λ z. Then-open d e ms
        (λ f. ends e ms (record { fits = f; named = s.named; agreed = k; members = members; few = few; waits = leb-false _ _ z; up_to = s.up_to }))))
        (subst (λ (o : Outcome). usable o.replica ≡ true) first (usable_stays (with d) room (member_reply id said m) s.fits)))

module _ (room id : ℕ) (said : ℕ → Tally) (r : Replica) (roomy : 3456 ≤ room) (o : ReadOpen id r) where
  Ends-of : (ms : List ℕ) → AgreeingReplies id said r ms → acknowledged_with id r ms ≤ quorum r.sc
      → Ends room id said r (read_place r id) (read_after (quorum r.sc) said (read_of r id) ms) (replied room id said r ms) (replied_acts room id said r ms)
      (replied_answers room id said r ms)
  Ends-of ms h u =
      let p : ℕ = read_place r id in
      let d : Read = read_of r id in
      let named : d.id ≡ id = find_id r.reads id o.known in
      let base : Base room id said r p =
      record { below = o.known; table = (fit_facts r (usable-fit r o.fits)).reads.count; long = o.sized.reads; ids = o.waiting.ids; here = named; roomy = roomy } in
      let same : with_reads r (put_read r.reads p d) ≡ r = ap (λ (rs : Reads). with_reads r rs) (put_back r.reads p) in
      subst
      (λ (x : Replica). Ends room id said r p (read_after (quorum r.sc) said d ms) (replied room id said x ms) (replied_acts room id said x ms) (replied_answers room id said x ms))
      same
      (ends room id said r p base d ms
      (record {
        fits = rw same o.fits;
        named = named;
        agreed = Agreed-of id said r ms o h;
        members = h.members;
        few = h.few;
        waits = o.waiting.waits p o.known;
        up_to = u;
      }))

pub in_any_order : InAnyOrder
in_any_order room id said r k l roomy o h u s =
    let q : ℕ = quorum r.sc in
    let one = Ends-of room id said r roomy o k h u in
    let two = Ends-of room id said r roomy o l (replies_within id said r k l h s.back) (rw (acknowledged_same id said r k l o h s) at u) in
    let same : read_after q said (read_of r id) k ≡ read_after q said (read_of r id) l = read_any_order q said (read_of r id) k l (Agreed-of id said r k o h) s in
    ⊎_elim
    (λ (t : leb q (count_in (read_after q said (read_of r id) k).acks) ≡ true).
    let x = one.shut t in
    let y = two.shut (rw same at t) in
    record { replica = same_trans _ _ _ x.0 (same_sym _ _ y.0); actions = x.1 ∙ rw same (sym y.1); answers = one.done })
    (λ (t : leb q (count_in (read_after q said (read_of r id) k).acks) ≡ false).
    let x = one.still t in
    let y = two.still (rw same at t) in
    let z : replied room id said r k ≡ replied room id said r l = x.0 ∙ rw same (sym y.0) in
    record { replica = rw z (same_refl _); actions = x.1 ∙ sym y.1; answers = one.done })
    (decide (leb q (count_in (read_after q said (read_of r id) k).acks)))
