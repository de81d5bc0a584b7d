-- The rest of specs/BetweenReplies.antt: what stands on a theorem that a must-fail edit makes false.
use Rattle.std.specs.Prelude.{◌≡◌, refl, Bool, false, not, List, [], ◌∷◌, ◌++◌, ℕ, ◌-◌, ◌≤◌, ◌<◌, ltb, leb, get_or}
use Rattle.std.proofs.Common.{sym, ap, ◌∙◌, ⊎_elim, arith}
use mathlib.Core.List.Memᴰ
use Rattle.std.proofs.Math.Seq.{get_or-set_other}
use borrow.Author.Tests.{le-leb, leb-true, leb-false}
use Rattle.base.specs.Pick.{pick_both, pick_cases, same?}
use Rattle.base.specs.Among.{◌∈◌}
use Rattle.members.specs.Sets.{insert, count_in}
use Rattle.members.specs.Groups.{quorum_of}
use Rattle.members.specs.Laws.{insert_again}
use Rattle.members.specs.Many.{insert_all, insert_all-append, insert_all_count}
use Rattle.tally.specs.declared.Tally.{Tally}
use Rattle.tally.specs.declared.Read.{Read}
use Rattle.tally.specs.declared.Reads.{Reads}
use Rattle.tally.specs.Open.{Opened}
use Rattle.tally.specs.Open.{Replied}
use Rattle.tally.specs.Open.{no_read, close_read, reply_to, stays_open}
use Rattle.tally.specs.ReadLaws.{id_at, find_id, open_cases, close_others, close_last, close_count, put_count, put_others}
use Rattle.tally.specs.ReadOrder.{read_after, Agreed, joined_by}
use Rattle.tally.proofs.ReadOrder.{Agreed-cases, Agreed-append, after_append, after_collected, read_any_order}
use Rattle.decide.specs.Scalars.{is_member, quorum}
use Rattle.replica.specs.declared.Replica.{Replica}
use Rattle.replica.specs.Record.{Outcome}
use Rattle.replica.specs.Fit.{ready}
use Rattle.replica.specs.AdmitLaws.{ready_last, ready_zero, member_some}
use Rattle.replica.specs.ReadCallLaws.{reply_known}
use Rattle.replica.specs.Quorumread.{with_reads, open_read_step, replied_step, read_reply_step}
use Rattle.replica.specs.Step.{Call, step}
use Rattle.laws.specs.OfFit.{fit_facts}
use Rattle.laws.specs.WaysAdded.{read_place, read_at, stayed}
use Rattle.laws.specs.OpenReads.{Call-cases, other_calls}
use Rattle.laws.proofs.OpenReads.{Waiting-stays}
use Rattle.laws.specs.AnyOrder.{read_of, ReadOpen, AgreeingReplies, member_reply, Aside, CallsBetween, no_more, aside, from_member, acknowledged_with, answered_read, KnowsHeard, SameRead, AnsweredZero, all_answers, AnswersHeard, SameAnswers}
use Rattle.laws.specs.InARow.{replied_open, replied_shut, Agreed-of, replies_within, acknowledged_same}
use Rattle.laws.specs.Theorems.{sizes_stay}
use Rattle.laws.proofs.Theorems.{group_stays}
use Rattle.laws.specs.Summaries.{usable-fit}
use Rattle.laws.proofs.Summaries.{usable_stays}
use Rattle.laws.specs.BetweenReplies.{Stands, Stands-open, reply_leaves}

module _ (id : ℕ) (r : Replica) (o : ReadOpen id r) where
  Stands-here : Stands (read_of r id) r
  Stands-here = (read_place r id, o.known, refl)

  -- a read opened stands at the end, an id in use is refused
  open_stands : (n other count : ℕ) (keys : List ℕ) → Stands (read_of r id) (open_read_step r n other count keys).replica
  unfolding open_read_step
  open_stands n other count keys =
      pick_both (λ (x : Outcome). Stands (read_of r id) x.replica) (not (ready r n)) Stands-here
      (open_cases r.reads other count keys (λ (x : Opened). Stands (read_of r id) (with_reads r x.reads)) Stands-here Stands-here
      (λ f h. (read_place r id, omega (arith, o.known), get_or-set_other r.reads.reads r.reads.count (read_place r id) _ no_read (λ z. omega (arith, o.known)))))

  -- another read is written anew, or closes and the last one takes its place
  module _ (at : ℕ) (h : at < r.reads.count) (apart : read_place r id ≡ at → ⊥) where
    close_stands : Stands (read_of r id) (with_reads r (close_read r.reads at))
    close_stands =
        let few = (fit_facts r (usable-fit r o.fits)).reads.count in
        let less = close_count r.reads at few h in
        ⊎_elim
        (λ (e : read_place r id ≡ r.reads.count - 1).
        (at, omega (arith, o.known, apart), close_last r.reads at o.sized.reads few h ∙ ap (λ (x : ℕ). read_at r x) (sym e)))
        (λ (e : read_place r id ≡ r.reads.count - 1 → ⊥).
        (read_place r id, omega (arith, o.known, e), close_others r.reads at (read_place r id) apart))
        (same? (read_place r id) (r.reads.count - 1))

    replied_stands : (d : Replied) → Stands (read_of r id) (replied_step r at d).replica
    unfolding replied_step
    replied_stands d =
        let P : Outcome → Type 0 = λ x. Stands (read_of r id) x.replica in
        pick_both P d.closes close_stands
        (pick_both P (stays_open d.answer)
        (read_place r id, omega (arith, o.known, put_count r.reads at d.read), put_others r.reads at d.read (read_place r id) apart) Stands-here)

  reply_stands : (n peer other : ℕ) (leader : Bool) (reply : Tally) → (other ≡ id → ⊥) → Stands (read_of r id) (read_reply_step r n peer other leader reply).replica
  unfolding read_reply_step
  reply_stands n peer other leader reply e =
      let P : Outcome → Type 0 = λ x. Stands (read_of r id) x.replica in
      pick_both P (not (ready r n)) Stands-here
      (pick_both P (not (is_member r.sc peer)) Stands-here
      (pick_both P (ltb 8 reply.count) Stands-here
      (pick_cases P (leb r.reads.count (read_place r other)) (λ t. Stands-here)
      (λ t.
      let h : read_place r other < r.reads.count = leb-false _ _ t in
      replied_stands (read_place r other) h
      (λ z. e (sym (find_id r.reads other h) ∙ (ap (λ (x : ℕ). id_at r.reads x) (sym z) ∙ find_id r.reads id o.known))) _))))

  other_stands : (n : ℕ) (c : Call) → Aside id c → Stands (read_of r id) (step r n c).replica
  other_stands n =
      Call-cases (λ (c : Call). Aside id c → Stands (read_of r id) (step r n c).replica)
      (λ c e a.
      let same : (step r n c).replica.reads ≡ r.reads = other_calls r n c e in
      (read_place r id, rw same o.known, ap (λ (rs : Reads). get_or rs.reads (read_place r id) no_read) same))
      (λ other count keys a. open_stands n other count keys)
      (λ peer other leader reply a. reply_stands n peer other leader reply (λ z. a peer leader reply (rw z)))

  -- whatever the call, a read that stands in the table after it is open
  after_open : (n : ℕ) (c : Call) (d : Read) → d.id ≡ id → Stands d (step r n c).replica → ReadOpen id (step r n c).replica × (read_of (step r n c).replica id ≡ d)
  after_open n c d e = Stands-open id (step r n c).replica d (usable_stays r n c o.fits) (sizes_stay r n c o.sized) (Waiting-stays r n c o.sized o.waiting) e

-- THE THEOREMS

-- what is said of the members stays true over a call that leaves the read as d
replies_after : (id : ℕ) (said : ℕ → Tally) (r : Replica) (n : ℕ) (c : Call) (d : Read) (ms : List ℕ) → read_of (step r n c).replica id ≡ d
    → ((m : ℕ) → m ∈ ms → m < r.sc.group) → ((m : ℕ) → m ∈ ms → (said m).count ≤ 8) → Agreed said d ms → AgreeingReplies id said (step r n c).replica ms
replies_after id said r n c d ms e members few agreed =
    record { members = λ m p. rw (group_stays r n c) (members m p); few = few; with_held = rw e agreed.with_held; with_each = rw e agreed.with_each }

pub knows_heard : KnowsHeard
knows_heard id said r _ _ o h b no_more = (o, refl)
knows_heard id said r after ms o h b (aside n c e rest) =
    let next = after_open id r o n c (read_of r id) (find_id r.reads id o.known) (other_stands id r o n c e) in
    let hears = replies_after id said r n c (read_of r id) ms next.1 h.members h.few (Agreed-of id said r ms o h) in
    let end = knows_heard id said (step r n c).replica after ms next.0 hears (rw (next.1, group_stays r n c) b) rest in
    (end.0, rw (next.1, group_stays r n c) at end.1)
knows_heard id said r after _ o h b (from_member {ms = ms} n m roomy rest) =
    let q : ℕ = quorum r.sc in
    let p : ℕ = read_place r id in
    let d : Read = read_of r id in
    let c : Call = member_reply id said m in
    let on : (e : Read) → e.id ≡ d.id → Agreed said e ms → count_in (insert_all e.acks ms) < q → Stands e (step r n c).replica
    → ReadOpen id after × (read_of after id ≡ read_after q said e ms) =
    λ e f k l s.
    let next = after_open id r o n c e (f ∙ find_id r.reads id o.known) s in
    let hears = replies_after id said r n c e ms next.1 (λ x u. h.members x (Memᴰ.tail u)) (λ x u. h.few x (Memᴰ.tail u)) k in
    let end = knows_heard id said (step r n c).replica after ms next.0 hears (rw (next.1, group_stays r n c) l) rest in
    (end.0, rw (next.1, group_stays r n c) at end.1) in
    let Leaves : Replied → Type 0 =
    λ x. ((e : Read) → replied_step r p x ≡ stayed 0 r p e → Stands e (step r n c).replica) → ReadOpen id after × (read_of after id ≡ read_after q said x.read ms) in
    Agreed-cases q said Leaves d m ms (Agreed-of id said r (m ∷ ms) o h)
    (λ t k leaves. on d refl k (rw (insert_again d.acks m t) at b) (leaves d (replied_open r p d)))
    (λ t k.
    let e : Read = joined_by said d m in
    pick_cases Leaves (leb q (count_in e.acks))
    (λ z leaves. absurd (omega (arith, leb-true q (count_in e.acks) z, b, insert_all_count e.acks ms k.set k.members)))
    (λ z leaves. on e refl k b (leaves e (replied_open r p e))))
    (reply_leaves id said r o n roomy m (h.members m (Memᴰ.head refl)) (h.few m (Memᴰ.head refl)))

pub same_read : SameRead
same_read id said r a b k l o h u s ka lb =
    (knows_heard id said r a k o h u ka).1
    ∙ (read_any_order (quorum r.sc) said (read_of r id) k l (Agreed-of id said r k o h) s
    ∙ sym (knows_heard id said r b l o (replies_within id said r k l h s.back) (rw (acknowledged_same id said r k l o h s) at u) lb).1)

-- the group stays, so the quorum does
calls_group : (id : ℕ) (said : ℕ → Tally) (r after : Replica) (ms : List ℕ) → CallsBetween id said r ms after → after.sc.group ≡ r.sc.group
calls_group id said r _ _ no_more = refl
calls_group id said r after ms (aside n c e rest) = calls_group id said (step r n c).replica after ms rest ∙ group_stays r n c
calls_group id said r after _ (from_member {ms = ms} n m roomy rest) =
    calls_group id said (step r n (member_reply id said m)).replica after ms rest ∙ group_stays r n (member_reply id said m)

-- one reply more: it meets the read as the others have left it
module _ (id : ℕ) (said : ℕ → Tally) (r after : Replica) (ms : List ℕ) (room m : ℕ) (o : ReadOpen id r) (h : AgreeingReplies id said r (ms ++ (m ∷ [])))
    (below : acknowledged_with id r ms < quorum r.sc) (calls : CallsBetween id said r ms after) (roomy : 3456 ≤ room) where
  earlier : AgreeingReplies id said r ms
  earlier = replies_within id said r (ms ++ (m ∷ [])) ms h (λ x u. Memᴰ.append_left (m ∷ []) u)

  one_more : read_reply_step after room m id false (said m)
      ≡ replied_step after (read_place after id) (reply_to (quorum r.sc) m false (said m) (answered_read id said r ms))
  one_more =
      let end = knows_heard id said r after ms o earlier below calls in
      let group = calls_group id said r after ms calls in
      let last : m ∈ (ms ++ (m ∷ [])) = Memᴰ.append_right ms (Memᴰ.head refl) in
      reply_known after room m id false (said m) 0 (member_some after room m (ready_zero after room (sym (ready_last after room roomy) ∙ end.0.fits)) (rw group (h.members m last))) refl
      (h.few m last) (read_place after id) refl end.0.known (quorum r.sc) (reply_to (quorum r.sc) m false (said m) (answered_read id said r ms))
      (sym (ap quorum_of group)) (ap (λ (x : Read). reply_to (quorum r.sc) m false (said m) x) (sym end.1))

  Agreed-more : Agreed said (answered_read id said r ms) (m ∷ [])
  Agreed-more = Agreed-append (quorum r.sc) said (read_of r id) ms (m ∷ []) (Agreed-of id said r (ms ++ (m ∷ [])) o h)

pub answered_zero : AnsweredZero
answered_zero id said r after ms room m o h below calls roomy =
    let q : ℕ = quorum r.sc in
    let p : ℕ = read_place after id in
    let e : Read = answered_read id said r ms in
    let Zero : Replied → Type 0 = λ x. (replied_step after p x).answer ≡ 0 in
    rw (one_more id said r after ms room m o h below calls roomy)
    (Agreed-cases q said Zero e m [] (Agreed-more id said r after ms room m o h below calls roomy) (λ t k. ap (λ (x : Outcome). x.answer) (replied_open after p e))
    (λ t k. pick_both Zero (leb q (count_in (joined_by said e m).acks)) (ap (λ (x : Outcome). x.answer) (replied_shut after p (joined_by said e m)))
    (ap (λ (x : Outcome). x.answer) (replied_open after p (joined_by said e m)))))

pub answers_heard : AnswersHeard
answers_heard id said r after ms room m o h below full calls roomy =
    let q : ℕ = quorum r.sc in
    let p : ℕ = read_place after id in
    let d : Read = read_of r id in
    let e : Read = answered_read id said r ms in
    let acks : e.acks ≡ insert_all d.acks ms =
    ap (λ (x : Read). x.acks)
    (after_collected q said d ms (Agreed-of id said r ms o (earlier id said r after ms room m o h below calls roomy))) in
    let enough : q ≤ count_in (insert e.acks m) = rw (insert_all-append d.acks ms (m ∷ []), ← acks) at full in
    rw (one_more id said r after ms room m o h below calls roomy, after_append q said d ms (m ∷ []))
    (Agreed-cases q said (λ (x : Replied). (replied_step after p x).actions ≡ all_answers after.sc.leader x.read) e m []
    (Agreed-more id said r after ms room m o h below calls roomy)
    (λ t k. absurd (omega (arith, ap count_in (insert_again e.acks m t), ap count_in acks)))
    (λ t k. rw (le-leb q (count_in (insert e.acks m)) enough) (ap (λ (x : Outcome). x.actions) (replied_shut after p (joined_by said e m)))))

pub same_answers : SameAnswers
same_answers id said r a b k l room m n o h below under full s ka lb roomy leaders =
    let all : List ℕ = k ++ (m ∷ []) in
    let others : List ℕ = l ++ (n ∷ []) in
    answers_heard id said r a k room m o h below full ka roomy
    ∙ rw (leaders, read_any_order (quorum r.sc) said (read_of r id) all others (Agreed-of id said r all o h) s)
    (sym (answers_heard id said r b l room n o (replies_within id said r all others h s.back) under (rw (acknowledged_same id said r all others o h s) at full) lb roomy))
