-- The ways that an offer, an executed call, an opened read and a read reply go.
use Rattle.std.specs.Prelude.{◌≡◌, refl, Bool, true, false, not, ◌||◌, List, [], ◌∷◌, ltb, eqb, get_or, set}
use Rattle.std.proofs.Math.Logic.{⊎_elim}
use Prim.Native.Nat.{ℕ, ◌+◌, ◌≤◌, ◌<◌}
use Rattle.std.proofs.Math.Dec.{leb}
use borrow.Author.Tests.{ltb-true, ltb-false, leb-false, eqb-false, not-true, not-false}
use Rattle.base.specs.Pick.{pick_cases, or-false, decide}
use Rattle.base.specs.Gather.{gather}
use Rattle.members.specs.Sets.{has, count_in}
use Rattle.batch.specs.declared.Batch.{Batch}
use Rattle.batch.specs.Batches.{is_batch}
use Rattle.batch.specs.Keys.{overfull}
use Rattle.tally.specs.declared.Tally.{Tally}
use Rattle.tally.specs.Merge.{Merged}
use Rattle.tally.specs.declared.Read.{Read}
use Rattle.tally.specs.Open.{Opened}
use Rattle.tally.specs.Open.{Replied}
use Rattle.tally.specs.Merge.{conflict_at, merge_up_to}
use Rattle.tally.specs.Open.{new_read, no_read, find_read, is_open, open_read, close_read, put_read, with_tally, with_ack, smaller, acknowledged, reply_to}
use Rattle.tally.proofs.Laws.{merge_cases}
use Rattle.actions.specs.Actions.{says_acts}
use Rattle.slots.specs.Slots.{executed_slot}
use Rattle.decide.specs.Decide.{Decided}
use Rattle.decide.specs.Scalars.{is_member, quorum}
use Rattle.decide.specs.Decide.{may_offer, decide_offer}
use Rattle.window.specs.declared.Window.{Window}
use Rattle.window.specs.Window.{slot_at, put_slot, grown}
use Rattle.replica.specs.declared.Replica.{Replica}
use Rattle.replica.specs.Record.{Outcome, settled, place, log_end}
use Rattle.replica.specs.Fit.{fit, ready, unready}
use Rattle.replica.specs.Messages.{clean}
use Rattle.replica.specs.Added.{offer_step, moved_exec, executed_step}
use Rattle.replica.specs.Quorumread.{with_reads, opened, open_read_step, answer_act, replied_step, read_reply_step}
use Rattle.laws.specs.Leaves.{done, settled_to, noting_ways}
use Rattle.laws.specs.WaysMessages.{Keeps, unready-keeping, ready-fit}

-- ── an offer ──
abbrev pub offer_window : Replica → Window
offer_window r = grown r.window (r.window.len + 1)

abbrev pub offer_decided : Replica → Batch → Decided
offer_decided r b = decide_offer r.sc (log_end r) (clean b)

abbrev pub offered : Replica → Batch → Outcome
offered r b =
    done (settled_to r (offer_window r) r.window.len (log_end r) (offer_decided r b)) (says_acts (offer_decided r b).says (offer_decided r b).keys)

pub record Offers (r : Replica) (b : Batch) : Type 0 where
  pub fits : fit r ≡ true
  pub batch : is_batch b.id b.count ≡ true
  pub may : may_offer r.sc ≡ true
  pub room : r.window.len < 64
  pub free : overfull r.keys (clean b) ≡ false

pub offer_step_ways : (P : Outcome → Type 0) (r : Replica) (n : ℕ) (b : Batch) → Keeps P r → (Offers r b → P (offered r b)) → P (offer_step r n b)
unfolding offer_step settled decide_offer
offer_step_ways P r n b k on =
    pick_cases P (not (ready r n)) (λ a. k (unready r n) (unready-keeping r n (not-true _ a)))
    (λ a. pick_cases P (not (is_batch b.id b.count)) (λ c. k 10 refl)
    (λ c. pick_cases P (not (may_offer r.sc)) (λ d. k 9 refl)
    (λ d. pick_cases P (leb 64 r.window.len) (λ e. k 5 refl)
    (λ e. noting_ways P r true (log_end r) (clean b) _ _ refl (k 7 refl)
    (λ f. on
    (record { fits = ready-fit r n (not-false _ a); batch = not-false _ c; may = not-false _ d; room = leb-false _ _ e; free = f }))))))

-- ── an executed call ──
abbrev pub executed_window : Replica → ℕ → Window
executed_window r slot = put_slot r.window (place r.sc slot) (executed_slot (slot_at r.window (place r.sc slot)))

abbrev pub after_executed : Replica → ℕ → Outcome
after_executed r slot = done (moved_exec r (executed_window r slot)) []

pub record Executes (r : Replica) (slot : ℕ) : Type 0 where
  pub fits : fit r ≡ true
  pub low : r.sc.start ≤ slot
  pub high : slot < log_end r

pub executed_step_ways : (P : Outcome → Type 0) (r : Replica) (n slot : ℕ) → Keeps P r → (Executes r slot → P (after_executed r slot)) → P (executed_step r n slot)
unfolding executed_step
executed_step_ways P r n slot k on =
    pick_cases P (not (ready r n)) (λ a. k (unready r n) (unready-keeping r n (not-true _ a)))
    (λ a. pick_cases P (ltb slot r.sc.start) (λ b. k 0 refl)
    (λ b. pick_cases P (leb (log_end r) slot) (λ c. k 4 refl)
    (λ c. on (record { fits = ready-fit r n (not-false _ a); low = ltb-false _ _ b; high = leb-false _ _ c }))))

-- ── a read opened ──
abbrev pub read_opened : Replica → ℕ → ℕ → List ℕ → Outcome
read_opened r id count keys =
    done (with_reads r (record { count = r.reads.count + 1; reads = set r.reads.reads r.reads.count (new_read id count keys) })) []

pub record Opens (r : Replica) (id count : ℕ) : Type 0 where
  pub fits : fit r ≡ true
  pub some_keys : count ≡ 0 → ⊥
  pub few : count ≤ 8
  pub fresh : is_open r.reads id ≡ false
  pub room : r.reads.count < 16

pub open_read_step_ways : (P : Outcome → Type 0) (r : Replica) (n id count : ℕ) (keys : List ℕ) → Keeps P r → (Opens r id count → P (read_opened r id count keys))
    → P (open_read_step r n id count keys)
unfolding open_read_step open_read
open_read_step_ways P r n id count keys k on =
    pick_cases P (not (ready r n)) (λ a. k (unready r n) (unready-keeping r n (not-true _ a)))
    (λ a. pick_cases (λ (o : Opened). P (opened r o)) (eqb count 0 || ltb 8 count || is_open r.reads id) (λ b. k 10 refl)
    (λ b. pick_cases (λ (o : Opened). P (opened r o)) (leb 16 r.reads.count) (λ c. k 11 refl)
    (λ c.
    let d = or-false (eqb count 0 || ltb 8 count) _ b in
    let e = or-false (eqb count 0) _ d.0 in
    on
    (record { fits = ready-fit r n (not-false _ a); some_keys = eqb-false _ _ e.0; few = ltb-false _ _ e.1; fresh = d.1; room = leb-false _ _ c }))))

-- ── a reply to a read ──
abbrev pub read_place : Replica → ℕ → ℕ
read_place r id = find_read r.reads id

abbrev pub read_at : Replica → ℕ → Read
read_at r i = get_or r.reads.reads i no_read

-- the read closes and answers
abbrev pub closed : Replica → ℕ → Read → ℕ → Outcome
closed r i d answers = done (with_reads r (close_read r.reads i)) (gather (λ k. answer_act r.sc.leader d k ∷ []) 0 answers)

-- the read stays open
abbrev pub stayed : ℕ → Replica → ℕ → Read → Outcome
stayed answer r i d = record { answer = answer; replica = with_reads r (put_read r.reads i d); actions = [] }

-- the read with n of its keys merged
abbrev pub merged_read : Read → Tally → ℕ → Read
merged_read d reply n = with_tally d (merge_up_to d.tally reply n)

pub record Asked (r : Replica) (peer id : ℕ) (reply : Tally) : Type 0 where
  pub fits : fit r ≡ true
  pub member : peer < r.sc.group
  pub few : reply.count ≤ 8
  pub known : read_place r id < r.reads.count

module _ (P : Outcome → Type 0) (r : Replica) (n peer id : ℕ) (from_leader : Bool) (reply : Tally) where
  replied_ways : (i : ℕ) → Keeps P r → P (closed r i (with_tally (read_at r i) reply) (smaller (read_at r i).tally.count reply.count))
      → ((k : ℕ) → P (closed r i (with_ack (merged_read (read_at r i) reply k) peer) (read_at r i).tally.count))
      → P (stayed 0 r i (read_at r i)) → ((k : ℕ) → P (stayed 0 r i (with_ack (merged_read (read_at r i) reply k) peer)))
      → ((k : ℕ) → P (stayed 12 r i (merged_read (read_at r i) reply k)))
      → P (replied_step r i (reply_to (quorum r.sc) peer from_leader reply (read_at r i)))
  unfolding replied_step reply_to
  replied_ways i k told full same less conflict =
      let d : Read = read_at r i in
      let c : ℕ = conflict_at d.tally reply in
      pick_cases (λ (x : Replied). P (replied_step r i x)) from_leader (λ a. told)
      (λ a. pick_cases (λ (x : Replied). P (replied_step r i x)) (has d.acks peer) (λ b. same)
      (λ b. merge_cases d.tally reply (λ (m : Merged). P (replied_step r i (acknowledged (quorum r.sc) peer d m))) (k 1 refl) (k 10 refl)
      (k 6 refl) (λ e f h. conflict c)
      (λ e f h. ⊎_elim (λ (e : leb (quorum r.sc) (count_in (with_ack (merged_read d reply c) peer).acks) ≡ true). rw e (full c))
      (λ (e : leb (quorum r.sc) (count_in (with_ack (merged_read d reply c) peer).acks) ≡ false). rw e (less c))
      (decide (leb (quorum r.sc) (count_in (with_ack (merged_read d reply c) peer).acks))))))

  pub read_reply_step_ways : Keeps P r
      → (Asked r peer id reply → P (closed r (read_place r id) (with_tally (read_at r (read_place r id)) reply) (smaller (read_at r (read_place r id)).tally.count reply.count)))
      → (Asked r peer id reply → (k : ℕ) → P (closed r (read_place r id) (with_ack (merged_read (read_at r (read_place r id)) reply k) peer) (read_at r (read_place r id)).tally.count))
      → (Asked r peer id reply → P (stayed 0 r (read_place r id) (read_at r (read_place r id))))
      → (Asked r peer id reply → (k : ℕ) → P (stayed 0 r (read_place r id) (with_ack (merged_read (read_at r (read_place r id)) reply k) peer)))
      → (Asked r peer id reply → (k : ℕ) → P (stayed 12 r (read_place r id) (merged_read (read_at r (read_place r id)) reply k)))
      → P (read_reply_step r n peer id from_leader reply)
  unfolding read_reply_step
  read_reply_step_ways k told full same less conflict =
      pick_cases P (not (ready r n)) (λ a. k (unready r n) (unready-keeping r n (not-true _ a)))
      (λ a. pick_cases P (not (is_member r.sc peer)) (λ b. k 2 refl)
      (λ b. pick_cases P (ltb 8 reply.count) (λ c. k 10 refl)
      (λ c. pick_cases P (leb r.reads.count (read_place r id)) (λ d. k 0 refl)
      (λ d.
      let f : Asked r peer id reply =
      record { fits = ready-fit r n (not-false _ a); member = ltb-true _ _ (not-false _ b); few = ltb-false _ _ c; known = leb-false _ _ d } in
      replied_ways (read_place r id) k (told f) (full f) (same f) (less f) (conflict f)))))
