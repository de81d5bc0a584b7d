-- The table of open reads: only the two calls of reads touch it, ids stay distinct, and every open read waits for its quorum.
use Rattle.std.specs.Prelude.{◌≡◌, Bool, true, false, not, List, ℕ, ◌<◌, ltb, leb, get_or}
use Rattle.std.proofs.Math.Path.{refl}
use Rattle.std.proofs.Common.{⊎_elim, arith, get_or-set_same, get_or-set_other, leb-false}
use Rattle.base.specs.Pick.{pick_both, pick_cases, clash, same?}
use Rattle.members.specs.Sets.{count_in}
use Rattle.members.specs.Laws.{count_empty}
use Rattle.tally.specs.declared.Tally.{Tally}
use Rattle.tally.specs.declared.Read.{Read}
use Rattle.tally.specs.declared.Reads.{Reads}
use Rattle.tally.specs.Open.{Opened}
use Rattle.tally.specs.Open.{Replied}
use Rattle.tally.specs.Open.{no_read, new_read, put_read, reply_to, stays_open}
use Rattle.tally.proofs.Laws.{reply_id, reply_open}
use Rattle.tally.specs.ReadLaws.{Distinct, added, open_cases, open_distinct, close_distinct, close_each, put_count, put_distinct}
use Rattle.decide.specs.declared.Reply.{Reply}
use Rattle.decide.specs.Scalars.{is_member, quorum, may_be}
use Rattle.replica.specs.declared.Replica.{Replica}
use Rattle.replica.specs.Seen.{Made}
use Rattle.replica.specs.declared.Done.{Done}
use Rattle.replica.specs.Record.{Outcome, place, new_replica, summed}
use Rattle.replica.specs.Fit.{ready}
use Rattle.replica.specs.Messages.{or_kept, clean_reply, prepare_reply_step}
use Rattle.replica.specs.Durability.{moved_accept, logged_on, logged_step}
use Rattle.replica.specs.Quorumread.{with_reads, open_read_step, replied_step, read_reply_step}
use Rattle.replica.specs.Added.{moved_exec, executed_step}
use Rattle.replica.specs.Step.{Call, call_prepare, call_prepare_reply, call_accept, call_accept_reply, call_commit_notice, call_timeout, call_logged, call_offer, call_executed, call_open_read, call_read_reply, step}
use Rattle.laws.specs.Leaves.{or_kept_ways}
use Rattle.laws.specs.WaysMessages.{prepare_step_ways, accept_step_ways, accept_reply_step_ways}
use Rattle.laws.specs.WaysReply.{reply_on_ways, prepare_reply_step_ways}
use Rattle.laws.specs.WaysLeadership.{timeout_step_ways, commit_notice_step_ways}
use Rattle.laws.specs.WaysDurability.{logged, moved_ways, logged_step_ways}
use Rattle.laws.specs.WaysAdded.{offer_step_ways, executed_step_ways, read_place, read_at}
use Rattle.laws.specs.Counts.{Completes-leaves}
use Rattle.laws.specs.Conflict.{put_each}
use Rattle.laws.specs.Good.{Sized}

-- the two calls of reads
abbrev pub of_reads : Call → Bool
of_reads (call_prepare peer trigger ballot) = false
of_reads (call_prepare_reply peer m) = false
of_reads (call_accept peer slot ballot b) = false
of_reads (call_accept_reply peer slot ballot) = false
of_reads (call_commit_notice peer ballot bar) = false
of_reads (call_timeout source) = false
of_reads (call_logged d) = false
of_reads (call_offer b) = false
of_reads (call_executed slot) = false
of_reads (call_open_read id count keys) = true
of_reads (call_read_reply peer id from_leader reply) = true

-- a call is one of these two, or another
pub Call-cases : (P : Call → Type 0) → ((c : Call) → of_reads c ≡ false → P c) → ((id count : ℕ) (keys : List ℕ) → P (call_open_read id count keys))
    → ((peer id : ℕ) (leader : Bool) (reply : Tally) → P (call_read_reply peer id leader reply)) → (c : Call) → P c
Call-cases P other opens replies (call_prepare peer trigger ballot) = other (call_prepare peer trigger ballot) refl
Call-cases P other opens replies (call_prepare_reply peer m) = other (call_prepare_reply peer m) refl
Call-cases P other opens replies (call_accept peer slot ballot b) = other (call_accept peer slot ballot b) refl
Call-cases P other opens replies (call_accept_reply peer slot ballot) = other (call_accept_reply peer slot ballot) refl
Call-cases P other opens replies (call_commit_notice peer ballot bar) = other (call_commit_notice peer ballot bar) refl
Call-cases P other opens replies (call_timeout source) = other (call_timeout source) refl
Call-cases P other opens replies (call_logged d) = other (call_logged d) refl
Call-cases P other opens replies (call_offer b) = other (call_offer b) refl
Call-cases P other opens replies (call_executed slot) = other (call_executed slot) refl
Call-cases P other opens replies (call_open_read id count keys) = opens id count keys
Call-cases P other opens replies (call_read_reply peer id leader reply) = replies peer id leader reply

-- ── every other call leaves the table as it is ──
module _ (r : Replica) (n : ℕ) where
  abbrev Same : Outcome → Type 0
  Same o = o.replica.reads ≡ r.reads

  replied_same : (m : Reply) (peer : ℕ) → Same (prepare_reply_step r n peer m)
  replied_same m peer =
      prepare_reply_step_ways Same r n peer m (λ a h z. refl)
      (λ f. reply_on_ways Same r peer (clean_reply m) (λ a h z. refl) (λ g a. refl) (λ g h e. refl) (λ g h e q. refl) (λ g h e q b. refl))

  logged_same : (d : Done) → Same (logged_step r n d)
  unfolding logged_on
  logged_same d =
      logged_step_ways Same r n d (λ a h z. refl) (λ f z. refl)
      (λ f e o. reply_on_ways (λ (o : Outcome). Same (or_kept r o)) (logged r d) (logged r d).sc.id _
      (λ a h z. or_kept_ways Same r a (logged r d) (λ z. refl) (λ z. refl)) (λ g a. refl) (λ g h e. refl) (λ g h e q. refl) (λ g h e q b. refl))
      (λ f e h l p. refl)
      (λ f e after says c.
      Completes-leaves (λ (x : Replica) y. (moved_accept x d.slot).reads ≡ r.reads) (logged r d) (place r.sc d.slot) d.slot d.ballot after says c
      (λ s y few. moved_ways (λ (x : Replica). x.reads ≡ r.reads) _ d.slot refl (λ bar. refl)))
      (λ f e at. refl)

  executed_same : (slot : ℕ) → Same (executed_step r n slot)
  unfolding moved_exec
  executed_same slot = executed_step_ways Same r n slot (λ a h. refl) (λ f. refl)

pub other_calls : (r : Replica) (n : ℕ) (c : Call) → of_reads c ≡ false → (step r n c).replica.reads ≡ r.reads
other_calls r n (call_prepare peer trigger ballot) e = prepare_step_ways (Same r n) r n peer trigger ballot (λ a h. refl) (λ f. refl)
other_calls r n (call_prepare_reply peer m) e = replied_same r n m peer
other_calls r n (call_accept peer slot ballot b) e = accept_step_ways (Same r n) r n peer slot ballot b (λ a h. refl) (λ f. refl)
other_calls r n (call_accept_reply peer slot ballot) e = accept_reply_step_ways (Same r n) r n peer slot ballot (λ a h. refl) (λ f q. refl) (λ f q. refl)
other_calls r n (call_commit_notice peer ballot bar) e = commit_notice_step_ways (Same r n) r n peer ballot bar (λ a h. refl) (λ f. refl)
other_calls r n (call_timeout source) e = timeout_step_ways (Same r n) r n source (λ a h. refl) (λ ballot f. refl)
other_calls r n (call_logged d) e = logged_same r n d
other_calls r n (call_offer b) e = offer_step_ways (Same r n) r n b (λ a h. refl) (λ f. refl)
other_calls r n (call_executed slot) e = executed_same r n slot
other_calls r n (call_open_read id count keys) e = absurd (clash refl e)
other_calls r n (call_read_reply peer id from_leader reply) e = absurd (clash refl e)

-- ── what holds of the table in every replica that calls lead to ──

-- no two open reads have one id, and none has its quorum yet
pub record Waiting (r : Replica) : Type 0 where
  pub ids : Distinct r.reads
  pub waits : (i : ℕ) → i < r.reads.count → count_in (read_at r i).acks < quorum r.sc

pub Waiting-new : (id group start options : ℕ) → Waiting (new_replica id group start options).replica
unfolding new_replica
Waiting-new id group start options =
    pick_both (λ (m : Made). Waiting m.replica) (may_be id group start options) (record { ids = λ i j h. absurd (omega arith); waits = λ i h. absurd (omega arith) })
    (record { ids = λ i j h. absurd (omega arith); waits = λ i h. absurd (omega arith) })

module _ (r : Replica) (n : ℕ) (sized : Sized r) (w : Waiting r) where
  -- what is said of the reads in use, of a table that may take the place of this one
  abbrev Wait : Reads → Type 0
  Wait rs = (i : ℕ) → i < rs.count → count_in (get_or rs.reads i no_read).acks < quorum r.sc

  added_waits : (id count : ℕ) (keys : List ℕ) → r.reads.count < 16 → Wait (added r.reads id count keys)
  added_waits id count keys h i l =
      ⊎_elim
      (λ (e : i ≡ r.reads.count).
      rw (e, get_or-set_same r.reads.reads r.reads.count (new_read id count keys) no_read (omega (arith, sized.reads))) (omega (arith, count_empty)))
      (λ (e : i ≡ r.reads.count → ⊥).
      rw (get_or-set_other r.reads.reads r.reads.count i (new_read id count keys) no_read e) (w.waits i (omega (arith, e))))
      (same? i r.reads.count)

  pub open_waiting : (id count : ℕ) (keys : List ℕ) → Waiting (open_read_step r n id count keys).replica
  unfolding open_read_step
  open_waiting id count keys =
      pick_both (λ (o : Outcome). Waiting o.replica) (not (ready r n)) w
      (record {
        ids = open_distinct r.reads id count keys sized.reads w.ids;
        waits = open_cases r.reads id count keys (λ (o : Opened). Wait o.reads) w.waits w.waits (λ f h. added_waits id count keys h);
      })

  module _ (peer : ℕ) (leader : Bool) (reply : Tally) (at : ℕ) (h : at < r.reads.count) where
    abbrev told : Replied
    told = reply_to (quorum r.sc) peer leader reply (read_at r at)

    put_waiting : told.closes ≡ false → Waiting (with_reads r (put_read r.reads at told.read))
    put_waiting e =
        record {
          ids = put_distinct r.reads at told.read (reply_id (quorum r.sc) peer leader reply (read_at r at)) w.ids;
          waits = λ i l.
              put_each r.reads at told.read (λ (d : Read). count_in d.acks < quorum r.sc) i
              (λ f. reply_open (quorum r.sc) peer leader reply (read_at r at) (w.waits at h) e)
              (w.waits i (omega (arith, put_count r.reads at told.read)));
        }

    replied_waiting : Waiting (replied_step r at told).replica
    unfolding replied_step
    replied_waiting =
        pick_cases (λ (o : Outcome). Waiting o.replica) told.closes
        (λ t.
        record {
          ids = close_distinct r.reads at sized.reads w.ids;
          waits = close_each r.reads at (λ (d : Read). count_in d.acks < quorum r.sc) sized.reads w.waits;
        })
        (λ t. pick_both (λ (o : Outcome). Waiting o.replica) (stays_open told.answer) (put_waiting t) w)

  pub reply_waiting : (peer id : ℕ) (leader : Bool) (reply : Tally) → Waiting (read_reply_step r n peer id leader reply).replica
  unfolding read_reply_step
  reply_waiting peer id leader reply =
      let P : Outcome → Type 0 = λ o. Waiting o.replica in
      pick_both P (not (ready r n)) w
      (pick_both P (not (is_member r.sc peer)) w
      (pick_both P (ltb 8 reply.count) w
      (pick_cases P (leb r.reads.count (read_place r id)) (λ t. w) (λ t. replied_waiting peer leader reply (read_place r id) (leb-false _ _ t)))))

pub Waiting-summed : (o : Outcome) → Waiting o.replica → Waiting (summed o).replica
Waiting-summed o w = record { ids = w.ids; waits = w.waits }
