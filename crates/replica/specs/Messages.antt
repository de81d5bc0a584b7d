-- 000, messages.rs: Prepare, PrepareReply, Accept, AcceptReply. Each test stands in 01's order of answers.
use Rattle.std.specs.Prelude.{Bool, true, not, ◌&&◌, List, [], ◌∷◌, ◌++◌, ℕ, ◌+◌, ltb, leb, eqb}
use Rattle.base.specs.Pick.{pick, larger}
use Rattle.base.specs.Gather.{gather}
use Rattle.base.specs.Find.{any}
use Rattle.members.specs.Ballots.{owns}
use Rattle.batch.specs.declared.Batch.{Batch}
use Rattle.batch.specs.Batches.{is_batch, make_batch}
use Rattle.actions.specs.declared.Action.TheVariants.{StatusDown}
use Rattle.actions.specs.Actions.{Act, bare}
use Rattle.slots.specs.declared.ReplicaBook.{ReplicaBook}
use Rattle.slots.specs.declared.Slot.{Slot}
use Rattle.slots.specs.Slots.{new_book, prepared_slot, appended_slot, noted_slot, entered_slot}
use Rattle.decide.specs.declared.Scalars.{Scalars}
use Rattle.decide.specs.Decide.{Decided}
use Rattle.decide.specs.declared.Reply.{Reply}
use Rattle.decide.specs.Scalars.{leads, is_peer, strict, followed, steps_down}
use Rattle.decide.specs.Bars.{with_bar, with_fallen}
use Rattle.decide.specs.Decide.{decide_accept, decide_accept_reply, goes_on, decide_vote, is_counted, decide_count}
use Rattle.decide.specs.PrepareReply.{in_log, with_voted}
use Rattle.window.specs.declared.Window.{Window}
use Rattle.window.specs.Window.{slot_at, put_slot, filled, grown, sweep, last_used}
use Rattle.window.specs.Counting.{counts}
use Rattle.window.specs.Acts.{promise, enter_acts}
use Rattle.replica.specs.declared.Replica.{Replica}
use Rattle.replica.specs.Record.{Outcome, kept, noting, settled, with_window, place, number, log_end}
use Rattle.replica.specs.Fit.{ready, unready}

-- a batch as a message names it, its unused key numbers dropped
abbrev pub clean : Batch → Batch
clean b = (make_batch b.id b.count b.keys).batch

-- check_leader: "a leader first reports that it is none"
abbrev pub down_acts : Scalars → ℕ → List Act
down_acts sc ballot = pick (steps_down sc ballot) (bare StatusDown ∷ []) []

-- ── Prepare: "covers trigger to the larger of trigger and the last non-null slot, and puts even committed slots back to Preparing" (in the base
-- kind, `put_back`) ──
abbrev pub prepare_top : Window → ℕ → ℕ
prepare_top w from = larger from (last_used w)

abbrev pub prepare_book : Scalars → Window → ℕ → ℕ → ReplicaBook
prepare_book sc w from peer = record { present = true; source = peer; trigger = number sc from; endprep = number sc (prepare_top w from) }

-- the window w has the slot at place `from`; 6: "debug_assert!(inst.bal <= ballot)"
unfoldable pub prepare_on : Replica → Window → ℕ → ℕ → ℕ → Outcome
prepare_on r w from peer ballot =
    pick (any (λ i. ltb ballot (slot_at w i).ballot) from (prepare_top w from + 1)) (kept 6 r)
    (record {
      answer = 0;
      replica =
          with_window r (followed r.sc peer ballot)
          (sweep (λ i s. prepared_slot (strict r.sc) ballot (prepare_book r.sc w from peer) s) from (prepare_top w from + 1) w);
      actions = down_acts r.sc ballot ++ gather (λ i. promise (number r.sc i) ballot ∷ []) from (prepare_top w from + 1);
    })

unfoldable pub prepare_step : Replica → ℕ → ℕ → ℕ → ℕ → Outcome
prepare_step r room peer trigger ballot =
    pick (not (ready r room)) (kept (unready r room) r)
    (pick (not (is_peer r.sc peer)) (kept 2 r)
    (pick (not (owns ballot peer)) (kept 3 r)
    (pick (ltb trigger r.sc.start) (kept 0 r)
    (pick (ltb ballot r.sc.bal_max_seen) (kept 0 r)
    (pick (leb (r.sc.start + 64) trigger) (kept 5 r)
    (prepare_on r (grown r.window (place r.sc trigger + 1)) (place r.sc trigger) peer ballot))))))

-- ── PrepareReply: i is the place of its slot, j that of its trigger ──
-- "past the log end it appends slots, and logs them": the slot, and the window with it up to place i
abbrev pub appended_as : Replica → ℕ → Slot
appended_as r j = appended_slot r.sc.bal_prep_sent (new_book (number r.sc j) (slot_at r.window j).leader.endprep)

abbrev pub appended : Replica → ℕ → ℕ → Window
appended r i j = filled (appended_as r j) r.window (i + 1)

abbrev pub append_acts : Replica → ℕ → List Act
append_acts r i = gather (λ k. promise (number r.sc k) r.sc.bal_prep_sent ∷ []) r.window.len (i + 1)

-- the window in which the reply is noted at its slot
abbrev pub noted : Scalars → Window → ℕ → ℕ → Window
noted sc w i peer = put_slot w i (noted_slot (strict sc) peer (slot_at w i))

-- the replica with a member's accept bar in its table
abbrev pub tabled : Replica → ℕ → ℕ → Replica
tabled r peer bar =
    record { sc = with_fallen r.sc r.bars peer bar; bars = with_bar r.sc r.bars peer bar; window = r.window; keys = r.keys; reads = r.reads; summary = r.summary }

-- counted at the trigger slot, at place j of the window w: below the quorum only that is kept; at quorum the slots from there on enter Accept
-- (02, Wish 6, (c): "Whenever the arriving member counts and a quorum is counted")
unfoldable pub counted_on : Replica → Window → ℕ → ℕ → List Act → Decided → Outcome
counted_on r w j ballot acts d =
    pick (not (eqb d.answer 0)) (kept d.answer r)
    (pick (not (is_counted d.sc d.slot)) (record { answer = 0; replica = with_window r d.sc (put_slot w j d.slot); actions = acts })
    (record {
      answer = 0;
      replica = with_window r d.sc (sweep (λ k s. entered_slot (strict r.sc) ballot s) j w.len (put_slot w j d.slot));
      actions = acts ++ gather (λ k. enter_acts (number r.sc k) ballot (slot_at (put_slot w j d.slot) k)) j w.len;
    }))

-- the vote is decided for the slot at place i; the member counts, or it does not (`counts`); around the rest 7, the last test
unfoldable pub voted_on : Replica → Window → ℕ → ℕ → ℕ → Reply → List Act → Decided → Outcome
voted_on r w i j peer m acts d =
    pick (not (eqb d.answer 0)) (kept d.answer r)
    (noting r d.noted m.slot d.slot.batch
    (pick (not (counts r.sc w j peer m)) (record { answer = 0; replica = with_window r d.sc (put_slot w i d.slot); actions = acts })
    (counted_on r (put_slot w i d.slot) j m.ballot acts (decide_count r.sc (slot_at (put_slot w i d.slot) j) peer m.ballot))))

-- the peer accept table is updated, and the slot is present and the reply noted, at place i of the window w: "ignore spurious duplications and outdated replies"
unfoldable pub replied_on : Replica → Window → ℕ → ℕ → ℕ → Reply → List Act → Outcome
replied_on r w i j peer m acts =
    pick (not (goes_on r.sc (slot_at w i) m.ballot)) (record { answer = 0; replica = with_window r r.sc w; actions = acts })
    (voted_on r w i j peer m acts (decide_vote r.sc (slot_at w i) m.ballot m.voted m.vote))

-- `in_log` of a replica
abbrev pub in_range : Replica → Reply → Bool
in_range r m = in_log r.sc.start r.window.len m

-- a refusal keeps the replica as it was before the peer accept table was updated
abbrev pub or_kept : Replica → Outcome → Outcome
or_kept r o = pick (eqb o.answer 0) o (kept o.answer r)

-- 02, Wish 6, (c): "A reply with another trigger is ignored, before 6."
abbrev pub is_elsewhere : Scalars → Reply → Bool
is_elsewhere sc m = strict sc && not (eqb m.trigger sc.lead_trigger)

-- from the test of the ballot on, as a leader's own log completion runs it too; "elsewhere it is 4 at any slot";
-- "PrepareReply updates the peer accept table before the slot's status is looked at"
unfoldable pub reply_on : Replica → ℕ → Reply → Outcome
reply_on r peer m =
    let i : ℕ = place r.sc m.slot in
    let j : ℕ = place r.sc m.trigger in
    pick (not (eqb m.ballot r.sc.bal_prep_sent)) (kept 0 r)
    (pick (not (leads r.sc)) (kept 4 r)
    (pick (is_elsewhere r.sc m) (kept 0 r)
    (pick (not (in_range r m)) (kept 6 r)
    (pick (not (slot_at r.window j).leader.present) (kept 0 r)
    (pick (leb (r.sc.start + 64) m.slot) (kept 5 r)
    (or_kept r (replied_on (tabled r peer m.bar) (noted r.sc (appended r i j) i peer) i j peer m (append_acts r i))))))))

-- `clean` of the batch that a reply's vote has
abbrev pub clean_reply : Reply → Reply
clean_reply m = with_voted m (clean m.vote.batch)

unfoldable pub prepare_reply_step : Replica → ℕ → ℕ → Reply → Outcome
prepare_reply_step r room peer m =
    pick (not (ready r room)) (kept (unready r room) r)
    (pick (not (is_peer r.sc peer)) (kept 2 r)
    (pick (m.voted && not (is_batch m.vote.batch.id m.vote.batch.count)) (kept 10 r)
    (pick (ltb m.slot r.sc.start) (kept 0 r)
    (reply_on r peer (clean_reply m)))))

-- ── Accept ──
-- the window w has the slot at place i
abbrev pub accept_on : Replica → Window → ℕ → ℕ → ℕ → ℕ → Batch → Outcome
accept_on r w i peer slot ballot b = settled r w i slot (decide_accept r.sc (slot_at w i) peer slot ballot b)

unfoldable pub accept_step : Replica → ℕ → ℕ → ℕ → ℕ → Batch → Outcome
accept_step r room peer slot ballot b =
    pick (not (ready r room)) (kept (unready r room) r)
    (pick (not (is_peer r.sc peer)) (kept 2 r)
    (pick (not (owns ballot peer)) (kept 3 r)
    (pick (not (is_batch b.id b.count)) (kept 10 r)
    (pick (ltb slot r.sc.start) (kept 0 r)
    (pick (ltb ballot r.sc.bal_max_seen) (kept 0 r)
    (pick (leb (r.sc.start + 64) slot) (kept 5 r)
    (accept_on r (grown r.window (place r.sc slot + 1)) (place r.sc slot) peer slot ballot (clean b))))))))

-- ── AcceptReply ──
unfoldable pub accept_reply_step : Replica → ℕ → ℕ → ℕ → ℕ → Outcome
accept_reply_step r room peer slot ballot =
    pick (not (ready r room)) (kept (unready r room) r)
    (pick (not (is_peer r.sc peer)) (kept 2 r)
    (pick (ltb slot r.sc.start) (kept 0 r)
    (pick (not (eqb ballot r.sc.bal_prepared)) (kept 0 r)
    (pick (leb (log_end r) slot) (kept 4 r)
    (settled r r.window (place r.sc slot) slot (decide_accept_reply r.sc (slot_at r.window (place r.sc slot)) peer slot ballot))))))
