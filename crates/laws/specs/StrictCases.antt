-- 02, Wish 6: both sides of each strict rule's edge, as one list of runs with one claim about all of them, closed by computation. Where the base
-- kind goes another way, the same run of a base replica stands beside it.
use Rattle.std.specs.Prelude.{false, List, [], ◌∷◌, ◌++◌, ℕ, T, replicate}
use Rattle.base.specs.Scan.{scan}
use Rattle.base.specs.Gather.{gather}
use Rattle.members.specs.Sets.{has, insert, count, count_in}
use Rattle.batch.specs.declared.Batch.{Batch}
use Rattle.batch.specs.Batches.{make_batch, same_batch}
use Rattle.batch.specs.Keys.{place_in, note_key, note_keys, new_keys, overfull_in}
use Rattle.tally.specs.Open.{fit_reads}
use Rattle.actions.specs.Actions.{row}
use Rattle.slots.specs.declared.Slot.{Slot}
use Rattle.slots.specs.Slots.{no_vote, fit_slot}
use Rattle.decide.specs.Scalars.{fit_scalars}
use Rattle.decide.specs.Bars.{not_above, least_majority, with_bar, with_fallen}
use Rattle.decide.specs.Decide.{decide_accept, decide_accept_reply, decide_vote, decide_count, decide_promised, decide_accepted, decide_offer}
use Rattle.window.specs.Window.{slot_at, fit_slots, last_used, first_open, last_open, mark_stop, filled}
use Rattle.window.specs.Counting.{lacking, counts}
use Rattle.replica.specs.declared.Replica.{Replica}
use Rattle.replica.specs.declared.Entry.{Entry}
use Rattle.replica.specs.declared.Entry.TheVariants.{PrepareBal, AcceptData, CommitSlot}
use Rattle.replica.specs.Record.{new_replica, noting, settled}
use Rattle.replica.specs.Fit.{fit}
use Rattle.replica.specs.Messages.{prepare_on, prepare_step, counted_on, voted_on, replied_on, reply_on, prepare_reply_step, accept_step, accept_reply_step}
use Rattle.replica.specs.Leadership.{lead_on, step_up, timeout_step, mark_on, commit_notice_step}
use Rattle.replica.specs.Durability.{prepared_done, moved_accept, accepted_done, pass_on, pass_stop, committed_done, logged_on, logged_step}
use Rattle.replica.specs.Added.{offer_step, moved_exec, executed_step}
use Rattle.replica.specs.Cases.{Turn, turn, still, Run, run, right_turn, right_run, right_runs, numbers, promises}
use Rattle.replica.specs.Step.{Call, call_prepare, call_prepare_reply, call_accept, call_commit_notice, call_timeout, call_logged, call_offer, call_executed}
use Rattle.laws.specs.WaysDurability.{completion}

-- "a strict kind of replica, chosen when it is made (trace: 4 more in trigger)"
abbrev pub strict_run : ℕ → ℕ → List Turn → Run
strict_run id group turns = record { id = id; group = group; options = 4; turns = turns }

-- ── what is seen after a call: accept_bar, wal_offset, and each slot ──
-- of a slot: its status and ballot, its vote's ballot and batch, the members noted there and those counted there
abbrev pub slot_seen : Slot → List ℕ
slot_seen s = s.status ∷ s.ballot ∷ s.vote.ballot ∷ s.vote.batch.id ∷ s.leader.notes ∷ s.leader.prepare_acks ∷ []

abbrev pub seen : Replica → List ℕ
seen r = r.sc.accept_bar ∷ r.sc.wal_offset ∷ gather (λ i. slot_seen (slot_at r.window i)) 0 r.window.len

abbrev pub slot : ℕ → ℕ → ℕ → ℕ → ℕ → ℕ → List ℕ
slot status ballot voted batch notes counted = status ∷ ballot ∷ voted ∷ batch ∷ notes ∷ counted ∷ []

-- a slot of which no reply came
abbrev pub quiet : ℕ → ℕ → ℕ → ℕ → List ℕ
quiet status ballot voted batch = slot status ballot voted batch 0 0

-- ── actions, by 01's kinds ──
abbrev pub writes : ℕ → ℕ → ℕ → List ℕ
writes place ballot batch = row 2 0 place 0 0 ballot 0 batch 0 0 []

abbrev pub marks : ℕ → ℕ → List ℕ
marks place ballot = numbers 3 0 place 0 0 ballot

abbrev pub promises_to : ℕ → ℕ → List ℕ
promises_to member ballot = numbers 5 member 0 0 0 ballot

abbrev pub accepts_to : ℕ → ℕ → List ℕ
accepts_to member ballot = numbers 7 member 0 0 0 ballot

-- "AcceptData, then Accept"
abbrev pub enters : ℕ → ℕ → ℕ → List ℕ
enters place ballot batch = writes place ballot batch ++ row 6 255 place 0 0 ballot 0 batch 0 0 []

-- "status up, heartbeat, PrepareBal by rising slot, Prepare"
abbrev pub leads : List ℕ → ℕ → List ℕ
leads logged ballot = numbers 10 0 0 0 0 0 ++ numbers 9 255 0 0 0 0 ++ logged ++ numbers 4 255 0 0 0 ballot

-- ── calls ──
-- a batch with no keys
abbrev pub plain_batch : ℕ → Batch
plain_batch id = record { id = id; count = 0; keys = replicate 8 0 }

abbrev pub accept : ℕ → ℕ → ℕ → ℕ → Call
accept peer place ballot id = call_accept peer place ballot (plain_batch id)

-- a member's PrepareReply with no vote
abbrev pub told : ℕ → ℕ → ℕ → ℕ → ℕ → Call
told peer place trigger endprep ballot =
    call_prepare_reply peer (record { slot = place; trigger = trigger; endprep = endprep; ballot = ballot; voted = false; vote = no_vote; bar = 0 })

-- a log completion, which is answered 0, and what is seen after it
abbrev pub done : Entry → ℕ → ℕ → ℕ → ℕ → List ℕ → List ℕ → Turn
done entry place ballot size bar slots acts = turn (call_logged (completion entry place ballot size)) 0 (bar ∷ size ∷ slots) acts

-- ── beginnings, which go one way in both kinds ──
-- member 2 of 3: 0's Prepare and then 1's, before an entry is done
abbrev pub prepared : List Turn → List Turn
prepared ts =
    turn (call_prepare 0 0 257) 0 (0 ∷ 0 ∷ quiet 1 257 0 0) (promises 0 257) ∷ turn (call_prepare 1 0 258) 0 (0 ∷ 0 ∷ quiet 1 258 0 0) (promises 0 258) ∷ ts

-- 0's batch 7 for slot 0
abbrev pub accepted : List Turn → List Turn
accepted ts = turn (accept 0 0 257 7) 0 (0 ∷ 0 ∷ quiet 2 257 257 7) (writes 0 257 7) ∷ ts

-- which is then committed
abbrev pub decided : List Turn → List Turn
decided ts = accepted (turn (call_commit_notice 0 257 1) 0 (0 ∷ 0 ∷ quiet 3 257 257 7) (marks 0 257) ∷ ts)

-- and executed
abbrev pub finished : List Turn → List Turn
finished ts =
    decided
    (done AcceptData 0 257 40 1 (quiet 3 257 257 7) (accepts_to 0 257)
    ∷ done CommitSlot 0 257 80 1 (quiet 3 257 257 7) (row 12 0 0 0 0 0 0 7 0 0 [])
    ∷ turn (call_executed 0) 0 (1 ∷ 80 ∷ quiet 4 257 257 7) []
    ∷ ts)

-- member 0 steps up at slot 0
abbrev pub stepped_up : List Turn → List Turn
stepped_up ts = turn (call_timeout 0) 0 (0 ∷ 0 ∷ quiet 1 257 0 0) (leads (promises 0 257) 257) ∷ ts

-- member 0 of 3 steps up with slots 0 and 1, of which it voted in slot 1
abbrev pub stepped_up_two : List Turn → List Turn
stepped_up_two ts =
    turn (accept 1 1 258 7) 0 (0 ∷ 0 ∷ quiet 0 0 0 0 ++ quiet 2 258 258 7) (writes 1 258 7)
    ∷ turn (call_timeout 1) 0 (0 ∷ 0 ∷ quiet 1 513 0 0 ++ quiet 1 513 258 7) (leads (promises 0 513 ++ promises 1 513) 513)
    ∷ ts

-- strict member 0 of 3 leads slot 0 by its own reply; with member 2's it enters
abbrev pub counting : List Turn → List Turn
counting ts = stepped_up (done PrepareBal 0 257 40 0 (slot 1 257 0 0 1 1) [] ∷ ts)

abbrev pub entered : List Turn → List Turn
entered ts = counting (turn (told 2 0 0 0 257) 0 (0 ∷ 40 ∷ slot 2 257 257 0 5 5) (enters 0 257 0) ∷ ts)

unfoldable pub edges : List Run
edges =
    -- (a) "a prepare .. completion replies .. only if its ballot is the slot's ballot": older, the slot's, newer; wal_offset moves
    strict_run 2 3
    (prepared
    (done PrepareBal 0 257 40 0 (quiet 1 258 0 0) []
    ∷ done PrepareBal 0 258 80 0 (quiet 1 258 0 0) (promises_to 1 258)
    ∷ done PrepareBal 0 513 120 0 (quiet 1 258 0 0) []
    ∷ []))
    -- the base kind answers at the slot's ballot
    ∷ run 2 3 (prepared (done PrepareBal 0 257 40 0 (quiet 1 258 0 0) (promises_to 1 258) ∷ []))
    -- "or counts": a leader that stepped up twice
    ∷ strict_run 0 3
    (stepped_up
    (turn (call_timeout 0) 0 (0 ∷ 0 ∷ quiet 1 513 0 0) (leads (promises 0 513) 513)
    ∷ done PrepareBal 0 257 40 0 (quiet 1 513 0 0) []
    ∷ done PrepareBal 0 513 80 0 (slot 1 513 0 0 1 1) []
    ∷ []))
    ∷ run 0 3
    (stepped_up
    (turn (call_timeout 0) 0 (0 ∷ 0 ∷ quiet 1 513 0 0) (leads (promises 0 513) 513)
    ∷ done PrepareBal 0 257 40 0 (slot 1 513 0 0 0 1) []
    ∷ []))
    -- (a) "an accept completion": its ballot older than the slot's, then the slot's; "bars move as before"
    ∷ strict_run 2 3
    (accepted
    (turn (accept 1 0 258 8) 0 (0 ∷ 0 ∷ quiet 2 258 258 8) (writes 0 258 8)
    ∷ done AcceptData 0 257 40 1 (quiet 2 258 258 8) []
    ∷ done AcceptData 0 258 80 1 (quiet 2 258 258 8) (accepts_to 1 258)
    ∷ []))
    -- "and for an accept entry also the voted ballot": older than the slot's, the slot's but not the vote's, both
    ∷ strict_run 2 3
    (accepted
    (turn (call_prepare 1 0 258) 0 (0 ∷ 0 ∷ quiet 1 258 257 7) (promises 0 258)
    ∷ done AcceptData 0 257 40 0 (quiet 1 258 257 7) []
    ∷ done AcceptData 0 258 80 0 (quiet 1 258 257 7) []
    ∷ turn (accept 1 0 258 7) 0 (0 ∷ 80 ∷ quiet 2 258 258 7) (writes 0 258 7)
    ∷ done AcceptData 0 258 120 1 (quiet 2 258 258 7) (accepts_to 1 258)
    ∷ []))
    -- the base kind: "answered with the newer ballot, which was never accepted"
    ∷ run 2 3
    (accepted
    (turn (call_prepare 1 0 258) 0 (0 ∷ 0 ∷ quiet 1 258 257 7) (promises 0 258)
    ∷ done AcceptData 0 257 40 0 (quiet 1 258 257 7) (accepts_to 1 258)
    ∷ []))
    -- the same two silences where the bar stands at a slot that is not put back, so that it moves
    ∷ strict_run 2 3
    (decided
    (turn (call_prepare 1 0 258) 0 (0 ∷ 0 ∷ quiet 3 258 257 7) (promises 0 258) ∷ done AcceptData 0 257 40 1 (quiet 3 258 257 7) [] ∷ []))
    ∷ strict_run 2 3
    (decided
    (turn (call_prepare 1 0 258) 0 (0 ∷ 0 ∷ quiet 3 258 257 7) (promises 0 258) ∷ done AcceptData 0 258 40 1 (quiet 3 258 257 7) [] ∷ []))
    -- a leader of one that entered at two ballots: the older entry does not count, the newer commits
    ∷ strict_run 0 1
    (stepped_up
    (done PrepareBal 0 257 40 0 (slot 2 257 257 0 1 1) (enters 0 257 0)
    ∷ turn (call_timeout 0) 0 (0 ∷ 40 ∷ quiet 1 513 257 0) (leads (promises 0 513) 513)
    ∷ done PrepareBal 0 513 80 0 (slot 2 513 513 0 1 1) (enters 0 513 0)
    ∷ done AcceptData 0 257 120 1 (slot 2 513 513 0 1 1) []
    ∷ done AcceptData 0 513 160 1 (slot 3 513 513 0 1 1) (marks 0 513)
    ∷ []))
    ∷ run 0 1
    (stepped_up
    (done PrepareBal 0 257 40 0 (slot 2 257 0 0 0 1) (enters 0 257 0)
    ∷ turn (call_timeout 0) 0 (0 ∷ 40 ∷ quiet 1 513 0 0) (leads (promises 0 513) 513)
    ∷ done PrepareBal 0 513 80 0 (slot 2 513 0 0 0 1) (enters 0 513 0)
    ∷ done AcceptData 0 257 120 1 (slot 3 513 0 0 0 1) (marks 0 513)
    ∷ []))
    -- (b) "A leader entering Accept, by quorum or by offer, records the vote as its own", in a group of one, which commits by it
    ∷ strict_run 0 1
    (stepped_up
    (done PrepareBal 0 257 40 0 (slot 2 257 257 0 1 1) (enters 0 257 0)
    ∷ turn (call_offer (plain_batch 7)) 0 (0 ∷ 40 ∷ slot 2 257 257 0 1 1 ++ quiet 2 257 257 7) (enters 1 257 7)
    ∷ done AcceptData 0 257 80 2 (slot 3 257 257 0 1 1 ++ quiet 2 257 257 7) (marks 0 257)
    ∷ done AcceptData 1 257 120 2 (slot 3 257 257 0 1 1 ++ quiet 3 257 257 7) (marks 1 257)
    ∷ []))
    -- the base kind: "voted not set"
    ∷ run 0 1
    (stepped_up
    (done PrepareBal 0 257 40 0 (slot 2 257 0 0 0 1) (enters 0 257 0)
    ∷ turn (call_offer (plain_batch 7)) 0 (0 ∷ 40 ∷ slot 2 257 0 0 0 1 ++ quiet 2 257 0 0) (enters 1 257 7)
    ∷ done AcceptData 0 257 80 2 (slot 3 257 0 0 0 1 ++ quiet 2 257 0 0) (marks 0 257)
    ∷ done AcceptData 1 257 120 2 (slot 3 257 0 0 0 1 ++ quiet 3 257 0 0) (marks 1 257)
    ∷ []))
    -- (c) "every slot from trigger to e that is Preparing there has been noted from that member": slot 1 = e first, of self and of member 2, and
    -- then the last missing note; at quorum "all Preparing slots from trigger on enter Accept"
    ∷ strict_run 0 3
    (stepped_up_two
    (done PrepareBal 1 513 40 0 (quiet 1 513 0 0 ++ slot 1 513 258 7 1 0) []
    ∷ done PrepareBal 0 513 80 0 (slot 1 513 0 0 1 1 ++ slot 1 513 258 7 1 0) []
    ∷ turn (told 2 1 0 1 513) 0 (0 ∷ 80 ∷ slot 1 513 0 0 1 1 ++ slot 1 513 258 7 5 0) []
    ∷ turn (told 2 0 0 1 513) 0 (0 ∷ 80 ∷ slot 2 513 513 0 5 5 ++ slot 2 513 513 7 5 0) (enters 0 513 0 ++ enters 1 513 7)
    ∷ []))
    -- the base kind counts "on its reply for its own endprep slot"
    ∷ run 0 3
    (stepped_up_two
    (done PrepareBal 1 513 40 0 (slot 1 513 0 0 0 1 ++ quiet 1 513 258 7) []
    ∷ turn (told 2 1 0 1 513) 0 (0 ∷ 40 ∷ slot 2 513 0 0 0 5 ++ quiet 2 513 258 7) (enters 0 513 0 ++ enters 1 513 7)
    ∷ []))
    -- "when slot e exists at the leader": e at the log end, and one below it
    ∷ strict_run 0 3
    (counting
    (turn (told 2 0 0 1 257) 0 (0 ∷ 40 ∷ slot 1 257 0 0 5 1) []
    ∷ turn (told 2 0 0 0 257) 0 (0 ∷ 40 ∷ slot 2 257 257 0 5 5) (enters 0 257 0)
    ∷ []))
    -- e at the log end until the reply for slot e appends it
    ∷ strict_run 0 3
    (counting
    (turn (told 2 0 0 1 257) 0 (0 ∷ 40 ∷ slot 1 257 0 0 5 1) []
    ∷ turn (told 2 1 0 1 257) 0 (0 ∷ 40 ∷ slot 2 257 257 0 5 5 ++ slot 2 257 257 0 4 0) (promises 1 257 ++ enters 0 257 0 ++ enters 1 257 0)
    ∷ []))
    -- "A reply with another trigger is ignored, before 6": one that the base kind counts, a slot below the trigger, a trigger past the log
    ∷ strict_run 0 3
    (stepped_up_two
    (still (told 2 1 1 1 513) 0 (0 ∷ 0 ∷ quiet 1 513 0 0 ++ quiet 1 513 258 7)
    ∷ still (told 2 0 1 1 513) 0 (0 ∷ 0 ∷ quiet 1 513 0 0 ++ quiet 1 513 258 7)
    ∷ still (told 2 2 2 2 513) 0 (0 ∷ 0 ∷ quiet 1 513 0 0 ++ quiet 1 513 258 7)
    ∷ []))
    ∷ run 0 3
    (stepped_up_two
    (turn (told 2 1 1 1 513) 0 (0 ∷ 0 ∷ quiet 1 513 0 0 ++ slot 1 513 258 7 0 4) []
    ∷ still (told 2 0 1 1 513) 6 (0 ∷ 0 ∷ quiet 1 513 0 0 ++ slot 1 513 258 7 0 4)
    ∷ still (told 2 2 2 2 513) 6 (0 ∷ 0 ∷ quiet 1 513 0 0 ++ slot 1 513 258 7 0 4)
    ∷ []))
    -- its own trigger, and 6 as before: a slot past endprep; and 4 of one that leads no more, with another trigger too
    ∷ strict_run 0 3
    (stepped_up
    (still (told 2 1 0 0 257) 6 (0 ∷ 0 ∷ quiet 1 257 0 0)
    ∷ turn (call_prepare 1 0 258) 0 (0 ∷ 0 ∷ quiet 1 258 0 0) (numbers 11 0 0 0 0 0 ++ promises 0 258)
    ∷ still (told 2 0 1 1 257) 4 (0 ∷ 0 ∷ quiet 1 258 0 0)
    ∷ []))
    -- "notes each member's reply per slot, at any status": slot 0 is Accepting as member 1's comes
    ∷ strict_run 0 3 (entered (turn (told 1 0 0 0 257) 0 (0 ∷ 40 ∷ slot 2 257 257 0 7 7) [] ∷ []))
    -- "Whenever the arriving member counts": member 1 appends slots 1 and 2 and lacks slot 1; a repeated reply of member 2, counted before, enters them
    ∷ strict_run 0 3
    (entered
    (turn (told 1 2 0 2 257) 0 (0 ∷ 40 ∷ slot 2 257 257 0 5 5 ++ quiet 1 257 0 0 ++ slot 1 257 0 0 2 0) (promises 1 257 ++ promises 2 257)
    ∷ turn (told 2 0 0 0 257) 0 (0 ∷ 40 ∷ slot 2 257 257 0 5 5 ++ quiet 2 257 257 0 ++ slot 2 257 257 0 2 0) (enters 1 257 0 ++ enters 2 257 0)
    ∷ []))
    -- the notes are of one lead: a step-up clears them
    ∷ strict_run 0 3 (counting (turn (call_timeout 0) 0 (0 ∷ 40 ∷ quiet 1 513 0 0) (leads (promises 0 513) 513) ∷ []))
    -- (d) "Prepare and Accept on a Committed or Executed slot keep its status and update the rest"; 15: "Accept with another batch for a committed
    -- slot", another id or another list; an old ballot stays 0 (below Committed another batch is taken: the fifth run)
    ∷ strict_run 2 3
    (decided
    (turn (call_prepare 1 0 258) 0 (0 ∷ 0 ∷ quiet 3 258 257 7) (promises 0 258)
    ∷ turn (accept 1 0 258 7) 0 (0 ∷ 0 ∷ quiet 3 258 258 7) (writes 0 258 7)
    ∷ still (accept 1 0 258 8) 15 (0 ∷ 0 ∷ quiet 3 258 258 7)
    ∷ still (call_accept 1 0 258 (record { id = 7; count = 1; keys = replicate 8 0 })) 15 (0 ∷ 0 ∷ quiet 3 258 258 7)
    ∷ still (accept 0 0 257 8) 0 (0 ∷ 0 ∷ quiet 3 258 258 7)
    ∷ []))
    -- 15 with nothing else before it: not even the ballot is taken
    ∷ strict_run 2 3 (decided (still (accept 1 0 258 8) 15 (0 ∷ 0 ∷ quiet 3 257 257 7) ∷ []))
    -- the base kind puts it back, and takes the other batch
    ∷ run 2 3
    (decided
    (turn (call_prepare 1 0 258) 0 (0 ∷ 0 ∷ quiet 1 258 257 7) (promises 0 258)
    ∷ turn (accept 1 0 258 8) 0 (0 ∷ 0 ∷ quiet 2 258 258 8) (writes 0 258 8)
    ∷ []))
    -- an executed slot
    ∷ strict_run 2 3
    (finished
    (turn (call_prepare 1 0 258) 0 (1 ∷ 80 ∷ quiet 4 258 257 7) (promises 0 258)
    ∷ turn (accept 1 0 258 7) 0 (1 ∷ 80 ∷ quiet 4 258 258 7) (writes 0 258 7)
    ∷ still (accept 1 0 258 8) 15 (1 ∷ 80 ∷ quiet 4 258 258 7)
    ∷ []))
    ∷ run 2 3 (finished (turn (call_prepare 1 0 258) 0 (1 ∷ 80 ∷ quiet 1 258 257 7) (promises 0 258) ∷ []))
    ∷ []

pub edges_hold : T (right_runs seen edges)
unfolding right_runs edges right_run right_turn new_replica fit fit_scalars fit_slots fit_reads fit_slot filled noting settled prepare_on prepare_step last_used counted_on voted_on replied_on reply_on prepare_reply_step accept_step accept_reply_step first_open last_open lead_on step_up timeout_step mark_on mark_stop commit_notice_step prepared_done moved_accept accepted_done pass_on pass_stop committed_done logged_on logged_step offer_step moved_exec executed_step decide_accept decide_accept_reply decide_vote decide_count decide_promised decide_accepted decide_offer not_above least_majority with_bar with_fallen has insert count count_in make_batch same_batch note_key note_keys new_keys place_in overfull_in scan counts lacking
edges_hold = tt
