-- 01, "Both sides of each edge": the cases marked P, with what 02 changes of them and adds, as one list of runs with one claim about all of them, closed
-- by computation.
use Rattle.std.specs.Prelude.{Bool, true, false, ◌&&◌, ◌||◌, not, List, [], ◌∷◌, ◌++◌, ℕ, T, eqb, get_or, replicate}
use Rattle.base.specs.Scan.{scan}
use Rattle.base.specs.Gather.{gather}
use Rattle.members.specs.Sets.{has, insert, count, count_in}
use Rattle.batch.specs.declared.Batch.{Batch}
use Rattle.batch.specs.Batches.{make_batch, same_list}
use Rattle.batch.specs.Keys.{place_in, note_key, note_keys, new_keys, overfull_in}
use Rattle.tally.specs.declared.Best.{Best}
use Rattle.tally.specs.declared.Best.TheVariants.{Nothing, Slot as SlotAlone, Value}
use Rattle.tally.specs.declared.Tally.{Tally}
use Rattle.tally.specs.declared.Read.{Read}
use Rattle.tally.specs.Merge.{no_best, best_numbers, best_at, merge}
use Rattle.tally.specs.Open.{no_read, find_read, open_read, close_read, put_read, reply_to, fit_reads}
use Rattle.actions.specs.Actions.{flat}
use Rattle.slots.specs.declared.Slot.{Slot}
use Rattle.slots.specs.Slots.{no_vote, fit_slot}
use Rattle.decide.specs.declared.Scalars.{Scalars}
use Rattle.decide.specs.declared.Reply.{Reply}
use Rattle.decide.specs.Bars.{not_above, least_majority, with_bar, with_fallen}
use Rattle.decide.specs.Decide.{decide_accept, decide_accept_reply, decide_vote, decide_count, decide_promised, decide_accepted, decide_offer}
use Rattle.decide.specs.Scalars.{fit_scalars}
use Rattle.window.specs.Window.{slot_at, fit_slots, last_used, first_open, last_open, mark_stop, filled}
use Rattle.window.specs.Counting.{lacking, counts}
use Rattle.replica.specs.declared.Replica.{Replica}
use Rattle.replica.specs.declared.Entry.TheVariants.{PrepareBal}
use Rattle.replica.specs.Record.{Outcome, new_replica, noting, settled}
use Rattle.replica.specs.Fit.{fit}
use Rattle.replica.specs.Messages.{prepare_on, prepare_step, counted_on, voted_on, replied_on, reply_on, prepare_reply_step, accept_step, accept_reply_step}
use Rattle.replica.specs.Leadership.{lead_on, step_up, timeout_step, mark_on, commit_notice_step}
use Rattle.replica.specs.Durability.{prepared_done, moved_accept, accepted_done, pass_on, pass_stop, committed_done, logged_on, logged_step}
use Rattle.replica.specs.Quorumread.{open_read_step, replied_step, read_reply_step}
use Rattle.replica.specs.Added.{offer_step, moved_exec, executed_step}
use Rattle.replica.specs.Step.{Call, call_prepare, call_prepare_reply, call_accept_reply, call_timeout, call_logged, call_open_read, call_read_reply, step}

-- a read: its id, the members acknowledged, and of each key the key, tag, slot and value
abbrev pub key_numbers : Read → ℕ → List ℕ
key_numbers q i =
    get_or q.keys i 0 ∷ (best_numbers (best_at q.tally i)).0 ∷ (best_numbers (best_at q.tally i)).1 ∷ (best_numbers (best_at q.tally i)).2 ∷ []

abbrev pub read_numbers : Read → List ℕ
read_numbers q = q.id ∷ q.acks ∷ gather (key_numbers q) 0 q.tally.count

-- every open read
abbrev pub open_reads : Replica → List ℕ
open_reads r = gather (λ i. read_numbers (get_or r.reads.reads i no_read)) 0 r.reads.count

-- what is looked at after a call: the slots present, the largest ballot seen, the believed leader, the status of slot 0, and every open read
abbrev pub look : Replica → List ℕ
look r = r.window.len ∷ r.sc.bal_max_seen ∷ r.sc.leader ∷ (slot_at r.window 0).status ∷ open_reads r

-- one call, and what is to come of it: the answer, what is seen after it, the actions' numbers, and whether the whole record stays as it was
pub record Turn : Type 0 where
  pub call : Call
  pub answer : ℕ
  pub seen : List ℕ
  pub numbers : List ℕ
  pub stays : Bool

abbrev pub turn : Call → ℕ → List ℕ → List ℕ → Turn
turn c answer seen numbers = record { call = c; answer = answer; seen = seen; numbers = numbers; stays = false }

-- "changes nothing", "unchanged"; and a refusal
abbrev pub still : Call → ℕ → List ℕ → Turn
still c answer seen = record { call = c; answer = answer; seen = seen; numbers = []; stays = true }

-- every number of a record that is in use
abbrev pub flag_of : Bool → ℕ
flag_of true = 1
flag_of false = 0

abbrev pub batch_numbers : Batch → List ℕ
batch_numbers b = b.id ∷ b.count ∷ b.keys

abbrev pub slot_numbers : Slot → List ℕ
slot_numbers x =
    (x.ballot ∷ x.status ∷ x.vote.ballot ∷ flag_of x.external ∷ x.wal_offset ∷ batch_numbers x.batch)
    ++ (batch_numbers x.vote.batch
    ++ (flag_of x.leader.present ∷ x.leader.trigger ∷ x.leader.endprep ∷ x.leader.prepare_acks ∷ x.leader.prepare_max_bal
    ∷ x.leader.accept_acks ∷ x.leader.notes ∷ flag_of x.replica.present ∷ x.replica.source ∷ x.replica.trigger ∷ x.replica.endprep ∷ []))

abbrev pub scalar_numbers : Scalars → List ℕ
scalar_numbers sc =
    sc.id ∷ sc.group ∷ sc.start ∷ sc.options ∷ sc.leader ∷ sc.bal_prep_sent ∷ sc.bal_prepared ∷ sc.bal_max_seen ∷ sc.accept_bar
    ∷ sc.commit_bar ∷ sc.exec_bar ∷ sc.wal_offset ∷ sc.peer_accept_max ∷ sc.lead_trigger ∷ []

abbrev pub whole : Replica → List ℕ
whole r =
    scalar_numbers r.sc
    ++ ((flag_of r.bars.own ∷ r.window.len ∷ r.keys.count ∷ r.reads.count ∷ r.bars.bars)
    ++ (gather (λ i. slot_numbers (slot_at r.window i)) 0 r.window.len
    ++ (gather (λ i. get_or r.keys.keys i 0 ∷ get_or r.keys.slots i 0 ∷ []) 0 r.keys.count
    ++ open_reads r)))

-- a run from a new replica
pub record Run : Type 0 where
  pub id : ℕ
  pub group : ℕ
  pub options : ℕ
  pub turns : List Turn

abbrev pub run : ℕ → ℕ → List Turn → Run
run id group turns = record { id = id; group = group; options = 0; turns = turns }

-- by what is looked at after each call
module _ (look : Replica → List ℕ) where
  unfoldable pub right_turn : Replica → Outcome → Turn → Bool
  right_turn r o t =
      eqb o.answer t.answer && (same_list (look o.replica) t.seen && (same_list (flat o.actions) t.numbers
      && (not t.stays || same_list (whole o.replica) (whole r))))

  -- each turn of a run, one after the other
  unfoldable pub right_run : Replica → List Turn → Bool
  right_run r [] = true
  right_run r (t ∷ ts) = right_turn r (step r 3456 t.call) t && right_run (step r 3456 t.call).replica ts

  unfoldable pub right_runs : List Run → Bool
  right_runs [] = true
  right_runs (k ∷ ks) = right_run (new_replica k.id k.group 0 k.options).replica k.turns && right_runs ks

-- what is seen of a replica with no open read
abbrev pub plain : ℕ → ℕ → ℕ → ℕ → List ℕ
plain len seen leader status = len ∷ seen ∷ leader ∷ status ∷ []

abbrev pub numbers : ℕ → ℕ → ℕ → ℕ → ℕ → ℕ → List ℕ
numbers kind member slot trigger endprep ballot = kind ∷ member ∷ slot ∷ trigger ∷ endprep ∷ ballot ∷ replicate 12 0

abbrev pub promises : ℕ → ℕ → List ℕ
promises slot ballot = numbers 1 0 slot 0 0 ballot

abbrev pub prepare : ℕ → ℕ → ℕ → ℕ → ℕ → ℕ → ℕ → List ℕ → Turn
prepare peer trigger ballot answer len seen leader acts = turn (call_prepare peer trigger ballot) answer (plain len seen leader 0) acts

abbrev pub ignored : ℕ → ℕ → ℕ → ℕ → ℕ → ℕ → ℕ → Turn
ignored peer trigger ballot answer len seen leader = still (call_prepare peer trigger ballot) answer (plain len seen leader 0)

abbrev pub reply : ℕ → Reply
reply ballot = record { slot = 0; trigger = 0; endprep = 0; ballot = ballot; voted = false; vote = no_vote; bar = 0 }

-- what a reply tells of one key or of two
abbrev pub of_one : Best → Tally
of_one a = record { count = 1; bests = record { best = a } ∷ replicate 7 no_best }

abbrev pub of_two : Best → Best → Tally
of_two a b = record { count = 2; bests = record { best = a } ∷ record { best = b } ∷ replicate 6 no_best }

abbrev pub with_value : ℕ → ℕ → Best
with_value slot value = Value (record { slot = slot; value = value })

-- read 5, of key 4: the members acknowledged, and the key's tag, slot and value; the same for key 6 behind it
abbrev pub held : ℕ → ℕ → ℕ → ℕ → List ℕ
held acks tag slot value = 5 ∷ acks ∷ 4 ∷ tag ∷ slot ∷ value ∷ []

abbrev pub second : ℕ → ℕ → ℕ → List ℕ
second tag slot value = 6 ∷ tag ∷ slot ∷ value ∷ []

-- a call of a replica that is fresh but for its open reads: its answer, and the reads and actions after it
abbrev pub fresh : Call → ℕ → List ℕ → List ℕ → Turn
fresh c answer reads acts = turn c answer (0 ∷ 0 ∷ 255 ∷ 0 ∷ reads) acts

-- read 5 is opened, for key 4 or for keys 4 and 6
abbrev pub asked : Turn
asked = fresh (call_open_read 5 1 (4 ∷ replicate 7 0)) 0 (held 0 0 0 0) []

abbrev pub asked_two : Turn
asked_two = fresh (call_open_read 5 2 (4 ∷ 6 ∷ replicate 6 0)) 0 (held 0 0 0 0 ++ second 0 0 0) []

-- a member's reply to it
abbrev pub told : ℕ → Tally → ℕ → List ℕ → List ℕ → Turn
told peer reply answer reads acts = fresh (call_read_reply peer 5 false reply) answer reads acts

-- what it answers for the key at a place: a tag, and the value or the leader
abbrev pub answers : ℕ → ℕ → ℕ → List ℕ
answers place tag value = numbers 13 0 5 place tag value

-- group 3, fresh, id 2, start 0
unfoldable pub marked : List Run
marked =
    -- "Prepare from 0, ballot 257, trigger 2: three slots, one PrepareBal, slot 2. The same again: one PrepareBal again."
    -- "Then Prepare from 1, ballot 258, acts; Prepare from 0 with 257 after it changes nothing." "64 with 257 after 258 is 0."
    run 2 3
    (prepare 0 2 257 0 3 257 0 (promises 2 257)
    ∷ prepare 0 2 257 0 3 257 0 (promises 2 257)
    ∷ prepare 1 2 258 0 3 258 1 (promises 2 258)
    ∷ ignored 0 2 257 0 3 258 1
    ∷ ignored 0 64 257 0 3 258 1
    -- "Timeout from 1 while 0 is believed leader: 0, unchanged": here from 0 while 1 is believed leader
    ∷ still (call_timeout 0) 0 (plain 3 258 1 0)
    ∷ [])
    -- "Trigger 63 acts; 64 is 5"
    ∷ run 2 3 (prepare 0 63 257 0 64 257 0 (promises 63 257) ∷ [])
    ∷ run 2 3 (ignored 0 64 257 5 0 0 255 ∷ [])
    -- "Ballot 258 from 0: 3. Sender 2 or 3: 2."
    ∷ run 2 3 (ignored 0 2 258 3 0 0 255 ∷ ignored 2 2 259 2 0 0 255 ∷ ignored 3 2 260 2 0 0 255 ∷ [])
    -- "Timeout from 1 while 0 is believed leader: 0, unchanged."
    ∷ run 2 3 (prepare 0 2 257 0 3 257 0 (promises 2 257) ∷ still (call_timeout 1) 0 (plain 3 257 0 0) ∷ [])
    -- "Group 5: the third different AcceptReply commits; a repeated second does not." Member 0 leads after its own reply and those of 1 and 2
    ∷ run 0 5
    (turn (call_timeout 0) 0 (plain 1 257 0 1) (numbers 10 0 0 0 0 0 ++ numbers 9 255 0 0 0 0 ++ promises 0 257 ++ numbers 4 255 0 0 0 257)
    ∷ turn (call_prepare_reply 1 (reply 257)) 0 (plain 1 257 0 1) []
    ∷ turn (call_prepare_reply 2 (reply 257)) 0 (plain 1 257 0 1) []
    ∷ turn (call_logged (record { entry = PrepareBal; slot = 0; ballot = 257; size = 40 })) 0 (plain 1 257 0 2) (numbers 2 0 0 0 0 257 ++ numbers 6 255 0 0 0 257)
    ∷ turn (call_accept_reply 1 0 257) 0 (plain 1 257 0 2) []
    ∷ turn (call_accept_reply 2 0 257) 0 (plain 1 257 0 2) []
    ∷ still (call_accept_reply 2 0 257) 0 (plain 1 257 0 2)
    ∷ turn (call_accept_reply 3 0 257) 0 (plain 1 257 0 3) (numbers 3 0 0 0 0 257)
    ∷ [])
    -- "Slot and value into an empty tally holds", since 02, the value; with nothing else told it is the answer: before nothing, after it, and alone
    ∷ run 2 3 (asked ∷ told 0 (of_one (with_value 7 9)) 0 (held 1 2 7 9) [] ∷ told 1 (of_one Nothing) 0 [] (answers 0 2 9) ∷ [])
    ∷ run 2 3 (asked ∷ told 0 (of_one Nothing) 0 (held 1 0 0 0) [] ∷ told 1 (of_one (with_value 7 9)) 0 [] (answers 0 2 9) ∷ [])
    ∷ run 0 1 (asked ∷ told 0 (of_one (with_value 7 9)) 0 [] (answers 0 2 9) ∷ [])
    -- a value, and its slot alone: in both orders the value
    ∷ run 2 5
    (asked
    ∷ told 0 (of_one (with_value 7 9)) 0 (held 1 2 7 9) []
    ∷ told 1 (of_one (SlotAlone 7)) 0 (held 3 2 7 9) []
    ∷ told 3 (of_one Nothing) 0 [] (answers 0 2 9)
    ∷ [])
    ∷ run 2 5
    (asked
    ∷ told 0 (of_one (SlotAlone 7)) 0 (held 1 1 7 0) []
    ∷ told 1 (of_one (with_value 7 9)) 0 (held 3 2 7 9) []
    ∷ told 3 (of_one Nothing) 0 [] (answers 0 2 9)
    ∷ [])
    -- a smaller slot alone leaves the value; a larger one does not, and the answer is retry
    ∷ run 2 3 (asked ∷ told 0 (of_one (with_value 7 9)) 0 (held 1 2 7 9) [] ∷ told 1 (of_one (SlotAlone 6)) 0 [] (answers 0 2 9) ∷ [])
    ∷ run 2 3 (asked ∷ told 0 (of_one (with_value 7 9)) 0 (held 1 2 7 9) [] ∷ told 1 (of_one (SlotAlone 8)) 0 [] (answers 0 1 255) ∷ [])
    -- two values at one slot, the first into an empty tally: 12, the key before it merged, the sender not acknowledged, the read open; then the same
    -- sender tells the value that is held, and is counted
    ∷ run 2 3
    (asked_two
    ∷ told 0 (of_two (SlotAlone 3) (with_value 7 9)) 0 (held 1 1 3 0 ++ second 2 7 9) []
    ∷ told 1 (of_two (with_value 5 1) (with_value 7 8)) 12 (held 1 2 5 1 ++ second 2 7 9) []
    ∷ told 1 (of_two Nothing (with_value 7 9)) 0 [] (answers 0 2 1 ++ answers 1 2 9)
    ∷ [])
    -- the leader's reply replaces a value, too
    ∷ run 2 3
    (asked ∷ told 0 (of_one (with_value 7 9)) 0 (held 1 2 7 9) [] ∷ fresh (call_read_reply 1 5 true (of_one (SlotAlone 7))) 0 [] (answers 0 1 255) ∷ [])
    ∷ []

pub marked_hold : T (right_runs look marked)
unfolding right_runs marked right_run right_turn new_replica fit fit_scalars fit_slots fit_reads fit_slot filled noting settled prepare_on prepare_step last_used counted_on voted_on replied_on reply_on prepare_reply_step accept_step accept_reply_step first_open last_open lead_on step_up timeout_step mark_on mark_stop commit_notice_step prepared_done moved_accept accepted_done pass_on pass_stop committed_done logged_on logged_step open_read_step replied_step read_reply_step offer_step moved_exec executed_step decide_accept decide_accept_reply decide_vote decide_count decide_promised decide_accepted decide_offer not_above least_majority with_bar with_fallen has insert count count_in make_batch note_key note_keys new_keys place_in overfull_in merge find_read open_read close_read put_read reply_to scan counts lacking
marked_hold = tt
