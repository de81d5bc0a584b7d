-- Every call as one data type, what each does as one match, what a call hands back of it, and how a message sent becomes a call.
use Rattle.std.specs.Prelude.{◌≡◌, Bool, List, [], ◌∷◌, ℕ, ltb, length}
use Rattle.batch.specs.declared.Batch.{Batch}
use Rattle.tally.specs.declared.Tally.{Tally}
use Rattle.actions.specs.declared.Action.{Action}
use Rattle.actions.specs.declared.Action.TheVariants.{PrepareBal, AcceptData, CommitSlot, Prepare, PrepareReply, Accept, AcceptReply, CommitNotice, Heartbeat, StatusUp, StatusDown, Execute, ReadAnswer}
use Rattle.actions.specs.Actions.{Act, write_actions}
use Rattle.decide.specs.declared.Reply.{Reply}
use Rattle.replica.specs.declared.Replica.{Replica}
use Rattle.replica.specs.Seen.{Handled}
use Rattle.replica.specs.declared.Done.{Done}
use Rattle.replica.specs.Record.{Outcome, summed}
use Rattle.replica.specs.Messages.{prepare_step, prepare_reply_step, accept_step, accept_reply_step}
use Rattle.replica.specs.Leadership.{timeout_step, commit_notice_step}
use Rattle.replica.specs.Durability.{logged_step}
use Rattle.replica.specs.Quorumread.{open_read_step, read_reply_step}
use Rattle.replica.specs.Added.{offer_step, executed_step}

pub data Call : Type 0 where
  call_prepare : (peer trigger ballot : ℕ) → Call
  call_prepare_reply : (peer : ℕ) → Reply → Call
  call_accept : (peer slot ballot : ℕ) → Batch → Call
  call_accept_reply : (peer slot ballot : ℕ) → Call
  call_commit_notice : (peer ballot bar : ℕ) → Call
  call_timeout : (source : ℕ) → Call
  call_logged : Done → Call
  call_offer : Batch → Call
  call_executed : (slot : ℕ) → Call
  call_open_read : (id count : ℕ) → List ℕ → Call
  call_read_reply : (peer id : ℕ) → Bool → Tally → Call

-- what a call does to a replica that is lent room for so many numbers, the summary aside
abbrev pub does : Replica → ℕ → Call → Outcome
does r room (call_prepare peer trigger ballot) = prepare_step r room peer trigger ballot
does r room (call_prepare_reply peer m) = prepare_reply_step r room peer m
does r room (call_accept peer slot ballot b) = accept_step r room peer slot ballot b
does r room (call_accept_reply peer slot ballot) = accept_reply_step r room peer slot ballot
does r room (call_commit_notice peer ballot bar) = commit_notice_step r room peer ballot bar
does r room (call_timeout source) = timeout_step r room source
does r room (call_logged d) = logged_step r room d
does r room (call_offer b) = offer_step r room b
does r room (call_executed slot) = executed_step r room slot
does r room (call_open_read id count keys) = open_read_step r room id count keys
does r room (call_read_reply peer id from_leader reply) = read_reply_step r room peer id from_leader reply

-- the same, with the summary
abbrev pub step : Replica → ℕ → Call → Outcome
step r room c = summed (does r room c)

abbrev pub handled : Outcome → Handled
handled o = record { answer = o.answer; count = length o.actions; replica = o.replica }

-- the promise of every call: it hands back the outcome's answer, replica and number of actions, and the room has the actions at its front
-- and is as it was past them
pub record Told (o : Outcome) (h : Handled) (room after : List ℕ) : Type 0 where
  pub handed : h ≡ handled o
  pub written : after ≡ write_actions room o.actions

-- a message that member `from` sent, as the call that it is at whoever gets it; "a vote is present iff its ballot is above 0"
abbrev pub received : ℕ → Act → List Call
received from a = message a.what
  where
    message : Action → List Call
    message (Prepare p) = call_prepare from p.trigger p.ballot ∷ []
    message (PrepareReply p) =
        call_prepare_reply from
        (record {
          slot = p.slot;
          trigger = p.trigger;
          endprep = p.endprep;
          ballot = p.ballot;
          voted = ltb 0 p.voted;
          vote = record { ballot = p.voted; batch = record { id = p.batch; count = p.count; keys = a.keys } };
          bar = p.bar;
        })
        ∷ []
    message (Accept p) = call_accept from p.slot p.ballot (record { id = p.batch; count = p.count; keys = a.keys }) ∷ []
    message (AcceptReply p) = call_accept_reply from p.slot p.ballot ∷ []
    message (CommitNotice p) = call_commit_notice from p.ballot p.bar ∷ []
    message (PrepareBal p) = []
    message (AcceptData p) = []
    message (CommitSlot p) = []
    message Heartbeat = []
    message StatusUp = []
    message StatusDown = []
    message (Execute p) = []
    message (ReadAnswer p) = []
