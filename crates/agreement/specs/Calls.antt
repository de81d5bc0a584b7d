-- Every call keeps to the frame, and leaves a good replica good. Above each call: what it does to slots where it acts (Frame, `SlotStep`); a call
-- that is ignored or refused keeps them all.
use Rattle.std.specs.Prelude.{refl, ℕ}
use Rattle.replica.specs.declared.Replica.{Replica}
use Rattle.replica.specs.Step.{Call, call_prepare, call_prepare_reply, call_accept, call_accept_reply, call_commit_notice, call_timeout, call_logged, call_offer, call_executed, call_open_read, call_read_reply, step}
use Rattle.agreement.specs.Good.{Ok, GoodReplica}
use Rattle.agreement.specs.OfMessages.{prepare_step-Ok, accept_step-Ok, accept_reply_step-Ok}
use Rattle.agreement.specs.OfReply.{prepare_reply_step-Ok}
use Rattle.agreement.specs.OfLeadership.{timeout_step-Ok, commit_notice_step-Ok}
use Rattle.agreement.specs.OfRest.{logged_step-Ok, offer_step-Ok, executed_step-Ok, open_read_step-Ok, read_reply_step-Ok}

pub step-Ok : (r : Replica) (room : ℕ) (c : Call) → GoodReplica r → Ok r c (step r room c)
-- at another's ballot not below the largest seen: the slots from the trigger on are put back (`cleared`), with prepare entries; no more leading
step-Ok r room (call_prepare peer trigger ballot) g = prepare_step-Ok r _ g room peer trigger ballot
-- at the ballot that self leads by: slots are appended and votes taken (`low`); at quorum the Preparing slots from the trigger on are `wrote`, led
step-Ok r room (call_prepare_reply peer m) g = prepare_reply_step-Ok r _ g room peer m
-- at another's ballot not below the largest seen: the slot is `wrote`, as told; no more leading
step-Ok r room (call_accept peer slot ballot b) g = accept_step-Ok r _ g room peer slot ballot b refl
-- where self leads: an Accepting slot of that ballot is `kept`, at quorum with its commit entry
step-Ok r room (call_accept_reply peer slot ballot) g = accept_reply_step-Ok r _ g room peer slot ballot
-- slots at or above Accepting are `kept`, each that was Accepting with its commit entry
step-Ok r room (call_commit_notice peer ballot bar) g = commit_notice_step-Ok r _ g room peer ballot bar
-- a larger ballot of self's own: the slots below Committed are put back (`cleared`), with prepare entries; self leads
step-Ok r room (call_timeout source) g = timeout_step-Ok r _ g room source
-- as a PrepareReply or an AcceptReply from self; or a reply is sent; or slots at or above Committed are `kept` as commit_bar passes them
step-Ok r room (call_logged d) g = logged_step-Ok r _ g room d
-- where self leads: a slot past the log end is `wrote`, led
step-Ok r room (call_offer b) g = offer_step-Ok r _ g room b
-- a slot at or above Committed is `kept`
step-Ok r room (call_executed slot) g = executed_step-Ok r _ g room slot
-- no slot, no ballot
step-Ok r room (call_open_read id count keys) g = open_read_step-Ok r _ g room id count keys
step-Ok r room (call_read_reply peer id from_leader reply) g = read_reply_step-Ok r _ g room peer id from_leader reply
