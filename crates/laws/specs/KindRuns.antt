-- Each test of `kindless` (Kinds), by computation: a call that meets it and acts, and the smallest that does not and on which the two kinds part.
use Rattle.std.specs.Prelude.{Bool, true, false, ◌&&◌, not, List, [], ◌∷◌, ◌++◌, ℕ, T}
use Rattle.base.specs.Scan.{scan}
use Rattle.members.specs.Sets.{has, insert, count, count_in}
use Rattle.batch.specs.Batches.{make_batch, same_batch, same_list}
use Rattle.batch.specs.Keys.{place_in, note_key, note_keys, new_keys, overfull_in}
use Rattle.tally.specs.Open.{fit_reads}
use Rattle.actions.specs.Actions.{flat}
use Rattle.slots.specs.Slots.{fit_slot}
use Rattle.decide.specs.Scalars.{fit_scalars}
use Rattle.decide.specs.Bars.{not_above, least_majority, with_bar, with_fallen}
use Rattle.decide.specs.Decide.{decide_accept, decide_accept_reply, decide_vote, decide_count, decide_promised, decide_accepted, decide_offer}
use Rattle.window.specs.Window.{fit_slots, last_used, first_open, last_open, mark_stop, filled}
use Rattle.window.specs.Counting.{lacking, counts}
use Rattle.replica.specs.declared.Replica.{Replica}
use Rattle.replica.specs.declared.Entry.TheVariants.{PrepareBal, AcceptData}
use Rattle.replica.specs.Record.{Outcome, new_replica, noting, settled}
use Rattle.replica.specs.Fit.{fit}
use Rattle.replica.specs.Messages.{prepare_on, prepare_step, counted_on, voted_on, replied_on, reply_on, prepare_reply_step, accept_step}
use Rattle.replica.specs.Leadership.{lead_on, step_up, timeout_step, mark_on, commit_notice_step}
use Rattle.replica.specs.Durability.{prepared_done, moved_accept, accepted_done, logged_on, logged_step}
use Rattle.replica.specs.Added.{offer_step}
use Rattle.replica.specs.Step.{Call, call_prepare, call_commit_notice, call_timeout, call_logged, call_offer, step}
use Rattle.laws.specs.WaysDurability.{completion}
use Rattle.laws.specs.SummaryRuns.{after}
use Rattle.laws.specs.StrictCases.{seen, plain_batch, accept, told}
use Rattle.laws.specs.Kinds.{of_kind, kindless}

-- a call after calls of a new strict member 2 of 3, or of one that is alone
pub record Row : Type 0 where
  pub id : ℕ
  pub group : ℕ
  pub calls : List Call
  pub call : Call

abbrev third : List Call → Call → Row
third calls call = record { id = 2; group = 3; calls = calls; call = call }

abbrev alone : List Call → Call → Row
alone calls call = record { id = 0; group = 1; calls = calls; call = call }

abbrev replica_of : Row → Replica
replica_of x = after (new_replica x.id x.group 0 4).replica x.calls

-- it gives actions
abbrev acts : Row → Bool
acts x = not (same_list (flat (step (replica_of x) 3456 x.call).actions) [])

-- what the two kinds give differs in more than the kind
abbrev shown : Outcome → List ℕ
shown o = o.answer ∷ seen o.replica ++ flat o.actions

abbrev parts : Row → Bool
parts x = not (same_list (shown (step (of_kind true (replica_of x)) 3456 x.call)) (shown (step (of_kind false (replica_of x)) 3456 x.call)))

unfoldable pub all_meet : List Row → Bool
all_meet [] = true
all_meet (x ∷ l) = (kindless (replica_of x) x.call && acts x) && all_meet l

unfoldable pub all_part : List Row → Bool
all_part [] = true
all_part (x ∷ l) = (not (kindless (replica_of x) x.call) && parts x) && all_part l

-- a completion of slot 0's entries
abbrev prepare_done : ℕ → Call
prepare_done ballot = call_logged (completion PrepareBal 0 ballot 40)

abbrev accept_done : ℕ → Call
accept_done ballot = call_logged (completion AcceptData 0 ballot 80)

-- 0's batch 7 in slot 0 is committed
abbrev decided : List Call
decided = accept 0 0 257 7 ∷ call_commit_notice 0 257 1 ∷ []

unfoldable pub meeting : List Row
meeting =
    third [] (call_prepare 0 0 257)
    ∷ third [] (accept 0 0 257 7)
    ∷ third (call_prepare 0 0 257 ∷ []) (prepare_done 257)
    ∷ third (accept 0 0 257 7 ∷ []) (accept_done 257)
    -- a leader's own
    ∷ alone (call_timeout 0 ∷ prepare_done 257 ∷ []) (accept_done 257)
    ∷ []

unfoldable pub parting : List Row
parting =
    -- (d): the slot's status
    third decided (call_prepare 1 0 258)
    ∷ third decided (accept 1 0 258 7)
    -- (a): the reply
    ∷ third (call_prepare 0 0 257 ∷ call_prepare 1 0 258 ∷ []) (prepare_done 257)
    ∷ third (accept 0 0 257 7 ∷ accept 1 0 258 7 ∷ []) (accept_done 257)
    -- (c): the note, at the slot's own ballot; and of another member
    ∷ third (call_timeout 2 ∷ []) (prepare_done 259)
    ∷ third (call_timeout 2 ∷ []) (told 0 0 0 0 259)
    -- (b): the vote
    ∷ alone (call_timeout 0 ∷ prepare_done 257 ∷ []) (call_offer (plain_batch 7))
    ∷ []

pub meeting_meet : T (all_meet meeting)
unfolding all_meet meeting after new_replica fit fit_scalars fit_slots fit_reads fit_slot filled noting settled prepare_on prepare_step last_used counted_on voted_on replied_on reply_on accept_step first_open last_open lead_on step_up timeout_step prepared_done moved_accept accepted_done logged_on logged_step decide_accept decide_accept_reply decide_vote decide_count decide_promised decide_accepted not_above least_majority with_bar with_fallen has insert count count_in make_batch note_key note_keys new_keys place_in overfull_in scan counts lacking
meeting_meet = tt

pub parting_part : T (all_part parting)
unfolding all_part parting after new_replica fit fit_scalars fit_slots fit_reads fit_slot filled noting settled prepare_on prepare_step last_used counted_on voted_on replied_on reply_on prepare_reply_step accept_step first_open last_open lead_on step_up timeout_step mark_on mark_stop commit_notice_step prepared_done moved_accept accepted_done logged_on logged_step offer_step decide_accept decide_accept_reply decide_vote decide_count decide_promised decide_accepted decide_offer not_above least_majority with_bar with_fallen has insert count count_in make_batch same_batch note_key note_keys new_keys place_in overfull_in scan counts lacking
parting_part = tt
