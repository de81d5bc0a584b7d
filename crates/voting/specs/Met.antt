-- The theorems' hypotheses are met: runs from a new replica, computed.
use Rattle.std.specs.Prelude.{◌≡◌, refl, List, [], ◌∷◌, ◌++◌, map, ℕ, ◌<◌, true, false}
use Rattle.std.proofs.Common.{sym, subst, ◌∙◌, inr, arith}
use mathlib.Core.List.Memᴰ
use Rattle.base.specs.Among.{◌∈◌}
use Rattle.base.specs.Scan.{scan}
use Rattle.members.specs.Sets.{has, insert, count, count_in}
use Rattle.batch.specs.Batches.{empty_batch, make_batch}
use Rattle.actions.specs.declared.Action.TheVariants.{Accept}
use Rattle.actions.specs.Actions.{act}
use Rattle.batch.specs.Keys.{place_in, note_key, note_keys, new_keys, overfull_in}
use Rattle.tally.specs.Open.{fit_reads}
use Rattle.slots.specs.declared.Vote.{Vote}
use Rattle.slots.specs.Slots.{fit_slot}
use Rattle.decide.specs.Bars.{not_above, least_majority, with_bar, with_fallen}
use Rattle.decide.specs.Decide.{decide_accept, decide_accept_reply, decide_vote, decide_count, decide_promised, decide_accepted, proposal}
use Rattle.decide.specs.Scalars.{fit_scalars}
use Rattle.window.specs.Counting.{counts}
use Rattle.window.specs.Window.{fit_slots, last_used, first_open, last_open, filled}
use Rattle.window.specs.ByPlace.{at_place}
use Rattle.replica.specs.declared.Replica.{Replica}
use Rattle.replica.specs.declared.Entry.TheVariants.{PrepareBal, AcceptData}
use Rattle.replica.specs.Record.{new_replica, noting, settled, place}
use Rattle.replica.specs.Fit.{fit}
use Rattle.replica.specs.Messages.{prepare_on, prepare_step, counted_on, voted_on, replied_on, reply_on, prepare_reply_step, accept_step, accept_reply_step}
use Rattle.replica.specs.Leadership.{lead_on, step_up, timeout_step}
use Rattle.replica.specs.Durability.{prepared_done, moved_accept, accepted_done, logged_on, logged_step}
use Rattle.replica.specs.Step.{Call, call_prepare, call_prepare_reply, call_accept, call_accept_reply, call_timeout, call_logged, step}
use Rattle.laws.specs.WaysLeadership.{lead_trigger}
use Rattle.laws.specs.WaysDurability.{completion}
use Rattle.voting.specs.History.{Lent, told, play}
use Rattle.voting.specs.Promises.{play-Grows}
use Rattle.voting.specs.Reached.{Good, good_new, Good-play}
use Rattle.voting.specs.Votes.{vote_of, taken}
use Rattle.voting.specs.Quorums.{kind_of, commit_of, acks_of, commit_by_own, commit_by_reply, commits_meet}
use Rattle.voting.specs.Backing.{stands}
use Rattle.voting.specs.Reigning.{Reigns, EachAnswered, reign_answered}
use Rattle.voting.specs.Heard.{Reign, heard_in, held_at, best}
use Rattle.voting.specs.Differences.{reply, voting, batch_of}
use Rattle.voting.specs.Paper.{answers_prepare}

abbrev pub lend : Call → Lent
lend c = record { room = 3456; call = c }

abbrev pub numbers_in : List Vote → List ℕ
numbers_in [] = []
numbers_in (v ∷ l) = v.ballot ∷ v.batch.id ∷ numbers_in l

abbrev pub vote_at : ℕ → ℕ → Vote
vote_at ballot id = record { ballot = ballot; batch = batch_of id }

-- ── votes: member 2 of a group of 3 takes an Accept of 0, then one of 1, then ignores a late one of 0 ──
unfoldable pub accepts : List Lent
accepts = lend (call_accept 0 0 257 (batch_of 7)) ∷ lend (call_accept 1 0 258 (batch_of 8)) ∷ lend (call_accept 0 0 257 (batch_of 9)) ∷ []

abbrev pub member : Replica
member = (new_replica 2 3 0 0).replica

pub member-Good : Good member.sc member.window
unfolding new_replica
member-Good = good_new 2 3 0 0 refl

pub accepts-taken : numbers_in (taken member accepts 0) ≡ 257 ∷ 7 ∷ 258 ∷ 8 ∷ []
unfolding accepts new_replica fit fit_scalars fit_slots fit_reads fit_slot filled noting settled accept_step decide_accept make_batch note_key note_keys new_keys place_in overfull_in scan first_open
accepts-taken = refl

pub accepts_vote : numbers_in (vote_of (play member accepts) 0 ∷ []) ≡ 258 ∷ 8 ∷ []
unfolding at_place accepts new_replica fit fit_scalars fit_slots fit_reads fit_slot filled noting settled accept_step decide_accept make_batch note_key note_keys new_keys place_in overfull_in scan first_open
accepts_vote = refl

-- ── the paper's acceptor does not answer a Prepare at the largest ballot it has answered; ours does (Differences, the first run) ──
pub paper_silent : answers_prepare 257 257 ≡ false
paper_silent = refl

-- ── the choice: member 0 of a group of 5 steps up; its own entry is durable; 1, 2 and 3 answer with votes at 3, 5 and 4 ──
abbrev pub stepped : Replica
stepped = (told (new_replica 0 5 0 0).replica (lend (call_timeout 0))).replica

unfoldable pub answers : List Lent
answers =
    lend (call_prepare_reply 1 (voting 0 0 257 3 9)) ∷ lend (call_prepare_reply 2 (voting 0 1 257 5 8)) ∷ lend (call_logged (completion PrepareBal 0 257 40))
    ∷ lend (call_prepare_reply 3 (voting 0 0 257 4 7)) ∷ []

pub Reign-met : Reign stepped answers 0
unfolding answers new_replica fit fit_scalars fit_slots fit_reads fit_slot filled noting settled counted_on voted_on replied_on reply_on prepare_reply_step first_open last_open lead_on step_up timeout_step prepared_done logged_on logged_step decide_vote decide_count not_above least_majority with_bar with_fallen has insert count count_in make_batch note_key note_keys new_keys place_in overfull_in scan counts
Reign-met = (
  record { leading = refl; leads_on = refl; same = refl; here = inr refl },
  (
    record { leading = refl; leads_on = refl; same = refl; here = inr refl },
    (record { leading = refl; leads_on = refl; same = refl; here = inr refl }, (record { leading = refl; leads_on = refl; same = refl; here = inr refl }, tt)),
  ),
)

pub heard_met : numbers_in (heard_in stepped answers 0) ≡ 3 ∷ 9 ∷ 5 ∷ 8 ∷ 4 ∷ 7 ∷ []
unfolding answers new_replica fit fit_scalars fit_slots fit_reads fit_slot filled noting settled counted_on voted_on replied_on reply_on prepare_reply_step first_open last_open lead_on step_up timeout_step prepared_done logged_on logged_step decide_vote decide_count not_above least_majority with_bar with_fallen has insert count count_in make_batch note_key note_keys new_keys place_in overfull_in scan counts
heard_met = refl

-- the largest of these is that at 5
pub best_met : numbers_in (best (record { ballot = 0; batch = batch_of 0 }) (vote_at 3 9 ∷ vote_at 5 8 ∷ vote_at 4 7 ∷ []) ∷ []) ≡ 5 ∷ 8 ∷ []
best_met = refl

pub choice_met : numbers_in (held_at stepped 0 ∷ held_at (play stepped answers) 0 ∷ []) ≡ 0 ∷ 0 ∷ 5 ∷ 8 ∷ []
unfolding at_place answers new_replica fit fit_scalars fit_slots fit_reads fit_slot filled noting settled counted_on voted_on replied_on reply_on prepare_reply_step first_open last_open lead_on step_up timeout_step prepared_done logged_on logged_step decide_vote decide_count not_above least_majority with_bar with_fallen has insert count count_in make_batch note_key note_keys new_keys place_in overfull_in scan counts
choice_met = refl

-- ── the leader's own entry makes the quorum: 1 and 3 have answered, and its own completion sends the Accept ──
abbrev pub own_entry : Lent
own_entry = lend (call_logged (completion PrepareBal 0 257 40))

unfoldable pub own_last : List Lent
own_last = lend (call_prepare_reply 1 (voting 0 0 257 3 9)) ∷ lend (call_prepare_reply 3 (voting 0 0 257 4 7)) ∷ []

pub own_reign_met : Reign stepped (own_last ++ (own_entry ∷ [])) 0
unfolding own_last new_replica fit fit_scalars fit_slots fit_reads fit_slot filled noting settled counted_on voted_on replied_on reply_on prepare_reply_step first_open last_open lead_on step_up timeout_step prepared_done logged_on logged_step decide_vote decide_count not_above least_majority with_bar with_fallen has insert count count_in make_batch note_key note_keys new_keys place_in overfull_in scan counts
own_reign_met = (
  record { leading = refl; leads_on = refl; same = refl; here = inr refl },
  (record { leading = refl; leads_on = refl; same = refl; here = inr refl }, (record { leading = refl; leads_on = refl; same = refl; here = inr refl }, tt)),
)

pub own_sends : map kind_of (told (play stepped own_last) own_entry).actions ≡ 2 ∷ 6 ∷ []
unfolding own_last new_replica fit fit_scalars fit_slots fit_reads fit_slot filled noting settled counted_on voted_on replied_on reply_on prepare_reply_step first_open last_open lead_on step_up timeout_step prepared_done logged_on logged_step decide_vote decide_count not_above least_majority with_bar with_fallen has insert count count_in make_batch note_key note_keys new_keys place_in overfull_in scan counts
own_sends = refl

-- ── a majority answers: 1 and self have answered at 257, and 3's reply makes three of five: the slot is at 257, and its set is {0, 1, 3} ──
abbrev pub first : Replica
first = (new_replica 0 5 0 0).replica

unfoldable pub asked : List Lent
asked = lend (call_timeout 0) ∷ lend (call_prepare_reply 1 (reply 0 0 257)) ∷ lend (call_logged (completion PrepareBal 0 257 40)) ∷ []

abbrev pub third : Lent
third = lend (call_prepare_reply 3 (reply 0 0 257))

pub asked_sends : map kind_of (told (play first asked) third).actions ≡ 2 ∷ 6 ∷ []
unfolding asked new_replica fit fit_scalars fit_slots fit_reads fit_slot filled noting settled counted_on voted_on replied_on reply_on prepare_reply_step prepare_on prepare_step last_used accept_reply_step first_open last_open lead_on step_up timeout_step prepared_done moved_accept accepted_done logged_on logged_step decide_vote decide_count decide_promised decide_accepted decide_accept_reply not_above least_majority with_bar with_fallen has insert count count_in make_batch note_key note_keys new_keys place_in overfull_in scan counts
asked_sends = refl

pub asked-stands : ((stands (told (play first asked) third).replica 0).ballot ≡ 257) × ((stands (told (play first asked) third).replica 0).prepare ≡ 11)
unfolding at_place asked new_replica fit fit_scalars fit_slots fit_reads fit_slot filled noting settled counted_on voted_on replied_on reply_on prepare_reply_step prepare_on prepare_step last_used accept_reply_step first_open last_open lead_on step_up timeout_step prepared_done moved_accept accepted_done logged_on logged_step decide_vote decide_count decide_promised decide_accepted decide_accept_reply not_above least_majority with_bar with_fallen has insert count count_in make_batch note_key note_keys new_keys place_in overfull_in scan counts
asked-stands = (refl, refl)

-- a reign: the step-up, and what follows it up to that reply; so each of the three has answered at 257
abbrev pub step_up0 : Lent
step_up0 = lend (call_timeout 0)

unfoldable pub since : List Lent
since = lend (call_prepare_reply 1 (reply 0 0 257)) ∷ lend (call_logged (completion PrepareBal 0 257 40)) ∷ []

pub Reigns-met : Reigns first step_up0 since
unfolding since new_replica fit fit_scalars fit_slots fit_reads fit_slot filled noting settled counted_on voted_on replied_on reply_on prepare_reply_step prepare_on prepare_step last_used accept_reply_step first_open last_open lead_on step_up timeout_step prepared_done moved_accept accepted_done logged_on logged_step decide_vote decide_count decide_promised decide_accepted decide_accept_reply not_above least_majority with_bar with_fallen has insert count count_in make_batch note_key note_keys new_keys place_in overfull_in scan counts
Reigns-met =
    record {
      good = good_new 0 5 0 0 refl;
      source = 0;
      timer = refl;
      new = λ e. absurd (omega (arith, e));
      on = (refl, refl, (refl, refl, tt));
    }

pub accept_sent_met : act (Accept (proposal 0 257 empty_batch)) empty_batch.keys ∈ (told (play first (step_up0 ∷ since)) third).actions
unfolding since new_replica fit fit_scalars fit_slots fit_reads fit_slot filled noting settled counted_on voted_on replied_on reply_on prepare_reply_step prepare_on prepare_step last_used accept_reply_step first_open last_open lead_on step_up timeout_step prepared_done moved_accept accepted_done logged_on logged_step decide_vote decide_count decide_promised decide_accepted decide_accept_reply not_above least_majority with_bar with_fallen has insert count count_in make_batch note_key note_keys new_keys place_in overfull_in scan counts
accept_sent_met = Memᴰ.tail (Memᴰ.head refl)

first_trigger : lead_trigger first ≡ 0
unfolding new_replica first_open scan
first_trigger = refl

pub reign_answered_met : EachAnswered first step_up0 since third 257
reign_answered_met = reign_answered first step_up0 since Reigns-met 3456 3 (reply 0 0 257) (sym first_trigger) _ accept_sent_met refl

-- ── a promise: member 2 answers 0's Prepare at 257 once its entry is durable ──
unfoldable pub promised : List Lent
promised = lend (call_prepare 0 0 257) ∷ []

pub promise_sent : map kind_of (told (play member promised) (lend (call_logged (completion PrepareBal 0 257 40)))).actions ≡ 5 ∷ []
unfolding promised new_replica fit fit_scalars fit_slots fit_reads fit_slot filled noting settled counted_on voted_on replied_on reply_on prepare_reply_step prepare_on prepare_step last_used accept_reply_step first_open last_open lead_on step_up timeout_step prepared_done moved_accept accepted_done logged_on logged_step decide_vote decide_count decide_promised decide_accepted decide_accept_reply not_above least_majority with_bar with_fallen has insert count count_in make_batch note_key note_keys new_keys place_in overfull_in scan counts
promise_sent = refl

-- ── two commits: member 0 of three by its own entry, after 1's reply; member 1 by the replies of 0 and 2 ──
abbrev pub leader : ℕ → Replica
leader id = (new_replica id 3 0 0).replica

pub leader-Good : (id : ℕ) → (new_replica id 3 0 0).answer ≡ 0 → Good (leader id).sc (leader id).window
leader-Good id e = good_new id 3 0 0 e

unfoldable pub by_own : List Lent
by_own =
    lend (call_timeout 0) ∷ lend (call_prepare_reply 1 (reply 0 0 257)) ∷ lend (call_logged (completion PrepareBal 0 257 40)) ∷ lend (call_accept_reply 1 0 257) ∷ []

unfoldable pub by_reply : List Lent
by_reply =
    lend (call_timeout 1) ∷ lend (call_prepare_reply 0 (reply 0 0 258)) ∷ lend (call_prepare_reply 2 (reply 0 0 258)) ∷ lend (call_accept_reply 0 0 258) ∷ []

pub own_commits_met : commit_of 0 257 ∈ (step (play (leader 0) by_own) 3456 (call_logged (completion AcceptData 0 257 80))).actions
unfolding by_own new_replica fit fit_scalars fit_slots fit_reads fit_slot filled noting settled counted_on voted_on replied_on reply_on prepare_reply_step prepare_on prepare_step last_used accept_reply_step first_open last_open lead_on step_up timeout_step prepared_done moved_accept accepted_done logged_on logged_step decide_vote decide_count decide_promised decide_accepted decide_accept_reply not_above least_majority with_bar with_fallen has insert count count_in make_batch note_key note_keys new_keys place_in overfull_in scan counts
own_commits_met = Memᴰ.head refl

pub reply_commits_met : commit_of 0 258 ∈ (step (play (leader 1) by_reply) 3456 (call_accept_reply 2 0 258)).actions
unfolding by_reply new_replica fit fit_scalars fit_slots fit_reads fit_slot filled noting settled counted_on voted_on replied_on reply_on prepare_reply_step prepare_on prepare_step last_used accept_reply_step first_open last_open lead_on step_up timeout_step prepared_done moved_accept accepted_done logged_on logged_step decide_vote decide_count decide_promised decide_accepted decide_accept_reply not_above least_majority with_bar with_fallen has insert count count_in make_batch note_key note_keys new_keys place_in overfull_in scan counts
reply_commits_met = Memᴰ.head refl

-- so the hypotheses of commit_by_own, commit_by_reply and commits_meet are met
pub commits_met : (m : ℕ) × (m < 3)
    × (has (acks_of (step (play (leader 0) by_own) 3456 (call_logged (completion AcceptData 0 257 80))).replica.window (place (play (leader 0) by_own).sc 0)) m ≡ true)
    × (has (acks_of (step (play (leader 1) by_reply) 3456 (call_accept_reply 2 0 258)).replica.window (place (play (leader 1) by_reply).sc 0)) m ≡ true)
unfolding new_replica
commits_met =
    let g = (play-Grows (leader 0) by_own).group in
    let k = (play-Grows (leader 1) by_reply).group in
    subst
    (λ (n : ℕ). (m : ℕ) × (m < n)
    × (has (acks_of (step (play (leader 0) by_own) 3456 (call_logged (completion AcceptData 0 257 80))).replica.window (place (play (leader 0) by_own).sc 0)) m ≡ true)
    × (has (acks_of (step (play (leader 1) by_reply) 3456 (call_accept_reply 2 0 258)).replica.window (place (play (leader 1) by_reply).sc 0)) m ≡ true))
    g
    (commits_meet (play (leader 0) by_own) (play (leader 1) by_reply) _ _ (place (play (leader 0) by_own).sc 0) (place (play (leader 1) by_reply).sc 0) _ 2 (g ∙ sym k) (omega arith)
    (commit_by_own (play (leader 0) by_own) 3456 0 257 257 80 (Good-play (leader 0) by_own (leader-Good 0 refl)).whole own_commits_met)
    (commit_by_reply (play (leader 1) by_reply) 3456 2 0 258 258 (Good-play (leader 1) by_reply (leader-Good 1 refl)).whole reply_commits_met))
