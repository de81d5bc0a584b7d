-- The bound of 191 actions is reached: a leader of three, with its own PrepareBal logged, hears of slot 63. The reply appends 63 slots, each
-- with a PrepareBal, makes the quorum, and 64 slots enter Accept with two actions each.
use Rattle.std.specs.Prelude.{◌≡◌, refl, false, length}
use Rattle.base.specs.Scan.{scan}
use Rattle.members.specs.Sets.{has, insert, count, count_in}
use Rattle.tally.specs.Open.{fit_reads}
use Rattle.slots.specs.Slots.{no_vote, fit_slot}
use Rattle.decide.specs.Bars.{not_above, least_majority, with_bar, with_fallen}
use Rattle.decide.specs.Decide.{decide_vote, decide_count}
use Rattle.decide.specs.Scalars.{fit_scalars}
use Rattle.window.specs.Counting.{counts}
use Rattle.window.specs.Window.{fit_slots, first_open, last_open, filled}
use Rattle.replica.specs.declared.Replica.{Replica}
use Rattle.replica.specs.declared.Entry.TheVariants.{PrepareBal}
use Rattle.replica.specs.Record.{Outcome, new_replica, noting}
use Rattle.replica.specs.Fit.{fit}
use Rattle.replica.specs.Messages.{counted_on, voted_on, replied_on, reply_on, prepare_reply_step}
use Rattle.replica.specs.Leadership.{lead_on, step_up, timeout_step}
use Rattle.replica.specs.Durability.{prepared_done, logged_on, logged_step}
use Rattle.replica.specs.Step.{call_timeout, call_logged, call_prepare_reply, step}
use Rattle.laws.specs.WaysDurability.{completion}

-- member 0 steps up, and its PrepareBal of slot 0 is durable
unfoldable pub waiting : Replica
waiting = (step (step (new_replica 0 3 0 0).replica 3456 (call_timeout 0)).replica 3456 (call_logged (completion PrepareBal 0 257 40))).replica

-- member 1's reply for slot 63, its endprep
unfoldable pub largest : Outcome
largest =
    step waiting 3456 (call_prepare_reply 1 (record { slot = 63; trigger = 0; endprep = 63; ballot = 257; voted = false; vote = no_vote; bar = 0 }))

pub largest_call : length largest.actions ≡ 191
unfolding largest waiting new_replica fit fit_scalars fit_slots fit_reads fit_slot filled noting counted_on voted_on replied_on reply_on prepare_reply_step first_open last_open lead_on step_up timeout_step prepared_done logged_on logged_step with_bar with_fallen not_above least_majority decide_vote decide_count scan has insert count count_in counts
largest_call = refl
