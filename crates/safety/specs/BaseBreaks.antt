-- 02, Wish 7: "A run of three base replicas that breaks it goes into the tests." It is demand 3's run `late`: every turn of it happens, and it marks one slot
-- with two batches. So the theorem without "strict" is false.
use Rattle.std.specs.Prelude.{◌≡◌, refl, true}
use Rattle.base.specs.Scan.{scan}
use Rattle.members.specs.Sets.{has, insert, count, count_in}
use Rattle.batch.specs.Batches.{make_batch, same_batch}
use Rattle.batch.specs.Keys.{place_in, note_key, note_keys, new_keys, overfull_in}
use Rattle.tally.specs.Merge.{merge}
use Rattle.tally.specs.Open.{find_read, open_read, close_read, put_read, reply_to, fit_reads}
use Rattle.slots.specs.Slots.{fit_slot}
use Rattle.decide.specs.Bars.{not_above, least_majority, with_bar, with_fallen}
use Rattle.decide.specs.Decide.{decide_accept, decide_accept_reply, decide_vote, decide_count, decide_promised, decide_accepted, decide_offer}
use Rattle.decide.specs.Scalars.{fit_scalars}
use Rattle.window.specs.Counting.{lacking, counts}
use Rattle.window.specs.Window.{fit_slots, last_used, first_open, last_open, mark_stop, filled}
use Rattle.window.specs.ByPlace.{at_place}
use Rattle.replica.specs.Record.{new_replica, noting, settled}
use Rattle.replica.specs.Fit.{fit}
use Rattle.replica.specs.Messages.{prepare_on, prepare_step, counted_on, voted_on, replied_on, reply_on, prepare_reply_step, accept_step, accept_reply_step}
use Rattle.replica.specs.Leadership.{lead_on, step_up, timeout_step, mark_on, commit_notice_step}
use Rattle.replica.specs.Durability.{prepared_done, moved_accept, accepted_done, pass_on, pass_stop, committed_done, logged_on, logged_step}
use Rattle.replica.specs.Quorumread.{open_read_step, replied_step, read_reply_step}
use Rattle.replica.specs.Added.{offer_step, moved_exec, executed_step}
use Rattle.agreement.specs.BySlot.{numbered}
use Rattle.agreement.specs.Theorem.{marks_of, upd, put, begin}
use Rattle.agreement.specs.Runs.{play, happen, deliver, three, late}
use Rattle.safety.specs.HonestRuns.{stands, is_real, honest}

pub late-honest : honest three (begin three) late ≡ true
unfolding honest is_real stands play happen deliver late three begin put upd marks_of at_place numbered new_replica fit fit_scalars fit_slots fit_reads fit_slot filled noting settled prepare_on prepare_step last_used counted_on voted_on replied_on reply_on prepare_reply_step accept_step accept_reply_step first_open last_open lead_on step_up timeout_step mark_on mark_stop commit_notice_step prepared_done moved_accept accepted_done pass_on pass_stop committed_done logged_on logged_step open_read_step replied_step read_reply_step offer_step moved_exec executed_step decide_accept decide_accept_reply decide_vote decide_count decide_promised decide_accepted decide_offer not_above least_majority with_bar with_fallen has insert count count_in make_batch note_key note_keys new_keys place_in overfull_in merge find_read open_read close_read put_read reply_to scan counts same_batch lacking
late-honest = refl
