-- Runs of three strict members: so that the hypotheses of what is proved of strict groups are met, and what the strict kind does where the base forgets.
use Rattle.std.specs.Prelude.{◌≡◌, refl, true, [], ℕ, ltb}
use mathlib.Core.List.Memᴰ
use Rattle.base.specs.Scan.{scan}
use Rattle.base.specs.Among.{◌∈◌}
use Rattle.members.specs.Sets.{has, insert, count, count_in}
use Rattle.batch.specs.Batches.{make_batch}
use Rattle.batch.specs.Keys.{place_in, note_key, note_keys, new_keys, overfull_in}
use Rattle.tally.specs.Merge.{merge}
use Rattle.tally.specs.Open.{find_read, open_read, close_read, put_read, reply_to, fit_reads}
use Rattle.actions.specs.declared.Action.TheVariants.{PrepareReply}
use Rattle.actions.specs.Actions.{act, Act}
use Rattle.slots.specs.Slots.{fit_slot}
use Rattle.decide.specs.Bars.{not_above, least_majority, with_bar, with_fallen}
use Rattle.decide.specs.Decide.{decide_accept, decide_accept_reply, decide_vote, decide_count, decide_promised, decide_accepted, decide_offer}
use Rattle.decide.specs.Scalars.{fit_scalars}
use Rattle.window.specs.Counting.{lacking, counts}
use Rattle.window.specs.Window.{fit_slots, last_used, first_open, last_open, mark_stop, filled}
use Rattle.window.specs.ByPlace.{at_place}
use Rattle.replica.specs.Record.{new_replica, noting, settled}
use Rattle.replica.specs.Fit.{fit}
use Rattle.replica.specs.Messages.{prepare_on, prepare_step, counted_on, voted_on, replied_on, reply_on, prepare_reply_step, accept_step, accept_reply_step}
use Rattle.replica.specs.Leadership.{lead_on, step_up, timeout_step, mark_on, commit_notice_step}
use Rattle.replica.specs.Durability.{prepared_done, moved_accept, accepted_done, pass_on, pass_stop, committed_done, logged_on, logged_step}
use Rattle.replica.specs.Quorumread.{open_read_step, replied_step, read_reply_step}
use Rattle.replica.specs.Added.{offer_step, moved_exec, executed_step}
use Rattle.agreement.specs.BySlot.{numbered}
use Rattle.agreement.specs.Theorem.{Group, World, marks_of, upd, put, begin, accept_entry}
use Rattle.agreement.specs.Runs.{play, happen, deliver, seven, changed, late, further, ThreeMarked}

-- ── three strict members, all present, start 0, urgent commit notices ──
pub strict_made : (m : ℕ) → ltb m 3 ≡ true → (new_replica m 3 0 5).answer ≡ 0
unfolding new_replica
strict_made m e = rw e

unfoldable pub strict_three : Group
strict_three = record { size = 3; start = 0; options = λ m. 5; present = λ m. ltb m 3; strict = true; made = strict_made; alike = λ m _. refl }

-- the run `changed` of a change of leader: the same marks as of base members
abbrev pub strict_world : World
strict_world = play (begin strict_three) changed

pub strict_marked : ThreeMarked strict_world
unfolding play happen deliver changed strict_three begin put upd marks_of at_place numbered new_replica fit fit_scalars fit_slots fit_reads fit_slot filled noting settled prepare_on prepare_step last_used counted_on voted_on replied_on reply_on prepare_reply_step accept_step accept_reply_step first_open last_open lead_on step_up timeout_step mark_on mark_stop commit_notice_step prepared_done moved_accept accepted_done pass_on pass_stop committed_done logged_on logged_step open_read_step replied_step read_reply_step offer_step moved_exec executed_step decide_accept decide_accept_reply decide_vote decide_count decide_promised decide_accepted decide_offer not_above least_majority with_bar with_fallen has insert count count_in make_batch note_key note_keys new_keys place_in overfull_in merge find_read open_read close_read put_read reply_to scan counts lacking
strict_marked =
    record { offered = further 6 (strict_world.did 0) (Memᴰ.head refl); committed = further 13 (strict_world.did 1) (Memᴰ.head refl); marks = refl }

-- the run `late`, in which base members mark slot 1 with two batches: the deposed leader tells of batch 7, which it accepted as its own at 257, so that the new
-- one proposes it at 514; and the late completion at 257 says nothing, so that nothing is marked by it
abbrev pub strict_late : World
strict_late = play (begin strict_three) late

abbrev pub own_vote_told : Act
own_vote_told =
    act (PrepareReply (record { member = 1; slot = 1; trigger = 0; endprep = 1; ballot = 514; voted = 257; batch = 7; count = 1; bar = 0 })) seven.keys

pub record NotForgotten (w : World) : Type 0 where
  pub told : own_vote_told ∈ w.did 0
  pub proposed : accept_entry 1 514 seven ∈ w.did 1
  pub marks : w.marks ≡ []

pub not_forgotten : NotForgotten strict_late
unfolding play happen deliver late strict_three begin put upd marks_of at_place numbered new_replica fit fit_scalars fit_slots fit_reads fit_slot filled noting settled prepare_on prepare_step last_used counted_on voted_on replied_on reply_on prepare_reply_step accept_step accept_reply_step first_open last_open lead_on step_up timeout_step mark_on mark_stop commit_notice_step prepared_done moved_accept accepted_done pass_on pass_stop committed_done logged_on logged_step open_read_step replied_step read_reply_step offer_step moved_exec executed_step decide_accept decide_accept_reply decide_vote decide_count decide_promised decide_accepted decide_offer not_above least_majority with_bar with_fallen has insert count count_in make_batch note_key note_keys new_keys place_in overfull_in merge find_read open_read close_read put_read reply_to scan counts lacking
not_forgotten =
    record { told = further 12 (strict_late.did 0) (Memᴰ.head refl); proposed = further 9 (strict_late.did 1) (Memᴰ.head refl); marks = refl }
