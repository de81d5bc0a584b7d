-- The condition of ChosenIf is met by a run with a change of leader, and not by the run that marks one slot twice: computed.
use Rattle.std.specs.Prelude.{◌≡◌, refl, Bool, true, false, ◌&&◌, ℕ, eqb, take}
use Rattle.std.proofs.Common.{sym, subst, eqb-true}
use mathlib.Core.List.Memᴰ
use mathlib.Core.List.{List, [], ◌∷◌}
use Rattle.base.specs.Scan.{scan}
use Rattle.members.specs.Sets.{has, insert, count, count_in}
use Rattle.batch.specs.Keys.{place_in, note_key, note_keys, new_keys, overfull_in}
use Rattle.tally.specs.Merge.{merge}
use Rattle.tally.specs.Open.{find_read, open_read, close_read, put_read, reply_to, fit_reads}
use Rattle.slots.specs.Slots.{fit_slot}
use Rattle.decide.specs.Bars.{not_above, least_majority, with_bar, with_fallen}
use Rattle.decide.specs.Decide.{decide_accept, decide_accept_reply, decide_vote, decide_count, decide_promised, decide_accepted, decide_offer}
use Rattle.decide.specs.Scalars.{fit_scalars}
use Rattle.window.specs.Counting.{counts}
use Rattle.window.specs.Window.{fit_slots, last_used, first_open, last_open, mark_stop, filled}
use Rattle.window.specs.ByPlace.{at_place}
use Rattle.replica.specs.Record.{new_replica, noting, settled}
use Rattle.replica.specs.Fit.{fit}
use Rattle.replica.specs.Messages.{prepare_on, prepare_step, counted_on, voted_on, replied_on, reply_on, prepare_reply_step, accept_step, accept_reply_step}
use Rattle.replica.specs.Leadership.{lead_on, step_up, timeout_step, mark_on, commit_notice_step}
use Rattle.replica.specs.Durability.{prepared_done, moved_accept, accepted_done, pass_on, pass_stop, committed_done, logged_on, logged_step}
use Rattle.replica.specs.Quorumread.{open_read_step, replied_step, read_reply_step}
use Rattle.replica.specs.Added.{offer_step, moved_exec, executed_step}
use Rattle.base.specs.Pick.{and_left, and_right}
use Rattle.base.specs.Among.{◌∈◌}
use Rattle.batch.specs.Batches.{make_batch}
use Rattle.actions.specs.declared.Action.{Action}
use Rattle.actions.specs.declared.Accepted.{Accepted}
use Rattle.actions.specs.declared.Action.TheVariants.{PrepareBal, AcceptData, CommitSlot, Prepare, PrepareReply, Accept, AcceptReply, CommitNotice, Heartbeat, StatusUp, StatusDown, Execute, ReadAnswer}
use Rattle.actions.specs.Actions.{Act, bare}
use Rattle.replica.specs.declared.Replica.{Replica}
use Rattle.replica.specs.Step.{Call, call_timeout, call_logged, call_offer, call_accept_reply, step, received}
use Rattle.laws.specs.WaysDurability.{completion}
use Rattle.voting.specs.Quorums.{commit_of}
use Rattle.agreement.specs.BySlot.{numbered}
use Rattle.agreement.specs.Theorem.{Group, World, slot_of, marks_of, upd, put, begin, Reach}
use Rattle.agreement.specs.Runs.{Turn, times, offers, logs, gets, deliver, thing, happen, play, all_present, further, three, changed, late}
use Rattle.agreement.specs.Acks.{Truthful}

-- ── the condition as a test ──
abbrev pub fair_one : Replica → Action → Bool
fair_one r (AcceptReply x) = eqb (slot_of r x.slot).status 2
fair_one r (PrepareBal p) = true
fair_one r (AcceptData p) = true
fair_one r (CommitSlot p) = true
fair_one r (Prepare p) = true
fair_one r (PrepareReply p) = true
fair_one r (Accept p) = true
fair_one r (CommitNotice p) = true
fair_one r Heartbeat = true
fair_one r StatusUp = true
fair_one r StatusDown = true
fair_one r (Execute p) = true
fair_one r (ReadAnswer p) = true

unfoldable pub fair : Replica → List Act → Bool
fair r [] = true
fair r (y ∷ l) = fair_one r y.what && fair r l

pub fair_facts : (r : Replica) (l : List Act) → fair r l ≡ true → (y : Act) (x : Accepted) → y ∈ l → y.what ≡ AcceptReply x → (slot_of r x.slot).status ≡ 2
unfolding fair
fair_facts r [] f y x m e = elim m [ ]
fair_facts r (z ∷ l) f y x (Memᴰ.head q) e =
    eqb-true _ _ (subst (λ (a : Action). fair_one r a ≡ true) e (subst (λ (a : Act). fair_one r a.what ≡ true) (sym q) (and_left (fair_one r z.what) (fair r l) f)))
fair_facts r (z ∷ l) f y x (Memᴰ.tail m) e = fair_facts r l (and_right (fair_one r z.what) (fair r l) f) y x m e

abbrev pub fair_call : World → ℕ → Call → Bool
fair_call w m c = fair (w.replica m) (step (w.replica m) 3456 c).actions

unfoldable pub fair_calls : World → ℕ → List Call → Bool
fair_calls w m [] = true
fair_calls w m (c ∷ l) = fair_call w m c

unfoldable pub fair_turn : World → Turn → Bool
fair_turn w (times m source) = fair_call w m (call_timeout source)
fair_turn w (offers m b) = fair_call w m (call_offer b)
fair_turn w (logs m e slot ballot size) = fair_call w m (call_logged (completion e slot ballot size))
fair_turn w (gets m from k) = fair_calls w m (received from (thing w from k))

unfoldable pub fair_run : World → List Turn → Bool
fair_run w [] = true
fair_run w (t ∷ l) = fair_turn w t && fair_run (happen w t) l

-- ── a run that passes it is truthful ──
abbrev pub TrueReach : Group → World → Type 0
TrueReach g w = (r : Reach g w) × Truthful r

-- ── the two runs ──
pub changed_fair : fair_run (begin three) changed ≡ true
unfolding fair_run fair_turn fair_calls fair play happen deliver changed three begin put upd marks_of at_place numbered new_replica fit fit_scalars fit_slots fit_reads fit_slot filled noting settled prepare_on prepare_step last_used counted_on voted_on replied_on reply_on prepare_reply_step accept_step accept_reply_step first_open last_open lead_on step_up timeout_step mark_on mark_stop commit_notice_step prepared_done moved_accept accepted_done pass_on pass_stop committed_done logged_on logged_step open_read_step replied_step read_reply_step offer_step moved_exec executed_step decide_accept decide_accept_reply decide_vote decide_count decide_promised decide_accepted decide_offer not_above least_majority with_bar with_fallen has insert count count_in make_batch note_key note_keys new_keys place_in overfull_in merge find_read open_read close_read put_read reply_to scan counts
changed_fair = refl

-- member 2 answers at 514 for a slot that it accepted at 257 alone and has put back since
pub late_unfair : fair_run (begin three) late ≡ false
unfolding fair_run fair_turn fair_calls fair play happen deliver late three begin put upd marks_of at_place numbered new_replica fit fit_scalars fit_slots fit_reads fit_slot filled noting settled prepare_on prepare_step last_used counted_on voted_on replied_on reply_on prepare_reply_step accept_step accept_reply_step first_open last_open lead_on step_up timeout_step mark_on mark_stop commit_notice_step prepared_done moved_accept accepted_done pass_on pass_stop committed_done logged_on logged_step open_read_step replied_step read_reply_step offer_step moved_exec executed_step decide_accept decide_accept_reply decide_vote decide_count decide_promised decide_accepted decide_offer not_above least_majority with_bar with_fallen has insert count count_in make_batch note_key note_keys new_keys place_in overfull_in merge find_read open_read close_read put_read reply_to scan counts
late_unfair = refl

-- ── a commit in the first run: member 1 gets 2's AcceptReply for slot 1 at 514, and batch 7 is chosen ──
unfoldable pub until_commit : List Turn
until_commit = take 20 changed

abbrev pub commit_world : World
commit_world = play (begin three) until_commit

pub until_present : all_present three until_commit ≡ true
unfolding all_present three until_commit changed
until_present = refl

pub until_fair : fair_run (begin three) until_commit ≡ true
unfolding fair_run fair_turn fair_calls fair until_commit play happen deliver changed three begin put upd marks_of at_place numbered new_replica fit fit_scalars fit_slots fit_reads fit_slot filled noting settled prepare_on prepare_step last_used counted_on voted_on replied_on reply_on prepare_reply_step accept_step accept_reply_step first_open last_open lead_on step_up timeout_step mark_on mark_stop commit_notice_step prepared_done moved_accept accepted_done pass_on pass_stop committed_done logged_on logged_step open_read_step replied_step read_reply_step offer_step moved_exec executed_step decide_accept decide_accept_reply decide_vote decide_count decide_promised decide_accepted decide_offer not_above least_majority with_bar with_fallen has insert count count_in make_batch note_key note_keys new_keys place_in overfull_in merge find_read open_read close_read put_read reply_to scan counts
until_fair = refl

abbrev pub last_reply : Act
last_reply = bare (AcceptReply (record { member = 1; slot = 1; ballot = 514 }))

pub reply_was_sent : last_reply ∈ commit_world.did 2
unfolding until_commit play happen deliver changed three begin put upd marks_of at_place numbered new_replica fit fit_scalars fit_slots fit_reads fit_slot filled noting settled prepare_on prepare_step last_used counted_on voted_on replied_on reply_on prepare_reply_step accept_step accept_reply_step first_open last_open lead_on step_up timeout_step mark_on mark_stop commit_notice_step prepared_done moved_accept accepted_done pass_on pass_stop committed_done logged_on logged_step open_read_step replied_step read_reply_step offer_step moved_exec executed_step decide_accept decide_accept_reply decide_vote decide_count decide_promised decide_accepted decide_offer not_above least_majority with_bar with_fallen has insert count count_in make_batch note_key note_keys new_keys place_in overfull_in merge find_read open_read close_read put_read reply_to scan counts
reply_was_sent = further 5 (commit_world.did 2) (Memᴰ.head refl)

pub commit_met : commit_of 1 514 ∈ (step (commit_world.replica 1) 3456 (call_accept_reply 2 1 514)).actions
unfolding until_commit play happen deliver changed three begin put upd marks_of at_place numbered new_replica fit fit_scalars fit_slots fit_reads fit_slot filled noting settled prepare_on prepare_step last_used counted_on voted_on replied_on reply_on prepare_reply_step accept_step accept_reply_step first_open last_open lead_on step_up timeout_step mark_on mark_stop commit_notice_step prepared_done moved_accept accepted_done pass_on pass_stop committed_done logged_on logged_step open_read_step replied_step read_reply_step offer_step moved_exec executed_step decide_accept decide_accept_reply decide_vote decide_count decide_promised decide_accepted decide_offer not_above least_majority with_bar with_fallen has insert count count_in make_batch note_key note_keys new_keys place_in overfull_in merge find_read open_read close_read put_read reply_to scan counts
commit_met = Memᴰ.head refl

pub one_present : three.present 1 ≡ true
unfolding three
one_present = refl
