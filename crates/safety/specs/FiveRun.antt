-- 02, Wish 7, is about something: "completions only of entries written, with their own ballot (late, never or twice), and messages lost, repeated or
-- overtaken", in a run of five strict members, by computation: a change of leader in the middle of a save, a value proposed again, and marks at both
-- ballots.
use Rattle.std.specs.Prelude.{◌≡◌, refl, true, false, List, [], ◌∷◌, ◌++◌, ℕ, ltb, drop}
use mathlib.Core.List.Memᴰ
use Rattle.base.specs.Scan.{scan}
use Rattle.base.specs.Among.{◌∈◌}
use Rattle.members.specs.Sets.{has, insert, count, count_in}
use Rattle.batch.specs.Batches.{empty_batch, make_batch, same_batch}
use Rattle.batch.specs.Keys.{place_in, note_key, note_keys, new_keys, overfull_in}
use Rattle.tally.specs.Open.{fit_reads}
use Rattle.actions.specs.declared.Action.TheVariants.{StatusDown, Execute}
use Rattle.actions.specs.Actions.{act, bare}
use Rattle.slots.specs.declared.Slot.{Slot}
use Rattle.slots.specs.Slots.{preparing, accepting, committed, no_leader_book, fit_slot}
use Rattle.decide.specs.Bars.{not_above, least_majority, with_bar, with_fallen}
use Rattle.decide.specs.Decide.{decide_accept, decide_accept_reply, decide_vote, decide_count, decide_promised, decide_accepted, decide_offer}
use Rattle.decide.specs.Scalars.{fit_scalars}
use Rattle.window.specs.Counting.{lacking, counts}
use Rattle.window.specs.Window.{fit_slots, last_used, first_open, last_open, filled}
use Rattle.window.specs.ByPlace.{at_place}
use Rattle.replica.specs.declared.Entry.TheVariants.{PrepareBal as PrepareEntry, AcceptData as AcceptEntry, CommitSlot as CommitEntry}
use Rattle.replica.specs.Record.{new_replica, noting, settled}
use Rattle.replica.specs.Fit.{fit}
use Rattle.replica.specs.Messages.{prepare_on, prepare_step, counted_on, voted_on, replied_on, reply_on, prepare_reply_step, accept_step, accept_reply_step}
use Rattle.replica.specs.Leadership.{lead_on, step_up, timeout_step}
use Rattle.replica.specs.Durability.{prepared_done, moved_accept, accepted_done, pass_on, pass_stop, committed_done, logged_on, logged_step}
use Rattle.replica.specs.Added.{offer_step}
use Rattle.replica.specs.Step.{call_logged, step}
use Rattle.laws.specs.WaysDurability.{completion}
use Rattle.agreement.specs.BySlot.{numbered}
use Rattle.agreement.specs.Theorem.{Group, World, slot_of, marks_of, upd, put, begin, accept_entry}
use Rattle.agreement.specs.Written.{line, lines}
use Rattle.agreement.specs.Runs.{Turn, times, offers, logs, gets, play, happen, deliver, seven, mark, further}
use Rattle.safety.specs.HonestRuns.{stands, is_real, honest}

-- ── five strict members, all present, start 0 ──
pub five_made : (m : ℕ) → ltb m 5 ≡ true → (new_replica m 5 0 4).answer ≡ 0
unfolding new_replica
five_made m e = rw e

unfoldable pub five : Group
five = record { size = 5; start = 0; options = λ m. 4; present = λ m. ltb m 5; strict = true; made = five_made; alike = λ m _. refl }

-- ── the run, up to the late completion, from there up to where it is reported again, and from there on ──
unfoldable pub first : List Turn
first =
    -- 0 steps up at 257; its Prepare reaches 1 and 2 only
    times 0 0 ∷ gets 1 0 3 ∷ gets 2 0 3
    -- the prepare entries of 0, 1 and 2 for slot 0 are durable: 0 counts itself, 1 and 2 reply
    ∷ logs 0 PrepareEntry 0 257 40 ∷ logs 1 PrepareEntry 0 257 40 ∷ logs 2 PrepareEntry 0 257 40
    -- the replies come: three of five, so that slot 0 enters Accept, empty (its Accept is lost)
    ∷ gets 0 1 1 ∷ gets 0 2 1
    -- batch 7 is offered to 0, as slot 1
    ∷ offers 0 seven
    -- its Accept reaches 2, 3 and 4, not 1
    ∷ gets 2 0 7 ∷ gets 3 0 7 ∷ gets 4 0 7
    -- the accept entries of 0, 2 and 3 are durable: 0 counts itself, 2 and 3 reply; that of 4 is not yet
    ∷ logs 0 AcceptEntry 1 257 80 ∷ logs 2 AcceptEntry 1 257 80 ∷ logs 3 AcceptEntry 1 257 40
    -- the reply of 2 comes, so that 0 lacks one; that of 3 is under way
    ∷ gets 0 2 3
    -- in the middle of this, 1 no longer hears 0 and steps up at 514; it knows of slot 0 alone
    ∷ times 1 0
    -- its Prepare reaches 3 and 4; both write prepare entries for slots 0 and 1
    ∷ gets 3 1 5 ∷ gets 4 1 5 ∷ []

-- only now the accept entry of 4 at 257 is reported durable: 4 has promised 514, and says nothing
abbrev pub overdue : ℕ → Turn
overdue size = logs 4 AcceptEntry 1 257 size

unfoldable pub second : List Turn
second =
    -- the prepare entries of 1, 3 and 4 are durable: 1 counts itself, 3 and 4 reply for slots 0 and 1
    logs 1 PrepareEntry 0 514 80 ∷ logs 4 PrepareEntry 0 514 80 ∷ logs 4 PrepareEntry 1 514 120 ∷ logs 3 PrepareEntry 0 514 80 ∷ logs 3 PrepareEntry 1 514 120
    -- the replies of 4 come: 1 learns of slot 1, and of its vote for batch 7 at 257
    ∷ gets 1 4 3 ∷ gets 1 4 4
    -- those of 3 come: three of five, so that 1 proposes at 514 slot 0, empty, and slot 1, batch 7
    ∷ gets 1 3 4 ∷ gets 1 3 5
    -- its Accepts reach 4 and 3, for slots 0 and 1
    ∷ gets 4 1 8 ∷ gets 4 1 10 ∷ gets 3 1 8 ∷ gets 3 1 10 ∷ []

unfoldable pub third : List Turn
third =
    -- the accept entries of 1, 3 and 4 at 514 are durable: 1 counts itself for both slots, 3 and 4 reply
    logs 1 AcceptEntry 0 514 120 ∷ logs 1 AcceptEntry 1 514 160 ∷ logs 3 AcceptEntry 0 514 160 ∷ logs 3 AcceptEntry 1 514 200
    ∷ logs 4 AcceptEntry 0 514 160 ∷ logs 4 AcceptEntry 1 514 200
    -- the reply of 3 for slot 1 comes, and once more, which counts once; then that of 4: 1 marks slot 1 at 514
    ∷ gets 1 3 9 ∷ gets 1 3 9 ∷ gets 1 4 8
    -- the replies for slot 0, overtaken by these, come: 1 marks slot 0 at 514
    ∷ gets 1 3 8 ∷ gets 1 4 7
    -- the commit entries of 1 are durable: it executes batch 7
    ∷ logs 1 CommitEntry 1 514 200 ∷ logs 1 CommitEntry 0 514 240
    -- the reply of 3 that was under way since before the change comes to 0, who has not heard of it: 0 marks slot 1 at 257
    ∷ gets 0 3 1
    -- 0 hears of the change: it gets the Accept of 1 for slot 1, steps down, and keeps the slot committed
    ∷ gets 0 1 10 ∷ []

-- the same completion is reported twice, the second time after 4 has accepted batch 7 at 514 too and before that is durable
unfoldable pub story : List Turn
story = first ++ (overdue 40 ∷ second) ++ (overdue 120 ∷ third)

abbrev pub five_world : World
five_world = play (begin five) story

-- every turn happens
pub five-honest : honest five (begin five) story ≡ true
unfolding play happen deliver first second third story five begin put upd marks_of at_place numbered new_replica fit fit_scalars fit_slots fit_reads fit_slot filled noting settled prepare_on prepare_step last_used counted_on voted_on replied_on reply_on prepare_reply_step accept_step accept_reply_step first_open last_open lead_on step_up timeout_step prepared_done moved_accept accepted_done pass_on pass_stop committed_done logged_on logged_step offer_step decide_accept decide_accept_reply decide_vote decide_count decide_promised decide_accepted decide_offer not_above least_majority with_bar with_fallen has insert count count_in make_batch same_batch note_key note_keys new_keys place_in overfull_in scan counts lacking honest is_real stands
five-honest = refl

-- slot 1 is marked with batch 7 at both ballots, at the older one last
pub five_marks : five_world.marks ≡ mark 1 1 514 seven ∷ mark 1 0 514 empty_batch ∷ mark 0 1 257 seven ∷ []
unfolding play happen deliver first second third story five begin put upd marks_of at_place numbered new_replica fit fit_scalars fit_slots fit_reads fit_slot filled noting settled prepare_on prepare_step last_used counted_on voted_on replied_on reply_on prepare_reply_step accept_step accept_reply_step first_open last_open lead_on step_up timeout_step prepared_done moved_accept accepted_done pass_on pass_stop committed_done logged_on logged_step offer_step decide_accept decide_accept_reply decide_vote decide_count decide_promised decide_accepted decide_offer not_above least_majority with_bar with_fallen has insert count count_in make_batch same_batch note_key note_keys new_keys place_in overfull_in scan counts lacking
five_marks = refl

-- batch 7 was offered to 0, and 1, to whom nothing was offered, wrote it at its own ballot; it was executed there
pub record ReProposed (w : World) : Type 0 where
  pub offered : accept_entry 1 257 seven ∈ w.did 0
  pub again : accept_entry 1 514 seven ∈ w.did 1
  pub executes : act (Execute (record { slot = 1; batch = 7; count = 1 })) seven.keys ∈ w.did 1
  pub by_1 : lines (w.did 1) ≡ line 0 514 0 ∷ line 1 514 7 ∷ []

pub re_proposed : ReProposed five_world
unfolding play happen deliver first second third story five begin put upd marks_of at_place numbered new_replica fit fit_scalars fit_slots fit_reads fit_slot filled noting settled prepare_on prepare_step last_used counted_on voted_on replied_on reply_on prepare_reply_step accept_step accept_reply_step first_open last_open lead_on step_up timeout_step prepared_done moved_accept accepted_done pass_on pass_stop committed_done logged_on logged_step offer_step decide_accept decide_accept_reply decide_vote decide_count decide_promised decide_accepted decide_offer not_above least_majority with_bar with_fallen has insert count count_in make_batch same_batch note_key note_keys new_keys place_in overfull_in scan counts lacking lines
re_proposed =
    record {
      offered = further 6 (five_world.did 0) (Memᴰ.head refl);
      again = further 9 (five_world.did 1) (Memᴰ.head refl);
      executes = further 13 (five_world.did 1) (Memᴰ.head refl);
      by_1 = refl;
    }

-- member 0, deposed, took the Accept at 514 for the slot that it had marked, which names the same batch (another would be 15): it stays committed
pub record Deposed (w : World) : Type 0 where
  pub stepped_down : drop 9 (w.did 0) ≡ bare StatusDown ∷ accept_entry 1 514 seven ∷ []
  pub status : (slot_of (w.replica 0) 1).status ≡ committed
  pub ballot : (slot_of (w.replica 0) 1).ballot ≡ 514
  pub batch : (slot_of (w.replica 0) 1).batch ≡ seven

pub Deposed-keeps : Deposed five_world
unfolding play happen deliver first second third story five begin put upd marks_of at_place numbered new_replica fit fit_scalars fit_slots fit_reads fit_slot filled noting settled prepare_on prepare_step last_used counted_on voted_on replied_on reply_on prepare_reply_step accept_step accept_reply_step first_open last_open lead_on step_up timeout_step prepared_done moved_accept accepted_done pass_on pass_stop committed_done logged_on logged_step offer_step decide_accept decide_accept_reply decide_vote decide_count decide_promised decide_accepted decide_offer not_above least_majority with_bar with_fallen has insert count count_in make_batch same_batch note_key note_keys new_keys place_in overfull_in scan counts lacking
Deposed-keeps = record { stepped_down = refl; status = refl; ballot = refl; batch = refl }

-- slot 1 of member 4: promised to 1 at 514, with batch 7 voted for at 257, or at 514 too
abbrev held : (status voted offset : ℕ) → Slot
held status voted offset =
    record {
      ballot = 514;
      status = status;
      batch = seven;
      vote = record { ballot = voted; batch = seven };
      leader = no_leader_book;
      replica = record { present = true; source = 1; trigger = 0; endprep = 1 };
      external = false;
      wal_offset = offset;
    }

-- the late completion: member 4 takes it, says nothing, and keeps the slot
pub record Silent (w : World) (size : ℕ) (s : Slot) : Type 0 where
  pub before : slot_of (w.replica 4) 1 ≡ s
  pub taken : (step (w.replica 4) 3456 (call_logged (completion AcceptEntry 1 257 size))).answer ≡ 0
  pub silent : (step (w.replica 4) 3456 (call_logged (completion AcceptEntry 1 257 size))).actions ≡ []
  pub after : slot_of (step (w.replica 4) 3456 (call_logged (completion AcceptEntry 1 257 size))).replica 1 ≡ s

pub late_silent : Silent (play (begin five) first) 40 (held preparing 257 0) × Silent (play (begin five) (first ++ (overdue 40 ∷ second))) 120 (held accepting 514 80)
unfolding play happen deliver first second five begin put upd marks_of at_place numbered new_replica fit fit_scalars fit_slots fit_reads fit_slot filled noting settled prepare_on prepare_step last_used counted_on voted_on replied_on reply_on prepare_reply_step accept_step accept_reply_step first_open last_open lead_on step_up timeout_step prepared_done moved_accept accepted_done pass_on pass_stop committed_done logged_on logged_step offer_step decide_accept decide_accept_reply decide_vote decide_count decide_promised decide_accepted decide_offer not_above least_majority with_bar with_fallen has insert count count_in make_batch same_batch note_key note_keys new_keys place_in overfull_in scan counts lacking
late_silent =
    (record { before = refl; taken = refl; silent = refl; after = refl }, record { before = refl; taken = refl; silent = refl; after = refl })
