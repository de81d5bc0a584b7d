-- Runs of a group of three, by computation: the theorem is about something, and demand 3 does not promise more than it says.
use Rattle.std.specs.Prelude.{◌≡◌, refl, Bool, true, false, ◌&&◌, ◌⊎◌, ℕ, zero, suc, ltb, get_or, take, drop, replicate}
use Rattle.std.proofs.Common.{inl, inr}
use mathlib.Core.List.Memᴰ
use mathlib.Core.List.{List, [], ◌∷◌, ◌++◌}
use Rattle.base.specs.Scan.{scan}
use Rattle.base.specs.Among.{◌∈◌}
use Rattle.members.specs.Sets.{has, insert, count, count_in}
use Rattle.batch.specs.declared.Batch.{Batch}
use Rattle.batch.specs.Batches.{empty_batch, make_batch}
use Rattle.batch.specs.Keys.{place_in, note_key, note_keys, new_keys, overfull_in}
use Rattle.tally.specs.Merge.{merge}
use Rattle.tally.specs.Open.{find_read, open_read, close_read, put_read, reply_to, fit_reads}
use Rattle.actions.specs.declared.Action.TheVariants.{CommitNotice, StatusUp}
use Rattle.actions.specs.Actions.{Act, bare}
use Rattle.slots.specs.Slots.{fit_slot}
use Rattle.decide.specs.Bars.{not_above, least_majority, with_bar, with_fallen}
use Rattle.decide.specs.Decide.{decide_accept, decide_accept_reply, decide_vote, decide_count, decide_promised, decide_accepted, decide_offer}
use Rattle.decide.specs.Scalars.{fit_scalars}
use Rattle.window.specs.Counting.{counts}
use Rattle.window.specs.Window.{fit_slots, last_used, first_open, last_open, mark_stop, filled}
use Rattle.window.specs.ByPlace.{at_place}
use Rattle.replica.specs.declared.Entry.{Entry}
use Rattle.replica.specs.declared.Entry.TheVariants.{PrepareBal, AcceptData, CommitSlot}
use Rattle.replica.specs.Record.{new_replica, noting, settled}
use Rattle.replica.specs.Fit.{fit}
use Rattle.replica.specs.Messages.{prepare_on, prepare_step, counted_on, voted_on, replied_on, reply_on, prepare_reply_step, accept_step, accept_reply_step}
use Rattle.replica.specs.Leadership.{lead_on, step_up, timeout_step, mark_on, commit_notice_step}
use Rattle.replica.specs.Durability.{prepared_done, moved_accept, accepted_done, pass_on, pass_stop, committed_done, logged_on, logged_step}
use Rattle.replica.specs.Quorumread.{open_read_step, replied_step, read_reply_step}
use Rattle.replica.specs.Added.{offer_step, moved_exec, executed_step}
use Rattle.replica.specs.Step.{Call, call_accept, call_commit_notice, call_timeout, call_logged, call_offer, step, received}
use Rattle.laws.specs.WaysDurability.{completion}
use Rattle.agreement.specs.BySlot.{numbered}
use Rattle.agreement.specs.Theorem.{Group, Mark, World, marks_of, upd, put, begin, May, message, accept_entry, commit_entry}
use Rattle.agreement.specs.Local.{accept_sent}
use Rattle.agreement.specs.Written.{line, lines}

-- what happens at member m: a timer, an offer, a completion, or the k-th thing that somebody did arrives, if it is a message
pub data Turn : Type 0 where
  times : (m source : ℕ) → Turn
  offers : (m : ℕ) → Batch → Turn
  logs : (m : ℕ) → Entry → (slot ballot size : ℕ) → Turn
  gets : (m from k : ℕ) → Turn

abbrev pub who : Turn → ℕ
who (times m source) = m
who (offers m b) = m
who (logs m e slot ballot size) = m
who (gets m from k) = m

abbrev pub does : World → ℕ → Call → World
does w m c = put w m (step (w.replica m) 3456 c)

unfoldable pub deliver : World → ℕ → List Call → World
deliver w m [] = w
deliver w m (c ∷ l) = does w m c

abbrev pub thing : World → ℕ → ℕ → Act
thing w from k = get_or (w.did from) k (bare StatusUp)

unfoldable pub happen : World → Turn → World
happen w (times m source) = does w m (call_timeout source)
happen w (offers m b) = does w m (call_offer b)
happen w (logs m e slot ballot size) = does w m (call_logged (completion e slot ballot size))
happen w (gets m from k) = deliver w m (received from (thing w from k))

unfoldable pub play : World → List Turn → World
play w [] = w
play w (t ∷ l) = play (happen w t) l

-- ── whatever happens at present members is a run ──
pub get_d_in : {A : Type 0} (l : List A) (k : ℕ) (d : A) → (get_or l k d ∈ l) ⊎ (get_or l k d ≡ d)
get_d_in [] k d = inr refl
get_d_in (x ∷ l) zero d = inl (Memᴰ.head refl)
get_d_in {A} (x ∷ l) (suc k) d = go (get_d_in l k d)
  where
    go : (get_or l k d ∈ l) ⊎ (get_or l k d ≡ d) → (get_or l k d ∈ (x ∷ l)) ⊎ (get_or l k d ≡ d)
    go (inl m) = inl (Memᴰ.tail m)
    go (inr e) = inr e

unfoldable pub all_present : Group → List Turn → Bool
all_present g [] = true
all_present g (t ∷ l) = g.present (who t) && all_present g l

-- ── three members, all present, start 0, urgent commit notices ──
pub three_made : (m : ℕ) → ltb m 3 ≡ true → (new_replica m 3 0 1).answer ≡ 0
unfolding new_replica
three_made m e = rw e

unfoldable pub three : Group
three = record { size = 3; start = 0; options = λ m. 1; present = λ m. ltb m 3; strict = false; made = three_made; alike = λ m _. refl }

abbrev pub seven : Batch
seven = record { id = 7; count = 1; keys = 5 ∷ replicate 7 0 }

-- 0 leads and offers batch 7, which 1 accepts; 1 takes over with 2, and commits slots 0 (empty) and 1 (batch 7); 2 and 0 hear of it
unfoldable pub changed : List Turn
changed =
    times 0 0 ∷ gets 1 0 3 ∷ logs 1 PrepareBal 0 257 40 ∷ logs 0 PrepareBal 0 257 40 ∷ gets 0 1 1 ∷ offers 0 seven ∷ gets 1 0 7
    ∷ times 1 0 ∷ gets 2 1 7 ∷ logs 2 PrepareBal 0 514 40 ∷ logs 1 PrepareBal 0 514 80 ∷ logs 1 PrepareBal 1 514 120 ∷ gets 1 2 1
    ∷ gets 2 1 9 ∷ gets 2 1 11 ∷ logs 2 AcceptData 0 514 80 ∷ logs 2 AcceptData 1 514 120 ∷ logs 1 AcceptData 0 514 160 ∷ logs 1 AcceptData 1 514 200
    ∷ gets 1 2 4 ∷ gets 1 2 5 ∷ logs 1 CommitSlot 0 514 240 ∷ gets 2 1 15 ∷ gets 0 1 9 ∷ gets 0 1 11 ∷ gets 0 1 15 ∷ []

-- a deposed leader's Accept is answered after a newer Prepare, since the completion's ballot, 257, is ignored: 1 commits slot 1 empty at ballot 514
-- with the answer of 2, which accepted batch 7 at 257 only; then 2 takes over and commits slot 1 with batch 7 at ballot 771
unfoldable pub late : List Turn
late =
    times 0 0 ∷ gets 1 0 3 ∷ logs 1 PrepareBal 0 257 40 ∷ logs 0 PrepareBal 0 257 40 ∷ gets 0 1 1 ∷ offers 0 seven ∷ gets 2 0 7
    ∷ times 1 0 ∷ gets 2 1 5 ∷ logs 2 AcceptData 1 257 40 ∷ gets 0 1 5 ∷ logs 0 PrepareBal 0 514 80 ∷ logs 0 PrepareBal 1 514 120 ∷ logs 1 PrepareBal 0 514 80
    ∷ gets 1 0 11 ∷ gets 1 0 12 ∷ logs 1 AcceptData 1 514 120 ∷ gets 1 2 3
    ∷ times 2 1 ∷ gets 0 2 8 ∷ logs 0 PrepareBal 0 771 160 ∷ logs 0 PrepareBal 1 771 200 ∷ logs 2 PrepareBal 0 771 80 ∷ logs 2 PrepareBal 1 771 120 ∷ gets 2 0 16
    ∷ logs 2 AcceptData 1 771 160 ∷ gets 0 2 12 ∷ logs 0 AcceptData 1 771 240 ∷ gets 2 0 18 ∷ []

abbrev pub mark : ℕ → ℕ → ℕ → Batch → Mark
mark who slot ballot b = record { who = who; slot = slot; ballot = ballot; batch = b }

abbrev pub changed_world : World
changed_world = play (begin three) changed

abbrev pub late_world : World
late_world = play (begin three) late

-- an element that stands after the first k
pub further : {A : Type 0} (k : ℕ) (l : List A) {x : A} → x ∈ drop k l → x ∈ l
further zero l m = m
further (suc k) [] m = m
further (suc k) (y ∷ l) m = Memᴰ.tail (further k l m)

-- member 0 writes batch 7 for slot 1 at its ballot 257; then all three mark slot 1 with it, at ballot 514 of member 1, whose log says so
pub record ThreeMarked (w : World) : Type 0 where
  pub offered : accept_entry 1 257 seven ∈ w.did 0
  pub committed : commit_entry 1 514 ∈ w.did 1
  pub marks : w.marks ≡ mark 1 0 514 empty_batch ∷ mark 1 1 514 seven ∷ mark 2 0 514 empty_batch ∷ mark 2 1 514 seven ∷ mark 0 0 514 empty_batch ∷ mark 0 1 514 seven ∷ []

pub three_marked : ThreeMarked changed_world
unfolding play happen deliver changed three begin put upd marks_of at_place numbered new_replica fit fit_scalars fit_slots fit_reads fit_slot filled noting settled prepare_on prepare_step last_used counted_on voted_on replied_on reply_on prepare_reply_step accept_step accept_reply_step first_open last_open lead_on step_up timeout_step mark_on mark_stop commit_notice_step prepared_done moved_accept accepted_done pass_on pass_stop committed_done logged_on logged_step open_read_step replied_step read_reply_step offer_step moved_exec executed_step decide_accept decide_accept_reply decide_vote decide_count decide_promised decide_accepted decide_offer not_above least_majority with_bar with_fallen has insert count count_in make_batch note_key note_keys new_keys place_in overfull_in merge find_read open_read close_read put_read reply_to scan counts
three_marked =
    record { offered = further 6 (changed_world.did 0) (Memᴰ.head refl); committed = further 13 (changed_world.did 1) (Memᴰ.head refl); marks = refl }

-- demand 3 makes no claim across ballots, and none holds: slot 1 is marked with two batches, and accept entries for it name two
pub record TwoBatches (w : World) : Type 0 where
  pub marks : w.marks ≡ mark 1 1 514 empty_batch ∷ mark 2 1 771 seven ∷ []
  pub entry : accept_entry 1 514 empty_batch ∈ w.did 1
  pub entry' : accept_entry 1 771 seven ∈ w.did 2

pub two_batches : TwoBatches late_world
unfolding play happen deliver late three begin put upd marks_of at_place numbered new_replica fit fit_scalars fit_slots fit_reads fit_slot filled noting settled prepare_on prepare_step last_used counted_on voted_on replied_on reply_on prepare_reply_step accept_step accept_reply_step first_open last_open lead_on step_up timeout_step mark_on mark_stop commit_notice_step prepared_done moved_accept accepted_done pass_on pass_stop committed_done logged_on logged_step open_read_step replied_step read_reply_step offer_step moved_exec executed_step decide_accept decide_accept_reply decide_vote decide_count decide_promised decide_accepted decide_offer not_above least_majority with_bar with_fallen has insert count count_in make_batch note_key note_keys new_keys place_in overfull_in merge find_read open_read close_read put_read reply_to scan counts
two_batches = record { marks = refl; entry = further 9 (late_world.did 1) (Memᴰ.head refl); entry' = further 11 (late_world.did 2) (Memᴰ.head refl) }

-- ── what the conditions are for ──
abbrev pub eight : Batch
eight = record { id = 8; count = 0; keys = replicate 8 0 }

-- "none is made up": two Accepts for one slot and ballot that nobody sent are both taken
pub made_up : (accept_entry 0 257 seven ∈ (step (new_replica 1 3 0 0).replica 3456 (call_accept 0 0 257 seven)).actions) ×
    (accept_entry 0 257 eight ∈ (step (new_replica 2 3 0 0).replica 3456 (call_accept 0 0 257 eight)).actions)
unfolding new_replica fit fit_scalars fit_slots fit_reads fit_slot filled noting settled accept_step decide_accept make_batch note_key note_keys new_keys place_in overfull_in scan first_open
made_up = (Memᴰ.head refl, Memᴰ.head refl)

-- "ids distinct": two replicas with one id, here of a group of one, write entries for one slot and ballot that name two batches
pub alone_made : (m : ℕ) → ltb m 1 ≡ true → (new_replica m 1 0 0).answer ≡ 0
unfolding new_replica
alone_made m e = rw e

unfoldable pub alone : Group
alone = record { size = 1; start = 0; options = λ m. 0; present = λ m. ltb m 1; strict = false; made = alone_made; alike = λ m _. refl }

unfoldable pub once : Batch → List Turn
once b = times 0 0 ∷ logs 0 PrepareBal 0 257 40 ∷ offers 0 b ∷ []

pub one_id : (accept_entry 1 257 seven ∈ (play (begin alone) (once seven)).did 0) × (accept_entry 1 257 eight ∈ (play (begin alone) (once eight)).did 0)
unfolding play happen deliver once alone begin put upd marks_of at_place numbered new_replica fit fit_scalars fit_slots fit_reads fit_slot filled noting settled prepare_on prepare_step last_used counted_on voted_on replied_on reply_on prepare_reply_step accept_step accept_reply_step first_open last_open lead_on step_up timeout_step mark_on mark_stop commit_notice_step prepared_done moved_accept accepted_done pass_on pass_stop committed_done logged_on logged_step open_read_step replied_step read_reply_step offer_step moved_exec executed_step decide_accept decide_accept_reply decide_vote decide_count decide_promised decide_accepted decide_offer not_above least_majority with_bar with_fallen has insert count count_in make_batch note_key note_keys new_keys place_in overfull_in merge find_read open_read close_read put_read reply_to scan counts
one_id = (further 6 ((play (begin alone) (once seven)).did 0) (Memᴰ.head refl), further 6 ((play (begin alone) (once eight)).did 0) (Memᴰ.head refl))

-- ── what the paper asks for, and does not hold: the entries of `late`, read by Unsafe ──
-- slot 1 has batch 7 from members 0 and 2 alone, at 257 and at 771, and the empty one from member 1 alone, at 514
pub record LateEntries (w : World) : Type 0 where
  pub of_0 : lines (w.did 0) ≡ line 0 257 0 ∷ line 1 257 7 ∷ line 1 771 7 ∷ []
  pub of_1 : lines (w.did 1) ≡ line 0 514 0 ∷ line 1 514 0 ∷ []
  pub of_2 : lines (w.did 2) ≡ line 1 257 7 ∷ line 0 771 0 ∷ line 1 771 7 ∷ []
  pub seven_0 : accept_entry 1 257 seven ∈ w.did 0
  pub seven_2 : accept_entry 1 257 seven ∈ w.did 2
  pub sent : accept_sent 1 514 empty_batch ∈ w.did 1

pub late_entries : LateEntries late_world
unfolding play happen deliver late three begin put upd marks_of at_place numbered new_replica fit fit_scalars fit_slots fit_reads fit_slot filled noting settled prepare_on prepare_step last_used counted_on voted_on replied_on reply_on prepare_reply_step accept_step accept_reply_step first_open last_open lead_on step_up timeout_step mark_on mark_stop commit_notice_step prepared_done moved_accept accepted_done pass_on pass_stop committed_done logged_on logged_step open_read_step replied_step read_reply_step offer_step moved_exec executed_step decide_accept decide_accept_reply decide_vote decide_count decide_promised decide_accepted decide_offer not_above least_majority with_bar with_fallen has insert count count_in make_batch note_key note_keys new_keys place_in overfull_in merge find_read open_read close_read put_read reply_to scan lines counts
late_entries =
    record {
      of_0 = refl;
      of_1 = refl;
      of_2 = refl;
      seven_0 = further 6 (late_world.did 0) (Memᴰ.head refl);
      seven_2 = further 0 (late_world.did 2) (Memᴰ.head refl);
      sent = further 10 (late_world.did 1) (Memᴰ.head refl);
    }

-- the same run up to its first mark; then member 0, who accepted batch 7 at 257 as a leader and told nobody, takes the Accept at 514 too, and
-- its log is reported durable
unfoldable pub twice : List Turn
twice = take 18 late ++ (gets 0 1 10 ∷ logs 0 AcceptData 1 514 160 ∷ [])

abbrev pub twice_world : World
twice_world = play (begin three) twice

pub record TwiceEntries (w : World) : Type 0 where
  pub marks : w.marks ≡ mark 1 1 514 empty_batch ∷ []
  pub seven_0 : accept_entry 1 257 seven ∈ w.did 0
  pub seven_2 : accept_entry 1 257 seven ∈ w.did 2
  pub empty_0 : accept_entry 1 514 empty_batch ∈ w.did 0
  pub empty_1 : accept_entry 1 514 empty_batch ∈ w.did 1

pub twice_entries : TwiceEntries twice_world
unfolding play happen deliver late three begin put upd marks_of at_place numbered new_replica fit fit_scalars fit_slots fit_reads fit_slot filled noting settled prepare_on prepare_step last_used counted_on voted_on replied_on reply_on prepare_reply_step accept_step accept_reply_step first_open last_open lead_on step_up timeout_step mark_on mark_stop commit_notice_step prepared_done moved_accept accepted_done pass_on pass_stop committed_done logged_on logged_step open_read_step replied_step read_reply_step offer_step moved_exec executed_step decide_accept decide_accept_reply decide_vote decide_count decide_promised decide_accepted decide_offer not_above least_majority with_bar with_fallen has insert count count_in make_batch note_key note_keys new_keys place_in overfull_in merge find_read open_read close_read put_read reply_to scan twice counts
twice_entries =
    record {
      marks = refl;
      seven_0 = further 6 (twice_world.did 0) (Memᴰ.head refl);
      seven_2 = further 0 (twice_world.did 2) (Memᴰ.head refl);
      empty_0 = further 13 (twice_world.did 0) (Memᴰ.head refl);
      empty_1 = further 9 (twice_world.did 1) (Memᴰ.head refl);
    }

-- ── a notice that marks, for Learning: in `changed`, member 2 gets that of member 1 ──
abbrev pub noticed_world : World
noticed_world = play (begin three) (take 22 changed)

pub record NoticeMarks (w : World) : Type 0 where
  pub may : May w 2 3456 (call_commit_notice 1 514 2)
  pub marks : marks_of 2 (w.replica 2) (step (w.replica 2) 3456 (call_commit_notice 1 514 2)).replica ≡ mark 2 0 514 empty_batch ∷ mark 2 1 514 seven ∷ []

pub notice_marks : NoticeMarks noticed_world
unfolding play happen deliver changed three begin put upd marks_of at_place numbered new_replica fit fit_scalars fit_slots fit_reads fit_slot filled noting settled prepare_on prepare_step last_used counted_on voted_on replied_on reply_on prepare_reply_step accept_step accept_reply_step first_open last_open lead_on step_up timeout_step mark_on mark_stop commit_notice_step prepared_done moved_accept accepted_done pass_on pass_stop committed_done logged_on logged_step open_read_step replied_step read_reply_step offer_step moved_exec executed_step decide_accept decide_accept_reply decide_vote decide_count decide_promised decide_accepted decide_offer not_above least_majority with_bar with_fallen has insert count count_in make_batch note_key note_keys new_keys place_in overfull_in merge find_read open_read close_read put_read reply_to scan counts
notice_marks =
    record {
      may =
          message 1 (bare (CommitNotice (record { ballot = 514; bar = 2 }))) (call_commit_notice 1 514 2) (further 15 (noticed_world.did 1) (Memᴰ.head refl))
          (Memᴰ.head refl);
      marks = refl;
    }
