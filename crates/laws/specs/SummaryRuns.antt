-- The summary in runs of member 2 of 3 from slot 0 on, closed by computation: both its numbers, where it falls, and 14.
use Rattle.std.specs.Prelude.{◌≡◌, refl, Bool, true, ◌&&◌, List, [], ◌∷◌, ℕ, T, eqb, replicate}
use Rattle.std.proofs.Common.{arith}
use Rattle.base.specs.Scan.{scan}
use Rattle.members.specs.Sets.{has, insert, count, count_in}
use Rattle.batch.specs.Batches.{make_batch}
use Rattle.batch.specs.Keys.{place_in, note_key, note_keys, new_keys, overfull_in}
use Rattle.tally.specs.Open.{fit_reads}
use Rattle.slots.specs.Slots.{fit_slot}
use Rattle.decide.specs.Decide.{decide_accept, decide_accept_reply, decide_promised, decide_accepted}
use Rattle.decide.specs.Scalars.{fit_scalars}
use Rattle.window.specs.Window.{fit_slots, last_used, first_open, last_open, mark_stop, filled}
use Rattle.replica.specs.declared.Replica.{Replica}
use Rattle.replica.specs.declared.Entry.TheVariants.{AcceptData, CommitSlot}
use Rattle.replica.specs.Record.{kept, new_replica, noting, settled}
use Rattle.replica.specs.Fit.{fit}
use Rattle.replica.specs.Messages.{prepare_on, prepare_step, accept_step}
use Rattle.replica.specs.Leadership.{lead_on, step_up, timeout_step, mark_on, commit_notice_step}
use Rattle.replica.specs.Durability.{prepared_done, moved_accept, accepted_done, pass_on, pass_stop, committed_done, logged_on, logged_step}
use Rattle.replica.specs.Added.{moved_exec, executed_step}
use Rattle.replica.specs.ActingLaws.{with_summary}
use Rattle.replica.specs.Step.{Call, call_prepare, call_accept, call_commit_notice, call_timeout, call_logged, call_executed, step}
use Rattle.laws.specs.WaysDurability.{completion}
use Rattle.laws.specs.Theorems.{unsummed}

-- the replica after calls
unfoldable pub after : Replica → List Call → Replica
after r [] = r
after r (c ∷ l) = after (step r 3456 c).replica l

abbrev pub second : Replica
second = (new_replica 2 3 0 0).replica

-- member 0's batch 7 for slot 0; its commit; member 1's Prepare; and the log's completions
abbrev pub accept : Call
accept = call_accept 0 0 257 (record { id = 7; count = 1; keys = 5 ∷ replicate 7 0 })

abbrev pub commit : Call
commit = call_commit_notice 0 257 1

abbrev pub prepare : Call
prepare = call_prepare 1 0 258

abbrev pub accept_logged : Call
accept_logged = call_logged (completion AcceptData 0 257 40)

abbrev pub commit_logged : Call
commit_logged = call_logged (completion CommitSlot 0 257 80)

-- calls, and the summary after them
pub record Row : Type 0 where
  pub calls : List Call
  pub first : ℕ
  pub accepting : ℕ

abbrev row : List Call → ℕ → ℕ → Row
row calls first accepting = record { calls = calls; first = first; accepting = accepting }

unfoldable pub rows : List Row
rows =
    row [] 0 0
    ∷ row (accept ∷ []) 0 1
    ∷ row (accept ∷ commit ∷ []) 1 0
    -- it falls in a Prepare, and in a repeated Accept
    ∷ row (accept ∷ commit ∷ prepare ∷ []) 0 0
    ∷ row (accept ∷ commit ∷ accept ∷ []) 0 1
    -- below commit_bar the repeated Accept is not counted
    ∷ row (accept ∷ commit ∷ accept_logged ∷ commit_logged ∷ []) 1 0
    ∷ row (accept ∷ commit ∷ accept_logged ∷ commit_logged ∷ accept ∷ []) 0 0
    -- an execution leaves it, and a step-up takes its trigger from it: it appends the slot
    ∷ row (accept ∷ commit ∷ accept_logged ∷ commit_logged ∷ call_executed 0 ∷ []) 1 0
    ∷ row (accept ∷ commit ∷ accept_logged ∷ commit_logged ∷ call_executed 0 ∷ call_timeout 0 ∷ []) 1 0
    ∷ []

unfoldable pub right : List Row → Bool
right [] = true
right (x ∷ l) = (eqb (after second x.calls).summary.first x.first && eqb (after second x.calls).summary.accepting x.accepting) && right l

pub rows_hold : T (right rows)
unfolding right rows after new_replica fit fit_scalars fit_slots fit_reads fit_slot filled noting settled prepare_on prepare_step last_used accept_step first_open last_open lead_on step_up timeout_step mark_on mark_stop commit_notice_step prepared_done moved_accept accepted_done pass_on pass_stop committed_done logged_on logged_step moved_exec executed_step decide_accept decide_accept_reply decide_promised decide_accepted has insert count count_in make_batch note_key note_keys new_keys place_in overfull_in scan
rows_hold = tt

-- 14: with either number wrong every call is refused, and nothing is touched
abbrev pub saved : Replica
saved = after second (accept ∷ commit ∷ [])

abbrev pub first_wrong : Replica
first_wrong = with_summary saved (record { first = 0; accepting = 0 })

abbrev pub accepting_wrong : Replica
accepting_wrong = with_summary saved (record { first = 1; accepting = 1 })

pub step-first_wrong : (c : Call) → step first_wrong 3456 c ≡ kept 14 first_wrong
unfolding after new_replica fit fit_scalars fit_slots fit_reads fit_slot filled noting settled accept_step first_open mark_on mark_stop commit_notice_step decide_accept make_batch note_key note_keys new_keys place_in overfull_in scan
step-first_wrong c = unsummed first_wrong 3456 c (omega arith) refl refl

pub step-accepting_wrong : (c : Call) → step accepting_wrong 3456 c ≡ kept 14 accepting_wrong
unfolding after new_replica fit fit_scalars fit_slots fit_reads fit_slot filled noting settled accept_step first_open mark_on mark_stop commit_notice_step decide_accept make_batch note_key note_keys new_keys place_in overfull_in scan
step-accepting_wrong c = unsummed accepting_wrong 3456 c (omega arith) refl refl
