-- The room's length goes into the first test of each call, and nowhere else.
use Rattle.std.specs.Prelude.{◌≡◌, Bool, false, ◌&&◌, ℕ}
use Rattle.std.proofs.Common.{ap, ◌∙◌, ne_eqb}
use Rattle.base.specs.Pick.{pick}
use Rattle.replica.specs.declared.Replica.{Replica}
use Rattle.replica.specs.Record.{kept, summed}
use Rattle.replica.specs.Fit.{fit, roomy, sums, ready, unready}
use Rattle.replica.specs.Messages.{prepare_step, prepare_reply_step, accept_step, accept_reply_step}
use Rattle.replica.specs.Leadership.{timeout_step, commit_notice_step}
use Rattle.replica.specs.Durability.{logged_step}
use Rattle.replica.specs.Quorumread.{open_read_step, read_reply_step}
use Rattle.replica.specs.Added.{offer_step, executed_step}
use Rattle.replica.specs.Step.{Call, call_prepare, call_prepare_reply, call_accept, call_accept_reply, call_commit_notice, call_timeout, call_logged, call_offer, call_executed, call_open_read, call_read_reply, does, step}
use Rattle.replica.specs.ActingLaws.{summed_refused}
use Rattle.laws.specs.WaysMessages.{unready_some}

-- no room or an unfit record, or a wrong summary
does-unready : (r : Replica) (n : ℕ) (c : Call) → ready r n ≡ false → does r n c ≡ kept (unready r n) r
unfolding prepare_step prepare_reply_step accept_step accept_reply_step timeout_step commit_notice_step logged_step open_read_step read_reply_step offer_step executed_step
does-unready r n (call_prepare peer trigger ballot) e = rw e
does-unready r n (call_prepare_reply peer m) e = rw e
does-unready r n (call_accept peer slot ballot b) e = rw e
does-unready r n (call_accept_reply peer slot ballot) e = rw e
does-unready r n (call_commit_notice peer ballot bar) e = rw e
does-unready r n (call_timeout source) e = rw e
does-unready r n (call_logged d) e = rw e
does-unready r n (call_offer b) e = rw e
does-unready r n (call_executed slot) e = rw e
does-unready r n (call_open_read id count keys) e = rw e
does-unready r n (call_read_reply peer id from_leader reply) e = rw e

pub step-unready : (r : Replica) (n : ℕ) (c : Call) → ready r n ≡ false → step r n c ≡ kept (unready r n) r
step-unready r n c e = ap summed (does-unready r n c e) ∙ summed_refused (unready r n) r (ne_eqb (unready r n) 0 (unready_some r n))

-- the room's length goes into two tests, of which the second is of the first's number
does_room : (r : Replica) (n n' : ℕ) (c : Call) → ready r n ≡ ready r n' → unready r n ≡ unready r n' → does r n c ≡ does r n' c
unfolding prepare_step prepare_reply_step accept_step accept_reply_step timeout_step commit_notice_step logged_step open_read_step read_reply_step offer_step executed_step
does_room r n n' (call_prepare peer trigger ballot) e f = rw (e, f)
does_room r n n' (call_prepare_reply peer m) e f = rw (e, f)
does_room r n n' (call_accept peer slot ballot b) e f = rw (e, f)
does_room r n n' (call_accept_reply peer slot ballot) e f = rw (e, f)
does_room r n n' (call_commit_notice peer ballot bar) e f = rw (e, f)
does_room r n n' (call_timeout source) e f = rw (e, f)
does_room r n n' (call_logged d) e f = rw (e, f)
does_room r n n' (call_offer b) e f = rw (e, f)
does_room r n n' (call_executed slot) e f = rw (e, f)
does_room r n n' (call_open_read id count keys) e f = rw (e, f)
does_room r n n' (call_read_reply peer id from_leader reply) e f = rw (e, f)

pub step_room : (r : Replica) (n n' : ℕ) (c : Call) → roomy n ≡ roomy n' → step r n c ≡ step r n' c
step_room r n n' c e =
    ap summed (does_room r n n' c (ap (λ (t : Bool). t && (fit r && sums r)) e) (ap (λ (t : Bool). pick {A = ℕ} (t && fit r) 14 1) e))
