-- 02, Wish 5: "The base replica still ignores it: two runs whose completions differ only in that field agree in state, answers and actions." Here
-- of one call, on any record and with any room; over runs in voting (Ignored), over a group's worlds in agreement (Ignored).
use Rattle.std.specs.Prelude.{◌≡◌, refl, false, not, ℕ, ltb, leb}
use Rattle.std.proofs.Common.{ap}
use Rattle.base.specs.Pick.{pick}
use Rattle.decide.specs.Scalars.{strict}
use Rattle.replica.specs.declared.Replica.{Replica}
use Rattle.replica.specs.declared.Entry.{Entry}
use Rattle.replica.specs.declared.Done.{Done}
use Rattle.replica.specs.Record.{Outcome, kept, summed, place, log_end}
use Rattle.replica.specs.Fit.{ready, unready}
use Rattle.replica.specs.Messages.{or_kept}
use Rattle.replica.specs.Durability.{logged_on, logged_step}
use Rattle.replica.specs.CompletionLaws.{done_alike}
use Rattle.replica.specs.Step.{Call, call_prepare, call_prepare_reply, call_accept, call_accept_reply, call_commit_notice, call_timeout, call_logged, call_offer, call_executed, call_open_read, call_read_reply, step}
use Rattle.laws.specs.WaysDurability.{completion}

-- two calls that are one, or completions that differ at most in the ballot
pub data Alike : Call → Call → Type 0 where
  same_call : (c : Call) → Alike c c
  same_entry : (entry : Entry) (slot ballot ballot' size : ℕ) → Alike (call_logged (completion entry slot ballot size)) (call_logged (completion entry slot ballot' size))

completes_alike : (r : Replica) (room : ℕ) (entry : Entry) (slot ballot ballot' size : ℕ) → strict r.sc ≡ false
    → logged_step r room (completion entry slot ballot size) ≡ logged_step r room (completion entry slot ballot' size)
unfolding logged_step logged_on
completes_alike r room entry slot ballot ballot' size k =
    let r' = logged_on r (place r.sc slot) size in
    ap (λ (o : Outcome). pick (not (ready r room)) (kept (unready r room) r) (pick (ltb slot r.sc.start) (kept 0 r) (pick (leb (log_end r) slot) (kept 4 r) (pick (ltb size r.sc.wal_offset) (kept 6 r) (or_kept r o)))))
    (done_alike r' (place r.sc slot) slot ballot ballot' k entry)

-- THE THEOREM, of one call: one outcome, that is answer, replica and actions
pub ballot_ignored : (r : Replica) (room : ℕ) (c c' : Call) → strict r.sc ≡ false → Alike c c' → step r room c ≡ step r room c'
ballot_ignored r room _ _ k (same_call c) = refl
ballot_ignored r room _ _ k (same_entry entry slot ballot ballot' size) = ap summed (completes_alike r room entry slot ballot ballot' size k)

-- ── any call with any ballot in its place, if it is a completion, is alike ──
module _ (f : Done → ℕ) where
  abbrev pub saying : Call → Call
  saying (call_logged d) = call_logged (completion d.entry d.slot (f d) d.size)
  saying (call_prepare peer trigger ballot) = call_prepare peer trigger ballot
  saying (call_prepare_reply peer m) = call_prepare_reply peer m
  saying (call_accept peer slot ballot b) = call_accept peer slot ballot b
  saying (call_accept_reply peer slot ballot) = call_accept_reply peer slot ballot
  saying (call_commit_notice peer ballot bar) = call_commit_notice peer ballot bar
  saying (call_timeout source) = call_timeout source
  saying (call_offer b) = call_offer b
  saying (call_executed slot) = call_executed slot
  saying (call_open_read id count keys) = call_open_read id count keys
  saying (call_read_reply peer id from_leader reply) = call_read_reply peer id from_leader reply

  pub saying-Alike : (c : Call) → Alike c (saying c)
  saying-Alike (call_logged d) = same_entry d.entry d.slot d.ballot (f d) d.size
  saying-Alike (call_prepare peer trigger ballot) = same_call _
  saying-Alike (call_prepare_reply peer m) = same_call _
  saying-Alike (call_accept peer slot ballot b) = same_call _
  saying-Alike (call_accept_reply peer slot ballot) = same_call _
  saying-Alike (call_commit_notice peer ballot bar) = same_call _
  saying-Alike (call_timeout source) = same_call _
  saying-Alike (call_offer b) = same_call _
  saying-Alike (call_executed slot) = same_call _
  saying-Alike (call_open_read id count keys) = same_call _
  saying-Alike (call_read_reply peer id from_leader reply) = same_call _
