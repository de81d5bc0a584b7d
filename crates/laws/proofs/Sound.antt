-- The rest of specs/Sound.antt: what stands on a theorem that a must-fail edit makes false.
use Rattle.std.specs.Prelude.{ℕ}
use Rattle.replica.specs.declared.Replica.{Replica}
use Rattle.replica.specs.Step.{Call, call_prepare, call_prepare_reply, call_accept, call_accept_reply, call_commit_notice, call_timeout, call_logged, call_offer, call_executed, call_open_read, call_read_reply, does, step}
use Rattle.laws.specs.Conflict.{Conflicts}
use Rattle.laws.specs.Sound.{Sound, Sound-summed, accept_reply_sound, accept_sound, commit_notice_sound, executed_sound, logged_sound, offer_sound, open_read_sound, prepare_reply_sound, prepare_sound, read_reply_sound, timeout_sound}

-- every call, the summary aside
does-Sound : (r : Replica) (n : ℕ) (c : Call) → Sound (Conflicts r c) r (does r n c)
does-Sound r n (call_prepare peer trigger ballot) = prepare_sound _ r n peer trigger ballot
does-Sound r n (call_prepare_reply peer m) = prepare_reply_sound _ r n peer m
does-Sound r n (call_accept peer slot ballot b) = accept_sound _ r n peer slot ballot b
does-Sound r n (call_accept_reply peer slot ballot) = accept_reply_sound _ r n peer slot ballot
does-Sound r n (call_commit_notice peer ballot bar) = commit_notice_sound _ r n peer ballot bar
does-Sound r n (call_timeout source) = timeout_sound _ r n source
does-Sound r n (call_logged d) = logged_sound _ r n d
does-Sound r n (call_offer b) = offer_sound _ r n b
does-Sound r n (call_executed slot) = executed_sound _ r n slot
does-Sound r n (call_open_read id count keys) = open_read_sound _ r n id count keys
does-Sound r n (call_read_reply peer id from_leader reply) = read_reply_sound r n peer id from_leader reply

-- every call
pub step-Sound : (r : Replica) (n : ℕ) (c : Call) → Sound (Conflicts r c) r (step r n c)
step-Sound r n c = Sound-summed (Conflicts r c) r (does r n c) (does-Sound r n c)
