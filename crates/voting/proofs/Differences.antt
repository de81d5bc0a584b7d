-- The rest of specs/Differences.antt: what stands on a theorem that a must-fail edit makes false.
use Rattle.std.specs.Prelude.{◌≡◌, false, ℕ, ◌≤◌}
use Rattle.batch.specs.declared.Batch.{Batch}
use Rattle.decide.specs.declared.Reply.{Reply}
use Rattle.decide.specs.Scalars.{strict}
use Rattle.replica.specs.declared.Replica.{Replica}
use Rattle.replica.specs.Step.{call_prepare_reply, call_offer, step}
use Rattle.voting.specs.Windows.{Whole}
use Rattle.voting.specs.Votes.{vote_of}
use Rattle.voting.proofs.Votes.{vote_step}

-- ── 2.2, phase 2: a leader that enters Accept, or offers, sets no vote of its own: no slot's vote changes ──
pub reply_sets_no_vote : (r : Replica) (room peer : ℕ) (m : Reply) (s : ℕ) → Whole r.window → strict r.sc ≡ false → r.sc.start ≤ s
    → vote_of (step r room (call_prepare_reply peer m)).replica s ≡ vote_of r s
reply_sets_no_vote r room peer m s h base l = vote_step r (record { room = room; call = call_prepare_reply peer m }) s h base l

pub offer_sets_no_vote : (r : Replica) (room : ℕ) (b : Batch) (s : ℕ) → Whole r.window → strict r.sc ≡ false → r.sc.start ≤ s → vote_of (step r room (call_offer b)).replica s ≡ vote_of r s
offer_sets_no_vote r room b s h base l = vote_step r (record { room = room; call = call_offer b }) s h base l
