-- The ways that a log completion can go, as a claim sees them.
use Rattle.std.specs.Prelude.{◌≡◌, Bool, true, false, not, ◌&&◌, List, [], ◌∷◌, ℕ, ◌≤◌, ◌<◌, leb}
use Rattle.std.proofs.Math.Path.{refl}
use Rattle.std.proofs.Common.{sym, ◌∙◌}
use Rattle.members.specs.Sets.{count_in}
use Rattle.actions.specs.declared.Action.TheVariants.{AcceptReply, CommitSlot}
use Rattle.actions.specs.Actions.{Act, bare}
use Rattle.slots.specs.Slots.{acknowledged_slot, committed_slot}
use Rattle.decide.specs.declared.Reply.{Reply}
use Rattle.decide.specs.Scalars.{leads, quorum}
use Rattle.decide.specs.Decide.{is_stale}
use Rattle.decide.specs.PrepareReply.{own_reply}
use Rattle.window.specs.Window.{put_slot}
use Rattle.replica.specs.declared.Replica.{Replica}
use Rattle.replica.specs.declared.Done.{Done}
use Rattle.replica.specs.declared.Entry.TheVariants.{PrepareBal, AcceptData, CommitSlot as CommitEntry}
use Rattle.replica.specs.Record.{Outcome, place}
use Rattle.replica.specs.Messages.{or_kept}
use Rattle.replica.specs.Durability.{moved_accept, logged_on, logged_step}
use Rattle.laws.specs.Leaves.{done, or_kept_ways}
use Rattle.laws.specs.OfDecide.{Acknowledges, Heeded}
use Rattle.laws.specs.WaysMessages.{KeepsFor, keeping_low}
use Rattle.laws.specs.WaysReply.{Unheard}
use Rattle.laws.specs.WaysDurability.{logged, logged_at, Logs, OwnReply, promise_acts, Completes, completes_silent, completes_more, completes_commit, completes_report, moved_ways, passed, logged_step_ways, other_entry}
use Rattle.voting.specs.Claims.{core, Claim, Of}
use Rattle.voting.specs.Replying.{ReplyWays, reply_way}

abbrev pub own_answer : Replica → Done → Reply
own_answer r d = own_reply (logged r d).sc (logged_at r d) d.slot

abbrev pub own_book : Replica → Done → Bool
own_book r d =
    not (is_stale (logged r d).sc (logged_at r d) d.ballot false) && ((logged_at r d).leader.present && leb d.slot (logged_at r d).leader.endprep)

module _ (P : Claim) (r : Replica) (d : Done) where
  pub record LogWays : Type 0 where
    -- nothing but the log's size, and why a leader's own reply is not heard
    pub only : (d.entry ≡ PrepareBal → OwnReply (logged r d) (logged_at r d) d.slot d.ballot → Unheard (logged r d) (own_answer r d)) → P 0 (core r.sc) (logged r d).window []
    pub own : d.entry ≡ PrepareBal → OwnReply (logged r d) (logged_at r d) d.slot d.ballot → ReplyWays P (logged r d) r.sc.id (own_answer r d)
    pub promised : d.entry ≡ PrepareBal → Heeded (logged r d).sc (logged_at r d) d.ballot false → leads r.sc ≡ false → P 0 (core r.sc) (logged r d).window (promise_acts (logged r d).sc (logged_at r d) d.slot)
    pub acked : d.entry ≡ AcceptData → Heeded (logged r d).sc (logged_at r d) d.ballot true
        → P 0 (core r.sc) (put_slot (logged r d).window (place r.sc d.slot) (acknowledged_slot r.sc.id (logged_at r d))) []
    pub commits : d.entry ≡ AcceptData → Heeded (logged r d).sc (logged_at r d) d.ballot true → Acknowledges (logged r d).sc (logged_at r d) r.sc.id (logged_at r d).ballot
        → quorum r.sc ≤ count_in (acknowledged_slot r.sc.id (logged_at r d)).leader.accept_acks
        → P 0 (core r.sc) (put_slot (logged r d).window (place r.sc d.slot) (committed_slot (acknowledged_slot r.sc.id (logged_at r d))))
        (bare (CommitSlot (record { slot = d.slot; ballot = (logged_at r d).ballot })) ∷ [])
    pub answered : d.entry ≡ AcceptData → Heeded (logged r d).sc (logged_at r d) d.ballot true → leads r.sc ≡ false
        → P 0 (core r.sc) (logged r d).window (bare (AcceptReply (record { member = (logged_at r d).replica.source; slot = d.slot; ballot = (logged_at r d).ballot })) ∷ [])
    pub passes : d.entry ≡ CommitEntry → Of P (passed (logged r d))

  moved_way : (after : Replica) (acts : List Act) → P 0 (core after.sc) after.window acts → Of P (done (moved_accept after d.slot) acts)
  unfolding Of
  moved_way after acts h = moved_ways (λ (x : Replica). P 0 (core x.sc) x.window acts) after d.slot h (λ bar. h)

  completed_way : LogWays → d.entry ≡ AcceptData → (after : Replica) (acts : List Act) → Completes (logged r d) (place r.sc d.slot) d.slot d.ballot after acts
      → Of P (done (moved_accept after d.slot) acts)
  unfolding logged_on
  completed_way h e _ _ completes_silent = moved_way _ _ (h.only (λ z. other_entry AcceptData PrepareBal refl (sym e ∙ z)))
  completed_way h e _ _ (completes_more k b a q) = moved_way _ _ (h.acked e k)
  completed_way h e _ _ (completes_commit k b a q) = moved_way _ _ (h.commits e k a q)
  completed_way h e _ _ (completes_report k n p) = moved_way _ _ (h.answered e k n)

  pub logged_way : (room : ℕ) → KeepsFor (d.slot < r.sc.start) (Of P) r → (Logs r d → LogWays) → Of P (logged_step r room d)
  unfolding Of logged_on
  logged_way room k h =
      logged_step_ways (Of P) r room d k (λ f n. (h f).only (λ e o. absurd (n e o)))
      (λ f e o. reply_way P (logged r d) r.sc.id (own_answer r d) (λ (x : Outcome). Of P (or_kept r x)) (λ after acts p. p)
      (λ a l u. or_kept_ways (Of P) r a (logged r d) (λ z. (h f).only (λ _ _. u z)) (λ n. k a (keeping_low r a l) (λ z. absurd (n z)))) ((h f).own e o))
      (λ f e k n p. (h f).promised e k n) (λ f e. completed_way (h f) e) (λ f e at. (h f).passes e)
