-- Where a new ballot and a new slot come from: bal_prep_sent changes at a step-up alone, to a ballot that is self's own and above all that it has
-- seen; an offer takes the slot at the log end.
use Rattle.std.specs.Prelude.{◌≡◌, refl, true, [], ◌∷◌, ◌⊎◌, ℕ, ◌<◌, ltb}
use Rattle.std.proofs.Common.{sym, subst, inl, inr}
use mathlib.Core.List.Memᴰ
use Rattle.base.specs.Pick.{pick_both}
use Rattle.base.specs.Among.{◌∈◌}
use Rattle.members.specs.Ballots.{owns}
use Rattle.members.specs.Laws.{Next-given, next_owned}
use Rattle.batch.specs.declared.Batch.{Batch}
use Rattle.actions.specs.declared.Action.TheVariants.{Accept, AcceptData}
use Rattle.actions.specs.Actions.{Act, act}
use Rattle.decide.specs.declared.Scalars.{Scalars}
use Rattle.decide.specs.Scalars.{followed}
use Rattle.decide.specs.Decide.{decide_offer, proposal}
use Rattle.replica.specs.declared.Replica.{Replica}
use Rattle.replica.specs.Record.{log_end}
use Rattle.replica.specs.Messages.{clean}
use Rattle.replica.specs.Durability.{logged_on}
use Rattle.replica.specs.Added.{moved_exec}
use Rattle.replica.specs.Step.{Call, call_prepare, call_prepare_reply, call_accept, call_accept_reply, call_commit_notice, call_timeout, call_logged, call_offer, call_executed, call_open_read, call_read_reply, step}
use Rattle.laws.specs.WaysMessages.{prepare_step_ways, accept_step_ways, accept_reply_step_ways}
use Rattle.laws.specs.WaysLeadership.{timeout_step_ways, commit_notice_step_ways, Leads-up}
use Rattle.laws.specs.WaysAdded.{offer_step_ways, executed_step_ways}
use Rattle.voting.specs.Claims.{Claim, Of, open_read_way, read_reply_way}
use Rattle.voting.specs.Replying.{prepare_reply_way}
use Rattle.voting.specs.Logging.{logged_way}

-- 2.2 and 2.5: "A proposer chooses a new proposal number n"; "each proposer .. remembers .. the highest-numbered proposal it has tried to issue and
-- begins phase 1 with a higher proposal number": a call leaves bal_prep_sent, or makes it self's own, above all that was seen and the largest seen
abbrev pub SentAnew : Scalars → Scalars → Type 0
SentAnew before after =
    (after.bal_prep_sent ≡ before.bal_prep_sent)
    ⊎ ((owns after.bal_prep_sent before.id ≡ true) × (before.bal_max_seen < after.bal_prep_sent) × (after.bal_max_seen ≡ after.bal_prep_sent))

abbrev SendsAnew : Replica → Claim
SendsAnew r a sc w acts = SentAnew r.sc sc

follows_sent : (sc : Scalars) (peer ballot : ℕ) → SentAnew sc (followed sc peer ballot)
follows_sent sc peer ballot = pick_both (λ (x : Scalars). SentAnew sc x) (ltb sc.bal_max_seen ballot) (inl refl) (inl refl)

-- on any record
pub step_up_ballot : (r : Replica) (room : ℕ) (c : Call) → SentAnew r.sc (step r room c).replica.sc
unfolding Of logged_on decide_offer moved_exec
step_up_ballot r room c = go c
  where
    same : SentAnew r.sc r.sc
    same = inl refl

    go : (c : Call) → Of (SendsAnew r) (step r room c)
    go (call_prepare peer trigger ballot) = prepare_step_ways (Of (SendsAnew r)) r room peer trigger ballot (λ a l. same) (λ f. follows_sent r.sc peer ballot)
    go (call_prepare_reply peer m) =
        prepare_reply_way (SendsAnew r) r room peer m (λ a l u. same)
        (λ f. record { passed = λ f t. same; heard = λ f t. same; counted = λ f t. same; entered = λ f t q. same })
    go (call_accept peer slot ballot b) = accept_step_ways (Of (SendsAnew r)) r room peer slot ballot b (λ a l. same) (λ f. follows_sent r.sc peer ballot)
    go (call_accept_reply peer slot ballot) = accept_reply_step_ways (Of (SendsAnew r)) r room peer slot ballot (λ a l. same) (λ f q. same) (λ f q. same)
    go (call_commit_notice peer ballot bar) = commit_notice_step_ways (Of (SendsAnew r)) r room peer ballot bar (λ a l. same) (λ f. same)
    go (call_timeout source) =
        timeout_step_ways (Of (SendsAnew r)) r room source (λ a l. same)
        (λ b f.
        let n = Next-given r.sc.bal_max_seen r.sc.id b f.next in
        inr (subst (λ (x : ℕ). owns x r.sc.id ≡ true) (sym n.made) (next_owned r.sc.bal_max_seen r.sc.id n.small), Leads-up r source b f, refl))
    go (call_logged d) =
        logged_way (SendsAnew r) r d room (λ a l u. same)
        (λ f. record {
          only = λ u. same;
          own = λ e o. record { passed = λ f t. same; heard = λ f t. same; counted = λ f t. same; entered = λ f t q. same };
          promised = λ e _ n. same;
          acked = λ e _. same;
          commits = λ e _ a q. same;
          answered = λ e _ n. same;
          passes = λ e. same;
        })
    go (call_offer b) = offer_step_ways (Of (SendsAnew r)) r room b (λ a l. same) (λ f. same)
    go (call_executed slot) = executed_step_ways (Of (SendsAnew r)) r room slot (λ a l. same) (λ f. same)
    go (call_open_read id count keys) = open_read_way (SendsAnew r) r room (λ a acts. same) id count keys
    go (call_read_reply peer id from_leader reply) = read_reply_way (SendsAnew r) r room (λ a acts. same) peer id from_leader reply

-- 3: "the leader .. assigns [a command] number .." a free one: what an offer writes and sends is for the slot at the log end, in which nothing was
pub offer_free : (r : Replica) (room : ℕ) (b : Batch) (x : Act) → x ∈ (step r room (call_offer b)).actions
    → (x ≡ act (AcceptData (proposal (log_end r) r.sc.bal_prepared (clean b))) (clean b).keys)
    ⊎ (x ≡ act (Accept (proposal (log_end r) r.sc.bal_prepared (clean b))) (clean b).keys)
unfolding Of decide_offer
offer_free r room b x =
    offer_step_ways (Of (λ a sc w acts. x ∈ acts → Written)) r room b (λ a l m. absurd (Memᴰ.not-nil m)) (λ f m. two (Memᴰ.cases_cons m))
  where
    Written : Type 0
    Written =
        (x ≡ act (AcceptData (proposal (log_end r) r.sc.bal_prepared (clean b))) (clean b).keys)
        ⊎ (x ≡ act (Accept (proposal (log_end r) r.sc.bal_prepared (clean b))) (clean b).keys)

    two : (x ≡ act (AcceptData (proposal (log_end r) r.sc.bal_prepared (clean b))) (clean b).keys)
        ⊎ (x ∈ (act (Accept (proposal (log_end r) r.sc.bal_prepared (clean b))) (clean b).keys ∷ [])) → Written
    two (inl e) = inl e
    two (inr m) = inr (Memᴰ.eq_of_singleton m)
