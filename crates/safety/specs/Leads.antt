-- THE THEOREM `Leads-all`: what every call of a strict replica does to the lead (`Leads`). Above each call: why.
use Rattle.std.specs.Prelude.{refl, not, ◌&&◌, [], ◌∷◌, ℕ, ◌+◌, ◌≤◌, leb, eqb}
use Rattle.std.proofs.Common.{sym, subst, arith, eqb-true}
use Rattle.base.specs.Pick.{pick_both, and_both}
use Rattle.base.specs.Among.{All, All-in, All-append}
use Rattle.base.specs.Gather.{gather, All-gather}
use Rattle.batch.specs.declared.Batch.{Batch}
use Rattle.tally.specs.declared.Read.{Read}
use Rattle.tally.specs.Open.{with_tally, with_ack, smaller}
use Rattle.actions.specs.declared.Says.{Says}
use Rattle.actions.specs.Actions.{Act, says_acts}
use Rattle.slots.specs.declared.Slot.{Slot}
use Rattle.slots.specs.Slots.{committed, null_slot, marked_slot, offered_slot}
use Rattle.decide.specs.Scalars.{leads, strict, steps_down}
use Rattle.decide.specs.Decide.{decide_offer}
use Rattle.window.specs.Window.{slot_at}
use Rattle.window.specs.Acts.{promise, mark_acts}
use Rattle.window.specs.Places.{size, filled_long, filled_most}
use Rattle.window.specs.ByPlace.{at_place, at_past, put_cases, grown_at}
use Rattle.replica.specs.declared.Replica.{Replica}
use Rattle.replica.specs.Record.{place, number}
use Rattle.replica.specs.Messages.{clean, clean_reply, down_acts}
use Rattle.replica.specs.Quorumread.{answer_act}
use Rattle.replica.specs.Added.{moved_exec}
use Rattle.replica.specs.Step.{Call, call_prepare, call_prepare_reply, call_accept, call_accept_reply, call_commit_notice, call_timeout, call_logged, call_offer, call_executed, call_open_read, call_read_reply, step}
use Rattle.laws.specs.OfFit.{fit_facts}
use Rattle.laws.specs.WaysMessages.{prepare_end, Prepares, prepared, prepare_step_ways, Accepts, accepted, accept_step_ways, replied_slot, accept_reply_step_ways}
use Rattle.laws.specs.WaysLeadership.{timeout_step_ways, mark_window, mark_from, mark_end, marked, Marks, commit_notice_step_ways}
use Rattle.laws.specs.WaysAdded.{offer_window, Offers, offered as offered_by, offer_step_ways, executed_step_ways, open_read_step_ways, read_place, read_at, merged_read, read_reply_step_ways}
use Rattle.voting.specs.Claims.{core, Of}
use Rattle.voting.specs.Replying.{prepare_reply_way}
use Rattle.voting.specs.Logging.{logged_way}
use Rattle.voting.specs.Reached.{follows_none}
use Rattle.agreement.specs.Frame.{Owns}
use Rattle.agreement.specs.OfMessages.{owns-owns}
use Rattle.safety.specs.Sight.{Sight, sight_of, replied_peer, Proposes, offered, Leads, Able}
use Rattle.safety.specs.LeadsRest.{sight_at, Writes, Silent, Rest, Rest-equal, Rests, Rests-self, Rests-then, Rests-put, Rests-sweep, Rests-grown, marked_rest, executed_rest, acked_rest, committed_rest, rest_leads, gone_leads, Rests-lead, kept_leads}
use Rattle.safety.specs.LeadsRise.{led-Leads}
use Rattle.safety.specs.LeadsReply.{LeadsAfter, reply_leads}
use Rattle.safety.specs.LeadsLogged.{within, busy_low, log_leads}

-- ── Prepare and Accept: self does not lead after them, and an accept entry is at the peer's ballot ──
abbrev Other : Replica → Act → Type 0
Other r = Writes (λ s b. Unit {0}) (λ s b e. Owns r.sc.id b → ⊥)

prepare_leads : (r : Replica) (peer trigger ballot : ℕ) → Able r → Prepares r peer trigger ballot → Of (LeadsAfter (sight_of r) (call_prepare peer trigger ballot)) (prepared r peer trigger ballot)
unfolding Of
prepare_leads r peer trigger ballot a f bar =
    gone_leads (sight_of r) _ _ _ (follows_none r peer ballot a.reached f.peer_is f.owned f.seen)
    (All-append (Other r) (down_acts r.sc ballot) _ (pick_both (All (Other r)) (steps_down r.sc ballot) (tt, tt) tt)
    (All-gather (λ i. promise (number r.sc i) ballot ∷ []) (Other r) (place r.sc trigger) (prepare_end r trigger) (λ i l u. (tt, tt))))

accept_leads : (r : Replica) (peer slot ballot : ℕ) (b : Batch) → Able r → Accepts r peer slot ballot b → Of (LeadsAfter (sight_of r) (call_accept peer slot ballot b)) (accepted r peer slot ballot b)
unfolding Of
accept_leads r peer slot ballot b a f bar =
    let not_own : Owns r.sc.id ballot → ⊥ = λ o. f.peer_is.other (omega (arith, owns-owns ballot peer f.owned)) in
    gone_leads (sight_of r) _ _ _ (follows_none r peer ballot a.reached f.peer_is f.owned f.seen)
    (pick_both (λ (x : Says). All (Other r) (says_acts x (clean b).keys)) (steps_down r.sc ballot) (tt, (not_own, tt)) (not_own, tt))

-- ── CommitNotice: slots are marked ──
notice_leads : (r : Replica) (peer ballot bar : ℕ) → Able r → Marks r peer ballot bar → Of (LeadsAfter (sight_of r) (call_commit_notice peer ballot bar)) (marked r ballot bar)
unfolding Of
notice_leads r peer ballot bar a f next =
    let u : place r.sc bar ≤ size r.window = (let w = a.reached.whole in omega (arith, f.high)) in
    let long : (mark_window r bar).len ≤ size (mark_window r bar) =
    omega (arith, filled_long null_slot r.window (place r.sc bar), a.reached.whole, filled_most null_slot r.window (place r.sc bar) 64 (fit_facts r f.fits).numbers.window (omega (arith, f.high))) in
    Rests-lead r (call_commit_notice peer ballot bar) _ _ next
    (Rests-then (Rests-grown r.window (place r.sc bar) u) (Rests-sweep marked_slot (mark_from r) (mark_end r ballot bar) (mark_window r bar) long marked_rest))
    (All-gather (λ i. mark_acts (number r.sc i) (slot_at (mark_window r bar) i)) Silent (mark_from r) (mark_end r ballot bar)
    (λ i l u. pick_both (All Silent) (leb committed (slot_at (mark_window r bar) i).status) tt (tt, tt)))

-- ── offer: a slot past the log end in Accepting, at the ballot prepared ──
offer_rests : (r : Replica) (b : Batch) → Able r → Offers r b → Rests r.window (offered_by r b).replica.window
unfolding decide_offer
offer_rests r b a f =
    record {
      each = λ i.
          put_cases (offer_window r) r.window.len _ (Rest (at_place r.window i)) i
          (λ e u.
          subst (λ (x : Slot). Rest x (offered_slot (strict r.sc) r.sc.bal_prepared (clean b))) (sym (at_past r.window i (omega arith)))
          (record { book = refl; waits = λ z. absurd (omega arith) }))
          (λ out. Rest-equal (grown_at r.window (r.window.len + 1) i (let w = a.reached.whole in omega (arith, f.room))));
    }

offer_leads : (r : Replica) (b : Batch) → Able r → Offers r b → Of (LeadsAfter (sight_of r) (call_offer b)) (offered_by r b)
unfolding Of decide_offer
offer_leads r b a f bar =
    let may = and_both (leads r.sc) (not (eqb r.sc.bal_prepared 0) && eqb r.sc.bal_prepared r.sc.bal_prep_sent) f.may in
    let even = and_both (not (eqb r.sc.bal_prepared 0)) (eqb r.sc.bal_prepared r.sc.bal_prep_sent) may.1 in
    let same = eqb-true r.sc.bal_prepared r.sc.bal_prep_sent even.1 in
    let after : Sight = sight_at r.sc (offered_by r b).replica.window bar in
    let Ok : Act → Type 0 = Writes (λ s d. ⊥) (λ s d e. Proposes (sight_of r) after after.slot s d e) in
    let said : All Ok (offered_by r b).actions = (offered may.0 may.0 same refl same, (tt, tt)) in
    rest_leads r.sc r.window (offered_by r b).replica.window r.sc.commit_bar bar (call_offer b) (offered_by r b).actions (offer_rests r b a f)
    (λ s d o. All-in Ok said o) (λ s d e o own. All-in Ok said o)

-- ── reads ──
answers_silent : (r : Replica) (d : Read) (n : ℕ) → All Silent (gather (λ k. answer_act r.sc.leader d k ∷ []) 0 n)
answers_silent r d n = All-gather (λ k. answer_act r.sc.leader d k ∷ []) Silent 0 n (λ i l u. (tt, tt))

-- ── every call ──
leads_step : (r : Replica) (room : ℕ) (c : Call) → Able r → Of (LeadsAfter (sight_of r) c) (step r room c)
unfolding Of moved_exec
leads_step r room c a = go c
  where
    quiet : (c : Call) → LeadsAfter (sight_of r) c 0 (core r.sc) r.window []
    quiet c = kept_leads r c

    go : (c : Call) → Of (LeadsAfter (sight_of r) c) (step r room c)
    -- self follows another
    go (call_prepare peer trigger ballot) =
        prepare_step_ways (Of (LeadsAfter (sight_of r) (call_prepare peer trigger ballot))) r room peer trigger ballot (λ n l. quiet _) (λ f. prepare_leads r peer trigger ballot a f)
    -- it is noted; its sender counts; at quorum the Preparing slots from the trigger on are proposed
    go (call_prepare_reply peer m) =
        prepare_reply_way (LeadsAfter (sight_of r) (call_prepare_reply peer m)) r room peer m (λ n l u. quiet _)
        (λ f. reply_leads r r.window r.sc.commit_bar (call_prepare_reply peer m) peer (clean_reply m) a.reached.whole (fit_facts r f.fits).numbers.window a.kind refl
        (λ i. refl) (busy_low r a) f.peer_is.member (within r f.fits) (λ q. replied_peer m refl f.peer_is.member f.peer_is.other refl refl q.sent refl))
    -- self follows another; the accept entry is at that ballot
    go (call_accept peer slot ballot b) =
        accept_step_ways (Of (LeadsAfter (sight_of r) (call_accept peer slot ballot b))) r room peer slot ballot b (λ n l. quiet _) (λ f. accept_leads r peer slot ballot b a f)
    -- accept_acks alone, or the slot commits
    go (call_accept_reply peer slot ballot) =
        accept_reply_step_ways (Of (LeadsAfter (sight_of r) (call_accept_reply peer slot ballot))) r room peer slot ballot (λ n l. quiet _)
        (λ f q bar. Rests-lead r (call_accept_reply peer slot ballot) _ _ bar (Rests-put r.window (place r.sc slot) _ (acked_rest peer (replied_slot r slot))) tt)
        (λ f q bar. Rests-lead r (call_accept_reply peer slot ballot) _ _ bar (Rests-put r.window (place r.sc slot) _ (committed_rest peer (replied_slot r slot))) (tt, tt))
    -- slots commit
    go (call_commit_notice peer ballot bar) =
        commit_notice_step_ways (Of (LeadsAfter (sight_of r) (call_commit_notice peer ballot bar))) r room peer ballot bar (λ n l. quiet _) (λ f. notice_leads r peer ballot bar a f)
    -- a new lead
    go (call_timeout source) =
        timeout_step_ways (Of (LeadsAfter (sight_of r) (call_timeout source))) r room source (λ n l. quiet _) (λ b f bar. led-Leads r source b bar (call_timeout source) a.reached f)
    -- as a PrepareReply from self; or an AcceptReply from self; or slots pass commit_bar
    go (call_logged d) = logged_way (LeadsAfter (sight_of r) (call_logged d)) r d room (λ n l u. quiet _) (λ f. log_leads r d a f)
    -- a slot past the log end is proposed
    go (call_offer b) = offer_step_ways (Of (LeadsAfter (sight_of r) (call_offer b))) r room b (λ n l. quiet _) (λ f. offer_leads r b a f)
    -- a committed slot is executed
    go (call_executed slot) =
        executed_step_ways (Of (LeadsAfter (sight_of r) (call_executed slot))) r room slot (λ n l. quiet _)
        (λ f bar. Rests-lead r (call_executed slot) _ _ bar (Rests-put r.window (place r.sc slot) _ (executed_rest (slot_at r.window (place r.sc slot)))) tt)
    -- no slot, no ballot
    go (call_open_read id count keys) = open_read_step_ways (Of (LeadsAfter (sight_of r) (call_open_read id count keys))) r room id count keys (λ n l. quiet _) (λ f. quiet _)
    go (call_read_reply peer id from_leader reply) =
        read_reply_step_ways (Of (LeadsAfter (sight_of r) (call_read_reply peer id from_leader reply))) r room peer id from_leader reply (λ n l. quiet _)
        (λ f. answers (with_tally (read_at r (read_place r id)) reply) (smaller (read_at r (read_place r id)).tally.count reply.count))
        (λ f k. answers (with_ack (merged_read (read_at r (read_place r id)) reply k) peer) (read_at r (read_place r id)).tally.count) (λ f. quiet _) (λ f k. quiet _) (λ f k. quiet _)
      where
        answers : (d : Read) (n : ℕ) → LeadsAfter (sight_of r) (call_read_reply peer id from_leader reply) 0 (core r.sc) r.window (gather (λ k. answer_act r.sc.leader d k ∷ []) 0 n)
        answers d n bar = Rests-lead r (call_read_reply peer id from_leader reply) r.window _ bar (Rests-self r.window) (answers_silent r d n)

pub Leads-all : (r : Replica) (room : ℕ) (c : Call) → Able r → Leads (sight_of r) c (sight_of (step r room c).replica) (step r room c).actions
unfolding Of
Leads-all r room c a = leads_step r room c a (step r room c).replica.sc.commit_bar
