-- The vote of a slot in the base kind: over any history it is that of the last Accept taken from a peer for the slot, and no Accept taken had a larger
-- ballot. The strict kind's is in StrictVotes.
use Rattle.std.specs.Prelude.{◌≡◌, refl, Bool, true, false, ◌&&◌, List, [], ◌∷◌, ◌++◌, ◌⊎◌, ℕ, ◌+◌, ◌≤◌, ltb, leb, eqb, length}
use Rattle.std.proofs.Common.{sym, ap, ◌∙◌, inl, inr, le_refl, arith, eq-eqb, ne_eqb}
use Rattle.std.proofs.Math.Bool.{and-false}
use Rattle.base.specs.Pick.{pick, pick_both, same?, clash}
use Rattle.base.specs.Among.{All}
use Rattle.batch.specs.declared.Batch.{Batch}
use Rattle.actions.specs.declared.Says.{Says}
use Rattle.actions.specs.Actions.{says_acts}
use Rattle.slots.specs.declared.Vote.{Vote}
use Rattle.slots.specs.declared.Slot.{Slot}
use Rattle.slots.specs.Slots.{no_vote, new_book, redone_slot, prepared_slot, entered_slot, marked_slot, passed_slot, accepted_slot, logged_slot, with_state, with_leader, with_external, committed, executed, preparing, null_slot}
use Rattle.decide.specs.declared.Scalars.{Scalars}
use Rattle.decide.specs.declared.Reply.{Reply}
use Rattle.decide.specs.Scalars.{strict, steps_down, followed}
use Rattle.decide.specs.Decide.{decide_offer}
use Rattle.window.specs.declared.Window.{Window}
use Rattle.window.specs.Window.{slot_at, put_slot, grown, first_open}
use Rattle.window.specs.Places.{filled_has, filled_most}
use Rattle.window.specs.ByPlace.{at_place, put_keeps, put_at, put_elsewhere, sweep_keeps, grown_at, at_here, at_past}
use Rattle.replica.specs.declared.Replica.{Replica}
use Rattle.replica.specs.declared.Done.{Done}
use Rattle.replica.specs.Record.{place}
use Rattle.replica.specs.Messages.{clean, clean_reply, prepare_book}
use Rattle.replica.specs.Durability.{pass_stop, logged_on}
use Rattle.replica.specs.Added.{moved_exec}
use Rattle.replica.specs.Step.{Call, call_prepare, call_prepare_reply, call_accept, call_accept_reply, call_commit_notice, call_timeout, call_logged, call_offer, call_executed, call_open_read, call_read_reply, step}
use Rattle.laws.specs.OfScalars.{followed_seen}
use Rattle.laws.specs.OfFit.{fit_facts}
use Rattle.laws.proofs.Theorems.{kind_stays}
use Rattle.laws.specs.WaysMessages.{prepare_window, prepare_end, prepare_step_ways, Accepts, accept_step_ways, accept_reply_step_ways}
use Rattle.laws.specs.WaysReply.{grown_window, reply_window, reply_slot, heard_window, counted_window, Answers, reply_place}
use Rattle.laws.specs.WaysLeadership.{lead_window, lead_trigger, lead_end, lead_from, timeout_step_ways, mark_window, mark_from, mark_end, commit_notice_step_ways}
use Rattle.laws.specs.WaysDurability.{logged, logged_at, pass_from}
use Rattle.laws.specs.WaysAdded.{Offers, offer_window, offer_step_ways, executed_step_ways}
use Rattle.laws.specs.Appended.{appended_cases}
use Rattle.voting.specs.Windows.{Whole, Whole-put, Whole-grown}
use Rattle.voting.specs.Keeping.{entered_keeps, marked_keeps, passed_keeps, executed_keeps, logged_keeps, heard_keeps}
use Rattle.voting.specs.History.{Lent, told, acts}
use Rattle.voting.specs.Claims.{core, Claim, Of, open_read_way, read_reply_way}
use Rattle.voting.specs.Replying.{ReplyWays, prepare_reply_way}
use Rattle.voting.specs.Logging.{own_answer, LogWays, logged_way}
use Rattle.voting.specs.Promises.{step_core, worked, accept_says}

-- the vote of slot s; none where the log does not reach
abbrev pub vote_of : Replica → ℕ → Vote
vote_of r s = (at_place r.window (place r.sc s)).vote

-- the Accept that a call takes for slot s: one, where it is an Accept for s that acts; else none
abbrev pub takes : Replica → Lent → ℕ → List Vote
takes r c s = by c.call
  where
    by : Call → List Vote
    by (call_accept peer slot ballot b) = pick (eqb slot s && acts (told r c)) (record { ballot = ballot; batch = clean b } ∷ []) []
    by (call_prepare peer trigger ballot) = []
    by (call_prepare_reply peer m) = []
    by (call_accept_reply peer slot ballot) = []
    by (call_commit_notice peer ballot bar) = []
    by (call_timeout source) = []
    by (call_logged d) = []
    by (call_offer b) = []
    by (call_executed slot) = []
    by (call_open_read id count keys) = []
    by (call_read_reply peer id from_leader reply) = []

-- those of a history, in their order, and the last of a list
abbrev pub taken : Replica → List Lent → ℕ → List Vote
taken r [] s = []
taken r (c ∷ h) s = takes r c s ++ taken (told r c).replica h s

abbrev pub last_of : Vote → List Vote → Vote
last_of v [] = v
last_of v (x ∷ l) = last_of x l

-- ── every call but an Accept keeps every vote ──
abbrev KeepsVotes : Window → Claim
KeepsVotes w a sc v acts = (i : ℕ) → (at_place v i).vote ≡ (at_place w i).vote

abbrev vote : Slot → Vote
vote s = s.vote

pub redone_vote : (ballot trigger endprep : ℕ) (s : Slot) → (redone_slot ballot (new_book trigger endprep) s).vote ≡ s.vote
redone_vote ballot trigger endprep s =
    pick_both (λ (x : Slot). x.vote ≡ s.vote) (leb executed s.status) {a = s} refl
    (pick_both (λ (x : Slot). x.vote ≡ s.vote) (leb committed s.status) {a = with_external s} {b = with_leader (with_state (with_external s) ballot preparing) (new_book trigger endprep)} refl refl)

module _ (w : Window) (r : Replica) (peer : ℕ) (m : Reply) (h : Whole r.window) (base : strict r.sc ≡ false) (e : (i : ℕ) → (at_place r.window i).vote ≡ (at_place w i).vote) where
  wide : Answers r m → (i : ℕ) → (at_place (reply_window r peer m) i).vote ≡ (at_place w i).vote
  wide f i =
      put_keeps vote (grown_window r m) (place r.sc m.slot) i _ refl
      ∙ appended_cases (λ (x : Slot). x.vote ≡ (at_place w i).vote) r (place r.sc m.slot) (place r.sc m.trigger) i (let u = reply_place r m f in omega arith)
      (λ l. ap vote (sym (at_past r.window i l)) ∙ e i) (e i)

  weigh : Answers r m → (i : ℕ) → (at_place (heard_window r peer m) i).vote ≡ (at_place w i).vote
  weigh f i = put_keeps vote (reply_window r peer m) (place r.sc m.slot) i _ (heard_keeps vote (reply_slot r peer m) m refl) ∙ wide f i

  count_up : Answers r m → (i : ℕ) → (at_place (counted_window r peer m) i).vote ≡ (at_place w i).vote
  count_up f i = put_keeps vote (heard_window r peer m) (place r.sc m.trigger) i _ refl ∙ weigh f i

  reply_votes : ReplyWays (KeepsVotes w) r peer m
  reply_votes =
      record {
        passed = λ f t. wide f;
        heard = λ f t. weigh f;
        counted = λ f t. count_up f;
        entered = λ f t q i.
            sweep_keeps vote (λ k s. entered_slot (strict r.sc) m.ballot s) (λ k s. entered_keeps vote (λ s n. refl) (strict r.sc) m.ballot (λ s. rw base) s) (place r.sc m.trigger) (counted_window r peer m).len (counted_window r peer m) i ∙ count_up f i;
      }

put_votes : (w v : Window) (i : ℕ) (s : Slot) → ((j : ℕ) → (at_place v j).vote ≡ (at_place w j).vote) → s.vote ≡ (slot_at v i).vote → (j : ℕ) → (at_place (put_slot v i s) j).vote ≡ (at_place w j).vote
put_votes w v i s e k j = put_keeps vote v i j s k ∙ e j

pub after_votes : (r : Replica) (d : Done) (j : ℕ) → (at_place (logged r d).window j).vote ≡ (at_place r.window j).vote
unfolding logged_on
after_votes r d j = put_votes r.window r.window (place r.sc d.slot) (logged_slot r.sc.wal_offset (slot_at r.window (place r.sc d.slot))) (λ i. refl) (logged_keeps vote (λ s n. refl) r.sc.wal_offset (slot_at r.window (place r.sc d.slot))) j

pub after_whole : (r : Replica) (d : Done) → Whole r.window → Whole (logged r d).window
unfolding logged_on
after_whole r d h = Whole-put r.window (place r.sc d.slot) _ h

log_votes : (r : Replica) (d : Done) → Whole r.window → strict r.sc ≡ false → LogWays (KeepsVotes r.window) r d
unfolding Of logged_on
log_votes r d h base =
    let e = after_votes r d in
    let put : (s : Slot) → s.vote ≡ (logged_at r d).vote → (j : ℕ) → (at_place (put_slot (logged r d).window (place r.sc d.slot) s) j).vote ≡ (at_place r.window j).vote =
    λ s k. put_votes r.window (logged r d).window (place r.sc d.slot) s e k in
    record {
      only = λ u. e;
      own = λ x o. reply_votes r.window (logged r d) r.sc.id (own_answer r d) (after_whole r d h) base e;
      promised = λ x _ n. e;
      acked = λ x _. put _ refl;
      commits = λ x _ k q. put _ refl;
      answered = λ x _ n. e;
      passes = λ x i.
          sweep_keeps vote (λ k s. passed_slot s) (λ k s. passed_keeps vote (λ s n. refl) s) (pass_from (logged r d)) (pass_stop (logged r d)) (logged r d).window i ∙ e i;
    }

-- an offer's slot is null before it
pub offered_null : (r : Replica) (b : Batch) → Whole r.window → Offers r b → no_vote ≡ (slot_at (grown r.window (r.window.len + 1)) r.window.len).vote
offered_null r b h f =
    ap vote (sym (at_past r.window r.window.len (le_refl r.window.len)) ∙ sym (grown_at r.window (r.window.len + 1) r.window.len (omega (arith, f.room)))
    ∙ at_here (grown r.window (r.window.len + 1)) r.window.len (omega (arith, filled_has null_slot r.window (r.window.len + 1))))

-- a call that is no Accept
abbrev pub no_accept : Call → Bool
no_accept (call_accept peer slot ballot b) = false
no_accept (call_prepare peer trigger ballot) = true
no_accept (call_prepare_reply peer m) = true
no_accept (call_accept_reply peer slot ballot) = true
no_accept (call_commit_notice peer ballot bar) = true
no_accept (call_timeout source) = true
no_accept (call_logged d) = true
no_accept (call_offer b) = true
no_accept (call_executed slot) = true
no_accept (call_open_read id count keys) = true
no_accept (call_read_reply peer id from_leader reply) = true

step_votes : (r : Replica) (room : ℕ) (c : Call) → Whole r.window → strict r.sc ≡ false → no_accept c ≡ true → Of (KeepsVotes r.window) (step r room c)
unfolding Of decide_offer moved_exec
step_votes r room c h base n = go c n
  where
    go : (c : Call) → no_accept c ≡ true → Of (KeepsVotes r.window) (step r room c)
    go (call_accept peer slot ballot b) n = absurd (clash n refl)
    go (call_prepare peer trigger ballot) n =
        prepare_step_ways (Of (KeepsVotes r.window)) r room peer trigger ballot (λ a l i. refl)
        (λ f i. sweep_keeps vote (λ i s. prepared_slot (strict r.sc) ballot (prepare_book r.sc (prepare_window r trigger) (place r.sc trigger) peer) s) (λ k s. refl) (place r.sc trigger) (prepare_end r trigger) (prepare_window r trigger) i
        ∙ ap vote (grown_at r.window (place r.sc trigger + 1) i (omega (arith, f.low, f.high))))
    go (call_prepare_reply peer m) n =
        prepare_reply_way (KeepsVotes r.window) r room peer m (λ a l u i. refl) (λ f. reply_votes r.window r peer (clean_reply m) h base (λ i. refl))
    go (call_accept_reply peer slot ballot) n =
        accept_reply_step_ways (Of (KeepsVotes r.window)) r room peer slot ballot (λ a l i. refl)
        (λ f q. put_votes r.window r.window (place r.sc slot) _ (λ i. refl) refl) (λ f q. put_votes r.window r.window (place r.sc slot) _ (λ i. refl) refl)
    go (call_commit_notice peer ballot bar) n =
        commit_notice_step_ways (Of (KeepsVotes r.window)) r room peer ballot bar (λ a l i. refl)
        (λ f i. sweep_keeps vote (λ i s. marked_slot s) (λ k s. marked_keeps vote (λ s n. refl) s) (mark_from r) (mark_end r ballot bar) (mark_window r bar) i
        ∙ ap vote (grown_at r.window (place r.sc bar) i (omega (arith, f.high))))
    go (call_timeout source) n =
        timeout_step_ways (Of (KeepsVotes r.window)) r room source (λ a l i. refl)
        (λ b f i. sweep_keeps vote (λ i s. redone_slot b (new_book (lead_trigger r) (lead_end r)) s) (λ k s. redone_vote b (lead_trigger r) (lead_end r) s) (lead_from r) (lead_window r).len (lead_window r) i
        ∙ ap vote (grown_at r.window (first_open r.window + 1) i (omega (arith, f.room))))
    go (call_logged d) n = logged_way (KeepsVotes r.window) r d room (λ a l u i. refl) (λ f. log_votes r d h base)
    go (call_offer b) n =
        offer_step_ways (Of (KeepsVotes r.window)) r room b (λ a l i. refl)
        (λ f. put_votes r.window (offer_window r) r.window.len _ (λ i. ap vote (grown_at r.window (r.window.len + 1) i (omega (arith, f.room)))) (ap (λ (k : Bool). pick {A = Vote} k (record { ballot = r.sc.bal_prepared; batch = clean b }) no_vote) base ∙ offered_null r b h f))
    go (call_executed slot) n =
        executed_step_ways (Of (KeepsVotes r.window)) r room slot (λ a l i. refl)
        (λ f. put_votes r.window r.window (place r.sc slot) _ (λ i. refl) (executed_keeps vote (λ s n. refl) (slot_at r.window (place r.sc slot))))
    go (call_open_read id count keys) n = open_read_way (KeepsVotes r.window) r room (λ a acts i. refl) id count keys
    go (call_read_reply peer id from_leader reply) n = read_reply_way (KeepsVotes r.window) r room (λ a acts i. refl) peer id from_leader reply

-- ── an Accept ──
-- what it may do to slot s: nothing, with no action; or its vote is the Accept's where it is the slot's, with an action
abbrev Took : Replica → ℕ → ℕ → Vote → Claim
Took r slot s v a sc w acts =
    (at_place w (place r.sc s)).vote ≡ last_of (vote_of r s) (pick (eqb slot s && (eqb a 0 && ltb 0 (length acts))) (v ∷ []) [])

took_none : (r : Replica) (slot s : ℕ) (v : Vote) (a : ℕ) → vote_of r s ≡ last_of (vote_of r s) (pick (eqb slot s && (eqb a 0 && false)) (v ∷ []) [])
took_none r slot s v a = rw (and-false (eqb a 0), and-false (eqb slot s))

says_some : (sc : Scalars) (slot ballot : ℕ) (b : Batch) → ltb 0 (length (says_acts (accept_says sc slot ballot b) (clean b).keys)) ≡ true
says_some sc slot ballot b = pick_both (λ (x : Says). ltb 0 (length (says_acts x (clean b).keys)) ≡ true) (steps_down sc ballot) refl refl

Took-it : (r : Replica) (peer slot ballot s : ℕ) (b : Batch) → Whole r.window → r.sc.start ≤ s → Accepts r peer slot ballot b
    → Took r slot s (record { ballot = ballot; batch = clean b }) 0 (core (followed r.sc peer ballot))
    (put_slot (worked r slot) (place r.sc slot) (accepted_slot (strict r.sc) peer ballot (clean b) (slot_at (worked r slot) (place r.sc slot))))
    (says_acts (accept_says r.sc slot ballot b) (clean b).keys)
Took-it r peer slot ballot s b h l f = rw (says_some r.sc slot ballot b) (go (same? s slot))
  where
    go : (s ≡ slot) ⊎ (s ≡ slot → ⊥)
        → (at_place (put_slot (worked r slot) (place r.sc slot) (accepted_slot (strict r.sc) peer ballot (clean b) (slot_at (worked r slot) (place r.sc slot)))) (place r.sc s)).vote
        ≡ last_of (vote_of r s) (pick (eqb slot s && true) (record { ballot = ballot; batch = clean b } ∷ []) [])
    go (inl e) =
        rw (e, eq-eqb slot slot refl)
        (ap vote (put_at (worked r slot) (place r.sc slot) _ (omega (arith, filled_has null_slot r.window (place r.sc slot + 1)))
        (let n = Whole-grown r.window (place r.sc slot + 1) h in
        let k = filled_most null_slot r.window (place r.sc slot + 1) 64 (fit_facts r f.fits).numbers.window (omega (arith, f.low, f.high)) in
        omega arith)))
    go (inr d) =
        rw (ne_eqb slot s (λ z. d (sym z)))
        (ap vote (put_elsewhere (worked r slot) (place r.sc slot) _ (place r.sc s) (λ z. d (omega (arith, f.low)))
        ∙ grown_at r.window (place r.sc slot + 1) (place r.sc s) (omega (arith, f.low, f.high))))

step-Took : (r : Replica) (room peer slot ballot s : ℕ) (b : Batch) → Whole r.window → r.sc.start ≤ s
    → Of (Took r slot s (record { ballot = ballot; batch = clean b })) (step r room (call_accept peer slot ballot b))
unfolding Of
step-Took r room peer slot ballot s b h l =
    accept_step_ways (Of (Took r slot s (record { ballot = ballot; batch = clean b }))) r room peer slot ballot b (λ a _. took_none r slot s _ a)
    (λ f. Took-it r peer slot ballot s b h l f)

-- ── one call ──
-- an Accept, or a call that takes none
takes_ways : (r : Replica) (room s : ℕ) (P : Call → List Vote → Type 0)
    → ((peer slot ballot : ℕ) (b : Batch) → P (call_accept peer slot ballot b) (takes r (record { room = room; call = call_accept peer slot ballot b }) s))
    → ((c : Call) → no_accept c ≡ true → P c []) → (c : Call) → P c (takes r (record { room = room; call = c }) s)
takes_ways r room s P one none (call_accept peer slot ballot b) = one peer slot ballot b
takes_ways r room s P one none (call_prepare peer trigger ballot) = none (call_prepare peer trigger ballot) refl
takes_ways r room s P one none (call_prepare_reply peer m) = none (call_prepare_reply peer m) refl
takes_ways r room s P one none (call_accept_reply peer slot ballot) = none (call_accept_reply peer slot ballot) refl
takes_ways r room s P one none (call_commit_notice peer ballot bar) = none (call_commit_notice peer ballot bar) refl
takes_ways r room s P one none (call_timeout source) = none (call_timeout source) refl
takes_ways r room s P one none (call_logged d) = none (call_logged d) refl
takes_ways r room s P one none (call_offer b) = none (call_offer b) refl
takes_ways r room s P one none (call_executed slot) = none (call_executed slot) refl
takes_ways r room s P one none (call_open_read id count keys) = none (call_open_read id count keys) refl
takes_ways r room s P one none (call_read_reply peer id from_leader reply) = none (call_read_reply peer id from_leader reply) refl

pub vote_call : (r : Replica) (room : ℕ) (k : Call) (s : ℕ) → Whole r.window → strict r.sc ≡ false → r.sc.start ≤ s
    → (at_place (step r room k).replica.window (place r.sc s)).vote ≡ last_of (vote_of r s) (takes r (record { room = room; call = k }) s)
unfolding Of
vote_call r room k s h base l =
    takes_ways r room s (λ c v. (at_place (step r room c).replica.window (place r.sc s)).vote ≡ last_of (vote_of r s) v)
    (λ peer slot ballot b. step-Took r room peer slot ballot s b h l) (λ c n. step_votes r room c h base n (place r.sc s)) k

pub last_append : (v : Vote) (k l : List Vote) → last_of v (k ++ l) ≡ last_of (last_of v k) l
last_append v [] l = refl
last_append v (x ∷ k) l = last_append x k l

pub later : (r : Replica) (c : Lent) (s : ℕ) → r.sc.start ≤ s → (told r c).replica.sc.start ≤ s
later r c s l = omega (arith, (step_core r c).start)

-- the kind stays
pub still_base : (r : Replica) (c : Lent) → strict r.sc ≡ false → strict (told r c).replica.sc ≡ false
still_base r c base = kind_stays r c.room c.call ∙ base

-- ── the ballots of what is taken ──
abbrev pub IsBetween : Replica → Replica → Vote → Type 0
IsBetween r r' v = (r.sc.bal_max_seen ≤ v.ballot) × (v.ballot ≡ r'.sc.bal_max_seen)

abbrev TookBallot : Replica → ℕ → ℕ → Vote → Claim
TookBallot r slot s v a sc w acts =
    All (λ (x : Vote). (r.sc.bal_max_seen ≤ x.ballot) × (x.ballot ≡ sc.bal_max_seen)) (pick (eqb slot s && (eqb a 0 && ltb 0 (length acts))) (v ∷ []) [])

ballot_none : (r : Replica) (slot s : ℕ) (v : Vote) (a n : ℕ)
    → All (λ (x : Vote). (r.sc.bal_max_seen ≤ x.ballot) × (x.ballot ≡ n)) (pick (eqb slot s && (eqb a 0 && false)) (v ∷ []) [])
ballot_none r slot s v a n = rw (and-false (eqb a 0), and-false (eqb slot s)) tt

step-TookBallot : (r : Replica) (room peer slot ballot s : ℕ) (b : Batch)
    → Of (TookBallot r slot s (record { ballot = ballot; batch = clean b })) (step r room (call_accept peer slot ballot b))
unfolding Of
step-TookBallot r room peer slot ballot s b =
    accept_step_ways (Of (TookBallot r slot s (record { ballot = ballot; batch = clean b }))) r room peer slot ballot b
    (λ a l. ballot_none r slot s _ a r.sc.bal_max_seen)
    (λ f. pick_both (λ (l : List Vote). All (λ (x : Vote). (r.sc.bal_max_seen ≤ x.ballot) × (x.ballot ≡ (followed r.sc peer ballot).bal_max_seen)) l)
    (eqb slot s && (eqb 0 0 && ltb 0 (length (says_acts (accept_says r.sc slot ballot b) (clean b).keys))))
    {a = record { ballot = ballot; batch = clean b } ∷ []}
    {b = []}
    ((f.seen, sym (followed_seen r.sc peer ballot f.seen)), tt) tt)

-- what a call takes is not below the largest ballot seen before it, and is the largest seen after it
pub takes_largest : (r : Replica) (room : ℕ) (k : Call) (s : ℕ) → All (IsBetween r (step r room k).replica) (takes r (record { room = room; call = k }) s)
unfolding Of
takes_largest r room k s =
    takes_ways r room s (λ c v. All (IsBetween r (step r room c).replica) v) (λ peer slot ballot b. step-TookBallot r room peer slot ballot s b) (λ c n. tt) k

held_one : (t : Bool) (x v₀ v : Vote) → x ≡ last_of v₀ (pick t (v ∷ []) []) → All (λ (y : Vote). x ≡ y) (pick t (v ∷ []) [])
held_one true x v₀ v e = (e, tt)
held_one false x v₀ v e = tt

-- what a call takes is the slot's vote after it
pub takes_held : (r : Replica) (room : ℕ) (k : Call) (s : ℕ) (x : Vote) → x ≡ last_of (vote_of r s) (takes r (record { room = room; call = k }) s)
    → All (λ (y : Vote). x ≡ y) (takes r (record { room = room; call = k }) s)
takes_held r room k s x =
    takes_ways r room s (λ c v. x ≡ last_of (vote_of r s) v → All (λ (y : Vote). x ≡ y) v)
    (λ peer slot ballot b. held_one (eqb slot s && acts (step r room (call_accept peer slot ballot b))) x (vote_of r s) (record { ballot = ballot; batch = clean b })) (λ c n e. tt) k

pub last_of-All : (Q : Vote → Type 0) (v : Vote) (l : List Vote) → Q v → All Q l → Q (last_of v l)
last_of-All Q v [] q a = q
last_of-All Q v (x ∷ l) q a = last_of-All Q x l a.0 a.1

pub All-with : (P Q R : Vote → Type 0) → ((v : Vote) → P v → Q v → R v) → (l : List Vote) → All P l → All Q l → All R l
All-with P Q R f [] p q = tt
All-with P Q R f (x ∷ l) p q = (f x p.0 q.0, All-with P Q R f l p.1 q.1)
