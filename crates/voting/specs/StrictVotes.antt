-- 02, Wish 6, (b), and 2.2, phase 1 (b): a strict replica's vote in a slot is the accept entry that it wrote for the slot last, as a leader too. Of any
-- strict record with a window of 64 slots and any call: a vote changes only with its entry, and each accept entry of the call is the slot's vote after it.
use Rattle.std.specs.Prelude.{◌≡◌, refl, Bool, true, not, ◌||◌, List, [], ◌∷◌, ◌++◌, ◌⊎◌, ℕ, ◌+◌, ◌≤◌, ◌<◌, leb, eqb}
use Rattle.std.proofs.Common.{sym, ap, subst, ◌∙◌, inl, inr, arith, eqb-true, eq-eqb}
use mathlib.Core.List.Memᴰ
use Rattle.base.specs.Pick.{pick, pick_both, pick_cases}
use Rattle.base.specs.Among.{◌∈◌, All, All-in, All-append}
use Rattle.base.specs.Gather.{gather, gather_in, in_gather, All-gather}
use Rattle.batch.specs.declared.Batch.{Batch}
use Rattle.tally.specs.declared.Read.{Read}
use Rattle.tally.specs.Open.{with_tally, with_ack, smaller}
use Rattle.actions.specs.declared.Action.{Action}
use Rattle.actions.specs.declared.Says.{Says}
use Rattle.actions.specs.declared.Action.TheVariants.{PrepareBal, AcceptData, CommitSlot, Prepare, PrepareReply, Accept, AcceptReply, CommitNotice, Heartbeat, StatusUp, StatusDown, Execute, ReadAnswer}
use Rattle.actions.specs.Actions.{Act, act, bare, says_acts}
use Rattle.slots.specs.declared.Vote.{Vote}
use Rattle.slots.specs.declared.Slot.{Slot}
use Rattle.slots.specs.Slots.{no_vote, preparing, committed, entered_slot, prepared_slot, redone_slot, new_book, marked_slot, passed_slot, accepted_slot, offered_slot, null_slot}
use Rattle.decide.specs.declared.Reply.{Reply}
use Rattle.decide.specs.Scalars.{strict, steps_down, notifies}
use Rattle.decide.specs.Decide.{proposal, decide_offer}
use Rattle.window.specs.declared.Window.{Window}
use Rattle.window.specs.Window.{slot_at, put_slot, first_open}
use Rattle.window.specs.Acts.{promise, enter_acts, redo_acts, mark_acts, pass_acts}
use Rattle.window.specs.Places.{filled_has, filled_most}
use Rattle.window.specs.ByPlace.{at_place, put_keeps, put_cases, put_at, sweep_keeps, sweep_cases, sweep_at, grown_at, at_here, at_past}
use Rattle.replica.specs.declared.Replica.{Replica}
use Rattle.replica.specs.declared.Done.{Done}
use Rattle.replica.specs.Record.{place, number, log_end}
use Rattle.replica.specs.Messages.{clean, clean_reply, prepare_book, down_acts}
use Rattle.replica.specs.Durability.{notice_acts, pass_stop, logged_on}
use Rattle.replica.specs.Quorumread.{answer_act}
use Rattle.replica.specs.Added.{moved_exec}
use Rattle.replica.specs.Step.{Call, call_prepare, call_prepare_reply, call_accept, call_accept_reply, call_commit_notice, call_timeout, call_logged, call_offer, call_executed, call_open_read, call_read_reply, step}
use Rattle.laws.specs.OfFit.{fit_facts}
use Rattle.laws.specs.Counts.{counted_long}
use Rattle.laws.specs.Appended.{appended_cases, appended_most}
use Rattle.laws.specs.WaysMessages.{prepare_window, prepare_end, prepare_step_ways, accept_window, Accepts, accept_step_ways, accept_reply_step_ways}
use Rattle.laws.specs.WaysReply.{grown_window, reply_window, reply_slot, heard_window, counted_window, Answers, reply_place}
use Rattle.laws.specs.WaysLeadership.{lead_window, lead_trigger, lead_end, lead_from, timeout_step_ways, mark_window, mark_from, mark_end, commit_notice_step_ways}
use Rattle.laws.specs.WaysDurability.{logged, logged_at, pass_from}
use Rattle.laws.specs.WaysAdded.{offer_window, offer_step_ways, executed_step_ways, open_read_step_ways, read_reply_step_ways, read_place, read_at, merged_read}
use Rattle.voting.specs.Windows.{Whole, Whole-grown}
use Rattle.voting.specs.Keeping.{marked_keeps, passed_keeps, executed_keeps, heard_keeps}
use Rattle.voting.specs.Claims.{Claim, Of}
use Rattle.voting.specs.Replying.{entered_window, enters_acts, reply_acts, ReplyWays, prepare_reply_way}
use Rattle.voting.specs.Logging.{own_answer, LogWays, logged_way}
use Rattle.voting.specs.Promises.{accept_says}
use Rattle.voting.specs.Votes.{redone_vote, after_votes, after_whole}
use Rattle.voting.specs.Quorums.{kind_of}

-- the accept entry that a vote is
abbrev pub entry_of : ℕ → Vote → Act
entry_of s v = act (AcceptData (proposal s v.ballot v.batch)) v.batch.keys

-- slot s, its vote x before a call and y after it
pub record VoteTurn (acts : List Act) (s : ℕ) (x y : Vote) : Type 0 where
  pub moves : (y ≡ x) ⊎ (entry_of s y ∈ acts)
  pub holds : (v : Vote) → entry_of s v ∈ acts → y ≡ v

abbrev VotesTurn : Window → ℕ → Claim
VotesTurn w start a sc v acts = (i : ℕ) → VoteTurn acts (start + i) (at_place w i).vote (at_place v i).vote

-- ── entries, told apart ──
abbrev slot_in : Action → ℕ
slot_in (AcceptData p) = p.slot
slot_in (PrepareBal p) = 0
slot_in (CommitSlot p) = 0
slot_in (Prepare p) = 0
slot_in (PrepareReply p) = 0
slot_in (Accept p) = 0
slot_in (AcceptReply p) = 0
slot_in (CommitNotice p) = 0
slot_in Heartbeat = 0
slot_in StatusUp = 0
slot_in StatusDown = 0
slot_in (Execute p) = 0
slot_in (ReadAnswer p) = 0

abbrev vote_in : List ℕ → Action → Vote
vote_in keys (AcceptData p) = record { ballot = p.ballot; batch = record { id = p.batch; count = p.count; keys = keys } }
vote_in keys (PrepareBal p) = no_vote
vote_in keys (CommitSlot p) = no_vote
vote_in keys (Prepare p) = no_vote
vote_in keys (PrepareReply p) = no_vote
vote_in keys (Accept p) = no_vote
vote_in keys (AcceptReply p) = no_vote
vote_in keys (CommitNotice p) = no_vote
vote_in keys Heartbeat = no_vote
vote_in keys StatusUp = no_vote
vote_in keys StatusDown = no_vote
vote_in keys (Execute p) = no_vote
vote_in keys (ReadAnswer p) = no_vote

same_slot : {s s' : ℕ} {v v' : Vote} → entry_of s v ≡ entry_of s' v' → s ≡ s'
same_slot e = ap (λ (a : Act). slot_in a.what) e

same_vote : {s s' : ℕ} {v v' : Vote} → entry_of s v ≡ entry_of s' v' → v ≡ v'
same_vote e = ap (λ (a : Act). vote_in a.keys a.what) e

-- 2 is the kind of an accept entry
abbrev NoEntry : Act → Type 0
NoEntry a = kind_of a ≡ 2 → ⊥

none_in : {acts : List Act} → All NoEntry acts → (s : ℕ) (v : Vote) → entry_of s v ∈ acts → ⊥
none_in n s v o = All-in NoEntry n o refl

-- a vote that stays, in a call with no accept entry
stays : {acts : List Act} {s : ℕ} {x y : Vote} → y ≡ x → All NoEntry acts → VoteTurn acts s x y
stays {acts} {s} e n = record { moves = inl e; holds = λ v o. absurd (none_in n s v o) }

-- ── the lists of calls that write none ──
promises_none : (start ballot from to : ℕ) → All NoEntry (gather (λ i. promise (start + i) ballot ∷ []) from to)
promises_none start ballot from to = All-gather (λ i. promise (start + i) ballot ∷ []) NoEntry from to (λ i l u. ((λ z. omega arith), tt))

-- ── a PrepareReply, also a leader's own ──
module _ (w : Window) (r : Replica) (peer : ℕ) (m : Reply) (h : Whole r.window) (n : r.window.len ≤ 64) (kind : strict r.sc ≡ true)
    (e : (i : ℕ) → (at_place r.window i).vote ≡ (at_place w i).vote) where
  abbrev vote : Slot → Vote
  vote s = s.vote

  appends_none : All NoEntry (reply_acts r m)
  appends_none = promises_none r.sc.start r.sc.bal_prep_sent r.window.len (place r.sc m.slot + 1)

  wide : Answers r m → (i : ℕ) → (at_place (reply_window r peer m) i).vote ≡ (at_place w i).vote
  wide f i =
      put_keeps vote (grown_window r m) (place r.sc m.slot) i _ refl
      ∙ appended_cases (λ (x : Slot). x.vote ≡ (at_place w i).vote) r (place r.sc m.slot) (place r.sc m.trigger) i (let u = reply_place r m f in omega arith)
      (λ l. ap vote (sym (at_past r.window i l)) ∙ e i) (e i)

  weigh : Answers r m → (i : ℕ) → (at_place (heard_window r peer m) i).vote ≡ (at_place w i).vote
  weigh f i = put_keeps vote (reply_window r peer m) (place r.sc m.slot) i _ (heard_keeps vote (reply_slot r peer m) m refl) ∙ wide f i

  count_up : Answers r m → (i : ℕ) → (at_place (counted_window r peer m) i).vote ≡ (at_place w i).vote
  count_up f i = put_keeps vote (heard_window r peer m) (place r.sc m.trigger) i _ refl ∙ weigh f i

  -- the slots that enter Accept
  module _ (f : Answers r m) (i : ℕ) where
    abbrev c : Window
    c = counted_window r peer m

    abbrev entered : Vote
    entered = record { ballot = m.ballot; batch = (slot_at c i).batch }

    abbrev all : List Act
    all = reply_acts r m ++ enters_acts r peer m

    long : c.len ≤ 64
    long = appended_most r (place r.sc m.slot) (place r.sc m.trigger) 64 n (reply_place r m f)

    -- what it is after, where it was Preparing
    enters_vote : place r.sc m.trigger ≤ i → i < c.len → (slot_at c i).status ≡ preparing → (at_place (entered_window r peer m) i).vote ≡ entered
    enters_vote lo hi s =
        ap vote (sweep_at (λ k v. entered_slot (strict r.sc) m.ballot v) (place r.sc m.trigger) c.len c i (let z = counted_long r peer m in let y = long in omega arith) lo hi hi
        ∙ ap (entered_slot (strict r.sc) m.ballot) (at_here c i hi))
        ∙ rw (eq-eqb _ _ s, kind)

    in_one : (v : Vote) (k : ℕ) → entry_of (r.sc.start + i) v ∈ enter_acts (number r.sc k) m.ballot (slot_at c k)
        → ((slot_at c k).status ≡ preparing) × (i ≡ k) × (v ≡ record { ballot = m.ballot; batch = (slot_at c k).batch })
    in_one v k =
        pick_cases (λ (l : List Act). entry_of (r.sc.start + i) v ∈ l → ((slot_at c k).status ≡ preparing) × (i ≡ k) × (v ≡ record { ballot = m.ballot; batch = (slot_at c k).batch }))
        (eqb (slot_at c k).status preparing)
        (λ t o. two (eqb-true _ _ t) (Memᴰ.cases_cons o)) (λ t o. absurd (Memᴰ.not-nil o))
      where
        two : (slot_at c k).status ≡ preparing
            → (entry_of (r.sc.start + i) v ≡ entry_of (number r.sc k) (record { ballot = m.ballot; batch = (slot_at c k).batch }))
            ⊎ (entry_of (r.sc.start + i) v ∈ (act (Accept (proposal (number r.sc k) m.ballot (slot_at c k).batch)) (slot_at c k).batch.keys ∷ []))
            → ((slot_at c k).status ≡ preparing) × (i ≡ k) × (v ≡ record { ballot = m.ballot; batch = (slot_at c k).batch })
        two s (inl q) = (s, omega (arith, same_slot q), same_vote q)
        two s (inr o) = absurd (let z : ◌≡◌ {A = ℕ} 2 6 = ap kind_of (Memᴰ.eq_of_singleton o) in omega arith)

    enters_holds : (v : Vote) → (entry_of (r.sc.start + i) v ∈ reply_acts r m) ⊎ (entry_of (r.sc.start + i) v ∈ enters_acts r peer m) → (at_place (entered_window r peer m) i).vote ≡ v
    enters_holds v (inl o) = absurd (none_in appends_none (r.sc.start + i) v o)
    enters_holds v (inr o) = go (gather_in (λ k. enter_acts (number r.sc k) m.ballot (slot_at c k)) (place r.sc m.trigger) c.len o)
      where
        go : (k : ℕ) × (place r.sc m.trigger ≤ k) × (k < c.len) × (entry_of (r.sc.start + i) v ∈ enter_acts (number r.sc k) m.ballot (slot_at c k))
            → (at_place (entered_window r peer m) i).vote ≡ v
        go (k, lo, hi, p) =
            let (s, q, z) = in_one v k p in
            enters_vote (omega arith) (omega arith) (ap (λ (x : ℕ). (slot_at c x).status) q ∙ s)
            ∙ ap (λ (x : ℕ). record { ballot = m.ballot; batch = (slot_at c x).batch }) q ∙ sym z

    enters_moves : ((at_place (entered_window r peer m) i).vote ≡ (at_place w i).vote) ⊎ (entry_of (r.sc.start + i) (at_place (entered_window r peer m) i).vote ∈ all)
    enters_moves =
        sweep_cases (λ k v. entered_slot (strict r.sc) m.ballot v) (place r.sc m.trigger) c.len c
        (λ (x : Slot). (x.vote ≡ (at_place w i).vote) ⊎ (entry_of (r.sc.start + i) x.vote ∈ all)) i (let z = counted_long r peer m in let y = long in omega arith)
        (λ lo hi l.
        pick_cases (λ (x : Slot). (x.vote ≡ (at_place w i).vote) ⊎ (entry_of (r.sc.start + i) x.vote ∈ all)) (eqb (at_place c i).status preparing)
        (λ s.
        let q : pick {A = Vote} (strict r.sc) (record { ballot = m.ballot; batch = (at_place c i).batch }) (at_place c i).vote ≡ entered =
        ap (λ (t : Bool). pick {A = Vote} t (record { ballot = m.ballot; batch = (at_place c i).batch }) (at_place c i).vote) kind
        ∙ ap (λ (x : Slot). record { ballot = m.ballot; batch = x.batch }) (at_here c i hi) in
        inr (subst (λ (v : Vote). entry_of (r.sc.start + i) v ∈ all) (sym q)
        (Memᴰ.append_right (reply_acts r m)
        (in_gather (λ k. enter_acts (number r.sc k) m.ballot (slot_at c k)) (place r.sc m.trigger) c.len i lo hi
        (rw (sym (ap (λ (x : Slot). eqb x.status preparing) (at_here c i hi)) ∙ s) (Memᴰ.head refl))))))
        (λ s. inl (count_up f i)))
        (λ out. inl (count_up f i))

  reply_votes : ReplyWays (VotesTurn w r.sc.start) r peer m
  reply_votes =
      record {
        passed = λ f t i. stays (wide f i) appends_none;
        heard = λ f t i. stays (weigh f i) appends_none;
        counted = λ f t i. stays (count_up f i) appends_none;
        entered = λ f t q i. record { moves = enters_moves f i; holds = λ v o. enters_holds f i v (Memᴰ.append_cases (reply_acts r m) o) };
      }

-- ── log completions ──
log_votes : (r : Replica) (d : Done) → Whole r.window → r.window.len ≤ 64 → strict r.sc ≡ true → LogWays (VotesTurn r.window r.sc.start) r d
unfolding Of logged_on
log_votes r d h n kind =
    let e = after_votes r d in
    let put : (s : Slot) → s.vote ≡ (logged_at r d).vote → (j : ℕ) → (at_place (put_slot (logged r d).window (place r.sc d.slot) s) j).vote ≡ (at_place r.window j).vote =
    λ s k j. put_keeps (λ (x : Slot). x.vote) (logged r d).window (place r.sc d.slot) j s k ∙ e j in
    record {
      only = λ u i. stays (e i) tt;
      own = λ x o. reply_votes r.window (logged r d) r.sc.id (own_answer r d) (after_whole r d h) n kind e;
      promised = λ x _ l i. stays (e i) ((λ z. omega arith), tt);
      acked = λ x _ i. stays (put _ refl i) tt;
      commits = λ x _ k q i. stays (put _ refl i) ((λ z. omega arith), tt);
      answered = λ x _ l i. stays (e i) ((λ z. omega arith), tt);
      passes = λ x i.
          stays
          (sweep_keeps (λ (y : Slot). y.vote) (λ k s. passed_slot s) (λ k s. passed_keeps (λ (y : Slot). y.vote) (λ s n. refl) s) (pass_from (logged r d)) (pass_stop (logged r d)) (logged r d).window i ∙ e i)
          (All-append NoEntry (gather (λ i. pass_acts (number (logged r d).sc i) (slot_at (logged r d).window i)) (pass_from (logged r d)) (pass_stop (logged r d))) _
          (All-gather (λ i. pass_acts (number (logged r d).sc i) (slot_at (logged r d).window i)) NoEntry (pass_from (logged r d)) (pass_stop (logged r d))
          (λ i l u. pick_both (All NoEntry) (eqb (slot_at (logged r d).window i).batch.id 0 || not (eqb (slot_at (logged r d).window i).status committed)) tt ((λ z. omega arith), tt)))
          (pick_both (All NoEntry) (eqb (pass_from (logged r d)) (pass_stop (logged r d))) {a = []} {b = notice_acts (logged r d).sc (number (logged r d).sc (pass_stop (logged r d))) (log_end (logged r d))} tt
          (pick_both (All NoEntry) (notifies (logged r d).sc (number (logged r d).sc (pass_stop (logged r d))) (log_end (logged r d))) ((λ z. omega arith), tt) tt)));
    }

-- ── an Accept, and an offer: one slot takes the vote of its entry ──
one_vote : (w : Window) (start i : ℕ) (y : Slot) (down : List Act) (more : List Act) → All NoEntry down → All NoEntry more → i < w.len → w.len ≤ 64 → Whole w → (k : ℕ)
    → VoteTurn (down ++ (entry_of (start + i) y.vote ∷ more)) (start + k) (at_place w k).vote (at_place (put_slot w i y) k).vote
one_vote w start i y down more n o h l g k =
    record {
      moves =
          put_cases w i y (λ (x : Slot). (x.vote ≡ (at_place w k).vote) ⊎ (entry_of (start + k) x.vote ∈ (down ++ (entry_of (start + i) y.vote ∷ more)))) k
          (λ e _. inr (Memᴰ.append_right down (Memᴰ.head (ap (λ (j : ℕ). entry_of (start + j) y.vote) e)))) (λ _. inl refl);
      holds = λ v m. go v (Memᴰ.append_cases down m);
    }
  where
    at : (v : Vote) → (entry_of (start + k) v ≡ entry_of (start + i) y.vote) ⊎ (entry_of (start + k) v ∈ more) → (at_place (put_slot w i y) k).vote ≡ v
    at v (inl e) =
        let j : k ≡ i = omega (arith, same_slot e) in
        ap (λ (x : ℕ). (at_place (put_slot w i y) x).vote) j ∙ ap (λ (x : Slot). x.vote) (put_at w i y h (omega arith)) ∙ sym (same_vote e)
    at v (inr m) = absurd (none_in o (start + k) v m)

    go : (v : Vote) → (entry_of (start + k) v ∈ down) ⊎ (entry_of (start + k) v ∈ (entry_of (start + i) y.vote ∷ more)) → (at_place (put_slot w i y) k).vote ≡ v
    go v (inl m) = absurd (none_in n (start + k) v m)
    go v (inr m) = at v (Memᴰ.cases_cons m)

-- a window that grew has the votes it had
grew_turn : {acts : List Act} {s : ℕ} {x x' y : Vote} → x ≡ x' → VoteTurn acts s x y → VoteTurn acts s x' y
grew_turn {acts} {s} {x} {x'} {y} e t = subst (λ (z : Vote). VoteTurn acts s z y) e t

accept_votes : (r : Replica) (peer slot ballot : ℕ) (b : Batch) → Whole r.window → Accepts r peer slot ballot b
    → VotesTurn r.window r.sc.start 0 r.sc (put_slot (accept_window r slot) (place r.sc slot) (accepted_slot (strict r.sc) peer ballot (clean b) (slot_at (accept_window r slot) (place r.sc slot))))
    (says_acts (accept_says r.sc slot ballot b) (clean b).keys)
accept_votes r peer slot ballot b h f k =
    let i : ℕ = place r.sc slot in
    let w : Window = accept_window r slot in
    let y : Slot = accepted_slot (strict r.sc) peer ballot (clean b) (slot_at w i) in
    let at : slot ≡ r.sc.start + i = omega (arith, f.low) in
    let has : i < w.len = omega (arith, filled_has null_slot r.window (i + 1)) in
    let most : w.len ≤ 64 = filled_most null_slot r.window (i + 1) 64 (fit_facts r f.fits).numbers.window (omega (arith, f.low, f.high)) in
    grew_turn (ap (λ (x : Slot). x.vote) (grown_at r.window (i + 1) k (omega (arith, f.low, f.high))))
    (pick_both (λ (s : Says). VoteTurn (says_acts s (clean b).keys) (r.sc.start + k) (at_place w k).vote (at_place (put_slot w i y) k).vote) (steps_down r.sc ballot)
    (subst (λ (x : ℕ). VoteTurn (bare StatusDown ∷ entry_of x y.vote ∷ []) (r.sc.start + k) (at_place w k).vote (at_place (put_slot w i y) k).vote) (sym at)
    (one_vote w r.sc.start i y (bare StatusDown ∷ []) [] ((λ z. omega arith), tt) tt has most (Whole-grown r.window (i + 1) h) k))
    (subst (λ (x : ℕ). VoteTurn (entry_of x y.vote ∷ []) (r.sc.start + k) (at_place w k).vote (at_place (put_slot w i y) k).vote) (sym at)
    (one_vote w r.sc.start i y [] [] tt tt has most (Whole-grown r.window (i + 1) h) k)))

-- ── every call ──
step_votes : (r : Replica) (room : ℕ) (c : Call) → Whole r.window → strict r.sc ≡ true → Of (VotesTurn r.window r.sc.start) (step r room c)
unfolding Of decide_offer moved_exec
step_votes r room c h kind = go c
  where
    still : (a : ℕ) (i : ℕ) → VoteTurn [] (r.sc.start + i) (at_place r.window i).vote (at_place r.window i).vote
    still a i = stays refl tt

    go : (c : Call) → Of (VotesTurn r.window r.sc.start) (step r room c)
    go (call_prepare peer trigger ballot) =
        prepare_step_ways (Of (VotesTurn r.window r.sc.start)) r room peer trigger ballot (λ a l. still a)
        (λ f i. stays
        (sweep_keeps (λ (x : Slot). x.vote) (λ i s. prepared_slot (strict r.sc) ballot (prepare_book r.sc (prepare_window r trigger) (place r.sc trigger) peer) s) (λ k s. refl) (place r.sc trigger) (prepare_end r trigger) (prepare_window r trigger) i
        ∙ ap (λ (x : Slot). x.vote) (grown_at r.window (place r.sc trigger + 1) i (omega (arith, f.low, f.high))))
        (All-append NoEntry (down_acts r.sc ballot) _ (pick_both (All NoEntry) (steps_down r.sc ballot) ((λ z. omega arith), tt) tt) (promises_none r.sc.start ballot (place r.sc trigger) (prepare_end r trigger))))
    go (call_prepare_reply peer m) =
        prepare_reply_way (VotesTurn r.window r.sc.start) r room peer m (λ a l u. still a)
        (λ f. reply_votes r.window r peer (clean_reply m) h (fit_facts r f.fits).numbers.window kind (λ i. refl))
    go (call_accept peer slot ballot b) =
        accept_step_ways (Of (VotesTurn r.window r.sc.start)) r room peer slot ballot b (λ a l. still a) (λ f. accept_votes r peer slot ballot b h f)
    go (call_accept_reply peer slot ballot) =
        accept_reply_step_ways (Of (VotesTurn r.window r.sc.start)) r room peer slot ballot (λ a l. still a)
        (λ f q i. stays (put_keeps (λ (x : Slot). x.vote) r.window (place r.sc slot) i _ refl) tt)
        (λ f q i. stays (put_keeps (λ (x : Slot). x.vote) r.window (place r.sc slot) i _ refl) ((λ z. omega arith), tt))
    go (call_commit_notice peer ballot bar) =
        commit_notice_step_ways (Of (VotesTurn r.window r.sc.start)) r room peer ballot bar (λ a l. still a)
        (λ f i. stays
        (sweep_keeps (λ (x : Slot). x.vote) (λ i s. marked_slot s) (λ k s. marked_keeps (λ (x : Slot). x.vote) (λ s n. refl) s) (mark_from r) (mark_end r ballot bar) (mark_window r bar) i
        ∙ ap (λ (x : Slot). x.vote) (grown_at r.window (place r.sc bar) i (omega (arith, f.high))))
        (All-gather (λ i. mark_acts (number r.sc i) (slot_at (mark_window r bar) i)) NoEntry (mark_from r) (mark_end r ballot bar)
        (λ i l u. pick_both (All NoEntry) (leb committed (slot_at (mark_window r bar) i).status) tt ((λ z. omega arith), tt))))
    go (call_timeout source) =
        timeout_step_ways (Of (VotesTurn r.window r.sc.start)) r room source (λ a l. still a)
        (λ b f i. stays
        (sweep_keeps (λ (x : Slot). x.vote) (λ i s. redone_slot b (new_book (lead_trigger r) (lead_end r)) s) (λ k s. redone_vote b (lead_trigger r) (lead_end r) s) (lead_from r) (lead_window r).len (lead_window r) i
        ∙ ap (λ (x : Slot). x.vote) (grown_at r.window (first_open r.window + 1) i (omega (arith, f.room)))) (
          (λ z. omega arith),
          (
            (λ z. omega arith),
            All-append NoEntry (gather (λ i. redo_acts (number r.sc i) b (slot_at (lead_window r) i)) (lead_from r) (lead_window r).len) (bare (Prepare (record { trigger = lead_trigger r; ballot = b })) ∷ [])
                (All-gather (λ i. redo_acts (number r.sc i) b (slot_at (lead_window r) i)) NoEntry (lead_from r) (lead_window r).len
                (λ i l u. pick_both (All NoEntry) (leb committed (slot_at (lead_window r) i).status) tt ((λ z. omega arith), tt)))
                ((λ z. omega arith), tt),
          ),
        ))
    go (call_logged d) = logged_way (VotesTurn r.window r.sc.start) r d room (λ a l u. still a) (λ f. log_votes r d h (fit_facts r f.fits).numbers.window kind)
    go (call_offer b) =
        offer_step_ways (Of (VotesTurn r.window r.sc.start)) r room b (λ a l. still a)
        (λ f k.
        let w : Window = offer_window r in
        let i : ℕ = r.window.len in
        let v : Vote = record { ballot = r.sc.bal_prepared; batch = clean b } in
        let y : Slot = offered_slot (strict r.sc) r.sc.bal_prepared (clean b) in
        let q : y.vote ≡ v = ap (λ (t : Bool). pick {A = Vote} t v no_vote) kind in
        grew_turn (ap (λ (x : Slot). x.vote) (grown_at r.window (i + 1) k (omega (arith, f.room))))
        (subst (λ (z : Vote). VoteTurn (entry_of (r.sc.start + i) z ∷ act (Accept (proposal (r.sc.start + i) r.sc.bal_prepared (clean b))) (clean b).keys ∷ []) (r.sc.start + k) (at_place w k).vote (at_place (put_slot w i y) k).vote) q
        (one_vote w r.sc.start i y [] (act (Accept (proposal (r.sc.start + i) r.sc.bal_prepared (clean b))) (clean b).keys ∷ []) tt ((λ z. omega arith), tt) (omega (arith, filled_has null_slot r.window (i + 1)))
        (filled_most null_slot r.window (i + 1) 64 (fit_facts r f.fits).numbers.window (omega (arith, f.room))) (Whole-grown r.window (i + 1) h) k)))
    go (call_executed slot) =
        executed_step_ways (Of (VotesTurn r.window r.sc.start)) r room slot (λ a l. still a)
        (λ f i. stays (put_keeps (λ (x : Slot). x.vote) r.window (place r.sc slot) i _ (executed_keeps (λ (x : Slot). x.vote) (λ s n. refl) (slot_at r.window (place r.sc slot)))) tt)
    go (call_open_read id count keys) = open_read_step_ways (Of (VotesTurn r.window r.sc.start)) r room id count keys (λ a l. still a) (λ f. still 0)
    go (call_read_reply peer id from_leader reply) =
        read_reply_step_ways (Of (VotesTurn r.window r.sc.start)) r room peer id from_leader reply (λ a l. still a)
        (λ f i. stays refl (answers_none (with_tally (read_at r (read_place r id)) reply) (smaller (read_at r (read_place r id)).tally.count reply.count)))
        (λ f k i. stays refl (answers_none (with_ack (merged_read (read_at r (read_place r id)) reply k) peer) (read_at r (read_place r id)).tally.count)) (λ f. still 0) (λ f k. still 0) (λ f k. still 12)
      where
        answers_none : (d : Read) (n : ℕ) → All NoEntry (gather (λ k. answer_act r.sc.leader d k ∷ []) 0 n)
        answers_none d n = All-gather (λ k. answer_act r.sc.leader d k ∷ []) NoEntry 0 n (λ i l u. ((λ z. omega arith), tt))

-- THE THEOREM, of one call on any strict record with a window of 64 slots, by place
pub strict_votes : (r : Replica) (room : ℕ) (c : Call) → Whole r.window → strict r.sc ≡ true → (i : ℕ)
    → VoteTurn (step r room c).actions (number r.sc i) (at_place r.window i).vote (at_place (step r room c).replica.window i).vote
unfolding Of
strict_votes r room c h kind i = step_votes r room c h kind i
