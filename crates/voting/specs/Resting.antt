-- 02, Wish 6, (c), and 2.2, phase 2 (a): every call of a strict replica keeps whoever is counted covered (`Covered`), and each Accept that it sends rests on a
-- majority of whom each answered for the slot, or answered with an endprep below it.
use Rattle.std.specs.Prelude.{◌≡◌, refl, true, false, not, ◌||◌, ◌&&◌, List, [], ◌∷◌, ◌++◌, ◌⊎◌, ℕ, ◌+◌, ◌≤◌, ◌<◌, ltb, leb, eqb}
use Rattle.std.proofs.Common.{sym, ap, subst, ◌∙◌, inl, inr, arith, ltb-true, eqb-true}
use mathlib.Core.List.Memᴰ
use Rattle.std.proofs.lemmas.Bool.{eqb-false, lt-leb, not-true, not-false}
use Rattle.base.specs.Pick.{pick, pick_both, pick_cases, clash, and_both, tests}
use Rattle.base.specs.Among.{◌∈◌, All, All-append}
use Rattle.base.specs.Gather.{gather, All-gather}
use Rattle.members.specs.Sets.{has, fits_group}
use Rattle.members.specs.Groups.{group_size}
use Rattle.members.specs.Laws.{has_none, group_bounds}
use Rattle.batch.specs.declared.Batch.{Batch}
use Rattle.tally.specs.declared.Read.{Read}
use Rattle.tally.specs.Open.{with_tally, with_ack, smaller}
use Rattle.actions.specs.declared.Says.{Says}
use Rattle.actions.specs.declared.Action.TheVariants.{AcceptData, Prepare}
use Rattle.actions.specs.Actions.{act, bare, says_acts}
use Rattle.slots.specs.declared.Slot.{Slot}
use Rattle.slots.specs.Slots.{preparing, committed, executed, with_state, with_leader, with_external, marked_slot, passed_slot, executed_slot, logged_slot, redone_slot, new_book, null_slot}
use Rattle.decide.specs.declared.Scalars.{Scalars}
use Rattle.decide.specs.Scalars.{leads, strict, may_be, steps_down, notifies}
use Rattle.decide.specs.Decide.{proposal, decide_offer}
use Rattle.window.specs.declared.Window.{Window}
use Rattle.window.specs.Window.{slot_at, put_slot, sweep, first_open}
use Rattle.window.specs.Acts.{redo_acts, mark_acts, pass_acts}
use Rattle.window.specs.Places.{size, filled_low, filled_has, filled_long, filled_most}
use Rattle.window.specs.ByPlace.{at_place, at_here, at_past, at_present, put_cases, put_keeps, put_elsewhere, sweep_cases, sweep_keeps, sweep_at, grown_at}
use Rattle.replica.specs.declared.Replica.{Replica}
use Rattle.replica.specs.Seen.{Made}
use Rattle.replica.specs.declared.Done.{Done}
use Rattle.replica.specs.declared.Entry.{Entry}
use Rattle.replica.specs.declared.Entry.TheVariants.{PrepareBal}
use Rattle.replica.specs.Record.{place, number, log_end, new_replica, fresh, zero_replica}
use Rattle.replica.specs.Fit.{fit}
use Rattle.replica.specs.Messages.{clean, clean_reply, down_acts}
use Rattle.replica.specs.Durability.{notice_acts, pass_stop, logged_on}
use Rattle.replica.specs.Quorumread.{answer_act}
use Rattle.replica.specs.Added.{moved_exec}
use Rattle.replica.specs.Step.{Call, call_prepare, call_prepare_reply, call_accept, call_accept_reply, call_commit_notice, call_timeout, call_logged, call_offer, call_executed, call_open_read, call_read_reply, step}
use Rattle.laws.specs.OfFit.{fit_facts}
use Rattle.laws.proofs.Theorems.{kind_stays}
use Rattle.laws.specs.OfDecide.{heeded}
use Rattle.laws.specs.WaysMessages.{prepare_end, prepare_step_ways, accept_step_ways, accept_reply_step_ways}
use Rattle.laws.specs.WaysLeadership.{lead_window, lead_trigger, lead_end, lead_from, led, Leads, timeout_step_ways, mark_window, mark_from, mark_end, Marks, commit_notice_step_ways}
use Rattle.laws.specs.WaysDurability.{completion, logged, logged_at, Logs, pass_from}
use Rattle.laws.specs.WaysAdded.{offer_window, Offers, offered, offer_step_ways, executed_step_ways, open_read_step_ways, read_reply_step_ways, read_place, read_at, merged_read}
use Rattle.voting.specs.Paper.{Majority}
use Rattle.voting.specs.Windows.{Whole, Whole-put}
use Rattle.voting.specs.Keeping.{marked_keeps, passed_keeps, executed_keeps, logged_keeps}
use Rattle.voting.specs.History.{Lent, told, play}
use Rattle.voting.specs.Claims.{core, Of}
use Rattle.voting.specs.Replying.{prepare_reply_way}
use Rattle.voting.specs.Logging.{own_answer, LogWays, logged_way}
use Rattle.voting.specs.Reached.{Good, Good-step, Good-play, good_new, follows_none}
use Rattle.voting.specs.Quorums.{kind_of, ballot_in}
use Rattle.voting.specs.Backing.{Standing, stands, Once, after_same}
use Rattle.voting.specs.Reigning.{open_low}
use Rattle.voting.specs.Covered.{Replied, replied_peer, replied_own, Came, CameIn, trigger_place, acks_of, notes_of, counted_set, Covered, After, Onward, After-none, After-equal, Onward-then, put_onward, sweep-Onward, grown-Onward, Covered-map, Sets, sets_of, Covered-still, Rests, Rests-map, accept_of, Turn, MakesTurn, NoAccept, quiet, slot_in, promises_none}
use Rattle.voting.specs.CoveredReply.{reply_turn}

-- ── the other calls ──
-- another status than Preparing
closes : (s : Slot) (status : ℕ) → (status ≡ preparing → ⊥) → After s (with_state s s.ballot status)
closes s status d = record { before = λ e. absurd (d e); notes = λ p e. e }

marked_after : (s : Slot) → After s (marked_slot s)
marked_after s = pick_both (After s) (leb committed s.status) (After-none s) (closes s 3 (λ e. omega arith))

passed_after : (s : Slot) → After s (passed_slot s)
passed_after s = pick_both (After s) (eqb s.batch.id 0) (closes s 4 (λ e. omega arith)) (After-none s)

executed_after : (s : Slot) → After s (executed_slot s)
executed_after s = pick_both (After s) (eqb s.status committed) (closes s 4 (λ e. omega arith)) (After-none s)

logged_after : (offset : ℕ) (s : Slot) → After s (logged_slot offset s)
logged_after offset s = pick_both (After s) (eqb s.wal_offset 0 || ltb offset s.wal_offset) (record { before = λ e. e; notes = λ p e. e }) (After-none s)

-- one slot put, with the members that it had
put_covered : {R : Came} (sc : Scalars) (w : Window) (k : ℕ) (x : Slot) → After (slot_at w k) x → sets_of x ≡ sets_of (slot_at w k) → Covered R sc w
    → Covered R (core sc) (put_slot w k x)
put_covered sc w k x a e c = Covered-still sc (put_onward w k x a) (λ i. put_keeps sets_of w k i x e) c

-- who does not lead
gone : {R : Came} {sc : Scalars} {w : Window} → (leads sc ≡ true → ⊥) → Covered R sc w
gone d = record { each = λ l. absurd (d l); notes = λ l. absurd (d l); most = λ l. absurd (d l) }

-- a step-up: the trigger slot is open, so its bookkeeping is new and nobody is counted
redone_none : (b trigger endprep : ℕ) (s : Slot) → s.status < 3 → acks_of (redone_slot b (new_book trigger endprep) s) ≡ 0
redone_none b trigger endprep s l = rw (lt-leb 4 s.status (omega arith), lt-leb 3 s.status l)

led_none : (r : Replica) (source b : ℕ) → Good r.sc r.window → Leads r source b → acks_of (at_place (led r b).replica.window (first_open r.window)) ≡ 0
led_none r source b g f =
    let i : ℕ = first_open r.window in
    let wide = filled_has null_slot r.window (i + 1) in
    let long : (lead_window r).len ≤ size (lead_window r) =
    omega (arith, filled_long null_slot r.window (i + 1), g.whole, filled_most null_slot r.window (i + 1) 64 (fit_facts r f.fits).numbers.window (omega (arith, f.room))) in
    ap acks_of
    (sweep_at (λ k s. redone_slot b (new_book (lead_trigger r) (lead_end r)) s) (lead_from r) (lead_window r).len (lead_window r) i long (omega (arith, f.open_high)) (omega arith) (omega arith))
    ∙ redone_none b (lead_trigger r) (lead_end r) (at_place (lead_window r) i)
    (subst (λ (s : Slot). s.status < 3) (sym (grown_at r.window (i + 1) i (let w = g.whole in omega (arith, f.room)))) (open_low r.window))

-- and nobody is noted
redone_unnoted : (b trigger endprep p : ℕ) (s : Slot) → (redone_slot b (new_book trigger endprep) s).status ≡ preparing → has (notes_of (redone_slot b (new_book trigger endprep) s)) p ≡ true → ⊥
redone_unnoted b trigger endprep p s =
    pick_cases (λ (x : Slot). x.status ≡ preparing → has (notes_of x) p ≡ true → ⊥) (leb executed s.status) {a = s} (λ t e z. omega (arith, tests))
    (λ u. pick_cases (λ (x : Slot). x.status ≡ preparing → has (notes_of x) p ≡ true → ⊥) (leb committed s.status)
    {a = with_external s}
    {b = with_leader (with_state (with_external s) b preparing) (new_book trigger endprep)}
    (λ t e z. omega (arith, tests)) (λ t e z. clash z (has_none p)))

led_unnoted : (r : Replica) (source b : ℕ) → Good r.sc r.window → Leads r source b → (i p : ℕ) → first_open r.window ≤ i
    → (at_place (led r b).replica.window i).status ≡ preparing → has (notes_of (at_place (led r b).replica.window i)) p ≡ true → ⊥
led_unnoted r source b g f i p l =
    let k : ℕ = first_open r.window in
    let long : (lead_window r).len ≤ size (lead_window r) =
    omega (arith, filled_long null_slot r.window (k + 1), g.whole, filled_most null_slot r.window (k + 1) 64 (fit_facts r f.fits).numbers.window (omega (arith, f.room))) in
    sweep_cases (λ k s. redone_slot b (new_book (lead_trigger r) (lead_end r)) s) (lead_from r) (lead_window r).len (lead_window r)
    (λ (x : Slot). x.status ≡ preparing → has (notes_of x) p ≡ true → ⊥) i long (λ _ _ _. redone_unnoted b (lead_trigger r) (lead_end r) p (at_place (lead_window r) i))
    (λ out s z. let u = at_present (lead_window r) i (omega arith) in out (omega (arith, f.open_high)) u u)

led-Covered : (R : Came) (r : Replica) (source b : ℕ) → Good r.sc r.window → Leads r source b → Covered R (core (led r b).replica.sc) (led r b).replica.window
led-Covered R r source b g f =
    let at : trigger_place (led r b).replica.sc ≡ first_open r.window = omega arith in
    let none : counted_set (led r b).replica.sc (led r b).replica.window ≡ 0 = ap (λ (i : ℕ). acks_of (at_place (led r b).replica.window i)) at ∙ led_none r source b g f in
    record {
      each = λ l p z. absurd (clash (subst (λ (x : ℕ). has x p ≡ true) none z) (has_none p));
      notes = λ l i p a s z. absurd (led_unnoted r source b g f i p (omega arith) s z);
      most = λ l a e. absurd (omega arith);
    }

notice_covered : (R : Came) (r : Replica) (peer ballot bar : ℕ) → Good r.sc r.window → Marks r peer ballot bar → Covered R r.sc r.window
    → Covered R (core r.sc) (sweep (λ i s. marked_slot s) (mark_from r) (mark_end r ballot bar) (mark_window r bar))
notice_covered R r peer ballot bar g f c =
    let u : place r.sc bar ≤ size r.window = (let w = g.whole in omega (arith, f.high)) in
    let long : (mark_window r bar).len ≤ size (mark_window r bar) =
    omega (arith, filled_long null_slot r.window (place r.sc bar), g.whole, filled_most null_slot r.window (place r.sc bar) 64 (fit_facts r f.fits).numbers.window (omega (arith, f.high))) in
    Covered-still r.sc
    (Onward-then (grown-Onward r.window (place r.sc bar) u)
    (sweep-Onward (λ i s. marked_slot s) (mark_from r) (mark_end r ballot bar) (mark_window r bar) long (λ i s. marked_after s)))
    (λ k.
    sweep_keeps sets_of (λ i s. marked_slot s) (λ i s. marked_keeps sets_of (λ s n. refl) s) (mark_from r) (mark_end r ballot bar) (mark_window r bar) k
    ∙ ap sets_of (grown_at r.window (place r.sc bar) k u)) c

offer_on : (r : Replica) (b : Batch) → Whole r.window → Offers r b → Onward r.window (offered r b).replica.window
unfolding decide_offer
offer_on r b h f =
    record {
      grows = filled_low null_slot r.window (r.window.len + 1);
      slots = λ i l.
          After-equal (put_elsewhere (offer_window r) r.window.len _ i (λ e. omega arith) ∙ grown_at r.window (r.window.len + 1) i (omega (arith, f.room)));
    }

offer_sets : (r : Replica) (b : Batch) (i : ℕ) → Whole r.window → Offers r b → sets_of (at_place (offered r b).replica.window i) ≡ sets_of (at_place r.window i)
unfolding decide_offer
offer_sets r b i h f =
    put_cases (offer_window r) r.window.len _ (λ (x : Slot). sets_of x ≡ sets_of (at_place r.window i)) i
    (λ e u. ap sets_of (sym (at_past r.window i (omega arith))))
    (λ out. ap sets_of (grown_at r.window (r.window.len + 1) i (omega (arith, f.room))))

-- an offer: its slot lies past every e
offer_rests : (R : Came) (r : Replica) (x : Batch) → Good r.sc r.window → Offers r x → Covered R r.sc r.window → (s b : ℕ) (v : Batch)
    → accept_of s b v ∈ (offered r x).actions → Rests R (core r.sc) (offered r x).replica.window s b
unfolding decide_offer
offer_rests R r x g f c s b v o =
    let may = and_both (leads r.sc) (not (eqb r.sc.bal_prepared 0) && eqb r.sc.bal_prepared r.sc.bal_prep_sent) f.may in
    let even = and_both (not (eqb r.sc.bal_prepared 0)) (eqb r.sc.bal_prepared r.sc.bal_prep_sent) may.1 in
    let some = eqb-false r.sc.bal_prepared 0 (not-true _ even.0) in
    let same = eqb-true r.sc.bal_prepared r.sc.bal_prep_sent even.1 in
    let acks = ap (λ (y : Sets). y.acks) (offer_sets r x (trigger_place r.sc) g.whole f) in
    let at = two (Memᴰ.cases_cons o) in
    let z : s ≡ log_end r = ap slot_in at in
    record {
      leading = may.0;
      ballot = ap ballot_in at ∙ same;
      majority = subst (Majority r.sc.group) (sym acks) (c.most may.0 (omega arith) same);
      each = λ p k. (let (e, t, (i, y)) = c.each may.0 p (subst (λ (a : ℕ). has a p ≡ true) acks k) in inr (e, (let l = t.low in let u = t.high in omega arith), (i, subst (λ (a : ℕ). R a p i e) (sym (ap ballot_in at ∙ same)) y)));
    }
  where
    two : (accept_of s b v ≡ act (AcceptData (proposal (log_end r) r.sc.bal_prepared (clean x))) (clean x).keys) ⊎ (accept_of s b v ∈ (accept_of (log_end r) r.sc.bal_prepared (clean x) ∷ []))
        → accept_of s b v ≡ accept_of (log_end r) r.sc.bal_prepared (clean x)
    two (inl e) = absurd (let y : ◌≡◌ {A = ℕ} 6 2 = ap kind_of e in omega arith)
    two (inr m) = Memᴰ.eq_of_singleton m

-- the sets of a fit record are within its group
within : (r : Replica) → fit r ≡ true → (j : ℕ) → j < r.window.len → fits_group (stands r j).prepare r.sc.group ≡ true
within r f j l = subst (λ (s : Slot). fits_group (acks_of s) r.sc.group ≡ true) (sym (at_here r.window j l)) ((fit_facts r f).slots j l).prepare

few : (r : Replica) → fit r ≡ true → r.sc.group ≤ 9
few r f = (group_bounds r.sc.group (fit_facts r f).numbers.size).1

-- the completion's offsets
logged-Covered : {R : Came} (r : Replica) (d : Done) → Covered R r.sc r.window → Covered R (logged r d).sc (logged r d).window
unfolding logged_on
logged-Covered r d c =
    let x : Slot = slot_at r.window (place r.sc d.slot) in
    let a = put_covered r.sc r.window (place r.sc d.slot) _ (logged_after r.sc.wal_offset x) (logged_keeps sets_of (λ s n. refl) r.sc.wal_offset x) c in
    record { each = a.each; notes = a.notes; most = a.most }

-- the lists of calls that send no Accept
down_none : (sc : Scalars) (ballot : ℕ) → All NoAccept (down_acts sc ballot)
down_none sc ballot = pick_both (All NoAccept) (steps_down sc ballot) ((λ z. omega arith), tt) tt

pass_none : (q : Replica)
    → All NoAccept (gather (λ i. pass_acts (number q.sc i) (slot_at q.window i)) (pass_from q) (pass_stop q)
    ++ pick (eqb (pass_from q) (pass_stop q)) [] (notice_acts q.sc (number q.sc (pass_stop q)) (log_end q)))
pass_none q =
    All-append NoAccept (gather (λ i. pass_acts (number q.sc i) (slot_at q.window i)) (pass_from q) (pass_stop q)) _
    (All-gather (λ i. pass_acts (number q.sc i) (slot_at q.window i)) NoAccept (pass_from q) (pass_stop q)
    (λ i l u. pick_both (All NoAccept) (eqb (slot_at q.window i).batch.id 0 || not (eqb (slot_at q.window i).status committed)) tt ((λ z. omega arith), tt)))
    (pick_both (All NoAccept) (eqb (pass_from q) (pass_stop q)) {a = []} {b = notice_acts q.sc (number q.sc (pass_stop q)) (log_end q)} tt
    (pick_both (All NoAccept) (notifies q.sc (number q.sc (pass_stop q)) (log_end q)) ((λ z. omega arith), tt) tt))

answers_none : (r : Replica) (d : Read) (n : ℕ) → All NoAccept (gather (λ k. answer_act r.sc.leader d k ∷ []) 0 n)
answers_none r d n = All-gather (λ k. answer_act r.sc.leader d k ∷ []) NoAccept 0 n (λ i l u. ((λ z. omega arith), tt))

log_turn : (R : Came) (r : Replica) (d : Done) → Good r.sc r.window → strict r.sc ≡ true → Logs r d
    → (d.entry ≡ PrepareBal → d.ballot ≡ r.sc.bal_prep_sent → R r.sc.bal_prep_sent r.sc.id d.slot (own_answer r d).endprep) → Covered R r.sc r.window → LogWays (MakesTurn R) r d
unfolding Of logged_on
log_turn R r d g kind f by c =
    let a = logged-Covered r d c in
    let only : Covered R (core r.sc) (logged r d).window = record { each = a.each; notes = a.notes; most = a.most } in
    let put : (x : Slot) → After (logged_at r d) x → sets_of x ≡ sets_of (logged_at r d) → Covered R (core r.sc) (put_slot (logged r d).window (place r.sc d.slot) x) =
    λ x o e. put_covered r.sc (logged r d).window (place r.sc d.slot) x o e (record { each = a.each; notes = a.notes; most = a.most }) in
    let long = Whole-put r.window (place r.sc d.slot) (logged_slot r.sc.wal_offset (slot_at r.window (place r.sc d.slot))) g.whole in
    let n = (fit_facts r f.fits).numbers in
    record {
      only = λ u. quiet only tt;
      own = λ z o.
          reply_turn R (logged r d) r.sc.id (own_answer r d) long n.window kind (few r f.fits) n.member
          (λ j l. subst (λ (s : Standing). fits_group s.prepare r.sc.group ≡ true) (sym (after_same r d j)) (within r f.fits j l)) (λ q. by z (sym ((heeded (logged r d).sc (logged_at r d) d.ballot false o.heeds).slot kind) ∙ q.sent)) a;
      promised = λ z _ l. quiet only ((λ z. omega arith), tt);
      acked = λ z _. quiet (put _ (record { before = λ e. e; notes = λ p e. e }) refl) tt;
      commits = λ z _ k q. quiet (put _ (record { before = λ e. absurd (omega arith); notes = λ p e. e }) refl) ((λ z. omega arith), tt);
      answered = λ z _ l. quiet only ((λ z. omega arith), tt);
      passes = λ z.
          quiet
          (Covered-still r.sc (sweep-Onward (λ k s. passed_slot s) (pass_from (logged r d)) (pass_stop (logged r d)) (logged r d).window (let x = n.window in omega arith) (λ k s. passed_after s))
          (λ i. sweep_keeps sets_of (λ k s. passed_slot s) (λ k s. passed_keeps sets_of (λ s n. refl) s) (pass_from (logged r d)) (pass_stop (logged r d)) (logged r d).window i)
          (record { each = a.each; notes = a.notes; most = a.most }))
          (pass_none (logged r d));
    }

-- ── every call ──
-- R of the calls before, or this call's reply
abbrev pub OrNow : Came → Replica → Call → Came
OrNow R r c b p s e = R b p s e ⊎ ((r.sc.bal_prep_sent ≡ b) × Replied r p s e c)

-- a leader's own prepare entry
own_replied : (r : Replica) (d : Done) → d.entry ≡ PrepareBal → d.ballot ≡ r.sc.bal_prep_sent → Replied r r.sc.id d.slot (own_answer r d).endprep (call_logged d)
own_replied r d e b =
    subst (λ (x : Entry). Replied r r.sc.id d.slot (own_answer r (completion x d.slot d.ballot d.size)).endprep (call_logged (completion x d.slot d.ballot d.size))) (sym e)
    (replied_own d.ballot d.size refl b refl)

step_turn : (R : Came) (r : Replica) (room : ℕ) (c : Call) → Good r.sc r.window → strict r.sc ≡ true → Covered R r.sc r.window
    → Of (MakesTurn (OrNow R r c)) (step r room c)
unfolding Of decide_offer moved_exec
step_turn R r room c g kind k = go c (Covered-map (λ b p s e x. inl x) k)
  where
    still : {S : Came} → Covered S r.sc r.window → Turn S (core r.sc) r.window []
    still a = quiet (record { each = a.each; notes = a.notes; most = a.most }) tt

    go : (c : Call) → Covered (OrNow R r c) r.sc r.window → Of (MakesTurn (OrNow R r c)) (step r room c)
    go (call_prepare peer trigger ballot) k =
        prepare_step_ways (Of (MakesTurn (OrNow R r (call_prepare peer trigger ballot)))) r room peer trigger ballot (λ a l. still k)
        (λ f. quiet (gone (follows_none r peer ballot g f.peer_is f.owned f.seen))
        (All-append NoAccept (down_acts r.sc ballot) _ (down_none r.sc ballot) (promises_none r.sc.start ballot (place r.sc trigger) (prepare_end r trigger))))
    go (call_prepare_reply peer m) k =
        prepare_reply_way (MakesTurn (OrNow R r (call_prepare_reply peer m))) r room peer m (λ a l u. still k)
        (λ f. reply_turn (OrNow R r (call_prepare_reply peer m)) r peer (clean_reply m) g.whole (fit_facts r f.fits).numbers.window kind (few r f.fits) f.peer_is.member
        (within r f.fits) (λ q. inr (refl, replied_peer m q.sent (eqb-true _ _ (not-false _ (rw kind at q.own))) refl refl)) k)
    go (call_accept peer slot ballot b) k =
        accept_step_ways (Of (MakesTurn (OrNow R r (call_accept peer slot ballot b)))) r room peer slot ballot b (λ a l. still k)
        (λ f. quiet (gone (follows_none r peer ballot g f.peer_is f.owned f.seen))
        (pick_both (λ (x : Says). All NoAccept (says_acts x (clean b).keys)) (steps_down r.sc ballot) ((λ z. omega arith), ((λ z. omega arith), tt)) ((λ z. omega arith), tt)))
    go (call_accept_reply peer slot ballot) k =
        accept_reply_step_ways (Of (MakesTurn (OrNow R r (call_accept_reply peer slot ballot)))) r room peer slot ballot (λ a l. still k)
        (λ f q. quiet (put_covered r.sc r.window (place r.sc slot) _ (record { before = λ e. e; notes = λ p e. e }) refl k) tt)
        (λ f q. quiet (put_covered r.sc r.window (place r.sc slot) _ (record { before = λ e. absurd (omega arith); notes = λ p e. e }) refl k) ((λ z. omega arith), tt))
    go (call_commit_notice peer ballot bar) k =
        commit_notice_step_ways (Of (MakesTurn (OrNow R r (call_commit_notice peer ballot bar)))) r room peer ballot bar (λ a l. still k)
        (λ f. quiet (notice_covered (OrNow R r (call_commit_notice peer ballot bar)) r peer ballot bar g f k)
        (All-gather (λ i. mark_acts (number r.sc i) (slot_at (mark_window r bar) i)) NoAccept (mark_from r) (mark_end r ballot bar)
        (λ i l u. pick_both (All NoAccept) (leb committed (slot_at (mark_window r bar) i).status) tt ((λ z. omega arith), tt))))
    go (call_timeout source) k =
        timeout_step_ways (Of (MakesTurn (OrNow R r (call_timeout source)))) r room source (λ a l. still k)
        (λ b f. quiet (led-Covered (OrNow R r (call_timeout source)) r source b g f) (
          (λ z. omega arith),
          (
            (λ z. omega arith),
            All-append NoAccept (gather (λ i. redo_acts (number r.sc i) b (slot_at (lead_window r) i)) (lead_from r) (lead_window r).len) (bare (Prepare (record { trigger = lead_trigger r; ballot = b })) ∷ [])
                (All-gather (λ i. redo_acts (number r.sc i) b (slot_at (lead_window r) i)) NoAccept (lead_from r) (lead_window r).len
                (λ i l u. pick_both (All NoAccept) (leb committed (slot_at (lead_window r) i).status) tt ((λ z. omega arith), tt)))
                ((λ z. omega arith), tt),
          ),
        ))
    go (call_logged d) k =
        logged_way (MakesTurn (OrNow R r (call_logged d))) r d room (λ a l u. still k)
        (λ f. log_turn (OrNow R r (call_logged d)) r d g kind f (λ e b. inr (refl, own_replied r d e b)) k)
    go (call_offer b) k =
        offer_step_ways (Of (MakesTurn (OrNow R r (call_offer b)))) r room b (λ a l. still k)
        (λ f. record {
          covered = Covered-still r.sc (offer_on r b g.whole f) (λ i. offer_sets r b i g.whole f) k;
          rests = offer_rests (OrNow R r (call_offer b)) r b g f k;
        })
    go (call_executed slot) k =
        executed_step_ways (Of (MakesTurn (OrNow R r (call_executed slot)))) r room slot (λ a l. still k)
        (λ f. quiet
        (put_covered r.sc r.window (place r.sc slot) _ (executed_after (slot_at r.window (place r.sc slot)))
        (executed_keeps sets_of (λ s n. refl) (slot_at r.window (place r.sc slot))) k) tt)
    go (call_open_read id count keys) k = open_read_step_ways (Of (MakesTurn (OrNow R r (call_open_read id count keys)))) r room id count keys (λ a l. still k) (λ f. still k)
    go (call_read_reply peer id from_leader reply) k =
        read_reply_step_ways (Of (MakesTurn (OrNow R r (call_read_reply peer id from_leader reply)))) r room peer id from_leader reply (λ a l. still k)
        (λ f. quiet (still k).covered (answers_none r (with_tally (read_at r (read_place r id)) reply) (smaller (read_at r (read_place r id)).tally.count reply.count)))
        (λ f z. quiet (still k).covered (answers_none r (with_ack (merged_read (read_at r (read_place r id)) reply z) peer) (read_at r (read_place r id)).tally.count)) (λ f. still k) (λ f z. still k) (λ f z. still k)

-- THE THEOREM, of one call on a strict replica: whoever is counted after it was counted before, or its reply came with this call
pub Covered-step : (R : Came) (r : Replica) (c : Lent) → Good r.sc r.window → strict r.sc ≡ true → Covered R r.sc r.window
    → Covered (OrNow R r c.call) (told r c).replica.sc (told r c).replica.window
unfolding Of
Covered-step R r c g kind k = let s = (step_turn R r c.room c.call g kind k).covered in record { each = s.each; notes = s.notes; most = s.most }

-- over a history from a strict replica: the replies that came before, or in it
pub Covered-play : (R : Came) (r : Replica) (h : List Lent) → Good r.sc r.window → strict r.sc ≡ true → Covered R r.sc r.window
    → Covered (λ b p s e. R b p s e ⊎ CameIn r h b p s e) (play r h).sc (play r h).window
Covered-play R r [] g kind k = Covered-map (λ b p s e x. inl x) k
Covered-play R r (c ∷ h) g kind k =
    Covered-map swap
    (Covered-play (OrNow R r c.call) (told r c).replica h (Good-step r c g) (kind_stays r c.room c.call ∙ kind) (Covered-step R r c g kind k))
  where
    swap : (b p s e : ℕ) → OrNow R r c.call b p s e ⊎ CameIn (told r c).replica h b p s e → R b p s e ⊎ CameIn r (c ∷ h) b p s e
    swap b p s e (inl (inl x)) = inl x
    swap b p s e (inl (inr x)) = inr (inl x)
    swap b p s e (inr x) = inr (inr x)

-- a new replica does not lead
pub Covered-new : (R : Came) (id group start options : ℕ) → (new_replica id group start options).answer ≡ 0
    → Covered R (new_replica id group start options).replica.sc (new_replica id group start options).replica.window
unfolding new_replica
Covered-new R id group start options e = gone (λ l. leads_none l e)
  where
    leads_none : leads (new_replica id group start options).replica.sc ≡ true → (new_replica id group start options).answer ≡ 0 → ⊥
    leads_none =
        pick_cases (λ (x : Made). leads x.replica.sc ≡ true → x.answer ≡ 0 → ⊥) (may_be id group start options)
        {a = record { answer = 0; replica = fresh id group start options }}
        {b = record { answer = 10; replica = zero_replica }}
        (λ t l e.
        let a = and_both (group_size group) _ t in
        let b = group_bounds group a.0 in
        let c = ltb-true id group (and_both (ltb id group) _ a.1).0 in
        let z = eqb-true 255 id l in
        absurd (omega arith))
        (λ t l e. absurd (omega arith))

-- THE THEOREM, of every history of a strict replica from a new one: each member counted is covered, by replies of the history
pub Covered-always : (id group start options : ℕ) (h : List Lent) → (new_replica id group start options).answer ≡ 0 → strict (new_replica id group start options).replica.sc ≡ true
    → let r = (new_replica id group start options).replica in Covered (CameIn r h) (play r h).sc (play r h).window
Covered-always id group start options h e kind =
    let r = (new_replica id group start options).replica in
    Covered-map only
    (Covered-play (λ b p s e. ⊥) r h (good_new id group start options e) kind (Covered-new (λ b p s e. ⊥) id group start options e))
  where
    only : (b p s e : ℕ) → ⊥ ⊎ CameIn (new_replica id group start options).replica h b p s e → CameIn (new_replica id group start options).replica h b p s e
    only b p s e (inr x) = x
    only b p s e (inl x) = absurd x

-- THE THEOREM, of the Accepts that one call on a strict replica sends
pub accept_rests : (R : Came) (r : Replica) (c : Lent) → Good r.sc r.window → strict r.sc ≡ true → Covered R r.sc r.window
    → (s b : ℕ) (v : Batch) → accept_of s b v ∈ (told r c).actions → Rests (OrNow R r c.call) (told r c).replica.sc (told r c).replica.window s b
unfolding Of
accept_rests R r c g kind k s b v o =
    let t = (step_turn R r c.room c.call g kind k).rests s b v o in
    record { leading = t.leading; ballot = t.ballot; majority = t.majority; each = t.each }

-- one call more
Once-more : (P : Replica → Call → Type 0) (b : ℕ) (r : Replica) (h : List Lent) (c : Lent) → Once P b r h ⊎ (((play r h).sc.bal_prep_sent ≡ b) × P (play r h) c.call) → Once P b r (h ++ (c ∷ []))
Once-more P b r [] c (inl x) = absurd x
Once-more P b r [] c (inr x) = inl x
Once-more P b r (d ∷ h) c (inl (inl x)) = inl x
Once-more P b r (d ∷ h) c (inl (inr x)) = inr (Once-more P b (told r d).replica h c (inl x))
Once-more P b r (d ∷ h) c (inr x) = inr (Once-more P b (told r d).replica h c (inr x))

kind_play : (r : Replica) (h : List Lent) → strict (play r h).sc ≡ strict r.sc
kind_play r [] = refl
kind_play r (c ∷ h) = kind_play (told r c).replica h ∙ kind_stays r c.room c.call

-- THE THEOREM, of every history of a strict replica from a new one, and the Accepts that its last call sends: by quorum or by offer
pub accept_rests_always : (id group start options : ℕ) (h : List Lent) (c : Lent) → (new_replica id group start options).answer ≡ 0 → strict (new_replica id group start options).replica.sc ≡ true
    → let r = (new_replica id group start options).replica in (s b : ℕ) (v : Batch) → accept_of s b v ∈ (told (play r h) c).actions
    → Rests (CameIn r (h ++ (c ∷ []))) (told (play r h) c).replica.sc (told (play r h) c).replica.window s b
accept_rests_always id group start options h c e kind s b v o =
    let r = (new_replica id group start options).replica in
    Rests-map (λ p t e x. Once-more (λ q c. Replied q p t e c) b r h c x)
    (accept_rests (CameIn r h) (play r h) c (Good-play r h (good_new id group start options e)) (kind_play r h ∙ kind)
    (Covered-always id group start options h e kind) s b v o)
