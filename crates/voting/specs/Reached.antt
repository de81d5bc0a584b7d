-- Every replica that a history reaches from a new one: no slot's ballot is above the largest seen, and who leads leads at a ballot of its own.
use Rattle.std.specs.Prelude.{◌≡◌, refl, true, false, List, [], ◌∷◌, ◌↔◌, ℕ, ◌+◌, ◌≤◌, ◌<◌, ltb, leb}
use Rattle.std.proofs.Common.{sym, ap, subst, ◌∙◌, le_refl, arith, ltb-true, ltb-false, eqb-true, le-ltb}
use Rattle.base.specs.Pick.{pick_both, pick_cases, and_both}
use Rattle.base.specs.Find.{any_nowhere}
use Rattle.members.specs.Groups.{group_size}
use Rattle.members.specs.Ballots.{owns}
use Rattle.members.specs.Laws.{Next-given, next_owned, group_bounds, owners_same}
use Rattle.batch.specs.declared.Batch.{Batch}
use Rattle.batch.specs.Batches.{is_batch}
use Rattle.batch.specs.Keys.{overfull}
use Rattle.slots.specs.declared.Slot.{Slot}
use Rattle.slots.specs.Slots.{new_book, redone_slot, prepared_slot, entered_slot, marked_slot, passed_slot, logged_slot, committed, executed, null_slot}
use Rattle.decide.specs.declared.Scalars.{Scalars}
use Rattle.decide.specs.declared.Reply.{Reply}
use Rattle.decide.specs.Scalars.{leads, is_peer, strict, following, followed, stepped_up, may_be}
use Rattle.decide.specs.Decide.{decide_offer}
use Rattle.window.specs.declared.Window.{Window}
use Rattle.window.specs.Window.{slot_at, put_slot, sweep, grown, no_slots, first_open}
use Rattle.window.specs.Places.{filled_most, filled_has, sweep_long}
use Rattle.window.specs.ByPlace.{at_place, put_keeps, put_cases, sweep_keeps, sweep_cases, grown_at, at_here, at_past}
use Rattle.replica.specs.declared.Replica.{Replica}
use Rattle.replica.specs.Seen.{Made}
use Rattle.replica.specs.declared.Done.{Done}
use Rattle.replica.specs.Record.{place, new_replica, fresh, zero_replica}
use Rattle.replica.specs.Fit.{fit, ready}
use Rattle.replica.specs.Messages.{clean, clean_reply, prepare_book}
use Rattle.replica.specs.Durability.{pass_stop, logged_on}
use Rattle.replica.specs.Added.{moved_exec}
use Rattle.replica.specs.Step.{Call, call_prepare, call_prepare_reply, call_accept, call_accept_reply, call_commit_notice, call_timeout, call_logged, call_offer, call_executed, call_open_read, call_read_reply, step}
use Rattle.replica.specs.ActingLaws.{Summed}
use Rattle.laws.specs.OfFit.{fit_facts}
use Rattle.laws.proofs.Theorems.{never_fourteen}
use Rattle.laws.specs.Summaries.{sums-Summed, Summed-sums, new_sums}
use Rattle.laws.proofs.Summaries.{Summed-stays}
use Rattle.laws.specs.Counts.{noted_long, heard_long, counted_long}
use Rattle.laws.specs.WaysMessages.{Peer, Prepares, prepare_end, prepared, prepare_step_ways, Accepts, accepted, accept_step_ways, accept_reply_step_ways}
use Rattle.laws.specs.WaysReply.{grown_window, reply_window, reply_slot, heard_window, counted_window, Answers, reply_place}
use Rattle.laws.specs.WaysLeadership.{lead_window, lead_trigger, lead_end, lead_from, Leads, timeout_step_ways, mark_window, mark_from, mark_end, marked, Marks, commit_notice_step_ways, Leads-up}
use Rattle.laws.specs.WaysDurability.{logged, logged_at, pass_from}
use Rattle.laws.specs.WaysAdded.{Offers, offered, offer_step_ways, executed_step_ways}
use Rattle.laws.specs.Appended.{top_within, appended_cases}
use Rattle.voting.specs.Windows.{Whole, Whole-put, Whole-sweep, Whole-grown}
use Rattle.voting.specs.Keeping.{entered_keeps, marked_keeps, passed_keeps, executed_keeps, logged_keeps, heard_keeps}
use Rattle.voting.specs.History.{Lent, told, play}
use Rattle.voting.specs.Claims.{core, Claim, Of, open_read_way, read_reply_way}
use Rattle.voting.specs.Replying.{entered_window, ReplyWays, prepare_reply_way}
use Rattle.voting.specs.Logging.{own_answer, LogWays, logged_way}
use Rattle.voting.specs.Promises.{worked, prepare_high, PrepareActs, prepare_iff, AcceptActs, accept_iff, accept_other, accept_high}

-- ── the invariant ──
pub record Good (sc : Scalars) (w : Window) : Type 0 where
  pub whole : Whole w
  pub slots : (i : ℕ) → (at_place w i).ballot ≤ sc.bal_max_seen
  pub sent : sc.bal_prep_sent ≤ sc.bal_max_seen
  pub prepared : sc.bal_prepared ≤ sc.bal_max_seen
  pub leading : leads sc ≡ true → (sc.bal_prep_sent ≡ sc.bal_max_seen) × (owns sc.bal_prep_sent sc.id ≡ true)

abbrev StaysGood : Claim
StaysGood a sc w acts = Good sc w

-- the same scalars, and another window with no larger ballot
re : (sc : Scalars) (w v : Window) → Good sc w → Whole v → ((i : ℕ) → (at_place v i).ballot ≤ sc.bal_max_seen) → Good (core sc) v
re sc w v g h l = record { whole = h; slots = l; sent = g.sent; prepared = g.prepared; leading = g.leading }

as_is : (sc : Scalars) (w : Window) → Good sc w → Good (core sc) w
as_is sc w g = re sc w w g g.whole g.slots

-- a ballot that is not below what was seen, from a peer: it leads, or nothing but the slots changes
follow : (sc : Scalars) (w v : Window) (peer ballot : ℕ) → Good sc w → Peer sc peer → sc.bal_max_seen ≤ ballot → Whole v
    → ((i : ℕ) → (at_place v i).ballot ≤ ballot) → Good (core (followed sc peer ballot)) v
follow sc w v peer ballot g p l h k =
    pick_cases (λ (x : Scalars). Good (core x) v) (ltb sc.bal_max_seen ballot)
    {a = following sc peer ballot}
    {b = sc}
    (λ t.
    let u = ltb-true sc.bal_max_seen ballot t in
    record {
      whole = h;
      slots = k;
      sent = omega (arith, g.sent);
      prepared = omega (arith, g.prepared);
      leading = λ e. absurd (p.other (eqb-true peer sc.id e));
    })
    (λ t. re sc w v g h (λ i. let u = ltb-false sc.bal_max_seen ballot t in omega (arith, k i)))

-- who follows a peer does not lead: its ballot would be owned by two, or another would lead
pub follows_none : (r : Replica) (peer ballot : ℕ) → Good r.sc r.window → Peer r.sc peer → owns ballot peer ≡ true → r.sc.bal_max_seen ≤ ballot
    → leads (followed r.sc peer ballot) ≡ true → ⊥
follows_none r peer ballot g p o s =
    pick_cases (λ (x : Scalars). leads x ≡ true → ⊥) (ltb r.sc.bal_max_seen ballot)
    {a = following r.sc peer ballot}
    {b = r.sc}
    (λ t e. p.other (eqb-true peer r.sc.id e))
    (λ t e.
    let own = g.leading e in
    let same : ballot ≡ r.sc.bal_prep_sent = (let x = ltb-false r.sc.bal_max_seen ballot t in let z = own.0 in omega arith) in
    p.other (owners_same ballot peer r.sc.id o (subst (λ (x : ℕ). owns x r.sc.id ≡ true) (sym same) own.1)))

worked_most : (r : Replica) (slot : ℕ) → fit r ≡ true → slot < r.sc.start + 64 → (worked r slot).len ≤ 64
worked_most r slot f u = filled_most null_slot r.window (place r.sc slot + 1) 64 (fit_facts r f).numbers.window (omega arith)

worked_at : (r : Replica) (slot j : ℕ) → Whole r.window → slot < r.sc.start + 64 → at_place (worked r slot) j ≡ at_place r.window j
worked_at r slot j h u = grown_at r.window (place r.sc slot + 1) j (omega arith)

-- ── PrepareReply, also a leader's own ──
abbrev ballot_of : Slot → ℕ
ballot_of s = s.ballot

module _ (r : Replica) (peer : ℕ) (m : Reply) (g : Good r.sc r.window) where
  wide_low : Answers r m → (i : ℕ) → (at_place (reply_window r peer m) i).ballot ≤ r.sc.bal_max_seen
  wide_low f i =
      subst (λ (x : ℕ). x ≤ r.sc.bal_max_seen) (sym (put_keeps ballot_of (grown_window r m) (place r.sc m.slot) i _ refl))
      (appended_cases (λ (x : Slot). x.ballot ≤ r.sc.bal_max_seen) r (place r.sc m.slot) (place r.sc m.trigger) i
      (let u = reply_place r m f in let z = g.whole in omega arith) (λ l. g.sent) (g.slots i))

  weighed_same : (i : ℕ) → (at_place (heard_window r peer m) i).ballot ≡ (at_place (reply_window r peer m) i).ballot
  weighed_same i = put_keeps ballot_of (reply_window r peer m) (place r.sc m.slot) i _ (heard_keeps ballot_of (reply_slot r peer m) m refl)

  counted_same : (i : ℕ) → (at_place (counted_window r peer m) i).ballot ≡ (at_place (reply_window r peer m) i).ballot
  counted_same i = put_keeps ballot_of (heard_window r peer m) (place r.sc m.trigger) i _ refl ∙ weighed_same i

  entered_same : (i : ℕ) → (at_place (entered_window r peer m) i).ballot ≡ (at_place (reply_window r peer m) i).ballot
  entered_same i =
      sweep_keeps ballot_of (λ k s. entered_slot (strict r.sc) m.ballot s) (λ k s. entered_keeps ballot_of (λ s n. refl) (strict r.sc) m.ballot (λ s. refl) s) (place r.sc m.trigger) (counted_window r peer m).len (counted_window r peer m) i
      ∙ counted_same i

  reply_good : ReplyWays StaysGood r peer m
  reply_good =
      record {
        passed = λ f t. re r.sc r.window (reply_window r peer m) g (noted_long r peer m ∙ g.whole) (wide_low f);
        heard = λ f t. re r.sc r.window (heard_window r peer m) g (heard_long r peer m ∙ g.whole) (λ i. omega (arith, weighed_same i, wide_low f i));
        counted = λ f t. re r.sc r.window (counted_window r peer m) g (counted_long r peer m ∙ g.whole) (λ i. omega (arith, counted_same i, wide_low f i));
        entered = λ f t q.
            record {
              whole = sweep_long (λ k s. entered_slot (strict r.sc) m.ballot s) (place r.sc m.trigger) (counted_window r peer m).len (counted_window r peer m) ∙ counted_long r peer m ∙ g.whole;
              slots = λ i. omega (arith, entered_same i, wide_low f i);
              sent = g.sent;
              prepared = omega (arith, f.sent, g.sent);
              leading = g.leading;
            };
      }

-- ── each call ──
redone_low : (ballot seen : ℕ) (s : Slot) (trigger endprep : ℕ) → seen ≤ ballot → s.ballot ≤ seen → (redone_slot ballot (new_book trigger endprep) s).ballot ≤ ballot
redone_low ballot seen s trigger endprep l h =
    pick_both (λ (x : Slot). x.ballot ≤ ballot) (leb executed s.status) (omega arith)
    (pick_both (λ (x : Slot). x.ballot ≤ ballot) (leb committed s.status) (omega arith) (le_refl ballot))

-- the window with another slot of the same ballot at a place
put_good : (sc : Scalars) (w : Window) (i : ℕ) (s : Slot) → Good sc w → s.ballot ≡ (slot_at w i).ballot → Good (core sc) (put_slot w i s)
put_good sc w i s g e =
    re sc w (put_slot w i s) g (Whole-put w i s g.whole) (λ j. omega (arith, put_keeps ballot_of w i j s e, g.slots j))

-- the replica after a log completion's offsets
after_good : (r : Replica) (d : Done) → Good r.sc r.window → Good (logged r d).sc (logged r d).window
unfolding logged_on
after_good r d g =
    let p = put_good r.sc r.window (place r.sc d.slot) (logged_slot r.sc.wal_offset (slot_at r.window (place r.sc d.slot))) g (logged_keeps ballot_of (λ s n. refl) r.sc.wal_offset (slot_at r.window (place r.sc d.slot))) in
    record { whole = p.whole; slots = p.slots; sent = p.sent; prepared = p.prepared; leading = p.leading }

step_up_good : (r : Replica) (source b : ℕ) → Good r.sc r.window → Leads r source b
    → Good (core (stepped_up r.sc (lead_trigger r) b))
    (sweep (λ i s. redone_slot b (new_book (lead_trigger r) (lead_end r)) s) (lead_from r) (lead_window r).len
    (lead_window r))
step_up_good r source b g f =
    let n = Next-given r.sc.bal_max_seen r.sc.id b f.next in
    let up : r.sc.bal_max_seen ≤ b = omega (arith, Leads-up r source b f) in
    let w = Whole-grown r.window (first_open r.window + 1) g.whole in
    let k : (lead_window r).len ≤ 64 = filled_most null_slot r.window (first_open r.window + 1) 64 (fit_facts r f.fits).numbers.window (omega (arith, f.room)) in
    let at : (i : ℕ) → (at_place (lead_window r) i).ballot ≤ r.sc.bal_max_seen =
    λ i. omega (arith, ap (λ (x : Slot). x.ballot) (grown_at r.window (first_open r.window + 1) i (omega (arith, f.room))), g.slots i) in
    record {
      whole = Whole-sweep (λ i s. redone_slot b (new_book (lead_trigger r) (lead_end r)) s) (lead_from r) (lead_window r).len (lead_window r) w;
      slots = λ i.
          sweep_cases (λ i s. redone_slot b (new_book (lead_trigger r) (lead_end r)) s) (lead_from r) (lead_window r).len (lead_window r) (λ (x : Slot). x.ballot ≤ b) i (omega arith)
          (λ x y z. redone_low b r.sc.bal_max_seen (at_place (lead_window r) i) (lead_trigger r) (lead_end r) up (at i)) (λ out. omega (arith, at i));
      sent = le_refl b;
      prepared = omega arith;
      leading = λ e. (refl, subst (λ (x : ℕ). owns x r.sc.id ≡ true) (sym n.made) (next_owned r.sc.bal_max_seen r.sc.id n.small));
    }

prepare_good : (r : Replica) (peer trigger ballot : ℕ) → Good r.sc r.window → Prepares r peer trigger ballot
    → Good (core (followed r.sc peer ballot)) (prepared r peer trigger ballot).replica.window
prepare_good r peer trigger ballot g f =
    let k = worked_most r trigger f.fits f.high in
    let w = Whole-grown r.window (place r.sc trigger + 1) g.whole in
    follow r.sc r.window _ peer ballot g f.peer_is f.seen
    (Whole-sweep (λ i s. prepared_slot (strict r.sc) ballot (prepare_book r.sc (worked r trigger) (place r.sc trigger) peer) s) (place r.sc trigger) (prepare_end r trigger) (worked r trigger) w)
    (λ i. sweep_cases (λ i s. prepared_slot (strict r.sc) ballot (prepare_book r.sc (worked r trigger) (place r.sc trigger) peer) s) (place r.sc trigger) (prepare_end r trigger) (worked r trigger) (λ (x : Slot). x.ballot ≤ ballot) i (omega arith)
    (λ x y z. le_refl ballot)
    (λ out. omega (arith, ap (λ (x : Slot). x.ballot) (worked_at r trigger i g.whole f.high), g.slots i, f.seen)))

accept_good : (r : Replica) (peer slot ballot : ℕ) (b : Batch) → Good r.sc r.window → Accepts r peer slot ballot b
    → Good (core (followed r.sc peer ballot)) (accepted r peer slot ballot b).replica.window
accept_good r peer slot ballot b g f =
    let w = Whole-grown r.window (place r.sc slot + 1) g.whole in
    follow r.sc r.window _ peer ballot g f.peer_is f.seen (Whole-put (worked r slot) (place r.sc slot) _ w)
    (λ i. put_cases (worked r slot) (place r.sc slot) _ (λ (x : Slot). x.ballot ≤ ballot) i (λ e l. le_refl ballot)
    (λ out. omega (arith, ap (λ (x : Slot). x.ballot) (worked_at r slot i g.whole f.high), g.slots i, f.seen)))

notice_good : (r : Replica) (peer ballot bar : ℕ) → Good r.sc r.window → Marks r peer ballot bar
    → Good (core r.sc) (marked r ballot bar).replica.window
notice_good r peer ballot bar g f =
    let w = Whole-grown r.window (place r.sc bar) g.whole in
    re r.sc r.window _ g (Whole-sweep (λ i s. marked_slot s) (mark_from r) (mark_end r ballot bar) (mark_window r bar) w)
    (λ i. omega (
      arith,
      sweep_keeps ballot_of (λ i s. marked_slot s) (λ i s. marked_keeps ballot_of (λ s n. refl) s) (mark_from r) (mark_end r ballot bar) (mark_window r bar) i,
      ap (λ (x : Slot). x.ballot) (grown_at r.window (place r.sc bar) i (omega (arith, f.high))),
      g.slots i,
    ))

pass_good : (r : Replica) (w : Window) (from to : ℕ) → Good r.sc w → Good (core r.sc) (sweep (λ i s. passed_slot s) from to w)
pass_good r w from to g =
    re r.sc w _ g (Whole-sweep (λ i s. passed_slot s) from to w g.whole)
    (λ i. omega (arith, sweep_keeps ballot_of (λ i s. passed_slot s) (λ i s. passed_keeps ballot_of (λ s n. refl) s) from to w i, g.slots i))

offer_good : (r : Replica) (b : Batch) → Good r.sc r.window → Offers r b → Good (core r.sc) (offered r b).replica.window
unfolding decide_offer
offer_good r b g f =
    let w = Whole-grown r.window (r.window.len + 1) g.whole in
    re r.sc r.window _ g (Whole-put (grown r.window (r.window.len + 1)) r.window.len _ w)
    (λ i. put_cases (grown r.window (r.window.len + 1)) r.window.len _ (λ (x : Slot). x.ballot ≤ r.sc.bal_max_seen) i (λ e l. g.prepared)
    (λ out. omega (arith, ap (λ (x : Slot). x.ballot) (grown_at r.window (r.window.len + 1) i (omega (arith, f.room))), g.slots i)))

log_good : (r : Replica) (d : Done) → Good r.sc r.window → LogWays StaysGood r d
unfolding Of logged_on
log_good r d g =
    let a = after_good r d g in
    let only = as_is r.sc (logged r d).window (record { whole = a.whole; slots = a.slots; sent = a.sent; prepared = a.prepared; leading = a.leading }) in
    let put : (s : Slot) → s.ballot ≡ (logged_at r d).ballot → Good (core r.sc) (put_slot (logged r d).window (place r.sc d.slot) s) =
    λ s e. put_good (logged r d).sc (logged r d).window (place r.sc d.slot) s a e in
    record {
      only = λ u. only;
      own = λ e o. reply_good (logged r d) r.sc.id (own_answer r d) a;
      promised = λ e _ n. only;
      acked = λ e _. put _ refl;
      commits = λ e _ k q. put _ refl;
      answered = λ e _ n. only;
      passes = λ e. pass_good (logged r d) (logged r d).window (pass_from (logged r d)) (pass_stop (logged r d)) a;
    }

step-Good : (r : Replica) (room : ℕ) (c : Call) → Good r.sc r.window → Of StaysGood (step r room c)
unfolding Of moved_exec decide_offer
step-Good r room c g = go c
  where
    same : Good (core r.sc) r.window
    same = as_is r.sc r.window g

    go : (c : Call) → Of StaysGood (step r room c)
    go (call_prepare peer trigger ballot) = prepare_step_ways (Of StaysGood) r room peer trigger ballot (λ a l. same) (λ f. prepare_good r peer trigger ballot g f)
    go (call_prepare_reply peer m) = prepare_reply_way StaysGood r room peer m (λ a l u. same) (λ f. reply_good r peer (clean_reply m) g)
    go (call_accept peer slot ballot b) = accept_step_ways (Of StaysGood) r room peer slot ballot b (λ a l. same) (λ f. accept_good r peer slot ballot b g f)
    go (call_accept_reply peer slot ballot) =
        accept_reply_step_ways (Of StaysGood) r room peer slot ballot (λ a l. same) (λ f q. put_good r.sc r.window (place r.sc slot) _ g refl)
        (λ f q. put_good r.sc r.window (place r.sc slot) _ g refl)
    go (call_commit_notice peer ballot bar) = commit_notice_step_ways (Of StaysGood) r room peer ballot bar (λ a l. same) (λ f. notice_good r peer ballot bar g f)
    go (call_timeout source) = timeout_step_ways (Of StaysGood) r room source (λ a l. same) (λ b f. step_up_good r source b g f)
    go (call_logged d) = logged_way StaysGood r d room (λ a l u. same) (λ f. log_good r d g)
    go (call_offer b) = offer_step_ways (Of StaysGood) r room b (λ a l. same) (λ f. offer_good r b g f)
    go (call_executed slot) =
        executed_step_ways (Of StaysGood) r room slot (λ a l. same)
        (λ f. put_good r.sc r.window (place r.sc slot) _ g (executed_keeps ballot_of (λ s n. refl) (slot_at r.window (place r.sc slot))))
    go (call_open_read id count keys) = open_read_way StaysGood r room (λ a acts. same) id count keys
    go (call_read_reply peer id from_leader reply) = read_reply_way StaysGood r room (λ a acts. same) peer id from_leader reply

pub Good-step : (r : Replica) (c : Lent) → Good r.sc r.window → Good (told r c).replica.sc (told r c).replica.window
unfolding Of
Good-step r c g = let s = step-Good r c.room c.call g in record { whole = s.whole; slots = s.slots; sent = s.sent; prepared = s.prepared; leading = s.leading }

pub Good-play : (r : Replica) (h : List Lent) → Good r.sc r.window → Good (play r h).sc (play r h).window
Good-play r [] g = g
Good-play r (c ∷ h) g = Good-play (told r c).replica h (Good-step r c g)

none_at : (i : ℕ) → (at_place no_slots i).ballot ≤ 0
none_at i = let e = ap (λ (x : Slot). x.ballot) (at_past no_slots i (omega arith)) in omega arith

pub good_new : (id group start options : ℕ) → (new_replica id group start options).answer ≡ 0
    → Good (new_replica id group start options).replica.sc (new_replica id group start options).replica.window
unfolding new_replica
good_new id group start options =
    pick_cases (λ (x : Made). x.answer ≡ 0 → Good x.replica.sc x.replica.window) (may_be id group start options)
    {a = record { answer = 0; replica = fresh id group start options }}
    {b = record { answer = 10; replica = zero_replica }}
    (λ t e.
    let a = and_both (group_size group) _ t in
    let b = group_bounds group a.0 in
    let c = ltb-true id group (and_both (ltb id group) _ a.1).0 in
    record {
      whole = refl;
      slots = none_at;
      sent = le_refl 0;
      prepared = le_refl 0;
      leading = λ l. let z = eqb-true 255 id l in absurd (omega arith);
    })
    (λ t e. absurd (omega arith))

-- ── on every such replica a Prepare or an Accept is never refused with 6, and acts exactly at a ballot that is not below the largest seen ──
pub never_high : (r : Replica) (trigger ballot : ℕ) → Good r.sc r.window → trigger < r.sc.start + 64 → r.sc.bal_max_seen ≤ ballot
    → prepare_high r trigger ballot ≡ false
never_high r trigger ballot g u l =
    any_nowhere (λ i. ltb ballot (slot_at (worked r trigger) i).ballot) (place r.sc trigger) (prepare_end r trigger)
    (λ i a b.
    let n = filled_has null_slot r.window (place r.sc trigger + 1) in
    let t = top_within (worked r trigger) (place r.sc trigger) (omega arith) in
    let e = ap (λ (x : Slot). x.ballot) (sym (at_here (worked r trigger) i (omega arith)) ∙ worked_at r trigger i g.whole u) in
    le-ltb ballot (slot_at (worked r trigger) i).ballot (omega (arith, e, g.slots i)))

pub never_high_accept : (r : Replica) (slot ballot : ℕ) → Good r.sc r.window → slot < r.sc.start + 64 → r.sc.bal_max_seen ≤ ballot
    → accept_high r slot ballot ≡ false
never_high_accept r slot ballot g u l =
    let n = filled_has null_slot r.window (place r.sc slot + 1) in
    let e = ap (λ (x : Slot). x.ballot) (sym (at_here (worked r slot) (place r.sc slot) (omega arith)) ∙ worked_at r slot (place r.sc slot) g.whole u) in
    le-ltb ballot (slot_at (worked r slot) (place r.sc slot)).ballot (omega (arith, e, g.slots (place r.sc slot)))

module _ (r : Replica) (g : Good r.sc r.window) (room peer slot ballot : ℕ) (f : ready r room ≡ true) (p : is_peer r.sc peer ≡ true)
    (o : owns ballot peer ≡ true) (l : r.sc.start ≤ slot) (u : slot < r.sc.start + 64) where
  pub reached_prepare_iff : PrepareActs r room peer slot ballot f p o l u ↔ (r.sc.bal_max_seen ≤ ballot)
  reached_prepare_iff =
      (λ a. ((prepare_iff r room peer slot ballot f p o l u).0 a).0, λ s. (prepare_iff r room peer slot ballot f p o l u).1 (s, never_high r slot ballot g u s))

  pub reached_accept_iff : (b : Batch) (q : is_batch b.id b.count ≡ true) → accept_other r slot b ≡ false → overfull r.keys (clean b) ≡ false
      → AcceptActs r room peer slot ballot b f p o q l u ↔ (r.sc.bal_max_seen ≤ ballot)
  reached_accept_iff b q n k =
      (λ a. ((accept_iff r room peer slot ballot b f p o q l u).0 a).0, λ s. (accept_iff r room peer slot ballot b f p o q l u).1 (s, n, never_high_accept r slot ballot g u s, k))

-- 02, Wish 1: of every replica that calls lead to from a new one the summary is the walk's
play-Summed : (r : Replica) (h : List Lent) → Summed r → Summed (play r h)
play-Summed r [] s = s
play-Summed r (c ∷ h) s = play-Summed (told r c).replica h (Summed-stays r c.room c.call s)

pub reached_summed : (id group start options : ℕ) (h : List Lent) → Summed (play (new_replica id group start options).replica h)
reached_summed id group start options h =
    play-Summed (new_replica id group start options).replica h (sums-Summed (new_replica id group start options).replica (new_sums id group start options))

-- so 14 is never given to it
pub reached_never_fourteen : (id group start options : ℕ) (h : List Lent) (n : ℕ) (c : Call) → (step (play (new_replica id group start options).replica h) n c).answer ≡ 14 → ⊥
reached_never_fourteen id group start options h n c =
    let r = play (new_replica id group start options).replica h in
    never_fourteen r n c (Summed-sums r (reached_summed id group start options h))
