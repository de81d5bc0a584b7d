-- 02, Wish 6, (d), of a timeout, a CommitNotice, a log completion and an offer: what each makes of every slot, by place.
use Rattle.std.specs.Prelude.{◌≡◌, refl, true, not, ℕ, ◌+◌, ◌≤◌, ◌<◌, leb, eqb}
use Rattle.std.proofs.Common.{sym, ap, subst, ◌∙◌, inr, arith}
use borrow.Author.Tests.{leb-true, eqb-true}
use Rattle.base.specs.Pick.{and_left, and_right}
use Rattle.base.specs.Scan.{scan_high, scan_passed}
use Rattle.members.specs.Sets.{insert, count_in, fits_group}
use Rattle.batch.specs.declared.Batch.{Batch}
use Rattle.slots.specs.declared.LeaderBook.{LeaderBook}
use Rattle.slots.specs.declared.Slot.{Slot}
use Rattle.slots.specs.Slots.{committed, new_book, redone_slot, marked_slot, passed_slot, logged_slot, acknowledged_slot}
use Rattle.decide.specs.declared.Scalars.{Scalars}
use Rattle.decide.specs.Scalars.{leads, quorum}
use Rattle.decide.specs.Decide.{decide_offer}
use Rattle.window.specs.declared.Window.{Window}
use Rattle.window.specs.Window.{slot_at, sweep, first_open, may_mark, mark_stop}
use Rattle.window.specs.ByPlace.{at_place, at_here, at_past, put_cases, sweep_cases}
use Rattle.replica.specs.declared.Replica.{Replica}
use Rattle.replica.specs.declared.Done.{Done}
use Rattle.replica.specs.Record.{place}
use Rattle.replica.specs.Durability.{pass_stop, logged_on}
use Rattle.replica.specs.Step.{Call, call_commit_notice}
use Rattle.laws.specs.OfFit.{fit_facts}
use Rattle.laws.specs.WaysLeadership.{lead_window, lead_trigger, lead_end, lead_from, led, Leads, Leads-up, mark_window, mark_from, mark_end, marked, Marks}
use Rattle.laws.specs.WaysDurability.{logged, logged_at, Logs, pass_from}
use Rattle.laws.specs.WaysAdded.{offer_window, offered, Offers}
use Rattle.voting.specs.Paper.{Majority}
use Rattle.voting.specs.Keeping.{logged_keeps}
use Rattle.voting.specs.Claims.{core, Of}
use Rattle.voting.specs.Replying.{map_reply}
use Rattle.voting.specs.Logging.{own_answer, LogWays}
use Rattle.voting.specs.Votes.{after_whole}
use Rattle.voting.specs.Quorums.{logged_same}
use Rattle.agreement.specs.Good.{Good, GoodReplica, Grew, grew}
use Rattle.agreement.specs.OfMessages.{owns-owns}
use Rattle.safety.specs.Sight.{acks}
use Rattle.safety.specs.TurnsSlots.{Mild, Mild-Mild, Fair-Mild, Fair-self, Fair-from, Fair-of, Mild-then, Mild-put, Mild-sweep, acknowledged_mild, logged_mild, passed_mild, Fair-new, Fair-redone, Fair-marked}
use Rattle.safety.specs.TurnsMessages.{FairIn, FairThroughout, commit_turns, makes_majority}
use Rattle.safety.specs.TurnsReply.{Unmarked, reply_turns}

-- who leads has a ballot above 0
pub led_above : (sc : Scalars) (w : Window) → Good sc w → leads sc ≡ true → 0 < sc.bal_prep_sent
led_above sc w g l = omega (arith, g.sent l, g.own l)

-- ── a step-up ──
pub timeout_turns : (r : Replica) (c : Call) → GoodReplica r → (source b : ℕ) → Leads r source b → Of (FairThroughout r c) (led r b)
unfolding Of
timeout_turns r c g source b f i =
    let w : Window = lead_window r in
    let q : Grew r.window w = grew r.window g (first_open r.window + 1) (omega (arith, f.room)) in
    sweep_cases (λ k s. redone_slot b (new_book (lead_trigger r) (lead_end r)) s) (lead_from r) w.len w (FairIn r c (led r b) i) i (omega (arith, q.wide, q.short))
    (λ _ _ _.
    Fair-from (q.each i)
    (Fair-redone b (new_book (lead_trigger r) (lead_end r)) (at_place w i)
    (omega (arith, Leads-up r source b f, (g.each i).under, ap (λ (x : Slot). x.ballot) (q.each i)))))
    (λ _. subst (FairIn r c (led r b) i) (sym (q.each i)) (Fair-self (at_place r.window i)))

-- ── a CommitNotice: a slot that it marks is at the notice's ballot, since none is above the largest seen, and is below the told bar ──
module _ (w : Window) (ballot from to : ℕ) (l : from ≤ to) (i : ℕ) (a : from ≤ i) (b : i < mark_stop w ballot from to) where
  mark_below : i < to
  unfolding mark_stop
  mark_below = omega (arith, scan_high (λ k. may_mark ballot (slot_at w k)) from to l)

  mark_high : ballot ≤ (slot_at w i).ballot
  unfolding mark_stop
  mark_high = leb-true ballot (slot_at w i).ballot (and_left (leb ballot (slot_at w i).ballot) _ (scan_passed (λ k. may_mark ballot (slot_at w k)) from to i a b))

pub notice_turns : (r : Replica) (peer ballot bar : ℕ) → GoodReplica r → Marks r peer ballot bar → Of (FairThroughout r (call_commit_notice peer ballot bar)) (marked r ballot bar)
unfolding Of
notice_turns r peer ballot bar g f i =
    let w : Window = mark_window r bar in
    let q : Grew r.window w = grew r.window g (place r.sc bar) (omega (arith, f.high)) in
    sweep_cases (λ k s. marked_slot s) (mark_from r) (mark_end r ballot bar) w (FairIn r (call_commit_notice peer ballot bar) (marked r ballot bar) i) i (omega (arith, q.wide, q.short))
    (λ a b l.
    let here : slot_at w i ≡ at_place r.window i = sym (at_here w i l) ∙ q.each i in
    let high = mark_high w ballot (mark_from r) (place r.sc bar) (omega (arith, f.above)) i a b in
    let below = mark_below w ballot (mark_from r) (place r.sc bar) (omega (arith, f.above)) i a b in
    Fair-from (q.each i)
    (Fair-marked (at_place w i)
    (λ _. inr
    (record {
      peer = peer;
      ballot = ballot;
      bar = bar;
      call = refl;
      owned = owns-owns ballot peer f.owned;
      at = omega (arith, high, ap (λ (x : Slot). x.ballot) here, (g.each i).under, f.seen);
      low = omega (arith, below);
    }))))
    (λ _. subst (FairIn r (call_commit_notice peer ballot bar) (marked r ballot bar) i) (sym (q.each i)) (Fair-self (at_place r.window i)))

-- ── log completions ──
-- the offsets
after_mild : (r : Replica) (d : Done) (i : ℕ) → Mild (at_place r.window i) (at_place (logged r d).window i)
unfolding logged_on
after_mild r d =
    Mild-put r.window (place r.sc d.slot) (logged_slot r.sc.wal_offset (slot_at r.window (place r.sc d.slot)))
    (logged_mild r.sc.wal_offset (slot_at r.window (place r.sc d.slot)))

-- commit_bar passes committed slots
passed_high : (r : Replica) (i : ℕ) → pass_from r ≤ i → i < pass_stop r → 3 ≤ (slot_at r.window i).status
unfolding pass_stop
passed_high r i a b =
    leb-true 3 (slot_at r.window i).status (scan_passed (λ k. leb committed (slot_at r.window k).status) (pass_from r) (place r.sc r.sc.accept_bar) i a b)

after_len : (r : Replica) (d : Done) → (logged r d).window.len ≡ r.window.len
unfolding logged_on
after_len r d = refl

passes_mild : (r : Replica) (d : Done) → GoodReplica r → (i : ℕ)
    → Mild (at_place r.window i) (at_place (sweep (λ k s. passed_slot s) (pass_from (logged r d)) (pass_stop (logged r d)) (logged r d).window) i)
passes_mild r d g i =
    Mild-Mild (after_mild r d i)
    (Mild-sweep (λ k s. passed_slot s) (pass_from (logged r d)) (pass_stop (logged r d)) (logged r d).window (omega (arith, after_whole r d g.wide, after_len r d, g.short))
    (λ k a b l. passed_mild (at_place (logged r d).window k) (subst (λ (x : Slot). 3 ≤ x.status) (sym (at_here (logged r d).window k l)) (passed_high (logged r d) k a b))) i)

module _ (r : Replica) (c : Call) (g : GoodReplica r) (d : Done) (f : Logs r d) where
  abbrev k : ℕ
  k = place r.sc d.slot

  -- self's bit makes the quorum
  own_majority : quorum r.sc ≤ count_in (acknowledged_slot r.sc.id (logged_at r d)).leader.accept_acks → Majority r.sc.group (insert (acks (logged_at r d)) r.sc.id)
  own_majority q =
      let n = fit_facts r f.fits in
      let l : k < r.window.len = omega (arith, f.low, f.high) in
      let same : (logged_at r d).leader ≡ (slot_at r.window k).leader =
      ap (λ (x : Slot). x.leader) (logged_same r d g.wide l g.short)
      ∙ logged_keeps (λ (x : Slot). x.leader) (λ s n. refl) r.sc.wal_offset (slot_at r.window k) in
      makes_majority r (acks (logged_at r d)) r.sc.id
      (subst (λ (x : LeaderBook). fits_group x.accept_acks r.sc.group ≡ true) (sym same) (n.slots k l).accept) n.numbers.member q

  pub log_turns : LogWays (FairThroughout r c) r d
  unfolding Of logged_on
  log_turns =
      record {
        only = λ u i. Fair-Mild (after_mild r d i);
        own = λ e o.
            map_reply (Unmarked (logged r d)) (FairThroughout r c) (logged r d) r.sc.id (own_answer r d) (λ a sc w acts h i. Fair-of (Mild-then (after_mild r d i) (h i)))
            (reply_turns (logged r d) r.sc.id (own_answer r d) (after_whole r d g.wide) g.short (led_above r.sc r.window g));
        promised = λ e _ n i. Fair-Mild (after_mild r d i);
        acked = λ e _ i.
            Fair-Mild (Mild-Mild (after_mild r d i) (Mild-put (logged r d).window k (acknowledged_slot r.sc.id (logged_at r d)) (acknowledged_mild r.sc.id (logged_at r d)) i));
        commits = λ e _ a q. commit_turns r c (core r.sc) (logged r d).window k r.sc.id _ (after_mild r d) a.leading (own_majority q);
        answered = λ e _ n i. Fair-Mild (after_mild r d i);
        passes = λ e i. Fair-Mild (passes_mild r d g i);
      }

-- ── an offer: a new slot at the prepared ballot, which is that of the lead ──
pub offer_turns : (r : Replica) (c : Call) → GoodReplica r → (b : Batch) → Offers r b → Of (FairThroughout r c) (offered r b)
unfolding Of decide_offer
offer_turns r c g b f i =
    let w : Window = offer_window r in
    let k : ℕ = r.window.len in
    let q : Grew r.window w = grew r.window g (k + 1) (omega (arith, f.room)) in
    let may = and_right (leads r.sc) _ f.may in
    let same : r.sc.bal_prepared ≡ r.sc.bal_prep_sent = eqb-true _ _ (and_right (not (eqb r.sc.bal_prepared 0)) _ may) in
    let above = led_above r.sc r.window g (and_left (leads r.sc) _ f.may) in
    put_cases w k _ (FairIn r c (offered r b) i) i
    (λ e l. Fair-from (sym (at_past r.window i (omega arith))) (Fair-new _ (omega arith) (omega arith)))
    (λ _. subst (FairIn r c (offered r b) i) (sym (q.each i)) (Fair-self (at_place r.window i)))
