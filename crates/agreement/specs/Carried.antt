-- A call makes up no batch: what its slots hold and what its messages and entries name, it held before or was brought. Of any Q that the empty
-- batch has: where each batch of a replica and of a call is in Q, so is each after the call and each that it names.
use Rattle.std.specs.Prelude.{◌≡◌, Bool, true, not, ◌||◌, List, [], ◌∷◌, ℕ, ◌+◌, ◌≤◌, ◌<◌, leb, eqb, length}
use Rattle.std.proofs.Math.Path.{refl}
use Rattle.std.proofs.Common.{◌∙◌, subst, arith}
use Rattle.std.proofs.Math.Dec.{ltb}
use Rattle.base.specs.Pick.{pick_both, pick_cases, and_left, and_right}
use Rattle.base.specs.Gather.{gather, All-gather}
use Rattle.base.specs.Among.{All, All-append}
use Rattle.batch.specs.declared.Batch.{Batch}
use Rattle.batch.specs.Batches.{empty_batch}
use Rattle.tally.specs.declared.Tally.{Tally}
use Rattle.tally.specs.declared.Read.{Read}
use Rattle.tally.specs.Open.{with_tally, with_ack, smaller}
use Rattle.actions.specs.declared.Action.{Action}
use Rattle.actions.specs.declared.Says.{Says}
use Rattle.actions.specs.declared.Action.TheVariants.{PrepareBal, AcceptData, CommitSlot, Prepare, PrepareReply, Accept, AcceptReply, CommitNotice, Heartbeat, StatusUp, StatusDown, Execute, ReadAnswer}
use Rattle.actions.specs.Actions.{Act, bare, says_acts}
use Rattle.slots.specs.declared.Vote.{Vote}
use Rattle.slots.specs.declared.Slot.{Slot}
use Rattle.slots.specs.Slots.{no_vote, noted_slot, preparing, committed, executed, null_slot, new_book, prepared_slot, redone_slot, accepted_slot, acknowledged_slot, committed_slot, counted_slot, entered_slot, marked_slot, passed_slot, executed_slot, offered_slot}
use Rattle.decide.specs.declared.Reply.{Reply}
use Rattle.decide.specs.Scalars.{strict, notifies, steps_down}
use Rattle.decide.specs.Decide.{awaits_prepare, sent_vote, decide_offer}
use Rattle.decide.specs.PrepareReply.{own_reply}
use Rattle.window.specs.declared.Window.{Window}
use Rattle.window.specs.Window.{slot_at, put_slot, filled, grown, sweep, first_open}
use Rattle.window.specs.Acts.{promise, redo_acts, enter_acts, mark_acts, pass_acts}
use Rattle.window.specs.Places.{put_long, filled_long, filled_low, filled_has, filled_most, sweep_long}
use Rattle.window.specs.ByPlace.{at_place, at_here, filled_cases, put_cases, sweep_cases}
use Rattle.replica.specs.declared.Replica.{Replica}
use Rattle.replica.specs.declared.Done.{Done}
use Rattle.replica.specs.Record.{Outcome, kept, place, number, log_end}
use Rattle.replica.specs.Messages.{clean, down_acts, prepare_book, prepare_step, accept_step, accept_reply_step, append_acts, appended_as, reply_on, clean_reply, prepare_reply_step}
use Rattle.replica.specs.Leadership.{timeout_step, commit_notice_step}
use Rattle.replica.specs.Durability.{moved_accept, pass_stop, logged_on, logged_step}
use Rattle.replica.specs.Quorumread.{open_read_step, answer_act, read_reply_step}
use Rattle.replica.specs.Added.{offer_step, moved_exec, executed_step}
use Rattle.replica.specs.Step.{Call, call_prepare, call_prepare_reply, call_accept, call_accept_reply, call_commit_notice, call_timeout, call_logged, call_offer, call_executed, call_open_read, call_read_reply, does, step}
use Rattle.laws.specs.Leaves.{done}
use Rattle.laws.specs.WaysMessages.{prepare_window, prepare_end, prepare_step_ways, accept_window, accept_step_ways, accept_reply_step_ways}
use Rattle.laws.specs.WaysLeadership.{lead_window, lead_trigger, lead_end, lead_from, timeout_step_ways, mark_window, mark_from, mark_end, commit_notice_step_ways}
use Rattle.laws.specs.WaysReply.{adopts_vote, heard_slot, grown_window, reply_window, reply_slot, heard_window, trigger_slot, counted_window, tabled_sc, Answers, reply_on_ways, prepare_reply_step_ways, reply_place}
use Rattle.laws.specs.WaysDurability.{logged, logged_at, Logs, Completes, completes_silent, completes_more, completes_commit, completes_report, moved_ways, pass_from, passed, logged_step_ways}
use Rattle.laws.specs.WaysAdded.{offer_window, offer_step_ways, executed_step_ways, open_read_step_ways, read_place, read_at, merged_read, closed, read_reply_step_ways}
use Rattle.agreement.specs.Frame.{named}

module _ (Q : Batch → Type 0) where
  -- ── of a slot, a log, an action, a call, an outcome ──
  pub record SlotIn (x : Slot) : Type 0 where
    pub batch : Q x.batch
    pub vote : Q x.vote.batch

  pub record WindowIn (w : Window) : Type 0 where
    pub wide : length w.slots ≡ 64
    pub short : w.len ≤ 64
    pub each : (i : ℕ) → SlotIn (at_place w i)

  -- the batch that an accept entry, an Accept or a PrepareReply names
  abbrev pub SaysIn : List ℕ → Action → Type 0
  SaysIn keys (AcceptData p) = Q (named p keys)
  SaysIn keys (Accept p) = Q (named p keys)
  SaysIn keys (PrepareReply p) = Q (record { id = p.batch; count = p.count; keys = keys })
  SaysIn keys (PrepareBal p) = Unit {0}
  SaysIn keys (CommitSlot p) = Unit {0}
  SaysIn keys (Prepare p) = Unit {0}
  SaysIn keys (AcceptReply p) = Unit {0}
  SaysIn keys (CommitNotice p) = Unit {0}
  SaysIn keys Heartbeat = Unit {0}
  SaysIn keys StatusUp = Unit {0}
  SaysIn keys StatusDown = Unit {0}
  SaysIn keys (Execute p) = Unit {0}
  SaysIn keys (ReadAnswer p) = Unit {0}

  abbrev pub ActIn : Act → Type 0
  ActIn a = SaysIn a.keys a.what

  -- the batch that a call brings: an Accept's, an offer's, and a PrepareReply's where it has a vote
  abbrev pub CallIn : Call → Type 0
  CallIn (call_accept peer slot ballot b) = Q (clean b)
  CallIn (call_offer b) = Q (clean b)
  CallIn (call_prepare_reply peer m) = m.voted ≡ true → Q (clean m.vote.batch)
  CallIn (call_prepare peer trigger ballot) = Unit {0}
  CallIn (call_accept_reply peer slot ballot) = Unit {0}
  CallIn (call_commit_notice peer ballot bar) = Unit {0}
  CallIn (call_timeout source) = Unit {0}
  CallIn (call_logged d) = Unit {0}
  CallIn (call_executed slot) = Unit {0}
  CallIn (call_open_read id count keys) = Unit {0}
  CallIn (call_read_reply peer id from_leader reply) = Unit {0}

  pub record OutcomeIn (o : Outcome) : Type 0 where
    pub window : WindowIn o.replica.window
    pub acts : All ActIn o.actions

  -- ── logs ──
  filled_in : (z : Slot) (w : Window) (n : ℕ) → SlotIn z → n ≤ 64 → WindowIn w → WindowIn (filled z w n)
  filled_in z w n k l h =
      record {
        wide = filled_long z w n ∙ h.wide;
        short = filled_most z w n 64 h.short l;
        each = λ i. filled_cases SlotIn z w n i (omega (arith, h.wide)) (λ _. k) (h.each i);
      }

  put_in : (w : Window) (i : ℕ) (x : Slot) → SlotIn x → WindowIn w → WindowIn (put_slot w i x)
  put_in w i x k h = record { wide = put_long w i x ∙ h.wide; short = h.short; each = λ j. put_cases w i x SlotIn j (λ _ _. k) (λ _. h.each j) }

  sweep_in : (f : Slot → Slot) (from to : ℕ) (w : Window) → ((x : Slot) → SlotIn x → SlotIn (f x)) → WindowIn w → WindowIn (sweep (λ i s. f s) from to w)
  sweep_in f from to w k h =
      record {
        wide = sweep_long (λ i s. f s) from to w ∙ h.wide;
        short = h.short;
        each = λ i. sweep_cases (λ i s. f s) from to w SlotIn i (omega (arith, h.wide, h.short)) (λ _ _ _. k (at_place w i) (h.each i)) (λ _. h.each i);
      }

  slot_is_in : (w : Window) (i : ℕ) → i < w.len → WindowIn w → SlotIn (slot_at w i)
  slot_is_in w i l h = subst SlotIn (at_here w i l) (h.each i)

  sent_in : (s : Slot) → Q empty_batch → SlotIn s → Q (sent_vote s).batch
  sent_in s e k = pick_both (λ (v : Vote). Q v.batch) (ltb 0 s.vote.ballot) k.vote e

  -- ── each call ──
  module _ (empty : Q empty_batch) (r : Replica) (h : WindowIn r.window) where
    null_in : SlotIn null_slot
    null_in = record { batch = empty; vote = empty }

    grown_in : (n : ℕ) → n ≤ 64 → WindowIn (grown r.window n)
    grown_in n l = filled_in null_slot r.window n null_in l h

    kept_in : (n : ℕ) → OutcomeIn (kept n r)
    kept_in n = record { window = h; acts = tt }

    prepare_in : (room peer trigger ballot : ℕ) → OutcomeIn (prepare_step r room peer trigger ballot)
    prepare_in room peer trigger ballot =
        prepare_step_ways OutcomeIn r room peer trigger ballot (λ n _. kept_in n)
        (λ f.
        let w : Window = prepare_window r trigger in
        let i : ℕ = place r.sc trigger in
        record {
          window =
              sweep_in (prepared_slot (strict r.sc) ballot (prepare_book r.sc w i peer)) i (prepare_end r trigger) w (λ x k. record { batch = k.batch; vote = k.vote })
              (grown_in (i + 1) (omega (arith, f.low, f.high)));
          acts =
              All-append ActIn (down_acts r.sc ballot) _ (pick_both (All ActIn) (steps_down r.sc ballot) (tt, tt) tt)
              (All-gather (λ i. promise (number r.sc i) ballot ∷ []) ActIn i (prepare_end r trigger) (λ _ _ _. (tt, tt)));
        })

    accept_in : (room peer slot ballot : ℕ) (b : Batch) → ((accept_step r room peer slot ballot b).answer ≡ 0 → Q (clean b)) → OutcomeIn (accept_step r room peer slot ballot b)
    accept_in room peer slot ballot b =
        accept_step_ways (λ (o : Outcome). (o.answer ≡ 0 → Q (clean b)) → OutcomeIn o) r room peer slot ballot b (λ n _ _. kept_in n)
        (λ f q.
        let w : Window = accept_window r slot in
        let i : ℕ = place r.sc slot in
        record {
          window = put_in w i (accepted_slot (strict r.sc) peer ballot (clean b) (slot_at w i)) (record { batch = q refl; vote = q refl }) (grown_in (i + 1) (omega (arith, f.low, f.high)));
          acts = pick_both (λ (s : Says). All ActIn (says_acts s (clean b).keys)) (steps_down r.sc ballot) (tt, (q refl, tt)) (q refl, tt);
        })

    acked_in : (i peer : ℕ) → i < r.window.len → WindowIn (put_slot r.window i (acknowledged_slot peer (slot_at r.window i)))
    acked_in i peer l =
        let k = slot_is_in r.window i l h in put_in r.window i (acknowledged_slot peer (slot_at r.window i)) (record { batch = k.batch; vote = k.vote }) h

    committed_in : (i peer : ℕ) → i < r.window.len → WindowIn (put_slot r.window i (committed_slot (acknowledged_slot peer (slot_at r.window i))))
    committed_in i peer l =
        let k = slot_is_in r.window i l h in
        put_in r.window i (committed_slot (acknowledged_slot peer (slot_at r.window i))) (record { batch = k.batch; vote = k.vote }) h

    accept_reply_in : (room peer slot ballot : ℕ) → OutcomeIn (accept_reply_step r room peer slot ballot)
    accept_reply_in room peer slot ballot =
        accept_reply_step_ways OutcomeIn r room peer slot ballot (λ n _. kept_in n)
        (λ f _. record { window = acked_in (place r.sc slot) peer (omega (arith, f.low, f.high)); acts = tt })
        (λ f _. record { window = committed_in (place r.sc slot) peer (omega (arith, f.low, f.high)); acts = (tt, tt) })

    redone_in : (ballot trigger endprep : ℕ) (x : Slot) → SlotIn x → SlotIn (redone_slot ballot (new_book trigger endprep) x)
    redone_in ballot trigger endprep x k =
        pick_both SlotIn (leb executed x.status) k
        (pick_both SlotIn (leb committed x.status) (record { batch = k.batch; vote = k.vote }) (record { batch = k.batch; vote = k.vote }))

    timeout_in : (room source : ℕ) → OutcomeIn (timeout_step r room source)
    timeout_in room source =
        timeout_step_ways OutcomeIn r room source (λ n _. kept_in n)
        (λ ballot f.
        let w : Window = lead_window r in
        record {
          window =
              sweep_in (redone_slot ballot (new_book (lead_trigger r) (lead_end r))) (lead_from r) w.len w (redone_in ballot (lead_trigger r) (lead_end r))
              (grown_in (first_open r.window + 1) (omega (arith, f.room)));
          acts = (
            tt,
            (
              tt,
              All-append ActIn (gather (λ i. redo_acts (number r.sc i) ballot (slot_at w i)) (lead_from r) w.len) (bare (Prepare (record { trigger = lead_trigger r; ballot = ballot })) ∷ [])
                  (All-gather (λ i. redo_acts (number r.sc i) ballot (slot_at w i)) ActIn (lead_from r) w.len
                  (λ i _ _. pick_both (All ActIn) (leb committed (slot_at w i).status) tt (tt, tt)))
                  (tt, tt),
            ),
          );
        })

    notice_in : (room peer ballot bar : ℕ) → OutcomeIn (commit_notice_step r room peer ballot bar)
    notice_in room peer ballot bar =
        commit_notice_step_ways OutcomeIn r room peer ballot bar (λ n _. kept_in n)
        (λ f.
        let w : Window = mark_window r bar in
        record {
          window =
              sweep_in marked_slot (mark_from r) (mark_end r ballot bar) w
              (λ x k. pick_both SlotIn (leb committed x.status) k (record { batch = k.batch; vote = k.vote }))
              (grown_in (place r.sc bar) (omega (arith, f.high)));
          acts =
              All-gather (λ i. mark_acts (number r.sc i) (slot_at w i)) ActIn (mark_from r) (mark_end r ballot bar)
              (λ i _ _. pick_both (All ActIn) (leb committed (slot_at w i).status) tt (tt, tt));
        })

    -- ── a PrepareReply, also a leader's to itself ──
    module _ (peer : ℕ) (m : Reply) (f : Answers r m) where
      slot_here : place r.sc m.slot < (reply_window r peer m).len
      slot_here = omega (arith, filled_has (appended_as r (place r.sc m.trigger)) r.window (place r.sc m.slot + 1))

      appends_in : WindowIn (reply_window r peer m)
      appends_in =
          let w = filled_in (appended_as r (place r.sc m.trigger)) r.window (place r.sc m.slot + 1) (record { batch = empty; vote = empty })
          (omega (arith, reply_place r m f)) h in
          let k = slot_is_in (grown_window r m) (place r.sc m.slot) slot_here w in
          put_in (grown_window r m) (place r.sc m.slot) (noted_slot (strict r.sc) peer (slot_at (grown_window r m) (place r.sc m.slot))) (record { batch = k.batch; vote = k.vote }) w

      append_acts_in : All ActIn (append_acts r (place r.sc m.slot))
      append_acts_in =
          All-gather (λ k. promise (number r.sc k) r.sc.bal_prep_sent ∷ []) ActIn r.window.len (place r.sc m.slot + 1) (λ _ _ _. (tt, tt))

      module _ (q : m.voted ≡ true → Q m.vote.batch) where
        heard_is_in : WindowIn (heard_window r peer m)
        heard_is_in =
            let k = slot_is_in (reply_window r peer m) (place r.sc m.slot) slot_here appends_in in
            put_in (reply_window r peer m) (place r.sc m.slot) (heard_slot (reply_slot r peer m) m)
            (pick_cases SlotIn (adopts_vote (reply_slot r peer m) m) (λ t. record { batch = q (and_left m.voted _ (and_right (awaits_prepare (reply_slot r peer m) m.ballot) _ t)); vote = k.vote }) (λ _. k)) appends_in

        trigger_here : place r.sc m.trigger < (heard_window r peer m).len
        trigger_here = omega (arith, f.low, f.logged, filled_low (appended_as r (place r.sc m.trigger)) r.window (place r.sc m.slot + 1))

        counted_window_in : WindowIn (counted_window r peer m)
        counted_window_in =
            let k = slot_is_in (heard_window r peer m) (place r.sc m.trigger) trigger_here heard_is_in in
            put_in (heard_window r peer m) (place r.sc m.trigger) (counted_slot peer (trigger_slot r peer m)) (record { batch = k.batch; vote = k.vote }) heard_is_in

        entered_in : WindowIn (sweep (λ i s. entered_slot (strict (tabled_sc r peer m)) m.ballot s) (place r.sc m.trigger) (reply_window r peer m).len (counted_window r peer m))
        entered_in =
            sweep_in (entered_slot (strict (tabled_sc r peer m)) m.ballot) (place r.sc m.trigger) (reply_window r peer m).len (counted_window r peer m)
            (λ x k. pick_both SlotIn (eqb x.status preparing) (record { batch = k.batch; vote = pick_both (λ (v : Vote). Q v.batch) (strict (tabled_sc r peer m)) k.batch k.vote }) k) counted_window_in

        enter_acts_in : All ActIn
            (gather (λ k. enter_acts (number (tabled_sc r peer m) k) m.ballot (slot_at (counted_window r peer m) k)) (place r.sc m.trigger) (reply_window r peer m).len)
        enter_acts_in =
            All-gather (λ k. enter_acts (number (tabled_sc r peer m) k) m.ballot (slot_at (counted_window r peer m) k)) ActIn (place r.sc m.trigger) (reply_window r peer m).len
            (λ k _ l.
            let z = slot_is_in (counted_window r peer m) k l counted_window_in in
            pick_both (All ActIn) (eqb (slot_at (counted_window r peer m) k).status preparing) (z.batch, (z.batch, tt)) tt)

    reply_in : (peer : ℕ) (m : Reply) → ((reply_on r peer m).answer ≡ 0 → m.voted ≡ true → Q m.vote.batch) → OutcomeIn (reply_on r peer m)
    reply_in peer m =
        reply_on_ways (λ (o : Outcome). (o.answer ≡ 0 → m.voted ≡ true → Q m.vote.batch) → OutcomeIn o) r peer m (λ n _ _ _. kept_in n)
        (λ f _ _. record { window = appends_in peer m f; acts = append_acts_in peer m f })
        (λ f _ _ q. record { window = heard_is_in peer m f (q refl); acts = append_acts_in peer m f })
        (λ f _ _ _ q. record { window = counted_window_in peer m f (q refl); acts = append_acts_in peer m f })
        (λ f _ _ _ _ q.
        record { window = entered_in peer m f (q refl); acts = All-append ActIn (append_acts r (place r.sc m.slot)) _ (append_acts_in peer m f) (enter_acts_in peer m f (q refl)) })

    prepare_reply_in : (room peer : ℕ) (m : Reply) → ((prepare_reply_step r room peer m).answer ≡ 0 → m.voted ≡ true → Q (clean m.vote.batch))
        → OutcomeIn (prepare_reply_step r room peer m)
    prepare_reply_in room peer m =
        prepare_reply_step_ways (λ (o : Outcome). (o.answer ≡ 0 → m.voted ≡ true → Q (clean m.vote.batch)) → OutcomeIn o) r room peer m (λ n _ _ _. kept_in n)
        (λ f q. reply_in peer (clean_reply m) q)

    -- ── offer, executed, reads ──
    offer_in : (room : ℕ) (b : Batch) → ((offer_step r room b).answer ≡ 0 → Q (clean b)) → OutcomeIn (offer_step r room b)
    unfolding decide_offer
    offer_in room b =
        offer_step_ways (λ (o : Outcome). (o.answer ≡ 0 → Q (clean b)) → OutcomeIn o) r room b (λ n _ _. kept_in n)
        (λ f q.
        record {
          window =
              put_in (offer_window r) r.window.len (offered_slot (strict r.sc) r.sc.bal_prepared (clean b))
              (record { batch = q refl; vote = pick_both (λ (v : Vote). Q v.batch) (strict r.sc) {a = record { ballot = r.sc.bal_prepared; batch = clean b }} {b = no_vote} (q refl) empty })
              (grown_in (r.window.len + 1) (omega (arith, f.room)));
          acts = (q refl, (q refl, tt));
        })

    executed_step_in : (room slot : ℕ) → OutcomeIn (executed_step r room slot)
    unfolding moved_exec
    executed_step_in room slot =
        executed_step_ways OutcomeIn r room slot (λ n _. kept_in n)
        (λ f.
        let s : Slot = slot_at r.window (place r.sc slot) in
        let k : SlotIn s = slot_is_in r.window (place r.sc slot) (omega (arith, f.low, f.high)) h in
        record {
          window = put_in r.window (place r.sc slot) (executed_slot s) (pick_both SlotIn (eqb s.status committed) (record { batch = k.batch; vote = k.vote }) k) h;
          acts = tt;
        })

    open_read_in : (room id count : ℕ) (keys : List ℕ) → OutcomeIn (open_read_step r room id count keys)
    open_read_in room id count keys = open_read_step_ways OutcomeIn r room id count keys (λ n _. kept_in n) (λ f. record { window = h; acts = tt })

    read_reply_in : (room peer id : ℕ) (from_leader : Bool) (reply : Tally) → OutcomeIn (read_reply_step r room peer id from_leader reply)
    read_reply_in room peer id from_leader reply =
        let d : Read = read_at r (read_place r id) in
        read_reply_step_ways OutcomeIn r room peer id from_leader reply (λ n _. kept_in n) (λ f. answered (with_tally d reply) (smaller d.tally.count reply.count))
        (λ f k. answered (with_ack (merged_read d reply k) peer) d.tally.count) (λ f. record { window = h; acts = tt }) (λ f k. record { window = h; acts = tt })
        (λ f k. record { window = h; acts = tt })
      where
        answered : (d : Read) (n : ℕ) → OutcomeIn (closed r (read_place r id) d n)
        answered d n = record { window = h; acts = All-gather (λ k. answer_act r.sc.leader d k ∷ []) ActIn 0 n (λ _ _ _. (tt, tt)) }

    -- ── log completions: of a replica with the size of its log ──
    passed_in : OutcomeIn (passed r)
    passed_in =
        record {
          window =
              sweep_in passed_slot (pass_from r) (pass_stop r) r.window
              (λ x k. pick_both SlotIn (eqb x.batch.id 0) (record { batch = k.batch; vote = k.vote }) k) h;
          acts =
              All-append ActIn (gather (λ i. pass_acts (number r.sc i) (slot_at r.window i)) (pass_from r) (pass_stop r)) _
              (All-gather (λ i. pass_acts (number r.sc i) (slot_at r.window i)) ActIn (pass_from r) (pass_stop r)
              (λ i _ _. pick_both (All ActIn) (eqb (slot_at r.window i).batch.id 0 || not (eqb (slot_at r.window i).status committed)) tt (tt, tt)))
              (pick_both (All ActIn) (eqb (pass_from r) (pass_stop r)) tt (pick_both (All ActIn) (notifies r.sc (number r.sc (pass_stop r)) (log_end r)) (tt, tt) tt));
        }

    completed_in : (i slot ballot : ℕ) → i < r.window.len → (after : Replica) (acts : List Act) → Completes r i slot ballot after acts → OutcomeIn (done after acts)
    completed_in i slot ballot l _ _ completes_silent = record { window = h; acts = tt }
    completed_in i slot ballot l _ _ (completes_more z b a q) = record { window = acked_in i r.sc.id l; acts = tt }
    completed_in i slot ballot l _ _ (completes_commit z b a q) = record { window = committed_in i r.sc.id l; acts = (tt, tt) }
    completed_in i slot ballot l _ _ (completes_report z n p) = record { window = h; acts = (tt, tt) }

  moved_in : (r : Replica) (slot : ℕ) (acts : List Act) → OutcomeIn (done r acts) → OutcomeIn (done (moved_accept r slot) acts)
  moved_in r slot acts k = moved_ways (λ (x : Replica). OutcomeIn (done x acts)) r slot k (λ bar. record { window = k.window; acts = k.acts })

  module _ (empty : Q empty_batch) (r : Replica) (h : WindowIn r.window) where
    module _ (d : Done) (f : Logs r d) where
      sized_in : WindowIn (logged r d).window
      unfolding logged_on
      sized_in =
          let s : Slot = slot_at r.window (place r.sc d.slot) in
          let k : SlotIn s = slot_is_in r.window (place r.sc d.slot) (omega (arith, f.low, f.high)) h in
          put_in r.window (place r.sc d.slot) _
          (pick_both SlotIn (eqb s.wal_offset 0 || ltb r.sc.wal_offset s.wal_offset) (record { batch = k.batch; vote = k.vote }) k) h

      sized_here : place r.sc d.slot < (logged r d).window.len
      unfolding logged_on
      sized_here = omega (arith, f.low, f.high)

      told_in : Q (sent_vote (logged_at r d)).batch
      told_in = sent_in (logged_at r d) empty (slot_is_in (logged r d).window (place r.sc d.slot) sized_here sized_in)

    logged_in : (room : ℕ) (d : Done) → OutcomeIn (logged_step r room d)
    logged_in room d =
        let r' : Replica = logged r d in
        logged_step_ways OutcomeIn r room d (λ n _ _. kept_in empty r h n) (λ f _. record { window = sized_in d f; acts = tt })
        (λ f e o.
        let own : Outcome = reply_on r' r'.sc.id (own_reply r'.sc (logged_at r d) d.slot) in
        pick_both OutcomeIn (eqb own.answer 0) (reply_in empty r' (sized_in d f) r'.sc.id (own_reply r'.sc (logged_at r d) d.slot) (λ _ _. told_in d f))
        (kept_in empty r h own.answer))
        (λ f e z n p. record { window = sized_in d f; acts = (told_in d f, tt) })
        (λ f e after acts k.
        moved_in after d.slot acts (completed_in empty r' (sized_in d f) (place r.sc d.slot) d.slot d.ballot (sized_here d f) after acts k))
        (λ f e at. passed_in empty r' (sized_in d f))

    -- ── every call: a call that does not answer 0 may bring anything ──
    does_in : (room : ℕ) (c : Call) → ((step r room c).answer ≡ 0 → CallIn c) → OutcomeIn (does r room c)
    does_in room (call_prepare peer trigger ballot) q = prepare_in empty r h room peer trigger ballot
    does_in room (call_prepare_reply peer m) q = prepare_reply_in empty r h room peer m q
    does_in room (call_accept peer slot ballot b) q = accept_in empty r h room peer slot ballot b q
    does_in room (call_accept_reply peer slot ballot) q = accept_reply_in empty r h room peer slot ballot
    does_in room (call_commit_notice peer ballot bar) q = notice_in empty r h room peer ballot bar
    does_in room (call_timeout source) q = timeout_in empty r h room source
    does_in room (call_logged d) q = logged_in room d
    does_in room (call_offer b) q = offer_in empty r h room b q
    does_in room (call_executed slot) q = executed_step_in empty r h room slot
    does_in room (call_open_read id count keys) q = open_read_in empty r h room id count keys
    does_in room (call_read_reply peer id from_leader reply) q = read_reply_in empty r h room peer id from_leader reply

    pub step_in : (room : ℕ) (c : Call) → ((step r room c).answer ≡ 0 → CallIn c) → OutcomeIn (step r room c)
    step_in room c q = let k = does_in room c q in record { window = k.window; acts = k.acts }
