-- The two kinds give one outcome on each call that `kindless` (Kinds) names: test by test, both make the same choice.
use Rattle.std.specs.Prelude.{◌≡◌, Bool, ◌&&◌, ◌||◌, List, [], ◌∷◌, ◌++◌, get_or, set, leb, eqb}
use Rattle.std.proofs.Math.Path.{refl}
use Rattle.std.proofs.Common.{sym, ap, ◌∙◌, le_refl, arith}
use Rattle.std.proofs.Math.Bool.{true, false, not}
use Prim.Native.Nat.{ℕ, zero, suc, ◌+◌, ◌/◌, ◌%◌, ◌≤◌, ◌<◌}
use Rattle.std.proofs.Math.Dec.{ltb}
use Rattle.std.proofs.lemmas.Bool.{not-true}
use Rattle.base.specs.Pick.{pick, pick_both, pick_through, and_both, tests}
use Rattle.base.specs.Find.{any, any-false}
use Rattle.base.specs.Gather.{gather}
use Rattle.base.specs.Over.{over, over_after, set_each}
use Rattle.members.specs.Sets.{has, count_in}
use Rattle.members.specs.Ballots.{owns, next_ballot}
use Rattle.std.specs.declared.option.Option.{Option}
use Rattle.std.specs.declared.option.Option.TheVariants.{None, Some}
use Rattle.batch.specs.declared.Batch.{Batch}
use Rattle.batch.specs.Batches.{is_batch}
use Rattle.batch.specs.Keys.{overfull}
use Rattle.tally.specs.declared.Tally.{Tally}
use Rattle.tally.specs.Open.{Replied}
use Rattle.tally.specs.Open.{no_read, find_read, reply_to, stays_open}
use Rattle.actions.specs.declared.Action.TheVariants.{AcceptData as AcceptEntry, StatusDown}
use Rattle.actions.specs.declared.Says.TheVariants.{One as OneAct, Two}
use Rattle.slots.specs.declared.ReplicaBook.{ReplicaBook}
use Rattle.slots.specs.declared.Slot.{Slot}
use Rattle.slots.specs.Slots.{with_offset, preparing, committed, no_slot, put_back, prepared_slot, acknowledged_slot, logged_slot, with_state, with_batch, with_replica, with_vote, sourced}
use Rattle.decide.specs.declared.Scalars.{Scalars}
use Rattle.decide.specs.Decide.{Decided}
use Rattle.decide.specs.declared.Reply.{Reply}
use Rattle.decide.specs.Scalars.{leads, is_member, is_peer, urgent, disallowed, strict, quorum, ignores_timeout, followed, steps_down, fit_scalars}
use Rattle.decide.specs.Decide.{proposal, awaits_accept, names_other, decide_accept, decide_accept_reply, decide_promised, is_stale, decide_accepted, may_offer, decide_offer}
use Rattle.window.specs.declared.Window.{Window}
use Rattle.window.specs.Window.{slot_at, grown, sweep, first_open}
use Rattle.window.specs.Acts.{promise}
use Rattle.replica.specs.declared.Replica.{Replica}
use Rattle.replica.specs.declared.Entry.{Entry}
use Rattle.replica.specs.declared.Entry.TheVariants.{PrepareBal, AcceptData, CommitSlot}
use Rattle.replica.specs.declared.Done.{Done}
use Rattle.replica.specs.Record.{Outcome, kept, summed, noting, settled, with_window, place, number, log_end}
use Rattle.replica.specs.Fit.{fit, ready, unready}
use Rattle.replica.specs.Messages.{clean, prepare_top, prepare_book, down_acts, prepare_on, prepare_step, reply_on, prepare_reply_step, accept_step, accept_reply_step, or_kept}
use Rattle.replica.specs.Leadership.{lead_on, step_up, timeout_step, mark_on, commit_notice_step}
use Rattle.replica.specs.Durability.{prepared_done, moved_accept, then_moved, accepted_done, pass_on, pass_stop, committed_done, done_on, logged_on, logged_step}
use Rattle.replica.specs.Quorumread.{open_read_step, replied_step, read_reply_step}
use Rattle.replica.specs.Added.{offer_step, moved_exec, executed_step}
use Rattle.replica.specs.Step.{Call, call_prepare, call_prepare_reply, call_accept, call_accept_reply, call_commit_notice, call_timeout, call_logged, call_offer, call_executed, call_open_read, call_read_reply, does, step}
use Rattle.laws.specs.Kinds.{with_options, optioned, options_of, of_kind, found, kindless_entry, kindless}

-- ── lists and slots ──
-- two sweeps that do the same to each element of the range
over_same : {A : Type 0} (f g : ℕ → A → A) (d : A) (from to : ℕ) (l : List A) → ((i : ℕ) → from ≤ i → i < to → f i (get_or l i d) ≡ g i (get_or l i d))
    → over f d from to l ≡ over g d from to l
over_same f g d from zero l e = refl
over_same {A} f g d from (suc j) l e =
    let before : over f d from j l ≡ over g d from j l = over_same f g d from j l (λ i p q. e i p (omega arith)) in
    pick_through (λ (x : List A). x) (leb from j)
    (λ t.
    let at : f j (get_or (over f d from j l) j d) ≡ g j (get_or (over g d from j l) j d) =
    ap (f j) (over_after f d from j l j (le_refl j)) ∙ e j (omega (arith, tests)) (omega arith) ∙ sym (ap (g j) (over_after g d from j l j (le_refl j))) in
    λ i. set (before i) j (at i))
    (λ t. before)

-- (d) asks for the kind only of a Committed or Executed slot
put_back_same : (a b : Bool) (status : ℕ) (s : Slot) → leb committed s.status ≡ false → put_back a status s ≡ put_back b status s
put_back_same true true status s e = refl
put_back_same true false status s e = rw e
put_back_same false true status s e = rw e
put_back_same false false status s e = refl

prepared_same : (a b : Bool) (ballot : ℕ) (book : ReplicaBook) (w : Window) (from to : ℕ) → any (λ i. leb committed (slot_at w i).status) from to ≡ false
    → sweep (λ i s. prepared_slot a ballot book s) from to w ≡ sweep (λ i s. prepared_slot b ballot book s) from to w
prepared_same a b ballot book w from to e =
    ap (λ (slots : List Slot). record { len = w.len; slots = slots })
    (over_same (λ i s. prepared_slot a ballot book s) (λ i s. prepared_slot b ballot book s) no_slot from to w.slots
    (λ i p q. ap (λ (status : ℕ). with_replica (with_state (slot_at w i) ballot status) book)
    (put_back_same a b preparing (slot_at w i) (any-false (λ j. leb committed (slot_at w j).status) from to i e p q))))

not_both : (a b : Bool) → b ≡ false → (a && b) ≡ false
not_both true b e = e
not_both false b e = refl

-- ── a replica with other options ──
module _ (n : ℕ) where
  abbrev pub optioned_outcome : Outcome → Outcome
  optioned_outcome o = record { answer = o.answer; replica = optioned n o.replica; actions = o.actions }

  abbrev optioned_decided : Decided → Decided
  optioned_decided d =
      record { answer = d.answer; noted = d.noted; sc = with_options n d.sc; slot = d.slot; says = d.says; keys = d.keys }

-- the first has those options, and is the second otherwise
pub record One (n : ℕ) (x a : Outcome) : Type 0 where
  pub same : x ≡ optioned_outcome n a

record OneDecided (n : ℕ) (x a : Decided) : Type 0 where
  same : x ≡ optioned_decided n a

-- two choices by one test
branch : {A : Type 0} (R : A → A → Type 0) (t : Bool) {x y a b : A} → R x a → R y b → R (pick t x y) (pick t a b)
branch R true p q = p
branch R false p q = q

module _ (n : ℕ) where
  abbrev either : (t : Bool) {x y a b : Decided} → OneDecided n x a → OneDecided n y b → OneDecided n (pick t x y) (pick t a b)
  either t p q = branch (OneDecided n) t p q

  abbrev alike : {x a : Decided} → x ≡ optioned_decided n a → OneDecided n x a
  alike e = record { same = e }

  abbrev choose : (t : Bool) {x y a b : Outcome} → One n x a → One n y b → One n (pick t x y) (pick t a b)
  choose t p q = branch (One n) t p q

  abbrev one : {x a : Outcome} → x ≡ optioned_outcome n a → One n x a
  one e = record { same = e }

  -- ── what is decided ──
  module _ (sc : Scalars) where
    abbrev sc' : Scalars
    sc' = with_options n sc

    followed_agree : (peer ballot : ℕ) → followed sc' peer ballot ≡ with_options n (followed sc peer ballot)
    followed_agree peer ballot = pick_through (with_options n) (ltb sc.bal_max_seen ballot) (λ e. refl) (λ e. refl)

    promised_agree : (s : Slot) (slot : ℕ) → OneDecided n (decide_promised sc' s slot) (decide_promised sc s slot)
    unfolding decide_promised
    promised_agree s slot = either (not s.replica.present) (alike refl) (alike refl)

    replied_agree : (s : Slot) (peer slot ballot : ℕ) → OneDecided n (decide_accept_reply sc' s peer slot ballot) (decide_accept_reply sc s peer slot ballot)
    unfolding decide_accept_reply
    replied_agree s peer slot ballot =
        either (not (awaits_accept sc s ballot)) (alike refl)
        (either (not (eqb s.ballot ballot) || (ltb sc.bal_max_seen ballot || not s.leader.present)) (alike refl)
        (either (has s.leader.accept_acks peer) (alike refl)
        (either (ltb (count_in (acknowledged_slot peer s).leader.accept_acks) (quorum sc)) (alike refl) (alike refl))))

    -- (d) and 15 ask for the kind only of a Committed or Executed slot
    accept_agrees : (s : Slot) (peer slot ballot : ℕ) (b : Batch) → leb committed s.status ≡ false
        → OneDecided n (decide_accept sc' s peer slot ballot b) (decide_accept sc s peer slot ballot b)
    unfolding decide_accept
    accept_agrees s peer slot ballot b e =
        rw (none sc', none sc)
        (either (ltb ballot s.ballot) (alike refl)
        (alike
        (λ i. record {
          answer = 0;
          noted = true;
          sc = followed_agree peer ballot i;
          slot = accepted_with (put_back_same (strict sc') (strict sc) 2 s e i);
          says = pick (steps_down sc ballot) (Two StatusDown (AcceptEntry (proposal slot ballot b))) (OneAct (AcceptEntry (proposal slot ballot b)));
          keys = b.keys;
        })))
      where
        none : (x : Scalars) → names_other x s b ≡ false
        none x = not_both (strict x) _ (rw e)

        accepted_with : ℕ → Slot
        accepted_with status = with_vote (with_replica (with_batch (with_state s ballot status) b) (sourced s.replica peer)) (record { ballot = ballot; batch = b })

    -- (a) asks for the kind only of a completion with another ballot
    accepted_agrees : (s : Slot) (slot ballot : ℕ) → (eqb s.ballot ballot && eqb s.vote.ballot ballot) ≡ true
        → OneDecided n (decide_accepted sc' s slot ballot) (decide_accepted sc s slot ballot)
    unfolding decide_accepted
    accepted_agrees s slot ballot e =
        rw (none sc', none sc)
        (either (leads sc) (either (eqb s.ballot sc.bal_prepared) (replied_agree s sc.id slot s.ballot) (alike refl))
        (either (not s.replica.present) (alike refl) (alike refl)))
      where
        none : (x : Scalars) → is_stale x s ballot true ≡ false
        none x = not_both (strict x) _ (rw e)

  -- ── what is done ──
  module _ (r : Replica) where
    abbrev r' : Replica
    r' = optioned n r

    -- what every call asks first
    admitted : (room : ℕ) {x a : Outcome} → One n x a
        → One n (pick (not (ready r' room)) (kept (unready r' room) r') x) (pick (not (ready r room)) (kept (unready r room) r) a)
    unfolding fit fit_scalars
    admitted room p = choose (not (ready r room)) (one refl) p

    settled_agrees : (w : Window) (i slot : ℕ) (d' d : Decided) → OneDecided n d' d → One n (settled r' w i slot d') (settled r w i slot d)
    unfolding settled noting
    settled_agrees w i slot d' d e =
        rw e.same
        (choose (not (eqb d.answer 0)) (one refl)
        (choose (not (d.noted && true)) (one refl) (choose (overfull r.keys d.slot.batch) (one refl) (one refl))))

    or_kept_agrees : (o' o : Outcome) → One n o' o → One n (or_kept r' o') (or_kept r o)
    or_kept_agrees o' o e = rw e.same (choose (eqb o.answer 0) (one refl) (one refl))

    -- ── messages ──
    prepare_agrees : (room peer trigger ballot : ℕ) → kindless r (call_prepare peer trigger ballot) ≡ true
        → One n (prepare_step r' room peer trigger ballot) (prepare_step r room peer trigger ballot)
    unfolding prepare_step prepare_on
    prepare_agrees room peer trigger ballot e =
        let from : ℕ = place r.sc trigger in
        let w : Window = grown r.window (from + 1) in
        let to : ℕ = prepare_top w from + 1 in
        let swept = prepared_same (strict r'.sc) (strict r.sc) ballot (prepare_book r.sc w from peer) w from to (not-true _ e) in
        admitted room
        (choose (not (is_peer r.sc peer)) (one refl)
        (choose (not (owns ballot peer)) (one refl)
        (choose (ltb trigger r.sc.start) (one refl)
        (choose (ltb ballot r.sc.bal_max_seen) (one refl)
        (choose (leb (r.sc.start + 64) trigger) (one refl)
        (choose (any (λ i. ltb ballot (slot_at w i).ballot) from to) (one refl)
        (one (λ i. record {
          answer = 0;
          replica = with_window r' (followed_agree r.sc peer ballot i) (swept i);
          actions = down_acts r.sc ballot ++ gather (λ j. promise (number r.sc j) ballot ∷ []) from to;
        }))))))))

    prepare_reply_agrees : (room peer : ℕ) (m : Reply) → leads r.sc ≡ false → One n (prepare_reply_step r' room peer m) (prepare_reply_step r room peer m)
    unfolding prepare_reply_step reply_on
    prepare_reply_agrees room peer m e =
        admitted room
        (choose (not (is_peer r.sc peer)) (one refl)
        (choose (m.voted && not (is_batch m.vote.batch.id m.vote.batch.count)) (one refl)
        (choose (ltb m.slot r.sc.start) (one refl)
        (choose (not (eqb m.ballot r.sc.bal_prep_sent)) (one refl)
        (rw e (one refl))))))

    accept_step_agrees : (room peer slot ballot : ℕ) (b : Batch) → leb committed (found r slot).status ≡ false
        → One n (accept_step r' room peer slot ballot b) (accept_step r room peer slot ballot b)
    unfolding accept_step
    accept_step_agrees room peer slot ballot b e =
        admitted room
        (choose (not (is_peer r.sc peer)) (one refl)
        (choose (not (owns ballot peer)) (one refl)
        (choose (not (is_batch b.id b.count)) (one refl)
        (choose (ltb slot r.sc.start) (one refl)
        (choose (ltb ballot r.sc.bal_max_seen) (one refl)
        (choose (leb (r.sc.start + 64) slot) (one refl)
        (settled_agrees (grown r.window (place r.sc slot + 1)) (place r.sc slot) slot _ _
        (accept_agrees r.sc (found r slot) peer slot ballot (clean b) e))))))))

    accept_reply_agrees : (room peer slot ballot : ℕ) → One n (accept_reply_step r' room peer slot ballot) (accept_reply_step r room peer slot ballot)
    unfolding accept_reply_step
    accept_reply_agrees room peer slot ballot =
        admitted room
        (choose (not (is_peer r.sc peer)) (one refl)
        (choose (ltb slot r.sc.start) (one refl)
        (choose (not (eqb ballot r.sc.bal_prepared)) (one refl)
        (choose (leb (log_end r) slot) (one refl)
        (settled_agrees r.window (place r.sc slot) slot _ _ (replied_agree r.sc (slot_at r.window (place r.sc slot)) peer slot ballot))))))

    -- ── a follower's notice, the added calls and reads, which ask for no option ──
    notice_agrees : (room peer ballot bar : ℕ) → One n (commit_notice_step r' room peer ballot bar) (commit_notice_step r room peer ballot bar)
    unfolding commit_notice_step mark_on
    notice_agrees room peer ballot bar =
        admitted room
        (choose (not (is_peer r.sc peer)) (one refl)
        (choose (not (owns ballot peer)) (one refl)
        (choose (not (eqb ballot r.sc.bal_max_seen)) (one refl)
        (choose (leb bar r.sc.commit_bar) (one refl) (choose (ltb (r.sc.start + 64) bar) (one refl) (one refl))))))

    executed_agrees : (room slot : ℕ) → One n (executed_step r' room slot) (executed_step r room slot)
    unfolding executed_step moved_exec
    executed_agrees room slot = admitted room (choose (ltb slot r.sc.start) (one refl) (choose (leb (log_end r) slot) (one refl) (one refl)))

    open_read_agrees : (room id count : ℕ) (keys : List ℕ) → One n (open_read_step r' room id count keys) (open_read_step r room id count keys)
    unfolding open_read_step
    open_read_agrees room id count keys = admitted room (one refl)

    read_reply_agrees : (room peer id : ℕ) (from_leader : Bool) (reply : Tally)
        → One n (read_reply_step r' room peer id from_leader reply) (read_reply_step r room peer id from_leader reply)
    unfolding read_reply_step replied_step
    read_reply_agrees room peer id from_leader reply =
        let i : ℕ = find_read r.reads id in
        let d : Replied = reply_to (quorum r.sc) peer from_leader reply (get_or r.reads.reads i no_read) in
        admitted room
        (choose (not (is_member r.sc peer)) (one refl)
        (choose (ltb 8 reply.count) (one refl)
        (choose (leb r.reads.count i) (one refl) (choose d.closes (one refl) (choose (stays_open d.answer) (one refl) (one refl))))))

    -- one that is refused
    offer_agrees : (room : ℕ) (b : Batch) → may_offer r.sc ≡ false → One n (offer_step r' room b) (offer_step r room b)
    unfolding offer_step
    offer_agrees room b e = admitted room (choose (not (is_batch b.id b.count)) (one refl) (rw e (one refl)))

    -- ── step-up and completions; `urgent` and `disallowed` are the same ──
    timeout_agrees : (room source : ℕ) → disallowed r'.sc ≡ disallowed r.sc → One n (timeout_step r' room source) (timeout_step r room source)
    unfolding timeout_step step_up lead_on
    timeout_agrees room source e =
        admitted room (choose (not (is_member r.sc source)) (one refl) (rw e (choose (ignores_timeout r.sc source) (one refl) (up (next_ballot r.sc.bal_max_seen r.sc.id)))))
      where
        up : (b : Option ℕ) → One n (step_up r' b) (step_up r b)
        up None = one refl
        up (Some b) =
            choose (ltb (number r.sc (first_open r.window)) r.sc.exec_bar) (one refl) (choose (leb 64 (first_open r.window)) (one refl) (one refl))

    committed_agrees : (slot : ℕ) → urgent r'.sc ≡ urgent r.sc → One n (committed_done r' slot) (committed_done r slot)
    unfolding committed_done pass_on pass_stop
    committed_agrees slot e = rw e (choose (not (eqb slot r.sc.commit_bar)) (one refl) (one refl))

    prepared_agrees : (i slot ballot : ℕ) (s : Slot) → leads r.sc ≡ false → eqb s.ballot ballot ≡ true
        → One n (prepared_done r' i slot ballot s) (prepared_done r i slot ballot s)
    unfolding prepared_done
    prepared_agrees i slot ballot s l e =
        rw (none r'.sc, none r.sc, l) (settled_agrees r.window i slot _ _ (promised_agree r.sc s slot))
      where
        none : (x : Scalars) → is_stale x s ballot false ≡ false
        none x = not_both (strict x) _ (rw e)

    accepted_done_agrees : (i slot ballot : ℕ) (s : Slot) → (eqb s.ballot ballot && eqb s.vote.ballot ballot) ≡ true
        → One n (accepted_done r' i slot ballot s) (accepted_done r i slot ballot s)
    unfolding accepted_done moved_accept
    accepted_done_agrees i slot ballot s e = moved _ _ (settled_agrees r.window i slot _ _ (accepted_agrees r.sc s slot ballot e))
      where
        bar : (x : Replica) → moved_accept (optioned n x) slot ≡ optioned n (moved_accept x slot)
        bar x = pick_through (optioned n) (not (eqb slot x.sc.accept_bar)) (λ t. refl) (λ t. refl)

        moved : (o' o : Outcome) → One n o' o → One n (then_moved slot o') (then_moved slot o)
        moved o' o p =
            rw p.same (choose (not (eqb o.answer 0)) (one refl) (one (λ j. record { answer = 0; replica = bar o.replica j; actions = o.actions })))

  module _ (r : Replica) (u : urgent (with_options n r.sc) ≡ urgent r.sc) (d : disallowed (with_options n r.sc) ≡ disallowed r.sc) where
    logged_agrees : (room : ℕ) (e : Done) → kindless r (call_logged e) ≡ true → One n (logged_step (optioned n r) room e) (logged_step r room e)
    unfolding logged_step logged_on
    logged_agrees room e k =
        admitted r room
        (choose (ltb e.slot r.sc.start) (one refl)
        (choose (leb (log_end r) e.slot) (one refl)
        (choose (ltb e.size r.sc.wal_offset) (one refl) (or_kept_agrees r _ _ (done e.entry k)))))
      where
        i : ℕ
        i = place r.sc e.slot

        before : Slot
        before = slot_at r.window i

        logged : Replica
        logged = logged_on r i e.size

        -- the slot keeps its ballots
        keep : (P : Slot → Type 0) → ((offset : ℕ) → P (with_offset before offset)) → P before → P (slot_at logged.window i)
        keep P w p =
            set_each no_slot P r.window.slots i i (logged_slot r.sc.wal_offset before)
            (λ z. pick_both P (eqb before.wal_offset 0 || ltb r.sc.wal_offset before.wal_offset) (w _) p) p

        done : (x : Entry) → kindless_entry r.sc before e.ballot x ≡ true
            → One n (done_on (optioned n logged) i e.slot e.ballot x) (done_on logged i e.slot e.ballot x)
        done PrepareBal t =
            let b = and_both (not (leads r.sc)) (eqb before.ballot e.ballot) t in
            prepared_agrees logged i e.slot e.ballot (slot_at logged.window i) (not-true _ b.0)
            (keep (λ (s : Slot). eqb s.ballot e.ballot ≡ true) (λ o. b.1) b.1)
        done AcceptData t =
            accepted_done_agrees logged i e.slot e.ballot (slot_at logged.window i)
            (keep (λ (s : Slot). (eqb s.ballot e.ballot && eqb s.vote.ballot e.ballot) ≡ true) (λ o. t) t)
        done CommitSlot t = committed_agrees logged e.slot u

    pub calls_agree : (room : ℕ) (c : Call) → kindless r c ≡ true → One n (does (optioned n r) room c) (does r room c)
    calls_agree room (call_prepare peer trigger ballot) k = prepare_agrees r room peer trigger ballot k
    calls_agree room (call_prepare_reply peer m) k = prepare_reply_agrees r room peer m (not-true _ k)
    calls_agree room (call_accept peer slot ballot b) k = accept_step_agrees r room peer slot ballot b (not-true _ k)
    calls_agree room (call_accept_reply peer slot ballot) k = accept_reply_agrees r room peer slot ballot
    calls_agree room (call_commit_notice peer ballot bar) k = notice_agrees r room peer ballot bar
    calls_agree room (call_timeout source) k = timeout_agrees r room source d
    calls_agree room (call_logged e) k = logged_agrees room e k
    calls_agree room (call_offer b) k = offer_agrees r room b (not-true _ k)
    calls_agree room (call_executed slot) k = executed_agrees r room slot
    calls_agree room (call_open_read id count keys) k = open_read_agrees r room id count keys
    calls_agree room (call_read_reply peer id from_leader reply) k = read_reply_agrees r room peer id from_leader reply

-- the kind's bit leaves the other two
pub kind_urgent : (kind : Bool) (sc : Scalars) → urgent (with_options (options_of kind sc.options) sc) ≡ urgent sc
kind_urgent true sc = let e : (sc.options % 4 + 4) % 2 ≡ sc.options % 2 = omega arith in rw e
kind_urgent false sc = let e : (sc.options % 4 + 0) % 2 ≡ sc.options % 2 = omega arith in rw e

pub kind_disallowed : (kind : Bool) (sc : Scalars) → disallowed (with_options (options_of kind sc.options) sc) ≡ disallowed sc
kind_disallowed true sc = let e : (sc.options % 4 + 4) / 2 % 2 ≡ sc.options / 2 % 2 = omega arith in rw e
kind_disallowed false sc = let e : (sc.options % 4 + 0) / 2 % 2 ≡ sc.options / 2 % 2 = omega arith in rw e

-- ── an offer that is taken: by (b) the vote is set in one kind alone, which no answer and no action shows ──
pub record Said (x a : Outcome) : Type 0 where
  pub answer : x.answer ≡ a.answer
  pub actions : x.actions ≡ a.actions

pub offers_agree : (kind : Bool) (r : Replica) (room : ℕ) (b : Batch) → Said (step (of_kind kind r) room (call_offer b)) (step r room (call_offer b))
unfolding offer_step settled noting decide_offer fit fit_scalars
offers_agree kind r room b =
    summed_said _ _
    (branch Said (not (ready r room)) (said refl refl)
    (branch Said (not (is_batch b.id b.count)) (said refl refl)
    (branch Said (not (may_offer r.sc)) (said refl refl)
    (branch Said (leb 64 r.window.len) (said refl refl) (branch Said (overfull r.keys (clean b)) (said refl refl) (said refl refl))))))
  where
    said : {x a : Outcome} → x.answer ≡ a.answer → x.actions ≡ a.actions → Said x a
    said p q = record { answer = p; actions = q }

    summed_said : (x a : Outcome) → Said x a → Said (summed x) (summed a)
    summed_said x a e = record { answer = e.answer; actions = e.actions }
