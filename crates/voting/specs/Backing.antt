-- Who stands behind the sets of a leader's bookkeeping. A slot is at the leader's ballot where its ballot is bal_prep_sent; each member in such a
-- slot's prepare_acks or accept_acks answered at this ballot: its reply arrived, or it is self and its entry is durable.
use Rattle.std.specs.Prelude.{◌≡◌, true, false, List, [], ◌∷◌, ◌⊎◌, ℕ, ◌+◌, ◌≤◌, ◌<◌, ltb, leb, eqb}
use Rattle.std.proofs.Math.Path.{refl}
use Rattle.std.proofs.Common.{sym, ap, subst, ◌∙◌, inl, inr, arith, ltb-true, ltb-false, eqb-true}
use Rattle.base.specs.Pick.{pick_both, decide, clash, or_cases}
use Rattle.members.specs.Sets.{has, insert}
use Rattle.members.specs.Laws.{has_none, has_member, has-insert, insert_full, insert_past}
use Rattle.batch.specs.declared.Batch.{Batch}
use Rattle.slots.specs.declared.Slot.{Slot}
use Rattle.slots.specs.Slots.{null_slot, new_book, redone_slot, preparing, committed, executed, with_state, with_leader, with_external, entered_slot, marked_slot, passed_slot, logged_slot, acknowledged_slot}
use Rattle.decide.specs.declared.Reply.{Reply}
use Rattle.decide.specs.Scalars.{leads, strict}
use Rattle.decide.specs.Decide.{decide_offer}
use Rattle.window.specs.declared.Window.{Window}
use Rattle.window.specs.Window.{slot_at, put_slot, first_open}
use Rattle.window.specs.Places.{size, filled_long, filled_most}
use Rattle.window.specs.ByPlace.{at_place, at_here, put_cases, put_keeps, sweep_cases, sweep_keeps, grown_at}
use Rattle.replica.specs.declared.Replica.{Replica}
use Rattle.replica.specs.declared.Done.{Done}
use Rattle.replica.specs.declared.Entry.{Entry}
use Rattle.replica.specs.declared.Entry.TheVariants.{PrepareBal, AcceptData}
use Rattle.replica.specs.Record.{place, number}
use Rattle.replica.specs.Messages.{clean_reply}
use Rattle.replica.specs.Durability.{pass_stop, logged_on}
use Rattle.replica.specs.Added.{moved_exec}
use Rattle.replica.specs.Step.{Call, call_prepare, call_prepare_reply, call_accept, call_accept_reply, call_commit_notice, call_timeout, call_logged, call_offer, call_executed, call_open_read, call_read_reply, step}
use Rattle.laws.specs.OfFit.{fit_facts}
use Rattle.laws.specs.WaysMessages.{Replies, prepare_step_ways, accept_step_ways, accept_reply_step_ways, replied_slot}
use Rattle.laws.specs.WaysReply.{grown_window, reply_window, reply_slot, heard_window, counted_window, trigger_slot, Answers, reply_place}
use Rattle.laws.specs.WaysLeadership.{lead_window, lead_trigger, lead_end, lead_from, led, Leads, timeout_step_ways, mark_window, mark_from, mark_end, commit_notice_step_ways, Leads-up}
use Rattle.laws.specs.WaysDurability.{completion, logged, Logs, pass_from}
use Rattle.laws.specs.WaysAdded.{offer_window, Offers, offered, offer_step_ways, executed_step_ways}
use Rattle.laws.specs.Appended.{appended_cases, appended_low}
use Rattle.voting.specs.Windows.{Whole, Whole-put}
use Rattle.voting.specs.Keeping.{entered_keeps, marked_keeps, passed_keeps, executed_keeps, logged_keeps, heard_keeps}
use Rattle.voting.specs.History.{Lent, told, play}
use Rattle.voting.specs.Claims.{Claim, Of, open_read_way, read_reply_way}
use Rattle.voting.specs.Replying.{entered_window, ReplyWays, prepare_reply_way, map_reply}
use Rattle.voting.specs.Logging.{own_answer, LogWays, logged_way}
use Rattle.voting.specs.Reached.{Good, Good-step, follows_none}

-- ── how a member gets into a set of the slot at place i, by a call at r ──
-- 2.2, phase 2 (a): "a response .. from a majority": p's PrepareReply at bal_prep_sent, for the slot as its trigger; or self's own PrepareBal entry
pub data PrepareAck (r : Replica) (i p : ℕ) : Call → Type 0 where
  prepare_came : (m : Reply) → m.ballot ≡ r.sc.bal_prep_sent → m.trigger ≡ number r.sc i → PrepareAck r i p (call_prepare_reply p m)
  prepare_own : (slot bal offset : ℕ) → p ≡ r.sc.id → PrepareAck r i p (call_logged (completion PrepareBal slot bal offset))

-- p's AcceptReply for the slot at bal_prep_sent; or self's own AcceptData entry for it
pub data AcceptAck (r : Replica) (i p : ℕ) : Call → Type 0 where
  accept_came : (slot ballot : ℕ) → ballot ≡ r.sc.bal_prep_sent → slot ≡ number r.sc i → AcceptAck r i p (call_accept_reply p slot ballot)
  accept_own : (slot bal offset : ℕ) → p ≡ r.sc.id → slot ≡ number r.sc i → AcceptAck r i p (call_logged (completion AcceptData slot bal offset))

-- ── what is looked at ──
pub record Standing : Type 0 where
  pub ballot : ℕ
  pub prepare : ℕ
  pub accept : ℕ

abbrev pub standing : Slot → Standing
standing s = record { ballot = s.ballot; prepare = s.leader.prepare_acks; accept = s.leader.accept_acks }

abbrev pub stands : Replica → ℕ → Standing
stands r i = standing (at_place r.window i)

-- self led at the ballot `sent` before the call, and the slot was at it
pub record Stood (r : Replica) (i sent : ℕ) : Type 0 where
  pub leading : leads r.sc ≡ true
  pub same : r.sc.bal_prep_sent ≡ sent
  pub at : (stands r i).ballot ≡ sent

-- each member in a set of x was in it before the call, or came by it (P into prepare_acks, A into accept_acks)
pub record Backed (r : Replica) (P A : ℕ → Type 0) (i sent : ℕ) (x : Standing) : Type 0 where
  pub prepare : (p : ℕ) → has x.prepare p ≡ true → (Stood r i sent × (has (stands r i).prepare p ≡ true)) ⊎ ((r.sc.bal_prep_sent ≡ sent) × P p)
  pub accept : (p : ℕ) → has x.accept p ≡ true → (Stood r i sent × (has (stands r i).accept p ≡ true)) ⊎ ((r.sc.bal_prep_sent ≡ sent) × A p)

abbrev StaysBacked : Replica → (ℕ → Type 0) → (ℕ → Type 0) → ℕ → Claim
StaysBacked r P A i a sc w acts = leads sc ≡ true → (at_place w i).ballot ≡ sc.bal_prep_sent → Backed r P A i sc.bal_prep_sent (standing (at_place w i))

-- ── the ways in which a set can change ──
pub insert_or : (set p q : ℕ) → has (insert set p) q ≡ true → (q ≡ p) ⊎ (has set q ≡ true)
insert_or set p q h = go (decide (ltb 511 set)) (decide (ltb 8 p))
  where
    go : (ltb 511 set ≡ true) ⊎ (ltb 511 set ≡ false) → (ltb 8 p ≡ true) ⊎ (ltb 8 p ≡ false) → (q ≡ p) ⊎ (has set q ≡ true)
    go (inl a) b = inr (subst (λ (x : ℕ). has x q ≡ true) (insert_full set p (ltb-true 511 set a)) h)
    go (inr a) (inl b) = inr (subst (λ (x : ℕ). has x q ≡ true) (insert_past set p (ltb-true 8 p b)) h)
    go (inr a) (inr b) =
        let u = ltb-false 511 set a in
        let v = ltb-false 8 p b in
        let n = has_member (insert set p) q h in
        cases (or_cases (eqb q p) (has set q) (sym (has-insert set p q (omega arith) (omega arith) n) ∙ h))
      where
        cases : (eqb q p ≡ true) ⊎ (has set q ≡ true) → (q ≡ p) ⊎ (has set q ≡ true)
        cases (inl e) = inl (eqb-true q p e)
        cases (inr e) = inr e

module _ (r : Replica) (P A : ℕ → Type 0) (i : ℕ) where
  -- nothing changes while self leads on
  stays : (x : Standing) → x ≡ stands r i → leads r.sc ≡ true → x.ballot ≡ r.sc.bal_prep_sent → Backed r P A i r.sc.bal_prep_sent x
  stays x e l b =
      let s : Stood r i r.sc.bal_prep_sent = record { leading = l; same = refl; at = sym (ap (λ (y : Standing). y.ballot) e) ∙ b } in
      record {
        prepare = λ p h. inl (s, subst (λ (y : Standing). has y.prepare p ≡ true) e h);
        accept = λ p h. inl (s, subst (λ (y : Standing). has y.accept p ≡ true) e h);
      }

  -- nobody is in the sets
  starts : (sent : ℕ) (x : Standing) → x.prepare ≡ 0 → x.accept ≡ 0 → Backed r P A i sent x
  starts sent x e f =
      record {
        prepare = λ p h. absurd (clash (subst (λ (y : ℕ). has y p ≡ true) e h) (has_none p));
        accept = λ p h. absurd (clash (subst (λ (y : ℕ). has y p ≡ true) f h) (has_none p));
      }

  module _ (sent : ℕ) (x : Standing) (k : Backed r P A i sent x) (q : ℕ) where
    counts : r.sc.bal_prep_sent ≡ sent → P q → Backed r P A i sent (record { ballot = x.ballot; prepare = insert x.prepare q; accept = x.accept })
    counts same new = record { prepare = λ p h. go p (insert_or x.prepare q p h); accept = k.accept }
      where
        go : (p : ℕ) → (p ≡ q) ⊎ (has x.prepare p ≡ true) → (Stood r i sent × (has (stands r i).prepare p ≡ true)) ⊎ ((r.sc.bal_prep_sent ≡ sent) × P p)
        go p (inl e) = inr (same, subst P (sym e) new)
        go p (inr h) = k.prepare p h

    acknowledges : r.sc.bal_prep_sent ≡ sent → A q → Backed r P A i sent (record { ballot = x.ballot; prepare = x.prepare; accept = insert x.accept q })
    acknowledges same new = record { prepare = k.prepare; accept = λ p h. go p (insert_or x.accept q p h) }
      where
        go : (p : ℕ) → (p ≡ q) ⊎ (has x.accept p ≡ true) → (Stood r i sent × (has (stands r i).accept p ≡ true)) ⊎ ((r.sc.bal_prep_sent ≡ sent) × A p)
        go p (inl e) = inr (same, subst A (sym e) new)
        go p (inr h) = k.accept p h

  -- what stands at the ballot is backed, so is what is equal to it
  also : (sent : ℕ) (x y : Standing) → x ≡ y → (y.ballot ≡ sent → Backed r P A i sent y) → x.ballot ≡ sent → Backed r P A i sent x
  also sent x y e f b = subst (Backed r P A i sent) (sym e) (f (sym (ap (λ (z : Standing). z.ballot) e) ∙ b))

-- ── a PrepareReply, also a leader's own ──
pub heard_same : (r : Replica) (peer : ℕ) (m : Reply) (i : ℕ) → standing (at_place (heard_window r peer m) i) ≡ standing (at_place (reply_window r peer m) i)
heard_same r peer m i = put_keeps standing (reply_window r peer m) (place r.sc m.slot) i _ (heard_keeps standing (reply_slot r peer m) m refl)

pub entered_same : (r : Replica) (peer : ℕ) (m : Reply) (i : ℕ) → standing (at_place (entered_window r peer m) i) ≡ standing (at_place (counted_window r peer m) i)
entered_same r peer m i =
    sweep_keeps standing (λ k s. entered_slot (strict r.sc) m.ballot s) (λ k s. entered_keeps standing (λ s n. refl) (strict r.sc) m.ballot (λ s. refl) s) (place r.sc m.trigger) (counted_window r peer m).len (counted_window r peer m) i

-- a note is none of these
pub noted_same : (r : Replica) (peer : ℕ) (m : Reply) (i : ℕ) → standing (at_place (reply_window r peer m) i) ≡ standing (at_place (grown_window r m) i)
noted_same r peer m i = put_keeps standing (grown_window r m) (place r.sc m.slot) i _ refl

-- the trigger slot is in the log: what it has before the member is counted is what it had
pub trigger_same : (r : Replica) (peer : ℕ) (m : Reply) → place r.sc m.trigger < r.window.len → Whole r.window → Answers r m
    → standing (trigger_slot r peer m) ≡ stands r (place r.sc m.trigger)
trigger_same r peer m l h f =
    let j : ℕ = place r.sc m.trigger in
    let wide = appended_low r (place r.sc m.slot) j in
    ap standing (sym (at_here (heard_window r peer m) j (omega arith))) ∙ heard_same r peer m j ∙ noted_same r peer m j
    ∙ appended_cases (λ (x : Slot). standing x ≡ stands r j) r (place r.sc m.slot) j j (let u = reply_place r m f in omega arith) (λ z. absurd (omega arith)) refl

module _ (r : Replica) (peer : ℕ) (m : Reply) (P A : ℕ → Type 0) (i : ℕ) (h : Whole r.window) (by : Answers r m → i ≡ place r.sc m.trigger → P peer) where
  abbrev sent : ℕ
  sent = r.sc.bal_prep_sent

  abbrev OfWindow : Window → Type 0
  OfWindow w = (at_place w i).ballot ≡ sent → Backed r P A i sent (standing (at_place w i))

  wide : Answers r m → OfWindow (reply_window r peer m)
  wide f =
      also r P A i sent _ _ (noted_same r peer m i)
      (appended_cases (λ (x : Slot). x.ballot ≡ sent → Backed r P A i sent (standing x)) r (place r.sc m.slot) (place r.sc m.trigger) i
      (let u = reply_place r m f in omega arith) (λ l b. starts r P A i sent _ refl refl) (λ b. stays r P A i _ refl f.leading b))

  heard_at : Answers r m → OfWindow (heard_window r peer m)
  heard_at f = also r P A i sent _ _ (heard_same r peer m i) (wide f)

  counted_at : Answers r m → OfWindow (counted_window r peer m)
  counted_at f =
      put_cases (heard_window r peer m) (place r.sc m.trigger) _ (λ (x : Slot). x.ballot ≡ sent → Backed r P A i sent (standing x)) i
      (λ e l b.
      let same : standing (at_place (heard_window r peer m) i) ≡ standing (trigger_slot r peer m) =
      ap (λ (k : ℕ). standing (at_place (heard_window r peer m) k)) e ∙ ap standing (at_here (heard_window r peer m) (place r.sc m.trigger) (omega arith)) in
      counts r P A i sent (standing (trigger_slot r peer m)) (also r P A i sent _ _ (sym same) (heard_at f) b) peer refl (by f e))
      (λ out b. heard_at f b)

  reply_backed : ReplyWays (StaysBacked r P A i) r peer m
  reply_backed =
      record {
        passed = λ f t l b. wide f b;
        heard = λ f t l b. heard_at f b;
        counted = λ f t l b. counted_at f b;
        entered = λ f t q l b. also r P A i sent _ _ (entered_same r peer m i) (counted_at f) b;
      }

-- ── the other calls ──
-- a step-up: nobody is in the sets of a slot that has the new ballot
redone_fresh : (r : Replica) (P A : ℕ → Type 0) (i b trigger endprep : ℕ) (s : Slot) → s.ballot < b
    → (redone_slot b (new_book trigger endprep) s).ballot ≡ b → Backed r P A i b (standing (redone_slot b (new_book trigger endprep) s))
redone_fresh r P A i b trigger endprep s l =
    pick_both (λ (x : Slot). x.ballot ≡ b → Backed r P A i b (standing x)) (leb executed s.status) {a = s} (λ e. absurd (omega arith))
    (pick_both (λ (x : Slot). x.ballot ≡ b → Backed r P A i b (standing x)) (leb committed s.status)
    {a = with_external s}
    {b = with_leader (with_state (with_external s) b preparing) (new_book trigger endprep)}
    (λ e. absurd (omega arith)) (λ e. starts r P A i b _ refl refl))

led-Backed : (r : Replica) (P A : ℕ → Type 0) (i source b : ℕ) → Good r.sc r.window → Leads r source b → (at_place (led r b).replica.window i).ballot ≡ b
    → Backed r P A i b (standing (at_place (led r b).replica.window i))
led-Backed r P A i source b g f =
    let up = Leads-up r source b f in
    let at = grown_at r.window (first_open r.window + 1) i (omega (arith, f.room)) in
    let low : (at_place (lead_window r) i).ballot < b = omega (arith, ap (λ (x : Slot). x.ballot) at, g.slots i) in
    let long : (lead_window r).len ≤ size (lead_window r) =
    omega (arith, filled_long null_slot r.window (first_open r.window + 1), g.whole, filled_most null_slot r.window (first_open r.window + 1) 64 (fit_facts r f.fits).numbers.window (omega (arith, f.room))) in
    sweep_cases (λ k x. redone_slot b (new_book (lead_trigger r) (lead_end r)) x) (lead_from r) (lead_window r).len (lead_window r)
    (λ (x : Slot). x.ballot ≡ b → Backed r P A i b (standing x)) i long
    (λ x y z e. redone_fresh r P A i b (lead_trigger r) (lead_end r) (at_place (lead_window r) i) low e) (λ out e. absurd (omega arith))

-- an acknowledgement, at place k of a window w in which the slot at place i stands as before
acked_at : (r : Replica) (P A : ℕ → Type 0) (i : ℕ) (w : Window) (k peer : ℕ) (x : Slot) → standing (at_place w i) ≡ stands r i → leads r.sc ≡ true
    → (i ≡ k → (slot_at w k).ballot ≡ r.sc.bal_prep_sent → A peer)
    → standing x ≡ standing (acknowledged_slot peer (slot_at w k)) → (at_place (put_slot w k x) i).ballot ≡ r.sc.bal_prep_sent
    → Backed r P A i r.sc.bal_prep_sent (standing (at_place (put_slot w k x) i))
acked_at r P A i w k peer x same l new e =
    put_cases w k x (λ (y : Slot). y.ballot ≡ r.sc.bal_prep_sent → Backed r P A i r.sc.bal_prep_sent (standing y)) i
    (λ z u b.
    let here : standing (slot_at w k) ≡ stands r i = ap standing (sym (at_here w k (omega arith))) ∙ ap (λ (j : ℕ). standing (at_place w j)) (sym z) ∙ same in
    subst (Backed r P A i r.sc.bal_prep_sent) (sym e)
    (acknowledges r P A i r.sc.bal_prep_sent (standing (slot_at w k))
    (stays r P A i (standing (slot_at w k)) here l (sym (ap (λ (y : Standing). y.ballot) e) ∙ b)) peer refl (new z (sym (ap (λ (y : Standing). y.ballot) e) ∙ b))))
    (λ out b. stays r P A i _ same l b)

offer_backed : (r : Replica) (P A : ℕ → Type 0) (i : ℕ) (b : Batch) → Whole r.window → Offers r b → leads r.sc ≡ true
    → (at_place (offered r b).replica.window i).ballot ≡ r.sc.bal_prep_sent → Backed r P A i r.sc.bal_prep_sent (standing (at_place (offered r b).replica.window i))
unfolding decide_offer
offer_backed r P A i b h f l =
    put_cases (offer_window r) r.window.len _ (λ (x : Slot). x.ballot ≡ r.sc.bal_prep_sent → Backed r P A i r.sc.bal_prep_sent (standing x)) i
    (λ z u q. starts r P A i _ _ refl refl)
    (λ out q. also r P A i _ _ _ (ap standing (grown_at r.window (r.window.len + 1) i (omega (arith, f.room)))) (λ q. stays r P A i _ refl l q) q)

pub after_same : (r : Replica) (d : Done) (i : ℕ) → standing (at_place (logged r d).window i) ≡ stands r i
unfolding logged_on
after_same r d i =
    put_keeps standing r.window (place r.sc d.slot) i (logged_slot r.sc.wal_offset (slot_at r.window (place r.sc d.slot)))
    (logged_keeps standing (λ s n. refl) r.sc.wal_offset (slot_at r.window (place r.sc d.slot)))

-- what is backed after the completion's offsets was backed before
before_offsets : (r : Replica) (d : Done) (P A : ℕ → Type 0) (i sent : ℕ) (x : Standing) → Backed (logged r d) P A i sent x → Backed r P A i sent x
unfolding logged_on
before_offsets r d P A i sent x k = record { prepare = λ p h. go p (k.prepare p h); accept = λ p h. back p (k.accept p h) }
  where
    stood : Stood (logged r d) i sent → Stood r i sent
    stood s = record { leading = s.leading; same = s.same; at = sym (ap (λ (y : Standing). y.ballot) (after_same r d i)) ∙ s.at }

    go : (p : ℕ) → (Stood (logged r d) i sent × (has (stands (logged r d) i).prepare p ≡ true)) ⊎ ((r.sc.bal_prep_sent ≡ sent) × P p)
        → (Stood r i sent × (has (stands r i).prepare p ≡ true)) ⊎ ((r.sc.bal_prep_sent ≡ sent) × P p)
    go p (inl (s, h)) = inl (stood s, subst (λ (y : Standing). has y.prepare p ≡ true) (after_same r d i) h)
    go p (inr n) = inr n

    back : (p : ℕ) → (Stood (logged r d) i sent × (has (stands (logged r d) i).accept p ≡ true)) ⊎ ((r.sc.bal_prep_sent ≡ sent) × A p)
        → (Stood r i sent × (has (stands r i).accept p ≡ true)) ⊎ ((r.sc.bal_prep_sent ≡ sent) × A p)
    back p (inl (s, h)) = inl (stood s, subst (λ (y : Standing). has y.accept p ≡ true) (after_same r d i) h)
    back p (inr n) = inr n

module _ (r : Replica) (d : Done) (i : ℕ) (P A : ℕ → Type 0) (g : Good r.sc r.window) (f : Logs r d) (prep : d.entry ≡ PrepareBal → P r.sc.id)
    (acc : d.entry ≡ AcceptData → d.slot ≡ number r.sc i → A r.sc.id) where
  log_backed : LogWays (StaysBacked r P A i) r d
  unfolding Of logged_on
  log_backed =
      let e = after_same r d i in
      let low : i ≡ place r.sc d.slot → d.slot ≡ number r.sc i = λ z. (let x = f.low in omega arith) in
      record {
        only = λ u l b. stays r P A i _ e l b;
        own = λ z o.
            map_reply (StaysBacked (logged r d) P A i) (StaysBacked r P A i) (logged r d) r.sc.id (own_answer r d)
            (λ a sc w acts h l b. before_offsets r d P A i _ _ (h l b))
            (reply_backed (logged r d) r.sc.id (own_answer r d) P A i (Whole-put r.window (place r.sc d.slot) _ g.whole) (λ _ _. prep z));
        promised = λ z _ n l b. stays r P A i _ e l b;
        acked = λ z _ l b. acked_at r P A i (logged r d).window (place r.sc d.slot) r.sc.id _ e l (λ q _. acc z (low q)) refl b;
        commits = λ z _ a q l b. acked_at r P A i (logged r d).window (place r.sc d.slot) r.sc.id _ e l (λ q _. acc z (low q)) refl b;
        answered = λ z _ n l b. stays r P A i _ e l b;
        passes = λ z l b.
            stays r P A i _
            (sweep_keeps standing (λ k v. passed_slot v) (λ k v. passed_keeps standing (λ s n. refl) v) (pass_from (logged r d)) (pass_stop (logged r d)) (logged r d).window i ∙ e) l b;
      }

prepare_own_of : (r : Replica) (i : ℕ) (d : Done) → d.entry ≡ PrepareBal → PrepareAck r i r.sc.id (call_logged d)
prepare_own_of r i d e =
    subst (λ (x : Entry). PrepareAck r i r.sc.id (call_logged (completion x d.slot d.ballot d.size))) (sym e) (prepare_own d.slot d.ballot d.size refl)

accept_own_of : (r : Replica) (i : ℕ) (d : Done) → d.entry ≡ AcceptData → d.slot ≡ number r.sc i → AcceptAck r i r.sc.id (call_logged d)
accept_own_of r i d e s =
    subst (λ (x : Entry). AcceptAck r i r.sc.id (call_logged (completion x d.slot d.ballot d.size))) (sym e) (accept_own d.slot d.ballot d.size refl s)

step_backed : (r : Replica) (room : ℕ) (c : Call) (i : ℕ) → Good r.sc r.window → Of (StaysBacked r (λ p. PrepareAck r i p c) (λ p. AcceptAck r i p c) i) (step r room c)
unfolding Of moved_exec decide_offer
step_backed r room c i g = go c
  where
    go : (c : Call) → Of (StaysBacked r (λ p. PrepareAck r i p c) (λ p. AcceptAck r i p c) i) (step r room c)
    go (call_prepare peer trigger ballot) =
        prepare_step_ways (Of (StaysBacked r _ _ i)) r room peer trigger ballot (λ a z l b. stays r _ _ i _ refl l b)
        (λ f l b. absurd (follows_none r peer ballot g f.peer_is f.owned f.seen l))
    go (call_prepare_reply peer m) =
        prepare_reply_way (StaysBacked r (λ p. PrepareAck r i p (call_prepare_reply peer m)) (λ p. AcceptAck r i p (call_prepare_reply peer m)) i) r room peer m (λ a z u l b. stays r _ _ i _ refl l b)
        (λ f. reply_backed r peer (clean_reply m) _ _ i g.whole (λ q e. prepare_came m q.sent (let x = q.low in omega arith)))
    go (call_accept peer slot ballot b) =
        accept_step_ways (Of (StaysBacked r _ _ i)) r room peer slot ballot b (λ a z l b. stays r _ _ i _ refl l b)
        (λ f l b. absurd (follows_none r peer ballot g f.peer_is f.owned f.seen l))
    go (call_accept_reply peer slot ballot) =
        accept_reply_step_ways (Of (StaysBacked r _ _ i)) r room peer slot ballot (λ a z l b. stays r _ _ i _ refl l b)
        (λ f q l b. acked_at r _ _ i r.window (place r.sc slot) peer _ refl l (λ e u. came f e u) refl b)
        (λ f q l b. acked_at r _ _ i r.window (place r.sc slot) peer _ refl l (λ e u. came f e u) refl b)
      where
        came : Replies r peer slot ballot → i ≡ place r.sc slot → (replied_slot r slot).ballot ≡ r.sc.bal_prep_sent → AcceptAck r i peer (call_accept_reply peer slot ballot)
        came f e u = accept_came slot ballot (sym f.counts.even ∙ u) (let x = f.low in omega arith)
    go (call_commit_notice peer ballot bar) =
        commit_notice_step_ways (Of (StaysBacked r _ _ i)) r room peer ballot bar (λ a z l b. stays r _ _ i _ refl l b)
        (λ f l b. stays r _ _ i _
        (sweep_keeps standing (λ k v. marked_slot v) (λ k v. marked_keeps standing (λ s n. refl) v) (mark_from r) (mark_end r ballot bar) (mark_window r bar) i
        ∙ ap standing (grown_at r.window (place r.sc bar) i (omega (arith, f.high)))) l b)
    go (call_timeout source) =
        timeout_step_ways (Of (StaysBacked r _ _ i)) r room source (λ a z l b. stays r _ _ i _ refl l b) (λ b f l e. led-Backed r _ _ i source b g f e)
    go (call_logged d) =
        logged_way (StaysBacked r (λ p. PrepareAck r i p (call_logged d)) (λ p. AcceptAck r i p (call_logged d)) i) r d room (λ a z u l b. stays r _ _ i _ refl l b)
        (λ f. log_backed r d i _ _ g f (λ e. prepare_own_of r i d e) (λ e s. accept_own_of r i d e s))
    go (call_offer b) = offer_step_ways (Of (StaysBacked r _ _ i)) r room b (λ a z l b. stays r _ _ i _ refl l b) (λ f l e. offer_backed r _ _ i b g.whole f l e)
    go (call_executed slot) =
        executed_step_ways (Of (StaysBacked r _ _ i)) r room slot (λ a z l b. stays r _ _ i _ refl l b)
        (λ f l b. stays r _ _ i _ (put_keeps standing r.window (place r.sc slot) i _ (executed_keeps standing (λ s n. refl) (slot_at r.window (place r.sc slot)))) l b)
    go (call_open_read id count keys) = open_read_way (StaysBacked r _ _ i) r room (λ a acts l b. stays r _ _ i _ refl l b) id count keys
    go (call_read_reply peer id from_leader reply) = read_reply_way (StaysBacked r _ _ i) r room (λ a acts l b. stays r _ _ i _ refl l b) peer id from_leader reply

-- one call, on every replica reached from a new one: where self leads after it and the slot at place i is at its ballot
pub acks_step : (r : Replica) (room : ℕ) (c : Call) (i : ℕ) → Good r.sc r.window → leads (step r room c).replica.sc ≡ true
    → (stands (step r room c).replica i).ballot ≡ (step r room c).replica.sc.bal_prep_sent
    → Backed r (λ p. PrepareAck r i p c) (λ p. AcceptAck r i p c) i (step r room c).replica.sc.bal_prep_sent (stands (step r room c).replica i)
unfolding Of
acks_step r room c i g = step_backed r room c i g

-- ── over a history ──
-- P holds of a call of the history, made where bal_prep_sent is this ballot
abbrev pub Once : (Replica → Call → Type 0) → ℕ → Replica → List Lent → Type 0
Once P ballot r [] = ⊥
Once P ballot r (c ∷ h) = ((r.sc.bal_prep_sent ≡ ballot) × P r c.call) ⊎ Once P ballot (told r c).replica h

-- in a set at the end: in it at the start, or by a call of the history
abbrev pub HeldOr : (Standing → ℕ) → (Replica → Call → Type 0) → ℕ → ℕ → Replica → List Lent → ℕ → Type 0
HeldOr set By i p r h ballot = (Stood r i ballot × (has (set (stands r i)) p ≡ true)) ⊎ Once By ballot r h

module _ (set : Standing → ℕ) (By : Replica → Call → Type 0) (i p : ℕ)
    (one : (r : Replica) (c : Lent) (b : ℕ) → Good r.sc r.window → Stood (told r c).replica i b → has (set (stands (told r c).replica i)) p ≡ true
    → (Stood r i b × (has (set (stands r i)) p ≡ true)) ⊎ ((r.sc.bal_prep_sent ≡ b) × By r c.call)) where
  over_history : (r : Replica) (h : List Lent) (b : ℕ) → Good r.sc r.window → Stood (play r h) i b → has (set (stands (play r h) i)) p ≡ true → HeldOr set By i p r h b
  over_history r [] b g s k = inl (s, k)
  over_history r (c ∷ h) b g s k = go (over_history (told r c).replica h b (Good-step r c g) s k)
    where
      first : (Stood r i b × (has (set (stands r i)) p ≡ true)) ⊎ ((r.sc.bal_prep_sent ≡ b) × By r c.call) → HeldOr set By i p r (c ∷ h) b
      first (inl x) = inl x
      first (inr x) = inr (inl x)

      go : HeldOr set By i p (told r c).replica h b → HeldOr set By i p r (c ∷ h) b
      go (inl (q, x)) = first (one r c b g q x)
      go (inr x) = inr (inr x)

Backed-step : (r : Replica) (c : Lent) (i b : ℕ) → Good r.sc r.window → Stood (told r c).replica i b
    → Backed r (λ p. PrepareAck r i p c.call) (λ p. AcceptAck r i p c.call) i b (stands (told r c).replica i)
Backed-step r c i b g q =
    subst (λ (x : ℕ). Backed r (λ p. PrepareAck r i p c.call) (λ p. AcceptAck r i p c.call) i x (stands (told r c).replica i)) q.same
    (acks_step r c.room c.call i g q.leading (q.at ∙ sym q.same))

-- 2.2, phase 2 (a): over any history from a replica reached from a new one, each member in prepare_acks of a slot at the leader's ballot was in it
-- at the start, or has answered the Prepare at this ballot since, with this slot as its trigger (self by its own entry)
pub prepare_backed : (r : Replica) (h : List Lent) (i p b : ℕ) → Good r.sc r.window → Stood (play r h) i b → has (stands (play r h) i).prepare p ≡ true
    → HeldOr (λ x. x.prepare) (λ q c. PrepareAck q i p c) i p r h b
prepare_backed r h i p b = over_history (λ x. x.prepare) (λ q c. PrepareAck q i p c) i p (λ q c b g s k. (Backed-step q c i b g s).prepare p k) r h b

-- 2.2: and each in its accept_acks has sent an AcceptReply for this slot at this ballot (self by its own entry)
pub accept_backed : (r : Replica) (h : List Lent) (i p b : ℕ) → Good r.sc r.window → Stood (play r h) i b → has (stands (play r h) i).accept p ≡ true
    → HeldOr (λ x. x.accept) (λ q c. AcceptAck q i p c) i p r h b
accept_backed r h i p b = over_history (λ x. x.accept) (λ q c. AcceptAck q i p c) i p (λ q c b g s k. (Backed-step q c i b g s).accept p k) r h b
