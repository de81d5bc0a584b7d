-- While self leads at one ballot, what a slot holds changes only by replies that arrive for it: one call of each kind.
use Rattle.std.specs.Prelude.{◌≡◌, Bool, true, false, ◌&&◌, List, [], ◌∷◌, ◌⊎◌, ℕ, ◌+◌, ◌≤◌, ◌<◌, ltb, eqb}
use Rattle.std.proofs.Math.Path.{refl, ap}
use Rattle.std.proofs.Common.{◌∙◌, inl, inr, ltb-false, eqb-true, le-ltb}
use Rattle.std.proofs.Math.Bool.{not}
use native.Mathlib.Omega.{arith}
use Rattle.std.proofs.lemmas.Bool.{not-true}
use Rattle.base.specs.Pick.{pick, pick_cases, decide, clash, and_both}
use Rattle.slots.specs.declared.Vote.{Vote}
use Rattle.slots.specs.declared.Slot.{Slot}
use Rattle.slots.specs.Slots.{prepared_slot, marked_slot, passed_slot, logged_slot, adopted_slot}
use Rattle.decide.specs.declared.Reply.{Reply}
use Rattle.decide.specs.Scalars.{leads, strict}
use Rattle.decide.specs.Decide.{decide_offer, awaits_prepare}
use Rattle.window.specs.Window.{slot_at, put_slot}
use Rattle.window.specs.ByPlace.{at_place, put_keeps, put_elsewhere, sweep_keeps, grown_at}
use Rattle.replica.specs.declared.Replica.{Replica}
use Rattle.replica.specs.declared.Done.{Done}
use Rattle.replica.specs.declared.Entry.{Entry}
use Rattle.replica.specs.declared.Entry.TheVariants.{PrepareBal, AcceptData, CommitSlot as CommitEntry}
use Rattle.replica.specs.Record.{place}
use Rattle.replica.specs.Messages.{is_elsewhere, prepare_book}
use Rattle.replica.specs.Durability.{entry_number, pass_stop, logged_on}
use Rattle.replica.specs.Added.{moved_exec}
use Rattle.replica.specs.Step.{Call, call_prepare, call_prepare_reply, call_accept, call_accept_reply, call_commit_notice, call_timeout, call_logged, call_offer, call_executed, call_open_read, call_read_reply, step}
use Rattle.laws.specs.WaysMessages.{prepare_window, prepare_end, prepare_step_ways, accept_step_ways, accept_reply_step_ways}
use Rattle.laws.specs.WaysReply.{grown_window, heard_slot}
use Rattle.laws.specs.WaysLeadership.{timeout_step_ways, mark_window, mark_from, mark_end, commit_notice_step_ways, Leads-up}
use Rattle.laws.specs.WaysDurability.{completion, logged, logged_at, pass_from}
use Rattle.laws.specs.WaysAdded.{offer_window, offer_step_ways, executed_step_ways}
use Rattle.voting.specs.Keeping.{marked_keeps, passed_keeps, executed_keeps, logged_keeps}
use Rattle.voting.specs.Claims.{Claim, Of, open_read_way, read_reply_way}
use Rattle.voting.specs.Logging.{own_answer, own_book, LogWays, logged_way}
use Rattle.voting.specs.Reached.{Good, follows_none}
use Rattle.voting.specs.Heard.{held_by, held_at, best, arrives, brings, heard, no_offer}

-- ── one reply ──
abbrev pub HearsReply : Replica → Reply → ℕ → Claim
HearsReply r m s a sc w acts = held_by (at_place w (place r.sc s)) ≡ best (held_at r s) (brings r m s a)

pub record Arrived (r : Replica) (m : Reply) (s : ℕ) : Type 0 where
  pub slot : m.slot ≡ s
  pub sent : m.ballot ≡ r.sc.bal_prep_sent
  pub own : is_elsewhere r.sc m ≡ false
  pub booked : (slot_at r.window (place r.sc m.trigger)).leader.present ≡ true
  pub waits : awaits_prepare (slot_at (grown_window r m) (place r.sc m.slot)) m.ballot ≡ true

arrived : (r : Replica) (m : Reply) (s : ℕ) → arrives r m s ≡ true → Arrived r m s
arrived r m s e =
    let a = and_both (eqb m.slot s) _ e in
    let b = and_both (leads r.sc) _ a.1 in
    let c = and_both (eqb m.ballot r.sc.bal_prep_sent) _ b.1 in
    let o = and_both (not (is_elsewhere r.sc m)) _ c.1 in
    let d = and_both (slot_at r.window (place r.sc m.trigger)).leader.present _ o.1 in
    record { slot = eqb-true _ _ a.0; sent = eqb-true _ _ c.0; own = not-true (is_elsewhere r.sc m) o.0; booked = d.0; waits = d.1 }

pub brings_none : (r : Replica) (m : Reply) (s a : ℕ) → (a ≡ 0 → Arrived r m s → ⊥) → brings r m s a ≡ []
brings_none r m s a n =
    pick_cases (λ (l : List Vote). l ≡ []) (arrives r m s && (eqb a 0 && (m.voted && ltb 0 m.vote.ballot)))
    (λ t. let x = and_both (arrives r m s) _ t in absurd (n (eqb-true _ _ (and_both (eqb a 0) _ x.1).0) (arrived r m s x.0)))
    (λ t. refl)

pub weigh_best : (voted : Bool) (held v : Vote) → pick (voted && ltb held.ballot v.ballot) v held ≡ best held (pick (voted && ltb 0 v.ballot) (v ∷ []) [])
weigh_best false held v = refl
weigh_best true held v = go (decide (ltb 0 v.ballot))
  where
    go : (ltb 0 v.ballot ≡ true) ⊎ (ltb 0 v.ballot ≡ false) → pick (ltb held.ballot v.ballot) v held ≡ best held (pick (ltb 0 v.ballot) (v ∷ []) [])
    go (inl t) = rw t
    go (inr t) = rw (t, le-ltb held.ballot v.ballot (let u = ltb-false 0 v.ballot t in omega arith))

pub held_weighed : (m : Reply) (x : Slot)
    → held_by (heard_slot x m) ≡ pick (awaits_prepare x m.ballot && (m.voted && ltb (held_by x).ballot m.vote.ballot)) m.vote (held_by x)
held_weighed m x = go (awaits_prepare x m.ballot && (m.voted && ltb (held_by x).ballot m.vote.ballot))
  where
    go : (t : Bool) → held_by (pick t (adopted_slot m.vote x) x) ≡ pick t m.vote (held_by x)
    go true = refl
    go false = refl

-- ── calls that bring no reply, while self leads on at one ballot ──
abbrev pub HoldsOn : Replica → ℕ → Claim
HoldsOn r s a sc w acts = leads sc ≡ true → sc.bal_prep_sent ≡ r.sc.bal_prep_sent → held_by (at_place w (place r.sc s)) ≡ held_at r s

pub after_held : (r : Replica) (d : Done) (i : ℕ) → held_by (at_place (logged r d).window i) ≡ held_by (at_place r.window i)
unfolding logged_on
after_held r d i =
    put_keeps held_by r.window (place r.sc d.slot) i (logged_slot r.sc.wal_offset (slot_at r.window (place r.sc d.slot)))
    (logged_keeps held_by (λ s n. refl) r.sc.wal_offset (slot_at r.window (place r.sc d.slot)))

-- a completion of another entry
log_holds : (r : Replica) (d : Done) (s : ℕ) → (d.entry ≡ PrepareBal → ⊥) → LogWays (HoldsOn r s) r d
unfolding Of
log_holds r d s n =
    let e = after_held r d (place r.sc s) in
    let put : (x : Slot) → held_by x ≡ held_by (logged_at r d) → held_by (at_place (put_slot (logged r d).window (place r.sc d.slot) x) (place r.sc s)) ≡ held_at r s =
    λ x k. put_keeps held_by (logged r d).window (place r.sc d.slot) (place r.sc s) x k ∙ e in
    record {
      only = λ u x y. e;
      own = λ z o. absurd (n z);
      promised = λ z _ t x y. e;
      acked = λ z _ x y. put _ refl;
      commits = λ z _ k q x y. put _ refl;
      answered = λ z _ t x y. e;
      passes = λ z x y.
          sweep_keeps held_by (λ k v. passed_slot v) (λ k v. passed_keeps held_by (λ s n. refl) v) (pass_from (logged r d)) (pass_stop (logged r d)) (logged r d).window (place r.sc s) ∙ e;
    }

-- a call that brings no reply
abbrev pub no_reply : Call → Bool
no_reply (call_prepare_reply peer m) = false
no_reply (call_logged d) = not (eqb (entry_number d.entry) 1)
no_reply (call_offer b) = true
no_reply (call_accept peer slot ballot b) = true
no_reply (call_prepare peer trigger ballot) = true
no_reply (call_accept_reply peer slot ballot) = true
no_reply (call_commit_notice peer ballot bar) = true
no_reply (call_timeout source) = true
no_reply (call_executed slot) = true
no_reply (call_open_read id count keys) = true
no_reply (call_read_reply peer id from_leader reply) = true

pub step_holds : (r : Replica) (room : ℕ) (c : Call) (s : ℕ) → Good r.sc r.window → leads r.sc ≡ true → r.sc.start ≤ s
    → (place r.sc s < r.window.len) ⊎ (no_offer c ≡ true) → no_reply c ≡ true → Of (HoldsOn r s) (step r room c)
unfolding Of moved_exec decide_offer
step_holds r room c s g l st = go c
  where
    go : (c : Call) → (place r.sc s < r.window.len) ⊎ (no_offer c ≡ true) → no_reply c ≡ true → Of (HoldsOn r s) (step r room c)
    go (call_prepare_reply peer m) h n = absurd (clash n refl)
    go (call_logged d) h n =
        logged_way (HoldsOn r s) r d room (λ a z u x y. refl) (λ f. log_holds r d s (λ e. clash n (ap (λ (x : Entry). not (eqb (entry_number x) 1)) e)))
    go (call_prepare peer trigger ballot) h n =
        prepare_step_ways (Of (HoldsOn r s)) r room peer trigger ballot (λ a z x y. refl)
        (λ f x y. sweep_keeps held_by (λ i v. prepared_slot (strict r.sc) ballot (prepare_book r.sc (prepare_window r trigger) (place r.sc trigger) peer) v) (λ k v. refl) (place r.sc trigger) (prepare_end r trigger) (prepare_window r trigger) (place r.sc s)
        ∙ ap held_by (grown_at r.window (place r.sc trigger + 1) (place r.sc s) (omega (arith, f.low, f.high))))
    go (call_accept peer slot ballot b) h n =
        accept_step_ways (Of (HoldsOn r s)) r room peer slot ballot b (λ a z x y. refl) (λ f x y. absurd (follows_none r peer ballot g f.peer_is f.owned f.seen x))
    go (call_accept_reply peer slot ballot) h n =
        accept_reply_step_ways (Of (HoldsOn r s)) r room peer slot ballot (λ a z x y. refl) (λ f q x y. put_keeps held_by r.window (place r.sc slot) (place r.sc s) _ refl)
        (λ f q x y. put_keeps held_by r.window (place r.sc slot) (place r.sc s) _ refl)
    go (call_commit_notice peer ballot bar) h n =
        commit_notice_step_ways (Of (HoldsOn r s)) r room peer ballot bar (λ a z x y. refl)
        (λ f x y. sweep_keeps held_by (λ i v. marked_slot v) (λ k v. marked_keeps held_by (λ s n. refl) v) (mark_from r) (mark_end r ballot bar) (mark_window r bar) (place r.sc s)
        ∙ ap held_by (grown_at r.window (place r.sc bar) (place r.sc s) (omega (arith, f.high))))
    go (call_timeout source) h n =
        timeout_step_ways (Of (HoldsOn r s)) r room source (λ a z x y. refl)
        (λ b f x y. absurd (let z = g.sent in omega (arith, Leads-up r source b f)))
    go (call_offer b) (inr e) n = absurd (clash e refl)
    go (call_offer b) (inl u) n =
        offer_step_ways (Of (HoldsOn r s)) r room b (λ a z x y. refl)
        (λ f x y. ap held_by (put_elsewhere (offer_window r) r.window.len _ (place r.sc s) (λ z. omega arith)
        ∙ grown_at r.window (r.window.len + 1) (place r.sc s) (omega (arith, f.room))))
    go (call_executed slot) h n =
        executed_step_ways (Of (HoldsOn r s)) r room slot (λ a z x y. refl)
        (λ f x y. put_keeps held_by r.window (place r.sc slot) (place r.sc s) _ (executed_keeps held_by (λ s n. refl) (slot_at r.window (place r.sc slot))))
    go (call_open_read id count keys) h n = open_read_way (HoldsOn r s) r room (λ a acts x y. refl) id count keys
    go (call_read_reply peer id from_leader reply) h n = read_reply_way (HoldsOn r s) r room (λ a acts x y. refl) peer id from_leader reply

-- ── the leader's own, at the end of its PrepareBal entry ──
abbrev pub HearsOwn : Replica → ℕ → ℕ → ℕ → ℕ → Claim
HearsOwn r slot bal size s a sc w acts =
    held_by (at_place w (place r.sc s))
    ≡ best (held_at r s)
    (pick (own_book r (completion PrepareBal slot bal size))
    (brings (logged r (completion PrepareBal slot bal size)) (own_answer r (completion PrepareBal slot bal size)) s a) [])

-- ── one call, of every kind ──
-- a reply that arrives, the leader's own, or a call that brings none
pub heard_ways : (r : Replica) (room s : ℕ) (P : Call → List Vote → Type 0)
    → ((peer : ℕ) (m : Reply) → P (call_prepare_reply peer m) (heard r (record { room = room; call = call_prepare_reply peer m }) s))
    → ((slot bal size : ℕ) → P (call_logged (completion PrepareBal slot bal size)) (heard r (record { room = room; call = call_logged (completion PrepareBal slot bal size) }) s))
    → ((c : Call) → no_reply c ≡ true → P c []) → (c : Call) → P c (heard r (record { room = room; call = c }) s)
heard_ways r room s P came own none (call_prepare_reply peer m) = came peer m
heard_ways r room s P came own none (call_logged d) = entry d.entry
  where
    entry : (e : Entry) → P (call_logged (completion e d.slot d.ballot d.size)) (heard r (record { room = room; call = call_logged (completion e d.slot d.ballot d.size) }) s)
    entry PrepareBal = own d.slot d.ballot d.size
    entry AcceptData = none (call_logged (completion AcceptData d.slot d.ballot d.size)) refl
    entry CommitEntry = none (call_logged (completion CommitEntry d.slot d.ballot d.size)) refl
heard_ways r room s P came own none (call_prepare peer trigger ballot) = none (call_prepare peer trigger ballot) refl
heard_ways r room s P came own none (call_accept peer slot ballot b) = none (call_accept peer slot ballot b) refl
heard_ways r room s P came own none (call_accept_reply peer slot ballot) = none (call_accept_reply peer slot ballot) refl
heard_ways r room s P came own none (call_commit_notice peer ballot bar) = none (call_commit_notice peer ballot bar) refl
heard_ways r room s P came own none (call_timeout source) = none (call_timeout source) refl
heard_ways r room s P came own none (call_offer b) = none (call_offer b) refl
heard_ways r room s P came own none (call_executed slot) = none (call_executed slot) refl
heard_ways r room s P came own none (call_open_read id count keys) = none (call_open_read id count keys) refl
heard_ways r room s P came own none (call_read_reply peer id from_leader reply) = none (call_read_reply peer id from_leader reply) refl
