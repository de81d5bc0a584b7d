-- The laws of the first tests: as one number they are a call's first test, and 0 tells what the call may count on.
use Rattle.std.specs.Prelude.{◌≡◌, Bool, not, ◌&&◌, ◌||◌, ℕ, ◌+◌, ◌≤◌, ◌<◌, ltb, leb, eqb}
use Rattle.std.proofs.Math.Path.{refl, sym, ap}
use Rattle.std.proofs.Common.{◌∙◌}
use Rattle.std.proofs.Math.Bool.{true, false, and-false}
use native.Mathlib.Omega.{arith}
use borrow.Author.Tests.{not-true, not-false, lt-ltb, le-ltb, le-leb, lt-leb, eq-eqb, ne_eqb, leb-true, ltb-true, eqb-true, eqb-false}
use Rattle.base.specs.Pick.{pick, pick_zero, and_left, and_both, and_make, clash}
use Rattle.members.specs.Groups.{group_size}
use Rattle.members.specs.Ballots.{owns}
use Rattle.members.specs.Laws.{group_bounds}
use Rattle.tally.specs.Open.{fit_reads}
use Rattle.decide.specs.Scalars.{is_member, is_peer, fit_scalars}
use Rattle.window.specs.Window.{fit_slots}
use Rattle.window.specs.Summary.{walk}
use Rattle.window.specs.SummaryLaws.{Sums}
use Rattle.replica.specs.declared.Replica.{Replica}
use Rattle.replica.specs.Record.{Outcome, kept}
use Rattle.replica.specs.Fit.{fit, roomy, sums, usable, ready, unready}
use Rattle.replica.specs.Admit.{ready_answer, from_member, from_peer, from_owner}

-- ── one number is tested first ──

-- the number of the first test that fails: 14 where the record is fit, else 1
abbrev first : Bool → ℕ
first t = pick t 14 1

-- up to three refusals in a row are one, by the first that holds; the first has one of two numbers
three : (t a b c : Bool) (r : Replica) (o : Outcome)
    → pick a (kept (first t) r) (pick b (kept 2 r) (pick c (kept 3 r) o))
    ≡ pick (not (eqb (pick a (first t) (pick b 2 (pick c 3 0))) 0)) (kept (pick a (first t) (pick b 2 (pick c 3 0))) r) o
three true true b c r o = refl
three false true b c r o = refl
three t false true c r o = refl
three t false false true r o = refl
three t false false false r o = refl

two : (t a b : Bool) (r : Replica) (o : Outcome)
    → pick a (kept (first t) r) (pick b (kept 2 r) o)
    ≡ pick (not (eqb (pick a (first t) (pick b 2 0)) 0)) (kept (pick a (first t) (pick b 2 0)) r) o
two true true b r o = refl
two false true b r o = refl
two t false true r o = refl
two t false false r o = refl

only : (t a : Bool) (r : Replica) (o : Outcome)
    → pick a (kept (first t) r) o ≡ pick (not (eqb (pick a (first t) 0) 0)) (kept (pick a (first t) 0) r) o
only true true r o = refl
only false true r o = refl
only t false r o = refl

module _ (r : Replica) (room : ℕ) where
  pub gate_owner : (peer ballot : ℕ) (o : Outcome)
      → pick (not (ready r room)) (kept (unready r room) r) (pick (not (is_peer r.sc peer)) (kept 2 r) (pick (not (owns ballot peer)) (kept 3 r) o))
      ≡ pick (not (eqb (from_owner r room peer ballot) 0)) (kept (from_owner r room peer ballot) r) o
  unfolding from_owner
  gate_owner peer ballot o = three (roomy room && fit r) (not (ready r room)) (not (is_peer r.sc peer)) (not (owns ballot peer)) r o

  pub gate_peer : (peer : ℕ) (o : Outcome)
      → pick (not (ready r room)) (kept (unready r room) r) (pick (not (is_peer r.sc peer)) (kept 2 r) o)
      ≡ pick (not (eqb (from_peer r room peer) 0)) (kept (from_peer r room peer) r) o
  unfolding from_peer
  gate_peer peer o = two (roomy room && fit r) (not (ready r room)) (not (is_peer r.sc peer)) r o

  pub gate_member : (member : ℕ) (o : Outcome)
      → pick (not (ready r room)) (kept (unready r room) r) (pick (not (is_member r.sc member)) (kept 2 r) o)
      ≡ pick (not (eqb (from_member r room member) 0)) (kept (from_member r room member) r) o
  unfolding from_member
  gate_member member o = two (roomy room && fit r) (not (ready r room)) (not (is_member r.sc member)) r o

  -- and where only the room and the record are tested
  pub gate_ready : (o : Outcome)
      → pick (not (ready r room)) (kept (unready r room) r) o ≡ pick (not (eqb (ready_answer r room) 0)) (kept (ready_answer r room) r) o
  unfolding ready_answer
  gate_ready o = only (roomy room && fit r) (not (ready r room)) r o

  pub ready_goes : (o : Outcome) → ready r room ≡ true → pick (not (ready r room)) (kept (unready r room) r) o ≡ o
  ready_goes o e = ap (λ (t : Bool). pick (not t) (kept (unready r room) r) o) e

-- the two ways on from such a test, with the number n that the code has of it
pub gate_shut : {p : Outcome} (a n : ℕ) (r : Replica) (o : Outcome) → p ≡ pick (not (eqb a 0)) (kept a r) o → n ≡ a → (n ≡ 0 → ⊥) → p ≡ kept n r
gate_shut a n r o e f h = e ∙ rw (← f, ne_eqb n 0 h)

pub gate_open : {p : Outcome} (a n : ℕ) (r : Replica) (o : Outcome) → p ≡ pick (not (eqb a 0)) (kept a r) o → n ≡ a → n ≡ 0 → p ≡ o
gate_open a n r o e f h = e ∙ rw (← f, eq-eqb n 0 h)

-- ── each way through the code that makes the number ──

module _ (r : Replica) (room : ℕ) where
  ready_parts : roomy room ≡ true → fit r ≡ true → sums r ≡ ready r room
  ready_parts a b = rw (a, b)

  -- 1: the room or the record
  one_first : (t u : Bool) → (t && u) ≡ false → (v : Bool) → 1 ≡ pick (not (t && (u && v))) (first (t && u)) 0
  one_first true true e v = absurd (clash refl e)
  one_first true false e v = refl
  one_first false u e v = refl

  pub answer_short : room < 3456 → 1 ≡ ready_answer r room
  unfolding ready_answer
  answer_short h = one_first (roomy room) (fit r) (rw (lt-leb 3456 room h)) (sums r)

  module _ (h : 3456 ≤ room) where
    pub answer_unfit : false ≡ fit r → 1 ≡ ready_answer r room
    unfolding ready_answer
    answer_unfit e = one_first (roomy room) (fit r) (rw (← e, and-false (roomy room))) (sums r)

    -- 14: the summary
    pub answer_unsummed : fit r ≡ true → sums r ≡ false → 14 ≡ ready_answer r room
    unfolding ready_answer
    answer_unsummed e f = go (roomy room) (fit r) (sums r) (le-leb 3456 room h) e f
      where
        go : (t u v : Bool) → t ≡ true → u ≡ true → v ≡ false → 14 ≡ pick (not (t && (u && v))) (first (t && u)) 0
        go true true false a b c = refl
        go true true true a b c = absurd (clash refl c)
        go true false v a b c = absurd (clash b refl)
        go false u v a b c = absurd (clash a refl)

    pub answer_ready : fit r ≡ true → sums r ≡ true → 0 ≡ ready_answer r room
    unfolding ready_answer
    answer_ready e f = sym (ap (λ (t : Bool). pick (not t) (unready r room) 0) (and_make (le-leb 3456 room h) (and_make e f)))

  pub ready_last : 3456 ≤ room → usable r ≡ ready r room
  ready_last h = rw (le-leb 3456 room h)

  pub ready_zero : ready r room ≡ true → ready_answer r room ≡ 0
  unfolding ready_answer
  ready_zero e = ap (λ (t : Bool). pick (not t) (unready r room) 0) e

  -- the number as the code has it
  pub ready_by : {n : ℕ} → n ≡ ready_answer r room → n ≡ 0 → ready r room ≡ true
  unfolding ready_answer
  ready_by e z = not-false (ready r room) (pick_none (not (ready r room)) (roomy room && fit r) (sym e ∙ z))
    where
      pick_none : (a t : Bool) → pick a (first t) 0 ≡ 0 → a ≡ false
      pick_none true true q = absurd (omega arith)
      pick_none true false q = absurd (omega arith)
      pick_none false t q = refl

-- the number of the first tests, then 2, else the number n
abbrev then_two : Bool → ℕ → Bool → ℕ → ℕ
then_two a m b n = pick a m (pick b 2 n)

module _ (r : Replica) (room : ℕ) where
  unready_first : (a b : Bool) (n : ℕ) → (pick a (unready r room) 0 ≡ 0 → ⊥) → pick a (unready r room) 0 ≡ then_two a (unready r room) b n
  unready_first true b n h = refl
  unready_first false b n h = absurd (h refl)

  ready_then : (a b : Bool) (n : ℕ) → pick a (unready r room) 0 ≡ 0 → pick b 2 n ≡ then_two a (unready r room) b n
  ready_then true b n e = absurd (go (roomy room && fit r) e)
    where
      go : (t : Bool) → first t ≡ 0 → ⊥
      go true q = omega arith
      go false q = omega arith
  ready_then false b n e = refl

  module _ (member : ℕ) where
    pub member_unready : (ready_answer r room ≡ 0 → ⊥) → ready_answer r room ≡ from_member r room member
    unfolding from_member ready_answer
    member_unready h = unready_first (not (ready r room)) (not (is_member r.sc member)) 0 h

    pub member_none : ready_answer r room ≡ 0 → r.sc.group ≤ member → 2 ≡ from_member r room member
    unfolding from_member ready_answer
    member_none e h =
        sym (ap (λ (t : Bool). pick (not t) 2 0) (le-ltb member r.sc.group h)) ∙ ready_then (not (ready r room)) (not (is_member r.sc member)) 0 e

    pub member_some : ready_answer r room ≡ 0 → member < r.sc.group → 0 ≡ from_member r room member
    unfolding from_member ready_answer
    member_some e h =
        sym (ap (λ (t : Bool). pick (not t) 2 0) (lt-ltb member r.sc.group h)) ∙ ready_then (not (ready r room)) (not (is_member r.sc member)) 0 e

  module _ (peer : ℕ) where
    pub peer_unready : (ready_answer r room ≡ 0 → ⊥) → ready_answer r room ≡ from_peer r room peer
    unfolding from_peer ready_answer
    peer_unready h = unready_first (not (ready r room)) (not (is_peer r.sc peer)) 0 h

    pub peer_none : ready_answer r room ≡ 0 → is_peer r.sc peer ≡ false → 2 ≡ from_peer r room peer
    unfolding from_peer ready_answer
    peer_none e f = sym (ap (λ (t : Bool). pick (not t) 2 0) f) ∙ ready_then (not (ready r room)) (not (is_peer r.sc peer)) 0 e

    pub peer_some : ready_answer r room ≡ 0 → is_peer r.sc peer ≡ true → 0 ≡ from_peer r room peer
    unfolding from_peer ready_answer
    peer_some e f = sym (ap (λ (t : Bool). pick (not t) 2 0) f) ∙ ready_then (not (ready r room)) (not (is_peer r.sc peer)) 0 e

    module _ (ballot : ℕ) where
      pub owner_first : (from_peer r room peer ≡ 0 → ⊥) → from_peer r room peer ≡ from_owner r room peer ballot
      unfolding from_peer from_owner
      owner_first h = go (not (ready r room)) (not (is_peer r.sc peer)) h
        where
          go : (a b : Bool) → (then_two a (unready r room) b 0 ≡ 0 → ⊥)
              → then_two a (unready r room) b 0 ≡ then_two a (unready r room) b (pick (not (owns ballot peer)) 3 0)
          go true b h = refl
          go false true h = refl
          go false false h = absurd (h refl)

      owner_then : from_peer r room peer ≡ 0 → pick (not (owns ballot peer)) 3 0 ≡ from_owner r room peer ballot
      unfolding from_peer from_owner
      owner_then e = go (not (ready r room)) (not (is_peer r.sc peer)) e
        where
          number : (t : Bool) → first t ≡ 0 → ⊥
          number true q = omega arith
          number false q = omega arith

          go : (a b : Bool) → then_two a (unready r room) b 0 ≡ 0
              → pick (not (owns ballot peer)) 3 0 ≡ then_two a (unready r room) b (pick (not (owns ballot peer)) 3 0)
          go true b e = absurd (number (roomy room && fit r) e)
          go false true e = absurd (omega arith)
          go false false e = refl

      pub owner_none : from_peer r room peer ≡ 0 → owns ballot peer ≡ false → 3 ≡ from_owner r room peer ballot
      owner_none e f = sym (ap (λ (t : Bool). pick (not t) 3 0) f) ∙ owner_then e

      pub owner_some : from_peer r room peer ≡ 0 → owns ballot peer ≡ true → 0 ≡ from_owner r room peer ballot
      owner_some e f = sym (ap (λ (t : Bool). pick (not t) 3 0) f) ∙ owner_then e

-- the same of a number that is not 0, as the code has it of a refusal
module _ (r : Replica) (room : ℕ) {n : ℕ} (h : n ≡ 0 → ⊥) where
  pub member_shut : (member : ℕ) → n ≡ ready_answer r room → n ≡ from_member r room member
  member_shut member e = e ∙ member_unready r room member (λ z. h (e ∙ z))

  pub peer_shut : (peer : ℕ) → n ≡ ready_answer r room → n ≡ from_peer r room peer
  peer_shut peer e = e ∙ peer_unready r room peer (λ z. h (e ∙ z))

  pub owner_shut : (peer ballot : ℕ) → n ≡ from_peer r room peer → n ≡ from_owner r room peer ballot
  owner_shut peer ballot e = e ∙ owner_first r room peer ballot (λ z. h (e ∙ z))

-- ── what a call may count on ──

-- the numbers of a record that is fit, with room for 192 actions
pub record Ready (r : Replica) (room : ℕ) : Type 0 where
  pub long : 3456 ≤ room
  pub some : 0 < r.sc.group
  pub few : r.sc.group ≤ 9
  pub own : r.sc.id < r.sc.group
  pub low : r.sc.start ≤ 4294967296
  pub within : r.window.len ≤ 64
  pub known : (eqb r.sc.leader 255 || ltb r.sc.leader r.sc.group) ≡ true
  pub exec_low : r.sc.start ≤ r.sc.exec_bar
  pub exec_high : r.sc.exec_bar ≤ r.sc.commit_bar
  pub commit_high : r.sc.commit_bar ≤ r.sc.start + r.window.len
  pub accept_low : r.sc.start ≤ r.sc.accept_bar
  pub accept_is_high : r.sc.accept_bar ≤ r.sc.start + r.window.len
  pub keys_few : r.keys.count ≤ 256
  pub reads_few : r.reads.count ≤ 16
  pub slots_fit : fit_slots r.sc.group r.window ≡ true
  pub reads_fit : fit_reads r.sc.group r.reads ≡ true
  pub sum : Sums r.sc r.window r.summary

pub ready_facts : (r : Replica) (room : ℕ) → ready r room ≡ true → Ready r room
unfolding fit fit_scalars fit_reads
ready_facts r room e =
    let p1 = and_both (leb 3456 room) _ e in
    let p2 = and_both (fit r) _ p1.1 in
    let p3 = and_both (eqb r.summary.first (walk r.sc r.window).first) _ p2.1 in
    let q1 = and_both (fit_scalars r.sc r.window.len) _ p2.0 in
    let q2 = and_both (fit_slots r.sc.group r.window) _ q1.1 in
    let q3 = and_both (leb r.keys.count 256) _ q2.1 in
    let f1 = and_both (group_size r.sc.group) _ q1.0 in
    let g = group_bounds r.sc.group f1.0 in
    let f2 = and_both (ltb r.sc.id r.sc.group) _ f1.1 in
    let f3 = and_both (leb r.sc.start 4294967296) _ f2.1 in
    let f4 = and_both (leb r.window.len 64) _ f3.1 in
    let f5 = and_both (eqb r.sc.leader 255 || ltb r.sc.leader r.sc.group) _ f4.1 in
    let f6 = and_both (leb r.sc.start r.sc.exec_bar) _ f5.1 in
    let f7 = and_both (leb r.sc.exec_bar r.sc.commit_bar) _ f6.1 in
    let f8 = and_both (leb r.sc.commit_bar (r.sc.start + r.window.len)) _ f7.1 in
    let f9 = and_both (leb r.sc.start r.sc.accept_bar) _ f8.1 in
    record {
      long = leb-true _ _ p1.0;
      some = g.0;
      few = g.1;
      own = ltb-true _ _ f2.0;
      low = leb-true _ _ f3.0;
      within = leb-true _ _ f4.0;
      known = f5.0;
      exec_low = leb-true _ _ f6.0;
      exec_high = leb-true _ _ f7.0;
      commit_high = leb-true _ _ f8.0;
      accept_low = leb-true _ _ f9.0;
      accept_is_high = leb-true _ _ f9.1;
      keys_few = leb-true _ _ q3.0;
      reads_few = leb-true _ _ (and_left (leb r.reads.count 16) _ q3.1);
      slots_fit = q2.0;
      reads_fit = q3.1;
      sum = record { first = eqb-true _ _ p3.0; accepting = eqb-true _ _ p3.1 };
    }

-- a call from a member
pub record FromMember (r : Replica) (room member : ℕ) : Type 0 where
  pub fine : ready r room ≡ true
  pub facts : Ready r room
  pub known : is_member r.sc member ≡ true
  pub below : member < r.sc.group

-- a message from another member
pub record FromPeer (r : Replica) (room peer : ℕ) : Type 0 where
  pub fine : ready r room ≡ true
  pub facts : Ready r room
  pub known : is_peer r.sc peer ≡ true
  pub below : peer < r.sc.group
  pub other : peer ≡ r.sc.id → ⊥

-- a message from the owner of its ballot
pub record FromOwner (r : Replica) (room peer ballot : ℕ) : Type 0 where
  pub sender : FromPeer r room peer
  pub owned : owns ballot peer ≡ true

-- where the number is 0 the first tests have passed
first_zero : (r : Replica) (room y : ℕ) → pick (not (ready r room)) (unready r room) y ≡ 0 → (not (ready r room) ≡ false) × (y ≡ 0)
first_zero r room y e = go (not (ready r room)) (roomy room && fit r) e
  where
    go : (a t : Bool) → pick a (first t) y ≡ 0 → (a ≡ false) × (y ≡ 0)
    go true true q = absurd (omega arith)
    go true false q = absurd (omega arith)
    go false t q = (refl, q)

pub member_facts : (r : Replica) (room member : ℕ) → from_member r room member ≡ 0 → FromMember r room member
unfolding from_member
member_facts r room member e =
    let p1 = first_zero r room _ e in
    let p2 = pick_zero (not (is_member r.sc member)) 1 _ p1.1 in
    let f = not-false (ready r room) p1.0 in
    let k = not-false (is_member r.sc member) p2.0 in
    record { fine = f; facts = ready_facts r room f; known = k; below = ltb-true _ _ k }

-- a member other than self, from the two tests
peer_known : (r : Replica) (room peer : ℕ) → ready r room ≡ true → is_peer r.sc peer ≡ true → FromPeer r room peer
peer_known r room peer f k =
    let h = and_both (ltb peer r.sc.group) _ k in
    record { fine = f; facts = ready_facts r room f; known = k; below = ltb-true _ _ h.0; other = eqb-false _ _ (not-true _ h.1) }

pub peer_facts : (r : Replica) (room peer : ℕ) → from_peer r room peer ≡ 0 → FromPeer r room peer
unfolding from_peer
peer_facts r room peer e =
    let p1 = first_zero r room _ e in
    let p2 = pick_zero (not (is_peer r.sc peer)) 1 _ p1.1 in
    peer_known r room peer (not-false (ready r room) p1.0) (not-false (is_peer r.sc peer) p2.0)

pub owner_facts : (r : Replica) (room peer ballot : ℕ) → from_owner r room peer ballot ≡ 0 → FromOwner r room peer ballot
unfolding from_owner
owner_facts r room peer ballot e =
    let p1 = first_zero r room _ e in
    let p2 = pick_zero (not (is_peer r.sc peer)) 1 _ p1.1 in
    let p3 = pick_zero (not (owns ballot peer)) 2 _ p2.1 in
    record {
      sender = peer_known r room peer (not-false (ready r room) p1.0) (not-false (is_peer r.sc peer) p2.0);
      owned = not-false (owns ballot peer) p3.0;
    }

-- what a call may count on once the code's first test has let it through
module _ (r : Replica) (room : ℕ) where
  pub ready_open : 0 ≡ ready_answer r room → ready r room ≡ true
  ready_open e = ready_by r room e refl

  pub ready_holds : 0 ≡ ready_answer r room → Ready r room
  ready_holds e = ready_facts r room (ready_open e)

  pub member_open : (member : ℕ) → 0 ≡ from_member r room member → Ready r room
  member_open member e = (member_facts r room member (sym e)).facts

  pub peer_open : (peer : ℕ) → 0 ≡ from_peer r room peer → Ready r room
  peer_open peer e = (peer_facts r room peer (sym e)).facts

  pub owner_open : (peer ballot : ℕ) → 0 ≡ from_owner r room peer ballot → Ready r room
  owner_open peer ballot e = (owner_facts r room peer ballot (sym e)).sender.facts
