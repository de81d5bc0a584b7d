-- Laws of the decisions: what none of them changes, and that each keeps a slot fit.
use Rattle.std.specs.Prelude.{◌≡◌, Bool, true, ◌&&◌, ◌||◌, ℕ, ◌≤◌, ◌<◌, eqb, Result, Ok, Err}
use Rattle.std.proofs.Math.Path.{refl, ap}
use Rattle.std.proofs.Common.{sym, ◌∙◌, arith, ltb-true}
use Rattle.std.proofs.Math.Bool.{not}
use Rattle.std.proofs.Math.Nat.{le_refl}
use Rattle.std.proofs.Math.Dec.{ltb}
use Rattle.base.specs.Pick.{pick, pick_both, pick_cases, and_right}
use Rattle.members.specs.Sets.{has, count_in}
use Rattle.batch.specs.declared.Batch.{Batch}
use Rattle.slots.specs.declared.Vote.{Vote}
use Rattle.slots.specs.declared.Slot.{Slot}
use Rattle.slots.specs.Slots.{fit_slot, counted_slot, acknowledged_slot}
use Rattle.slots.specs.Laws.{fit_accepted, fit_acknowledged, fit_committed, fit_adopted, fit_counted, fit_offered}
use Rattle.decide.specs.declared.Scalars.{Scalars}
use Rattle.decide.specs.declared.PeerBars.{PeerBars}
use Rattle.decide.specs.declared.Decided as code
use Rattle.decide.specs.declared.Weighed as weighed_code
use Rattle.decide.specs.declared.Refusal.{Refusal}
use Rattle.decide.specs.declared.Refusal.TheVariants.{Contradiction, Renamed}
use Rattle.decide.specs.declared.Reply.{Reply}
use Rattle.decide.specs.Scalars.{leads, quorum, strict, followed, with_peer_max}
use Rattle.decide.specs.Bars.{with_fallen, has_entry, bar_of, least_majority, with_bar}
use Rattle.decide.specs.Decide.{Decided, number, as_done, decided, silent, names_other, decide_accept, awaits_accept, decide_accept_reply, awaits_prepare, goes_on, decide_vote, is_counted, decide_count, decide_promised, is_stale, decide_accepted, decide_offer}
use Rattle.decide.specs.Weighing.{Weighed, as_weighed, weighing, unmoved, weighed}

-- ── the code's values: two that say one decision are one, so a promise by `as_done`, `decided`, `as_weighed` or `weighing` allows one value ──
pub refused_some : (e : Refusal) → number e ≡ 0 → ⊥
refused_some Contradiction z = omega (arith, z)
refused_some Renamed z = omega (arith, z)

number_unique : (x y : Refusal) → number x ≡ number y → x ≡ y
number_unique Contradiction Contradiction e = refl
number_unique Contradiction Renamed e = absurd (omega (arith, e))
number_unique Renamed Contradiction e = absurd (omega (arith, e))
number_unique Renamed Renamed e = refl

pub as_done_unique : (x y : code.Decided) → as_done x ≡ as_done y → x ≡ y
as_done_unique x y e = ap told e
  where
    told : Decided → code.Decided
    told d = record { noted = d.noted; sc = d.sc; slot = d.slot; says = d.says; keys = d.keys }

pub decided_unique : (sc : Scalars) (s : Slot) (x y : Result code.Decided Refusal) → decided sc s x ≡ decided sc s y → x ≡ y
decided_unique sc s (Ok x) (Ok y) e = ap Ok (as_done_unique x y e)
decided_unique sc s (Ok x) (Err y) e = absurd (refused_some y (sym (ap (λ (d : Decided). d.answer) e)))
decided_unique sc s (Err x) (Ok y) e = absurd (refused_some x (ap (λ (d : Decided). d.answer) e))
decided_unique sc s (Err x) (Err y) e = ap Err (number_unique x y (ap (λ (d : Decided). d.answer) e))

as_weighed_unique : (x y : weighed_code.Weighed) → as_weighed x ≡ as_weighed y → x ≡ y
as_weighed_unique x y e = ap told e
  where
    told : Weighed → weighed_code.Weighed
    told g = record { noted = g.noted; enters = g.enters; sc = g.sc; slot = g.slot; trigger = g.trigger }

pub weighing_unique : (sc : Scalars) (s t : Slot) (x y : Result weighed_code.Weighed Refusal) → weighing sc s t x ≡ weighing sc s t y → x ≡ y
weighing_unique sc s t (Ok x) (Ok y) e = ap Ok (as_weighed_unique x y e)
weighing_unique sc s t (Ok x) (Err y) e = absurd (refused_some y (sym (ap (λ (g : Weighed). g.answer) e)))
weighing_unique sc s t (Err x) (Ok y) e = absurd (refused_some x (ap (λ (g : Weighed). g.answer) e))
weighing_unique sc s t (Err x) (Err y) e = ap Err (number_unique x y (ap (λ (g : Weighed). g.answer) e))

-- what no decision changes of the scalars; and the largest ballot seen never falls
pub record Steady (a b : Scalars) : Type 0 where
  pub id : b.id ≡ a.id
  pub group : b.group ≡ a.group
  pub start : b.start ≡ a.start
  pub options : b.options ≡ a.options
  pub sent : b.bal_prep_sent ≡ a.bal_prep_sent
  pub accept : b.accept_bar ≡ a.accept_bar
  pub commit : b.commit_bar ≡ a.commit_bar
  pub exec : b.exec_bar ≡ a.exec_bar
  pub offset : b.wal_offset ≡ a.wal_offset
  pub peer_max : b.peer_accept_max ≡ a.peer_accept_max
  pub seen : a.bal_max_seen ≤ b.bal_max_seen

pub Steady-self : (sc : Scalars) → Steady sc sc
Steady-self sc =
    record {
      id = refl;
      group = refl;
      start = refl;
      options = refl;
      sent = refl;
      accept = refl;
      commit = refl;
      exec = refl;
      offset = refl;
      peer_max = refl;
      seen = le_refl sc.bal_max_seen;
    }

pub Steady-followed : (sc : Scalars) (peer ballot : ℕ) → Steady sc (followed sc peer ballot)
Steady-followed sc peer ballot =
    pick_cases (λ (x : Scalars). Steady sc x) (ltb sc.bal_max_seen ballot)
    (λ t.
    record {
      id = refl;
      group = refl;
      start = refl;
      options = refl;
      sent = refl;
      accept = refl;
      commit = refl;
      exec = refl;
      offset = refl;
      peer_max = refl;
      seen = omega (arith, ltb-true sc.bal_max_seen ballot t);
    })
    (λ t. Steady-self sc)

-- a decision is done (0), with steady scalars, or it is refused (6 or 15): then it changes nothing and says nothing
pub data Settles (sc : Scalars) (s : Slot) (d : Decided) : Type 0 where
  done : d.answer ≡ 0 → Steady sc d.sc → Settles sc s d
  refused : (n : ℕ) → (n ≡ 0 → ⊥) → d ≡ silent n sc s → Settles sc s d

module _ (sc : Scalars) (s : Slot) where
  abbrev Good : Decided → Type 0
  Good d = Settles sc s d

  pub Settles-accept : (peer slot ballot : ℕ) (b : Batch) → Settles sc s (decide_accept sc s peer slot ballot b)
  unfolding decide_accept
  Settles-accept peer slot ballot b =
      pick_both Good (names_other sc s b) (refused 15 (λ z. omega arith) refl)
      (pick_both Good (ltb ballot s.ballot) (refused 6 (λ z. omega arith) refl) (done refl (Steady-followed sc peer ballot)))

  pub Settles-reply : (peer slot ballot : ℕ) → Settles sc s (decide_accept_reply sc s peer slot ballot)
  unfolding decide_accept_reply
  Settles-reply peer slot ballot =
      pick_both Good (not (awaits_accept sc s ballot)) (done refl (Steady-self sc))
      (pick_both Good (not (eqb s.ballot ballot) || (ltb sc.bal_max_seen ballot || not s.leader.present)) (refused 6 (λ z. omega arith) refl)
      (pick_both Good (has s.leader.accept_acks peer) (done refl (Steady-self sc))
      (pick_both Good (ltb (count_in (acknowledged_slot peer s).leader.accept_acks) (quorum sc)) (done refl (Steady-self sc)) (done refl (Steady-self sc)))))

  pub Settles-vote : (ballot : ℕ) (voted : Bool) (v : Vote) → Settles sc s (decide_vote sc s ballot voted v)
  unfolding decide_vote
  Settles-vote ballot voted v =
      pick_both Good (not (awaits_prepare s ballot)) (done refl (Steady-self sc))
      (pick_both Good (not (eqb s.ballot ballot) || (ltb sc.bal_max_seen ballot || (voted && not s.leader.present))) (refused 6 (λ z. omega arith) refl)
      (pick_both Good (voted && ltb s.leader.prepare_max_bal v.ballot) (done refl (Steady-self sc)) (done refl (Steady-self sc))))

  pub Settles-count : (peer ballot : ℕ) → Settles sc s (decide_count sc s peer ballot)
  unfolding decide_count
  Settles-count peer ballot =
      pick_both Good (not (is_counted sc (counted_slot peer s))) (done refl (Steady-self sc))
      (pick_both Good (ltb ballot sc.bal_prepared) (refused 6 (λ z. omega arith) refl)
      (done refl
      (record {
        id = refl;
        group = refl;
        start = refl;
        options = refl;
        sent = refl;
        accept = refl;
        commit = refl;
        exec = refl;
        offset = refl;
        peer_max = refl;
        seen = le_refl sc.bal_max_seen;
      })))

  pub Settles-promised : (slot : ℕ) → Settles sc s (decide_promised sc s slot)
  unfolding decide_promised
  Settles-promised slot = pick_both Good (not s.replica.present) (done refl (Steady-self sc)) (done refl (Steady-self sc))

  pub Settles-accepted : (slot ballot : ℕ) → Settles sc s (decide_accepted sc s slot ballot)
  unfolding decide_accepted
  Settles-accepted slot ballot =
      pick_both Good (is_stale sc s ballot true) (done refl (Steady-self sc))
      (pick_both Good (leads sc)
      (pick_both Good (eqb s.ballot sc.bal_prepared) (Settles-reply sc.id slot s.ballot) (done refl (Steady-self sc)))
      (pick_both Good (not s.replica.present) (done refl (Steady-self sc)) (done refl (Steady-self sc))))

  -- an offer is never refused
  pub Settles-offer : (slot : ℕ) (b : Batch) → Settles sc s (decide_offer sc slot b)
  unfolding decide_offer
  Settles-offer slot b = done refl (Steady-self sc)

-- each keeps a slot fit
module _ (group : ℕ) (sc : Scalars) (s : Slot) (f : fit_slot group s ≡ true) where
  abbrev IsFit : Decided → Type 0
  IsFit d = fit_slot group d.slot ≡ true

  pub fit_accept : (peer slot ballot : ℕ) (b : Batch) → b.count ≤ 8 → fit_slot group (decide_accept sc s peer slot ballot b).slot ≡ true
  unfolding decide_accept
  fit_accept peer slot ballot b h =
      pick_both IsFit (names_other sc s b) f (pick_both IsFit (ltb ballot s.ballot) f (fit_accepted group s f (strict sc) peer ballot b h))

  pub fit_reply : (peer slot ballot : ℕ) → peer < group → fit_slot group (decide_accept_reply sc s peer slot ballot).slot ≡ true
  unfolding decide_accept_reply
  fit_reply peer slot ballot h =
      let a = fit_acknowledged group s f peer h in
      pick_both IsFit (not (awaits_accept sc s ballot)) f
      (pick_both IsFit (not (eqb s.ballot ballot) || (ltb sc.bal_max_seen ballot || not s.leader.present)) f
      (pick_both IsFit (has s.leader.accept_acks peer) f
      (pick_both IsFit (ltb (count_in (acknowledged_slot peer s).leader.accept_acks) (quorum sc)) a (fit_committed group (acknowledged_slot peer s) a))))

  pub fit_vote : (ballot : ℕ) (voted : Bool) (v : Vote) → v.batch.count ≤ 8 → fit_slot group (decide_vote sc s ballot voted v).slot ≡ true
  unfolding decide_vote
  fit_vote ballot voted v h =
      pick_both IsFit (not (awaits_prepare s ballot)) f
      (pick_both IsFit (not (eqb s.ballot ballot) || (ltb sc.bal_max_seen ballot || (voted && not s.leader.present))) f
      (pick_both IsFit (voted && ltb s.leader.prepare_max_bal v.ballot) (fit_adopted group s f v h) f))

  pub fit_count : (peer ballot : ℕ) → peer < group → fit_slot group (decide_count sc s peer ballot).slot ≡ true
  unfolding decide_count
  fit_count peer ballot h =
      let a = fit_counted group s f peer h in
      pick_both IsFit (not (is_counted sc (counted_slot peer s))) a (pick_both IsFit (ltb ballot sc.bal_prepared) f a)

  pub fit_promised : (slot : ℕ) → fit_slot group (decide_promised sc s slot).slot ≡ true
  unfolding decide_promised
  fit_promised slot = pick_both IsFit (not s.replica.present) f f

  pub fit_logged : (slot ballot : ℕ) → sc.id < group → fit_slot group (decide_accepted sc s slot ballot).slot ≡ true
  unfolding decide_accepted
  fit_logged slot ballot h =
      pick_both IsFit (is_stale sc s ballot true) f
      (pick_both IsFit (leads sc)
      (pick_both IsFit (eqb s.ballot sc.bal_prepared) (fit_reply sc.id slot s.ballot h) f)
      (pick_both IsFit (not s.replica.present) f f))

pub fit_offer : (group : ℕ) (sc : Scalars) (slot : ℕ) (b : Batch) → b.count ≤ 8 → fit_slot group (decide_offer sc slot b).slot ≡ true
unfolding decide_offer
fit_offer group sc slot b h = fit_offered group (strict sc) sc.bal_prepared b h

-- a member's bar that falls changes peer_accept_max alone, and that never rises
pub fallen_is : (sc : Scalars) (b : PeerBars) (m bar : ℕ) → (x : ℕ) × (x ≤ sc.peer_accept_max) × (with_fallen sc b m bar ≡ with_peer_max sc x)
unfolding with_fallen
fallen_is sc b m bar =
    let least = least_majority sc (with_bar sc b m bar) 9 in
    let test = has_entry sc b m && (ltb bar (bar_of b m) && ltb least sc.peer_accept_max) in
    pick_cases (λ (o : Scalars). (x : ℕ) × (x ≤ sc.peer_accept_max) × (o ≡ with_peer_max sc x)) test
    (λ t. (least, omega (arith, ltb-true least sc.peer_accept_max (and_right (ltb bar (bar_of b m)) _ (and_right (has_entry sc b m) _ t))), refl))
    (λ t. (sc.peer_accept_max, le_refl sc.peer_accept_max, refl))

-- a PrepareReply leaves start, commit_bar and the status of its slot and of its trigger's
pub record Remains (sc : Scalars) (was : ℕ) (sc' : Scalars) (x : Slot) : Type 0 where
  pub start : sc'.start ≡ sc.start
  pub commit : sc'.commit_bar ≡ sc.commit_bar
  pub status : x.status ≡ was

module _ (sc : Scalars) (s : Slot) where
  abbrev Left : Decided → Type 0
  Left d = Remains sc s.status d.sc d.slot

  Remains-self : Remains sc s.status sc s
  Remains-self = record { start = refl; commit = refl; status = refl }

  pub Remains-vote : (ballot : ℕ) (voted : Bool) (v : Vote) → Remains sc s.status (decide_vote sc s ballot voted v).sc (decide_vote sc s ballot voted v).slot
  unfolding decide_vote
  Remains-vote ballot voted v =
      pick_both Left (not (awaits_prepare s ballot)) Remains-self
      (pick_both Left (not (eqb s.ballot ballot) || (ltb sc.bal_max_seen ballot || (voted && not s.leader.present))) Remains-self
      (pick_both Left (voted && ltb s.leader.prepare_max_bal v.ballot) (record { start = refl; commit = refl; status = refl }) Remains-self))

  pub Remains-count : (peer ballot : ℕ) → Remains sc s.status (decide_count sc s peer ballot).sc (decide_count sc s peer ballot).slot
  unfolding decide_count
  Remains-count peer ballot =
      pick_both Left (not (is_counted sc (counted_slot peer s))) (record { start = refl; commit = refl; status = refl })
      (pick_both Left (ltb ballot sc.bal_prepared) Remains-self (record { start = refl; commit = refl; status = refl }))

-- s is its slot, t its trigger's, which have one status where they are one
module _ (sc : Scalars) (s t : Slot) (own counts : Bool) (peer : ℕ) (m : Reply) (same : own ≡ true → s.status ≡ t.status) where
  pub record WeighedRemains (g : Weighed) : Type 0 where
    pub slot : Remains sc s.status g.sc g.slot
    pub trigger : g.trigger.status ≡ t.status

  remains_unmoved : (answer : ℕ) → WeighedRemains (unmoved answer sc s t)
  remains_unmoved answer = record { slot = Remains-self sc s; trigger = refl }

  pub weighed_remains : WeighedRemains (weighed sc s t own counts peer m)
  unfolding weighed
  weighed_remains =
      pick_both WeighedRemains (not (goes_on sc s m.ballot)) (remains_unmoved 0)
      (pick_both WeighedRemains (not (eqb d.answer 0)) (remains_unmoved d.answer)
      (pick_both WeighedRemains (not counts) (record { slot = voted; trigger = base })
      (pick_both WeighedRemains (not (eqb e.answer 0)) (remains_unmoved e.answer)
      (record {
        slot = record { start = counted.start; commit = counted.commit; status = voted.status };
        trigger = counted.status ∙ base;
      }))))
    where
      d : Decided
      d = decide_vote sc s m.ballot m.voted m.vote

      voted : Remains sc s.status d.sc d.slot
      voted = Remains-vote sc s m.ballot m.voted m.vote

      base : (pick own d.slot t).status ≡ t.status
      base = pick_cases (λ (x : Slot). x.status ≡ t.status) own (λ z. voted.status ∙ same z) (λ z. refl)

      e : Decided
      e = decide_count sc (pick own d.slot t) peer m.ballot

      counted : Remains sc (pick own d.slot t).status e.sc e.slot
      counted = Remains-count sc (pick own d.slot t) peer m.ballot
