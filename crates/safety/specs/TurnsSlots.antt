-- One slot in a call of a strict replica, 02, Wish 6, (d): what each change makes of its ballot, status and batch and of a follower's endprep, and how
-- changes in a row add up.
use Rattle.std.specs.Prelude.{◌≡◌, refl, Bool, true, false, not, ◌&&◌, ◌||◌, List, ◌⊎◌, ℕ, ◌≤◌, ◌<◌, ltb, leb, eqb}
use Rattle.std.proofs.Common.{sym, ap, subst, ◌∙◌, inl, inr, le_refl, arith, ltb-true, ltb-false, le-leb}
use Rattle.std.proofs.lemmas.Bool.{not-false}
use Rattle.base.specs.Pick.{pick_both, pick_cases, decide, and_left, tests}
use Rattle.base.specs.Among.{◌∈◌}
use Rattle.batch.specs.declared.Batch.{Batch}
use Rattle.batch.specs.Batches.{same_batch}
use Rattle.actions.specs.Actions.{Act}
use Rattle.slots.specs.declared.LeaderBook.{LeaderBook}
use Rattle.slots.specs.declared.ReplicaBook.{ReplicaBook}
use Rattle.slots.specs.declared.Slot.{Slot}
use Rattle.slots.specs.Slots.{null_slot, preparing, committed, executed, put_back, prepared_slot, redone_slot, noted_slot, counted_slot, entered_slot, sourced, accepted_slot, acknowledged_slot, committed_slot, marked_slot, passed_slot, executed_slot, logged_slot, with_leader, with_state, with_external}
use Rattle.slots.specs.Statuses.{put_back_open, put_back_closed}
use Rattle.decide.specs.declared.Reply.{Reply}
use Rattle.decide.specs.Decide.{awaits_prepare}
use Rattle.window.specs.declared.Window.{Window}
use Rattle.window.specs.Window.{slot_at, put_slot, sweep}
use Rattle.window.specs.Acts.{promise}
use Rattle.window.specs.Places.{size}
use Rattle.window.specs.ByPlace.{at_place, at_here, put_cases, sweep_cases}
use Rattle.laws.specs.WaysReply.{adopts_vote, heard_slot}
use Rattle.agreement.specs.Frame.{Clean}
use Rattle.safety.specs.Sight.{Ends}
use Rattle.safety.specs.TurnsBatches.{one_batch}

-- the ballot and the endprep stay, and the slot is committed after the change only if it was so before
pub record Mild (x y : Slot) : Type 0 where
  pub ballot : y.ballot ≡ x.ballot
  pub book : x.replica.present ≡ true → (y.replica.present ≡ true) × (y.replica.endprep ≡ x.replica.endprep)
  pub stays : 0 < x.status → 0 < y.status
  pub fixed : 3 ≤ x.status → (3 ≤ y.status) × (y.batch ≡ x.batch)
  pub low : x.status < 3 → y.status < 3

-- what a call may do to slot s; W is why it is marked, if it is
pub record Fair (W : Type 0) (acts : List Act) (s : ℕ) (x y : Slot) : Type 0 where
  pub up : x.ballot ≤ y.ballot
  pub stays : 0 < x.status → 0 < y.status
  pub fixed : 3 ≤ x.status → (3 ≤ y.status) × (y.batch ≡ x.batch)
  pub ends : Ends acts s x y
  pub why : x.status < 3 → 3 ≤ y.status → W

-- ── changes in a row ──
pub Mild-self : (x : Slot) → Mild x x
Mild-self x = record { ballot = refl; book = λ e. (e, refl); stays = λ h. h; fixed = λ h. (h, refl); low = λ h. h }

pub Mild-Mild : {x y z : Slot} → Mild x y → Mild y z → Mild x z
Mild-Mild {x} {y} {z} a b =
    record {
      ballot = b.ballot ∙ a.ballot;
      book = λ e.
          let p = a.book e in
          let q = b.book p.0 in
          (q.0, q.1 ∙ p.1);
      stays = λ h. b.stays (a.stays h);
      fixed = λ h.
          let p = a.fixed h in
          let q = b.fixed p.0 in
          (q.0, q.1 ∙ p.1);
      low = λ h. b.low (a.low h);
    }

module _ {W : Type 0} {acts : List Act} {s : ℕ} where
  pub Fair-Mild : {x y : Slot} → Mild x y → Fair W acts s x y
  Fair-Mild {x} {y} a =
      record {
        up = omega (arith, a.ballot);
        stays = a.stays;
        fixed = a.fixed;
        ends = inl (a.ballot, a.book);
        why = λ h k. absurd (omega (arith, a.low h));
      }

  pub Fair-self : (x : Slot) → Fair W acts s x x
  Fair-self x = Fair-Mild (Mild-self x)

  pub Fair-from : {x x' y : Slot} → x ≡ x' → Fair W acts s x y → Fair W acts s x' y
  Fair-from {x} {x'} {y} e a = subst (λ (z : Slot). Fair W acts s z y) e a

  -- where it is not marked, whatever the reason
  pub Fair-of : {x y : Slot} → Fair ⊥ acts s x y → Fair W acts s x y
  Fair-of a = record { up = a.up; stays = a.stays; fixed = a.fixed; ends = a.ends; why = λ h k. absurd (a.why h k) }

  -- a mild change before
  pub Mild-then : {x y z : Slot} → Mild x y → Fair W acts s y z → Fair W acts s x z
  Mild-then {x} {y} {z} a b =
      record {
        up = omega (arith, a.ballot, b.up);
        stays = λ h. b.stays (a.stays h);
        fixed = λ h.
            let p = a.fixed h in
            let q = b.fixed p.0 in
            (q.0, q.1 ∙ p.1);
        ends = go b.ends;
        why = λ h k. b.why (a.low h) k;
      }
    where
      go : Ends acts s y z → Ends acts s x z
      go (inl (e, f)) =
          inl (
            e ∙ a.ballot,
            λ h.
                let p = a.book h in
                let q = f p.0 in
                (q.0, q.1 ∙ p.1),
          )
      go (inr (inl l)) = inr (inl (omega (arith, a.ballot)))
      go (inr (inr m)) = inr (inr m)

  -- and after
  pub Fair-then : {x y z : Slot} → Fair W acts s x y → Mild y z → Fair W acts s x z
  Fair-then {x} {y} {z} a b =
      record {
        up = omega (arith, a.up, b.ballot);
        stays = λ h. b.stays (a.stays h);
        fixed = λ h.
            let p = a.fixed h in
            let q = b.fixed p.0 in
            (q.0, q.1 ∙ p.1);
        ends = go a.ends;
        why = λ h k. risen h k (decide (ltb y.status 3));
      }
    where
      go : Ends acts s x y → Ends acts s x z
      go (inl (e, f)) =
          inl (
            b.ballot ∙ e,
            λ h.
                let p = f h in
                let q = b.book p.0 in
                (q.0, q.1 ∙ p.1),
          )
      go (inr (inl l)) = inr (inl (omega (arith, b.ballot)))
      go (inr (inr m)) = inr (inr (subst (λ (n : ℕ). promise s n ∈ acts) (sym b.ballot) m))

      risen : x.status < 3 → 3 ≤ z.status → (ltb y.status 3 ≡ true) ⊎ (ltb y.status 3 ≡ false) → W
      risen h k (inl t) = absurd (omega (arith, b.low (ltb-true y.status 3 t)))
      risen h k (inr t) = a.why h (ltb-false y.status 3 t)

-- ── the mild changes ──
-- the ballot, the status, the batch and the follower's bookkeeping stay
pub Mild-like : {x y : Slot} → y.ballot ≡ x.ballot → y.status ≡ x.status → y.batch ≡ x.batch → y.replica ≡ x.replica → Mild x y
Mild-like {x} {y} b s e k =
    record {
      ballot = b;
      book = λ h. (ap (λ (z : ReplicaBook). z.present) k ∙ h, ap (λ (z : ReplicaBook). z.endprep) k);
      stays = λ h. omega (arith, s);
      fixed = λ h. (omega (arith, s), e);
      low = λ h. omega (arith, s);
    }

pub noted_mild : (strict : Bool) (peer : ℕ) (x : Slot) → Mild x (noted_slot strict peer x)
noted_mild strict peer x = Mild-like refl refl refl refl

pub counted_mild : (peer : ℕ) (x : Slot) → Mild x (counted_slot peer x)
counted_mild peer x = Mild-like refl refl refl refl

pub acknowledged_mild : (peer : ℕ) (x : Slot) → Mild x (acknowledged_slot peer x)
acknowledged_mild peer x = Mild-like refl refl refl refl

pub logged_mild : (offset : ℕ) (x : Slot) → Mild x (logged_slot offset x)
logged_mild offset x = pick_both (Mild x) (eqb x.wal_offset 0 || ltb offset x.wal_offset) (Mild-like refl refl refl refl) (Mild-self x)

-- a slot below Committed gets another status below it, above Null, and maybe another batch
pub Mild-below : {x y : Slot} → y.ballot ≡ x.ballot → y.replica ≡ x.replica → x.status < 3 → y.status < 3 → 0 < y.status → Mild x y
Mild-below {x} {y} b k l u p =
    record {
      ballot = b;
      book = λ h. (ap (λ (z : ReplicaBook). z.present) k ∙ h, ap (λ (z : ReplicaBook). z.endprep) k);
      stays = λ h. p;
      fixed = λ h. absurd (omega arith);
      low = λ h. u;
    }

-- a vote is heard at a Preparing slot
pub heard_mild : (x : Slot) (m : Reply) → Mild x (heard_slot x m)
heard_mild x m =
    pick_cases (Mild x) (adopts_vote x m)
    (λ t.
    let is = and_left (eqb x.status preparing) _ (and_left (awaits_prepare x m.ballot) _ t) in
    Mild-below refl refl (omega (arith, tests)) (omega (arith, tests)) (omega (arith, tests)))
    (λ t. Mild-self x)

pub entered_mild : (strict : Bool) (ballot : ℕ) (x : Slot) → Mild x (entered_slot strict ballot x)
entered_mild strict ballot x =
    pick_cases (Mild x) (eqb x.status preparing) (λ t. Mild-below refl refl (omega (arith, tests)) (omega arith) (omega arith)) (λ t. Mild-self x)

-- a committed slot is Executed
pub Mild-above : {x y : Slot} → y.ballot ≡ x.ballot → y.batch ≡ x.batch → y.replica ≡ x.replica → 3 ≤ x.status → 3 ≤ y.status → Mild x y
Mild-above {x} {y} b e k l u =
    record {
      ballot = b;
      book = λ h. (ap (λ (z : ReplicaBook). z.present) k ∙ h, ap (λ (z : ReplicaBook). z.endprep) k);
      stays = λ h. omega arith;
      fixed = λ h. (u, e);
      low = λ h. absurd (omega arith);
    }

pub executed_mild : (x : Slot) → Mild x (executed_slot x)
executed_mild x =
    pick_cases (Mild x) (eqb x.status committed) (λ t. Mild-above refl refl refl (omega (arith, tests)) (omega arith)) (λ t. Mild-self x)

pub passed_mild : (x : Slot) → 3 ≤ x.status → Mild x (passed_slot x)
passed_mild x h = pick_both (Mild x) (eqb x.batch.id 0) (Mild-above refl refl refl h (omega arith)) (Mild-self x)

-- ── the others ──
module _ {W : Type 0} {acts : List Act} {s : ℕ} where
  -- a new slot, at a ballot above 0
  pub Fair-new : (y : Slot) → 0 < y.ballot → y.status < 3 → Fair W acts s null_slot y
  Fair-new y b l =
      record {
        up = omega arith;
        stays = λ h. absurd (omega arith);
        fixed = λ h. absurd (omega arith);
        ends = inr (inl b);
        why = λ _ k. absurd (omega arith);
      }

  -- "Prepare and Accept on a Committed or Executed slot keep its status": a Prepare, with its prepare entry
  pub Fair-prepared : (kind : Bool) (ballot : ℕ) (book : ReplicaBook) (x : Slot) → kind ≡ true → x.ballot ≤ ballot → promise s ballot ∈ acts
      → Fair W acts s x (prepared_slot kind ballot book x)
  Fair-prepared kind ballot book x k l m =
      record {
        up = l;
        stays = λ h. pick_cases (λ (n : ℕ). 0 < n) (kind && leb committed x.status) (λ t. h) (λ t. omega arith);
        fixed = λ h. (subst (λ (t : Bool). 3 ≤ put_back t preparing x) (sym k) (omega (arith, put_back_closed x preparing h)), refl);
        ends = inr (inr m);
        why = λ h z. absurd (omega (arith, put_back_open x kind preparing h));
      }

  -- and an Accept, which names no other batch
  pub Fair-accepted : (kind : Bool) (peer ballot : ℕ) (b : Batch) (x : Slot) → kind ≡ true → x.ballot ≤ ballot → Clean x.batch → Clean b
      → (kind && (leb committed x.status && not (same_batch x.batch b))) ≡ false → Fair W acts s x (accepted_slot kind peer ballot b x)
  Fair-accepted kind peer ballot b x k l p q n =
      record {
        up = l;
        stays = λ h. pick_cases (λ (n : ℕ). 0 < n) (kind && leb committed x.status) (λ t. h) (λ t. omega arith);
        fixed = λ h. (subst (λ (t : Bool). 3 ≤ put_back t 2 x) (sym k) (omega (arith, put_back_closed x 2 h)), sym (one_batch x.batch b p q (same h)));
        ends = go (decide (ltb x.ballot ballot));
        why = λ h z. absurd (omega (arith, put_back_open x kind 2 h));
      }
    where
      same : 3 ≤ x.status → same_batch x.batch b ≡ true
      same h = not-false _ (rw (k, le-leb 3 x.status h) at n)

      kept : x.replica.present ≡ true → ((sourced x.replica peer).present ≡ true) × ((sourced x.replica peer).endprep ≡ x.replica.endprep)
      kept e = rw e (refl, refl)

      go : (ltb x.ballot ballot ≡ true) ⊎ (ltb x.ballot ballot ≡ false) → Ends acts s x (accepted_slot kind peer ballot b x)
      go (inl t) = inr (inl (ltb-true x.ballot ballot t))
      go (inr t) = inl (omega (arith, tests), kept)

  -- a step-up, at a larger ballot
  pub Fair-redone : (ballot : ℕ) (book : LeaderBook) (x : Slot) → x.ballot < ballot → Fair W acts s x (redone_slot ballot book x)
  Fair-redone ballot book x l =
      pick_cases (Fair W acts s x) (leb executed x.status) (λ t. Fair-self x)
      (λ t. pick_cases (Fair W acts s x) (leb committed x.status)
      {a = with_external x}
      {b = with_leader (with_state (with_external x) ballot preparing) book}
      (λ u. Fair-Mild (Mild-like refl refl refl refl))
      (λ u.
      record {
        up = omega arith;
        stays = λ h. omega arith;
        fixed = λ h. absurd (omega (arith, tests));
        ends = inr (inl l);
        why = λ h k. absurd (omega arith);
      }))

  -- a mark
  pub Fair-committed : (x : Slot) → (x.status < 3 → W) → Fair W acts s x (committed_slot x)
  Fair-committed x w =
      record {
        up = le_refl _;
        stays = λ h. omega arith;
        fixed = λ h. (omega arith, refl);
        ends = inl (refl, λ e. (e, refl));
        why = λ h k. w h;
      }

  pub Fair-marked : (x : Slot) → (x.status < 3 → W) → Fair W acts s x (marked_slot x)
  Fair-marked x w = pick_both (Fair W acts s x) (leb committed x.status) (Fair-self x) (Fair-committed x w)

-- ── a window whose slots change mildly ──
pub Mild-put : (w : Window) (k : ℕ) (x : Slot) → Mild (slot_at w k) x → (i : ℕ) → Mild (at_place w i) (at_place (put_slot w k x) i)
Mild-put w k x m i =
    put_cases w k x (Mild (at_place w i)) i (λ e l. subst (λ (z : Slot). Mild z x) (sym (ap (at_place w) e ∙ at_here w k (omega arith))) m) (λ _. Mild-self (at_place w i))

pub Mild-sweep : (f : ℕ → Slot → Slot) (from to : ℕ) (w : Window) → w.len ≤ size w
    → ((i : ℕ) → from ≤ i → i < to → i < w.len → Mild (at_place w i) (f i (at_place w i))) → (i : ℕ) → Mild (at_place w i) (at_place (sweep f from to w) i)
Mild-sweep f from to w h g i = sweep_cases f from to w (Mild (at_place w i)) i h (λ a b l. g i a b l) (λ _. Mild-self (at_place w i))
