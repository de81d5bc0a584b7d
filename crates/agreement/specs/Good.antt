-- What holds of a replica alone after any calls, and how a call's frame is put together from its parts.
use Rattle.std.specs.Prelude.{◌≡◌, refl, Bool, true, false, List, [], ◌⊎◌, ℕ, ◌+◌, ◌≤◌, ◌<◌, ltb, eqb, length}
use Rattle.std.proofs.Common.{sym, ◌∙◌, subst, inl, inr, arith, ltb-true, ltb-false, eqb-true, eq-eqb}
use Rattle.std.proofs.Math.Path.{fun_ext}
use Rattle.base.specs.Among.{◌∈◌, All}
use Rattle.actions.specs.Actions.{Act}
use Rattle.slots.specs.declared.Slot.{Slot}
use Rattle.slots.specs.declared.Vote.{Vote}
use Rattle.slots.specs.Slots.{null_slot}
use Rattle.decide.specs.declared.Scalars.{Scalars}
use Rattle.decide.specs.Scalars.{leads}
use Rattle.window.specs.declared.Window.{Window}
use Rattle.window.specs.Window.{grown}
use Rattle.window.specs.Places.{filled_long, filled_most}
use Rattle.window.specs.ByPlace.{at_place, grown_at}
use Rattle.replica.specs.declared.Replica.{Replica}
use Rattle.replica.specs.Record.{Outcome, kept as kept_as}
use Rattle.replica.specs.Step.{Call}
use Rattle.agreement.specs.BySlot.{numbered, numbered_at, by_place}
use Rattle.agreement.specs.Theorem.{commit_entry}
use Rattle.agreement.specs.Frame.{Cell, cell, View, view, Owns, Clean, ActOk, SlotStep, low, kept, Frame}

-- ── of a replica alone ──
pub record GoodSlot (sc : Scalars) (x : Slot) : Type 0 where
  pub under : x.ballot ≤ sc.bal_max_seen
  -- while self leads, a slot at Preparing or Accepting is at the ballot that self leads by
  pub busy : leads sc ≡ true → 1 ≤ x.status → x.status < 3 → x.ballot ≡ sc.bal_max_seen
  pub tidy : Clean x.batch
  pub tidy_vote : Clean x.vote.batch

pub record Good (sc : Scalars) (w : Window) : Type 0 where
  pub small : sc.id < 255
  pub sent : leads sc ≡ true → sc.bal_prep_sent ≡ sc.bal_max_seen
  pub own : leads sc ≡ true → Owns sc.id sc.bal_max_seen
  pub wide : length w.slots ≡ 64
  pub short : w.len ≤ 64
  pub each : (i : ℕ) → GoodSlot sc (at_place w i)

-- a call keeps to the frame and leaves a good replica
pub record StepOk (v : View) (c : Call) (n : ℕ) (sc' : Scalars) (w' : Window) (acts : List Act) : Type 0 where
  pub good : Good sc' w'
  pub frame : Frame v c n (view sc' w') acts

abbrev pub Ok : Replica → Call → Outcome → Type 0
Ok r c o = StepOk (view r.sc r.window) c o.answer o.replica.sc o.replica.window o.actions

abbrev pub GoodReplica : Replica → Type 0
GoodReplica r = Good r.sc r.window

-- ── the numbers ──
pub record Heads (sc sc' : Scalars) : Type 0 where
  pub id : sc'.id ≡ sc.id
  pub start : sc'.start ≡ sc.start
  pub mono : sc.bal_max_seen ≤ sc'.bal_max_seen
  pub lead : leads sc' ≡ true → ((leads sc ≡ true) × (sc'.bal_max_seen ≡ sc.bal_max_seen)) ⊎ (sc.bal_max_seen < sc'.bal_max_seen)
  pub sent : leads sc' ≡ true → sc'.bal_prep_sent ≡ sc'.bal_max_seen
  pub own : leads sc' ≡ true → Owns sc'.id sc'.bal_max_seen

-- who leads and the ballots stay
pub record Same (sc sc' : Scalars) : Type 0 where
  pub id : sc'.id ≡ sc.id
  pub start : sc'.start ≡ sc.start
  pub leader : sc'.leader ≡ sc.leader
  pub sent : sc'.bal_prep_sent ≡ sc.bal_prep_sent
  pub seen : sc'.bal_max_seen ≡ sc.bal_max_seen

pub Same-self : (sc : Scalars) → Same sc sc
Same-self sc = record { id = refl; start = refl; leader = refl; sent = refl; seen = refl }

pub Same-leads : {sc sc' : Scalars} → Same sc sc' → leads sc' ≡ true → leads sc ≡ true
Same-leads {sc} {sc'} q z = eq-eqb sc.leader sc.id (sym q.leader ∙ eqb-true sc'.leader sc'.id z ∙ q.id)

pub Heads-Same : {sc sc' : Scalars} {w : Window} → Good sc w → Same sc sc' → Heads sc sc'
Heads-Same {sc} {sc'} g q =
    record {
      id = q.id;
      start = q.start;
      mono = omega arith;
      lead = λ z. inl (Same-leads q z, q.seen);
      sent = λ z. omega (arith, g.sent (Same-leads q z));
      own = λ z. omega (arith, g.own (Same-leads q z));
    }

pub good_same : {sc sc' : Scalars} {x : Slot} → Same sc sc' → GoodSlot sc x → GoodSlot sc' x
good_same q k =
    record {
      under = omega (arith, k.under);
      busy = λ z a b. omega (arith, k.busy (Same-leads q z) a b);
      tidy = k.tidy;
      tidy_vote = k.tidy_vote;
    }

-- ── one slot ──
pub record Turned (v : View) (sc' : Scalars) (v' : View) (acts : List Act) (s : ℕ) (x y : Slot) : Type 0 where
  pub good : GoodSlot sc' y
  pub step : SlotStep v v' acts s (cell x) (cell y)
  pub rise : x.status < 3 → 3 ≤ y.status → commit_entry s y.ballot ∈ acts

-- the parts of a slot that the frame and `Good` look at stay
pub record Like (x y : Slot) : Type 0 where
  pub status : y.status ≡ x.status
  pub ballot : y.ballot ≡ x.ballot
  pub batch : y.batch ≡ x.batch
  pub vote : y.vote ≡ x.vote

pub Like-self : (x : Slot) → Like x x
Like-self x = record { status = refl; ballot = refl; batch = refl; vote = refl }

pub good_like : {sc : Scalars} {x y : Slot} → GoodSlot sc x → Like x y → GoodSlot sc y
good_like {sc} {x} {y} k l =
    record {
      under = omega (arith, k.under);
      busy = λ z a b. l.ballot ∙ k.busy z (omega (arith, l.status)) (omega (arith, l.status));
      tidy = subst Clean (sym l.batch) k.tidy;
      tidy_vote = subst (λ (u : Vote). Clean u.batch) (sym l.vote) k.tidy_vote;
    }

low? : (n : ℕ) → (n < 2) ⊎ (2 ≤ n)
low? n = go (ltb n 2) refl
  where
    go : (t : Bool) → ltb n 2 ≡ t → (n < 2) ⊎ (2 ≤ n)
    go true e = inl (ltb-true n 2 e)
    go false e = inr (ltb-false n 2 e)

pub step_like : {v v' : View} {acts : List Act} {s : ℕ} (x y : Slot) → Like x y → SlotStep v v' acts s (cell x) (cell y)
step_like {v} {v'} {acts} {s} x y l = go (low? x.status)
  where
    go : (x.status < 2) ⊎ (2 ≤ x.status) → SlotStep v v' acts s (cell x) (cell y)
    go (inl h) = low h (omega (arith, l.status))
    go (inr h) = kept h (λ e. sym l.status ∙ e) (record { on = omega (arith, l.status); at = l.ballot; val = l.batch })

pub Turned-Like : {v v' : View} {sc' : Scalars} {acts : List Act} {s : ℕ} (x y : Slot) → GoodSlot sc' x → Like x y → Turned v sc' v' acts s x y
Turned-Like x y k l = record { good = good_like k l; step = step_like x y l; rise = λ a b. absurd (omega (arith, l.status)) }

pub Turned-self : {v v' : View} {sc' : Scalars} {acts : List Act} {s : ℕ} (x : Slot) → GoodSlot sc' x → Turned v sc' v' acts s x x
Turned-self x k = Turned-Like x x k (Like-self x)

-- ── the whole ──
module _ (sc : Scalars) (w : Window) (c : Call) (n : ℕ) (sc' : Scalars) (w' : Window) (acts : List Act) where
  abbrev pub Each : Type 0
  Each = (i : ℕ) → Turned (view sc w) sc' (view sc' w') acts (sc.start + i) (at_place w i) (at_place w' i)

  pub assemble : Good sc w → Heads sc sc' → length w'.slots ≡ 64 → w'.len ≤ 64 → Each → All (ActOk (view sc w) c (view sc' w') acts) acts
      → ((n ≡ 0 → ⊥) → acts ≡ []) → StepOk (view sc w) c n sc' w' acts
  assemble g h wide short e said quiet =
      record {
        good = record { small = omega (arith, g.small, h.id); sent = h.sent; own = h.own; wide = wide; short = short; each = λ i. (e i).good };
        frame = record {
          same = h.id;
          fixed = h.start;
          mono = h.mono;
          lead = h.lead;
          slot = λ s.
              subst (λ (k : ℕ). SlotStep (view sc w) (view sc' w') acts s (cell (numbered sc.start w s)) (cell (numbered k w' s))) (sym h.start)
              (by_place (λ (s : ℕ) (x y : Slot). SlotStep (view sc w) (view sc' w') acts s (cell x) (cell y)) sc.start w w' (λ s. low (omega arith) (omega arith))
              (λ i. (e i).step) s);
          rise = λ s.
              subst (λ (k : ℕ). (numbered sc.start w s).status < 3 → 3 ≤ (numbered k w' s).status → commit_entry s (numbered k w' s).ballot ∈ acts) (sym h.start)
              (by_place (λ (s : ℕ) (x y : Slot). x.status < 3 → 3 ≤ y.status → commit_entry s y.ballot ∈ acts) sc.start w w' (λ s _ z. absurd (omega arith))
              (λ i. (e i).rise) s);
          said = said;
          quiet = quiet;
        };
      }

-- what holds of the slot at a place holds of it by its number
pub at_number : (P : Cell → Type 0) (start : ℕ) (w : Window) (s i : ℕ) → s ≡ start + i → P (cell (at_place w i)) → P (cell (numbered start w s))
at_number P start w s i e h = subst (λ (k : ℕ). P (cell (numbered start w k))) (sym e) (subst (λ (x : Slot). P (cell x)) (sym (numbered_at start w i)) h)

-- ── views that are one ──
pub view-Like : (sc sc' : Scalars) (w w' : Window) → Same sc sc' → ((i : ℕ) → Like (at_place w i) (at_place w' i)) → view sc' w' ≡ view sc w
view-Like sc sc' w w' q l = λ k. record { me = q.id k; start = q.start k; leading = leading k; seen = q.seen k; slot = slots k }
  where
    leading : leads sc' ≡ leads sc
    leading = λ k. eqb (q.leader k) (q.id k)

    slots : ◌≡◌ {A = ℕ → Cell} (λ s. cell (numbered sc'.start w' s)) (λ s. cell (numbered sc.start w s))
    slots =
        fun_ext (λ (s : ℕ).
        subst (λ (k : ℕ). cell (numbered k w' s) ≡ cell (numbered sc.start w s)) (sym q.start)
        (by_place (λ (s : ℕ) (x y : Slot). cell y ≡ cell x) sc.start w w' (λ s. refl)
        (λ i k. record { status = (l i).status k; ballot = (l i).ballot k; batch = (l i).batch k }) s))

-- ── the log grows by null slots ──
pub record Grew (w w' : Window) : Type 0 where
  pub each : (i : ℕ) → at_place w' i ≡ at_place w i
  pub wide : length w'.slots ≡ 64
  pub short : w'.len ≤ 64

pub grew : {sc : Scalars} (w : Window) → Good sc w → (n : ℕ) → n ≤ 64 → Grew w (grown w n)
grew w g n h = record { each = λ i. grown_at w n i (omega (arith, g.wide)); wide = filled_long null_slot w n ∙ g.wide; short = filled_most null_slot w n 64 g.short h }

pub Good-Grew : {sc : Scalars} {w w' : Window} → Good sc w → Grew w w' → Good sc w'
Good-Grew {sc} {w} {w'} g q =
    record { small = g.small; sent = g.sent; own = g.own; wide = q.wide; short = q.short; each = λ i. subst (GoodSlot sc) (sym (q.each i)) (g.each i) }

pub Grew-ok : (sc : Scalars) (w w' : Window) (c : Call) (n : ℕ) (sc'' : Scalars) (w'' : Window) (acts : List Act) → Grew w w' → StepOk (view sc w') c n sc'' w'' acts
    → StepOk (view sc w) c n sc'' w'' acts
Grew-ok sc w w' c n sc'' w'' acts q k =
    subst (λ (v : View). StepOk v c n sc'' w'' acts)
    (view-Like sc sc w w' (Same-self sc) (λ i. subst (λ (x : Slot). Like (at_place w i) x) (sym (q.each i)) (Like-self (at_place w i)))) k

-- ── refused or ignored ──
pub kept_ok : (r : Replica) (c : Call) → GoodReplica r → (n : ℕ) → Ok r c (kept_as n r)
kept_ok r c g n =
    assemble r.sc r.window c n r.sc r.window [] g (Heads-Same g (Same-self r.sc)) g.wide g.short
    (λ i. Turned-self (at_place r.window i) (g.each i)) tt (λ _. refl)
