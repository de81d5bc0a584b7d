-- Prepare, Accept, AcceptReply keep to the frame.
use Rattle.std.specs.Prelude.{◌≡◌, refl, Bool, true, false, ◌&&◌, List, [], ◌∷◌, ◌++◌, ℕ, ◌+◌, ◌%◌, ◌≤◌, ◌<◌, ltb, leb, get_or}
use Rattle.std.proofs.Common.{sym, ◌∙◌, ap, subst, inr, arith, leb-true, eqb-true}
use mathlib.Core.List.Memᴰ
use Rattle.base.specs.Pick.{pick, pick_both, pick_cases, and_right, tests}
use Rattle.base.specs.Gather.{gather, All-gather}
use Rattle.base.specs.Among.{All, All-append}
use Rattle.members.specs.Ballots.{owns}
use Rattle.batch.specs.declared.Batch.{Batch}
use Rattle.batch.specs.Batches.{Made}
use Rattle.batch.specs.Batches.{empty_batch, is_batch, make_batch, first_keys}
use Rattle.actions.specs.declared.Says.{Says}
use Rattle.actions.specs.declared.Action.TheVariants.{StatusDown}
use Rattle.actions.specs.Actions.{Act, bare, says_acts}
use Rattle.slots.specs.declared.Slot.{Slot}
use Rattle.slots.specs.Slots.{put_back, prepared_slot, accepted_slot, acknowledged_slot, committed_slot, null_slot}
use Rattle.slots.specs.Statuses.{put_back_open}
use Rattle.decide.specs.declared.Scalars.{Scalars}
use Rattle.decide.specs.Scalars.{leads, strict, followed, steps_down}
use Rattle.window.specs.declared.Window.{Window}
use Rattle.window.specs.Window.{slot_at, put_slot, sweep}
use Rattle.window.specs.Acts.{promise}
use Rattle.window.specs.Places.{put_long, filled_has, sweep_long}
use Rattle.window.specs.ByPlace.{at_place, at_here, put_cases, put_at, sweep_cases}
use Rattle.replica.specs.declared.Replica.{Replica}
use Rattle.replica.specs.Record.{place, number}
use Rattle.replica.specs.Messages.{clean, down_acts, prepare_top, prepare_book, prepare_step, accept_step, accept_reply_step}
use Rattle.replica.specs.Step.{Call, call_accept}
use Rattle.laws.specs.OfScalars.{followed-Fixed, followed_seen}
use Rattle.laws.specs.Appended.{top_within}
use Rattle.laws.specs.OfDecide.{accepts}
use Rattle.laws.specs.WaysMessages.{prepare_window, prepare_step_ways, accept_window, accept_step_ways, accept_reply_step_ways}
use Rattle.agreement.specs.Theorem.{accept_entry, commit_entry}
use Rattle.agreement.specs.Frame.{Cell, cell, View, view, Owns, Clean, Holds, told, Marked, ActOk, kept, wrote, cleared}
use Rattle.agreement.specs.Good.{GoodSlot, Good, StepOk, Ok, GoodReplica, Heads, Same, Same-self, Heads-Same, good_same, Turned, Like, Turned-Like, Turned-self, Each, assemble, at_number, Grew, grew, Good-Grew, Grew-ok, kept_ok}

-- ── batches ──
pick_twice : {A : Type 0} (t : Bool) (a b : A) → pick t (pick t a b) b ≡ pick t a b
pick_twice true a b = refl
pick_twice false a b = refl

first_first : (n : ℕ) (l : List ℕ) → first_keys n (first_keys n l) ≡ first_keys n l
first_first n l = λ k. once 0 k ∷ once 1 k ∷ once 2 k ∷ once 3 k ∷ once 4 k ∷ once 5 k ∷ once 6 k ∷ once 7 k ∷ []
  where
    once : (i : ℕ) → pick (ltb i n) (pick (ltb i n) (get_or l i 0) 0) 0 ≡ pick (ltb i n) (get_or l i 0) 0
    once i = pick_twice (ltb i n) (get_or l i 0) 0

-- a batch that went through `clean` stays what it is
pub clean-clean : (b : Batch) → Clean (clean b)
unfolding make_batch
clean-clean b =
    pick_cases (λ (z : Made). Clean z.batch) (is_batch b.id b.count)
    (λ e.
    subst
    (λ (t : Bool).
    (pick {A = Made} t (record { answer = 0; batch = record { id = b.id; count = b.count; keys = first_keys b.count (first_keys b.count b.keys) } })
    (record { answer = 10; batch = empty_batch })).batch
    ≡ record { id = b.id; count = b.count; keys = first_keys b.count b.keys })
    (sym e) (λ k. record { id = b.id; count = b.count; keys = first_first b.count b.keys k }))
    (λ e. refl)

-- ── following another's ballot ──
module _ (sc : Scalars) (w : Window) (g : Good sc w) (peer ballot : ℕ) (o : Owns peer ballot) (d : peer ≡ sc.id → ⊥) (l : sc.bal_max_seen ≤ ballot) where
  pub follow_seen : (followed sc peer ballot).bal_max_seen ≡ ballot
  follow_seen = followed_seen sc peer ballot l

  pub follow_not : leads (followed sc peer ballot) ≡ true → ⊥
  follow_not =
      pick_cases (λ (z : Scalars). leads z ≡ true → ⊥) (ltb sc.bal_max_seen ballot)
      (λ e h. d (eqb-true peer sc.id h))
      (λ e h. d (omega (arith, tests, g.own h)))

  pub follow_heads : Heads sc (followed sc peer ballot)
  follow_heads =
      record {
        id = (followed-Fixed sc peer ballot).id;
        start = (followed-Fixed sc peer ballot).start;
        mono = omega (arith, follow_seen);
        lead = λ z. absurd (follow_not z);
        sent = λ z. absurd (follow_not z);
        own = λ z. absurd (follow_not z);
      }

  pub follow_not_own : Owns sc.id (followed sc peer ballot).bal_max_seen → ⊥
  follow_not_own h = d (omega (arith, follow_seen))

  -- a slot that is not touched, and one that is put to Preparing or Accepting at the ballot
  pub follow_slot : (x : Slot) → GoodSlot sc x → GoodSlot (followed sc peer ballot) x
  follow_slot x k = record { under = omega (arith, follow_seen, k.under); busy = λ z. absurd (follow_not z); tidy = k.tidy; tidy_vote = k.tidy_vote }

-- ── the status that Prepare and Accept give, in both kinds ──
never_two : (kind : Bool) (x : Slot) → put_back kind 1 x ≡ 2 → ⊥
never_two kind x =
    pick_cases (λ (n : ℕ). n ≡ 2 → ⊥) (kind && leb 3 x.status) (λ t z. omega (arith, leb-true 3 x.status (and_right kind (leb 3 x.status) t))) (λ _ z. omega arith)

at_least_two : (kind : Bool) (x : Slot) → 2 ≤ put_back kind 2 x
at_least_two kind x =
    pick_cases (λ (n : ℕ). 2 ≤ n) (kind && leb 3 x.status) (λ t. omega (arith, leb-true 3 x.status (and_right kind (leb 3 x.status) t))) (λ _. omega arith)

-- ── Prepare ──
module _ (r : Replica) (c : Call) (w : Window) (from peer ballot : ℕ) (g : GoodReplica r) (q : Grew r.window w) (o : Owns peer ballot) (d : peer ≡ r.sc.id → ⊥)
    (l : r.sc.bal_max_seen ≤ ballot) (here : from < w.len) where
  gw : Good r.sc w
  gw = Good-Grew g q

  abbrev pub sc' : Scalars
  sc' = followed r.sc peer ballot

  abbrev pub w' : Window
  w' = sweep (λ i s. prepared_slot (strict r.sc) ballot (prepare_book r.sc w from peer) s) from (prepare_top w from + 1) w

  abbrev pub acts : List Act
  acts = down_acts r.sc ballot ++ gather (λ i. promise (number r.sc i) ballot ∷ []) from (prepare_top w from + 1)

  prepared_each : Each r.sc w c 0 sc' w' acts
  prepared_each i =
      sweep_cases (λ i s. prepared_slot (strict r.sc) ballot (prepare_book r.sc w from peer) s) from (prepare_top w from + 1) w
      (Turned (view r.sc w) sc' (view sc' w') acts (r.sc.start + i) (at_place w i)) i (omega (arith, q.wide, q.short))
      (λ _ _ _.
      record {
        good = record {
          under = omega (arith, follow_seen r.sc w gw peer ballot o d l);
          busy = λ z. absurd
              (follow_not r.sc w gw peer ballot o d l z);
          tidy = (gw.each i).tidy;
          tidy_vote = (gw.each i).tidy_vote;
        };
        step = cleared (never_two (strict r.sc) (at_place w i)) (inr (follow_not_own r.sc w gw peer ballot o d l));
        rise = λ a z. absurd (omega (arith, put_back_open (at_place w i) (strict r.sc) 1 a));
      })
      (λ _. Turned-self (at_place w i) (follow_slot r.sc w gw peer ballot o d l (at_place w i) (gw.each i)))

  prepared_ok : StepOk (view r.sc r.window) c 0 sc' w' acts
  prepared_ok =
      Grew-ok r.sc r.window w c 0 sc' w' acts q
      (assemble r.sc w c 0 sc' w' acts gw (follow_heads r.sc w gw peer ballot o d l)
      (sweep_long (λ i s. prepared_slot (strict r.sc) ballot (prepare_book r.sc w from peer) s) from (prepare_top w from + 1) w ∙ q.wide) q.short prepared_each
      (All-append (ActOk (view r.sc w) c (view sc' w') acts) (down_acts r.sc ballot) _
      (pick_both (All (ActOk (view r.sc w) c (view sc' w') acts)) (steps_down r.sc ballot) ((tt, tt), tt) tt)
      (All-gather (λ i. promise (number r.sc i) ballot ∷ []) (ActOk (view r.sc w) c (view sc' w') acts) from (prepare_top w from + 1)
      (λ i a b. ((sym (follow_seen r.sc w gw peer ballot o d l), ((omega arith, omega (arith, top_within w from here, q.short)), refl)), tt))))
      (λ z. absurd (z refl)))

pub owns-owns : (ballot peer : ℕ) → owns ballot peer ≡ true → Owns peer ballot
owns-owns ballot peer e = eqb-true (ballot % 256) (peer + 1) e

pub prepare_step-Ok : (r : Replica) (c : Call) → GoodReplica r → (room peer trigger ballot : ℕ) → Ok r c (prepare_step r room peer trigger ballot)
prepare_step-Ok r c g room peer trigger ballot =
    prepare_step_ways (Ok r c) r room peer trigger ballot (λ n _. kept_ok r c g n)
    (λ f. prepared_ok r c (prepare_window r trigger) (place r.sc trigger) peer ballot g (grew r.window g (place r.sc trigger + 1) (omega (arith, f.low, f.high)))
    (owns-owns ballot peer f.owned) f.peer_is.other f.seen (omega (arith, filled_has null_slot r.window (place r.sc trigger + 1))))

-- ── Accept ──
module _ (sc : Scalars) (w : Window) (c : Call) (g : Good sc w) (peer slot ballot i : ℕ) (m : Batch) (is : c ≡ call_accept peer slot ballot m) (o : Owns peer ballot)
    (d : peer ≡ sc.id → ⊥) (l : sc.bal_max_seen ≤ ballot) (at : slot ≡ sc.start + i) (h : i < w.len) where
  abbrev pub accepted : Slot
  accepted = accepted_slot (strict sc) peer ballot (clean m) (slot_at w i)

  accepted-Each : (down : List Act) → Each sc w c 0 (followed sc peer ballot) (put_slot w i accepted) (down ++ (accept_entry slot ballot (clean m) ∷ []))
  accepted-Each down k =
      put_cases w i accepted
      (Turned (view sc w) (followed sc peer ballot) (view (followed sc peer ballot) (put_slot w i accepted)) (down ++ (accept_entry slot ballot (clean m) ∷ []))
      (sc.start + k) (at_place w k)) k
      (λ e _.
      record {
        good = record {
          under = omega (arith, follow_seen sc w g peer ballot o d l);
          busy = λ z. absurd
              (follow_not sc w g peer ballot o d l z);
          tidy = clean-clean m;
          tidy_vote = clean-clean m;
        };
        step = wrote (at_least_two (strict sc) (slot_at w i)) (Memᴰ.append_right down (Memᴰ.head (ap (λ (z : ℕ). accept_entry z ballot (clean m)) (omega arith))));
        rise = λ a z. absurd (omega (arith, put_back_open (slot_at w i) (strict sc) 2 (subst (λ (x : Slot). x.status < 3) (ap (at_place w) e ∙ at_here w i h) a)));
      })
      (λ _. Turned-self (at_place w k) (follow_slot sc w g peer ballot o d l (at_place w k) (g.each k)))

  accepted_held : Holds ((view (followed sc peer ballot) (put_slot w i accepted)).slot slot) ballot (clean m)
  accepted_held =
      at_number (λ (x : Cell). Holds x ballot (clean m)) (followed sc peer ballot).start (put_slot w i accepted) slot i
      (omega (arith, (followed-Fixed sc peer ballot).start))
      (subst (λ (y : Slot). Holds (cell y) ballot (clean m)) (sym (put_at w i accepted h (omega (arith, g.wide, g.short))))
      (record { on = at_least_two (strict sc) (slot_at w i); at = refl; val = refl }))

  accepted_ok : (down : List Act) → ((v : View) (c : Call) (v' : View) (all : List Act) → All (ActOk v c v' all) down)
      → StepOk (view sc w) c 0 (followed sc peer ballot) (put_slot w i accepted) (down ++ (accept_entry slot ballot (clean m) ∷ []))
  accepted_ok down plain =
      assemble sc w c 0 (followed sc peer ballot) (put_slot w i accepted) (down ++ (accept_entry slot ballot (clean m) ∷ [])) g (follow_heads sc w g peer ballot o d l)
      (put_long w i accepted ∙ g.wide) g.short (accepted-Each down)
      (All-append (ActOk (view sc w) c (view (followed sc peer ballot) (put_slot w i accepted)) (down ++ (accept_entry slot ballot (clean m) ∷ []))) down
      (accept_entry slot ballot (clean m) ∷ [])
      (plain (view sc w) c (view (followed sc peer ballot) (put_slot w i accepted)) (down ++ (accept_entry slot ballot (clean m) ∷ [])))
      ((record { top = sym (follow_seen sc w g peer ballot o d l); held = accepted_held; why = told peer m is refl o d }, ((omega arith, omega (arith, g.short)), clean-clean m)), tt))
      (λ z. absurd (z refl))

  told_ok : StepOk (view sc w) c 0 (followed sc peer ballot) (put_slot w i accepted) (says_acts (accepts sc (slot_at w i) peer slot ballot (clean m)).says (clean m).keys)
  told_ok =
      pick_cases (λ (s : Says). StepOk (view sc w) c 0 (followed sc peer ballot) (put_slot w i accepted) (says_acts s (clean m).keys)) (steps_down sc ballot)
      (λ _. accepted_ok (bare StatusDown ∷ []) (λ v c v' all. ((tt, tt), tt)))
      (λ _. accepted_ok [] (λ v c v' all. tt))

pub accept_step-Ok : (r : Replica) (c : Call) → GoodReplica r → (room peer slot ballot : ℕ) (b : Batch) → c ≡ call_accept peer slot ballot b
    → Ok r c (accept_step r room peer slot ballot b)
accept_step-Ok r c g room peer slot ballot b is =
    accept_step_ways (Ok r c) r room peer slot ballot b (λ n _. kept_ok r c g n)
    (λ f.
    let w : Window = accept_window r slot in
    let i : ℕ = place r.sc slot in
    let q : Grew r.window w = grew r.window g (i + 1) (omega (arith, f.low, f.high)) in
    Grew-ok r.sc r.window w c 0 (followed r.sc peer ballot) _ _ q
    (told_ok r.sc w c (Good-Grew g q) peer slot ballot i b is (owns-owns ballot peer f.owned) f.peer_is.other f.seen (omega (arith, f.low))
    (omega (arith, filled_has null_slot r.window (i + 1)))))

-- ── a slot whose status, ballot, batch and vote stay, with actions that are no entries ──
abbrev pub Plain : List Act → Type 0
Plain acts = (v : View) (c : Call) (v' : View) (all : List Act) → All (ActOk v c v' all) acts

pub Like-ok : (sc : Scalars) (w : Window) (c : Call) (sc' : Scalars) (i : ℕ) (y : Slot) (acts : List Act) → Good sc w → Same sc sc' → i < w.len → Like (slot_at w i) y
    → Plain acts → StepOk (view sc w) c 0 sc' (put_slot w i y) acts
Like-ok sc w c sc' i y acts g q h l plain =
    assemble sc w c 0 sc' (put_slot w i y) acts g (Heads-Same g q) (put_long w i y ∙ g.wide) g.short
    (λ k.
    put_cases w i y (Turned (view sc w) sc' (view sc' (put_slot w i y)) acts (sc.start + k) (at_place w k)) k
    (λ e u. Turned-Like (at_place w k) y (good_same q (g.each k)) (subst (λ (x : Slot). Like x y) (sym (ap (at_place w) e ∙ at_here w i h)) l))
    (λ _. Turned-self (at_place w k) (good_same q (g.each k))))
    (plain (view sc w) c (view sc' (put_slot w i y)) acts) (λ z. absurd (z refl))

-- ── AcceptReply, also a leader's to itself ──
module _ (sc : Scalars) (w : Window) (c : Call) (g : Good sc w) (slot i : ℕ) (at : slot ≡ sc.start + i) (h : i < w.len) where
  module _ (peer : ℕ) (is : (slot_at w i).status ≡ 2) (lead : leads sc ≡ true) where
    good_here : GoodSlot sc (slot_at w i)
    good_here = subst (GoodSlot sc) (at_here w i h) (g.each i)

    abbrev pub marked : Slot
    marked = committed_slot (acknowledged_slot peer (slot_at w i))

    marked-Each : Each sc w c 0 sc (put_slot w i marked) (commit_entry slot (slot_at w i).ballot ∷ [])
    marked-Each k =
        put_cases w i marked (Turned (view sc w) sc (view sc (put_slot w i marked)) (commit_entry slot (slot_at w i).ballot ∷ []) (sc.start + k) (at_place w k)) k
        (λ e _.
        subst (λ (x : Slot). Turned (view sc w) sc (view sc (put_slot w i marked)) (commit_entry slot (slot_at w i).ballot ∷ []) (sc.start + k) x marked)
        (sym (ap (at_place w) e ∙ at_here w i h))
        (record {
          good = record { under = good_here.under; busy = λ _ _ z. absurd (omega arith); tidy = good_here.tidy; tidy_vote = good_here.tidy_vote };
          step = kept (omega (arith, is)) (λ z. absurd (omega arith)) (record { on = omega arith; at = refl; val = refl });
          rise = λ _ _. Memᴰ.head (ap (λ (z : ℕ). commit_entry z (slot_at w i).ballot) (omega arith));
        }))
        (λ _. Turned-self (at_place w k) (g.each k))

    marked-marked : Marked ((view sc w).slot slot) ((view sc (put_slot w i marked)).slot slot) (slot_at w i).ballot sc.bal_max_seen
    marked-marked =
        at_number (λ (x : Cell). Marked x ((view sc (put_slot w i marked)).slot slot) (slot_at w i).ballot sc.bal_max_seen) sc.start w slot i at
        (at_number (λ (y : Cell). Marked (cell (at_place w i)) y (slot_at w i).ballot sc.bal_max_seen) sc.start (put_slot w i marked) slot i at
        (subst (λ (x : Slot). Marked (cell x) (cell (at_place (put_slot w i marked) i)) (slot_at w i).ballot sc.bal_max_seen) (sym (at_here w i h))
        (subst (λ (y : Slot). Marked (cell (slot_at w i)) (cell y) (slot_at w i).ballot sc.bal_max_seen) (sym (put_at w i marked h (omega (arith, g.wide, g.short))))
        (record { was = is; now = omega arith; at = refl; val = refl; says = refl; top = good_here.busy lead (omega arith) (omega arith) }))))

    pub marked_ok : StepOk (view sc w) c 0 sc (put_slot w i marked) (commit_entry slot (slot_at w i).ballot ∷ [])
    marked_ok =
        assemble sc w c 0 sc (put_slot w i marked) (commit_entry slot (slot_at w i).ballot ∷ []) g (Heads-Same g (Same-self sc)) (put_long w i marked ∙ g.wide) g.short
        marked-Each ((marked-marked, ((omega arith, omega (arith, g.short)), refl)), tt) (λ z. absurd (z refl))

  -- the member is put into the set
  pub acked_ok : (peer : ℕ) → StepOk (view sc w) c 0 sc (put_slot w i (acknowledged_slot peer (slot_at w i))) []
  acked_ok peer =
      Like-ok sc w c sc i (acknowledged_slot peer (slot_at w i)) [] g (Same-self sc) h (record { status = refl; ballot = refl; batch = refl; vote = refl }) (λ _ _ _ _. tt)

pub accept_reply_step-Ok : (r : Replica) (c : Call) → GoodReplica r → (room peer slot ballot : ℕ) → Ok r c (accept_reply_step r room peer slot ballot)
accept_reply_step-Ok r c g room peer slot ballot =
    accept_reply_step_ways (Ok r c) r room peer slot ballot (λ n _. kept_ok r c g n)
    (λ f q. acked_ok r.sc r.window c g slot (place r.sc slot) (omega (arith, f.low)) (omega (arith, f.low, f.high)) peer)
    (λ f q. marked_ok r.sc r.window c g slot (place r.sc slot) (omega (arith, f.low)) (omega (arith, f.low, f.high)) peer f.counts.status f.counts.leading)
