-- PrepareReply, also a leader's to itself, keeps to the frame: slots are appended, a vote is taken, a member is counted, and at quorum every
-- Preparing slot from the trigger on enters Accept.
use Rattle.std.specs.Prelude.{◌≡◌, Bool, true, List, [], ◌∷◌, ◌++◌, ℕ, ◌+◌, ◌≤◌, ◌<◌, eqb, length}
use Rattle.std.proofs.Math.Path.{refl}
use Rattle.std.proofs.Common.{sym, ◌∙◌, ap, subst, arith, eqb-true, eq-eqb}
use mathlib.Core.List.Memᴰ
use Rattle.base.specs.Pick.{pick_both, pick_cases, and_left}
use Rattle.base.specs.Gather.{gather, All-gather, in_gather}
use Rattle.base.specs.Among.{◌∈◌, All, All-append}
use Rattle.batch.specs.Batches.{make_batch}
use Rattle.actions.specs.Actions.{Act}
use Rattle.slots.specs.declared.Vote.{Vote}
use Rattle.slots.specs.declared.Slot.{Slot}
use Rattle.slots.specs.Slots.{preparing, noted_slot, counted_slot, entered_slot}
use Rattle.decide.specs.declared.Scalars.{Scalars}
use Rattle.decide.specs.declared.PeerBars.{PeerBars}
use Rattle.decide.specs.declared.Reply.{Reply}
use Rattle.decide.specs.Decide.{awaits_prepare}
use Rattle.decide.specs.Scalars.{leads, strict, with_peer_max, with_prepared}
use Rattle.decide.specs.Bars.{with_fallen}
use Rattle.window.specs.declared.Window.{Window}
use Rattle.window.specs.Window.{slot_at, put_slot, sweep}
use Rattle.window.specs.Acts.{promise, enter_acts}
use Rattle.window.specs.Places.{put_long, sweep_long}
use Rattle.window.specs.ByPlace.{at_place, at_here, at_past, put_cases, sweep_cases, sweep_at}
use Rattle.replica.specs.declared.Replica.{Replica}
use Rattle.replica.specs.Record.{place, number}
use Rattle.replica.specs.Messages.{appended, append_acts, reply_on, clean_reply, prepare_reply_step, appended_as}
use Rattle.replica.specs.Step.{Call}
use Rattle.laws.specs.OfScalars.{fallen_ways}
use Rattle.laws.specs.WaysReply.{adopts_vote, heard_slot, grown_window, reply_window, reply_slot, heard_window, trigger_slot, counted_window, tabled_sc, Answers, reply_on_ways, prepare_reply_step_ways, reply_place}
use Rattle.laws.specs.Appended.{appended_long, appended_low, appended_has, appended_most, appended_cases}
use Rattle.agreement.specs.Theorem.{accept_entry}
use Rattle.agreement.specs.Frame.{Cell, cell, View, view, Owns, Clean, Holds, led, ActOk, low, wrote}
use Rattle.agreement.specs.Good.{GoodSlot, Good, StepOk, Ok, GoodReplica, Same, Same-self, Same-leads, Heads-Same, good_same, Turned, Like, Like-self, good_like, step_like, Each, assemble, at_number, kept_ok}
use Rattle.agreement.specs.OfMessages.{clean-clean}

-- a slot as the parts before Accept leave it: at or above Accepting nothing that counts changes, below it stays below
pub data Calm (x y : Slot) : Type 0 where
  still : Like x y → Calm x y
  below : x.status < 2 → y.status < 2 → Calm x y

Calm-Like : {x y z : Slot} → Calm x y → Like y z → Calm x z
Calm-Like (still l) k = still (record { status = k.status ∙ l.status; ballot = k.ballot ∙ l.ballot; batch = k.batch ∙ l.batch; vote = k.vote ∙ l.vote })
Calm-Like (below a b) k = below a (omega (arith, k.status))

Calm-below : {x y : Slot} → Calm x y → y.status < 2 → x.status < 2
Calm-below (still l) h = omega (arith, l.status)
Calm-below (below a b) h = a

-- w' is what the parts so far make of w
pub record Primed (sc : Scalars) (w w' : Window) : Type 0 where
  pub good : Good sc w'
  pub calm : (i : ℕ) → Calm (at_place w i) (at_place w' i)

Turned-Calm : {v v' : View} {sc : Scalars} {acts : List Act} {s : ℕ} (x y : Slot) → GoodSlot sc y → Calm x y → Turned v sc v' acts s x y
Turned-Calm {v} {v'} {sc} {acts} {s} x y k (still l) = record { good = k; step = step_like x y l; rise = λ a b. absurd (omega (arith, l.status)) }
Turned-Calm {v} {v'} {sc} {acts} {s} x y k (below a b) = record { good = k; step = low a b; rise = λ _ z. absurd (omega arith) }

-- ── the parts ──
module _ (r : Replica) (i j : ℕ) (g : GoodReplica r) (h : leads r.sc ≡ true) (b : i < 64) where
  -- the empty batch of a null slot is clean
  new_good : GoodSlot r.sc (appended_as r j)
  unfolding make_batch
  new_good = record { under = omega (arith, g.sent h); busy = λ _ _ _. g.sent h; tidy = refl; tidy_vote = refl }

  appended-Primed : Primed r.sc r.window (appended r i j)
  appended-Primed =
      record {
        good = record {
          small = g.small;
          sent = g.sent;
          own = g.own;
          wide = appended_long r i j ∙ g.wide;
          short = appended_most r i j 64 g.short b;
          each = λ k. appended_cases (GoodSlot r.sc) r i j k (omega (arith, g.wide)) (λ _. new_good) (g.each k);
        };
        calm = λ k.
            appended_cases (Calm (at_place r.window k)) r i j k (omega (arith, g.wide))
            (λ a. below (subst (λ (x : Slot). x.status < 2) (sym (at_past r.window k a)) (omega arith)) (omega arith))
            (still (Like-self (at_place r.window k)));
      }

-- one slot below Accepting gets another batch, or its bookkeeping alone changes
put_primed : {sc : Scalars} {w w' : Window} → Primed sc w w' → (i : ℕ) (y : Slot) → i < w'.len → GoodSlot sc y → Calm (slot_at w' i) y → Primed sc w (put_slot w' i y)
put_primed {sc} {w} {w'} p i y h k c =
    record {
      good = record {
        small = p.good.small;
        sent = p.good.sent;
        own = p.good.own;
        wide = put_long w' i y ∙ p.good.wide;
        short = p.good.short;
        each = λ n. put_cases w' i y (GoodSlot sc) n (λ _ _. k) (λ _. p.good.each n);
      };
      calm = λ n.
          put_cases w' i y (Calm (at_place w n)) n
          (λ e _. both (p.calm n) (subst (λ (x : Slot). Calm x y) (sym (ap (at_place w') e ∙ at_here w' i h)) c))
          (λ _. p.calm n);
    }
  where
    both : {x z u : Slot} → Calm x z → Calm z u → Calm x u
    both a (still l) = Calm-Like a l
    both a (below q t) = below (Calm-below a q) t

-- what the numbers of the peer accept table change
tabled_same : (sc : Scalars) (b : PeerBars) (peer bar : ℕ) → Same sc (with_fallen sc b peer bar)
tabled_same sc b peer bar = fallen_ways (Same sc) sc b peer bar (Same-self sc) (λ max. record { id = refl; start = refl; leader = refl; sent = refl; seen = refl })

-- a primed log with actions that are prepare entries at the ballot led by
module _ (sc : Scalars) (w : Window) (c : Call) (g : Good sc w) (h : leads sc ≡ true) (acts : List Act)
    (said : (v' : View) (all : List Act) → v'.seen ≡ sc.bal_max_seen → All (ActOk (view sc w) c v' all) acts) where
  Primed-ok : (sc' : Scalars) (w' : Window) → Same sc sc' → Primed sc w w' → StepOk (view sc w) c 0 sc' w' acts
  Primed-ok sc' w' q p =
      assemble sc w c 0 sc' w' acts g (Heads-Same g q) p.good.wide p.good.short
      (λ i. Turned-Calm (at_place w i) (at_place w' i) (good_same q (p.good.each i)) (p.calm i))
      (said (view sc' w') acts q.seen) (λ z. absurd (z refl))

  -- every Preparing slot from place j on enters Accept
  module _ (sc' : Scalars) (kind : Bool) (w' : Window) (j ballot : ℕ) (q : Same sc sc') (p : Primed sc w w') (e : ballot ≡ sc.bal_max_seen) where
    abbrev pub entered : Window
    entered = sweep (λ i s. entered_slot kind ballot s) j w'.len w'

    abbrev pub enters : ℕ → List Act
    enters i = enter_acts (number sc i) ballot (slot_at w' i)

    abbrev pub all : List Act
    all = acts ++ gather enters j w'.len

    fits : w'.len ≤ length w'.slots
    fits = omega (arith, p.good.wide, p.good.short)

    -- what is written for a Preparing slot
    entry_in : (i : ℕ) → j ≤ i → i < w'.len → (at_place w' i).status ≡ 1 → accept_entry (sc.start + i) ballot (at_place w' i).batch ∈ all
    entry_in i a b s =
        Memᴰ.append_right acts
        (in_gather enters j w'.len i a b
        (subst (λ (x : Slot). accept_entry (sc.start + i) ballot (at_place w' i).batch ∈ enter_acts (number sc i) ballot x) (at_here w' i b)
        (rw (eq-eqb (at_place w' i).status 1 s) (Memᴰ.head refl))))

    at_top : (i : ℕ) → (at_place w' i).status ≡ 1 → (at_place w' i).ballot ≡ sc.bal_max_seen
    at_top i s = (p.good.each i).busy h (omega (arith, s)) (omega (arith, s))

    entered-Turned : (i : ℕ) → j ≤ i → i < w'.len → Turned (view sc w) sc' (view sc' entered) all (sc.start + i) (at_place w i) (entered_slot kind ballot (at_place w' i))
    entered-Turned i a b =
        pick_cases (Turned (view sc w) sc' (view sc' entered) all (sc.start + i) (at_place w i)) (eqb (at_place w' i).status preparing)
        (λ s.
        let z : (at_place w' i).status ≡ 1 = eqb-true (at_place w' i).status 1 s in
        record {
          good = record {
            under = omega (arith, at_top i z, q.seen);
            busy = λ _ _ _. at_top i z ∙ sym
                q.seen;
            tidy = (p.good.each i).tidy;
            tidy_vote = pick_both (λ (v : Vote). Clean v.batch) kind (p.good.each i).tidy (p.good.each i).tidy_vote;
          };
          step = wrote (omega arith) (subst (λ (n : ℕ). accept_entry (sc.start + i) n (at_place w' i).batch ∈ all) (e ∙ sym (at_top i z)) (entry_in i a b z));
          rise = λ _ y. absurd (omega arith);
        })
        (λ _. Turned-Calm (at_place w i) (at_place w' i) (good_same q (p.good.each i)) (p.calm i))

    entered-Each : Each sc w c 0 sc' entered all
    entered-Each i =
        sweep_cases (λ i s. entered_slot kind ballot s) j w'.len w' (Turned (view sc w) sc' (view sc' entered) all (sc.start + i) (at_place w i)) i fits
        (λ a b _. entered-Turned i a b)
        (λ _. Turned-Calm (at_place w i) (at_place w' i) (good_same q (p.good.each i)) (p.calm i))

    own : Owns sc.id ballot
    own = omega (arith, g.own h)

    entered_held : (i : ℕ) → j ≤ i → i < w'.len → (at_place w' i).status ≡ 1 → Holds ((view sc' entered).slot (sc.start + i)) ballot (at_place w' i).batch
    entered_held i a b s =
        at_number (λ (x : Cell). Holds x ballot (at_place w' i).batch) sc'.start entered (sc.start + i) i (ap (λ (n : ℕ). n + i) (sym q.start))
        (subst (λ (x : Slot). Holds (cell x) ballot (at_place w' i).batch) (sym (sweep_at (λ i s. entered_slot kind ballot s) j w'.len w' i fits a b b))
        (rw (eq-eqb (at_place w' i).status 1 s) (record { on = omega arith; at = at_top i s ∙ sym e; val = refl })))

    was_below : (i : ℕ) → (at_place w' i).status ≡ 1 → ((view sc w).slot (sc.start + i)).status < 2
    was_below i s = at_number (λ (x : Cell). x.status < 2) sc.start w (sc.start + i) i refl (Calm-below (p.calm i) (omega (arith, s)))

    entered_said : (i : ℕ) → j ≤ i → i < w'.len → All (ActOk (view sc w) c (view sc' entered) all) (enters i)
    entered_said i a b =
        subst (λ (x : Slot). All (ActOk (view sc w) c (view sc' entered) all) (enter_acts (number sc i) ballot x)) (at_here w' i b)
        (pick_cases (All (ActOk (view sc w) c (view sc' entered) all)) (eqb (at_place w' i).status preparing)
        (λ s.
        let z : (at_place w' i).status ≡ 1 = eqb-true (at_place w' i).status 1 s in (
          (record { top = e ∙ sym q.seen; held = entered_held i a b z; why = led own (was_below i z) h e }, ((omega arith, omega (arith, p.good.short)), (p.good.each i).tidy)),
          ((record { own = own; logged = entry_in i a b z; tidy = (p.good.each i).tidy }, tt), tt),
        ))
        (λ _. tt))

    entered_ok : StepOk (view sc w) c 0 sc' entered all
    entered_ok =
        assemble sc w c 0 sc' entered all g (Heads-Same g q)
        (sweep_long (λ i s. entered_slot kind ballot s) j w'.len w' ∙ p.good.wide) p.good.short entered-Each
        (All-append (ActOk (view sc w) c (view sc' entered) all) acts (gather enters j w'.len) (said (view sc' entered) all q.seen)
        (All-gather enters (ActOk (view sc w) c (view sc' entered) all) j w'.len entered_said))
        (λ z. absurd (z refl))

-- ── the call ──
-- a replica whose leader and ballots are the same
pub Good-all : {sc sc' : Scalars} {w : Window} → Same sc sc' → Good sc w → Good sc' w
Good-all {sc} {sc'} {w} q g =
    record {
      small = omega (arith, g.small, q.id);
      sent = λ z. omega (arith, q.sent, q.seen, g.sent (Same-leads q z));
      own = λ z. omega (arith, q.id, q.seen, g.own (Same-leads q z));
      wide = g.wide;
      short = g.short;
      each = λ i. good_same q (g.each i);
    }

-- the reply's slot with its vote heard
heard_primed : (r : Replica) (peer : ℕ) (m : Reply) → Clean m.vote.batch → Primed r.sc r.window (reply_window r peer m) → Primed r.sc r.window (heard_window r peer m)
heard_primed r peer m t p =
    let i : ℕ = place r.sc m.slot in
    let l = appended_has r i (place r.sc m.trigger) in
    let k : GoodSlot r.sc (reply_slot r peer m) = subst (GoodSlot r.sc) (at_here (reply_window r peer m) i l) (p.good.each i) in
    put_primed p i (heard_slot (reply_slot r peer m) m) l
    (pick_both (GoodSlot r.sc) (adopts_vote (reply_slot r peer m) m) (record { under = k.under; busy = k.busy; tidy = t; tidy_vote = k.tidy_vote }) k)
    (pick_cases (Calm (reply_slot r peer m)) (adopts_vote (reply_slot r peer m) m)
    (λ a.
    let z : (reply_slot r peer m).status ≡ 1 = eqb-true (reply_slot r peer m).status 1
    (and_left (eqb (reply_slot r peer m).status 1) _ (and_left (awaits_prepare (reply_slot r peer m) m.ballot) _ a)) in
    below (omega arith) (omega arith))
    (λ _. still (Like-self (reply_slot r peer m))))

-- and the member counted at its trigger
counted_primed : (r : Replica) (peer : ℕ) (m : Reply) → Answers r m → Primed r.sc r.window (heard_window r peer m) → Primed r.sc r.window (counted_window r peer m)
counted_primed r peer m f p =
    let i : ℕ = place r.sc m.slot in
    let j : ℕ = place r.sc m.trigger in
    let l : j < (heard_window r peer m).len = omega (arith, f.low, f.logged, appended_low r i j) in
    let k : Like (trigger_slot r peer m) (counted_slot peer (trigger_slot r peer m)) = record { status = refl; ballot = refl; batch = refl; vote = refl } in
    put_primed p j (counted_slot peer (trigger_slot r peer m)) l (good_like (subst (GoodSlot r.sc) (at_here (heard_window r peer m) j l) (p.good.each j)) k) (still k)

pub reply_on-Ok : (r : Replica) (c : Call) → GoodReplica r → (peer : ℕ) (m : Reply) → Clean m.vote.batch → Ok r c (reply_on r peer m)
reply_on-Ok r c g peer m t =
    reply_on_ways (Ok r c) r peer m (λ n _ _. kept_ok r c g n)
    (λ f a. primed f (reply_window r peer m) (wide f))
    (λ f h e. primed f (heard_window r peer m) (heard_primed r peer m t (wide f)))
    (λ f h e a. primed f (counted_window r peer m) (counted_primed r peer m f (heard_primed r peer m t (wide f))))
    (λ f h e a b.
    fallen_ways
    (λ (x : Scalars). StepOk (view r.sc r.window) c 0 (with_prepared x m.ballot) (sweep (λ i s. entered_slot (strict x) m.ballot s) j (reply_window r peer m).len (counted_window r peer m))
    (append_acts r i ++ gather (λ k. enter_acts (number x k) m.ballot (slot_at (counted_window r peer m) k)) j (reply_window r peer m).len))
    r.sc r.bars peer m.bar (enter f (with_prepared r.sc m.ballot) (record { id = refl; start = refl; leader = refl; sent = refl; seen = refl }))
    (λ max. enter f (with_prepared (with_peer_max r.sc max) m.ballot) (record { id = refl; start = refl; leader = refl; sent = refl; seen = refl })))
  where
    i : ℕ
    i = place r.sc m.slot

    j : ℕ
    j = place r.sc m.trigger

    wide : Answers r m → Primed r.sc r.window (reply_window r peer m)
    wide f =
        let p = appended-Primed r i j g f.leading (reply_place r m f) in
        let l = appended_has r i j in
        let x : Slot = slot_at (grown_window r m) i in
        let k : Like x (noted_slot (strict r.sc) peer x) = record { status = refl; ballot = refl; batch = refl; vote = refl } in
        put_primed p i (noted_slot (strict r.sc) peer x) l (good_like (subst (GoodSlot r.sc) (at_here (grown_window r m) i l) (p.good.each i)) k) (still k)

    said : Answers r m → (v' : View) (all : List Act) → v'.seen ≡ r.sc.bal_max_seen → All (ActOk (view r.sc r.window) c v' all) (append_acts r i)
    said f v' all s =
        All-gather (λ k. promise (number r.sc k) r.sc.bal_prep_sent ∷ []) (ActOk (view r.sc r.window) c v' all) r.window.len (i + 1)
        (λ k _ b. ((omega (arith, s, g.sent f.leading), ((omega arith, omega (arith, reply_place r m f)), refl)), tt))

    primed : Answers r m → (w : Window) → Primed r.sc r.window w → StepOk (view r.sc r.window) c 0 (tabled_sc r peer m) w (append_acts r i)
    primed f w p = Primed-ok r.sc r.window c g f.leading (append_acts r i) (said f) (tabled_sc r peer m) w (tabled_same r.sc r.bars peer m.bar) p

    enter : Answers r m → (sc' : Scalars) → Same r.sc sc'
        → StepOk (view r.sc r.window) c 0 sc' (sweep (λ i s. entered_slot (strict r.sc) m.ballot s) j (reply_window r peer m).len (counted_window r peer m))
        (append_acts r i ++ gather (λ k. enter_acts (number r.sc k) m.ballot (slot_at (counted_window r peer m) k)) j (reply_window r peer m).len)
    enter f sc' q =
        entered_ok r.sc r.window c g f.leading (append_acts r i) (said f) sc' (strict r.sc) (counted_window r peer m) j m.ballot q
        (counted_primed r peer m f (heard_primed r peer m t (wide f))) (f.sent ∙ g.sent f.leading)

pub prepare_reply_step-Ok : (r : Replica) (c : Call) → GoodReplica r → (room peer : ℕ) (m : Reply) → Ok r c (prepare_reply_step r room peer m)
prepare_reply_step-Ok r c g room peer m =
    prepare_reply_step_ways (Ok r c) r room peer m (λ n _ _. kept_ok r c g n) (λ f. reply_on-Ok r c g peer (clean_reply m) (clean-clean m.vote.batch))
