-- Of `Covered`: a PrepareReply that a strict leader hears, also its own, keeps whoever is counted covered, and its Accepts rest on a majority.
use Rattle.std.specs.Prelude.{◌≡◌, refl, false, List, [], ◌∷◌, ◌⊎◌, ℕ, ◌+◌, ◌≤◌, ◌<◌, leb, eqb}
use Rattle.std.proofs.Common.{sym, ap, subst, ◌∙◌, inl, inr, arith, leb-true, eqb-true}
use Rattle.std.proofs.Math.Bool.{true}
use mathlib.Core.List.Memᴰ
use Rattle.std.proofs.lemmas.Bool.{not-false}
use Rattle.base.specs.Pick.{pick_both, pick_cases, decide, tests}
use Rattle.base.specs.Among.{◌∈◌, All, All-in}
use Rattle.base.specs.Gather.{gather_in}
use Rattle.members.specs.Sets.{has, insert, fits_group}
use Rattle.batch.specs.declared.Batch.{Batch}
use Rattle.actions.specs.declared.Action.TheVariants.{AcceptData}
use Rattle.actions.specs.Actions.{Act, act}
use Rattle.slots.specs.declared.Slot.{Slot}
use Rattle.slots.specs.Slots.{preparing, entered_slot}
use Rattle.decide.specs.declared.Scalars.{Scalars}
use Rattle.decide.specs.declared.Reply.{Reply}
use Rattle.decide.specs.Scalars.{strict, with_prepared}
use Rattle.decide.specs.Decide.{proposal}
use Rattle.window.specs.declared.Window.{Window}
use Rattle.window.specs.Window.{slot_at}
use Rattle.window.specs.Acts.{enter_acts}
use Rattle.window.specs.Counting.{lacking, counts}
use Rattle.window.specs.ByPlace.{at_place, at_here, at_past, put_cases, put_keeps, sweep_keeps}
use Rattle.replica.specs.declared.Replica.{Replica}
use Rattle.replica.specs.Record.{place, number}
use Rattle.laws.specs.OfScalars.{fallen_ways}
use Rattle.laws.specs.Counts.{counted_long}
use Rattle.laws.specs.Appended.{appended_cases, appended_low, appended_most}
use Rattle.laws.specs.WaysReply.{adopts_vote, grown_window, reply_window, reply_slot, heard_window, counted_window, counts_now, is_full, Answers, reply_place}
use Rattle.voting.specs.Paper.{Majority}
use Rattle.voting.specs.Windows.{Whole}
use Rattle.voting.specs.Keeping.{entered_keeps, heard_keeps}
use Rattle.voting.specs.Claims.{core}
use Rattle.voting.specs.Replying.{entered_window, enters_acts, reply_acts, Counts, ReplyWays}
use Rattle.voting.specs.Quorums.{kind_of, ballot_in}
use Rattle.voting.specs.Backing.{Standing, stands, insert_or, noted_same, heard_same, entered_same}
use Rattle.voting.specs.Majorities.{standing-insert, full_majority}
use Rattle.voting.specs.Covered.{Came, trigger_place, acks_of, notes_of, counted_set, CoveredTo, Covered, After, Onward, After-none, Onward-then, put_onward, sweep-Onward, covered_to, sets_of, Covered-still, insert_keeps, insert-Majority, counts_why, counts_covered, Rests, accept_of, MakesTurn, NoAccept, quiet, slot_in, promises_none, notes_on, Covered-on}

-- ── a PrepareReply, also a leader's own ──
module _ (R : Came) (r : Replica) (peer : ℕ) (m : Reply) (h : Whole r.window) (n : r.window.len ≤ 64) (kind : strict r.sc ≡ true)
    (small : r.sc.group ≤ 9) (member : peer < r.sc.group) (fits : (j : ℕ) → j < r.window.len → fits_group (stands r j).prepare r.sc.group ≡ true)
    (by : Answers r m → R r.sc.bal_prep_sent peer m.slot m.endprep) (c : Covered R r.sc r.window) where
  -- "A reply with another trigger is ignored"
  trigger_is : Answers r m → m.trigger ≡ r.sc.lead_trigger
  trigger_is f = eqb-true _ _ (not-false _ (rw kind at f.own))

  noted_on : Answers r m → Onward r.window (reply_window r peer m)
  noted_on f =
      Onward-then
      (record {
        grows = appended_low r (place r.sc m.slot) (place r.sc m.trigger);
        slots = λ k l.
            appended_cases (After (at_place r.window k)) r (place r.sc m.slot) (place r.sc m.trigger) k (let u = reply_place r m f in omega arith)
            (λ z. absurd (omega arith)) (After-none (at_place r.window k));
      })
      (put_onward (grown_window r m) (place r.sc m.slot) _
      (record { before = λ e. e; notes = λ q e. pick_both (λ (x : ℕ). has x q ≡ true) (strict r.sc) (insert_keeps _ peer q e) e }))

  heard_on : Onward (reply_window r peer m) (heard_window r peer m)
  heard_on =
      put_onward (reply_window r peer m) (place r.sc m.slot) _
      (pick_both (After (reply_slot r peer m)) (adopts_vote (reply_slot r peer m) m) (record { before = λ e. e; notes = λ q e. e }) (After-none (reply_slot r peer m)))

  counted_goes_on : Onward (reply_window r peer m) (counted_window r peer m)
  counted_goes_on = Onward-then heard_on (put_onward (heard_window r peer m) (place r.sc m.trigger) _ (record { before = λ e. e; notes = λ q e. e }))

  entered_on : Answers r m → Onward (counted_window r peer m) (entered_window r peer m)
  entered_on f =
      sweep-Onward (λ k s. entered_slot (strict r.sc) m.ballot s) (place r.sc m.trigger) (counted_window r peer m).len (counted_window r peer m)
      (let y = appended_most r (place r.sc m.slot) (place r.sc m.trigger) 64 n (reply_place r m f) in let z = counted_long r peer m in omega arith)
      (λ k x. pick_both (After x) (eqb x.status preparing) (record { before = λ e. absurd (omega arith); notes = λ q e. e }) (After-none x))

  wide_acks : Answers r m → (i : ℕ) → acks_of (at_place (reply_window r peer m) i) ≡ acks_of (at_place r.window i)
  wide_acks f i =
      ap (λ (x : Standing). x.prepare) (noted_same r peer m i)
      ∙ appended_cases (λ (x : Slot). acks_of x ≡ acks_of (at_place r.window i)) r (place r.sc m.slot) (place r.sc m.trigger) i (let u = reply_place r m f in omega arith)
      (λ l. ap acks_of (sym (at_past r.window i l))) refl

  heard_acks : Answers r m → (i : ℕ) → acks_of (at_place (heard_window r peer m) i) ≡ acks_of (at_place r.window i)
  heard_acks f i = ap (λ (x : Standing). x.prepare) (heard_same r peer m i) ∙ wide_acks f i

  -- one more is noted, at the reply's slot
  noted_or : Answers r m → (i p : ℕ) → has (notes_of (at_place (reply_window r peer m) i)) p ≡ true
      → (has (notes_of (at_place r.window i)) p ≡ true) ⊎ ((e : ℕ) × R r.sc.bal_prep_sent p (number r.sc i) e)
  noted_or f i p =
      put_cases (grown_window r m) (place r.sc m.slot) _
      (λ (x : Slot). has (notes_of x) p ≡ true → (has (notes_of (at_place r.window i)) p ≡ true) ⊎ ((e : ℕ) × R r.sc.bal_prep_sent p (number r.sc i) e)) i
      (λ e l.
      let here : notes_of (slot_at (grown_window r m) (place r.sc m.slot)) ≡ notes_of (at_place r.window i) =
      ap notes_of (sym (at_here (grown_window r m) (place r.sc m.slot) (omega arith))) ∙ ap (λ (k : ℕ). notes_of (at_place (grown_window r m) k)) (sym e) ∙ wide i in
      pick_both
      (λ (x : ℕ). has x p ≡ true → (has (notes_of (at_place r.window i)) p ≡ true) ⊎ ((e : ℕ) × R r.sc.bal_prep_sent p (number r.sc i) e)) (strict r.sc)
      (λ z. one (omega (arith, e, f.low, f.from)) here (insert_or _ peer p z)) (λ z. inl (subst (λ (x : ℕ). has x p ≡ true) here z)))
      (λ out z. inl (subst (λ (x : ℕ). has x p ≡ true) (wide i) z))
    where
      wide : (i : ℕ) → notes_of (at_place (grown_window r m) i) ≡ notes_of (at_place r.window i)
      wide i =
          appended_cases (λ (x : Slot). notes_of x ≡ notes_of (at_place r.window i)) r (place r.sc m.slot) (place r.sc m.trigger) i (let u = reply_place r m f in omega arith)
          (λ l. ap notes_of (sym (at_past r.window i l))) refl

      one : {x : ℕ} → m.slot ≡ number r.sc i → x ≡ notes_of (at_place r.window i) → (p ≡ peer) ⊎ (has x p ≡ true)
          → (has (notes_of (at_place r.window i)) p ≡ true) ⊎ ((e : ℕ) × R r.sc.bal_prep_sent p (number r.sc i) e)
      one e h (inl q) = inr (m.endprep, subst (λ (y : ℕ). R r.sc.bal_prep_sent y (number r.sc i) m.endprep) (sym q) (subst (λ (y : ℕ). R r.sc.bal_prep_sent peer y m.endprep) e (by f)))
      one e h (inr z) = inl (subst (λ (y : ℕ). has y p ≡ true) h z)

  -- and none by what follows
  noted_as : Answers r m → (v : Window) → ((i : ℕ) → notes_of (at_place v i) ≡ notes_of (at_place (reply_window r peer m) i)) → (i p : ℕ) → has (notes_of (at_place v i)) p ≡ true
      → (has (notes_of (at_place r.window i)) p ≡ true) ⊎ ((e : ℕ) × R r.sc.bal_prep_sent p (number r.sc i) e)
  noted_as f v same i p z = noted_or f i p (subst (λ (x : ℕ). has x p ≡ true) (same i) z)

  heard_notes : (i : ℕ) → notes_of (at_place (heard_window r peer m) i) ≡ notes_of (at_place (reply_window r peer m) i)
  heard_notes i = put_keeps notes_of (reply_window r peer m) (place r.sc m.slot) i _ (heard_keeps notes_of (reply_slot r peer m) m refl)

  counted_notes : (i : ℕ) → notes_of (at_place (counted_window r peer m) i) ≡ notes_of (at_place (reply_window r peer m) i)
  counted_notes i = put_keeps notes_of (heard_window r peer m) (place r.sc m.trigger) i _ refl ∙ heard_notes i

  -- one more is counted
  counted_acks : Answers r m → counted_set r.sc (counted_window r peer m) ≡ insert (counted_set r.sc r.window) peer
  counted_acks f =
      subst (λ (t : ℕ). acks_of (at_place (counted_window r peer m) (place r.sc t)) ≡ insert (acks_of (at_place r.window (place r.sc t))) peer) (trigger_is f)
      (ap (λ (x : Standing). x.prepare) (sym (entered_same r peer m (place r.sc m.trigger))) ∙ standing-insert r peer m h n member fits f)

  -- what is tested does not look at the peer accept table
  counts_now_lem : counts_now r peer m ≡ true → counts r.sc (reply_window r peer m) (place r.sc m.trigger) peer m ≡ true
  unfolding counts
  counts_now_lem =
      fallen_ways
      (λ (x : Scalars). counts x (reply_window r peer m) (place r.sc m.trigger) peer m ≡ true → counts r.sc (reply_window r peer m) (place r.sc m.trigger) peer m ≡ true)
      r.sc r.bars peer m.bar (λ e. e) (λ max e. e)

  abbrev Reaches : ℕ → Type 0
  Reaches p = (e : ℕ) × CoveredTo r.sc.start r.sc.lead_trigger (counted_window r peer m) p e × ((s : ℕ) × R r.sc.bal_prep_sent p s e)

  -- who was counted is covered still
  old_covered : Answers r m → (p : ℕ) → has (counted_set r.sc r.window) p ≡ true → Reaches p
  old_covered f p z = let (e, t, x) = c.each f.leading p z in (e, covered_to (Onward-then (noted_on f) counted_goes_on) t, x)

  new_covered : Answers r m → Counts r peer m → Reaches peer
  new_covered f k = go (counts_why r.sc (reply_window r peer m) (place r.sc m.trigger) peer m kind (counts_now_lem k.now))
    where
      go : (has (slot_at (reply_window r peer m) (place r.sc m.trigger)).leader.prepare_acks peer ≡ true)
          ⊎ ((r.sc.start ≤ m.endprep) × (place r.sc m.endprep < (reply_window r peer m).len)
          × (lacking (reply_window r peer m) peer (place r.sc m.trigger) (place r.sc m.endprep + 1) ≡ false)) → Reaches peer
      go (inl z) =
          let j : ℕ = place r.sc m.trigger in
          let here = at_here (reply_window r peer m) j (let x = f.low in let y = f.logged in let w = (noted_on f).grows in omega arith) in
          old_covered f peer
          (subst (λ (t : ℕ). has (acks_of (at_place r.window (place r.sc t))) peer ≡ true) (trigger_is f)
          (subst (λ (x : ℕ). has x peer ≡ true) (sym (ap acks_of here) ∙ wide_acks f j) z))
      go (inr (a, b, d)) = (
        m.endprep,
        covered_to counted_goes_on
            (counts_covered r.sc (reply_window r peer m) peer m.endprep a b
            (subst (λ (t : ℕ). lacking (reply_window r peer m) peer (place r.sc t) (place r.sc m.endprep + 1) ≡ false) (trigger_is f) d)),
        (m.slot, by f),
      )

  counted_covered : Answers r m → Counts r peer m → Covered R (core r.sc) (counted_window r peer m)
  counted_covered f k =
      record {
        each = λ l p z. go p (insert_or (counted_set r.sc r.window) peer p (subst (λ (x : ℕ). has x p ≡ true) (counted_acks f) z));
        notes = notes_on r.sc (Onward-then (noted_on f) counted_goes_on) (noted_as f (counted_window r peer m) counted_notes) c;
        most = λ l a b. subst (Majority r.sc.group) (sym (counted_acks f)) (insert-Majority r.sc.group (counted_set r.sc r.window) peer small member (c.most l a b));
      }
    where
      go : (p : ℕ) → (p ≡ peer) ⊎ (has (counted_set r.sc r.window) p ≡ true) → Reaches p
      go p (inl e) = subst Reaches (sym e) (new_covered f k)
      go p (inr z) = old_covered f p z

  entered_sets : (i : ℕ) → sets_of (at_place (entered_window r peer m) i) ≡ sets_of (at_place (counted_window r peer m) i)
  entered_sets i =
      sweep_keeps sets_of (λ k s. entered_slot (strict r.sc) m.ballot s) (λ k s. entered_keeps sets_of (λ s n. refl) (strict r.sc) m.ballot (λ s. refl) s)
      (place r.sc m.trigger) (counted_window r peer m).len (counted_window r peer m) i

  entered_majority : Answers r m → is_full r peer m ≡ true → Majority r.sc.group (counted_set r.sc (entered_window r peer m))
  entered_majority f q =
      subst (λ (t : ℕ). Majority r.sc.group (acks_of (at_place (entered_window r peer m) (place r.sc t)))) (trigger_is f) (full_majority r peer m h n member fits f q)

  -- the slot at place k was Preparing
  enters_rest : Answers r m → Counts r peer m → is_full r peer m ≡ true → (k : ℕ) → place r.sc m.trigger ≤ k → k < (counted_window r peer m).len
      → (slot_at (counted_window r peer m) k).status ≡ preparing → Rests R (core (with_prepared r.sc m.ballot)) (entered_window r peer m) (number r.sc k) m.ballot
  enters_rest f t q k lo hi s =
      record {
        leading = f.leading;
        ballot = f.sent;
        majority = entered_majority f q;
        each = λ p z.
            go p
            ((counted_covered f t).each f.leading p
            (subst (λ (x : ℕ). has x p ≡ true) (ap (λ (x : Standing). x.prepare) (entered_same r peer m (trigger_place r.sc))) z));
      }
    where
      go : (p : ℕ) → Reaches p → ((e : ℕ) × R m.ballot p (number r.sc k) e) ⊎ ((e : ℕ) × (e < number r.sc k) × ((u : ℕ) × R m.ballot p u e))
      go p (e, d, (u, x)) = cases (decide (leb k (place r.sc e)))
        where
          cases : (leb k (place r.sc e) ≡ true) ⊎ (leb k (place r.sc e) ≡ false)
              → ((e : ℕ) × R m.ballot p (number r.sc k) e) ⊎ ((e : ℕ) × (e < number r.sc k) × ((u : ℕ) × R m.ballot p u e))
          cases (inr z) = inr (e, (let y = d.low in omega (arith, tests)), (u, subst (λ (y : ℕ). R y p u e) (sym f.sent) x))
          cases (inl z) =
              let lo' : trigger_place r.sc ≤ k = (let y = trigger_is f in omega arith) in
              let waits : (at_place (counted_window r peer m) k).status ≡ preparing = ap (λ (y : Slot). y.status) (at_here (counted_window r peer m) k hi) ∙ s in
              let (e', y) = (counted_covered f t).notes f.leading k p lo' waits (d.noted k lo' (leb-true _ _ z) waits) in
              inl (e', subst (λ (b : ℕ). R b p (number r.sc k) e') (sym f.sent) y)

  enter_one : Answers r m → Counts r peer m → is_full r peer m ≡ true → (s b : ℕ) (v : Batch) (k : ℕ) → place r.sc m.trigger ≤ k → k < (counted_window r peer m).len
      → accept_of s b v ∈ enter_acts (number r.sc k) m.ballot (slot_at (counted_window r peer m) k)
      → Rests R (core (with_prepared r.sc m.ballot)) (entered_window r peer m) s b
  enter_one f t q s b v k lo hi =
      pick_cases (λ (l : List Act). accept_of s b v ∈ l → Rests R (core (with_prepared r.sc m.ballot)) (entered_window r peer m) s b)
      (eqb (slot_at (counted_window r peer m) k).status preparing) (λ z o. two (eqb-true _ _ z) (Memᴰ.cases_cons o)) (λ z o. absurd (Memᴰ.not-nil o))
    where
      two : (slot_at (counted_window r peer m) k).status ≡ preparing
          → (accept_of s b v ≡ act (AcceptData (proposal (number r.sc k) m.ballot (slot_at (counted_window r peer m) k).batch)) (slot_at (counted_window r peer m) k).batch.keys)
          ⊎ (accept_of s b v ∈ (accept_of (number r.sc k) m.ballot (slot_at (counted_window r peer m) k).batch ∷ []))
          → Rests R (core (with_prepared r.sc m.ballot)) (entered_window r peer m) s b
      two z (inl e) = absurd (let y : ◌≡◌ {A = ℕ} 6 2 = ap kind_of e in omega arith)
      two z (inr o) =
          let e = Memᴰ.eq_of_singleton o in
          subst (λ (x : ℕ). Rests R (core (with_prepared r.sc m.ballot)) (entered_window r peer m) x b) (sym (ap slot_in e))
          (subst (λ (x : ℕ). Rests R (core (with_prepared r.sc m.ballot)) (entered_window r peer m) (number r.sc k) x) (sym (ap ballot_in e)) (enters_rest f t q k lo hi z))

  appends_none : All NoAccept (reply_acts r m)
  appends_none = promises_none r.sc.start r.sc.bal_prep_sent r.window.len (place r.sc m.slot + 1)

  enter_each : Answers r m → Counts r peer m → is_full r peer m ≡ true → (s b : ℕ) (v : Batch) → (accept_of s b v ∈ reply_acts r m) ⊎ (accept_of s b v ∈ enters_acts r peer m)
      → Rests R (core (with_prepared r.sc m.ballot)) (entered_window r peer m) s b
  enter_each f t q s b v (inl o) = absurd (All-in NoAccept appends_none o refl)
  enter_each f t q s b v (inr o) =
      go (gather_in (λ k. enter_acts (number r.sc k) m.ballot (slot_at (counted_window r peer m) k)) (place r.sc m.trigger) (counted_window r peer m).len o)
    where
      go : (k : ℕ) × (place r.sc m.trigger ≤ k) × (k < (counted_window r peer m).len) × (accept_of s b v ∈ enter_acts (number r.sc k) m.ballot (slot_at (counted_window r peer m) k))
          → Rests R (core (with_prepared r.sc m.ballot)) (entered_window r peer m) s b
      go (k, lo, hi, x) = enter_one f t q s b v k lo hi x

  pub reply_turn : ReplyWays (MakesTurn R) r peer m
  reply_turn =
      record {
        passed = λ f t. quiet (Covered-on r.sc (noted_on f) (noted_or f) c (wide_acks f (trigger_place r.sc))) appends_none;
        heard = λ f t. quiet (Covered-on r.sc (Onward-then (noted_on f) heard_on) (noted_as f (heard_window r peer m) heard_notes) c (heard_acks f (trigger_place r.sc))) appends_none;
        counted = λ f t. quiet (counted_covered f t) appends_none;
        entered = λ f t q.
            record {
              covered =
                  (let a = Covered-still (core r.sc) (entered_on f) entered_sets (counted_covered f t) in
                  record { each = a.each; notes = a.notes; most = λ l x y. entered_majority f q });
              rests = λ s b v o. enter_each f t q s b v (Memᴰ.append_cases (reply_acts r m) o);
            };
      }
