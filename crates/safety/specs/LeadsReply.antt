-- Of `Leads`, 02, Wish 6, (c): a PrepareReply that a strict leader hears, also its own. Who is counted was so, or counts now (`Counts`); and the slots that
-- enter Accept were Preparing as a majority was counted.
use Rattle.std.specs.Prelude.{◌≡◌, refl, false, List, [], ◌∷◌, ◌++◌, ◌⊎◌, ℕ, ◌+◌, ◌≤◌, ◌<◌, eqb}
use Rattle.std.proofs.Common.{sym, ap, subst, ◌∙◌, inl, inr, arith, eqb-true}
use Rattle.std.proofs.Math.Bool.{true}
use Rattle.std.proofs.lemmas.Bool.{not-false}
use Rattle.base.specs.Pick.{pick_both, pick_cases}
use Rattle.base.specs.Among.{All, All-in, All-append}
use Rattle.base.specs.Gather.{All-gather}
use Rattle.members.specs.Sets.{has, insert, fits_group}
use Rattle.actions.specs.Actions.{Act}
use Rattle.slots.specs.declared.Slot.{Slot}
use Rattle.slots.specs.Slots.{preparing, entered_slot, null_slot}
use Rattle.decide.specs.declared.Scalars.{Scalars}
use Rattle.decide.specs.declared.Reply.{Reply}
use Rattle.decide.specs.Scalars.{leads, strict, with_prepared}
use Rattle.decide.specs.Decide.{awaits_prepare}
use Rattle.window.specs.declared.Window.{Window}
use Rattle.window.specs.Window.{slot_at}
use Rattle.window.specs.Acts.{promise, enter_acts}
use Rattle.window.specs.Counting.{lacking, counts}
use Rattle.window.specs.Places.{filled_new}
use Rattle.window.specs.ByPlace.{at_place, at_here, at_past, put_keeps, sweep_cases}
use Rattle.replica.specs.declared.Replica.{Replica}
use Rattle.replica.specs.Record.{place, number}
use Rattle.replica.specs.Messages.{appended_as}
use Rattle.replica.specs.Step.{Call}
use Rattle.laws.specs.OfScalars.{fallen_ways}
use Rattle.laws.specs.Leaves.{put_back}
use Rattle.laws.specs.Counts.{counted_long}
use Rattle.laws.specs.Appended.{appended_cases, appended_has, appended_low, appended_most}
use Rattle.laws.specs.WaysReply.{adopts_vote, grown_window, reply_window, reply_slot, heard_window, counted_window, counts_now, is_full, Answers, reply_place}
use Rattle.voting.specs.Paper.{Majority}
use Rattle.voting.specs.Windows.{Whole}
use Rattle.voting.specs.Keeping.{heard_keeps}
use Rattle.voting.specs.Claims.{core, Claim}
use Rattle.voting.specs.Replying.{entered_window, enters_acts, reply_acts, Counts as CountsNow, ReplyWays}
use Rattle.voting.specs.Backing.{Standing, stands, insert_or, noted_same, heard_same, entered_same}
use Rattle.voting.specs.Majorities.{standing-insert, full_majority}
use Rattle.voting.specs.Covered.{trigger_place, acks_of, counted_set, CoveredTo, Onward, After, After-none, Onward-then, put_onward, covered_to, counts_why, counts_covered}
use Rattle.agreement.specs.BySlot.{numbered, numbered_at, by_place, numbered_place}
use Rattle.agreement.specs.Frame.{Owns}
use Rattle.safety.specs.Sight.{Sight, notes, highest, counted, Replied, Counts, GoesOn, on, Proposes, entered, Leads}
use Rattle.safety.specs.LeadsRest.{sight_at, Writes}
use Rattle.safety.specs.LeadsNoted.{vote_in, Face, face_of, Mid, Mid-null, heard_each, counted_each}

-- of a call's outcome, whatever its bar
abbrev pub LeadsAfter : Sight → Call → Claim
LeadsAfter v c a sc w acts = (bar : ℕ) → Leads v c (sight_at sc w bar) acts

-- a slot as the reply was heard and after the call: one that is Preparing was so, with its notes and batch; and the endprep stays
record Later (x y : Slot) : Type 0 where
  pub after : y.status ≡ 1 → (x.status ≡ 1) × (notes y ≡ notes x) × (highest y ≡ highest x) × (y.batch ≡ x.batch)
  pub end : y.leader.endprep ≡ x.leader.endprep

Later-self : (x : Slot) → Later x x
Later-self x = record { after = λ z. (z, refl, refl, refl); end = refl }

entered_later : (b : ℕ) (x : Slot) → Later x (entered_slot true b x)
entered_later b x = pick_both (Later x) (eqb x.status preparing) (record { after = λ z. absurd (omega arith); end = refl }) (Later-self x)

abbrev end_of : Slot → ℕ
end_of x = x.leader.endprep

module _ (r : Replica) (w : Window) (bar : ℕ) (c : Call) (peer : ℕ) (m : Reply) (h : Whole r.window) (n : r.window.len ≤ 64) (kind : strict r.sc ≡ true)
    (long : w.len ≡ r.window.len) (same : (i : ℕ) → face_of (at_place w i) ≡ face_of (at_place r.window i))
    (busy : leads r.sc ≡ true → (i : ℕ) → (at_place r.window i).status ≡ 1 → (at_place r.window i).ballot ≤ r.sc.bal_prep_sent)
    (member : peer < r.sc.group) (fits : (j : ℕ) → j < r.window.len → fits_group (stands r j).prepare r.sc.group ≡ true)
    (by : Answers r m → Replied (sight_at r.sc w bar) c peer m.slot m.endprep (vote_in m)) where
  abbrev v : Sight
  v = sight_at r.sc w bar

  -- "A reply with another trigger is ignored"
  trigger_is : Answers r m → m.trigger ≡ r.sc.lead_trigger
  trigger_is f = eqb-true _ _ (not-false _ (rw kind at f.own))

  trigger_low : Answers r m → r.sc.start ≤ r.sc.lead_trigger
  trigger_low f = omega (arith, trigger_is f, f.low)

  -- who is counted, by the trigger's place
  set_at : Answers r m → (u : Window) → (numbered r.sc.start u r.sc.lead_trigger).leader.prepare_acks ≡ counted_set r.sc u
  set_at f u = ap acks_of (numbered_place r.sc.start u r.sc.lead_trigger (trigger_low f))

  set_before : Answers r m → counted v ≡ counted_set r.sc r.window
  set_before f = set_at f w ∙ ap (λ (t : Face). t.leader.prepare_acks) (same (trigger_place r.sc))

  -- ── what is left to show of a way: u is the log as the reply was heard, w' the log after the call, b the ballot prepared ──
  module _ (f : Answers r m) (u w' : Window) (b bar' : ℕ) where
    abbrev v' : Sight
    v' = sight_at (core (with_prepared r.sc b)) w' bar'

    abbrev mid : ℕ → Slot
    mid = numbered r.sc.start u

    abbrev ReplyOk : Act → Type 0
    ReplyOk =
        Writes (λ s d. (v.stop ≤ s) × ((v'.slot s).leader.endprep ≡ (v.slot v.trigger).leader.endprep)) (λ s d e. Owns v.me d → Proposes v v' mid s d e)

    goes_on : ((i : ℕ) → Mid r w bar c peer m (number r.sc i) (at_place w i) (at_place u i)) → ((i : ℕ) → Later (at_place u i) (at_place w' i))
        → ((p : ℕ) → has (counted_set r.sc w') p ≡ true → (has (counted_set r.sc r.window) p ≡ true) ⊎ Counts v c v' mid p)
        → (b ≡ r.sc.bal_prepared) ⊎ Majority r.sc.group (counted_set r.sc w') → (acts : List Act) → All ReplyOk acts → GoesOn v c v' mid acts
    goes_on mids lates set prep acts said =
        record {
          leading = f.leading;
          seen = refl;
          sent = refl;
          trigger = refl;
          counts = λ p z. count p (set p (subst (λ (x : ℕ). has x p ≡ true) (set_at f w') z));
          prepared = prepares prep;
          was = λ k. (mid_at k).was;
          noted = λ k. (mid_at k).noted;
          after = λ k. (late_at k).after;
          ends = λ s. ends s (mid_at s).end;
          new = λ s d o. All-in ReplyOk said o;
        }
      where
        mid_at : (s : ℕ) → Mid r w bar c peer m s (v.slot s) (mid s)
        mid_at s = by_place (λ (s : ℕ) (x y : Slot). Mid r w bar c peer m s x y) r.sc.start w u (Mid-null r w bar c peer m) mids s

        late_at : (s : ℕ) → Later (mid s) (v'.slot s)
        late_at s = by_place (λ (s : ℕ) (x y : Slot). Later x y) r.sc.start u w' (λ s. Later-self null_slot) lates s

        count : (p : ℕ) → (has (counted_set r.sc r.window) p ≡ true) ⊎ Counts v c v' mid p → (has (counted v) p ≡ true) ⊎ Counts v c v' mid p
        count p (inl z) = inl (subst (λ (x : ℕ). has x p ≡ true) (sym (set_before f)) z)
        count p (inr z) = inr z

        prepares : (b ≡ r.sc.bal_prepared) ⊎ Majority r.sc.group (counted_set r.sc w') → (v'.prepared ≡ v.prepared) ⊎ Majority v.group (counted v')
        prepares (inl e) = inl e
        prepares (inr e) = inr (subst (Majority r.sc.group) (sym (set_at f w')) e)

        ends : (s : ℕ) → ((mid s).leader.endprep ≡ (v.slot s).leader.endprep) ⊎ (v.stop ≤ s) → ((v'.slot s).leader.endprep ≡ (v.slot s).leader.endprep) ⊎ (v.stop ≤ s)
        ends s (inl e) = inl ((late_at s).end ∙ e)
        ends s (inr e) = inr e

    -- the prepare entries are those of the slots appended
    appends_said : ((i : ℕ) → end_of (at_place w' i) ≡ end_of (at_place (grown_window r m) i)) → All ReplyOk (reply_acts r m)
    appends_said ends =
        All-gather (λ k. promise (number r.sc k) r.sc.bal_prep_sent ∷ []) ReplyOk r.window.len (place r.sc m.slot + 1)
        (λ k lo hi. ((omega arith, ap end_of (numbered_at r.sc.start w' k) ∙ ends k ∙ ap end_of (new k lo hi) ∙ old), tt))
      where
        new : (k : ℕ) → r.window.len ≤ k → k < place r.sc m.slot + 1 → at_place (grown_window r m) k ≡ appended_as r (place r.sc m.trigger)
        new k lo hi =
            at_here (grown_window r m) k (omega (arith, appended_has r (place r.sc m.slot) (place r.sc m.trigger)))
            ∙ filled_new (appended_as r (place r.sc m.trigger)) r.window (place r.sc m.slot + 1) k lo hi (omega (arith, reply_place r m f))

        old : end_of (slot_at r.window (place r.sc m.trigger)) ≡ (v.slot v.trigger).leader.endprep
        old =
            ap end_of (sym (at_here r.window (place r.sc m.trigger) (omega (arith, f.low, f.logged))))
            ∙ sym (ap (λ (t : Face). t.leader.endprep) (same (place r.sc m.trigger)))
            ∙ ap (λ (t : ℕ). end_of (at_place w (place r.sc t))) (trigger_is f)
            ∙ sym (ap end_of (numbered_place r.sc.start w r.sc.lead_trigger (trigger_low f)))

    Leads-of : ((i : ℕ) → Mid r w bar c peer m (number r.sc i) (at_place w i) (at_place u i)) → ((i : ℕ) → Later (at_place u i) (at_place w' i))
        → ((p : ℕ) → has (counted_set r.sc w') p ≡ true → (has (counted_set r.sc r.window) p ≡ true) ⊎ Counts v c v' mid p)
        → (b ≡ r.sc.bal_prepared) ⊎ Majority r.sc.group (counted_set r.sc w') → (acts : List Act) → All ReplyOk acts → Leads v c v' acts
    Leads-of mids lates set prep acts said = record { mid = mid; lead = λ l. on (goes_on mids lates set prep acts said); entries = λ s d e o. All-in ReplyOk said o }

  -- ── the endprep of each slot stays ──
  heard_ends : (i : ℕ) → end_of (at_place (heard_window r peer m) i) ≡ end_of (at_place (grown_window r m) i)
  heard_ends i =
      put_keeps end_of (reply_window r peer m) (place r.sc m.slot) i _ (heard_keeps end_of (reply_slot r peer m) m refl)
      ∙ put_keeps end_of (grown_window r m) (place r.sc m.slot) i _ refl

  counted_ends : (i : ℕ) → end_of (at_place (counted_window r peer m) i) ≡ end_of (at_place (grown_window r m) i)
  counted_ends i = put_keeps end_of (heard_window r peer m) (place r.sc m.trigger) i _ refl ∙ heard_ends i

  entered_lates : Answers r m → (i : ℕ) → Later (at_place (counted_window r peer m) i) (at_place (entered_window r peer m) i)
  entered_lates f i =
      sweep_cases (λ k s. entered_slot (strict r.sc) m.ballot s) (place r.sc m.trigger) (counted_window r peer m).len (counted_window r peer m)
      (Later (at_place (counted_window r peer m) i)) i
      (omega (arith, appended_most r (place r.sc m.slot) (place r.sc m.trigger) 64 n (reply_place r m f), counted_long r peer m))
      (λ _ _ _. subst (λ t. Later (at_place (counted_window r peer m) i) (entered_slot t m.ballot (at_place (counted_window r peer m) i))) (sym kind) (entered_later m.ballot (at_place (counted_window r peer m) i)))
      (λ out. Later-self (at_place (counted_window r peer m) i))

  -- ── who is counted ──
  heard_acks : Answers r m → (i : ℕ) → acks_of (at_place (heard_window r peer m) i) ≡ acks_of (at_place r.window i)
  heard_acks f i =
      ap (λ (x : Standing). x.prepare) (heard_same r peer m i ∙ noted_same r peer m i)
      ∙ appended_cases (λ (x : Slot). acks_of x ≡ acks_of (at_place r.window i)) r (place r.sc m.slot) (place r.sc m.trigger) i (let u = reply_place r m f in omega arith)
      (λ l. ap acks_of (sym (at_past r.window i l))) refl

  -- one more
  counted_acks : Answers r m → counted_set r.sc (counted_window r peer m) ≡ insert (counted_set r.sc r.window) peer
  counted_acks f =
      subst (λ (t : ℕ). acks_of (at_place (counted_window r peer m) (place r.sc t)) ≡ insert (acks_of (at_place r.window (place r.sc t))) peer) (trigger_is f)
      (ap (λ (x : Standing). x.prepare) (sym (entered_same r peer m (place r.sc m.trigger))) ∙ standing-insert r peer m h n member fits f)

  -- what is tested does not look at the peer accept table
  counts_now_lem : counts_now r peer m ≡ true → counts r.sc (reply_window r peer m) (place r.sc m.trigger) peer m ≡ true
  unfolding counts
  counts_now_lem =
      fallen_ways
      (λ (x : Scalars). counts x (reply_window r peer m) (place r.sc m.trigger) peer m ≡ true → counts r.sc (reply_window r peer m) (place r.sc m.trigger) peer m ≡ true)
      r.sc r.bars peer m.bar (λ e. e) (λ max e. e)

  -- the test is made where the reply is noted; what follows keeps the notes
  counted_goes_on : Onward (reply_window r peer m) (counted_window r peer m)
  counted_goes_on =
      Onward-then
      (put_onward (reply_window r peer m) (place r.sc m.slot) _
      (pick_both (After (reply_slot r peer m)) (adopts_vote (reply_slot r peer m) m) (record { before = λ e. e; notes = λ q e. e }) (After-none (reply_slot r peer m))))
      (put_onward (heard_window r peer m) (place r.sc m.trigger) _ (record { before = λ e. e; notes = λ q e. e }))

  -- p was counted before, or counts now, where w' is the log after the call and b the ballot prepared
  abbrev Counted : Window → ℕ → ℕ → ℕ → Type 0
  Counted w' b bar' p =
      (has (counted_set r.sc r.window) p ≡ true) ⊎ Counts v c (sight_at (core (with_prepared r.sc b)) w' bar') (numbered r.sc.start (counted_window r peer m)) p

  new_counts : Answers r m → CountsNow r peer m → (w' : Window) (b bar' : ℕ) → w'.len ≡ (reply_window r peer m).len
      → Counted w' b bar' peer
  new_counts f k w' b bar' size = go (counts_why r.sc (reply_window r peer m) (place r.sc m.trigger) peer m kind (counts_now_lem k.now))
    where
      go : (has (slot_at (reply_window r peer m) (place r.sc m.trigger)).leader.prepare_acks peer ≡ true)
          ⊎ ((r.sc.start ≤ m.endprep) × (place r.sc m.endprep < (reply_window r peer m).len)
          × (lacking (reply_window r peer m) peer (place r.sc m.trigger) (place r.sc m.endprep + 1) ≡ false))
          → Counted w' b bar' peer
      go (inl z) =
          let j : ℕ = place r.sc m.trigger in
          let here = at_here (reply_window r peer m) j (omega (arith, f.low, f.logged, appended_low r (place r.sc m.slot) j)) in
          inl
          (subst (λ (t : ℕ). has (acks_of (at_place r.window (place r.sc t))) peer ≡ true) (trigger_is f)
          (subst (λ (x : ℕ). has x peer ≡ true) (sym (ap acks_of here) ∙ sym (ap (λ (x : Standing). x.prepare) (heard_same r peer m j)) ∙ heard_acks f j) z))
      go (inr (a, l, d)) =
          let t : CoveredTo r.sc.start r.sc.lead_trigger (counted_window r peer m) peer m.endprep =
          covered_to counted_goes_on
          (counts_covered r.sc (reply_window r peer m) peer m.endprep a l
          (subst (λ (t : ℕ). lacking (reply_window r peer m) peer (place r.sc t) (place r.sc m.endprep + 1) ≡ false) (trigger_is f) d)) in
          inr
          (record {
            slot = m.slot;
            end = m.endprep;
            vote = vote_in m;
            reply = by f;
            high = omega arith;
            noted = λ k lo hi s.
                (let e = numbered_place r.sc.start (counted_window r peer m) k (omega (arith, trigger_low f)) in
                subst (λ (x : Slot). has (notes x) peer ≡ true) (sym e) (t.noted (place r.sc k) (omega arith) (omega arith) (subst (λ (x : Slot). x.status ≡ 1) e s)));
          })

  -- so of each member of the set after the call
  all_counts : Answers r m → CountsNow r peer m → (w' : Window) (b bar' : ℕ) → w'.len ≡ (reply_window r peer m).len → counted_set r.sc w' ≡ counted_set r.sc (counted_window r peer m)
      → (p : ℕ) → has (counted_set r.sc w') p ≡ true → Counted w' b bar' p
  all_counts f k w' b bar' size set p z = go (insert_or (counted_set r.sc r.window) peer p (subst (λ (x : ℕ). has x p ≡ true) (set ∙ counted_acks f) z))
    where
      go : (p ≡ peer) ⊎ (has (counted_set r.sc r.window) p ≡ true) → Counted w' b bar' p
      go (inl e) = subst (Counted w' b bar') (sym e) (new_counts f k w' b bar' size)
      go (inr y) = inl y

  entered_majority : Answers r m → is_full r peer m ≡ true → Majority r.sc.group (counted_set r.sc (entered_window r peer m))
  entered_majority f q =
      subst (λ (t : ℕ). Majority r.sc.group (acks_of (at_place (entered_window r peer m) (place r.sc t)))) (trigger_is f) (full_majority r peer m h n member fits f q)

  -- ── the ways ──
  heard_leads : Answers r m → LeadsAfter v c 0 (core r.sc) (heard_window r peer m) (reply_acts r m)
  heard_leads f bar' =
      Leads-of f (heard_window r peer m) (heard_window r peer m) r.sc.bal_prepared bar' (heard_each r w bar c peer m h kind long same busy f (by f))
      (λ i. Later-self (at_place (heard_window r peer m) i)) (λ p z. inl (subst (λ (x : ℕ). has x p ≡ true) (heard_acks f (trigger_place r.sc)) z)) (inl refl) (reply_acts r m)
      (appends_said f (heard_window r peer m) (heard_window r peer m) r.sc.bal_prepared bar' heard_ends)

  counted_leads : Answers r m → CountsNow r peer m → LeadsAfter v c 0 (core r.sc) (counted_window r peer m) (reply_acts r m)
  counted_leads f k bar' =
      Leads-of f (counted_window r peer m) (counted_window r peer m) r.sc.bal_prepared bar' (counted_each r w bar c peer m h kind long same busy f (by f))
      (λ i. Later-self (at_place (counted_window r peer m) i)) (all_counts f k (counted_window r peer m) r.sc.bal_prepared bar' refl refl) (inl refl) (reply_acts r m)
      (appends_said f (counted_window r peer m) (counted_window r peer m) r.sc.bal_prepared bar' counted_ends)

  -- the slot at place k enters Accept
  enter_said : (f : Answers r m) → is_full r peer m ≡ true → (bar' k : ℕ) → place r.sc m.trigger ≤ k → k < (counted_window r peer m).len
      → All (ReplyOk f (counted_window r peer m) (entered_window r peer m) m.ballot bar') (enter_acts (number r.sc k) m.ballot (slot_at (counted_window r peer m) k))
  enter_said f q bar' k lo hi =
      pick_cases (All (ReplyOk f (counted_window r peer m) (entered_window r peer m) m.ballot bar')) (eqb (slot_at (counted_window r peer m) k).status preparing)
      (λ z.
      let e = numbered_at r.sc.start (counted_window r peer m) k ∙ at_here (counted_window r peer m) k hi in (
        (λ own. entered f.leading f.leading f.sent (ap (λ (x : Slot). x.status) e ∙ eqb-true (slot_at (counted_window r peer m) k).status 1 z) (omega (arith, trigger_is f)) (sym (ap (λ (x : Slot). x.batch) e))
            (subst (Majority r.sc.group) (sym (set_at f (entered_window r peer m))) (entered_majority f q))),
        (tt, tt),
      ))
      (λ z. tt)

  entered_leads : (f : Answers r m) → CountsNow r peer m → is_full r peer m ≡ true
      → LeadsAfter v c 0 (core (with_prepared r.sc m.ballot)) (entered_window r peer m) (reply_acts r m ++ enters_acts r peer m)
  entered_leads f k q bar' =
      Leads-of f (counted_window r peer m) (entered_window r peer m) m.ballot bar' (counted_each r w bar c peer m h kind long same busy f (by f))
      (entered_lates f)
      (all_counts f k (entered_window r peer m) m.ballot bar' refl (ap (λ (x : Standing). x.prepare) (entered_same r peer m (trigger_place r.sc)))) (inr (entered_majority f q)) (reply_acts r m ++ enters_acts r peer m)
      (All-append (ReplyOk f (counted_window r peer m) (entered_window r peer m) m.ballot bar') (reply_acts r m) (enters_acts r peer m)
      (appends_said f (counted_window r peer m) (entered_window r peer m) m.ballot bar' (λ i. (entered_lates f i).end ∙ counted_ends i))
      (All-gather (λ k. enter_acts (number r.sc k) m.ballot (slot_at (counted_window r peer m) k)) (ReplyOk f (counted_window r peer m) (entered_window r peer m) m.ballot bar') (place r.sc m.trigger) (counted_window r peer m).len
      (enter_said f q bar')))

  -- a reply that the slot does not await is heard with nothing taken
  unheard : awaits_prepare (reply_slot r peer m) m.ballot ≡ false → heard_window r peer m ≡ reply_window r peer m
  unheard t = rw t (put_back (reply_window r peer m) (place r.sc m.slot))

  pub reply_leads : ReplyWays (LeadsAfter v c) r peer m
  reply_leads =
      record {
        passed = λ f t. subst (λ (u : Window). LeadsAfter v c 0 (core r.sc) u (reply_acts r m)) (unheard t) (heard_leads f);
        heard = λ f t. heard_leads f;
        counted = counted_leads;
        entered = entered_leads;
      }
