-- 02, Wish 6, (c), the leader's half: "A member counts once some reply of its with endprep e arrives when slot e exists at the leader and every slot
-- from trigger to e that is Preparing there has been noted from that member". Of every strict replica reached from a new one, while it leads.
use Rattle.std.specs.Prelude.{◌≡◌, refl, Bool, true, false, not, ◌||◌, ◌&&◌, List, [], ◌∷◌, ◌⊎◌, ℕ, ◌+◌, ◌-◌, ◌≤◌, ◌<◌, ltb, leb, eqb, get_or}
use Rattle.std.proofs.Common.{sym, ap, subst, ◌∙◌, inl, inr, le_refl, arith, ltb-true, ltb-false, leb-true, eq-eqb}
use Rattle.std.proofs.lemmas.Bool.{not-true, not-false}
use Rattle.base.specs.Pick.{decide, clash, or_cases, and_both, tests}
use Rattle.base.specs.Among.{◌∈◌, All, All-in}
use Rattle.base.specs.Gather.{gather, All-gather}
use Rattle.base.specs.Find.{any-false}
use Rattle.members.specs.Sets.{has, insert, fits_group}
use Rattle.members.specs.Laws.{has_none, has_member, has-insert, insert_full, insert_past, within_insert, within_small, count_new, count_again}
use Rattle.batch.specs.declared.Batch.{Batch}
use Rattle.actions.specs.declared.Action.TheVariants.{Accept}
use Rattle.actions.specs.Actions.{Act, act, numbers_of}
use Rattle.slots.specs.declared.Slot.{Slot}
use Rattle.slots.specs.Slots.{preparing, lacks_note}
use Rattle.decide.specs.declared.Scalars.{Scalars}
use Rattle.decide.specs.declared.Reply.{Reply}
use Rattle.decide.specs.Scalars.{leads, strict}
use Rattle.decide.specs.Decide.{proposal}
use Rattle.window.specs.declared.Window.{Window}
use Rattle.window.specs.Window.{slot_at, put_slot, sweep, grown}
use Rattle.window.specs.Acts.{promise}
use Rattle.window.specs.Counting.{lacking, counts}
use Rattle.window.specs.Places.{size, filled_low}
use Rattle.window.specs.ByPlace.{at_place, at_here, at_past, put_cases, sweep_cases, grown_at}
use Rattle.replica.specs.declared.Replica.{Replica}
use Rattle.replica.specs.declared.Entry.TheVariants.{PrepareBal}
use Rattle.replica.specs.Record.{place, number}
use Rattle.replica.specs.Step.{Call, call_prepare_reply, call_logged}
use Rattle.laws.specs.WaysDurability.{completion}
use Rattle.voting.specs.Paper.{Majority}
use Rattle.voting.specs.History.{Lent}
use Rattle.voting.specs.Claims.{core, Claim}
use Rattle.voting.specs.Logging.{own_answer}
use Rattle.voting.specs.Quorums.{kind_of}
use Rattle.voting.specs.Backing.{Once}

-- ── the sentence ──
-- a call at r brings p's reply for slot s with endprep e, of this lead: at bal_prep_sent, with its trigger; or self's own prepare entry, at
-- bal_prep_sent: "self uses its own endprep"
pub data Replied (r : Replica) (p s e : ℕ) : Call → Type 0 where
  replied_peer : (m : Reply) → m.ballot ≡ r.sc.bal_prep_sent → m.trigger ≡ r.sc.lead_trigger → m.slot ≡ s → m.endprep ≡ e → Replied r p s e (call_prepare_reply p m)
  replied_own : (bal size : ℕ) → p ≡ r.sc.id → bal ≡ r.sc.bal_prep_sent → (own_answer r (completion PrepareBal s bal size)).endprep ≡ e
      → Replied r p s e (call_logged (completion PrepareBal s bal size))

-- which replies came before: at ballot b, of member p, for slot s, with endprep e
abbrev pub Came : Type 1
Came = ℕ → ℕ → ℕ → ℕ → Type 0

-- in a history, by a call made where bal_prep_sent is b
abbrev pub CameIn : Replica → List Lent → Came
CameIn r h b p s e = Once (λ q c. Replied q p s e c) b r h

-- the place of the lead's trigger slot, and who is counted there
abbrev pub trigger_place : Scalars → ℕ
trigger_place sc = place sc sc.lead_trigger

abbrev pub acks_of : Slot → ℕ
acks_of s = s.leader.prepare_acks

abbrev pub notes_of : Slot → ℕ
notes_of s = s.leader.notes

abbrev pub counted_set : Scalars → Window → ℕ
counted_set sc w = acks_of (at_place w (trigger_place sc))

-- "slot e exists at the leader and every slot from trigger to e that is Preparing there has been noted from that member"
pub record CoveredTo (start trigger : ℕ) (w : Window) (p e : ℕ) : Type 0 where
  pub low : start ≤ e
  pub high : e - start < w.len
  pub noted : (i : ℕ) → trigger - start ≤ i → i ≤ e - start → (at_place w i).status ≡ preparing → has (at_place w i).leader.notes p ≡ true

-- each member counted is covered to some e, and R says that its reply with this endprep came, at the leader's ballot; so of each member noted at a
-- Preparing slot, its reply for this slot; and where the ballot is prepared, a majority is counted
pub record Covered (R : Came) (sc : Scalars) (w : Window) : Type 0 where
  pub each : leads sc ≡ true → (p : ℕ) → has (counted_set sc w) p ≡ true → (e : ℕ) × CoveredTo sc.start sc.lead_trigger w p e × ((s : ℕ) × R sc.bal_prep_sent p s e)
  pub notes : leads sc ≡ true → (i p : ℕ) → trigger_place sc ≤ i → (at_place w i).status ≡ preparing → has (notes_of (at_place w i)) p ≡ true
      → (e : ℕ) × R sc.bal_prep_sent p (number sc i) e
  pub most : leads sc ≡ true → 0 < sc.bal_prepared → sc.bal_prepared ≡ sc.bal_prep_sent → Majority sc.group (counted_set sc w)

-- ── what keeps it ──
-- a slot that is Preparing was so before, and has the notes that it had
pub record After (x y : Slot) : Type 0 where
  pub before : y.status ≡ preparing → x.status ≡ preparing
  pub notes : (p : ℕ) → has x.leader.notes p ≡ true → has y.leader.notes p ≡ true

-- so of each slot that was in the log
pub record Onward (w v : Window) : Type 0 where
  pub grows : w.len ≤ v.len
  pub slots : (i : ℕ) → i < w.len → After (at_place w i) (at_place v i)

-- a slot that stays
pub After-none : (x : Slot) → After x x
After-none x = record { before = λ e. e; notes = λ p e. e }

pub After-equal : {x y : Slot} → y ≡ x → After x y
After-equal {x} e = subst (After x) (sym e) (After-none x)

After-then : {x y z : Slot} → After x y → After y z → After x z
After-then a b = record { before = λ e. a.before (b.before e); notes = λ p e. b.notes p (a.notes p e) }

pub Onward-then : {u v w : Window} → Onward u v → Onward v w → Onward u w
Onward-then a b = let g = a.grows in record { grows = (let h = b.grows in omega arith); slots = λ i l. After-then (a.slots i l) (b.slots i (omega arith)) }

-- one slot put, a range swept, null slots added
pub put_onward : (w : Window) (k : ℕ) (x : Slot) → After (slot_at w k) x → Onward w (put_slot w k x)
put_onward w k x a =
    record {
      grows = le_refl w.len;
      slots = λ i l.
          put_cases w k x (After (at_place w i)) i
          (λ e u. After-then (After-equal (sym (at_here w k (omega arith)) ∙ ap (at_place w) (sym e))) a) (λ out. After-none (at_place w i));
    }

pub sweep-Onward : (f : ℕ → Slot → Slot) (from to : ℕ) (w : Window) → w.len ≤ size w → ((i : ℕ) (x : Slot) → After x (f i x)) → Onward w (sweep f from to w)
sweep-Onward f from to w h a =
    record { grows = le_refl w.len; slots = λ i l. sweep_cases f from to w (After (at_place w i)) i h (λ _ _ _. a i (at_place w i)) (λ out. After-none (at_place w i)) }

pub grown-Onward : (w : Window) (n : ℕ) → n ≤ size w → Onward w (grown w n)
grown-Onward w n h = record { grows = filled_low _ w n; slots = λ i l. After-equal (grown_at w n i h) }

-- who is covered to e stays so
pub covered_to : {start trigger : ℕ} {w v : Window} {p e : ℕ} → Onward w v → CoveredTo start trigger w p e → CoveredTo start trigger v p e
covered_to o c =
    let h = c.high in
    let g = o.grows in
    record {
      low = c.low;
      high = omega arith;
      noted = λ i a b s. let x = o.slots i (omega arith) in x.notes _ (c.noted i a b (x.before s));
    }

-- of more replies
pub Covered-map : {R S : Came} {sc : Scalars} {w : Window} → ((b p s e : ℕ) → R b p s e → S b p s e) → Covered R sc w → Covered S sc w
Covered-map f c =
    record {
      each = λ l p h. (let (e, t, (s, x)) = c.each l p h in (e, t, (s, f _ p s e x)));
      notes = λ l i p a s h. (let (e, x) = c.notes l i p a s h in (e, f _ p _ e x));
      most = c.most;
    }

-- with notes of replies that came
module _ {R : Came} (sc : Scalars) {w v : Window} (o : Onward w v)
    (new : (i p : ℕ) → has (notes_of (at_place v i)) p ≡ true → (has (notes_of (at_place w i)) p ≡ true) ⊎ ((e : ℕ) × R sc.bal_prep_sent p (number sc i) e)) (c : Covered R sc w) where
  pub notes_on : leads sc ≡ true → (i p : ℕ) → trigger_place sc ≤ i → (at_place v i).status ≡ preparing → has (notes_of (at_place v i)) p ≡ true
      → (e : ℕ) × R sc.bal_prep_sent p (number sc i) e
  notes_on l i p a s h = go (new i p h) (decide (ltb i w.len))
    where
      go : (has (notes_of (at_place w i)) p ≡ true) ⊎ ((e : ℕ) × R sc.bal_prep_sent p (number sc i) e) → (ltb i w.len ≡ true) ⊎ (ltb i w.len ≡ false)
          → (e : ℕ) × R sc.bal_prep_sent p (number sc i) e
      go (inr x) z = x
      go (inl h) (inl z) = c.notes l i p a ((o.slots i (ltb-true _ _ z)).before s) h
      go (inl h) (inr z) = absurd (clash (subst (λ (x : Slot). has (notes_of x) p ≡ true) (at_past w i (ltb-false _ _ z)) h) (has_none p))

  -- and the same members counted
  pub Covered-on : counted_set sc v ≡ counted_set sc w → Covered R (core sc) v
  Covered-on same =
      record {
        each = λ l p h. (let (e, t, x) = c.each l p (subst (λ (s : ℕ). has s p ≡ true) same h) in (e, covered_to o t, x));
        notes = notes_on;
        most = λ l a b. subst (Majority sc.group) (sym same) (c.most l a b);
      }

-- the sets of a slot's bookkeeping; all of them as they were
pub record Sets : Type 0 where
  pub acks : ℕ
  pub notes : ℕ

abbrev pub sets_of : Slot → Sets
sets_of s = record { acks = acks_of s; notes = notes_of s }

pub Covered-still : {R : Came} (sc : Scalars) {w v : Window} → Onward w v → ((i : ℕ) → sets_of (at_place v i) ≡ sets_of (at_place w i)) → Covered R sc w → Covered R (core sc) v
Covered-still sc o same c =
    Covered-on sc o (λ i p h. inl (subst (λ (x : Sets). has x.notes p ≡ true) (same i) h)) c (ap (λ (x : Sets). x.acks) (same (trigger_place sc)))

-- ── putting a member in ──
-- who is in stays in, and a majority is one still
pub insert_keeps : (set p q : ℕ) → has set q ≡ true → has (insert set p) q ≡ true
insert_keeps set p q h = go (decide (ltb 511 set)) (decide (ltb 8 p))
  where
    go : (ltb 511 set ≡ true) ⊎ (ltb 511 set ≡ false) → (ltb 8 p ≡ true) ⊎ (ltb 8 p ≡ false) → has (insert set p) q ≡ true
    go (inl a) b = subst (λ (x : ℕ). has x q ≡ true) (sym (insert_full set p (ltb-true 511 set a))) h
    go (inr a) (inl b) = subst (λ (x : ℕ). has x q ≡ true) (sym (insert_past set p (ltb-true 8 p b))) h
    go (inr a) (inr b) = let n = has_member set q h in has-insert set p q (omega (arith, tests)) (omega (arith, tests)) n ∙ rw h (or_one (eqb q p))
      where
        or_one : (t : Bool) → (t || true) ≡ true
        or_one true = refl
        or_one false = refl

-- who is put in is in
pub insert-has : (group set p : ℕ) → group ≤ 9 → p < group → fits_group set group ≡ true → has (insert set p) p ≡ true
insert-has group set p g l f = has-insert set p p (within_small set group g f) (omega arith) (omega arith) ∙ rw (eq-eqb p p refl)

pub insert-Majority : (group set p : ℕ) → group ≤ 9 → p < group → Majority group set → Majority group (insert set p)
insert-Majority group set p g l m = go (decide (has set p))
  where
    go : (has set p ≡ true) ⊎ (has set p ≡ false) → Majority group (insert set p)
    go (inl e) = record { within = within_insert set group p m.within l; half = (let h = m.half in omega (arith, count_again set p e)) }
    go (inr e) =
        record {
          within = within_insert set group p m.within l;
          half = (let h = m.half in omega (arith, count_new set p (within_small set group g m.within) (omega arith) e));
        }

-- ── why a member counts ──
-- it was counted before, or slot e exists and no slot up to e lacks its note
pub counts_why : (sc : Scalars) (w : Window) (j peer : ℕ) (m : Reply) → strict sc ≡ true → counts sc w j peer m ≡ true
    → (has (slot_at w j).leader.prepare_acks peer ≡ true) ⊎ ((sc.start ≤ m.endprep) × (place sc m.endprep < w.len) × (lacking w peer j (place sc m.endprep + 1) ≡ false))
unfolding counts
counts_why sc w j peer m kind e = go (or_cases (has (slot_at w j).leader.prepare_acks peer) _ (rw kind at e))
  where
    go : (has (slot_at w j).leader.prepare_acks peer ≡ true)
        ⊎ (((leb sc.start m.endprep && ltb (m.endprep - sc.start) w.len) && not (lacking w peer j (m.endprep - sc.start + 1))) ≡ true)
        → (has (slot_at w j).leader.prepare_acks peer ≡ true) ⊎ ((sc.start ≤ m.endprep) × (place sc m.endprep < w.len) × (lacking w peer j (place sc m.endprep + 1) ≡ false))
    go (inl h) = inl h
    go (inr h) =
        let (a, b) = and_both (leb sc.start m.endprep && ltb (m.endprep - sc.start) w.len) _ h in
        let (x, y) = and_both (leb sc.start m.endprep) _ a in
        inr (leb-true _ _ x, ltb-true _ _ y, not-true _ b)

-- none of its slots lacks the note
pub counts_covered : (sc : Scalars) (w : Window) (peer e : ℕ) → sc.start ≤ e → place sc e < w.len → lacking w peer (trigger_place sc) (place sc e + 1) ≡ false
    → CoveredTo sc.start sc.lead_trigger w peer e
unfolding lacking
counts_covered sc w peer e l h n =
    record {
      low = l;
      high = h;
      noted = λ i a b s.
          let here = at_here w i (omega arith) in
          let z = any-false (λ i. lacks_note peer (slot_at w i)) (trigger_place sc) (place sc e + 1) i n a (omega arith) in
          subst (λ (x : Slot). has x.leader.notes peer ≡ true) (sym here)
          (not-false _ (rw (eq-eqb (slot_at w i).status preparing (ap (λ (x : Slot). x.status) (sym here) ∙ s)) at z));
    }

-- ── 2.2, phase 2 (a) ──
-- "If the proposer receives a response .. from a majority of acceptors, then it sends an accept request"; 02, Wish 6, (c): "Whenever the arriving member
-- counts and a quorum is counted, all Preparing slots from trigger on enter Accept". Self leads at b, and its Accept for slot s rests on a majority, each
-- member of which replied at b for s, or replied at b with an endprep e below s: its log ended there
pub record Rests (R : Came) (sc : Scalars) (w : Window) (s b : ℕ) : Type 0 where
  pub leading : leads sc ≡ true
  pub ballot : b ≡ sc.bal_prep_sent
  pub majority : Majority sc.group (counted_set sc w)
  pub each : (p : ℕ) → has (counted_set sc w) p ≡ true → ((e : ℕ) × R b p s e) ⊎ ((e : ℕ) × (e < s) × ((t : ℕ) × R b p t e))

-- of more replies
pub Rests-map : {R S : Came} {sc : Scalars} {w : Window} {s b : ℕ} → ((p t e : ℕ) → R b p t e → S b p t e) → Rests R sc w s b → Rests S sc w s b
Rests-map {R} {S} {sc} {w} {s} {b} f t = record { leading = t.leading; ballot = t.ballot; majority = t.majority; each = λ p h. go p (t.each p h) }
  where
    go : (p : ℕ) → ((e : ℕ) × R b p s e) ⊎ ((e : ℕ) × (e < s) × ((t : ℕ) × R b p t e)) → ((e : ℕ) × S b p s e) ⊎ ((e : ℕ) × (e < s) × ((t : ℕ) × S b p t e))
    go p (inl (e, x)) = inl (e, f p s e x)
    go p (inr (e, l, (t, x))) = inr (e, l, (t, f p t e x))

-- the Accept that a leader sends
abbrev pub accept_of : ℕ → ℕ → Batch → Act
accept_of s b v = act (Accept (proposal s b v)) v.keys

-- what is claimed of a call: who is counted after it is covered, and each Accept that it sends rests on them
pub record Turn (R : Came) (sc : Scalars) (w : Window) (acts : List Act) : Type 0 where
  pub covered : Covered R sc w
  pub rests : (s b : ℕ) (v : Batch) → accept_of s b v ∈ acts → Rests R sc w s b

abbrev pub MakesTurn : Came → Claim
MakesTurn R a sc w acts = Turn R sc w acts

-- 6 is the kind of an Accept
abbrev pub NoAccept : Act → Type 0
NoAccept a = kind_of a ≡ 6 → ⊥

-- a call that sends none
pub quiet : {R : Came} {sc : Scalars} {w : Window} {acts : List Act} → Covered R sc w → All NoAccept acts → Turn R sc w acts
quiet c n = record { covered = c; rests = λ s b v o. absurd (All-in NoAccept n o refl) }

-- the slot that an action says
abbrev pub slot_in : Act → ℕ
slot_in a = get_or (numbers_of a.what a.keys) 2 0

pub promises_none : (start ballot from to : ℕ) → All NoAccept (gather (λ i. promise (start + i) ballot ∷ []) from to)
promises_none start ballot from to = All-gather (λ i. promise (start + i) ballot ∷ []) NoAccept from to (λ i l u. ((λ z. omega arith), tt))
