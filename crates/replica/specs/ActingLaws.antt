-- The laws of what a call hands back.
use Rattle.std.specs.Prelude.{◌≡◌, Bool, not, ◌&&◌, List, ℕ, ◌+◌, ◌≤◌, ◌<◌, length, eqb, Ok, Err}
use Rattle.std.proofs.Math.Path.{refl}
use Rattle.std.proofs.Common.{sym, ap, subst, ◌∙◌, zero-add, arith, eq-eqb, ne_eqb}
use Rattle.std.proofs.Math.Bool.{true, false, and-false}
use Rattle.base.specs.Pick.{pick, pick_cases, refuted, granted, clash}
use Rattle.base.specs.Scan.{scan_below}
use Rattle.batch.specs.declared.Batch.{Batch}
use Rattle.batch.specs.declared.KeyTable.{KeyTable}
use Rattle.batch.specs.Keys.{overfull, refresh}
use Rattle.actions.specs.Actions.{Act, write_at, write_actions, says_acts}
use Rattle.actions.specs.Saying.{Said}
use Rattle.actions.specs.Laws.{write_front, Said-in}
use Rattle.decide.specs.Decide.{Decided}
use Rattle.decide.specs.Laws.{Steady, Settles, done, refused}
use Rattle.window.specs.declared.Window.{Window}
use Rattle.window.specs.declared.Summary.{Summary}
use Rattle.window.specs.Window.{slot_at, put_slot}
use Rattle.window.specs.Summary.{walk}
use Rattle.window.specs.Kept.{changed, is_passed}
use Rattle.window.specs.SummaryLaws.{Sums, Sums-walk, Sums-steady, Sums-put, Sums-passed}
use Rattle.window.specs.Bounded.{stop_in, passes}
use Rattle.window.specs.BoundedLaws.{stop_in_lem}
use Rattle.window.specs.Laws.{passes_status}
use Rattle.replica.specs.declared.Replica.{Replica}
use Rattle.replica.specs.declared.Refusal.{Refusal}
use Rattle.replica.specs.declared as code
use Rattle.replica.specs.Seen.{Handled, refusal_number, seen}
use Rattle.replica.specs.SeenLaws.{refused_apart}
use Rattle.replica.specs.Record.{Outcome, kept, noting, settled, summed}
use Rattle.replica.specs.Step.{Told}
use Rattle.replica.specs.Acting.{SettleFits}

-- ── the summary at a call's end ──
abbrev pub with_summary : Replica → Summary → Replica
with_summary r u = record { sc = r.sc; bars = r.bars; window = r.window; keys = r.keys; reads = r.reads; summary = u }

-- the replica's summary is the walk of its slots
abbrev pub Summed : Replica → Type 0
Summed r = Sums r.sc r.window r.summary

pub summed_refused : (n : ℕ) (r : Replica) → eqb n 0 ≡ false → summed (kept n r) ≡ kept n r
summed_refused n r e = rw e

-- an outcome whose summary is the walk's already
pub summed_at : (o : Outcome) → Summed o.replica → summed o ≡ o
summed_at o s = λ k. record { answer = o.answer; replica = with_summary o.replica (same k); actions = o.actions }
  where
    same : pick (eqb o.answer 0) (walk o.replica.sc o.replica.window) o.replica.summary ≡ o.replica.summary
    same = pick_cases (λ (u : Summary). u ≡ o.replica.summary) (eqb o.answer 0) (λ t. sym (Sums-walk s)) (λ t. refl)

pub summed-kept : (n : ℕ) (r : Replica) → Summed r → summed (kept n r) ≡ kept n r
summed-kept n r s = summed_at (kept n r) s

pub summed_done : {o : Outcome} (r : Replica) (u : Summary) (acts : List Act) → o ≡ record { answer = 0; replica = r; actions = acts } → Sums r.sc r.window u
    → summed o ≡ record { answer = 0; replica = with_summary r u; actions = acts }
summed_done r u acts e s = let q = sym (Sums-walk s) in ap summed e ∙ (λ k. record { answer = 0; replica = with_summary r (q k); actions = acts })

-- what is handed back of an outcome that keeps the replica, and of one that equals another
pub kept-Told : {h : Handled} {o : Outcome} {room : List ℕ} (n : ℕ) (r : Replica) → h ≡ record { answer = n; count = 0; replica = r } → o ≡ kept n r → Told o h room room
unfolding write_actions
kept-Told n r g e = record { handed = rw (e, g); written = rw e }

pub same_told : {o p : Outcome} {h : Handled} {room after : List ℕ} → o ≡ p → Told p h room after → Told o h room after
same_told e t = rw e t

-- what a call that is refused hands back, and one that keeps the replica, also where it is ignored
pub refuse : {h : Handled} {o : Outcome} {room : List ℕ} (n : ℕ) (r : Replica) → h ≡ record { answer = n; count = 0; replica = r } → o ≡ kept n r → eqb n 0 ≡ false
    → Told (summed o) h room room
refuse n r g e z = kept-Told n r g (ap summed e ∙ summed_refused n r z)

pub keep : {h : Handled} {o : Outcome} {room : List ℕ} (n : ℕ) (r : Replica) → h ≡ record { answer = n; count = 0; replica = r } → o ≡ kept n r → Summed r
    → Told (summed o) h room room
keep n r g e s = kept-Told n r g (ap summed e ∙ summed-kept n r s)

-- the same of the code's values
pub refused_told : {h : code.Handled.Handled} {o : Outcome} {room : List ℕ} (e : Refusal) (r : Replica) → h ≡ record { outcome = Err e; replica = r }
    → o ≡ kept (refusal_number e) r → Told (summed o) (seen h) room room
refused_told e r g q = refuse (refusal_number e) r (ap seen g) q (refused_apart e)

pub ignored_told : {h : code.Handled.Handled} {o : Outcome} {room : List ℕ} (r : Replica) → h ≡ record { outcome = Ok 0; replica = r } → o ≡ kept 0 r → Summed r
    → Told (summed o) (seen h) room room
ignored_told r g q s = keep 0 r (ap seen g) q s

-- a callee's outcome is the call's, where the two are equal
pub told : {o p : Outcome} {h : Handled} {room after : List ℕ} → o ≡ p → Told (summed p) h room after → Told (summed o) h room after
told e t = rw e t

-- what a call that acts hands back: its answer and replica, the summary among it, and its actions from the room's front on
pub acted : {o : Outcome} {h : Handled} {room after : List ℕ} (acts : List Act) (r : Replica) (u : Summary) (n : ℕ)
    → h ≡ record { answer = 0; count = n; replica = with_summary r u } → n ≡ length acts → after ≡ write_at room 0 acts
    → o ≡ record { answer = 0; replica = r; actions = acts } → Sums r.sc r.window u → Told (summed o) h room after
acted {o} {h} {room} {after} acts r u n g e w f s =
    subst (λ (p : Outcome). Told p h room after) (sym (summed_done r u acts f s))
    (record { handed = g ∙ ap (λ (m : ℕ). record { answer = 0; count = m; replica = with_summary r u }) e; written = w ∙ write_front room acts })

-- any two that an outcome allows coincide; of two values of the code the same is seen, and `seen_unique` says that they are one
pub Told-unique : {o : Outcome} {h h' : Handled} {room after after' : List ℕ} → Told o h room after → Told o h' room after' → (h ≡ h') × (after ≡ after')
Told-unique s t = (s.handed ∙ sym t.handed, s.written ∙ sym t.written)

-- ── what was decided for one slot, carried out ──

-- the key table's part, last: refused with 7, left alone, or with the batch noted
module _ (r : Replica) where
  pub noting_passes : (t : Bool) (slot : ℕ) (b : Batch) (o : Outcome) → (o.answer ≡ 0 → ⊥) → noting r t slot b o ≡ o
  unfolding noting
  noting_passes t slot b o h = rw (ne_eqb o.answer 0 h, and-false)

  pub noting_full : (t : Bool) (slot : ℕ) (b : Batch) (o : Outcome) → o.answer ≡ 0 → (t && overfull r.keys b) ≡ true → noting r t slot b o ≡ kept 7 r
  unfolding noting
  noting_full true slot b o e f = rw (eq-eqb o.answer 0 e, f)
  noting_full false slot b o e f = absurd (clash f refl)

  pub noting_acts : (t : Bool) (slot : ℕ) (b : Batch) (p : Replica) (acts : List Act) → (t && overfull r.keys b) ≡ false
      → noting r t slot b (record { answer = 0; replica = p; actions = acts })
      ≡ record {
        answer = 0;
        replica = record { sc = p.sc; bars = p.bars; window = p.window; keys = pick t (refresh slot b r.keys) p.keys; reads = p.reads; summary = p.summary };
        actions = acts;
      }
  unfolding noting
  noting_acts true slot b p acts f = rw f
  noting_acts false slot b p acts f = refl

-- the replica after it, with its key table
abbrev pub settled_with : Replica → Window → ℕ → Decided → KeyTable → Replica
settled_with r w i d t = record { sc = d.sc; bars = r.bars; window = put_slot w i d.slot; keys = t; reads = r.reads; summary = r.summary }

module _ (r : Replica) (w : Window) (i slot : ℕ) (d : Decided) where
  pub settled_refused : (d.answer ≡ 0 → ⊥) → settled r w i slot d ≡ kept d.answer r
  unfolding settled
  settled_refused h = rw (ne_eqb d.answer 0 h)

  pub settled_full : d.answer ≡ 0 → (d.noted && overfull r.keys d.slot.batch) ≡ true → settled r w i slot d ≡ kept 7 r
  unfolding settled
  settled_full e f = rw (eq-eqb d.answer 0 e) (noting_full r d.noted slot d.slot.batch _ refl f)

  pub settled_acts : d.answer ≡ 0 → (d.noted && overfull r.keys d.slot.batch) ≡ false
      → settled r w i slot d
      ≡ record {
        answer = 0;
        replica = settled_with r w i d (pick d.noted (refresh slot d.slot.batch r.keys) r.keys);
        actions = says_acts d.says d.keys;
      }
  unfolding settled
  settled_acts e f = rw (eq-eqb d.answer 0 e) (noting_acts r d.noted slot d.slot.batch _ _ f)

  -- as the code has it: what it says, the key table, and the summary
  pub settled-Told : {room after : List ℕ} {n : ℕ} {b : Bool} {t : KeyTable} {u : Summary} → d.answer ≡ 0 → b ≡ (d.noted && overfull r.keys d.slot.batch) → b ≡ false
      → 3456 ≤ length room → Said room 0 (says_acts d.says d.keys) n after → t ≡ pick d.noted (refresh slot d.slot.batch r.keys) r.keys
      → Sums d.sc (put_slot w i d.slot) u
      → Told (summed (settled r w i slot d)) (record { answer = 0; count = n; replica = with_summary (settled_with r w i d t) u }) room after
  settled-Told {t = t} {u = u} e f g l s k q =
      let x = Said-in s (omega arith) l in
      acted (says_acts d.says d.keys) (settled_with r w i d t) u _ refl (x.0 ∙ zero-add _) x.1 (settled_acts e (sym f ∙ g) ∙ rw k) q

-- the summary after what was decided for one slot
module _ {r : Replica} {w : Window} {i slot : ℕ} {d : Decided} {room : List ℕ} (f : SettleFits r w i slot d room) (e : d.answer ≡ 0) (l : i < length w.slots) where
  steady : Steady r.sc d.sc
  steady = go f.settles
    where
      go : Settles r.sc (slot_at w i) d → Steady r.sc d.sc
      go (done z k) = k
      go (refused n h z) = absurd (h (sym (ap (λ (x : Decided). x.answer) z) ∙ e))

  before : Sums d.sc w r.summary
  before = Sums-steady r.sc d.sc w r.summary steady.start steady.commit f.sum

  named_here : slot ≡ d.sc.start + i
  named_here = omega (arith, f.named, steady.start)

  low_commit : d.sc.start ≤ d.sc.commit_bar
  low_commit = omega (arith, f.commit, steady.start, steady.commit)

  pub settled_sums : {u : Summary} {b : Bool} → u ≡ changed r.summary d.sc.commit_bar slot (slot_at w i).status d.slot.status
      → b ≡ is_passed r.summary slot d.slot.status → not b ≡ true → Sums d.sc (put_slot w i d.slot) u
  settled_sums {u} {b} g p n =
      let q = Sums-put d.sc w r.summary i d.slot before f.here l f.within low_commit (ap (λ (x : ℕ). is_passed r.summary x d.slot.status) (sym named_here) ∙ refuted p n) in
      rw (g, named_here) q

  pub settled_scanned : {u : Summary} {b : Bool} {k : ℕ} → u ≡ changed r.summary d.sc.commit_bar slot (slot_at w i).status d.slot.status
      → b ≡ is_passed r.summary slot d.slot.status → not b ≡ false → k ≡ stop_in (put_slot w i d.slot) 0 3 i w.len
      → Sums d.sc (put_slot w i d.slot) (record { first = d.sc.start + k; accepting = u.accepting })
  settled_scanned {u} {b} {k} g p n s =
      let q = Sums-passed d.sc w r.summary i d.slot before f.here l f.within low_commit k
      (ap (λ (x : ℕ). is_passed r.summary x d.slot.status) (sym named_here) ∙ granted p n)
      (s ∙ stop_in_lem (put_slot w i d.slot) i w.len 0 3 f.within ∙ passes_status (put_slot w i d.slot) 3 i w.len) in
      rw (g, named_here) q

  -- where the scan ends is a place of the window
  pub settled_open : {k : ℕ} → k ≡ stop_in (put_slot w i d.slot) 0 3 i w.len → d.sc.start + k ≤ 4294967360
  settled_open e =
      omega (
        arith,
        e ∙ stop_in_lem (put_slot w i d.slot) i w.len 0 3 f.within,
        steady.start,
        f.start,
        scan_below (passes (put_slot w i d.slot) 0 3) i w.len 64 (omega (arith, f.low)) f.within,
      )
