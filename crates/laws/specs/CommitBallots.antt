-- 02, Wish 5: "Every log action, CommitSlot too (there, the slot's ballot)". In each of the three places that write one, on any record: an AcceptReply, a
-- leader's own AcceptData entry and a CommitNotice. The ballot is the slot's as the call leaves it; a notice's own may be smaller.
use Rattle.std.specs.Prelude.{◌≡◌, true, List, [], ◌∷◌, ℕ, ◌-◌, ◌≤◌, ◌<◌, leb, replicate}
use Rattle.std.proofs.Math.Path.{refl}
use Rattle.std.proofs.Common.{sym, ap, ◌∙◌, arith}
use borrow.Author.Tests.{leb-true}
use Rattle.base.specs.Pick.{pick_both, and_left, clash}
use Rattle.base.specs.Gather.{All-gather}
use Rattle.base.specs.Scan.{scan, scan_high, scan_passed}
use Rattle.base.specs.Among.{All}
use Rattle.batch.specs.Batches.{make_batch}
use Rattle.batch.specs.Keys.{place_in, note_key, note_keys, new_keys, overfull_in}
use Rattle.tally.specs.Open.{fit_reads}
use Rattle.actions.specs.declared.Action.TheVariants.{CommitSlot}
use Rattle.actions.specs.Actions.{Act, bare}
use Rattle.slots.specs.declared.Slot.{Slot}
use Rattle.slots.specs.Slots.{accepting, committed, with_state, null_slot, marked_slot, fit_slot}
use Rattle.decide.specs.Decide.{decide_accept}
use Rattle.decide.specs.Scalars.{leads, fit_scalars}
use Rattle.window.specs.declared.Window.{Window}
use Rattle.window.specs.Window.{slot_at, put_slot, sweep, fit_slots, first_open, may_mark, mark_stop, filled}
use Rattle.window.specs.Acts.{mark_acts}
use Rattle.window.specs.Places.{filled_has}
use Rattle.window.specs.ByPlace.{at_place, at_here, put_keeps, sweep_keeps}
use Rattle.replica.specs.declared.Replica.{Replica}
use Rattle.replica.specs.declared.Entry.TheVariants.{PrepareBal, AcceptData, CommitSlot as CommitEntry}
use Rattle.replica.specs.Record.{Outcome, new_replica, noting, settled, with_window, place, number}
use Rattle.replica.specs.Fit.{fit}
use Rattle.replica.specs.Messages.{accept_step}
use Rattle.replica.specs.Leadership.{mark_on, commit_notice_step}
use Rattle.replica.specs.Durability.{logged_on}
use Rattle.replica.specs.Step.{call_accept, call_accept_reply, call_commit_notice, call_logged, step}
use Rattle.laws.specs.Leaves.{done}
use Rattle.laws.specs.WaysMessages.{accept_reply_step_ways}
use Rattle.laws.specs.WaysLeadership.{mark_window, mark_from, mark_end, commit_notice_step_ways}
use Rattle.laws.specs.WaysDurability.{completion, logged, Completes, completes_silent, completes_more, completes_commit, completes_report, moved_ways, logged_step_ways, other_entry}

-- ── what is said ──
-- an action is the CommitSlot of a slot, at the ballot that the slot has in w, the log after the call, which begins at `start`
pub record OwnBallot (start : ℕ) (w : Window) (a : Act) : Type 0 where
  pub slot : ℕ
  pub says : a ≡ bare (CommitSlot (record { slot = slot; ballot = (at_place w (slot - start)).ballot }))

-- the same of a CommitNotice at a ballot, which is not larger
pub record NoticeBallot (ballot start : ℕ) (w : Window) (a : Act) : Type 0 where
  pub own : OwnBallot start w a
  pub notice : ballot ≤ (at_place w (own.slot - start)).ballot

abbrev pub AllOwn : Outcome → Type 0
AllOwn o = All (OwnBallot o.replica.sc.start o.replica.window) o.actions

-- ── the three places ──
abbrev commit_at : ℕ → ℕ → Act
commit_at slot ballot = bare (CommitSlot (record { slot = slot; ballot = ballot }))

-- one slot is written, and keeps its ballot
put_own : (start slot : ℕ) (w : Window) (x : Slot) → x.ballot ≡ (slot_at w (slot - start)).ballot → slot - start < w.len
    → OwnBallot start (put_slot w (slot - start) x) (commit_at slot (slot_at w (slot - start)).ballot)
put_own start slot w x e l =
    let i : ℕ = slot - start in
    record { slot = slot; says = ap (commit_at slot) (sym (put_keeps (λ (y : Slot). y.ballot) w i i x e ∙ ap (λ (y : Slot). y.ballot) (at_here w i l))) }

pub reply_own : (r : Replica) (room peer slot ballot : ℕ) → AllOwn (step r room (call_accept_reply peer slot ballot))
reply_own r room peer slot ballot =
    accept_reply_step_ways AllOwn r room peer slot ballot (λ a _. tt) (λ f _. tt)
    (λ f _. (put_own r.sc.start slot r.window _ refl (omega (arith, f.low, f.high)), tt))

module _ (r : Replica) (room slot bal size : ℕ) (lead : leads r.sc ≡ true) where
  abbrev counted : Replica
  counted = logged r (completion AcceptData slot bal size)

  completed_own : slot - r.sc.start < counted.window.len → (after : Replica) (acts : List Act) → Completes counted (place r.sc slot) slot bal after acts
      → AllOwn (done after acts)
  unfolding logged_on
  completed_own h _ _ completes_silent = tt
  completed_own h _ _ (completes_more _ _ _ _) = tt
  completed_own h _ _ (completes_commit _ _ _ _) = (put_own r.sc.start slot counted.window _ refl h, tt)
  completed_own h _ _ (completes_report _ n _) = absurd (clash lead n)

  pub entry_own : AllOwn (step r room (call_logged (completion AcceptData slot bal size)))
  unfolding logged_on
  entry_own =
      logged_step_ways AllOwn r room (completion AcceptData slot bal size) (λ a _ _. tt) (λ f _. tt) (λ f. other_entry AcceptData PrepareBal refl)
      (λ f. other_entry AcceptData PrepareBal refl)
      (λ f e after acts c.
      let k : AllOwn (done after acts) = completed_own (omega (arith, f.low, f.high)) after acts c in
      moved_ways (λ (x : Replica). AllOwn (done x acts)) after slot k (λ bar. k))
      (λ f. other_entry AcceptData CommitEntry refl)

module _ (r : Replica) (room peer ballot bar : ℕ) where
  abbrev w : Window
  w = mark_window r bar

  -- a slot that a notice marks is not below its ballot
  marks_above : (i : ℕ) → mark_from r ≤ i → i < mark_end r ballot bar → ballot ≤ (slot_at w i).ballot
  unfolding mark_stop
  marks_above i a b =
      leb-true ballot (slot_at w i).ballot
      (and_left (leb ballot (slot_at w i).ballot) (leb accepting (slot_at w i).status) (scan_passed (λ i. may_mark ballot (slot_at w i)) (mark_from r) (place r.sc bar) i a b))

  marks_within : r.sc.commit_bar < bar → mark_end r ballot bar ≤ w.len
  unfolding mark_stop
  marks_within l = omega (arith, scan_high (λ i. may_mark ballot (slot_at w i)) (mark_from r) (place r.sc bar) (omega arith), filled_has null_slot r.window (place r.sc bar))

  abbrev pub Own : Outcome → Type 0
  Own o = All (NoticeBallot ballot o.replica.sc.start o.replica.window) o.actions

  pub notice_own : Own (step r room (call_commit_notice peer ballot bar))
  notice_own =
      commit_notice_step_ways Own r room peer ballot bar (λ a _. tt)
      (λ f.
      let after : Window = sweep (λ i s. marked_slot s) (mark_from r) (mark_end r ballot bar) w in
      All-gather (λ i. mark_acts (number r.sc i) (slot_at w i)) (NoticeBallot ballot r.sc.start after) (mark_from r) (mark_end r ballot bar)
      (λ i a b.
      let at : place r.sc (number r.sc i) ≡ i = omega arith in
      let kept : (at_place after (place r.sc (number r.sc i))).ballot ≡ (slot_at w i).ballot =
      ap (λ (n : ℕ). (at_place after n).ballot) at
      ∙ sweep_keeps (λ (x : Slot). x.ballot) (λ i s. marked_slot s) (λ i s. pick_both (λ (x : Slot). x.ballot ≡ s.ballot) (leb committed s.status) refl refl) (mark_from r) (mark_end r ballot bar) w i
      ∙ ap (λ (x : Slot). x.ballot) (at_here w i (omega (arith, marks_within f.above))) in
      pick_both (All (NoticeBallot ballot r.sc.start after)) (leb committed (slot_at w i).status) tt (
        record {
          own = record { slot = number r.sc i; says = ap (commit_at (number r.sc i)) (sym kept) };
          notice = omega (arith, marks_above i a b, kept);
        },
        tt,
      )))

-- ── a slot with a larger ballot than the notice: no group comes to it (mark_at_largest), and the entry says the slot's ──
abbrev pub ahead : Replica
ahead =
    let r : Replica = (step (new_replica 2 3 0 0).replica 3456 (call_accept 0 0 257 (record { id = 7; count = 1; keys = 5 ∷ replicate 7 0 }))).replica in
    with_window r r.sc (put_slot r.window 0 (with_state (slot_at r.window 0) 514 accepting))

pub ahead_says : (step ahead 3456 (call_commit_notice 0 257 1)).actions ≡ bare (CommitSlot (record { slot = 0; ballot = 514 })) ∷ []
unfolding new_replica fit fit_scalars fit_slots fit_reads fit_slot filled noting settled accept_step first_open mark_on mark_stop commit_notice_step decide_accept make_batch note_key note_keys new_keys place_in overfull_in scan
ahead_says = refl
