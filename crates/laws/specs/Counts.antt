-- How many actions each way of a call gives, and what a PrepareReply and a log completion leave as it was.
use Rattle.std.specs.Prelude.{◌≡◌, refl, not, ◌&&◌, ◌||◌, List, [], ◌∷◌, ◌++◌, ℕ, ◌+◌, ◌-◌, ◌≤◌, ◌<◌, ltb, leb, eqb, length}
use Rattle.std.proofs.Common.{subst, ◌∙◌, le_refl, arith, length-append, leb-true}
use Rattle.base.specs.Pick.{pick, pick_cases, pick_both, and_left, tests}
use Rattle.base.specs.Gather.{gather, length-gather, length-gather_two}
use Rattle.base.specs.Scan.{scan_high, scan_below}
use Rattle.tally.specs.declared.Tally.{Tally}
use Rattle.tally.specs.Open.{smaller}
use Rattle.actions.specs.declared.Says.{Says}
use Rattle.actions.specs.declared.Says.TheVariants.{Nothing, One, Two}
use Rattle.actions.specs.Actions.{Act, says_acts}
use Rattle.slots.specs.declared.Slot.{Slot}
use Rattle.slots.specs.Slots.{entered_slot, null_slot}
use Rattle.decide.specs.declared.Scalars.{Scalars}
use Rattle.decide.specs.declared.Reply.{Reply}
use Rattle.decide.specs.Scalars.{leads, urgent, strict, steps_down}
use Rattle.window.specs.declared.Window.{Window}
use Rattle.window.specs.Window.{slot_at, first_open, may_mark, mark_stop}
use Rattle.window.specs.Acts.{promise, enter_acts, redo_acts, mark_acts, pass_acts}
use Rattle.window.specs.Places.{size, put_long, filled_has, filled_most, sweep_long}
use Rattle.replica.specs.declared.Replica.{Replica}
use Rattle.replica.specs.declared.Done.{Done}
use Rattle.replica.specs.Record.{Outcome, with_window, place, number, log_end}
use Rattle.replica.specs.Messages.{down_acts, append_acts, reply_on}
use Rattle.replica.specs.Durability.{moved_accept, notice_acts, pass_stop, logged_on}
use Rattle.laws.specs.OfScalars.{Fixed, Fixed-same, Fixed-then, fallen_fixed}
use Rattle.laws.specs.OfFit.{FitNumbers, fit_facts}
use Rattle.laws.specs.OfDecide.{reports}
use Rattle.laws.specs.Leaves.{done, put_back}
use Rattle.laws.specs.WaysMessages.{KeepsLow, Prepares, prepare_window, prepare_end}
use Rattle.laws.specs.WaysReply.{grown_window, reply_window, heard_window, counted_window, tabled_sc, reply_on_ways, reply_place}
use Rattle.laws.specs.WaysLeadership.{Leads, lead_window, lead_from, mark_end, mark_from, mark_window}
use Rattle.laws.specs.WaysDurability.{logged, with_slot, Completes, completes_silent, completes_more, completes_commit, completes_report, moved_ways, pass_from}
use Rattle.laws.specs.WaysAdded.{read_at, read_place, Asked}
use Rattle.laws.specs.Appended.{appended_long, appended_most, top_within}

-- ── how many actions ──
pub says_few : (s : Says) (keys : List ℕ) → length (says_acts s keys) ≤ 2
says_few Nothing keys = omega arith
says_few (One a) keys = omega arith
says_few (Two a b) keys = le_refl 2

pub down_few : (sc : Scalars) (ballot : ℕ) → length (down_acts sc ballot) ≤ 1
down_few sc ballot = pick_both (λ (x : List Act). length x ≤ 1) (steps_down sc ballot) (le_refl 1) (omega arith)

pub enter_few : (slot ballot : ℕ) (s : Slot) → length (enter_acts slot ballot s) ≤ 2
enter_few slot ballot s = pick_both (λ (x : List Act). length x ≤ 2) (eqb s.status 1) (le_refl 2) (omega arith)

pub redo_few : (slot ballot : ℕ) (s : Slot) → length (redo_acts slot ballot s) ≤ 1
redo_few slot ballot s = pick_both (λ (x : List Act). length x ≤ 1) (leb 3 s.status) (omega arith) (le_refl 1)

pub mark_few : (slot : ℕ) (s : Slot) → length (mark_acts slot s) ≤ 1
mark_few slot s = pick_both (λ (x : List Act). length x ≤ 1) (leb 3 s.status) (omega arith) (le_refl 1)

pub pass_few : (slot : ℕ) (s : Slot) → length (pass_acts slot s) ≤ 1
pass_few slot s = pick_both (λ (x : List Act). length x ≤ 1) (eqb s.batch.id 0 || not (eqb s.status 3)) (omega arith) (le_refl 1)

pub notice_few : (sc : Scalars) (bar end : ℕ) → length (notice_acts sc bar end) ≤ 1
notice_few sc bar end =
    pick_both (λ (x : List Act). length x ≤ 1)
    (eqb bar end && (leads sc && (ltb 0 sc.bal_prepared && (eqb sc.bal_prepared sc.bal_max_seen && urgent sc)))) (le_refl 1) (omega arith)

pub smaller_left : (a b : ℕ) → smaller a b ≤ a
smaller_left a b = pick_cases (λ (x : ℕ). x ≤ a) (ltb a b) (λ t. le_refl a) (λ t. omega (arith, tests))

-- ── Prepare ──
pub prepared_few : (r : Replica) (peer trigger ballot : ℕ) → Prepares r peer trigger ballot
    → length (down_acts r.sc ballot ++ gather (λ i. promise (number r.sc i) ballot ∷ []) (place r.sc trigger) (prepare_end r trigger)) ≤ 191
prepared_few r peer trigger ballot f =
    let n = (fit_facts r f.fits).numbers in
    let h = filled_has null_slot r.window (place r.sc trigger + 1) in
    let m = filled_most null_slot r.window (place r.sc trigger + 1) 64 n.window (omega (arith, f.low, f.high)) in
    let t = top_within (prepare_window r trigger) (place r.sc trigger) (omega arith) in
    omega (
      arith,
      length-append (down_acts r.sc ballot) (gather (λ i. promise (number r.sc i) ballot ∷ []) (place r.sc trigger) (prepare_end r trigger)),
      down_few r.sc ballot,
      length-gather (λ i. promise (number r.sc i) ballot ∷ []) (λ i. le_refl 1) (place r.sc trigger) (prepare_end r trigger),
    )

-- ── PrepareReply, also the leader's own ──
pub append_few : (r : Replica) (i : ℕ) → length (append_acts r i) ≤ (i + 1) - r.window.len
append_few r i = length-gather (λ k. promise (number r.sc k) r.sc.bal_prep_sent ∷ []) (λ k. le_refl 1) r.window.len (i + 1)

-- the list behind the window stays as long
module _ (r : Replica) (peer : ℕ) (m : Reply) where
  pub noted_long : size (reply_window r peer m) ≡ size r.window
  noted_long = put_long (grown_window r m) (place r.sc m.slot) _ ∙ appended_long r (place r.sc m.slot) (place r.sc m.trigger)

  pub heard_long : size (heard_window r peer m) ≡ size r.window
  heard_long = put_long (reply_window r peer m) (place r.sc m.slot) _ ∙ noted_long

  pub counted_long : size (counted_window r peer m) ≡ size r.window
  counted_long = put_long (heard_window r peer m) (place r.sc m.trigger) _ ∙ heard_long

-- a PrepareReply that acts, whatever the outcome is wrapped in
module _ (P : Outcome → Type 0) (r : Replica) (peer : ℕ) (m : Reply) (room : r.window.len ≤ 64) where
  pub reply_on_leaves : KeepsLow P r → ((after : Replica) (acts : List Act) → length acts ≤ 191 → Fixed r.sc after.sc → size after.window ≡ size r.window → P (done after acts))
      → P (reply_on r peer m)
  reply_on_leaves k on =
      let i : ℕ = place r.sc m.slot in
      let j : ℕ = place r.sc m.trigger in
      let fixed = fallen_fixed r.sc r.bars peer m.bar in
      reply_on_ways P r peer m (λ a h z. k a h)
      (λ f a. on _ _ (omega (arith, reply_place r m f, append_few r i)) fixed (noted_long r peer m))
      (λ f h e. on _ _ (omega (arith, reply_place r m f, append_few r i)) fixed (heard_long r peer m))
      (λ f h e q. on _ _ (omega (arith, reply_place r m f, append_few r i)) fixed (counted_long r peer m))
      (λ f h e q b.
      let g : ℕ → List Act = λ k. enter_acts (number (tabled_sc r peer m) k) m.ballot (slot_at (counted_window r peer m) k) in
      on _ _
      (omega (
        arith,
        f.low,
        f.from,
        f.high,
        f.logged,
        append_few r i,
        appended_most r i j 64 room (reply_place r m f),
        length-append (append_acts r i) (gather g j (reply_window r peer m).len),
        length-gather_two g (λ k. enter_few (number (tabled_sc r peer m) k) m.ballot (slot_at (counted_window r peer m) k)) j (reply_window r peer m).len,
      ))
      (Fixed-then _ _ _ fixed (record { id = refl; group = refl; start = refl; options = refl }))
      (sweep_long (λ i s. entered_slot (strict (tabled_sc r peer m)) m.ballot s) j (reply_window r peer m).len (counted_window r peer m) ∙ counted_long r peer m))

-- ── a timeout, a CommitNotice ──
pub led_few : (r : Replica) (source ballot : ℕ) (a b c : Act) → Leads r source ballot
    → length (a ∷ b ∷ (gather (λ i. redo_acts (number r.sc i) ballot (slot_at (lead_window r) i)) (lead_from r) (lead_window r).len ++ (c ∷ []))) ≤ 191
led_few r source ballot a b c f =
    let g : ℕ → List Act = λ i. redo_acts (number r.sc i) ballot (slot_at (lead_window r) i) in
    let m = filled_most null_slot r.window (first_open r.window + 1) 64 (fit_facts r f.fits).numbers.window (omega (arith, f.room)) in
    omega (
      arith,
      length-append (gather g (lead_from r) (lead_window r).len) (c ∷ []),
      length-gather g (λ i. redo_few (number r.sc i) ballot (slot_at (lead_window r) i)) (lead_from r) (lead_window r).len,
    )

pub mark_end_fits : (r : Replica) (ballot bar : ℕ) → r.sc.commit_bar < bar → bar ≤ r.sc.start + 64 → mark_end r ballot bar ≤ 64
unfolding mark_stop
mark_end_fits r ballot bar a h = omega (arith, scan_high (λ i. may_mark ballot (slot_at (mark_window r bar) i)) (mark_from r) (place r.sc bar) (omega arith))

-- ── a log completion ──
pub moved_fixed : (r : Replica) (slot : ℕ) → Fixed r.sc (moved_accept r slot).sc
moved_fixed r slot =
    moved_ways (λ (x : Replica). Fixed r.sc x.sc) r slot (Fixed-same r.sc) (λ bar. record { id = refl; group = refl; start = refl; options = refl })

pub moved_window : (r : Replica) (slot : ℕ) → (moved_accept r slot).window ≡ r.window
moved_window r slot = moved_ways (λ (x : Replica). x.window ≡ r.window) r slot refl (λ bar. refl)

-- what an AcceptData entry does before accept_bar moves
pub Completes-leaves : (P : Replica → List Act → Type 0) (r : Replica) (i slot ballot : ℕ) (after : Replica) (acts : List Act) → Completes r i slot ballot after acts
    → ((s : Slot) (acts : List Act) → length acts ≤ 1 → P (with_slot r i s) acts) → P after acts
Completes-leaves P r i slot ballot _ _ completes_silent on =
    subst (λ (w : Window). P (with_window r r.sc w) []) (put_back r.window i) (on (slot_at r.window i) [] (omega arith))
Completes-leaves P r i slot ballot _ _ (completes_more h b f q) on = on _ _ (omega arith)
Completes-leaves P r i slot ballot _ _ (completes_commit h b f q) on = on _ _ (le_refl 1)
Completes-leaves P r i slot ballot _ _ (completes_report h a b) on =
    let says : List Act = says_acts (reports r.sc (slot_at r.window i) slot).says (reports r.sc (slot_at r.window i) slot).keys in
    subst (λ (w : Window). P (with_window r r.sc w) says) (put_back r.window i) (on (slot_at r.window i) says (le_refl 1))

pub pass_end : (r : Replica) → FitNumbers r.sc r.window.len → pass_stop r ≤ 64
unfolding pass_stop
pass_end r f =
    scan_below (λ i. leb 3 (slot_at r.window i).status) (place r.sc r.sc.commit_bar) (place r.sc r.sc.accept_bar) 64 (omega arith) (omega arith)

pub passed_few : (r : Replica) → FitNumbers r.sc r.window.len
    → length
    (gather (λ i. pass_acts (number r.sc i) (slot_at r.window i)) (pass_from r) (pass_stop r)
    ++ pick (eqb (pass_from r) (pass_stop r)) [] (notice_acts r.sc (number r.sc (pass_stop r)) (log_end r))) ≤ 191
passed_few r f =
    let g : ℕ → List Act = λ i. pass_acts (number r.sc i) (slot_at r.window i) in
    let one : List Act = pick (eqb (pass_from r) (pass_stop r)) [] (notice_acts r.sc (number r.sc (pass_stop r)) (log_end r)) in
    let h : length one ≤ 1 = pick_both (λ (x : List Act). length x ≤ 1) (eqb (pass_from r) (pass_stop r)) (omega arith) (notice_few r.sc (number r.sc (pass_stop r)) (log_end r)) in
    omega (
      arith,
      pass_end r f,
      h,
      length-append (gather g (pass_from r) (pass_stop r)) one,
      length-gather g (λ i. pass_few (number r.sc i) (slot_at r.window i)) (pass_from r) (pass_stop r),
    )

-- the size of the log changes nothing of this
pub logged-Fixed : (r : Replica) (d : Done) → Fixed r.sc (logged r d).sc
unfolding logged_on
logged-Fixed r d = record { id = refl; group = refl; start = refl; options = refl }

pub logged_long : (r : Replica) (d : Done) → size (logged r d).window ≡ size r.window
unfolding logged_on
logged_long r d = put_long r.window (place r.sc d.slot) _

pub logged_numbers : (r : Replica) (d : Done) → FitNumbers r.sc r.window.len → FitNumbers (logged r d).sc (logged r d).window.len
unfolding logged_on
logged_numbers r d f =
    record {
      size = f.size;
      member = f.member;
      start = f.start;
      window = f.window;
      leader = f.leader;
      exec = f.exec;
      commit = f.commit;
      log = f.log;
      accept = f.accept;
      accept_log = f.accept_log;
    }

-- the read that a reply names has no more than 8 keys
pub read_few : (r : Replica) (peer id : ℕ) (reply : Tally) → Asked r peer id reply → (read_at r (read_place r id)).tally.count ≤ 8
read_few r peer id reply f =
    leb-true _ _ (and_left (leb (read_at r (read_place r id)).tally.count 8) _ ((fit_facts r f.fits).reads.each (read_place r id) f.known))
