-- The log does not get shorter, and commit_bar moves up alone, over slots that were committed before the call (Sight, `Bars`).
use Rattle.std.specs.Prelude.{◌≡◌, refl, Bool, List, ℕ, ◌+◌, ◌-◌, ◌≤◌, ◌<◌, ltb, leb, eqb}
use Rattle.std.proofs.Common.{sym, ◌∙◌, le_refl, arith, leb-true}
use Rattle.std.proofs.Math.Path.{subst}
use Rattle.base.specs.Pick.{pick_both, pick_cases}
use Rattle.base.specs.Scan.{scan_low, scan_below, scan_passed}
use Rattle.actions.specs.Actions.{Act}
use Rattle.slots.specs.declared.Slot.{Slot}
use Rattle.slots.specs.Slots.{committed, null_slot, with_offset}
use Rattle.decide.specs.declared.Scalars.{Scalars}
use Rattle.decide.specs.declared.Reply.{Reply}
use Rattle.decide.specs.Scalars.{followed}
use Rattle.decide.specs.Decide.{decide_offer}
use Rattle.decide.specs.PrepareReply.{own_reply}
use Rattle.window.specs.Window.{slot_at, grown, first_open}
use Rattle.window.specs.Places.{filled_low}
use Rattle.window.specs.ByPlace.{at_here, put_keeps}
use Rattle.replica.specs.declared.Replica.{Replica}
use Rattle.replica.specs.declared.Done.{Done}
use Rattle.replica.specs.Record.{Outcome, place, log_end}
use Rattle.replica.specs.Messages.{reply_on, clean_reply}
use Rattle.replica.specs.Durability.{moved_accept, pass_stop, logged_on, logged_step}
use Rattle.replica.specs.Added.{moved_exec}
use Rattle.replica.specs.Step.{Call, call_prepare, call_prepare_reply, call_accept, call_accept_reply, call_commit_notice, call_timeout, call_logged, call_offer, call_executed, call_open_read, call_read_reply, does, step}
use Rattle.laws.specs.OfFit.{FitNumbers, fit_facts}
use Rattle.laws.specs.OfScalars.{fallen_ways}
use Rattle.laws.proofs.Theorems.{start_stays}
use Rattle.laws.specs.Appended.{appended_low}
use Rattle.laws.specs.WaysMessages.{prepare_step_ways, accept_step_ways, accept_reply_step_ways}
use Rattle.laws.specs.WaysReply.{tabled_sc, reply_on_ways, prepare_reply_step_ways}
use Rattle.laws.specs.WaysLeadership.{timeout_step_ways, commit_notice_step_ways}
use Rattle.laws.specs.WaysDurability.{logged, logged_at, Logs, Completes, completes_silent, completes_more, completes_commit, completes_report, moved_ways, pass_from, passed, logged_step_ways}
use Rattle.laws.specs.WaysAdded.{offer_step_ways, executed_step_ways, open_read_step_ways, read_reply_step_ways}
use Rattle.voting.specs.Keeping.{logged_keeps}
use Rattle.agreement.specs.BySlot.{by_place, numbered_place}
use Rattle.agreement.specs.Theorem.{slot_of}
use Rattle.safety.specs.Sight.{sight_of, Bars, Able}

-- ── what becomes of the log's length and of commit_bar ──
pub record Moves (r q : Replica) : Type 0 where
  pub long : r.window.len ≤ q.window.len
  pub up : r.sc.commit_bar ≤ q.sc.commit_bar
  pub over : (s : ℕ) → r.sc.commit_bar ≤ s → s < q.sc.commit_bar → 3 ≤ (slot_of r s).status

abbrev After : Replica → Outcome → Type 0
After r o = Moves r o.replica

-- commit_bar stays
rests : (r q : Replica) → r.window.len ≤ q.window.len → q.sc.commit_bar ≡ r.sc.commit_bar → Moves r q
rests r q l e = record { long = l; up = omega arith; over = λ s a b. absurd (omega arith) }

keeps : (r : Replica) → Moves r r
keeps r = rests r r (le_refl _) refl

followed_bar : (sc : Scalars) (peer ballot : ℕ) → (followed sc peer ballot).commit_bar ≡ sc.commit_bar
followed_bar sc peer ballot = pick_both (λ (x : Scalars). x.commit_bar ≡ sc.commit_bar) (ltb sc.bal_max_seen ballot) refl refl

tabled_bar : (r : Replica) (peer : ℕ) (m : Reply) → (tabled_sc r peer m).commit_bar ≡ r.sc.commit_bar
tabled_bar r peer m = fallen_ways (λ (x : Scalars). x.commit_bar ≡ r.sc.commit_bar) r.sc r.bars peer m.bar refl (λ max. refl)

-- a PrepareReply, also a leader's own
reply_moves : (r : Replica) (peer : ℕ) (m : Reply) → After r (reply_on r peer m)
reply_moves r peer m =
    let l = appended_low r (place r.sc m.slot) (place r.sc m.trigger) in
    let e = tabled_bar r peer m in
    reply_on_ways (After r) r peer m (λ n _ _. keeps r) (λ f a. rests r _ l e) (λ f h t. rests r _ l e) (λ f h t u. rests r _ l e) (λ f h t u b. rests r _ l e)

-- ── log completions ──
-- a completion's slot gets an offset, and nothing else of any slot changes before the entry's own part
pub logged_slot_keeps : {A : Type 0} (p : Slot → A) → ((x : Slot) (offset : ℕ) → p (with_offset x offset) ≡ p x) → (r : Replica) (d : Done) (s : ℕ) → p (slot_of (logged r d) s) ≡ p (slot_of r s)
unfolding logged_on
logged_slot_keeps p o r d s =
    by_place (λ (s : ℕ) (x y : Slot). p y ≡ p x) r.sc.start r.window (logged r d).window (λ s. refl)
    (λ i. put_keeps p r.window (place r.sc d.slot) i _ (logged_keeps p o r.sc.wal_offset (slot_at r.window (place r.sc d.slot)))) s

module _ (r : Replica) (d : Done) where
  from_logged : (q : Replica) → Moves (logged r d) q → Moves r q
  unfolding logged_on
  from_logged q k =
      record {
        long = k.long;
        up = k.up;
        over = λ s a b. subst (λ (n : ℕ). 3 ≤ n) (logged_slot_keeps (λ (x : Slot). x.status) (λ x n. refl) r d s) (k.over s a b);
      }

  -- accept_bar moves
  moved_moves : (q : Replica) (slot : ℕ) → Moves r q → Moves r (moved_accept q slot)
  moved_moves q slot k = moved_ways (Moves r) q slot k (λ bar. record { long = k.long; up = k.up; over = k.over })

-- an AcceptData entry, before accept_bar moves
completed_moves : (r : Replica) (i slot ballot : ℕ) (after : Replica) (acts : List Act) → Completes r i slot ballot after acts → Moves r after
completed_moves r i slot ballot _ _ completes_silent = keeps r
completed_moves r i slot ballot _ _ (completes_more k b a q) = rests r _ (le_refl _) refl
completed_moves r i slot ballot _ _ (completes_commit k b a q) = rests r _ (le_refl _) refl
completed_moves r i slot ballot _ _ (completes_report k n p) = keeps r

-- a CommitSlot entry at commit_bar: the bar passes slots up to the first that is not committed, within the log
passed_moves : (r : Replica) → FitNumbers r.sc r.window.len → After r (passed r)
unfolding pass_stop
passed_moves r f =
    let from : ℕ = pass_from r in
    let to : ℕ = place r.sc r.sc.accept_bar in
    record {
      long = le_refl _;
      up = omega (arith, scan_low is_done from to);
      over = λ s a b.
          let i : ℕ = s - r.sc.start in
          let l : i < r.window.len = omega (arith, f.exec, f.commit, f.log, f.accept_log, scan_below is_done from to r.window.len (omega (arith, f.log)) (omega (arith, f.accept_log))) in
          let z = leb-true 3 (slot_at r.window i).status (scan_passed is_done from to i (omega arith) (omega (arith, f.exec, f.commit))) in
          subst (λ (x : Slot). 3 ≤ x.status) (sym (numbered_place r.sc.start r.window s (omega (arith, f.exec, f.commit)) ∙ at_here r.window i l)) z;
    }
  where
    is_done : ℕ → Bool
    is_done i = leb committed (slot_at r.window i).status

-- so what it passes is in the log
pub pass_within : (r : Replica) → FitNumbers r.sc r.window.len → (i : ℕ) → i < pass_stop r → i < r.window.len
unfolding pass_stop
pass_within r f i l =
    omega (
      arith,
      f.accept_log,
      scan_below (λ i. leb committed (slot_at r.window i).status) (pass_from r) (place r.sc r.sc.accept_bar) r.window.len (omega (arith, f.log)) (omega (arith, f.accept_log)),
    )

-- the numbers of the replica with the size of its log
pub logged_numbers : (r : Replica) (d : Done) → Logs r d → FitNumbers (logged r d).sc (logged r d).window.len
unfolding logged_on
logged_numbers r d f =
    let n = (fit_facts r f.fits).numbers in
    record {
      size = n.size;
      member = n.member;
      start = n.start;
      window = n.window;
      leader = n.leader;
      exec = n.exec;
      commit = n.commit;
      log = n.log;
      accept = n.accept;
      accept_log = n.accept_log;
    }

logged_moves : (r : Replica) (room : ℕ) (d : Done) → After r (logged_step r room d)
logged_moves r room d =
    let r' : Replica = logged r d in
    logged_step_ways (After r) r room d (λ n _ _. keeps r) (λ f _. from_logged r d r' (keeps r'))
    (λ f e o.
    let own : Outcome = reply_on r' r'.sc.id (own_reply r'.sc (logged_at r d) d.slot) in
    pick_cases (After r) (eqb own.answer 0) (λ _. from_logged r d own.replica (reply_moves r' r'.sc.id (own_reply r'.sc (logged_at r d) d.slot))) (λ _. keeps r))
    (λ f e h n p. from_logged r d r' (keeps r'))
    (λ f e after acts k. moved_moves r d after d.slot (from_logged r d after (completed_moves r' (place r.sc d.slot) d.slot d.ballot after acts k)))
    (λ f e at. from_logged r d (passed r').replica (passed_moves r' (logged_numbers r d f)))

-- ── every call ──
does_moves : (r : Replica) (room : ℕ) (c : Call) → After r (does r room c)
unfolding moved_exec decide_offer
does_moves r room c = go c
  where
    grows : (n : ℕ) → r.window.len ≤ (grown r.window n).len
    grows n = filled_low null_slot r.window n

    same : r.window.len ≤ r.window.len
    same = le_refl _

    go : (c : Call) → After r (does r room c)
    go (call_prepare peer trigger ballot) =
        prepare_step_ways (After r) r room peer trigger ballot (λ n _. keeps r) (λ f. rests r _ (grows (place r.sc trigger + 1)) (followed_bar r.sc peer ballot))
    go (call_prepare_reply peer m) = prepare_reply_step_ways (After r) r room peer m (λ n _ _. keeps r) (λ f. reply_moves r peer (clean_reply m))
    go (call_accept peer slot ballot b) =
        accept_step_ways (After r) r room peer slot ballot b (λ n _. keeps r) (λ f. rests r _ (grows (place r.sc slot + 1)) (followed_bar r.sc peer ballot))
    go (call_accept_reply peer slot ballot) =
        accept_reply_step_ways (After r) r room peer slot ballot (λ n _. keeps r) (λ f q. rests r _ same refl) (λ f q. rests r _ same refl)
    go (call_commit_notice peer ballot bar) = commit_notice_step_ways (After r) r room peer ballot bar (λ n _. keeps r) (λ f. rests r _ (grows (place r.sc bar)) refl)
    go (call_timeout source) = timeout_step_ways (After r) r room source (λ n _. keeps r) (λ b f. rests r _ (grows (first_open r.window + 1)) refl)
    go (call_logged d) = logged_moves r room d
    go (call_offer b) = offer_step_ways (After r) r room b (λ n _. keeps r) (λ f. rests r _ (grows (r.window.len + 1)) refl)
    go (call_executed slot) = executed_step_ways (After r) r room slot (λ n _. keeps r) (λ f. rests r _ same refl)
    go (call_open_read id count keys) = open_read_step_ways (After r) r room id count keys (λ n _. keeps r) (λ f. rests r _ same refl)
    go (call_read_reply peer id from_leader reply) =
        read_reply_step_ways (After r) r room peer id from_leader reply (λ n _. keeps r) (λ f. rests r _ same refl) (λ f k. rests r _ same refl) (λ f. rests r _ same refl)
        (λ f k. rests r _ same refl) (λ f k. rests r _ same refl)

pub longer : (r : Replica) (room : ℕ) (c : Call) → Able r → log_end r ≤ log_end (step r room c).replica
longer r room c a = omega (arith, start_stays r room c, (does_moves r room c).long)

pub Bars-move : (r : Replica) (room : ℕ) (c : Call) → Able r → Bars (sight_of r) (sight_of (step r room c).replica)
Bars-move r room c a = let k = does_moves r room c in record { grows = k.up; passes = k.over }
