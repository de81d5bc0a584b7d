-- The ways that a timeout and a CommitNotice go.
use Rattle.std.specs.Prelude.{◌≡◌, refl, true, false, not, [], ◌∷◌, ◌++◌, ℕ, ◌+◌, ◌≤◌, ◌<◌, ltb, leb, eqb}
use Rattle.std.proofs.Common.{arith, ltb-true, ltb-false, leb-false, eqb-true}
use Rattle.std.proofs.lemmas.Bool.{not-true, not-false}
use Rattle.base.specs.Pick.{pick_cases}
use Rattle.base.specs.Gather.{gather}
use Rattle.std.specs.declared.option.Option.{Option}
use Rattle.std.specs.declared.option.Option.TheVariants.{None, Some}
use Rattle.members.specs.Ballots.{owns, next_ballot}
use Rattle.members.specs.Laws.{Next-given, next_larger}
use Rattle.actions.specs.declared.Action.TheVariants.{Prepare, Heartbeat, StatusUp}
use Rattle.actions.specs.Actions.{bare}
use Rattle.slots.specs.Slots.{new_book, redone_slot, marked_slot}
use Rattle.decide.specs.Scalars.{is_member, is_peer, stepped_up, ignores_timeout}
use Rattle.decide.specs.Bars.{unknown_bars}
use Rattle.window.specs.declared.Window.{Window}
use Rattle.window.specs.Window.{slot_at, grown, sweep, first_open, last_open, mark_stop}
use Rattle.window.specs.Acts.{redo_acts, mark_acts}
use Rattle.replica.specs.declared.Replica.{Replica}
use Rattle.replica.specs.Record.{Outcome, with_window, place, number}
use Rattle.replica.specs.Fit.{fit, ready, unready}
use Rattle.replica.specs.Leadership.{lead_on, step_up, timeout_step, mark_on, commit_notice_step}
use Rattle.laws.specs.Leaves.{done}
use Rattle.laws.specs.WaysMessages.{Keeps, unready-keeping, Peer, peer_facts, ready-fit}

-- ── a timeout: self steps up ──
abbrev pub lead_window : Replica → Window
lead_window r = grown r.window (first_open r.window + 1)

abbrev pub lead_trigger : Replica → ℕ
lead_trigger r = number r.sc (first_open r.window)

abbrev pub lead_end : Replica → ℕ
lead_end r = number r.sc (last_open r.window)

abbrev pub lead_from : Replica → ℕ
lead_from r = place r.sc r.sc.exec_bar

abbrev pub led : Replica → ℕ → Outcome
led r ballot =
    done
    (record {
      sc = stepped_up r.sc (lead_trigger r) ballot;
      bars = unknown_bars r.bars.own;
      window = sweep (λ i s. redone_slot ballot (new_book (lead_trigger r) (lead_end r)) s) (lead_from r) (lead_window r).len (lead_window r);
      keys = r.keys;
      reads = r.reads;
      summary = r.summary;
    })
    (bare StatusUp ∷ bare Heartbeat
    ∷ (gather (λ i. redo_acts (number r.sc i) ballot (slot_at (lead_window r) i)) (lead_from r) (lead_window r).len
    ++ (bare (Prepare (record { trigger = lead_trigger r; ballot = ballot })) ∷ [])))

pub record Leads (r : Replica) (source ballot : ℕ) : Type 0 where
  pub fits : fit r ≡ true
  pub member : source < r.sc.group
  pub heeds : ignores_timeout r.sc source ≡ false
  pub next : next_ballot r.sc.bal_max_seen r.sc.id ≡ Some ballot
  pub open_high : r.sc.exec_bar ≤ lead_trigger r
  pub room : first_open r.window < 64

-- the new ballot is larger than all that were seen
pub Leads-up : (r : Replica) (source ballot : ℕ) → Leads r source ballot → r.sc.bal_max_seen < ballot
Leads-up r source ballot f = omega (arith, (Next-given r.sc.bal_max_seen r.sc.id ballot f.next).made, next_larger r.sc.bal_max_seen r.sc.id)

step_up_ways : (P : Outcome → Type 0) (r : Replica) (b : Option ℕ) → Keeps P r
    → ((ballot : ℕ) → b ≡ Some ballot → r.sc.exec_bar ≤ lead_trigger r → first_open r.window < 64 → P (led r ballot)) → P (step_up r b)
unfolding step_up lead_on
step_up_ways P r None k on = k 8 refl
step_up_ways P r (Some b) k on =
    pick_cases P (ltb (number r.sc (first_open r.window)) r.sc.exec_bar) (λ a. k 8 refl)
    (λ a. pick_cases P (leb 64 (first_open r.window)) (λ c. k 5 refl) (λ c. on b refl (ltb-false _ _ a) (leb-false _ _ c)))

pub timeout_step_ways : (P : Outcome → Type 0) (r : Replica) (n source : ℕ) → Keeps P r → ((ballot : ℕ) → Leads r source ballot → P (led r ballot))
    → P (timeout_step r n source)
unfolding timeout_step
timeout_step_ways P r n source k on =
    pick_cases P (not (ready r n)) (λ a. k (unready r n) (unready-keeping r n (not-true _ a)))
    (λ a. pick_cases P (not (is_member r.sc source)) (λ b. k 2 refl)
    (λ b. pick_cases P (ignores_timeout r.sc source) (λ c. k 0 refl)
    (λ c. step_up_ways P r (next_ballot r.sc.bal_max_seen r.sc.id) k
    (λ ballot e l h. on ballot
    (record {
      fits = ready-fit r n (not-false _ a);
      member = ltb-true _ _ (not-false _ b);
      heeds = c;
      next = e;
      open_high = l;
      room = h;
    })))))

-- ── a CommitNotice: slots below the told bar are marked ──
abbrev pub mark_window : Replica → ℕ → Window
mark_window r bar = grown r.window (place r.sc bar)

abbrev pub mark_from : Replica → ℕ
mark_from r = place r.sc r.sc.commit_bar

abbrev pub mark_end : Replica → ℕ → ℕ → ℕ
mark_end r ballot bar = mark_stop (mark_window r bar) ballot (mark_from r) (place r.sc bar)

abbrev pub marked : Replica → ℕ → ℕ → Outcome
marked r ballot bar =
    done (with_window r r.sc (sweep (λ i s. marked_slot s) (mark_from r) (mark_end r ballot bar) (mark_window r bar)))
    (gather (λ i. mark_acts (number r.sc i) (slot_at (mark_window r bar) i)) (mark_from r) (mark_end r ballot bar))

pub record Marks (r : Replica) (peer ballot bar : ℕ) : Type 0 where
  pub fits : fit r ≡ true
  pub peer_is : Peer r.sc peer
  pub owned : owns ballot peer ≡ true
  pub seen : ballot ≡ r.sc.bal_max_seen
  pub above : r.sc.commit_bar < bar
  pub high : bar ≤ r.sc.start + 64

pub commit_notice_step_ways : (P : Outcome → Type 0) (r : Replica) (n peer ballot bar : ℕ) → Keeps P r → (Marks r peer ballot bar → P (marked r ballot bar))
    → P (commit_notice_step r n peer ballot bar)
unfolding commit_notice_step mark_on
commit_notice_step_ways P r n peer ballot bar k on =
    pick_cases P (not (ready r n)) (λ a. k (unready r n) (unready-keeping r n (not-true _ a)))
    (λ a. pick_cases P (not (is_peer r.sc peer)) (λ b. k 2 refl)
    (λ b. pick_cases P (not (owns ballot peer)) (λ c. k 3 refl)
    (λ c. pick_cases P (not (eqb ballot r.sc.bal_max_seen)) (λ d. k 0 refl)
    (λ d. pick_cases P (leb bar r.sc.commit_bar) (λ e. k 0 refl)
    (λ e. pick_cases P (ltb (r.sc.start + 64) bar) (λ f. k 5 refl)
    (λ f. on
    (record {
      fits = ready-fit r n (not-false _ a);
      peer_is = peer_facts r.sc peer (not-false _ b);
      owned = not-false _ c;
      seen = eqb-true _ _ (not-false _ d);
      above = leb-false _ _ e;
      high = ltb-false _ _ f;
    })))))))
