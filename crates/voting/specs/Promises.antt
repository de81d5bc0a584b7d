-- The largest ballot seen: it never falls, and a Prepare or an Accept acts exactly at a ballot that is not below it.
use Rattle.std.specs.Prelude.{◌≡◌, refl, Bool, true, false, List, [], ◌∷◌, ◌↔◌, ℕ, ◌+◌, ◌≤◌, ◌<◌, ltb}
use Rattle.std.proofs.Common.{sym, ap, subst, ◌∙◌, le_refl, arith}
use mathlib.Core.List.Memᴰ
use borrow.Author.Tests.{ltb-false, le-ltb, lt-ltb, lt-leb}
use Rattle.base.specs.Pick.{pick, pick_both, pick_cases, tests, larger_left}
use Rattle.base.specs.Among.{◌∈◌}
use Rattle.base.specs.Gather.{in_gather}
use Rattle.base.specs.Find.{any}
use Rattle.members.specs.Ballots.{owns}
use Rattle.batch.specs.declared.Batch.{Batch}
use Rattle.batch.specs.Batches.{is_batch}
use Rattle.batch.specs.Keys.{overfull}
use Rattle.actions.specs.declared.Says.{Says}
use Rattle.actions.specs.declared.Says.TheVariants.{One, Two}
use Rattle.actions.specs.declared.Action.TheVariants.{AcceptData, StatusDown}
use Rattle.actions.specs.Actions.{Act, act, says_acts}
use Rattle.decide.specs.declared.Scalars.{Scalars}
use Rattle.decide.specs.Decide.{Decided}
use Rattle.decide.specs.Scalars.{is_peer, steps_down, followed}
use Rattle.decide.specs.Decide.{names_other, decide_accept, decide_offer, proposal}
use Rattle.window.specs.declared.Window.{Window}
use Rattle.window.specs.Window.{slot_at, grown, last_used}
use Rattle.window.specs.Acts.{promise}
use Rattle.replica.specs.declared.Replica.{Replica}
use Rattle.replica.specs.Record.{Outcome, kept, summed, noting, settled, place, number}
use Rattle.replica.specs.Fit.{ready}
use Rattle.replica.specs.Messages.{clean, down_acts, prepare_top, prepare_on, prepare_step, accept_on, accept_step}
use Rattle.replica.specs.Durability.{logged_on}
use Rattle.replica.specs.Added.{moved_exec}
use Rattle.replica.specs.AdmitLaws.{ready_facts}
use Rattle.replica.specs.ActingLaws.{summed-kept}
use Rattle.replica.specs.Step.{Call, call_prepare, call_prepare_reply, call_accept, call_accept_reply, call_commit_notice, call_timeout, call_logged, call_offer, call_executed, call_open_read, call_read_reply, step}
use Rattle.laws.specs.WaysMessages.{prepare_end, prepared, prepare_step_ways, accepted, accept_step_ways, accept_reply_step_ways}
use Rattle.laws.specs.WaysLeadership.{timeout_step_ways, commit_notice_step_ways, Leads-up}
use Rattle.laws.specs.WaysAdded.{offer_step_ways, executed_step_ways}
use Rattle.laws.proofs.Theorems.{id_stays, group_stays, start_stays}
use Rattle.voting.specs.History.{Lent, told, play}
use Rattle.voting.specs.Claims.{Claim, Of, open_read_way, read_reply_way}
use Rattle.voting.specs.Replying.{prepare_reply_way}
use Rattle.voting.specs.Logging.{logged_way}

-- the scalars after a call: who is who stays, and the largest ballot seen does not fall
pub record Grows (sc sc' : Scalars) : Type 0 where
  pub id : sc'.id ≡ sc.id
  pub group : sc'.group ≡ sc.group
  pub start : sc'.start ≡ sc.start
  pub seen : sc.bal_max_seen ≤ sc'.bal_max_seen

abbrev SeesNoLess : Replica → Claim
SeesNoLess r a sc w acts = r.sc.bal_max_seen ≤ sc.bal_max_seen

follows : (sc : Scalars) (peer ballot : ℕ) → sc.bal_max_seen ≤ (followed sc peer ballot).bal_max_seen
follows sc peer ballot =
    pick_cases (λ (x : Scalars). sc.bal_max_seen ≤ x.bal_max_seen) (ltb sc.bal_max_seen ballot) (λ t. omega (arith, tests)) (λ t. le_refl sc.bal_max_seen)

-- ── 2.2: what an acceptor has promised only grows ──
pub seen_never_falls : (r : Replica) (room : ℕ) (c : Call) → r.sc.bal_max_seen ≤ (step r room c).replica.sc.bal_max_seen
unfolding Of logged_on decide_offer moved_exec
seen_never_falls r room c = go c
  where
    same : r.sc.bal_max_seen ≤ r.sc.bal_max_seen
    same = le_refl r.sc.bal_max_seen

    go : (c : Call) → Of (SeesNoLess r) (step r room c)
    go (call_prepare peer trigger ballot) = prepare_step_ways (Of (SeesNoLess r)) r room peer trigger ballot (λ a l. same) (λ f. follows r.sc peer ballot)
    go (call_prepare_reply peer m) =
        prepare_reply_way (SeesNoLess r) r room peer m (λ a l u. same)
        (λ f. record { passed = λ f t. same; heard = λ f t. same; counted = λ f t. same; entered = λ f t q. same })
    go (call_accept peer slot ballot b) = accept_step_ways (Of (SeesNoLess r)) r room peer slot ballot b (λ a l. same) (λ f. follows r.sc peer ballot)
    go (call_accept_reply peer slot ballot) = accept_reply_step_ways (Of (SeesNoLess r)) r room peer slot ballot (λ a l. same) (λ f q. same) (λ f q. same)
    go (call_commit_notice peer ballot bar) = commit_notice_step_ways (Of (SeesNoLess r)) r room peer ballot bar (λ a l. same) (λ f. same)
    go (call_timeout source) = timeout_step_ways (Of (SeesNoLess r)) r room source (λ a l. same) (λ b f. omega (arith, Leads-up r source b f))
    go (call_logged d) =
        logged_way (SeesNoLess r) r d room (λ a l u. same)
        (λ f. record {
          only = λ u. same;
          own = λ e o. record { passed = λ f t. same; heard = λ f t. same; counted = λ f t. same; entered = λ f t q. same };
          promised = λ e _ n. same;
          acked = λ e _. same;
          commits = λ e _ a q. same;
          answered = λ e _ n. same;
          passes = λ e. same;
        })
    go (call_offer b) = offer_step_ways (Of (SeesNoLess r)) r room b (λ a l. same) (λ f. same)
    go (call_executed slot) = executed_step_ways (Of (SeesNoLess r)) r room slot (λ a l. same) (λ f. same)
    go (call_open_read id count keys) = open_read_way (SeesNoLess r) r room (λ a acts. same) id count keys
    go (call_read_reply peer id from_leader reply) = read_reply_way (SeesNoLess r) r room (λ a acts. same) peer id from_leader reply

pub step_core : (r : Replica) (c : Lent) → Grows r.sc (told r c).replica.sc
step_core r c =
    record {
      id = id_stays r c.room c.call;
      group = group_stays r c.room c.call;
      start = start_stays r c.room c.call;
      seen = seen_never_falls r c.room c.call;
    }

then_grows : (a b c : Scalars) → Grows a b → Grows b c → Grows a c
then_grows a b c p q = record { id = q.id ∙ p.id; group = q.group ∙ p.group; start = q.start ∙ p.start; seen = omega (arith, p.seen, q.seen) }

pub play-Grows : (r : Replica) (h : List Lent) → Grows r.sc (play r h).sc
play-Grows r [] = record { id = refl; group = refl; start = refl; seen = le_refl r.sc.bal_max_seen }
play-Grows r (c ∷ h) = then_grows r.sc (told r c).replica.sc (play r (c ∷ h)).sc (step_core r c) (play-Grows (told r c).replica h)

pub play_seen : (r : Replica) (h : List Lent) → r.sc.bal_max_seen ≤ (play r h).sc.bal_max_seen
play_seen r h = (play-Grows r h).seen

-- ── 2.2: a Prepare in the window from the ballot's owner ──
-- the window that a Prepare or an Accept works on, and whether a slot of it has a larger ballot: 6
abbrev pub worked : Replica → ℕ → Window
worked r slot = grown r.window (place r.sc slot + 1)

abbrev pub prepare_high : Replica → ℕ → ℕ → Bool
prepare_high r trigger ballot =
    any (λ i. ltb ballot (slot_at (worked r trigger) i).ballot) (place r.sc trigger) (prepare_top (worked r trigger) (place r.sc trigger) + 1)

module _ (r : Replica) (room peer trigger ballot : ℕ) (f : ready r room ≡ true) (p : is_peer r.sc peer ≡ true) (o : owns ballot peer ≡ true)
    (l : r.sc.start ≤ trigger) (u : trigger < r.sc.start + 64) where
  -- the three ways, with no fourth
  prepare_does : prepare_step r room peer trigger ballot
      ≡ pick (ltb ballot r.sc.bal_max_seen) (kept 0 r) (pick (prepare_high r trigger ballot) (kept 6 r) (prepared r peer trigger ballot))
  unfolding prepare_step prepare_on
  prepare_does = rw (f, p, o, le-ltb trigger r.sc.start l, lt-leb (r.sc.start + 64) trigger u)

  pub prepare_told : step r room (call_prepare peer trigger ballot)
      ≡ summed (pick (ltb ballot r.sc.bal_max_seen) (kept 0 r) (pick (prepare_high r trigger ballot) (kept 6 r) (prepared r peer trigger ballot)))
  prepare_told = ap summed prepare_does

  -- below what was seen it changes nothing and says nothing
  pub prepare_below : ballot < r.sc.bal_max_seen → step r room (call_prepare peer trigger ballot) ≡ kept 0 r
  prepare_below h =
      let e : prepare_step r room peer trigger ballot ≡ kept 0 r = prepare_does ∙ rw (lt-ltb ballot r.sc.bal_max_seen h) in
      ap summed e ∙ summed-kept 0 r (ready_facts r room f).sum

  -- it acts: answer 0, and the entry of its trigger slot is to be written
  abbrev pub PrepareActs : Type 0
  PrepareActs = ((step r room (call_prepare peer trigger ballot)).answer ≡ 0) × (promise trigger ballot ∈ (step r room (call_prepare peer trigger ballot)).actions)

  entry_in : promise trigger ballot ∈ (prepared r peer trigger ballot).actions
  entry_in =
      Memᴰ.append_right (down_acts r.sc ballot)
      (in_gather (λ i. promise (number r.sc i) ballot ∷ []) (place r.sc trigger) (prepare_end r trigger) (place r.sc trigger) (le_refl (place r.sc trigger))
      (let t = larger_left (place r.sc trigger) (last_used (worked r trigger)) in omega arith)
      (Memᴰ.head (ap (λ (x : ℕ). promise x ballot) (omega arith))))

  pub prepare_iff : PrepareActs ↔ ((r.sc.bal_max_seen ≤ ballot) × (prepare_high r trigger ballot ≡ false))
  prepare_iff = (only, then)
    where
      May : Type 0
      May = (r.sc.bal_max_seen ≤ ballot) × (prepare_high r trigger ballot ≡ false)

      only : PrepareActs → May
      only (a, m) =
          pick_cases (λ (x : Outcome). promise trigger ballot ∈ x.actions → May) (ltb ballot r.sc.bal_max_seen) (λ x n. absurd (Memᴰ.not-nil n))
          (λ x. pick_cases (λ (z : Outcome). promise trigger ballot ∈ z.actions → May) (prepare_high r trigger ballot) (λ y n. absurd (Memᴰ.not-nil n))
          (λ y n. (ltb-false ballot r.sc.bal_max_seen x, y)))
          (subst (λ (z : Outcome). promise trigger ballot ∈ z.actions) prepare_told m)

      then : May → PrepareActs
      then (x, y) =
          let d : prepare_step r room peer trigger ballot ≡ prepared r peer trigger ballot = prepare_does ∙ rw (le-ltb ballot r.sc.bal_max_seen x, y) in
          let e : step r room (call_prepare peer trigger ballot) ≡ summed (prepared r peer trigger ballot) = ap summed d in
          (ap (λ (z : Outcome). z.answer) e, subst (λ (z : Outcome). promise trigger ballot ∈ z.actions) (sym e) entry_in)

-- ── 2.2: an Accept in the window from the ballot's owner ──
-- 6: the slot has a larger ballot
abbrev pub accept_high : Replica → ℕ → ℕ → Bool
accept_high r slot ballot = ltb ballot (slot_at (worked r slot) (place r.sc slot)).ballot

-- 15: it names another batch for a slot that a strict replica has committed
abbrev pub accept_other : Replica → ℕ → Batch → Bool
accept_other r slot b = names_other r.sc (slot_at (worked r slot) (place r.sc slot)) (clean b)

abbrev pub taken_entry : ℕ → ℕ → Batch → Act
taken_entry slot ballot b = act (AcceptData (proposal slot ballot (clean b))) (clean b).keys

abbrev pub accept_says : Scalars → ℕ → ℕ → Batch → Says
accept_says sc slot ballot b =
    pick (steps_down sc ballot) (Two StatusDown (AcceptData (proposal slot ballot (clean b)))) (One (AcceptData (proposal slot ballot (clean b))))

pub accept_entry_in : (sc : Scalars) (slot ballot : ℕ) (b : Batch) → taken_entry slot ballot b ∈ says_acts (accept_says sc slot ballot b) (clean b).keys
accept_entry_in sc slot ballot b =
    pick_both (λ (x : Says). taken_entry slot ballot b ∈ says_acts x (clean b).keys) (steps_down sc ballot) (Memᴰ.tail (Memᴰ.head refl)) (Memᴰ.head refl)

module _ (r : Replica) (room peer slot ballot : ℕ) (b : Batch) (f : ready r room ≡ true) (p : is_peer r.sc peer ≡ true) (o : owns ballot peer ≡ true)
    (q : is_batch b.id b.count ≡ true) (l : r.sc.start ≤ slot) (u : slot < r.sc.start + 64) where
  accept_on_lem : accept_on r (worked r slot) (place r.sc slot) peer slot ballot (clean b)
      ≡ pick (accept_other r slot b) (kept 15 r) (pick (accept_high r slot ballot) (kept 6 r) (pick (overfull r.keys (clean b)) (kept 7 r) (accepted r peer slot ballot b)))
  unfolding settled noting decide_accept
  accept_on_lem =
      pick_cases
      (λ (d : Decided). settled r (worked r slot) (place r.sc slot) slot d ≡ pick (accept_other r slot b) (kept 15 r) (pick (accept_high r slot ballot) (kept 6 r) (pick (overfull r.keys (clean b)) (kept 7 r) (accepted r peer slot ballot b))))
      (accept_other r slot b) (λ t. rw t)
      (λ o.
      pick_cases
      (λ (d : Decided). settled r (worked r slot) (place r.sc slot) slot d ≡ pick (accept_other r slot b) (kept 15 r) (pick (accept_high r slot ballot) (kept 6 r) (pick (overfull r.keys (clean b)) (kept 7 r) (accepted r peer slot ballot b))))
      (accept_high r slot ballot) (λ t. rw (o, t)) (λ t. rw (o, t)))

  -- the five ways, with no sixth
  accept_does : accept_step r room peer slot ballot b
      ≡ pick (ltb ballot r.sc.bal_max_seen) (kept 0 r) (pick (accept_other r slot b) (kept 15 r) (pick (accept_high r slot ballot) (kept 6 r) (pick (overfull r.keys (clean b)) (kept 7 r) (accepted r peer slot ballot b))))
  unfolding accept_step
  accept_does = rw (f, p, o, q, le-ltb slot r.sc.start l, lt-leb (r.sc.start + 64) slot u, accept_on_lem)

  pub accept_told : step r room (call_accept peer slot ballot b)
      ≡ summed
      (pick (ltb ballot r.sc.bal_max_seen) (kept 0 r) (pick (accept_other r slot b) (kept 15 r) (pick (accept_high r slot ballot) (kept 6 r) (pick (overfull r.keys (clean b)) (kept 7 r) (accepted r peer slot ballot b)))))
  accept_told = ap summed accept_does

  pub accept_below : ballot < r.sc.bal_max_seen → step r room (call_accept peer slot ballot b) ≡ kept 0 r
  accept_below h =
      let e : accept_step r room peer slot ballot b ≡ kept 0 r = accept_does ∙ rw (lt-ltb ballot r.sc.bal_max_seen h) in
      ap summed e ∙ summed-kept 0 r (ready_facts r room f).sum

  -- it acts: answer 0, and its entry is to be written
  abbrev pub AcceptActs : Type 0
  AcceptActs = ((step r room (call_accept peer slot ballot b)).answer ≡ 0) × (taken_entry slot ballot b ∈ (step r room (call_accept peer slot ballot b)).actions)

  abbrev pub MayAccept : Type 0
  MayAccept = (r.sc.bal_max_seen ≤ ballot) × (accept_other r slot b ≡ false) × (accept_high r slot ballot ≡ false) × (overfull r.keys (clean b) ≡ false)

  accept_only : AcceptActs → MayAccept
  accept_only (a, m) =
      let P : Outcome → Type 0 = λ z. taken_entry slot ballot b ∈ z.actions → MayAccept in
      pick_cases P (ltb ballot r.sc.bal_max_seen) (λ x n. absurd (Memᴰ.not-nil n))
      (λ x. pick_cases P (accept_other r slot b) (λ o n. absurd (Memᴰ.not-nil n))
      (λ o. pick_cases P (accept_high r slot ballot) (λ y n. absurd (Memᴰ.not-nil n))
      (λ y. pick_cases P (overfull r.keys (clean b)) (λ z n. absurd (Memᴰ.not-nil n)) (λ z n. (ltb-false ballot r.sc.bal_max_seen x, o, y, z)))))
      (subst (λ (z : Outcome). taken_entry slot ballot b ∈ z.actions) accept_told m)

  accept_then : MayAccept → AcceptActs
  accept_then (x, o, y, z) =
      let d : accept_step r room peer slot ballot b ≡ accepted r peer slot ballot b = accept_does ∙ rw (le-ltb ballot r.sc.bal_max_seen x, o, y, z) in
      let e : step r room (call_accept peer slot ballot b) ≡ summed (accepted r peer slot ballot b) = ap summed d in
      (ap (λ (w : Outcome). w.answer) e, subst (λ (w : Outcome). taken_entry slot ballot b ∈ w.actions) (sym e) (accept_entry_in r.sc slot ballot b))

  pub accept_iff : AcceptActs ↔ MayAccept
  accept_iff = (accept_only, accept_then)
