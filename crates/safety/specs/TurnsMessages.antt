-- 02, Wish 6, (d), of a Prepare, an Accept and an AcceptReply: what each makes of every slot, by place.
use Rattle.std.specs.Prelude.{◌≡◌, refl, true, List, [], ◌∷◌, ◌⊎◌}
use Rattle.std.proofs.Math.Path.{sym, ap, subst}
use Rattle.std.proofs.Common.{◌∙◌, inl, arith}
use mathlib.Core.List.Memᴰ
use Prim.Native.Nat.{ℕ, ◌+◌, ◌≤◌, ◌<◌}
use Rattle.base.specs.Gather.{in_gather}
use Rattle.members.specs.Sets.{insert, count_in, fits_group}
use Rattle.members.specs.Laws.{within_insert}
use Rattle.batch.specs.declared.Batch.{Batch}
use Rattle.actions.specs.Actions.{Act}
use Rattle.slots.specs.declared.Slot.{Slot}
use Rattle.slots.specs.Slots.{prepared_slot, accepted_slot, acknowledged_slot, committed_slot}
use Rattle.decide.specs.declared.Scalars.{Scalars}
use Rattle.decide.specs.Scalars.{leads, strict, quorum}
use Rattle.window.specs.declared.Window.{Window}
use Rattle.window.specs.Window.{slot_at, put_slot}
use Rattle.window.specs.Acts.{promise}
use Rattle.window.specs.ByPlace.{at_place, at_here, put_cases, sweep_cases}
use Rattle.replica.specs.declared.Replica.{Replica}
use Rattle.replica.specs.Record.{Outcome, place, number}
use Rattle.replica.specs.Messages.{clean, down_acts, prepare_book}
use Rattle.replica.specs.Step.{Call, call_commit_notice}
use Rattle.laws.specs.OfFit.{fit_facts}
use Rattle.laws.specs.WaysMessages.{prepare_window, prepare_end, prepared, Prepares, accept_window, accepted, Accepts, replied_slot, acknowledged, after_committed, Replies}
use Rattle.voting.specs.Paper.{Majority, quorum_is_majority}
use Rattle.voting.specs.Claims.{core, Claim, Of}
use Rattle.agreement.specs.Frame.{Owns, Clean}
use Rattle.agreement.specs.Good.{GoodReplica, Grew, grew}
use Rattle.agreement.specs.OfMessages.{clean-clean}
use Rattle.safety.specs.Sight.{acks}
use Rattle.safety.specs.TurnsSlots.{Mild, Fair, Mild-self, Fair-Mild, Fair-self, Fair-from, Mild-then, Mild-put, acknowledged_mild, Fair-prepared, Fair-accepted, Fair-committed}

-- ── what is shown of a call c at r, of each place ──
-- the ballot's owner told a bar above slot s, which was at this ballot
pub record Noticed (c : Call) (s : ℕ) (x : Slot) : Type 0 where
  pub peer : ℕ
  pub ballot : ℕ
  pub bar : ℕ
  pub call : c ≡ call_commit_notice peer ballot bar
  pub owned : Owns peer ballot
  pub at : ballot ≡ x.ballot
  pub low : s < bar

-- why a slot is marked: a majority acknowledged it at a leader, or a notice
abbrev pub Why : Replica → Call → Scalars → ℕ → Slot → Slot → Type 0
Why r c sc s x y = ((leads sc ≡ true) × Majority r.sc.group (acks y)) ⊎ Noticed c s x

abbrev pub FairAt : Replica → Call → Scalars → List Act → ℕ → Slot → Type 0
FairAt r c sc acts i y = Fair (Why r c sc (r.sc.start + i) (at_place r.window i) y) acts (r.sc.start + i) (at_place r.window i) y

abbrev pub FairThroughout : Replica → Call → Claim
FairThroughout r c a sc w acts = (i : ℕ) → FairAt r c sc acts i (at_place w i)

-- the same for an outcome, of the slot that it has at place i
abbrev pub FairIn : Replica → Call → Outcome → ℕ → Slot → Type 0
FairIn r c o i y = FairAt r c (core o.replica.sc) o.actions i y

-- ── a slot that commits by acknowledgements, in a window w to which the log changed mildly ──
pub commit_turns : (r : Replica) (c : Call) (sc : Scalars) (w : Window) (k peer : ℕ) (acts : List Act) → ((i : ℕ) → Mild (at_place r.window i) (at_place w i))
    → leads sc ≡ true → Majority r.sc.group (insert (acks (slot_at w k)) peer)
    → FairThroughout r c 0 sc (put_slot w k (committed_slot (acknowledged_slot peer (slot_at w k)))) acts
commit_turns r c sc w k peer acts h l m i =
    put_cases w k (committed_slot (acknowledged_slot peer (slot_at w k))) (FairAt r c sc acts i) i
    (λ e u.
    Mild-then (subst (Mild (at_place r.window i)) (ap (at_place w) e ∙ at_here w k (omega arith)) (h i))
    (Mild-then (acknowledged_mild peer (slot_at w k)) (Fair-committed (acknowledged_slot peer (slot_at w k)) (λ _. inl (l, m)))))
    (λ _. Fair-Mild (h i))

-- the sender's bit makes the quorum
pub makes_majority : (r : Replica) (set peer : ℕ) → fits_group set r.sc.group ≡ true → peer < r.sc.group → quorum r.sc ≤ count_in (insert set peer)
    → Majority r.sc.group (insert set peer)
makes_majority r set peer f p q = (quorum_is_majority r.sc.group (insert set peer) (within_insert set r.sc.group peer f p)).1 q

module _ (r : Replica) (c : Call) (g : GoodReplica r) (kind : strict r.sc ≡ true) where
  -- ── Prepare ──
  pub prepare_turns : (peer trigger ballot : ℕ) → Prepares r peer trigger ballot → Of (FairThroughout r c) (prepared r peer trigger ballot)
  unfolding Of
  prepare_turns peer trigger ballot f i =
      let from : ℕ = place r.sc trigger in
      let w : Window = prepare_window r trigger in
      let q : Grew r.window w = grew r.window g (from + 1) (omega (arith, f.low, f.high)) in
      sweep_cases (λ i s. prepared_slot (strict r.sc) ballot (prepare_book r.sc w from peer) s) from (prepare_end r trigger) w (FairIn r c (prepared r peer trigger ballot) i) i
      (omega (arith, q.wide, q.short))
      (λ a b l.
      Fair-from (q.each i)
      (Fair-prepared (strict r.sc) ballot (prepare_book r.sc w from peer) (at_place w i) kind
      (omega (arith, f.seen, (g.each i).under, ap (λ (x : Slot). x.ballot) (q.each i)))
      (Memᴰ.append_right (down_acts r.sc ballot)
      (in_gather (λ k. promise (number r.sc k) ballot ∷ []) from (prepare_end r trigger) i a b (Memᴰ.head refl)))))
      (λ _. subst (FairIn r c (prepared r peer trigger ballot) i) (sym (q.each i)) (Fair-self (at_place r.window i)))

  -- ── Accept ──
  pub accept_turns : (peer slot ballot : ℕ) (b : Batch) → Accepts r peer slot ballot b → Of (FairThroughout r c) (accepted r peer slot ballot b)
  unfolding Of
  accept_turns peer slot ballot b f i =
      let k : ℕ = place r.sc slot in
      let w : Window = accept_window r slot in
      let y : Slot = accepted_slot (strict r.sc) peer ballot (clean b) (slot_at w k) in
      let q : Grew r.window w = grew r.window g (k + 1) (omega (arith, f.low, f.high)) in
      put_cases w k y (FairIn r c (accepted r peer slot ballot b) i) i
      (λ e l.
      let same : slot_at w k ≡ at_place r.window i = sym (at_here w k (omega arith)) ∙ ap (at_place w) (sym e) ∙ q.each i in
      Fair-from same
      (Fair-accepted (strict r.sc) peer ballot (clean b) (slot_at w k) kind f.is_not_above (subst (λ (x : Slot). Clean x.batch) (sym same) (g.each i).tidy) (clean-clean b)
      f.not_other))
      (λ _. subst (FairIn r c (accepted r peer slot ballot b) i) (sym (q.each i)) (Fair-self (at_place r.window i)))

  -- ── AcceptReply ──
  pub acked_turns : (peer slot : ℕ) → Of (FairThroughout r c) (acknowledged r peer slot)
  unfolding Of
  acked_turns peer slot i =
      Fair-Mild (Mild-put r.window (place r.sc slot) (acknowledged_slot peer (replied_slot r slot)) (acknowledged_mild peer (replied_slot r slot)) i)

  pub reply_commit_turns : (peer slot ballot : ℕ) → Replies r peer slot ballot → quorum r.sc ≤ count_in (acknowledged_slot peer (replied_slot r slot)).leader.accept_acks
      → Of (FairThroughout r c) (after_committed r peer slot)
  unfolding Of
  reply_commit_turns peer slot ballot f q =
      commit_turns r c (core r.sc) r.window (place r.sc slot) peer (after_committed r peer slot).actions (λ i. Mild-self (at_place r.window i)) f.counts.leading
      (makes_majority r (acks (replied_slot r slot)) peer ((fit_facts r f.fits).slots (place r.sc slot) (omega (arith, f.low, f.high))).accept f.peer_is.member q)
