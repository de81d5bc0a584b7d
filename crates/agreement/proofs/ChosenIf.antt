-- The rest of specs/ChosenIf.antt: what stands on a theorem that a must-fail edit makes false.
use Rattle.std.specs.Prelude.{◌≡◌, refl, true, List, ◌⊎◌, ℕ, ◌≤◌}
use Rattle.std.proofs.Common.{sym, ap, subst, ◌∙◌, inl, inr, arith}
use mathlib.Core.List.Memᴰ
use Rattle.base.specs.Among.{◌∈◌, All-in}
use Rattle.members.specs.Sets.{has}
use Rattle.batch.specs.declared.Batch.{Batch}
use Rattle.actions.specs.declared.Action.{Action}
use Rattle.actions.specs.Actions.{Act}
use Rattle.slots.specs.declared.Slot.{Slot}
use Rattle.window.specs.declared.Window.{Window}
use Rattle.window.specs.ByPlace.{at_place}
use Rattle.replica.specs.declared.Replica.{Replica}
use Rattle.replica.specs.declared.Entry.TheVariants.{AcceptData}
use Rattle.replica.specs.Record.{Outcome, place, number}
use Rattle.replica.specs.Step.{Call, call_accept_reply, call_logged, step}
use Rattle.laws.proofs.Theorems.{refusals_silent, group_stays}
use Rattle.laws.specs.WaysDurability.{completion}
use Rattle.voting.specs.Paper.{Majority, Chosen}
use Rattle.voting.specs.Quorums.{commit_of, acks_of, Committed, commit_is_at, commit_by_reply, commit_by_own}
use Rattle.voting.specs.Backing.{insert_or}
use Rattle.voting.specs.Speaking.{SaidOf, OnCompletion, says_ok}
use Rattle.agreement.specs.BySlot.{numbered_place}
use Rattle.agreement.specs.Theorem.{Group, World, slot_of, put, begin, May, Reach, begins, turn, accept_entry}
use Rattle.agreement.specs.Frame.{Marked, ActOk}
use Rattle.agreement.specs.Group.{view_of, old, cases, Agreement-of}
use Rattle.agreement.proofs.Group.{inv, good_in, stays_in, framed}
use Rattle.agreement.specs.Commits.{numbered_here}
use Rattle.agreement.specs.Worlds.{IsAccepted}
use Rattle.agreement.specs.Acks.{HasReplied, Truthful, reply_sent}
use Rattle.agreement.proofs.Acks.{fine_in, acks_sent}
use Rattle.agreement.specs.ChosenIf.{AllReplied, CommitChosen, CommitReplied, HasEntry, OwnCommitChosen, OwnCommitReplied, proposal_at}

-- ── every member's group is the group ──
pub sized_in : (g : Group) (w : World) → Reach g w → (m : ℕ) → g.present m ≡ true → (w.replica m).sc.group ≡ g.size
sized_in g = stays_in (λ (r : Replica). r.sc.group) g (λ w r m p room c. group_stays (w.replica m) room c)

Truthful-entry : (g : Group) (w : World) (r : Reach g w) → Truthful r → (m s ballot : ℕ) → HasReplied w m s ballot → HasEntry w m s ballot
unfolding begin
Truthful-entry g w begins t m s ballot (y, h, x) = absurd (Memᴰ.not-nil h)
Truthful-entry g w (turn {w = u} r j p room c a) t m s ballot (y, h, (x, e, f, k)) = go (λ q. Truthful-entry g u r t.0 m s ballot (y, q, (x, e, f, k))) (cases u j (step (u.replica j) room c) m h)
  where
    o : Outcome
    o = step (u.replica j) room c

    lift : HasEntry u m s ballot → HasEntry (put u j o) m s ballot
    lift (b, q) = (b, old u j o m q)

    new : m ≡ j → y ∈ o.actions → HasEntry (put u j o) m s ballot
    new z q =
        let status = t.1 y x q e in
        let here = numbered_here (u.replica j).sc.start (u.replica j).window x.slot (omega arith) in
        let done : OnCompletion (u.replica j) c AcceptData x.slot x.ballot =
        subst (λ (v : Action). SaidOf (u.replica j) c v) e (All-in (λ (v : Act). SaidOf (u.replica j) c v.what) (says_ok (u.replica j) room c (fine_in g u r j p)) q) in
        let at : (slot_of (u.replica j) x.slot).ballot ≡ ballot =
        ap (λ (v : Slot). v.ballot) (numbered_place (u.replica j).sc.start (u.replica j).window x.slot here.0) ∙ sym done.at ∙ k in (
          (slot_of (u.replica j) x.slot).batch,
          old u j o m
              (subst (λ (n : ℕ). accept_entry s ballot (slot_of (u.replica j) x.slot).batch ∈ u.did n) (sym z)
              (subst (λ (n : ℕ). accept_entry n ballot (slot_of (u.replica j) x.slot).batch ∈ u.did j) f
              (subst (λ (b : ℕ). accept_entry x.slot b (slot_of (u.replica j) x.slot).batch ∈ u.did j) at (((inv g u r).local j p).voted x.slot status)))),
        )

    go : (y ∈ u.did m → HasEntry u m s ballot) → (y ∈ u.did m) ⊎ ((m ≡ j) × (y ∈ o.actions)) → HasEntry (put u j o) m s ballot
    go ih (inl q) = lift (ih q)
    go ih (inr (z, q)) = new z q

-- ── a leader commits ──
module _ (g : Group) (w : World) (reach : Reach g w) (l : ℕ) (pres : g.present l ≡ true) (s : ℕ) where
  abbrev r : Replica
  r = w.replica l

  -- from the slot that is Accepting at a leader, and its acknowledgements before the last one
  module _ (peer : ℕ) (w' : Window) (low : r.sc.start ≤ s) (c : Committed r w' (place r.sc s) peer) (last : (peer ≡ l) ⊎ HasReplied w peer s (proposal_at w l s).ballot) where
    here : slot_of r s ≡ at_place r.window (place r.sc s)
    here = numbered_place r.sc.start r.window s low

    at_sent : (at_place r.window (place r.sc s)).ballot ≡ r.sc.bal_prep_sent
    at_sent =
        let k = good_in g w reach l pres in
        (k.each (place r.sc s)).busy c.leading (omega (arith, c.accepts)) (omega (arith, c.accepts)) ∙ sym (k.sent c.leading)

    all_replied : AllReplied w l s (acks_of w' (place r.sc s))
    all_replied m h = go (insert_or (acks_of r.window (place r.sc s)) peer m (subst (λ (x : ℕ). has x m ≡ true) c.last h))
      where
        before : (m ≡ l) ⊎ HasReplied w m (number r.sc (place r.sc s)) r.sc.bal_prep_sent → (m ≡ l) ⊎ HasReplied w m s (proposal_at w l s).ballot
        before (inl e) = inl e
        before (inr (y, k, (x, e, f, b))) = inr (y, k, (x, e, (omega (arith, f)), b ∙ sym (ap (λ (v : Slot). v.ballot) here ∙ at_sent)))

        go : (m ≡ peer) ⊎ (has (acks_of r.window (place r.sc s)) m ≡ true) → (m ≡ l) ⊎ HasReplied w m s (proposal_at w l s).ballot
        go (inl e) = subst (λ (n : ℕ). (n ≡ l) ⊎ HasReplied w n s (proposal_at w l s).ballot) (sym e) last
        go (inr k) = before (acks_sent g w reach l pres (place r.sc s) m (record { leading = c.leading; same = refl; at = at_sent }) k)

    is_chosen : Truthful reach → Chosen g.size (IsAccepted w s) (proposal_at w l s)
    is_chosen t = (
      acks_of w' (place r.sc s),
      subst (λ (n : ℕ). Majority n (acks_of w' (place r.sc s))) (sized_in g w reach l pres) c.majority,
      λ m h. go m (all_replied m h),
    )
      where
        own : accept_entry s (proposal_at w l s).ballot (proposal_at w l s).batch ∈ w.did l
        own = ((inv g w reach).local l pres).voted s (ap (λ (v : Slot). v.status) here ∙ c.accepts)

        same : (m : ℕ) → HasEntry w m s (proposal_at w l s).ballot → IsAccepted w s m (proposal_at w l s)
        same m (e, h) =
            subst (λ (b : Batch). accept_entry s (proposal_at w l s).ballot b ∈ w.did m)
            ((Agreement-of (inv g w reach)).one_batch m l s s (proposal_at w l s).ballot (proposal_at w l s).ballot e (proposal_at w l s).batch h own refl refl) h

        go : (m : ℕ) → (m ≡ l) ⊎ HasReplied w m s (proposal_at w l s).ballot → IsAccepted w s m (proposal_at w l s)
        go m (inl e) = subst (λ (n : ℕ). IsAccepted w s n (proposal_at w l s)) (sym e) own
        go m (inr x) = same m (Truthful-entry g w reach t m s (proposal_at w l s).ballot x)

  low_of : (said room : ℕ) (c : Call) → commit_of s said ∈ (step r room c).actions → r.sc.start ≤ s
  low_of said room c h =
      let k = framed g w reach l pres room c in
      let m : Marked ((view_of r).slot s) ((view_of (step r room c).replica).slot s) said (view_of (step r room c).replica).seen =
      (All-in (ActOk (view_of r) c (view_of (step r room c).replica) (step r room c).actions) k.said h).0 in
      (numbered_here r.sc.start r.window s (omega (arith, m.was))).0

  -- by an AcceptReply
  module _ (said room p ballot : ℕ) (a : May w l room (call_accept_reply p s ballot)) (h : commit_of s said ∈ (step r room (call_accept_reply p s ballot)).actions) where
    abbrev o : Outcome
    o = step r room (call_accept_reply p s ballot)

    last_replied : (p ≡ l) ⊎ HasReplied w p s (proposal_at w l s).ballot
    last_replied = go (reply_sent w l room _ a p s ballot refl)
      where
        go : HasReplied w p s ballot ⊎ ((o.answer ≡ 0 → ⊥) × (o.replica ≡ r)) → (p ≡ l) ⊎ HasReplied w p s (proposal_at w l s).ballot
        go (inl x) =
            inr (subst (HasReplied w p s)
            (sym (ap (λ (v : Slot). v.ballot) (numbered_place r.sc.start r.window s (low_of said room (call_accept_reply p s ballot) h)) ∙ (commit_is_at r room p s ballot said h).0)) x)
        go (inr (n, _)) = absurd (Memᴰ.not-nil (subst (λ (y : List Act). commit_of s said ∈ y) (refusals_silent r room (call_accept_reply p s ballot) n) h))

    Committed-now : Committed r o.replica.window (place r.sc s) p
    Committed-now = commit_by_reply r room p s ballot said (fine_in g w reach l pres).whole h

    by_reply_replied : AllReplied w l s (acks_of o.replica.window (place r.sc s))
    by_reply_replied = all_replied p o.replica.window (low_of said room (call_accept_reply p s ballot) h) Committed-now last_replied

    by_reply_chosen : Truthful reach → Chosen g.size (IsAccepted w s) (proposal_at w l s)
    by_reply_chosen = is_chosen p o.replica.window (low_of said room (call_accept_reply p s ballot) h) Committed-now last_replied

  -- by the leader's own AcceptData entry
  module _ (said room bal offset : ℕ) (h : commit_of s said ∈ (step r room (call_logged (completion AcceptData s bal offset))).actions) where
    abbrev own_o : Outcome
    own_o = step r room (call_logged (completion AcceptData s bal offset))

    own_now : Committed r own_o.replica.window (place r.sc s) r.sc.id
    own_now = commit_by_own r room s said bal offset (fine_in g w reach l pres).whole h

    by_own_replied : AllReplied w l s (acks_of own_o.replica.window (place r.sc s))
    by_own_replied = all_replied r.sc.id own_o.replica.window (low_of said room (call_logged (completion AcceptData s bal offset)) h) own_now (inl ((inv g w reach).local l pres).id)

    by_own_chosen : Truthful reach → Chosen g.size (IsAccepted w s) (proposal_at w l s)
    by_own_chosen = is_chosen r.sc.id own_o.replica.window (low_of said room (call_logged (completion AcceptData s bal offset)) h) own_now (inl ((inv g w reach).local l pres).id)

-- ── the theorems ──
pub commit_replied : CommitReplied
commit_replied g w reach l pres s said room p ballot a h = by_reply_replied g w reach l pres s said room p ballot a h

pub commit_chosen : CommitChosen
commit_chosen g w reach t l pres s said room p ballot a h = by_reply_chosen g w reach l pres s said room p ballot a h t

pub own_commit_replied : OwnCommitReplied
own_commit_replied g w reach l pres s said room bal offset h = by_own_replied g w reach l pres s said room bal offset h

pub own_commit_chosen : OwnCommitChosen
own_commit_chosen g w reach t l pres s said room bal offset h = by_own_chosen g w reach l pres s said room bal offset h t
