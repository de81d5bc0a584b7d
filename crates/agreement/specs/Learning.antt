-- Learning (the paper's 2.3): what a mark rests on. The statements stand first, each of every present member of every reachable world and of
-- every call, also one that may not happen; their proofs stand in proofs/Learning.
use Rattle.std.specs.Prelude.{◌≡◌, refl, true, List, ℕ}
use Rattle.std.proofs.Common.{sym, subst}
use mathlib.Core.List.Memᴰ
use Rattle.base.specs.Pick.{pick_cases}
use Rattle.base.specs.Gather.{gather_in}
use Rattle.base.specs.Among.{◌∈◌}
use Rattle.replica.specs.declared.Replica.{Replica}
use Rattle.replica.specs.Record.{Outcome, log_end}
use Rattle.replica.specs.Step.{Call, call_commit_notice, step}
use Rattle.laws.specs.WaysLeadership.{commit_notice_step_ways}
use Rattle.agreement.specs.Theorem.{Group, Mark, World, slot_of, rises, mark_at, marks_of, Reach, accept_entry, commit_entry}
use Rattle.agreement.specs.Frame.{Owns}
use Rattle.agreement.specs.OfMessages.{owns-owns}
use Rattle.agreement.specs.Commits.{mark_of}

-- the marks that a call at member m makes
abbrev pub marks_by : World → ℕ → ℕ → Call → List Mark
marks_by w m room c = marks_of m (w.replica m) (step (w.replica m) room c).replica

-- who marks a slot has accepted what it marks: the log, as it was before the call, has the accept entry of the mark's slot, ballot and batch
abbrev pub MarkedEarlier : Type 0
MarkedEarlier = (g : Group) (w : World) → Reach g w → (m : ℕ) → g.present m ≡ true → (room : ℕ) (c : Call) (k : Mark) → k ∈ marks_by w m room c
    → accept_entry k.slot k.ballot k.batch ∈ w.did m

-- the ballot of a mark is the largest ballot seen
abbrev pub MarkAtLargest : Type 0
MarkAtLargest = (g : Group) (w : World) → Reach g w → (m : ℕ) → g.present m ≡ true → (room : ℕ) (c : Call) (k : Mark) → k ∈ marks_by w m room c
    → k.ballot ≡ (step (w.replica m) room c).replica.sc.bal_max_seen

-- 2.3: a distinguished learner "in turn informs the other learners when a value has been chosen". A slot that a notice at ballot b marks was
-- accepted with that batch at b by b's owner, who sent the notice
pub record Learned (w : World) (p b : ℕ) (k : Mark) : Type 0 where
  pub ballot : k.ballot ≡ b
  pub owned : Owns p b
  pub accepted : accept_entry k.slot b k.batch ∈ w.did p

abbrev pub NoticeLearns : Type 0
NoticeLearns = (g : Group) (w : World) → Reach g w → (m : ℕ) → g.present m ≡ true → (room p b bar : ℕ) (k : Mark) → k ∈ marks_by w m room (call_commit_notice p b bar)
    → Learned w p b k

-- ── a mark is of a slot that rises ──
pub record Raised (m : ℕ) (r r' : Replica) (k : Mark) : Type 0 where
  pub rose : rises (slot_of r k.slot) (slot_of r' k.slot) ≡ true
  pub held : k ≡ mark_of m r' k.slot

pub mark_raised : (m : ℕ) (r r' : Replica) (k : Mark) → k ∈ marks_of m r r' → Raised m r r' k
unfolding marks_of
mark_raised m r r' k x =
    let (s, _, _, y) = gather_in (mark_at m r r') r'.sc.start (log_end r') x in
    pick_cases (λ (l : List Mark). k ∈ l → Raised m r r' k) (rises (slot_of r s) (slot_of r' s))
    (λ t z.
    let e : k ≡ mark_of m r' s = Memᴰ.eq_of_singleton z in
    subst (Raised m r r') (sym e) (record { rose = t; held = refl }))
    (λ _ z. absurd (Memᴰ.not-nil z)) y

-- ── a notice ──
-- one that writes a commit entry is at the largest ballot seen, and from its owner
pub notice_at : (r : Replica) (room p b bar s said : ℕ) → commit_entry s said ∈ (step r room (call_commit_notice p b bar)).actions
    → ((step r room (call_commit_notice p b bar)).replica.sc.bal_max_seen ≡ b) × Owns p b
notice_at r room p b bar s said =
    commit_notice_step_ways (λ (o : Outcome). commit_entry s said ∈ o.actions → (o.replica.sc.bal_max_seen ≡ b) × Owns p b) r room p b bar
    (λ a _ z. absurd (Memᴰ.not-nil z)) (λ f _. (sym f.seen, owns-owns b p f.owned))
