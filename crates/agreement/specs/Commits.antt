-- Marks and commit entries: a slot is marked in a call exactly where the call writes its commit entry, at the mark's ballot, every such slot is among
-- the marks, and each commit entry in a log has, earlier in that log, an accept entry for its slot with the same ballot.
use Rattle.std.specs.Prelude.{◌≡◌, refl, true, false, List, [], ◌∷◌, ◌++◌, ◌⊎◌, ℕ, ◌+◌, ◌-◌, ◌≤◌, ◌<◌, ltb, leb}
use Rattle.std.proofs.Common.{sym, subst, inl, inr, arith, ltb-false, leb-true}
use mathlib.Core.List.Memᴰ
use Rattle.base.specs.Pick.{pick, decide, tests, and_right}
use Rattle.base.specs.Gather.{in_gather}
use Rattle.base.specs.Among.{◌∈◌}
use Rattle.batch.specs.declared.Batch.{Batch}
use Rattle.actions.specs.declared.Proposal.{Proposal}
use Rattle.actions.specs.declared.Action.TheVariants.{AcceptData}
use Rattle.actions.specs.Actions.{Act}
use Rattle.slots.specs.Slots.{null_slot, committed}
use Rattle.window.specs.declared.Window.{Window}
use Rattle.window.specs.ByPlace.{at_place, at_present}
use Rattle.replica.specs.declared.Replica.{Replica}
use Rattle.replica.specs.Record.{Outcome, log_end}
use Rattle.agreement.specs.BySlot.{numbered}
use Rattle.agreement.specs.Theorem.{Group, Mark, World, slot_of, rises, mark_at, marks_of, begin, accept_entry, commit_entry}

-- an action that is an accept entry is one for its slot, ballot and batch
pub any_entry : (a : Act) (p : Proposal) → a.what ≡ AcceptData p → a ≡ accept_entry p.slot p.ballot (record { id = p.batch; count = p.count; keys = a.keys })
any_entry a p e = λ k. record { what = e k; keys = a.keys }

-- a slot that is not null is in the log
pub numbered_here : (from : ℕ) (w : Window) (s : ℕ) → 0 < (numbered from w s).status → (from ≤ s) × (s < from + w.len)
unfolding numbered
numbered_here from w s h = go (decide (ltb s from)) h
  where
    go : (ltb s from ≡ true) ⊎ (ltb s from ≡ false) → 0 < (pick (ltb s from) null_slot (at_place w (s - from))).status → (from ≤ s) × (s < from + w.len)
    go (inl e) h = absurd (omega (arith, rw e at h))
    go (inr e) h = let l : s - from < w.len = at_present w (s - from) (rw e at h) in (ltb-false s from e, omega (arith, tests))

abbrev pub mark_of : ℕ → Replica → ℕ → Mark
mark_of m r s = record { who = m; slot = s; ballot = (slot_of r s).ballot; batch = (slot_of r s).batch }

-- every slot that rises is among the marks
pub risen_marked : (m : ℕ) (r r' : Replica) (s : ℕ) → rises (slot_of r s) (slot_of r' s) ≡ true → mark_of m r' s ∈ marks_of m r r'
unfolding marks_of
risen_marked m r r' s e =
    let h : 3 ≤ (slot_of r' s).status = leb-true 3 (slot_of r' s).status (and_right (ltb (slot_of r s).status committed) (leb committed (slot_of r' s).status) e) in
    let (a, b) = numbered_here r'.sc.start r'.window s (omega arith) in
    in_gather (mark_at m r r') r'.sc.start (log_end r') s a b (rw e (Memᴰ.head refl))

-- in any call, of any member present in any reachable world
pub record MarksAreCommits (r : Replica) (o : Outcome) : Type 0 where
  pub to : (s : ℕ) → rises (slot_of r s) (slot_of o.replica s) ≡ true → commit_entry s (slot_of o.replica s).ballot ∈ o.actions
  pub back : (s b : ℕ) → commit_entry s b ∈ o.actions → (rises (slot_of r s) (slot_of o.replica s) ≡ true) × (b ≡ (slot_of o.replica s).ballot)

-- ── the order in a log ──
-- where an element stands in two lists, one after the other
pub data Split {A : Type 0} (h a b r : List A) (x : A) : Type 0 where
  first : (l : List A) → h ≡ b ++ (x ∷ l) → Split h a b r x
  second : (l : List A) → b ≡ h ++ l → a ≡ l ++ (x ∷ r) → Split h a b r x

pub split : {A : Type 0} (h a b r : List A) (x : A) → h ++ a ≡ b ++ (x ∷ r) → Split h a b r x
split [] a b r x e = second b refl e
split (y ∷ h) a [] r x e = first h (cc)
split {A} (y ∷ h) a (z ∷ b) r x e =
    let q : y ≡ z = cc in
    let t : h ++ a ≡ b ++ (x ∷ r) = cc in
    go (split h a b r x t) q
  where
    go : Split h a b r x → y ≡ z → Split (y ∷ h) a (z ∷ b) r x
    go (first l p) q = first l (λ k. q k ∷ p k)
    go (second l p u) q = second l (λ k. sym q k ∷ p k) u

-- the mark of a commit entry, at its ballot, and its accept entry earlier in the log
pub record Followed (w : World) (m s ballot : ℕ) (earlier : List Act) : Type 0 where
  pub batch : Batch
  pub marked : record { who = m; slot = s; ballot = ballot; batch = batch } ∈ w.marks
  pub entry : accept_entry s ballot batch ∈ earlier

abbrev pub CommitsFollow : World → Type 0
CommitsFollow w = (m s ballot : ℕ) (earlier later : List Act) → w.did m ≡ earlier ++ (commit_entry s ballot ∷ later) → Followed w m s ballot earlier

pub in_middle : {A : Type 0} (l r : List A) (x : A) → x ∈ (l ++ (x ∷ r))
in_middle l r x = Memᴰ.append_right l (Memᴰ.head refl)

pub start_follow : (g : Group) → CommitsFollow (begin g)
unfolding begin
start_follow g m s b earlier later e =
    absurd (Memᴰ.not-nil (subst (λ (l : List Act). commit_entry s b ∈ l) (sym e) (in_middle earlier later (commit_entry s b))))
