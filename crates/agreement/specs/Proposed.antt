-- "Only a value that has been proposed may be chosen" (the paper's 2.1), over every reachable world: whatever a log's accept entry names is the
-- empty batch or what was offered in the run, its unused key numbers dropped.
use Rattle.std.specs.Prelude.{◌≡◌, refl, Bool, true, false, List, ◌⊎◌, ℕ, zero, suc, ◌<◌}
use Rattle.std.proofs.Common.{sym, arith}
use Rattle.std.proofs.Math.Path.{subst}
use Rattle.std.proofs.Math.Logic.{inl, inr}
use Rattle.base.specs.Pick.{pick_both, decide}
use Rattle.base.specs.Among.{◌∈◌, All, All-map}
use Rattle.members.specs.Sets.{has, count, count_in}
use Rattle.batch.specs.declared.Batch.{Batch}
use Rattle.actions.specs.declared.Action.{Action}
use Rattle.actions.specs.declared.Action.TheVariants.{PrepareBal, AcceptData, CommitSlot, Prepare, PrepareReply, Accept, AcceptReply, CommitNotice, Heartbeat, StatusUp, StatusDown, Execute, ReadAnswer}
use Rattle.actions.specs.Actions.{Act}
use Rattle.decide.specs.Scalars.{may_be}
use Rattle.window.specs.declared.Window.{Window}
use Rattle.window.specs.Window.{no_slots}
use Rattle.window.specs.ByPlace.{at_past}
use Rattle.replica.specs.Seen.{Made}
use Rattle.replica.specs.Record.{new_replica}
use Rattle.voting.specs.Paper.{Majority, OnlyProposed}
use Rattle.agreement.specs.Theorem.{Group, Mark, World, begin, Reach, begins, accept_entry}
use Rattle.agreement.specs.Worlds.{IsAccepted, Proposed}
use Rattle.agreement.specs.Carried.{SlotIn, WindowIn, SaysIn, ActIn}

-- ── the statements ──
abbrev pub ProposedOnly : Type 0
ProposedOnly = (g : Group) (w : World) (r : Reach g w) (m s ballot : ℕ) (b : Batch) → accept_entry s ballot b ∈ w.did m → Proposed r b

-- in the paper's words
abbrev pub ProposedChosen : Type 0
ProposedChosen = (g : Group) (w : World) (r : Reach g w) (s : ℕ) → OnlyProposed g.size (IsAccepted w s) (Proposed r)

-- and what a member marks
abbrev pub ProposedMarked : Type 0
ProposedMarked = (g : Group) (w : World) (r : Reach g w) (k : Mark) → k ∈ w.marks → Proposed r k.batch

-- ── what is in Q is in a larger one ──
module _ (Q Q' : Batch → Type 0) (up : (b : Batch) → Q b → Q' b) where
  pub window_up : (w : Window) → WindowIn Q w → WindowIn Q' w
  window_up w h = record { wide = h.wide; short = h.short; each = λ i. let k = h.each i in record { batch = up _ k.batch; vote = up _ k.vote } }

  pub says_up : (keys : List ℕ) (x : Action) → SaysIn Q keys x → SaysIn Q' keys x
  says_up keys (AcceptData p) h = up _ h
  says_up keys (Accept p) h = up _ h
  says_up keys (PrepareReply p) h = up _ h
  says_up keys (PrepareBal p) h = tt
  says_up keys (CommitSlot p) h = tt
  says_up keys (Prepare p) h = tt
  says_up keys (AcceptReply p) h = tt
  says_up keys (CommitNotice p) h = tt
  says_up keys Heartbeat h = tt
  says_up keys StatusUp h = tt
  says_up keys StatusDown h = tt
  says_up keys (Execute p) h = tt
  says_up keys (ReadAnswer p) h = tt

  pub acts_up : (l : List Act) → All (ActIn Q) l → All (ActIn Q') l
  acts_up = All-map (ActIn Q) (ActIn Q') (λ a. says_up a.keys a.what)

-- ── over a run ──
pub record Known {g : Group} {w : World} (r : Reach g w) : Type 0 where
  pub held : (m : ℕ) → WindowIn (Proposed r) (w.replica m).window
  pub said : (m : ℕ) → All (ActIn (Proposed r)) (w.did m)

pub Known-start : (g : Group) → Known {g = g} {w = begin g} begins
unfolding begin new_replica
Known-start g =
    record {
      held = λ m.
          pick_both (λ (z : Made). WindowIn (Proposed {g = g} {w = begin g} begins) z.replica.window) (may_be m g.size g.start (g.options m)) empty empty;
      said = λ m. tt;
    }
  where
    empty : WindowIn (Proposed {g = g} {w = begin g} begins) no_slots
    empty =
        record {
          wide = refl;
          short = omega arith;
          each = λ i. subst (SlotIn (Proposed {g = g} {w = begin g} begins)) (sym (at_past no_slots i (omega arith))) (record { batch = inl refl; vote = inl refl });
        }

-- ── in the paper's words: a majority has a member ──
some_of : (n : ℕ) (f : ℕ → Bool) → 0 < count n f → (i : ℕ) × (f i ≡ true)
unfolding count
some_of zero f h = absurd (omega arith)
some_of (suc n) f h = go (decide (f n)) (λ l. some_of n f l)
  where
    go : (f n ≡ true) ⊎ (f n ≡ false) → (0 < count n f → (i : ℕ) × (f i ≡ true)) → (i : ℕ) × (f i ≡ true)
    go (inl e) more = (n, e)
    go (inr e) more = more (omega (arith, rw e at h))

pub Majority-some : (group set : ℕ) → Majority group set → (m : ℕ) × (has set m ≡ true)
unfolding count_in
Majority-some group set j = some_of 9 (has set) (omega (arith, j.half))
