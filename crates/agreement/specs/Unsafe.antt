-- What the paper asks of a group and the base does not keep, each refuted by a run of three members (Runs). The main difference from the paper:
-- one slot can be marked with two batches, where no majority ever accepted one of them.
use Rattle.std.specs.Prelude.{◌≡◌, refl, true, List, ℕ, zero, suc, ◌<◌}
use Rattle.std.proofs.Common.{sym, subst, arith}
use Rattle.base.specs.Pick.{clash}
use Rattle.base.specs.Among.{◌∈◌, All, All-in}
use Rattle.members.specs.Sets.{has, count, count_in}
use Rattle.members.specs.Laws.{within_below}
use Rattle.batch.specs.declared.Batch.{Batch}
use Rattle.actions.specs.Actions.{Act}
use Rattle.slots.specs.declared.Vote.{Vote}
use Rattle.voting.specs.Paper.{Majority, Chosen, AcceptedBelow}
use Rattle.agreement.specs.Theorem.{Mark, World, accept_entry}
use Rattle.agreement.specs.Written.{Line, line, lines, lines_in}
use Rattle.agreement.specs.Runs.{late_world}
use Rattle.agreement.specs.Worlds.{IsAccepted}

abbrev pub vote : ℕ → Batch → Vote
vote ballot b = record { ballot = ballot; batch = b }

-- ── two majorities of three: members 0 and 1 are set 3, members 0 and 2 are set 5 ──
pub Majority-01 : Majority 3 3
unfolding has count count_in
Majority-01 = record { within = refl; half = omega arith }

pub Majority-02 : Majority 3 5
unfolding has count count_in
Majority-02 = record { within = refl; half = omega arith }

pub of_01 : (P : ℕ → Type 0) → P 0 → P 1 → (m : ℕ) → has 3 m ≡ true → P m
unfolding has
of_01 P a b zero h = a
of_01 P a b (suc zero) h = b
of_01 P a b (suc (suc m)) h = absurd (no m h (within_below 3 3 (suc (suc m)) refl h))
  where
    no : (m : ℕ) → has 3 (suc (suc m)) ≡ true → suc (suc m) < 3 → ⊥
    no zero h l = clash h refl
    no (suc m) h l = omega arith

pub of_02 : (P : ℕ → Type 0) → P 0 → P 2 → (m : ℕ) → has 5 m ≡ true → P m
unfolding has
of_02 P a b zero h = a
of_02 P a b (suc zero) h = absurd (clash h refl)
of_02 P a b (suc (suc zero)) h = b
of_02 P a b (suc (suc (suc m))) h = absurd (omega (arith, within_below 5 3 (suc (suc (suc m))) refl h))

-- ── the main difference ──
-- what holds of each line of a log holds of its accept entries
pub of_lines : (P : Line → Type 0) (l : List Act) (k : List Line) → lines l ≡ k → All P k → (s ballot : ℕ) (b : Batch) → accept_entry s ballot b ∈ l → P (line s ballot b.id)
of_lines P l k e h s ballot b x = All-in P (subst (All P) (sym e) h) (lines_in s ballot b l x)

abbrev pub SevenAt1 : Line → Type 0
SevenAt1 x = x.slot ≡ 1 → x.batch ≡ 7

-- slot s is marked with two batches, and no majority accepted the first at any ballot
pub record TwoBatchesOneUnchosen (w : World) (s : ℕ) (k k' : Mark) : Type 0 where
  pub marked : k ∈ w.marks
  pub marked' : k' ∈ w.marks
  pub slot : k.slot ≡ s
  pub slot' : k'.slot ≡ s
  pub differ : k.batch ≡ k'.batch → ⊥
  pub unchosen : (v : Vote) → Chosen 3 (IsAccepted w s) v → v.batch ≡ k.batch → ⊥

-- ── P2c: the empty batch is issued at 514, where every majority has a member that accepted batch 7 at 257 ──
abbrev pub BatchBelow : Line → Type 0
BatchBelow x = x.slot ≡ 1 → x.ballot < 514 → x.batch ≡ 7

abbrev pub Below : ℕ → Vote → Type 0
Below set = AcceptedBelow (IsAccepted late_world 1) set 514
