-- The rest of specs/Unsafe.antt: what stands on a theorem that a must-fail edit makes false.
use Rattle.std.specs.Prelude.{◌≡◌, refl, true, ◌⊎◌, ℕ, zero, suc, ◌≤◌, ◌<◌}
use Rattle.std.proofs.Common.{ap, inl, inr, arith}
use mathlib.Core.List.Memᴰ
use Rattle.members.specs.Sets.{has}
use Rattle.members.specs.Laws.{within_below}
use Rattle.batch.specs.declared.Batch.{Batch}
use Rattle.batch.specs.Batches.{empty_batch}
use Rattle.slots.specs.declared.Vote.{Vote}
use Rattle.voting.specs.Paper.{Majority, majorities_meet, Chosen, OnlyOne, OnlyChosenLearned, P2, P2c}
use Rattle.agreement.specs.Theorem.{World, Reach}
use Rattle.agreement.specs.Runs.{three, seven, mark, late_world, two_batches, late_entries, twice_world, twice_entries}
use Rattle.agreement.proofs.Runs.{late_reached, twice_reached}
use Rattle.agreement.specs.Worlds.{IsAccepted, IsIssued, IsLearned}
use Rattle.agreement.specs.Unsafe.{BatchBelow, Below, Majority-01, Majority-02, SevenAt1, TwoBatchesOneUnchosen, of_01, of_02, of_lines, vote}

-- for slot 1 members 0 and 2 accepted batch 7 alone
seven_only : (m : ℕ) → has 5 m ≡ true → (v : Vote) → IsAccepted late_world 1 m v → v.batch.id ≡ 7
seven_only =
    of_02 (λ m. (v : Vote) → IsAccepted late_world 1 m v → v.batch.id ≡ 7)
    (λ v x.
    of_lines SevenAt1 (late_world.did 0) _ late_entries.of_0 (λ z. absurd (omega arith), (λ _. refl, (λ _. refl, tt))) 1 v.ballot v.batch x refl)
    (λ v x.
    of_lines SevenAt1 (late_world.did 2) _ late_entries.of_2 (λ _. refl, (λ z. absurd (omega arith), (λ _. refl, tt))) 1 v.ballot v.batch x refl)

-- so no majority accepted the empty one, at any ballot
pub empty_unchosen : (v : Vote) → Chosen 3 (IsAccepted late_world 1) v → v.batch ≡ empty_batch → ⊥
empty_unchosen v (set, j, h) e =
    let (m, _, a, b) = majorities_meet 3 set 5 (omega arith) j Majority-02 in
    omega (arith, seven_only m b v (h m a), ap (λ (x : Batch). x.id) e)

pub two_batches_one_unchosen : TwoBatchesOneUnchosen late_world 1 (mark 1 1 514 empty_batch) (mark 2 1 771 seven)
two_batches_one_unchosen =
    record {
      marked = rw two_batches.marks (Memᴰ.head refl);
      marked' = rw two_batches.marks (Memᴰ.tail (Memᴰ.head refl));
      slot = refl;
      slot' = refl;
      differ = λ e. omega (arith, ap (λ (b : Batch). b.id) e);
      unchosen = empty_unchosen;
    }

-- 2.1, the third requirement: member 1 learns the empty batch, which was not chosen
pub learned_unchosen : ((w : World) → Reach three w → (s : ℕ) → OnlyChosenLearned 3 (IsAccepted w s) (IsLearned w s)) → ⊥
learned_unchosen h =
    let (v, c, e) = h late_world late_reached 1 1 empty_batch (514, two_batches_one_unchosen.marked) in
    empty_unchosen v c e

seven_below : (m : ℕ) → m < 3 → (v : Vote) → IsAccepted late_world 1 m v → v.ballot < 514 → v.batch.id ≡ 7
seven_below zero l v x = of_lines BatchBelow (late_world.did 0) _ late_entries.of_0 (λ z _. absurd (omega arith), (λ _ _. refl, (λ _ _. refl, tt))) 1 v.ballot v.batch x refl
seven_below (suc zero) l v x =
    of_lines BatchBelow (late_world.did 1) _ late_entries.of_1 (λ z _. absurd (omega arith), (λ _ z. absurd (omega arith), tt)) 1 v.ballot v.batch x refl
seven_below (suc (suc zero)) l v x =
    of_lines BatchBelow (late_world.did 2) _ late_entries.of_2 (λ _ _. refl, (λ z _. absurd (omega arith), (λ _ _. refl, tt))) 1 v.ballot v.batch x refl
seven_below (suc (suc (suc m))) l v x = absurd (omega arith)

no_set : (set : ℕ) → Majority 3 set → ((x : Vote) → Below set x → ⊥) ⊎ ((x : Vote) × (Below set x) × (x.batch ≡ empty_batch) × ((y : Vote) → Below set y → y.ballot ≤ x.ballot)) → ⊥
no_set set j (inl none) =
    let (m, _, a, b) = majorities_meet 3 set 5 (omega arith) j Majority-02 in
    none (vote 257 seven) ((m, a, of_02 (λ n. IsAccepted late_world 1 n (vote 257 seven)) late_entries.seven_0 late_entries.seven_2 m b), omega arith)
no_set set j (inr (x, ((m, a, y), l), e, _)) =
    omega (arith, seven_below m (within_below set 3 m j.within a) x y l, ap (λ (b : Batch). b.id) e)

pub P2c-fails : ((w : World) → Reach three w → (s : ℕ) → P2c 3 (IsAccepted w s) (IsIssued w s)) → ⊥
P2c-fails h = let (set, j, c) = h late_world late_reached 1 (vote 514 empty_batch) (1, late_entries.sent) in no_set set j c

-- ── "Only a single value is chosen", and P2: two batches are chosen for one slot ──
pub Chosen-seven : Chosen 3 (IsAccepted twice_world 1) (vote 257 seven)
Chosen-seven = (5, Majority-02, of_02 (λ m. IsAccepted twice_world 1 m (vote 257 seven)) twice_entries.seven_0 twice_entries.seven_2)

pub Chosen-empty : Chosen 3 (IsAccepted twice_world 1) (vote 514 empty_batch)
Chosen-empty = (3, Majority-01, of_01 (λ m. IsAccepted twice_world 1 m (vote 514 empty_batch)) twice_entries.empty_0 twice_entries.empty_1)

pub OnlyOne-fails : ((w : World) → Reach three w → (s : ℕ) → OnlyOne 3 (IsAccepted w s)) → ⊥
OnlyOne-fails h =
    let e : seven ≡ empty_batch = h twice_world twice_reached 1 (vote 257 seven) (vote 514 empty_batch) Chosen-seven Chosen-empty in
    omega (arith, ap (λ (b : Batch). b.id) e)

pub P2-fails : ((w : World) → Reach three w → (s : ℕ) → P2 3 (IsAccepted w s)) → ⊥
P2-fails h =
    let e : empty_batch ≡ seven = h twice_world twice_reached 1 (vote 257 seven) (vote 514 empty_batch) Chosen-seven Chosen-empty (omega arith) in
    omega (arith, ap (λ (b : Batch). b.id) e)
