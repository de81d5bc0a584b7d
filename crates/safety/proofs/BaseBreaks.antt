-- The rest of specs/BaseBreaks.antt: what stands on a theorem that a must-fail edit makes false.
use Rattle.std.specs.Prelude.{◌≡◌, refl}
use Rattle.std.proofs.Common.{ap, arith}
use mathlib.Core.List.Memᴰ
use Rattle.batch.specs.declared.Batch.{Batch}
use Rattle.batch.specs.Batches.{empty_batch}
use Rattle.agreement.specs.Theorem.{Group, World, begin}
use Rattle.agreement.specs.Runs.{three, late, late_world, seven, mark, two_batches}
use Rattle.safety.specs.ForGood.{Comes, starts, ForGood}
use Rattle.safety.proofs.HonestRuns.{play-Comes}
use Rattle.safety.specs.BaseBreaks.{late-honest}

pub late_comes : Comes three late_world
late_comes = play-Comes three late (begin three) starts late-honest

pub base_breaks : ((g : Group) (w : World) → Comes g w → ForGood g w) → ⊥
base_breaks h =
    let e : empty_batch ≡ seven =
    (h three late_world late_comes).one_batch (mark 1 1 514 empty_batch) (mark 2 1 771 seven) (rw two_batches.marks (Memᴰ.head refl)) (rw two_batches.marks (Memᴰ.tail (Memᴰ.head refl))) refl in
    omega (arith, ap (λ (b : Batch). b.id) e)
