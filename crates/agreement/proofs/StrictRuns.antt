-- The rest of specs/StrictRuns.antt: what stands on a theorem that a must-fail edit makes false.
use Rattle.std.specs.Prelude.{refl}
use Rattle.agreement.specs.Theorem.{begin, Reach, begins}
use Rattle.agreement.specs.Runs.{all_present, changed, late}
use Rattle.agreement.proofs.Runs.{play-Reach}
use Rattle.agreement.specs.StrictRuns.{strict_late, strict_three, strict_world}

pub strict_reached : Reach strict_three strict_world
unfolding all_present strict_three changed
strict_reached = play-Reach strict_three changed (begin strict_three) begins refl

pub strict_late_reached : Reach strict_three strict_late
unfolding all_present strict_three late
strict_late_reached = play-Reach strict_three late (begin strict_three) begins refl
