-- The rest of specs/FiveRun.antt: what stands on a theorem that a must-fail edit makes false.
use Rattle.agreement.specs.Theorem.{begin}
use Rattle.safety.specs.ForGood.{Comes, starts}
use Rattle.safety.proofs.HonestRuns.{play-Comes}
use Rattle.safety.specs.FiveRun.{five, five-honest, five_world, story}

pub five-Comes : Comes five five_world
five-Comes = play-Comes five story (begin five) starts five-honest
