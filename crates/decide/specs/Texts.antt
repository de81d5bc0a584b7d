-- What is printed of a refusal.
use Rattle.std.specs.Prelude.{ℕ, List, codes}
use Rattle.decide.specs.declared.Refusal.{Refusal}
use Rattle.decide.specs.declared.Refusal.TheVariants.{Contradiction, Renamed}

abbrev pub refusal_text : Refusal → List ℕ
refusal_text Contradiction = codes "the message contradicts what is held"
refusal_text Renamed = codes "another batch for a committed slot"
