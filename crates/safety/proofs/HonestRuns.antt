-- The rest of specs/HonestRuns.antt: what stands on a theorem that a must-fail edit makes false.
use Rattle.std.specs.Prelude.{◌≡◌, true, ◌&&◌}
use mathlib.Core.List.{List, [], ◌∷◌}
use Rattle.base.specs.Pick.{and_left, and_right}
use Rattle.agreement.specs.Theorem.{Group, World}
use Rattle.agreement.specs.Runs.{Turn, who, play, happen}
use Rattle.safety.specs.ForGood.{Comes}
use Rattle.safety.specs.HonestRuns.{happen-Comes, honest, is_real}

-- the whole run
pub play-Comes : (g : Group) (l : List Turn) (w : World) → Comes g w → honest g w l ≡ true → Comes g (play w l)
unfolding play honest
play-Comes g [] w r h = r
play-Comes g (t ∷ l) w r h =
    let k : g.present (who t) && is_real w t ≡ true = and_left (g.present (who t) && is_real w t) _ h in
    play-Comes g l (happen w t) (happen-Comes g w r t (and_left (g.present (who t)) _ k) (and_right (g.present (who t)) _ k)) (and_right (g.present (who t) && is_real w t) _ h)
