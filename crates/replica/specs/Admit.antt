-- What every call is tested for first, as one answer: 1, 14, 2 and 3 in their order, 0 where the call goes on.
use Rattle.std.specs.Prelude.{not, ℕ}
use Rattle.base.specs.Pick.{pick}
use Rattle.members.specs.Ballots.{owns}
use Rattle.decide.specs.Scalars.{is_member, is_peer}
use Rattle.replica.specs.declared.Replica.{Replica}
use Rattle.replica.specs.Fit.{ready, unready}

unfoldable pub ready_answer : Replica → ℕ → ℕ
ready_answer r room = pick (not (ready r room)) (unready r room) 0

unfoldable pub from_member : Replica → ℕ → ℕ → ℕ
from_member r room member = pick (not (ready r room)) (unready r room) (pick (not (is_member r.sc member)) 2 0)

unfoldable pub from_peer : Replica → ℕ → ℕ → ℕ
from_peer r room peer = pick (not (ready r room)) (unready r room) (pick (not (is_peer r.sc peer)) 2 0)

unfoldable pub from_owner : Replica → ℕ → ℕ → ℕ → ℕ
from_owner r room peer ballot = pick (not (ready r room)) (unready r room) (pick (not (is_peer r.sc peer)) 2 (pick (not (owns ballot peer)) 3 0))
