-- What "Paxos Made Simple" requires of voting, 2.1, and what it gets it by, 2.2, of every world that a group of strict members comes to: of any slot, a batch
-- being accepted where its accept entry is written, and learned where a slot is marked. That only a proposed batch is chosen is `only_proposed` (agreement).
use Rattle.std.specs.Prelude.{ℕ}
use Rattle.replica.specs.Step.{Call}
use Rattle.agreement.specs.Theorem.{Group, World, May, timer, offer, logged, execution, opening, replied, message, refused, Reach, begins, turn, Agreement}
use Rattle.agreement.proofs.Group.{agreement}
use Rattle.safety.specs.ForGood.{Happens, timer_fires, batch_comes, entry_done, batch_executed, read_opened, read_replied, message_comes, Event, real, turned_away, Comes, starts, goes}

-- ── these runs are among demand 3's ──
Happens-May : (w : World) (m room : ℕ) (c : Call) → Happens w m c → May w m room c
Happens-May w m room _ (timer_fires source) = timer source
Happens-May w m room _ (batch_comes b) = offer b
Happens-May w m room _ (entry_done d _) = logged d
Happens-May w m room _ (batch_executed slot) = execution slot
Happens-May w m room _ (read_opened id count keys) = opening id count keys
Happens-May w m room _ (read_replied peer id from_leader reply) = replied peer id from_leader reply
Happens-May w m room _ (message_comes from a c h i) = message from a c h i

Event-May : (w : World) (m room : ℕ) (c : Call) → Event w m room c → May w m room c
Event-May w m room c (real h) = Happens-May w m room c h
Event-May w m room c (turned_away n k) = refused c n k

pub Comes-Reach : (g : Group) (w : World) → Comes g w → Reach g w
Comes-Reach g w starts = begins
Comes-Reach g w (goes {w = u} r m p room c e) = turn (Comes-Reach g u r) m p room c (Event-May u m room c e)

-- so demand 3 holds of them, too
pub demand_3 : (g : Group) (w : World) → Comes g w → Agreement w
demand_3 g w r = agreement g w (Comes-Reach g w r)
