-- A claim about a call's outcome: of the answer, the scalars, the window and the actions; it can't see the bars, wal_offset and
-- peer_accept_max (`core`), nor the tables. The ways that a call can go are those of `laws`; here and in Replying and Logging are those of
-- which a claim sees less.
use Rattle.std.specs.Prelude.{Bool, List, ℕ}
use Rattle.tally.specs.declared.Tally.{Tally}
use Rattle.actions.specs.Actions.{Act}
use Rattle.decide.specs.declared.Scalars.{Scalars}
use Rattle.decide.specs.declared.PeerBars.{PeerBars}
use Rattle.decide.specs.Scalars.{with_numbers}
use Rattle.decide.specs.Bars.{with_fallen}
use Rattle.window.specs.declared.Window.{Window}
use Rattle.replica.specs.declared.Replica.{Replica}
use Rattle.replica.specs.Record.{Outcome}
use Rattle.replica.specs.Quorumread.{open_read_step, read_reply_step}
use Rattle.laws.specs.OfScalars.{fallen_ways}
use Rattle.laws.specs.WaysAdded.{open_read_step_ways, read_reply_step_ways}

-- who is who, who leads, and the three ballots
abbrev pub core : Scalars → Scalars
core sc = with_numbers sc (record { accept_bar = 0; commit_bar = 0; exec_bar = 0; wal_offset = 0; peer_accept_max = 0 })

abbrev pub Claim : Type 1
Claim = ℕ → Scalars → Window → List Act → Type 0

unfoldable pub Of : Claim → Outcome → Type 0
Of P o = P o.answer (core o.replica.sc) o.replica.window o.actions

module _ (P : Claim) where
  -- the peer accept table is not seen
  pub fallen_way : {a : ℕ} {w : Window} {acts : List Act} (sc : Scalars) (bars : PeerBars) (peer bar : ℕ) → P a (core sc) w acts → P a (core (with_fallen sc bars peer bar)) w acts
  fallen_way {a} {w} {acts} sc bars peer bar h = fallen_ways (λ (x : Scalars). P a (core x) w acts) sc bars peer bar h (λ max. h)

  -- nor are the reads
  module _ (r : Replica) (room : ℕ) (h : (a : ℕ) (acts : List Act) → P a (core r.sc) r.window acts) where
    pub open_read_way : (id count : ℕ) (keys : List ℕ) → Of P (open_read_step r room id count keys)
    unfolding Of
    open_read_way id count keys = open_read_step_ways (Of P) r room id count keys (λ a l. h a _) (λ f. h 0 _)

    pub read_reply_way : (peer id : ℕ) (from_leader : Bool) (reply : Tally) → Of P (read_reply_step r room peer id from_leader reply)
    unfolding Of
    read_reply_way peer id from_leader reply =
        read_reply_step_ways (Of P) r room peer id from_leader reply (λ a l. h a _) (λ f. h 0 _) (λ f k. h 0 _) (λ f. h 0 _) (λ f k. h 0 _) (λ f k. h 12 _)
