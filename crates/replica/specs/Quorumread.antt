-- 003, quorumread.rs: opening a read (01's form) and a reply to one.
use Rattle.std.specs.Prelude.{Bool, not, List, [], ◌∷◌, ℕ, ltb, leb, get_or}
use Rattle.base.specs.Pick.{pick}
use Rattle.base.specs.Gather.{gather}
use Rattle.tally.specs.declared.Tally.{Tally}
use Rattle.tally.specs.declared.Read.{Read}
use Rattle.tally.specs.declared.Reads.{Reads}
use Rattle.tally.specs.Open.{Opened}
use Rattle.tally.specs.Open.{Replied}
use Rattle.tally.specs.Merge.{best_at, answer_of}
use Rattle.tally.specs.Open.{no_read, find_read, open_read, close_read, put_read, reply_to, stays_open}
use Rattle.actions.specs.declared.Action.TheVariants.{ReadAnswer}
use Rattle.actions.specs.Actions.{Act, bare}
use Rattle.decide.specs.Scalars.{is_member, quorum}
use Rattle.replica.specs.declared.Replica.{Replica}
use Rattle.replica.specs.Record.{Outcome, kept}
use Rattle.replica.specs.Fit.{ready, unready}

abbrev pub with_reads : Replica → Reads → Replica
with_reads r rs = record { sc = r.sc; bars = r.bars; window = r.window; keys = r.keys; reads = rs; summary = r.summary }

abbrev pub opened : Replica → Opened → Outcome
opened r o = record { answer = o.answer; replica = with_reads r o.reads; actions = [] }

unfoldable pub open_read_step : Replica → ℕ → ℕ → ℕ → List ℕ → Outcome
open_read_step r room id count keys = pick (not (ready r room)) (kept (unready r room) r) (opened r (open_read r.reads id count keys))

-- the answer for the key at a place: "A read answer has read id, place, tag and value (or leader, 255 = none)"
abbrev pub answer_act : ℕ → Read → ℕ → Act
answer_act leader d i =
    bare (ReadAnswer (record { read = d.id; place = i; tag = (answer_of leader (best_at d.tally i)).tag; value = (answer_of leader (best_at d.tally i)).value }))

-- what a reply makes of the read at place i: it closes and answers; it stays open as the reply leaves it; or the reply is refused
unfoldable pub replied_step : Replica → ℕ → Replied → Outcome
replied_step r i d =
    pick d.closes
    (record { answer = 0; replica = with_reads r (close_read r.reads i); actions = gather (λ k. answer_act r.sc.leader d.read k ∷ []) 0 d.answers })
    (pick (stays_open d.answer) (record { answer = d.answer; replica = with_reads r (put_read r.reads i d.read); actions = [] })
    (kept d.answer r))

-- 10: a reply list over 8; "An unknown read id is ignored."
unfoldable pub read_reply_step : Replica → ℕ → ℕ → ℕ → Bool → Tally → Outcome
read_reply_step r room peer id from_leader reply =
    pick (not (ready r room)) (kept (unready r room) r)
    (pick (not (is_member r.sc peer)) (kept 2 r)
    (pick (ltb 8 reply.count) (kept 10 r)
    (pick (leb r.reads.count (find_read r.reads id)) (kept 0 r)
    (replied_step r (find_read r.reads id)
    (reply_to (quorum r.sc) peer from_leader reply (get_or r.reads.reads (find_read r.reads id) no_read))))))
