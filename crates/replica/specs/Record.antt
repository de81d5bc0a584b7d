-- The replica's record: slots by place and number, a fresh one, and what a call gives.
use Rattle.std.specs.Prelude.{Bool, false, not, ◌&&◌, List, [], ℕ, ◌+◌, ◌-◌, eqb, replicate}
use Rattle.base.specs.Pick.{pick}
use Rattle.batch.specs.declared.Batch.{Batch}
use Rattle.batch.specs.Keys.{empty_table, refresh, overfull}
use Rattle.tally.specs.Open.{no_reads}
use Rattle.actions.specs.Actions.{Act, says_acts}
use Rattle.decide.specs.declared.Scalars.{Scalars}
use Rattle.decide.specs.Decide.{Decided}
use Rattle.decide.specs.Scalars.{nobody, unknown_bar, may_be}
use Rattle.decide.specs.Bars.{unknown_bars}
use Rattle.window.specs.declared.Window.{Window}
use Rattle.window.specs.Window.{put_slot, no_slots}
use Rattle.window.specs.Summary.{walk}
use Rattle.replica.specs.declared.Replica.{Replica}
use Rattle.replica.specs.Seen.{Made}

-- 01: "Window of 64 slots from start_slot". The place of slot s in the window, and the slot at a place
abbrev pub place : Scalars → ℕ → ℕ
place sc s = s - sc.start

abbrev pub number : Scalars → ℕ → ℕ
number sc i = sc.start + i

-- "The log end is start plus the slots present."
abbrev pub log_end : Replica → ℕ
log_end r = r.sc.start + r.window.len

-- 01: "Fresh: no leader, ballots and wal_offset 0, all bars at start, no slots. peer_accept_max and each other member's peer accept bar are
-- 2^64 - 1; self has no entry until its first PrepareReply."
abbrev pub fresh_scalars : ℕ → ℕ → ℕ → ℕ → Scalars
fresh_scalars id group start options =
    record {
      id = id;
      group = group;
      start = start;
      options = options;
      leader = nobody;
      bal_prep_sent = 0;
      bal_prepared = 0;
      bal_max_seen = 0;
      accept_bar = start;
      commit_bar = start;
      exec_bar = start;
      wal_offset = 0;
      peer_accept_max = unknown_bar;
      lead_trigger = 0;
    }

abbrev pub fresh : ℕ → ℕ → ℕ → ℕ → Replica
fresh id group start options =
    record { sc = fresh_scalars id group start options; bars = unknown_bars false; window = no_slots; keys = empty_table; reads = no_reads; summary = record { first = start; accepting = 0 } }

-- "A refused new replica is the all-zero record, which is unfit."
abbrev pub zero_replica : Replica
zero_replica =
    record {
      sc = record {
        id = 0;
        group = 0;
        start = 0;
        options = 0;
        leader = 0;
        bal_prep_sent = 0;
        bal_prepared = 0;
        bal_max_seen = 0;
        accept_bar = 0;
        commit_bar = 0;
        exec_bar = 0;
        wal_offset = 0;
        peer_accept_max = 0;
        lead_trigger = 0;
      };
      bars = record { own = false; bars = replicate 9 0 };
      window = no_slots;
      keys = empty_table;
      reads = no_reads;
      summary = record { first = 0; accepting = 0 };
    }

unfoldable pub new_replica : ℕ → ℕ → ℕ → ℕ → Made
new_replica id group start options =
    pick (may_be id group start options) (record { answer = 0; replica = fresh id group start options })
    (record { answer = 10; replica = zero_replica })

-- what a call gives: its answer, the replica after it, its actions in order
pub record Outcome : Type 0 where
  pub answer : ℕ
  pub replica : Replica
  pub actions : List Act

-- refused or ignored: "All but 0 and 12 change nothing; all but 0 give no actions."
abbrev pub kept : ℕ → Replica → Outcome
kept answer r = record { answer = answer; replica = r; actions = [] }

abbrev pub with_window : Replica → Scalars → Window → Replica
with_window r sc w = record { sc = sc; bars = r.bars; window = w; keys = r.keys; reads = r.reads; summary = r.summary }

-- 7: "the call would add more new keys than the table has free"; else refresh_highest_slot with the batch that a slot takes. 7 wraps the rest
-- because it is the last test: it looks at an outcome that all other tests let through, and another answer stands as it is
unfoldable pub noting : Replica → Bool → ℕ → Batch → Outcome → Outcome
noting r noted slot b o =
    pick (not (noted && eqb o.answer 0)) o
    (pick (overfull r.keys b) (kept 7 r)
    (record {
      answer = 0;
      replica = record {
        sc = o.replica.sc;
        bars = o.replica.bars;
        window = o.replica.window;
        keys = refresh slot b r.keys;
        reads = o.replica.reads;
        summary = o.replica.summary;
      };
      actions = o.actions;
    }))

-- what was decided for the slot at place i of a window, carried out; around it 7, the last test
unfoldable pub settled : Replica → Window → ℕ → ℕ → Decided → Outcome
settled r w i slot d =
    pick (not (eqb d.answer 0)) (kept d.answer r)
    (noting r d.noted slot d.slot.batch
    (record { answer = 0; replica = with_window r d.sc (put_slot w i d.slot); actions = says_acts d.says d.keys }))

-- 02, Wish 1: "equal to the full walk after every call": a call answered 0 leaves the walk's numbers. A refused call leaves the record as it was
abbrev pub summed : Outcome → Outcome
summed o =
    record {
      answer = o.answer;
      replica = record {
        sc = o.replica.sc;
        bars = o.replica.bars;
        window = o.replica.window;
        keys = o.replica.keys;
        reads = o.replica.reads;
        summary = pick (eqb o.answer 0) (walk o.replica.sc o.replica.window) o.replica.summary;
      };
      actions = o.actions;
    }
