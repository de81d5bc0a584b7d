-- A PrepareReply inside the crate: what is done of what was weighed, and what the functions count on.
use Rattle.std.specs.Prelude.{not, ◌&&◌, List, ◌++◌, ℕ, ◌+◌, ◌≤◌, ◌<◌, eqb, length}
use Rattle.base.specs.Pick.{pick}
use Rattle.base.specs.Gather.{gather}
use Rattle.batch.specs.Keys.{refresh, overfull}
use Rattle.actions.specs.Actions.{Act}
use Rattle.slots.specs.Slots.{entered_slot}
use Rattle.decide.specs.Scalars.{strict}
use Rattle.decide.specs.declared.PeerBars.{PeerBars}
use Rattle.decide.specs.declared.Reply.{Reply}
use Rattle.decide.specs.Weighing.{Weighed}
use Rattle.window.specs.declared.Window.{Window}
use Rattle.window.specs.Window.{slot_at, put_slot, sweep}
use Rattle.window.specs.Acts.{enter_acts}
use Rattle.window.specs.SummaryLaws.{Sums}
use Rattle.replica.specs.declared.Replica.{Replica}
use Rattle.replica.specs.Record.{Outcome, kept}
use Rattle.replica.specs.Messages.{tabled, appended, noted, append_acts, replied_on, or_kept}

-- what a function here may count on: a fit record's numbers, room for 192 actions, and a slot from start on
pub record ReplyFits (r : Replica) (room : List ℕ) (m : Reply) : Type 0 where
  pub long : 3456 ≤ length room
  pub low : r.sc.start ≤ 4294967296
  pub within : r.window.len ≤ 64
  pub from : r.sc.start ≤ m.slot
  pub commit_low : r.sc.start ≤ r.sc.commit_bar
  pub commit_high : r.sc.commit_bar ≤ r.sc.start + r.window.len
  pub sum : Sums r.sc r.window r.summary

-- the slot at place i, its trigger at place j
pub record PlacesFit (r : Replica) (room : List ℕ) (i j : ℕ) : Type 0 where
  pub long : 3456 ≤ length room
  pub low : r.sc.start ≤ 4294967296
  pub within : r.window.len ≤ 64
  pub place : i < 64
  pub trigger : j < r.window.len
  pub commit_low : r.sc.start ≤ r.sc.commit_bar
  pub commit_high : r.sc.commit_bar ≤ r.sc.start + r.window.len
  pub sum : Sums r.sc r.window r.summary

-- what was weighed for the places i and j of a window, carried out: the two slots, the sweep into Accept where the quorum is made, the table of keys
abbrev pub swept_to : Window → ℕ → Weighed → ℕ
swept_to w j g = pick g.enters w.len j

abbrev pub placed : Window → ℕ → ℕ → Weighed → Window
placed w i j g = put_slot (put_slot w i g.slot) j g.trigger

unfoldable pub carried : Replica → PeerBars → Window → ℕ → ℕ → Reply → List Act → Weighed → Outcome
carried r bars w i j m acts g =
    pick (not (eqb g.answer 0)) (kept g.answer r)
    (pick (g.noted && overfull r.keys g.slot.batch) (kept 7 r)
    (record {
      answer = 0;
      replica = record {
        sc = g.sc;
        bars = bars;
        window = sweep (λ k s. entered_slot (strict r.sc) m.ballot s) j (swept_to w j g) (placed w i j g);
        keys = pick g.noted (refresh m.slot g.slot.batch r.keys) r.keys;
        reads = r.reads;
        summary = r.summary;
      };
      actions = acts ++ gather (λ k. enter_acts (r.sc.start + k) m.ballot (slot_at (placed w i j g) k)) j (swept_to w j g);
    }))

-- reply_on past its tests
unfoldable pub reply_at : Replica → ℕ → Reply → ℕ → ℕ → Outcome
reply_at r peer m i j = or_kept r (replied_on (tabled r peer m.bar) (noted r.sc (appended r i j) i peer) i j peer m (append_acts r i))
