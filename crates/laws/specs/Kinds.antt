-- 02, Wish 6: "Add a strict kind of replica, chosen when it is made ..; the base kind stays." The calls on which the two kinds give one outcome,
-- from records that differ in nothing but the kind. The proof is in KindCalls and proofs/KindCalls; runs on both sides of each test in KindRuns.
use Rattle.std.specs.Prelude.{◌≡◌, refl, Bool, true, false, not, ◌&&◌, ℕ, ◌+◌, ◌/◌, ◌%◌, ◌≤◌, leb, eqb}
use Rattle.std.proofs.Common.{ap, arith, eqb-true}
use Rattle.std.proofs.lemmas.Bool.{eqb-false}
use Rattle.base.specs.Pick.{pick}
use Rattle.base.specs.Find.{any}
use Rattle.slots.specs.declared.Slot.{Slot}
use Rattle.slots.specs.Slots.{committed}
use Rattle.decide.specs.declared.Scalars.{Scalars}
use Rattle.decide.specs.Scalars.{leads, strict}
use Rattle.decide.specs.Decide.{may_offer}
use Rattle.window.specs.declared.Window.{Window}
use Rattle.window.specs.Window.{slot_at, grown}
use Rattle.replica.specs.declared.Replica.{Replica}
use Rattle.replica.specs.declared.Entry.{Entry}
use Rattle.replica.specs.declared.Entry.TheVariants.{PrepareBal, AcceptData, CommitSlot}
use Rattle.replica.specs.Record.{Outcome, place}
use Rattle.replica.specs.Messages.{prepare_top}
use Rattle.replica.specs.Step.{Call, call_prepare, call_prepare_reply, call_accept, call_accept_reply, call_commit_notice, call_timeout, call_logged, call_offer, call_executed, call_open_read, call_read_reply, step}

-- ── one record, of the one kind and of the other ──
abbrev pub with_options : ℕ → Scalars → Scalars
with_options n sc =
    record {
      id = sc.id;
      group = sc.group;
      start = sc.start;
      options = n;
      leader = sc.leader;
      bal_prep_sent = sc.bal_prep_sent;
      bal_prepared = sc.bal_prepared;
      bal_max_seen = sc.bal_max_seen;
      accept_bar = sc.accept_bar;
      commit_bar = sc.commit_bar;
      exec_bar = sc.exec_bar;
      wal_offset = sc.wal_offset;
      peer_accept_max = sc.peer_accept_max;
      lead_trigger = sc.lead_trigger;
    }

abbrev pub optioned : ℕ → Replica → Replica
optioned n r =
    record { sc = with_options n r.sc; bars = r.bars; window = r.window; keys = r.keys; reads = r.reads; summary = r.summary }

-- "trace: 4 more in trigger": the other two options stay
abbrev pub options_of : Bool → ℕ → ℕ
options_of kind options = options % 4 + pick kind 4 0

abbrev pub of_kind : Bool → Replica → Replica
of_kind kind r = optioned (options_of kind r.sc.options) r

-- the same answer and actions, and a replica of that kind
abbrev pub outcome_of_kind : Bool → Outcome → Outcome
outcome_of_kind kind o = record { answer = o.answer; replica = of_kind kind o.replica; actions = o.actions }

-- ── the calls that do not ask for the kind ──
-- a slot as a call that names it finds it
abbrev pub found : Replica → ℕ → Slot
found r slot = slot_at (grown r.window (place r.sc slot + 1)) (place r.sc slot)

-- Prepare's slots, of which (d) keeps those that are Committed or Executed
abbrev pub covers_committed : Window → ℕ → Bool
covers_committed w from = any (λ i. leb committed (slot_at w i).status) from (prepare_top w from + 1)

-- by (a) an entry's own ballot is asked for; on a leader a PrepareBal is its own reply, which (c) notes and counts in another way
abbrev pub kindless_entry : Scalars → Slot → ℕ → Entry → Bool
kindless_entry sc s ballot PrepareBal = not (leads sc) && eqb s.ballot ballot
kindless_entry sc s ballot AcceptData = eqb s.ballot ballot && eqb s.vote.ballot ballot
kindless_entry sc s ballot CommitSlot = true

-- left out: a leader's PrepareReply, by (c), and an offer that is taken, by (b) (`offers_agree`)
abbrev pub kindless : Replica → Call → Bool
kindless r (call_prepare peer trigger ballot) = not (covers_committed (grown r.window (place r.sc trigger + 1)) (place r.sc trigger))
kindless r (call_prepare_reply peer m) = not (leads r.sc)
kindless r (call_accept peer slot ballot b) = not (leb committed (found r slot).status)
kindless r (call_accept_reply peer slot ballot) = true
kindless r (call_commit_notice peer ballot bar) = true
kindless r (call_timeout source) = true
kindless r (call_logged d) = kindless_entry r.sc (slot_at r.window (place r.sc d.slot)) d.ballot d.entry
kindless r (call_offer b) = not (may_offer r.sc)
kindless r (call_executed slot) = true
kindless r (call_open_read id count keys) = true
kindless r (call_read_reply peer id from_leader reply) = true

-- THE THEOREM (`kinds_agree` of KindCalls): on such a call a replica of either kind gives the outcome of that kind
abbrev pub KindsAgree : Type 0
KindsAgree = (kind : Bool) (r : Replica) (room : ℕ) (c : Call) → kindless r c ≡ true → step (of_kind kind r) room c ≡ outcome_of_kind kind (step r room c)

-- it is of that kind, and a replica that was made (`may_be`) is one of the two
pub kind_is : (kind : Bool) (r : Replica) → strict (of_kind kind r).sc ≡ kind
kind_is true r = let e : (r.sc.options % 4 + 4) / 4 % 2 ≡ 1 = omega arith in rw e
kind_is false r = let e : (r.sc.options % 4 + 0) / 4 % 2 ≡ 0 = omega arith in rw e

pub of_its_kind : (r : Replica) → r.sc.options ≤ 7 → of_kind (strict r.sc) r ≡ r
of_its_kind r small = ap (λ (n : ℕ). optioned n r) (go (strict r.sc) refl)
  where
    go : (kind : Bool) → strict r.sc ≡ kind → options_of kind r.sc.options ≡ r.sc.options
    go true e = omega (arith, eqb-true (r.sc.options / 4 % 2) 1 e)
    go false e = omega (arith, eqb-false (r.sc.options / 4 % 2) 1 e)
