-- 02, Wish 7. "For a group of strict replicas, all fresh with distinct ids and one start slot, with timers and offers at any moment, completions only of
-- entries written, with their own ballot (late, never or twice), and messages lost, repeated or overtaken but unchanged, under their true sender and none
-- made up: no two replicas ever mark one slot committed with different batches, at any ballots, and 15 is never given." The group, its worlds and its marks
-- are demand 3's (agreement/specs/Theorem). The proof is `for_good` in proofs/Whole.
use Rattle.std.specs.Prelude.{◌≡◌, Bool, true, List, ℕ}
use Rattle.base.specs.Among.{◌∈◌}
use Rattle.batch.specs.declared.Batch.{Batch}
use Rattle.tally.specs.declared.Tally.{Tally}
use Rattle.actions.specs.Actions.{Act}
use Rattle.window.specs.Acts.{promise}
use Rattle.replica.specs.declared.Entry.{Entry}
use Rattle.replica.specs.declared.Entry.TheVariants.{PrepareBal, AcceptData, CommitSlot}
use Rattle.replica.specs.declared.Done.{Done}
use Rattle.replica.specs.Step.{Call, call_timeout, call_logged, call_offer, call_executed, call_open_read, call_read_reply, step, received}
use Rattle.agreement.specs.Theorem.{Group, Mark, World, put, begin, accept_entry, commit_entry}

-- an entry of this kind, for this slot and with this ballot stands in what a member did
abbrev pub EntryIn : List Act → Entry → ℕ → ℕ → Type 0
EntryIn did PrepareBal slot ballot = promise slot ballot ∈ did
EntryIn did AcceptData slot ballot = (b : Batch) × (accept_entry slot ballot b ∈ did)
EntryIn did CommitSlot slot ballot = commit_entry slot ballot ∈ did

-- what happens to member m: as in demand 3 (May), but a completion is of an entry that this member wrote, "with their own ballot (late, never or twice)",
-- of any size. A made-up message is none of these
pub data Happens (w : World) (m : ℕ) : Call → Type 0 where
  timer_fires : (source : ℕ) → Happens w m (call_timeout source)
  batch_comes : (b : Batch) → Happens w m (call_offer b)
  entry_done : (d : Done) → EntryIn (w.did m) d.entry d.slot d.ballot → Happens w m (call_logged d)
  batch_executed : (slot : ℕ) → Happens w m (call_executed slot)
  read_opened : (id count : ℕ) (keys : List ℕ) → Happens w m (call_open_read id count keys)
  read_replied : (peer id : ℕ) (from_leader : Bool) (reply : Tally) → Happens w m (call_read_reply peer id from_leader reply)
  message_comes : (from : ℕ) (a : Act) (c : Call) → a ∈ w.did from → c ∈ received from a → Happens w m c

-- "refused calls among the rest": a call that is refused may bring anything, and changes nothing
pub data Event (w : World) (m room : ℕ) (c : Call) : Type 0 where
  real : Happens w m c → Event w m room c
  turned_away : ((step (w.replica m) room c).answer ≡ 0 → ⊥) → ((step (w.replica m) room c).answer ≡ 12 → ⊥) → Event w m room c

-- the worlds that a group comes to
pub data Comes (g : Group) : World → Type 0 where
  starts : Comes g (begin g)
  goes : {w : World} → Comes g w → (m : ℕ) → g.present m ≡ true → (room : ℕ) (c : Call) → Event w m room c → Comes g (put w m (step (w.replica m) room c))

-- "no two replicas ever mark one slot committed with different batches, at any ballots"; "and 15 is never given", that is, to no call that happens: a
-- made-up Accept, which no member sent, may be given it, and is refused
pub record ForGood (g : Group) (w : World) : Type 0 where
  pub one_batch : (k k' : Mark) → k ∈ w.marks → k' ∈ w.marks → k.slot ≡ k'.slot → k.batch ≡ k'.batch
  pub never_15 : (m : ℕ) → g.present m ≡ true → (room : ℕ) (c : Call) → Happens w m c → (step (w.replica m) room c).answer ≡ 15 → ⊥

-- the theorem
abbrev pub OneSlotOneBatch : Type 0
OneSlotOneBatch = (g : Group) → g.strict ≡ true → (w : World) → Comes g w → ForGood g w
