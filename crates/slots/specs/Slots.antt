-- One slot, and every change that a call makes to one slot. "instance" in the Rust.
use Rattle.std.specs.Prelude.{Bool, true, false, not, ◌&&◌, ◌||◌, [], ℕ, ltb, leb, eqb}
use Rattle.base.specs.Pick.{pick}
use Rattle.members.specs.Sets.{has, insert, fits_group}
use Rattle.batch.specs.declared.Batch.{Batch}
use Rattle.batch.specs.Batches.{empty_batch}
use Rattle.slots.specs.declared.Vote.{Vote}
use Rattle.slots.specs.declared.LeaderBook.{LeaderBook}
use Rattle.slots.specs.declared.ReplicaBook.{ReplicaBook}
use Rattle.slots.specs.declared.Slot.{Slot}

-- Null < Preparing < Accepting < Committed < Executed
abbrev pub preparing : ℕ
preparing = 1

abbrev pub accepting : ℕ
accepting = 2

abbrev pub committed : ℕ
committed = 3

abbrev pub executed : ℕ
executed = 4

-- 01: "A null slot is all zero and empty."
abbrev pub no_vote : Vote
no_vote = record { ballot = 0; batch = empty_batch }

-- "leader_bk: None"; `new_book` is one that is present
abbrev pub no_leader_book : LeaderBook
no_leader_book = record { present = false; trigger = 0; endprep = 0; prepare_acks = 0; prepare_max_bal = 0; accept_acks = 0; notes = 0 }

-- "replica_bk: None": whom a follower answers, where `no_leader_book` is whom a leader heard
abbrev pub no_replica_book : ReplicaBook
no_replica_book = record { present = false; source = 0; trigger = 0; endprep = 0 }

abbrev pub null_slot : Slot
null_slot =
    record {
      ballot = 0;
      status = 0;
      batch = empty_batch;
      vote = no_vote;
      leader = no_leader_book;
      replica = no_replica_book;
      external = false;
      wal_offset = 0;
    }

-- what an index past the end of an array of slots reads. No replica holds it: its lists of keys have no elements, where those of empty_batch and
-- null_slot have eight zeros
abbrev pub no_batch : Batch
no_batch = record { id = 0; count = 0; keys = [] }

abbrev pub no_slot : Slot
no_slot =
    record {
      ballot = 0;
      status = 0;
      batch = no_batch;
      vote = record { ballot = 0; batch = no_batch };
      leader = no_leader_book;
      replica = no_replica_book;
      external = false;
      wal_offset = 0;
    }

-- a slot with one part changed
abbrev pub with_state : Slot → ℕ → ℕ → Slot
with_state s ballot status =
    record { ballot = ballot; status = status; batch = s.batch; vote = s.vote; leader = s.leader; replica = s.replica; external = s.external; wal_offset = s.wal_offset }

abbrev pub with_batch : Slot → Batch → Slot
with_batch s b =
    record { ballot = s.ballot; status = s.status; batch = b; vote = s.vote; leader = s.leader; replica = s.replica; external = s.external; wal_offset = s.wal_offset }

abbrev pub with_vote : Slot → Vote → Slot
with_vote s v =
    record { ballot = s.ballot; status = s.status; batch = s.batch; vote = v; leader = s.leader; replica = s.replica; external = s.external; wal_offset = s.wal_offset }

abbrev pub with_leader : Slot → LeaderBook → Slot
with_leader s k =
    record { ballot = s.ballot; status = s.status; batch = s.batch; vote = s.vote; leader = k; replica = s.replica; external = s.external; wal_offset = s.wal_offset }

abbrev pub with_replica : Slot → ReplicaBook → Slot
with_replica s k =
    record { ballot = s.ballot; status = s.status; batch = s.batch; vote = s.vote; leader = s.leader; replica = k; external = s.external; wal_offset = s.wal_offset }

abbrev pub with_external : Slot → Slot
with_external s =
    record { ballot = s.ballot; status = s.status; batch = s.batch; vote = s.vote; leader = s.leader; replica = s.replica; external = true; wal_offset = s.wal_offset }

abbrev pub with_offset : Slot → ℕ → Slot
with_offset s offset =
    record { ballot = s.ballot; status = s.status; batch = s.batch; vote = s.vote; leader = s.leader; replica = s.replica; external = s.external; wal_offset = offset }

-- 02, Wish 6, (d): "Prepare and Accept on a Committed or Executed slot keep its status and update the rest." In the base kind it is put back
abbrev pub put_back : Bool → ℕ → Slot → ℕ
put_back strict status s = pick (strict && leb committed s.status) s.status status

-- messages.rs, Prepare: "inst.bal = ballot; inst.status = Preparing; inst.replica_bk = Some(..)"
abbrev pub prepared_slot : Bool → ℕ → ReplicaBook → Slot → Slot
prepared_slot strict ballot book s = with_replica (with_state s ballot (put_back strict preparing s)) book

-- leadership.rs, become_a_leader: an executed slot stays, a committed one becomes external, any other is prepared anew
abbrev pub new_book : ℕ → ℕ → LeaderBook
new_book trigger endprep = record { present = true; trigger = trigger; endprep = endprep; prepare_acks = 0; prepare_max_bal = 0; accept_acks = 0; notes = 0 }

abbrev pub redone_slot : ℕ → LeaderBook → Slot → Slot
redone_slot ballot book s =
    pick (leb executed s.status) s
    (pick (leb committed s.status) (with_external s)
    (with_leader (with_state (with_external s) ballot preparing) book))

-- messages.rs, PrepareReply: a slot "not known at become_leader()"
abbrev pub appended_slot : ℕ → LeaderBook → Slot
appended_slot ballot book = redone_slot ballot book null_slot

-- "if bal > leader_bk.prepare_max_bal": the voted batch replaces the slot's
abbrev pub with_highest : LeaderBook → ℕ → LeaderBook
with_highest k ballot =
    record { present = k.present; trigger = k.trigger; endprep = k.endprep; prepare_acks = k.prepare_acks; prepare_max_bal = ballot; accept_acks = k.accept_acks; notes = k.notes }

abbrev pub adopted_slot : Vote → Slot → Slot
adopted_slot v s = with_batch (with_leader s (with_highest s.leader v.ballot)) v.batch

-- 02, Wish 6, (c): "A leader notes each member's reply per slot, at any status." A step-up's new book has no notes: they are of one lead
abbrev pub with_note : Bool → LeaderBook → ℕ → LeaderBook
with_note strict k peer =
    record { present = k.present; trigger = k.trigger; endprep = k.endprep; prepare_acks = k.prepare_acks; prepare_max_bal = k.prepare_max_bal; accept_acks = k.accept_acks; notes = pick strict (insert k.notes peer) k.notes }

abbrev pub noted_slot : Bool → ℕ → Slot → Slot
noted_slot strict peer s = with_leader s (with_note strict s.leader peer)

-- "every slot .. that is Preparing there has been noted from that member": this one has not
abbrev pub lacks_note : ℕ → Slot → Bool
lacks_note peer s = eqb s.status preparing && not (has s.leader.notes peer)

-- "trigger_leader_bk.prepare_acks.set(peer, true)"
abbrev pub with_prepare_ack : LeaderBook → ℕ → LeaderBook
with_prepare_ack k peer =
    record { present = k.present; trigger = k.trigger; endprep = k.endprep; prepare_acks = insert k.prepare_acks peer; prepare_max_bal = k.prepare_max_bal; accept_acks = k.accept_acks; notes = k.notes }

abbrev pub counted_slot : ℕ → Slot → Slot
counted_slot peer s = with_leader s (with_prepare_ack s.leader peer)

-- 02, Wish 6, (b): "A leader entering Accept, by quorum or by offer, records the vote as its own."
abbrev pub own_voted : Bool → ℕ → Slot → Slot
own_voted strict ballot s = with_vote s (pick strict (record { ballot = ballot; batch = s.batch }) s.vote)

-- "enter Accept phase": a Preparing slot becomes Accepting; the ballot is that of its accept entry
abbrev pub entered_slot : Bool → ℕ → Slot → Slot
entered_slot strict ballot s = pick (eqb s.status preparing) (own_voted strict ballot (with_state s s.ballot accepting)) s

-- messages.rs, Accept: a known replica_bk keeps its trigger and endprep and gets the new source
abbrev pub sourced : ReplicaBook → ℕ → ReplicaBook
sourced k peer =
    pick k.present (record { present = true; source = peer; trigger = k.trigger; endprep = k.endprep })
    (record { present = true; source = peer; trigger = 0; endprep = 0 })

abbrev pub accepted_slot : Bool → ℕ → ℕ → Batch → Slot → Slot
accepted_slot strict peer ballot b s =
    with_vote (with_replica (with_batch (with_state s ballot (put_back strict accepting s)) b) (sourced s.replica peer)) (record { ballot = ballot; batch = b })

-- messages.rs, AcceptReply: "leader_bk.accept_acks.set(peer, true)"
abbrev pub with_accept_ack : LeaderBook → ℕ → LeaderBook
with_accept_ack k peer =
    record { present = k.present; trigger = k.trigger; endprep = k.endprep; prepare_acks = k.prepare_acks; prepare_max_bal = k.prepare_max_bal; accept_acks = insert k.accept_acks peer; notes = k.notes }

abbrev pub acknowledged_slot : ℕ → Slot → Slot
acknowledged_slot peer s = with_leader s (with_accept_ack s.leader peer)

-- "inst.status = Committed"
abbrev pub committed_slot : Slot → Slot
committed_slot s = with_state s s.ballot committed

-- leadership.rs, advance_commit_bar: "else if inst.status >= Committed continue"
abbrev pub marked_slot : Slot → Slot
marked_slot s = pick (leb committed s.status) s (committed_slot s)

-- durability.rs: a committed slot with an empty batch is Executed as commit_bar passes it
abbrev pub passed_slot : Slot → Slot
passed_slot s = pick (eqb s.batch.id 0) (with_state s s.ballot executed) s

-- 01, Executed: "a Committed slot becomes Executed, other statuses stay"
abbrev pub executed_slot : Slot → Slot
executed_slot s = pick (eqb s.status committed) (with_state s s.ballot executed) s

-- durability.rs: "update first wal_offset of slot"
abbrev pub logged_slot : ℕ → Slot → Slot
logged_slot offset s = pick (eqb s.wal_offset 0 || ltb offset s.wal_offset) (with_offset s offset) s

-- 01, Offer: "appends a slot in Accepting at bal_prepared, external, voted not set, with leader bookkeeping of trigger and endprep 0 and empty sets"
abbrev pub offered_slot : Bool → ℕ → Batch → Slot
offered_slot strict ballot b = own_voted strict ballot (with_leader (with_batch (with_external (with_state null_slot ballot accepting)) b) (new_book 0 0))

-- 01, 1: a slot in use is unfit with "a count above its table's size, a member set outside the group"
unfoldable pub fit_slot : ℕ → Slot → Bool
fit_slot group s =
    leb s.batch.count 8 && (leb s.vote.batch.count 8
    && (fits_group s.leader.prepare_acks group && (fits_group s.leader.accept_acks group && fits_group s.leader.notes group)))
