-- One record of a trace, played on a replica. 01, "The trace program".
use Rattle.std.specs.Prelude.{ℕ, Bool, List, [], ◌∷◌, ◌==◌}
use Rattle.base.specs.Pick.{pick}
use Rattle.batch.specs.declared.Batch.{Batch}
use Rattle.tally.specs.declared.Tally.{Tally}
use Rattle.tally.specs.Listed.{listed}
use Rattle.decide.specs.declared.Reply.{Reply}
use Rattle.decide.specs.declared.Scalars.{Scalars}
use Rattle.replica.specs.declared.Replica.{Replica}
use Rattle.replica.specs.Seen.{Handled}
use Rattle.replica.specs.declared.Entry.{Entry}
use Rattle.replica.specs.declared.Entry.TheVariants.{PrepareBal, AcceptData, CommitSlot}
use Rattle.replica.specs.declared.Done.{Done}
use Rattle.replica.specs.Record.{Outcome, kept, new_replica}
use Rattle.replica.specs.Step.{Call, call_prepare, call_prepare_reply, call_accept, call_accept_reply, call_commit_notice, call_timeout, call_logged, call_offer, call_executed, call_open_read, call_read_reply, step}
use Rattle.trace.specs.declared.Record.{Record}
use Rattle.trace.specs.Records.{keys_of, malformed, record_at, sum_right}

-- the batch that a record names
abbrev pub batch_of : Record → Batch
batch_of d = record { id = d.batch; count = d.count; keys = keys_of d }

-- the list of a read reply
abbrev pub tally_of : Record → Tally
tally_of d = listed d.count d.entries

-- "2 PrepareReply (sub 1 = voted)"
abbrev pub reply_of : Record → Reply
reply_of d =
    record {
      slot = d.slot;
      trigger = d.trigger;
      endprep = d.endprep;
      ballot = d.ballot;
      voted = (d.sub == 1);
      vote = record { ballot = d.voted; batch = batch_of d };
      bar = d.bar;
    }

-- "8 log done (sub 1 PrepareBal, 2 AcceptData, 3 CommitSlot; bar = now_size)"; 02, Wish 5: "in the trace it stands in the ballot field of kind 8"
abbrev pub entry_of : ℕ → Entry
entry_of sub = pick (sub == 1) PrepareBal (pick (sub == 2) AcceptData CommitSlot)

abbrev pub done_of : Record → Done
done_of d = record { entry = entry_of d.sub; slot = d.slot; ballot = d.ballot; size = d.bar }

-- "Kinds: .. 7 offer, 8 log done, 9 executed, 10 open read, 11 read reply": what no member of the group sends
unfoldable pub own_call_of : Record → Call
own_call_of d =
    pick (d.kind == 7) (call_offer (batch_of d))
    (pick (d.kind == 8) (call_logged (done_of d))
    (pick (d.kind == 9) (call_executed d.slot)
    (pick (d.kind == 10) (call_open_read d.slot d.count (keys_of d))
    (call_read_reply d.peer d.slot (d.sub == 1) (tally_of d)))))

-- "1 Prepare, 2 PrepareReply, 3 Accept, 4 AcceptReply, 5 CommitNotice, 6 timeout"
unfoldable pub call_of : Record → Call
call_of d =
    pick (d.kind == 1) (call_prepare d.peer d.trigger d.ballot)
    (pick (d.kind == 2) (call_prepare_reply d.peer (reply_of d))
    (pick (d.kind == 3) (call_accept d.peer d.slot d.ballot (batch_of d))
    (pick (d.kind == 4) (call_accept_reply d.peer d.slot d.ballot)
    (pick (d.kind == 5) (call_commit_notice d.peer d.ballot d.bar)
    (pick (d.kind == 6) (call_timeout d.peer)
    (own_call_of d))))))

-- "0 new (peer = id, sub = group, slot = start, trigger = 1 urgent + 2 disallow)"; "a refused kind 0 keeps the old one"; 02, Wish 6: a strict
-- replica has "4 more in trigger"
unfoldable pub renewed : Replica → Record → Outcome
renewed r d =
    pick ((new_replica d.peer d.sub d.slot d.trigger).answer == 0)
    (kept 0 (new_replica d.peer d.sub d.slot d.trigger).replica)
    (kept (new_replica d.peer d.sub d.slot d.trigger).answer r)

-- what a record that isn't malformed names
abbrev pub named : Replica → ℕ → Record → Outcome
named r room d = pick (d.kind == 0) (renewed r d) (step r room (call_of d))

-- 13: "prints 13, 0 actions and the replica's numbers unchanged"
unfoldable pub played : Replica → ℕ → Record → Bool → Outcome
played r room d right = pick (malformed d right) (kept 13 r) (pick (d.kind == 0) (renewed r d) (step r room (call_of d)))

-- the record that begins at a place of lent bytes, played; where there are not 256 bytes it is malformed: "short last record prints 13"
abbrev pub played_at : Replica → ℕ → List ℕ → ℕ → Outcome
played_at r room bytes at = played r room (record_at bytes at) (sum_right bytes at)

-- "Each record prints: number, answer, action count, bal_max_seen, accept_bar, commit_bar, exec_bar."
abbrev pub line_from : ℕ → ℕ → ℕ → Scalars → List ℕ
line_from n answer count sc = n ∷ answer ∷ count ∷ sc.bal_max_seen ∷ sc.accept_bar ∷ sc.commit_bar ∷ sc.exec_bar ∷ []

abbrev pub line_of : ℕ → Handled → List ℕ
line_of n h = line_from n h.answer h.count h.replica.sc
