-- A PrepareReply (000, messages.rs): as its vote's batch was made, whether it lies in the log, and a leader's own (002, durability.rs).
use Rattle.std.specs.Prelude.{Bool, ◌&&◌, ℕ, ◌+◌, ltb, leb}
use Rattle.batch.specs.declared.Batch.{Batch}
use Rattle.slots.specs.declared.Slot.{Slot}
use Rattle.decide.specs.declared.Scalars.{Scalars}
use Rattle.decide.specs.declared.Reply.{Reply}
use Rattle.decide.specs.Decide.{sent_vote}

-- the reply with the batch of its vote as it was made: its unused key numbers dropped
abbrev pub with_voted : Reply → Batch → Reply
with_voted m b =
    record {
      slot = m.slot;
      trigger = m.trigger;
      endprep = m.endprep;
      ballot = m.ballot;
      voted = m.voted;
      vote = record { ballot = m.vote.ballot; batch = b };
      bar = m.bar;
    }

-- 6: the slot lies from trigger to endprep, and the trigger in the log, by the log's start and length
abbrev pub in_log : ℕ → ℕ → Reply → Bool
in_log start len m = leb m.trigger m.slot && (leb m.slot m.endprep && (leb start m.trigger && ltb m.trigger (start + len)))

-- "on leader, finishing the logging of a PrepareBal entry is equivalent to receiving a Prepare reply from myself"
abbrev pub own_reply : Scalars → Slot → ℕ → Reply
own_reply sc s slot =
    record {
      slot = slot;
      trigger = s.leader.trigger;
      endprep = s.leader.endprep;
      ballot = s.ballot;
      voted = ltb 0 s.vote.ballot;
      vote = sent_vote s;
      bar = sc.accept_bar;
    }
