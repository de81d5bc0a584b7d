-- Every change of one slot, and of a window, keeps it good.
use Rattle.std.specs.Prelude.{◌≡◌, Bool, true, false, ◌||◌, ℕ, ◌≤◌, ◌<◌, ltb, leb, eqb}
use Rattle.std.proofs.Math.Path.{refl}
use Rattle.std.proofs.Common.{◌∙◌, arith}
use borrow.Author.Tests.{leb-true}
use Rattle.base.specs.Pick.{pick_cases, pick_both, and_left}
use Rattle.members.specs.Laws.{within_none, within_insert}
use Rattle.members.specs.Sets.{fits_group}
use Rattle.batch.specs.declared.Batch.{Batch}
use Rattle.batch.specs.Batches.{empty_batch, is_batch, make_batch}
use Rattle.slots.specs.declared.Vote.{Vote}
use Rattle.slots.specs.declared.ReplicaBook.{ReplicaBook}
use Rattle.slots.specs.declared.Slot.{Slot}
use Rattle.slots.specs.Slots.{null_slot, no_slot, new_book, with_state, prepared_slot, redone_slot, noted_slot, counted_slot, own_voted, entered_slot, accepted_slot, acknowledged_slot, committed_slot, marked_slot, passed_slot, executed_slot, logged_slot, offered_slot}
use Rattle.decide.specs.declared.Reply.{Reply}
use Rattle.decide.specs.Decide.{sent_vote}
use Rattle.window.specs.declared.Window.{Window}
use Rattle.window.specs.Window.{slot_at, put_slot, grown, sweep}
use Rattle.window.specs.Places.{size, put_long, put_each, filled_long, filled_most, filled_each, sweep_long, sweep_each}
use Rattle.replica.specs.declared.Replica.{Replica}
use Rattle.replica.specs.Messages.{clean, appended}
use Rattle.laws.specs.WaysReply.{adopts_vote, heard_slot}
use Rattle.laws.specs.Good.{GoodBatch, GoodSlot, GoodWindow}
use Rattle.laws.specs.Appended.{appended_long, appended_most, appended_each}

module _ (Z : Type 0) where
  good_empty : GoodBatch Z empty_batch
  good_empty = record { few = omega arith; eight = λ z. refl }

  -- a batch as a message names it has at most 8 keys, in a list of eight
  pub good_clean : (b : Batch) → GoodBatch Z (clean b)
  unfolding make_batch
  good_clean b =
      pick_cases (λ (m : Rattle.batch.specs.Batches.Made). GoodBatch Z m.batch) (is_batch b.id b.count)
      (λ t. record { few = leb-true _ _ (and_left (leb b.count 8) _ t); eight = λ z. refl }) (λ t. good_empty)

module _ (Z : Type 0) (group : ℕ) where
  pub good_null : GoodSlot Z group null_slot
  good_null = record { batch = good_empty Z; vote = good_empty Z; prepares = within_none group; accepts = within_none group; notes = within_none group }

  pub good_prepared : (strict : Bool) (ballot : ℕ) (book : ReplicaBook) (s : Slot) → GoodSlot Z group s → GoodSlot Z group (prepared_slot strict ballot book s)
  good_prepared strict ballot book s g = record { batch = g.batch; vote = g.vote; prepares = g.prepares; accepts = g.accepts; notes = g.notes }

  pub good_redone : (ballot trigger endprep : ℕ) (s : Slot) → GoodSlot Z group s → GoodSlot Z group (redone_slot ballot (new_book trigger endprep) s)
  good_redone ballot trigger endprep s g =
      pick_both (GoodSlot Z group) (leb 4 s.status) g
      (pick_both (GoodSlot Z group) (leb 3 s.status) (record { batch = g.batch; vote = g.vote; prepares = g.prepares; accepts = g.accepts; notes = g.notes })
      (record { batch = g.batch; vote = g.vote; prepares = within_none group; accepts = within_none group; notes = within_none group }))

  pub good_heard : (s : Slot) (m : Reply) → GoodBatch Z m.vote.batch → GoodSlot Z group s → GoodSlot Z group (heard_slot s m)
  good_heard s m b g =
      pick_both (GoodSlot Z group) (adopts_vote s m) (record { batch = b; vote = g.vote; prepares = g.prepares; accepts = g.accepts; notes = g.notes }) g

  pub good_counted : (peer : ℕ) (s : Slot) → peer < group → GoodSlot Z group s → GoodSlot Z group (counted_slot peer s)
  good_counted peer s h g =
      record { batch = g.batch; vote = g.vote; prepares = within_insert s.leader.prepare_acks group peer g.prepares h; accepts = g.accepts; notes = g.notes }

  -- the leader's own vote is for the slot's batch
  good_own : (strict : Bool) (ballot : ℕ) (s : Slot) → GoodSlot Z group s → GoodSlot Z group (own_voted strict ballot s)
  good_own strict ballot s g =
      record { batch = g.batch; vote = pick_both (λ (v : Vote). GoodBatch Z v.batch) strict g.batch g.vote; prepares = g.prepares; accepts = g.accepts; notes = g.notes }

  pub good_noted : (strict : Bool) (peer : ℕ) (s : Slot) → peer < group → GoodSlot Z group s → GoodSlot Z group (noted_slot strict peer s)
  good_noted strict peer s h g =
      record {
        batch = g.batch;
        vote = g.vote;
        prepares = g.prepares;
        accepts = g.accepts;
        notes = pick_both (λ (n : ℕ). fits_group n group ≡ true) strict (within_insert s.leader.notes group peer g.notes h) g.notes;
      }

  pub good_entered : (strict : Bool) (ballot : ℕ) (s : Slot) → GoodSlot Z group s → GoodSlot Z group (entered_slot strict ballot s)
  good_entered strict ballot s g =
      pick_both (GoodSlot Z group) (eqb s.status 1) (good_own strict ballot (with_state s s.ballot 2) (record { batch = g.batch; vote = g.vote; prepares = g.prepares; accepts = g.accepts; notes = g.notes })) g

  pub good_accepted : (strict : Bool) (peer ballot : ℕ) (b : Batch) (s : Slot) → GoodBatch Z b → GoodSlot Z group s → GoodSlot Z group (accepted_slot strict peer ballot b s)
  good_accepted strict peer ballot b s c g = record { batch = c; vote = c; prepares = g.prepares; accepts = g.accepts; notes = g.notes }

  pub good_acknowledged : (peer : ℕ) (s : Slot) → peer < group → GoodSlot Z group s → GoodSlot Z group (acknowledged_slot peer s)
  good_acknowledged peer s h g =
      record { batch = g.batch; vote = g.vote; prepares = g.prepares; accepts = within_insert s.leader.accept_acks group peer g.accepts h; notes = g.notes }

  pub good_committed : (s : Slot) → GoodSlot Z group s → GoodSlot Z group (committed_slot s)
  good_committed s g = record { batch = g.batch; vote = g.vote; prepares = g.prepares; accepts = g.accepts; notes = g.notes }

  pub good_marked : (s : Slot) → GoodSlot Z group s → GoodSlot Z group (marked_slot s)
  good_marked s g = pick_both (GoodSlot Z group) (leb 3 s.status) g (good_committed s g)

  pub good_passed : (s : Slot) → GoodSlot Z group s → GoodSlot Z group (passed_slot s)
  good_passed s g =
      pick_both (GoodSlot Z group) (eqb s.batch.id 0) (record { batch = g.batch; vote = g.vote; prepares = g.prepares; accepts = g.accepts; notes = g.notes }) g

  pub good_executed : (s : Slot) → GoodSlot Z group s → GoodSlot Z group (executed_slot s)
  good_executed s g =
      pick_both (GoodSlot Z group) (eqb s.status 3) (record { batch = g.batch; vote = g.vote; prepares = g.prepares; accepts = g.accepts; notes = g.notes }) g

  pub good_logged : (offset : ℕ) (s : Slot) → GoodSlot Z group s → GoodSlot Z group (logged_slot offset s)
  good_logged offset s g =
      pick_both (GoodSlot Z group) (eqb s.wal_offset 0 || ltb offset s.wal_offset)
      (record { batch = g.batch; vote = g.vote; prepares = g.prepares; accepts = g.accepts; notes = g.notes }) g

  pub good_offered : (strict : Bool) (ballot : ℕ) (b : Batch) → GoodBatch Z b → GoodSlot Z group (offered_slot strict ballot b)
  good_offered strict ballot b c = good_own strict ballot (offered_slot false ballot b) (record { batch = c; vote = good_empty Z; prepares = within_none group; accepts = within_none group; notes = within_none group })

  -- the vote that a slot sends
  pub good_sent : (s : Slot) → GoodSlot Z group s → GoodBatch Z (sent_vote s).batch
  good_sent s g = pick_both (λ (v : Vote). GoodBatch Z v.batch) (ltb 0 s.vote.ballot) g.vote (good_empty Z)

  -- what a place past the list's end reads
  good_past : (w : Window) (j : ℕ) → (Z → size w ≡ 64) → j < 64 → size w ≤ j → GoodSlot Z group no_slot
  good_past w j long h past =
      record {
        batch = record { few = omega arith; eight = λ z. absurd (omega (arith, long z)) };
        vote = record { few = omega arith; eight = λ z. absurd (omega (arith, long z)) };
        prepares = within_none group;
        accepts = within_none group;
        notes = within_none group;
      }

  -- ── windows ──
  pub good_put : (w : Window) (i : ℕ) (s : Slot) → GoodSlot Z group s → GoodWindow Z group w → GoodWindow Z group (put_slot w i s)
  good_put w i s p g =
      record { room = g.room; long = λ z. put_long w i s ∙ g.long z; each = λ j l. put_each w i s (GoodSlot Z group) j (λ e. p) (g.each j l) }

  pub good_grown : (w : Window) (n : ℕ) → n ≤ 64 → GoodWindow Z group w → GoodWindow Z group (grown w n)
  good_grown w n h g =
      record {
        room = filled_most null_slot w n 64 g.room h;
        long = λ z. filled_long null_slot w n ∙ g.long z;
        each = λ j l. filled_each null_slot w n (GoodSlot Z group) j l (g.each j) good_null (good_past w j g.long (omega (arith, filled_most null_slot w n 64 g.room h)));
      }

  pub good_sweep : (f : ℕ → Slot → Slot) (from to : ℕ) (w : Window) → ((i : ℕ) (s : Slot) → GoodSlot Z group s → GoodSlot Z group (f i s)) → GoodWindow Z group w
      → GoodWindow Z group (sweep f from to w)
  good_sweep f from to w h g =
      record {
        room = g.room;
        long = λ z. sweep_long f from to w ∙ g.long z;
        each = λ j l.
            sweep_each f from to w (GoodSlot Z group) j (g.each j l) (λ a b p. h j (slot_at w j) p) (good_past w j g.long (omega (arith, g.room)));
      }

  pub good_appended : (r : Replica) (i j : ℕ) → i < 64 → GoodWindow Z group r.window → GoodWindow Z group (appended r i j)
  good_appended r i j h g =
      record {
        room = appended_most r i j 64 g.room h;
        long = λ z. appended_long r i j ∙ g.long z;
        each = λ k l.
            appended_each r i j (GoodSlot Z group) k l (g.each k) (good_redone r.sc.bal_prep_sent _ _ null_slot good_null)
            (good_past r.window k g.long (omega (arith, appended_most r i j 64 g.room h)));
      }
