-- Laws of one slot: what makes it fit, and that every change keeps it so.
use Rattle.std.specs.Prelude.{◌≡◌, refl, Bool, true, false, ◌||◌, ℕ, ◌≤◌, ◌<◌, ltb, leb, eqb}
use Rattle.std.proofs.Math.Path.{sym}
use Rattle.std.proofs.Common.{◌∙◌, arith}
use Rattle.std.proofs.Math.Bool.{and-false}
use borrow.Author.Tests.{le-leb, lt-leb, leb-true}
use Rattle.base.specs.Pick.{pick_both, and_left, and_right, and_make}
use Rattle.members.specs.Sets.{fits_group}
use Rattle.members.specs.Laws.{within_none, within_insert}
use Rattle.batch.specs.declared.Batch.{Batch}
use Rattle.slots.specs.declared.Vote.{Vote}
use Rattle.slots.specs.declared.ReplicaBook.{ReplicaBook}
use Rattle.slots.specs.declared.Slot.{Slot}
use Rattle.slots.specs.Slots.{preparing, accepting, committed, executed, null_slot, new_book, with_state, with_external, with_offset, fit_slot}
use Rattle.slots.specs.Slots.{prepared_slot, redone_slot, appended_slot, adopted_slot, noted_slot, counted_slot, own_voted, entered_slot, accepted_slot, acknowledged_slot, committed_slot}
use Rattle.slots.specs.Slots.{marked_slot, passed_slot, executed_slot, logged_slot, offered_slot}

-- ── a slot that is fit, by its parts ──
pub record Fit (group : ℕ) (s : Slot) : Type 0 where
  pub batch : s.batch.count ≤ 8
  pub vote : s.vote.batch.count ≤ 8
  pub prepare : fits_group s.leader.prepare_acks group ≡ true
  pub accept : fits_group s.leader.accept_acks group ≡ true
  pub notes : fits_group s.leader.notes group ≡ true

pub Fit-parts : (group : ℕ) (s : Slot) → fit_slot group s ≡ true → Fit group s
unfolding fit_slot
Fit-parts group s e =
    let rest = and_right (leb s.batch.count 8) _ e in
    let sets = and_right (leb s.vote.batch.count 8) _ rest in
    let two = and_right (fits_group s.leader.prepare_acks group) _ sets in
    record {
      batch = leb-true _ 8 (and_left (leb s.batch.count 8) _ e);
      vote = leb-true _ 8 (and_left (leb s.vote.batch.count 8) _ rest);
      prepare = and_left (fits_group s.leader.prepare_acks group) _ sets;
      accept = and_left (fits_group s.leader.accept_acks group) _ two;
      notes = and_right (fits_group s.leader.accept_acks group) _ two;
    }

pub Fit-made : (group : ℕ) (s : Slot) → Fit group s → fit_slot group s ≡ true
unfolding fit_slot
Fit-made group s f =
    and_make (le-leb _ 8 f.batch) (and_make (le-leb _ 8 f.vote) (and_make f.prepare (and_make f.accept f.notes)))

-- ── the test, in the code's order ──
pub unfit_batch : (group : ℕ) (s : Slot) → 8 < s.batch.count → fit_slot group s ≡ false
unfolding fit_slot
unfit_batch group s h = rw (lt-leb _ 8 h)

pub unfit_vote : (group : ℕ) (s : Slot) → 8 < s.vote.batch.count → fit_slot group s ≡ false
unfolding fit_slot
unfit_vote group s h = rw (lt-leb _ 8 h, and-false)

pub unfit_prepare : (group : ℕ) (s : Slot) (t : Bool) → t ≡ fits_group s.leader.prepare_acks group → t ≡ false → fit_slot group s ≡ false
unfolding fit_slot
unfit_prepare group s t e f = rw (sym e ∙ f, and-false (leb s.vote.batch.count 8), and-false (leb s.batch.count 8))

module _ (group : ℕ) (s : Slot) (t u : Bool) (b : s.batch.count ≤ 8) (v : s.vote.batch.count ≤ 8) (e : t ≡ fits_group s.leader.prepare_acks group) (f : t ≡ true) (g : u ≡ fits_group s.leader.accept_acks group) where
  pub unfit_accept : u ≡ false → fit_slot group s ≡ false
  unfolding fit_slot
  unfit_accept h = rw (le-leb _ 8 b, le-leb _ 8 v, sym e ∙ f, sym g ∙ h)

  pub fit_rest : (n : Bool) → u ≡ true → n ≡ fits_group s.leader.notes group → n ≡ fit_slot group s
  unfolding fit_slot
  fit_rest n h q = rw (le-leb _ 8 b, le-leb _ 8 v, sym e ∙ f, sym g ∙ h) q

-- ── each change keeps a slot fit ──
module _ (group : ℕ) where
  abbrev IsFit : Slot → Type 0
  IsFit s = fit_slot group s ≡ true

  -- the parts that fitness looks at are kept: whatever else changes
  fit_like : (s t : Slot) → fit_slot group s ≡ true
      → t.batch.count ≡ s.batch.count → t.vote.batch.count ≡ s.vote.batch.count
      → t.leader ≡ s.leader
      → fit_slot group t ≡ true
  unfolding fit_slot
  fit_like s t e b v k = rw (b, v, k) e

  pub fit_null : fit_slot group null_slot ≡ true
  fit_null = Fit-made group null_slot (record { batch = omega arith; vote = omega arith; prepare = within_none group; accept = within_none group; notes = within_none group })

  -- the leader's own vote is for the slot's batch
  fit_own : (strict : Bool) (ballot : ℕ) (s : Slot) → fit_slot group s ≡ true → fit_slot group (own_voted strict ballot s) ≡ true
  fit_own strict ballot s f =
      let p = Fit-parts group s f in
      Fit-made group _
      (record { batch = p.batch; vote = pick_both (λ (v : Vote). v.batch.count ≤ 8) strict p.batch p.vote; prepare = p.prepare; accept = p.accept; notes = p.notes })

  -- a batch that comes in has at most eight keys
  pub fit_offered : (strict : Bool) (ballot : ℕ) (b : Batch) → b.count ≤ 8 → fit_slot group (offered_slot strict ballot b) ≡ true
  fit_offered strict ballot b h =
      fit_own strict ballot (offered_slot false ballot b)
      (Fit-made group (offered_slot false ballot b) (record { batch = h; vote = omega arith; prepare = within_none group; accept = within_none group; notes = within_none group }))

  module _ (s : Slot) (f : fit_slot group s ≡ true) where
    -- only the ballot, the status, the follower's book, the mark of an outside batch or the offset changes
    pub fit_prepared : (strict : Bool) (ballot : ℕ) (book : ReplicaBook) → fit_slot group (prepared_slot strict ballot book s) ≡ true
    fit_prepared strict ballot book = fit_like s (prepared_slot strict ballot book s) f refl refl refl

    fit_state : (status : ℕ) → fit_slot group (with_state s s.ballot status) ≡ true
    fit_state status = fit_like s (with_state s s.ballot status) f refl refl refl

    pub fit_entered : (strict : Bool) (ballot : ℕ) → fit_slot group (entered_slot strict ballot s) ≡ true
    fit_entered strict ballot = pick_both IsFit (eqb s.status preparing) (fit_own strict ballot (with_state s s.ballot accepting) (fit_state accepting)) f

    pub fit_committed : fit_slot group (committed_slot s) ≡ true
    fit_committed = fit_state committed

    pub fit_marked : fit_slot group (marked_slot s) ≡ true
    fit_marked = pick_both IsFit (leb committed s.status) f fit_committed

    pub fit_passed : fit_slot group (passed_slot s) ≡ true
    fit_passed = pick_both IsFit (eqb s.batch.id 0) (fit_state executed) f

    pub fit_executed : fit_slot group (executed_slot s) ≡ true
    fit_executed = pick_both IsFit (eqb s.status committed) (fit_state executed) f

    pub fit_logged : (offset : ℕ) → fit_slot group (logged_slot offset s) ≡ true
    fit_logged offset = pick_both IsFit (eqb s.wal_offset 0 || ltb offset s.wal_offset) (fit_like s (with_offset s offset) f refl refl refl) f

    -- a leader's new book has empty sets
    pub fit_redone : (ballot trigger endprep : ℕ) → fit_slot group (redone_slot ballot (new_book trigger endprep) s) ≡ true
    fit_redone ballot trigger endprep =
        pick_both IsFit (leb executed s.status) f
        (pick_both IsFit (leb committed s.status) (fit_like s (with_external s) f refl refl refl)
        (Fit-made group _ (record { batch = (Fit-parts group s f).batch; vote = (Fit-parts group s f).vote; prepare = within_none group; accept = within_none group; notes = within_none group })))

    -- a member of the group comes in
    pub fit_counted : (peer : ℕ) → peer < group → fit_slot group (counted_slot peer s) ≡ true
    fit_counted peer h =
        let p = Fit-parts group s f in
        Fit-made group (counted_slot peer s)
        (record { batch = p.batch; vote = p.vote; prepare = within_insert s.leader.prepare_acks group peer p.prepare h; accept = p.accept; notes = p.notes })

    pub fit_noted : (strict : Bool) (peer : ℕ) → peer < group → fit_slot group (noted_slot strict peer s) ≡ true
    fit_noted strict peer h =
        let p = Fit-parts group s f in
        Fit-made group _
        (record {
          batch = p.batch;
          vote = p.vote;
          prepare = p.prepare;
          accept = p.accept;
          notes = pick_both (λ (n : ℕ). fits_group n group ≡ true) strict (within_insert s.leader.notes group peer p.notes h) p.notes;
        })

    pub fit_acknowledged : (peer : ℕ) → peer < group → fit_slot group (acknowledged_slot peer s) ≡ true
    fit_acknowledged peer h =
        let p = Fit-parts group s f in
        Fit-made group (acknowledged_slot peer s)
        (record { batch = p.batch; vote = p.vote; prepare = p.prepare; accept = within_insert s.leader.accept_acks group peer p.accept h; notes = p.notes })

    -- a batch of at most eight keys comes in
    pub fit_adopted : (v : Vote) → v.batch.count ≤ 8 → fit_slot group (adopted_slot v s) ≡ true
    fit_adopted v h =
        let p = Fit-parts group s f in
        Fit-made group (adopted_slot v s) (record { batch = h; vote = p.vote; prepare = p.prepare; accept = p.accept; notes = p.notes })

    pub fit_accepted : (strict : Bool) (peer ballot : ℕ) (b : Batch) → b.count ≤ 8 → fit_slot group (accepted_slot strict peer ballot b s) ≡ true
    fit_accepted strict peer ballot b h =
        let p = Fit-parts group s f in
        Fit-made group (accepted_slot strict peer ballot b s) (record { batch = h; vote = h; prepare = p.prepare; accept = p.accept; notes = p.notes })

  pub fit_appended : (ballot trigger endprep : ℕ) → fit_slot group (appended_slot ballot (new_book trigger endprep)) ≡ true
  fit_appended ballot trigger endprep = fit_redone null_slot fit_null ballot trigger endprep
