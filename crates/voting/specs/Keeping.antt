-- What a change of a slot keeps, where p does not look at what it changes.
use Rattle.std.specs.Prelude.{◌≡◌, refl, Bool, ◌||◌, ℕ, ltb, leb, eqb}
use Rattle.std.proofs.Common.{◌∙◌}
use Rattle.base.specs.Pick.{pick_both}
use Rattle.slots.specs.declared.Slot.{Slot}
use Rattle.slots.specs.Slots.{with_state, with_offset, committed, preparing, own_voted, entered_slot, marked_slot, passed_slot, executed_slot, logged_slot, adopted_slot}
use Rattle.decide.specs.declared.Reply.{Reply}
use Rattle.laws.specs.WaysReply.{adopts_vote, heard_slot}

module _ {A : Type 0} (p : Slot → A) where
  -- another status
  module _ (e : (s : Slot) (status : ℕ) → p (with_state s s.ballot status) ≡ p s) where
    -- and, by a strict leader, another vote
    pub entered_keeps : (strict : Bool) (ballot : ℕ) → ((s : Slot) → p (own_voted strict ballot s) ≡ p s) → (s : Slot) → p (entered_slot strict ballot s) ≡ p s
    entered_keeps strict ballot o s = pick_both (λ (x : Slot). p x ≡ p s) (eqb s.status preparing) (o (with_state s s.ballot 2) ∙ e s 2) refl

    pub marked_keeps : (s : Slot) → p (marked_slot s) ≡ p s
    marked_keeps s = pick_both (λ (x : Slot). p x ≡ p s) (leb committed s.status) refl (e s 3)

    pub passed_keeps : (s : Slot) → p (passed_slot s) ≡ p s
    passed_keeps s = pick_both (λ (x : Slot). p x ≡ p s) (eqb s.batch.id 0) (e s 4) refl

    pub executed_keeps : (s : Slot) → p (executed_slot s) ≡ p s
    executed_keeps s = pick_both (λ (x : Slot). p x ≡ p s) (eqb s.status committed) (e s 4) refl

  -- another offset
  pub logged_keeps : ((s : Slot) (offset : ℕ) → p (with_offset s offset) ≡ p s) → (offset : ℕ) (s : Slot) → p (logged_slot offset s) ≡ p s
  logged_keeps e offset s = pick_both (λ (x : Slot). p x ≡ p s) (eqb s.wal_offset 0 || ltb offset s.wal_offset) (e s offset) refl

  -- a vote heard
  pub heard_keeps : (s : Slot) (m : Reply) → p (adopted_slot m.vote s) ≡ p s → p (heard_slot s m) ≡ p s
  heard_keeps s m e = pick_both (λ (x : Slot). p x ≡ p s) (adopts_vote s m) e refl
