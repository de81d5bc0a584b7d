-- What a call that acts leaves behind, by name, and the ways that `settled`, `noting` and `or_kept` go.
use Rattle.std.specs.Prelude.{◌≡◌, refl, Bool, not, ◌&&◌, List, [], ℕ, eqb}
use Rattle.std.proofs.Common.{ap, eqb-true}
use Rattle.std.proofs.Math.Bool.{true, false}
use Rattle.std.proofs.lemmas.List.{set-get_or}
use Rattle.std.proofs.lemmas.Bool.{eqb-false, not-false}
use Rattle.base.specs.Pick.{pick, pick_cases}
use Rattle.batch.specs.declared.Batch.{Batch}
use Rattle.batch.specs.declared.KeyTable.{KeyTable}
use Rattle.batch.specs.Keys.{refresh, overfull}
use Rattle.actions.specs.Actions.{Act}
use Rattle.slots.specs.declared.Slot.{Slot}
use Rattle.slots.specs.Slots.{no_slot}
use Rattle.decide.specs.Decide.{Decided}
use Rattle.decide.specs.Decide.{silent}
use Rattle.window.specs.declared.Window.{Window}
use Rattle.window.specs.Window.{slot_at, put_slot}
use Rattle.replica.specs.declared.Replica.{Replica}
use Rattle.replica.specs.Record.{Outcome, kept, noting, settled, with_window}
use Rattle.replica.specs.Messages.{or_kept}

-- a call that acts answers 0
abbrev pub done : Replica → List Act → Outcome
done r acts = record { answer = 0; replica = r; actions = acts }

-- the key table after a call that notes a batch, or does not
abbrev pub keys_after : Bool → ℕ → Batch → KeyTable → KeyTable
keys_after noted slot b t = pick noted (refresh slot b t) t

abbrev pub with_keys : Replica → KeyTable → Replica
with_keys r t = record { sc = r.sc; bars = r.bars; window = r.window; keys = t; reads = r.reads; summary = r.summary }

-- what was decided for a slot, carried out
abbrev pub settled_to : Replica → Window → ℕ → ℕ → Decided → Replica
settled_to r w i slot d = with_keys (with_window r d.sc (put_slot w i d.slot)) (keys_after d.noted slot d.slot.batch r.keys)

module _ (P : Outcome → Type 0) (r : Replica) where
  pub noting_ways : (noted : Bool) (slot : ℕ) (b : Batch) (after : Replica) (acts : List Act) → after.keys ≡ r.keys → P (kept 7 r)
      → ((noted && overfull r.keys b) ≡ false → P (done (with_keys after (keys_after noted slot b r.keys)) acts))
      → P (noting r noted slot b (done after acts))
  unfolding noting
  noting_ways true slot b after acts e seven on = pick_cases P (overfull r.keys b) (λ t. seven) (λ t. on t)
  noting_ways false slot b after acts e seven on = rw (← e) at (on refl)

  -- a refusal is noted by nobody
  pub noting_refused : (noted : Bool) (slot : ℕ) (b : Batch) (a : ℕ) (other : Replica) → (a ≡ 0 → ⊥) → P (kept a other) → P (noting r noted slot b (kept a other))
  unfolding noting
  noting_refused true slot b a other n p = pick_cases P (not (eqb a 0)) (λ t. p) (λ t. absurd (n (eqb-true a 0 (not-false _ t))))
  noting_refused false slot b a other n p = p

  -- a refusal of a part is a refusal of the whole; a part that does nothing leaves what was done before it
  pub or_kept_ways : (a : ℕ) (part : Replica) → (a ≡ 0 → P (done part [])) → ((a ≡ 0 → ⊥) → P (kept a r)) → P (or_kept r (kept a part))
  or_kept_ways a part p refused =
      pick_cases P (eqb a 0) (λ t. rw (eqb-true a 0 t) (p (eqb-true a 0 t))) (λ t. refused (eqb-false a 0 t))

-- a slot put back where it stood
pub put_back : (w : Window) (i : ℕ) → put_slot w i (slot_at w i) ≡ w
put_back w i = ap (λ (l : List Slot). record { len = w.len; slots = l }) (set-get_or w.slots i no_slot)

-- nothing decided, nothing done
pub settled-silent : (r : Replica) (i slot : ℕ) → settled r r.window i slot (silent 0 r.sc (slot_at r.window i)) ≡ kept 0 r
unfolding settled noting
settled-silent r i slot = ap (λ (w : Window). kept 0 (with_window r r.sc w)) (put_back r.window i)
