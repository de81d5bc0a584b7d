-- A sound scene stays sound: whatever keeps to the strict frame, at a present member, with what the scene may bring it.
use Rattle.std.specs.Prelude.{◌≡◌, Bool, true, ℕ, ◌≤◌}
use Rattle.std.proofs.Common.{◌∙◌, arith}
use Rattle.members.specs.Sets.{has}
use Rattle.slots.specs.declared.Vote.{Vote}
use Rattle.safety.specs.Sight.{acks}
use Rattle.safety.specs.Scene.{Scene, Lasts, Fixed, completions, each}
use Rattle.safety.specs.Rows.{Leading, Sound}
use Rattle.safety.specs.Growth.{Leading-ext, Fixed-ext}
use Rattle.safety.specs.Moves.{Move, next, ext}
use Rattle.safety.specs.Telling.{Told-step, took_step}
use Rattle.safety.specs.LeadingOn.{lead_step}
use Rattle.safety.specs.Choosing.{from_step, Obeys-step, Alone-next, nothing_next}
use Rattle.safety.specs.Learning.{acked_step, done_step, notice_step, executed_in_step}

module _ {size : ℕ} {present : ℕ → Bool} {g : Scene} (t : Move size present g) where
  sized_step : (m : ℕ) → present m ≡ true → ((next t).sight m).group ≡ size
  sized_step m =
      each g t.who t.after t.acts (completions t.call) (λ j v h l r. present j ≡ true → v.group ≡ size) m (λ _. t.sound.sized m)
      (λ p. t.frame.group ∙ t.sound.sized t.who p)

  leads_step : (m : ℕ) → present m ≡ true → ((next t).sight m).leading ≡ true → Leading (next t) ((next t).sight m)
  leads_step m =
      each g t.who t.after t.acts (completions t.call) (λ j v h l r. present j ≡ true → v.leading ≡ true → Leading (next t) v) m
      (λ _ p z. Leading-ext (ext t) (g.sight m) (t.sound.lead m p z)) (λ _. lead_step t)

  acks_step : (m : ℕ) → present m ≡ true → ((next t).sight m).leading ≡ true → (s p : ℕ) → (((next t).sight m).slot s).ballot ≡ ((next t).sight m).sent
      → has (acks (((next t).sight m).slot s)) p ≡ true → (x : Vote) × (x.ballot ≡ (((next t).sight m).slot s).ballot) × Lasts (next t) s p x
  acks_step m =
      each g t.who t.after t.acts (completions t.call)
      (λ j v h l r. present j ≡ true → v.leading ≡ true → (s p : ℕ) → (v.slot s).ballot ≡ v.sent → has (acks (v.slot s)) p ≡ true → (x : Vote) × (x.ballot ≡ (v.slot s).ballot) × Lasts (next t) s p x) m
      (λ _ q z s p e h. (let (x, b, y) = t.sound.acked m q z s p e h in (x, b, (ext t).lasting p s x y))) (λ _. acked_step t)

  dones_step : (m : ℕ) → present m ≡ true → (s : ℕ) → 3 ≤ (((next t).sight m).slot s).status → Fixed size (next t) s (((next t).sight m).slot s).ballot (((next t).sight m).slot s).batch
  dones_step m =
      each g t.who t.after t.acts (completions t.call)
      (λ j v h l r. present j ≡ true → (s : ℕ) → 3 ≤ (v.slot s).status → Fixed size (next t) s (v.slot s).ballot (v.slot s).batch) m
      (λ _ p s z. Fixed-ext (ext t) size s _ _ _ (omega arith) (t.sound.done m p s z)) (λ _. done_step t)

  pub Sound-step : Sound size present (next t)
  Sound-step =
      record {
        alone = Alone-next t;
        sized = sized_step;
        nothing = nothing_next t;
        from = from_step t;
        told = Told-step t;
        took = took_step t;
        lead = leads_step;
        acked = acks_step;
        obeys = Obeys-step t;
        notice = notice_step t;
        executed = executed_in_step t;
        done = dones_step;
      }
