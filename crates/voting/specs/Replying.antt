-- The ways that a PrepareReply can go, also a leader's own, as a claim sees them.
use Rattle.std.specs.Prelude.{◌≡◌, true, false, ◌⊎◌, ℕ, ◌<◌}
use mathlib.Core.List.{List, ◌++◌}
use Rattle.std.proofs.Common.{inl, inr}
use Rattle.base.specs.Gather.{gather}
use Rattle.actions.specs.Actions.{Act}
use Rattle.slots.specs.Slots.{entered_slot}
use Rattle.decide.specs.declared.Scalars.{Scalars}
use Rattle.decide.specs.declared.Reply.{Reply}
use Rattle.decide.specs.Scalars.{strict, with_prepared}
use Rattle.decide.specs.Bars.{with_fallen}
use Rattle.decide.specs.Decide.{awaits_prepare}
use Rattle.window.specs.declared.Window.{Window}
use Rattle.window.specs.Window.{slot_at, sweep}
use Rattle.window.specs.Acts.{enter_acts}
use Rattle.replica.specs.declared.Replica.{Replica}
use Rattle.replica.specs.Record.{Outcome, place, number}
use Rattle.replica.specs.Messages.{append_acts, reply_on, clean_reply, prepare_reply_step}
use Rattle.laws.specs.Leaves.{done}
use Rattle.laws.specs.OfScalars.{fallen_ways}
use Rattle.laws.specs.WaysMessages.{KeepsFor, KeepsLowFor, keeping_low}
use Rattle.laws.specs.WaysReply.{reply_window, reply_slot, heard_window, counted_window, Answers, Heard, Unheard, FromPeer, counts_now, is_full, reply_on_ways, prepare_reply_step_ways}
use Rattle.voting.specs.Claims.{core, Claim, Of, fallen_way}

abbrev pub entered_window : Replica → ℕ → Reply → Window
entered_window r peer m = sweep (λ i s. entered_slot (strict r.sc) m.ballot s) (place r.sc m.trigger) (counted_window r peer m).len (counted_window r peer m)

abbrev pub enters_acts : Replica → ℕ → Reply → List Act
enters_acts r peer m =
    gather (λ i. enter_acts (number r.sc i) m.ballot (slot_at (counted_window r peer m) i)) (place r.sc m.trigger) (counted_window r peer m).len

abbrev pub reply_acts : Replica → Reply → List Act
reply_acts r m = append_acts r (place r.sc m.slot)

-- it is heard, and its sender counts
pub record Counts (r : Replica) (peer : ℕ) (m : Reply) : Type 0 where
  pub heard : Heard r peer m
  pub now : counts_now r peer m ≡ true

-- what is claimed of the four ways of acting: the slot does not wait for it; it is heard; its sender is counted; a majority is counted, and the slots enter Accept
module _ (P : Claim) (r : Replica) (peer : ℕ) (m : Reply) where
  pub record ReplyWays : Type 0 where
    pub passed : Answers r m → awaits_prepare (reply_slot r peer m) m.ballot ≡ false → P 0 (core r.sc) (reply_window r peer m) (reply_acts r m)
    pub heard : Answers r m → Heard r peer m → P 0 (core r.sc) (heard_window r peer m) (reply_acts r m)
    pub counted : Answers r m → Counts r peer m → P 0 (core r.sc) (counted_window r peer m) (reply_acts r m)
    pub entered : Answers r m → Counts r peer m → is_full r peer m ≡ true
        → P 0 (core (with_prepared r.sc m.ballot)) (entered_window r peer m) (reply_acts r m ++ enters_acts r peer m)

  -- whatever the outcome is wrapped in
  pub reply_way : (Q : Outcome → Type 0) → ((after : Replica) (acts : List Act) → Of P (done after acts) → Q (done after acts))
      → KeepsLowFor (Unheard r m) Q r → ReplyWays → Q (reply_on r peer m)
  unfolding Of
  reply_way Q on k h =
      reply_on_ways Q r peer m k (λ f t. on _ _ (tabled (h.passed f t))) (λ f t e. on _ _ (tabled (h.heard f t))) (λ f t e q. on _ _ (tabled (h.counted f (record { heard = t; now = e }))))
      (λ f t e q b. on _ _
      (fallen_ways
      (λ (x : Scalars). P 0 (core (with_prepared x m.ballot))
      (sweep (λ i s. entered_slot (strict x) m.ballot s) (place r.sc m.trigger) (counted_window r peer m).len (counted_window r peer m))
      (reply_acts r m ++ gather (λ i. enter_acts (number x i) m.ballot (slot_at (counted_window r peer m) i)) (place r.sc m.trigger) (counted_window r peer m).len))
      r.sc r.bars peer m.bar (h.entered f (record { heard = t; now = e }) q) (λ max. h.entered f (record { heard = t; now = e }) q)))
    where
      tabled : {w : Window} {acts : List Act} → P 0 (core r.sc) w acts → P 0 (core (with_fallen r.sc r.bars peer m.bar)) w acts
      tabled p = fallen_way P r.sc r.bars peer m.bar p

pub prepare_reply_way : (P : Claim) (r : Replica) (room peer : ℕ) (m : Reply) → KeepsFor ((m.slot < r.sc.start) ⊎ Unheard r (clean_reply m)) (Of P) r
    → (FromPeer r peer m → ReplyWays P r peer (clean_reply m)) → Of P (prepare_reply_step r room peer m)
prepare_reply_way P r room peer m k h =
    prepare_reply_step_ways (Of P) r room peer m (λ a l u. k a l (λ z. inl (u z)))
    (λ f. reply_way P r peer (clean_reply m) (Of P) (λ after acts p. p) (λ a l u. k a (keeping_low r a l) (λ z. inr (u z))) (h f))

pub map_reply : (P Q : Claim) (r : Replica) (peer : ℕ) (m : Reply) → ((a : ℕ) (sc : Scalars) (w : Window) (acts : List Act) → P a sc w acts → Q a sc w acts)
    → ReplyWays P r peer m → ReplyWays Q r peer m
map_reply P Q r peer m f h =
    record {
      passed = λ x t. f _ _ _ _ (h.passed x t);
      heard = λ x t. f _ _ _ _ (h.heard x t);
      counted = λ x t. f _ _ _ _ (h.counted x t);
      entered = λ x t q. f _ _ _ _ (h.entered x t q);
    }
