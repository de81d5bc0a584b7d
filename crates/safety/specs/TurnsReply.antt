-- 02, Wish 6, (d), of a PrepareReply, also a leader's own: what it makes of every slot, by place. Slots are appended at the ballot of the lead, which is above 0;
-- the rest changes slots mildly, and none is marked.
use Rattle.std.specs.Prelude.{◌≡◌, true, List, ℕ, ◌+◌, ◌≤◌, ◌<◌}
use Rattle.std.proofs.Common.{sym, arith}
use Rattle.actions.specs.Actions.{Act}
use Rattle.slots.specs.Slots.{entered_slot}
use Rattle.decide.specs.declared.Reply.{Reply}
use Rattle.decide.specs.Scalars.{leads, strict}
use Rattle.window.specs.Window.{slot_at}
use Rattle.window.specs.ByPlace.{at_place, at_past}
use Rattle.replica.specs.declared.Replica.{Replica}
use Rattle.replica.specs.Record.{place}
use Rattle.replica.specs.Messages.{appended_as}
use Rattle.laws.specs.Counts.{counted_long}
use Rattle.laws.specs.Appended.{appended_cases, appended_most}
use Rattle.laws.specs.WaysReply.{grown_window, reply_window, reply_slot, heard_window, trigger_slot, counted_window, Answers, reply_place}
use Rattle.voting.specs.Windows.{Whole}
use Rattle.voting.specs.Claims.{Claim}
use Rattle.voting.specs.Replying.{entered_window, ReplyWays}
use Rattle.safety.specs.TurnsSlots.{Fair, Fair-self, Fair-from, Fair-then, Fair-new, Mild-put, Mild-sweep, noted_mild, heard_mild, counted_mild, entered_mild}

-- of each place, where no slot is marked
abbrev pub Unmarked : Replica → Claim
Unmarked r a sc w acts = (i : ℕ) → Fair ⊥ acts (r.sc.start + i) (at_place r.window i) (at_place w i)

module _ (r : Replica) (peer : ℕ) (m : Reply) (h : Whole r.window) (n : r.window.len ≤ 64) (up : leads r.sc ≡ true → 0 < r.sc.bal_prep_sent) where
  appends : Answers r m → (acts : List Act) (i : ℕ) → Fair ⊥ acts (r.sc.start + i) (at_place r.window i) (at_place (grown_window r m) i)
  appends f acts i =
      appended_cases (Fair ⊥ acts (r.sc.start + i) (at_place r.window i)) r (place r.sc m.slot) (place r.sc m.trigger) i (omega (arith, reply_place r m f))
      (λ l. Fair-from (sym (at_past r.window i l))
      (Fair-new (appended_as r (place r.sc m.trigger)) (up f.leading) (omega arith)))
      (Fair-self (at_place r.window i))

  notes : Answers r m → (acts : List Act) (i : ℕ) → Fair ⊥ acts (r.sc.start + i) (at_place r.window i) (at_place (reply_window r peer m) i)
  notes f acts i =
      Fair-then (appends f acts i) (Mild-put (grown_window r m) (place r.sc m.slot) _ (noted_mild (strict r.sc) peer (slot_at (grown_window r m) (place r.sc m.slot))) i)

  hears : Answers r m → (acts : List Act) (i : ℕ) → Fair ⊥ acts (r.sc.start + i) (at_place r.window i) (at_place (heard_window r peer m) i)
  hears f acts i = Fair-then (notes f acts i) (Mild-put (reply_window r peer m) (place r.sc m.slot) _ (heard_mild (reply_slot r peer m) m) i)

  counts : Answers r m → (acts : List Act) (i : ℕ) → Fair ⊥ acts (r.sc.start + i) (at_place r.window i) (at_place (counted_window r peer m) i)
  counts f acts i = Fair-then (hears f acts i) (Mild-put (heard_window r peer m) (place r.sc m.trigger) _ (counted_mild peer (trigger_slot r peer m)) i)

  enters : Answers r m → (acts : List Act) (i : ℕ) → Fair ⊥ acts (r.sc.start + i) (at_place r.window i) (at_place (entered_window r peer m) i)
  enters f acts i =
      let long = appended_most r (place r.sc m.slot) (place r.sc m.trigger) 64 n (reply_place r m f) in
      Fair-then (counts f acts i)
      (Mild-sweep (λ k s. entered_slot (strict r.sc) m.ballot s) (place r.sc m.trigger) (counted_window r peer m).len (counted_window r peer m) (omega (arith, counted_long r peer m))
      (λ k _ _ _. entered_mild (strict r.sc) m.ballot (at_place (counted_window r peer m) k)) i)

  pub reply_turns : ReplyWays (Unmarked r) r peer m
  reply_turns = record { passed = λ f t. notes f _; heard = λ f t. hears f _; counted = λ f t. counts f _; entered = λ f t q. enters f _ }
