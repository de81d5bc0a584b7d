-- What a PrepareReply says, also a leader's own: prepare entries of the slots that it appends, at the ballot led by, and accept entries.
use Rattle.std.specs.Prelude.{◌≡◌, refl, true, List, [], ◌∷◌, ℕ, ◌+◌, ◌≤◌, ◌<◌, eqb}
use Rattle.std.proofs.Common.{ap, ◌∙◌, arith}
use Rattle.base.specs.Pick.{pick_both, clash}
use Rattle.base.specs.Among.{All, All-append}
use Rattle.base.specs.Gather.{gather, All-gather}
use Rattle.actions.specs.Actions.{Act}
use Rattle.slots.specs.declared.Slot.{Slot}
use Rattle.slots.specs.Slots.{preparing, entered_slot}
use Rattle.decide.specs.declared.Scalars.{Scalars}
use Rattle.decide.specs.declared.Reply.{Reply}
use Rattle.decide.specs.Scalars.{leads, strict}
use Rattle.window.specs.declared.Window.{Window}
use Rattle.window.specs.Window.{slot_at}
use Rattle.window.specs.Acts.{promise, enter_acts}
use Rattle.window.specs.Places.{filled_new}
use Rattle.window.specs.ByPlace.{at_place, at_here, put_keeps, sweep_keeps}
use Rattle.replica.specs.declared.Replica.{Replica}
use Rattle.replica.specs.Record.{Outcome, place, number}
use Rattle.replica.specs.Messages.{appended_as, append_acts, reply_on}
use Rattle.replica.specs.Step.{Call}
use Rattle.laws.specs.OfScalars.{fallen_ways, fallen_fixed}
use Rattle.laws.specs.Appended.{appended_has}
use Rattle.laws.specs.WaysReply.{grown_window, reply_window, reply_slot, heard_window, counted_window, tabled_sc, tabled_only, heard, counted, entered, Answers, reply_place, reply_on_ways}
use Rattle.voting.specs.Windows.{Whole}
use Rattle.voting.specs.Keeping.{entered_keeps, heard_keeps}
use Rattle.safety.specs.Sight.{Sight, sight_of, Says}
use Rattle.safety.specs.Saying.{SaysAll, Promises-at}

abbrev ballot_of : Slot → ℕ
ballot_of x = x.ballot

module _ (v : Sight) (c : Call) (r : Replica) (g : Whole r.window) (peer : ℕ) (m : Reply) where
  -- ── the ballots of the windows of a reply ──
  abbrev SameBallots : Window → Type 0
  SameBallots w = (k : ℕ) → (at_place w k).ballot ≡ (at_place (grown_window r m) k).ballot

  noted_ballots : SameBallots (reply_window r peer m)
  noted_ballots k = put_keeps ballot_of (grown_window r m) (place r.sc m.slot) k _ refl

  heard_ballots : SameBallots (heard_window r peer m)
  heard_ballots k = put_keeps ballot_of (reply_window r peer m) (place r.sc m.slot) k _ (heard_keeps ballot_of (reply_slot r peer m) m refl) ∙ noted_ballots k

  counted_ballots : SameBallots (counted_window r peer m)
  counted_ballots k = put_keeps ballot_of (heard_window r peer m) (place r.sc m.trigger) k _ refl ∙ heard_ballots k

  entered_ballots : SameBallots (entered r peer m).replica.window
  entered_ballots k =
      sweep_keeps ballot_of (λ i s. entered_slot (strict (tabled_sc r peer m)) m.ballot s)
      (λ i s. entered_keeps ballot_of (λ s n. refl) (strict (tabled_sc r peer m)) m.ballot (λ s. refl) s) (place r.sc m.trigger) (reply_window r peer m).len (counted_window r peer m) k
      ∙ counted_ballots k

  -- a slot that is appended
  new_ballot : Answers r m → (k : ℕ) → r.window.len ≤ k → k < place r.sc m.slot + 1 → (at_place (grown_window r m) k).ballot ≡ r.sc.bal_prep_sent
  new_ballot f k a b =
      let i : ℕ = place r.sc m.slot in
      let j : ℕ = place r.sc m.trigger in
      ap ballot_of (at_here (grown_window r m) k (omega (arith, appended_has r i j))
      ∙ filled_new (appended_as r j) r.window (i + 1) k a b (omega (arith, g, reply_place r m f)))

  -- ── the prepare entries: self leads on ──
  appends_say : Answers r m → (q : Replica) → q.sc.start ≡ r.sc.start → leads q.sc ≡ true → q.window.len ≡ (grown_window r m).len → SameBallots q.window
      → SaysAll v c q (append_acts r (place r.sc m.slot))
  appends_say f q e l n same =
      let i : ℕ = place r.sc m.slot in
      All-gather (λ k. promise (number r.sc k) r.sc.bal_prep_sent ∷ []) (λ (a : Act). Says v c (sight_of q) a.keys a.what) r.window.len (i + 1)
      (λ k a b. (
        Promises-at q r.sc.start k r.sc.bal_prep_sent e (omega (arith, n, appended_has r i (place r.sc m.trigger))) (same k ∙ new_ballot f k a b) (λ z. absurd (clash l z)),
        tt,
      ))

  tabled_leads : leads r.sc ≡ true → leads (tabled_sc r peer m) ≡ true
  tabled_leads l = fallen_ways (λ (x : Scalars). leads x ≡ true) r.sc r.bars peer m.bar l (λ max. l)

  tabled_start : (tabled_sc r peer m).start ≡ r.sc.start
  tabled_start = (fallen_fixed r.sc r.bars peer m.bar).start

  entered_says : Answers r m → SaysAll v c (entered r peer m).replica (entered r peer m).actions
  entered_says f =
      let Said : Act → Type 0 = λ (a : Act). Says v c (sight_of (entered r peer m).replica) a.keys a.what in
      let enters : ℕ → List Act = λ i. enter_acts (number (tabled_sc r peer m) i) m.ballot (slot_at (counted_window r peer m) i) in
      All-append Said (append_acts r (place r.sc m.slot)) (gather enters (place r.sc m.trigger) (reply_window r peer m).len)
      (appends_say f (entered r peer m).replica tabled_start (tabled_leads f.leading) refl entered_ballots)
      (All-gather enters Said (place r.sc m.trigger) (reply_window r peer m).len
      (λ i a b. pick_both (All Said) (eqb (slot_at (counted_window r peer m) i).status preparing) (tt, (tt, tt)) tt))

  pub reply_says : SaysAll v c (reply_on r peer m).replica (reply_on r peer m).actions
  reply_says =
      reply_on_ways (λ (o : Outcome). SaysAll v c o.replica o.actions) r peer m (λ n _ _. tt)
      (λ f a. appends_say f (tabled_only r peer m).replica tabled_start (tabled_leads f.leading) refl noted_ballots)
      (λ f h t. appends_say f (heard r peer m).replica tabled_start (tabled_leads f.leading) refl heard_ballots)
      (λ f h t u. appends_say f (counted r peer m).replica tabled_start (tabled_leads f.leading) refl counted_ballots)
      (λ f h t u b. entered_says f)
