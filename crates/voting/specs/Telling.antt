-- What an answer to a Prepare tells: the highest-numbered Accept taken for the slot, at the slot's ballot.
use Rattle.std.specs.Prelude.{◌≡◌, refl, List, [], ◌∷◌, false, ◌⊎◌, ℕ, ◌≤◌, ◌<◌}
use Rattle.std.proofs.Common.{sym, ap, ◌∙◌, inl, inr, arith}
use mathlib.Core.List.Memᴰ
use Rattle.base.specs.Pick.{clash}
use Rattle.base.specs.Among.{◌∈◌}
use Rattle.actions.specs.declared.Action.TheVariants.{PrepareReply}
use Rattle.actions.specs.Actions.{Act, act}
use Rattle.slots.specs.declared.Vote.{Vote}
use Rattle.slots.specs.declared.Slot.{Slot}
use Rattle.decide.specs.declared.Scalars.{Scalars}
use Rattle.decide.specs.Scalars.{leads}
use Rattle.decide.specs.Decide.{sent_vote}
use Rattle.window.specs.Window.{slot_at}
use Rattle.window.specs.ByPlace.{at_place, at_here}
use Rattle.replica.specs.declared.Replica.{Replica}
use Rattle.replica.specs.declared.Done.{Done}
use Rattle.replica.specs.declared.Entry.TheVariants.{PrepareBal, AcceptData, CommitSlot as CommitEntry}
use Rattle.replica.specs.Record.{place}
use Rattle.replica.specs.Durability.{logged_on}
use Rattle.replica.specs.Step.{call_logged, step}
use Rattle.laws.specs.OfFit.{fit_facts}
use Rattle.laws.specs.WaysDurability.{completion, Logs, logged_at, other_entry}
use Rattle.voting.specs.Windows.{Whole}
use Rattle.voting.specs.Keeping.{logged_keeps}
use Rattle.voting.specs.Claims.{Claim, Of}
use Rattle.voting.specs.Logging.{LogWays, logged_way}
use Rattle.voting.specs.Votes.{vote_of, last_of}
use Rattle.voting.specs.Quorums.{logged_same}

pub last_in : (v : Vote) (l : List Vote) → ((l ≡ []) × (last_of v l ≡ v)) ⊎ (last_of v l ∈ l)
last_in v [] = inl (refl, refl)
last_in v (x ∷ l) = inr (go (last_in x l))
  where
    go : ((l ≡ []) × (last_of x l ≡ x)) ⊎ (last_of x l ∈ l) → last_of x l ∈ (x ∷ l)
    go (inl e) = Memᴰ.head e.1
    go (inr m) = Memᴰ.tail m

-- a follower's PrepareReply, at the end of its log entry
abbrev pub promise_acts : Scalars → Slot → ℕ → List Act
promise_acts sc s slot =
    act (PrepareReply (record {
      member = s.replica.source;
      slot = slot;
      trigger = s.replica.trigger;
      endprep = s.replica.endprep;
      ballot = s.ballot;
      voted = (sent_vote s).ballot;
      batch = (sent_vote s).batch.id;
      count = (sent_vote s).batch.count;
      bar = sc.accept_bar;
    })) (sent_vote s).batch.keys
    ∷ []

-- what a follower says at the end of a PrepareBal entry for slot: nothing, or one answer, with the slot's vote, at the slot's ballot as it is
-- now: whatever the completion's ballot, in the base kind; in the strict kind it is that (`replies_on_completion`, Speaking)
pub record Tells (r : Replica) (slot : ℕ) (acts : List Act) : Type 0 where
  pub by : Slot
  pub low : r.sc.start ≤ slot
  pub votes : by.vote ≡ vote_of r slot
  pub ballot : by.ballot ≡ (at_place r.window (place r.sc slot)).ballot
  pub says : acts ≡ promise_acts r.sc by slot

abbrev MayTell : Replica → ℕ → Claim
MayTell r slot a sc w acts = (acts ≡ []) ⊎ Tells r slot acts

pub told_same : (r : Replica) (d : Done) → Whole r.window → place r.sc d.slot < r.window.len → r.window.len ≤ 64
    → ((logged_at r d).vote ≡ vote_of r d.slot) × ((logged_at r d).ballot ≡ (at_place r.window (place r.sc d.slot)).ballot)
told_same r d h l u =
    let e = logged_same r d h l u in
    let here = at_here r.window (place r.sc d.slot) l in (
      ap (λ (x : Slot). x.vote) e ∙ logged_keeps (λ (x : Slot). x.vote) (λ s n. refl) r.sc.wal_offset (slot_at r.window (place r.sc d.slot)) ∙ ap (λ (x : Slot). x.vote) (sym here),
      ap (λ (x : Slot). x.ballot) e ∙ logged_keeps (λ (x : Slot). x.ballot) (λ s n. refl) r.sc.wal_offset (slot_at r.window (place r.sc d.slot)) ∙ ap (λ (x : Slot). x.ballot) (sym here),
    )

promise_ways : (r : Replica) (slot bal size : ℕ) → Whole r.window → leads r.sc ≡ false → Logs r (completion PrepareBal slot bal size)
    → LogWays (MayTell r slot) r (completion PrepareBal slot bal size)
unfolding Of logged_on
promise_ways r slot bal size h n f =
    let d : Done = completion PrepareBal slot bal size in
    let t = told_same r d h (let x = f.low in let y = f.high in omega arith) (fit_facts r f.fits).numbers.window in
    record {
      only = λ u. inl refl;
      own = λ e o. absurd (clash o.leading n);
      promised = λ e _ l. inr (record { by = logged_at r d; low = f.low; votes = t.0; ballot = t.1; says = refl });
      acked = other_entry PrepareBal AcceptData refl;
      commits = other_entry PrepareBal AcceptData refl;
      answered = other_entry PrepareBal AcceptData refl;
      passes = other_entry PrepareBal CommitEntry refl;
    }

pub promise_tells : (r : Replica) (room slot bal size : ℕ) → Whole r.window → leads r.sc ≡ false
    → ((step r room (call_logged (completion PrepareBal slot bal size))).actions ≡ [])
    ⊎ Tells r slot (step r room (call_logged (completion PrepareBal slot bal size))).actions
unfolding Of
promise_tells r room slot bal size h n =
    logged_way (MayTell r slot) r (completion PrepareBal slot bal size) room (λ a l u. inl refl) (λ f. promise_ways r slot bal size h n f)
