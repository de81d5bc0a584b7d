-- Every Accept that a reply makes a leader send is of a slot that it brings to Accepting, with the batch that the slot holds after the call.
use Rattle.std.specs.Prelude.{◌≡◌, refl, Bool, List, [], ◌∷◌, ◌++◌, ◌⊎◌, ℕ, ◌+◌, ◌≤◌, ◌<◌, eqb}
use Rattle.std.proofs.Common.{sym, ap, ◌∙◌, inl, inr, arith, eqb-true, eq-eqb}
use mathlib.Core.List.Memᴰ
use Rattle.base.specs.Pick.{pick, pick_cases}
use Rattle.base.specs.Among.{◌∈◌}
use Rattle.base.specs.Gather.{gather_in}
use Rattle.actions.specs.declared.Action.TheVariants.{Accept, AcceptData}
use Rattle.actions.specs.Actions.{Act, act}
use Rattle.slots.specs.declared.Slot.{Slot}
use Rattle.slots.specs.Slots.{preparing, accepting, own_voted, entered_slot, with_state}
use Rattle.decide.specs.Scalars.{strict}
use Rattle.decide.specs.declared.Reply.{Reply}
use Rattle.decide.specs.Decide.{proposal}
use Rattle.window.specs.declared.Window.{Window}
use Rattle.window.specs.Window.{slot_at}
use Rattle.window.specs.Acts.{promise, enter_acts}
use Rattle.window.specs.ByPlace.{at_place, sweep_at, at_here}
use Rattle.replica.specs.declared.Replica.{Replica}
use Rattle.replica.specs.declared.Done.{Done}
use Rattle.replica.specs.Record.{place, number}
use Rattle.replica.specs.Messages.{clean_reply}
use Rattle.replica.specs.Step.{call_prepare_reply, call_logged, step}
use Rattle.laws.specs.OfFit.{fit_facts}
use Rattle.laws.specs.Counts.{counted_long}
use Rattle.laws.specs.WaysReply.{counted_window, Answers, reply_place}
use Rattle.laws.specs.WaysDurability.{completion, Logs, logged, other_entry}
use Rattle.laws.specs.Appended.{appended_most}
use Rattle.voting.specs.Windows.{Whole, Whole-put}
use Rattle.voting.specs.Claims.{Claim, Of}
use Rattle.voting.specs.Replying.{entered_window, enters_acts, reply_acts, ReplyWays, prepare_reply_way}
use Rattle.voting.specs.Quorums.{kind_of}
use Rattle.replica.specs.declared.Entry.TheVariants.{PrepareBal, AcceptData, CommitSlot as CommitEntry}
use Rattle.replica.specs.Durability.{logged_on}
use Rattle.voting.specs.Logging.{LogWays, own_answer, logged_way}
use Rattle.voting.specs.History.{Lent}
use Rattle.voting.specs.Paper.{Choice}
use Rattle.voting.specs.Heard.{held_at, heard_in, Reign}
use Rattle.batch.specs.declared.Batch.{Batch}

-- kind 6 is Accept
abbrev pub Entered : Replica → ℕ → Window → Act → Type 0
Entered r ballot w x =
    (i : ℕ) × (i < w.len) × ((at_place w i).status ≡ accepting) × (x ≡ act (Accept (proposal (number r.sc i) ballot (at_place w i).batch)) (at_place w i).batch.keys)

abbrev Enters : Replica → ℕ → Claim
Enters r ballot a sc w acts = (x : Act) → x ∈ acts → kind_of x ≡ 6 → Entered r ballot w x

-- no Accept is among these: none at all; one of another kind; the entries of slots that a reply appends
pub none_sent : {A : Type 0} (x : Act) → x ∈ [] → kind_of x ≡ 6 → A
none_sent x o k = absurd (Memᴰ.not-nil o)

pub other_sent : {A : Type 0} (y x : Act) → (kind_of y ≡ 6 → ⊥) → x ∈ (y ∷ []) → kind_of x ≡ 6 → A
other_sent y x n o k = absurd (n (sym (ap kind_of (Memᴰ.eq_of_singleton o)) ∙ k))

pub appends_none : {A : Type 0} (r : Replica) (m : Reply) (x : Act) → x ∈ reply_acts r m → kind_of x ≡ 6 → A
appends_none {A} r m x o k = go (gather_in (λ i. promise (number r.sc i) r.sc.bal_prep_sent ∷ []) r.window.len (place r.sc m.slot + 1) o)
  where
    go : (i : ℕ) × (r.window.len ≤ i) × (i < place r.sc m.slot + 1) × (x ∈ (promise (number r.sc i) r.sc.bal_prep_sent ∷ [])) → A
    go (i, lo, hi, o) = other_sent _ x (λ z. omega arith) o k

module _ (r : Replica) (peer : ℕ) (m : Reply) (h : Whole r.window) (n : r.window.len ≤ 64) where
  -- the slot at place i, Preparing before, is Accepting after, with its batch
  enters_at : Answers r m → (i : ℕ) → place r.sc m.trigger ≤ i → i < (counted_window r peer m).len → (slot_at (counted_window r peer m) i).status ≡ preparing
      → (x : Act) → x ≡ act (Accept (proposal (number r.sc i) m.ballot (slot_at (counted_window r peer m) i).batch)) (slot_at (counted_window r peer m) i).batch.keys
      → Entered r m.ballot (entered_window r peer m) x
  enters_at f i lo hi s x e =
      let u = appended_most r (place r.sc m.slot) (place r.sc m.trigger) 64 n (reply_place r m f) in
      let y : Slot = own_voted (strict r.sc) m.ballot (with_state (slot_at (counted_window r peer m) i) (slot_at (counted_window r peer m) i).ballot accepting) in
      let z : at_place (entered_window r peer m) i ≡ y =
      sweep_at (λ k v. entered_slot (strict r.sc) m.ballot v) (place r.sc m.trigger) (counted_window r peer m).len (counted_window r peer m) i (let z = counted_long r peer m in omega arith) lo hi hi
      ∙ ap (entered_slot (strict r.sc) m.ballot) (at_here (counted_window r peer m) i hi)
      ∙ ap (λ (t : Bool). pick t y (slot_at (counted_window r peer m) i)) (eq-eqb _ _ s) in (
        i,
        hi,
        ap (λ (v : Slot). v.status) z,
        e ∙ ap (λ (v : Slot). act (Accept (proposal (number r.sc i) m.ballot v.batch)) v.batch.keys) (sym z),
      )

  enter_one : Answers r m → (x : Act) (i : ℕ) → place r.sc m.trigger ≤ i → i < (counted_window r peer m).len
      → x ∈ enter_acts (number r.sc i) m.ballot (slot_at (counted_window r peer m) i) → kind_of x ≡ 6 → Entered r m.ballot (entered_window r peer m) x
  enter_one f x i lo hi =
      pick_cases (λ (l : List Act). x ∈ l → kind_of x ≡ 6 → Entered r m.ballot (entered_window r peer m) x) (eqb (slot_at (counted_window r peer m) i).status preparing)
      (λ t o k. two (eqb-true _ _ t) (Memᴰ.cases_cons o) k)
      (λ t o k. none_sent x o k)
    where
      two : (slot_at (counted_window r peer m) i).status ≡ preparing
          → (x ≡ act (AcceptData (proposal (number r.sc i) m.ballot (slot_at (counted_window r peer m) i).batch)) (slot_at (counted_window r peer m) i).batch.keys)
          ⊎ (x ∈ (act (Accept (proposal (number r.sc i) m.ballot (slot_at (counted_window r peer m) i).batch)) (slot_at (counted_window r peer m) i).batch.keys ∷ []))
          → kind_of x ≡ 6 → Entered r m.ballot (entered_window r peer m) x
      two s (inl e) k = absurd (let z : ◌≡◌ {A = ℕ} 2 6 = sym (ap kind_of e) ∙ k in omega arith)
      two s (inr o) k = enters_at f i lo hi s x (Memᴰ.eq_of_singleton o)

  reply_enters : ReplyWays (Enters r m.ballot) r peer m
  reply_enters =
      record {
        passed = λ f t x o k. appends_none r m x o k;
        heard = λ f w x o k. appends_none r m x o k;
        counted = λ f w x o k. appends_none r m x o k;
        entered = λ f w q x o k. both f x k (Memᴰ.append_cases (reply_acts r m) o);
      }
    where
      both : Answers r m → (x : Act) → kind_of x ≡ 6 → (x ∈ reply_acts r m) ⊎ (x ∈ enters_acts r peer m) → Entered r m.ballot (entered_window r peer m) x
      both f x k (inl o) = appends_none r m x o k
      both f x k (inr o) = go (gather_in (λ i. enter_acts (number r.sc i) m.ballot (slot_at (counted_window r peer m) i)) (place r.sc m.trigger) (counted_window r peer m).len o)
        where
          go : (i : ℕ) × (place r.sc m.trigger ≤ i) × (i < (counted_window r peer m).len) × (x ∈ enter_acts (number r.sc i) m.ballot (slot_at (counted_window r peer m) i))
              → Entered r m.ballot (entered_window r peer m) x
          go (i, lo, hi, p) = enter_one f x i lo hi p k

-- 2.2, phase 2 (a): on any record with a window of 64 slots
pub reply_enters_with : (r : Replica) (room peer : ℕ) (m : Reply) → Whole r.window → (x : Act) → x ∈ (step r room (call_prepare_reply peer m)).actions → kind_of x ≡ 6
    → Entered r m.ballot (step r room (call_prepare_reply peer m)).replica.window x
unfolding Of
reply_enters_with r room peer m h =
    prepare_reply_way (Enters r m.ballot) r room peer m (λ a l u x o k. none_sent x o k)
    (λ f. reply_enters r peer (clean_reply m) h (fit_facts r f.fits).numbers.window)

own_enters : (r : Replica) (slot bal size : ℕ) → Whole r.window → Logs r (completion PrepareBal slot bal size)
    → LogWays (Enters r (own_answer r (completion PrepareBal slot bal size)).ballot) r (completion PrepareBal slot bal size)
unfolding Of logged_on
own_enters r slot bal size h f =
    let d : Done = completion PrepareBal slot bal size in
    let b : ℕ = (own_answer r (completion PrepareBal slot bal size)).ballot in
    record {
      only = λ u x o k. none_sent x o k;
      own = λ e o. reply_enters (logged r d) r.sc.id (own_answer r d) (Whole-put r.window (place r.sc slot) _ h) (fit_facts r f.fits).numbers.window;
      promised = λ e _ n x o k. other_sent _ x (λ z. omega arith) o k;
      acked = other_entry PrepareBal AcceptData refl;
      commits = other_entry PrepareBal AcceptData refl;
      answered = other_entry PrepareBal AcceptData refl;
      passes = other_entry PrepareBal CommitEntry refl;
    }

-- and for a leader's own reply, at the end of its PrepareBal entry
pub own_enters_with : (r : Replica) (room slot bal size : ℕ) → Whole r.window → (x : Act) → x ∈ (step r room (call_logged (completion PrepareBal slot bal size))).actions
    → kind_of x ≡ 6
    → Entered r (own_answer r (completion PrepareBal slot bal size)).ballot (step r room (call_logged (completion PrepareBal slot bal size))).replica.window x
unfolding Of
own_enters_with r room slot bal size h =
    logged_way (Enters r (own_answer r (completion PrepareBal slot bal size)).ballot) r (completion PrepareBal slot bal size) room
    (λ a l u x o k. none_sent x o k)
    (λ f. own_enters r slot bal size h f)

-- ── the whole sentence ──
-- 2.2, phase 2 (a), of an Accept at a ballot that the last call c of a history gives: it is of a slot s and a batch b; where nothing was heard of s
-- at the start (Choice.step_up_unheard, absent_unheard) and self led through all of it at one ballot, b is the paper's choice among the votes heard,
-- else what the slot held at the start
abbrev pub WithChoice : Replica → List Lent → Lent → ℕ → Act → Type 0
WithChoice r h c ballot x =
    (s : ℕ) × (b : Batch) × (x ≡ act (Accept (proposal s ballot b)) b.keys)
    × ((held_at r s).ballot ≡ 0 → Reign r (h ++ (c ∷ [])) s → Choice (held_at r s).batch (heard_in r (h ++ (c ∷ [])) s) b)
