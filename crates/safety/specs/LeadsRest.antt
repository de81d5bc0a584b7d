-- Of `Leads`: a call that neither hears a reply nor steps up. The lead goes on with its bookkeeping as it was and no slot becomes Preparing; or self does
-- not lead after it.
use Rattle.std.specs.Prelude.{◌≡◌, refl, true, ◌||◌, List, [], ℕ, ◌+◌, ◌≤◌, ltb, leb, eqb}
use Rattle.std.proofs.Common.{sym, ap, subst, ◌∙◌, inl, arith}
use Rattle.base.specs.Pick.{pick_both}
use Rattle.base.specs.Among.{◌∈◌, All, All-in}
use Rattle.members.specs.Sets.{has}
use Rattle.batch.specs.declared.Batch.{Batch}
use Rattle.actions.specs.declared.Action.{Action}
use Rattle.actions.specs.declared.Action.TheVariants.{PrepareBal, AcceptData, CommitSlot, Prepare, PrepareReply, Accept, AcceptReply, CommitNotice, Heartbeat, StatusUp, StatusDown, Execute, ReadAnswer}
use Rattle.actions.specs.Actions.{Act}
use Rattle.slots.specs.declared.Slot.{Slot}
use Rattle.slots.specs.Slots.{committed, null_slot, with_state, marked_slot, passed_slot, executed_slot, logged_slot, acknowledged_slot, committed_slot}
use Rattle.decide.specs.declared.Scalars.{Scalars}
use Rattle.decide.specs.Scalars.{leads}
use Rattle.window.specs.declared.Window.{Window}
use Rattle.window.specs.Window.{slot_at, put_slot, sweep, grown}
use Rattle.window.specs.Acts.{promise}
use Rattle.window.specs.Places.{size}
use Rattle.window.specs.ByPlace.{at_place, at_here, put_cases, sweep_cases, grown_at}
use Rattle.replica.specs.declared.Replica.{Replica}
use Rattle.replica.specs.Step.{Call}
use Rattle.voting.specs.Claims.{core}
use Rattle.agreement.specs.BySlot.{numbered, by_place}
use Rattle.agreement.specs.Theorem.{accept_entry}
use Rattle.agreement.specs.Frame.{Owns, named}
use Rattle.safety.specs.Sight.{Sight, sight_of, notes, highest, still, GoesOn, on, Proposes, Leads}

-- ── what is seen ──
-- of the numbers and the log alone, with any bar
abbrev pub sight_at : Scalars → Window → ℕ → Sight
sight_at sc w bar =
    record {
      me = sc.id;
      group = sc.group;
      start = sc.start;
      leading = leads sc;
      seen = sc.bal_max_seen;
      sent = sc.bal_prep_sent;
      prepared = sc.bal_prepared;
      trigger = sc.lead_trigger;
      stop = sc.start + w.len;
      bar = bar;
      slot = numbered sc.start w;
    }

-- ── the entries that a call writes: P of its prepare entries, Q of its accept entries ──
abbrev pub Entry : (ℕ → ℕ → Type 0) → (ℕ → ℕ → Batch → Type 0) → List ℕ → Action → Type 0
Entry P Q keys (PrepareBal p) = P p.slot p.ballot
Entry P Q keys (AcceptData p) = Q p.slot p.ballot (named p keys)
Entry P Q keys (CommitSlot p) = Unit {0}
Entry P Q keys (Prepare p) = Unit {0}
Entry P Q keys (PrepareReply p) = Unit {0}
Entry P Q keys (Accept p) = Unit {0}
Entry P Q keys (AcceptReply p) = Unit {0}
Entry P Q keys (CommitNotice p) = Unit {0}
Entry P Q keys Heartbeat = Unit {0}
Entry P Q keys StatusUp = Unit {0}
Entry P Q keys StatusDown = Unit {0}
Entry P Q keys (Execute p) = Unit {0}
Entry P Q keys (ReadAnswer p) = Unit {0}

abbrev pub Writes : (ℕ → ℕ → Type 0) → (ℕ → ℕ → Batch → Type 0) → Act → Type 0
Writes P Q a = Entry P Q a.keys a.what

-- neither
abbrev pub Silent : Act → Type 0
Silent = Writes (λ s b. ⊥) (λ s b e. ⊥)

-- ── one slot ──
-- of its bookkeeping: who is noted, the largest vote heard, who is counted, and the endprep
pub record Book : Type 0 where
  pub who : ℕ
  pub top : ℕ
  pub set : ℕ
  pub end : ℕ

abbrev pub book_of : Slot → Book
book_of x = record { who = notes x; top = highest x; set = x.leader.prepare_acks; end = x.leader.endprep }

-- it stays; and a slot that is Preparing was so, with its batch
pub record Rest (x y : Slot) : Type 0 where
  pub book : book_of y ≡ book_of x
  pub waits : y.status ≡ 1 → (x.status ≡ 1) × (y.batch ≡ x.batch)

pub Rest-self : (x : Slot) → Rest x x
Rest-self x = record { book = refl; waits = λ z. (z, refl) }

pub Rest-equal : {x y : Slot} → y ≡ x → Rest x y
Rest-equal {x} e = subst (Rest x) (sym e) (Rest-self x)

pub Rest-then : {x y z : Slot} → Rest x y → Rest y z → Rest x z
Rest-then p q = record { book = q.book ∙ p.book; waits = λ e. let (a, b) = q.waits e in let (d, f) = p.waits a in (d, b ∙ f) }

-- the changes of a slot that let it stay: another status than Preparing
closes : (x : Slot) (status : ℕ) → (status ≡ 1 → ⊥) → Rest x (with_state x x.ballot status)
closes x status d = record { book = refl; waits = λ e. absurd (d e) }

pub marked_rest : (x : Slot) → Rest x (marked_slot x)
marked_rest x = pick_both (Rest x) (leb committed x.status) (Rest-self x) (closes x 3 (λ e. omega arith))

pub passed_rest : (x : Slot) → Rest x (passed_slot x)
passed_rest x = pick_both (Rest x) (eqb x.batch.id 0) (closes x 4 (λ e. omega arith)) (Rest-self x)

pub executed_rest : (x : Slot) → Rest x (executed_slot x)
executed_rest x = pick_both (Rest x) (eqb x.status committed) (closes x 4 (λ e. omega arith)) (Rest-self x)

pub logged_rest : (offset : ℕ) (x : Slot) → Rest x (logged_slot offset x)
logged_rest offset x = pick_both (Rest x) (eqb x.wal_offset 0 || ltb offset x.wal_offset) (record { book = refl; waits = λ e. (e, refl) }) (Rest-self x)

pub acked_rest : (peer : ℕ) (x : Slot) → Rest x (acknowledged_slot peer x)
acked_rest peer x = record { book = refl; waits = λ e. (e, refl) }

pub committed_rest : (peer : ℕ) (x : Slot) → Rest x (committed_slot (acknowledged_slot peer x))
committed_rest peer x = record { book = refl; waits = λ e. absurd (omega arith) }

-- ── the slots of a log ──
pub record Rests (w w' : Window) : Type 0 where
  pub each : (i : ℕ) → Rest (at_place w i) (at_place w' i)

pub Rests-self : (w : Window) → Rests w w
Rests-self w = record { each = λ i. Rest-self (at_place w i) }

pub Rests-then : {u v w : Window} → Rests u v → Rests v w → Rests u w
Rests-then a b = record { each = λ i. Rest-then (a.each i) (b.each i) }

pub Rests-put : (w : Window) (k : ℕ) (x : Slot) → Rest (slot_at w k) x → Rests w (put_slot w k x)
Rests-put w k x h =
    record {
      each = λ i.
          put_cases w k x (Rest (at_place w i)) i
          (λ e l. Rest-then (Rest-equal (sym (at_here w k (omega arith)) ∙ ap (at_place w) (sym e))) h) (λ out. Rest-self (at_place w i));
    }

pub Rests-sweep : (f : Slot → Slot) (from to : ℕ) (w : Window) → w.len ≤ size w → ((x : Slot) → Rest x (f x)) → Rests w (sweep (λ i s. f s) from to w)
Rests-sweep f from to w h a =
    record { each = λ i. sweep_cases (λ i s. f s) from to w (Rest (at_place w i)) i h (λ _ _ _. a (at_place w i)) (λ out. Rest-self (at_place w i)) }

pub Rests-grown : (w : Window) (n : ℕ) → n ≤ size w → Rests w (grown w n)
Rests-grown w n h = record { each = λ i. Rest-equal (grown_at w n i h) }

-- ── the call ──
module _ (sc : Scalars) (w w' : Window) (bar bar' : ℕ) (c : Call) (acts : List Act) where
  abbrev pub before : Sight
  before = sight_at sc w bar

  abbrev pub after : Sight
  after = sight_at sc w' bar'

  Rest-each : Rests w w' → (s : ℕ) → Rest (before.slot s) (after.slot s)
  Rest-each rest s = by_place (λ (s : ℕ) (x y : Slot). Rest x y) sc.start w w' (λ s. Rest-self null_slot) rest.each s

  rest_on : Rests w w' → ((s b : ℕ) → promise s b ∈ acts → ⊥) → leads sc ≡ true → GoesOn before c after after.slot acts
  rest_on rest none l =
      record {
        leading = l;
        seen = refl;
        sent = refl;
        trigger = refl;
        counts = λ p h. inl (subst (λ (x : Book). has x.set p ≡ true) (Rest-each rest sc.lead_trigger).book h);
        prepared = inl refl;
        was = λ k z. inl ((Rest-each rest k).waits z).0;
        noted = λ k z. (let x = Rest-each rest k in still (ap (λ (x : Book). x.who) x.book) (ap (λ (x : Book). x.top) x.book) (x.waits z).1);
        after = λ k z. (z, refl, refl, refl);
        ends = λ s. inl (ap (λ (x : Book). x.end) (Rest-each rest s).book);
        new = λ s b o. absurd (none s b o);
      }

  -- no prepare entry is written, and each accept entry at an own ballot is proposed
  pub rest_leads : Rests w w' → ((s b : ℕ) → promise s b ∈ acts → ⊥) → ((s b : ℕ) (e : Batch) → accept_entry s b e ∈ acts → Owns sc.id b → Proposes before after after.slot s b e)
      → Leads before c after acts
  rest_leads rest none said = record { mid = after.slot; lead = λ l. on (rest_on rest none l); entries = said }

-- who does not lead after a call that writes no accept entry at a ballot of its own
pub gone_leads : (v : Sight) (c : Call) (v' : Sight) (acts : List Act) → (v'.leading ≡ true → ⊥) → All (Writes (λ s b. Unit {0}) (λ s b e. Owns v.me b → ⊥)) acts → Leads v c v' acts
gone_leads v c v' acts n said =
    record { mid = v'.slot; lead = λ l. absurd (n l); entries = λ s b e o h. absurd (All-in (Writes (λ s b. Unit {0}) (λ s b e. Owns v.me b → ⊥)) said o h) }

-- from a replica, by a call that writes neither
module _ (r : Replica) (c : Call) where
  pub Rests-lead : (w : Window) (acts : List Act) (bar : ℕ) → Rests r.window w → All Silent acts → Leads (sight_of r) c (sight_at (core r.sc) w bar) acts
  Rests-lead w acts bar rest said =
      rest_leads r.sc r.window w r.sc.commit_bar bar c acts rest (λ s b o. All-in Silent said o) (λ s b e o. absurd (All-in Silent said o))

  -- refused or ignored
  pub kept_leads : (bar : ℕ) → Leads (sight_of r) c (sight_at (core r.sc) r.window bar) []
  kept_leads bar = Rests-lead r.window [] bar (Rests-self r.window) tt
