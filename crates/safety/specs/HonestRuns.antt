-- Runs of Wish 7 by computation: a test of each turn, that it is one that happens, and that a list of turns which pass it leads to a world that the group comes
-- to. Turns and `play` are those of demand 3's runs (agreement, Runs).
use Rattle.std.specs.Prelude.{◌≡◌, refl, Bool, true, false, ◌&&◌, ◌||◌, ◌⊎◌, ℕ, eqb}
use Rattle.std.proofs.Common.{ap, inl, inr, ⊎_elim, eqb-true}
use mathlib.Core.List.Memᴰ
use mathlib.Core.List.{List, [], ◌∷◌}
use Rattle.base.specs.Pick.{and_left, and_right, or_cases, clash}
use Rattle.base.specs.Among.{◌∈◌}
use Rattle.batch.specs.Batches.{same_list}
use Rattle.batch.specs.Laws.{same_list-true}
use Rattle.actions.specs.declared.Action.{Action}
use Rattle.actions.specs.declared.Action.TheVariants.{PrepareBal, AcceptData, CommitSlot, Prepare, PrepareReply, Accept, AcceptReply, CommitNotice, Heartbeat, StatusUp, StatusDown, Execute, ReadAnswer}
use Rattle.actions.specs.Actions.{Act, bare, no_keys}
use Rattle.replica.specs.declared.Entry.{Entry}
use Rattle.replica.specs.declared.Entry.TheVariants.{PrepareBal as PrepareEntry, AcceptData as AcceptEntry, CommitSlot as CommitEntry}
use Rattle.replica.specs.Durability.{entry_number}
use Rattle.replica.specs.Step.{Call, received}
use Rattle.laws.specs.WaysDurability.{completion}
use Rattle.agreement.specs.Theorem.{Group, World}
use Rattle.agreement.specs.Runs.{Turn, times, offers, logs, gets, who, does, thing, happen, deliver, get_d_in}
use Rattle.safety.specs.ForGood.{EntryIn, Happens, timer_fires, batch_comes, entry_done, message_comes, real, Comes, goes}

-- ── the test of a turn: a completion is of an entry that this member wrote, with kind, slot and ballot; what arrives is a message that its sender did ──
-- a log entry as numbers: 01's number of its kind, its slot and ballot, and its keys, which are not looked at in an accept entry; of an action that is
-- no log entry there are none
abbrev pub entry_numbers : List ℕ → Action → List ℕ
entry_numbers keys (PrepareBal p) = 1 ∷ p.slot ∷ p.ballot ∷ keys
entry_numbers keys (AcceptData p) = 2 ∷ p.slot ∷ p.ballot ∷ no_keys
entry_numbers keys (CommitSlot p) = 3 ∷ p.slot ∷ p.ballot ∷ keys
entry_numbers keys (Prepare p) = []
entry_numbers keys (PrepareReply p) = []
entry_numbers keys (Accept p) = []
entry_numbers keys (AcceptReply p) = []
entry_numbers keys (CommitNotice p) = []
entry_numbers keys Heartbeat = []
entry_numbers keys StatusUp = []
entry_numbers keys StatusDown = []
entry_numbers keys (Execute p) = []
entry_numbers keys (ReadAnswer p) = []

-- the entry of this kind, slot and ballot
abbrev pub is_entry : Entry → ℕ → ℕ → List ℕ → Action → Bool
is_entry e slot ballot keys x = same_list (entry_numbers keys x) (entry_number e ∷ slot ∷ ballot ∷ no_keys)

-- such an entry stands in what a member did
unfoldable pub stands : Entry → ℕ → ℕ → List Act → Bool
stands e slot ballot [] = false
stands e slot ballot (a ∷ l) = is_entry e slot ballot a.keys a.what || stands e slot ballot l

-- something arrives: what a member did is a message, not a log entry or the like
abbrev pub arrives : List Call → Bool
arrives [] = false
arrives (c ∷ l) = true

-- what `Happens` asks of a turn
unfoldable pub is_real : World → Turn → Bool
is_real w (times m source) = true
is_real w (offers m b) = true
is_real w (logs m e slot ballot size) = stands e slot ballot (w.did m)
is_real w (gets m from k) = arrives (received from (thing w from k))

-- every turn is one, in the world it comes in, and at a member that is present
unfoldable pub honest : Group → World → List Turn → Bool
honest g w [] = true
honest g w (t ∷ l) = (g.present (who t) && is_real w t) && honest g (happen w t) l

-- ── a run that passes the test is one of Wish 7's ──
-- the parts of the test
apart : (x y slot ballot : ℕ) (keys : List ℕ) → eqb x slot && (eqb y ballot && same_list keys no_keys) ≡ true → (x ≡ slot) × (y ≡ ballot) × (keys ≡ no_keys)
apart x y slot ballot keys h =
    let k : eqb y ballot && same_list keys no_keys ≡ true = and_right (eqb x slot) _ h in
    (eqb-true _ _ (and_left (eqb x slot) _ h), eqb-true _ _ (and_left (eqb y ballot) _ k), same_list-true _ _ (and_right (eqb y ballot) _ k))

-- the thing that passes is the entry, with its own batch
first_in : (e : Entry) (slot ballot : ℕ) (keys : List ℕ) (x : Action) (l : List Act) → is_entry e slot ballot keys x ≡ true → EntryIn (record { what = x; keys = keys } ∷ l) e slot ballot
first_in PrepareEntry slot ballot keys (PrepareBal p) l h =
    let (e, f, k) = apart p.slot p.ballot slot ballot keys h in rw (← e) (rw (← f) (rw k (Memᴰ.head refl)))
first_in AcceptEntry slot ballot keys (PrepareBal p) l h = absurd (clash h refl)
first_in CommitEntry slot ballot keys (PrepareBal p) l h = absurd (clash h refl)
first_in PrepareEntry slot ballot keys (AcceptData p) l h = absurd (clash h refl)
first_in AcceptEntry slot ballot keys (AcceptData p) l h =
    let (e, f, _) = apart p.slot p.ballot slot ballot no_keys h in
    (record { id = p.batch; count = p.count; keys = keys }, rw (← e) (rw (← f) (Memᴰ.head refl)))
first_in CommitEntry slot ballot keys (AcceptData p) l h = absurd (clash h refl)
first_in PrepareEntry slot ballot keys (CommitSlot p) l h = absurd (clash h refl)
first_in AcceptEntry slot ballot keys (CommitSlot p) l h = absurd (clash h refl)
first_in CommitEntry slot ballot keys (CommitSlot p) l h =
    let (e, f, k) = apart p.slot p.ballot slot ballot keys h in rw (← e) (rw (← f) (rw k (Memᴰ.head refl)))
first_in e slot ballot keys (Prepare p) l h = absurd (clash h refl)
first_in e slot ballot keys (PrepareReply p) l h = absurd (clash h refl)
first_in e slot ballot keys (Accept p) l h = absurd (clash h refl)
first_in e slot ballot keys (AcceptReply p) l h = absurd (clash h refl)
first_in e slot ballot keys (CommitNotice p) l h = absurd (clash h refl)
first_in e slot ballot keys Heartbeat l h = absurd (clash h refl)
first_in e slot ballot keys StatusUp l h = absurd (clash h refl)
first_in e slot ballot keys StatusDown l h = absurd (clash h refl)
first_in e slot ballot keys (Execute p) l h = absurd (clash h refl)
first_in e slot ballot keys (ReadAnswer p) l h = absurd (clash h refl)

later : (e : Entry) (slot ballot : ℕ) (a : Act) (l : List Act) → EntryIn l e slot ballot → EntryIn (a ∷ l) e slot ballot
later PrepareEntry slot ballot a l i = Memᴰ.tail i
later AcceptEntry slot ballot a l i = (i.0, Memᴰ.tail i.1)
later CommitEntry slot ballot a l i = Memᴰ.tail i

-- one in the list that passes
stands_in : (e : Entry) (slot ballot : ℕ) (l : List Act) → stands e slot ballot l ≡ true → EntryIn l e slot ballot
unfolding stands
stands_in e slot ballot [] h = absurd (clash h refl)
stands_in e slot ballot (a ∷ l) h =
    ⊎_elim (first_in e slot ballot a.keys a.what l) (λ k. later e slot ballot a l (stands_in e slot ballot l k)) (or_cases _ _ h)

-- each kind of turn
module _ (g : Group) (w : World) (r : Comes g w) (m : ℕ) (p : g.present m ≡ true) where
  Comes-on : (c : Call) → Happens w m c → Comes g (does w m c)
  Comes-on c h = goes r m p 3456 c (real h)

  deliver-Comes : (from : ℕ) (a : Act) → a ∈ w.did from → (l : List Call) → arrives l ≡ true → ((c : Call) → c ∈ l → c ∈ received from a) → Comes g (deliver w m l)
  unfolding deliver
  deliver-Comes from a h [] t i = absurd (clash t refl)
  deliver-Comes from a h (c ∷ l) t i = Comes-on c (message_comes from a c h (i c (Memᴰ.head refl)))

  gets_comes : (from k : ℕ) → arrives (received from (thing w from k)) ≡ true → (thing w from k ∈ w.did from) ⊎ (thing w from k ≡ bare StatusUp)
      → Comes g (deliver w m (received from (thing w from k)))
  gets_comes from k t (inl h) = deliver-Comes from (thing w from k) h (received from (thing w from k)) t (λ c i. i)
  gets_comes from k t (inr e) = absurd (clash t (ap (λ (a : Act). arrives (received from a)) e))

pub happen-Comes : (g : Group) (w : World) → Comes g w → (t : Turn) → g.present (who t) ≡ true → is_real w t ≡ true → Comes g (happen w t)
unfolding happen is_real
happen-Comes g w r (times m source) p t = Comes-on g w r m p _ (timer_fires source)
happen-Comes g w r (offers m b) p t = Comes-on g w r m p _ (batch_comes b)
happen-Comes g w r (logs m e slot ballot size) p t = Comes-on g w r m p _ (entry_done (completion e slot ballot size) (stands_in e slot ballot (w.did m) t))
happen-Comes g w r (gets m from k) p t = gets_comes g w r m p from k t (get_d_in (w.did from) k (bare StatusUp))
