-- A commit by replies: a majority of distinct members of the group is in the slot's accept_acks, the sender of the last one among them.
use Rattle.std.specs.Prelude.{◌≡◌, refl, true, false, [], ◌∷◌, ℕ, ◌≤◌, ◌<◌, get_or}
use Rattle.std.proofs.Common.{sym, ap, subst, ◌∙◌, arith}
use mathlib.Core.List.Memᴰ
use Rattle.base.specs.Among.{◌∈◌}
use Rattle.members.specs.Sets.{has, insert, count_in, fits_group}
use Rattle.members.specs.Laws.{within_insert}
use Rattle.actions.specs.declared.Action.TheVariants.{CommitSlot}
use Rattle.actions.specs.Actions.{Act, bare, numbers_of}
use Rattle.slots.specs.declared.LeaderBook.{LeaderBook}
use Rattle.slots.specs.declared.Slot.{Slot}
use Rattle.slots.specs.Slots.{committed_slot, acknowledged_slot, committed, logged_slot, accepting}
use Rattle.decide.specs.Scalars.{leads, quorum}
use Rattle.window.specs.declared.Window.{Window}
use Rattle.window.specs.Window.{slot_at, put_slot}
use Rattle.window.specs.Places.{put_here}
use Rattle.window.specs.ByPlace.{at_place, put_at, at_here}
use Rattle.replica.specs.declared.Replica.{Replica}
use Rattle.replica.specs.declared.Done.{Done}
use Rattle.replica.specs.declared.Entry.TheVariants.{PrepareBal, AcceptData, CommitSlot as CommitEntry}
use Rattle.replica.specs.Record.{Outcome, place}
use Rattle.replica.specs.Fit.{fit}
use Rattle.replica.specs.Durability.{logged_on}
use Rattle.replica.specs.Step.{call_accept_reply, call_logged, step}
use Rattle.laws.specs.OfFit.{fit_facts}
use Rattle.laws.specs.WaysMessages.{accept_reply_step_ways}
use Rattle.laws.specs.WaysDurability.{completion, logged, logged_at, Logs, other_entry}
use Rattle.voting.specs.Paper.{Majority, quorum_is_majority, majorities_meet}
use Rattle.voting.specs.Windows.{Whole, Whole-put}
use Rattle.voting.specs.Keeping.{logged_keeps}
use Rattle.voting.specs.Claims.{Claim, Of}
use Rattle.voting.specs.Logging.{LogWays, logged_way}

abbrev pub commit_of : ℕ → ℕ → Act
commit_of slot ballot = bare (CommitSlot (record { slot = slot; ballot = ballot }))

-- the members that acknowledged the Accept of slot s
abbrev pub acks_of : Window → ℕ → ℕ
acks_of w i = (at_place w i).leader.accept_acks

-- the slot at place i was Accepting and is Committed; a majority acknowledged it, the last one now
pub record Committed (r : Replica) (w : Window) (i peer : ℕ) : Type 0 where
  pub accepts : (at_place r.window i).status ≡ accepting
  pub leading : leads r.sc ≡ true
  pub marked : (at_place w i).status ≡ committed
  pub majority : Majority r.sc.group (acks_of w i)
  pub fresh : has (acks_of r.window i) peer ≡ false
  pub last : acks_of w i ≡ insert (acks_of r.window i) peer

abbrev Commits : Replica → ℕ → ℕ → ℕ → ℕ → Claim
Commits r slot said i peer a sc w acts = commit_of slot said ∈ acts → Committed r w i peer

never : {A : Type 0} (slot said : ℕ) → commit_of slot said ∈ [] → A
never slot said m = absurd (Memᴰ.not-nil m)

-- from the slot as the replica has it, and the slot s to which it was made before it is acknowledged: they differ in wal_offset alone
module _ (r : Replica) (w : Window) (i peer : ℕ) (s : Slot) (f : fit r ≡ true) (h : Whole w) (n : w.len ≡ r.window.len) (l : i < r.window.len) (p : peer < r.sc.group)
    (b : s.leader ≡ (slot_at r.window i).leader) (c : s.status ≡ (slot_at r.window i).status) where
  Committed-by : leads r.sc ≡ true → s.status ≡ accepting → has s.leader.accept_acks peer ≡ false
      → quorum r.sc ≤ count_in (insert s.leader.accept_acks peer) → Committed r (put_slot w i (committed_slot (acknowledged_slot peer s))) i peer
  Committed-by leading status new k =
      let here = at_here r.window i l in
      let g = fit_facts r f in
      let put = put_at w i (committed_slot (acknowledged_slot peer s)) (omega arith) (omega (arith, g.numbers.window)) in
      let same : s.leader.accept_acks ≡ acks_of r.window i = ap (λ (v : LeaderBook). v.accept_acks) (b ∙ ap (λ (v : Slot). v.leader) (sym here)) in
      let acks : acks_of (put_slot w i (committed_slot (acknowledged_slot peer s))) i ≡ insert (acks_of r.window i) peer =
      ap (λ (v : Slot). v.leader.accept_acks) put ∙ ap (λ (v : ℕ). insert v peer) same in
      let old : fits_group (acks_of r.window i) r.sc.group ≡ true = subst (λ (v : Slot). fits_group v.leader.accept_acks r.sc.group ≡ true) (sym here) (g.slots i l).accept in
      record {
        accepts = ap (λ (v : Slot). v.status) here ∙ sym c ∙ status;
        leading = leading;
        marked = ap (λ (v : Slot). v.status) put;
        majority =
            subst (Majority r.sc.group) (sym acks)
            ((quorum_is_majority r.sc.group (insert (acks_of r.window i) peer) (within_insert (acks_of r.window i) r.sc.group peer old p)).1
            (subst (λ (v : ℕ). quorum r.sc ≤ count_in (insert v peer)) same k));
        fresh = subst (λ (v : ℕ). has v peer ≡ false) same new;
        last = acks;
      }

-- 2.2: an AcceptReply that commits: on any record with a window of 64 slots
pub commit_by_reply : (r : Replica) (room peer slot ballot said : ℕ) → Whole r.window
    → commit_of slot said ∈ (step r room (call_accept_reply peer slot ballot)).actions → Committed r (step r room (call_accept_reply peer slot ballot)).replica.window (place r.sc slot) peer
unfolding Of
commit_by_reply r room peer slot ballot said h =
    accept_reply_step_ways (Of (Commits r slot said (place r.sc slot) peer)) r room peer slot ballot (λ a l. never slot said) (λ f q. never slot said)
    (λ f q m. Committed-by r r.window (place r.sc slot) peer (slot_at r.window (place r.sc slot)) f.fits h refl
    (let x = f.low in let y = f.high in omega arith) f.peer_is.member refl refl f.counts.leading f.counts.status f.counts.new q)

-- the ballot that an action says
abbrev pub ballot_in : Act → ℕ
ballot_in a = get_or (numbers_of a.what a.keys) 5 0

-- the slot is at the reply's ballot, and its entry says this ballot
pub commit_is_at : (r : Replica) (room peer slot ballot said : ℕ) → commit_of slot said ∈ (step r room (call_accept_reply peer slot ballot)).actions
    → ((at_place r.window (place r.sc slot)).ballot ≡ ballot) × (said ≡ ballot)
commit_is_at r room peer slot ballot said =
    accept_reply_step_ways (λ (o : Outcome). commit_of slot said ∈ o.actions → ((at_place r.window (place r.sc slot)).ballot ≡ ballot) × (said ≡ ballot)) r room peer slot ballot
    (λ a l. never slot said) (λ f q. never slot said)
    (λ f q m. (
      ap (λ (v : Slot). v.ballot) (at_here r.window (place r.sc slot) (let x = f.low in let y = f.high in omega arith)) ∙ f.counts.even,
      ap ballot_in (Memᴰ.eq_of_singleton m) ∙ f.counts.even,
    ))

-- two slots committed by replies, at any two members of one group: their majorities share a member
pub commits_meet : (r r' : Replica) (w w' : Window) (i j peer peer' : ℕ) → r.sc.group ≡ r'.sc.group → r.sc.group ≤ 9 → Committed r w i peer → Committed r' w' j peer'
    → (m : ℕ) × (m < r.sc.group) × (has (acks_of w i) m ≡ true) × (has (acks_of w' j) m ≡ true)
commits_meet r r' w w' i j peer peer' e l a b =
    majorities_meet r.sc.group (acks_of w i) (acks_of w' j) l a.majority (subst (λ (x : ℕ). Majority x (acks_of w' j)) (sym e) b.majority)

-- ── a leader's own AcceptData entry ──
abbrev pub kind_of : Act → ℕ
kind_of a = get_or (numbers_of a.what a.keys) 0 0

other_act : {A : Type 0} (slot said : ℕ) (a : Act) → (kind_of a ≡ 3 → ⊥) → commit_of slot said ∈ (a ∷ []) → A
other_act slot said a n m = absurd (n (sym (ap kind_of (Memᴰ.eq_of_singleton m))))

pub logged_same : (r : Replica) (d : Done) → Whole r.window → place r.sc d.slot < r.window.len → r.window.len ≤ 64
    → logged_at r d ≡ logged_slot r.sc.wal_offset (slot_at r.window (place r.sc d.slot))
unfolding logged_on
logged_same r d h l u =
    put_here r.window (place r.sc d.slot) (logged_slot r.sc.wal_offset (slot_at r.window (place r.sc d.slot))) (omega arith)

own_commits : (r : Replica) (slot said bal size : ℕ) → Whole r.window → Logs r (completion AcceptData slot bal size)
    → LogWays (Commits r slot said (place r.sc slot) r.sc.id) r (completion AcceptData slot bal size)
unfolding Of logged_on
own_commits r slot said bal size h f =
    let d : Done = completion AcceptData slot bal size in
    let g = fit_facts r f.fits in
    let l : place r.sc slot < r.window.len = (let x = f.low in let y = f.high in omega arith) in
    let e = logged_same r d h l g.numbers.window in
    record {
      only = λ u. never slot said;
      own = other_entry AcceptData PrepareBal refl;
      promised = other_entry AcceptData PrepareBal refl;
      acked = λ x _. never slot said;
      commits = λ x _ a k m.
          Committed-by r (logged r d).window (place r.sc slot) r.sc.id (logged_at r d) f.fits (Whole-put r.window (place r.sc slot) _ h) refl l g.numbers.member
          (ap (λ (v : Slot). v.leader) e ∙ logged_keeps (λ (v : Slot). v.leader) (λ s n. refl) r.sc.wal_offset (slot_at r.window (place r.sc slot)))
          (ap (λ (v : Slot). v.status) e ∙ logged_keeps (λ (v : Slot). v.status) (λ s n. refl) r.sc.wal_offset (slot_at r.window (place r.sc slot)))
          a.leading a.status a.new k;
      answered = λ x _ n. other_act slot said _ (λ z. omega arith);
      passes = other_entry AcceptData CommitEntry refl;
    }

-- the same for the leader's own: "equivalent to receiving an Accept reply from myself"
pub commit_by_own : (r : Replica) (room slot said bal size : ℕ) → Whole r.window
    → commit_of slot said ∈ (step r room (call_logged (completion AcceptData slot bal size))).actions
    → Committed r (step r room (call_logged (completion AcceptData slot bal size))).replica.window (place r.sc slot) r.sc.id
unfolding Of
commit_by_own r room slot said bal size h =
    logged_way (Commits r slot said (place r.sc slot) r.sc.id) r (completion AcceptData slot bal size) room (λ a l u. never slot said) (λ f. own_commits r slot said bal size h f)
