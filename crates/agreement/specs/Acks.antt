-- 2.2: what stands behind a commit. Each member in accept_acks of a slot that a leader commits by replies has sent an AcceptReply for this slot at this
-- ballot, or is the leader itself; and the batch is chosen, as the paper has it, where each such reply came from a slot that was Accepting then.
use Rattle.std.specs.Prelude.{◌≡◌, refl, Bool, true, false, List, ◌⊎◌, ℕ, ltb}
use Rattle.std.proofs.Common.{ap, subst, ◌∙◌, inl, inr, arith, ltb-true, ne_eqb}
use mathlib.Core.List.Memᴰ
use Rattle.base.specs.Pick.{pick_cases, and_both, clash}
use Rattle.base.specs.Among.{◌∈◌}
use Rattle.members.specs.Sets.{has}
use Rattle.members.specs.Groups.{group_size}
use Rattle.members.specs.Laws.{group_bounds}
use Rattle.actions.specs.declared.Action.{Action}
use Rattle.actions.specs.declared.Accepted.{Accepted}
use Rattle.actions.specs.declared.Action.TheVariants.{PrepareBal, AcceptData, CommitSlot, Prepare, PrepareReply, Accept, AcceptReply, CommitNotice, Heartbeat, StatusUp, StatusDown, Execute, ReadAnswer}
use Rattle.actions.specs.Actions.{Act}
use Rattle.slots.specs.Slots.{accepting}
use Rattle.decide.specs.Scalars.{leads, may_be}
use Rattle.replica.specs.declared.Replica.{Replica}
use Rattle.replica.specs.Seen.{Made}
use Rattle.replica.specs.Record.{new_replica, fresh, zero_replica, number}
use Rattle.replica.specs.Step.{Call, call_prepare, call_prepare_reply, call_accept, call_accept_reply, call_commit_notice, call_timeout, call_logged, call_offer, call_executed, call_open_read, call_read_reply, step, received}
use Rattle.laws.proofs.Theorems.{refusals_keep}
use Rattle.voting.specs.Reached.{Good, good_new}
use Rattle.voting.specs.Backing.{stands, Stood, AcceptAck, accept_came, accept_own}
use Rattle.agreement.specs.Theorem.{Group, World, slot_of, begin, May, timer, offer, logged, execution, opening, replied, message, refused, Reach, begins, turn}

-- ── what is said ──
-- member p has sent an AcceptReply for slot s at this ballot
abbrev pub HasReplied : World → ℕ → ℕ → ℕ → Type 0
HasReplied w p s ballot = (a : Act) × (a ∈ w.did p) × ((x : Accepted) × (a.what ≡ AcceptReply x) × (x.slot ≡ s) × (x.ballot ≡ ballot))

-- every AcceptReply of a run came from a slot that was Accepting when it was sent (its ballot is the slot's: replies_on_completion)
abbrev pub Truthful : {g : Group} {w : World} → Reach g w → Type 0
Truthful begins = Unit {0}
Truthful (turn {w = u} r m p room c a) =
    Truthful r × ((y : Act) (x : Accepted) → y ∈ (step (u.replica m) room c).actions → y.what ≡ AcceptReply x → (slot_of (u.replica m) x.slot).status ≡ accepting)

-- ── an AcceptReply that arrives was sent ──
abbrev is_reply : Call → Bool
is_reply (call_accept_reply peer slot ballot) = true
is_reply (call_prepare peer trigger ballot) = false
is_reply (call_prepare_reply peer m) = false
is_reply (call_accept peer slot ballot b) = false
is_reply (call_commit_notice peer ballot bar) = false
is_reply (call_timeout source) = false
is_reply (call_logged d) = false
is_reply (call_offer b) = false
is_reply (call_executed slot) = false
is_reply (call_open_read id count keys) = false
is_reply (call_read_reply peer id from_leader reply) = false

other_call : {A : Type 0} {c d : Call} → c ≡ d → is_reply d ≡ false → is_reply c ≡ true → A
other_call e f t = absurd (clash t (ap is_reply e ∙ f))

reply_kind : (from : ℕ) (y : Action) (keys : List ℕ) (c : Call) (p s b : ℕ) → c ∈ received from (record { what = y; keys = keys }) → c ≡ call_accept_reply p s b
    → (from ≡ p) × ((x : Accepted) × (y ≡ AcceptReply x) × (x.slot ≡ s) × (x.ballot ≡ b))
reply_kind from (AcceptReply q) keys c p s b i e =
    let f : c ≡ call_accept_reply from q.slot q.ballot = Memᴰ.eq_of_singleton i in
    let e0 : from ≡ p = cc in
    let e1 : q.slot ≡ s = cc in
    let e2 : q.ballot ≡ b = cc in
    (e0, (q, refl, e1, e2))
reply_kind from (Prepare q) keys c p s b i e = other_call (Memᴰ.eq_of_singleton i) refl (ap is_reply e)
reply_kind from (PrepareReply q) keys c p s b i e = other_call (Memᴰ.eq_of_singleton i) refl (ap is_reply e)
reply_kind from (Accept q) keys c p s b i e = other_call (Memᴰ.eq_of_singleton i) refl (ap is_reply e)
reply_kind from (CommitNotice q) keys c p s b i e = other_call (Memᴰ.eq_of_singleton i) refl (ap is_reply e)
reply_kind from (PrepareBal q) keys c p s b i e = absurd (Memᴰ.not-nil i)
reply_kind from (AcceptData q) keys c p s b i e = absurd (Memᴰ.not-nil i)
reply_kind from (CommitSlot q) keys c p s b i e = absurd (Memᴰ.not-nil i)
reply_kind from Heartbeat keys c p s b i e = absurd (Memᴰ.not-nil i)
reply_kind from StatusUp keys c p s b i e = absurd (Memᴰ.not-nil i)
reply_kind from StatusDown keys c p s b i e = absurd (Memᴰ.not-nil i)
reply_kind from (Execute q) keys c p s b i e = absurd (Memᴰ.not-nil i)
reply_kind from (ReadAnswer q) keys c p s b i e = absurd (Memᴰ.not-nil i)

-- or the call is refused, and changes nothing
pub reply_sent : (w : World) (m room : ℕ) (c : Call) → May w m room c → (p s b : ℕ) → c ≡ call_accept_reply p s b
    → HasReplied w p s b ⊎ (((step (w.replica m) room c).answer ≡ 0 → ⊥) × ((step (w.replica m) room c).replica ≡ w.replica m))
reply_sent w m room _ (message from a c h i) p s b q =
    let (z, y) = reply_kind from a.what a.keys c p s b i q in
    inl (a, subst (λ (n : ℕ). a ∈ w.did n) z h, y)
reply_sent w m room _ (refused c n k) p s b q = inr (n, refusals_keep (w.replica m) room c n k)
reply_sent w m room _ (timer source) p s b q = absurd (clash (ap is_reply q) refl)
reply_sent w m room _ (offer x) p s b q = absurd (clash (ap is_reply q) refl)
reply_sent w m room _ (logged d) p s b q = absurd (clash (ap is_reply q) refl)
reply_sent w m room _ (execution slot) p s b q = absurd (clash (ap is_reply q) refl)
reply_sent w m room _ (opening id count keys) p s b q = absurd (clash (ap is_reply q) refl)
reply_sent w m room _ (replied peer id f reply) p s b q = absurd (clash (ap is_reply q) refl)

-- ── every present member is as voting's theorems want it ──
pub start_fine : (g : Group) (m : ℕ) → g.present m ≡ true → Good ((begin g).replica m).sc ((begin g).replica m).window
unfolding begin
start_fine g m p = good_new m g.size g.start (g.options m) (g.made m p)

-- a new member does not lead
pub start_follows : (g : Group) (m : ℕ) → g.present m ≡ true → leads ((begin g).replica m).sc ≡ false
unfolding begin new_replica
start_follows g m p =
    pick_cases (λ (z : Made). z.answer ≡ 0 → leads z.replica.sc ≡ false) (may_be m g.size g.start (g.options m))
    {a = record { answer = 0; replica = fresh m g.size g.start (g.options m) }}
    {b = record { answer = 10; replica = zero_replica }}
    (λ t e.
    let a = and_both (group_size g.size) _ t in
    let b = group_bounds g.size a.0 in
    let c = ltb-true m g.size (and_both (ltb m g.size) _ a.1).0 in
    ne_eqb 255 m (λ z. omega arith))
    (λ t e. absurd (omega arith))
    (g.made m p)

-- ── who is in accept_acks ──
abbrev pub sent_of : Replica → ℕ
sent_of r = r.sc.bal_prep_sent

-- at whoever leads, of each slot at its ballot
abbrev pub Behind : World → ℕ → Replica → Type 0
Behind w l r = (i p : ℕ) → Stood r i (sent_of r) → has (stands r i).accept p ≡ true → (p ≡ l) ⊎ HasReplied w p (number r.sc i) (sent_of r)

abbrev pub AcksSent : Group → World → Type 0
AcksSent g w = (l : ℕ) → g.present l ≡ true → Behind w l (w.replica l)

-- how it came by a call, with the call as an equation
pub ack_cases : {r : Replica} {i p : ℕ} {c : Call} → AcceptAck r i p c
    → ((slot : ℕ) × (ballot : ℕ) × (c ≡ call_accept_reply p slot ballot) × (ballot ≡ sent_of r) × (slot ≡ number r.sc i)) ⊎ (p ≡ r.sc.id)
ack_cases (accept_came slot ballot e s) = inl (slot, ballot, refl, e, s)
ack_cases (accept_own slot bal offset e s) = inr e
