-- What a leader hears of a slot by replies, and the largest of what it hears.
use Rattle.std.specs.Prelude.{◌≡◌, refl, Bool, true, false, not, ◌&&◌, List, [], ◌∷◌, ◌++◌, ◌⊎◌, ℕ, ◌≤◌, ◌<◌, ltb, eqb}
use Rattle.std.proofs.Common.{inl, inr, le_refl, arith}
use mathlib.Core.List.Memᴰ
use Rattle.base.specs.Pick.{pick, pick_cases, tests}
use Rattle.base.specs.Among.{◌∈◌}
use Rattle.slots.specs.declared.Vote.{Vote}
use Rattle.slots.specs.declared.Slot.{Slot}
use Rattle.decide.specs.declared.Reply.{Reply}
use Rattle.decide.specs.Scalars.{leads}
use Rattle.decide.specs.Decide.{awaits_prepare}
use Rattle.window.specs.Window.{slot_at}
use Rattle.window.specs.ByPlace.{at_place}
use Rattle.replica.specs.declared.Replica.{Replica}
use Rattle.replica.specs.declared.Done.{Done}
use Rattle.replica.specs.declared.Entry.{Entry}
use Rattle.replica.specs.declared.Entry.TheVariants.{PrepareBal, AcceptData, CommitSlot as CommitEntry}
use Rattle.replica.specs.Record.{place}
use Rattle.replica.specs.Messages.{is_elsewhere, clean_reply}
use Rattle.replica.specs.Step.{Call, call_prepare, call_prepare_reply, call_accept, call_accept_reply, call_commit_notice, call_timeout, call_logged, call_offer, call_executed, call_open_read, call_read_reply}
use Rattle.laws.specs.WaysReply.{grown_window}
use Rattle.laws.specs.WaysDurability.{logged}
use Rattle.voting.specs.History.{Lent, told}
use Rattle.voting.specs.Logging.{own_answer, own_book}

-- what a slot holds for its leader: the batch, and the largest voted ballot that a reply brought (prepare_max_bal)
abbrev pub held_by : Slot → Vote
held_by s = record { ballot = s.leader.prepare_max_bal; batch = s.batch }

abbrev pub held_at : Replica → ℕ → Vote
held_at r s = held_by (at_place r.window (place r.sc s))

-- a vote replaces what is held only with a strictly larger ballot: the largest of a list, the first of those
abbrev pub best : Vote → List Vote → Vote
best held [] = held
best held (v ∷ l) = best (pick (ltb held.ballot v.ballot) v held) l

-- a reply arrives for slot s while it waits for it: self leads, the ballot is bal_prep_sent, its trigger is none that a strict leader ignores and has
-- the leader's bookkeeping, and the slot (appended where the log does not reach it) is Preparing at no larger ballot
abbrev pub arrives : Replica → Reply → ℕ → Bool
arrives r m s =
    eqb m.slot s && (leads r.sc && (eqb m.ballot r.sc.bal_prep_sent
    && (not (is_elsewhere r.sc m) && ((slot_at r.window (place r.sc m.trigger)).leader.present && awaits_prepare (slot_at (grown_window r m) (place r.sc m.slot)) m.ballot))))

-- the vote that it brings, where the call is answered 0 and it tells of one
abbrev pub brings : Replica → Reply → ℕ → ℕ → List Vote
brings r m s answer = pick (arrives r m s && (eqb answer 0 && (m.voted && ltb 0 m.vote.ballot))) (m.vote ∷ []) []

-- a call's reply: one that arrives, or the leader's own at the end of its PrepareBal entry
abbrev pub heard : Replica → Lent → ℕ → List Vote
heard r c s = by c.call
  where
    own : Done → Entry → List Vote
    own d PrepareBal = pick (own_book r d) (brings (logged r d) (own_answer r d) s (told r c).answer) []
    own d AcceptData = []
    own d CommitEntry = []

    by : Call → List Vote
    by (call_prepare_reply peer m) = brings r (clean_reply m) s (told r c).answer
    by (call_logged d) = own d d.entry
    by (call_accept peer slot ballot b) = []
    by (call_prepare peer trigger ballot) = []
    by (call_accept_reply peer slot ballot) = []
    by (call_commit_notice peer ballot bar) = []
    by (call_timeout source) = []
    by (call_offer b) = []
    by (call_executed slot) = []
    by (call_open_read id count keys) = []
    by (call_read_reply peer id from_leader reply) = []

abbrev pub heard_in : Replica → List Lent → ℕ → List Vote
heard_in r [] s = []
heard_in r (c ∷ h) s = heard r c s ++ heard_in (told r c).replica h s

-- self leads before and after the call, at one ballot; and the slot is there before it, or the call is no offer
abbrev pub no_offer : Call → Bool
no_offer (call_offer b) = false
no_offer (call_prepare_reply peer m) = true
no_offer (call_logged d) = true
no_offer (call_accept peer slot ballot b) = true
no_offer (call_prepare peer trigger ballot) = true
no_offer (call_accept_reply peer slot ballot) = true
no_offer (call_commit_notice peer ballot bar) = true
no_offer (call_timeout source) = true
no_offer (call_executed slot) = true
no_offer (call_open_read id count keys) = true
no_offer (call_read_reply peer id from_leader reply) = true

pub record Steady (r : Replica) (c : Lent) (s : ℕ) : Type 0 where
  pub leading : leads r.sc ≡ true
  pub leads_on : leads (told r c).replica.sc ≡ true
  pub same : (told r c).replica.sc.bal_prep_sent ≡ r.sc.bal_prep_sent
  pub here : (place r.sc s < r.window.len) ⊎ (no_offer c.call ≡ true)

abbrev pub Reign : Replica → List Lent → ℕ → Type 0
Reign r [] s = Unit {0}
Reign r (c ∷ h) s = Steady r c s × Reign (told r c).replica h s

-- ── the largest of a list ──
pub best-append : (v : Vote) (k l : List Vote) → best v (k ++ l) ≡ best (best v k) l
best-append v [] l = refl
best-append v (x ∷ k) l = best-append (pick (ltb v.ballot x.ballot) x v) k l

pub best_above : (v : Vote) (l : List Vote) → v.ballot ≤ (best v l).ballot
best_above v [] = le_refl v.ballot
best_above v (x ∷ l) =
    pick_cases (λ (y : Vote). v.ballot ≤ (best y l).ballot) (ltb v.ballot x.ballot)
    (λ t. omega (arith, tests, best_above x l)) (λ t. best_above v l)

pub best_is_from : (v : Vote) (l : List Vote) → (best v l ≡ v) ⊎ (best v l ∈ l)
best_is_from v [] = inl refl
best_is_from v (x ∷ l) =
    pick_cases (λ (y : Vote). (best y l ≡ v) ⊎ (best y l ∈ (x ∷ l))) (ltb v.ballot x.ballot) (λ t. one (best_is_from x l)) (λ t. two (best_is_from v l))
  where
    one : (best x l ≡ x) ⊎ (best x l ∈ l) → (best x l ≡ v) ⊎ (best x l ∈ (x ∷ l))
    one (inl e) = inr (Memᴰ.head e)
    one (inr m) = inr (Memᴰ.tail m)

    two : (best v l ≡ v) ⊎ (best v l ∈ l) → (best v l ≡ v) ⊎ (best v l ∈ (x ∷ l))
    two (inl e) = inl e
    two (inr m) = inr (Memᴰ.tail m)
