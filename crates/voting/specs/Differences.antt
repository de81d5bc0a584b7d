-- Where `step` differs from "Paxos Made Simple": each difference as a theorem, and as a run from a new replica, closed by computation.
use Rattle.std.specs.Prelude.{◌≡◌, refl, Bool, true, false, not, ◌&&◌, List, [], ◌∷◌, ◌++◌, ℕ, ◌+◌, ◌≤◌, ◌<◌, T, eqb, replicate, ◌⊎◌, ◌↔◌}
use Rattle.std.proofs.Common.{sym, ap, ◌∙◌, le_refl, le_of_eq, inl, inr, arith}
use mathlib.Core.List.Memᴰ
use borrow.Author.Tests.{le-ltb, eq-eqb, le-leb, leb-true, ltb-true, lt-ltb}
use Rattle.base.specs.Scan.{scan}
use Rattle.members.specs.Sets.{has, insert, count, count_in}
use Rattle.members.specs.Ballots.{owns}
use Rattle.batch.specs.declared.Batch.{Batch}
use Rattle.batch.specs.Batches.{is_batch, make_batch, same_list}
use Rattle.batch.specs.Keys.{place_in, note_key, note_keys, new_keys, overfull_in, overfull}
use Rattle.tally.specs.Open.{fit_reads}
use Rattle.actions.specs.Actions.{flat, bare}
use Rattle.slots.specs.declared.Slot.{Slot}
use Rattle.slots.specs.Slots.{no_vote, null_slot, preparing, accepting, prepared_slot, fit_slot}
use Rattle.decide.specs.declared.Reply.{Reply}
use Rattle.decide.specs.Scalars.{leads, is_peer, strict, fit_scalars}
use Rattle.decide.specs.Bars.{not_above, least_majority, with_bar, with_fallen}
use Rattle.decide.specs.Decide.{decide_accept, decide_accept_reply, decide_vote, decide_count, decide_promised, decide_accepted, decide_offer}
use Rattle.window.specs.Counting.{counts}
use Rattle.window.specs.Window.{slot_at, fit_slots, last_used, first_open, last_open, mark_stop, filled}
use Rattle.window.specs.Places.{filled_has, filled_most}
use Rattle.window.specs.ByPlace.{at_place, put_at, sweep_at}
use Rattle.window.specs.Acts.{promise, redo_acts}
use Rattle.replica.specs.declared.Replica.{Replica}
use Rattle.replica.specs.declared.Entry.TheVariants.{PrepareBal, AcceptData}
use Rattle.replica.specs.Record.{Outcome, kept, new_replica, noting, settled, place, number}
use Rattle.replica.specs.Fit.{ready, fit}
use Rattle.replica.specs.Messages.{prepare_book, prepare_on, prepare_step, counted_on, voted_on, replied_on, reply_on, prepare_reply_step, accept_step, accept_reply_step, clean}
use Rattle.replica.specs.Leadership.{lead_on, step_up, timeout_step, mark_on, commit_notice_step}
use Rattle.replica.specs.Durability.{prepared_done, moved_accept, accepted_done, pass_on, pass_stop, committed_done, logged_on, logged_step}
use Rattle.replica.specs.Added.{offer_step}
use Rattle.replica.specs.Step.{Call, call_prepare, call_prepare_reply, call_accept, call_accept_reply, call_commit_notice, call_timeout, call_logged, step}
use Rattle.laws.specs.OfFit.{fit_facts}
use Rattle.laws.specs.WaysMessages.{prepare_window, prepare_end, prepare_step_ways, accept_window, accept_step_ways}
use Rattle.laws.specs.WaysLeadership.{lead_window, lead_trigger, lead_from, timeout_step_ways}
use Rattle.laws.specs.WaysDurability.{completion}
use Rattle.voting.specs.Paper.{answers_prepare, may_accept}
use Rattle.voting.specs.Windows.{Whole, Whole-grown}
use Rattle.voting.specs.Promises.{PrepareActs, AcceptActs, taken_entry, accept_other, accept_high, accept_told}
use Rattle.voting.specs.Reached.{Good, reached_prepare_iff, reached_accept_iff}
use Rattle.base.specs.Among.{◌∈◌}
use Rattle.base.specs.Gather.{gather}
use Rattle.actions.specs.declared.Action.TheVariants.{Prepare}
use Rattle.voting.specs.Claims.{Claim, Of}
use Rattle.base.specs.Pick.{same?, larger_left}

-- ── 2.2: a Prepare at the largest ballot seen is answered again: the paper's acceptor answers only a larger one ──
pub prepare_again : (r : Replica) (g : Good r.sc r.window) (room peer slot ballot : ℕ) (f : ready r room ≡ true) (p : is_peer r.sc peer ≡ true)
    (o : owns ballot peer ≡ true) (l : r.sc.start ≤ slot) (u : slot < r.sc.start + 64) → ballot ≡ r.sc.bal_max_seen
    → (PrepareActs r room peer slot ballot f p o l u) × (answers_prepare r.sc.bal_max_seen ballot ≡ false)
prepare_again r g room peer slot ballot f p o l u e =
    ((reached_prepare_iff r g room peer slot ballot f p o l u).1 (le_of_eq (sym e)), le-ltb r.sc.bal_max_seen ballot (le_of_eq e))

-- on a replica reached from a new one, ours answers wherever the paper's does, and at one more ballot
pub prepare_as_paper : (r : Replica) (g : Good r.sc r.window) (room peer slot ballot : ℕ) (f : ready r room ≡ true) (p : is_peer r.sc peer ≡ true)
    (o : owns ballot peer ≡ true) (l : r.sc.start ≤ slot) (u : slot < r.sc.start + 64)
    → PrepareActs r room peer slot ballot f p o l u ↔ ((answers_prepare r.sc.bal_max_seen ballot ≡ true) ⊎ (ballot ≡ r.sc.bal_max_seen))
prepare_as_paper r g room peer slot ballot f p o l u =
    (λ a. split ((reached_prepare_iff r g room peer slot ballot f p o l u).0 a), λ e. (reached_prepare_iff r g room peer slot ballot f p o l u).1 (join e))
  where
    split : r.sc.bal_max_seen ≤ ballot → (answers_prepare r.sc.bal_max_seen ballot ≡ true) ⊎ (ballot ≡ r.sc.bal_max_seen)
    split h = go (same? ballot r.sc.bal_max_seen)
      where
        go : (ballot ≡ r.sc.bal_max_seen) ⊎ (ballot ≡ r.sc.bal_max_seen → ⊥) → (answers_prepare r.sc.bal_max_seen ballot ≡ true) ⊎ (ballot ≡ r.sc.bal_max_seen)
        go (inl e) = inr e
        go (inr n) = inl (lt-ltb r.sc.bal_max_seen ballot (omega arith))

    join : (answers_prepare r.sc.bal_max_seen ballot ≡ true) ⊎ (ballot ≡ r.sc.bal_max_seen) → r.sc.bal_max_seen ≤ ballot
    join (inl t) = let z = ltb-true r.sc.bal_max_seen ballot t in omega arith
    join (inr e) = omega arith

-- 2.2, P1a: an Accept is as the paper's, where the key table has room (7) and it names no other batch for a slot that a strict replica has committed (15)
pub accept_as_paper : (r : Replica) (g : Good r.sc r.window) (room peer slot ballot : ℕ) (f : ready r room ≡ true) (p : is_peer r.sc peer ≡ true)
    (o : owns ballot peer ≡ true) (l : r.sc.start ≤ slot) (u : slot < r.sc.start + 64) (b : Batch) (q : is_batch b.id b.count ≡ true) → accept_other r slot b ≡ false
    → overfull r.keys (clean b) ≡ false → AcceptActs r room peer slot ballot b f p o q l u ↔ (may_accept r.sc.bal_max_seen ballot ≡ true)
accept_as_paper r g room peer slot ballot f p o l u b q n k = (
  λ a. le-leb r.sc.bal_max_seen ballot ((reached_accept_iff r g room peer slot ballot f p o l u b q n k).0 a),
  λ t. (reached_accept_iff r g room peer slot ballot f p o l u b q n k).1 (leb-true r.sc.bal_max_seen ballot t),
)

-- ── 2.5: a leader's Prepare leaves in the call that asks for its own entries, before they are durable ──
abbrev Asks : Replica → Claim
Asks r a sc w acts = (sc.bal_prep_sent ≡ r.sc.bal_prep_sent → ⊥) → (trigger : ℕ) × (bare (Prepare (record { trigger = trigger; ballot = sc.bal_prep_sent })) ∈ acts)

pub prepare_at_once : (r : Replica) (room source : ℕ) → ((step r room (call_timeout source)).replica.sc.bal_prep_sent ≡ r.sc.bal_prep_sent → ⊥)
    → (trigger : ℕ) × (bare (Prepare (record { trigger = trigger; ballot = (step r room (call_timeout source)).replica.sc.bal_prep_sent })) ∈ (step r room (call_timeout source)).actions)
unfolding Of
prepare_at_once r room source =
    timeout_step_ways (Of (Asks r)) r room source (λ a l n. absurd (n refl))
    (λ b f n. (
      lead_trigger r,
      Memᴰ.tail (Memᴰ.tail
          (Memᴰ.append_right (gather (λ i. redo_acts (number r.sc i) b (slot_at (lead_window r) i)) (lead_from r) (lead_window r).len) (Memᴰ.head refl))),
    ))

-- ── a deposed leader answers 4 to a late reply at its own ballot, at any slot from start on, and changes nothing ──
pub deposed_4 : (r : Replica) (room peer : ℕ) (m : Reply) → ready r room ≡ true → is_peer r.sc peer ≡ true
    → (m.voted && not (is_batch m.vote.batch.id m.vote.batch.count)) ≡ false → r.sc.start ≤ m.slot → m.ballot ≡ r.sc.bal_prep_sent → leads r.sc ≡ false
    → step r room (call_prepare_reply peer m) ≡ kept 4 r
unfolding prepare_reply_step reply_on
deposed_4 r room peer m f p v l b d =
    rw (f, p, v, le-ltb m.slot r.sc.start l, eq-eqb m.ballot r.sc.bal_prep_sent b, d)

-- ── 2.3: a learner forgets: a Prepare or an Accept that acts puts its slot back, whatever its status, Committed and Executed too ──
pub prepare_puts_back : (r : Replica) (room peer trigger ballot : ℕ) → Whole r.window → strict r.sc ≡ false → promise trigger ballot ∈ (step r room (call_prepare peer trigger ballot)).actions
    → (at_place (step r room (call_prepare peer trigger ballot)).replica.window (place r.sc trigger)).status ≡ preparing
prepare_puts_back r room peer trigger ballot h base =
    prepare_step_ways (λ (o : Outcome). promise trigger ballot ∈ o.actions → (at_place o.replica.window (place r.sc trigger)).status ≡ preparing) r room peer trigger ballot
    (λ a l m. absurd (Memᴰ.not-nil m))
    (λ f m.
    let i : ℕ = place r.sc trigger in
    let has = filled_has null_slot r.window (i + 1) in
    let most = filled_most null_slot r.window (i + 1) 64 (fit_facts r f.fits).numbers.window (omega (arith, f.high)) in
    let long = Whole-grown r.window (i + 1) h in
    let top = larger_left i (last_used (prepare_window r trigger)) in
    ap (λ (s : Slot). s.status)
    (sweep_at (λ k s. prepared_slot (strict r.sc) ballot (prepare_book r.sc (prepare_window r trigger) i peer) s) i (prepare_end r trigger) (prepare_window r trigger) i (omega arith) (le_refl i)
    (omega arith) (omega arith))
    ∙ rw base)

pub accept_puts_back : (r : Replica) (room peer slot ballot : ℕ) (b : Batch) → Whole r.window → strict r.sc ≡ false → taken_entry slot ballot b ∈ (step r room (call_accept peer slot ballot b)).actions
    → (at_place (step r room (call_accept peer slot ballot b)).replica.window (place r.sc slot)).status ≡ accepting
accept_puts_back r room peer slot ballot b h base =
    accept_step_ways (λ (o : Outcome). taken_entry slot ballot b ∈ o.actions → (at_place o.replica.window (place r.sc slot)).status ≡ accepting) r room peer slot ballot b
    (λ a l m. absurd (Memᴰ.not-nil m))
    (λ f m.
    let i : ℕ = place r.sc slot in
    let has = filled_has null_slot r.window (i + 1) in
    let most = filled_most null_slot r.window (i + 1) 64 (fit_facts r f.fits).numbers.window (omega (arith, f.high)) in
    let long = Whole-grown r.window (i + 1) h in
    ap (λ (s : Slot). s.status) (put_at (accept_window r slot) i _ (omega arith) (omega arith)) ∙ rw base)

-- ── 2.2, P1a: a proposal that the paper's acceptor accepts, in a batch's numbers and from the ballot's owner, is refused where the slot lies past the
-- window (5), where the slot has a larger ballot (6: on no replica reached from a new one, never_high_accept), and where the key table is full (7) ──
module _ (r : Replica) (room peer slot ballot : ℕ) (b : Batch) (f : ready r room ≡ true) (p : is_peer r.sc peer ≡ true) (o : owns ballot peer ≡ true)
    (q : is_batch b.id b.count ≡ true) (l : r.sc.start ≤ slot) (may : may_accept r.sc.bal_max_seen ballot ≡ true) where
  pub accept_5 : r.sc.start + 64 ≤ slot → step r room (call_accept peer slot ballot b) ≡ kept 5 r
  unfolding accept_step
  accept_5 u = rw (f, p, o, q, le-ltb slot r.sc.start l, le-ltb ballot r.sc.bal_max_seen (leb-true _ _ may), le-leb (r.sc.start + 64) slot u)

  module _ (u : slot < r.sc.start + 64) where
    pub accept_15 : accept_other r slot b ≡ true → step r room (call_accept peer slot ballot b) ≡ kept 15 r
    accept_15 n = accept_told r room peer slot ballot b f p o q l u ∙ rw (le-ltb ballot r.sc.bal_max_seen (leb-true _ _ may), n)

    pub accept_6 : accept_other r slot b ≡ false → accept_high r slot ballot ≡ true → step r room (call_accept peer slot ballot b) ≡ kept 6 r
    accept_6 n h = accept_told r room peer slot ballot b f p o q l u ∙ rw (le-ltb ballot r.sc.bal_max_seen (leb-true _ _ may), n, h)

    pub accept_7 : accept_other r slot b ≡ false → accept_high r slot ballot ≡ false → overfull r.keys (clean b) ≡ true → step r room (call_accept peer slot ballot b) ≡ kept 7 r
    accept_7 n h k = accept_told r room peer slot ballot b f p o q l u ∙ rw (le-ltb ballot r.sc.bal_max_seen (leb-true _ _ may), n, h, k)

-- ── runs ──
-- what is looked at after a call: the slots present, the largest ballot seen, the believed leader, bal_prepared; the status, batch and vote
-- of slot 0; the status of slot 1
abbrev pub look : Replica → List ℕ
look r =
    r.window.len ∷ r.sc.bal_max_seen ∷ r.sc.leader ∷ r.sc.bal_prepared ∷ (slot_at r.window 0).status ∷ (slot_at r.window 0).batch.id
    ∷ (slot_at r.window 0).vote.ballot ∷ (slot_at r.window 0).vote.batch.id ∷ (slot_at r.window 1).status ∷ []

abbrev pub looks : ℕ → ℕ → ℕ → ℕ → ℕ → ℕ → ℕ → ℕ → ℕ → List ℕ
looks len seen leader prepared status batch ballot voted next = len ∷ seen ∷ leader ∷ prepared ∷ status ∷ batch ∷ ballot ∷ voted ∷ next ∷ []

-- one call, and what is to come of it
pub record Turn : Type 0 where
  pub call : Call
  pub answer : ℕ
  pub seen : List ℕ
  pub numbers : List ℕ

abbrev pub turn : Call → ℕ → List ℕ → List ℕ → Turn
turn c answer seen numbers = record { call = c; answer = answer; seen = seen; numbers = numbers }

unfoldable pub goes : Replica → List Turn → Bool
goes r [] = true
goes r (t ∷ ts) =
    (eqb (step r 3456 t.call).answer t.answer && (same_list (look (step r 3456 t.call).replica) t.seen && same_list (flat (step r 3456 t.call).actions) t.numbers))
    && goes (step r 3456 t.call).replica ts

pub record Run : Type 0 where
  pub id : ℕ
  pub turns : List Turn

abbrev pub run : ℕ → List Turn → Run
run id turns = record { id = id; turns = turns }

-- each from a new replica of a group of 3, from slot 0
unfoldable pub all_go : List Run → Bool
all_go [] = true
all_go (k ∷ ks) = goes (new_replica k.id 3 0 0).replica k.turns && all_go ks

-- an action's numbers, its keys none
abbrev pub row : ℕ → ℕ → ℕ → ℕ → ℕ → ℕ → ℕ → ℕ → List ℕ
row kind member slot trigger endprep ballot voted batch = kind ∷ member ∷ slot ∷ trigger ∷ endprep ∷ ballot ∷ voted ∷ batch ∷ replicate 10 0

abbrev pub prepare_bal : ℕ → ℕ → List ℕ
prepare_bal slot ballot = row 1 0 slot 0 0 ballot 0 0

abbrev pub accept_both : ℕ → ℕ → ℕ → List ℕ
accept_both slot ballot batch = row 2 0 slot 0 0 ballot 0 batch ++ row 6 255 slot 0 0 ballot 0 batch

-- a reply with no vote, and one with a vote
abbrev pub reply : ℕ → ℕ → ℕ → Reply
reply slot endprep ballot = record { slot = slot; trigger = 0; endprep = endprep; ballot = ballot; voted = false; vote = no_vote; bar = 0 }

abbrev pub batch_of : ℕ → Batch
batch_of id = record { id = id; count = 0; keys = replicate 8 0 }

abbrev pub voting : ℕ → ℕ → ℕ → ℕ → ℕ → Reply
voting slot endprep ballot voted id =
    record { slot = slot; trigger = 0; endprep = endprep; ballot = ballot; voted = true; vote = record { ballot = voted; batch = batch_of id }; bar = 0 }

unfoldable pub differences : List Run
differences =
    -- a Prepare at the largest ballot seen is answered again
    run 2
    (turn (call_prepare 0 0 257) 0 (looks 1 257 0 0 1 0 0 0 0) (prepare_bal 0 257)
    ∷ turn (call_prepare 0 0 257) 0 (looks 1 257 0 0 1 0 0 0 0) (prepare_bal 0 257)
    ∷ [])
    -- Prepare is sent in the call that asks for the leader's own entry, before it is durable; a quorum of others is enough to enter
    -- Accept, and to commit, with that entry never told durable; and the leader's slot has no vote of its own
    ∷ run 0
    (turn (call_timeout 0) 0 (looks 1 257 0 0 1 0 0 0 0) (row 10 0 0 0 0 0 0 0 ++ row 9 255 0 0 0 0 0 0 ++ prepare_bal 0 257 ++ row 4 255 0 0 0 257 0 0)
    ∷ turn (call_prepare_reply 1 (reply 0 0 257)) 0 (looks 1 257 0 0 1 0 0 0 0) []
    ∷ turn (call_prepare_reply 2 (voting 0 0 257 3 9)) 0 (looks 1 257 0 257 2 9 0 0 0) (accept_both 0 257 9)
    ∷ turn (call_accept_reply 1 0 257) 0 (looks 1 257 0 257 2 9 0 0 0) []
    ∷ turn (call_accept_reply 2 0 257) 0 (looks 1 257 0 257 3 9 0 0 0) (row 3 0 0 0 0 257 0 0)
    ∷ [])
    -- a completion's ballot is ignored: the entry of ballot 257 is durable, and the answer is at 258, to 258's owner, once for each entry
    ∷ run 2
    (turn (call_prepare 0 0 257) 0 (looks 1 257 0 0 1 0 0 0 0) (prepare_bal 0 257)
    ∷ turn (call_prepare 1 0 258) 0 (looks 1 258 1 0 1 0 0 0 0) (prepare_bal 0 258)
    ∷ turn (call_logged (completion PrepareBal 0 257 40)) 0 (looks 1 258 1 0 1 0 0 0 0) (row 5 1 0 0 0 258 0 0)
    ∷ turn (call_logged (completion PrepareBal 0 258 80)) 0 (looks 1 258 1 0 1 0 0 0 0) (row 5 1 0 0 0 258 0 0)
    ∷ [])
    ∷ run 2
    (turn (call_accept 0 0 257 (batch_of 7)) 0 (looks 1 257 0 0 2 7 257 7 0) (row 2 0 0 0 0 257 0 7)
    ∷ turn (call_accept 1 0 258 (batch_of 8)) 0 (looks 1 258 1 0 2 8 258 8 0) (row 2 0 0 0 0 258 0 8)
    ∷ turn (call_logged (completion AcceptData 0 257 40)) 0 (looks 1 258 1 0 2 8 258 8 0) (row 7 1 0 0 0 258 0 0)
    ∷ [])
    -- a member counts on its reply for its endprep slot alone: no reply for slot 0 arrived, and both slots enter Accept, slot 0 with the
    -- empty batch, whatever 1 and 2 had voted for in it
    ∷ run 0
    (turn (call_prepare 1 1 258) 0 (looks 2 258 1 0 0 0 0 0 1) (prepare_bal 1 258)
    ∷ turn (call_timeout 1) 0 (looks 2 513 0 0 1 0 0 0 1) (row 10 0 0 0 0 0 0 0 ++ row 9 255 0 0 0 0 0 0 ++ prepare_bal 0 513 ++ prepare_bal 1 513 ++ row 4 255 0 0 0 513 0 0)
    ∷ turn (call_prepare_reply 1 (reply 1 1 513)) 0 (looks 2 513 0 0 1 0 0 0 1) []
    ∷ turn (call_prepare_reply 2 (reply 1 1 513)) 0 (looks 2 513 0 513 2 0 0 0 2) (accept_both 0 513 0 ++ accept_both 1 513 0)
    ∷ [])
    -- the promise is one number for the whole replica, and an Accept raises it: 257 is ignored after 258 was accepted, and never prepared, in another slot
    ∷ run 2
    (turn (call_accept 1 0 258 (batch_of 8)) 0 (looks 1 258 1 0 2 8 258 8 0) (row 2 0 0 0 0 258 0 8)
    ∷ turn (call_prepare 0 1 257) 0 (looks 1 258 1 0 2 8 258 8 0) []
    ∷ turn (call_accept 0 1 257 (batch_of 7)) 0 (looks 1 258 1 0 2 8 258 8 0) []
    ∷ [])
    -- an answer may tell a vote at the very ballot that is asked for: a Prepare that comes twice, the second time after its ballot's Accept
    ∷ run 2
    (turn (call_prepare 0 0 257) 0 (looks 1 257 0 0 1 0 0 0 0) (prepare_bal 0 257)
    ∷ turn (call_accept 0 0 257 (batch_of 7)) 0 (looks 1 257 0 0 2 7 257 7 0) (row 2 0 0 0 0 257 0 7)
    ∷ turn (call_prepare 0 0 257) 0 (looks 1 257 0 0 1 7 257 7 0) (prepare_bal 0 257)
    ∷ turn (call_logged (completion PrepareBal 0 257 40)) 0 (looks 1 257 0 0 1 7 257 7 0) (row 5 0 0 0 0 257 257 7)
    ∷ [])
    -- a deposed leader's 4: member 1's larger ballot, then a late reply at 257
    ∷ run 0
    (turn (call_timeout 0) 0 (looks 1 257 0 0 1 0 0 0 0) (row 10 0 0 0 0 0 0 0 ++ row 9 255 0 0 0 0 0 0 ++ prepare_bal 0 257 ++ row 4 255 0 0 0 257 0 0)
    ∷ turn (call_prepare 1 0 258) 0 (looks 1 258 1 0 1 0 0 0 0) (row 11 0 0 0 0 0 0 0 ++ prepare_bal 0 258)
    ∷ turn (call_prepare_reply 2 (reply 0 0 257)) 4 (looks 1 258 1 0 1 0 0 0 0) []
    ∷ [])
    -- a learner forgets: slot 0 is marked at 257, and a Prepare at 258 puts it back to Preparing
    ∷ run 2
    (turn (call_accept 0 0 257 (batch_of 7)) 0 (looks 1 257 0 0 2 7 257 7 0) (row 2 0 0 0 0 257 0 7)
    ∷ turn (call_commit_notice 0 257 1) 0 (looks 1 257 0 0 3 7 257 7 0) (row 3 0 0 0 0 257 0 0)
    ∷ turn (call_prepare 1 0 258) 0 (looks 1 258 1 0 1 7 257 7 0) (prepare_bal 0 258)
    ∷ [])
    -- and so does the same Accept, come twice, back to Accepting
    ∷ run 2
    (turn (call_accept 0 0 257 (batch_of 7)) 0 (looks 1 257 0 0 2 7 257 7 0) (row 2 0 0 0 0 257 0 7)
    ∷ turn (call_commit_notice 0 257 1) 0 (looks 1 257 0 0 3 7 257 7 0) (row 3 0 0 0 0 257 0 0)
    ∷ turn (call_accept 0 0 257 (batch_of 7)) 0 (looks 1 257 0 0 2 7 257 7 0) (row 2 0 0 0 0 257 0 7)
    ∷ [])
    -- a member's own step-up raises its promise before anything is durable: 257 is ignored at once
    ∷ run 2
    (turn (call_timeout 2) 0 (looks 1 259 2 0 1 0 0 0 0) (row 10 0 0 0 0 0 0 0 ++ row 9 255 0 0 0 0 0 0 ++ prepare_bal 0 259 ++ row 4 255 0 0 0 259 0 0)
    ∷ turn (call_prepare 0 0 257) 0 (looks 1 259 2 0 1 0 0 0 0) []
    ∷ [])
    -- a stopped member has no way back: it promises 258, and made anew under its id it accepts at 257
    ∷ run 2
    (turn (call_prepare 1 0 258) 0 (looks 1 258 1 0 1 0 0 0 0) (prepare_bal 0 258)
    ∷ turn (call_logged (completion PrepareBal 0 258 40)) 0 (looks 1 258 1 0 1 0 0 0 0) (row 5 1 0 0 0 258 0 0)
    ∷ [])
    ∷ run 2 (turn (call_accept 0 0 257 (batch_of 7)) 0 (looks 1 257 0 0 2 7 257 7 0) (row 2 0 0 0 0 257 0 7) ∷ [])
    -- 5: a proposal for slot 64 that the paper's acceptor would accept
    ∷ run 2 (turn (call_accept 0 64 257 (batch_of 7)) 5 (looks 0 0 255 0 0 0 0 0 0) [] ∷ [])
    -- a reply names its trigger itself: one at 513 that names slot 0, committed at 257, is counted in that ballot's set {0, 1}, and slot 1 enters
    -- Accept though member 2 alone has answered at 513
    ∷ run 0
    (turn (call_timeout 0) 0 (looks 1 257 0 0 1 0 0 0 0) (row 10 0 0 0 0 0 0 0 ++ row 9 255 0 0 0 0 0 0 ++ prepare_bal 0 257 ++ row 4 255 0 0 0 257 0 0)
    ∷ turn (call_prepare_reply 1 (reply 0 0 257)) 0 (looks 1 257 0 0 1 0 0 0 0) []
    ∷ turn (call_logged (completion PrepareBal 0 257 40)) 0 (looks 1 257 0 257 2 0 0 0 0) (accept_both 0 257 0)
    ∷ turn (call_accept_reply 1 0 257) 0 (looks 1 257 0 257 2 0 0 0 0) []
    ∷ turn (call_accept_reply 2 0 257) 0 (looks 1 257 0 257 3 0 0 0 0) (row 3 0 0 0 0 257 0 0)
    ∷ turn (call_prepare 1 1 258) 0 (looks 2 258 1 257 3 0 0 0 1) (row 11 0 0 0 0 0 0 0 ++ prepare_bal 1 258)
    ∷ turn (call_timeout 1) 0 (looks 2 513 0 0 3 0 0 0 1) (row 10 0 0 0 0 0 0 0 ++ row 9 255 0 0 0 0 0 0 ++ prepare_bal 1 513 ++ row 4 255 0 1 0 513 0 0)
    ∷ turn (call_prepare_reply 2 (reply 1 1 513)) 0 (looks 2 513 0 513 3 0 0 0 2) (accept_both 1 513 0)
    ∷ [])
    ∷ []

pub differences_hold : T (all_go differences)
unfolding all_go differences goes new_replica fit fit_scalars fit_slots fit_reads fit_slot filled noting settled prepare_on prepare_step last_used counted_on voted_on replied_on reply_on prepare_reply_step accept_step accept_reply_step first_open last_open lead_on step_up timeout_step prepared_done moved_accept accepted_done pass_on pass_stop committed_done logged_on logged_step offer_step mark_on mark_stop commit_notice_step decide_accept decide_accept_reply decide_vote decide_count decide_promised decide_accepted decide_offer not_above least_majority with_bar with_fallen has insert count count_in make_batch note_key note_keys new_keys place_in overfull_in scan counts
differences_hold = tt
