-- The proposer's choice: the batch with which a leader enters Accept is that of the largest voted ballot among the replies that arrived for
-- the slot while it was Preparing at this ballot, else what the slot held.
use Rattle.std.specs.Prelude.{◌≡◌, refl, ◌&&◌, List, [], ◌∷◌, ℕ, ◌+◌, ◌≤◌, ◌<◌, ltb, leb, eqb}
use Rattle.std.proofs.Common.{ap, ◌∙◌, arith, ltb-true}
use Rattle.base.specs.Pick.{pick_both, pick_cases, and_both}
use Rattle.base.specs.Among.{All, All-append}
use Rattle.slots.specs.declared.Vote.{Vote}
use Rattle.slots.specs.declared.Slot.{Slot}
use Rattle.slots.specs.Slots.{new_book, redone_slot, with_state, with_leader, with_external, committed, executed, preparing, null_slot}
use Rattle.decide.specs.declared.Reply.{Reply}
use Rattle.window.specs.Window.{first_open}
use Rattle.window.specs.Places.{size, filled_long, filled_most}
use Rattle.window.specs.ByPlace.{at_place, sweep_cases, grown_at, at_past}
use Rattle.replica.specs.declared.Replica.{Replica}
use Rattle.replica.specs.declared.Done.{Done}
use Rattle.replica.specs.declared.Entry.TheVariants.{PrepareBal}
use Rattle.replica.specs.Record.{place}
use Rattle.replica.specs.Messages.{clean_reply}
use Rattle.replica.specs.Step.{Call, call_prepare_reply, call_timeout, call_logged, step}
use Rattle.laws.specs.OfFit.{fit_facts}
use Rattle.laws.specs.WaysLeadership.{lead_window, lead_trigger, lead_end, lead_from, led, Leads, timeout_step_ways, Leads-up}
use Rattle.laws.specs.WaysDurability.{completion, logged}
use Rattle.voting.specs.History.{Lent, told}
use Rattle.voting.specs.Claims.{Claim, Of}
use Rattle.voting.specs.Logging.{own_answer, own_book}
use Rattle.voting.specs.Reached.{Good}
use Rattle.voting.specs.Heard.{held_at, arrives, brings, heard, heard_in}
use Rattle.voting.specs.Held.{heard_ways}

-- ── the choice ──
brings_some : (r : Replica) (m : Reply) (s a : ℕ) → All (λ (v : Vote). 0 < v.ballot) (brings r m s a)
brings_some r m s a =
    pick_cases (All (λ (v : Vote). 0 < v.ballot)) (arrives r m s && (eqb a 0 && (m.voted && ltb 0 m.vote.ballot))) {a = m.vote ∷ []} {b = []}
    (λ t.
    let x = and_both (arrives r m s) _ t in
    let y = and_both (eqb a 0) _ x.1 in
    (ltb-true 0 m.vote.ballot (and_both m.voted _ y.1).1, tt))
    (λ t. tt)

heard_some : (r : Replica) (room : ℕ) (c : Call) (s : ℕ) → All (λ (v : Vote). 0 < v.ballot) (heard r (record { room = room; call = c }) s)
heard_some r room c s =
    heard_ways r room s (λ k v. All (λ (x : Vote). 0 < x.ballot) v) (λ peer m. brings_some r (clean_reply m) s (step r room (call_prepare_reply peer m)).answer)
    (λ slot bal size.
    let d : Done = completion PrepareBal slot bal size in
    pick_both (All (λ (v : Vote). 0 < v.ballot)) (own_book r d)
    {a = brings (logged r d) (own_answer r d) s (step r room (call_logged d)).answer}
    {b = []}
    (brings_some (logged r d) (own_answer r d) s (step r room (call_logged d)).answer) tt)
    (λ k n. tt) c

pub heard_all : (r : Replica) (h : List Lent) (s : ℕ) → All (λ (v : Vote). 0 < v.ballot) (heard_in r h s)
heard_all r [] s = tt
heard_all r (c ∷ h) s =
    All-append (λ (v : Vote). 0 < v.ballot) (heard r c s) (heard_in (told r c).replica h s) (heard_some r c.room c.call s) (heard_all (told r c).replica h s)

-- nothing was heard of a slot that is not there
pub absent_unheard : (r : Replica) (s : ℕ) → r.window.len ≤ place r.sc s → (held_at r s).ballot ≡ 0
absent_unheard r s h = ap (λ (x : Slot). x.leader.prepare_max_bal) (at_past r.window (place r.sc s) h)

-- nor, after a step-up, of a slot that it prepares: the slot has the new ballot, nothing heard, and the batch that it had
abbrev Begins : Replica → ℕ → Claim
Begins r i a sc w acts =
    (sc.bal_prep_sent ≡ r.sc.bal_prep_sent → ⊥) → (at_place w i).ballot ≡ sc.bal_prep_sent
    → ((at_place w i).leader.prepare_max_bal ≡ 0) × ((at_place w i).batch ≡ (at_place r.window i).batch)

redone_begins : (b seen trigger endprep : ℕ) (s : Slot) → seen < b → s.ballot ≤ seen → (redone_slot b (new_book trigger endprep) s).ballot ≡ b
    → ((redone_slot b (new_book trigger endprep) s).leader.prepare_max_bal ≡ 0) × ((redone_slot b (new_book trigger endprep) s).batch ≡ s.batch)
redone_begins b seen trigger endprep s l h =
    pick_both (λ (x : Slot). x.ballot ≡ b → (x.leader.prepare_max_bal ≡ 0) × (x.batch ≡ s.batch)) (leb executed s.status) {a = s} (λ e. absurd (omega arith))
    (pick_both (λ (x : Slot). x.ballot ≡ b → (x.leader.prepare_max_bal ≡ 0) × (x.batch ≡ s.batch)) (leb committed s.status)
    {a = with_external s}
    {b = with_leader (with_state (with_external s) b preparing) (new_book trigger endprep)}
    (λ e. absurd (omega arith)) (λ e. (refl, refl)))

pub step_up_unheard : (r : Replica) (room source s : ℕ) → Good r.sc r.window → r.sc.start ≤ s
    → ((step r room (call_timeout source)).replica.sc.bal_prep_sent ≡ r.sc.bal_prep_sent → ⊥)
    → (at_place (step r room (call_timeout source)).replica.window (place r.sc s)).ballot ≡ (step r room (call_timeout source)).replica.sc.bal_prep_sent
    → ((at_place (step r room (call_timeout source)).replica.window (place r.sc s)).leader.prepare_max_bal ≡ 0)
    × ((at_place (step r room (call_timeout source)).replica.window (place r.sc s)).batch ≡ (held_at r s).batch)
unfolding Of
step_up_unheard r room source s g st =
    timeout_step_ways (Of (Begins r (place r.sc s))) r room source (λ a l n. absurd (n refl)) (λ b f n. fresh b f)
  where
    fresh : (b : ℕ) → Leads r source b → (at_place (led r b).replica.window (place r.sc s)).ballot ≡ b
        → ((at_place (led r b).replica.window (place r.sc s)).leader.prepare_max_bal ≡ 0)
        × ((at_place (led r b).replica.window (place r.sc s)).batch ≡ (at_place r.window (place r.sc s)).batch)
    fresh b f =
        let up = Leads-up r source b f in
        let at = grown_at r.window (first_open r.window + 1) (place r.sc s) (omega (arith, f.room)) in
        let low : (at_place (lead_window r) (place r.sc s)).ballot ≤ r.sc.bal_max_seen = omega (arith, ap (λ (x : Slot). x.ballot) at, g.slots (place r.sc s)) in
        let long : (lead_window r).len ≤ size (lead_window r) =
        omega (arith, filled_long null_slot r.window (first_open r.window + 1), g.whole, filled_most null_slot r.window (first_open r.window + 1) 64 (fit_facts r f.fits).numbers.window (omega (arith, f.room))) in
        sweep_cases (λ i x. redone_slot b (new_book (lead_trigger r) (lead_end r)) x) (lead_from r) (lead_window r).len (lead_window r)
        (λ (x : Slot). x.ballot ≡ b → (x.leader.prepare_max_bal ≡ 0) × (x.batch ≡ (at_place r.window (place r.sc s)).batch)) (place r.sc s) long
        (λ x y z e.
        let q = redone_begins b r.sc.bal_max_seen (lead_trigger r) (lead_end r) (at_place (lead_window r) (place r.sc s)) up low e in
        (q.0, q.1 ∙ ap (λ (x : Slot). x.batch) at))
        (λ out e. absurd (omega arith))
