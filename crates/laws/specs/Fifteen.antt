-- 02, Wish 6: 15 is "strict Accept with another batch for a committed slot, after 5": no other call is given it, and no Accept at an old ballot.
use Rattle.std.specs.Prelude.{◌≡◌, refl, true, ◌&&◌, ◌||◌, ◌⊎◌, ℕ, ◌+◌, ◌≤◌, ◌<◌, ltb, leb, eqb}
use Rattle.std.proofs.Common.{ap, inl, inr, arith, ltb-true, leb-true}
use Rattle.base.specs.Pick.{clash, or_cases, and_both}
use Rattle.batch.specs.declared.Batch.{Batch}
use Rattle.decide.specs.Decide.{names_other}
use Rattle.window.specs.Window.{slot_at}
use Rattle.replica.specs.declared.Replica.{Replica}
use Rattle.replica.specs.Record.{Outcome, kept, place}
use Rattle.replica.specs.Messages.{clean, clean_reply, or_kept}
use Rattle.replica.specs.Step.{Call, call_prepare, call_prepare_reply, call_accept, call_accept_reply, call_commit_notice, call_timeout, call_logged, call_offer, call_executed, call_open_read, call_read_reply, does, step}
use Rattle.laws.specs.Leaves.{or_kept_ways}
use Rattle.laws.specs.WaysMessages.{keeping, keeping_low, Keeps, prepare_step_ways, accept_window, other_named, accept_step_ways, accept_reply_step_ways}
use Rattle.laws.specs.WaysReply.{reply_on_ways, prepare_reply_step_ways}
use Rattle.laws.specs.WaysLeadership.{timeout_step_ways, commit_notice_step_ways}
use Rattle.laws.specs.WaysDurability.{logged, logged_step_ways}
use Rattle.laws.specs.WaysAdded.{offer_step_ways, executed_step_ways, open_read_step_ways, read_reply_step_ways}

-- the Accept that is answered 15
pub record Other (r : Replica) (c : Call) : Type 0 where
  pub peer : ℕ
  pub slot : ℕ
  pub ballot : ℕ
  pub batch : Batch
  pub call : c ≡ call_accept peer slot ballot batch
  pub low : r.sc.start ≤ slot
  pub high : slot < r.sc.start + 64
  pub seen : r.sc.bal_max_seen ≤ ballot
  pub named : names_other r.sc (slot_at (accept_window r slot) (place r.sc slot)) (clean batch) ≡ true

abbrev By : Replica → Call → Outcome → Type 0
By r c o = o.answer ≡ 15 → Other r c

not_kept : (r : Replica) (c : Call) → Keeps (By r c) r
not_kept r c a h e = absurd (clash h (ap (keeping r) e))

accept_is_other : (r : Replica) (n peer slot ballot : ℕ) (b : Batch) (a : ℕ) → (keeping r a || (eqb a 15 && other_named r slot ballot b)) ≡ true → By r (call_accept peer slot ballot b) (kept a r)
accept_is_other r n peer slot ballot b a h e = go (or_cases (keeping r a) _ h)
  where
    go : (keeping r a ≡ true) ⊎ ((eqb a 15 && other_named r slot ballot b) ≡ true) → Other r (call_accept peer slot ballot b)
    go (inl z) = absurd (clash z (ap (keeping r) e))
    go (inr z) =
        let (_, y) = and_both (eqb a 15) (other_named r slot ballot b) z in
        let (low, x) = and_both (leb r.sc.start slot) _ y in
        let (seen, u) = and_both (leb r.sc.bal_max_seen ballot) _ x in
        let (high, named) = and_both (ltb slot (r.sc.start + 64)) _ u in
        record { peer = peer; slot = slot; ballot = ballot; batch = b; call = refl; low = leb-true _ _ low; high = ltb-true _ _ high; seen = leb-true _ _ seen; named = named }

-- a call that acts answers 0, or 12
does_fifteen : (r : Replica) (n : ℕ) (c : Call) → By r c (does r n c)
does_fifteen r n (call_prepare peer trigger ballot) =
    prepare_step_ways (By r (call_prepare peer trigger ballot)) r n peer trigger ballot (not_kept r _) (λ f e. absurd (omega arith))
does_fifteen r n (call_prepare_reply peer m) =
    let c : Call = call_prepare_reply peer m in
    prepare_reply_step_ways (By r c) r n peer m (λ a h _. not_kept r c a h)
    (λ f. reply_on_ways (By r c) r peer (clean_reply m) (λ a h _. not_kept r c a (keeping_low r a h)) (λ _ _ e. absurd (omega arith)) (λ _ _ _ e. absurd (omega arith)) (λ _ _ _ _ e. absurd (omega arith))
    (λ _ _ _ _ _ e. absurd (omega arith)))
does_fifteen r n (call_accept peer slot ballot b) =
    accept_step_ways (By r (call_accept peer slot ballot b)) r n peer slot ballot b (accept_is_other r n peer slot ballot b) (λ f e. absurd (omega arith))
does_fifteen r n (call_accept_reply peer slot ballot) =
    accept_reply_step_ways (By r (call_accept_reply peer slot ballot)) r n peer slot ballot (not_kept r _) (λ f q e. absurd (omega arith)) (λ f q e. absurd (omega arith))
does_fifteen r n (call_commit_notice peer ballot bar) =
    commit_notice_step_ways (By r (call_commit_notice peer ballot bar)) r n peer ballot bar (not_kept r _) (λ f e. absurd (omega arith))
does_fifteen r n (call_timeout source) = timeout_step_ways (By r (call_timeout source)) r n source (not_kept r _) (λ b f e. absurd (omega arith))
does_fifteen r n (call_logged d) =
    let c : Call = call_logged d in
    logged_step_ways (By r c) r n d (λ a h _. not_kept r c a h) (λ f z e. absurd (omega arith))
    (λ f z o.
    reply_on_ways (λ (x : Outcome). By r c (or_kept r x)) (logged r d) (logged r d).sc.id _
    (λ a h _. or_kept_ways (By r c) r a (logged r d) (λ z e. absurd (omega arith)) (λ z. not_kept r c a (keeping_low r a h))) (λ _ _ e. absurd (omega arith)) (λ _ _ _ e. absurd (omega arith))
    (λ _ _ _ _ e. absurd (omega arith)) (λ _ _ _ _ _ e. absurd (omega arith)))
    (λ f z h l p e. absurd (omega arith)) (λ f z after acts k e. absurd (omega arith)) (λ f z at e. absurd (omega arith))
does_fifteen r n (call_offer b) = offer_step_ways (By r (call_offer b)) r n b (not_kept r _) (λ f e. absurd (omega arith))
does_fifteen r n (call_executed slot) = executed_step_ways (By r (call_executed slot)) r n slot (not_kept r _) (λ f e. absurd (omega arith))
does_fifteen r n (call_open_read id count keys) = open_read_step_ways (By r (call_open_read id count keys)) r n id count keys (not_kept r _) (λ f e. absurd (omega arith))
does_fifteen r n (call_read_reply peer id from_leader reply) =
    read_reply_step_ways (By r (call_read_reply peer id from_leader reply)) r n peer id from_leader reply (not_kept r _) (λ f e. absurd (omega arith)) (λ f k e. absurd (omega arith))
    (λ f e. absurd (omega arith)) (λ f k e. absurd (omega arith)) (λ f k e. absurd (omega arith))

pub fifteen_why : (r : Replica) (n : ℕ) (c : Call) → (step r n c).answer ≡ 15 → Other r c
fifteen_why r n c = does_fifteen r n c
