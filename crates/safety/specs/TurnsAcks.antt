-- 02, Wish 6, (a): an accept completion "counts only if its ballot is the slot's ballot, and for an accept entry also the voted ballot". So who is in the
-- accept_acks of a slot at the ballot of the lead was there before the call, or acknowledges the slot by it, at this ballot.
use Rattle.std.specs.Prelude.{◌≡◌, refl, true, ◌⊎◌, ℕ, ◌+◌}
use Rattle.std.proofs.Common.{sym, ap, subst, ◌∙◌, inl, inr}
use Rattle.members.specs.Sets.{has}
use Rattle.slots.specs.declared.Slot.{Slot}
use Rattle.slots.specs.Slots.{acknowledged_slot, committed_slot}
use Rattle.decide.specs.Scalars.{leads, strict}
use Rattle.window.specs.Window.{put_slot}
use Rattle.window.specs.ByPlace.{at_place, put_cases}
use Rattle.replica.specs.declared.Replica.{Replica}
use Rattle.replica.specs.declared.Done.{Done}
use Rattle.replica.specs.declared.Entry.TheVariants.{PrepareBal as PrepareEntry, AcceptData as AcceptEntry, CommitSlot as CommitEntry}
use Rattle.replica.specs.Record.{place}
use Rattle.replica.specs.Durability.{logged_on}
use Rattle.replica.specs.Step.{Call, call_accept_reply, call_logged, step}
use Rattle.laws.specs.WaysDurability.{completion, logged, logged_at, other_entry}
use Rattle.voting.specs.Claims.{Claim, Of}
use Rattle.voting.specs.Logging.{LogWays, logged_way}
use Rattle.voting.specs.Backing.{AcceptAck, accept_came, accept_own, Standing, stands, Stood, after_same, acks_step}
use Rattle.safety.specs.Sight.{sight_of, acks, Acked, acked_peer, acked_own, Able}

-- the slot at place i was at the ballot of the lead, with p in its set
abbrev Held : Replica → ℕ → ℕ → ℕ → Type 0
Held r i p sent = Stood r i sent × (has (acks (at_place r.window i)) p ≡ true)

-- what stands as it stood
still : (r : Replica) (i p : ℕ) (x : Standing) → x ≡ stands r i → leads r.sc ≡ true → x.ballot ≡ r.sc.bal_prep_sent → has x.accept p ≡ true
    → Held r i p r.sc.bal_prep_sent
still r i p x e l b h = (
  record { leading = l; same = refl; at = sym (ap (λ (y : Standing). y.ballot) e) ∙ b },
  subst (λ (y : Standing). has y.accept p ≡ true) e h,
)

-- ── a leader's own accept entry at a ballot ──
abbrev ByOwn : Replica → ℕ → ℕ → ℕ → Claim
ByOwn r i p ballot a sc w acts =
    leads sc ≡ true → (at_place w i).ballot ≡ sc.bal_prep_sent → has (acks (at_place w i)) p ≡ true
    → Held r i p sc.bal_prep_sent ⊎ (ballot ≡ (at_place w i).ballot)

own_ways : (r : Replica) (i p slot ballot size : ℕ) → strict r.sc ≡ true → LogWays (ByOwn r i p ballot) r (completion AcceptEntry slot ballot size)
unfolding Of logged_on
own_ways r i p slot ballot size kind =
    let d : Done = completion AcceptEntry slot ballot size in
    let same = after_same r d i in
    let put : (y : Slot) → ballot ≡ y.ballot → leads r.sc ≡ true → (at_place (put_slot (logged r d).window (place r.sc slot) y) i).ballot ≡ r.sc.bal_prep_sent
    → has (acks (at_place (put_slot (logged r d).window (place r.sc slot) y) i)) p ≡ true
    → Held r i p r.sc.bal_prep_sent ⊎ (ballot ≡ (at_place (put_slot (logged r d).window (place r.sc slot) y) i).ballot) =
    λ y e l.
    put_cases (logged r d).window (place r.sc slot) y
    (λ (z : Slot). z.ballot ≡ r.sc.bal_prep_sent → has (acks z) p ≡ true → Held r i p r.sc.bal_prep_sent ⊎ (ballot ≡ z.ballot)) i
    (λ _ _ _ _. inr e) (λ _ b h. inl (still r i p _ same l b h)) in
    record {
      only = λ u l b h. inl (still r i p _ same l b h);
      own = other_entry AcceptEntry PrepareEntry refl;
      promised = other_entry AcceptEntry PrepareEntry refl;
      acked = λ _ k. put (acknowledged_slot r.sc.id (logged_at r d)) (sym (k.slot kind));
      commits = λ _ k a q. put (committed_slot (acknowledged_slot r.sc.id (logged_at r d))) (sym (k.slot kind));
      answered = λ _ _ n l b h. inl (still r i p _ same l b h);
      passes = other_entry AcceptEntry CommitEntry refl;
    }

own_step : (r : Replica) (room i p slot ballot size : ℕ) → strict r.sc ≡ true → Of (ByOwn r i p ballot) (step r room (call_logged (completion AcceptEntry slot ballot size)))
unfolding Of
own_step r room i p slot ballot size kind =
    logged_way (ByOwn r i p ballot) r (completion AcceptEntry slot ballot size) room (λ a z u l b h. inl (still r i p _ refl l b h)) (λ f. own_ways r i p slot ballot size kind)

-- ── every call ──
abbrev AckedAt : Replica → ℕ → Call → ℕ → ℕ → Type 0
AckedAt r room c i p =
    Held r i p (step r room c).replica.sc.bal_prep_sent ⊎ Acked (sight_of r) c p (r.sc.start + i) (at_place (step r room c).replica.window i).ballot

pub acked_at : (r : Replica) (room : ℕ) (c : Call) → Able r → (i : ℕ) → leads (step r room c).replica.sc ≡ true
    → (at_place (step r room c).replica.window i).ballot ≡ (step r room c).replica.sc.bal_prep_sent → (p : ℕ)
    → has (acks (at_place (step r room c).replica.window i)) p ≡ true → AckedAt r room c i p
unfolding Of
acked_at r room c able i l b p h = either ((acks_step r room c i able.reached l b).accept p h)
  where
    came : (c : Call) → AcceptAck r i p c → leads (step r room c).replica.sc ≡ true → (at_place (step r room c).replica.window i).ballot ≡ (step r room c).replica.sc.bal_prep_sent
        → has (acks (at_place (step r room c).replica.window i)) p ≡ true → r.sc.bal_prep_sent ≡ (step r room c).replica.sc.bal_prep_sent → AckedAt r room c i p
    came _ (accept_came slot ballot e s) l b h same =
        inr (acked_peer (ap (λ (n : ℕ). call_accept_reply p n ballot) s ∙ ap (λ (n : ℕ). call_accept_reply p (r.sc.start + i) n) (e ∙ same ∙ sym b)))
    came _ (accept_own slot ballot size e s) l b h same = go (own_step r room i p slot ballot size able.kind l b h)
      where
        y : ℕ
        y = (at_place (step r room (call_logged (completion AcceptEntry slot ballot size))).replica.window i).ballot

        go : Held r i p (step r room (call_logged (completion AcceptEntry slot ballot size))).replica.sc.bal_prep_sent ⊎ (ballot ≡ y)
            → AckedAt r room (call_logged (completion AcceptEntry slot ballot size)) i p
        go (inl k) = inl k
        go (inr q) =
            inr (acked_own size e
            (ap (λ (n : ℕ). call_logged (completion AcceptEntry n ballot size)) s ∙ ap (λ (n : ℕ). call_logged (completion AcceptEntry (r.sc.start + i) n size)) q))

    either : Held r i p (step r room c).replica.sc.bal_prep_sent ⊎ ((r.sc.bal_prep_sent ≡ (step r room c).replica.sc.bal_prep_sent) × AcceptAck r i p c) → AckedAt r room c i p
    either (inl k) = inl k
    either (inr (same, k)) = came c k l b h same
