-- The rest of specs/Acks.antt: what stands on a theorem that a must-fail edit makes false.
use Rattle.std.specs.Prelude.{◌≡◌, refl, true, ◌⊎◌, ℕ, ◌+◌}
use Rattle.std.proofs.Common.{sym, subst, ◌∙◌, inl, inr, arith}
use Rattle.base.specs.Pick.{clash}
use Rattle.members.specs.Sets.{has}
use Rattle.decide.specs.Scalars.{leads}
use Rattle.replica.specs.declared.Replica.{Replica}
use Rattle.replica.specs.Record.{Outcome, number}
use Rattle.replica.specs.Step.{Call, call_accept_reply, step}
use Rattle.laws.proofs.Theorems.{start_stays}
use Rattle.voting.specs.Reached.{Good, Good-step}
use Rattle.voting.specs.Backing.{stands, Stood, AcceptAck, acks_step}
use Rattle.agreement.specs.Theorem.{Group, World, put, May, Reach, begins, turn}
use Rattle.agreement.specs.Group.{each, old}
use Rattle.agreement.proofs.Group.{inv}
use Rattle.agreement.specs.Acks.{AcksSent, Behind, HasReplied, ack_cases, reply_sent, sent_of, start_fine, start_follows}

pub fine_in : (g : Group) (w : World) → Reach g w → (m : ℕ) → g.present m ≡ true → Good (w.replica m).sc (w.replica m).window
fine_in g w begins = start_fine g
fine_in g w (turn {w = u} r m p room c a) = λ j.
    each u m (step (u.replica m) room c) (λ j r h. g.present j ≡ true → Good r.sc r.window) j (λ _. fine_in g u r j)
    (λ _. Good-step (u.replica m) (record { room = room; call = c }) (fine_in g u r m p))

module _ (g : Group) (w : World) (reach : Reach g w) (ih : AcksSent g w) (m : ℕ) (l : g.present m ≡ true) (room : ℕ) (c : Call) (a : May w m room c) where
  abbrev o : Outcome
  o = step (w.replica m) room c

  later : (p s ballot : ℕ) → HasReplied w p s ballot → HasReplied (put w m o) p s ballot
  later p s ballot (y, h, x) = (y, old w m o p h, x)

  -- as before the call, by the ballot and the start that stay
  before : (i p sent : ℕ) → Stood (w.replica m) i sent → has (stands (w.replica m) i).accept p ≡ true
      → (p ≡ m) ⊎ HasReplied (put w m o) p (number o.replica.sc i) sent
  before i p sent s h = go (ih m l i p (record { leading = s.leading; same = refl; at = s.at ∙ sym s.same }) h)
    where
      go : (p ≡ m) ⊎ HasReplied w p (number (w.replica m).sc i) (sent_of (w.replica m)) → (p ≡ m) ⊎ HasReplied (put w m o) p (number o.replica.sc i) sent
      go (inl e) = inl e
      go (inr x) =
          inr (subst (λ (n : ℕ). HasReplied (put w m o) p (n + i) sent) (sym (start_stays (w.replica m) room c))
          (subst (λ (b : ℕ). HasReplied (put w m o) p (number (w.replica m).sc i) b) s.same (later p _ _ x)))

  now : Behind (put w m o) m o.replica
  now i p s h = go ((acks_step (w.replica m) room c i (fine_in g w reach m l) s.leading s.at).accept p h)
    where
      came : (slot ballot : ℕ) → sent_of (w.replica m) ≡ sent_of o.replica → ballot ≡ sent_of (w.replica m) → slot ≡ number (w.replica m).sc i
          → HasReplied w p slot ballot ⊎ ((o.answer ≡ 0 → ⊥) × (o.replica ≡ w.replica m)) → (p ≡ m) ⊎ HasReplied (put w m o) p (number o.replica.sc i) (sent_of o.replica)
      came slot ballot q e f (inr (_, same)) =
          before i p (sent_of o.replica) (record {
            leading = subst (λ (x : Replica). leads x.sc ≡ true) same s.leading;
            same = q;
            at = subst (λ (x : Replica). (stands x i).ballot ≡ sent_of o.replica) same s.at;
          }) (subst (λ (x : Replica). has (stands x i).accept p ≡ true) same h)
      came slot ballot q e f (inl (y, k, (x, z, u, v))) =
          let st = start_stays (w.replica m) room c in
          inr (later p (number o.replica.sc i) (sent_of o.replica) (y, k, (x, z, omega (arith, u, f, st), v ∙ e ∙ q)))

      by_ack : sent_of (w.replica m) ≡ sent_of o.replica
          → ((slot : ℕ) × (ballot : ℕ) × (c ≡ call_accept_reply p slot ballot) × (ballot ≡ sent_of (w.replica m)) × (slot ≡ number (w.replica m).sc i)) ⊎ (p ≡ (w.replica m).sc.id)
          → (p ≡ m) ⊎ HasReplied (put w m o) p (number o.replica.sc i) (sent_of o.replica)
      by_ack q (inr e) = inl (e ∙ ((inv g w reach).local m l).id)
      by_ack q (inl (slot, ballot, k, e, f)) = came slot ballot q e f (reply_sent w m room c a p slot ballot k)

      go : (Stood (w.replica m) i (sent_of o.replica) × (has (stands (w.replica m) i).accept p ≡ true)) ⊎ ((sent_of (w.replica m) ≡ sent_of o.replica) × AcceptAck (w.replica m) i p c)
          → (p ≡ m) ⊎ HasReplied (put w m o) p (number o.replica.sc i) (sent_of o.replica)
      go (inl (q, k)) = before i p (sent_of o.replica) q k
      go (inr (q, k)) = by_ack q (ack_cases k)

  acks_turn : AcksSent g (put w m o)
  acks_turn j =
      each w m o (λ j r h. g.present j ≡ true → Behind (put w m o) j r) j (λ d p i q s h. lift (ih j p i q s h)) (λ _. now)
    where
      lift : {p q s b : ℕ} → (p ≡ q) ⊎ HasReplied w p s b → (p ≡ q) ⊎ HasReplied (put w m o) p s b
      lift (inl e) = inl e
      lift {p} {q} {s} {b} (inr x) = inr (later p s b x)

-- 2.2: over every reachable world, at whoever leads: each member in accept_acks of a slot at its ballot is self, or has sent an AcceptReply for the slot
-- at this ballot
pub acks_sent : (g : Group) (w : World) → Reach g w → AcksSent g w
acks_sent g w begins = λ l p i q s h. absurd (clash s.leading (start_follows g l p))
acks_sent g w (turn {w = u} r m p room c a) = acks_turn g u r (acks_sent g u r) m p room c a
