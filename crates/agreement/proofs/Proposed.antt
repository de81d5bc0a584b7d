-- The rest of specs/Proposed.antt: what stands on a theorem that a must-fail edit makes false.
use Rattle.std.specs.Prelude.{◌≡◌, refl, true, List, ℕ}
use Rattle.std.proofs.Common.{sym}
use Rattle.std.proofs.Math.Path.{subst}
use mathlib.Core.List.Memᴰ
use Rattle.std.proofs.Math.Logic.{inl, inr}
use Rattle.base.specs.Among.{◌∈◌, All, All-in, All-append}
use Rattle.batch.specs.declared.Batch.{Batch}
use Rattle.batch.specs.Batches.{empty_batch, make_batch}
use Rattle.actions.specs.declared.Action.{Action}
use Rattle.actions.specs.declared.Action.TheVariants.{PrepareBal, AcceptData, CommitSlot, Prepare, PrepareReply, Accept, AcceptReply, CommitNotice, Heartbeat, StatusUp, StatusDown, Execute, ReadAnswer}
use Rattle.replica.specs.Messages.{clean}
use Rattle.replica.specs.Step.{Call, step, received}
use Rattle.agreement.specs.Theorem.{Group, World, put, May, timer, offer, logged, execution, opening, replied, message, refused, Reach, begins, turn}
use Rattle.agreement.specs.OfMessages.{clean-clean}
use Rattle.agreement.specs.Group.{MarkOk, each}
use Rattle.agreement.proofs.Group.{inv}
use Rattle.agreement.specs.Worlds.{Proposed}
use Rattle.agreement.specs.Carried.{WindowIn, SaysIn, ActIn, CallIn, OutcomeIn, step_in}
use Rattle.agreement.specs.Proposed.{Known, Known-start, Majority-some, ProposedChosen, ProposedMarked, ProposedOnly, acts_up, says_up, window_up}

-- a message brings what was sent
received_in : (Q : Batch → Type 0) → ((b : Batch) → Q b → Q (clean b)) → (from : ℕ) (x : Action) (keys : List ℕ) (c : Call) → SaysIn Q keys x
    → c ∈ received from (record { what = x; keys = keys }) → CallIn Q c
received_in Q tidy from (Accept p) keys c h i = subst (CallIn Q) (sym (Memᴰ.eq_of_singleton i)) (tidy _ h)
received_in Q tidy from (PrepareReply p) keys c h i = subst (CallIn Q) (sym (Memᴰ.eq_of_singleton i)) (λ _. tidy _ h)
received_in Q tidy from (Prepare p) keys c h i = subst (CallIn Q) (sym (Memᴰ.eq_of_singleton i)) tt
received_in Q tidy from (AcceptReply p) keys c h i = subst (CallIn Q) (sym (Memᴰ.eq_of_singleton i)) tt
received_in Q tidy from (CommitNotice p) keys c h i = subst (CallIn Q) (sym (Memᴰ.eq_of_singleton i)) tt
received_in Q tidy from (PrepareBal p) keys c h i = absurd (Memᴰ.not-nil i)
received_in Q tidy from (AcceptData p) keys c h i = absurd (Memᴰ.not-nil i)
received_in Q tidy from (CommitSlot p) keys c h i = absurd (Memᴰ.not-nil i)
received_in Q tidy from Heartbeat keys c h i = absurd (Memᴰ.not-nil i)
received_in Q tidy from StatusUp keys c h i = absurd (Memᴰ.not-nil i)
received_in Q tidy from StatusDown keys c h i = absurd (Memᴰ.not-nil i)
received_in Q tidy from (Execute p) keys c h i = absurd (Memᴰ.not-nil i)
received_in Q tidy from (ReadAnswer p) keys c h i = absurd (Memᴰ.not-nil i)

module _ (g : Group) (u : World) (r : Reach g u) (k : Known r) (m : ℕ) (p : g.present m ≡ true) (room : ℕ) (c : Call) (a : May u m room c) where
  abbrev pub after : Reach g (put u m (step (u.replica m) room c))
  after = turn r m p room c a

  up : (b : Batch) → Proposed r b → Proposed after b
  up b (inl e) = inl e
  up b (inr (o, f, e)) = inr (o, inl f, e)

  -- a proposed batch is clean
  tidy : (b : Batch) → Proposed after b → Proposed after (clean b)
  unfolding make_batch
  tidy b (inl e) = inl (subst (λ (x : Batch). clean x ≡ empty_batch) (sym e) refl)
  tidy b (inr (o, f, e)) = inr (o, f, subst (λ (x : Batch). clean x ≡ clean o) (sym e) (clean-clean o))

  brought : (c' : Call) → c ≡ c' → May u m room c' → (step (u.replica m) room c').answer ≡ 0 → CallIn (Proposed after) c'
  brought c' q (offer b) z = inr (b, inr (q, subst (λ (x : Call). (step (u.replica m) room x).answer ≡ 0) (sym q) z), refl)
  brought c' q (message from x _ h i) z =
      received_in (Proposed after) tidy from x.what x.keys c' (says_up (Proposed r) (Proposed after) up x.keys x.what (All-in (ActIn (Proposed r)) (k.said from) h)) i
  brought c' q (refused _ n _) z = absurd (n z)
  brought c' q (timer source) z = tt
  brought c' q (logged d) z = tt
  brought c' q (execution slot) z = tt
  brought c' q (opening id n keys) z = tt
  brought c' q (replied peer id f reply) z = tt

  stepped : OutcomeIn (Proposed after) (step (u.replica m) room c)
  stepped = step_in (Proposed after) (inl refl) (u.replica m) (window_up (Proposed r) (Proposed after) up _ (k.held m)) room c (brought c refl a)

  Known-step : Known after
  Known-step =
      record {
        held = λ j.
            each u m (step (u.replica m) room c) (λ j x h. WindowIn (Proposed after) x.window) j
            (λ _. window_up (Proposed r) (Proposed after) up _ (k.held j)) stepped.window;
        said = λ j.
            each u m (step (u.replica m) room c) (λ j x h. All (ActIn (Proposed after)) h) j
            (λ _. acts_up (Proposed r) (Proposed after) up (u.did j) (k.said j))
            (All-append (ActIn (Proposed after)) (u.did m) _ (acts_up (Proposed r) (Proposed after) up (u.did m) (k.said m)) stepped.acts);
      }

pub known : (g : Group) (w : World) (r : Reach g w) → Known r
known g w begins = Known-start g
known g w (turn {w = u} r m p room c a) = Known-step g u r (known g u r) m p room c a

pub proposed_only : ProposedOnly
proposed_only g w r m s ballot b x = All-in (ActIn (Proposed r)) ((known g w r).said m) x

pub marked_proposed : ProposedMarked
marked_proposed g w r k x = proposed_only g w r k.who k.slot k.ballot k.batch (All-in (MarkOk w.did) (inv g w r).mark x)

pub only_proposed : ProposedChosen
only_proposed g w r s v (set, j, h) = let (m, a) = Majority-some g.size set j in proposed_only g w r m s v.ballot v.batch (h m a)
