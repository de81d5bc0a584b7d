-- The rest of specs/Group.antt: what stands on a theorem that a must-fail edit makes false.
use Rattle.std.specs.Prelude.{◌≡◌, true, ℕ}
use Rattle.std.proofs.Common.{◌∙◌, ap}
use Rattle.replica.specs.declared.Replica.{Replica}
use Rattle.replica.specs.Record.{fresh}
use Rattle.replica.specs.Step.{Call, step}
use Rattle.agreement.specs.Theorem.{Group, World, Reach, begins, turn, Theorem}
use Rattle.agreement.specs.Frame.{Frame}
use Rattle.agreement.specs.Good.{GoodReplica}
use Rattle.agreement.specs.Calls.{step-Ok}
use Rattle.agreement.specs.Group.{Agreement-of, Inv, Inv-start, Inv-step, accept_was_sent, each, made_fresh, start_good, view_of}

pub good_in : (g : Group) (w : World) → Reach g w → (m : ℕ) → g.present m ≡ true → GoodReplica (w.replica m)
good_in g w begins = start_good g
good_in g w (turn {w = u} r m p room c a) = λ j.
    each u m (step (u.replica m) room c) (λ j r h. g.present j ≡ true → GoodReplica r) j (λ _. good_in g u r j) (λ _. (step-Ok (u.replica m) room c (good_in g u r m p)).good)

-- what each call keeps of a present member is what it was made with
pub stays_in : {A : Type 0} (p : Replica → A) (g : Group)
    → ((w : World) → Reach g w → (m : ℕ) → g.present m ≡ true → (room : ℕ) (c : Call) → p (step (w.replica m) room c).replica ≡ p (w.replica m))
    → (w : World) → Reach g w → (m : ℕ) → g.present m ≡ true → p (w.replica m) ≡ p (fresh m g.size g.start (g.options m))
stays_in p g k w begins = λ m l. ap p (made_fresh g m l)
stays_in p g k w (turn {w = u} r m l room c a) = λ j.
    each u m (step (u.replica m) room c) (λ j q h. g.present j ≡ true → p q ≡ p (fresh j g.size g.start (g.options j))) j
    (λ _. stays_in p g k u r j) (λ z. k u r m l room c ∙ stays_in p g k u r m z)

pub framed : (g : Group) (w : World) → Reach g w → (m : ℕ) → g.present m ≡ true → (room : ℕ) (c : Call)
    → Frame (view_of (w.replica m)) c (step (w.replica m) room c).answer (view_of (step (w.replica m) room c).replica) (step (w.replica m) room c).actions
framed g w r m p room c = (step-Ok (w.replica m) room c (good_in g w r m p)).frame

pub inv : (g : Group) (w : World) → Reach g w → Inv g w
inv g w begins = Inv-start g
inv g w (turn {w = u} r m p room c a) = Inv-step g u (inv g u r) m p c (step (u.replica m) room c) (framed g u r m p room c) (accept_was_sent u m room c a)

pub agreement : Theorem
agreement g w r = Agreement-of (inv g w r)
