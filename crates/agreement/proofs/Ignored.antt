-- The rest of specs/Ignored.antt: what stands on a theorem that a must-fail edit makes false.
use Rattle.std.specs.Prelude.{◌≡◌, refl, true, false, ◌∷◌, map, ℕ}
use Rattle.std.proofs.Common.{◌∙◌, ap, subst}
use Rattle.decide.specs.Scalars.{strict}
use Rattle.replica.specs.declared.Replica.{Replica}
use Rattle.replica.specs.declared.Done.{Done}
use Rattle.replica.specs.Step.{Call, call_prepare, call_prepare_reply, call_accept, call_accept_reply, call_commit_notice, call_timeout, call_logged, call_offer, call_executed, call_open_read, call_read_reply, step}
use Rattle.laws.proofs.Theorems.{kind_stays}
use Rattle.laws.specs.BallotIgnored.{ballot_ignored, saying, saying-Alike}
use Rattle.agreement.specs.Theorem.{Group, World, put, begin, May, logged, Reach, begins, turn}
use Rattle.agreement.proofs.Group.{stays_in}
use Rattle.agreement.specs.Ignored.{AlikeReach, both_begin, both_turn, calls_of}

-- each member is of the group's kind
pub kind_in : (g : Group) (w : World) → Reach g w → (m : ℕ) → g.present m ≡ true → strict (w.replica m).sc ≡ g.strict
kind_in g w r m p = stays_in (λ (x : Replica). strict x.sc) g (λ u _ j _ room c. kind_stays (u.replica j) room c) w r m p ∙ g.alike m p

-- THE THEOREM, over worlds
pub worlds_agree : {g : Group} → g.strict ≡ false → (w w' : World) (r : Reach g w) (r' : Reach g w') → AlikeReach g w w' r r' → w ≡ w'
worlds_agree base _ _ _ _ both_begin = refl
worlds_agree {g} base _ _ _ _ (both_turn {w} {w'} {r} {r'} l m p room c c' a a' e) =
    let before : w ≡ w' = worlds_agree base w w' r r' l in
    let does : step (w.replica m) room c ≡ step (w'.replica m) room c' = ap (λ (u : World). step (u.replica m) room c) before ∙ ballot_ignored (w'.replica m) room c c' (kind_in g w' r' m p ∙ base) e in
    λ k. put (before k) m (does k)

-- ── that it is about every run: with any ballots in its completions it is a run, and comes to the same world ──
module _ (f : Done → ℕ) where
  May-say : {w : World} {m room : ℕ} (c : Call) → May w m room c → May w m room (saying f c)
  May-say (call_logged d) a = logged _
  May-say (call_prepare peer trigger ballot) a = a
  May-say (call_prepare_reply peer m) a = a
  May-say (call_accept peer slot ballot b) a = a
  May-say (call_accept_reply peer slot ballot) a = a
  May-say (call_commit_notice peer ballot bar) a = a
  May-say (call_timeout source) a = a
  May-say (call_offer b) a = a
  May-say (call_executed slot) a = a
  May-say (call_open_read id count keys) a = a
  May-say (call_read_reply peer id from_leader reply) a = a

  pub any_ballots : {g : Group} → g.strict ≡ false → {w : World} (r : Reach g w) → (w' : World) × (r' : Reach g w') × AlikeReach g w w' r r' × (calls_of r' ≡ map (saying f) (calls_of r))
  any_ballots {g} base begins = (begin g, begins, both_begin, refl)
  any_ballots base (turn {w = u} r m p room c a) =
      let (u', r', l, e) = any_ballots base r in
      let a' : May u' m room (saying f c) = subst (λ (v : World). May v m room (saying f c)) (worlds_agree base u u' r r' l) (May-say c a) in
      (put u' m (step (u'.replica m) room (saying f c)), turn r' m p room (saying f c) a', both_turn l m p room c (saying f c) a a' (saying-Alike f c), λ k. saying f c ∷ e k)
