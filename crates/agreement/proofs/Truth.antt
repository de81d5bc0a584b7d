-- The rest of specs/Truth.antt: what stands on a theorem that a must-fail edit makes false.
use Rattle.std.specs.Prelude.{◌≡◌, refl, true, ◌⊎◌, ℕ}
use Rattle.std.proofs.Common.{sym, subst, inl, inr}
use mathlib.Core.List.Memᴰ
use mathlib.Core.List.{List, [], ◌∷◌}
use Rattle.base.specs.Pick.{and_left, and_right}
use Rattle.base.specs.Among.{◌∈◌}
use Rattle.actions.specs.declared.Action.TheVariants.{StatusUp}
use Rattle.actions.specs.Actions.{Act, bare}
use Rattle.replica.specs.Step.{Call, step, received}
use Rattle.voting.specs.Paper.{Chosen}
use Rattle.agreement.specs.Theorem.{Group, World, begin, May, timer, offer, logged, message, begins, turn}
use Rattle.agreement.specs.Runs.{Turn, times, offers, logs, gets, who, does, deliver, thing, happen, play, all_present, get_d_in, three}
use Rattle.agreement.specs.Worlds.{IsAccepted}
use Rattle.agreement.specs.ChosenIf.{proposal_at}
use Rattle.agreement.proofs.ChosenIf.{commit_chosen}
use Rattle.agreement.specs.Truth.{TrueReach, commit_met, commit_world, fair_call, fair_calls, fair_facts, fair_run, fair_turn, last_reply, one_present, reply_was_sent, until_commit, until_fair, until_present}

module _ (g : Group) (w : World) (r : TrueReach g w) (m : ℕ) (p : g.present m ≡ true) where
  one_turn : (c : Call) → May w m 3456 c → fair_call w m c ≡ true → TrueReach g (does w m c)
  one_turn c a f = (turn r.0 m p 3456 c a, (r.1, λ y x i e. fair_facts (w.replica m) (step (w.replica m) 3456 c).actions f y x i e))

  calls_true : (from : ℕ) (a : Act) → a ∈ w.did from → (l : List Call) → ((c : Call) → c ∈ l → c ∈ received from a) → fair_calls w m l ≡ true → TrueReach g (deliver w m l)
  unfolding deliver fair_calls
  calls_true from a h [] i f = r
  calls_true from a h (c ∷ l) i f = one_turn c (message from a c h (i c (Memᴰ.head refl))) f

  no_calls : TrueReach g (deliver w m [])
  unfolding deliver
  no_calls = r

  gets_true : (from k : ℕ) → fair_calls w m (received from (thing w from k)) ≡ true → (thing w from k ∈ w.did from) ⊎ (thing w from k ≡ bare StatusUp)
      → TrueReach g (deliver w m (received from (thing w from k)))
  gets_true from k f (inl h) = calls_true from (thing w from k) h (received from (thing w from k)) (λ c i. i) f
  gets_true from k f (inr e) = subst (λ (a : Act). TrueReach g (deliver w m (received from a))) (sym e) no_calls

happen-true : (g : Group) (w : World) → TrueReach g w → (t : Turn) → g.present (who t) ≡ true → fair_turn w t ≡ true → TrueReach g (happen w t)
unfolding happen fair_turn
happen-true g w r (times m source) p f = one_turn g w r m p _ (timer source) f
happen-true g w r (offers m b) p f = one_turn g w r m p _ (offer b) f
happen-true g w r (logs m e slot ballot size) p f = one_turn g w r m p _ (logged _) f
happen-true g w r (gets m from k) p f = gets_true g w r m p from k f (get_d_in (w.did from) k (bare StatusUp))

pub play-true : (g : Group) (l : List Turn) (w : World) → TrueReach g w → all_present g l ≡ true → fair_run w l ≡ true → TrueReach g (play w l)
unfolding play all_present fair_run
play-true g [] w r e f = r
play-true g (t ∷ l) w r e f =
    play-true g l (happen w t)
    (happen-true g w r t (and_left (g.present (who t)) (all_present g l) e) (and_left (fair_turn w t) (fair_run (happen w t) l) f))
    (and_right (g.present (who t)) (all_present g l) e) (and_right (fair_turn w t) (fair_run (happen w t) l) f)

pub until_true : TrueReach three commit_world
until_true = play-true three until_commit (begin three) (begins, tt) until_present until_fair

pub changed_chosen : Chosen three.size (IsAccepted commit_world 1) (proposal_at commit_world 1 1)
changed_chosen =
    commit_chosen three commit_world until_true.0 until_true.1 1 one_present 1 514 3456 2 514 (message 2 last_reply _ reply_was_sent (Memᴰ.head refl)) commit_met
