-- The rest of specs/Runs.antt: what stands on a theorem that a must-fail edit makes false.
use Rattle.std.specs.Prelude.{◌≡◌, refl, true, ◌⊎◌, ℕ, take}
use Rattle.std.proofs.Common.{ap, inl, inr, arith}
use mathlib.Core.List.Memᴰ
use mathlib.Core.List.{List, [], ◌∷◌}
use Rattle.base.specs.Pick.{and_left, and_right}
use Rattle.base.specs.Among.{◌∈◌}
use Rattle.batch.specs.declared.Batch.{Batch}
use Rattle.batch.specs.Batches.{empty_batch}
use Rattle.actions.specs.declared.Action.TheVariants.{StatusUp}
use Rattle.actions.specs.Actions.{Act, bare}
use Rattle.replica.specs.Step.{Call, received}
use Rattle.agreement.specs.Theorem.{Group, Mark, World, begin, timer, offer, logged, message, Reach, begins, turn, accept_entry}
use Rattle.agreement.specs.Runs.{Turn, all_present, changed, changed_world, deliver, get_d_in, gets, happen, late, late_world, logs, mark, noticed_world, offers, play, seven, thing, three, times, twice, twice_world, two_batches, who}

module _ (g : Group) (w : World) (r : Reach g w) (m : ℕ) (p : g.present m ≡ true) where
  deliver-Reach : (from : ℕ) (a : Act) → a ∈ w.did from → (l : List Call) → ((c : Call) → c ∈ l → c ∈ received from a) → Reach g (deliver w m l)
  unfolding deliver
  deliver-Reach from a h [] i = r
  deliver-Reach from a h (c ∷ l) i = turn r m p 3456 c (message from a c h (i c (Memᴰ.head refl)))

  nothing : Reach g (deliver w m [])
  unfolding deliver
  nothing = r

  gets_reach : (from k : ℕ) → (thing w from k ∈ w.did from) ⊎ (thing w from k ≡ bare StatusUp) → Reach g (deliver w m (received from (thing w from k)))
  gets_reach from k (inl h) = deliver-Reach from (thing w from k) h (received from (thing w from k)) (λ c i. i)
  gets_reach from k (inr e) = rw e nothing

happen-Reach : (g : Group) (w : World) → Reach g w → (t : Turn) → g.present (who t) ≡ true → Reach g (happen w t)
unfolding happen
happen-Reach g w r (times m source) p = turn r m p 3456 _ (timer source)
happen-Reach g w r (offers m b) p = turn r m p 3456 _ (offer b)
happen-Reach g w r (logs m e slot ballot size) p = turn r m p 3456 _ (logged _)
happen-Reach g w r (gets m from k) p = gets_reach g w r m p from k (get_d_in (w.did from) k (bare StatusUp))

pub play-Reach : (g : Group) (l : List Turn) (w : World) → Reach g w → all_present g l ≡ true → Reach g (play w l)
unfolding play all_present
play-Reach g [] w r e = r
play-Reach g (t ∷ l) w r e =
    play-Reach g l (happen w t) (happen-Reach g w r t (and_left (g.present (who t)) (all_present g l) e)) (and_right (g.present (who t)) (all_present g l) e)

pub changed_reached : Reach three changed_world
unfolding all_present three changed
changed_reached = play-Reach three changed (begin three) begins refl

pub late_reached : Reach three late_world
unfolding all_present three late
late_reached = play-Reach three late (begin three) begins refl

-- so the theorem's last two parts are false where "at one ballot" is left out
pub marks_need_ballots : ((w : World) → Reach three w → (k k' : Mark) → k ∈ w.marks → k' ∈ w.marks → k.slot ≡ k'.slot → k.batch ≡ k'.batch) → ⊥
marks_need_ballots h =
    let e : empty_batch ≡ seven = h late_world late_reached (mark 1 1 514 empty_batch) (mark 2 1 771 seven) (rw two_batches.marks (Memᴰ.head refl))
    (rw two_batches.marks (Memᴰ.tail (Memᴰ.head refl))) refl in
    omega (arith, ap (λ (b : Batch). b.id) e)

pub entries_need_ballots : ((w : World) → Reach three w → (m m' s ballot ballot' : ℕ) (b b' : Batch) → accept_entry s ballot b ∈ w.did m
    → accept_entry s ballot' b' ∈ w.did m' → b ≡ b') → ⊥
entries_need_ballots h =
    let e : empty_batch ≡ seven = h late_world late_reached 1 2 1 514 771 empty_batch seven two_batches.entry two_batches.entry' in
    omega (arith, ap (λ (b : Batch). b.id) e)

pub twice_reached : Reach three twice_world
unfolding all_present three late twice
twice_reached = play-Reach three twice (begin three) begins refl

pub noticed_reached : Reach three noticed_world
unfolding all_present three changed
noticed_reached = play-Reach three (take 22 changed) (begin three) begins refl
