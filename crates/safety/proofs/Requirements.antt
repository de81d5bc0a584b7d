-- The rest of specs/Requirements.antt: what stands on a theorem that a must-fail edit makes false.
use Rattle.std.specs.Prelude.{◌≡◌, true, List, ℕ}
use Rattle.std.proofs.Common.{sym, subst, arith}
use Rattle.base.specs.Among.{◌∈◌, All-in}
use Rattle.actions.specs.declared.Order.{Order}
use Rattle.actions.specs.declared.Action.TheVariants.{Execute}
use Rattle.replica.specs.declared.Done.{Done}
use Rattle.voting.specs.Paper.{OnlyOne, OnlyChosenLearned, P2, P2c}
use Rattle.voting.specs.Core.{Lawful, Obeys-P2c}
use Rattle.voting.proofs.Core.{Chosen-fixes, Chosen-agree, Chosen-issued}
use Rattle.agreement.specs.Theorem.{Group, World}
use Rattle.safety.specs.ForGood.{Comes}
use Rattle.agreement.specs.Worlds.{IsAccepted, IsIssued, IsLearned}
use Rattle.safety.specs.Sight.{ordered}
use Rattle.safety.specs.Scene.{Scene, HasPromised, Issued, Fixed, deed}
use Rattle.safety.specs.Lawfully.{member, lawful}
use Rattle.safety.specs.Proof.{scene_of, group_few, Fixed-same}
use Rattle.safety.proofs.Whole.{SoundIn, MarkFixed, sound_in}

-- ── the paper's ──
module _ (g : Group) (kind : g.strict ≡ true) (w : World) (r : Comes g w) where
  -- with whatever completions were reported
  abbrev pub reported : ℕ → List Done
  reported = (sound_in g kind w r).0

  abbrev pub scene : Scene
  scene = scene_of w reported

  sound : SoundIn g kind w reported
  sound = (sound_in g kind w r).1

  -- of all that was written, whether or not it was reported durable
  law : (s : ℕ) → Lawful g.size (HasPromised scene) (IsAccepted w s) (IsAccepted w s) (IsAccepted w s) (Issued scene s)
  law s =
      let l = lawful g.present scene sound.sound.alone sound.sound.nothing sound.sound.from g.size s (sound.sound.obeys s) in
      record { standing = λ m x y. y; written = λ m x y. y; told = l.told; one = l.one; obeys = l.obeys }

  -- 2.1: "A process never learns that a value has been chosen unless it actually has been"
  pub only_chosen_learned : (s : ℕ) → OnlyChosenLearned g.size (IsAccepted w s) (IsLearned w s)
  only_chosen_learned s m b (ballot, i) =
      let (x, _, q, (set, j, h)) = All-in (MarkFixed g kind scene) sound.marks i in
      (x, (set, j, λ p a. (h p a).0), q)

  -- 2.2, P2c: a proposal is issued where an Accept was sent for it
  pub P2c-kept : (s : ℕ) → P2c g.size (IsAccepted w s) (IsIssued w s)
  P2c-kept s =
      Obeys-P2c g.size (HasPromised scene) (IsAccepted w s) (IsIssued w s)
      (λ v (p, i).
      let (o, y, _) = (sound.sound.alone p (member g.present scene sound.sound.alone sound.sound.nothing p i)).local.said s v.ballot v.batch i in
      sound.sound.obeys s v (p, o, y))

  -- of a group that has a member
  module _ (m : ℕ) (p : g.present m ≡ true) where
    -- 2.1: "Only a single value is chosen"
    pub only_one : (s : ℕ) → OnlyOne g.size (IsAccepted w s)
    only_one s = Chosen-agree g.size (group_few g m p) (HasPromised scene) (IsAccepted w s) (IsAccepted w s) (IsAccepted w s) (Issued scene s) (law s)

    -- 2.2, P2
    pub higher_same : (s : ℕ) → P2 g.size (IsAccepted w s)
    higher_same s v v' c c' l =
        let few = group_few g m p in
        Chosen-fixes g.size few (HasPromised scene) (IsAccepted w s) (IsAccepted w s) (IsAccepted w s) (Issued scene s) (law s) v c v'
        (Chosen-issued g.size few (HasPromised scene) (IsAccepted w s) (IsAccepted w s) (IsAccepted w s) (Issued scene s) (law s) v' c') (omega arith)

    -- what reaches the stores: two Executes for one slot, of any members, name one batch
    pub executed_one : (j j' : ℕ) (o o' : Order) (keys keys' : List ℕ) → deed (Execute o) keys ∈ w.did j → deed (Execute o') keys' ∈ w.did j' → o.slot ≡ o'.slot
        → ordered o keys ≡ ordered o' keys'
    executed_one j j' o o' keys keys' i i' e =
        let (b, f) = sound.sound.executed j o keys i in
        let (b', f') = sound.sound.executed j' o' keys' i' in
        Fixed-same g.size (group_few g m p) g.present scene sound.sound o.slot b b' _ _ f (subst (λ (s : ℕ). Fixed g.size scene s b' (ordered o' keys')) (sym e) f')
