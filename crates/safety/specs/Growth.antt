-- As a group goes on: completions are reported and things done, a vote that lasts stays, and a vote that stands now stood before or is not below what its
-- member promised. What was told, promised and chosen stays so; a step of another member needs no more than this.
use Rattle.std.specs.Prelude.{◌≡◌, true, ◌⊎◌, ℕ, ◌≤◌, ◌<◌}
use Rattle.std.proofs.Common.{inl, inr, arith}
use Rattle.base.specs.Among.{◌∈◌}
use Rattle.members.specs.Sets.{has}
use Rattle.batch.specs.declared.Batch.{Batch}
use Rattle.actions.specs.Actions.{Act}
use Rattle.slots.specs.declared.Vote.{Vote}
use Rattle.slots.specs.declared.Slot.{Slot}
use Rattle.voting.specs.Core.{Grows, Chosen-stays}
use Rattle.safety.specs.Sight.{Sight, notes, highest}
use Rattle.safety.specs.Scene.{Scene, HasPromised, Cast, Voted, Lasts, Issued, NoneBelow, Fixed}
use Rattle.safety.specs.Rows.{Tells, Told, Teller, Noting, Stands, Leading}

pub record Ext (g g' : Scene) : Type 0 where
  pub promises : (m n : ℕ) → HasPromised g m n → HasPromised g' m n
  pub keeps : (m : ℕ) {a : Act} → a ∈ g.did m → a ∈ g'.did m
  pub lasting : (m s : ℕ) (x : Vote) → Lasts g s m x → Lasts g' s m x
  pub newer : (m s : ℕ) (x : Vote) → Voted g' s m x → Voted g s m x ⊎ ((n : ℕ) → HasPromised g m n → n ≤ x.ballot)

module _ {g g' : Scene} (e : Ext g g') where
  pub Issued-ext : (s : ℕ) (x : Vote) → Issued g s x → Issued g' s x
  Issued-ext s x (p, o, m) = (p, o, e.keeps p m)

  pub grows : (s : ℕ) → Grows (HasPromised g) (HasPromised g') (Lasts g s) (Lasts g' s) (Voted g s) (Voted g' s) (Cast g s) (Cast g' s)
  grows s = record { up = e.promises; votes = λ m x y. e.lasting m s x y; writes = λ m x y. e.keeps m y; newer = λ m x y. e.newer m s x y }

  pub Fixed-ext : (size s b b' : ℕ) (v : Batch) → b ≤ b' → Fixed size g s b v → Fixed size g' s b' v
  Fixed-ext size s b b' v l (x, u, q, c) = (x, omega arith, q, Chosen-stays (grows s) x c)

  pub none_ext : (p k b : ℕ) → HasPromised g p b → NoneBelow g p k b → NoneBelow g' p k b
  none_ext p k b v f x m = go (e.newer p k x m)
    where
      go : Voted g k p x ⊎ ((n : ℕ) → HasPromised g p n → n ≤ x.ballot) → b ≤ x.ballot
      go (inl y) = f x y
      go (inr y) = y b v

  -- below what p promised its votes stay as they were
  below_ext : (p k b top : ℕ) → HasPromised g p b → ((x : Vote) → Voted g k p x → x.ballot < b → x.ballot ≤ top) → (x : Vote) → Voted g' k p x → x.ballot < b → x.ballot ≤ top
  below_ext p k b top v f x m l = go (e.newer p k x m)
    where
      go : Voted g k p x ⊎ ((n : ℕ) → HasPromised g p n → n ≤ x.ballot) → x.ballot ≤ top
      go (inl y) = f x y l
      go (inr y) = let z = y b v in absurd (omega arith)

  pub Tells-ext : (p s b : ℕ) (v : Vote) → Tells g p s b v → Tells g' p s b v
  Tells-ext p s b v t =
      record { promised = e.promises p b t.promised; under = below_ext p s b v.ballot t.promised t.under; low = t.low; value = go t.value }
    where
      go : (v.ballot ≡ 0) ⊎ Cast g s p v → (v.ballot ≡ 0) ⊎ Cast g' s p v
      go (inl z) = inl z
      go (inr z) = inr (e.keeps p z)

  pub Told-ext : (p s k b : ℕ) (v : Vote) → Told g p s k b v → Told g' p s k b v
  Told-ext p s k b v t = record { tells = Tells-ext p s b v t.tells; clear = λ j l. none_ext p j b t.tells.promised (t.clear j l) }

  Teller-ext : (group sent k : ℕ) (v : Vote) (q : ℕ) → Teller g group sent k v q → Teller g' group sent k v q
  Teller-ext group sent k v q t =
      record { member = t.member; promised = e.promises q sent t.promised; under = below_ext q k sent v.ballot t.promised t.under; cast = e.keeps q t.cast }

  Noting-ext : (group sent trigger : ℕ) (slot : ℕ → Slot) → Noting g group sent trigger slot → Noting g' group sent trigger slot
  Noting-ext group sent trigger slot t =
      record {
        promised = λ k p l q z. e.promises p sent (t.promised k p l q z);
        under = λ k p l q z. below_ext p k sent (highest (slot k)) (t.promised k p l q z) (t.under k p l q z);
        value = λ k l q. go k (t.value k l q);
      }
    where
      go : (k : ℕ) → (highest (slot k) ≡ 0) ⊎ ((highest (slot k) < sent) × ((q : ℕ) × Teller g group sent k (record { ballot = highest (slot k); batch = (slot k).batch }) q))
          → (highest (slot k) ≡ 0) ⊎ ((highest (slot k) < sent) × ((q : ℕ) × Teller g' group sent k (record { ballot = highest (slot k); batch = (slot k).batch }) q))
      go k (inl z) = inl z
      go k (inr (l, (q, z))) = inr (l, (q, Teller-ext group sent k _ q z))

  pub Stands-ext : (sent trigger stop : ℕ) (slot : ℕ → Slot) (p : ℕ) → Stands g sent trigger stop slot p → Stands g' sent trigger stop slot p
  Stands-ext sent trigger stop slot p t =
      record {
        promised = e.promises p sent t.promised;
        each = λ k l q. go k (t.each k l q);
        past = λ k l. none_ext p k sent t.promised (t.past k l);
      }
    where
      go : (k : ℕ) → (has (notes (slot k)) p ≡ true) ⊎ NoneBelow g p k sent → (has (notes (slot k)) p ≡ true) ⊎ NoneBelow g' p k sent
      go k (inl z) = inl z
      go k (inr z) = inr (none_ext p k sent t.promised z)

  pub Leading-ext : (v : Sight) → Leading g v → Leading g' v
  Leading-ext v t =
      record {
        noting = Noting-ext v.group v.sent v.trigger v.slot t.noting;
        counts = λ p z. Stands-ext v.sent v.trigger v.stop v.slot p (t.counts p z);
        most = λ z. (let (set, j, f) = t.most z in (set, j, λ p y. Stands-ext v.sent v.trigger v.stop v.slot p (f p y)));
      }
