-- 2.2 in the group: each proposal obeys P2c. S is the majority that is counted as a slot enters Accept, and the member that told of the largest vote heard; of an
-- offer the majority that the lead rests on.
use Rattle.std.specs.Prelude.{◌≡◌, Bool, true, false, [], ◌⊎◌, ℕ, ◌≤◌, ◌<◌}
use Rattle.std.proofs.Common.{sym, subst, ◌∙◌, inl, inr, arith}
use Rattle.base.specs.Pick.{clash}
use Rattle.base.specs.Among.{◌∈◌}
use Rattle.members.specs.Sets.{has, insert}
use Rattle.batch.specs.declared.Batch.{Batch}
use Rattle.slots.specs.declared.Vote.{Vote}
use Rattle.slots.specs.declared.Slot.{Slot}
use Rattle.voting.specs.Paper.{Majority}
use Rattle.voting.specs.Core.{Obeys, Lawful, Obeys-stays}
use Rattle.voting.specs.StrictVotes.{entry_of}
use Rattle.voting.specs.Backing.{insert_or}
use Rattle.voting.specs.Covered.{insert-has, insert-Majority}
use Rattle.agreement.specs.Theorem.{accept_entry}
use Rattle.agreement.specs.Frame.{Owns, Why, led, told}
use Rattle.safety.specs.Sight.{plain, notes, highest, counted, Proposes, entered, offered, GoesOn, Lead, rose, on}
use Rattle.safety.specs.Scene.{Scene, HasPromised, Cast, Voted, Lasts, Issued, NoneBelow, Brought, completions, each, old_did, new_did, did_cases}
use Rattle.safety.specs.Alone.{Alone}
use Rattle.safety.specs.Lawfully.{Voted-Issued, lawful}
use Rattle.safety.specs.Rows.{Teller, Stands}
use Rattle.safety.specs.Growth.{Issued-ext, grows, Leading-ext}
use Rattle.safety.specs.Moves.{Move, before, next, one, one', me, member_of, wrote, ext}
use Rattle.safety.specs.LeadingOn.{mid_noting, mid_counts}

module _ {size : ℕ} {present : ℕ → Bool} {g : Scene} (t : Move size present g) where
  -- ── an accept entry stands also with the owner of its ballot ──
  from_why : (s : ℕ) (x : Vote) → entry_of s x ∈ t.acts → Why (plain (before t)) t.call s x.ballot x.batch → Issued (next t) s x
  from_why s x m (led o _ _ _) = (t.who, (let e = me t in omega arith), new_did g t.who t.after t.acts (completions t.call) m)
  from_why s x m (told p b c e o d) =
      let h = subst (Brought g t.who) c t.brought in
      let (_, y, tidy) = (t.sound.alone p (member_of t p h)).local.said s x.ballot b h in
      (p, o, old_did g t.who t.after t.acts (completions t.call) p (subst (λ (v : Batch). accept_entry s x.ballot v ∈ g.did p) (sym (e ∙ tidy)) y))

  pub from_step : (m s : ℕ) (x : Vote) → entry_of s x ∈ (next t).did m → Issued (next t) s x
  from_step m s x a = go (did_cases g t.who t.after t.acts (completions t.call) m a)
    where
      go : (entry_of s x ∈ g.did m) ⊎ ((m ≡ t.who) × (entry_of s x ∈ t.acts)) → Issued (next t) s x
      go (inl y) = Issued-ext (ext t) s x (t.sound.from m s x y)
      go (inr (_, y)) = from_why s x y (wrote t s x y).why

  -- ── the scene after the call: each member alone, and what it votes for ──
  pub Alone-next : (m : ℕ) → present m ≡ true → Alone m ((next t).sight m) ((next t).did m) ((next t).log m) ((next t).reported m)
  Alone-next m =
      each g t.who t.after t.acts (completions t.call) (λ j v h l r. present j ≡ true → Alone j v h l r) m (λ _. t.sound.alone m) (λ _. one' t)

  pub nothing_next : (m : ℕ) → present m ≡ false → ((next t).did m ≡ []) × ((next t).log m ≡ [])
  nothing_next m =
      each g t.who t.after t.acts (completions t.call) (λ j v h l r. present j ≡ false → (h ≡ []) × (l ≡ [])) m (λ _. t.sound.nothing m) (λ p. absurd (clash t.is p))

  pub votes_issued : (s m : ℕ) (x : Vote) → Voted (next t) s m x → Issued (next t) s x
  votes_issued = Voted-Issued present (next t) Alone-next nothing_next from_step

  -- ── P2c ──
  -- an issued proposal has a number above 0
  positive : (s : ℕ) (x : Vote) → Issued (next t) s x → 0 < x.ballot
  positive s x (p, o, m) = omega arith

  -- a slot that was Preparing as the quorum was counted, or is offered past the log end: the members that stand behind the lead are S
  module _ (mid : ℕ → Slot) (f : GoesOn (before t) t.call t.after mid t.acts) (s : ℕ) (x : Vote) (at : x.ballot ≡ (before t).sent) where
    abbrev Obey : Type 0
    Obey = Obeys size (HasPromised (next t)) (Cast (next t) s) (Voted (next t) s) x

    -- S is this majority, and the member that told of the largest vote heard
    module _ (set : ℕ) (j : Majority (before t).group set) (behind : (p : ℕ) → has set p ≡ true → Stands (next t) (before t).sent (before t).trigger t.after.stop mid p)
        (q : (mid s).status ≡ 1) (l : (before t).trigger ≤ s) (e : x.batch ≡ (mid s).batch) where
      large : Majority size set
      large = subst (λ (n : ℕ). Majority n set) (t.sound.sized t.who t.is) j

      under : (y : Vote) (p : ℕ) → has set p ≡ true → Voted (next t) s p y → y.ballot < x.ballot → y.ballot ≤ highest (mid s)
      under y p h a u = go ((behind p h).each s l q)
        where
          go : (has (notes (mid s)) p ≡ true) ⊎ NoneBelow (next t) p s (before t).sent → y.ballot ≤ highest (mid s)
          go (inl n) = (mid_noting t mid f).under s p l q n y a (omega arith)
          go (inr n) = let z = n y a in absurd (omega arith)

      unheard : highest (mid s) ≡ 0 → Obey
      unheard z =
          record {
            set = set;
            most = large;
            vowed = λ p h. subst (HasPromised (next t) p) (sym at) (behind p h).promised;
            value = inl (λ y ((p, h, a), u). (let w = under y p h a u in let v = positive s y (votes_issued s p y a) in omega arith));
          }

      module _ (p₀ : ℕ) (o : Teller (next t) (before t).group (before t).sent s (record { ballot = highest (mid s); batch = (mid s).batch }) p₀) where
        vows : (p : ℕ) → (p ≡ p₀) ⊎ (has set p ≡ true) → HasPromised (next t) p (before t).sent
        vows p (inl z) = subst (λ (n : ℕ). HasPromised (next t) n (before t).sent) (sym z) o.promised
        vows p (inr h) = (behind p h).promised

        all_under : (y : Vote) (p : ℕ) → (p ≡ p₀) ⊎ (has set p ≡ true) → Voted (next t) s p y → y.ballot < x.ballot → y.ballot ≤ highest (mid s)
        all_under y p (inl z) a u = o.under y (subst (λ (n : ℕ). Voted (next t) s n y) z a) (omega arith)
        all_under y p (inr h) a u = under y p h a u

        told_of : highest (mid s) < (before t).sent → Obey
        told_of u =
            let sized = t.sound.sized t.who t.is in
            let few : size ≤ 9 = subst (λ (n : ℕ). n ≤ 9) sized (one t).fine.few in
            let member : p₀ < size = subst (λ (n : ℕ). p₀ < n) sized o.member in
            record {
              set = insert set p₀;
              most = insert-Majority size set p₀ few member large;
              vowed = λ p h. subst (HasPromised (next t) p) (sym at) (vows p (insert_or set p₀ p h));
              value = inr (
                record { ballot = highest (mid s); batch = (mid s).batch },
                ((p₀, insert-has size set p₀ few member large.within, o.cast), omega arith),
                sym e,
                λ y ((p, h, a), w). all_under y p (insert_or set p₀ p h) a w,
              );
            }

      obeys_entered : Obey
      obeys_entered = go ((mid_noting t mid f).value s l q)
        where
          go : (highest (mid s) ≡ 0) ⊎ ((highest (mid s) < (before t).sent)
              × ((p : ℕ) × Teller (next t) (before t).group (before t).sent s (record { ballot = highest (mid s); batch = (mid s).batch }) p)) → Obey
          go (inl z) = unheard z
          go (inr (u, (p, o))) = told_of p o u

  -- an offer: nobody that stands behind the lead has a vote past its log end
  Obeys-offered : (s : ℕ) (x : Vote) → x.ballot ≡ (before t).sent → (before t).leading ≡ true → (before t).prepared ≡ (before t).sent → (before t).stop ≤ s
      → Obeys size (HasPromised (next t)) (Cast (next t) s) (Voted (next t) s) x
  Obeys-offered s x at l e u =
      let (set, j, behind) = (Leading-ext (ext t) (before t) (t.sound.lead t.who t.is l)).most e in
      record {
        set = set;
        most = subst (λ (n : ℕ). Majority n set) (t.sound.sized t.who t.is) j;
        vowed = λ p h. subst (HasPromised (next t) p) (sym at) (behind p h).promised;
        value = inl (λ y ((p, h, a), w). (let z = (behind p h).past s u y a in omega arith));
      }

  Obeys-new : (s : ℕ) (x : Vote) → entry_of s x ∈ t.acts → Owns t.who x.ballot → Obeys size (HasPromised (next t)) (Cast (next t) s) (Voted (next t) s) x
  Obeys-new s x m o = go (t.frame.leads.entries s x.ballot x.batch m (let e = me t in omega arith))
    where
      go : Proposes (before t) t.after t.frame.leads.mid s x.ballot x.batch → Obeys size (HasPromised (next t)) (Cast (next t) s) (Voted (next t) s) x
      go (offered l _ at e z) = Obeys-offered s x at l z (omega arith)
      go (entered l l' at q u e j) = lead (t.frame.leads.lead l')
        where
          lead : Lead (before t) t.call t.after t.frame.leads.mid t.acts → Obeys size (HasPromised (next t)) (Cast (next t) s) (Voted (next t) s) x
          lead (rose f) = absurd (let a = f.above in let b = (wrote t s x m).top in let c = (one t).fine.sent l in omega arith)
          lead (on f) = obeys_entered t.frame.leads.mid f s x at (counted t.after) j (mid_counts t t.frame.leads.mid f) q u e

  pub Obeys-step : (s : ℕ) (x : Vote) → Issued (next t) s x → Obeys size (HasPromised (next t)) (Cast (next t) s) (Voted (next t) s) x
  Obeys-step s x (p, o, m) = go (did_cases g t.who t.after t.acts (completions t.call) p m)
    where
      go : (entry_of s x ∈ g.did p) ⊎ ((p ≡ t.who) × (entry_of s x ∈ t.acts)) → Obeys size (HasPromised (next t)) (Cast (next t) s) (Voted (next t) s) x
      go (inl y) = Obeys-stays (grows (ext t) s) x (t.sound.obeys s x (p, o, y))
      go (inr (e, y)) = Obeys-new s x y (subst (λ (j : ℕ). Owns j x.ballot) e o)

  -- so the paper's argument holds of the scene after the call
  pub Lawful-next : (s : ℕ) → Lawful size (HasPromised (next t)) (Lasts (next t) s) (Voted (next t) s) (Cast (next t) s) (Issued (next t) s)
  Lawful-next s = lawful present (next t) Alone-next nothing_next from_step size s (Obeys-step s)
