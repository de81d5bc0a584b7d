-- Rule (c) in the group: what a leader has noted and counted is so, as a reply was heard (`mid`) and after the call.
use Rattle.std.specs.Prelude.{◌≡◌, Bool, true, false, ◌⊎◌, ℕ, ◌≤◌, ◌<◌, leb}
use Rattle.std.proofs.Common.{sym, ap, subst, ◌∙◌, inl, inr, arith, leb-true, leb-false}
use Rattle.base.specs.Pick.{decide, same?, clash}
use Rattle.base.specs.Among.{◌∈◌}
use Rattle.members.specs.Sets.{has}
use Rattle.members.specs.Laws.{has_none}
use Rattle.batch.specs.declared.Batch.{Batch}
use Rattle.slots.specs.declared.Vote.{Vote}
use Rattle.slots.specs.declared.Slot.{Slot}
use Rattle.voting.specs.Paper.{Majority}
use Rattle.voting.specs.StrictVotes.{entry_of}
use Rattle.agreement.specs.Frame.{Owns}
use Rattle.safety.specs.Sight.{notes, highest, counted, Noted, still, heard, Counts, GoesOn, Rose, Lead, rose, on}
use Rattle.safety.specs.Scene.{Scene, Cast, HasPromised, Voted, Issued, NoneBelow}
use Rattle.safety.specs.Rows.{Teller, Noting, Stands, Leading}
use Rattle.safety.specs.Growth.{Leading-ext}
use Rattle.safety.specs.Moves.{Move, before, next, one, one', me, ext}
use Rattle.safety.specs.Telling.{Hears, hears}

module _ {size : ℕ} {present : ℕ → Bool} {g : Scene} (t : Move size present g) where
  -- ── the lead goes on ──
  module _ (mid : ℕ → Slot) (f : GoesOn (before t) t.call t.after mid t.acts) where
    -- as before the call, in the scene after it
    still_leading : Leading (next t) (before t)
    still_leading = Leading-ext (ext t) (before t) (t.sound.lead t.who t.is f.leading)

    -- nobody is noted past the log end, and nothing was heard there
    blank : (k p : ℕ) → (before t).stop ≤ k → has (notes ((before t).slot k)) p ≡ true → ⊥
    blank k p l h = clash (subst (λ (x : Slot). has (notes x) p ≡ true) ((one t).fine.past k l) h) (has_none p)

    silent : (k : ℕ) → (before t).stop ≤ k → highest ((before t).slot k) ≡ 0
    silent k l = ap highest ((one t).fine.past k l)

    -- a leader's own proposal at its ballot is for a slot that is Accepting or more
    unproposed : (k : ℕ) (v : Vote) → (mid k).status ≡ 1 → v.ballot ≡ (before t).sent → Issued g k v → ⊥
    unproposed k v q e (p, o, m) =
        let own = (one t).fine.own f.leading in
        let at = (one t).fine.sent f.leading in
        let w : p ≡ t.who = (let z = me t in omega arith) in
        let h = ((one t).local.live k v.ballot v.batch (subst (λ (j : ℕ). entry_of k v ∈ g.did j) w m) (subst (λ (j : ℕ). Owns j v.ballot) w o) f.leading (e ∙ at)).on in
        go h (f.was k q)
      where
        go : 2 ≤ ((before t).slot k).status → (((before t).slot k).status ≡ 1) ⊎ ((before t).stop ≤ k) → ⊥
        go h (inl z) = omega arith
        go h (inr z) = omega (arith, ap (λ (x : Slot). x.status) ((one t).fine.past k z))

    promised_at : (k p : ℕ) → (before t).trigger ≤ k → (mid k).status ≡ 1 → has (notes ((before t).slot k)) p ≡ true → HasPromised (next t) p (before t).sent
    promised_at k p l q h = go (f.was k q)
      where
        go : (((before t).slot k).status ≡ 1) ⊎ ((before t).stop ≤ k) → HasPromised (next t) p (before t).sent
        go (inl z) = still_leading.noting.promised k p l z h
        go (inr z) = absurd (blank k p z h)

    under_at : (k p : ℕ) → (before t).trigger ≤ k → (mid k).status ≡ 1 → has (notes ((before t).slot k)) p ≡ true
        → (x : Vote) → Voted (next t) k p x → x.ballot < (before t).sent → x.ballot ≤ highest ((before t).slot k)
    under_at k p l q h = go (f.was k q)
      where
        go : (((before t).slot k).status ≡ 1) ⊎ ((before t).stop ≤ k) → (x : Vote) → Voted (next t) k p x → x.ballot < (before t).sent → x.ballot ≤ highest ((before t).slot k)
        go (inl z) = still_leading.noting.under k p l z h
        go (inr z) = absurd (blank k p z h)

    abbrev Valued : ℕ → ℕ → Batch → Type 0
    Valued k n b = (n ≡ 0) ⊎ ((n < (before t).sent) × ((q : ℕ) × Teller (next t) (before t).group (before t).sent k (record { ballot = n; batch = b }) q))

    value_at : (k : ℕ) → (before t).trigger ≤ k → (mid k).status ≡ 1 → Valued k (highest ((before t).slot k)) ((before t).slot k).batch
    value_at k l q = go (f.was k q)
      where
        go : (((before t).slot k).status ≡ 1) ⊎ ((before t).stop ≤ k) → Valued k (highest ((before t).slot k)) ((before t).slot k).batch
        go (inl z) = still_leading.noting.value k l z
        go (inr z) = inl (silent k z)

    -- of one slot as the reply was heard
    Noted-promised : (k p : ℕ) → (before t).trigger ≤ k → (mid k).status ≡ 1 → Noted (before t) t.call k ((before t).slot k) (mid k) → has (notes (mid k)) p ≡ true
        → HasPromised (next t) p (before t).sent
    Noted-promised k p l q (still n _ _) h = promised_at k p l q (subst (λ (x : ℕ). has x p ≡ true) n h)
    Noted-promised k p l q (heard p₀ e v r new old alt) h = go (new p h)
      where
        go : (has (notes ((before t).slot k)) p ≡ true) ⊎ (p ≡ p₀) → HasPromised (next t) p (before t).sent
        go (inl z) = promised_at k p l q z
        go (inr z) = subst (λ (j : ℕ). HasPromised (next t) j (before t).sent) (sym z) (hears t p₀ k e v f.leading r).tells.promised

    Noted-under : (k p : ℕ) → (before t).trigger ≤ k → (mid k).status ≡ 1 → Noted (before t) t.call k ((before t).slot k) (mid k) → has (notes (mid k)) p ≡ true
        → (x : Vote) → Voted (next t) k p x → x.ballot < (before t).sent → x.ballot ≤ highest (mid k)
    Noted-under k p l q (still n m _) h x a u = let z = under_at k p l q (subst (λ (y : ℕ). has y p ≡ true) n h) x a u in omega arith
    Noted-under k p l q (heard p₀ e v r new old alt) h x a u = go (new p h) (top alt)
      where
        top : ((highest ((before t).slot k) < v.ballot) × (highest (mid k) ≡ v.ballot) × ((mid k).batch ≡ v.batch))
            ⊎ ((v.ballot ≤ highest ((before t).slot k)) × (highest (mid k) ≡ highest ((before t).slot k)) × ((mid k).batch ≡ ((before t).slot k).batch))
            → (highest ((before t).slot k) ≤ highest (mid k)) × (v.ballot ≤ highest (mid k))
        top (inl (y, z, _)) = (omega arith, omega arith)
        top (inr (y, z, _)) = (omega arith, omega arith)

        go : (has (notes ((before t).slot k)) p ≡ true) ⊎ (p ≡ p₀) → (highest ((before t).slot k) ≤ highest (mid k)) × (v.ballot ≤ highest (mid k)) → x.ballot ≤ highest (mid k)
        go (inl z) (y, w) = let o = under_at k p l q z x a u in omega arith
        go (inr z) (y, w) =
            let o = (hears t p₀ k e v f.leading r).tells.under x (subst (λ (j : ℕ). Voted (next t) k j x) z a) u in omega arith

    Noted-value : (k : ℕ) → (before t).trigger ≤ k → (mid k).status ≡ 1 → Noted (before t) t.call k ((before t).slot k) (mid k) → Valued k (highest (mid k)) (mid k).batch
    Noted-value k l q (still _ m b) = subst (λ (n : ℕ). Valued k n (mid k).batch) (sym m) (subst (Valued k (highest ((before t).slot k))) (sym b) (value_at k l q))
    Noted-value k l q (heard p e v r new old (inr (_, m, b))) = subst (λ (n : ℕ). Valued k n (mid k).batch) (sym m) (subst (Valued k (highest ((before t).slot k))) (sym b) (value_at k l q))
    Noted-value k l q (heard p e v r new old (inl (_, m, b))) =
        subst (λ (n : ℕ). Valued k n (mid k).batch) (sym m) (subst (Valued k v.ballot) (sym b) (go (hears t p k e v f.leading r).before_it))
      where
        go : (v.ballot ≡ 0) ⊎ Cast g k p v → Valued k v.ballot v.batch
        go (inl z) = inl z
        go (inr z) =
            let y = hears t p k e v f.leading r in
            inr (below (same? v.ballot (before t).sent), (p, record { member = y.member; promised = y.tells.promised; under = y.tells.under; cast = (ext t).keeps p z }))
          where
            below : (v.ballot ≡ (before t).sent) ⊎ (v.ballot ≡ (before t).sent → ⊥) → v.ballot < (before t).sent
            below (inl y) = absurd (unproposed k v q y (t.sound.from p k v z))
            below (inr y) = let w = (hears t p k e v f.leading r).tells.low in omega arith

    pub mid_noting : Noting (next t) (before t).group (before t).sent (before t).trigger mid
    mid_noting =
        record {
          promised = λ k p l q h. Noted-promised k p l q (f.noted k q) h;
          under = λ k p l q h. Noted-under k p l q (f.noted k q) h;
          value = λ k l q. Noted-value k l q (f.noted k q);
        }

    -- a note stays
    note_stays : (k p : ℕ) → Noted (before t) t.call k ((before t).slot k) (mid k) → has (notes ((before t).slot k)) p ≡ true → has (notes (mid k)) p ≡ true
    note_stays k p (still n _ _) h = subst (λ (x : ℕ). has x p ≡ true) (sym n) h
    note_stays k p (heard _ _ _ _ _ old _) h = old p h

    -- who stood behind the lead does so still: a slot that is new lay past the log end
    Stands-mid : (p : ℕ) → Stands (next t) (before t).sent (before t).trigger (before t).stop (before t).slot p
        → Stands (next t) (before t).sent (before t).trigger t.after.stop mid p
    Stands-mid p s = record { promised = s.promised; each = λ k l q. go k l q (f.was k q); past = λ k l. s.past k (omega (arith, t.frame.longer)) }
      where
        or_stays : (k : ℕ) → (mid k).status ≡ 1 → (has (notes ((before t).slot k)) p ≡ true) ⊎ NoneBelow (next t) p k (before t).sent
            → (has (notes (mid k)) p ≡ true) ⊎ NoneBelow (next t) p k (before t).sent
        or_stays k q (inl h) = inl (note_stays k p (f.noted k q) h)
        or_stays k q (inr h) = inr h

        go : (k : ℕ) → (before t).trigger ≤ k → (mid k).status ≡ 1 → (((before t).slot k).status ≡ 1) ⊎ ((before t).stop ≤ k)
            → (has (notes (mid k)) p ≡ true) ⊎ NoneBelow (next t) p k (before t).sent
        go k l q (inl z) = or_stays k q (s.each k l z)
        go k l q (inr z) = inr (s.past k z)

    -- a member counted now: noted up to its endprep, with no vote below the ballot past it
    Counts-mid : (p : ℕ) → Counts (before t) t.call t.after mid p → Stands (next t) (before t).sent (before t).trigger t.after.stop mid p
    Counts-mid p y =
        let h = hears t p y.slot y.end y.vote f.leading y.reply in
        record {
          promised = h.tells.promised;
          each = λ k l q. go h k l q (decide (leb k y.end));
          past = λ k l. h.clear k (omega (arith, y.high)) (inr (omega (arith, t.frame.longer)));
        }
      where
        go : Hears t p y.slot y.end y.vote → (k : ℕ) → (before t).trigger ≤ k → (mid k).status ≡ 1 → (leb k y.end ≡ true) ⊎ (leb k y.end ≡ false)
            → (has (notes (mid k)) p ≡ true) ⊎ NoneBelow (next t) p k (before t).sent
        go h k l q (inl z) = inl (y.noted k l (leb-true _ _ z) q)
        go h k l q (inr z) = inr (h.clear k (leb-false _ _ z) (f.was k q))

    pub mid_counts : (p : ℕ) → has (counted t.after) p ≡ true → Stands (next t) (before t).sent (before t).trigger t.after.stop mid p
    mid_counts p h = go (f.counts p h)
      where
        go : (has (counted (before t)) p ≡ true) ⊎ Counts (before t) t.call t.after mid p → Stands (next t) (before t).sent (before t).trigger t.after.stop mid p
        go (inl z) = Stands-mid p (still_leading.counts p z)
        go (inr z) = Counts-mid p z

    -- ── after the call: what is Preparing still is as it was heard ──
    after_noting : Noting (next t) (before t).group (before t).sent (before t).trigger t.after.slot
    after_noting =
        record {
          promised = λ k p l q h. (let (a, n, _, _) = f.after k q in mid_noting.promised k p l a (subst (λ (x : ℕ). has x p ≡ true) n h));
          under = λ k p l q h x y u. (let (a, n, e, _) = f.after k q in let z = mid_noting.under k p l a (subst (λ (x : ℕ). has x p ≡ true) n h) x y u in omega arith);
          value = λ k l q. (let (a, _, e, b) = f.after k q in
              subst (λ (n : ℕ). Valued k n (t.after.slot k).batch) (sym e) (subst (Valued k (highest (mid k))) (sym b) (mid_noting.value k l a)));
        }

    after_stands : (p : ℕ) → Stands (next t) (before t).sent (before t).trigger t.after.stop mid p
        → Stands (next t) (before t).sent (before t).trigger t.after.stop t.after.slot p
    after_stands p s = record { promised = s.promised; each = λ k l q. (let (a, n, _, _) = f.after k q in go k n (s.each k l a)); past = s.past }
      where
        go : (k : ℕ) → notes (t.after.slot k) ≡ notes (mid k) → (has (notes (mid k)) p ≡ true) ⊎ NoneBelow (next t) p k (before t).sent
            → (has (notes (t.after.slot k)) p ≡ true) ⊎ NoneBelow (next t) p k (before t).sent
        go k n (inl h) = inl (subst (λ (x : ℕ). has x p ≡ true) (sym n) h)
        go k n (inr h) = inr h

    abbrev Behind : ℕ → ℕ → ℕ → Type 0
    Behind sent trigger p = Stands (next t) sent trigger t.after.stop t.after.slot p

    renamed : (p : ℕ) → Behind (before t).sent (before t).trigger p → Behind t.after.sent t.after.trigger p
    renamed p s = subst (λ (b : ℕ). Behind b t.after.trigger p) (sym f.sent) (subst (λ (n : ℕ). Behind (before t).sent n p) (sym f.trigger) s)

    -- the members that a prepared ballot rests on: those of before, or those that are counted
    pub mid_most : t.after.prepared ≡ (before t).sent
        → (set : ℕ) × Majority (before t).group set × ((p : ℕ) → has set p ≡ true → Stands (next t) (before t).sent (before t).trigger t.after.stop mid p)
    mid_most e = go f.prepared
      where
        go : (t.after.prepared ≡ (before t).prepared) ⊎ Majority (before t).group (counted t.after)
            → (set : ℕ) × Majority (before t).group set × ((p : ℕ) → has set p ≡ true → Stands (next t) (before t).sent (before t).trigger t.after.stop mid p)
        go (inl z) = let (set, j, s) = still_leading.most (sym z ∙ e) in (set, j, λ p h. Stands-mid p (s p h))
        go (inr j) = (counted t.after, j, mid_counts)

    goes_on : Leading (next t) t.after
    goes_on =
        record {
          noting = subst (λ (n : ℕ). Noting (next t) n t.after.sent t.after.trigger t.after.slot) (sym t.frame.group)
              (subst (λ (b : ℕ). Noting (next t) (before t).group b t.after.trigger t.after.slot) (sym f.sent)
              (subst (λ (n : ℕ). Noting (next t) (before t).group (before t).sent n t.after.slot) (sym f.trigger) after_noting));
          counts = λ p h. renamed p (after_stands p (mid_counts p h));
          most = λ e. (let (set, j, s) = mid_most (e ∙ f.sent) in (set, subst (λ (n : ℕ). Majority n set) (sym t.frame.group) j, λ p h. renamed p (after_stands p (s p h))));
        }

  -- ── a step-up: nobody is noted or counted ──
  rises : Rose (before t) t.after t.acts → t.after.leading ≡ true → Leading (next t) t.after
  rises f z =
      record {
        noting = record {
          promised = λ k p l q h. absurd ((f.unnoted k q).0 p h);
          under = λ k p l q h. absurd ((f.unnoted k q).0 p h);
          value = λ k l q. inl (f.unnoted k q).1;
        };
        counts = λ p h. absurd (f.uncounted p h);
        most = λ e. absurd (let a = f.unprepared in let b = (one' t).fine.sent z in let c = (one' t).fine.own z in omega arith);
      }

  pub lead_step : t.after.leading ≡ true → Leading (next t) t.after
  lead_step z = go (t.frame.leads.lead z)
    where
      go : Lead (before t) t.call t.after t.frame.leads.mid t.acts → Leading (next t) t.after
      go (rose f) = rises f z
      go (on f) = goes_on t.frame.leads.mid f
