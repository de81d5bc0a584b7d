-- What is committed is chosen: a slot that a leader marks by a majority of acknowledgements, one that a CommitNotice marks, and what stays committed.
use Rattle.std.specs.Prelude.{◌≡◌, refl, Bool, true, false, List, ◌++◌, ◌⊎◌, ℕ, ◌≤◌, ◌<◌, ltb}
use Rattle.std.proofs.Common.{sym, subst, ◌∙◌, inl, inr, arith, ltb-true, ltb-false}
use mathlib.Core.List.Memᴰ
use Rattle.base.specs.Pick.{decide}
use Rattle.base.specs.Among.{◌∈◌, All-in}
use Rattle.members.specs.Sets.{has}
use Rattle.batch.specs.declared.Batch.{Batch}
use Rattle.actions.specs.declared.Notice.{Notice}
use Rattle.actions.specs.declared.Order.{Order}
use Rattle.actions.specs.declared.Action.TheVariants.{CommitNotice, Execute}
use Rattle.actions.specs.Actions.{Act}
use Rattle.slots.specs.declared.Vote.{Vote}
use Rattle.voting.specs.Paper.{Majority}
use Rattle.voting.specs.StrictVotes.{entry_of}
use Rattle.agreement.specs.Theorem.{accept_entry}
use Rattle.agreement.specs.Frame.{Owns}
use Rattle.safety.specs.Sight.{acks, Acked, acked_peer, acked_own, Marking, tallied, noticed, Marks, Notices, Executes, Says, Proposes, entered, offered, Lead, rose, on, ordered}
use Rattle.safety.specs.Scene.{Scene, Lasts, Issued, Fixed, Brought, completions, old_did, did_cases, deed}
use Rattle.safety.specs.Growth.{Fixed-ext}
use Rattle.safety.specs.Moves.{Move, before, next, one, one', me, wrote, ext}
use Rattle.safety.specs.Telling.{Lasts-now}
use Rattle.safety.specs.Choosing.{from_step, votes_issued, Lawful-next}

module _ {size : ℕ} {present : ℕ → Bool} {g : Scene} (t : Move size present g) where
  -- ── who acknowledged a slot at the ballot of the lead has a vote there that lasts ──
  abbrev LastsAt : ℕ → ℕ → ℕ → Type 0
  LastsAt s b p = (x : Vote) × (x.ballot ≡ b) × Lasts (next t) s p x

  pub acked_step : t.after.leading ≡ true → (s p : ℕ) → (t.after.slot s).ballot ≡ t.after.sent → has (acks (t.after.slot s)) p ≡ true → LastsAt s (t.after.slot s).ballot p
  acked_step l s p at h = go ((t.frame.slot s).acked l at p h)
    where
      by : Acked (before t) t.call p s (t.after.slot s).ballot → LastsAt s (t.after.slot s).ballot p
      by (acked_peer c) =
          let (a, keys, m, e, b) = subst (Brought g t.who) c t.brought in
          let (x, q, y) = t.sound.took p a keys m in
          (x, q ∙ b, (ext t).lasting p s x (subst (λ (n : ℕ). Lasts g n p x) e y))
      by (acked_own n q c) = subst (LastsAt s (t.after.slot s).ballot) (sym (q ∙ me t)) (Lasts-now t s (t.after.slot s).ballot n c)

      go : (((before t).leading ≡ true) × ((before t).sent ≡ t.after.sent) × (((before t).slot s).ballot ≡ (before t).sent) × (has (acks ((before t).slot s)) p ≡ true))
          ⊎ Acked (before t) t.call p s (t.after.slot s).ballot → LastsAt s (t.after.slot s).ballot p
      go (inl (z, e, b, q)) = let (x, w, y) = t.sound.acked t.who t.is z s p b q in (x, w ∙ b ∙ e ∙ sym at, (ext t).lasting p s x y)
      go (inr y) = by y

  -- ── a slot committed ──
  -- the proposal that a slot of the member holds after the call
  abbrev held : ℕ → Vote
  held s = record { ballot = (t.after.slot s).ballot; batch = (t.after.slot s).batch }

  -- the accept entry of a slot that is marked
  entry : (s : ℕ) → Marks (before t) t.call t.after s ((before t).slot s) (t.after.slot s) → entry_of s (held s) ∈ g.did t.who
  entry s k =
      subst (λ (b : ℕ). accept_entry s b (t.after.slot s).batch ∈ g.did t.who) (sym k.at)
      (subst (λ (e : Batch). accept_entry s ((before t).slot s).ballot e ∈ g.did t.who) (sym k.val) ((one t).local.stands ((one t).local.voted s k.was)))

  Issued-held : (s : ℕ) → Marks (before t) t.call t.after s ((before t).slot s) (t.after.slot s) → Issued (next t) s (held s)
  Issued-held s k = from_step t t.who s (held s) (old_did g t.who t.after t.acts (completions t.call) t.who (entry s k))

  marked : (s : ℕ) → Marks (before t) t.call t.after s ((before t).slot s) (t.after.slot s) → Fixed size (next t) s (t.after.slot s).ballot (t.after.slot s).batch
  marked s k = go k.why
    where
      -- a vote that lasts at the slot's ballot is for its batch
      same : (p : ℕ) → LastsAt s (t.after.slot s).ballot p → Lasts (next t) s p (held s)
      same p (x, e, y) =
          let b = (Lawful-next t s).one x (held s) (votes_issued t s p x y.0) (Issued-held s k) e in
          subst (Lasts (next t) s p) (λ i. record { ballot = e i; batch = b i }) y

      go : Marking (before t) t.call t.after s ((before t).slot s) (t.after.slot s) → Fixed size (next t) s (t.after.slot s).ballot (t.after.slot s).batch
      go (tallied l at j) = (
        held s,
        omega arith,
        refl,
        (acks (t.after.slot s), subst (λ (n : ℕ). Majority n (acks (t.after.slot s))) (t.sound.sized t.who t.is) j, λ p h. same p (acked_step l s p at h)),
      )
      go (noticed p b bar c o e u) =
          let (a, keys, m, q, z) = subst (Brought g t.who) c t.brought in
          let (p', o', w) = t.sound.from t.who s (held s) (entry s k) in
          let at : (t.after.slot s).ballot ≡ b = k.at ∙ sym e in
          let is : p' ≡ p = omega arith in
          Fixed-ext (ext t) size s _ _ _ (omega arith)
          ((t.sound.notice p a keys m).1 s (held s) (omega arith) (at ∙ sym q) (subst (λ (j : ℕ). entry_of s (held s) ∈ g.did j) is w))

  pub done_step : (s : ℕ) → 3 ≤ (t.after.slot s).status → Fixed size (next t) s (t.after.slot s).ballot (t.after.slot s).batch
  done_step s l = go (decide (ltb ((before t).slot s).status 3))
    where
      go : (ltb ((before t).slot s).status 3 ≡ true) ⊎ (ltb ((before t).slot s).status 3 ≡ false) → Fixed size (next t) s (t.after.slot s).ballot (t.after.slot s).batch
      go (inl e) = marked s ((t.frame.slot s).marks (ltb-true _ _ e) l)
      go (inr e) =
          let (_, q) = (t.frame.slot s).fixed (ltb-false _ _ e) in
          Fixed-ext (ext t) size s _ _ _ (t.frame.slot s).up (subst (Fixed size g s ((before t).slot s).ballot) (sym q) (t.sound.done t.who t.is s (ltb-false _ _ e)))

  -- ── what commit_bar has passed ──
  in_did : {a : Act} → a ∈ (next t).did t.who → a ∈ (g.did t.who ++ t.acts)
  in_did {a} m = go (did_cases g t.who t.after t.acts (completions t.call) t.who m)
    where
      go : (a ∈ g.did t.who) ⊎ ((t.who ≡ t.who) × (a ∈ t.acts)) → a ∈ (g.did t.who ++ t.acts)
      go (inl y) = Memᴰ.append_left t.acts y
      go (inr (_, y)) = Memᴰ.append_right (g.did t.who) y

  -- what self proposed at the ballot that it leads by is chosen, below its bar
  passed : t.after.leading ≡ true → (s : ℕ) (x : Vote) → s < t.after.bar → x.ballot ≡ t.after.seen → entry_of s x ∈ (next t).did t.who → Fixed size (next t) s x.ballot x.batch
  passed l s x u at m =
      let own = (one' t).fine.own l in
      let me' : t.after.me ≡ t.who = t.frame.frame.same ∙ me t in
      let h = (one' t).local.live s x.ballot x.batch (in_did m) (omega arith) l at in
      subst (λ (b : ℕ). Fixed size (next t) s b x.batch) h.at
      (subst (Fixed size (next t) s (t.after.slot s).ballot) h.val (done_step s ((one' t).barred s ((one' t).tidy s x (in_did m)).1 u)))

  -- a proposal that self makes now is for a slot that was not committed
  proposed_open : (s : ℕ) (x : Vote) → entry_of s x ∈ t.acts → Proposes (before t) t.after t.frame.leads.mid s x.ballot x.batch → s < (before t).bar → ⊥
  proposed_open s x m (offered l _ at e z) u = omega (arith, (one t).fine.within)
  proposed_open s x m (entered l l' at q w e j) u = go (t.frame.leads.lead l')
    where
      low : (before t).start ≤ s
      low = let y = All-in _ t.frame.frame.said m in let z = y.1.0.0 in z

      was : (((before t).slot s).status ≡ 1) ⊎ ((before t).stop ≤ s) → ⊥
      was (inl z) = let y = (one t).barred s low u in omega arith
      was (inr z) = omega (arith, (one t).fine.within)

      go : Lead (before t) t.call t.after t.frame.leads.mid t.acts → ⊥
      go (rose f) = let a = f.above in let b = (wrote t s x m).top in let c = (one t).fine.sent l in omega arith
      go (on f) = was (f.was s q)

  abbrev Noticed : ℕ → Notice → Type 0
  Noticed p a = Owns p a.ballot × ((s : ℕ) (x : Vote) → s < a.bar → x.ballot ≡ a.ballot → entry_of s x ∈ (next t).did p → Fixed size (next t) s x.ballot x.batch)

  notice_new : (a : Notice) (keys : List ℕ) → deed (CommitNotice a) keys ∈ t.acts → Noticed t.who a
  notice_new a keys m =
      let y : Notices (before t) t.after a.ballot a.bar = All-in (λ (x : Act). Says (before t) t.call t.after x.keys x.what) t.frame.said m in
      let own = (one t).fine.own y.leading in
      ((let z = y.at in let e = me t in omega arith), λ s x u q n. passed y.still s x (omega (arith, y.low)) (q ∙ y.at ∙ sym y.same) n)

  notice_old : (p : ℕ) (a : Notice) (keys : List ℕ) → deed (CommitNotice a) keys ∈ g.did p → Noticed p a
  notice_old p a keys m = let (o, f) = t.sound.notice p a keys m in (o, λ s x u q n. go o f s x u q (did_cases g t.who t.after t.acts (completions t.call) p n))
    where
      go : Owns p a.ballot → ((s : ℕ) (x : Vote) → s < a.bar → x.ballot ≡ a.ballot → entry_of s x ∈ g.did p → Fixed size g s x.ballot x.batch)
          → (s : ℕ) (x : Vote) → s < a.bar → x.ballot ≡ a.ballot → (entry_of s x ∈ g.did p) ⊎ ((p ≡ t.who) × (entry_of s x ∈ t.acts)) → Fixed size (next t) s x.ballot x.batch
      go o f s x u q (inl n) = Fixed-ext (ext t) size s _ _ _ (omega arith) (f s x u q n)
      go o f s x u q (inr (e, n)) =
          absurd (proposed_open s x n by (late (subst (λ (j : ℕ). deed (CommitNotice a) keys ∈ g.did j) e m)))
        where
          by : Proposes (before t) t.after t.frame.leads.mid s x.ballot x.batch
          by = t.frame.leads.entries s x.ballot x.batch n (let z = me t in omega arith)

          led_at : Proposes (before t) t.after t.frame.leads.mid s x.ballot x.batch → ((before t).leading ≡ true) × (x.ballot ≡ (before t).sent)
          led_at (entered l _ at _ _ _ _) = (l, at)
          led_at (offered l _ at _ _) = (l, at)

          late : deed (CommitNotice a) keys ∈ g.did t.who → s < (before t).bar
          late w =
              let (l, at) = led_at by in
              let z = (one t).fine.sent l in
              let y = ((one t).behind a keys w).1 l (omega arith) in
              omega arith

  pub notice_step : (p : ℕ) (a : Notice) (keys : List ℕ) → deed (CommitNotice a) keys ∈ (next t).did p → Noticed p a
  notice_step p a keys m = go (did_cases g t.who t.after t.acts (completions t.call) p m)
    where
      go : (deed (CommitNotice a) keys ∈ g.did p) ⊎ ((p ≡ t.who) × (deed (CommitNotice a) keys ∈ t.acts)) → Noticed p a
      go (inl y) = notice_old p a keys y
      go (inr (e, y)) = subst (λ (j : ℕ). Noticed j a) (sym e) (notice_new a keys y)

  -- ── an Execute names the batch of a slot that was committed ──
  pub executed_in_step : (m : ℕ) (o : Order) (keys : List ℕ) → deed (Execute o) keys ∈ (next t).did m
      → (b : ℕ) × Fixed size (next t) o.slot b (ordered o keys)
  executed_in_step m o keys i = go (did_cases g t.who t.after t.acts (completions t.call) m i)
    where
      go : (deed (Execute o) keys ∈ g.did m) ⊎ ((m ≡ t.who) × (deed (Execute o) keys ∈ t.acts))
          → (b : ℕ) × Fixed size (next t) o.slot b (ordered o keys)
      go (inl y) = let (b, f) = t.sound.executed m o keys y in (b, Fixed-ext (ext t) size o.slot b b _ (omega arith) f)
      go (inr (_, y)) =
          let z : Executes (before t) o.slot (ordered o keys) =
          All-in (λ (x : Act). Says (before t) t.call t.after x.keys x.what) t.frame.said y in
          let b : ℕ = ((before t).slot o.slot).ballot in
          (b, Fixed-ext (ext t) size o.slot b b _ (omega arith) (subst (Fixed size g o.slot b) z.batch (t.sound.done t.who t.is o.slot z.done)))
