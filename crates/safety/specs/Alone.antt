-- One strict member with all that it ever did: what holds whatever calls it is given, its completions being of entries that stand in its log. With demand 3's
-- `Local`; no group, no network, and no more of a call than its frame.
use Rattle.std.specs.Prelude.{◌≡◌, refl, true, false, List, ◌++◌, ◌⊎◌, ℕ, ◌≤◌, ◌<◌, ltb}
use Rattle.std.proofs.Common.{sym, ap, subst, ◌∙◌, inl, inr, arith, ltb-true, ltb-false}
use mathlib.Core.List.Memᴰ
use Rattle.base.specs.Pick.{decide, clash}
use Rattle.base.specs.Among.{◌∈◌, All-in}
use Rattle.actions.specs.declared.Notice.{Notice}
use Rattle.actions.specs.declared.Action.TheVariants.{CommitNotice}
use Rattle.actions.specs.Actions.{Act}
use Rattle.slots.specs.declared.Vote.{Vote}
use Rattle.slots.specs.declared.Slot.{Slot}
use Rattle.window.specs.Acts.{promise}
use Rattle.replica.specs.declared.Entry.{Entry}
use Rattle.replica.specs.declared.Entry.TheVariants.{PrepareBal as PrepareEntry, AcceptData as AcceptEntry, CommitSlot as CommitEntry}
use Rattle.replica.specs.declared.Done.{Done}
use Rattle.replica.specs.Step.{Call}
use Rattle.voting.specs.StrictVotes.{entry_of}
use Rattle.safety.specs.ForGood.{EntryIn}
use Rattle.agreement.specs.Frame.{Owns, Clean, Wrote, ActOk}
use Rattle.agreement.specs.Local.{Local, Local-step, new}
use Rattle.safety.specs.Sight.{Sight, plain, Fine, Ends, Promises, Notices, Says, GoesOn, Lead, rose, on, Strict}
use Rattle.safety.specs.Scene.{promises, PromisedIn, deed}

-- no vote in slot k below b stands in the log l
abbrev pub NoneIn : List Act → ℕ → ℕ → Type 0
NoneIn l k b = (x : Vote) → entry_of k x ∈ l → b ≤ x.ballot

-- member j, seen as v, has done h; l stands in its log, and the completions r were reported to it
pub record Alone (j : ℕ) (v : Sight) (h l : List Act) (r : List Done) : Type 0 where
  pub local : Local j (plain v) h l
  pub fine : Fine v
  -- what it promised it has seen; its entries' batches are clean, and their slots not below its start
  pub vowed : (n : ℕ) → PromisedIn r n → n ≤ v.seen
  pub tidy : (s : ℕ) (x : Vote) → entry_of s x ∈ h → Clean x.batch × (v.start ≤ s)
  -- a slot's vote is its highest accept entry, and is not above the slot's ballot
  pub top : (s : ℕ) (x : Vote) → entry_of s x ∈ l → x.ballot ≤ (v.slot s).vote.ballot
  pub mine : (s : ℕ) → ((v.slot s).vote.ballot ≡ 0) ⊎ (entry_of s (v.slot s).vote ∈ l)
  pub low : (s : ℕ) → (v.slot s).vote.ballot ≤ (v.slot s).ballot
  -- a slot that was voted in is in use
  pub used : (s : ℕ) (x : Vote) → entry_of s x ∈ l → 0 < (v.slot s).status
  -- a prepare entry is not above its slot's ballot; at it, and where it is another's, past the slot's endprep no vote is below it
  pub under : (s b : ℕ) → promise s b ∈ l → b ≤ (v.slot s).ballot
  pub clear : (s : ℕ) → (Owns j (v.slot s).ballot → ⊥) → promise s (v.slot s).ballot ∈ l
      → ((v.slot s).replica.present ≡ true) × ((k : ℕ) → (v.slot s).replica.endprep < k → NoneIn l k (v.slot s).ballot)
  -- while it leads, the trigger's prepare entry stands; and past the endprep of a slot that it prepared, no Preparing slot has a vote below its ballot
  pub begun : v.leading ≡ true → promise v.trigger v.sent ∈ l
  pub ends : v.leading ≡ true → (s : ℕ) → promise s v.sent ∈ l → (k : ℕ) → (v.slot s).leader.endprep < k → (v.slot k).status ≡ 1 → NoneIn l k v.sent
  -- below commit_bar slots are committed; a CommitNotice that it sent is not above what it has seen, nor, at the ballot that it leads by, past its bar
  pub barred : (s : ℕ) → v.start ≤ s → s < v.bar → 3 ≤ (v.slot s).status
  pub behind : (a : Notice) (keys : List ℕ) → deed (CommitNotice a) keys ∈ h → (a.ballot ≤ v.seen) × (v.leading ≡ true → v.seen ≡ a.ballot → a.bar ≤ v.bar)

module _ (j : ℕ) (v : Sight) (h l : List Act) (r : List Done) (c : Call) (n : ℕ) (v' : Sight) (acts : List Act) (dones : List Done) (i : Alone j v h l r)
    (k : Strict v c n v' acts) (written : (d : Done) → d ∈ dones → EntryIn l d.entry d.slot d.ballot) where
  -- the accept entries of the call
  wrote : (s : ℕ) (x : Vote) → entry_of s x ∈ acts → Wrote (plain v) c (plain v') s x.ballot x.batch
  wrote s x m = new j (plain v) h l c n (plain v') acts i.local k.frame s x.ballot x.batch m

  -- and its prepare entries
  promised : (s b : ℕ) → promise s b ∈ acts → (b ≡ v'.seen) × Promises v' s b
  promised s b m = ((All-in (ActOk (plain v) c (plain v') acts) k.frame.said m).0, All-in (λ (a : Act). Says v c v' a.keys a.what) k.said m)

  capped : (s : ℕ) (x : Vote) → entry_of s x ∈ l → x.ballot ≤ v.seen
  capped s x m = i.local.cap s x.ballot x.batch m

  vowed_step : (n : ℕ) → (d : Done) → (d ∈ r) ⊎ (d ∈ dones) → promises d.entry ≡ true → n ≤ d.ballot → n ≤ v'.seen
  vowed_step n d (inl m) p u = let z = i.vowed n (d, m, p, u) in let y = k.frame.mono in omega arith
  vowed_step n d (inr m) p u = let y = k.frame.mono in go d.entry p (written d m)
    where
      go : (e : Entry) → promises e ≡ true → EntryIn l e d.slot d.ballot → n ≤ v'.seen
      go PrepareEntry p q = let a = i.under d.slot d.ballot q in let b = i.fine.low d.slot in omega (arith, k.frame.mono)
      go AcceptEntry p (e, q) = let a = i.local.cap d.slot d.ballot e q in omega (arith, k.frame.mono)
      go CommitEntry p q = absurd (clash p refl)

  tidy_step : (s : ℕ) (x : Vote) → (entry_of s x ∈ h) ⊎ (entry_of s x ∈ acts) → Clean x.batch × (v'.start ≤ s)
  tidy_step s x (inl m) = let (a, b) = i.tidy s x m in (a, omega (arith, k.frame.fixed))
  tidy_step s x (inr m) = let ((a, _), b) = (All-in (ActOk (plain v) c (plain v') acts) k.frame.said m).1 in (b, omega (arith, k.frame.fixed))

  top_step : (s : ℕ) (x : Vote) → (entry_of s x ∈ l) ⊎ (entry_of s x ∈ acts) → x.ballot ≤ (v'.slot s).vote.ballot
  top_step s x (inr m) = let e = ap (λ (y : Vote). y.ballot) ((k.slot s).vote.holds x m) in omega arith
  top_step s x (inl m) = go (k.slot s).vote.moves
    where
      go : ((v'.slot s).vote ≡ (v.slot s).vote) ⊎ (entry_of s (v'.slot s).vote ∈ acts) → x.ballot ≤ (v'.slot s).vote.ballot
      go (inl e) = let z = i.top s x m in let y = ap (λ (y : Vote). y.ballot) e in omega arith
      go (inr q) = let z = capped s x m in let y = (wrote s (v'.slot s).vote q).top in omega (arith, k.frame.mono)

  mine_step : (s : ℕ) → ((v'.slot s).vote.ballot ≡ 0) ⊎ (entry_of s (v'.slot s).vote ∈ (l ++ acts))
  mine_step s = go (k.slot s).vote.moves (i.mine s)
    where
      go : ((v'.slot s).vote ≡ (v.slot s).vote) ⊎ (entry_of s (v'.slot s).vote ∈ acts) → ((v.slot s).vote.ballot ≡ 0) ⊎ (entry_of s (v.slot s).vote ∈ l)
          → ((v'.slot s).vote.ballot ≡ 0) ⊎ (entry_of s (v'.slot s).vote ∈ (l ++ acts))
      go (inr q) z = inr (Memᴰ.append_right l q)
      go (inl e) (inl z) = inl (ap (λ (y : Vote). y.ballot) e ∙ z)
      go (inl e) (inr q) = inr (subst (λ (y : Vote). entry_of s y ∈ (l ++ acts)) (sym e) (Memᴰ.append_left acts q))

  low_step : (s : ℕ) → (v'.slot s).vote.ballot ≤ (v'.slot s).ballot
  low_step s = go (k.slot s).vote.moves
    where
      go : ((v'.slot s).vote ≡ (v.slot s).vote) ⊎ (entry_of s (v'.slot s).vote ∈ acts) → (v'.slot s).vote.ballot ≤ (v'.slot s).ballot
      go (inl e) = let z = i.low s in let y = ap (λ (y : Vote). y.ballot) e in let u = (k.slot s).up in omega arith
      go (inr q) = let y = (wrote s (v'.slot s).vote q).held.at in omega arith

  used_step : (s : ℕ) (x : Vote) → (entry_of s x ∈ l) ⊎ (entry_of s x ∈ acts) → 0 < (v'.slot s).status
  used_step s x (inl m) = (k.slot s).stays (i.used s x m)
  used_step s x (inr m) = let y = (wrote s x m).held.on in omega arith

  under_step : (s b : ℕ) → (promise s b ∈ l) ⊎ (promise s b ∈ acts) → b ≤ (v'.slot s).ballot
  under_step s b (inl m) = let z = i.under s b m in let u = (k.slot s).up in omega arith
  under_step s b (inr m) = let z = (promised s b m).1.at in omega arith

  -- a vote cast in this call is at the largest ballot seen, so not below any slot's
  none_step : (s k' b : ℕ) → b ≤ v'.seen → NoneIn l k' b → NoneIn (l ++ acts) k' b
  none_step s k' b u f x m = go (Memᴰ.append_cases l m)
    where
      go : (entry_of k' x ∈ l) ⊎ (entry_of k' x ∈ acts) → b ≤ x.ballot
      go (inl q) = f x q
      go (inr q) = let y = (wrote k' x q).top in omega arith

  -- no slot that is null has a vote
  unused : (s b : ℕ) → (v'.slot s).status ≡ 0 → NoneIn (l ++ acts) s b
  unused s b e x m = let z = used_step s x (Memᴰ.append_cases l m) in absurd (omega arith)

  abbrev Cleared : ℕ → Type 0
  Cleared s = ((v'.slot s).replica.present ≡ true) × ((k' : ℕ) → (v'.slot s).replica.endprep < k' → NoneIn (l ++ acts) k' (v'.slot s).ballot)

  clear_new : (s : ℕ) → (Owns j (v'.slot s).ballot → ⊥) → promise s (v'.slot s).ballot ∈ acts → Cleared s
  clear_new s d m = go (decide v'.leading)
    where
      go : (v'.leading ≡ true) ⊎ (v'.leading ≡ false) → Cleared s
      go (inl z) =
          let o = k.fine.own z in
          let e = (promised s (v'.slot s).ballot m).0 in
          let me : v'.me ≡ j = k.frame.same ∙ i.local.id in
          absurd (d (omega arith))
      go (inr z) = let (p, f) = (promised s (v'.slot s).ballot m).1.ends z in (p, λ k' u. unused k' (v'.slot s).ballot (f k' u))

  clear_old : (s : ℕ) → (Owns j (v'.slot s).ballot → ⊥) → promise s (v'.slot s).ballot ∈ l → Ends acts s (v.slot s) (v'.slot s) → Cleared s
  clear_old s d m (inr (inr q)) = clear_new s d q
  clear_old s d m (inr (inl u)) = let z = i.under s (v'.slot s).ballot m in absurd (omega arith)
  clear_old s d m (inl (e, f)) =
      let (p, g) = i.clear s (λ o. d (omega arith)) (subst (λ (b : ℕ). promise s b ∈ l) e m) in
      let (p', q) = f p in
      (p', λ k' u. none_step s k' (v'.slot s).ballot (k.fine.low s) (λ x y. let z = g k' (omega arith) x y in omega arith))

  clear_step : (s : ℕ) → (Owns j (v'.slot s).ballot → ⊥) → (promise s (v'.slot s).ballot ∈ l) ⊎ (promise s (v'.slot s).ballot ∈ acts) → Cleared s
  clear_step s d (inl m) = clear_old s d m (k.slot s).ends
  clear_step s d (inr m) = clear_new s d m

  begun_step : v'.leading ≡ true → promise v'.trigger v'.sent ∈ (l ++ acts)
  begun_step z = go (k.leads.lead z)
    where
      go : Lead v c v' k.leads.mid acts → promise v'.trigger v'.sent ∈ (l ++ acts)
      go (rose f) = Memᴰ.append_right l f.begun
      go (on f) =
          subst (λ (b : ℕ). promise v'.trigger b ∈ (l ++ acts)) (sym f.sent)
          (subst (λ (t : ℕ). promise t v.sent ∈ (l ++ acts)) (sym f.trigger) (Memᴰ.append_left acts (i.begun f.leading)))

  abbrev Past : ℕ → Type 0
  Past s = (k' : ℕ) → (v'.slot s).leader.endprep < k' → (v'.slot k').status ≡ 1 → NoneIn (l ++ acts) k' v'.sent

  -- a slot past the log end is null, and so has no vote
  past_none : (s b : ℕ) → v.stop ≤ s → NoneIn l s b
  past_none s b u x m = let z = i.used s x m in absurd (omega (arith, ap (λ (y : Slot). y.status) (i.fine.past s u)))

  -- the lead goes on: a slot that is Preparing was so before, or lay past the log end
  ends_on : (s e : ℕ) → GoesOn v c v' k.leads.mid acts → v'.leading ≡ true → promise s v.sent ∈ l → (v.slot s).leader.endprep ≡ e
      → (k' : ℕ) → e < k' → (v'.slot k').status ≡ 1 → NoneIn (l ++ acts) k' v'.sent
  ends_on s e f z m q k' u w =
      none_step s k' v'.sent (let y = k.fine.sent z in omega arith) (subst (NoneIn l k') (sym f.sent) (go (f.was k' (f.after k' w).0)))
    where
      go : ((v.slot k').status ≡ 1) ⊎ (v.stop ≤ k') → NoneIn l k' v.sent
      go (inl y) = i.ends f.leading s m k' (omega arith) y
      go (inr y) = past_none k' v.sent y

  ends_step : v'.leading ≡ true → (s : ℕ) → (promise s v'.sent ∈ l) ⊎ (promise s v'.sent ∈ acts) → Past s
  ends_step z s m = go (k.leads.lead z) m
    where
      go : Lead v c v' k.leads.mid acts → (promise s v'.sent ∈ l) ⊎ (promise s v'.sent ∈ acts) → Past s
      go (rose f) (inl q) = let a = i.under s v'.sent q in let b = i.fine.low s in let y = k.fine.sent z in let u = f.above in absurd (omega arith)
      go (rose f) (inr q) = λ k' u w. absurd (f.ends s k' q u w)
      go (on f) (inr q) = let (u, e) = f.new s v'.sent q in λ k' o. ends_on v.trigger (v'.slot s).leader.endprep f z (i.begun f.leading) (sym e) k' o
      go (on f) (inl q) = same (f.ends s)
        where
          same : ((v'.slot s).leader.endprep ≡ (v.slot s).leader.endprep) ⊎ (v.stop ≤ s) → Past s
          same (inl e) = λ k' o. ends_on s (v'.slot s).leader.endprep f z (subst (λ (b : ℕ). promise s b ∈ l) f.sent q) (sym e) k' o
          same (inr u) =
              let a = i.under s v'.sent q in
              let b = ap (λ (y : Slot). y.ballot) (i.fine.past s u) in
              let o = i.fine.own f.leading in
              let y = i.fine.sent f.leading in
              absurd (omega (arith, f.sent))

  barred_step : (s : ℕ) → v'.start ≤ s → s < v'.bar → 3 ≤ (v'.slot s).status
  barred_step s a b = ((k.slot s).fixed (go (decide (ltb s v.bar)))).0
    where
      go : (ltb s v.bar ≡ true) ⊎ (ltb s v.bar ≡ false) → 3 ≤ (v.slot s).status
      go (inl e) = i.barred s (omega (arith, k.frame.fixed)) (ltb-true _ _ e)
      go (inr e) = k.bars.passes s (ltb-false _ _ e) b

  behind_step : (a : Notice) (keys : List ℕ) → (deed (CommitNotice a) keys ∈ h) ⊎ (deed (CommitNotice a) keys ∈ acts)
      → (a.ballot ≤ v'.seen) × (v'.leading ≡ true → v'.seen ≡ a.ballot → a.bar ≤ v'.bar)
  behind_step a keys (inr m) =
      let y : Notices v v' a.ballot a.bar = All-in (λ (x : Act). Says v c v' x.keys x.what) k.said m in
      (omega (arith, y.at, y.same), λ _ _. y.low)
  behind_step a keys (inl m) = let (u, f) = i.behind a keys m in (omega (arith, k.frame.mono), λ z e. go u f e (k.frame.lead z))
    where
      go : a.ballot ≤ v.seen → (v.leading ≡ true → v.seen ≡ a.ballot → a.bar ≤ v.bar) → v'.seen ≡ a.ballot
          → ((v.leading ≡ true) × (v'.seen ≡ v.seen)) ⊎ (v.seen < v'.seen) → a.bar ≤ v'.bar
      go u f e (inl (z, q)) = let y = f z (sym q ∙ e) in omega (arith, k.bars.grows)
      go u f e (inr y) = absurd (omega arith)

  pub Alone-step : Alone j v' (h ++ acts) (l ++ acts) (r ++ dones)
  Alone-step =
      record {
        local = Local-step j (plain v) h l c n (plain v') acts i.local k.frame;
        fine = k.fine;
        vowed = λ n (d, m, p, u). vowed_step n d (Memᴰ.append_cases r m) p u;
        tidy = λ s x m. tidy_step s x (Memᴰ.append_cases h m);
        top = λ s x m. top_step s x (Memᴰ.append_cases l m);
        mine = mine_step;
        low = low_step;
        used = λ s x m. used_step s x (Memᴰ.append_cases l m);
        under = λ s b m. under_step s b (Memᴰ.append_cases l m);
        clear = λ s d m. clear_step s d (Memᴰ.append_cases l m);
        begun = begun_step;
        ends = λ z s m. ends_step z s (Memᴰ.append_cases l m);
        barred = barred_step;
        behind = λ a keys m. behind_step a keys (Memᴰ.append_cases h m);
      }
