-- Rule (a) in the group: what a PrepareReply says of its sender is so, and an AcceptReply tells of a vote that lasts; also what a leader tells itself.
use Rattle.std.specs.Prelude.{◌≡◌, refl, Bool, true, List, ◌⊎◌, ℕ, ◌≤◌, ◌<◌, ltb}
use Rattle.std.proofs.Common.{sym, ap, subst, ◌∙◌, inl, inr, arith, ltb-true, ltb-false}
use Rattle.base.specs.Pick.{pick_cases}
use Rattle.base.specs.Among.{◌∈◌, All-in}
use Rattle.batch.specs.declared.Batch.{Batch}
use Rattle.actions.specs.declared.Promised.{Promised}
use Rattle.actions.specs.declared.Accepted.{Accepted}
use Rattle.actions.specs.declared.Action.TheVariants.{PrepareReply, AcceptReply}
use Rattle.actions.specs.Actions.{Act}
use Rattle.slots.specs.declared.Vote.{Vote}
use Rattle.slots.specs.declared.Slot.{Slot}
use Rattle.slots.specs.Slots.{no_vote}
use Rattle.decide.specs.declared.Reply.{Reply}
use Rattle.decide.specs.Decide.{sent_vote}
use Rattle.window.specs.Acts.{promise}
use Rattle.replica.specs.declared.Entry.TheVariants.{PrepareBal as PrepareEntry, AcceptData as AcceptEntry}
use Rattle.replica.specs.Messages.{clean}
use Rattle.replica.specs.Step.{call_logged}
use Rattle.laws.specs.WaysDurability.{completion}
use Rattle.voting.specs.StrictVotes.{entry_of}
use Rattle.agreement.specs.Frame.{Owns, Clean}
use Rattle.agreement.specs.StrictTells.{told_vote}
use Rattle.safety.specs.Sight.{heard_vote, Replied, replied_peer, replied_own, Answers, Says}
use Rattle.safety.specs.Scene.{Scene, Cast, Lasts, NoneBelow, ReplySent, reply_of, Brought, completions, done_in, new_reported, did_cases, old_log, deed}
use Rattle.safety.specs.Alone.{NoneIn}
use Rattle.safety.specs.Rows.{Tells, Told}
use Rattle.safety.specs.Growth.{Told-ext, Tells-ext, none_ext}
use Rattle.safety.specs.Moves.{Move, before, next, one, me, member_of, ext, promised_now, own_below, own_none}

module _ {size : ℕ} {present : ℕ → Bool} {g : Scene} (t : Move size present g) where
  -- what a slot sends is its vote, and none where that is none
  sent_vote_cases : (x : Slot) (P : Vote → Type 0) → P x.vote → (x.vote.ballot ≡ 0 → P no_vote) → P (sent_vote x)
  sent_vote_cases x P a b = pick_cases P (ltb 0 x.vote.ballot) (λ _. a) (λ e. let z = ltb-false 0 x.vote.ballot e in b (omega arith))

  seen_after : (s b : ℕ) → ((before t).slot s).ballot ≡ b → b ≤ t.after.seen
  seen_after s b at = let y = (one t).fine.low s in omega (arith, t.frame.frame.mono)

  -- the member's vote in slot s as it stands before the call, told at the slot's ballot, once its prepare entry there is durable
  tells : (s b size : ℕ) → t.call ≡ call_logged (completion PrepareEntry s b size) → ((before t).slot s).ballot ≡ b → Tells (next t) t.who s b (sent_vote ((before t).slot s))
  tells s b size c at =
      record {
        promised = promised_now t (completion PrepareEntry s b size) c refl;
        under = λ x a l. below x l (own_below t s b x (seen_after s b at) a);
        low = sent_vote_cases ((before t).slot s) (λ (y : Vote). y.ballot ≤ b) (let y = (one t).low s in omega arith) (λ _. omega arith);
        value = sent_vote_cases ((before t).slot s) (λ (y : Vote). (y.ballot ≡ 0) ⊎ Cast (next t) s t.who y) (mine ((one t).mine s)) (λ _. inl refl);
      }
    where
      below : (x : Vote) → x.ballot < b → (entry_of s x ∈ g.log t.who) ⊎ (b ≤ x.ballot) → x.ballot ≤ (sent_vote ((before t).slot s)).ballot
      below x l (inr y) = absurd (omega arith)
      below x l (inl y) = let z = (one t).top s x y in sent_vote_cases ((before t).slot s) (λ (y : Vote). x.ballot ≤ y.ballot) z (λ q. omega arith)

      mine : (((before t).slot s).vote.ballot ≡ 0) ⊎ (entry_of s ((before t).slot s).vote ∈ g.log t.who) → (((before t).slot s).vote.ballot ≡ 0) ⊎ Cast (next t) s t.who ((before t).slot s).vote
      mine (inl z) = inl z
      mine (inr z) = inr ((ext t).keeps t.who ((one t).local.stands z))

  -- its prepare entry stands
  promised_before : (s b size : ℕ) → t.call ≡ call_logged (completion PrepareEntry s b size) → promise s b ∈ g.log t.who
  promised_before s b size c = subst (Brought g t.who) c t.brought

  Told-new : (a : Promised) (keys : List ℕ) → deed (PrepareReply a) keys ∈ t.acts → (Owns t.who a.ballot → ⊥) → Told (next t) t.who a.slot a.endprep a.ballot (told_vote a keys)
  Told-new a keys m d =
      let y : Answers (before t) t.call a keys = All-in (λ (x : Act). Says (before t) t.call t.after x.keys x.what) t.frame.said m in
      let p = subst (λ (b : ℕ). promise a.slot b ∈ g.log t.who) (sym y.at) (promised_before a.slot a.ballot y.size y.call) in
      let c = (one t).clear a.slot (λ o. d (let e = y.at in omega arith)) p in
      record {
        tells = subst (Tells (next t) t.who a.slot a.ballot) (sym y.vote) (tells a.slot a.ballot y.size y.call y.at);
        clear = λ k l.
            own_none t k a.ballot (seen_after a.slot a.ballot y.at) (subst (NoneIn (g.log t.who) k) y.at (c.1 k (let e = y.ends in omega arith)));
      }

  pub Told-step : (p : ℕ) (a : Promised) (keys : List ℕ) → deed (PrepareReply a) keys ∈ (next t).did p → (Owns p a.ballot → ⊥) → Told (next t) p a.slot a.endprep a.ballot (told_vote a keys)
  Told-step p a keys m d = go (did_cases g t.who t.after t.acts (completions t.call) p m)
    where
      go : (deed (PrepareReply a) keys ∈ g.did p) ⊎ ((p ≡ t.who) × (deed (PrepareReply a) keys ∈ t.acts)) → Told (next t) p a.slot a.endprep a.ballot (told_vote a keys)
      go (inl y) = Told-ext (ext t) p a.slot a.endprep a.ballot (told_vote a keys) (t.sound.told p a keys y d)
      go (inr (e, y)) =
          subst (λ (j : ℕ). Told (next t) j a.slot a.endprep a.ballot (told_vote a keys)) (sym e) (Told-new a keys y (λ o. d (subst (λ (j : ℕ). Owns j a.ballot) (sym e) o)))

  -- an accept entry whose completion is reported now lasts
  pub Lasts-now : (s b size : ℕ) → t.call ≡ call_logged (completion AcceptEntry s b size) → (x : Vote) × (x.ballot ≡ b) × Lasts (next t) s t.who x
  Lasts-now s b size c =
      let (v, m) = subst (Brought g t.who) c t.brought in (
        record { ballot = b; batch = v },
        refl,
        (
          old_log g t.who t.after t.acts (completions t.call) t.who m,
          (size, new_reported g t.who t.after t.acts (completions t.call) (done_in t.call (completion AcceptEntry s b size) c)),
        ),
      )

  pub took_step : (p : ℕ) (a : Accepted) (keys : List ℕ) → deed (AcceptReply a) keys ∈ (next t).did p → (x : Vote) × (x.ballot ≡ a.ballot) × Lasts (next t) a.slot p x
  took_step p a keys m = go (did_cases g t.who t.after t.acts (completions t.call) p m)
    where
      go : (deed (AcceptReply a) keys ∈ g.did p) ⊎ ((p ≡ t.who) × (deed (AcceptReply a) keys ∈ t.acts)) → (x : Vote) × (x.ballot ≡ a.ballot) × Lasts (next t) a.slot p x
      go (inl y) = let (x, q, z) = t.sound.took p a keys y in (x, q, (ext t).lasting p a.slot x z)
      go (inr (e, y)) =
          let (n, c) = All-in (λ (x : Act). Says (before t) t.call t.after x.keys x.what) t.frame.said y in
          subst (λ (j : ℕ). (x : Vote) × (x.ballot ≡ a.ballot) × Lasts (next t) a.slot j x) (sym e) (Lasts-now a.slot a.ballot n c)

  -- ── what a leader hears ──
  -- a vote told with a clean batch is heard as it was told
  heard_told : (a : Promised) (keys : List ℕ) → (a.voted ≡ 0) ⊎ Clean (told_vote a keys).batch → (P : Vote → Type 0) → (a.voted ≡ 0 → P no_vote) → P (told_vote a keys) → P (heard_vote (reply_of a keys))
  heard_told a keys tidy P none some = pick_cases P (ltb 0 a.voted) (λ e. go (ltb-true 0 a.voted e) tidy) (λ e. let z = ltb-false 0 a.voted e in none (omega arith))
    where
      go : 0 < a.voted → (a.voted ≡ 0) ⊎ Clean (told_vote a keys).batch → P (record { ballot = a.voted; batch = clean (told_vote a keys).batch })
      go l (inl z) = absurd (omega arith)
      go l (inr z) = subst (λ (b : Batch). P (record { ballot = a.voted; batch = b })) (sym z) some

  -- what was cast has a clean batch
  Clean-Cast : (s p : ℕ) (v : Vote) → (v.ballot ≡ 0) ⊎ Cast g s p v → (v.ballot ≡ 0) ⊎ Clean v.batch
  Clean-Cast s p v (inl z) = inl z
  Clean-Cast s p v (inr m) = inr ((t.sound.alone p (member_of t p m)).tidy s v m).0

  Tells-none : (p s b : ℕ) (v : Vote) → v.ballot ≡ 0 → Tells g p s b v → Tells g p s b no_vote
  Tells-none p s b v z y = record { promised = y.promised; under = λ x a l. (let q = y.under x a l in omega arith); low = omega arith; value = inl refl }

  -- p's reply in this lead: what it tells is so, of a vote that it cast before; and past its endprep p has no vote below the ballot, in a slot that was
  -- Preparing or past the log end
  pub record Hears (p s e : ℕ) (vote : Vote) : Type 0 where
    pub tells : Tells (next t) p s (before t).sent vote
    pub member : p < (before t).group
    pub before_it : (vote.ballot ≡ 0) ⊎ Cast g s p vote
    pub clear : (k : ℕ) → e < k → (((before t).slot k).status ≡ 1) ⊎ ((before t).stop ≤ k) → NoneBelow (next t) p k (before t).sent

  pub hears : (p s e : ℕ) (vote : Vote) → (before t).leading ≡ true → Replied (before t) t.call p s e vote → Hears p s e vote
  hears p s e vote lead (replied_own size q c at ends v) =
      subst (λ (j : ℕ). Hears j s e vote) (sym (q ∙ me t))
      (record {
        tells = subst (Tells (next t) t.who s (before t).sent) (sym v) (tells s (before t).sent size c at);
        member = subst (λ (j : ℕ). j < (before t).group) (me t) (one t).fine.member;
        before_it =
            subst (λ (x : Vote). (x.ballot ≡ 0) ⊎ Cast g s t.who x) (sym v)
            (sent_vote_cases ((before t).slot s) (λ (y : Vote). (y.ballot ≡ 0) ⊎ Cast g s t.who y) (mine ((one t).mine s)) (λ _. inl refl));
        clear = λ k l w. own_none t k (before t).sent (seen_after s (before t).sent at) (none k l w);
      })
    where
      mine : (((before t).slot s).vote.ballot ≡ 0) ⊎ (entry_of s ((before t).slot s).vote ∈ g.log t.who) → (((before t).slot s).vote.ballot ≡ 0) ⊎ Cast g s t.who ((before t).slot s).vote
      mine (inl z) = inl z
      mine (inr z) = inr ((one t).local.stands z)

      none : (k : ℕ) → e < k → (((before t).slot k).status ≡ 1) ⊎ ((before t).stop ≤ k) → NoneIn (g.log t.who) k (before t).sent
      none k l (inl w) = (one t).ends lead s (promised_before s (before t).sent size c) k (omega arith) w
      none k l (inr w) = λ x m. let z = (one t).used k x m in absurd (omega (arith, ap (λ (y : Slot). y.status) ((one t).fine.past k w)))
  hears p s e vote lead (replied_peer m c in_group other at ends b v) = heard (subst (Brought g t.who) c t.brought)
    where
      heard : ReplySent g p m → Hears p s e vote
      heard r =
          let a : Promised = r.told in
          let keys : List ℕ = r.keys in
          let b' : a.ballot ≡ (before t).sent = ap (λ (x : Reply). x.ballot) (sym r.is) ∙ b in
          let s' : a.slot ≡ s = ap (λ (x : Reply). x.slot) (sym r.is) ∙ at in
          let e' : a.endprep ≡ e = ap (λ (x : Reply). x.endprep) (sym r.is) ∙ ends in
          let own = (one t).fine.own lead in
          let lead_at = (one t).fine.sent lead in
          let y = t.sound.told p a keys r.sent (λ o. other (omega arith)) in
          let x : Told g p s e (before t).sent (told_vote a keys) =
          subst (λ (n : ℕ). Told g p n e (before t).sent (told_vote a keys)) s'
          (subst (λ (n : ℕ). Told g p a.slot n (before t).sent (told_vote a keys)) e' (subst (λ (n : ℕ). Told g p a.slot a.endprep n (told_vote a keys)) b' y)) in
          let w = sym (v ∙ ap heard_vote r.is) in
          let tidy = Clean-Cast s p (told_vote a keys) x.tells.value in
          record {
            tells =
                Tells-ext (ext t) p s (before t).sent vote
                (subst (Tells g p s (before t).sent) w
                (heard_told a keys tidy (Tells g p s (before t).sent) (λ z. Tells-none p s (before t).sent (told_vote a keys) z x.tells) x.tells));
            member = in_group;
            before_it =
                subst (λ (y : Vote). (y.ballot ≡ 0) ⊎ Cast g s p y) w (heard_told a keys tidy (λ (y : Vote). (y.ballot ≡ 0) ⊎ Cast g s p y) (λ _. inl refl) x.tells.value);
            clear = λ k l _. none_ext (ext t) p k (before t).sent x.tells.promised (x.clear k l);
          }
