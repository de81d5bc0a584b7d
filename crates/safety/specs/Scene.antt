-- A group as the proof sees it: what is seen of each member, all that it did, what of it stands in its log, and which of its completions were reported. The
-- log is all that it did as long as nothing is lost; what may be lost is only what was not reported.
use Rattle.std.specs.Prelude.{◌≡◌, refl, ◌⊎◌, Bool, true, false, ℕ, ◌≤◌, ltb}
use Rattle.std.proofs.Common.{sym, inl, inr}
use Rattle.std.proofs.Math.Path.{subst}
use mathlib.Core.List.Memᴰ
use mathlib.Core.List.{List, [], ◌∷◌, ◌++◌}
use Rattle.base.specs.Pick.{same?}
use Rattle.base.specs.Among.{◌∈◌}
use Rattle.batch.specs.declared.Batch.{Batch}
use Rattle.actions.specs.declared.Promised.{Promised}
use Rattle.actions.specs.declared.Accepted.{Accepted}
use Rattle.actions.specs.declared.Notice.{Notice}
use Rattle.actions.specs.declared.Action.{Action}
use Rattle.actions.specs.declared.Action.TheVariants.{PrepareBal, AcceptData, CommitSlot, Prepare, PrepareReply, Accept, AcceptReply, CommitNotice, Heartbeat, StatusUp, StatusDown, Execute, ReadAnswer}
use Rattle.actions.specs.Actions.{Act}
use Rattle.slots.specs.declared.Vote.{Vote}
use Rattle.decide.specs.declared.Reply.{Reply}
use Rattle.replica.specs.declared.Entry.{Entry}
use Rattle.replica.specs.declared.Entry.TheVariants.{PrepareBal as PrepareEntry, AcceptData as AcceptEntry, CommitSlot as CommitEntry}
use Rattle.replica.specs.declared.Done.{Done}
use Rattle.replica.specs.Step.{Call, call_prepare, call_prepare_reply, call_accept, call_accept_reply, call_commit_notice, call_timeout, call_logged, call_offer, call_executed, call_open_read, call_read_reply, received}
use Rattle.laws.specs.WaysDurability.{completion}
use Rattle.voting.specs.Paper.{Chosen}
use Rattle.voting.specs.StrictVotes.{entry_of}
use Rattle.agreement.specs.Theorem.{upd}
use Rattle.safety.specs.ForGood.{EntryIn}
use Rattle.agreement.specs.Frame.{Owns}
use Rattle.agreement.specs.Local.{accept_sent}
use Rattle.agreement.specs.Group.{upd_same, upd_other}
use Rattle.agreement.specs.StrictTells.{told_vote}
use Rattle.safety.specs.Sight.{Sight}

pub record Scene : Type 0 where
  pub sight : ℕ → Sight
  pub did : ℕ → List Act
  pub log : ℕ → List Act
  pub reported : ℕ → List Done

-- ── the words ──
-- a prepare or accept entry, the two that promise
abbrev pub promises : Entry → Bool
promises PrepareEntry = true
promises AcceptEntry = true
promises CommitEntry = false

-- a member to which these completions were reported has promised n: a prepare or accept entry at n or above is durable
abbrev pub PromisedIn : List Done → ℕ → Type 0
PromisedIn reported n = (d : Done) × (d ∈ reported) × (promises d.entry ≡ true) × (n ≤ d.ballot)

abbrev pub HasPromised : Scene → ℕ → ℕ → Type 0
HasPromised g m n = PromisedIn (g.reported m) n

-- "accepts": the vote was cast; it stands in m's log; it lasts where its accept entry was reported
abbrev pub Cast : Scene → ℕ → ℕ → Vote → Type 0
Cast g s m x = entry_of s x ∈ g.did m

abbrev pub Voted : Scene → ℕ → ℕ → Vote → Type 0
Voted g s m x = entry_of s x ∈ g.log m

abbrev pub Lasts : Scene → ℕ → ℕ → Vote → Type 0
Lasts g s m x = Voted g s m x × ((size : ℕ) × (completion AcceptEntry s x.ballot size ∈ g.reported m))

-- "issued": the owner of its ballot wrote it as its own
abbrev pub Issued : Scene → ℕ → Vote → Type 0
Issued g s x = (p : ℕ) × Owns p x.ballot × (entry_of s x ∈ g.did p)

-- no vote of p in slot k below b stands
abbrev pub NoneBelow : Scene → ℕ → ℕ → ℕ → Type 0
NoneBelow g p k b = (x : Vote) → Voted g k p x → b ≤ x.ballot

-- e was chosen for slot s, at b or below
abbrev pub Fixed : ℕ → Scene → ℕ → ℕ → Batch → Type 0
Fixed size g s b e = (x : Vote) × (x.ballot ≤ b) × (x.batch ≡ e) × Chosen size (Lasts g s) x

-- ── what may be brought to member m ──
-- something done, with its keys
abbrev pub deed : Action → List ℕ → Act
deed what keys = record { what = what; keys = keys }

-- a PrepareReply as it arrives (`received`)
abbrev pub reply_of : Promised → List ℕ → Reply
reply_of p keys =
    record {
      slot = p.slot;
      trigger = p.trigger;
      endprep = p.endprep;
      ballot = p.ballot;
      voted = ltb 0 p.voted;
      vote = told_vote p keys;
      bar = p.bar;
    }

-- a message that its sender sent, and the completion of an entry that stands in m's log
pub record ReplySent (g : Scene) (p : ℕ) (m : Reply) : Type 0 where
  pub told : Promised
  pub keys : List ℕ
  pub sent : deed (PrepareReply told) keys ∈ g.did p
  pub is : m ≡ reply_of told keys

abbrev pub Brought : Scene → ℕ → Call → Type 0
Brought g m (call_prepare_reply p q) = ReplySent g p q
Brought g m (call_accept p s b e) = accept_sent s b e ∈ g.did p
Brought g m (call_accept_reply p s b) = (a : Accepted) × (keys : List ℕ) × (deed (AcceptReply a) keys ∈ g.did p) × (a.slot ≡ s) × (a.ballot ≡ b)
Brought g m (call_commit_notice p b bar) = (a : Notice) × (keys : List ℕ) × (deed (CommitNotice a) keys ∈ g.did p) × (a.ballot ≡ b) × (a.bar ≡ bar)
Brought g m (call_logged d) = EntryIn (g.log m) d.entry d.slot d.ballot
Brought g m (call_prepare p trigger ballot) = Unit {0}
Brought g m (call_timeout source) = Unit {0}
Brought g m (call_offer b) = Unit {0}
Brought g m (call_executed slot) = Unit {0}
Brought g m (call_open_read id count keys) = Unit {0}
Brought g m (call_read_reply peer id from_leader reply) = Unit {0}

pub received-Brought : (g : Scene) (m from : ℕ) (a : Action) (keys : List ℕ) (c : Call) → deed a keys ∈ g.did from → c ∈ received from (deed a keys) → Brought g m c
received-Brought g m from (Prepare p) keys c h i = subst (Brought g m) (sym (Memᴰ.eq_of_singleton i)) tt
received-Brought g m from (PrepareReply p) keys c h i =
    subst (Brought g m) (sym (Memᴰ.eq_of_singleton i)) (record { told = p; keys = keys; sent = h; is = refl })
received-Brought g m from (Accept p) keys c h i = subst (Brought g m) (sym (Memᴰ.eq_of_singleton i)) h
received-Brought g m from (AcceptReply p) keys c h i = subst (Brought g m) (sym (Memᴰ.eq_of_singleton i)) (p, keys, h, refl, refl)
received-Brought g m from (CommitNotice p) keys c h i = subst (Brought g m) (sym (Memᴰ.eq_of_singleton i)) (p, keys, h, refl, refl)
received-Brought g m from (PrepareBal p) keys c h i = absurd (Memᴰ.not-nil i)
received-Brought g m from (AcceptData p) keys c h i = absurd (Memᴰ.not-nil i)
received-Brought g m from (CommitSlot p) keys c h i = absurd (Memᴰ.not-nil i)
received-Brought g m from Heartbeat keys c h i = absurd (Memᴰ.not-nil i)
received-Brought g m from StatusUp keys c h i = absurd (Memᴰ.not-nil i)
received-Brought g m from StatusDown keys c h i = absurd (Memᴰ.not-nil i)
received-Brought g m from (Execute p) keys c h i = absurd (Memᴰ.not-nil i)
received-Brought g m from (ReadAnswer p) keys c h i = absurd (Memᴰ.not-nil i)

-- the completions that a call reports
abbrev pub completions : Call → List Done
completions (call_logged d) = d ∷ []
completions (call_prepare p trigger ballot) = []
completions (call_prepare_reply p q) = []
completions (call_accept p s b e) = []
completions (call_accept_reply p s b) = []
completions (call_commit_notice p b bar) = []
completions (call_timeout source) = []
completions (call_offer b) = []
completions (call_executed slot) = []
completions (call_open_read id count keys) = []
completions (call_read_reply peer id from_leader reply) = []

pub done_in : (c : Call) (d : Done) → c ≡ call_logged d → d ∈ completions c
done_in c d e = subst (λ (x : Call). d ∈ completions x) (sym e) (Memᴰ.head refl)

-- who reports a completion is given it
pub reported_in : (g : Scene) (m : ℕ) (c : Call) (d : Done) → Brought g m c → d ∈ completions c → EntryIn (g.log m) d.entry d.slot d.ballot
reported_in g m (call_logged x) d b i = subst (λ (y : Done). EntryIn (g.log m) y.entry y.slot y.ballot) (sym (Memᴰ.eq_of_singleton i)) b
reported_in g m (call_prepare p trigger ballot) d b i = absurd (Memᴰ.not-nil i)
reported_in g m (call_prepare_reply p q) d b i = absurd (Memᴰ.not-nil i)
reported_in g m (call_accept p s x e) d b i = absurd (Memᴰ.not-nil i)
reported_in g m (call_accept_reply p s x) d b i = absurd (Memᴰ.not-nil i)
reported_in g m (call_commit_notice p x bar) d b i = absurd (Memᴰ.not-nil i)
reported_in g m (call_timeout source) d b i = absurd (Memᴰ.not-nil i)
reported_in g m (call_offer x) d b i = absurd (Memᴰ.not-nil i)
reported_in g m (call_executed slot) d b i = absurd (Memᴰ.not-nil i)
reported_in g m (call_open_read id count keys) d b i = absurd (Memᴰ.not-nil i)
reported_in g m (call_read_reply peer id from_leader reply) d b i = absurd (Memᴰ.not-nil i)

-- ── member m acted ──
unfoldable pub acted : Scene → ℕ → Sight → List Act → List Done → Scene
acted g m v acts dones =
    record {
      sight = upd g.sight m v;
      did = upd g.did m (g.did m ++ acts);
      log = upd g.log m (g.log m ++ acts);
      reported = upd g.reported m (g.reported m ++ dones);
    }

-- the only place that looks into it
module _ (g : Scene) (m : ℕ) (v : Sight) (acts : List Act) (dones : List Done) where
  pub each : (P : ℕ → Sight → List Act → List Act → List Done → Type 0) (j : ℕ) → ((j ≡ m → ⊥) → P j (g.sight j) (g.did j) (g.log j) (g.reported j))
      → P m v (g.did m ++ acts) (g.log m ++ acts) (g.reported m ++ dones)
      → P j ((acted g m v acts dones).sight j) ((acted g m v acts dones).did j) ((acted g m v acts dones).log j) ((acted g m v acts dones).reported j)
  unfolding acted
  each P j a b = go (same? j m)
    where
      put : P m (upd g.sight m v m) (upd g.did m (g.did m ++ acts) m) (upd g.log m (g.log m ++ acts) m) (upd g.reported m (g.reported m ++ dones) m)
      put =
          subst (λ (x : Sight). P m x (upd g.did m (g.did m ++ acts) m) (upd g.log m (g.log m ++ acts) m) (upd g.reported m (g.reported m ++ dones) m)) (sym (upd_same g.sight m v))
          (subst (λ (x : List Act). P m v x (upd g.log m (g.log m ++ acts) m) (upd g.reported m (g.reported m ++ dones) m)) (sym (upd_same g.did m (g.did m ++ acts)))
          (subst (λ (x : List Act). P m v (g.did m ++ acts) x (upd g.reported m (g.reported m ++ dones) m)) (sym (upd_same g.log m (g.log m ++ acts)))
          (subst (P m v (g.did m ++ acts) (g.log m ++ acts)) (sym (upd_same g.reported m (g.reported m ++ dones))) b)))

      go : (j ≡ m) ⊎ (j ≡ m → ⊥) → P j (upd g.sight m v j) (upd g.did m (g.did m ++ acts) j) (upd g.log m (g.log m ++ acts) j) (upd g.reported m (g.reported m ++ dones) j)
      go (inl e) =
          subst (λ (n : ℕ). P n (upd g.sight m v n) (upd g.did m (g.did m ++ acts) n) (upd g.log m (g.log m ++ acts) n) (upd g.reported m (g.reported m ++ dones) n)) (sym e) put
      go (inr d) =
          subst (λ (x : Sight). P j x (upd g.did m (g.did m ++ acts) j) (upd g.log m (g.log m ++ acts) j) (upd g.reported m (g.reported m ++ dones) j)) (sym (upd_other g.sight m v j d))
          (subst (λ (x : List Act). P j (g.sight j) x (upd g.log m (g.log m ++ acts) j) (upd g.reported m (g.reported m ++ dones) j)) (sym (upd_other g.did m (g.did m ++ acts) j d))
          (subst (λ (x : List Act). P j (g.sight j) (g.did j) x (upd g.reported m (g.reported m ++ dones) j)) (sym (upd_other g.log m (g.log m ++ acts) j d))
          (subst (P j (g.sight j) (g.did j) (g.log j)) (sym (upd_other g.reported m (g.reported m ++ dones) j d)) (a d))))

  abbrev g' : Scene
  g' = acted g m v acts dones

  pub old_did : (j : ℕ) {x : Act} → x ∈ g.did j → x ∈ g'.did j
  old_did j {x} a = each (λ j v h l r. (x ∈ g.did j) → x ∈ h) j (λ _ a. a) (Memᴰ.append_left acts) a

  pub new_did : {x : Act} → x ∈ acts → x ∈ g'.did m
  new_did {x} a = each (λ j v h l r. x ∈ h) m (λ d. absurd (d refl)) (Memᴰ.append_right (g.did m) a)

  pub did_cases : (j : ℕ) {x : Act} → x ∈ g'.did j → (x ∈ g.did j) ⊎ ((j ≡ m) × (x ∈ acts))
  did_cases j {x} = each (λ j v h l r. x ∈ h → (x ∈ g.did j) ⊎ ((j ≡ m) × (x ∈ acts))) j (λ _ a. inl a) (λ a. go (Memᴰ.append_cases (g.did m) a))
    where
      go : (x ∈ g.did m) ⊎ (x ∈ acts) → (x ∈ g.did m) ⊎ ((m ≡ m) × (x ∈ acts))
      go (inl a) = inl a
      go (inr a) = inr (refl, a)

  pub old_log : (j : ℕ) {x : Act} → x ∈ g.log j → x ∈ g'.log j
  old_log j {x} a = each (λ j v h l r. (x ∈ g.log j) → x ∈ l) j (λ _ a. a) (Memᴰ.append_left acts) a

  pub log_cases : (j : ℕ) {x : Act} → x ∈ g'.log j → (x ∈ g.log j) ⊎ ((j ≡ m) × (x ∈ acts))
  log_cases j {x} = each (λ j v h l r. x ∈ l → (x ∈ g.log j) ⊎ ((j ≡ m) × (x ∈ acts))) j (λ _ a. inl a) (λ a. go (Memᴰ.append_cases (g.log m) a))
    where
      go : (x ∈ g.log m) ⊎ (x ∈ acts) → (x ∈ g.log m) ⊎ ((m ≡ m) × (x ∈ acts))
      go (inl a) = inl a
      go (inr a) = inr (refl, a)

  pub old_reported : (j : ℕ) {d : Done} → d ∈ g.reported j → d ∈ g'.reported j
  old_reported j {d} a = each (λ j v h l r. (d ∈ g.reported j) → d ∈ r) j (λ _ a. a) (Memᴰ.append_left dones) a

  pub new_reported : {d : Done} → d ∈ dones → d ∈ g'.reported m
  new_reported {d} a = each (λ j v h l r. d ∈ r) m (λ n. absurd (n refl)) (Memᴰ.append_right (g.reported m) a)
