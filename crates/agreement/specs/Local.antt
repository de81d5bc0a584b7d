-- One member with all that it ever did: what holds whatever calls it is given. No group, no network; and no more of a call than its frame.
use Rattle.std.specs.Prelude.{◌≡◌, refl, true, ◌⊎◌, ℕ, ◌≤◌, ◌<◌}
use Rattle.std.proofs.Common.{sym, ◌∙◌, subst, inl, inr, arith}
use mathlib.Core.List.Memᴰ
use mathlib.Core.List.{List, [], ◌∷◌, ◌++◌, append_assoc}
use Rattle.base.specs.Among.{◌∈◌, All, All-in, All-append, All-map}
use Rattle.batch.specs.declared.Batch.{Batch}
use Rattle.actions.specs.declared.Action.{Action}
use Rattle.actions.specs.declared.Action.TheVariants.{PrepareBal, AcceptData, CommitSlot, Prepare, PrepareReply, Accept, AcceptReply, CommitNotice, Heartbeat, StatusUp, StatusDown, Execute, ReadAnswer}
use Rattle.actions.specs.Actions.{Act, act}
use Rattle.decide.specs.Decide.{proposal}
use Rattle.replica.specs.Step.{Call}
use Rattle.agreement.specs.Theorem.{ballot_of, ballots, NeverFalls, accept_entry, commit_entry}
use Rattle.agreement.specs.Frame.{View, Owns, Clean, Holds, Why, led, told, Wrote, Marked, Sent, SaidOk, ActOk, SlotStep, low, kept, wrote, cleared, Frame}

pub subst₂ : {A B : Type 0} (P : A → B → Type 0) {a a' : A} {b b' : B} → a ≡ a' → b ≡ b' → P a b → P a' b'
subst₂ P {a} {a'} {b} {b'} p q h = subst (P a') q (subst (λ x. P x b) p h)

-- ── lists of ballots ──
pub ballots-append : (k l : List Act) → ballots (k ++ l) ≡ ballots k ++ ballots l
unfolding ballots
ballots-append [] l = refl
ballots-append (a ∷ k) l = rw (ballots-append k l) (sym (append_assoc (ballot_of a.what) (ballots k) (ballots l)))

falls_append : (m : ℕ) (k l : List ℕ) → NeverFalls k → All (λ b. b ≤ m) k → NeverFalls l → All (λ b. m ≤ b) l → NeverFalls (k ++ l)
falls_append m [] l f u g v = g
falls_append m (b ∷ k) l f u g v = (All-append _ k l f.0 (All-map _ _ (λ c h. omega arith) l v), falls_append m k l f.1 u.1 g v)

falls_equal : (m : ℕ) (l : List ℕ) → All (λ b. b ≡ m) l → NeverFalls l
falls_equal m [] h = tt
falls_equal m (b ∷ l) h = (All-map _ _ (λ c e. omega arith) l h.1, falls_equal m l h.1)

-- an Accept as it is sent
abbrev pub accept_sent : ℕ → ℕ → Batch → Act
accept_sent slot ballot b = act (Accept (proposal slot ballot b)) b.keys

-- member j, seen as v, has done h, and of its log l stands: all of h, where it never lost any
pub record Local (j : ℕ) (v : View) (h l : List Act) : Type 0 where
  pub id : v.me ≡ j
  pub stands : {a : Act} → a ∈ l → a ∈ h
  pub under : All (λ b. b ≤ v.seen) (ballots l)
  pub order : NeverFalls (ballots l)
  pub cap : (s b : ℕ) (e : Batch) → accept_entry s b e ∈ l → b ≤ v.seen
  pub own : (s b : ℕ) (e : Batch) → accept_entry s b e ∈ h → Owns j b → b ≤ v.seen
  -- while it leads, what it wrote at its ballot is still held
  pub live : (s b : ℕ) (e : Batch) → accept_entry s b e ∈ h → Owns j b → v.leading ≡ true → b ≡ v.seen → Holds (v.slot s) b e
  -- at a ballot of its own it writes one batch for a slot
  pub one : (s b : ℕ) (e e' : Batch) → accept_entry s b e ∈ h → accept_entry s b e' ∈ h → Owns j b → e ≡ e'
  -- an Accepting slot has its entry in the log
  pub voted : (s : ℕ) → (v.slot s).status ≡ 2 → accept_entry s (v.slot s).ballot (v.slot s).batch ∈ l
  -- an Accept sent is of an own ballot and has its entry in the log
  pub said : (s b : ℕ) (e : Batch) → accept_sent s b e ∈ h → Owns j b × (accept_entry s b e ∈ h) × Clean e

pub Local-start : (j : ℕ) (v : View) → v.me ≡ j → ((s : ℕ) → (v.slot s).status ≡ 0) → Local j v [] []
unfolding ballots
Local-start j v e z =
    record {
      id = e;
      stands = λ m. m;
      under = tt;
      order = tt;
      cap = λ s b e m. absurd (Memᴰ.not-nil m);
      own = λ s b e m. absurd (Memᴰ.not-nil m);
      live = λ s b e m. absurd (Memᴰ.not-nil m);
      one = λ s b e e' m. absurd (Memᴰ.not-nil m);
      voted = λ s l. absurd (omega (arith, z s));
      said = λ s b e m. absurd (Memᴰ.not-nil m);
    }

module _ (j : ℕ) (v : View) (h l : List Act) (c : Call) (n : ℕ) (v' : View) (acts : List Act) (i : Local j v h l) (k : Frame v c n v' acts) where
  pub new : (s b : ℕ) (e : Batch) → accept_entry s b e ∈ acts → Wrote v c v' s b e
  new s b e m = (All-in (ActOk v c v' acts) k.said m).0

  cap_step : (s b : ℕ) (e : Batch) → (accept_entry s b e ∈ l) ⊎ (accept_entry s b e ∈ acts) → b ≤ v'.seen
  cap_step s b e (inl m) = omega (arith, i.cap s b e m, k.mono)
  cap_step s b e (inr m) = omega (arith, (new s b e m).top)

  own_step : (s b : ℕ) (e : Batch) → Owns j b → (accept_entry s b e ∈ h) ⊎ (accept_entry s b e ∈ acts) → b ≤ v'.seen
  own_step s b e w (inl m) = omega (arith, i.own s b e m w, k.mono)
  own_step s b e w (inr m) = omega (arith, (new s b e m).top)

  -- an entry of an own ballot is written only by its leader, for a slot below Accepting
  new_own : (s b : ℕ) (e : Batch) → Owns j b → Why v c s b e → ((v.slot s).status < 2) × (v.leading ≡ true) × (b ≡ v.seen)
  new_own s b e w (led a z y q) = (z, y, q)
  new_own s b e w (told p m q t a d) = absurd (d (omega (arith, i.id)))

  live_slot : (s b : ℕ) (e : Batch) → Owns j b → b ≡ v'.seen → v'.seen ≡ v.seen → Holds (v.slot s) b e → SlotStep v v' acts s (v.slot s) (v'.slot s)
      → Holds (v'.slot s) b e
  live_slot s b e w t q x (low z _) = absurd (omega (arith, x.on))
  live_slot s b e w t q x (kept _ _ y) = record { on = y.on; at = y.at ∙ x.at; val = y.val ∙ x.val }
  live_slot s b e w t q x (wrote _ m) = let y = new _ _ _ m in absurd
      (omega (arith, x.on, (new_own s (v'.slot s).ballot (v'.slot s).batch (omega (arith, y.top)) y.why).0))
  live_slot s b e w t q x (cleared _ (inl z)) = absurd (omega arith)
  live_slot s b e w t q x (cleared _ (inr d)) = absurd (d (omega (arith, i.id)))

  live_step : (s b : ℕ) (e : Batch) → Owns j b → v'.leading ≡ true → b ≡ v'.seen → (accept_entry s b e ∈ h) ⊎ (accept_entry s b e ∈ acts) → Holds (v'.slot s) b e
  live_step s b e w y t (inr m) = (new s b e m).held
  live_step s b e w y t (inl m) = go (k.lead y)
    where
      go : ((v.leading ≡ true) × (v'.seen ≡ v.seen)) ⊎ (v.seen < v'.seen) → Holds (v'.slot s) b e
      go (inl (z, q)) = live_slot s b e w t q (i.live s b e m w z (t ∙ q)) (k.slot s)
      go (inr z) = absurd (omega (arith, i.own s b e m w))

  -- no second entry after a first
  no_second : (s b : ℕ) (e e' : Batch) → Owns j b → accept_entry s b e ∈ h → Wrote v c v' s b e' → ⊥
  no_second s b e e' w m y = let (u, z, q) = new_own s b e' w y.why in omega (arith, (i.live s b e m w z q).on)

  one_step : (s b : ℕ) (e e' : Batch) → Owns j b → (accept_entry s b e ∈ h) ⊎ (accept_entry s b e ∈ acts) → (accept_entry s b e' ∈ h) ⊎ (accept_entry s b e' ∈ acts)
      → e ≡ e'
  one_step s b e e' w (inl m) (inl m') = i.one s b e e' m m' w
  one_step s b e e' w (inl m) (inr m') = absurd (no_second s b e e' w m (new s b e' m'))
  one_step s b e e' w (inr m) (inl m') = absurd (no_second s b e' e w m' (new s b e m))
  one_step s b e e' w (inr m) (inr m') = sym (new s b e m).held.val ∙ (new s b e' m').held.val

  voted_step : (s : ℕ) → (v'.slot s).status ≡ 2 → SlotStep v v' acts s (v.slot s) (v'.slot s) → accept_entry s (v'.slot s).ballot (v'.slot s).batch ∈ (l ++ acts)
  voted_step s z (low _ a) = absurd (omega arith)
  voted_step s z (kept a f y) = subst₂ (λ (b : ℕ) (e : Batch). accept_entry s b e ∈ (l ++ acts)) (sym y.at) (sym y.val) (Memᴰ.append_left acts (i.voted s (f z)))
  voted_step s z (wrote _ m) = Memᴰ.append_right l m
  voted_step s z (cleared a _) = absurd (a z)

  stands_step : {a : Act} → (a ∈ l) ⊎ (a ∈ acts) → a ∈ (h ++ acts)
  stands_step (inl m) = Memᴰ.append_left acts (i.stands m)
  stands_step (inr m) = Memᴰ.append_right h m

  said_step : (s b : ℕ) (e : Batch) → (accept_sent s b e ∈ h) ⊎ (accept_sent s b e ∈ acts) → Owns j b × (accept_entry s b e ∈ (h ++ acts)) × Clean e
  said_step s b e (inl m) = let (o, y, t) = i.said s b e m in (o, Memᴰ.append_left acts y, t)
  said_step s b e (inr m) = let y : Sent v acts s b e = (All-in (ActOk v c v' acts) k.said m).0 in
      (omega (arith, y.own, i.id), Memᴰ.append_right h y.logged, y.tidy)

  -- all that one call writes is at one ballot
  one_ballot : (x : Action) (keys : List ℕ) → SaidOk v c v' acts keys x → All (λ b. b ≡ v'.seen) (ballot_of x)
  one_ballot (PrepareBal p) keys a = (a, tt)
  one_ballot (AcceptData p) keys a = (a.top, tt)
  one_ballot (CommitSlot p) keys a = tt
  one_ballot (Prepare p) keys a = tt
  one_ballot (PrepareReply p) keys a = tt
  one_ballot (Accept p) keys a = tt
  one_ballot (AcceptReply p) keys a = tt
  one_ballot (CommitNotice p) keys a = tt
  one_ballot Heartbeat keys a = tt
  one_ballot StatusUp keys a = tt
  one_ballot StatusDown keys a = tt
  one_ballot (Execute p) keys a = tt
  one_ballot (ReadAnswer p) keys a = tt

  new_ballots : (new : List Act) → All (ActOk v c v' acts) new → All (λ b. b ≡ v'.seen) (ballots new)
  unfolding ballots
  new_ballots [] a = tt
  new_ballots (x ∷ rest) a = All-append (λ b. b ≡ v'.seen) (ballot_of x.what) (ballots rest) (one_ballot x.what x.keys a.0.0) (new_ballots rest a.1)

  under_step : All (λ b. b ≤ v'.seen) (ballots (l ++ acts))
  under_step =
      subst (All (λ b. b ≤ v'.seen)) (sym (ballots-append l acts))
      (All-append (λ b. b ≤ v'.seen) (ballots l) (ballots acts)
      (All-map (λ b. b ≤ v.seen) (λ b. b ≤ v'.seen) (λ b z. omega (arith, k.mono)) (ballots l) i.under)
      (All-map (λ b. b ≡ v'.seen) (λ b. b ≤ v'.seen) (λ b e. omega arith) (ballots acts) (new_ballots acts k.said)))

  order_step : NeverFalls (ballots (l ++ acts))
  order_step =
      subst NeverFalls (sym (ballots-append l acts))
      (falls_append v.seen (ballots l) (ballots acts) i.order i.under (falls_equal v'.seen (ballots acts) (new_ballots acts k.said))
      (All-map (λ b. b ≡ v'.seen) (λ b. v.seen ≤ b) (λ b e. omega (arith, k.mono)) (ballots acts) (new_ballots acts k.said)))

  pub Local-step : Local j v' (h ++ acts) (l ++ acts)
  Local-step =
      record {
        id = k.same ∙ i.id;
        stands = λ m. stands_step (Memᴰ.append_cases l m);
        under = under_step;
        order = order_step;
        cap = λ s b e m. cap_step s b e (Memᴰ.append_cases l m);
        own = λ s b e m w. own_step s b e w (Memᴰ.append_cases h m);
        live = λ s b e m w y t. live_step s b e w y t (Memᴰ.append_cases h m);
        one = λ s b e e' m m' w. one_step s b e e' w (Memᴰ.append_cases h m) (Memᴰ.append_cases h m');
        voted = λ s z. voted_step s z (k.slot s);
        said = λ s b e m. said_step s b e (Memᴰ.append_cases h m);
      }

  -- a commit entry has the accept entry of its slot and ballot, with the batch that it commits, before it, in the log as it was
  marked : (s b : ℕ) → commit_entry s b ∈ acts → Marked (v.slot s) (v'.slot s) b v'.seen
  marked s b m = (All-in (ActOk v c v' acts) k.said m).0

  pub commit_earlier : (s b : ℕ) → commit_entry s b ∈ acts → accept_entry s b (v'.slot s).batch ∈ l
  commit_earlier s b m =
      let y = marked s b m in
      subst₂ (λ (b : ℕ) (e : Batch). accept_entry s b e ∈ l) (sym (y.says ∙ y.at)) (sym y.val) (i.voted s y.was)

  -- and its ballot is the largest seen
  pub commit_top : (s b : ℕ) → commit_entry s b ∈ acts → b ≡ v'.seen
  commit_top s b m = let y = marked s b m in y.says ∙ y.top
