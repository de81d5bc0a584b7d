-- The group: the few facts that name two members, and the proof of the theorem, which ends in proofs/Group.
use Rattle.std.specs.Prelude.{◌≡◌, Bool, true, false, ◌&&◌, List, [], ◌++◌, ◌⊎◌, ℕ, ◌%◌, ◌≤◌, ◌<◌, ltb, leb, eqb}
use Rattle.std.proofs.Math.Path.{refl, subst}
use Rattle.std.proofs.Common.{sym, ◌∙◌, ap, inl, inr, arith, ltb-true, leb-true, eq-eqb, ne_eqb, lt-ltb, le-leb}
use mathlib.Core.List.Memᴰ
use Rattle.base.specs.Pick.{pick_cases, decide, same?, clash, tests, and_left, and_right, and_make}
use Rattle.base.specs.Gather.{All-gather}
use Rattle.base.specs.Among.{◌∈◌, All, All-in, All-append, All-map}
use Rattle.members.specs.Groups.{group_size}
use Rattle.batch.specs.declared.Batch.{Batch}
use Rattle.batch.specs.Batches.{make_batch}
use Rattle.actions.specs.declared.Action.{Action}
use Rattle.actions.specs.declared.Action.TheVariants.{PrepareBal, AcceptData, CommitSlot, Prepare, PrepareReply, Accept, AcceptReply, CommitNotice, Heartbeat, StatusUp, StatusDown, Execute, ReadAnswer}
use Rattle.actions.specs.Actions.{Act}
use Rattle.slots.specs.declared.Slot.{Slot}
use Rattle.slots.specs.Slots.{committed}
use Rattle.decide.specs.Scalars.{may_be}
use Rattle.window.specs.Window.{no_slots}
use Rattle.window.specs.ByPlace.{at_past}
use Rattle.replica.specs.declared.Replica.{Replica}
use Rattle.replica.specs.Seen.{Made}
use Rattle.replica.specs.Record.{Outcome, new_replica, fresh, zero_replica, log_end}
use Rattle.replica.specs.Messages.{clean}
use Rattle.replica.specs.Step.{Call, call_prepare, call_prepare_reply, call_accept, call_accept_reply, call_commit_notice, call_timeout, call_logged, call_offer, call_executed, call_open_read, call_read_reply, step, received}
use Rattle.agreement.specs.BySlot.{by_place}
use Rattle.agreement.specs.Theorem.{Group, Mark, World, slot_of, rises, mark_at, marks_of, upd, put, begin, May, timer, offer, logged, execution, opening, replied, message, refused, ballots, NeverFalls, accept_entry, commit_entry, Agreement}
use Rattle.agreement.specs.Frame.{View, view, Owns, Why, led, told, Wrote, Marked, ActOk, Frame}
use Rattle.agreement.specs.Good.{GoodSlot, GoodReplica}
use Rattle.agreement.specs.Local.{accept_sent, Local, Local-start, Local-step, commit_earlier, subst₂}

abbrev pub view_of : Replica → View
view_of r = view r.sc r.window

-- a mark's batch is named by an accept entry of its member
abbrev pub MarkOk : (ℕ → List Act) → Mark → Type 0
MarkOk did k = accept_entry k.slot k.ballot k.batch ∈ did k.who

pub record Inv (g : Group) (w : World) : Type 0 where
  pub local : (m : ℕ) → g.present m ≡ true → Local m (view_of (w.replica m)) (w.did m) (w.did m)
  pub none : (m : ℕ) → g.present m ≡ false → w.did m ≡ []
  -- an accept entry stands also in the log of its ballot's owner
  pub from : (m s b : ℕ) (e : Batch) → accept_entry s b e ∈ w.did m → (p : ℕ) × Owns p b × (accept_entry s b e ∈ w.did p)
  pub mark : All (MarkOk w.did) w.marks

-- only present members do anything
pub member : {g : Group} {w : World} → Inv g w → (p : ℕ) {x : Act} → x ∈ w.did p → g.present p ≡ true
member {g} {w} i p {x} a = go (decide (g.present p))
  where
    go : (g.present p ≡ true) ⊎ (g.present p ≡ false) → g.present p ≡ true
    go (inl e) = e
    go (inr e) = absurd (Memᴰ.not-nil (subst (λ (l : List Act). x ∈ l) (i.none p e) a))

-- entries of one slot and ballot in the log of its owner name one batch
pub one_of : {g : Group} {w : World} → Inv g w → (s b : ℕ) (e e' : Batch) → (p : ℕ) × Owns p b × (accept_entry s b e ∈ w.did p)
    → (p : ℕ) × Owns p b × (accept_entry s b e' ∈ w.did p) → e ≡ e'
one_of {g} {w} i s b e e' (p, o, y) (p', o', y') =
    let q : p' ≡ p = omega arith in
    (i.local p (member i p y)).one s b e e' y (subst (λ (n : ℕ). accept_entry s b e' ∈ w.did n) q y') o

-- ── a message that is an Accept is one that its sender sent ──
abbrev pub is_accept : Call → Bool
is_accept (call_prepare peer trigger ballot) = false
is_accept (call_prepare_reply peer m) = false
is_accept (call_accept peer slot ballot b) = true
is_accept (call_accept_reply peer slot ballot) = false
is_accept (call_commit_notice peer ballot bar) = false
is_accept (call_timeout source) = false
is_accept (call_logged d) = false
is_accept (call_offer b) = false
is_accept (call_executed slot) = false
is_accept (call_open_read id count keys) = false
is_accept (call_read_reply peer id from_leader reply) = false

is_no_accept : {c d : Call} → c ≡ d → is_accept d ≡ false → is_accept c ≡ true → ⊥
is_no_accept e f t = clash t (ap is_accept e ∙ f)

accept_kind : (from : ℕ) (x : Action) (keys : List ℕ) (c : Call) (p s b : ℕ) (m : Batch) → c ∈ received from (record { what = x; keys = keys }) → c ≡ call_accept p s b m
    → (from ≡ p) × (◌≡◌ {A = Act} (record { what = x; keys = keys }) (accept_sent s b m))
accept_kind from (Accept q) keys c p s b m i e =
    let f : c ≡ call_accept from q.slot q.ballot (record { id = q.batch; count = q.count; keys = keys }) = Memᴰ.eq_of_singleton i in
    let e0 : from ≡ p = cc in
    let e1 : q.slot ≡ s = cc in
    let e2 : q.ballot ≡ b = cc in
    let e3 : record { id = q.batch; count = q.count; keys = keys } ≡ m = cc in
    (e0, λ k. accept_sent (e1 k) (e2 k) (e3 k))
accept_kind from (Prepare q) keys c p s b m i e = absurd (is_no_accept (Memᴰ.eq_of_singleton i) refl (ap is_accept e))
accept_kind from (PrepareReply q) keys c p s b m i e = absurd (is_no_accept (Memᴰ.eq_of_singleton i) refl (ap is_accept e))
accept_kind from (AcceptReply q) keys c p s b m i e = absurd (is_no_accept (Memᴰ.eq_of_singleton i) refl (ap is_accept e))
accept_kind from (CommitNotice q) keys c p s b m i e = absurd (is_no_accept (Memᴰ.eq_of_singleton i) refl (ap is_accept e))
accept_kind from (PrepareBal q) keys c p s b m i e = absurd (Memᴰ.not-nil i)
accept_kind from (AcceptData q) keys c p s b m i e = absurd (Memᴰ.not-nil i)
accept_kind from (CommitSlot q) keys c p s b m i e = absurd (Memᴰ.not-nil i)
accept_kind from Heartbeat keys c p s b m i e = absurd (Memᴰ.not-nil i)
accept_kind from StatusUp keys c p s b m i e = absurd (Memᴰ.not-nil i)
accept_kind from StatusDown keys c p s b m i e = absurd (Memᴰ.not-nil i)
accept_kind from (Execute q) keys c p s b m i e = absurd (Memᴰ.not-nil i)
accept_kind from (ReadAnswer q) keys c p s b m i e = absurd (Memᴰ.not-nil i)

-- an Accept that may happen was sent by whom it names, or is refused
pub accept_was_sent : (w : World) (m room : ℕ) (c : Call) → May w m room c → (p s b : ℕ) (e : Batch) → c ≡ call_accept p s b e
    → (accept_sent s b e ∈ w.did p) ⊎ ((step (w.replica m) room c).answer ≡ 0 → ⊥)
accept_was_sent w m room _ (message from a c h i) p s b e q =
    let (z, y) = accept_kind from a.what a.keys c p s b e i q in
    inl (subst (λ (n : ℕ). accept_sent s b e ∈ w.did n) z (subst (λ (x : Act). x ∈ w.did from) y h))
accept_was_sent w m room _ (refused c n _) p s b e q = inr n
accept_was_sent w m room _ (timer source) p s b e q = absurd (clash (ap is_accept q) refl)
accept_was_sent w m room _ (offer x) p s b e q = absurd (clash (ap is_accept q) refl)
accept_was_sent w m room _ (logged d) p s b e q = absurd (clash (ap is_accept q) refl)
accept_was_sent w m room _ (execution slot) p s b e q = absurd (clash (ap is_accept q) refl)
accept_was_sent w m room _ (opening id count keys) p s b e q = absurd (clash (ap is_accept q) refl)
accept_was_sent w m room _ (replied peer id f reply) p s b e q = absurd (clash (ap is_accept q) refl)

-- ── the only place that looks into `put` ──
pub upd_same : {A : Type 0} (f : ℕ → A) (k : ℕ) (v : A) → upd f k v k ≡ v
unfolding upd
upd_same f k v = rw (eq-eqb k k refl)

pub upd_other : {A : Type 0} (f : ℕ → A) (k : ℕ) (v : A) (j : ℕ) → (j ≡ k → ⊥) → upd f k v j ≡ f j
unfolding upd
upd_other f k v j h = rw (ne_eqb j k h)

module _ (w : World) (m : ℕ) (o : Outcome) where
  pub each : (P : ℕ → Replica → List Act → Type 0) (j : ℕ) → ((j ≡ m → ⊥) → P j (w.replica j) (w.did j)) → P m o.replica (w.did m ++ o.actions)
      → P j ((put w m o).replica j) ((put w m o).did j)
  unfolding put
  each P j a b = go (same? j m)
    where
      go : (j ≡ m) ⊎ (j ≡ m → ⊥) → P j (upd w.replica m o.replica j) (upd w.did m (w.did m ++ o.actions) j)
      go (inl e) =
          subst (λ (n : ℕ). P n (upd w.replica m o.replica n) (upd w.did m (w.did m ++ o.actions) n)) (sym e)
          (subst₂ (P m) (sym (upd_same w.replica m o.replica)) (sym (upd_same w.did m (w.did m ++ o.actions))) b)
      go (inr d) = subst₂ (P j) (sym (upd_other w.replica m o.replica j d)) (sym (upd_other w.did m (w.did m ++ o.actions) j d)) (a d)

  pub old : (j : ℕ) {x : Act} → x ∈ w.did j → x ∈ (put w m o).did j
  old j {x} a = each (λ j r h. (x ∈ w.did j) → x ∈ h) j (λ d a. a) (Memᴰ.append_left o.actions) a

  pub new : {x : Act} → x ∈ o.actions → x ∈ (put w m o).did m
  new {x} a = each (λ j r h. x ∈ h) m (λ d. absurd (d refl)) (Memᴰ.append_right (w.did m) a)

  pub cases : (j : ℕ) {x : Act} → x ∈ (put w m o).did j → (x ∈ w.did j) ⊎ ((j ≡ m) × (x ∈ o.actions))
  cases j {x} = each (λ j r h. x ∈ h → (x ∈ w.did j) ⊎ ((j ≡ m) × (x ∈ o.actions))) j (λ d a. inl a) (λ a. go (Memᴰ.append_cases (w.did m) a))
    where
      go : (x ∈ w.did m) ⊎ (x ∈ o.actions) → (x ∈ w.did m) ⊎ ((m ≡ m) × (x ∈ o.actions))
      go (inl a) = inl a
      go (inr a) = inr (refl, a)

-- ── a mark and its commit entry ──
module _ (r : Replica) (c : Call) (n : ℕ) (r' : Replica) (acts : List Act) (k : Frame (view_of r) c n (view_of r') acts) where
  pub rises_commit : (s : ℕ) → rises (slot_of r s) (slot_of r' s) ≡ true → commit_entry s (slot_of r' s).ballot ∈ acts
  rises_commit s e =
      k.rise s (ltb-true (slot_of r s).status 3 (and_left (ltb (slot_of r s).status committed) (leb committed (slot_of r' s).status) e))
      (leb-true 3 (slot_of r' s).status (and_right (ltb (slot_of r s).status committed) (leb committed (slot_of r' s).status) e))

  pub commit_rises : (s b : ℕ) → commit_entry s b ∈ acts → (rises (slot_of r s) (slot_of r' s) ≡ true) × (b ≡ (slot_of r' s).ballot)
  commit_rises s b m =
      let y : Marked ((view_of r).slot s) ((view_of r').slot s) b (view_of r').seen = (All-in (ActOk (view_of r) c (view_of r') acts) k.said m).0 in
      (and_make (lt-ltb (slot_of r s).status 3 (omega (arith, y.was))) (le-leb 3 (slot_of r' s).status y.now), y.says)

-- ── whatever keeps to the frame keeps the invariant: an outcome o of a call c at member m, whose Accept, if it is one, was sent or is refused ──
module _ (g : Group) (w : World) (i : Inv g w) (m : ℕ) (l : g.present m ≡ true) (c : Call) (o : Outcome) (k : Frame (view_of (w.replica m)) c o.answer (view_of o.replica) o.actions)
    (sent : (p s b : ℕ) (e : Batch) → c ≡ call_accept p s b e → (accept_sent s b e ∈ w.did p) ⊎ (o.answer ≡ 0 → ⊥)) where
  now : Local m (view_of o.replica) (w.did m ++ o.actions) (w.did m ++ o.actions)
  now = Local-step m (view_of (w.replica m)) (w.did m) (w.did m) c o.answer (view_of o.replica) o.actions (i.local m l) k

  from_told : (s b : ℕ) (e : Batch) → accept_entry s b e ∈ o.actions → (p : ℕ) (x : Batch) → e ≡ clean x → Owns p b
      → (accept_sent s b x ∈ w.did p) ⊎ (o.answer ≡ 0 → ⊥) → (p : ℕ) × Owns p b × (accept_entry s b e ∈ (put w m o).did p)
  from_told s b e h p x t q (inr z) = absurd (Memᴰ.not-nil (subst (λ (y : List Act). accept_entry s b e ∈ y) (k.quiet z) h))
  from_told s b e h p x t q (inl z) =
      let (_, y, u) = (i.local p (member i p z)).said s b x z in
      (p, q, old w m o p (subst (λ (x : Batch). accept_entry s b x ∈ w.did p) (sym (t ∙ u)) y))

  from_why : (s b : ℕ) (e : Batch) → accept_entry s b e ∈ o.actions → Why (view_of (w.replica m)) c s b e → (p : ℕ) × Owns p b × (accept_entry s b e ∈ (put w m o).did p)
  from_why s b e h (led y _ _ _) = (m, omega (arith, (i.local m l).id), new w m o h)
  from_why s b e h (told p x q t y d) = from_told s b e h p x t y (sent p s b x q)

  from_step : (j s b : ℕ) (e : Batch) → (accept_entry s b e ∈ w.did j) ⊎ ((j ≡ m) × (accept_entry s b e ∈ o.actions))
      → (p : ℕ) × Owns p b × (accept_entry s b e ∈ (put w m o).did p)
  from_step j s b e (inl x) = let (p, q, y) = i.from j s b e x in (p, q, old w m o p y)
  from_step j s b e (inr (_, x)) =
      let y : Wrote (view_of (w.replica m)) c (view_of o.replica) s b e = (All-in (ActOk (view_of (w.replica m)) c (view_of o.replica) o.actions)
      k.said x).0 in
      from_why s b e x y.why

  -- the accept entry of a slot that is marked is in the log before the call
  pub commit_earlier_in : (s b : ℕ) → commit_entry s b ∈ o.actions → accept_entry s b (slot_of o.replica s).batch ∈ w.did m
  commit_earlier_in = commit_earlier m (view_of (w.replica m)) (w.did m) (w.did m) c o.answer (view_of o.replica) o.actions (i.local m l) k

  marks_step : All (MarkOk (put w m o).did) (marks_of m (w.replica m) o.replica)
  unfolding marks_of
  marks_step =
      All-gather (mark_at m (w.replica m) o.replica) (MarkOk (put w m o).did) o.replica.sc.start (log_end o.replica)
      (λ s _ _.
      pick_cases (All (MarkOk (put w m o).did)) (rises (slot_of (w.replica m) s) (slot_of o.replica s))
      (λ e. (old w m o m (commit_earlier_in s (slot_of o.replica s).ballot (rises_commit (w.replica m) c o.answer o.replica o.actions k s e)), tt)) (λ _. tt))

  after_marks : (put w m o).marks ≡ w.marks ++ marks_of m (w.replica m) o.replica
  unfolding put
  after_marks = refl

  pub Inv-step : Inv g (put w m o)
  Inv-step =
      record {
        local = λ j. each w m o (λ j r h. g.present j ≡ true → Local j (view_of r) h h) j (λ d. i.local j) (λ _. now);
        none = λ j. each w m o (λ j r h. g.present j ≡ false → h ≡ []) j (λ d. i.none j) (λ z. absurd (clash l z));
        from = λ j s b e x. from_step j s b e (cases w m o j x);
        mark = subst (All (MarkOk (put w m o).did)) (sym after_marks)
            (All-append (MarkOk (put w m o).did) w.marks (marks_of m (w.replica m) o.replica)
            (All-map (MarkOk w.did) (MarkOk (put w m o).did) (λ e. old w m o e.who) w.marks i.mark) marks_step);
      }

-- ── the start ──
pub fresh_good : (m size start options : ℕ) → m < 9 → GoodReplica (fresh m size start options)
unfolding make_batch
fresh_good m size start options h =
    record {
      small = omega arith;
      sent = λ z. refl;
      own = λ z. absurd (omega (arith, tests));
      wide = refl;
      short = omega arith;
      each = λ i. subst (GoodSlot (fresh m size start options).sc) (sym (at_past no_slots i (omega arith)))
          (record { under = omega arith; busy = λ _ a _. absurd (omega arith); tidy = refl; tidy_vote = refl });
    }

fresh-Local : (m size start options : ℕ) → Local m (view_of (fresh m size start options)) [] []
fresh-Local m size start options =
    Local-start m (view_of (fresh m size start options)) refl
    (λ s. by_place (λ (s : ℕ) (x y : Slot). x.status ≡ 0) start no_slots no_slots (λ s. refl)
    (λ i. ap (λ (x : Slot). x.status) (at_past no_slots i (omega arith))) s)

made_start : (m size start options : ℕ) → (new_replica m size start options).answer ≡ 0
    → GoodReplica (new_replica m size start options).replica × Local m (view_of (new_replica m size start options).replica) [] []
unfolding new_replica
made_start m size start options =
    pick_cases (λ (z : Made). z.answer ≡ 0 → GoodReplica z.replica × Local m (view_of z.replica) [] []) (may_be m size start options)
    (λ e _.
    let a : (ltb m size && (leb start 4294967296 && leb options 7)) ≡ true = and_right (group_size size) (ltb m size && (leb start 4294967296 && leb options 7)) e in
    let b : group_size size ≡ true = and_left (group_size size) (ltb m size && (leb start 4294967296 && leb options 7)) e in
    let x : m < size = ltb-true m size (and_left (ltb m size) (leb start 4294967296 && leb options 7) a) in
    let y : size ≤ 9 = leb-true size 9 (and_left (leb size 9) (eqb (size % 2) 1) b) in
    (fresh_good m size start options (omega arith), fresh-Local m size start options))
    (λ _ z. absurd (omega arith))

pub Inv-start : (g : Group) → Inv g (begin g)
unfolding begin
Inv-start g =
    record {
      local = λ m p. (made_start m g.size g.start (g.options m) (g.made m p)).1;
      none = λ m _. refl;
      from = λ m s b e x. absurd (Memᴰ.not-nil x);
      mark = tt;
    }

-- a present member is good, so each of its calls keeps to the frame
pub start_good : (g : Group) (m : ℕ) → g.present m ≡ true → GoodReplica ((begin g).replica m)
unfolding begin
start_good g m p = (made_start m g.size g.start (g.options m) (g.made m p)).0

-- a present member was made
pub made_fresh : (g : Group) (m : ℕ) → g.present m ≡ true → (begin g).replica m ≡ fresh m g.size g.start (g.options m)
unfolding begin new_replica
made_fresh g m p =
    pick_cases (λ (z : Made). z.answer ≡ 0 → z.replica ≡ fresh m g.size g.start (g.options m)) (may_be m g.size g.start (g.options m))
    {a = record { answer = 0; replica = fresh m g.size g.start (g.options m) }}
    {b = record { answer = 10; replica = zero_replica }}
    (λ _ _. refl) (λ _ e. absurd (omega arith)) (g.made m p)

-- ── the theorem ──
no_ballots : NeverFalls (ballots [])
unfolding ballots
no_ballots = tt

pub Agreement-of : {g : Group} {w : World} → Inv g w → Agreement w
Agreement-of {g} {w} i =
    record {
      ballots_never_fall = λ m. falls m (decide (g.present m));
      one_batch = λ m m' s s' b b' e e' x x' p q.
          one_of i s b e e' (i.from m s b e x) (i.from m' s b e' (subst₂ (λ (n c : ℕ). accept_entry n c e' ∈ w.did m') (sym p) (sym q) x'));
      marks_agree = λ k k' x x' e e'.
          one_of i k.slot k.ballot k.batch k'.batch (i.from k.who k.slot k.ballot k.batch (All-in (MarkOk w.did) i.mark x))
          (i.from k'.who k.slot k.ballot k'.batch
          (subst₂ (λ (s b : ℕ). accept_entry s b k'.batch ∈ w.did k'.who) (sym e) (sym e') (All-in (MarkOk w.did) i.mark x')));
    }
  where
    falls : (m : ℕ) → (g.present m ≡ true) ⊎ (g.present m ≡ false) → NeverFalls (ballots (w.did m))
    falls m (inl p) = (i.local m p).order
    falls m (inr p) = subst (λ (h : List Act). NeverFalls (ballots h)) (sym (i.none m p)) no_ballots
