-- THE PROOF of 02, Wish 7 (ForGood): every world that a group of strict members comes to is a sound scene, with whatever completions were
-- reported; so each mark is of a batch that was chosen, and the paper's argument gives the rest. It ends in proofs/Whole.
use Rattle.std.specs.Prelude.{◌≡◌, Bool, true, List, [], ◌++◌, ◌⊎◌, ℕ, ◌+◌, ◌≤◌, ◌<◌}
use Rattle.std.proofs.Math.Path.{fun_ext}
use Rattle.std.proofs.Common.{sym, ap, subst, ◌∙◌, append-nil, inl, inr, arith}
use mathlib.Core.List.Memᴰ
use Rattle.base.specs.Pick.{pick_cases, same?, and_both}
use Rattle.base.specs.Among.{◌∈◌}
use Rattle.members.specs.Groups.{group_size}
use Rattle.members.specs.Laws.{group_bounds}
use Rattle.batch.specs.declared.Batch.{Batch}
use Rattle.actions.specs.Actions.{Act}
use Rattle.slots.specs.Slots.{null_slot}
use Rattle.decide.specs.Scalars.{may_be}
use Rattle.window.specs.Window.{slot_at}
use Rattle.window.specs.Places.{filled_has}
use Rattle.window.specs.ByPlace.{at_here, grown_at}
use Rattle.replica.specs.declared.Replica.{Replica}
use Rattle.replica.specs.declared.Done.{Done}
use Rattle.replica.specs.Seen.{Made}
use Rattle.replica.specs.Record.{Outcome, new_replica, fresh, zero_replica, place}
use Rattle.replica.specs.Messages.{clean}
use Rattle.replica.specs.Step.{Call}
use Rattle.laws.specs.WaysMessages.{accept_window}
use Rattle.voting.specs.Core.{Lawful}
use Rattle.voting.proofs.Core.{Chosen-fixes, Chosen-agree}
use Rattle.agreement.specs.BySlot.{numbered_place}
use Rattle.agreement.specs.Theorem.{Group, Mark, World, slot_of, upd, put, begin}
use Rattle.safety.specs.ForGood.{Happens, timer_fires, batch_comes, entry_done, batch_executed, read_opened, read_replied, message_comes, Comes, starts, goes}
use Rattle.agreement.specs.Local.{accept_sent}
use Rattle.agreement.specs.Group.{upd_same, upd_other}
use Rattle.safety.specs.Sight.{sight_of, Able}
use Rattle.safety.specs.Scene.{Scene, HasPromised, Cast, Voted, Lasts, Issued, Fixed, Brought, received-Brought, completions, acted}
use Rattle.safety.specs.Lawfully.{member, lawful}
use Rattle.safety.specs.Rows.{Sound}

-- ── a world as a scene: all that a member did stands in its log ──
abbrev pub scene_of : World → (ℕ → List Done) → Scene
scene_of w reported = record { sight = λ m. sight_of (w.replica m); did = w.did; log = w.did; reported = reported }

upd_image : {A B : Type 0} (h : A → B) (f : ℕ → A) (k : ℕ) (a : A) → upd (λ j. h (f j)) k (h a) ≡ (λ j. h (upd f k a j))
upd_image {A} {B} h f k a = fun_ext (λ j. go j (same? j k))
  where
    go : (j : ℕ) → (j ≡ k) ⊎ (j ≡ k → ⊥) → upd (λ j. h (f j)) k (h a) j ≡ h (upd f k a j)
    go j (inl e) =
        subst (λ (n : ℕ). upd (λ j. h (f j)) k (h a) n ≡ h (upd f k a n)) (sym e) (upd_same (λ j. h (f j)) k (h a) ∙ sym (ap h (upd_same f k a)))
    go j (inr d) = upd_other (λ j. h (f j)) k (h a) j d ∙ sym (ap h (upd_other f k a j d))

upd_self : {A : Type 0} (f : ℕ → A) (k : ℕ) (a : A) → a ≡ f k → upd f k a ≡ f
upd_self {A} f k a e = fun_ext (λ j. go j (same? j k))
  where
    go : (j : ℕ) → (j ≡ k) ⊎ (j ≡ k → ⊥) → upd f k a j ≡ f j
    go j (inl z) = subst (λ (n : ℕ). upd f k a n ≡ f n) (sym z) (upd_same f k a ∙ e)
    go j (inr d) = upd_other f k a j d

-- after a call
pub after_scene : (w : World) (reported : ℕ → List Done) (m : ℕ) (o : Outcome) (c : Call)
    → acted (scene_of w reported) m (sight_of o.replica) o.actions (completions c) ≡ scene_of (put w m o) (upd reported m (reported m ++ completions c))
unfolding acted put
after_scene w reported m o c = λ i.
    record {
      sight = upd_image sight_of w.replica m o.replica i;
      did = upd w.did m (w.did m ++ o.actions);
      log = upd w.did m (w.did m ++ o.actions);
      reported = upd reported m (reported m ++ completions c);
    }

-- after a call that is refused: nothing changed
pub same_scene : (w : World) (reported : ℕ → List Done) (m : ℕ) (o : Outcome) → o.replica ≡ w.replica m → o.actions ≡ [] → scene_of w reported ≡ scene_of (put w m o) reported
unfolding put
same_scene w reported m o e a = λ i.
    record {
      sight = λ j. sight_of (sym (upd_self w.replica m o.replica e) i j);
      did = sym (upd_self w.did m (w.did m ++ o.actions) (ap (λ (l : List Act). w.did m ++ l) a ∙ append-nil (w.did m))) i;
      log = sym (upd_self w.did m (w.did m ++ o.actions) (ap (λ (l : List Act). w.did m ++ l) a ∙ append-nil (w.did m))) i;
      reported = reported;
    }

-- what happens may be brought
pub Happens-Brought : (w : World) (reported : ℕ → List Done) (m : ℕ) (c : Call) → Happens w m c → Brought (scene_of w reported) m c
Happens-Brought w reported m _ (timer_fires source) = tt
Happens-Brought w reported m _ (batch_comes b) = tt
Happens-Brought w reported m _ (entry_done d e) = e
Happens-Brought w reported m _ (batch_executed slot) = tt
Happens-Brought w reported m _ (read_opened id count keys) = tt
Happens-Brought w reported m _ (read_replied peer id from_leader reply) = tt
Happens-Brought w reported m _ (message_comes from a c h i) = received-Brought (scene_of w reported) m from a.what a.keys c h i

-- ── what follows in a sound scene ──
module _ (size : ℕ) (few : size ≤ 9) (present : ℕ → Bool) (s : Scene) (i : Sound size present s) where
  law : (k : ℕ) → Lawful size (HasPromised s) (Lasts s k) (Voted s k) (Cast s k) (Issued s k)
  law k = lawful present s i.alone i.nothing i.from size k (i.obeys k)

  -- "Only a single value is chosen"
  pub Fixed-same : (k b b' : ℕ) (e e' : Batch) → Fixed size s k b e → Fixed size s k b' e' → e ≡ e'
  Fixed-same k b b' e e' (x, _, q, c) (x', _, q', c') =
      sym q ∙ Chosen-agree size few (HasPromised s) (Lasts s k) (Voted s k) (Cast s k) (Issued s k) (law k) x x' c c' ∙ q'

  -- an Accept that was sent for a slot that a member has committed, at no smaller ballot, names its batch
  pub accept_same : (m : ℕ) → present m ≡ true → (p k b : ℕ) (e : Batch) → accept_sent k b e ∈ s.did p → 3 ≤ ((s.sight m).slot k).status → ((s.sight m).slot k).ballot ≤ b
      → clean e ≡ ((s.sight m).slot k).batch
  accept_same m l p k b e h u v =
      let (o, y, tidy) = (i.alone p (member present s i.alone i.nothing p h)).local.said k b e h in
      let (x, w, q, c) = i.done m l k u in
      tidy ∙ Chosen-fixes size few (HasPromised s) (Lasts s k) (Voted s k) (Cast s k) (Issued s k) (law k) x c (record { ballot = b; batch = e }) (p, o, y) (omega arith) ∙ q

-- ── the theorem ──
pub group_few : (g : Group) (m : ℕ) → g.present m ≡ true → g.size ≤ 9
unfolding new_replica
group_few g m p =
    pick_cases (λ (z : Made). z.answer ≡ 0 → g.size ≤ 9) (may_be m g.size g.start (g.options m))
    {a = record { answer = 0; replica = fresh m g.size g.start (g.options m) }}
    {b = record { answer = 10; replica = zero_replica }}
    (λ t e. (group_bounds g.size (and_both (group_size g.size) _ t).0).1) (λ t e. absurd (omega arith)) (g.made m p)

-- the slot that an Accept is for, where it is answered 15
pub other_slot : (r : Replica) (slot : ℕ) → Able r → r.sc.start ≤ slot → slot < r.sc.start + 64 → slot_at (accept_window r slot) (place r.sc slot) ≡ slot_of r slot
other_slot r slot a l u =
    let i : ℕ = place r.sc slot in
    let has = filled_has null_slot r.window (i + 1) in
    sym (at_here (accept_window r slot) i (omega arith)) ∙ grown_at r.window (i + 1) i (omega (arith, a.good.wide)) ∙ sym (numbered_place r.sc.start r.window slot l)

-- a world with marks has a member
pub marks_few : (g : Group) (w : World) → Comes g w → (k : Mark) → k ∈ w.marks → g.size ≤ 9
unfolding begin
marks_few g w starts k x = absurd (Memᴰ.not-nil x)
marks_few g w (goes r m p room c e) k x = group_few g m p
