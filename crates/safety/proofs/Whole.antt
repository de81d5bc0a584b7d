-- The rest of specs/Proof.antt: what stands on a theorem that a must-fail edit makes false.
use Rattle.std.specs.Prelude.{◌≡◌, true, List, [], ◌++◌, ℕ, ◌≤◌, ◌<◌, ltb, leb}
use Rattle.std.proofs.Math.Path.{refl}
use Rattle.std.proofs.Common.{sym, ap, subst, ◌∙◌, inl, arith, ltb-true, leb-true}
use mathlib.Core.List.Memᴰ
use Rattle.std.proofs.lemmas.Bool.{not-true}
use Rattle.base.specs.Pick.{pick_cases, clash, and_both}
use Rattle.base.specs.Gather.{All-gather}
use Rattle.base.specs.Among.{◌∈◌, All, All-in, All-append, All-map}
use Rattle.batch.specs.declared.Batch.{Batch}
use Rattle.batch.specs.Batches.{key_list}
use Rattle.batch.specs.Laws.{is_same}
use Rattle.actions.specs.Actions.{Act}
use Rattle.slots.specs.declared.Slot.{Slot}
use Rattle.slots.specs.Slots.{null_slot, committed}
use Rattle.decide.specs.Scalars.{strict}
use Rattle.decide.specs.Decide.{names_other}
use Rattle.window.specs.Window.{no_slots}
use Rattle.window.specs.ByPlace.{at_past}
use Rattle.replica.specs.declared.Replica.{Replica}
use Rattle.replica.specs.declared.Done.{Done}
use Rattle.replica.specs.Record.{Outcome, log_end}
use Rattle.replica.specs.Messages.{clean}
use Rattle.replica.specs.Step.{Call, step}
use Rattle.laws.proofs.Theorems.{refusals_keep, refusals_silent}
use Rattle.laws.specs.Fifteen.{Other, fifteen_why}
use Rattle.agreement.specs.Theorem.{Group, Mark, World, slot_of, rises, mark_at, marks_of, upd, put, begin}
use Rattle.safety.specs.ForGood.{Happens, real, turned_away, Comes, starts, goes, OneSlotOneBatch}
use Rattle.agreement.specs.Local.{accept_sent}
use Rattle.agreement.specs.Group.{each as Each-member, Inv-start, made_fresh}
use Rattle.safety.specs.Sight.{sight_of, Able}
use Rattle.safety.specs.Able.{Able-step, Able-new, Fine-of, every_slot}
use Rattle.safety.specs.Frames.{keeps_to}
use Rattle.safety.specs.Scene.{Scene, Fixed, Brought, completions}
use Rattle.safety.specs.Alone.{Alone}
use Rattle.safety.specs.Rows.{Sound}
use Rattle.safety.specs.Growth.{Fixed-ext}
use Rattle.safety.specs.Moves.{Move, next, ext}
use Rattle.safety.specs.Learning.{done_step}
use Rattle.safety.specs.Steps.{Sound-step}
use Rattle.safety.specs.Proof.{Fixed-same, Happens-Brought, accept_same, after_scene, group_few, marks_few, other_slot, same_scene, scene_of}

-- ── the start ──
module _ (g : Group) (kind : g.strict ≡ true) where
  start_able : (m : ℕ) → g.present m ≡ true → Able ((begin g).replica m)
  unfolding begin
  start_able m p = Able-new m g.size g.start (g.options m) (g.made m p) (g.alike m p ∙ kind)

  pub Able-in : (w : World) → Comes g w → (m : ℕ) → g.present m ≡ true → Able (w.replica m)
  Able-in w starts = start_able
  Able-in w (goes {w = u} r m p room c e) = λ j.
      Each-member u m (step (u.replica m) room c) (λ j q h. g.present j ≡ true → Able q) j (λ _. Able-in u r j) (λ _. Able-step (u.replica m) room c (Able-in u r m p))

  -- a new member's slots are null
  start_null : (m : ℕ) → g.present m ≡ true → (s : ℕ) → slot_of ((begin g).replica m) s ≡ null_slot
  start_null m p =
      subst (λ (r : Replica). (s : ℕ) → slot_of r s ≡ null_slot) (sym (made_fresh g m p)) (every_slot (λ (x : Slot). x ≡ null_slot) g.start no_slots refl (λ i. at_past no_slots i (omega arith)))

  start_bar : (m : ℕ) → g.present m ≡ true → ((begin g).replica m).sc.commit_bar ≡ ((begin g).replica m).sc.start
  start_bar m p = subst (λ (r : Replica). r.sc.commit_bar ≡ r.sc.start) (sym (made_fresh g m p)) refl

  none : (m : ℕ) {a : Act} → a ∈ (begin g).did m → ⊥
  unfolding begin
  none m x = Memᴰ.not-nil x

  nothing_yet : (m : ℕ) → (begin g).did m ≡ []
  unfolding begin
  nothing_yet m = refl

  -- nobody leads: its ballot would be 0, which nobody owns
  unled : (m : ℕ) (p : g.present m ≡ true) → (sight_of ((begin g).replica m)).leading ≡ true → ⊥
  unled m p z =
      let e : ((begin g).replica m).sc.bal_max_seen ≡ 0 = subst (λ (r : Replica). r.sc.bal_max_seen ≡ 0) (sym (made_fresh g m p)) refl in
      let o = (Fine-of ((begin g).replica m) (start_able m p)).own z in
      omega arith

  start_alone : (m : ℕ) → g.present m ≡ true → Alone m (sight_of ((begin g).replica m)) ((begin g).did m) ((begin g).did m) []
  start_alone m p =
      record {
        local = (Inv-start g).local m p;
        fine = Fine-of ((begin g).replica m) (start_able m p);
        vowed = λ n (d, i, _, _). absurd (Memᴰ.not-nil i);
        tidy = λ s x i. absurd (none m i);
        top = λ s x i. absurd (none m i);
        mine = λ s. inl (ap (λ (x : Slot). x.vote.ballot) (start_null m p s));
        low = λ s. omega (arith, ap (λ (x : Slot). x.vote.ballot) (start_null m p s));
        used = λ s x i. absurd (none m i);
        under = λ s b i. absurd (none m i);
        clear = λ s d i. absurd (none m i);
        begun = λ z. absurd (unled m p z);
        ends = λ z. absurd (unled m p z);
        barred = λ s a b. absurd (omega (arith, start_bar m p));
        behind = λ a keys i. absurd (none m i);
      }

  start_sound : Sound g.size g.present (scene_of (begin g) (λ m. []))
  start_sound =
      record {
        alone = start_alone;
        sized = λ m p. subst (λ (r : Replica). r.sc.group ≡ g.size) (sym (made_fresh g m p)) refl;
        nothing = λ m _. (nothing_yet m, nothing_yet m);
        from = λ m s x i. absurd (none m i);
        told = λ m a keys i. absurd (none m i);
        took = λ m a keys i. absurd (none m i);
        lead = λ m p z. absurd (unled m p z);
        acked = λ m p z. absurd (unled m p z);
        obeys = λ s x (p, _, i). absurd (none p i);
        notice = λ m a keys i. absurd (none m i);
        executed = λ m o keys i. absurd (none m i);
        done = λ m p s l. absurd (omega (arith, ap (λ (x : Slot). x.status) (start_null m p s)));
      }

  -- ── every world ──
  abbrev pub MarkFixed : Scene → Mark → Type 0
  MarkFixed s k = Fixed g.size s k.slot k.ballot k.batch

  pub record SoundIn (w : World) (reported : ℕ → List Done) : Type 0 where
    pub sound : Sound g.size g.present (scene_of w reported)
    pub marks : All (MarkFixed (scene_of w reported)) w.marks

  no_marks : All (MarkFixed (scene_of (begin g) (λ m. []))) (begin g).marks
  unfolding begin
  no_marks = tt

  put_marks : (w : World) (m : ℕ) (o : Outcome) → (put w m o).marks ≡ w.marks ++ marks_of m (w.replica m) o.replica
  unfolding put
  put_marks w m o = refl

  -- a mark that a call makes is of a slot that is committed after it, and was not before
  new_marks : (P : Mark → Type 0) (m : ℕ) (r r' : Replica)
      → ((s : ℕ) → (slot_of r s).status < 3 → 3 ≤ (slot_of r' s).status → P (record { who = m; slot = s; ballot = (slot_of r' s).ballot; batch = (slot_of r' s).batch })) → All P (marks_of m r r')
  unfolding marks_of
  new_marks P m r r' f =
      All-gather (mark_at m r r') P r'.sc.start (log_end r')
      (λ s _ _. pick_cases (All P) (rises (slot_of r s) (slot_of r' s))
      (λ e. (let (a, b) = and_both (ltb (slot_of r s).status committed) (leb committed (slot_of r' s).status) e in f s (ltb-true _ _ a) (leb-true _ _ b), tt)) (λ _. tt))

  turn_real : (w : World) (reported : ℕ → List Done) → SoundIn w reported → (m : ℕ) → g.present m ≡ true → (room : ℕ) (c : Call) → Able (w.replica m) → Happens w m c
      → SoundIn (put w m (step (w.replica m) room c)) (upd reported m (reported m ++ completions c))
  turn_real w reported i m p room c a h =
      let path = after_scene w reported m o c in
      record {
        sound = subst (Sound g.size g.present) path (Sound-step move);
        marks = subst (All (MarkFixed (scene_of (put w m o) (upd reported m (reported m ++ completions c))))) (sym (put_marks w m o))
            (subst (λ (s : Scene). All (MarkFixed s) (w.marks ++ marks_of m (w.replica m) o.replica)) path
            (All-append (MarkFixed (next move)) w.marks (marks_of m (w.replica m) o.replica)
            (All-map (MarkFixed (scene_of w reported)) (MarkFixed (next move)) (λ k f. Fixed-ext (ext move) g.size k.slot _ _ _ (omega arith) f) w.marks i.marks)
            (new_marks (MarkFixed (next move)) m (w.replica m) o.replica (λ s _ l. done_step move s l))));
      }
    where
      o : Outcome
      o = step (w.replica m) room c

      move : Move g.size g.present (scene_of w reported)
      move =
          record {
            sound = i.sound;
            who = m;
            is = p;
            call = c;
            answer = o.answer;
            after = sight_of o.replica;
            acts = o.actions;
            frame = keeps_to (w.replica m) room c a;
            brought = Happens-Brought w reported m c h;
          }

  turn_refused : (w : World) (reported : ℕ → List Done) → SoundIn w reported → (m : ℕ) (o : Outcome) → o.replica ≡ w.replica m → o.actions ≡ [] → SoundIn (put w m o) reported
  turn_refused w reported i m o e a =
      let path = same_scene w reported m o e a in
      record {
        sound = subst (Sound g.size g.present) path i.sound;
        marks = subst (All (MarkFixed (scene_of (put w m o) reported))) (sym (put_marks w m o))
            (subst (λ (s : Scene). All (MarkFixed s) (w.marks ++ marks_of m (w.replica m) o.replica)) path
            (All-append (MarkFixed (scene_of w reported)) w.marks (marks_of m (w.replica m) o.replica) i.marks
            (new_marks (MarkFixed (scene_of w reported)) m (w.replica m) o.replica (λ s l u. absurd (omega (arith, ap (λ (r : Replica). (slot_of r s).status) e))))));
      }

  pub sound_in : (w : World) → Comes g w → (reported : ℕ → List Done) × SoundIn w reported
  sound_in w starts = (λ m. [], record { sound = start_sound; marks = no_marks })
  sound_in w (goes {w = u} r m p room c (real h)) =
      let (reported, i) = sound_in u r in (upd reported m (reported m ++ completions c), turn_real u reported i m p room c (Able-in u r m p) h)
  sound_in w (goes {w = u} r m p room c (turned_away n k)) =
      let (reported, i) = sound_in u r in
      (reported, turn_refused u reported i m (step (u.replica m) room c) (refusals_keep (u.replica m) room c n k) (refusals_silent (u.replica m) room c n))

module _ (g : Group) (kind : g.strict ≡ true) (w : World) (r : Comes g w) where
  one_batch_in : (few : g.size ≤ 9) (k k' : Mark) → k ∈ w.marks → k' ∈ w.marks → k.slot ≡ k'.slot → k.batch ≡ k'.batch
  one_batch_in few k k' x x' e =
      let (reported, i) = sound_in g kind w r in
      let f = All-in (MarkFixed g kind (scene_of w reported)) i.marks x in
      let f' = All-in (MarkFixed g kind (scene_of w reported)) i.marks x' in
      Fixed-same g.size few g.present (scene_of w reported) i.sound k.slot k.ballot k'.ballot k.batch k'.batch f
      (subst (λ (s : ℕ). Fixed g.size (scene_of w reported) s k'.ballot k'.batch) (sym e) f')

  never_15_in : (m : ℕ) → g.present m ≡ true → (room : ℕ) (c : Call) → Happens w m c → (step (w.replica m) room c).answer ≡ 15 → ⊥
  never_15_in m p room c h e = go (fifteen_why (w.replica m) room c e)
    where
      go : Other (w.replica m) c → ⊥
      go o =
          let (reported, i) = sound_in g kind w r in
          let a = Able-in g kind w r m p in
          let sent : accept_sent o.slot o.ballot o.batch ∈ w.did o.peer = subst (Brought (scene_of w reported) m) o.call (Happens-Brought w reported m c h) in
          let named = subst (λ (x : Slot). names_other (w.replica m).sc x (clean o.batch) ≡ true) (other_slot (w.replica m) o.slot a o.low o.high) o.named in
          let (_, z) = and_both (strict (w.replica m).sc) _ named in
          let (u, v) = and_both (leb committed (slot_of (w.replica m) o.slot).status) _ z in
          let same =
          accept_same g.size (group_few g m p) g.present (scene_of w reported) i.sound m p o.peer o.slot o.ballot o.batch sent (leb-true _ _ u)
          (let b = (Fine-of (w.replica m) a).low o.slot in let q = o.seen in omega arith) in
          clash (is_same (slot_of (w.replica m) o.slot).batch (clean o.batch) (ap (λ (x : Batch). x.id) (sym same)) (ap key_list (sym same))) (not-true _ v)

-- THE THEOREM
pub for_good : OneSlotOneBatch
for_good g kind w r = record { one_batch = λ k k' x. one_batch_in g kind w r (marks_few g w r k x) k k' x; never_15 = never_15_in g kind w r }
