-- The rest of specs/Held.antt: what stands on a theorem that a must-fail edit makes false.
use Rattle.std.specs.Prelude.{◌≡◌, Bool, true, false, ◌&&◌, List, [], ◌∷◌, ◌⊎◌, ℕ, ◌≤◌, ◌<◌, ltb}
use Rattle.std.proofs.Math.Path.{refl, sym, ap}
use Rattle.std.proofs.Common.{subst, ◌∙◌, inl, inr, leb-true, eq-eqb, le-leb}
use Rattle.std.proofs.Math.Bool.{not}
use native.Mathlib.Omega.{arith}
use Rattle.std.proofs.lemmas.Bool.{not-true}
use Rattle.base.specs.Pick.{pick, pick_cases, same?, clash, and_both, and_make}
use Rattle.actions.specs.Actions.{Act}
use Rattle.slots.specs.declared.Vote.{Vote}
use Rattle.slots.specs.declared.Slot.{Slot}
use Rattle.slots.specs.Slots.{noted_slot, entered_slot}
use Rattle.decide.specs.declared.Scalars.{Scalars}
use Rattle.decide.specs.declared.Reply.{Reply}
use Rattle.decide.specs.Scalars.{leads, strict}
use Rattle.decide.specs.Decide.{awaits_prepare, is_stale}
use Rattle.window.specs.declared.Window.{Window}
use Rattle.window.specs.Window.{slot_at}
use Rattle.window.specs.Places.{put_long, put_here}
use Rattle.window.specs.ByPlace.{at_place, put_keeps, put_at, put_elsewhere, sweep_keeps, at_here, at_past}
use Rattle.replica.specs.declared.Replica.{Replica}
use Rattle.replica.specs.declared.Done.{Done}
use Rattle.replica.specs.declared.Entry.TheVariants.{PrepareBal, AcceptData, CommitSlot as CommitEntry}
use Rattle.replica.specs.Record.{place}
use Rattle.replica.specs.Messages.{clean_reply}
use Rattle.replica.specs.Durability.{logged_on}
use Rattle.replica.specs.Step.{Call, call_prepare_reply, call_logged, step}
use Rattle.laws.specs.OfFit.{fit_facts}
use Rattle.laws.specs.WaysReply.{grown_window, reply_window, reply_slot, heard_slot, heard_window, counted_window, Answers, Unheard, reply_place}
use Rattle.laws.specs.WaysDurability.{completion, logged, logged_at, OwnReply, other_entry}
use Rattle.laws.specs.Appended.{appended_long, appended_has, appended_most, appended_cases}
use Rattle.voting.specs.Windows.{Whole, Whole-put}
use Rattle.voting.specs.Keeping.{entered_keeps}
use Rattle.voting.specs.Claims.{Of}
use Rattle.voting.specs.Replying.{ReplyWays, map_reply, prepare_reply_way}
use Rattle.voting.specs.Logging.{own_answer, own_book, logged_way}
use Rattle.voting.specs.Reached.{Good}
use Rattle.voting.specs.Heard.{held_by, held_at, best, arrives, brings, heard, no_offer}
use Rattle.voting.specs.Held.{Arrived, HearsOwn, HearsReply, after_held, brings_none, heard_ways, held_weighed, step_holds, weigh_best}

-- the same, where the reply is awaited or not
heard_best : (t voted : Bool) (held v : Vote) → pick (t && (voted && ltb held.ballot v.ballot)) v held ≡ best held (pick (t && (true && (voted && ltb 0 v.ballot))) (v ∷ []) [])
heard_best true voted held v = weigh_best voted held v
heard_best false voted held v = refl

module _ (r : Replica) (peer : ℕ) (m : Reply) (s : ℕ) (h : Whole r.window) (n : r.window.len ≤ 64) (l : r.sc.start ≤ s) where
  wide_held : Answers r m → (i : ℕ) → held_by (at_place (reply_window r peer m) i) ≡ held_by (at_place r.window i)
  wide_held f i =
      put_keeps held_by (grown_window r m) (place r.sc m.slot) i _ refl
      ∙ appended_cases (λ (x : Slot). held_by x ≡ held_by (at_place r.window i)) r (place r.sc m.slot) (place r.sc m.trigger) i (let u = reply_place r m f in omega arith)
      (λ l. ap held_by (sym (at_past r.window i l))) refl

  -- the slot with the note: what is awaited does not look at it
  noted_here : Answers r m → reply_slot r peer m ≡ noted_slot (strict r.sc) peer (slot_at (grown_window r m) (place r.sc m.slot))
  noted_here f =
      put_here (grown_window r m) (place r.sc m.slot) _
      (let z = appended_long r (place r.sc m.slot) (place r.sc m.trigger) in let u = reply_place r m f in omega arith)

  abbrev waits : Bool
  waits = awaits_prepare (slot_at (grown_window r m) (place r.sc m.slot)) m.ballot

  arrives_here : Answers r m → m.slot ≡ s → arrives r m s ≡ waits
  arrives_here f e = rw (eq-eqb _ _ e, f.leading, eq-eqb _ _ f.sent, f.own, f.booked)

  weighed_held : Answers r m → held_by (at_place (heard_window r peer m) (place r.sc s)) ≡ best (held_at r s) (brings r m s 0)
  weighed_held f = go (same? m.slot s)
    where
      go : (m.slot ≡ s) ⊎ (m.slot ≡ s → ⊥) → held_by (at_place (heard_window r peer m) (place r.sc s)) ≡ best (held_at r s) (brings r m s 0)
      go (inr d) =
          ap held_by (put_elsewhere (reply_window r peer m) (place r.sc m.slot) _ (place r.sc s) (λ z. d (let x = f.low in let y = f.from in omega arith))) ∙ wide_held f (place r.sc s)
          ∙ sym (ap (best (held_at r s)) (brings_none r m s 0 (λ z a. d a.slot)))
      go (inl e) =
          let i : ℕ = place r.sc m.slot in
          let k = appended_has r i (place r.sc m.trigger) in
          let u = appended_most r i (place r.sc m.trigger) 64 n (reply_place r m f) in
          let there : held_by (reply_slot r peer m) ≡ held_at r s = ap held_by (sym (at_here (reply_window r peer m) i k)) ∙ wide_held f i ∙ ap (λ (x : ℕ). held_at r x) e in
          ap (λ (x : ℕ). held_by (at_place (heard_window r peer m) (place r.sc x))) (sym e)
          ∙ ap held_by (put_at (reply_window r peer m) i (heard_slot (reply_slot r peer m) m) k (let z = put_long (grown_window r m) i (noted_slot (strict r.sc) peer (slot_at (grown_window r m) i)) in let y = appended_long r i (place r.sc m.trigger) in omega arith))
          ∙ held_weighed m (reply_slot r peer m)
          ∙ ap (λ (x : Vote). pick (awaits_prepare (reply_slot r peer m) m.ballot && (m.voted && ltb x.ballot m.vote.ballot)) m.vote x) there
          ∙ ap (λ (x : Slot). pick (awaits_prepare x m.ballot && (m.voted && ltb (held_at r s).ballot m.vote.ballot)) m.vote (held_at r s)) (noted_here f)
          ∙ heard_best waits m.voted (held_at r s) m.vote
          ∙ ap (λ (t : Bool). best (held_at r s) (pick (t && (true && (m.voted && ltb 0 m.vote.ballot))) (m.vote ∷ []) [])) (sym (arrives_here f e))

  counted_held : Answers r m → held_by (at_place (counted_window r peer m) (place r.sc s)) ≡ best (held_at r s) (brings r m s 0)
  counted_held f = put_keeps held_by (heard_window r peer m) (place r.sc m.trigger) (place r.sc s) _ refl ∙ weighed_held f

  reply_hears : ReplyWays (HearsReply r m s) r peer m
  reply_hears =
      record {
        passed = λ f t.
            wide_held f (place r.sc s)
            ∙ sym (ap (best (held_at r s)) (brings_none r m s 0 (λ z a. clash (subst (λ (x : Slot). awaits_prepare x m.ballot ≡ true) (sym (noted_here f)) a.waits) t)));
        heard = λ f w. weighed_held f;
        counted = λ f w. counted_held f;
        entered = λ f w q.
            sweep_keeps held_by (λ k x. entered_slot (strict r.sc) m.ballot x) (λ k x. entered_keeps held_by (λ s n. refl) (strict r.sc) m.ballot (λ s. refl) x) (place r.sc m.trigger) (counted_window r peer m).len (counted_window r peer m) (place r.sc s) ∙ counted_held f;
      }

-- ── a reply that arrives ──
step_hears : (r : Replica) (room peer : ℕ) (m : Reply) (s : ℕ) → Good r.sc r.window → r.sc.start ≤ s → Of (HearsReply r (clean_reply m) s) (step r room (call_prepare_reply peer m))
unfolding Of
step_hears r room peer m s g l =
    prepare_reply_way (HearsReply r (clean_reply m) s) r room peer m (λ a _ u. sym (ap (best (held_at r s)) (brings_none r (clean_reply m) s a (λ z x. deaf x (u z)))))
    (λ f. reply_hears r peer (clean_reply m) s g.whole (fit_facts r f.fits).numbers.window l)
  where
    deaf : Arrived r (clean_reply m) s → (m.slot < r.sc.start) ⊎ Unheard r (clean_reply m) → ⊥
    deaf x (inl u) = let z = x.slot in omega arith
    deaf x (inr (inl u)) = u x.sent
    deaf x (inr (inr (inl u))) = clash x.booked u
    deaf x (inr (inr (inr u))) = clash u x.own

module _ (r : Replica) (room slot bal size s : ℕ) (g : Good r.sc r.window) (l : r.sc.start ≤ s) where
  abbrev mine : Done
  mine = completion PrepareBal slot bal size

  none_own : (a : ℕ) → (own_book r mine ≡ true → a ≡ 0 → Arrived (logged r mine) (own_answer r mine) s → ⊥) → pick (own_book r mine) (brings (logged r mine) (own_answer r mine) s a) [] ≡ []
  none_own a n = pick_cases (λ (x : List Vote). x ≡ []) (own_book r mine) (λ t. brings_none (logged r mine) (own_answer r mine) s a (n t)) (λ t. refl)

  own_turn : own_book r mine ≡ true → (a : ℕ) (sc : Scalars) (w : Window) (acts : List Act) → HearsReply (logged r mine) (own_answer r mine) s a sc w acts → HearsOwn r slot bal size s a sc w acts
  unfolding logged_on
  own_turn u a sc w acts h =
      h ∙ ap (λ (v : Vote). best v (brings (logged r mine) (own_answer r mine) s a)) (after_held r mine (place r.sc s))
      ∙ ap (λ (t : Bool). best (held_at r s) (pick t (brings (logged r mine) (own_answer r mine) s a) [])) (sym u)

  after_whole : Whole (logged r mine).window
  unfolding logged_on
  after_whole = Whole-put r.window (place r.sc slot) _ g.whole

  step_own : leads r.sc ≡ true → Of (HearsOwn r slot bal size s) (step r room (call_logged mine))
  unfolding Of logged_on
  step_own q =
      logged_way (HearsOwn r slot bal size s) r mine room (λ a _ u. sym (ap (best (held_at r s)) (none_own a (λ t z x. below (u z) x))))
      (λ f. record {
        only = λ u. after_held r mine (place r.sc s) ∙ sym (ap (best (held_at r s)) (none_own 0 (λ t z x. deaf x (u refl (own t)))));
        own = λ e o.
            map_reply (HearsReply (logged r mine) (own_answer r mine) s) (HearsOwn r slot bal size s) (logged r mine) r.sc.id (own_answer r mine)
            (own_turn (and_make (ap not o.heeds) (and_make o.booked (le-leb _ _ o.within))))
            (reply_hears (logged r mine) r.sc.id (own_answer r mine) s after_whole (fit_facts r f.fits).numbers.window l);
        promised = λ e _ n. absurd (clash q n);
        acked = other_entry PrepareBal AcceptData refl;
        commits = other_entry PrepareBal AcceptData refl;
        answered = other_entry PrepareBal AcceptData refl;
        passes = other_entry PrepareBal CommitEntry refl;
      })
    where
      below : slot < r.sc.start → Arrived (logged r mine) (own_answer r mine) s → ⊥
      below u x = let z = x.slot in omega arith

      deaf : Arrived (logged r mine) (own_answer r mine) s → Unheard (logged r mine) (own_answer r mine) → ⊥
      deaf x (inl u) = u x.sent
      deaf x (inr (inl u)) = clash x.booked u
      deaf x (inr (inr u)) = clash u x.own

      own : own_book r mine ≡ true → OwnReply (logged r mine) (logged_at r mine) slot bal
      own t =
          let h = and_both (not (is_stale (logged r mine).sc (logged_at r mine) bal false)) _ t in
          let b = and_both (logged_at r mine).leader.present _ h.1 in
          record { heeds = not-true (is_stale (logged r mine).sc (logged_at r mine) bal false) h.0; leading = q; booked = b.0; within = leb-true _ _ b.1 }

pub held_call : (r : Replica) (room : ℕ) (c : Call) (s : ℕ) → Good r.sc r.window → r.sc.start ≤ s → leads r.sc ≡ true
    → leads (step r room c).replica.sc ≡ true → (step r room c).replica.sc.bal_prep_sent ≡ r.sc.bal_prep_sent
    → (place r.sc s < r.window.len) ⊎ (no_offer c ≡ true)
    → held_by (at_place (step r room c).replica.window (place r.sc s)) ≡ best (held_at r s) (heard r (record { room = room; call = c }) s)
unfolding Of
held_call r room c s g st l =
    heard_ways r room s
    (λ k v. leads (step r room k).replica.sc ≡ true → (step r room k).replica.sc.bal_prep_sent ≡ r.sc.bal_prep_sent → (place r.sc s < r.window.len) ⊎ (no_offer k ≡ true)
    → held_by (at_place (step r room k).replica.window (place r.sc s)) ≡ best (held_at r s) v)
    (λ peer m x y h. step_hears r room peer m s g st) (λ slot bal size x y h. step_own r room slot bal size s g st l) (λ k n x y h. step_holds r room k s g l st h n x y) c
