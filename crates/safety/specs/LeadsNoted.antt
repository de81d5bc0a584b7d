-- Of `Leads`, 02, Wish 6, (c): what a PrepareReply that a strict leader hears, also its own, notes at the Preparing slots (`Noted`), place by place.
use Rattle.std.specs.Prelude.{◌≡◌, refl, Bool, true, false, ◌&&◌, ◌⊎◌, ℕ, ◌≤◌, ◌<◌, ltb}
use Rattle.std.proofs.Common.{sym, ap, subst, ◌∙◌, inl, inr, arith, ltb-true, ltb-false, le-leb, eq-eqb}
use Rattle.base.specs.Pick.{pick, decide, and_make}
use Rattle.members.specs.Sets.{has, insert}
use Rattle.batch.specs.declared.Batch.{Batch}
use Rattle.slots.specs.declared.Vote.{Vote}
use Rattle.slots.specs.declared.LeaderBook.{LeaderBook}
use Rattle.slots.specs.declared.Slot.{Slot}
use Rattle.slots.specs.Slots.{null_slot, no_vote, adopted_slot, noted_slot, counted_slot}
use Rattle.decide.specs.declared.Reply.{Reply}
use Rattle.decide.specs.Scalars.{leads, strict}
use Rattle.decide.specs.Decide.{awaits_prepare}
use Rattle.window.specs.declared.Window.{Window}
use Rattle.window.specs.Places.{size, put_here}
use Rattle.window.specs.ByPlace.{at_place, at_here, at_past, put_cases, put_keeps, put_elsewhere}
use Rattle.replica.specs.declared.Replica.{Replica}
use Rattle.replica.specs.Record.{place, number}
use Rattle.replica.specs.Messages.{appended_as}
use Rattle.replica.specs.Step.{Call}
use Rattle.laws.specs.WaysReply.{heard_slot, grown_window, reply_window, reply_slot, heard_window, trigger_slot, counted_window, Answers, reply_place}
use Rattle.laws.specs.Counts.{noted_long}
use Rattle.laws.specs.Appended.{appended_cases, appended_has, appended_long}
use Rattle.voting.specs.Windows.{Whole}
use Rattle.voting.specs.Keeping.{heard_keeps}
use Rattle.voting.specs.Backing.{insert_or}
use Rattle.voting.specs.Covered.{insert_keeps}
use Rattle.safety.specs.Sight.{Sight, notes, highest, Replied, Noted, still, heard}
use Rattle.safety.specs.LeadsRest.{sight_at}

-- ── one slot ──
-- the vote that a reply tells
abbrev pub vote_in : Reply → Vote
vote_in m = pick m.voted m.vote no_vote

-- x before the vote and y after it: it is larger and is taken, or it is not
abbrev pub Takes : Vote → Slot → Slot → Type 0
Takes vote x y = ((highest x < vote.ballot) × (highest y ≡ vote.ballot) × (y.batch ≡ vote.batch)) ⊎ ((vote.ballot ≤ highest x) × (highest y ≡ highest x) × (y.batch ≡ x.batch))

heard_takes : (s : Slot) (m : Reply) → awaits_prepare s m.ballot ≡ true → Takes (vote_in m) s (heard_slot s m)
heard_takes s m a = rw a (go m.voted (decide (ltb (highest s) m.vote.ballot)))
  where
    go : (t : Bool) → (ltb (highest s) m.vote.ballot ≡ true) ⊎ (ltb (highest s) m.vote.ballot ≡ false)
        → Takes (pick t m.vote no_vote) s (pick (t && ltb (highest s) m.vote.ballot) (adopted_slot m.vote s) s)
    go true (inl e) = rw e (inl (ltb-true (highest s) m.vote.ballot e, refl, refl))
    go true (inr e) = rw e (inr (ltb-false (highest s) m.vote.ballot e, refl, refl))
    go false e = inr (omega arith, refl, refl)

-- the parts of a slot that `Noted` and the lead look at, but for who is counted
pub record Kept : Type 0 where
  pub status : ℕ
  pub who : ℕ
  pub top : ℕ
  pub batch : Batch
  pub end : ℕ

abbrev pub kept_of : Slot → Kept
kept_of x = record { status = x.status; who = notes x; top = highest x; batch = x.batch; end = x.leader.endprep }

-- and with whoever is counted
pub record Face : Type 0 where
  pub status : ℕ
  pub batch : Batch
  pub leader : LeaderBook

abbrev pub face_of : Slot → Face
face_of x = record { status = x.status; batch = x.batch; leader = x.leader }

Noted-kept : {v : Sight} {c : Call} {k : ℕ} (x y z : Slot) → kept_of z ≡ kept_of y → Noted v c k x y → Noted v c k x z
Noted-kept x y z e (still a b d) = still (ap (λ (t : Kept). t.who) e ∙ a) (ap (λ (t : Kept). t.top) e ∙ b) (ap (λ (t : Kept). t.batch) e ∙ d)
Noted-kept x y z e (heard p end vote by new old takes) =
    heard p end vote by (λ q h. new q (subst (λ (t : Kept). has t.who q ≡ true) e h)) (λ q h. subst (λ (t : Kept). has t.who q ≡ true) (sym e) (old q h)) (go takes)
  where
    go : Takes vote x y → Takes vote x z
    go (inl (a, b, d)) = inl (a, ap (λ (t : Kept). t.top) e ∙ b, ap (λ (t : Kept). t.batch) e ∙ d)
    go (inr (a, b, d)) = inr (a, ap (λ (t : Kept). t.top) e ∙ b, ap (λ (t : Kept). t.batch) e ∙ d)

-- ── the reply m of `peer` at r; w is the log before the call, which may differ from r's in the offsets of its slots ──
module _ (r : Replica) (w : Window) (bar : ℕ) (c : Call) (peer : ℕ) (m : Reply) where
  abbrev pub seen_before : Sight
  seen_before = sight_at r.sc w bar

  -- slot k, x before the call and y with the slots appended that the reply asks for
  record Grown (k : ℕ) (x y : Slot) : Type 0 where
    pub was : y.status ≡ 1 → (x.status ≡ 1) ⊎ (seen_before.stop ≤ k)
    pub low : y.status ≡ 1 → y.ballot ≤ m.ballot
    pub who : notes y ≡ notes x
    pub top : highest y ≡ highest x
    pub batch : y.batch ≡ x.batch
    pub end : (y.leader.endprep ≡ x.leader.endprep) ⊎ (seen_before.stop ≤ k)

  -- and as the reply was heard
  pub record Mid (k : ℕ) (x y : Slot) : Type 0 where
    pub was : y.status ≡ 1 → (x.status ≡ 1) ⊎ (seen_before.stop ≤ k)
    pub noted : y.status ≡ 1 → Noted seen_before c k x y
    pub end : (y.leader.endprep ≡ x.leader.endprep) ⊎ (seen_before.stop ≤ k)

  pub Mid-null : (k : ℕ) → Mid k null_slot null_slot
  Mid-null k = record { was = λ z. inl z; noted = λ z. still refl refl refl; end = inl refl }

  Mid-kept : {k : ℕ} (x y z : Slot) → kept_of z ≡ kept_of y → Mid k x y → Mid k x z
  Mid-kept {k} x y z e h =
      record {
        was = λ s. h.was (ap (λ (t : Kept). t.status) (sym e) ∙ s);
        noted = λ s. Noted-kept x y z e (h.noted (ap (λ (t : Kept). t.status) (sym e) ∙ s));
        end = go h.end;
      }
    where
      go : (y.leader.endprep ≡ x.leader.endprep) ⊎ (seen_before.stop ≤ k) → (z.leader.endprep ≡ x.leader.endprep) ⊎ (seen_before.stop ≤ k)
      go (inl a) = inl (ap (λ (t : Kept). t.end) e ∙ a)
      go (inr a) = inr a

  Mid-Grown : (k : ℕ) (x y : Slot) → Grown k x y → Mid k x y
  Mid-Grown k x y h = record { was = h.was; noted = λ z. still h.who h.top h.batch; end = h.end }

  module _ (h : Whole r.window) (kind : strict r.sc ≡ true) (long : w.len ≡ r.window.len)
      (same : (i : ℕ) → face_of (at_place w i) ≡ face_of (at_place r.window i))
      (busy : leads r.sc ≡ true → (i : ℕ) → (at_place r.window i).status ≡ 1 → (at_place r.window i).ballot ≤ r.sc.bal_prep_sent)
      (f : Answers r m) (by : Replied seen_before c peer m.slot m.endprep (vote_in m)) where
    -- at its own slot it is noted, and its vote is taken if it is larger
    Mid-heard : (x y : Slot) → Grown m.slot x y → Mid m.slot x (heard_slot (noted_slot (strict r.sc) peer y) m)
    Mid-heard x y t =
        record {
          was = λ z. t.was (sym status ∙ z);
          noted = λ z.
              (let s : y.status ≡ 1 = sym status ∙ z in
              heard peer m.endprep (vote_in m) by (λ q e. new q (insert_or (notes y) peer q (subst (λ (a : ℕ). has a q ≡ true) who e)))
              (λ q e. subst (λ (a : ℕ). has a q ≡ true) (sym who) (insert_keeps (notes y) peer q (subst (λ (a : ℕ). has a q ≡ true) (sym t.who) e)))
              (takes (heard_takes (noted_slot (strict r.sc) peer y) m (and_make (eq-eqb y.status 1 s) (le-leb y.ballot m.ballot (t.low s))))));
          end = ends t.end;
        }
      where
        z : Slot
        z = heard_slot (noted_slot (strict r.sc) peer y) m

        status : z.status ≡ y.status
        status = heard_keeps (λ (s : Slot). s.status) (noted_slot (strict r.sc) peer y) m refl

        who : notes z ≡ insert (notes y) peer
        who = heard_keeps notes (noted_slot (strict r.sc) peer y) m refl ∙ rw kind

        new : (q : ℕ) → (q ≡ peer) ⊎ (has (notes y) q ≡ true) → (has (notes x) q ≡ true) ⊎ (q ≡ peer)
        new q (inl e) = inr e
        new q (inr e) = inl (subst (λ (a : ℕ). has a q ≡ true) t.who e)

        takes : Takes (vote_in m) (noted_slot (strict r.sc) peer y) z → Takes (vote_in m) x z
        takes (inl (a, b, d)) = inl (omega (arith, t.top), b, d)
        takes (inr (a, b, d)) = inr (omega (arith, t.top), b ∙ t.top, d ∙ t.batch)

        ends : (y.leader.endprep ≡ x.leader.endprep) ⊎ (seen_before.stop ≤ m.slot) → (z.leader.endprep ≡ x.leader.endprep) ⊎ (seen_before.stop ≤ m.slot)
        ends (inl e) = inl (heard_keeps (λ (s : Slot). s.leader.endprep) (noted_slot (strict r.sc) peer y) m refl ∙ e)
        ends (inr e) = inr e

    -- ── by place ──
    grown_each : (i : ℕ) → Grown (number r.sc i) (at_place w i) (at_place (grown_window r m) i)
    grown_each i =
        appended_cases (Grown (number r.sc i) (at_place w i)) r (place r.sc m.slot) (place r.sc m.trigger) i (let u = reply_place r m f in omega arith)
        (λ l.
        subst (λ (x : Slot). Grown (number r.sc i) x (appended_as r (place r.sc m.trigger))) (sym (at_past w i (omega arith)))
        (record { was = λ z. inr (omega arith); low = λ z. omega (arith, f.sent); who = refl; top = refl; batch = refl; end = inr (omega arith) }))
        (let e = sym (same i) in
        record {
          was = λ z. inl (ap (λ (t : Face). t.status) (sym e) ∙ z);
          low = λ z. omega (arith, f.sent, busy f.leading i z);
          who = ap (λ (t : Face). t.leader.notes) e;
          top = ap (λ (t : Face). t.leader.prepare_max_bal) e;
          batch = ap (λ (t : Face). t.batch) e;
          end = inl (ap (λ (t : Face). t.leader.endprep) e);
        })

    -- the reply's slot is in the log
    here : place r.sc m.slot < (grown_window r m).len
    here = appended_has r (place r.sc m.slot) (place r.sc m.trigger)

    wide : place r.sc m.slot < size (grown_window r m)
    wide = omega (arith, reply_place r m f, appended_long r (place r.sc m.slot) (place r.sc m.trigger))

    reply_slot-noted_slot : reply_slot r peer m ≡ noted_slot (strict r.sc) peer (at_place (grown_window r m) (place r.sc m.slot))
    reply_slot-noted_slot =
        put_here (grown_window r m) (place r.sc m.slot) _ wide
        ∙ ap (noted_slot (strict r.sc) peer) (sym (at_here (grown_window r m) (place r.sc m.slot) here))

    pub heard_each : (i : ℕ) → Mid (number r.sc i) (at_place w i) (at_place (heard_window r peer m) i)
    heard_each i =
        put_cases (reply_window r peer m) (place r.sc m.slot) _ (Mid (number r.sc i) (at_place w i)) i
        (λ e l.
        subst (λ (k : ℕ). Mid (number r.sc k) (at_place w k) (heard_slot (reply_slot r peer m) m)) (sym e)
        (subst (λ (s : Slot). Mid (number r.sc (place r.sc m.slot)) (at_place w (place r.sc m.slot)) (heard_slot s m)) (sym reply_slot-noted_slot)
        (subst (λ (k : ℕ). Mid k (at_place w (place r.sc m.slot)) (heard_slot (noted_slot (strict r.sc) peer (at_place (grown_window r m) (place r.sc m.slot))) m)) (sym at)
        (Mid-heard _ _ (subst (λ (k : ℕ). Grown k (at_place w (place r.sc m.slot)) (at_place (grown_window r m) (place r.sc m.slot))) at (grown_each (place r.sc m.slot)))))))
        (λ out.
        subst (Mid (number r.sc i) (at_place w i)) (sym (put_elsewhere (grown_window r m) (place r.sc m.slot) _ i (λ e. out e (omega (arith, here)) (omega (arith, reply_place r m f, noted_long r peer m)))))
        (Mid-Grown (number r.sc i) (at_place w i) (at_place (grown_window r m) i) (grown_each i)))
      where
        at : number r.sc (place r.sc m.slot) ≡ m.slot
        at = omega (arith, f.low, f.from)

    pub counted_each : (i : ℕ) → Mid (number r.sc i) (at_place w i) (at_place (counted_window r peer m) i)
    counted_each i =
        Mid-kept (at_place w i) (at_place (heard_window r peer m) i) (at_place (counted_window r peer m) i)
        (put_keeps kept_of (heard_window r peer m) (place r.sc m.trigger) i (counted_slot peer (trigger_slot r peer m)) refl) (heard_each i)
