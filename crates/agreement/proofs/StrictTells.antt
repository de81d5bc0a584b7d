-- The rest of specs/StrictTells.antt: what stands on a theorem that a must-fail edit makes false.
use Rattle.std.specs.Prelude.{◌≡◌, refl, true, false, List, [], ◌++◌, ◌⊎◌, ℕ, ◌+◌, ◌-◌, ◌≤◌, ltb}
use Rattle.std.proofs.Common.{sym, ap, subst, ◌∙◌, inl, inr, arith, ltb-false}
use mathlib.Core.List.Memᴰ
use Rattle.base.specs.Pick.{pick_cases}
use Rattle.base.specs.Among.{◌∈◌}
use Rattle.actions.specs.declared.Promised.{Promised}
use Rattle.actions.specs.declared.Action.TheVariants.{PrepareReply}
use Rattle.actions.specs.Actions.{Act, act}
use Rattle.slots.specs.declared.Vote.{Vote}
use Rattle.slots.specs.declared.Slot.{Slot}
use Rattle.decide.specs.Scalars.{leads, strict}
use Rattle.decide.specs.Decide.{sent_vote}
use Rattle.window.specs.Window.{no_slots}
use Rattle.window.specs.ByPlace.{at_place, at_past}
use Rattle.replica.specs.declared.Replica.{Replica}
use Rattle.replica.specs.declared.Entry.TheVariants.{PrepareBal as PrepareEntry, AcceptData as AcceptEntry}
use Rattle.replica.specs.Record.{Outcome, place, fresh}
use Rattle.replica.specs.Step.{Call, call_logged, step}
use Rattle.laws.proofs.Theorems.{start_stays}
use Rattle.laws.specs.WaysDurability.{completion, logged_at}
use Rattle.voting.specs.Below.{Below, Below-step}
use Rattle.voting.specs.StrictVotes.{entry_of, VoteTurn, strict_votes}
use Rattle.voting.specs.Telling.{Tells, told_same, promise_tells}
use Rattle.voting.specs.Speaking.{replies_on_completion}
use Rattle.agreement.specs.Theorem.{Group, World, begin, Reach, begins, turn}
use Rattle.agreement.specs.Frame.{Frame}
use Rattle.agreement.specs.Local.{new}
use Rattle.agreement.specs.Group.{view_of, each, made_fresh}
use Rattle.agreement.proofs.Group.{good_in, framed, inv}
use Rattle.agreement.proofs.Entries.{starts_in}
use Rattle.agreement.proofs.Acks.{fine_in}
use Rattle.agreement.proofs.Ignored.{kind_in}
use Rattle.agreement.specs.StrictTells.{HighestAccepted, StrictTells, TellsTrue, Voter, by_number, sent_low, start_below, tells_vote, told_vote, vote_at}

-- no slot's vote is above its ballot, in any reachable world of either kind
pub Below-in : (g : Group) (w : World) → Reach g w → (m : ℕ) → g.present m ≡ true → Below (w.replica m).sc (w.replica m).window
Below-in g w begins = start_below g
Below-in g w (turn {w = u} r m p room c a) = λ j.
    each u m (step (u.replica m) room c) (λ j q h. g.present j ≡ true → Below q.sc q.window) j (λ _. Below-in g u r j)
    (λ _. Below-step (u.replica m) room c (fine_in g u r m p) (Below-in g u r m p))

module _ (g : Group) (kind : g.strict ≡ true) (w : World) (reach : Reach g w) (m : ℕ) (p : g.present m ≡ true) (room : ℕ) (c : Call) where
  abbrev r : Replica
  r = w.replica m

  abbrev o : Outcome
  o = step r room c

  is_strict : strict r.sc ≡ true
  is_strict = kind_in g w reach m p ∙ kind

  turn_at : (s : ℕ) → r.sc.start ≤ s → VoteTurn o.actions s (vote_at r s) (vote_at o.replica s)
  turn_at s l =
      let i : ℕ = s - r.sc.start in
      let q : r.sc.start + i ≡ s = omega arith in
      let e : (at_place o.replica.window i).vote ≡ vote_at o.replica s =
      ap (λ (n : ℕ). (at_place o.replica.window (s - n)).vote) (sym (start_stays r room c)) ∙ by_number o.replica s (omega (arith, start_stays r room c)) in
      subst (λ (n : ℕ). VoteTurn o.actions n (vote_at r s) (vote_at o.replica s)) q
      (subst (λ (v : Vote). VoteTurn o.actions (r.sc.start + i) (vote_at r s) v) e
      (subst (λ (v : Vote). VoteTurn o.actions (r.sc.start + i) v (at_place o.replica.window i).vote) (by_number r s l)
      (strict_votes r room c (good_in g w reach m p).wide is_strict i)))

  abbrev fr : Frame (view_of r) c o.answer (view_of o.replica) o.actions
  fr = framed g w reach m p room c

  -- what was accepted is not above what was seen, and what is accepted now is at what is seen then
  capped : (s : ℕ) (x : Vote) → entry_of s x ∈ w.did m → x.ballot ≤ r.sc.bal_max_seen
  capped s x h = ((inv g w reach).local m p).cap s x.ballot x.batch h

  written : (s : ℕ) (x : Vote) → entry_of s x ∈ o.actions → x.ballot ≡ o.replica.sc.bal_max_seen
  written s x h = (new m (view_of r) (w.did m) (w.did m) c o.answer (view_of o.replica) o.actions ((inv g w reach).local m p) fr s x.ballot x.batch h).top

  next_voter : r.sc.start ≡ g.start → Voter g.start r (w.did m) → Voter g.start o.replica (w.did m ++ o.actions)
  next_voter at k = record { votes = λ s l. record { mine = mine s l (turn_at s (omega arith)).moves; top = λ x h. top s l x (turn_at s (omega arith)).moves (Memᴰ.append_cases (w.did m) h) } }
    where
      mine : (s : ℕ) → g.start ≤ s → (vote_at o.replica s ≡ vote_at r s) ⊎ (entry_of s (vote_at o.replica s) ∈ o.actions)
          → ((vote_at o.replica s).ballot ≡ 0) ⊎ (entry_of s (vote_at o.replica s) ∈ (w.did m ++ o.actions))
      mine s l (inr h) = inr (Memᴰ.append_right (w.did m) h)
      mine s l (inl e) = go (k.votes s l).mine
        where
          go : ((vote_at r s).ballot ≡ 0) ⊎ (entry_of s (vote_at r s) ∈ w.did m) → ((vote_at o.replica s).ballot ≡ 0) ⊎ (entry_of s (vote_at o.replica s) ∈ (w.did m ++ o.actions))
          go (inl z) = inl (ap (λ (v : Vote). v.ballot) e ∙ z)
          go (inr h) = inr (subst (λ (v : Vote). entry_of s v ∈ (w.did m ++ o.actions)) (sym e) (Memᴰ.append_left o.actions h))

      top : (s : ℕ) → g.start ≤ s → (x : Vote) → (vote_at o.replica s ≡ vote_at r s) ⊎ (entry_of s (vote_at o.replica s) ∈ o.actions)
          → (entry_of s x ∈ w.did m) ⊎ (entry_of s x ∈ o.actions) → x.ballot ≤ (vote_at o.replica s).ballot
      top s l x t (inr h) = omega (arith, ap (λ (v : Vote). v.ballot) ((turn_at s (omega arith)).holds x h))
      top s l x (inl e) (inl h) = omega (arith, ap (λ (v : Vote). v.ballot) e, (k.votes s l).top x h)
      top s l x (inr n) (inl h) = omega (arith, capped s x h, fr.mono, written s (vote_at o.replica s) n)

  -- ── what it tells ──
  told_true : Voter g.start r (w.did m) → r.sc.start ≡ g.start → TellsTrue r c (w.did m) o.actions
  told_true k at =
      record {
        promised = λ q keys h.
            let n = (replies_on_completion r room c (fine_in g w reach m p) keys).0 q h in
            let e : c ≡ call_logged (completion PrepareEntry q.slot q.ballot n.offset) = n.call ∙ ap (λ (b : ℕ). call_logged (completion PrepareEntry q.slot b n.offset)) (sym (n.own is_strict)) in
            let t = highest q keys n.offset e n.follows n.at h in
            ((n.offset, e), t.0, t.1);
        accepted = λ q keys h.
            let n = (replies_on_completion r room c (fine_in g w reach m p) keys).1 q h in (
              (n.offset, n.call ∙ ap (λ (b : ℕ). call_logged (completion AcceptEntry q.slot b n.offset)) (sym (n.own is_strict))),
              n.voted is_strict refl,
            );
        own = λ d l u.
            sent_highest (logged_at r d) d.slot (omega arith) ((told_same r d (good_in g w reach m p).wide (omega arith) (good_in g w reach m p).short).0 ∙ by_number r d.slot l);
      }
    where
      -- the vote that the slot sends
      sent_highest : (y : Slot) (s : ℕ) → g.start ≤ s → y.vote ≡ vote_at r s → HighestAccepted (w.did m) s (sent_vote y)
      sent_highest y s l e =
          pick_cases (HighestAccepted (w.did m) s) (ltb 0 y.vote.ballot) (λ _. subst (HighestAccepted (w.did m) s) (sym e) (k.votes s l))
          (λ z.
          record {
            mine = inl refl;
            top = λ x h. omega (arith, ltb-false 0 y.vote.ballot z, ap (λ (v : Vote). v.ballot) e, (k.votes s l).top x h);
          })

      Fits : Promised → Vote → Type 0
      Fits q v = HighestAccepted (w.did m) q.slot v × (v.ballot ≤ q.ballot)

      highest : (q : Promised) (keys : List ℕ) (size : ℕ) → c ≡ call_logged (completion PrepareEntry q.slot q.ballot size) → leads r.sc ≡ false
          → q.ballot ≡ (at_place r.window (place r.sc q.slot)).ballot → act (PrepareReply q) keys ∈ o.actions → Fits q (told_vote q keys)
      highest q keys size e f b h = go (promise_tells r room q.slot q.ballot size (good_in g w reach m p).wide f)
        where
          said : act (PrepareReply q) keys ∈ (step r room (call_logged (completion PrepareEntry q.slot q.ballot size))).actions
          said = subst (λ (x : Call). act (PrepareReply q) keys ∈ (step r room x).actions) e h

          go : ((step r room (call_logged (completion PrepareEntry q.slot q.ballot size))).actions ≡ [])
              ⊎ Tells r q.slot (step r room (call_logged (completion PrepareEntry q.slot q.ballot size))).actions → Fits q (told_vote q keys)
          go (inl z) = absurd (Memᴰ.not-nil (subst (λ (l : List Act). act (PrepareReply q) keys ∈ l) z said))
          go (inr t) =
              let z = Memᴰ.eq_of_singleton (subst (λ (l : List Act). act (PrepareReply q) keys ∈ l) t.says said) in
              let low = (Below-in g w reach m p).votes (place r.sc q.slot) in
              subst (Fits q) (sym (ap (λ (a : Act). tells_vote a.keys a.what) z)) (
                sent_highest t.by q.slot (omega (arith, t.low)) (t.votes ∙ by_number r q.slot t.low),
                omega (arith, sent_low t.by, ap (λ (v : Vote). v.ballot) t.votes),
              )

-- ── over every run ──
start_voter : (g : Group) (m : ℕ) → g.present m ≡ true → Voter g.start ((begin g).replica m) ((begin g).did m)
unfolding begin
start_voter g m p =
    record {
      votes = λ s l.
          record {
            mine = inl (ap (λ (x : Replica). (vote_at x s).ballot) (made_fresh g m p) ∙ none s l);
            top = λ x h. absurd (Memᴰ.not-nil h);
          };
    }
  where
    none : (s : ℕ) → g.start ≤ s → (vote_at (fresh m g.size g.start (g.options m)) s).ballot ≡ 0
    none s l =
        ap (λ (v : Vote). v.ballot)
        (sym (by_number (fresh m g.size g.start (g.options m)) s l) ∙ ap (λ (x : Slot). x.vote) (at_past no_slots (s - g.start) (omega arith)))

pub Voter-in : (g : Group) → g.strict ≡ true → (w : World) → Reach g w → (m : ℕ) → g.present m ≡ true → Voter g.start (w.replica m) (w.did m)
Voter-in g kind w begins = start_voter g
Voter-in g kind w (turn {w = u} r m p room c a) = λ j.
    each u m (step (u.replica m) room c) (λ j q h. g.present j ≡ true → Voter g.start q h) j (λ _. Voter-in g kind u r j)
    (λ _. next_voter g kind u r m p room c (starts_in g u r m p) (Voter-in g kind u r m p))

pub strict_tells : StrictTells
strict_tells g kind w r m p room c = told_true g kind w r m p room c (Voter-in g kind w r m p) (starts_in g w r m p)
