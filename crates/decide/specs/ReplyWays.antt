-- Each way out of a PrepareReply's tests and of what it decides, as the code takes it.
use Rattle.std.specs.Prelude.{◌≡◌, Bool, true, false, ℕ, ◌+◌, ◌-◌, ◌≤◌, ◌<◌, ltb, leb}
use Rattle.std.proofs.Common.{sym, ◌∙◌, ⊎_elim, arith, lt-ltb, le-ltb, le-leb, eq-eqb, ne_eqb, ltb-true, ltb-false, leb-true}
use Rattle.std.proofs.Math.Bool.{and-false}
use Rattle.std.proofs.lemmas.Bool.{lt-leb}
use Rattle.base.specs.Pick.{pick, and_both, decide}
use Rattle.slots.specs.declared.Vote.{Vote}
use Rattle.slots.specs.declared.Slot.{Slot}
use Rattle.decide.specs.declared.Scalars.{Scalars}
use Rattle.decide.specs.Decide.{Decided}
use Rattle.decide.specs.declared.Reply.{Reply}
use Rattle.decide.specs.Decide.{goes_on, decide_vote, is_counted, decide_count, sent_vote}
use Rattle.decide.specs.PrepareReply.{in_log, own_reply}
use Rattle.decide.specs.Weighing.{unmoved, weighed_count, weighed_vote, weighed}

-- ── whether it lies in the log ──
-- a place below the length is a slot below the log end
pub place_below : (start slot len : ℕ) → start ≤ slot → ltb (slot - start) len ≡ ltb slot (start + len)
place_below start slot len h =
    ⊎_elim
    (λ (e : ltb slot (start + len) ≡ true). lt-ltb (slot - start) len (omega (arith, ltb-true slot (start + len) e)) ∙ sym e)
    (λ (e : ltb slot (start + len) ≡ false). le-ltb (slot - start) len (omega (arith, ltb-false slot (start + len) e)) ∙ sym e)
    (decide (ltb slot (start + len)))

module _ (start len : ℕ) (m : Reply) where
  pub range_low : m.slot < m.trigger → false ≡ in_log start len m
  range_low h = rw (lt-leb m.trigger m.slot h)

  pub range_high : m.endprep < m.slot → false ≡ in_log start len m
  range_high h = rw (lt-leb m.slot m.endprep h, and-false)

  pub range_before : m.trigger < start → false ≡ in_log start len m
  range_before h = rw (lt-leb start m.trigger h, and-false, and-false)

  pub range_last : m.trigger ≤ m.slot → m.slot ≤ m.endprep → start ≤ m.trigger → ltb (m.trigger - start) len ≡ in_log start len m
  range_last a b e =
      rw (le-leb m.trigger m.slot a, le-leb m.slot m.endprep b, le-leb start m.trigger e) (place_below start m.trigger len e)

  -- what it says of the trigger
  pub record InLog : Type 0 where
    pub from : start ≤ m.trigger
    pub below : m.trigger < start + len

  pub range_facts : in_log start len m ≡ true → InLog
  range_facts e =
      let a = and_both (leb m.trigger m.slot) _ e in
      let b = and_both (leb m.slot m.endprep) _ a.1 in
      let d = and_both (leb start m.trigger) _ b.1 in
      record { from = leb-true _ _ d.0; below = ltb-true _ _ d.1 }

-- ── a leader's own reply ──
pub own_reply_lem : (sc : Scalars) (s : Slot) (slot : ℕ) (v : Vote) → v ≡ sent_vote s
    → record {
      slot = slot;
      trigger = s.leader.trigger;
      endprep = s.leader.endprep;
      ballot = s.ballot;
      voted = ltb 0 s.vote.ballot;
      vote = v;
      bar = sc.accept_bar;
    }
    ≡ own_reply sc s slot
own_reply_lem sc s slot v e = rw e

-- ── what is weighed ──
module _ (sc : Scalars) (s t : Slot) (own counts : Bool) (peer : ℕ) (m : Reply) where
  pub weigh_outdated : goes_on sc s m.ballot ≡ false → unmoved 0 sc s t ≡ weighed sc s t own counts peer m
  unfolding weighed
  weigh_outdated h = rw h

  module _ (h : goes_on sc s m.ballot ≡ true) {d : Decided} (v : d ≡ decide_vote sc s m.ballot m.voted m.vote) where
    weigh_vote : weighed_vote sc s t own counts peer m d ≡ weighed sc s t own counts peer m
    unfolding weighed
    weigh_vote = rw (h, v)

    pub weigh_refused : (d.answer ≡ 0 → ⊥) → unmoved d.answer sc s t ≡ weighed sc s t own counts peer m
    weigh_refused a = rw (ne_eqb d.answer 0 a) at weigh_vote

    module _ (a : d.answer ≡ 0) {base : Slot} (b : base ≡ pick own d.slot t) where
      pub weigh_more : counts ≡ false
          → record { answer = 0; noted = d.noted; enters = false; sc = d.sc; slot = d.slot; trigger = base } ≡ weighed sc s t own counts peer m
      weigh_more z = sym uncounted ∙ weigh_vote
        where
          uncounted : weighed_vote sc s t own counts peer m d ≡ record { answer = 0; noted = d.noted; enters = false; sc = d.sc; slot = d.slot; trigger = base }
          uncounted = rw (eq-eqb d.answer 0 a, z, b)

      module _ (z : counts ≡ true) {e : Decided} (k : e ≡ decide_count sc base peer m.ballot) where
        weigh_count : weighed_count sc s t d e ≡ weighed sc s t own counts peer m
        weigh_count = sym counted ∙ weigh_vote
          where
            counted : weighed_vote sc s t own counts peer m d ≡ weighed_count sc s t d e
            counted = rw (eq-eqb d.answer 0 a, z, k, b)

        pub weigh_overtaken : (e.answer ≡ 0 → ⊥) → unmoved e.answer sc s t ≡ weighed sc s t own counts peer m
        weigh_overtaken n = rw (ne_eqb e.answer 0 n) at weigh_count

        pub weigh_counted : {enters : Bool} → e.answer ≡ 0 → enters ≡ is_counted e.sc e.slot
            → record { answer = 0; noted = d.noted; enters = enters; sc = e.sc; slot = d.slot; trigger = e.slot } ≡ weighed sc s t own counts peer m
        weigh_counted n q = rw q (rw (eq-eqb e.answer 0 n) at weigh_count)
