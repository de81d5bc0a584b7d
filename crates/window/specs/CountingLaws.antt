-- Each way through the test of who counts, where its numbers are places of the window and where they are not.
use Rattle.std.specs.Prelude.{◌≡◌, Bool, true, false, not, length, ℕ, ◌+◌, ◌-◌, ◌≤◌, ◌<◌, leb, eqb}
use Rattle.std.proofs.Math.Path.{sym}
use Rattle.std.specs.List.{list_any}
use Rattle.std.proofs.Common.{◌∙◌, ⊎_elim, arith}
use Rattle.std.proofs.Math.Bool.{and-false}
use borrow.Author.Tests.{le-leb, lt-leb, lt-ltb, le-ltb}
use Rattle.base.specs.Find.{any_none}
use Rattle.base.specs.Spans.{span, any_span}
use Rattle.members.specs.Sets.{has}
use Rattle.slots.specs.Slots.{no_slot, lacks_note}
use Rattle.decide.specs.declared.Scalars.{Scalars}
use Rattle.decide.specs.declared.Reply.{Reply}
use Rattle.decide.specs.Scalars.{strict}
use Rattle.window.specs.declared.Window.{Window}
use Rattle.window.specs.Window.{slot_at}
use Rattle.window.specs.BoundedLaws.{Nowhere}
use Rattle.window.specs.Counting.{lacking, counts, lacking_in, counts_in}

module _ (w : Window) (peer from : ℕ) where
  pub lacking_out : (to : ℕ) → 64 < to → lacking_in w peer from to ≡ false
  unfolding lacking_in
  lacking_out to h = rw (lt-leb to 64 h)

  pub lacking_in_lem : (to : ℕ) → to ≤ 64 → lacking_in w peer from to ≡ lacking w peer from to
  unfolding lacking_in
  lacking_in_lem to h = rw (le-leb to 64 h)

  pub lacking_nowhere : (to : ℕ) → Nowhere from to → false ≡ lacking_in w peer from to
  unfolding lacking_in lacking
  lacking_nowhere to = ⊎_elim (λ h. rw (lt-leb to 64 h)) (λ h. rw (any_none (λ i. lacks_note peer (slot_at w i)) from to h.1, and-false (leb to 64)))

  pub lacking_span : (to : ℕ) → length w.slots ≡ 64 → to ≤ 64 → list_any (lacks_note peer) (span from to w.slots) ≡ lacking_in w peer from to
  unfolding lacking
  lacking_span to l h = sym (any_span (lacks_note peer) no_slot w.slots from to (omega arith)) ∙ sym (lacking_in_lem to h)

module _ (sc : Scalars) (w : Window) (j peer : ℕ) (m : Reply) where
  pub counts_long : 64 < w.len → false ≡ counts_in sc w j peer m
  unfolding counts_in
  counts_long h = rw (lt-leb w.len 64 h)

  pub counts_past : 64 ≤ j → false ≡ counts_in sc w j peer m
  unfolding counts_in
  counts_past h = rw (le-ltb j 64 h, and-false (leb w.len 64))

  module _ (h : w.len ≤ 64) (l : j < 64) where
    pub counts_in_lem : counts_in sc w j peer m ≡ counts sc w j peer m
    unfolding counts_in
    counts_in_lem = rw (le-leb w.len 64 h, lt-ltb j 64 l)

    pub counts_base : strict sc ≡ false → eqb m.slot m.endprep ≡ counts_in sc w j peer m
    unfolding counts
    counts_base k = sym (counts_in_lem ∙ rw k)

    module _ (k : strict sc ≡ true) where
      pub counts_known : has (slot_at w j).leader.prepare_acks peer ≡ true → true ≡ counts_in sc w j peer m
      unfolding counts
      counts_known e = sym (counts_in_lem ∙ rw (k, e))

      module _ (e : has (slot_at w j).leader.prepare_acks peer ≡ false) where
        pub counts_below : m.endprep < sc.start → false ≡ counts_in sc w j peer m
        unfolding counts
        counts_below a = sym (counts_in_lem ∙ rw (k, e, lt-leb sc.start m.endprep a))

        pub counts_beyond : sc.start ≤ m.endprep → w.len ≤ m.endprep - sc.start → false ≡ counts_in sc w j peer m
        unfolding counts
        counts_beyond a b = sym (counts_in_lem ∙ rw (k, e, le-leb sc.start m.endprep a, le-ltb (m.endprep - sc.start) w.len b))

        pub counts_noted : {t : Bool} → sc.start ≤ m.endprep → m.endprep - sc.start < w.len → t ≡ lacking_in w peer j (m.endprep - sc.start + 1)
            → not t ≡ counts_in sc w j peer m
        unfolding counts
        counts_noted a b f =
            sym (counts_in_lem ∙ rw (k, e, le-leb sc.start m.endprep a, lt-ltb (m.endprep - sc.start) w.len b, f, lacking_in_lem w peer j (m.endprep - sc.start + 1) (omega arith)))
