-- The turns of searches, counts and growth by a loop, and each way through the small functions of the summary. The code takes the library's methods; these
-- say what a loop written by hand does.
use Rattle.std.specs.Prelude.{◌≡◌, Bool, true, false, ◌&&◌, ℕ, ◌+◌, ◌-◌, ◌≤◌, ◌<◌, leb, eqb, set}
use Rattle.std.proofs.Math.Path.{sym}
use Rattle.std.proofs.Common.{◌∙◌, arith, le-leb, lt-ltb, le-ltb, eq-eqb, ne_eqb}
use Rattle.std.proofs.Math.Bool.{and-false}
use Rattle.std.proofs.lemmas.Bool.{lt-leb}
use Rattle.base.specs.Pick.{pick, one}
use Rattle.base.specs.Over.{over, over_self, over_more}
use Rattle.base.specs.Find.{any_self, any_more, any_found}
use Rattle.base.specs.HowMany.{how_many, how_many_none, how_many_more}
use Rattle.slots.specs.declared.Slot.{Slot}
use Rattle.slots.specs.Slots.{no_slot, lacks_note}
use Rattle.window.specs.declared.Window.{Window}
use Rattle.window.specs.declared.Summary.{Summary}
use Rattle.window.specs.Window.{slot_at, filled}
use Rattle.window.specs.Summary.{has_status}
use Rattle.window.specs.Kept.{recounted, is_passed, counted_in}
use Rattle.window.specs.KeptLaws.{counted_in_lem}
use Rattle.window.specs.Counting.{lacking, lacking_in}
use Rattle.window.specs.CountingLaws.{lacking_in_lem}
use Rattle.window.specs.Laws.{range_end, any_end}

-- ── small values ──
module _ (s : Summary) (slot now : ℕ) where
  pub passed_other : (slot ≡ s.first → ⊥) → false ≡ is_passed s slot now
  passed_other h = rw (ne_eqb slot s.first h)

  pub passed_last : slot ≡ s.first → leb 3 now ≡ is_passed s slot now
  passed_last h = rw (eq-eqb slot s.first h)

module _ (n : ℕ) (before now : Bool) where
  pub recount_none : before ≡ true → now ≡ false → n ≡ 0 → 0 ≡ recounted n before now
  recount_none a b c = rw (a, b) (omega arith)

  pub recount_less : before ≡ true → now ≡ false → n - 1 ≡ recounted n before now
  recount_less a b = rw (a, b)

  pub recount_same : before ≡ false → now ≡ false → n ≡ recounted n before now
  recount_same a b = rw (a, b)

  pub recount_full : before ≡ false → now ≡ true → 64 ≤ n → n ≡ recounted n before now
  recount_full a b h = rw (a, b, le-ltb n 64 h)

  pub recount_more : before ≡ false → now ≡ true → n < 64 → n + 1 ≡ recounted n before now
  recount_more a b h = rw (a, b, lt-ltb n 64 h)

module _ (first i status : ℕ) where
  pub next_found : (first ≡ i → ⊥) → first ≡ pick (eqb first i && leb 3 status) (i + 1) first
  next_found h = rw (ne_eqb first i h)

  pub next_here : status < 3 → first ≡ pick (eqb first i && leb 3 status) (i + 1) first
  next_here h = rw (lt-leb 3 status h, and-false (eqb first i))

  pub next_none : first ≡ i → 3 ≤ status → i + 1 ≡ pick (eqb first i && leb 3 status) (i + 1) first
  next_none h q = rw (eq-eqb first i h, le-leb 3 status q)

-- ── a count ──
module _ (w : Window) (status from to : ℕ) where
  pub counted_end : (i n : ℕ) → to ≤ 64 → from ≤ i → to ≤ i → i - from ≤ to - from → n ≡ how_many (has_status w status) from i → n ≡ counted_in w status from to
  counted_end i n s a b c e =
      e ∙ range_end (how_many (has_status w status) from) from i to a b c
      (λ v. how_many_none (has_status w status) from from (omega arith) ∙ sym (how_many_none (has_status w status) from to v))
      ∙ sym (counted_in_lem w status from to s)

  pub counted_more : (i n m : ℕ) → from ≤ i → n ≡ how_many (has_status w status) from i → m ≡ one (eqb (slot_at w i).status status)
      → n + m ≡ how_many (has_status w status) from (i + 1)
  counted_more i n m h e f = omega (arith, how_many_more (has_status w status) from i h)

-- ── a search for a missing note ──
module _ (w : Window) (peer from : ℕ) where
  pub lacking_self : lacking w peer from from ≡ false
  unfolding lacking
  lacking_self = any_self (λ k. lacks_note peer (slot_at w k)) from

  pub lacking_more : (i : ℕ) → from ≤ i → lacking w peer from i ≡ false → lacks_note peer (slot_at w i) ≡ false → lacking w peer from (i + 1) ≡ false
  unfolding lacking
  lacking_more i h e n = any_more (λ k. lacks_note peer (slot_at w k)) from i h e n

  pub lacking_found : (i to : ℕ) → from ≤ i → i < to → to ≤ 64 → lacks_note peer (slot_at w i) ≡ true → true ≡ lacking_in w peer from to
  unfolding lacking
  lacking_found i to a b h n = sym (lacking_in_lem w peer from to h ∙ any_found (λ k. lacks_note peer (slot_at w k)) from i to a b n)

  pub lacking_end : (i to : ℕ) → from ≤ i → to ≤ i → i - from ≤ to - from → to ≤ 64 → lacking w peer from i ≡ false → false ≡ lacking_in w peer from to
  unfolding lacking
  lacking_end i to a b c h e = any_end (λ k. lacks_note peer (slot_at w k)) from i to a b c e ∙ sym (lacking_in_lem w peer from to h)

-- ── growth: a loop that writes one value to each place from the window's end up to n ──
module _ (z : Slot) (w : Window) where
  abbrev pub filling : ℕ → Window
  filling i = record { len = w.len; slots = over (λ j s. z) no_slot w.len i w.slots }

  pub fill_start : w ≡ filling w.len
  fill_start = rw (over_self (λ j s. z) no_slot w.len w.slots)

  pub fill_turn : (s : Window) (y : Slot) (i : ℕ) → w.len ≤ i → s ≡ filling i → y ≡ z → record { len = s.len; slots = set s.slots i y } ≡ filling (i + 1)
  fill_turn s y i h e f = rw over_more (cc)

  pub fill_done : (s : Window) (n i : ℕ) → s ≡ filling i → i ≡ n → ◌≡◌ {A = Window} (record { len = n; slots = s.slots }) (record { len = n; slots = (filling n).slots })
  fill_done s n i e h = cc

module _ (z : Slot) (w : Window) (n : ℕ) where
  pub filled_more : (y : Slot) → y ≡ z → w.len < n → record { len = n; slots = (filling y w n).slots } ≡ filled z w n
  unfolding filled
  filled_more y e h = rw (e, lt-leb n w.len h)
