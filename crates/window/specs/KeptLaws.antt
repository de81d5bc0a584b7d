-- Each way through the functions that keep the summary, and the turns of the one pass and of a count.
use Rattle.std.specs.Prelude.{◌≡◌, refl, Option, Some, None, length, min, Bool, true, false, not, ◌&&◌, ℕ, ◌+◌, ◌≤◌, ◌<◌, ltb, leb, eqb}
use Rattle.std.specs.List.{filter}
use mir.Val.{bool_byte}
use Rattle.std.proofs.Math.Path.{sym}
use Rattle.std.proofs.Common.{ap, ◌∙◌, ⊎_elim, arith, le-leb}
use Rattle.std.proofs.Math.Bool.{and-false}
use Rattle.std.proofs.lemmas.Bool.{lt-leb}
use Rattle.base.specs.Pick.{pick, one, pick_cases, clash, tests}
use Rattle.base.specs.Scan.{scan, scan_more}
use Rattle.base.specs.Find.{any}
use Rattle.base.specs.HowMany.{how_many, how_many_none, how_many_more, how_many_before, one_few}
use Rattle.base.specs.Spans.{span, how_many_span}
use Rattle.slots.specs.declared.Slot.{Slot}
use Rattle.slots.specs.Slots.{no_slot, fit_slot}
use Rattle.window.specs.declared.Window.{Window}
use Rattle.window.specs.declared.Summary.{Summary}
use Rattle.window.specs.Window.{slot_at, fit_slots, first_open}
use Rattle.window.specs.Summary.{has_status}
use Rattle.window.specs.declared.Survey as code
use Rattle.window.specs.Kept.{Survey, survey_of, lowered, recounted, changed, prepared_from, counted_in, no_survey, surveyed}
use Rattle.window.specs.BoundedLaws.{Nowhere}
use Rattle.window.specs.Laws.{unfit_slot, slots_found, slots_done}

-- ── small values ──
pub min_lowered : (first slot : ℕ) → min first slot ≡ lowered first slot
min_lowered first slot = pick_cases (λ (x : ℕ). min first slot ≡ x) (ltb slot first) (λ t. omega (arith, tests)) (λ t. omega (arith, tests))

pub prepared_made : (strict : Bool) (s : Summary) (trigger below : ℕ) {low first : ℕ} → low ≡ lowered s.first trigger → first ≡ pick strict s.first low
    → record { first = first; accepting = below } ≡ prepared_from strict s trigger below
unfolding prepared_from
prepared_made strict s trigger below e f = rw (f, e)

pub changed_made : (s : Summary) (commit slot before now : ℕ) {low first many accepting : ℕ} → low ≡ lowered s.first slot
    → first ≡ pick (ltb now 3) low s.first → many ≡ recounted s.accepting (eqb before 2) (eqb now 2)
    → accepting ≡ pick (ltb slot commit) s.accepting many → record { first = first; accepting = accepting } ≡ changed s commit slot before now
unfolding changed
changed_made s commit slot before now a b c d = rw (d, c, b, a)

-- ── a turn of the one pass ──
pub open_turn : (p : ℕ → Bool) (first next i : ℕ) → first ≡ scan p 0 i → next ≡ pick (eqb first i && p i) (i + 1) first → next ≡ scan p 0 (i + 1)
open_turn p first next i e f = f ∙ rw e (sym (scan_more p i))

-- a test as a number
pub byte_one : (t : Bool) → bool_byte t ≡ one t
byte_one true = refl
byte_one false = refl

pub count_turn : (p : ℕ → Bool) (from n k m i : ℕ) → n ≡ how_many p from i → k ≡ one (p i) → m ≡ pick (leb from i) k 0 → n + m ≡ how_many p from (i + 1)
count_turn p from n k m i e g f =
    pick_cases (λ (x : ℕ). m ≡ x → n + m ≡ how_many p from (i + 1)) (leb from i)
    (λ t h. omega (arith, tests, how_many_more p from i (omega (arith, tests))))
    (λ t h. omega (arith, tests, how_many_before p from i (omega (arith, tests))))
    f

pub turn_few : (u : Bool) (from i k m : ℕ) → k ≡ one u → m ≡ pick (leb from i) k 0 → m ≤ 1
turn_few u from i k m e f = pick_cases (λ (x : ℕ). m ≡ x → m ≤ 1) (leb from i) (λ t h. omega (arith, one_few u)) (λ t h. omega arith) f

pub one_small : (t : Bool) (n : ℕ) → n ≡ one t → n ≤ 1
one_small t n e = omega (arith, one_few t)

-- ── the one pass ──
module _ (group from : ℕ) (w : Window) where
  pub survey_out : 64 < w.len → no_survey ≡ surveyed group from w
  unfolding surveyed
  survey_out h = rw (lt-leb w.len 64 h)

  pub survey_unfit : (i : ℕ) (b : Bool) → i < w.len → b ≡ fit_slot group (slot_at w i) → not b ≡ true → no_survey ≡ surveyed group from w
  unfolding surveyed
  survey_unfit i b l e h = rw (sym (slots_found group w i b l e h), and-false (leb w.len 64))

  pub survey_found : (i : ℕ) {first accepting : ℕ} → w.len ≤ 64 → any (unfit_slot group w) 0 i ≡ false → i ≡ w.len
      → first ≡ scan (λ j. leb 3 (slot_at w j).status) 0 i → accepting ≡ how_many (has_status w 2) from i
      → record { fit = true; first = first; accepting = accepting } ≡ surveyed group from w
  unfolding surveyed first_open
  survey_found i s a e f g = rw (le-leb w.len 64 s, sym (slots_done group w i a e), f, g, e)

-- what it says, where the length is one of a window
pub surveyed_fit : (group from : ℕ) (w : Window) → w.len ≤ 64 → (surveyed group from w).fit ≡ fit_slots group w
unfolding surveyed
surveyed_fit group from w s = rw (le-leb w.len 64 s) (go (fit_slots group w))
  where
    go : (t : Bool) → (pick {A = Survey} t (record { fit = true; first = first_open w; accepting = how_many (has_status w 2) from w.len }) no_survey).fit ≡ t
    go true = refl
    go false = refl

module _ (group from : ℕ) (w : Window) (s : w.len ≤ 64) (e : fit_slots group w ≡ true) where
  pub surveyed_first : (surveyed group from w).first ≡ first_open w
  unfolding surveyed
  surveyed_first = rw (le-leb w.len 64 s, e)

  pub surveyed_accepting : (surveyed group from w).accepting ≡ how_many (has_status w 2) from w.len
  unfolding surveyed
  surveyed_accepting = rw (le-leb w.len 64 s, e)

-- ── a count ──
module _ (w : Window) (status from to : ℕ) where
  pub counted_out : 64 < to → 0 ≡ counted_in w status from to
  unfolding counted_in
  counted_out h = rw (lt-leb to 64 h)

  pub counted_in_lem : to ≤ 64 → counted_in w status from to ≡ how_many (has_status w status) from to
  unfolding counted_in
  counted_in_lem h = rw (le-leb to 64 h)

  pub counted_nowhere : Nowhere from to → 0 ≡ counted_in w status from to
  unfolding counted_in
  counted_nowhere = ⊎_elim (λ h. rw (lt-leb to 64 h)) (λ h. rw (le-leb to 64 h.0, how_many_none (has_status w status) from to h.1))

  pub counted_span : length w.slots ≡ 64 → to ≤ 64 → length (filter (λ (s : Slot). eqb s.status status) (span from to w.slots)) ≡ counted_in w status from to
  counted_span l h = sym (how_many_span (λ (s : Slot). eqb s.status status) no_slot w.slots from to (omega arith)) ∙ sym (counted_in_lem h)

-- what the code hands back of a survey is told apart by what it is taken to
pub survey_unique : (a b : Option code.Survey) → survey_of a ≡ survey_of b → a ≡ b
survey_unique None None e = refl
survey_unique None (Some t) e = absurd (clash (ap (λ (x : Survey). x.fit) e) refl)
survey_unique (Some s) None e = absurd (clash refl (ap (λ (x : Survey). x.fit) e))
survey_unique (Some s) (Some t) e =
    let f : s.first ≡ t.first = ap (λ (x : Survey). x.first) e in
    let g : s.accepting ≡ t.accepting = ap (λ (x : Survey). x.accepting) e in
    ap (λ (x : code.Survey). Some x) (rw (f, g))
