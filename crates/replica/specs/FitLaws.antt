-- The laws of the fit test, by its four parts, and of a new replica, refused and made.
use Rattle.std.specs.Prelude.{◌≡◌, Bool, true, false, not, ◌||◌, ℕ, ◌+◌, ◌-◌, ◌≤◌, ◌<◌, ltb, leb, eqb}
use Rattle.std.proofs.Common.{sym, ap, ◌∙◌, arith}
use Rattle.std.proofs.Math.Bool.{and-false}
use borrow.Author.Tests.{le-leb, lt-leb, eq-eqb, ne_eqb, leb-true}
use Rattle.base.specs.Pick.{pick, and_left, and_right, and_both, and_make, refuted, granted}
use Rattle.members.specs.Groups.{group_size}
use Rattle.batch.specs.declared.KeyTable.{KeyTable}
use Rattle.batch.specs.Keys.{empty_table}
use Rattle.tally.specs.declared.Reads.{Reads}
use Rattle.tally.specs.Open.{no_reads, fit_reads}
use Rattle.decide.specs.Bars.{unknown_bars}
use Rattle.decide.specs.Scalars.{may_be, fit_scalars}
use Rattle.decide.specs.NumberWays.{scalars_len}
use Rattle.window.specs.declared.Window.{Window}
use Rattle.window.specs.Window.{no_slots, fit_slots, first_open}
use Rattle.window.specs.Summary.{walk}
use Rattle.window.specs.Kept.{Survey, surveyed}
use Rattle.window.specs.KeptLaws.{surveyed_fit, surveyed_first, surveyed_accepting}
use Rattle.replica.specs.declared.Replica.{Replica}
use Rattle.replica.specs.Record.{fresh_scalars, fresh, zero_replica, new_replica}
use Rattle.replica.specs.Fit.{fit, sums}

-- the fit test, by its four parts
module _ (r : Replica) where
  pub unfit_scalars : fit_scalars r.sc r.window.len ≡ false → false ≡ fit r
  unfolding fit
  unfit_scalars e = rw e

  pub unfit_slots : fit_slots r.sc.group r.window ≡ false → false ≡ fit r
  unfolding fit
  unfit_slots e = rw (e, and-false)

  pub unfit_keys : 256 < r.keys.count → false ≡ fit r
  unfolding fit
  unfit_keys h = rw (lt-leb r.keys.count 256 h, and-false, and-false)

  pub fit_last : fit_scalars r.sc r.window.len ≡ true → fit_slots r.sc.group r.window ≡ true → r.keys.count ≤ 256
      → fit_reads r.sc.group r.reads ≡ fit r
  unfolding fit
  fit_last e f h = rw (e, f, le-leb r.keys.count 256 h)

module _ (r : Replica) {b : Bool} (e : fit_scalars r.sc r.window.len ≡ true) (f : fit_slots r.sc.group r.window ≡ true) (h : r.keys.count ≤ 256) (g : b ≡ fit_reads r.sc.group r.reads) where
  pub fit_ends : b ≡ fit r
  fit_ends = g ∙ fit_last r e f h

  pub reads_unfit : not b ≡ true → false ≡ fit r
  reads_unfit n = sym (refuted fit_ends n)

-- what the numbers' test says of start and commit_bar
pub scalars_low : (r : Replica) → fit_scalars r.sc r.window.len ≡ true → (r.sc.start ≤ 4294967296) × (r.sc.start ≤ r.sc.commit_bar)
unfolding fit_scalars
scalars_low r e =
    let a = and_right (group_size r.sc.group) _ e in
    let b = and_right (ltb r.sc.id r.sc.group) _ a in
    let c = and_both (leb r.sc.start 4294967296) _ b in
    let d = and_right (leb r.window.len 64) _ c.1 in
    let f = and_right (eqb r.sc.leader 255 || ltb r.sc.leader r.sc.group) _ d in
    let g = and_both (leb r.sc.start r.sc.exec_bar) _ f in
    let h = and_left (leb r.sc.exec_bar r.sc.commit_bar) _ g.1 in
    let x : r.sc.start ≤ r.sc.exec_bar = leb-true _ _ g.0 in
    let y : r.sc.exec_bar ≤ r.sc.commit_bar = leb-true _ _ h in
    (leb-true _ _ c.0, omega arith)

-- what the one pass found: whether the slots are fit, and the walk's two numbers
module _ (r : Replica) {s : Survey} (e : s ≡ surveyed r.sc.group (r.sc.commit_bar - r.sc.start) r.window) (l : r.window.len ≤ 64) where
  fit_is : s.fit ≡ fit_slots r.sc.group r.window
  fit_is = ap (λ (x : Survey). x.fit) e ∙ surveyed_fit r.sc.group (r.sc.commit_bar - r.sc.start) r.window l

  pub seen_unfit : not s.fit ≡ true → fit_slots r.sc.group r.window ≡ false
  seen_unfit h = refuted fit_is h

  pub seen_fit : not s.fit ≡ false → fit_slots r.sc.group r.window ≡ true
  seen_fit h = granted fit_is h

  module _ (f : fit_slots r.sc.group r.window ≡ true) where
    pub seen_place : s.first ≡ first_open r.window
    seen_place = ap (λ (x : Survey). x.first) e ∙ surveyed_first r.sc.group (r.sc.commit_bar - r.sc.start) r.window l f

    pub seen_first : r.sc.start + s.first ≡ (walk r.sc r.window).first
    seen_first = ap (λ (n : ℕ). r.sc.start + n) seen_place

    pub seen_accepting : s.accepting ≡ (walk r.sc r.window).accepting
    seen_accepting = ap (λ (x : Survey). x.accepting) e ∙ surveyed_accepting r.sc.group (r.sc.commit_bar - r.sc.start) r.window l f

-- what the first tests know once the numbers and the slots are fit
pub record Surveyed (r : Replica) (s : Survey) : Type 0 where
  pub numbers : fit_scalars r.sc r.window.len ≡ true
  pub short : r.window.len ≤ 64
  pub slots : fit_slots r.sc.group r.window ≡ true
  pub place : s.first ≡ first_open r.window
  pub first : r.sc.start + s.first ≡ (walk r.sc r.window).first
  pub accepting : s.accepting ≡ (walk r.sc r.window).accepting

pub surveyed_facts : (r : Replica) {b : Bool} {s : Survey} → b ≡ fit_scalars r.sc r.window.len → not b ≡ false
    → s ≡ surveyed r.sc.group (r.sc.commit_bar - r.sc.start) r.window → not s.fit ≡ false → Surveyed r s
surveyed_facts r n t e h =
    let numbers = granted n t in
    let short = scalars_len r.sc r.window.len numbers in
    let slots = seen_fit r e short h in
    record {
      numbers = numbers;
      short = short;
      slots = slots;
      place = seen_place r e short slots;
      first = seen_first r e short slots;
      accepting = seen_accepting r e short slots;
    }

-- the summary's test, by its two numbers, as the one pass found them
module _ (r : Replica) {first : ℕ} (f : first ≡ (walk r.sc r.window).first) where
  pub unsummed_first : (r.summary.first ≡ first → ⊥) → sums r ≡ false
  unsummed_first h = rw (ne_eqb r.summary.first (walk r.sc r.window).first (λ z. h (z ∙ sym f)))

  module _ {accepting : ℕ} (g : accepting ≡ (walk r.sc r.window).accepting) where
    pub unsummed_accepting : (r.summary.accepting ≡ accepting → ⊥) → sums r ≡ false
    unsummed_accepting h =
        rw (ne_eqb r.summary.accepting (walk r.sc r.window).accepting (λ z. h (z ∙ sym g)), and-false)

    pub summed_both : r.summary.first ≡ first → r.summary.accepting ≡ accepting → sums r ≡ true
    summed_both a b = and_make (eq-eqb _ _ (a ∙ f)) (eq-eqb _ _ (b ∙ g))

-- a new replica, refused and made
module _ (id group start options : ℕ) {w : Window} {t : KeyTable} {rs : Reads} (a : w ≡ no_slots) (b : t ≡ empty_table) (c : rs ≡ no_reads) where
  pub new_refused : may_be id group start options ≡ false
      → record { answer = 10; replica = record { sc = zero_replica.sc; bars = zero_replica.bars; window = w; keys = t; reads = rs; summary = zero_replica.summary } } ≡ new_replica id group start options
  unfolding new_replica
  new_refused e = rw (a, b, c) (sym (ap (λ (m : Bool). pick m (record { answer = 0; replica = fresh id group start options }) (record { answer = 10; replica = zero_replica })) e))

  pub new_made : may_be id group start options ≡ true
      → record { answer = 0; replica = record { sc = fresh_scalars id group start options; bars = unknown_bars false; window = w; keys = t; reads = rs; summary = record { first = start; accepting = 0 } } } ≡ new_replica id group start options
  unfolding new_replica
  new_made e = rw (a, b, c) (sym (ap (λ (m : Bool). pick m (record { answer = 0; replica = fresh id group start options }) (record { answer = 10; replica = zero_replica })) e))
