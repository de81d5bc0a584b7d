-- The fit test as facts, both ways.
use Rattle.std.specs.Prelude.{◌≡◌, refl, Bool, true, false, not, ◌||◌, ℕ, ◌+◌, ◌≤◌, ◌<◌, ltb, leb, eqb, get_or}
use Rattle.std.proofs.Common.{le_refl, arith, ltb-true, leb-true, lt-ltb, le-leb}
use Rattle.std.proofs.lemmas.Bool.{not-true, not-false}
use Rattle.base.specs.Pick.{and_left, and_right, and_make}
use Rattle.base.specs.Find.{any, any-false, any_nowhere}
use Rattle.members.specs.Groups.{group_size}
use Rattle.tally.specs.declared.Reads.{Reads}
use Rattle.tally.specs.Open.{no_read, fit_read, fit_reads}
use Rattle.slots.specs.Slots.{fit_slot}
use Rattle.slots.specs.Laws.{Fit as FitSlot, Fit-parts, Fit-made}
use Rattle.decide.specs.declared.Scalars.{Scalars}
use Rattle.decide.specs.Scalars.{nobody, may_be, fit_scalars}
use Rattle.window.specs.declared.Window.{Window}
use Rattle.window.specs.Window.{slot_at, fit_slots}
use Rattle.replica.specs.declared.Replica.{Replica}
use Rattle.replica.specs.Record.{fresh}
use Rattle.replica.specs.Fit.{fit}

-- no leader, or one of the group
abbrev pub leader_fits : Scalars → Bool
leader_fits sc = eqb sc.leader nobody || ltb sc.leader sc.group

pub record FitNumbers (sc : Scalars) (len : ℕ) : Type 0 where
  pub size : group_size sc.group ≡ true
  pub member : sc.id < sc.group
  pub start : sc.start ≤ 4294967296
  pub window : len ≤ 64
  pub leader : leader_fits sc ≡ true
  pub exec : sc.start ≤ sc.exec_bar
  pub commit : sc.exec_bar ≤ sc.commit_bar
  pub log : sc.commit_bar ≤ sc.start + len
  pub accept : sc.start ≤ sc.accept_bar
  pub accept_log : sc.accept_bar ≤ sc.start + len

pub numbers_facts : (sc : Scalars) (len : ℕ) → fit_scalars sc len ≡ true → FitNumbers sc len
unfolding fit_scalars
numbers_facts sc len e =
    let a = and_right (group_size sc.group) _ e in
    let b = and_right (ltb sc.id sc.group) _ a in
    let c = and_right (leb sc.start 4294967296) _ b in
    let d = and_right (leb len 64) _ c in
    let f = and_right (leader_fits sc) _ d in
    let g = and_right (leb sc.start sc.exec_bar) _ f in
    let h = and_right (leb sc.exec_bar sc.commit_bar) _ g in
    let i = and_right (leb sc.commit_bar (sc.start + len)) _ h in
    record {
      size = and_left (group_size sc.group) _ e;
      member = ltb-true _ _ (and_left (ltb sc.id sc.group) _ a);
      start = leb-true _ _ (and_left (leb sc.start 4294967296) _ b);
      window = leb-true _ _ (and_left (leb len 64) _ c);
      leader = and_left (leader_fits sc) _ d;
      exec = leb-true _ _ (and_left (leb sc.start sc.exec_bar) _ f);
      commit = leb-true _ _ (and_left (leb sc.exec_bar sc.commit_bar) _ g);
      log = leb-true _ _ (and_left (leb sc.commit_bar (sc.start + len)) _ h);
      accept = leb-true _ _ (and_left (leb sc.start sc.accept_bar) _ i);
      accept_log = leb-true _ _ (and_right (leb sc.start sc.accept_bar) _ i);
    }

pub facts_numbers : (sc : Scalars) (len : ℕ) → FitNumbers sc len → fit_scalars sc len ≡ true
unfolding fit_scalars
facts_numbers sc len f =
    and_make f.size
    (and_make (lt-ltb _ _ f.member)
    (and_make (le-leb _ _ f.start)
    (and_make (le-leb _ _ f.window)
    (and_make f.leader
    (and_make (le-leb _ _ f.exec)
    (and_make (le-leb _ _ f.commit)
    (and_make (le-leb _ _ f.log)
    (and_make (le-leb _ _ f.accept) (le-leb _ _ f.accept_log)))))))))

-- ── a whole record ──
none_fails : (p : ℕ → Bool) (end : ℕ) → ((i : ℕ) → i < end → p i ≡ true) → any (λ i. not (p i)) 0 end ≡ false
none_fails p end h = any_nowhere (λ i. not (p i)) 0 end (λ i _ l. rw (h i l))

all_pass : (p : ℕ → Bool) (end : ℕ) → not (any (λ i. not (p i)) 0 end) ≡ true → (i : ℕ) → i < end → p i ≡ true
all_pass p end e i l = not-false _ (any-false (λ i. not (p i)) 0 end i (not-true _ e) (omega arith) l)

abbrev pub FitWindow : ℕ → Window → Type 0
FitWindow group w = (i : ℕ) → i < w.len → FitSlot group (slot_at w i)

pub record FitReads (group : ℕ) (rs : Reads) : Type 0 where
  pub count : rs.count ≤ 16
  pub each : (i : ℕ) → i < rs.count → fit_read group (get_or rs.reads i no_read) ≡ true

pub record Fits (r : Replica) : Type 0 where
  pub numbers : FitNumbers r.sc r.window.len
  pub slots : FitWindow r.sc.group r.window
  pub keys : r.keys.count ≤ 256
  pub reads : FitReads r.sc.group r.reads

pub window_facts : (group : ℕ) (w : Window) → fit_slots group w ≡ true → FitWindow group w
unfolding fit_slots
window_facts group w e i l = Fit-parts group (slot_at w i) (all_pass (λ i. fit_slot group (slot_at w i)) w.len e i l)

pub facts_window : (group : ℕ) (w : Window) → FitWindow group w → fit_slots group w ≡ true
unfolding fit_slots
facts_window group w f = rw (none_fails (λ i. fit_slot group (slot_at w i)) w.len (λ i l. Fit-made group (slot_at w i) (f i l)))

pub reads_facts : (group : ℕ) (rs : Reads) → fit_reads group rs ≡ true → FitReads group rs
unfolding fit_reads
reads_facts group rs e =
    record {
      count = leb-true _ _ (and_left (leb rs.count 16) _ e);
      each = all_pass (λ i. fit_read group (get_or rs.reads i no_read)) rs.count (and_right (leb rs.count 16) _ e);
    }

pub facts_reads : (group : ℕ) (rs : Reads) → FitReads group rs → fit_reads group rs ≡ true
unfolding fit_reads
facts_reads group rs f =
    and_make (le-leb _ _ f.count) (rw (none_fails (λ i. fit_read group (get_or rs.reads i no_read)) rs.count f.each))

pub fit_facts : (r : Replica) → fit r ≡ true → Fits r
unfolding fit
fit_facts r e =
    let a = and_right (fit_scalars r.sc r.window.len) _ e in
    let b = and_right (fit_slots r.sc.group r.window) _ a in
    record {
      numbers = numbers_facts r.sc r.window.len (and_left (fit_scalars r.sc r.window.len) _ e);
      slots = window_facts r.sc.group r.window (and_left (fit_slots r.sc.group r.window) _ a);
      keys = leb-true _ _ (and_left (leb r.keys.count 256) _ b);
      reads = reads_facts r.sc.group r.reads (and_right (leb r.keys.count 256) _ b);
    }

pub facts_fit : (r : Replica) → Fits r → fit r ≡ true
unfolding fit
facts_fit r f =
    and_make (facts_numbers r.sc r.window.len f.numbers)
    (and_make (facts_window r.sc.group r.window f.slots) (and_make (le-leb _ _ f.keys) (facts_reads r.sc.group r.reads f.reads)))

-- ── a new replica ──
pub fresh_fits : (id group start options : ℕ) → may_be id group start options ≡ true → fit (fresh id group start options) ≡ true
fresh_fits id group start options e =
    let a = and_right (group_size group) _ e in
    let b = and_right (ltb id group) _ a in
    facts_fit (fresh id group start options)
    (record {
      numbers = record {
        size = and_left (group_size group) _ e;
        member = ltb-true _ _ (and_left (ltb id group) _ a);
        start = leb-true _ _ (and_left (leb start 4294967296) _ b);
        window = omega arith;
        leader = refl;
        exec = le_refl start;
        commit = le_refl start;
        log = omega arith;
        accept = le_refl start;
        accept_log = omega arith;
      };
      slots = λ i l. absurd (omega arith);
      keys = omega arith;
      reads = record { count = omega arith; each = λ i l. absurd (omega arith) };
    })
