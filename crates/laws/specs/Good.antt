-- What the fit test and the sizes of the lists behind the arrays say together. Z stands for "the lists have their sizes": with ⊥ it is the
-- fit test alone, with Unit both. What the fit test does not look at (a place that is not in use) is not looked at here either.
use Rattle.std.specs.Prelude.{◌≡◌, refl, true, ℕ, ◌≤◌, ◌<◌, length, get_or}
use Rattle.std.proofs.Common.{sym, subst, arith}
use Rattle.members.specs.Sets.{fits_group}
use Rattle.batch.specs.declared.Batch.{Batch}
use Rattle.batch.specs.declared.KeyTable.{KeyTable}
use Rattle.batch.specs.Keys.{empty_table}
use Rattle.tally.specs.declared.Read.{Read}
use Rattle.tally.specs.declared.Reads.{Reads}
use Rattle.tally.specs.Open.{no_read, no_reads, fit_read}
use Rattle.slots.specs.declared.Slot.{Slot}
use Rattle.window.specs.declared.Window.{Window}
use Rattle.window.specs.Window.{slot_at, no_slots}
use Rattle.window.specs.Places.{size}
use Rattle.replica.specs.declared.Replica.{Replica}
use Rattle.replica.specs.Record.{fresh, zero_replica}
use Rattle.laws.specs.OfScalars.{Fixed}
use Rattle.laws.specs.OfFit.{FitNumbers, Fits}

-- the lists behind the arrays that are in use have their sizes
pub record Sized (r : Replica) : Type 0 where
  pub slots : length r.window.slots ≡ 64
  pub slot_keys : (i : ℕ) → i < r.window.len → length (slot_at r.window i).batch.keys ≡ 8
  pub vote_keys : (i : ℕ) → i < r.window.len → length (slot_at r.window i).vote.batch.keys ≡ 8
  pub table_keys : length r.keys.keys ≡ 256
  pub table_slots : length r.keys.slots ≡ 256
  pub reads : length r.reads.reads ≡ 16
  pub read_keys : (i : ℕ) → i < r.reads.count → length (get_or r.reads.reads i no_read).keys ≡ 8
  pub read_bests : (i : ℕ) → i < r.reads.count → length (get_or r.reads.reads i no_read).tally.bests ≡ 8
  pub bars : length r.bars.bars ≡ 9

pub record GoodBatch (Z : Type 0) (b : Batch) : Type 0 where
  pub few : b.count ≤ 8
  pub eight : Z → length b.keys ≡ 8

pub record GoodSlot (Z : Type 0) (group : ℕ) (s : Slot) : Type 0 where
  pub batch : GoodBatch Z s.batch
  pub vote : GoodBatch Z s.vote.batch
  pub prepares : fits_group s.leader.prepare_acks group ≡ true
  pub accepts : fits_group s.leader.accept_acks group ≡ true
  pub notes : fits_group s.leader.notes group ≡ true

pub record GoodWindow (Z : Type 0) (group : ℕ) (w : Window) : Type 0 where
  pub room : w.len ≤ 64
  pub long : Z → size w ≡ 64
  pub each : (i : ℕ) → i < w.len → GoodSlot Z group (slot_at w i)

pub record GoodKeys (Z : Type 0) (t : KeyTable) : Type 0 where
  pub few : t.count ≤ 256
  pub keys : Z → length t.keys ≡ 256
  pub slots : Z → length t.slots ≡ 256

pub record GoodRead (Z : Type 0) (group : ℕ) (d : Read) : Type 0 where
  pub fits : fit_read group d ≡ true
  pub keys : Z → length d.keys ≡ 8
  pub bests : Z → length d.tally.bests ≡ 8

pub record GoodReads (Z : Type 0) (group : ℕ) (rs : Reads) : Type 0 where
  pub few : rs.count ≤ 16
  pub long : Z → length rs.reads ≡ 16
  pub each : (i : ℕ) → i < rs.count → GoodRead Z group (get_or rs.reads i no_read)

pub record Good (Z : Type 0) (r : Replica) : Type 0 where
  pub numbers : FitNumbers r.sc r.window.len
  pub window : GoodWindow Z r.sc.group r.window
  pub keys : GoodKeys Z r.keys
  pub reads : GoodReads Z r.sc.group r.reads
  pub bars : Z → length r.bars.bars ≡ 9

-- the two ways in and the two ways out
pub Fits-Good : (Z : Type 0) (r : Replica) → (Z → Sized r) → Fits r → Good Z r
Fits-Good Z r s f =
    record {
      numbers = f.numbers;
      window = record {
        room = f.numbers.window;
        long = λ z. (s z).slots;
        each = λ i l.
            record {
              batch = record { few = (f.slots i l).batch; eight = λ z. (s z).slot_keys i l };
              vote = record { few = (f.slots i l).vote; eight = λ z. (s z).vote_keys i l };
              prepares = (f.slots i l).prepare;
              accepts = (f.slots i l).accept;
              notes = (f.slots i l).notes;
            };
      };
      keys = record { few = f.keys; keys = λ z. (s z).table_keys; slots = λ z. (s z).table_slots };
      reads = record {
        few = f.reads.count;
        long = λ z. (s z).reads;
        each = λ i l. record { fits = f.reads.each i l; keys = λ z. (s z).read_keys i l; bests = λ z. (s z).read_bests i l };
      };
      bars = λ z. (s z).bars;
    }

pub Good-Fits : (Z : Type 0) (r : Replica) → Good Z r → Fits r
Good-Fits Z r g =
    record {
      numbers = g.numbers;
      slots = λ i l.
          record {
            batch = (g.window.each i l).batch.few;
            vote = (g.window.each i l).vote.few;
            prepare = (g.window.each i l).prepares;
            accept = (g.window.each i l).accepts;
            notes = (g.window.each i l).notes;
          };
      keys = g.keys.few;
      reads = record { count = g.reads.few; each = λ i l. (g.reads.each i l).fits };
    }

pub Good-Sized : (Z : Type 0) (r : Replica) → Z → Good Z r → Sized r
Good-Sized Z r z g =
    record {
      slots = g.window.long z;
      slot_keys = λ i l. (g.window.each i l).batch.eight z;
      vote_keys = λ i l. (g.window.each i l).vote.eight z;
      table_keys = g.keys.keys z;
      table_slots = g.keys.slots z;
      reads = g.reads.long z;
      read_keys = λ i l. (g.reads.each i l).keys z;
      read_bests = λ i l. (g.reads.each i l).bests z;
      bars = g.bars z;
    }

-- a replica after a call, from its parts
pub Good-after : (Z : Type 0) (r after : Replica) → Fixed r.sc after.sc → FitNumbers after.sc after.window.len
    → GoodWindow Z r.sc.group after.window → GoodKeys Z after.keys → GoodReads Z r.sc.group after.reads → (Z → length after.bars.bars ≡ 9)
    → Good Z after
Good-after Z r after f n w k rs b =
    record {
      numbers = n;
      window = subst (λ (g : ℕ). GoodWindow Z g after.window) (sym f.group) w;
      keys = k;
      reads = subst (λ (g : ℕ). GoodReads Z g after.reads) (sym f.group) rs;
      bars = b;
    }

-- ── a new replica ──
Sized-blank : (r : Replica) → r.window ≡ no_slots → r.keys ≡ empty_table → r.reads ≡ no_reads → length r.bars.bars ≡ 9 → Sized r
Sized-blank r w k d b =
    record {
      slots = subst (λ (x : Window). length x.slots ≡ 64) (sym w) refl;
      slot_keys = subst (λ (x : Window). (i : ℕ) → i < x.len → length (slot_at x i).batch.keys ≡ 8) (sym w) (λ i l. absurd (omega arith));
      vote_keys = subst (λ (x : Window). (i : ℕ) → i < x.len → length (slot_at x i).vote.batch.keys ≡ 8) (sym w) (λ i l. absurd (omega arith));
      table_keys = subst (λ (x : KeyTable). length x.keys ≡ 256) (sym k) refl;
      table_slots = subst (λ (x : KeyTable). length x.slots ≡ 256) (sym k) refl;
      reads = subst (λ (x : Reads). length x.reads ≡ 16) (sym d) refl;
      read_keys = subst (λ (x : Reads). (i : ℕ) → i < x.count → length (get_or x.reads i no_read).keys ≡ 8) (sym d) (λ i l. absurd (omega arith));
      read_bests = subst (λ (x : Reads). (i : ℕ) → i < x.count → length (get_or x.reads i no_read).tally.bests ≡ 8) (sym d) (λ i l. absurd (omega arith));
      bars = b;
    }

pub fresh-Sized : (id group start options : ℕ) → Sized (fresh id group start options)
fresh-Sized id group start options = Sized-blank (fresh id group start options) refl refl refl refl

pub zero_sized : Sized zero_replica
zero_sized = Sized-blank zero_replica refl refl refl refl
