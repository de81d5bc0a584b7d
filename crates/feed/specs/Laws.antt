-- The laws of a read behind bytes that stay, and of moving bytes to the front.
use Rattle.std.specs.Prelude.{◌≡◌, refl, true, false, List, ℕ, suc, ◌+◌, ◌-◌, ◌%◌, ◌≤◌, ◌<◌, eqb, length, get_or, set, take, drop, Result, Ok, Err}
use Rattle.std.proofs.Common.{sym, ◌∙◌, ⊎_elim, arith, add-one, zero-add, add_comm, le_refl, length-drop, get_or-drop}
use Rattle.std.proofs.Math.Path.{ap}
use Rattle.std.proofs.Math.Seq.{paste, paste-suc}
use Rattle.std.proofs.lemmas.List.Edits.{drop-paste}
use borrow.Author.Tests.{le-leb, lt-leb, eq-eqb, ne_eqb}
use borrow.Rule.Slice.PartMut.{put_mid, take_put}
use Rattle.base.specs.Pick.{coincide, clash, same?}
use Rattle.feed.specs.declared.Input as code
use Rattle.feed.specs.declared.ReadFailed.{ReadFailed}
use Rattle.feed.specs.Feed.{Input, told, ReadBehind, fronted, Fronted}

module _ (bytes : List ℕ) (have : ℕ) where
  pub read_none : length bytes < have → ReadBehind bytes have (record { have = 0; ended = true; failed = false }) bytes
  read_none h =
      record {
        front = refl;
        long = refl;
        most = omega arith;
        least = λ l. absurd (omega arith);
        ends = λ l. absurd (omega arith);
        fails = λ e. absurd (clash e refl);
        refused = λ l. (refl, refl);
      }

  -- the bytes with others in the place of those behind the first `have`
  abbrev pub behind : List ℕ → List ℕ
  behind others = put_mid have (length bytes - have) bytes others

  -- a read that fails, and one that brings so many bytes
  module _ (others : List ℕ) (h : have ≤ length bytes) (long : length (behind others) ≡ length bytes) where
    front : take have (behind others) ≡ take have bytes
    front = take_put have (length bytes - have) bytes others h

    pub read_failed : ReadBehind bytes have (record { have = have; ended = true; failed = true }) (behind others)
    read_failed =
        record {
          front = front;
          long = long;
          most = omega arith;
          least = λ l. le_refl have;
          ends = λ l. sym (eq-eqb have have refl);
          fails = λ e. refl;
          refused = λ l. absurd (omega arith);
        }

    pub read_came : (more : ℕ) → have + more ≤ length bytes → ReadBehind bytes have (record { have = have + more; ended = eqb more 0; failed = false }) (behind others)
    read_came more m =
        record {
          front = front;
          long = long;
          most = omega arith;
          least = λ l. omega arith;
          ends =
              λ l.
              ⊎_elim (λ (z : more ≡ 0). eq-eqb more 0 z ∙ sym (eq-eqb (have + more) have (omega arith)))
              (λ (z : more ≡ 0 → ⊥). ne_eqb more 0 z ∙ sym (ne_eqb (have + more) have (λ e. z (omega arith))))
              (same? more 0);
          fails = λ e. absurd (clash e refl);
          refused = λ l. absurd (omega arith);
        }

module _ (bytes : List ℕ) (n : ℕ) where
  pub fronts_none : length bytes < n → Fronted bytes n 0 bytes
  unfolding fronted
  fronts_none h = let e = lt-leb n (length bytes) h in record { count = rw e; moved = rw e }

  pub fronts_all : (r i : ℕ) (after : List ℕ) → n ≤ length bytes → r ≡ n % 256 → i ≡ r → after ≡ paste bytes 0 (drop (n - n % 256) bytes) i → Fronted bytes n r after
  unfolding fronted
  fronts_all r i after h e f g = let k = le-leb n (length bytes) h in record { count = rw k e; moved = rw k (g ∙ ap (paste bytes 0 (drop (n - n % 256) bytes)) (f ∙ e)) }

-- where there are n bytes, so many stand at the front, and they are these
pub fronted_rest : (bytes after : List ℕ) (n r : ℕ) → n ≤ length bytes → Fronted bytes n r after → (r ≡ n % 256) × (after ≡ paste bytes 0 (drop (n - n % 256) bytes) (n % 256))
unfolding fronted
fronted_rest bytes after n r h f = let k = le-leb n (length bytes) h in (rw k at f.count, rw k at f.moved)

-- two answers of a read that say the same are the same
pub told_unique : (r s : Result code.Input ReadFailed) → told r ≡ told s → r ≡ s
told_unique (Ok i) (Ok j) e = ap (λ (x : Input). Ok (record { have = x.have; ended = x.ended })) e
told_unique (Ok i) (Err f) e = absurd (clash (ap (λ (x : Input). x.failed) e) refl)
told_unique (Err f) (Ok j) e = absurd (clash (sym (ap (λ (x : Input). x.failed) e)) refl)
told_unique (Err f) (Err g) e = ap (λ (x : Input). Err (record { have = x.have })) e

-- any two outcomes that the promise allows coincide
pub Fronted-unique : {bytes after after' : List ℕ} {n r r' : ℕ} → Fronted bytes n r after → Fronted bytes n r' after' → (r ≡ r') × (after ≡ after')
Fronted-unique s t = (coincide s.count t.count, coincide s.moved t.moved)

-- a byte moved: from `from + i` to i, where the first i are moved
pub front_turn : (bytes b : List ℕ) (from i : ℕ) → from + i < length bytes → b ≡ paste bytes 0 (drop from bytes) i
    → set b i (get_or b (from + i) 0) ≡ paste bytes 0 (drop from bytes) (i + 1)
front_turn bytes b from i h e =
    let s : List ℕ = drop from bytes in
    let k : i < length s = omega (arith, length-drop from bytes) in
    let d : drop i b ≡ drop i bytes =
    ap (drop i) e ∙ ap (λ (x : ℕ). drop x (paste bytes 0 s i)) (sym (zero-add i)) ∙ drop-paste bytes 0 s i (omega arith) (omega arith) ∙ ap (λ (x : ℕ). drop x bytes) (zero-add i) in
    let v : get_or b (from + i) 0 ≡ get_or s i 0 =
    ap (λ (x : ℕ). get_or b x 0) (add_comm from i) ∙ sym (get_or-drop i b from 0) ∙ ap (λ (l : List ℕ). get_or l from 0) d ∙ get_or-drop i bytes from 0
    ∙ ap (λ (x : ℕ). get_or bytes x 0) (add_comm i from) ∙ sym (get_or-drop from bytes i 0) in
    let w : set (paste bytes 0 s i) (0 + i) (get_or s i 0) ≡ paste bytes 0 s (suc i) = paste-suc bytes 0 s i 0 (omega arith) k in
    rw (add-one i, v, e) (ap (λ (x : ℕ). set (paste bytes 0 s i) x (get_or s i 0)) (sym (zero-add i)) ∙ w)
