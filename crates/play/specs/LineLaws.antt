-- The laws of lines: an item, a row turn by turn, and a run.
use Rattle.std.specs.Prelude.{◌≡◌, ℕ, zero, suc, ◌+◌, ◌*◌, ◌%◌, ◌^◌, ◌<◌, ◌≤◌, List, [], ◌∷◌, ◌++◌, length, slice_index, refl}
use Rattle.std.proofs.Common.{sym, ◌∙◌, arith, add-one, length-append, le-leb}
use Rattle.std.proofs.lemmas.Bool.{lt-leb}
use Rattle.base.specs.Pick.{coincide}
use Rattle.base.specs.Gather.{gather, gather_more}
use Rattle.words.specs.Put.{Written}
use Rattle.words.specs.PutLaws.{Written-then, Written-fits, put_fits, next_fits, put_none}
use Rattle.words.specs.Decimal.{decimal}
use Rattle.words.specs.DecimalLaws.{decimal_most}
use Rattle.replica.specs.Seen.{Handled}
use Rattle.replica.specs.Step.{Told}
use Rattle.play.specs.declared.Run.{Run}
use Rattle.play.specs.Play.{played_at, line_of}
use Rattle.play.specs.Lines.{item_text, end_of, item_of, row_text, Rowed, Page, Shows, shown_outcome, shown_at, shown}

pub length_item : (n end : ℕ) → length (item_text n end) ≤ 21
length_item n end = omega (arith, length-append (decimal n) (end ∷ []), decimal_most n)

pub item_written : (l : List ℕ) (at n end : ℕ) (a b : List ℕ) (m r : ℕ) → at + 21 ≤ length l → Written l at (decimal n) m a → Written a m (end ∷ []) r b
    → Written l at (item_text n end) r b
item_written l at n end a b m r h p q = Written-then l a b (decimal n) (end ∷ []) at m r (omega (arith, decimal_most n)) p q

-- ── a row, item by item ──

pub length_items : (row : List ℕ) (i : ℕ) → length (gather (item_of row) 0 i) ≤ 21 * i
length_items row zero = omega arith
length_items row (suc j) =
    rw (le-leb 0 j (omega arith))
    (omega (arith, length-append (gather (item_of row) 0 j) (item_of row j), length_items row j, length_item (slice_index row j) (end_of j (length row))))

pub length_row : (row : List ℕ) → length (row_text row) ≤ 21 * length row
unfolding row_text
length_row row = length_items row (length row)

-- the first i items, at a place of a text that has room for the row
pub record Items (row l : List ℕ) (at i r : ℕ) (after : List ℕ) : Type 0 where
  pub room : at + 21 * length row ≤ length l
  pub some : i ≤ length row
  pub near : r ≤ at + 21 * i
  pub written : Written l at (gather (item_of row) 0 i) r after

pub Items-start : (row l : List ℕ) (at : ℕ) → at + 21 * length row ≤ length l → Items row l at 0 at l
Items-start row l at h =
    record { room = h; some = omega arith; near = omega arith; written = Written-fits l at [] at l (omega arith) (omega arith) (sym (put_none l at)) }

pub Items-turn : (row l : List ℕ) (at i : ℕ) (a b : List ℕ) (m r end : ℕ) → Items row l at i m a → i < length row → end ≡ end_of i (length row)
    → Written a m (item_text (slice_index row i) end) r b → Items row l at (i + 1) r b
Items-turn row l at i a b m r end p u e q =
    let g : List ℕ = gather (item_of row) 0 i in
    let x : List ℕ = item_of row i in
    let k : length g ≤ 21 * i = length_items row i in
    let f : length x ≤ 21 = length_item (slice_index row i) (end_of i (length row)) in
    let o : at + 21 * length row ≤ length l = p.room in
    let s : at + length g + length x ≤ length l = omega arith in
    let w : Written l at (g ++ x) r b = Written-then l a b g x at m r s p.written (rw (sym e) q) in
    let n : r ≡ at + length (g ++ x) = w.place ∙ next_fits l at (g ++ x) (omega (arith, length-append g x)) in
    record {
      room = o;
      some = omega arith;
      near = omega (arith, length-append g x);
      written = rw (gather_more (item_of row) 0 i (omega arith)) w;
    }

pub Items-all : (row l : List ℕ) (at i r : ℕ) (after : List ℕ) → Items row l at i r after → length row ≤ i → Written l at (row_text row) r after
unfolding row_text
Items-all row l at i r after p h =
    let s : i ≤ length row = p.some in
    let e : i ≡ length row = omega arith in
    rw e at p.written

module _ (text : List ℕ) (at : ℕ) (row : List ℕ) where
  pub row_past : length text < at + 21 * length row → Rowed text at row at text
  row_past h = let e = lt-leb (at + 21 * length row) (length text) h in record { place = rw e; bytes = rw e }

  pub row_fits : (r : ℕ) (after : List ℕ) → at + 21 * length row ≤ length text → Written text at (row_text row) r after → Rowed text at row r after
  row_fits r after h w =
      let e = le-leb (at + 21 * length row) (length text) h in
      let f : at + length (row_text row) ≤ length text = omega (arith, length_row row) in
      record { place = rw e (w.place ∙ next_fits text at (row_text row) f); bytes = rw e (w.bytes ∙ put_fits text at (row_text row) f) }

-- any two outcomes that the promise allows coincide
pub Rowed-unique : {text row after after' : List ℕ} {at r r' : ℕ} → Rowed text at row r after → Rowed text at row r' after' → (r ≡ r') × (after ≡ after')
Rowed-unique s t = (coincide s.place t.place, coincide s.bytes t.bytes)

-- ── a run ──

-- any two outcomes that the promise allows coincide
pub Shows-unique : {p : Page} {r r' : Run} {room room' text text' : List ℕ} → Shows p r room text → Shows p r' room' text'
    → (r ≡ r') × (room ≡ room') × (text ≡ text')
Shows-unique s t = (coincide s.ran t.ran, coincide s.said t.said, coincide s.printed t.printed)

pub Shows-at : (p : Page) (bytes : List ℕ) (at : ℕ) (h : Handled) (room text line : List ℕ) (n place : ℕ)
    → Told (played_at p.run.replica (length p.room) bytes at) h p.room room → n ≡ (p.run.number + 1) % 2 ^ 64 → line ≡ line_of n h
    → Rowed p.text p.run.place line place text → Shows (shown_at bytes at p) (record { number = n; place = place; replica = h.replica }) room text
unfolding shown_outcome
Shows-at p bytes at h room text line n place t e f w =
    let k = t.handed in
    let m = w.place in
    let b = w.bytes in
    record { ran = rw (m, f, e, k); said = t.written; printed = rw (b, f, e, k) }

pub Shows-more : (p : Page) (bytes : List ℕ) (i : ℕ) (q r : Run) (room text room' text' : List ℕ) → Shows (shown bytes i p) q room text
    → Shows (shown_at bytes (256 * i) (record { run = q; room = room; text = text })) r room' text' → Shows (shown bytes (i + 1) p) r room' text'
unfolding shown
Shows-more p bytes i q r room text room' text' s t =
    let e : record { run = q; room = room; text = text } ≡ shown bytes i p = rw (s.ran, s.said, s.printed) in
    rw (add-one i, sym e) t

pub Shows-none : (bytes : List ℕ) (r : Run) (room text : List ℕ) → Shows (shown bytes 0 (record { run = r; room = room; text = text })) r room text
unfolding shown
Shows-none bytes r room text = record { ran = refl; said = refl; printed = refl }

pub Shows-all : (bytes : List ℕ) (p : Page) (i n : ℕ) (r : Run) (room text : List ℕ) → i ≡ n → Shows (shown bytes i p) r room text → Shows (shown bytes n p) r room text
Shows-all bytes p i n r room text e s = rw (sym e) s
