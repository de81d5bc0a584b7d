-- Nothing is left out: where the text has 147 bytes for each record, the lines of all stand in it, one after the other.
use Rattle.std.specs.Prelude.{◌≡◌, ℕ, zero, suc, ◌+◌, ◌*◌, ◌%◌, ◌^◌, ◌≤◌, true, List, [], ◌++◌, length}
use Rattle.std.proofs.Common.{sym, ◌∙◌, ap, arith, length-append, le-leb}
use Rattle.words.specs.Put.{put_at}
use Rattle.words.specs.PutLaws.{put_none, put_append, length-put_at}
use Rattle.replica.specs.Step.{handled}
use Rattle.play.specs.Play.{played_at, line_of}
use Rattle.play.specs.Lines.{row_text, row_fits, Page, shown_outcome, shown_at, shown}
use Rattle.play.specs.LineLaws.{length_row}

-- the line of the record at a place
abbrev pub line_at : List ℕ → ℕ → Page → List ℕ
line_at bytes at p = line_of ((p.run.number + 1) % 2 ^ 64) (handled (played_at p.run.replica (length p.room) bytes at))

-- the lines of the first n records
unfoldable pub lines_of : List ℕ → ℕ → Page → List ℕ
lines_of bytes zero p = []
lines_of bytes (suc n) p = lines_of bytes n p ++ row_text (line_at bytes (256 * n) (shown bytes n p))

pub record Prints (p q : Page) (lines : List ℕ) : Type 0 where
  pub place : q.run.place ≡ p.run.place + length lines
  pub text : q.text ≡ put_at p.text p.run.place lines

-- seven numbers of at most 20 digits, each with the byte after it
length_line : (bytes : List ℕ) (at : ℕ) (p : Page) → length (row_text (line_at bytes at p)) ≤ 147
length_line bytes at p = length_row (line_at bytes at p)

few_lines : (bytes : List ℕ) (n : ℕ) (p : Page) → length (lines_of bytes n p) ≤ 147 * n
unfolding lines_of
few_lines bytes zero p = omega arith
few_lines bytes (suc n) p =
    let line : List ℕ = row_text (line_at bytes (256 * n) (shown bytes n p)) in
    omega (arith, length-append (lines_of bytes n p) line, few_lines bytes n p, length_line bytes (256 * n) (shown bytes n p))

-- one record more
Prints-next : (bytes : List ℕ) (at : ℕ) (p q : Page) (lines : List ℕ) → Prints p q lines → p.run.place + length lines + 147 ≤ length p.text
    → Prints p (shown_at bytes at q) (lines ++ row_text (line_at bytes at q))
unfolding shown_outcome
Prints-next bytes at p q lines h room =
    let line : List ℕ = line_at bytes at q in
    let e : q.run.place ≡ p.run.place + length lines = h.place in
    let l : length q.text ≡ length p.text = ap length h.text ∙ length-put_at p.text p.run.place lines (omega arith) in
    let fits : row_fits q.text q.run.place line ≡ true = le-leb (q.run.place + 147) (length q.text) (omega arith) in
    record {
      place = rw fits (omega (arith, length-append lines (row_text line)));
      text = rw (fits, h.text, e) (put_append p.text p.run.place lines (row_text line) (omega arith));
    }

pub shown-Prints : (bytes : List ℕ) (n : ℕ) (p : Page) → p.run.place + 147 * n ≤ length p.text → Prints p (shown bytes n p) (lines_of bytes n p)
unfolding shown lines_of
shown-Prints bytes zero p h = record { place = omega arith; text = sym (put_none p.text p.run.place) }
shown-Prints bytes (suc n) p h =
    Prints-next bytes (256 * n) p (shown bytes n p) (lines_of bytes n p) (shown-Prints bytes n p (omega arith)) (omega (arith, few_lines bytes n p))
