-- What the records of lent bytes print: rows of numbers as text, and a run from record to record.
use Rattle.std.specs.Prelude.{◌≡◌, ℕ, zero, suc, ◌+◌, ◌*◌, ◌%◌, ◌^◌, Bool, List, [], ◌∷◌, ◌++◌, length, ◌==◌, nat_le, slice_index}
use Rattle.base.specs.Pick.{pick}
use Rattle.base.specs.Gather.{gather}
use Rattle.words.specs.Put.{put_at}
use Rattle.words.specs.Decimal.{decimal}
use Rattle.actions.specs.Actions.{write_actions}
use Rattle.replica.specs.Record.{Outcome}
use Rattle.replica.specs.Step.{handled}
use Rattle.play.specs.declared.Run.{Run}
use Rattle.play.specs.Play.{played_at, line_of}

-- a number, and the byte after it
abbrev pub item_text : ℕ → ℕ → List ℕ
item_text n end = decimal n ++ (end ∷ [])

-- a blank, and a line feed after the last of n numbers
abbrev pub end_of : ℕ → ℕ → ℕ
end_of i n = pick (i + 1 == n) 10 32

abbrev pub item_of : List ℕ → ℕ → List ℕ
item_of row i = item_text (slice_index row i) (end_of i (length row))

-- decimal numbers, one blank between, a line feed at the end
unfoldable pub row_text : List ℕ → List ℕ
row_text row = gather (item_of row) 0 (length row)

-- a number has at most 20 digits
abbrev pub row_fits : List ℕ → ℕ → List ℕ → Bool
row_fits text at row = nat_le (at + 21 * length row) (length text)

-- a row's text at a place, and the place after it; where there is no room for 21 bytes a number nothing changes
pub record Rowed (text : List ℕ) (at : ℕ) (row : List ℕ) (r : ℕ) (after : List ℕ) : Type 0 where
  pub place : r ≡ pick (row_fits text at row) (at + length (row_text row)) at
  pub bytes : after ≡ pick (row_fits text at row) (put_at text at (row_text row)) text

-- a run with the memory that is lent to it
pub record Page : Type 0 where
  pub run : Run
  pub room : List ℕ
  pub text : List ℕ

-- a run after a record that gave an outcome: its line stands at the run's place of the text
unfoldable pub shown_outcome : Page → Outcome → Page
shown_outcome p o =
    let n : ℕ = (p.run.number + 1) % 2 ^ 64 in
    let line : List ℕ = line_of n (handled o) in
    let fits : Bool = row_fits p.text p.run.place line in
    record {
      run = record {
        number = n;
        place = pick fits (p.run.place + length (row_text line)) p.run.place;
        replica = o.replica;
      };
      room = write_actions p.room o.actions;
      text = pick fits (put_at p.text p.run.place (row_text line)) p.text;
    }

-- "Each record prints: number, answer, action count, bal_max_seen, accept_bar, commit_bar, exec_bar."
abbrev pub shown_at : List ℕ → ℕ → Page → Page
shown_at bytes at p = shown_outcome p (played_at p.run.replica (length p.room) bytes at)

-- the first n records
unfoldable pub shown : List ℕ → ℕ → Page → Page
shown bytes zero p = p
shown bytes (suc n) p = shown_at bytes (256 * n) (shown bytes n p)

-- what a call hands back and leaves of it
pub record Shows (p : Page) (r : Run) (room text : List ℕ) : Type 0 where
  pub ran : r ≡ p.run
  pub said : room ≡ p.room
  pub printed : text ≡ p.text
