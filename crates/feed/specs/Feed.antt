-- The bytes of a trace, as they come in: what is kept of them from one read to the next.
use Rattle.std.specs.Prelude.{ℕ, ◌-◌, ◌%◌, ◌≤◌, ◌<◌, Bool, true, false, List, [], ◌∷◌, ◌++◌, ◌≡◌, leb, eqb, length, take, drop, slice_range, Option, Result, Ok, Err}
use Rattle.std.specs.List.{FoldsTo, concat}
use Rattle.std.specs.Io.KnownBytes.{Consumes, Keeps, IsAtEnd}
use Rattle.std.proofs.Math.Seq.{paste}
use Rattle.base.specs.Pick.{pick}
use Rattle.base.specs.Among.{All}
use Rattle.feed.specs.declared.Input as code
use Rattle.feed.specs.declared.ReadFailed.{ReadFailed}

-- what a read left: how many bytes there are, whether there is no more to come, and whether it failed
pub record Input : Type 0 where
  pub have : ℕ
  pub ended : Bool
  pub failed : Bool

-- the code's answer; after a read that failed nothing more comes
abbrev pub told : Result code.Input ReadFailed → Input
told (Ok i) = record { have = i.have; ended = i.ended; failed = false }
told (Err e) = record { have = e.have; ended = true; failed = true }

-- a read behind the first `have` bytes: these stay, and so does the length; how many bytes come, and whether it fails, can't be said
pub record ReadBehind (bytes : List ℕ) (have : ℕ) (r : Input) (after : List ℕ) : Type 0 where
  pub front : take have after ≡ take have bytes
  pub long : length after ≡ length bytes
  pub most : r.have ≤ length after
  pub least : have ≤ length bytes → have ≤ r.have
  pub ends : have ≤ length bytes → r.ended ≡ eqb r.have have
  pub fails : r.failed ≡ true → r.have ≡ have
  -- where there are not so many bytes nothing is read
  pub refused : length bytes < have → (r ≡ record { have = 0; ended = true; failed = false }) × (after ≡ bytes)

-- the same read at a reader that had the bytes `old` left and then `new`, where these are known: what came is the next of them, a read that fails
-- takes none, and where there was room for more the end is their end
pub record ReadNext (old new : Option (List ℕ)) (have : ℕ) (r : Input) (after : List ℕ) : Type 0 where
  pub came : r.failed ≡ false → Consumes old new (slice_range after have r.have)
  pub kept : r.failed ≡ true → Keeps old new
  pub done : r.failed ≡ false → r.ended ≡ true → have < length after → IsAtEnd new

-- of the first n bytes, how many stand past the last whole record of 256
abbrev pub begun : List ℕ → ℕ → ℕ
begun bytes n = pick (leb n (length bytes)) (n % 256) 0

-- the same bytes with these at the front
unfoldable pub fronted : List ℕ → ℕ → List ℕ
fronted bytes n = pick (leb n (length bytes)) (paste bytes 0 (drop (n - n % 256) bytes) (n % 256)) bytes

pub record Fronted (bytes : List ℕ) (n r : ℕ) (after : List ℕ) : Type 0 where
  pub count : r ≡ begun bytes n
  pub moved : after ≡ fronted bytes n

-- the block that the bytes past the last whole record make at the end
abbrev pub last_block : List ℕ → List (List ℕ)
last_block [] = []
last_block (x ∷ xs) = (x ∷ xs) ∷ []

-- what a taker was given where every block was taken: all the bytes that were read, where the reader's are known, each once and in their
-- order; first blocks of whole records, then what was past the last, if there was any. Where there was room for a record, that was less than a
-- record, and the end of the bytes is the reader's: nothing is left unread
pub record Given {T : Type 0} (takes : T → List ℕ → T → Type 0) (old new : Option (List ℕ)) (before after : T) (room : ℕ) : Type 0 where
  pub blocks : List (List ℕ)
  pub rest : List ℕ
  pub whole : All (λ block. length block % 256 ≡ 0) blocks
  pub taken : FoldsTo takes before (blocks ++ last_block rest) after
  pub all : Consumes old new (concat blocks ++ rest)
  pub short : 256 ≤ room → length rest < 256
  pub done : 256 ≤ room → IsAtEnd new
