-- Open reads. 01: "A read has 1 to 8 keys, opens with no acknowledgements and with nothing known per key."
use Rattle.std.specs.Prelude.{Bool, true, false, not, ◌&&◌, ◌||◌, List, [], ℕ, ◌+◌, ◌-◌, ltb, leb, eqb, get_or, set, replicate, Option, Some, None, Result, Ok, Err}
use Rattle.base.specs.Pick.{pick}
use Rattle.base.specs.Find.{any}
use Rattle.base.specs.Scan.{scan}
use Rattle.batch.specs.Batches.{first_keys}
use Rattle.members.specs.Sets.{has, insert, count_in, fits_group}
use Rattle.tally.specs.declared.Tally.{Tally}
use Rattle.tally.specs.declared.Read.{Read}
use Rattle.tally.specs.declared.Reads.{Reads}
use Rattle.tally.specs.declared.OpenError.{OpenError}
use Rattle.tally.specs.declared.OpenError.TheVariants.{Outside, Full}
use Rattle.tally.specs.declared.MergeError.{MergeError}
use Rattle.tally.specs.declared.Replied as code
use Rattle.tally.specs.Merge.{Merged, error_number, no_best, merge}

-- a read opened: 01's number for the answer (0, 10 or 11), and the table after it
pub record Opened : Type 0 where
  pub answer : ℕ
  pub reads : Reads

-- 01's number for each way that a read is not opened, and for what the code's call comes to
abbrev pub open_number : OpenError → ℕ
open_number Outside = 10
open_number Full = 11

abbrev pub numbered_open : Result Unit OpenError → Reads → Opened
numbered_open (Ok done) reads = record { answer = 0; reads = reads }
numbered_open (Err e) reads = record { answer = open_number e; reads = reads }

-- a reply to a read: 01's number for the answer, whether the read closes, with so many keys answered, and the read after it
pub record Replied : Type 0 where
  pub answer : ℕ
  pub closes : Bool
  pub answers : ℕ
  pub read : Read

-- what the code's outcome comes to
abbrev pub reply_as : Result (Option ℕ) MergeError → Read → Replied
reply_as (Ok (Some answers)) read = record { answer = 0; closes = true; answers = answers; read = read }
reply_as (Ok None) read = record { answer = 0; closes = false; answers = 0; read = read }
reply_as (Err e) read = record { answer = error_number e; closes = false; answers = 0; read = read }

abbrev pub numbered_reply : code.Replied → Replied
numbered_reply d = reply_as d.outcome d.read

abbrev pub nothing_known : ℕ → Tally
nothing_known count = record { count = count; bests = replicate 8 no_best }

abbrev pub new_read : ℕ → ℕ → List ℕ → Read
new_read id count keys = record { id = id; acks = 0; keys = first_keys count keys; tally = nothing_known count }

-- a place of the table that is not in use: all zero
abbrev pub null_read : Read
null_read = new_read 0 0 []

abbrev pub no_reads : Reads
no_reads = record { count = 0; reads = replicate 16 null_read }

-- what an index past the end of the table's array reads: unlike nullRead's, its lists have no elements
abbrev pub no_read : Read
no_read = record { id = 0; acks = 0; keys = []; tally = record { count = 0; bests = [] } }

-- the read at place i is another one
abbrev pub other_id_at : Reads → ℕ → ℕ → Bool
other_id_at rs id i = not (eqb (get_or rs.reads i no_read).id id)

-- the place of the open read with this id, or the count where there is none; of a count above 16 no place is in use
unfoldable pub find_read : Reads → ℕ → ℕ
find_read rs id = pick (ltb 16 rs.count) rs.count (scan (other_id_at rs id) 0 rs.count)

abbrev pub is_open : Reads → ℕ → Bool
is_open rs id = ltb (find_read rs id) rs.count

-- 10: "new read .. with numbers outside the above, or a read id in use"; 11: "16 reads already open"
unfoldable pub open_read : Reads → ℕ → ℕ → List ℕ → Opened
open_read rs id count keys =
    pick (eqb count 0 || ltb 8 count || is_open rs id) (record { answer = 10; reads = rs })
    (pick (leb 16 rs.count) (record { answer = 11; reads = rs })
    (record { answer = 0; reads = record { count = rs.count + 1; reads = set rs.reads rs.count (new_read id count keys) } }))

-- "the read closes": the last read in use takes its place; a place that is not in use stays
unfoldable pub close_read : Reads → ℕ → Reads
close_read rs i =
    pick (ltb 16 rs.count || leb rs.count i) rs
    (record { count = rs.count - 1; reads = set rs.reads i (get_or rs.reads (rs.count - 1) no_read) })

-- a read in use, written anew
unfoldable pub put_read : Reads → ℕ → Read → Reads
put_read rs i r = pick (ltb 16 rs.count || leb rs.count i) rs (record { count = rs.count; reads = set rs.reads i r })

-- 1: "a count above its table's size, a member set .. outside the group"
abbrev pub fit_read : ℕ → Read → Bool
fit_read group r = leb r.tally.count 8 && fits_group r.acks group

-- the reads in use
unfoldable pub fit_reads : ℕ → Reads → Bool
fit_reads group rs = leb rs.count 16 && not (any (λ i. not (fit_read group (get_or rs.reads i no_read))) 0 rs.count)

abbrev pub with_tally : Read → Tally → Read
with_tally r t = record { id = r.id; acks = r.acks; keys = r.keys; tally = t }

abbrev pub with_ack : Read → ℕ → Read
with_ack r peer = record { id = r.id; acks = insert r.acks peer; keys = r.keys; tally = r.tally }

abbrev pub smaller : ℕ → ℕ → ℕ
smaller a b = pick (ltb a b) a b

abbrev pub stays : ℕ → Read → Replied
stays answer r = record { answer = answer; closes = false; answers = 0; read = r }

-- "A reply marked from the leader replaces the list and answers at once, for as many keys as both lists have."
abbrev pub replaced : Read → Tally → Replied
replaced r reply = record { answer = 0; closes = true; answers = smaller r.tally.count reply.count; read = with_tally r reply }

-- "quorum answers", for every key of the read; fewer wait
abbrev pub quorum_closes : ℕ → Read → Replied
quorum_closes quorum r = pick (leb quorum (count_in r.acks)) (record { answer = 0; closes = true; answers = r.tally.count; read = r }) (stays 0 r)

-- the merge is done: on a conflict "the sender is not acknowledged", else it is
abbrev pub acknowledged : ℕ → ℕ → Read → Merged → Replied
acknowledged quorum peer r m =
    pick (not (eqb m.answer 0)) (stays m.answer (with_tally r m.tally))
    (quorum_closes quorum (with_ack (with_tally r m.tally) peer))

-- one reply to one open read; "A member already acknowledged is ignored."
unfoldable pub reply_to : ℕ → ℕ → Bool → Tally → Read → Replied
reply_to quorum peer from_leader reply r =
    pick from_leader (replaced r reply)
    (pick (has r.acks peer) (stays 0 r)
    (acknowledged quorum peer r (merge r.tally reply)))

-- the read is kept as the reply leaves it: it is done (0), or a conflict (12): "All but 0 and 12 change nothing"
abbrev pub stays_open : ℕ → Bool
stays_open answer = eqb answer 0 || eqb answer 12
