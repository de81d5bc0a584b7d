-- 01, answer 1: "action room too short, or record unfit: bad group size or id, start above 2^32, a count above its table's size, a member
-- set or leader outside the group, not start <= exec_bar <= commit_bar <= log end, or accept_bar below start or above the log end"
use Rattle.std.specs.Prelude.{Bool, ◌&&◌, ℕ, leb, eqb}
use Rattle.base.specs.Pick.{pick}
use Rattle.tally.specs.Open.{fit_reads}
use Rattle.decide.specs.Scalars.{fit_scalars}
use Rattle.window.specs.Window.{fit_slots}
use Rattle.window.specs.Summary.{walk}
use Rattle.replica.specs.declared.Replica.{Replica}

unfoldable pub fit : Replica → Bool
fit r =
    fit_scalars r.sc r.window.len && (fit_slots r.sc.group r.window
    && (leb r.keys.count 256 && fit_reads r.sc.group r.reads))

-- 192 actions of 18 numbers
abbrev pub roomy : ℕ → Bool
roomy room = leb 3456 room

-- 02, Wish 1, 14: "summary not equal to the walk", where it is
abbrev pub sums : Replica → Bool
sums r =
    eqb r.summary.first (walk r.sc r.window).first && eqb r.summary.accepting (walk r.sc r.window).accepting

-- a record that calls may be made on
abbrev pub usable : Replica → Bool
usable r = fit r && sums r

-- what a call asks first: the room is long enough and the record fit, or it is 1; then the summary is the walk's, or it is 14
abbrev pub ready : Replica → ℕ → Bool
ready r room = roomy room && usable r

abbrev pub unready : Replica → ℕ → ℕ
unready r room = pick (roomy room && fit r) 14 1
