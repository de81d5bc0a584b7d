use Rattle.std.specs.Prelude.{◌≤◌, ◌<◌, length}
use Rattle.feed.proofs.Blocks.{Stands}
use Rattle.feed.proofs.each_block.Given as goal

abbrev pub invariant-loop : goal.invariant-loop
invariant-loop g l =
    record {
      stands : Stands g.T.Taker.takes (g.R.Read.remaining l.initial.reader) (g.R.Read.remaining l.reader) l.initial.taker l.taker (length l.initial.bytes) l.bytes l.have;
      few : 256 ≤ length l.initial.bytes → l.have < 256;
    }
