use Rattle.std.specs.Prelude.{◌≡◌, take}
use Rattle.batch.specs.Batches.{key_count}
use Rattle.batch.specs.Keys.{note_keys}
use Rattle.batch.proofs.KeyTable.note_batch.Given as goal

abbrev pub invariant-loop-key : goal.invariant-loop-key
invariant-loop-key l =
    (l.self ≡ note_keys l.fn.slot l.fn.batch.keys l.fn.self l.key-index) × (l.key-items ≡ take (key_count l.fn.batch) l.fn.batch.keys)
