-- What is printed of a kind, and of a number that is none.
use Rattle.std.specs.Prelude.{ℕ, List, ◌++◌, codes, decimal}
use Rattle.trace.specs.declared.kind.Kind.{Kind}
use Rattle.trace.specs.declared.kind.Kind.TheVariants.{New, Prepare, PrepareReply, Accept, AcceptReply, CommitNotice, Timeout, Offer, Logged, Executed, OpenRead, ReadReply}
use Rattle.trace.specs.declared.kind.UnknownKind.{UnknownKind}

abbrev pub kind_text : Kind → List ℕ
kind_text New = codes "new replica"
kind_text Prepare = codes "Prepare"
kind_text PrepareReply = codes "PrepareReply"
kind_text Accept = codes "Accept"
kind_text AcceptReply = codes "AcceptReply"
kind_text CommitNotice = codes "CommitNotice"
kind_text Timeout = codes "timeout"
kind_text Offer = codes "offer"
kind_text Logged = codes "log done"
kind_text Executed = codes "executed"
kind_text OpenRead = codes "open read"
kind_text ReadReply = codes "read reply"

abbrev pub unknown_text : UnknownKind → List ℕ
unknown_text e = codes "no record has kind " ++ decimal e.0
