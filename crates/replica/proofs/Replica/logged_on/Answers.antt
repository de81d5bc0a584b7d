use Rattle.replica.specs.CompletionLaws.{logged_on_lem}
use Rattle.replica.proofs.Replica.logged_on.Goals as goal

pub returns : goal.returns
returns c =
    let a = c.args in
    logged_on_lem a.self a.i a.size _ _ c.logged.ensures c.with_offset-self.ensures
