use mathlib.Core.Path.{refl}
use native.Mathlib.Omega.{arith}
use Rattle.window.specs.RangeLaws.{swept_in}
use Rattle.replica.specs.CompletionLaws.{passed_told}
use Rattle.replica.proofs.Replica.pass_on.Goals as goal

pub returns : goal.returns
returns c =
    let a = c.args in
    passed_told a.self a.from a.stop _ _ _ _ _ _ _ _ c.requires refl refl (swept_in c.pass_range-p.ensures (omega (arith, c.requires))) c.put_notice-n.ensures c.with_bars-self.ensures
