use mathlib.Core.Path.{◌≡◌, ◌∙◌}
use Prim.Native.Nat.{◌≤◌}
use native.Mathlib.Omega.{arith}
use Rattle.std.specs.Prelude.{eqb, take, length}
use Rattle.std.specs.List.{position}
use Rattle.std.proofs.Common.{rules}
use Rattle.std.proofs.lemmas.Iterator.{YieldsList-from_slice}
use Rattle.std.proofs.lemmas.Iterator.Search.{position_from_yields_List}
use Rattle.base.specs.Pick.{tests}
use Rattle.batch.specs.KeyLaws.{found_place}
use Rattle.batch.proofs.KeyTable.find.Goals as goal

pub returns : goal.returns
returns c =
    let a = c.args in
    let t = a.self.now in
    let long : length t.keys ≡ 256 = search rules in
    let h : c.min-end.result ≤ length t.keys = omega (arith, c.min-end.ensures) in
    let e : c.position.result ≡ position (λ k. eqb k a.key) (take c.min-end.result t.keys) =
    position_from_yields_List (λ k. eqb k a.key) _ _ c.position.result c.position.ensures.ran (YieldsList-from_slice (take c.min-end.result t.keys) (cc)) (λ x b q k. search (rules, tests)) in
    c.unwrap_or.ensures ∙ found_place t.keys t.count a.key c.min-end.result long c.min-end.ensures c.position.result e
