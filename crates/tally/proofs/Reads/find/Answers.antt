use mathlib.Core.Path.{◌≡◌, ◌∙◌}
use Rattle.std.specs.Prelude.{eqb, take, length}
use Rattle.std.specs.List.{position}
use Rattle.std.proofs.Common.{rules}
use Rattle.std.proofs.lemmas.Iterator.{YieldsList-from_slice}
use Rattle.std.proofs.lemmas.Iterator.Search.{position_from_yields_List}
use Rattle.base.specs.Pick.{tests}
use Rattle.tally.specs.declared.Read.{Read}
use Rattle.tally.specs.Turns.{find_full}
use Rattle.tally.specs.ReadLaws.{find_by}
use Rattle.tally.proofs.Reads.find.Goals as goal

pub returns-then-n-gt-READS : goal.returns-then-n-gt-READS
returns-then-n-gt-READS c = find_full _ _ c.if-n-gt-READS.true

pub returns : goal.returns
returns c =
    let a = c.args in
    let rs = a.self in
    let long : length rs.reads ≡ 16 = search rules in
    let e : c.position.result ≡ position (λ (d : Read). eqb d.id a.id) (take rs.count rs.reads) =
    position_from_yields_List (λ (d : Read). eqb d.id a.id) _ _ c.position.result c.position.ensures.ran (YieldsList-from_slice (take rs.count rs.reads) (cc))
    (λ x b q k. search (rules, tests)) in
    c.unwrap_or.ensures ∙ find_by rs a.id long c.if-n-gt-READS.false c.position.result e
