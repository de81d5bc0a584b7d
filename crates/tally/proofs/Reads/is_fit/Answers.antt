use mathlib.Core.Path.{◌≡◌, ◌∙◌}
use Rattle.std.specs.Prelude.{take, length}
use Rattle.std.specs.List.{list_all}
use Rattle.std.proofs.Common.{rules}
use Rattle.std.proofs.lemmas.Iterator.{YieldsList-from_slice}
use Rattle.std.proofs.lemmas.Iterator.Search.{all_from_yields_List}
use Rattle.tally.specs.Open.{fit_read}
use Rattle.tally.specs.ReadLaws.{reads_many, fit_by}
use Rattle.tally.proofs.Reads.is_fit.Goals as goal

pub returns-then-self-gt-READS : goal.returns-then-self-gt-READS
returns-then-self-gt-READS c = reads_many _ _ c.if-self-gt-READS.true

pub returns : goal.returns
returns c =
    let a = c.args in
    let rs = a.self in
    let long : length rs.reads ≡ 16 = search rules in
    let e : c.all.result ≡ list_all (fit_read a.group) (take rs.count rs.reads) =
    all_from_yields_List (fit_read a.group) _ _ c.all.result c.all.ensures.ran (YieldsList-from_slice (take rs.count rs.reads) (cc))
    (λ x b q k. search rules) in
    e ∙ fit_by a.group rs long c.if-self-gt-READS.false
