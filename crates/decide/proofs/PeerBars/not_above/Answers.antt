use mathlib.Core.Path.{◌≡◌, refl, ◌∙◌}
use mathlib.Core.Bool.{Bool, true, false}
use Rattle.std.specs.Prelude.{ℕ, length, filter}
use Rattle.std.specs.List.{range_with_len}
use Rattle.std.proofs.Common.{cond, rules}
use Rattle.std.proofs.lemmas.Iterator.{YieldsList-from_range}
use Rattle.std.proofs.lemmas.Iterator.Consumers.{count_from_yields_List, YieldsList-from_filter}
use Rattle.std.proofs.lemmas.List.Sums.{length-filter}
use Rattle.base.specs.Pick.{one, tests}
use Rattle.members.specs.Sets.{count}
use Rattle.decide.specs.Bars.{not_above}
use Rattle.decide.specs.Turns.{entry_not_above}
use Rattle.decide.proofs.PeerBars.not_above.Goals as goal

-- the library's 1 or 0 of a test
cond_one : (t : Bool) → cond t 1 0 ≡ one t
cond_one true = refl
cond_one false = refl

-- the members counted in a row
listed : (f : ℕ → Bool) → length (filter f (range_with_len 0 9)) ≡ count 9 f
unfolding count
listed f =
    length-filter f (range_with_len 0 9)
    ∙ rw (cond_one (f 0), cond_one (f 1), cond_one (f 2), cond_one (f 3), cond_one (f 4), cond_one (f 5), cond_one (f 6), cond_one (f 7), cond_one (f 8))

pub returns : goal.returns
unfolding not_above
returns c =
    let a = c.args in
    let f : ℕ → Bool = entry_not_above a.sc a.self a.bar in
    count_from_yields_List _ c.count.result c.count.ensures.ran
    (YieldsList-from_filter _ f (YieldsList-from_range 0 9 9 (cc) refl) c.filter.ensures.closure (λ x b q k. search (rules, tests)))
    ∙ listed f
