use Rattle.std.specs.Prelude.{◌≡◌, refl, Bool, true, false, ◌||◌, ltb, get_or, ℕ, zero, suc, ◌*◌, ◌≤◌, [], ◌∷◌, ◌++◌, List}
use Rattle.std.specs.List.{range_with_len, list_any}
use Rattle.std.proofs.Common.{rules, arith, ap, sym, ◌∙◌, add-one, le-leb}
use Rattle.std.proofs.lemmas.Iterator.{YieldsList-from_range}
use Rattle.std.proofs.lemmas.Iterator.Search.{any_from_yields_List}
use Rattle.std.proofs.lemmas.List.{map-id}
use Rattle.std.proofs.lemmas.List.Folds.{list_any-append}
use Rattle.std.proofs.lemmas.List.FromFn.{map-range_with_len_more}
use Rattle.base.specs.Pick.{pick, tests}
use Rattle.base.specs.Find.{any}
use Rattle.trace.proofs.check.bad_tag.Goals as goal

last : (a b : Bool) → (a || (b || false)) ≡ pick b true a
last true true = refl
last true false = refl
last false true = refl
last false false = refl

turn : (p : ℕ → Bool) (from n : ℕ) → from ≤ n → any p from (suc n) ≡ pick (p n) true (any p from n)
turn p from n h = rw (le-leb from n h) refl

-- a search of the numbers below n, and of the list of them
counted : (p : ℕ → Bool) (n : ℕ) → list_any p (range_with_len 0 n) ≡ any p 0 n
counted p zero = refl
counted p (suc n) =
    let more : range_with_len 0 (suc n) ≡ range_with_len 0 n ++ (n ∷ []) =
    rw (add-one n, map-id (range_with_len 0 (suc n)), map-id (range_with_len 0 n)) at (map-range_with_len_more (λ (x : ℕ). x) 0 n n (omega arith)) in
    ap (list_any p) more ∙ (list_any-append p (range_with_len 0 n) (n ∷ [])
    ∙ (ap (λ (b : Bool). b || (p n || false)) (counted p n) ∙ (last (any p 0 n) (p n) ∙ sym (turn p 0 n (omega arith)))))

pub returns : goal.returns
returns c =
    let a = c.args in
    let p : ℕ → Bool = λ i. ltb 2 (get_or a.entries.now (3 * i) 0) in
    any_from_yields_List p _ _ c.any.result c.any.ensures.ran (YieldsList-from_range 0 a.count a.count refl (omega arith)) (λ x b q k. search (rules, tests))
    ∙ counted p a.count
