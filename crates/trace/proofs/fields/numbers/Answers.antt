use Rattle.std.specs.Prelude.{◌≡◌, refl, ℕ, zero, suc, ◌+◌, ◌*◌, ◌<◌, [], ◌∷◌, ◌++◌, List}
use Rattle.std.specs.List.{range_with_len}
use Rattle.std.proofs.Common.{rules, ap, ◌∙◌, add-one, arith, map}
use Rattle.std.proofs.lemmas.List.FromFn.{fill_by_all, map-range_with_len_more}
use Rattle.words.specs.Little.{number_at}
use Rattle.trace.specs.Records.{numbers_at}
use Rattle.trace.proofs.fields.numbers.Goals as goal

-- the number that stands at place i
abbrev number : List ℕ → ℕ → ℕ → ℕ
number l at i = number_at 8 l (at + 8 * i)

counted : (l : List ℕ) (at n : ℕ) → map (number l at) (range_with_len 0 n) ≡ numbers_at l at n
unfolding numbers_at
counted l at zero = refl
counted l at (suc n) =
    (rw (add-one n) at (map-range_with_len_more (number l at) 0 n n (omega arith))) ∙ ap (λ (xs : List ℕ). xs ++ (number l at n ∷ [])) (counted l at n)

pub returns : goal.returns
returns c =
    let a = c.args in
    let made = c.from_fn.ensures.items in
    fill_by_all (number a.bytes.now a.at) c.from_fn.result 24 0 made.long (λ k h. let w = made.at k 0 h in search rules) ∙ counted a.bytes.now a.at 24
