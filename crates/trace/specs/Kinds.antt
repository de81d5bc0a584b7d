-- The kinds of record, by 01's numbers.
use Rattle.std.specs.Prelude.{◌≡◌, ◌<◌, ℕ, List, [], ◌∷◌, Result, MatchResult, refl}
use Rattle.std.specs.Prelude.{Ok, Err}
use Rattle.std.proofs.Common.{sym, ◌∙◌, ap, arith, get_or}
use Rattle.trace.specs.declared.kind.Kind.{Kind}
use Rattle.trace.specs.declared.kind.Kind.TheVariants.{New, Prepare, PrepareReply, Accept, AcceptReply, CommitNotice, Timeout, Offer, Logged, Executed, OpenRead, ReadReply}
use Rattle.trace.specs.declared.kind.UnknownKind.{UnknownKind}

-- 01: "0 new", "1 Prepare, 2 PrepareReply, 3 Accept, 4 AcceptReply, 5 CommitNotice, 6 timeout", "7 offer, 8 log done, 9 executed, 10 open read, 11 read reply"
abbrev pub number_of : Kind → ℕ
number_of New = 0
number_of Prepare = 1
number_of PrepareReply = 2
number_of Accept = 3
number_of AcceptReply = 4
number_of CommitNotice = 5
number_of Timeout = 6
number_of Offer = 7
number_of Logged = 8
number_of Executed = 9
number_of OpenRead = 10
number_of ReadReply = 11

-- the kind that has the number, or the number itself where it is above 11
abbrev pub Decodes : ℕ → Result Kind UnknownKind → Type 0
Decodes number r = MatchResult r (λ kind. number_of kind ≡ number) (λ e. (e.0 ≡ number) × (11 < number))

abbrev pub kinds : List Kind
kinds = New ∷ Prepare ∷ PrepareReply ∷ Accept ∷ AcceptReply ∷ CommitNotice ∷ Timeout ∷ Offer ∷ Logged ∷ Executed ∷ OpenRead ∷ ReadReply ∷ []

-- no two kinds have one number
numbered : (k : Kind) → get_or kinds (number_of k) New ≡ k
numbered New = refl
numbered Prepare = refl
numbered PrepareReply = refl
numbered Accept = refl
numbered AcceptReply = refl
numbered CommitNotice = refl
numbered Timeout = refl
numbered Offer = refl
numbered Logged = refl
numbered Executed = refl
numbered OpenRead = refl
numbered ReadReply = refl

pub number_unique : (k j : Kind) → number_of k ≡ number_of j → k ≡ j
number_unique k j e = sym (numbered k) ∙ ap (λ n. get_or kinds n New) e ∙ numbered j

pub number_most : (k : Kind) → number_of k < 12
number_most New = omega arith
number_most Prepare = omega arith
number_most PrepareReply = omega arith
number_most Accept = omega arith
number_most AcceptReply = omega arith
number_most CommitNotice = omega arith
number_most Timeout = omega arith
number_most Offer = omega arith
number_most Logged = omega arith
number_most Executed = omega arith
number_most OpenRead = omega arith
number_most ReadReply = omega arith

-- any two answers that a number may be given coincide
pub Decodes-unique : (n : ℕ) (r s : Result Kind UnknownKind) → Decodes n r → Decodes n s → r ≡ s
Decodes-unique n (Ok k) (Ok j) d e = ap (λ (x : Kind). Ok x) (number_unique k j (d ∙ sym e))
Decodes-unique n (Ok k) (Err e) d f = let m = number_most k in absurd (omega arith)
Decodes-unique n (Err e) (Ok k) f d = let m = number_most k in absurd (omega arith)
Decodes-unique n (Err e) (Err f) d g = ap (λ (x : ℕ). Err (record { 0 = x })) (d.0 ∙ sym g.0)
