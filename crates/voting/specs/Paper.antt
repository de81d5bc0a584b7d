-- What L. Lamport, "Paxos Made Simple" (2001), defines of voting, in our words: over numbers of proposals, batches and sets of members.
-- The theorems about `step` in the other files are stated in these words; where ours differs from the paper, Differences says so.
use Rattle.std.specs.Prelude.{◌≡◌, Bool, true, List, [], ◌⊎◌, ◌↔◌, ℕ, ◌+◌, ◌≤◌, ◌<◌, ltb, leb}
use Rattle.std.proofs.Common.{arith}
use Rattle.base.specs.Among.{◌∈◌, All}
use Rattle.members.specs.Sets.{has, count_in, fits_group}
use Rattle.members.specs.Groups.{quorum_of}
use Rattle.members.specs.Ballots.{owns, ballot_above}
use Rattle.members.specs.Laws.{owners_same, next_owned, next_larger, next_apart, quorums_meet}
use Rattle.batch.specs.declared.Batch.{Batch}
use Rattle.slots.specs.declared.Vote.{Vote}

-- 2.5: each proposer takes its numbers from a set of its own: no number is made by two
abbrev pub Disjoint : (ℕ → ℕ → Bool) → Type 0
Disjoint makes = (ballot m k : ℕ) → makes ballot m ≡ true → makes ballot k ≡ true → m ≡ k

-- 2.2, phase 1 (b): an acceptor answers a prepare request whose number is larger than that of every one it has answered.
-- `promised`: the largest number that it has answered
abbrev pub answers_prepare : ℕ → ℕ → Bool
answers_prepare promised n = ltb promised n

-- 2.2, P1a and phase 2 (b): it accepts a proposal unless it has answered a prepare request with a larger number
abbrev pub may_accept : ℕ → ℕ → Bool
may_accept promised n = leb promised n

-- 2.2: a majority is more than half of the group
pub record Majority (group set : ℕ) : Type 0 where
  pub within : fits_group set group ≡ true
  pub half : group < count_in set + count_in set

-- 2.2, phase 1 (b): the answer tells the highest-numbered proposal that was accepted, if any was
abbrev pub Highest : List Vote → Vote → Type 0
Highest accepted v = (v ∈ accepted) × All (λ x. x.ballot ≤ v.ballot) accepted

-- 2.2, phase 2 (a): the proposer's value is that of the highest-numbered proposal among the answers, or its own where they tell of none
abbrev pub Choice : Batch → List Vote → Batch → Type 0
Choice own answers b = ((answers ≡ []) × (b ≡ own)) ⊎ ((v : Vote) × (Highest answers v) × (v.batch ≡ b))

-- 2.2: a batch is chosen where a majority has accepted one proposal with it
abbrev pub Chosen : ℕ → (ℕ → Vote → Type 0) → Vote → Type 0
Chosen group accepted v = (set : ℕ) × (Majority group set) × ((m : ℕ) → has set m ≡ true → accepted m v)

-- 2.1: "Only a value that has been proposed may be chosen"
abbrev pub OnlyProposed : ℕ → (ℕ → Vote → Type 0) → (Batch → Type 0) → Type 0
OnlyProposed group accepted proposed = (v : Vote) → Chosen group accepted v → proposed v.batch

-- 2.1: "Only a single value is chosen"
abbrev pub OnlyOne : ℕ → (ℕ → Vote → Type 0) → Type 0
OnlyOne group accepted = (v v' : Vote) → Chosen group accepted v → Chosen group accepted v' → v.batch ≡ v'.batch

-- 2.1: "A process never learns that a value has been chosen unless it actually has been"
abbrev pub OnlyChosenLearned : ℕ → (ℕ → Vote → Type 0) → (ℕ → Batch → Type 0) → Type 0
OnlyChosenLearned group accepted learned = (m : ℕ) (b : Batch) → learned m b → (v : Vote) × (Chosen group accepted v) × (v.batch ≡ b)

-- 2.2, P2: "If a proposal with value v is chosen, then every higher-numbered proposal that is chosen has value v"
abbrev pub P2 : ℕ → (ℕ → Vote → Type 0) → Type 0
P2 group accepted = (v v' : Vote) → Chosen group accepted v → Chosen group accepted v' → v.ballot < v'.ballot → v'.batch ≡ v.batch

-- 2.2, P2c: "For any v and n, if a proposal with value v and number n is issued, then there is a set S consisting of a majority of acceptors
-- such that either (a) no acceptor in S has accepted any proposal numbered less than n, or (b) v is the value of the highest-numbered proposal
-- among all proposals numbered less than n accepted by the acceptors in S"
abbrev pub AcceptedBelow : (ℕ → Vote → Type 0) → ℕ → ℕ → Vote → Type 0
AcceptedBelow accepted set n x = ((m : ℕ) × (has set m ≡ true) × accepted m x) × (x.ballot < n)

abbrev pub P2c : ℕ → (ℕ → Vote → Type 0) → (Vote → Type 0) → Type 0
P2c group accepted issued =
    (p : Vote) → issued p
    → (set : ℕ) × (Majority group set) ×
    (((x : Vote) → AcceptedBelow accepted set p.ballot x → ⊥) ⊎
    ((x : Vote) × (AcceptedBelow accepted set p.ballot x) × (x.batch ≡ p.batch) ×
    ((y : Vote) → AcceptedBelow accepted set p.ballot y → y.ballot ≤ x.ballot)))

-- ── ours ──
-- our quorum is the paper's majority
pub quorum_is_majority : (group set : ℕ) → fits_group set group ≡ true → Majority group set ↔ (quorum_of group ≤ count_in set)
quorum_is_majority group set f = (λ m. let h = m.half in omega arith, λ q. record { within = f; half = omega arith })

-- 2.2: any two majorities share a member
pub majorities_meet : (group a b : ℕ) → group ≤ 9 → Majority group a → Majority group b → (m : ℕ) × (m < group) × (has a m ≡ true) × (has b m ≡ true)
majorities_meet group a b l p q =
    quorums_meet group a b l p.within q.within ((quorum_is_majority group a p.within).0 p) ((quorum_is_majority group b q.within).0 q)

-- 2.5: our ballots are of disjoint sets, by their owners
pub owners_disjoint : Disjoint owns
owners_disjoint ballot m k p q = owners_same ballot m k p q

-- each new ballot is its maker's, and above every ballot that the maker has seen
pub new_ballot : (seen id : ℕ) → id ≤ 254 → (owns (ballot_above seen id) id ≡ true) × (seen < ballot_above seen id)
new_ballot seen id l = (next_owned seen id l, next_larger seen id)

-- ballots made by distinct ids never coincide, whatever each has seen
pub new_ballots_apart : (seen id seen' id' : ℕ) → id ≤ 254 → id' ≤ 254 → (id ≡ id' → ⊥) → ballot_above seen id ≡ ballot_above seen' id' → ⊥
new_ballots_apart seen id seen' id' l l' d e = d (next_apart seen id seen' id' l l' e)
