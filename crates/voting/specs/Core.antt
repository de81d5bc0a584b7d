-- 2.2, the paper's own argument, over votes and numbers alone, for one slot: where each proposal that is issued obeys P2c, only a single value is chosen.
-- P2c is read as it can be kept up while votes are cast: the majority S has promised the number, so that what its members accept later is not below it.
use Rattle.std.specs.Prelude.{◌≡◌, true, ◌⊎◌, ℕ, ◌≤◌}
use Rattle.std.proofs.Common.{inl, inr, arith}
use Rattle.members.specs.Sets.{has}
use Rattle.slots.specs.declared.Vote.{Vote}
use Rattle.voting.specs.Paper.{Majority, Chosen, AcceptedBelow, P2c}

-- member m accepted the proposal v
abbrev pub Votes : Type 1
Votes = ℕ → Vote → Type 0

-- member m has promised the number n: it will accept nothing below it
abbrev pub Vows : Type 1
Vows = ℕ → ℕ → Type 0

-- ── the conditions ──
-- Three relations of votes. `wrote`: the vote was cast. `stands`: it stands in a log; one that was never reported durable may be lost. `lasts`: it was
-- reported, and is never lost. Where nothing is lost they are one, and what follows is the paper's.
-- "either (a) no acceptor in S has accepted any proposal numbered less than n, or (b) v is the value of the highest-numbered proposal among all proposals
-- numbered less than n accepted by the acceptors in S"
abbrev pub Values : Votes → Votes → ℕ → Vote → Type 0
Values wrote stands set p =
    ((x : Vote) → AcceptedBelow stands set p.ballot x → ⊥) ⊎
    ((x : Vote) × AcceptedBelow wrote set p.ballot x × (x.batch ≡ p.batch) × ((y : Vote) → AcceptedBelow stands set p.ballot y → y.ballot ≤ x.ballot))

-- P2c of one proposal p: S, a majority, has promised its number
pub record Obeys (group : ℕ) (vows : Vows) (wrote stands : Votes) (p : Vote) : Type 0 where
  pub set : ℕ
  pub most : Majority group set
  pub vowed : (m : ℕ) → has set m ≡ true → vows m p.ballot
  pub value : Values wrote stands set p

-- a vote is of a proposal that was issued, and "different proposals have different numbers"
pub record Lawful (group : ℕ) (vows : Vows) (lasts stands wrote : Votes) (issued : Vote → Type 0) : Type 0 where
  pub standing : (m : ℕ) (v : Vote) → lasts m v → stands m v
  pub written : (m : ℕ) (v : Vote) → stands m v → wrote m v
  pub told : (m : ℕ) (v : Vote) → wrote m v → issued v
  pub one : (v v' : Vote) → issued v → issued v' → v.ballot ≡ v'.ballot → v.batch ≡ v'.batch
  pub obeys : (p : Vote) → issued p → Obeys group vows wrote stands p

-- P2c itself, where nothing is lost: with the promise, and without it
pub P2c-Obeys : (group : ℕ) (vows : Vows) (accepted : Votes) (issued : Vote → Type 0) (c : P2c group accepted issued)
    → ((p : Vote) (i : issued p) (m : ℕ) → has (c p i).0 m ≡ true → vows m p.ballot) → (p : Vote) → issued p → Obeys group vows accepted accepted p
P2c-Obeys group vows accepted issued c vow p i = let (set, j, d) = c p i in record { set = set; most = j; vowed = vow p i; value = d }

pub Obeys-P2c : (group : ℕ) (vows : Vows) (accepted : Votes) (issued : Vote → Type 0) → ((p : Vote) → issued p → Obeys group vows accepted accepted p) → P2c group accepted issued
Obeys-P2c group vows accepted issued f p i = let o = f p i in (o.set, o.most, o.value)

-- ── as votes are cast ──
-- promises rise, votes are cast and reported, and one that stands now stood before or is not below its member's promise
pub record Grows (vows vows' : Vows) (lasts lasts' stands stands' wrote wrote' : Votes) : Type 0 where
  pub up : (m n : ℕ) → vows m n → vows' m n
  pub votes : (m : ℕ) (v : Vote) → lasts m v → lasts' m v
  pub writes : (m : ℕ) (v : Vote) → wrote m v → wrote' m v
  pub newer : (m : ℕ) (v : Vote) → stands' m v → stands m v ⊎ ((n : ℕ) → vows m n → n ≤ v.ballot)

module _ {group : ℕ} {vows vows' : Vows} {lasts lasts' stands stands' wrote wrote' : Votes} (g : Grows vows vows' lasts lasts' stands stands' wrote wrote') where
  pub Chosen-stays : (v : Vote) → Chosen group lasts v → Chosen group lasts' v
  Chosen-stays v (set, j, h) = (set, j, λ m a. g.votes m v (h m a))

  -- "an acceptor can ignore .. without violating safety": what S accepts later is not below what it promised
  pub Obeys-stays : (p : Vote) → Obeys group vows wrote stands p → Obeys group vows' wrote' stands' p
  Obeys-stays p s = record { set = s.set; most = s.most; vowed = λ m a. g.up m p.ballot (s.vowed m a); value = go s.value }
    where
      was : (x : Vote) → AcceptedBelow stands' s.set p.ballot x → AcceptedBelow stands s.set p.ballot x
      was x ((m, a, y), l) = by (g.newer m x y)
        where
          by : stands m x ⊎ ((n : ℕ) → vows m n → n ≤ x.ballot) → AcceptedBelow stands s.set p.ballot x
          by (inl z) = ((m, a, z), l)
          by (inr z) = absurd (let u = z p.ballot (s.vowed m a) in omega arith)

      go : Values wrote stands s.set p → Values wrote' stands' s.set p
      go (inl none) = inl (λ x y. none x (was x y))
      go (inr (x, ((m, a, y), u), e, top)) = inr (x, ((m, a, g.writes m x y), u), e, λ z a. top z (was z a))
