-- The peer accept table: the accept bar that each member last told its leader.
use Rattle.std.specs.Prelude.{Bool, not, ◌&&◌, ◌||◌, List, [], ◌∷◌, ◌++◌, ℕ, zero, suc, ◌-◌, ltb, leb, eqb, get_or, set, replicate}
use Rattle.base.specs.Pick.{pick}
use Rattle.members.specs.Sets.{count}
use Rattle.decide.specs.declared.Scalars.{Scalars}
use Rattle.decide.specs.declared.PeerBars.{PeerBars}
use Rattle.decide.specs.Scalars.{unknown_bar, is_member, quorum, with_peer_max}

-- at a step-up, and fresh: "each other member's peer accept bar are 2^64 - 1; self has no entry until its first PrepareReply"
abbrev pub unknown_bars : Bool → PeerBars
unknown_bars own = record { own = own; bars = replicate 9 unknown_bar }

abbrev pub bar_of : PeerBars → ℕ → ℕ
bar_of b m = get_or b.bars m 0

-- the table has an entry for m: each other member, and self once it has one
abbrev pub has_entry : Scalars → PeerBars → ℕ → Bool
has_entry sc b m = is_member sc m && (not (eqb m sc.id) || b.own)

-- "self.peer_accept_bar.values()": the entries of the first n members
unfoldable pub entries : Scalars → PeerBars → ℕ → List ℕ
entries sc b zero = []
entries sc b (suc m) = pick (has_entry sc b m) (entries sc b m ++ (bar_of b m ∷ [])) (entries sc b m)

-- "peer_accept_bars.sort_unstable()": each put in before the first that is not below it
unfoldable pub put_sorted : ℕ → List ℕ → List ℕ
put_sorted x [] = x ∷ []
put_sorted x (y ∷ l) = pick (leb x y) (x ∷ y ∷ l) (y ∷ put_sorted x l)

unfoldable pub sorted : List ℕ → List ℕ
sorted [] = []
sorted (x ∷ l) = put_sorted x (sorted l)

-- "the minimum of the maximums of majority sets", the quorum-th smallest entry: "peer_accept_bars[self.quorum_cnt as usize - 1]"; with fewer
-- entries 2^64 - 1, where the source would fail, but it never looks there (`fallen_enough` of Majority)
abbrev pub quorumth : Scalars → PeerBars → ℕ
quorumth sc b = get_or (sorted (entries sc b 9)) (quorum sc - 1) unknown_bar

-- how many entries are not above a bar
unfoldable pub not_above : Scalars → PeerBars → ℕ → ℕ
not_above sc b bar = count 9 (λ m. has_entry sc b m && leb (bar_of b m) bar)

-- the same by counting, as the code finds it: the least entry among the first n members that a quorum of entries is not above. Of all nine it is
-- `quorumth` on every table (`least_is_quorumth` of Majority)
unfoldable pub least_majority : Scalars → PeerBars → ℕ → ℕ
least_majority sc b zero = unknown_bar
least_majority sc b (suc m) =
    pick (has_entry sc b m && (leb (quorum sc) (not_above sc b (bar_of b m)) && ltb (bar_of b m) (least_majority sc b m))) (bar_of b m)
    (least_majority sc b m)

-- "peer_accept_bar.insert(peer, accept_bar)": the table with a member's bar
unfoldable pub with_bar : Scalars → PeerBars → ℕ → ℕ → PeerBars
with_bar sc b m bar = record { own = b.own || eqb m sc.id; bars = set b.bars m bar }

-- peer_accept_max is looked at only when a member's bar falls, and only ever falls
unfoldable pub with_fallen : Scalars → PeerBars → ℕ → ℕ → Scalars
with_fallen sc b m bar =
    pick (has_entry sc b m && (ltb bar (bar_of b m) && ltb (least_majority sc (with_bar sc b m bar) 9) sc.peer_accept_max))
    (with_peer_max sc (least_majority sc (with_bar sc b m bar) 9))
    sc
