-- What one turn of each loop over the peer accept table adds, by name.
use Rattle.std.specs.Prelude.{◌≡◌, refl, Bool, ◌&&◌, ◌||◌, ℕ, ◌+◌, ◌≤◌, ◌<◌, ltb, leb, eqb, length, set}
use Rattle.std.proofs.Common.{sym, add-one, arith}
use Rattle.std.proofs.Math.Bool.{true, false, and-false}
use Rattle.std.proofs.Math.ListN.{get_or-eq_default}
use Rattle.std.proofs.Math.Seq.{set_out}
use borrow.Author.Tests.{lt-ltb, le-ltb, le-leb, lt-leb}
use Rattle.base.specs.Pick.{pick, one}
use Rattle.members.specs.Sets.{count}
use Rattle.decide.specs.declared.Scalars.{Scalars}
use Rattle.decide.specs.declared.PeerBars.{PeerBars}
use Rattle.decide.specs.Scalars.{unknown_bar, quorum, with_peer_max}
use Rattle.decide.specs.Bars.{bar_of, has_entry, not_above, least_majority, with_bar, with_fallen}

-- member m has an entry, and it is not above a bar
abbrev pub entry_not_above : Scalars → PeerBars → ℕ → ℕ → Bool
entry_not_above sc b bar m = has_entry sc b m && leb (bar_of b m) bar

-- the entry of member m where it is less and a quorum of entries is not above it
abbrev pub lesser : Scalars → PeerBars → ℕ → ℕ → ℕ
lesser sc b m least =
    pick (has_entry sc b m && (leb (quorum sc) (not_above sc b (bar_of b m)) && ltb (bar_of b m) least)) (bar_of b m) least

-- a place past the table holds nothing and takes nothing
pub bar_past : (b : PeerBars) (m : ℕ) → length b.bars ≡ 9 → 8 < m → bar_of b m ≡ 0
bar_past b m e h = get_or-eq_default b.bars 0 (omega arith)

pub with_bar_past : (sc : Scalars) (b : PeerBars) (m bar : ℕ) (own : Bool) → length b.bars ≡ 9 → 8 < m → own ≡ (b.own || eqb m sc.id)
    → record { own = own; bars = b.bars } ≡ with_bar sc b m bar
unfolding with_bar
with_bar_past sc b m bar own e h f = rw (f, set_out b.bars m bar (omega arith))

pub with_bar_at : (sc : Scalars) (b : PeerBars) (m bar : ℕ) (own : Bool) → own ≡ (b.own || eqb m sc.id)
    → record { own = own; bars = set b.bars m bar } ≡ with_bar sc b m bar
unfolding with_bar
with_bar_at sc b m bar own f = rw f

-- whether an entry is there and not above a bar, as the code tests it
module _ (sc : Scalars) (b : PeerBars) (bar m : ℕ) where
  pub none_absent : has_entry sc b m ≡ false → one (entry_not_above sc b bar m) ≡ 0
  none_absent e = rw e

  pub none_above : (x : ℕ) → x ≡ bar_of b m → bar < x → one (entry_not_above sc b bar m) ≡ 0
  none_above x e h = rw (lt-leb (bar_of b m) bar (rw e at h), and-false (has_entry sc b m))

  pub one_low : (x : ℕ) → has_entry sc b m ≡ true → x ≡ bar_of b m → x ≤ bar → one (entry_not_above sc b bar m) ≡ 1
  one_low x e f h = rw (e, le-leb (bar_of b m) bar (rw f at h))

-- whether an entry is less and a majority's, as the code tests it
module _ (sc : Scalars) (b : PeerBars) (m least : ℕ) where
  pub lesser_absent : has_entry sc b m ≡ false → lesser sc b m least ≡ least
  lesser_absent e = rw e

  pub lesser_high : (x : ℕ) → x ≡ bar_of b m → least ≤ x → lesser sc b m least ≡ least
  lesser_high x e h =
      rw (le-ltb (bar_of b m) least (rw e at h), and-false (leb (quorum sc) (not_above sc b (bar_of b m))), and-false (has_entry sc b m))

  pub lesser_few : (x n q : ℕ) → x ≡ bar_of b m → n ≡ not_above sc b x → q ≡ quorum sc → n < q → lesser sc b m least ≡ least
  lesser_few x n q e f g h =
      rw (lt-leb (quorum sc) (not_above sc b (bar_of b m)) (rw (f, g, e) at h), and-false (has_entry sc b m))

  pub lesser_found : (x n q : ℕ) → has_entry sc b m ≡ true → x ≡ bar_of b m → x < least → n ≡ not_above sc b x → q ≡ quorum sc → q ≤ n → lesser sc b m least ≡ x
  lesser_found x n q k e l f g h =
      rw (k, le-leb (quorum sc) (not_above sc b (bar_of b m)) (rw (f, g, e) at h), lt-ltb (bar_of b m) least (rw e at l)) (sym e)

-- the loops: where they start, and one turn
pub count_start : (f : ℕ → Bool) → 0 ≡ count 0 f
unfolding count
count_start f = refl

pub count_turn : (f : ℕ → Bool) (n x m : ℕ) → n ≡ count m f → x ≡ one (f m) → n + x ≡ count (m + 1) f
unfolding count
count_turn f n x m e g = rw (add-one m, e, g)

pub one_small : (t : Bool) (x : ℕ) → x ≡ one t → x ≤ 1
one_small true x e = omega arith
one_small false x e = omega arith

pub least_start : (sc : Scalars) (b : PeerBars) → unknown_bar ≡ least_majority sc b 0
unfolding least_majority
least_start sc b = refl

pub least_turn : (sc : Scalars) (b : PeerBars) (n x m : ℕ) → n ≡ least_majority sc b m → x ≡ lesser sc b m n → x ≡ least_majority sc b (m + 1)
unfolding least_majority
least_turn sc b n x m e f = rw (add-one m, ← e) f

-- each way out where a bar may have fallen
module _ (sc : Scalars) (b : PeerBars) (m bar : ℕ) where
  pub fallen_absent : has_entry sc b m ≡ false → with_fallen sc b m bar ≡ sc
  unfolding with_fallen
  fallen_absent e = rw e

  pub fallen_not : (x : ℕ) → x ≡ bar_of b m → x ≤ bar → with_fallen sc b m bar ≡ sc
  unfolding with_fallen
  fallen_not x e h = rw (le-ltb bar (bar_of b m) (rw e at h), and-false (has_entry sc b m))

  module _ (b' : PeerBars) (least : ℕ) (f : b' ≡ with_bar sc b m bar) (g : least ≡ least_majority sc b' 9) where
    least_is : (t : Bool) → ltb least sc.peer_accept_max ≡ t → ltb (least_majority sc (with_bar sc b m bar) 9) sc.peer_accept_max ≡ t
    least_is t w = rw (g, f) at w

    pub fallen_kept : sc.peer_accept_max ≤ least → with_fallen sc b m bar ≡ sc
    unfolding with_fallen
    fallen_kept h = rw (least_is false (le-ltb _ _ h), and-false (ltb bar (bar_of b m)), and-false (has_entry sc b m))

    pub fallen_to : (x : ℕ) → has_entry sc b m ≡ true → x ≡ bar_of b m → bar < x → least < sc.peer_accept_max
        → with_fallen sc b m bar ≡ with_peer_max sc least
    unfolding with_fallen
    fallen_to x k e l h = rw (k, lt-ltb bar (bar_of b m) (rw e at l), least_is true (lt-ltb _ _ h), g, f)
