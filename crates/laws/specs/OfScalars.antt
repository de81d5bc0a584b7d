-- What no change of the scalars touches: id, group, start and options.
use Rattle.std.specs.Prelude.{◌≡◌, refl, ltb, ℕ, ◌≤◌, ◌&&◌}
use Rattle.std.proofs.Common.{◌∙◌, arith}
use Rattle.base.specs.Pick.{pick_both, pick_cases, tests}
use Rattle.decide.specs.declared.Scalars.{Scalars}
use Rattle.decide.specs.declared.PeerBars.{PeerBars}
use Rattle.decide.specs.Scalars.{followed, with_peer_max}
use Rattle.decide.specs.Bars.{has_entry, bar_of, least_majority, with_bar, with_fallen}

pub record Fixed (a b : Scalars) : Type 0 where
  pub id : b.id ≡ a.id
  pub group : b.group ≡ a.group
  pub start : b.start ≡ a.start
  pub options : b.options ≡ a.options

pub Fixed-same : (a : Scalars) → Fixed a a
Fixed-same a = record { id = refl; group = refl; start = refl; options = refl }

pub Fixed-then : (a b c : Scalars) → Fixed a b → Fixed b c → Fixed a c
Fixed-then a b c f g =
    record { id = g.id ∙ f.id; group = g.group ∙ f.group; start = g.start ∙ f.start; options = g.options ∙ f.options }

pub followed-Fixed : (sc : Scalars) (peer ballot : ℕ) → Fixed sc (followed sc peer ballot)
followed-Fixed sc peer ballot =
    pick_both (Fixed sc) (ltb sc.bal_max_seen ballot) (record { id = refl; group = refl; start = refl; options = refl }) (Fixed-same sc)

-- a ballot that is not below the largest seen is the largest then
pub followed_seen : (sc : Scalars) (peer ballot : ℕ) → sc.bal_max_seen ≤ ballot → (followed sc peer ballot).bal_max_seen ≡ ballot
followed_seen sc peer ballot l =
    pick_cases (λ (x : Scalars). x.bal_max_seen ≡ ballot) (ltb sc.bal_max_seen ballot) (λ t. refl) (λ t. omega (arith, tests))

-- a bar in the peer accept table changes peer_accept_max alone
pub fallen_ways : (P : Scalars → Type 0) (sc : Scalars) (b : PeerBars) (m bar : ℕ) → P sc → ((max : ℕ) → P (with_peer_max sc max)) → P (with_fallen sc b m bar)
unfolding with_fallen
fallen_ways P sc b m bar p q =
    pick_both P (has_entry sc b m && (ltb bar (bar_of b m) && ltb (least_majority sc (with_bar sc b m bar) 9) sc.peer_accept_max))
    (q (least_majority sc (with_bar sc b m bar) 9)) p

pub fallen_fixed : (sc : Scalars) (b : PeerBars) (m bar : ℕ) → Fixed sc (with_fallen sc b m bar)
fallen_fixed sc b m bar = fallen_ways (Fixed sc) sc b m bar (Fixed-same sc) (λ max. record { id = refl; group = refl; start = refl; options = refl })
