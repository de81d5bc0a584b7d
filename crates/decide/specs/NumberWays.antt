-- Each way out of the tests on the numbers, as the code takes it.
use Rattle.std.specs.Prelude.{◌≡◌, Bool, true, false, not, ◌&&◌, ◌||◌, ℕ, ◌+◌, ◌≤◌, ◌<◌, ltb, leb, eqb}
use Rattle.std.proofs.Common.{sym, ap, ◌∙◌, arith, lt-ltb, le-ltb, le-leb, eq-eqb, ne_eqb, leb-true}
use Rattle.std.proofs.Math.Bool.{and-false, or-true, or-false}
use Rattle.base.specs.Pick.{and_left, and_right}
use Rattle.members.specs.Groups.{group_size}
use Rattle.decide.specs.declared.Scalars.{Scalars}
use Rattle.decide.specs.Scalars.{nobody, disallowed, urgent, fit_scalars, ignores_timeout, notifies}

-- ── whether they are fit ──
-- the last test of the numbers decides, where the others have passed
pub scalars_last : (sc : Scalars) (len : ℕ) → group_size sc.group ≡ true → sc.id < sc.group → sc.start ≤ 4294967296 → len ≤ 64
    → (eqb sc.leader 255 || ltb sc.leader sc.group) ≡ true → sc.start ≤ sc.exec_bar → sc.exec_bar ≤ sc.commit_bar
    → sc.commit_bar ≤ sc.start + len → sc.start ≤ sc.accept_bar → leb sc.accept_bar (sc.start + len) ≡ fit_scalars sc len
unfolding fit_scalars
scalars_last sc len g i s l k e c n a =
    rw (
      g,
      lt-ltb sc.id sc.group i,
      le-leb sc.start 4294967296 s,
      le-leb len 64 l,
      k,
      le-leb sc.start sc.exec_bar e,
      le-leb sc.exec_bar sc.commit_bar c,
      le-leb sc.commit_bar (sc.start + len) n,
      le-leb sc.start sc.accept_bar a,
    )

-- the slots in use are places of the window
pub scalars_len : (sc : Scalars) (len : ℕ) → fit_scalars sc len ≡ true → len ≤ 64
unfolding fit_scalars
scalars_len sc len e =
    let a = and_right (group_size sc.group) _ e in
    let b = and_right (ltb sc.id sc.group) _ a in
    let c = and_right (leb sc.start 4294967296) _ b in
    leb-true len 64 (and_left (leb len 64) _ c)

-- ── whether a timeout is ignored ──
module _ (sc : Scalars) (source : ℕ) {b : Bool} (e : b ≡ disallowed sc) where
  -- a leader is known and is not the source
  abbrev other_leads : Bool
  other_leads = not (eqb sc.leader nobody) && not (eqb sc.leader source)

  ignores_as : (other_leads || b) ≡ ignores_timeout sc source
  ignores_as = ap (λ (t : Bool). other_leads || t) e

  pub ignores_disallowed : b ≡ true → true ≡ ignores_timeout sc source
  ignores_disallowed h = sym (ap (λ (t : Bool). other_leads || t) h ∙ or-true other_leads) ∙ ignores_as

  pub ignores_none : b ≡ false → sc.leader ≡ 255 → false ≡ ignores_timeout sc source
  ignores_none h n = sym (rw (h, eq-eqb sc.leader 255 n)) ∙ ignores_as

  pub ignores_other : b ≡ false → (sc.leader ≡ 255 → ⊥) → not (eqb sc.leader source) ≡ ignores_timeout sc source
  ignores_other h n = sym (rw (h, ne_eqb sc.leader 255 n) (or-false (not (eqb sc.leader source)))) ∙ ignores_as

-- ── whether a notice is sent ──
module _ (sc : Scalars) (bar end : ℕ) where
  pub silent_end : (bar ≡ end → ⊥) → false ≡ notifies sc bar end
  silent_end h = rw (ne_eqb bar end h)

  pub silent_follower : (sc.leader ≡ sc.id → ⊥) → false ≡ notifies sc bar end
  silent_follower h = rw (ne_eqb sc.leader sc.id h, and-false)

  pub silent_unprepared : sc.bal_prepared ≡ 0 → false ≡ notifies sc bar end
  silent_unprepared h = rw (le-ltb 0 sc.bal_prepared (omega arith), and-false, and-false)

  pub silent_outdated : (sc.bal_prepared ≡ sc.bal_max_seen → ⊥) → false ≡ notifies sc bar end
  silent_outdated h = rw (ne_eqb sc.bal_prepared sc.bal_max_seen h, and-false, and-false, and-false)

  pub notifies_last : bar ≡ end → sc.leader ≡ sc.id → (sc.bal_prepared ≡ 0 → ⊥) → sc.bal_prepared ≡ sc.bal_max_seen → urgent sc ≡ notifies sc bar end
  notifies_last a b c d =
      rw (
        eq-eqb bar end a,
        eq-eqb sc.leader sc.id b,
        lt-ltb 0 sc.bal_prepared (omega arith),
        eq-eqb sc.bal_prepared sc.bal_max_seen d,
      )
