-- A read that members answer one after the other, none marked from the leader: what it knows then, and whom it has heard, does not depend on their order,
-- nor on how often each is told.
use Rattle.std.specs.Prelude.{◌≡◌, refl, true, false, List, [], ◌∷◌, map, ℕ, ◌<◌, eqb}
use Rattle.std.proofs.Common.{sym, ◌∙◌, ⊎_elim, eqb-true}
use mathlib.Core.List.Memᴰ
use Rattle.base.specs.Pick.{pick, pick_cases, decide, clash, or-false}
use Rattle.base.specs.Among.{◌∈◌, SameMembers}
use Rattle.members.specs.Sets.{has, insert}
use Rattle.members.specs.Laws.{has-insert, insert_below}
use Rattle.members.specs.Many.{insert_all, Members}
use Rattle.tally.specs.declared.Tally.{Tally}
use Rattle.tally.specs.declared.Read.{Read}
use Rattle.tally.specs.Open.{with_tally, with_ack, reply_to}
use Rattle.tally.specs.AnyOrder.{Eight, Agreeing, Consistent, merge_all, joined}

-- WHAT IS SAID

-- the read after the replies of the list's members, in its order; what member m replies is said m
abbrev pub read_after : ℕ → (ℕ → Tally) → Read → List ℕ → Read
read_after quorum said d [] = d
read_after quorum said d (m ∷ ms) = read_after quorum said (reply_to quorum m false (said m) d).read ms

-- the replies of members not yet acknowledged agree with what the read knows and with each other
pub record Agreed (said : ℕ → Tally) (d : Read) (ms : List ℕ) : Type 0 where
  pub eight : Eight d.tally
  pub set : d.acks < 512
  pub members : Members ms
  pub with_held : (m : ℕ) → m ∈ ms → has d.acks m ≡ false → Agreeing d.tally (said m)
  pub with_each : (m n : ℕ) → m ∈ ms → n ∈ ms → has d.acks m ≡ false → has d.acks n ≡ false → Agreeing (said m) (said n)

-- 02: "any order and any repetition of the same replies": members' lists with the same members
abbrev pub ReadAnyOrder : Type 0
ReadAnyOrder = (quorum : ℕ) (said : ℕ → Tally) (d : Read) (k l : List ℕ) → Agreed said d k → SameMembers k l → read_after quorum said d k ≡ read_after quorum said d l

-- the members not yet acknowledged, as they first come
abbrev pub newcomers : ℕ → List ℕ → List ℕ
newcomers acks [] = []
newcomers acks (m ∷ ms) = pick (has acks m) (newcomers acks ms) (m ∷ newcomers (insert acks m) ms)

-- who is not in a set with one put in is not in it without, and is another
pub out_before : (acks m x : ℕ) → acks < 512 → m < 9 → x < 9 → has (insert acks m) x ≡ false → (eqb x m ≡ false) × (has acks x ≡ false)
out_before acks m x s l h e = or-false (eqb x m) (has acks x) (sym (has-insert acks m x s l h) ∙ e)

pub newcomers_from : (acks : ℕ) (ms : List ℕ) (x : ℕ) → acks < 512 → Members ms → x ∈ newcomers acks ms → (x ∈ ms) × (has acks x ≡ false)
newcomers_from acks [] x s h p = absurd (Memᴰ.not-nil p)
newcomers_from acks (m ∷ ms) x s h p =
    let rest : Members ms = λ y p. h y (Memᴰ.tail p) in
    let Found : Type 0 = (x ∈ (m ∷ ms)) × (has acks x ≡ false) in
    pick_cases (λ (l : List ℕ). x ∈ l → Found) (has acks m)
    (λ t o. let q = newcomers_from acks ms x s rest o in (Memᴰ.tail q.0, q.1))
    (λ t o.
    ⊎_elim (λ (e : x ≡ m). (Memᴰ.head e, rw e t))
    (λ (u : x ∈ newcomers (insert acks m) ms).
    let q = newcomers_from (insert acks m) ms x (insert_below acks m s) rest u in
    (Memᴰ.tail q.0, (out_before acks m x s (h m (Memᴰ.head refl)) (rest x q.0) q.1).1))
    (Memᴰ.cases_cons o))
    p

pub in_newcomers : (acks : ℕ) (ms : List ℕ) (x : ℕ) → acks < 512 → Members ms → x ∈ ms → has acks x ≡ false → x ∈ newcomers acks ms
in_newcomers acks [] x s h o e = elim o [ ]
in_newcomers acks (m ∷ ms) x s h o e =
    let rest : Members ms = λ y p. h y (Memᴰ.tail p) in
    pick_cases (λ (l : List ℕ). x ∈ l) (has acks m)
    (λ t. ⊎_elim (λ (f : x ≡ m). absurd (clash (rw f t) e)) (λ (p : x ∈ ms). in_newcomers acks ms x s rest p e) (Memᴰ.cases_cons o))
    (λ t.
    ⊎_elim (λ (f : x ≡ m). Memᴰ.head f)
    (λ (p : x ∈ ms).
    ⊎_elim (λ (f : eqb x m ≡ true). Memᴰ.head (eqb-true x m f))
    (λ (f : eqb x m ≡ false).
    Memᴰ.tail
    (in_newcomers (insert acks m) ms x (insert_below acks m s) rest p (has-insert acks m x s (h m (Memᴰ.head refl)) (rest x p) ∙ rw (f, e))))
    (decide (eqb x m)))
    (Memᴰ.cases_cons o))

pub newcomers_same : (acks : ℕ) (k l : List ℕ) → acks < 512 → Members k → SameMembers k l → SameMembers (newcomers acks k) (newcomers acks l)
newcomers_same acks k l s h w =
    record {
      there = λ x o. let q = newcomers_from acks k x s h o in in_newcomers acks l x s other (w.there x q.0) q.1;
      back = λ x o. let q = newcomers_from acks l x s other o in in_newcomers acks k x s h (w.back x q.0) q.1;
    }
  where
    other : Members l
    other m o = h m (w.back m o)

-- ONE REPLY, AND MANY

-- the read after a reply that is counted
abbrev pub joined_by : (ℕ → Tally) → Read → ℕ → Read
joined_by said d m = with_ack (with_tally d (joined d.tally (said m))) m

-- the read after many: whom it has heard, and what it knows
abbrev pub collected : (ℕ → Tally) → Read → List ℕ → Read
collected said d ms = record { id = d.id; acks = insert_all d.acks ms; keys = d.keys; tally = merge_all d.tally (map said (newcomers d.acks ms)) }

module _ (said : ℕ → Tally) where
  pub new_consistent : (d : Read) (ms : List ℕ) → Agreed said d ms → Consistent d.tally (map said (newcomers d.acks ms))
  new_consistent d ms g =
      record {
        with_held = λ t o.
            let u = Memᴰ.of_map said (newcomers d.acks ms) o in
            let q = newcomers_from d.acks ms u.0 g.set g.members u.1 in rw (← u.2) (g.with_held u.0 q.0 q.1);
        with_each = λ s t o p.
            let u = Memᴰ.of_map said (newcomers d.acks ms) o in
            let v = Memᴰ.of_map said (newcomers d.acks ms) p in
            let q = newcomers_from d.acks ms u.0 g.set g.members u.1 in
            let r = newcomers_from d.acks ms v.0 g.set g.members v.1 in
            rw (← u.2, ← v.2) (g.with_each u.0 v.0 q.0 r.0 q.1 r.1);
      }

  pub Agreed-within : (d : Read) (k l : List ℕ) → Agreed said d k → ((m : ℕ) → m ∈ l → m ∈ k) → Agreed said d l
  Agreed-within d k l g w =
      record {
        eight = g.eight;
        set = g.set;
        members = λ m o. g.members m (w m o);
        with_held = λ m o. g.with_held m (w m o);
        with_each = λ m n o p. g.with_each m n (w m o) (w n p);
      }

  pub Agreed-same : (d : Read) (k l : List ℕ) → Agreed said d k → SameMembers k l → Agreed said d l
  Agreed-same d k l g w = Agreed-within d k l g w.back
