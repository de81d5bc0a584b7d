-- The rest of specs/Larger.antt: what stands on a theorem that a must-fail edit makes false.
use Rattle.std.specs.Prelude.{◌≡◌, ◌≤◌, Ok}
use Rattle.std.proofs.Common.{sym, ap, ◌∙◌, le_refl}
use Rattle.base.specs.Pick.{larger, larger_left}
use Rattle.tally.specs.declared.Best.{Best}
use Rattle.tally.specs.Merge.{merge_key, merged_best}
use Rattle.tally.specs.Larger.{Agree, Agree-merges, Agree-self, Agree-sym, level, merged_into, merged_more, more_agrees, more_associates, more_commutes, more_known, more_left, more_level, more_self, valued}

-- so nothing known is lost: neither falls a slot nor goes a value but to a larger slot
pub merged_level : (held reply : Best) → level (merged_best held (merge_key held reply)) ≡ larger (level held) (level reply)
merged_level held reply = ap level (merged_more held reply) ∙ more_level held reply

pub merged_rises : (held reply : Best) → level held ≤ level (merged_best held (merge_key held reply))
merged_rises held reply = rw (merged_level held reply) (larger_left (level held) (level reply))

-- THE THREE LAWS. 02: "merging is commutative, associative and idempotent", since where two agree it is the larger of the two in one order
pub key_larger : (a b : Best) → Agree a b → merge_key a b ≡ Ok (more_known a b)
key_larger a b g = merged_into a (merge_key a b) (Agree-merges a b g) ∙ ap (λ (x : Best). Ok x) (merged_more a b)

pub key_idempotent : (a : Best) → merge_key a a ≡ Ok a
key_idempotent a = key_larger a a (Agree-self a) ∙ ap (λ (x : Best). Ok x) (more_self a)

pub key_commutes : (a b : Best) → Agree a b → merge_key a b ≡ merge_key b a
key_commutes a b g = key_larger a b g ∙ (ap (λ (x : Best). Ok x) (more_commutes a b g) ∙ sym (key_larger b a (Agree-sym a b g)))

pub key_associates : (a b c x y : Best) → Agree a b → Agree b c → Agree a c → merge_key a b ≡ Ok x → merge_key b c ≡ Ok y → merge_key x c ≡ merge_key a y
key_associates a b c x y p q r e f =
    let left : x ≡ more_known a b = ap (merged_best a) (sym e ∙ key_larger a b p) in
    let right : y ≡ more_known b c = ap (merged_best b) (sym f ∙ key_larger b c q) in
    rw (left, right)
    (key_larger (more_known a b) c (more_agrees a b c r q)
    ∙ (ap (λ (z : Best). Ok z) (more_associates a b c)
    ∙ sym (key_larger a (more_known b c) (Agree-sym (more_known b c) a (more_agrees b c a (Agree-sym a b p) (Agree-sym a c r))))))

-- and the condition is needed: where both orders leave the same, the two agree
pub commutes_agree : (a b : Best) → merged_best a (merge_key a b) ≡ merged_best b (merge_key b a) → Agree a b
commutes_agree a b g slot v w e f =
    valued
    (sym e
    ∙ (sym (merged_more a b ∙ more_left a b (rw (e, f) (le_refl _))) ∙ (g ∙ (merged_more b a ∙ (more_left b a (rw (e, f) (le_refl _)) ∙ f)))))
