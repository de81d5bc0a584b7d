use mathlib.Core.Path.{◌≡◌, sym, ◌∙◌}
use Prim.Native.Nat.{◌-◌}
use native.Mathlib.Omega.{arith}
use Rattle.std.specs.Prelude.{length, replicate}
use Rattle.std.proofs.Common.{inl, inr, rules}
use Rattle.window.specs.Laws.{filled_part}
use Rattle.window.specs.BoundedLaws.{filled_in_lem, filled_not}
use Rattle.window.proofs.Window.fill_to.Goals as goal

pub returns-then-n-gt-SLOTS : goal.returns-then-n-gt-SLOTS
returns-then-n-gt-SLOTS c = let a = c.args in filled_not a.slot a.self.now a.n (inl c.if-n-gt-SLOTS.true)

pub returns-then-n-self : goal.returns-then-n-self
returns-then-n-self c = let a = c.args in filled_not a.slot a.self.now a.n (inr (c.if-n-gt-SLOTS.false, c.if-n-self.true))

pub returns : goal.returns
returns c =
    let a = c.args in
    let long : length a.self.now.slots ≡ 64 = search rules in
    let part : c.fill.new.self ≡ replicate (a.n - a.self.now.len) a.slot = search rules in
    filled_part a.slot a.self.now a.n c.fill.new.self c.if-n-self.false (omega (arith, c.if-n-gt-SLOTS.false)) part ∙ sym (filled_in_lem a.slot a.self.now a.n c.if-n-gt-SLOTS.false)
