use mathlib.Core.Bool.{and-false}
use native.Mathlib.Omega.{arith}
use borrow.Author.Tests.{le-ltb, lt-leb}
use Rattle.base.specs.Pick.{refuted, granted}
use Rattle.decide.specs.Scalars.{fit_scalars}
use Rattle.decide.specs.NumberWays.{scalars_last}
use Rattle.std.proofs.Common.{ap}
use Rattle.std.specs.Prelude.{not}
use Rattle.decide.proofs.Scalars.is_fit.Goals as goal

pub returns-then-not-is_group_size : goal.returns-then-not-is_group_size
unfolding fit_scalars
returns-then-not-is_group_size c =
    let e = refuted c.is_group_size.ensures (ap not c.if-not-is_group_size.true) in
    simp e

pub returns-then-self : goal.returns-then-self
unfolding fit_scalars
returns-then-self c = simp (le-ltb _ _ c.if-self.true, and-false)

pub returns-then-self-gt-LAST_START : goal.returns-then-self-gt-LAST_START
unfolding fit_scalars
returns-then-self-gt-LAST_START c = simp (lt-leb _ _ c.if-self-gt-LAST_START.true, and-false)

pub returns-then-len-gt64 : goal.returns-then-len-gt64
unfolding fit_scalars
returns-then-len-gt64 c = simp (lt-leb _ _ c.if-len-gt64.true, and-false)

pub returns-then-not-known_leader : goal.returns-then-not-known_leader
unfolding fit_scalars
returns-then-not-known_leader c =
    let e = refuted c.known_leader.ensures (ap not c.if-not-known_leader.true) in
    simp (e, and-false)

pub returns-then-self-2 : goal.returns-then-self-2
unfolding fit_scalars
returns-then-self-2 c = simp (lt-leb _ _ c.if-self-2.true, and-false)

pub returns-then-self-3 : goal.returns-then-self-3
unfolding fit_scalars
returns-then-self-3 c = simp (lt-leb _ _ c.if-self-3.true, and-false)

pub returns-then-end-self : goal.returns-then-end-self
unfolding fit_scalars
returns-then-end-self c = simp (lt-leb _ _ c.if-end-self.true, and-false)

pub returns-then-self-4 : goal.returns-then-self-4
unfolding fit_scalars
returns-then-self-4 c = simp (lt-leb _ _ c.if-self-4.true, and-false)

pub returns : goal.returns
returns c =
    scalars_last _ _ (granted c.is_group_size.ensures (ap not c.if-not-is_group_size.false)) (omega arith) (omega arith) (omega arith)
    (granted c.known_leader.ensures (ap not c.if-not-known_leader.false)) (omega arith) (omega arith) (omega arith) (omega arith)
