use mathlib.Core.Path.{◌≡◌, refl}
use Rattle.std.specs.Prelude.{Some, None}
use Rattle.replica.specs.declared.Refusal.TheVariants.{Conflict}
use Rattle.replica.specs.ActingLaws.{refused_told, ignored_told}
use Rattle.replica.specs.ReadCallLaws.{reply_closes, reply_waits, reply_clashes, reply_refused}
use Rattle.replica.proofs.Replica.replied.Goals as goal

pub returns-in-Ok-Some : goal.returns-in-Ok-Some
returns-in-Ok-Some c =
    let a = c.args in
    let some : c.in-Ok-Some.field-0 ≡ Some c.in-Ok-Some.answers = rw c.in-Ok-Some.is at c.in-Ok-Some.field-0-is in
    rw (c.in-Ok-Some.is, some) (reply_closes a.self a.i a.d.read c.in-Ok-Some.answers c.put_answers.ensures c.close-self.ensures c.requires.sum)

pub returns-in-Ok-None : goal.returns-in-Ok-None
returns-in-Ok-None c =
    let a = c.args in
    let none : c.in-Ok-None.field-0 ≡ None = rw c.in-Ok-None.is at c.in-Ok-None.field-0-is in
    rw (c.in-Ok-None.is, none) (ignored_told _ refl (reply_waits a.self a.i a.d.read c.put-self.ensures) c.requires.sum)

pub returns-in-Conflict : goal.returns-in-Conflict
returns-in-Conflict c =
    let a = c.args in
    rw (c.in-Err.is, c.in-Conflict.is) (refused_told Conflict _ refl (reply_clashes a.self a.i a.d.read c.put-self-in-Conflict.ensures))

pub returns-in_default : goal.returns-in_default
returns-in_default c =
    let a = c.args in
    rw c.in-Err.is (refused_told _ a.self refl (rw c.from.ensures (reply_refused a.self a.i a.d.read c.in-Err.error c.in_default.not-Conflict)))
