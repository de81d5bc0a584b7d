-- The rest of specs/Learning.antt: what stands on a theorem that a must-fail edit makes false.
use Rattle.std.specs.Prelude.{◌≡◌, refl, true, ℕ}
use Rattle.std.proofs.Common.{sym, ◌∙◌, subst, arith}
use mathlib.Core.List.Memᴰ
use Rattle.base.specs.Among.{◌∈◌}
use Rattle.replica.specs.Record.{Outcome}
use Rattle.replica.specs.Step.{Call, call_commit_notice, step}
use Rattle.agreement.specs.Theorem.{Group, Mark, World, Reach, accept_entry, commit_entry}
use Rattle.agreement.specs.Local.{commit_earlier, commit_top}
use Rattle.agreement.specs.Group.{view_of, rises_commit}
use Rattle.agreement.proofs.Group.{framed, inv}
use Rattle.agreement.specs.Runs.{three, seven, mark, noticed_world, notice_marks}
use Rattle.agreement.proofs.Runs.{noticed_reached}
use Rattle.agreement.specs.Learning.{Learned, MarkAtLargest, MarkedEarlier, NoticeLearns, Raised, mark_raised, marks_by, notice_at}

module _ (g : Group) (w : World) (reach : Reach g w) (m : ℕ) (p : g.present m ≡ true) (room : ℕ) (c : Call) (k : Mark) (x : k ∈ marks_by w m room c) where
  abbrev pub o : Outcome
  o = step (w.replica m) room c

  raised : Raised m (w.replica m) o.replica k
  raised = mark_raised m (w.replica m) o.replica k x

  pub mark_committed : commit_entry k.slot k.ballot ∈ o.actions
  mark_committed =
      subst (λ (y : Mark). commit_entry k.slot y.ballot ∈ o.actions) (sym raised.held)
      (rises_commit (w.replica m) c o.answer o.replica o.actions (framed g w reach m p room c) k.slot raised.rose)

  entry_earlier : accept_entry k.slot k.ballot k.batch ∈ w.did m
  entry_earlier =
      subst (λ (y : Mark). accept_entry k.slot k.ballot y.batch ∈ w.did m) (sym raised.held)
      (commit_earlier m (view_of (w.replica m)) (w.did m) (w.did m) c o.answer (view_of o.replica) o.actions ((inv g w reach).local m p) (framed g w reach m p room c) k.slot
      k.ballot mark_committed)

  at_largest : k.ballot ≡ o.replica.sc.bal_max_seen
  at_largest =
      commit_top m (view_of (w.replica m)) (w.did m) (w.did m) c o.answer (view_of o.replica) o.actions ((inv g w reach).local m p) (framed g w reach m p room c) k.slot
      k.ballot mark_committed

pub marked_earlier : MarkedEarlier
marked_earlier g w reach m p room c k x = entry_earlier g w reach m p room c k x

pub mark_at_largest : MarkAtLargest
mark_at_largest g w reach m p room c k x = at_largest g w reach m p room c k x

pub notice_learns : NoticeLearns
notice_learns g w reach m q room p b bar k x =
    let c : Call = call_commit_notice p b bar in
    let (top, own) = notice_at (w.replica m) room p b bar k.slot k.ballot (mark_committed g w reach m q room c k x) in
    let e : k.ballot ≡ b = mark_at_largest g w reach m q room c k x ∙ top in
    let y : accept_entry k.slot b k.batch ∈ w.did m = subst (λ (n : ℕ). accept_entry k.slot n k.batch ∈ w.did m) e (marked_earlier g w reach m q room c k x) in
    let (p', own', z) = (inv g w reach).from m k.slot b k.batch y in
    let same : p' ≡ p = omega arith in
    record { ballot = e; owned = own; accepted = subst (λ (n : ℕ). accept_entry k.slot b k.batch ∈ w.did n) same z }

-- that it is about something: member 2 learns slot 1 from the notice of member 1, in the run `changed`
pub notice_learned : Learned noticed_world 1 514 (mark 2 1 514 seven)
unfolding three
notice_learned =
    notice_learns three noticed_world noticed_reached 2 refl 3456 1 514 2 (mark 2 1 514 seven) (rw notice_marks.marks (Memᴰ.tail (Memᴰ.head refl)))
