-- The rest of specs/Commits.antt: what stands on a theorem that a must-fail edit makes false.
use Rattle.std.specs.Prelude.{◌≡◌, true, List, ◌∷◌, ◌++◌, ℕ}
use Rattle.std.proofs.Common.{sym, subst}
use mathlib.Core.List.Memᴰ
use Rattle.base.specs.Among.{◌∈◌}
use Rattle.actions.specs.Actions.{Act}
use Rattle.replica.specs.Record.{Outcome}
use Rattle.replica.specs.Step.{Call, step}
use Rattle.agreement.specs.Theorem.{Group, Mark, World, slot_of, marks_of, put, May, Reach, begins, turn, accept_entry, commit_entry}
use Rattle.agreement.specs.Group.{each, rises_commit, commit_rises, commit_earlier_in, accept_was_sent}
use Rattle.agreement.proofs.Group.{framed, inv}
use Rattle.agreement.specs.Commits.{CommitsFollow, Followed, MarksAreCommits, Split, first, in_middle, risen_marked, second, split, start_follow}

pub marks_are_commits : (g : Group) (w : World) → Reach g w → (m : ℕ) → g.present m ≡ true → (room : ℕ) (c : Call)
    → MarksAreCommits (w.replica m) (step (w.replica m) room c)
marks_are_commits g w r m p room c =
    let o : Outcome = step (w.replica m) room c in
    record {
      to = rises_commit (w.replica m) c o.answer o.replica o.actions (framed g w r m p room c);
      back = commit_rises (w.replica m) c o.answer o.replica o.actions (framed g w r m p room c);
    }

module _ (g : Group) (w : World) (reach : Reach g w) (ih : CommitsFollow w) (m : ℕ) (p : g.present m ≡ true) (room : ℕ) (c : Call) (a : May w m room c) where
  abbrev pub o : Outcome
  o = step (w.replica m) room c

  more_marks : {k : Mark} → k ∈ w.marks → k ∈ (put w m o).marks
  unfolding put
  more_marks x = Memᴰ.append_left (marks_of m (w.replica m) o.replica) x

  new_mark : {k : Mark} → k ∈ marks_of m (w.replica m) o.replica → k ∈ (put w m o).marks
  unfolding put
  new_mark x = Memᴰ.append_right w.marks x

  older : {j s b : ℕ} {earlier : List Act} → Followed w j s b earlier → Followed (put w m o) j s b earlier
  older f = record { batch = f.batch; marked = more_marks f.marked; entry = f.entry }

  own : (s b : ℕ) (earlier later : List Act) → Split (w.did m) o.actions earlier later (commit_entry s b) → Followed (put w m o) m s b earlier
  own s b earlier later (first l e) = older (ih m s b earlier l e)
  own s b earlier later (second l e u) =
      let x : commit_entry s b ∈ o.actions = subst (λ (y : List Act). commit_entry s b ∈ y) (sym u) (in_middle l later (commit_entry s b)) in
      let (t, q) = (marks_are_commits g w reach m p room c).back s b x in
      record {
        batch = (slot_of o.replica s).batch;
        marked =
            subst (λ (n : ℕ). record { who = m; slot = s; ballot = n; batch = (slot_of o.replica s).batch } ∈ (put w m o).marks) (sym q)
            (new_mark (risen_marked m (w.replica m) o.replica s t));
        entry = subst (λ (y : List Act). accept_entry s b (slot_of o.replica s).batch ∈ y) (sym e)
            (Memᴰ.append_left l (commit_earlier_in g w (inv g w reach) m p c o (framed g w reach m p room c) (accept_was_sent w m room c a) s b x));
      }

  follow_step : CommitsFollow (put w m o)
  follow_step j s b earlier later =
      each w m o (λ j r h. h ≡ earlier ++ (commit_entry s b ∷ later) → Followed (put w m o) j s b earlier) j
      (λ d e. older (ih j s b earlier later e))
      (λ e. own s b earlier later (split (w.did m) o.actions earlier later (commit_entry s b) e))

pub commits_follow : (g : Group) (w : World) → Reach g w → CommitsFollow w
commits_follow g w begins = start_follow g
commits_follow g w (turn {w = u} r m p room c a) = follow_step g u r (commits_follow g u r) m p room c a
