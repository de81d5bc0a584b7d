-- The rest of specs/Entries.antt: what stands on a theorem that a must-fail edit makes false.
use Rattle.std.specs.Prelude.{◌≡◌, true, ℕ}
use Rattle.std.proofs.Common.{subst}
use Rattle.base.specs.Among.{◌∈◌, All, All-in, All-append, All-map}
use Rattle.batch.specs.declared.Batch.{Batch}
use Rattle.replica.specs.declared.Replica.{Replica}
use Rattle.replica.specs.Record.{Outcome}
use Rattle.replica.specs.Step.{step}
use Rattle.agreement.specs.Theorem.{Group, World, Reach, begins, turn, accept_entry}
use Rattle.agreement.specs.Frame.{Clean, InWindow, ActOk}
use Rattle.agreement.specs.Group.{view_of, each}
use Rattle.agreement.proofs.Group.{stays_in, framed}
use Rattle.agreement.specs.Entries.{EntriesFit, EntryOk, none_yet}

-- every present member's log begins at the group's start
pub starts_in : (g : Group) (w : World) → Reach g w → (m : ℕ) → g.present m ≡ true → (w.replica m).sc.start ≡ g.start
starts_in g = stays_in (λ (r : Replica). r.sc.start) g (λ w r m p room c. (framed g w r m p room c).fixed)

pub entries_fit : EntriesFit
entries_fit g w begins = none_yet g
entries_fit g w (turn {w = u} r m p room c a) = λ j.
    each u m o (λ j q h. All (EntryOk g.start) h) j (λ _. entries_fit g u r j)
    (All-append (EntryOk g.start) (u.did m) o.actions (entries_fit g u r m)
    (subst (λ (n : ℕ). All (EntryOk n) o.actions) (starts_in g u r m p)
    (All-map (ActOk (view_of (u.replica m)) c (view_of o.replica) o.actions) (EntryOk (u.replica m).sc.start) (λ x h. h.1) o.actions (framed g u r m p room c).said)))
  where
    o : Outcome
    o = step (u.replica m) room c

-- an accept entry: its slot and its batch
pub accept_fits : (g : Group) (w : World) → Reach g w → (m s ballot : ℕ) (b : Batch) → accept_entry s ballot b ∈ w.did m → InWindow g.start s × Clean b
accept_fits g w r m s ballot b x = All-in (EntryOk g.start) (entries_fit g w r m) x
