-- The rest of specs/Speaking.antt: what stands on a theorem that a must-fail edit makes false.
use Rattle.std.specs.Prelude.{List, [], ◌∷◌, ℕ, ◌≤◌}
use Rattle.std.proofs.Common.{arith}
use Rattle.base.specs.Among.{◌∈◌, All, All-append, All-map}
use Rattle.actions.specs.declared.Promised.{Promised}
use Rattle.actions.specs.declared.Action.TheVariants.{PrepareReply}
use Rattle.actions.specs.Actions.{act}
use Rattle.slots.specs.declared.Vote.{Vote}
use Rattle.replica.specs.declared.Replica.{Replica}
use Rattle.replica.specs.Record.{place}
use Rattle.voting.specs.History.{Lent, told}
use Rattle.voting.specs.Promises.{step_core}
use Rattle.voting.specs.Reached.{Good, Good-step}
use Rattle.voting.specs.Votes.{taken}
use Rattle.voting.proofs.Votes.{taken_above}
use Rattle.voting.specs.Speaking.{Kept, NotBelow, SaidOf, not_below, replies_on_completion, said_in, says_ok}

-- what is said in a history is not below what was seen before it
pub entries_above : (r : Replica) (h : List Lent) (n : ℕ) → Good r.sc r.window → n ≤ r.sc.bal_max_seen → All (λ x. NotBelow n x.what) (said_in r h)
entries_above r [] n g l = tt
entries_above r (c ∷ h) n g l =
    All-append (λ x. NotBelow n x.what) (told r c).actions (said_in (told r c).replica h)
    (All-map (λ x. SaidOf r c.call x.what) (λ x. NotBelow n x.what) (λ x s. not_below r c.call n l x.what s) (told r c).actions (says_ok r c.room c.call g))
    (entries_above (told r c).replica h n (Good-step r c g) (omega (arith, (step_core r c).seen)))

pub promise_kept : (r : Replica) (c : Lent) → Good r.sc r.window → (p : Promised) (keys : List ℕ) → act (PrepareReply p) keys ∈ (told r c).actions → (h : List Lent)
    → Kept (told r c).replica h p.ballot
promise_kept r c g p keys m h =
    let o = (replies_on_completion r c.room c.call g keys).0 p m in
    let l : p.ballot ≤ (told r c).replica.sc.bal_max_seen = omega (arith, o.at, g.slots (place r.sc p.slot), (step_core r c).seen) in
    record {
      votes = λ s.
          All-map (λ (v : Vote). (told r c).replica.sc.bal_max_seen ≤ v.ballot) (λ (v : Vote). p.ballot ≤ v.ballot) (λ v k. omega arith) (taken (told r c).replica h s)
          (taken_above (told r c).replica h s);
      entries = entries_above (told r c).replica h p.ballot (Good-step r c g) l;
    }
