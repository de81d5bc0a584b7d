-- The rest of specs/Entering.antt: what stands on a theorem that a must-fail edit makes false.
use Rattle.std.specs.Prelude.{◌≡◌, List, [], ◌∷◌, ◌++◌, ℕ, ◌-◌}
use Rattle.std.proofs.Common.{ap, ◌∙◌, subst, arith}
use Rattle.base.specs.Among.{◌∈◌}
use Rattle.actions.specs.Actions.{Act}
use Rattle.decide.specs.declared.Reply.{Reply}
use Rattle.window.specs.ByPlace.{at_place}
use Rattle.replica.specs.declared.Replica.{Replica}
use Rattle.replica.specs.Record.{number}
use Rattle.replica.specs.Step.{call_prepare_reply, call_logged, step}
use Rattle.laws.specs.WaysDurability.{completion}
use Rattle.voting.specs.Reached.{Good, Good-play}
use Rattle.voting.specs.Quorums.{kind_of}
use Rattle.replica.specs.declared.Entry.TheVariants.{PrepareBal}
use Rattle.voting.specs.Logging.{own_answer}
use Rattle.voting.specs.History.{Lent, told, play, play-append}
use Rattle.voting.specs.Promises.{step_core, play-Grows}
use Rattle.voting.specs.Paper.{Choice}
use Rattle.voting.specs.Heard.{held_at, heard_in}
use Rattle.voting.proofs.Choice.{choice}
use Rattle.batch.specs.declared.Batch.{Batch}
use Rattle.voting.specs.Entering.{Entered, WithChoice, own_enters_with, reply_enters_with}

Entered-WithChoice : (r : Replica) (h : List Lent) (c : Lent) (ballot : ℕ) → Good r.sc r.window → (x : Act)
    → Entered (play r h) ballot (told (play r h) c).replica.window x → WithChoice r h c ballot x
Entered-WithChoice r h c ballot g x (i, l, t, e) =
    let n : ℕ = number (play r h).sc i in
    let same : n - (told (play r h) c).replica.sc.start ≡ i = omega (arith, (step_core (play r h) c).start) in (
      n,
      (at_place (told (play r h) c).replica.window i).batch,
      e,
      λ z q.
          subst (λ (b : Batch). Choice (held_at r n).batch (heard_in r (h ++ (c ∷ [])) n) b)
          (ap (λ (y : Replica). (held_at y n).batch) (play-append r h c) ∙ ap (λ (y : ℕ). (at_place (told (play r h) c).replica.window y).batch) same)
          (choice r (h ++ (c ∷ [])) n g (omega (arith, (play-Grows r h).start)) z q),
    )

-- from a replica reached from a new one, over any history: each Accept that an arriving reply makes a leader send
pub enters_with_choice : (r : Replica) (h : List Lent) (room peer : ℕ) (m : Reply) → Good r.sc r.window → (x : Act)
    → x ∈ (step (play r h) room (call_prepare_reply peer m)).actions → kind_of x ≡ 6
    → WithChoice r h (record { room = room; call = call_prepare_reply peer m }) m.ballot x
enters_with_choice r h room peer m g x o k =
    Entered-WithChoice r h _ m.ballot g x (reply_enters_with (play r h) room peer m (Good-play r h g).whole x o k)

-- and each that its own reply makes it send, at the end of its PrepareBal entry
pub own_enters_with_choice : (r : Replica) (h : List Lent) (room slot bal size : ℕ) → Good r.sc r.window → (x : Act)
    → x ∈ (step (play r h) room (call_logged (completion PrepareBal slot bal size))).actions → kind_of x ≡ 6
    → WithChoice r h (record { room = room; call = call_logged (completion PrepareBal slot bal size) })
    (own_answer (play r h) (completion PrepareBal slot bal size)).ballot x
own_enters_with_choice r h room slot bal size g x o k =
    Entered-WithChoice r h _ _ g x (own_enters_with (play r h) room slot bal size (Good-play r h g).whole x o k)
