-- A PrepareReply, decided before anything is written: what becomes of the scalars, its slot and its trigger's.
use Rattle.std.specs.Prelude.{Bool, false, not, ◌&&◌, ℕ, eqb, Result, Ok, Err}
use Rattle.base.specs.Pick.{pick}
use Rattle.slots.specs.declared.Slot.{Slot}
use Rattle.decide.specs.declared.Scalars.{Scalars}
use Rattle.decide.specs.declared.Reply.{Reply}
use Rattle.decide.specs.declared.Refusal.{Refusal}
use Rattle.decide.specs.declared.Weighed as code
use Rattle.decide.specs.Decide.{Decided, number, goes_on, decide_vote, is_counted, decide_count}

-- 10: "batch with numbers outside the above", where a vote is present; the answer is that of making its batch
abbrev pub bad_vote : Bool → ℕ → Bool
bad_vote voted answer = voted && not (eqb answer 0)

-- what a PrepareReply decides: its answer; whether the slot's batch goes into the key table and the slots from the trigger on enter Accept; the
-- scalars, the slot and the trigger's after it
pub record Weighed : Type 0 where
  pub answer : ℕ
  pub noted : Bool
  pub enters : Bool
  pub sc : Scalars
  pub slot : Slot
  pub trigger : Slot

-- refused, or nothing but the peer accept table and the appended slots
abbrev pub unmoved : ℕ → Scalars → Slot → Slot → Weighed
unmoved answer sc s t = record { answer = answer; noted = false; enters = false; sc = sc; slot = s; trigger = t }

-- the code's values, as `as_done` and `decided` of Decide
abbrev pub as_weighed : code.Weighed → Weighed
as_weighed g = record { answer = 0; noted = g.noted; enters = g.enters; sc = g.sc; slot = g.slot; trigger = g.trigger }

abbrev pub weighing : Scalars → Slot → Slot → Result code.Weighed Refusal → Weighed
weighing sc s t (Ok g) = as_weighed g
weighing sc s t (Err e) = unmoved (number e) sc s t

-- d is the vote's decision, e the count's; `counts` is whether the member counts, which the slots from the trigger on tell
abbrev pub weighed_count : Scalars → Slot → Slot → Decided → Decided → Weighed
weighed_count sc s t d e =
    pick (not (eqb e.answer 0)) (unmoved e.answer sc s t)
    (record { answer = 0; noted = d.noted; enters = is_counted e.sc e.slot; sc = e.sc; slot = d.slot; trigger = e.slot })

abbrev pub weighed_vote : Scalars → Slot → Slot → Bool → Bool → ℕ → Reply → Decided → Weighed
weighed_vote sc s t own counts peer m d =
    pick (not (eqb d.answer 0)) (unmoved d.answer sc s t)
    (pick (not counts)
    (record { answer = 0; noted = d.noted; enters = false; sc = d.sc; slot = d.slot; trigger = pick own d.slot t })
    (weighed_count sc s t d (decide_count sc (pick own d.slot t) peer m.ballot)))

-- the slot s and its trigger t, which are one where `own` holds
unfoldable pub weighed : Scalars → Slot → Slot → Bool → Bool → ℕ → Reply → Weighed
weighed sc s t own counts peer m =
    pick (not (goes_on sc s m.ballot)) (unmoved 0 sc s t)
    (weighed_vote sc s t own counts peer m (decide_vote sc s m.ballot m.voted m.vote))
