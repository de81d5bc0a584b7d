-- Which members count as having answered a leader's Prepare.
use Rattle.std.specs.Prelude.{Bool, not, ◌&&◌, ◌||◌, ℕ, ◌+◌, ◌-◌, ltb, leb, eqb}
use Rattle.base.specs.Pick.{pick}
use Rattle.base.specs.Find.{any}
use Rattle.members.specs.Sets.{has}
use Rattle.slots.specs.Slots.{lacks_note}
use Rattle.decide.specs.declared.Scalars.{Scalars}
use Rattle.decide.specs.declared.Reply.{Reply}
use Rattle.decide.specs.Scalars.{strict}
use Rattle.window.specs.declared.Window.{Window}
use Rattle.window.specs.Window.{slot_at}

-- some Preparing slot of a range has not been noted from a member
unfoldable pub lacking : Window → ℕ → ℕ → ℕ → Bool
lacking w peer from to = any (λ i. lacks_note peer (slot_at w i)) from to

-- "slot e exists at the leader"
abbrev pub is_present : Scalars → Window → ℕ → Bool
is_present sc w e = leb sc.start e && ltb (e - sc.start) w.len

-- 01: "a member counts on its reply for its own endprep slot". 02, Wish 6, (c): "A member counts once some reply of its with endprep e arrives when
-- slot e exists at the leader and every slot from trigger to e that is Preparing there has been noted from that member": once counted, at the
-- trigger slot at place j, counted for this lead
unfoldable pub counts : Scalars → Window → ℕ → ℕ → Reply → Bool
counts sc w j peer m =
    pick (strict sc)
    (has (slot_at w j).leader.prepare_acks peer || (is_present sc w m.endprep && not (lacking w peer j (m.endprep - sc.start + 1))))
    (eqb m.slot m.endprep)

-- the same of any numbers: a window has 64 places
unfoldable pub lacking_in : Window → ℕ → ℕ → ℕ → Bool
lacking_in w peer from to = leb to 64 && lacking w peer from to

unfoldable pub counts_in : Scalars → Window → ℕ → ℕ → Reply → Bool
counts_in sc w j peer m = leb w.len 64 && (ltb j 64 && counts sc w j peer m)
