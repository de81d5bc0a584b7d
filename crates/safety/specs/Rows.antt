-- What holds of a group of strict members in every scene that it comes to: the facts that name two members, or a member and a message.
use Rattle.std.specs.Prelude.{◌≡◌, Bool, true, false, List, [], ◌⊎◌, ℕ, ◌≤◌, ◌<◌}
use Rattle.base.specs.Among.{◌∈◌}
use Rattle.members.specs.Sets.{has}
use Rattle.actions.specs.declared.Promised.{Promised}
use Rattle.actions.specs.declared.Accepted.{Accepted}
use Rattle.actions.specs.declared.Notice.{Notice}
use Rattle.actions.specs.declared.Order.{Order}
use Rattle.actions.specs.declared.Action.TheVariants.{PrepareReply, AcceptReply, CommitNotice, Execute}
use Rattle.slots.specs.declared.Vote.{Vote}
use Rattle.slots.specs.declared.Slot.{Slot}
use Rattle.voting.specs.Paper.{Majority}
use Rattle.voting.specs.Core.{Obeys}
use Rattle.voting.specs.StrictVotes.{entry_of}
use Rattle.agreement.specs.Frame.{Owns}
use Rattle.agreement.specs.StrictTells.{told_vote}
use Rattle.safety.specs.Sight.{Sight, notes, acks, highest, counted, ordered}
use Rattle.safety.specs.Scene.{Scene, HasPromised, Cast, Voted, Lasts, Issued, NoneBelow, Fixed, deed}
use Rattle.safety.specs.Alone.{Alone}

-- what p's answer for slot s at ballot b, telling a vote, says and goes on to say: p has promised b; its votes in s below b are not above the vote told, which
-- it cast if it is one
pub record Tells (g : Scene) (p s b : ℕ) (vote : Vote) : Type 0 where
  pub promised : HasPromised g p b
  pub under : (x : Vote) → Voted g s p x → x.ballot < b → x.ballot ≤ vote.ballot
  pub low : vote.ballot ≤ b
  pub value : (vote.ballot ≡ 0) ⊎ Cast g s p vote

-- and a PrepareReply with endprep e: past e it has no vote below b
pub record Told (g : Scene) (p s e b : ℕ) (vote : Vote) : Type 0 where
  pub tells : Tells g p s b vote
  pub clear : (k : ℕ) → e < k → NoneBelow g p k b

-- q told of the largest vote heard for slot k in a lead at `sent`: it cast it, has promised, and has no vote between the two
pub record Teller (g : Scene) (group sent k : ℕ) (vote : Vote) (q : ℕ) : Type 0 where
  pub member : q < group
  pub promised : HasPromised g q sent
  pub under : (x : Vote) → Voted g k q x → x.ballot < sent → x.ballot ≤ vote.ballot
  pub cast : Cast g k q vote

-- at a leader, at its ballot `sent` and from its trigger on: whoever is noted at a Preparing slot has promised, and has no vote below that is above the
-- largest heard; the largest heard is none, or is below and some member cast it, with the batch that the slot has
pub record Noting (g : Scene) (group sent trigger : ℕ) (slot : ℕ → Slot) : Type 0 where
  pub promised : (k p : ℕ) → trigger ≤ k → (slot k).status ≡ 1 → has (notes (slot k)) p ≡ true → HasPromised g p sent
  pub under : (k p : ℕ) → trigger ≤ k → (slot k).status ≡ 1 → has (notes (slot k)) p ≡ true → (x : Vote) → Voted g k p x → x.ballot < sent → x.ballot ≤ highest (slot k)
  pub value : (k : ℕ) → trigger ≤ k → (slot k).status ≡ 1
      → (highest (slot k) ≡ 0) ⊎ ((highest (slot k) < sent) × ((q : ℕ) × Teller g group sent k (record { ballot = highest (slot k); batch = (slot k).batch }) q))

-- p stands behind what the leader proposes: it has promised; at each Preparing slot it is noted or has no vote below; past the log end it has none
pub record Stands (g : Scene) (sent trigger stop : ℕ) (slot : ℕ → Slot) (p : ℕ) : Type 0 where
  pub promised : HasPromised g p sent
  pub each : (k : ℕ) → trigger ≤ k → (slot k).status ≡ 1 → (has (notes (slot k)) p ≡ true) ⊎ NoneBelow g p k sent
  pub past : (k : ℕ) → stop ≤ k → NoneBelow g p k sent

-- of a leader: so do all that are counted; and where its ballot is prepared, some majority does, for good
pub record Leading (g : Scene) (v : Sight) : Type 0 where
  pub noting : Noting g v.group v.sent v.trigger v.slot
  pub counts : (p : ℕ) → has (counted v) p ≡ true → Stands g v.sent v.trigger v.stop v.slot p
  pub most : v.prepared ≡ v.sent → (set : ℕ) × Majority v.group set × ((p : ℕ) → has set p ≡ true → Stands g v.sent v.trigger v.stop v.slot p)

pub record Sound (size : ℕ) (present : ℕ → Bool) (g : Scene) : Type 0 where
  pub alone : (m : ℕ) → present m ≡ true → Alone m (g.sight m) (g.did m) (g.log m) (g.reported m)
  pub sized : (m : ℕ) → present m ≡ true → (g.sight m).group ≡ size
  pub nothing : (m : ℕ) → present m ≡ false → (g.did m ≡ []) × (g.log m ≡ [])
  -- an accept entry stands also with the owner of its ballot
  pub from : (m s : ℕ) (x : Vote) → entry_of s x ∈ g.did m → Issued g s x
  pub told : (p : ℕ) (a : Promised) (keys : List ℕ) → deed (PrepareReply a) keys ∈ g.did p → (Owns p a.ballot → ⊥)
      → Told g p a.slot a.endprep a.ballot (told_vote a keys)
  -- an AcceptReply tells of a vote that lasts
  pub took : (p : ℕ) (a : Accepted) (keys : List ℕ) → deed (AcceptReply a) keys ∈ g.did p → (x : Vote) × (x.ballot ≡ a.ballot) × Lasts g a.slot p x
  pub lead : (m : ℕ) → present m ≡ true → (g.sight m).leading ≡ true → Leading g (g.sight m)
  -- who acknowledged a slot at the ballot of the lead has a vote there that lasts
  pub acked : (m : ℕ) → present m ≡ true → (g.sight m).leading ≡ true → (s p : ℕ) → ((g.sight m).slot s).ballot ≡ (g.sight m).sent → has (acks ((g.sight m).slot s)) p ≡ true
      → (x : Vote) × (x.ballot ≡ ((g.sight m).slot s).ballot) × Lasts g s p x
  -- 2.2, P2c
  pub obeys : (s : ℕ) (x : Vote) → Issued g s x → Obeys size (HasPromised g) (Cast g s) (Voted g s) x
  -- what a leader proposed at the ballot of a CommitNotice, below the bar told, is chosen
  pub notice : (p : ℕ) (a : Notice) (keys : List ℕ) → deed (CommitNotice a) keys ∈ g.did p
      → Owns p a.ballot × ((s : ℕ) (x : Vote) → s < a.bar → x.ballot ≡ a.ballot → entry_of s x ∈ g.did p → Fixed size g s x.ballot x.batch)
  -- a batch that is executed is chosen
  pub executed : (m : ℕ) (o : Order) (keys : List ℕ) → deed (Execute o) keys ∈ g.did m → (b : ℕ) × Fixed size g o.slot b (ordered o keys)
  -- what a slot committed is chosen, at its ballot or below
  pub done : (m : ℕ) → present m ≡ true → (s : ℕ) → 3 ≤ ((g.sight m).slot s).status → Fixed size g s ((g.sight m).slot s).ballot ((g.sight m).slot s).batch
