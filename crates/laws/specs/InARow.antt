-- Replies to an open read, one after the other and up to the quorum: neither order nor repetition makes a difference. The statement is `InAnyOrder`
-- (AnyOrder).
use Rattle.std.specs.Prelude.{◌≡◌, refl, true, false, List, [], ◌∷◌, ◌++◌, ℕ, ◌≤◌, ◌<◌, leb}
use Rattle.std.proofs.Common.{sym, ap, subst, ◌∙◌, arith, leb-true}
use mathlib.Core.List.Memᴰ
use Rattle.base.specs.Pick.{and_both}
use Rattle.base.specs.Among.{◌∈◌, SameMembers, All}
use Rattle.members.specs.Sets.{count_in}
use Rattle.members.specs.Laws.{group_bounds, within_small}
use Rattle.members.specs.Many.{insert_all_same}
use Rattle.tally.specs.declared.Tally.{Tally}
use Rattle.tally.specs.declared.Read.{Read}
use Rattle.tally.specs.Open.{stays}
use Rattle.tally.specs.ReadOrder.{Agreed}
use Rattle.actions.specs.Actions.{Act}
use Rattle.replica.specs.declared.Replica.{Replica}
use Rattle.replica.specs.Record.{Outcome, kept, summed}
use Rattle.replica.specs.Fit.{ready}
use Rattle.replica.specs.AdmitLaws.{ready_zero, ready_facts, member_some}
use Rattle.replica.specs.ActingLaws.{summed-kept}
use Rattle.replica.specs.Step.{step}
use Rattle.replica.specs.Quorumread.{replied_step}
use Rattle.replica.specs.ReadCallLaws.{replied_stays, reply_unknown}
use Rattle.laws.specs.OfFit.{fit_facts}
use Rattle.laws.specs.WaysAdded.{read_place, closed, stayed}
use Rattle.laws.specs.AnyOrder.{read_of, ReadOpen, AgreeingReplies, acknowledged_with, member_reply, replied, replied_acts, replied_answers, SameInUse}
use Rattle.laws.specs.Summaries.{usable-fit}

-- ONE REPLY

-- what can come of it, with 0: the read stays open, or closes and answers for every key
pub replied_open : (r : Replica) (p : ℕ) (d : Read) → replied_step r p (stays 0 d) ≡ stayed 0 r p d
replied_open r p d = replied_stays r p (stays 0 d) refl refl refl refl

pub replied_shut : (r : Replica) (p : ℕ) (d : Read)
    → replied_step r p (record { answer = 0; closes = true; answers = d.tally.count; read = d }) ≡ closed r p d d.tally.count
unfolding replied_step
replied_shut r p d = refl

pub same_refl : (a : Replica) → SameInUse a a
same_refl a = record { sc = refl; bars = refl; window = refl; keys = refl; summary = refl; count = refl; reads = λ i h. refl }

pub same_sym : (a b : Replica) → SameInUse a b → SameInUse b a
same_sym a b s =
    record {
      sc = sym s.sc;
      bars = sym s.bars;
      window = sym s.window;
      keys = sym s.keys;
      summary = sym s.summary;
      count = sym s.count;
      reads = λ i h. sym (s.reads i (omega (arith, s.count)));
    }

pub same_trans : (a b c : Replica) → SameInUse a b → SameInUse b c → SameInUse a c
same_trans a b c s t =
    record {
      sc = s.sc ∙ t.sc;
      bars = s.bars ∙ t.bars;
      window = s.window ∙ t.window;
      keys = s.keys ∙ t.keys;
      summary = s.summary ∙ t.summary;
      count = s.count ∙ t.count;
      reads = λ i h. s.reads i h ∙ t.reads i (omega (arith, s.count));
    }

-- MANY REPLIES

-- a read that has closed: whoever answers is ignored
module _ (room id : ℕ) (said : ℕ → Tally) (r : Replica) (on : ready r room ≡ true) (gone : r.reads.count ≤ read_place r id) where
  pub record Ignored (ms : List ℕ) (after : Replica) (acts : List Act) (answers : List ℕ) : Type 0 where
    pub replica : after ≡ r
    pub actions : acts ≡ []
    pub zeros : All (λ (answer : ℕ). answer ≡ 0) answers

  pub ignored : (ms : List ℕ) → ((m : ℕ) → m ∈ ms → m < r.sc.group) → ((m : ℕ) → m ∈ ms → (said m).count ≤ 8)
      → Ignored ms (replied room id said r ms) (replied_acts room id said r ms) (replied_answers room id said r ms)
  ignored [] members few = record { replica = refl; actions = refl; zeros = tt }
  ignored (m ∷ ms) members few =
      let rest = ignored ms (λ x o. members x (Memᴰ.tail o)) (λ x o. few x (Memᴰ.tail o)) in
      let one : step r room (member_reply id said m) ≡ kept 0 r =
      ap summed (reply_unknown r room m id false (said m) 0 (member_some r room m (ready_zero r room on) (members m (Memᴰ.head refl))) refl (few m (Memᴰ.head refl)) (read_place r id) refl gone)
      ∙ summed-kept 0 r (ready_facts r room on).sum in
      subst
      (λ (o : Outcome). Ignored (m ∷ ms) (replied room id said o.replica ms) (o.actions ++ replied_acts room id said o.replica ms) (o.answer ∷ replied_answers room id said o.replica ms))
      (sym one) (record { replica = rest.replica; actions = rest.actions; zeros = (refl, rest.zeros) })

-- THE THEOREM: `in_any_order`, whose proof ends in proofs/InARow

-- what is said of the replies, of the read alone: a fit replica's tally has its places, its set is a group's
pub Agreed-of : (id : ℕ) (said : ℕ → Tally) (r : Replica) (ms : List ℕ) → ReadOpen id r → AgreeingReplies id said r ms → Agreed said (read_of r id) ms
Agreed-of id said r ms o h =
    let fits = fit_facts r (usable-fit r o.fits) in
    let nine = (group_bounds r.sc.group fits.numbers.size).1 in
    let two = and_both (leb (read_of r id).tally.count 8) _ (fits.reads.each (read_place r id) o.known) in
    record {
      eight = record { few = leb-true _ _ two.0; places = o.sized.read_bests (read_place r id) o.known };
      set = within_small (read_of r id).acks r.sc.group nine two.1;
      members = λ m p. omega (arith, h.members m p);
      with_held = h.with_held;
      with_each = h.with_each;
    }

-- fewer of them
pub replies_within : (id : ℕ) (said : ℕ → Tally) (r : Replica) (k l : List ℕ) → AgreeingReplies id said r k → ((m : ℕ) → m ∈ l → m ∈ k) → AgreeingReplies id said r l
replies_within id said r k l h w =
    record {
      members = λ m p. h.members m (w m p);
      few = λ m p. h.few m (w m p);
      with_held = λ m p. h.with_held m (w m p);
      with_each = λ m n p q. h.with_each m n (w m p) (w n q);
    }

pub acknowledged_same : (id : ℕ) (said : ℕ → Tally) (r : Replica) (k l : List ℕ) → ReadOpen id r → AgreeingReplies id said r k → SameMembers k l
    → acknowledged_with id r k ≡ acknowledged_with id r l
acknowledged_same id said r k l o h s =
    let g = Agreed-of id said r k o h in ap count_in (insert_all_same (read_of r id).acks k l g.set g.members s)
