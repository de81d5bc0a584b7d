-- 2.2, phase 2 (a): "If the proposer receives a response to its prepare requests (numbered n) from a majority of acceptors, then it sends an accept
-- request". Each Accept that a reply makes a leader send comes with a majority in the trigger slot's prepare_acks; and where that slot is at the
-- leader's ballot, each member in it answered at this ballot.
use Rattle.std.specs.Prelude.{◌≡◌, refl, true, false, List, [], ◌∷◌, ◌++◌, ℕ, ◌≤◌, ◌<◌}
use Rattle.std.proofs.Common.{sym, ap, ◌∙◌, inl, inr, arith, leb-true}
use Rattle.std.proofs.Math.Path.{subst}
use Rattle.base.specs.Among.{◌∈◌}
use Rattle.base.specs.Pick.{clash}
use Rattle.members.specs.Sets.{has, insert, count_in, fits_group}
use Rattle.members.specs.Groups.{quorum_of}
use Rattle.members.specs.Laws.{within_insert}
use Rattle.actions.specs.Actions.{Act}
use Rattle.slots.specs.declared.Slot.{Slot}
use Rattle.decide.specs.declared.Scalars.{Scalars}
use Rattle.decide.specs.declared.Reply.{Reply}
use Rattle.decide.specs.Scalars.{leads}
use Rattle.window.specs.declared.Window.{Window}
use Rattle.window.specs.ByPlace.{at_place, at_here, put_at}
use Rattle.replica.specs.declared.Replica.{Replica}
use Rattle.replica.specs.declared.Done.{Done}
use Rattle.replica.specs.declared.Entry.TheVariants.{PrepareBal, AcceptData, CommitSlot as CommitEntry}
use Rattle.replica.specs.Record.{place}
use Rattle.replica.specs.Messages.{clean_reply}
use Rattle.replica.specs.Durability.{logged_on}
use Rattle.replica.specs.Step.{call_prepare_reply, call_logged, step}
use Rattle.laws.specs.OfFit.{fit_facts}
use Rattle.laws.specs.OfScalars.{fallen_fixed}
use Rattle.laws.specs.Counts.{heard_long}
use Rattle.laws.specs.WaysReply.{heard_window, tabled_sc, is_full, Answers, reply_place}
use Rattle.laws.specs.WaysDurability.{completion, logged, Logs, other_entry}
use Rattle.laws.specs.Appended.{appended_low, appended_most}
use Rattle.voting.specs.Paper.{Majority, quorum_is_majority}
use Rattle.voting.specs.Windows.{Whole, Whole-put}
use Rattle.voting.specs.History.{Lent, told, play, play-append}
use Rattle.voting.specs.Claims.{core, Claim, Of}
use Rattle.voting.specs.Replying.{entered_window, ReplyWays, prepare_reply_way}
use Rattle.voting.specs.Logging.{own_answer, LogWays, logged_way}
use Rattle.voting.specs.Promises.{play-Grows}
use Rattle.voting.specs.Reached.{Good, Good-play}
use Rattle.voting.specs.Quorums.{kind_of}
use Rattle.voting.specs.Entering.{none_sent, other_sent, appends_none}
use Rattle.voting.specs.Backing.{Standing, standing, stands, Stood, PrepareAck, Once, HeldOr, prepare_backed, trigger_same, entered_same, after_same}

-- self leads at the ballot, which is bal_prep_sent before and after, and a majority is in prepare_acks of the slot at place j
pub record ByMajority (group sent j ballot : ℕ) (sc : Scalars) (w : Window) : Type 0 where
  pub leading : leads sc ≡ true
  pub asked : ballot ≡ sent
  pub same : sc.bal_prep_sent ≡ sent
  pub majority : Majority group (standing (at_place w j)).prepare

-- wherever an action of kind 6 (Accept) is given
abbrev EntersByMajority : ℕ → ℕ → ℕ → ℕ → Claim
EntersByMajority group sent j ballot a sc w acts = (x : Act) → x ∈ acts → kind_of x ≡ 6 → ByMajority group sent j ballot sc w

module _ (r : Replica) (peer : ℕ) (m : Reply) (h : Whole r.window) (n : r.window.len ≤ 64) (p : peer < r.sc.group)
    (fits : (j : ℕ) → j < r.window.len → fits_group (stands r j).prepare r.sc.group ≡ true) where
  abbrev j : ℕ
  j = place r.sc m.trigger

  -- the trigger slot after the call: the sender is put into the set that it had
  pub standing-insert : Answers r m → (standing (at_place (entered_window r peer m) j)).prepare ≡ insert (stands r j).prepare peer
  standing-insert f =
      let low : j < r.window.len = (let x = f.low in let y = f.logged in omega arith) in
      let wide = appended_low r (place r.sc m.slot) j in
      let most = appended_most r (place r.sc m.slot) j 64 n (reply_place r m f) in
      let long = heard_long r peer m in
      ap (λ (x : Standing). x.prepare) (entered_same r peer m j)
      ∙ ap (λ (x : Slot). x.leader.prepare_acks) (put_at (heard_window r peer m) j _ (omega arith) (omega arith))
      ∙ ap (λ (x : Standing). insert x.prepare peer) (trigger_same r peer m low h f)

  pub full_majority : Answers r m → is_full r peer m ≡ true → Majority r.sc.group (standing (at_place (entered_window r peer m) j)).prepare
  full_majority f q =
      let low : j < r.window.len = (let x = f.low in let y = f.logged in omega arith) in
      let some : quorum_of r.sc.group ≤ count_in (insert (stands r j).prepare peer) =
      subst (λ (g : ℕ). quorum_of g ≤ count_in (insert (stands r j).prepare peer)) (fallen_fixed r.sc r.bars peer m.bar).group
      (subst (λ (x : Standing). quorum_of (tabled_sc r peer m).group ≤ count_in (insert x.prepare peer)) (trigger_same r peer m low h f) (leb-true _ _ q)) in
      subst (Majority r.sc.group) (sym (standing-insert f))
      ((quorum_is_majority r.sc.group (insert (stands r j).prepare peer) (within_insert (stands r j).prepare r.sc.group peer (fits j low) p)).1 some)

  reply_majority : ReplyWays (EntersByMajority r.sc.group r.sc.bal_prep_sent j m.ballot) r peer m
  reply_majority =
      record {
        passed = λ f t x o k. appends_none r m x o k;
        heard = λ f t x o k. appends_none r m x o k;
        counted = λ f t x o k. appends_none r m x o k;
        entered = λ f t q x o k. record { leading = f.leading; asked = f.sent; same = refl; majority = full_majority f q };
      }

-- ── one call, on any record with a window of 64 slots ──
-- an Accept that an arriving PrepareReply makes self send
pub enter_by_majority : (r : Replica) (room peer : ℕ) (m : Reply) → Whole r.window → (x : Act) → x ∈ (step r room (call_prepare_reply peer m)).actions → kind_of x ≡ 6
    → ByMajority r.sc.group r.sc.bal_prep_sent (place r.sc m.trigger) m.ballot (core (step r room (call_prepare_reply peer m)).replica.sc) (step r room (call_prepare_reply peer m)).replica.window
unfolding Of
enter_by_majority r room peer m h =
    prepare_reply_way (EntersByMajority r.sc.group r.sc.bal_prep_sent (place r.sc m.trigger) m.ballot) r room peer m (λ a l u. none_sent)
    (λ f.
    let g = fit_facts r f.fits in
    reply_majority r peer (clean_reply m) h g.numbers.window f.peer_is.member
    (λ j l. subst (λ (s : Slot). fits_group s.leader.prepare_acks r.sc.group ≡ true) (sym (at_here r.window j l)) (g.slots j l).prepare))

-- and one that self's own PrepareBal completion makes it send: the trigger is its slot's
module _ (r : Replica) (room slot bal offset : ℕ) (h : Whole r.window) where
  abbrev mine : Done
  mine = completion PrepareBal slot bal offset

  abbrev own_place : ℕ
  own_place = place r.sc (own_answer r mine).trigger

  own_majority : Logs r mine → LogWays (EntersByMajority r.sc.group r.sc.bal_prep_sent own_place (own_answer r mine).ballot) r mine
  unfolding Of logged_on
  own_majority f =
      let g = fit_facts r f.fits in
      record {
        only = λ u. none_sent;
        own = λ e o.
            reply_majority (logged r mine) r.sc.id (own_answer r mine) (Whole-put r.window (place r.sc slot) _ h) g.numbers.window g.numbers.member
            (λ j l.
            subst (λ (s : Standing). fits_group s.prepare r.sc.group ≡ true) (sym (after_same r mine j))
            (subst (λ (s : Slot). fits_group s.leader.prepare_acks r.sc.group ≡ true) (sym (at_here r.window j l)) (g.slots j l).prepare));
        promised = λ e _ n x o k. other_sent _ x (λ z. omega arith) o k;
        acked = other_entry PrepareBal AcceptData refl;
        commits = other_entry PrepareBal AcceptData refl;
        answered = other_entry PrepareBal AcceptData refl;
        passes = other_entry PrepareBal CommitEntry refl;
      }

  pub own_enter_by_majority : (x : Act) → x ∈ (step r room (call_logged mine)).actions → kind_of x ≡ 6
      → ByMajority r.sc.group r.sc.bal_prep_sent own_place (own_answer r mine).ballot (core (step r room (call_logged mine)).replica.sc) (step r room (call_logged mine)).replica.window
  unfolding Of
  own_enter_by_majority = logged_way (EntersByMajority r.sc.group r.sc.bal_prep_sent own_place (own_answer r mine).ballot) r mine room (λ a l u. none_sent) own_majority

-- ── the whole sentence ──
-- over a history from a replica that does not lead at this ballot yet: the majority of the trigger slot, at place j after the last call c; and where that slot is at
-- this ballot, each member of the majority has answered at it (Differences has a run in which the reply names a slot of an older ballot; Reigning says
-- that the slot which the step-up named is at it)
pub record MajorityAnswered (r : Replica) (h : List Lent) (c : Lent) (j ballot : ℕ) : Type 0 where
  pub majority : Majority r.sc.group (stands (told (play r h) c).replica j).prepare
  pub each : (stands (told (play r h) c).replica j).ballot ≡ ballot → (p : ℕ) → has (stands (told (play r h) c).replica j).prepare p ≡ true
      → Once (λ q k. PrepareAck q j p k) ballot r (h ++ (c ∷ []))

pub answered_over : (r : Replica) (h : List Lent) (c : Lent) (j ballot : ℕ) → Good r.sc r.window → (Stood r j ballot → ⊥)
    → ByMajority (play r h).sc.group (play r h).sc.bal_prep_sent j ballot (core (told (play r h) c).replica.sc) (told (play r h) c).replica.window → MajorityAnswered r h c j ballot
answered_over r h c j ballot g n m =
    record {
      majority = subst (λ (x : ℕ). Majority x (stands (told (play r h) c).replica j).prepare) (play-Grows r h).group m.majority;
      each = λ e p k.
          let s : Stood (told (play r h) c).replica j ballot = record { leading = m.leading; same = m.same ∙ sym m.asked; at = e } in
          since p (prepare_backed r (h ++ (c ∷ [])) j p ballot g (subst (λ (q : Replica). Stood q j ballot) (sym (play-append r h c)) s)
          (subst (λ (q : Replica). has (stands q j).prepare p ≡ true) (sym (play-append r h c)) k));
    }
  where
    since : (p : ℕ) → HeldOr (λ x. x.prepare) (λ q k. PrepareAck q j p k) j p r (h ++ (c ∷ [])) ballot → Once (λ q k. PrepareAck q j p k) ballot r (h ++ (c ∷ []))
    since p (inl (s, k)) = absurd (n s)
    since p (inr x) = x

pub enters_answered : (r : Replica) (h : List Lent) (room peer : ℕ) (m : Reply) → Good r.sc r.window → leads r.sc ≡ false → (x : Act)
    → x ∈ (step (play r h) room (call_prepare_reply peer m)).actions → kind_of x ≡ 6
    → MajorityAnswered r h (record { room = room; call = call_prepare_reply peer m }) (place (play r h).sc m.trigger) m.ballot
enters_answered r h room peer m g n x o k = answered_over r h _ _ _ g (λ s. clash s.leading n) (enter_by_majority (play r h) room peer m (Good-play r h g).whole x o k)

pub own_enters_answered : (r : Replica) (h : List Lent) (room slot bal offset : ℕ) → Good r.sc r.window → leads r.sc ≡ false → (x : Act)
    → x ∈ (step (play r h) room (call_logged (completion PrepareBal slot bal offset))).actions → kind_of x ≡ 6
    → MajorityAnswered r h (record { room = room; call = call_logged (completion PrepareBal slot bal offset) })
    (place (play r h).sc (own_answer (play r h) (completion PrepareBal slot bal offset)).trigger)
    (own_answer (play r h) (completion PrepareBal slot bal offset)).ballot
own_enters_answered r h room slot bal offset g n x o k = answered_over r h _ _ _ g (λ s. clash s.leading n) (own_enter_by_majority (play r h) room slot bal offset (Good-play r h g).whole x o k)
