-- What a call says, and when: replies come from log completions alone; an accept entry is never below what was promised.
use Rattle.std.specs.Prelude.{◌≡◌, refl, true, false, not, ◌||◌, ◌&&◌, List, [], ◌∷◌, ◌++◌, ℕ, ◌+◌, ◌≤◌, leb, eqb}
use Rattle.std.proofs.Common.{sym, ap, ◌∙◌, arith, eqb-true}
use Rattle.base.specs.Pick.{pick, pick_both, and_both}
use Rattle.base.specs.Among.{◌∈◌, All, All-in, All-append}
use Rattle.base.specs.Gather.{gather, All-gather}
use Rattle.batch.specs.declared.Batch.{Batch}
use Rattle.tally.specs.declared.Read.{Read}
use Rattle.tally.specs.Open.{with_tally, with_ack, smaller}
use Rattle.actions.specs.declared.Action.{Action}
use Rattle.actions.specs.declared.Promised.{Promised}
use Rattle.actions.specs.declared.Accepted.{Accepted}
use Rattle.actions.specs.declared.Says.{Says}
use Rattle.actions.specs.declared.Action.TheVariants.{PrepareBal, AcceptData, CommitSlot, Prepare, PrepareReply, Accept, AcceptReply, CommitNotice, Heartbeat, StatusUp, StatusDown, Execute, ReadAnswer}
use Rattle.actions.specs.Actions.{Act, act, bare, says_acts}
use Rattle.slots.specs.declared.Slot.{Slot}
use Rattle.slots.specs.declared.Vote.{Vote}
use Rattle.slots.specs.Slots.{preparing, committed}
use Rattle.decide.specs.declared.Scalars.{Scalars}
use Rattle.decide.specs.declared.Reply.{Reply}
use Rattle.decide.specs.Scalars.{leads, strict, steps_down, notifies}
use Rattle.decide.specs.Decide.{decide_offer}
use Rattle.window.specs.Window.{slot_at}
use Rattle.window.specs.Acts.{promise, enter_acts, redo_acts, mark_acts, pass_acts}
use Rattle.window.specs.ByPlace.{at_place}
use Rattle.replica.specs.declared.Replica.{Replica}
use Rattle.replica.specs.declared.Done.{Done}
use Rattle.replica.specs.declared.Entry.{Entry}
use Rattle.replica.specs.declared.Entry.TheVariants.{PrepareBal as PrepareEntry, AcceptData as AcceptEntry}
use Rattle.replica.specs.Record.{place, number, log_end}
use Rattle.replica.specs.Messages.{clean, clean_reply, down_acts}
use Rattle.replica.specs.Durability.{notice_acts, pass_stop, logged_on}
use Rattle.replica.specs.Quorumread.{answer_act}
use Rattle.replica.specs.Added.{moved_exec}
use Rattle.replica.specs.Step.{Call, call_prepare, call_prepare_reply, call_accept, call_accept_reply, call_commit_notice, call_timeout, call_logged, call_offer, call_executed, call_open_read, call_read_reply, step}
use Rattle.laws.specs.OfFit.{fit_facts}
use Rattle.laws.specs.WaysMessages.{prepare_end, prepare_step_ways, accept_step_ways, accept_reply_step_ways}
use Rattle.laws.specs.WaysReply.{counted_window, Answers}
use Rattle.laws.specs.WaysLeadership.{lead_window, lead_trigger, lead_from, timeout_step_ways, mark_window, mark_from, mark_end, commit_notice_step_ways}
use Rattle.laws.specs.WaysDurability.{completion, logged, Logs, pass_from, other_entry}
use Rattle.laws.specs.WaysAdded.{offer_step_ways, executed_step_ways, open_read_step_ways, read_reply_step_ways, read_place, read_at, merged_read}
use Rattle.voting.specs.History.{Lent, told}
use Rattle.voting.specs.Claims.{Claim, Of}
use Rattle.voting.specs.Replying.{enters_acts, reply_acts, ReplyWays, prepare_reply_way}
use Rattle.voting.specs.Logging.{own_answer, LogWays, logged_way}
use Rattle.voting.specs.Promises.{accept_says}
use Rattle.voting.specs.Reached.{Good}
use Rattle.voting.specs.Votes.{taken}
use Rattle.voting.specs.Telling.{told_same}

-- ── what is said of one action of a call c at r ──
-- 2.5: "an acceptor records its intended response in stable storage before actually sending the response": a reply comes from the completion of an
-- entry of its kind for its slot, at the slot's ballot as it is then, and not where self leads. In the base kind whatever the completion's ballot; in the
-- strict kind (02, Wish 6, (a)) it is the completion's, and for an accept entry also that of the slot's vote
pub record OnCompletion (r : Replica) (c : Call) (e : Entry) (slot ballot : ℕ) : Type 0 where
  pub bal : ℕ
  pub offset : ℕ
  pub call : c ≡ call_logged (completion e slot bal offset)
  pub follows : leads r.sc ≡ false
  pub at : ballot ≡ (at_place r.window (place r.sc slot)).ballot
  pub own : strict r.sc ≡ true → ballot ≡ bal
  pub voted : strict r.sc ≡ true → e ≡ AcceptEntry → (at_place r.window (place r.sc slot)).vote.ballot ≡ ballot

-- 2.2, P1a: an accept entry is not below the largest ballot seen
abbrev pub SaidOf : Replica → Call → Action → Type 0
SaidOf r c (PrepareReply p) = OnCompletion r c PrepareEntry p.slot p.ballot
SaidOf r c (AcceptReply p) = OnCompletion r c AcceptEntry p.slot p.ballot
SaidOf r c (AcceptData p) = r.sc.bal_max_seen ≤ p.ballot
SaidOf r c (PrepareBal p) = Unit {0}
SaidOf r c (CommitSlot p) = Unit {0}
SaidOf r c (Prepare p) = Unit {0}
SaidOf r c (Accept p) = Unit {0}
SaidOf r c (CommitNotice p) = Unit {0}
SaidOf r c Heartbeat = Unit {0}
SaidOf r c StatusUp = Unit {0}
SaidOf r c StatusDown = Unit {0}
SaidOf r c (Execute p) = Unit {0}
SaidOf r c (ReadAnswer p) = Unit {0}

module _ (r : Replica) (c : Call) where
  abbrev Ok : Act → Type 0
  Ok x = SaidOf r c x.what

  abbrev pub SaysOk : List Act → Type 0
  SaysOk acts = All Ok acts

  abbrev SpeaksOk : Claim
  SpeaksOk a sc w acts = SaysOk acts

  -- ── the lists that calls give ──
  down_ok : (ballot : ℕ) → SaysOk (down_acts r.sc ballot)
  down_ok ballot = pick_both SaysOk (steps_down r.sc ballot) (tt, tt) tt

  promises_ok : (sent from to : ℕ) → SaysOk (gather (λ i. promise (number r.sc i) sent ∷ []) from to)
  promises_ok sent from to = All-gather (λ i. promise (number r.sc i) sent ∷ []) Ok from to (λ i l u. (tt, tt))

  enter_ok : (slot ballot : ℕ) (s : Slot) → r.sc.bal_max_seen ≤ ballot → SaysOk (enter_acts slot ballot s)
  enter_ok slot ballot s l = pick_both SaysOk (eqb s.status preparing) (l, (tt, tt)) tt

  accept_ok : (slot ballot : ℕ) (b : Batch) (keys : List ℕ) → r.sc.bal_max_seen ≤ ballot → SaysOk (says_acts (accept_says r.sc slot ballot b) keys)
  accept_ok slot ballot b keys l = pick_both (λ (x : Says). SaysOk (says_acts x keys)) (steps_down r.sc ballot) (tt, (l, tt)) (l, tt)

  passes_ok : (slot : ℕ) (s : Slot) → SaysOk (pass_acts slot s)
  passes_ok slot s = pick_both SaysOk (eqb s.batch.id 0 || not (eqb s.status committed)) tt (tt, tt)

  answers_ok : (d : Read) (n : ℕ) → SaysOk (gather (λ k. answer_act r.sc.leader d k ∷ []) 0 n)
  answers_ok d n = All-gather (λ k. answer_act r.sc.leader d k ∷ []) Ok 0 n (λ i l u. (tt, tt))

  notice_ok : (sc : Scalars) (bar end : ℕ) → SaysOk (notice_acts sc bar end)
  notice_ok sc bar end = pick_both SaysOk (notifies sc bar end) (tt, tt) tt

  pass_ok : (q : Replica) → SaysOk (gather (λ i. pass_acts (number q.sc i) (slot_at q.window i)) (pass_from q) (pass_stop q)
      ++ pick (eqb (pass_from q) (pass_stop q)) [] (notice_acts q.sc (number q.sc (pass_stop q)) (log_end q)))
  pass_ok q =
      All-append Ok (gather (λ i. pass_acts (number q.sc i) (slot_at q.window i)) (pass_from q) (pass_stop q))
      (pick (eqb (pass_from q) (pass_stop q)) [] (notice_acts q.sc (number q.sc (pass_stop q)) (log_end q)))
      (All-gather (λ i. pass_acts (number q.sc i) (slot_at q.window i)) Ok (pass_from q) (pass_stop q) (λ i l u. passes_ok (number q.sc i) (slot_at q.window i)))
      (pick_both SaysOk (eqb (pass_from q) (pass_stop q)) {a = []} {b = notice_acts q.sc (number q.sc (pass_stop q)) (log_end q)} tt (notice_ok q.sc (number q.sc (pass_stop q)) (log_end q)))

-- a reply's: the replica that it is weighed at may have another wal_offset
module _ (r : Replica) (c : Call) (q : Replica) (peer : ℕ) (m : Reply) (seen : Answers q m → r.sc.bal_max_seen ≤ m.ballot) where
  appends_ok : SaysOk r c (reply_acts q m)
  appends_ok = All-gather (λ i. promise (number q.sc i) q.sc.bal_prep_sent ∷ []) (Ok r c) q.window.len (place q.sc m.slot + 1) (λ i l u. (tt, tt))

  reply_says : ReplyWays (SpeaksOk r c) q peer m
  reply_says =
      record {
        passed = λ f t. appends_ok;
        heard = λ f t. appends_ok;
        counted = λ f t. appends_ok;
        entered = λ f t e.
            All-append (Ok r c) (reply_acts q m) (enters_acts q peer m) appends_ok
            (All-gather (λ i. enter_acts (number q.sc i) m.ballot (slot_at (counted_window q peer m) i)) (Ok r c) (place q.sc m.trigger) (counted_window q peer m).len
            (λ i l u. enter_ok r c (number q.sc i) m.ballot (slot_at (counted_window q peer m) i) (seen f)));
      }

log_says : (r : Replica) (d : Done) → Good r.sc r.window → Logs r d → LogWays (SpeaksOk r (call_logged d)) r d
unfolding Of logged_on
log_says r d g f =
    let t = told_same r d g.whole (let x = f.low in let y = f.high in omega arith) (fit_facts r f.fits).numbers.window in
    record {
      only = λ u. tt;
      own = λ e o. reply_says r (call_logged d) (logged r d) r.sc.id (own_answer r d) (λ q. let x = g.leading q.leading in let y = q.sent in omega arith);
      promised = λ e h n. (
        record {
          bal = d.ballot;
          offset = d.size;
          call = ap (λ (x : Entry). call_logged (completion x d.slot d.ballot d.size)) e;
          follows = n;
          at = t.1;
          own = h.slot;
          voted = λ k. other_entry PrepareEntry AcceptEntry refl;
        },
        tt,
      );
      acked = λ e _. tt;
      commits = λ e _ a q. (tt, tt);
      answered = λ e h n. (
        record {
          bal = d.ballot;
          offset = d.size;
          call = ap (λ (x : Entry). call_logged (completion x d.slot d.ballot d.size)) e;
          follows = n;
          at = t.1;
          own = h.slot;
          voted = λ k z. ap (λ (v : Vote). v.ballot) (sym t.0) ∙ h.vote k refl ∙ sym (h.slot k);
        },
        tt,
      );
      passes = λ e. pass_ok r (call_logged d) (logged r d);
    }

step_says : (r : Replica) (room : ℕ) (c : Call) → Good r.sc r.window → Of (SpeaksOk r c) (step r room c)
unfolding Of moved_exec decide_offer
step_says r room c g = go c
  where
    go : (c : Call) → Of (SpeaksOk r c) (step r room c)
    go (call_prepare peer trigger ballot) =
        prepare_step_ways (Of (SpeaksOk r _)) r room peer trigger ballot (λ a l. tt)
        (λ f. All-append (Ok r _) (down_acts r.sc ballot) (gather (λ i. promise (number r.sc i) ballot ∷ []) (place r.sc trigger) (prepare_end r trigger)) (down_ok r _ ballot) (promises_ok r _ ballot (place r.sc trigger) (prepare_end r trigger)))
    go (call_prepare_reply peer m) =
        prepare_reply_way (SpeaksOk r (call_prepare_reply peer m)) r room peer m (λ a l u. tt)
        (λ f. reply_says r _ r peer (clean_reply m) (λ q. let x = g.leading q.leading in let y = q.sent in omega arith))
    go (call_accept peer slot ballot b) =
        accept_step_ways (Of (SpeaksOk r _)) r room peer slot ballot b (λ a l. tt) (λ f. accept_ok r (call_accept peer slot ballot b) slot ballot b (clean b).keys f.seen)
    go (call_accept_reply peer slot ballot) = accept_reply_step_ways (Of (SpeaksOk r _)) r room peer slot ballot (λ a l. tt) (λ f q. tt) (λ f q. (tt, tt))
    go (call_commit_notice peer ballot bar) =
        commit_notice_step_ways (Of (SpeaksOk r _)) r room peer ballot bar (λ a l. tt)
        (λ f. All-gather (λ i. mark_acts (number r.sc i) (slot_at (mark_window r bar) i)) (Ok r _) (mark_from r) (mark_end r ballot bar)
        (λ i l u. pick_both (SaysOk r _) (leb committed (slot_at (mark_window r bar) i).status) tt (tt, tt)))
    go (call_timeout source) =
        timeout_step_ways (Of (SpeaksOk r _)) r room source (λ a l. tt)
        (λ b f. (
          tt,
          (
            tt,
            All-append (Ok r (call_timeout source)) (gather (λ i. redo_acts (number r.sc i) b (slot_at (lead_window r) i)) (lead_from r) (lead_window r).len) (bare (Prepare (record { trigger = lead_trigger r; ballot = b })) ∷ [])
                (All-gather (λ i. redo_acts (number r.sc i) b (slot_at (lead_window r) i)) (Ok r _) (lead_from r) (lead_window r).len
                (λ i l u. pick_both (SaysOk r _) (leb committed (slot_at (lead_window r) i).status) tt (tt, tt))) (tt, tt),
          ),
        ))
    go (call_logged d) = logged_way (SpeaksOk r (call_logged d)) r d room (λ a l u. tt) (λ f. log_says r d g f)
    go (call_offer b) =
        offer_step_ways (Of (SpeaksOk r _)) r room b (λ a l. tt)
        (λ f.
        let x = and_both (leads r.sc) (not (eqb r.sc.bal_prepared 0) && eqb r.sc.bal_prepared r.sc.bal_prep_sent) f.may in
        let y = and_both (not (eqb r.sc.bal_prepared 0)) (eqb r.sc.bal_prepared r.sc.bal_prep_sent) x.1 in
        let z = g.leading x.0 in
        let e = eqb-true r.sc.bal_prepared r.sc.bal_prep_sent y.1 in
        (omega arith, (tt, tt)))
    go (call_executed slot) = executed_step_ways (Of (SpeaksOk r _)) r room slot (λ a l. tt) (λ f. tt)
    go (call_open_read id count keys) = open_read_step_ways (Of (SpeaksOk r _)) r room id count keys (λ a l. tt) (λ f. tt)
    go (call_read_reply peer id from_leader reply) =
        read_reply_step_ways (Of (SpeaksOk r _)) r room peer id from_leader reply (λ a l. tt)
        (λ f. answers_ok r _ (with_tally (read_at r (read_place r id)) reply) (smaller (read_at r (read_place r id)).tally.count reply.count))
        (λ f k. answers_ok r _ (with_ack (merged_read (read_at r (read_place r id)) reply k) peer) (read_at r (read_place r id)).tally.count) (λ f. tt) (λ f k. tt) (λ f k. tt)

-- each action of a call on a replica reached from a new one
pub says_ok : (r : Replica) (room : ℕ) (c : Call) → Good r.sc r.window → SaysOk r c (step r room c).actions
unfolding Of
says_ok r room c g = step_says r room c g

-- 2.5: PrepareReply and AcceptReply come only from log completions
pub replies_on_completion : (r : Replica) (room : ℕ) (c : Call) → Good r.sc r.window → (keys : List ℕ)
    → ((p : Promised) → act (PrepareReply p) keys ∈ (step r room c).actions → OnCompletion r c PrepareEntry p.slot p.ballot)
    × ((p : Accepted) → act (AcceptReply p) keys ∈ (step r room c).actions → OnCompletion r c AcceptEntry p.slot p.ballot)
replies_on_completion r room c g keys = (λ p m. All-in (λ x. SaidOf r c x.what) (says_ok r room c g) m, λ p m. All-in (λ x. SaidOf r c x.what) (says_ok r room c g) m)

-- ── a promise is kept ──
-- everything that a history says, in order
abbrev pub said_in : Replica → List Lent → List Act
said_in r [] = []
said_in r (c ∷ h) = (told r c).actions ++ said_in (told r c).replica h

-- no accept entry below n
abbrev pub NotBelow : ℕ → Action → Type 0
NotBelow n (AcceptData p) = n ≤ p.ballot
NotBelow n (PrepareReply p) = Unit {0}
NotBelow n (AcceptReply p) = Unit {0}
NotBelow n (PrepareBal p) = Unit {0}
NotBelow n (CommitSlot p) = Unit {0}
NotBelow n (Prepare p) = Unit {0}
NotBelow n (Accept p) = Unit {0}
NotBelow n (CommitNotice p) = Unit {0}
NotBelow n Heartbeat = Unit {0}
NotBelow n StatusUp = Unit {0}
NotBelow n StatusDown = Unit {0}
NotBelow n (Execute p) = Unit {0}
NotBelow n (ReadAnswer p) = Unit {0}

pub not_below : (r : Replica) (c : Call) (n : ℕ) → n ≤ r.sc.bal_max_seen → (a : Action) → SaidOf r c a → NotBelow n a
not_below r c n l (AcceptData p) h = omega arith
not_below r c n l (PrepareReply p) h = tt
not_below r c n l (AcceptReply p) h = tt
not_below r c n l (PrepareBal p) h = tt
not_below r c n l (CommitSlot p) h = tt
not_below r c n l (Prepare p) h = tt
not_below r c n l (Accept p) h = tt
not_below r c n l (CommitNotice p) h = tt
not_below r c n l Heartbeat h = tt
not_below r c n l StatusUp h = tt
not_below r c n l StatusDown h = tt
not_below r c n l (Execute p) h = tt
not_below r c n l (ReadAnswer p) h = tt

-- 2.2, P1a: after a PrepareReply at ballot n was sent there is no vote and no accept entry below n, over any history
pub record Kept (r : Replica) (h : List Lent) (n : ℕ) : Type 0 where
  pub votes : (s : ℕ) → All (λ (v : Vote). n ≤ v.ballot) (taken r h s)
  pub entries : All (λ x. NotBelow n x.what) (said_in r h)
