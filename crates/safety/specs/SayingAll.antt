-- Every action of a call says what is so (Sight, `Says`): its prepare entries, replies, notices and executions; of the others nothing is
-- asked.
use Rattle.std.specs.Prelude.{[], ◌∷◌, ℕ, leb}
use Rattle.base.specs.Pick.{pick_both}
use Rattle.base.specs.Among.{All}
use Rattle.base.specs.Gather.{All-gather}
use Rattle.batch.specs.declared.Batch.{Batch}
use Rattle.tally.specs.declared.Read.{Read}
use Rattle.tally.specs.Open.{with_tally, with_ack, smaller}
use Rattle.actions.specs.declared.Says.{Says as Spoken}
use Rattle.actions.specs.Actions.{Act, says_acts}
use Rattle.slots.specs.Slots.{committed}
use Rattle.decide.specs.Scalars.{steps_down}
use Rattle.decide.specs.Decide.{decide_offer}
use Rattle.window.specs.Window.{slot_at}
use Rattle.window.specs.Acts.{mark_acts}
use Rattle.replica.specs.declared.Replica.{Replica}
use Rattle.replica.specs.Record.{number}
use Rattle.replica.specs.Messages.{clean, clean_reply}
use Rattle.replica.specs.Quorumread.{answer_act}
use Rattle.replica.specs.Step.{Call, call_prepare, call_prepare_reply, call_accept, call_accept_reply, call_commit_notice, call_timeout, call_logged, call_offer, call_executed, call_open_read, call_read_reply, does, step}
use Rattle.laws.specs.WaysMessages.{accepted, prepare_step_ways, accept_step_ways, accept_reply_step_ways}
use Rattle.laws.specs.WaysReply.{prepare_reply_step_ways}
use Rattle.laws.specs.WaysLeadership.{mark_window, mark_from, mark_end, marked, timeout_step_ways, commit_notice_step_ways}
use Rattle.laws.specs.WaysAdded.{read_place, read_at, merged_read, closed, offer_step_ways, executed_step_ways, open_read_step_ways, read_reply_step_ways}
use Rattle.safety.specs.Sight.{sight_of, Says, Able}
use Rattle.safety.specs.Saying.{SaysAll, Told, prepared_says, led_says}
use Rattle.safety.specs.SayingReply.{reply_says}
use Rattle.safety.specs.SayingLogged.{logged_says}

-- ── the lists of which nothing is asked ──
module _ (r : Replica) (c : Call) (q : Replica) where
  abbrev Said : Act → Type 0
  Said a = Says (sight_of r) c (sight_of q) a.keys a.what

  marks_say : (ballot bar : ℕ) → SaysAll (sight_of r) c q (marked r ballot bar).actions
  marks_say ballot bar =
      All-gather (λ i. mark_acts (number r.sc i) (slot_at (mark_window r bar) i)) Said (mark_from r) (mark_end r ballot bar)
      (λ i _ _. pick_both (All Said) (leb committed (slot_at (mark_window r bar) i).status) tt (tt, tt))

  accepts_say : (peer slot ballot : ℕ) (b : Batch) → SaysAll (sight_of r) c q (accepted r peer slot ballot b).actions
  accepts_say peer slot ballot b = pick_both (λ (x : Spoken). All Said (says_acts x (clean b).keys)) (steps_down r.sc ballot) (tt, (tt, tt)) (tt, tt)

  answers_say : (i : ℕ) (d : Read) (n : ℕ) → SaysAll (sight_of r) c q (closed r i d n).actions
  answers_say i d n = All-gather (λ k. answer_act r.sc.leader d k ∷ []) Said 0 n (λ _ _ _. (tt, tt))

-- ── every call ──
does_says : (r : Replica) (room : ℕ) (c : Call) → Able r → Told r c (does r room c)
unfolding decide_offer
does_says r room c a = go c
  where
    go : (c : Call) → Told r c (does r room c)
    go (call_prepare peer trigger ballot) =
        prepare_step_ways (Told r (call_prepare peer trigger ballot)) r room peer trigger ballot (λ n _. tt)
        (λ f. prepared_says r a.good peer trigger ballot f (call_prepare peer trigger ballot))
    go (call_prepare_reply peer m) =
        prepare_reply_step_ways (Told r (call_prepare_reply peer m)) r room peer m (λ n _ _. tt)
        (λ f. reply_says (sight_of r) (call_prepare_reply peer m) r a.good.wide peer (clean_reply m))
    go (call_accept peer slot ballot b) =
        accept_step_ways (Told r (call_accept peer slot ballot b)) r room peer slot ballot b (λ n _. tt)
        (λ f. accepts_say r (call_accept peer slot ballot b) (accepted r peer slot ballot b).replica peer slot ballot b)
    go (call_accept_reply peer slot ballot) =
        accept_reply_step_ways (Told r (call_accept_reply peer slot ballot)) r room peer slot ballot (λ n _. tt) (λ f q. tt) (λ f q. (tt, tt))
    go (call_commit_notice peer ballot bar) =
        commit_notice_step_ways (Told r (call_commit_notice peer ballot bar)) r room peer ballot bar (λ n _. tt)
        (λ f. marks_say r (call_commit_notice peer ballot bar) (marked r ballot bar).replica ballot bar)
    go (call_timeout source) = timeout_step_ways (Told r (call_timeout source)) r room source (λ n _. tt) (λ b f. led_says r a.good source b f (call_timeout source))
    go (call_logged d) = logged_says r room d a.good.wide a.kind
    go (call_offer b) = offer_step_ways (Told r (call_offer b)) r room b (λ n _. tt) (λ f. (tt, (tt, tt)))
    go (call_executed slot) = executed_step_ways (Told r (call_executed slot)) r room slot (λ n _. tt) (λ f. tt)
    go (call_open_read id count keys) = open_read_step_ways (Told r (call_open_read id count keys)) r room id count keys (λ n _. tt) (λ f. tt)
    go (call_read_reply peer id from_leader reply) =
        let i : ℕ = read_place r id in
        let d : Read = read_at r i in
        let answers : (q : Replica) (d : Read) (n : ℕ) → SaysAll (sight_of r) (call_read_reply peer id from_leader reply) q (closed r i d n).actions =
        λ q d n. answers_say r (call_read_reply peer id from_leader reply) q i d n in
        read_reply_step_ways (Told r (call_read_reply peer id from_leader reply)) r room peer id from_leader reply (λ n _. tt)
        (λ f. answers (closed r i (with_tally d reply) (smaller d.tally.count reply.count)).replica (with_tally d reply) (smaller d.tally.count reply.count))
        (λ f k. answers (closed r i (with_ack (merged_read d reply k) peer) d.tally.count).replica (with_ack (merged_read d reply k) peer) d.tally.count)
        (λ f. tt) (λ f k. tt) (λ f k. tt)

-- the summary, which `step` adds, is not seen
pub Says-All : (r : Replica) (room : ℕ) (c : Call) → Able r
    → All (λ (a : Act). Says (sight_of r) c (sight_of (step r room c).replica) a.keys a.what) (step r room c).actions
Says-All r room c a = does_says r room c a
