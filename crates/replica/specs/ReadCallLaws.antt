-- The laws of the read calls: the loop that writes a closed read's answers, and each way through a call.
use Rattle.std.specs.Prelude.{◌≡◌, Bool, true, false, not, List, [], ◌∷◌, ℕ, ◌+◌, ◌≤◌, ◌<◌, ltb, leb, eqb, get_or, Some, None, Ok, Err}
use Rattle.std.proofs.Math.Path.{refl}
use Rattle.std.proofs.Common.{sym, ap, ◌∙◌, zero-add, arith, length-append, lt-ltb, le-ltb, le-leb, leb-true}
use Rattle.std.proofs.lemmas.Bool.{lt-leb}
use Rattle.base.specs.Pick.{pick, and_left, refuted, granted, pick_both}
use Rattle.base.specs.Gather.{gather, gather_more}
use Rattle.tally.specs.declared.ReadAnswer.{ReadAnswer}
use Rattle.tally.specs.declared.Tally.{Tally}
use Rattle.tally.specs.declared.Read.{Read}
use Rattle.tally.specs.declared.Reads.{Reads}
use Rattle.tally.specs.declared.MergeError.{MergeError}
use Rattle.tally.specs.declared.MergeError.TheVariants.{HeldTooLong, ReplyTooLong, UnequalLengths, Conflict}
use Rattle.tally.specs.Merge.{error_number, best_at, answer_of}
use Rattle.tally.specs.Open.{Opened, Replied, reply_as, no_read, find_read, open_read, close_read, put_read, reply_to, fit_reads, stays_open}
use Rattle.tally.proofs.Laws.{reply_few}
use Rattle.tally.specs.ReadLaws.{read_fits}
use Rattle.actions.specs.declared.Action.TheVariants.{ReadAnswer as answered}
use Rattle.actions.specs.Actions.{Act, bare, write_at, put_act}
use Rattle.actions.specs.Laws.{put_in, room_start, room_turn}
use Rattle.decide.specs.Scalars.{quorum}
use Rattle.replica.specs.declared.Replica.{Replica}
use Rattle.replica.specs.Record.{Outcome, kept, summed}
use Rattle.replica.specs.Fit.{ready}
use Rattle.replica.specs.Admit.{ready_answer, from_member}
use Rattle.replica.specs.AdmitLaws.{gate_ready, ready_goes, gate_member, gate_shut, gate_open}
use Rattle.replica.specs.ActingLaws.{acted, Summed, summed_at}
use Rattle.replica.specs.Quorumread.{with_reads, open_read_step, answer_act, replied_step, read_reply_step}
use Rattle.replica.specs.Step.{Told}
use Rattle.replica.specs.ReadCalls.{AnswerFits, answer_acts, Answers}

-- ── the answers of a closed read ──
module _ (leader : ℕ) (read : Read) (room : List ℕ) where
  abbrev answer_one : ℕ → List Act
  answer_one k = answer_act leader read k ∷ []

  -- one answer, from what is known of its key
  pub answer_put : (after : List ℕ) (i : ℕ) (said : ReadAnswer) → AnswerFits i room → said ≡ answer_of leader (best_at read.tally i)
      → after ≡ put_act room i (bare (answered (record { read = read.id; place = i; tag = said.tag; value = said.value })))
      → after ≡ write_at room i (answer_act leader read i ∷ [])
  answer_put after i said f e p =
      p ∙ put_in room i _ (omega (arith, f.low)) f.long
      ∙ ap (λ (s : ReadAnswer). write_at room i (bare (answered (record { read = read.id; place = i; tag = s.tag; value = s.value })) ∷ [])) e

  -- the loop: where it begins, a turn of it
  pub Answers-start : Answers leader read 0 room room
  Answers-start = record { many = refl; written = room_start room 0 answer_one 0 }

  pub Answers-turn : (mid after : List ℕ) (i : ℕ) → Answers leader read i room mid → after ≡ write_at mid i (answer_act leader read i ∷ [])
      → Answers leader read (i + 1) room after
  Answers-turn mid after i p e =
      record {
        many = rw (gather_more answer_one 0 i (omega arith)) (sym (length-append (gather answer_one 0 i) (answer_one i) ∙ omega (arith, p.many)));
        written = room_turn room 0 answer_one 0 mid after i i (omega arith) (omega arith) (p.many ∙ sym (zero-add _)) p.written e;
      }

-- ── a reply to the read at place i ──
module _ (r : Replica) (i : ℕ) (d : Replied) where
  pub replied_closes : {room after : List ℕ} {rs : Reads} → d.closes ≡ true → Answers r.sc.leader d.read d.answers room after → rs ≡ close_read r.reads i → Summed r
      → Told (summed (replied_step r i d)) (record { answer = 0; count = d.answers; replica = with_reads r rs }) room after
  unfolding replied_step
  replied_closes {rs = rs} e a f s = acted (answer_acts r.sc.leader d.read d.answers) (with_reads r rs) r.summary _ refl a.many a.written (rw (e, f)) s

  pub replied_stays : {b : Bool} {rs : Reads} → d.closes ≡ false → b ≡ stays_open d.answer → not b ≡ false
      → rs ≡ put_read r.reads i d.read → replied_step r i d ≡ kept d.answer (with_reads r rs)
  unfolding replied_step
  replied_stays e f g h = rw (e, granted f g, h)

  pub replied_refused : {b : Bool} → d.closes ≡ false → b ≡ stays_open d.answer → not b ≡ true
      → replied_step r i d ≡ kept d.answer r
  unfolding replied_step
  replied_refused e f g = rw (e, refuted f g)

  -- a reply to a read leaves the summary
  pub replied_summed : Summed r → summed (replied_step r i d) ≡ replied_step r i d
  unfolding replied_step
  replied_summed s =
      pick_both (λ (o : Outcome). summed o ≡ o) d.closes (summed_at _ s)
      (pick_both (λ (o : Outcome). summed o ≡ o) (stays_open d.answer) (summed_at _ s) (summed_at _ s))

-- the same, by the code's outcome
module _ (r : Replica) (i : ℕ) (read : Read) where
  pub reply_closes : {room after : List ℕ} {rs : Reads} (answers : ℕ) → Answers r.sc.leader read answers room after → rs ≡ close_read r.reads i → Summed r
      → Told (summed (replied_step r i (reply_as (Ok (Some answers)) read))) (record { answer = 0; count = answers; replica = with_reads r rs }) room after
  reply_closes answers a f s = replied_closes r i (reply_as (Ok (Some answers)) read) refl a f s

  pub reply_waits : {rs : Reads} → rs ≡ put_read r.reads i read → replied_step r i (reply_as (Ok None) read) ≡ kept 0 (with_reads r rs)
  reply_waits e = replied_stays r i (reply_as (Ok None) read) refl refl refl e

  pub reply_clashes : {rs : Reads} → rs ≡ put_read r.reads i read → replied_step r i (reply_as (Err Conflict) read) ≡ kept 12 (with_reads r rs)
  reply_clashes e = replied_stays r i (reply_as (Err Conflict) read) refl refl refl e

  pub reply_refused : (e : MergeError) → (e ≡ Conflict → ⊥) → replied_step r i (reply_as (Err e) read) ≡ kept (error_number e) r
  reply_refused HeldTooLong h = replied_refused r i (reply_as (Err HeldTooLong) read) refl refl refl
  reply_refused ReplyTooLong h = replied_refused r i (reply_as (Err ReplyTooLong) read) refl refl refl
  reply_refused UnequalLengths h = replied_refused r i (reply_as (Err UnequalLengths) read) refl refl refl
  reply_refused Conflict h = absurd (h refl)

-- ── a read opens ──
module _ (r : Replica) (room id count : ℕ) (keys : List ℕ) where
  pub open_unready : (n : ℕ) → n ≡ ready_answer r room → (n ≡ 0 → ⊥) → open_read_step r room id count keys ≡ kept n r
  unfolding open_read_step
  open_unready n e h = gate_shut (ready_answer r room) n r _ (gate_ready r room _) e h

  pub open_ready : (o : Opened) → ready r room ≡ true → o ≡ open_read r.reads id count keys
      → open_read_step r room id count keys ≡ kept o.answer (with_reads r o.reads)
  unfolding open_read_step
  open_ready o e f = ready_goes r room _ e ∙ rw f

-- ── a reply to a read ──
module _ (r : Replica) (room peer id : ℕ) (leads : Bool) (reply : Tally) where
  -- the read that the reply names, and what the reply makes of it
  abbrev named : Read
  named = get_or r.reads.reads (find_read r.reads id) no_read

  abbrev made_of : Replied
  made_of = reply_to (quorum r.sc) peer leads reply named

  abbrev past_tests : Outcome
  past_tests =
      pick (ltb 8 reply.count) (kept 10 r)
      (pick (leb r.reads.count (find_read r.reads id)) (kept 0 r) (replied_step r (find_read r.reads id) made_of))

  gate : read_reply_step r room peer id leads reply ≡ pick (not (eqb (from_member r room peer) 0)) (kept (from_member r room peer) r) past_tests
  unfolding read_reply_step
  gate = gate_member r room peer past_tests

  module _ (n : ℕ) (e : n ≡ from_member r room peer) where
    pub reply_shut : (n ≡ 0 → ⊥) → read_reply_step r room peer id leads reply ≡ kept n r
    reply_shut h = gate_shut (from_member r room peer) n r past_tests gate e h

    module _ (z : n ≡ 0) where
      pub reply_long : 8 < reply.count → read_reply_step r room peer id leads reply ≡ kept 10 r
      reply_long h = gate_open (from_member r room peer) n r past_tests gate e z ∙ rw (lt-ltb 8 reply.count h)

      module _ (few : reply.count ≤ 8) (at : ℕ) (found : at ≡ find_read r.reads id) where
        pub reply_unknown : r.reads.count ≤ at → read_reply_step r room peer id leads reply ≡ kept 0 r
        reply_unknown h =
            gate_open (from_member r room peer) n r past_tests gate e z
            ∙ rw (le-ltb 8 reply.count few, ← found, le-leb r.reads.count at h)

        pub reply_known : at < r.reads.count → (k : ℕ) (d : Replied) → k ≡ quorum r.sc
            → d ≡ reply_to k peer leads reply (get_or r.reads.reads at no_read) → read_reply_step r room peer id leads reply ≡ replied_step r at d
        reply_known h k d q f =
            gate_open (from_member r room peer) n r past_tests gate e z
            ∙ rw (le-ltb 8 reply.count few, ← found, lt-leb r.reads.count at h, f, q)

-- a read in use answers at most eight keys
pub answers_few : (r : Replica) (quorum peer at : ℕ) (leads : Bool) (reply : Tally) (d : Replied) → fit_reads r.sc.group r.reads ≡ true → at < r.reads.count
    → d ≡ reply_to quorum peer leads reply (get_or r.reads.reads at no_read) → d.answers ≤ 8
answers_few r quorum peer at leads reply d f h e =
    let k : (get_or r.reads.reads at no_read).tally.count ≤ 8 = leb-true _ 8 (and_left _ _ (read_fits r.sc.group r.reads at f h)) in
    rw e (omega (arith, k, reply_few quorum peer leads reply (get_or r.reads.reads at no_read)))
