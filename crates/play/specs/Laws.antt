-- The call that a record of each kind names, the ways of playing one, and that on a base replica kind 8's ballot makes no difference.
use Rattle.std.specs.Prelude.{◌≡◌, ℕ, Bool, true, false, List, ◌==◌, ◌≢◌, ◌<◌}
use Rattle.std.proofs.Common.{sym, ◌∙◌, ap, arith, refl}
use borrow.Author.Tests.{eq-eqb, ne_eqb}
use Rattle.batch.specs.declared.Batch.{Batch}
use Rattle.tally.specs.declared.Tally.{Tally}
use Rattle.decide.specs.declared.Reply.{Reply}
use Rattle.decide.specs.Scalars.{strict}
use Rattle.replica.specs.declared.Replica.{Replica}
use Rattle.replica.specs.Seen.{Made}
use Rattle.replica.specs.declared.Done.{Done}
use Rattle.replica.specs.Record.{Outcome, kept, place, new_replica}
use Rattle.replica.specs.Durability.{logged_on, logged_step}
use Rattle.replica.specs.CompletionLaws.{done_alike}
use Rattle.replica.specs.Step.{call_prepare, call_prepare_reply, call_accept, call_accept_reply, call_commit_notice, call_timeout, call_logged, call_offer, call_executed, call_open_read, call_read_reply, step}
use Rattle.trace.specs.declared.Record.{Record}
use Rattle.trace.specs.declared.kind.Kind.{Kind}
use Rattle.trace.specs.Kinds.{number_of}
use Rattle.trace.specs.Laws.{bad_number}
use Rattle.trace.specs.Records.{keys_of, malformed, record_at, sum_right}
use Rattle.play.specs.Play.{batch_of, tally_of, reply_of, entry_of, done_of, own_call_of, call_of, renewed, named, played, played_at}

module _ (r : Replica) (n : ℕ) (d : Record) where
  pub calls_prepare : d.kind ≡ 1 → step r n (call_of d) ≡ step r n (call_prepare d.peer d.trigger d.ballot)
  unfolding call_of
  calls_prepare e = rw e

  pub calls_reply : (m : Reply) → d.kind ≡ 2 → m ≡ reply_of d → step r n (call_of d) ≡ step r n (call_prepare_reply d.peer m)
  unfolding call_of
  calls_reply m e f = rw (e, f)

  pub calls_accept : (b : Batch) → d.kind ≡ 3 → b ≡ batch_of d → step r n (call_of d) ≡ step r n (call_accept d.peer d.slot d.ballot b)
  unfolding call_of
  calls_accept b e f = rw (e, f)

  pub calls_accept_reply : d.kind ≡ 4 → step r n (call_of d) ≡ step r n (call_accept_reply d.peer d.slot d.ballot)
  unfolding call_of
  calls_accept_reply e = rw e

  pub calls_notice : d.kind ≡ 5 → step r n (call_of d) ≡ step r n (call_commit_notice d.peer d.ballot d.bar)
  unfolding call_of
  calls_notice e = rw e

  pub calls_timeout : d.kind ≡ 6 → step r n (call_of d) ≡ step r n (call_timeout d.peer)
  unfolding call_of
  calls_timeout e = rw e

  pub calls_own : (d.kind ≢ 1) → (d.kind ≢ 2) → (d.kind ≢ 3) → (d.kind ≢ 4) → (d.kind ≢ 5) → (d.kind ≢ 6)
      → step r n (call_of d) ≡ step r n (own_call_of d)
  unfolding call_of
  calls_own a b c e f g = rw (ne_eqb d.kind 1 a, ne_eqb d.kind 2 b, ne_eqb d.kind 3 c, ne_eqb d.kind 4 e, ne_eqb d.kind 5 f, ne_eqb d.kind 6 g)

  pub calls_offer : (b : Batch) → d.kind ≡ 7 → b ≡ batch_of d → step r n (own_call_of d) ≡ step r n (call_offer b)
  unfolding own_call_of
  calls_offer b e f = rw (e, f)

  pub calls_logged : (x : Done) → d.kind ≡ 8 → x ≡ done_of d → step r n (own_call_of d) ≡ step r n (call_logged x)
  unfolding own_call_of
  calls_logged x e f = rw (e, f)

  pub calls_executed : d.kind ≡ 9 → step r n (own_call_of d) ≡ step r n (call_executed d.slot)
  unfolding own_call_of
  calls_executed e = rw e

  pub calls_open : (keys : List ℕ) → d.kind ≡ 10 → keys ≡ keys_of d → step r n (own_call_of d) ≡ step r n (call_open_read d.slot d.count keys)
  unfolding own_call_of
  calls_open keys e f = rw (e, f)

  pub calls_read : (t : Tally) → (d.kind ≢ 7) → (d.kind ≢ 8) → (d.kind ≢ 9) → (d.kind ≢ 10) → t ≡ tally_of d
      → step r n (own_call_of d) ≡ step r n (call_read_reply d.peer d.slot (d.sub == 1) t)
  unfolding own_call_of
  calls_read t a b c e f = rw (ne_eqb d.kind 7 a, ne_eqb d.kind 8 b, ne_eqb d.kind 9 c, ne_eqb d.kind 10 e, f)

  -- what a record names, by the case of its kind
  pub kind_is : {kind : Kind} (k : Kind) → number_of kind ≡ d.kind → kind ≡ k → d.kind ≡ number_of k
  kind_is k e f = sym e ∙ ap number_of f

  pub names_call : (o : Outcome) → 0 < d.kind → step r n (call_of d) ≡ o → named r n d ≡ o
  names_call o h e = rw (ne_eqb d.kind 0 (λ z. omega arith)) e

  pub names_own : (o : Outcome) → 6 < d.kind → step r n (own_call_of d) ≡ o → named r n d ≡ o
  names_own o h e =
      names_call o (omega arith)
      (calls_own (λ z. omega arith) (λ z. omega arith) (λ z. omega arith) (λ z. omega arith) (λ z. omega arith) (λ z. omega arith) ∙ e)

  -- ── a record, malformed, for a new replica, or with a call ──

  pub plays_malformed : (right b : Bool) → b ≡ malformed d right → b ≡ true → played r n d right ≡ kept 13 r
  unfolding played
  plays_malformed right b e f = rw (sym e ∙ f)

  pub plays_new : (right b : Bool) → b ≡ malformed d right → b ≡ false → d.kind ≡ 0 → played r n d right ≡ renewed r d
  unfolding played
  plays_new right b e f g = rw (sym e ∙ f, g)

  pub plays_named : (right b : Bool) → b ≡ malformed d right → b ≡ false → played r n d right ≡ named r n d
  unfolding played
  plays_named right b e f = rw (sym e ∙ f)

  pub plays_number : (right : Bool) → 11 < d.kind → played r n d right ≡ kept 13 r
  plays_number right h = plays_malformed right true (sym (bad_number d right h)) refl

  pub plays_call : (right b : Bool) → b ≡ malformed d right → b ≡ false → (d.kind ≢ 0) → played r n d right ≡ step r n (call_of d)
  unfolding played
  plays_call right b e f g = rw (sym e ∙ f, ne_eqb d.kind 0 g)

-- ── kind 8's ballot: 02, Wish 5, "The base replica still ignores it" ──

-- the record with another ballot
abbrev pub with_ballot : Record → ℕ → Record
with_ballot d b =
    record {
      kind = d.kind;
      peer = d.peer;
      sub = d.sub;
      count = d.count;
      slot = d.slot;
      trigger = d.trigger;
      endprep = d.endprep;
      ballot = b;
      voted = d.voted;
      batch = d.batch;
      bar = d.bar;
      entries = d.entries;
    }

pub plays_alike : (r : Replica) (n : ℕ) (d : Record) (right : Bool) (b : ℕ) → strict r.sc ≡ false → d.kind ≡ 8
    → played r n (with_ballot d b) right ≡ played r n d right
unfolding played malformed call_of own_call_of logged_step logged_on
plays_alike r n d right b k e =
    let i = place r.sc d.slot in
    rw (e, done_alike (logged_on r i d.bar) i d.slot b d.ballot k (entry_of d.sub))

-- ── kind 0 ──

module _ (r : Replica) (d : Record) (m : Made) (e : m ≡ new_replica d.peer d.sub d.slot d.trigger) where
  pub renews_not : (m.answer ≢ 0) → renewed r d ≡ kept m.answer r
  unfolding renewed
  renews_not h = rw (sym e, ne_eqb m.answer 0 h)

  pub renews : (m.answer ≡ 0) → renewed r d ≡ kept 0 m.replica
  unfolding renewed
  renews h = rw (sym e, eq-eqb m.answer 0 h)

-- ── where it stands in bytes ──

pub plays_at : (r : Replica) (n : ℕ) (bytes : List ℕ) (at : ℕ) (d : Record) (right : Bool) → d ≡ record_at bytes at → right ≡ sum_right bytes at
    → played_at r n bytes at ≡ played r n d right
plays_at r n bytes at d right e f = rw (e, f)
