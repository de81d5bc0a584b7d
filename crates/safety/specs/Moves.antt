-- One call of a present member in a sound scene, any outcome that keeps to the strict frame; the scene after it, and that it only grew.
use Rattle.std.specs.Prelude.{◌≡◌, Bool, true, List, ◌++◌, ◌⊎◌, ℕ, ◌≤◌}
use Rattle.std.proofs.Common.{subst, inl, inr, arith}
use Rattle.base.specs.Among.{◌∈◌, All-in}
use Rattle.actions.specs.Actions.{Act}
use Rattle.slots.specs.declared.Vote.{Vote}
use Rattle.replica.specs.declared.Done.{Done}
use Rattle.replica.specs.Step.{Call, call_logged}
use Rattle.voting.specs.StrictVotes.{entry_of}
use Rattle.safety.specs.ForGood.{EntryIn}
use Rattle.agreement.specs.Frame.{Wrote, ActOk}
use Rattle.safety.specs.Sight.{Sight, plain, Strict}
use Rattle.safety.specs.Scene.{Scene, promises, HasPromised, Voted, NoneBelow, Brought, completions, done_in, reported_in, acted, old_did, old_log, log_cases, old_reported, new_reported}
use Rattle.safety.specs.Alone.{Alone, NoneIn, Alone-step}
use Rattle.safety.specs.Lawfully.{member}
use Rattle.safety.specs.Rows.{Sound}
use Rattle.safety.specs.Growth.{Ext}

pub record Move (size : ℕ) (present : ℕ → Bool) (g : Scene) : Type 0 where
  pub sound : Sound size present g
  pub who : ℕ
  pub is : present who ≡ true
  pub call : Call
  pub answer : ℕ
  pub after : Sight
  pub acts : List Act
  pub frame : Strict (g.sight who) call answer after acts
  pub brought : Brought g who call

module _ {size : ℕ} {present : ℕ → Bool} {g : Scene} (t : Move size present g) where
  abbrev pub before : Sight
  before = g.sight t.who

  abbrev pub next : Scene
  next = acted g t.who t.after t.acts (completions t.call)

  -- the member alone, before and after
  abbrev pub one : Alone t.who before (g.did t.who) (g.log t.who) (g.reported t.who)
  one = t.sound.alone t.who t.is

  pub me : before.me ≡ t.who
  me = one.local.id

  -- only present members do anything
  pub member_of : (p : ℕ) {x : Act} → x ∈ g.did p → present p ≡ true
  member_of p a = member present g t.sound.alone t.sound.nothing p a

  pub wrote : (s : ℕ) (x : Vote) → entry_of s x ∈ t.acts → Wrote (plain before) t.call (plain t.after) s x.ballot x.batch
  wrote s x m = (All-in (ActOk (plain before) t.call (plain t.after) t.acts) t.frame.frame.said m).0

  -- a vote that it casts is not below what it promised
  newer_at : (s : ℕ) (x : Vote) → entry_of s x ∈ t.acts → (n : ℕ) → HasPromised g t.who n → n ≤ x.ballot
  newer_at s x m n p = let a = one.vowed n p in let b = (wrote s x m).top in omega (arith, t.frame.frame.mono)

  pub ext : Ext g next
  ext =
      record {
        promises = λ m n (d, i, p, l). (d, old_reported g t.who t.after t.acts (completions t.call) m i, p, l);
        keeps = λ m a. old_did g t.who t.after t.acts (completions t.call) m a;
        lasting = λ m s x (a, (n, b)). (old_log g t.who t.after t.acts (completions t.call) m a, (n, old_reported g t.who t.after t.acts (completions t.call) m b));
        newer = λ m s x a. go m s x (log_cases g t.who t.after t.acts (completions t.call) m a);
      }
    where
      go : (m s : ℕ) (x : Vote) → (entry_of s x ∈ g.log m) ⊎ ((m ≡ t.who) × (entry_of s x ∈ t.acts)) → Voted g s m x ⊎ ((n : ℕ) → HasPromised g m n → n ≤ x.ballot)
      go m s x (inl a) = inl a
      go m s x (inr (e, a)) = inr (λ n p. newer_at s x a n (subst (λ (j : ℕ). HasPromised g j n) e p))

  pub written : (d : Done) → d ∈ completions t.call → EntryIn (g.log t.who) d.entry d.slot d.ballot
  written d m = reported_in g t.who t.call d t.brought m

  pub one' : Alone t.who t.after (g.did t.who ++ t.acts) (g.log t.who ++ t.acts) (g.reported t.who ++ completions t.call)
  one' =
      Alone-step t.who before (g.did t.who) (g.log t.who) (g.reported t.who) t.call t.answer t.after t.acts (completions t.call) one t.frame written

  -- a completion that is reported now is a promise
  pub promised_now : (d : Done) → t.call ≡ call_logged d → promises d.entry ≡ true → HasPromised next t.who d.ballot
  promised_now d e p = (d, new_reported g t.who t.after t.acts (completions t.call) (done_in t.call d e), p, omega arith)

  -- of its own votes after the call, those below a ballot that it has seen stood before
  pub own_below : (s b : ℕ) (x : Vote) → b ≤ t.after.seen → Voted next s t.who x → (entry_of s x ∈ g.log t.who) ⊎ (b ≤ x.ballot)
  own_below s b x l a = go (log_cases g t.who t.after t.acts (completions t.call) t.who a)
    where
      go : (entry_of s x ∈ g.log t.who) ⊎ ((t.who ≡ t.who) × (entry_of s x ∈ t.acts)) → (entry_of s x ∈ g.log t.who) ⊎ (b ≤ x.ballot)
      go (inl y) = inl y
      go (inr (_, y)) = let z = (wrote s x y).top in inr (omega arith)

  pub own_none : (s b : ℕ) → b ≤ t.after.seen → NoneIn (g.log t.who) s b → NoneBelow next t.who s b
  own_none s b l f x a = go (own_below s b x l a)
    where
      go : (entry_of s x ∈ g.log t.who) ⊎ (b ≤ x.ballot) → b ≤ x.ballot
      go (inl y) = f x y
      go (inr y) = y
