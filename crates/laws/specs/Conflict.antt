-- Answer 12. 01: "On conflict: answer 12, merges for earlier keys stay, the sender is not acknowledged, the read stays open."
use Rattle.std.specs.Prelude.{◌≡◌, refl, ◌||◌, ℕ, ltb, get_or, set}
use Rattle.std.proofs.Math.Dec.{leb}
use Rattle.base.specs.Pick.{pick_both}
use Rattle.base.specs.Over.{set_each}
use Rattle.tally.specs.declared.Tally.{Tally}
use Rattle.tally.specs.declared.Read.{Read}
use Rattle.tally.specs.declared.Reads.{Reads}
use Rattle.tally.specs.Open.{no_read, put_read}
use Rattle.tally.specs.ReadLaws.{put_count, put_others}
use Rattle.replica.specs.declared.Replica.{Replica}
use Rattle.replica.specs.Record.{Outcome}
use Rattle.replica.specs.Step.{Call, call_prepare, call_prepare_reply, call_accept, call_accept_reply, call_commit_notice, call_timeout, call_logged, call_offer, call_executed, call_open_read, call_read_reply}
use Rattle.laws.specs.WaysAdded.{read_place, read_at, merged_read, stayed}

-- only the tally of the read with this id may have changed
pub record TallyOnly (r : Replica) (id : ℕ) (after : Replica) : Type 0 where
  pub sc : after.sc ≡ r.sc
  pub bars : after.bars ≡ r.bars
  pub window : after.window ≡ r.window
  pub keys : after.keys ≡ r.keys
  pub summary : after.summary ≡ r.summary
  pub count : after.reads.count ≡ r.reads.count
  pub others : (i : ℕ) → (i ≡ read_place r id → ⊥) → read_at after i ≡ read_at r i
  pub read_id : (read_at after (read_place r id)).id ≡ (read_at r (read_place r id)).id
  pub read_acks : (read_at after (read_place r id)).acks ≡ (read_at r (read_place r id)).acks
  pub read_keys : (read_at after (read_place r id)).keys ≡ (read_at r (read_place r id)).keys
  pub read_count : (read_at after (read_place r id)).tally.count ≡ (read_at r (read_place r id)).tally.count

-- what 12 says of a call: it is a reply to a read, and only that read's tally may have changed
abbrev pub Conflicts : Replica → Call → Outcome → Type 0
Conflicts r (call_prepare peer trigger ballot) o = ⊥
Conflicts r (call_prepare_reply peer m) o = ⊥
Conflicts r (call_accept peer slot ballot b) o = ⊥
Conflicts r (call_accept_reply peer slot ballot) o = ⊥
Conflicts r (call_commit_notice peer ballot bar) o = ⊥
Conflicts r (call_timeout source) o = ⊥
Conflicts r (call_logged d) o = ⊥
Conflicts r (call_offer b) o = ⊥
Conflicts r (call_executed slot) o = ⊥
Conflicts r (call_open_read id count keys) o = ⊥
Conflicts r (call_read_reply peer id from_leader reply) o = TallyOnly r id o.replica

-- a read written anew: the places, and what holds of the read there
module _ (rs : Reads) (i : ℕ) (d : Read) where
  pub put_ways : (P : Reads → Type 0) → P rs → P (record { count = rs.count; reads = set rs.reads i d }) → P (put_read rs i d)
  unfolding put_read
  put_ways P p q = pick_both P (ltb 16 rs.count || leb rs.count i) p q

  pub put_each : (P : Read → Type 0) (j : ℕ) → (j ≡ i → P d) → P (get_or rs.reads j no_read) → P (get_or (put_read rs i d).reads j no_read)
  put_each P j p q = put_ways (λ (x : Reads). P (get_or x.reads j no_read)) q (set_each no_read P rs.reads i j d p q)

pub conflict_only : (r : Replica) (id : ℕ) (reply : Tally) (k : ℕ)
    → TallyOnly r id (stayed 12 r (read_place r id) (merged_read (read_at r (read_place r id)) reply k)).replica
conflict_only r id reply k =
    let i : ℕ = read_place r id in
    let d : Read = merged_read (read_at r (read_place r id)) reply k in
    record {
      sc = refl;
      bars = refl;
      window = refl;
      keys = refl;
      summary = refl;
      count = put_count r.reads i d;
      others = put_others r.reads i d;
      read_id = put_each r.reads i d (λ (x : Read). x.id ≡ (read_at r i).id) i (λ e. refl) refl;
      read_acks = put_each r.reads i d (λ (x : Read). x.acks ≡ (read_at r i).acks) i (λ e. refl) refl;
      read_keys = put_each r.reads i d (λ (x : Read). x.keys ≡ (read_at r i).keys) i (λ e. refl) refl;
      read_count = put_each r.reads i d (λ (x : Read). x.tally.count ≡ (read_at r i).tally.count) i (λ e. refl) refl;
    }
