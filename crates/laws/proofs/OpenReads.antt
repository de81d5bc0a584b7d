-- The rest of specs/OpenReads.antt: what stands on a theorem that a must-fail edit makes false.
use Rattle.std.specs.Prelude.{◌≡◌, false, ℕ, ◌<◌, get_or}
use Rattle.std.proofs.Common.{sym, ap, subst}
use Rattle.members.specs.Sets.{count_in}
use Rattle.members.specs.Groups.{quorum_of}
use Rattle.tally.specs.declared.Reads.{Reads}
use Rattle.tally.specs.Open.{no_read}
use Rattle.tally.specs.ReadLaws.{Distinct}
use Rattle.decide.specs.Scalars.{quorum}
use Rattle.replica.specs.declared.Replica.{Replica}
use Rattle.replica.specs.Quorumread.{open_read_step, read_reply_step}
use Rattle.replica.specs.Step.{Call, step}
use Rattle.laws.specs.WaysAdded.{read_at}
use Rattle.laws.specs.Good.{Sized}
use Rattle.laws.proofs.Theorems.{group_stays}
use Rattle.laws.specs.OpenReads.{Call-cases, Waiting, Waiting-summed, of_reads, open_waiting, other_calls, reply_waiting}

-- a call that leaves the table leaves it so
others_waiting : (r : Replica) (n : ℕ) (c : Call) → of_reads c ≡ false → Waiting r → Waiting (step r n c).replica
others_waiting r n c e w =
    let group : quorum r.sc ≡ quorum (step r n c).replica.sc = ap quorum_of (sym (group_stays r n c)) in
    let reads : r.reads ≡ (step r n c).replica.reads = sym (other_calls r n c e) in
    record {
      ids = subst Distinct reads w.ids;
      waits =
          subst (λ (q : ℕ). (i : ℕ) → i < (step r n c).replica.reads.count → count_in (read_at (step r n c).replica i).acks < q) group
          (subst (λ (rs : Reads). (i : ℕ) → i < rs.count → count_in (get_or rs.reads i no_read).acks < quorum r.sc) reads w.waits);
    }

pub Waiting-stays : (r : Replica) (n : ℕ) (c : Call) → Sized r → Waiting r → Waiting (step r n c).replica
Waiting-stays r n c s w =
    Call-cases (λ (x : Call). Waiting (step r n x).replica) (λ x e. others_waiting r n x e w)
    (λ id count keys. Waiting-summed (open_read_step r n id count keys) (open_waiting r n s w id count keys))
    (λ peer id leader reply. Waiting-summed (read_reply_step r n peer id leader reply) (reply_waiting r n s w peer id leader reply)) c
