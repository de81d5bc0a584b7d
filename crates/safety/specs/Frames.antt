-- Every call of a strict replica keeps to the strict frame.
use Rattle.std.specs.Prelude.{ℕ}
use Rattle.replica.specs.declared.Replica.{Replica}
use Rattle.replica.specs.Step.{Call, step}
use Rattle.laws.proofs.Theorems.{group_stays}
use Rattle.agreement.specs.Calls.{step-Ok}
use Rattle.safety.specs.Sight.{sight_of, Strict, Able}
use Rattle.safety.specs.Able.{Able-step, Fine-of}
use Rattle.safety.specs.Bars.{longer, Bars-move}
use Rattle.safety.specs.SayingAll.{Says-All}
use Rattle.safety.specs.Turns.{slot_turns}
use Rattle.safety.specs.Leads.{Leads-all}

pub keeps_to : (r : Replica) (room : ℕ) (c : Call) → Able r → Strict (sight_of r) c (step r room c).answer (sight_of (step r room c).replica) (step r room c).actions
keeps_to r room c a =
    record {
      frame = (step-Ok r room c a.good).frame;
      fine = Fine-of (step r room c).replica (Able-step r room c a);
      group = group_stays r room c;
      longer = longer r room c a;
      slot = slot_turns r room c a;
      bars = Bars-move r room c a;
      said = Says-All r room c a;
      leads = Leads-all r room c a;
    }
