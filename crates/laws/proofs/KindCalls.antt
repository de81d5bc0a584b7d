-- The rest of specs/KindCalls.antt: what stands on a theorem that a must-fail edit makes false.
use Rattle.std.proofs.Common.{sym, ap, ◌∙◌}
use Prim.Native.Nat.{ℕ}
use Rattle.replica.specs.Record.{summed}
use Rattle.replica.specs.Step.{step}
use Rattle.laws.proofs.Theorems.{options_stay}
use Rattle.laws.specs.Kinds.{options_of, KindsAgree}
use Rattle.laws.specs.KindCalls.{calls_agree, kind_disallowed, kind_urgent, optioned_outcome}

pub kinds_agree : KindsAgree
kinds_agree kind r room c k =
    ap summed (calls_agree (options_of kind r.sc.options) r (kind_urgent kind r.sc) (kind_disallowed kind r.sc) room c k).same
    ∙ ap (λ (options : ℕ). optioned_outcome (options_of kind options) (step r room c)) (sym (options_stay r room c))
