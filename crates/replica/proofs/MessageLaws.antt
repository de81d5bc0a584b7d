-- The rest of specs/MessageLaws.antt: what stands on a theorem that a must-fail edit makes false.
use Rattle.std.proofs.Math.Path.{◌≡◌}
use Rattle.std.proofs.Common.{◌∙◌, arith, lt-ltb, le-ltb, le-leb}
use Rattle.std.specs.Prelude.{ℕ, ◌+◌, ◌≤◌, ◌<◌}
use Rattle.std.proofs.lemmas.Bool.{lt-leb}
use Rattle.slots.specs.Slots.{null_slot}
use Rattle.window.specs.declared.Window.{Window}
use Rattle.window.specs.Bounded.{filled_in}
use Rattle.window.specs.BoundedLaws.{filled_in_lem}
use Rattle.replica.specs.declared.Replica.{Replica}
use Rattle.replica.specs.Record.{kept, place}
use Rattle.replica.specs.Messages.{prepare_on, prepare_step}
use Rattle.replica.specs.Admit.{from_owner}
use Rattle.replica.specs.AdmitLaws.{gate_owner, gate_shut, gate_open}
use Rattle.replica.specs.MessageLaws.{prepare_from}

module _ (r : Replica) (n peer trigger ballot first : ℕ) (e : first ≡ from_owner r n peer ballot) where
  pub prepare_shut : (first ≡ 0 → ⊥) → prepare_step r n peer trigger ballot ≡ kept first r
  unfolding prepare_step
  prepare_shut h =
      gate_shut (from_owner r n peer ballot) first r (prepare_from r peer trigger ballot) (gate_owner r n peer ballot (prepare_from r peer trigger ballot)) e h

  module _ (z : first ≡ 0) where
    prepare_open : prepare_step r n peer trigger ballot ≡ prepare_from r peer trigger ballot
    unfolding prepare_step
    prepare_open =
        gate_open (from_owner r n peer ballot) first r (prepare_from r peer trigger ballot) (gate_owner r n peer ballot (prepare_from r peer trigger ballot)) e z

    pub prepare_below : trigger < r.sc.start → prepare_step r n peer trigger ballot ≡ kept 0 r
    prepare_below h = prepare_open ∙ rw (lt-ltb trigger r.sc.start h)

    module _ (f : r.sc.start ≤ trigger) where
      pub prepare_old : ballot < r.sc.bal_max_seen → prepare_step r n peer trigger ballot ≡ kept 0 r
      prepare_old h = prepare_open ∙ rw (le-ltb trigger r.sc.start f, lt-ltb ballot r.sc.bal_max_seen h)

      module _ (g : r.sc.bal_max_seen ≤ ballot) where
        pub prepare_past : r.sc.start + 64 ≤ trigger → prepare_step r n peer trigger ballot ≡ kept 5 r
        prepare_past h =
            prepare_open
            ∙ rw (le-ltb trigger r.sc.start f, le-ltb ballot r.sc.bal_max_seen g, le-leb (r.sc.start + 64) trigger h)

        pub prepare_goes : (w : Window) → trigger < r.sc.start + 64 → w ≡ filled_in null_slot r.window (place r.sc trigger + 1)
            → prepare_step r n peer trigger ballot ≡ prepare_on r w (place r.sc trigger) peer ballot
        prepare_goes w h q =
            prepare_open
            ∙ rw (le-ltb trigger r.sc.start f, le-ltb ballot r.sc.bal_max_seen g, lt-leb (r.sc.start + 64) trigger h, q, filled_in_lem null_slot r.window (place r.sc trigger + 1) (omega arith))
