-- The rest of specs/AnyOrderRuns.antt: what stands on a theorem that a must-fail edit makes false.
use Rattle.std.specs.Prelude.{◌≡◌, refl, [], ◌∷◌, ℕ}
use mathlib.Core.List.Memᴰ
use Rattle.std.proofs.Common.{le_refl}
use Rattle.base.specs.Among.{◌∈◌, All-in}
use Rattle.base.specs.Scan.{scan}
use Rattle.members.specs.Sets.{has, insert, count, count_in}
use Rattle.tally.specs.Merge.{merge}
use Rattle.tally.specs.Open.{find_read, open_read, put_read, reply_to, fit_reads}
use Rattle.decide.specs.Scalars.{fit_scalars}
use Rattle.window.specs.Window.{first_open, fit_slots}
use Rattle.replica.specs.Record.{new_replica}
use Rattle.replica.specs.Fit.{fit}
use Rattle.replica.specs.Quorumread.{open_read_step, replied_step, read_reply_step}
use Rattle.replica.specs.Step.{step}
use Rattle.laws.specs.OpenReads.{Waiting-new}
use Rattle.laws.proofs.OpenReads.{Waiting-stays}
use Rattle.laws.specs.AnyOrder.{read_of, ReadOpen, member_reply, replied, SameEnd}
use Rattle.laws.specs.InARow.{replies_within}
use Rattle.laws.proofs.InARow.{in_any_order}
use Rattle.laws.proofs.BetweenReplies.{same_read, same_answers}
use Rattle.laws.specs.Theorems.{new_sized, sizes_stay}
use Rattle.laws.specs.AnyOrderRuns.{another, asked_four, backwards, first_order, four_keys, met_backwards, met_below, met_hears, met_other, met_prepare, met_quorum, met_read, same_members, three_say, turned, two, with_other, with_prepare, with_read}

pub met_open : ReadOpen 5 asked_four
unfolding new_replica fit fit_scalars fit_slots fit_reads open_read_step find_read open_read scan first_open
met_open =
    record {
      fits = refl;
      sized = sizes_stay (new_replica 2 5 0 0).replica 3456 four_keys (new_sized 2 5 0 0);
      waiting = Waiting-stays (new_replica 2 5 0 0).replica 3456 four_keys (new_sized 2 5 0 0) (Waiting-new 2 5 0 0);
      known = le_refl 1;
    }

pub met_same : SameEnd 3456 5 three_say asked_four first_order another
met_same = in_any_order 3456 5 three_say asked_four first_order another (le_refl 3456) met_open met_hears met_quorum same_members

pub met_same_read : read_of with_prepare 5 ≡ read_of with_read 5
met_same_read =
    same_read 5 three_say asked_four with_prepare with_read two turned met_open
    (replies_within 5 three_say asked_four first_order two met_hears
    (λ m o. All-in (λ (x : ℕ). x ∈ first_order) {l = two} (Memᴰ.head refl, (Memᴰ.tail (Memᴰ.head refl), tt)) o)) met_below
    (record {
      there = λ m o. All-in (λ (x : ℕ). x ∈ turned) {l = two} (Memᴰ.tail (Memᴰ.head refl), (Memᴰ.head refl, tt)) o;
      back = λ m o.
          let one : 1 ∈ two = Memᴰ.tail (Memᴰ.head refl) in
          All-in (λ (x : ℕ). x ∈ two) {l = turned} (one, (Memᴰ.head refl, (one, tt))) o;
    })
    met_prepare met_read

pub met_same_answers : (step with_other 3456 (member_reply 5 three_say 3)).actions ≡ (step (replied 3456 5 three_say asked_four backwards) 3456 (member_reply 5 three_say 0)).actions
unfolding new_replica fit fit_scalars fit_slots fit_reads open_read_step replied_step read_reply_step find_read open_read put_read reply_to merge scan has insert count count_in first_open
met_same_answers =
    same_answers 5 three_say asked_four with_other (replied 3456 5 three_say asked_four backwards) two backwards 3456 3 0 met_open met_hears met_below (le_refl 3) (le_refl 3)
    (record {
      there = λ m o.
          All-in (λ (x : ℕ). x ∈ (3 ∷ 1 ∷ 0 ∷ [])) {l = first_order}
          (Memᴰ.tail (Memᴰ.tail (Memᴰ.head refl)), (Memᴰ.tail (Memᴰ.head refl), (Memᴰ.head refl, tt))) o;
      back = λ m o.
          All-in (λ (x : ℕ). x ∈ first_order) {l = 3 ∷ 1 ∷ 0 ∷ []}
          (Memᴰ.tail (Memᴰ.tail (Memᴰ.head refl)), (Memᴰ.tail (Memᴰ.head refl), (Memᴰ.head refl, tt))) o;
    })
    met_other met_backwards (le_refl 3456) refl
