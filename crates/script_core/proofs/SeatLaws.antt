-- The seats of a lawful script count from 1 over all its phases.
use Rattle.std.proofs.Common.{◌≡◌, ℕ, zero, suc, ◌+◌, ◌^◌, ◌<◌, ◌≤◌, get_or, List, [], ◌∷◌, ◌++◌, length, take, refl, sym, ap, ◌∙◌, subst, arith, Some}
use Rattle.std.specs.Prelude.{slice_get}
use Rattle.std.proofs.Math.Seq.{take-suc}
use Rattle.std.proofs.lemmas.List.{length-append}
use Rattle.std.proofs.lemmas.Option.{slice_get_within, slice_get-get_or}
use Rattle.script_workers.specs.declared.phase.Phase.{Phase}
use Rattle.script_workers.specs.declared.worker.Worker.{Worker}
use Rattle.script_workers.specs.Hands.{gateway_count, greatest, hands_of, seats_after, seats_from, workers_from}
use Rattle.script_workers.specs.Staff.{IsWorkerOf, AreSeated}
use Rattle.script_workers.proofs.PhaseCounts.{few_hands, works_upto, workers_count, worker_at, seats_bound, seats_from-push}
use Rattle.script_workers.proofs.StaffLaws.{are_places}
use Rattle.script_core.specs.declared.script.Script.{Script}
use Rattle.script_core.specs.Lawful.{IsLawfulScript}
use Rattle.script_fields.specs.Limits.{most_gateways}
use Rattle.script_core.specs.Workers.{seats_before, workers_after, workers_of, workers_before}

pub few_gateways : (script : Script) → IsLawfulScript script → gateway_count script.gateways ≤ most_gateways
few_gateways script lawful = omega (arith, lawful.few_gateways)

pub few_partitions : (script : Script) → IsLawfulScript script → length script.partitions ≤ 2 ^ 32
few_partitions script lawful = omega (arith, lawful.partitioned, lawful.few_gateways)

-- each gateway that is counted has a partition
pub partitions_counted : (script : Script) → IsLawfulScript script → length script.partitions ≡ gateway_count script.gateways
partitions_counted script lawful = omega (arith, lawful.partitioned, lawful.few_gateways)

module _ (script : Script) where
  abbrev gateways : ℕ
  gateways = gateway_count script.gateways

  module _ (number : ℕ) (phase : Phase) where
    -- the seats of a phase fit 32 bits
    pub room : IsLawfulScript script → slice_get script.phases number ≡ Some phase → seats_before script number + length (hands_of gateways phase.tasks) ≤ greatest
    room lawful at =
        let few = few_gateways script lawful in
        omega (arith, seats_bound gateways 0 (take number script.phases) few, works_upto script.phases number phase at, few_hands gateways phase.tasks few, (lawful.phases).few_tasks)

    pub workers_at : slice_get script.phases number ≡ Some phase → workers_of script number ≡ workers_from gateways (seats_before script number) phase.tasks (hands_of gateways phase.tasks)
    workers_at at = ap (workers_after script (seats_before script number)) at

    count_at : slice_get script.phases number ≡ Some phase → length (workers_of script number) ≡ length (hands_of gateways phase.tasks)
    count_at at = ap length (workers_at at) ∙ workers_count gateways (seats_before script number) phase.tasks (hands_of gateways phase.tasks)

    seats_more : IsLawfulScript script → slice_get script.phases number ≡ Some phase → take (suc number) script.phases ≡ take number script.phases ++ phase ∷ [] → seats_before script (suc number) ≡ seats_before script number + length (workers_of script number)
    seats_more lawful at upto =
        let fit = room lawful at in
        let count = count_at at in
        let sum : seats_after (seats_before script number) (length (hands_of gateways phase.tasks)) ≡ seats_before script number + length (workers_of script number) = omega (arith, fit, count) in
        ap (seats_from gateways 0) upto ∙ seats_from-push gateways 0 (take number script.phases) phase ∙ sum

  -- seats that are taken are those of the workers before
  pub seats_taken : (number : ℕ) (last : Phase) → IsLawfulScript script → number ≤ length script.phases → seats_before script number ≡ length (workers_before script number)
  unfolding seats_from
  seats_taken zero last lawful within = refl
  seats_taken (suc number) last lawful within =
      let below : number < length script.phases = omega (arith, within) in
      let rest = seats_taken number last lawful (omega (arith, within)) in
      let more = seats_more number (get_or script.phases number last) lawful (slice_get-get_or script.phases number last below) (take-suc script.phases number last below) in
      omega (arith, rest, more, length-append (workers_before script number) (workers_of script number))

  pub are_seated : (number : ℕ) (phase : Phase) → IsLawfulScript script → slice_get script.phases number ≡ Some phase → AreSeated gateways phase.tasks (hands_of gateways phase.tasks) (length (workers_before script number)) (workers_of script number)
  are_seated number phase lawful at =
      let hands = hands_of gateways phase.tasks in
      let taken = length (workers_before script number) in
      let within = slice_get_within script.phases number phase at in
      let is_taken : seats_before script number ≡ taken = seats_taken number phase lawful (omega (arith, within)) in
      let fit : taken + length hands ≤ greatest = subst (λ n. n + length hands ≤ greatest) is_taken (room number phase lawful at) in
      let workers_are : workers_of script number ≡ workers_from gateways taken phase.tasks hands = workers_at number phase at ∙ ap (λ n. workers_from gateways n phase.tasks hands) is_taken in
      record {
        count = count_at number phase at;
        each = λ place hand worker is works.
            let same = worker_at gateways taken phase.tasks hands place hand worker fit is (ap (λ (l : List Worker). slice_get l place) (sym workers_are) ∙ works) in
            subst (IsWorkerOf gateways phase.tasks hand (taken + place + 1)) (sym same) (record { seat = refl; gateway = refl; places = are_places gateways phase.tasks hand });
      }
