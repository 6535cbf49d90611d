-- How many workers, tasks and seats there are in phases.
use Rattle.std.proofs.Common.{◌≡◌, ℕ, zero, suc, ◌+◌, ◌*◌, ◌≤◌, List, [], ◌∷◌, ◌++◌, length, take, fold, refl, sym, ap, ◌∙◌, arith, Some}
use Rattle.std.specs.Prelude.{slice_get}
use Rattle.std.proofs.lemmas.List.FromFn.{length-map-range_with_len}
use Rattle.std.proofs.lemmas.List.{length-append, length-map}
use Rattle.std.proofs.lemmas.List.Folds.{length-flat_map-take}
use Rattle.std.proofs.lemmas.Option.{same_Some, slice_get_within, get_or_from_slice_get}
use Rattle.script_workers.specs.declared.hand.Hand.{Hand}
use Rattle.script_workers.specs.declared.hand.Hand.TheVariants.{Gateway}
use Rattle.script_workers.specs.declared.phase.Phase.{Phase}
use Rattle.script_workers.specs.declared.task.Task.{Task}
use Rattle.script_workers.specs.declared.work.Work.{Work}
use Rattle.script_workers.specs.declared.work.Work.TheVariants as works
use Rattle.script_workers.specs.declared.worker.Worker.{Worker}
use Rattle.script_workers.specs.Hands.{greatest, hands_of_task, with_hand, with_hands, hands_from, hands_of, seats_after, seats_from, worker_of, workers_from}
use Rattle.script_workers.specs.Works.{works_in, works_of}
use Rattle.script_workers.proofs.HandLaws.{with_by}

-- ---- with sixteen gateways at most, a phase has at most sixteen workers for each task

fold_few : (others more : List Hand) → length (fold with_hand others more) ≤ length others + length more
fold_few others [] = omega arith
fold_few others (new ∷ more) =
    let rest = fold_few (with_hand others new) more in
    let one = with_by (λ hands. length hands ≤ length others + 1) others new (λ _. omega arith) (λ _. omega (arith, length-append others (new ∷ []))) in
    omega (arith, rest, one)

task_few : (gateways place : ℕ) (work : Work) → gateways ≤ 16 → length (hands_of_task gateways place work) ≤ 16
unfolding hands_of_task
task_few gateways place (works.Upload ulid stop) few = omega arith
task_few gateways place (works.Sync gateway) few = omega arith
task_few gateways place (works.Compact stop) few = omega arith
task_few gateways place (works.Clean stop) few = omega arith
task_few gateways place (works.Query low high selector) few =
    let count = length-map-range_with_len Gateway 0 gateways in omega (arith, few, count)

from_few : (gateways : ℕ) (others : List Hand) (place : ℕ) (tasks : List Task) → gateways ≤ 16 → length (hands_from gateways others place tasks) ≤ length others + 16 * length tasks
unfolding hands_from with_hands
from_few gateways others place [] few = omega arith
from_few gateways others place (task ∷ tasks) few =
    let rest = from_few gateways (with_hands gateways others place task.work) (place + 1) tasks few in
    let joined = fold_few others (hands_of_task gateways place task.work) in
    let one = task_few gateways place task.work few in
    omega (arith, rest, joined, one)

pub few_hands : (gateways : ℕ) (tasks : List Task) → gateways ≤ 16 → length (hands_of gateways tasks) ≤ 16 * length tasks
few_hands gateways tasks few = let all = from_few gateways [] 0 tasks few in omega (arith, all)

-- ---- the tasks of the phases up to one

pub works_more : (phase : Phase) (phases : List Phase) → length (works_of (phase ∷ phases)) ≡ length phase.tasks + length (works_of phases)
works_more phase phases = length-append (works_in phase.tasks) (works_of phases) ∙ ap (λ n. n + length (works_of phases)) (length-map phase.tasks (λ (t : Task). t.work))

pub works_upto : (phases : List Phase) (number : ℕ) (phase : Phase) → slice_get phases number ≡ Some phase → length (works_of (take number phases)) + length phase.tasks ≤ length (works_of phases)
works_upto phases number phase at =
    let upto = length-flat_map-take (λ (p : Phase). works_in p.tasks) phases number phase (slice_get_within phases number phase at) in
    let one = ap (λ (p : Phase). length (works_in p.tasks)) (get_or_from_slice_get phases number phase phase at) in
    omega (arith, upto, one, length-map phase.tasks (λ (t : Task). t.work))

-- ---- the workers of one phase

pub workers_count : (gateways before : ℕ) (tasks : List Task) (hands : List Hand) → length (workers_from gateways before tasks hands) ≡ length hands
unfolding workers_from
workers_count gateways before tasks [] = refl
workers_count gateways before tasks (hand ∷ hands) = ap suc (workers_count gateways (seats_after before 1) tasks hands)

pub worker_at : (gateways before : ℕ) (tasks : List Task) (hands : List Hand) (place : ℕ) (hand : Hand) (worker : Worker) → before + length hands ≤ greatest → slice_get hands place ≡ Some hand → slice_get (workers_from gateways before tasks hands) place ≡ Some worker → worker ≡ worker_of gateways (before + place + 1) hand tasks
unfolding workers_from
worker_at gateways before tasks [] place hand worker room is works = absurd cc
worker_at gateways before tasks (first ∷ hands) zero hand worker room is works =
    let seat : seats_after before 1 ≡ before + 0 + 1 = omega (arith, room) in
    sym (same_Some (worker_of gateways (seats_after before 1) first tasks) worker works)
    ∙ ap (λ n. worker_of gateways n first tasks) seat ∙ ap (λ (h : Hand). worker_of gateways (before + 0 + 1) h tasks) (same_Some first hand is)
worker_at gateways before tasks (first ∷ hands) (suc place) hand worker room is works =
    let left : seats_after before 1 + length hands ≤ greatest = omega (arith, room) in
    let seat : seats_after before 1 + place + 1 ≡ before + suc place + 1 = omega (arith, room) in
    worker_at gateways (seats_after before 1) tasks hands place hand worker left is works
    ∙ ap (λ n. worker_of gateways n hand tasks) seat

-- ---- the seats of the phases before

pub seats_bound : (gateways before : ℕ) (phases : List Phase) → gateways ≤ 16 → seats_from gateways before phases ≤ before + 16 * length (works_of phases)
unfolding seats_from
seats_bound gateways before [] few = omega arith
seats_bound gateways before (phase ∷ phases) few =
    let rest = seats_bound gateways (seats_after before (length (hands_of gateways phase.tasks))) phases few in
    omega (arith, rest, works_more phase phases, few_hands gateways phase.tasks few)

pub seats_from-push : (gateways before : ℕ) (phases : List Phase) (phase : Phase) → seats_from gateways before (phases ++ phase ∷ []) ≡ seats_after (seats_from gateways before phases) (length (hands_of gateways phase.tasks))
unfolding seats_from
seats_from-push gateways before [] phase = refl
seats_from-push gateways before (first ∷ phases) phase =
    seats_from-push gateways (seats_after before (length (hands_of gateways first.tasks))) phases phase
