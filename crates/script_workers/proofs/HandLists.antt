-- The hands, places, workers and seats of a list, from one place on.
use Rattle.std.proofs.Common.{◌≡◌, ℕ, zero, suc, ◌+◌, ◌-◌, ◌<◌, ◌≤◌, Bool, true, false, ◌&&◌, cond, nat_lt, nat_le, List, [], ◌∷◌, ◌++◌, length, get_or, take, take_all, drop, map, refl, ap, sym, ◌∙◌, arith, append_assoc, min}
use Rattle.std.specs.List.{list_any, range_with_len}
use Rattle.std.proofs.lemmas.List.{drop_more, drop_all, append-nil}
use Rattle.std.proofs.lemmas.Bool.Decides.{nat_tests}
use Rattle.script_workers.specs.declared.hand.Hand.{Hand}
use Rattle.script_workers.specs.declared.hand.Hand.TheVariants.{Alone, Gateway}
use Rattle.script_workers.specs.declared.task.Task.{Task}
use Rattle.script_workers.specs.declared.phase.Phase.{Phase}
use Rattle.script_workers.specs.declared.worker.Worker.{Worker}
use Rattle.script_workers.specs.Hands.{same_hand, with_hands, hands_from, hands_of, does, places_from, seats_after, seats_from, workers_from, worker_of, greatest}

-- who does one task alone is no gateway
pub none_alone_among : (place : ℕ) (gateways : List ℕ) → list_any (same_hand (Alone place)) (map Gateway gateways) ≡ false
none_alone_among place [] = refl
none_alone_among place (gateway ∷ gateways) = none_alone_among place gateways

gateway_among_from : (gateway first count : ℕ) → list_any (same_hand (Gateway gateway)) (map Gateway (range_with_len first count)) ≡ (nat_le first gateway && nat_lt gateway (first + count))
gateway_among_from gateway first zero = grind (arith, nat_tests)
gateway_among_from gateway first (suc count) =
    let later = gateway_among_from gateway (first + 1) count in grind (arith, nat_tests)

-- a gateway is one of so many
pub gateway_among : (gateway count : ℕ) → list_any (same_hand (Gateway gateway)) (map Gateway (range_with_len 0 count)) ≡ nat_lt gateway count
gateway_among gateway count = gateway_among_from gateway 0 count ∙ grind (arith, nat_tests)

-- a range is its first number and the range after it
pub range_more : (first last : ℕ) → first < last → range_with_len first (last - first) ≡ first ∷ range_with_len (first + 1) (last - (first + 1))
range_more first last below =
    let e : last - first ≡ suc (last - (first + 1)) = omega arith in rw e refl

-- what is left of a list from a place on
pub left_at : {A : Type 0} (items : List A) (place : ℕ) (item : A) → place < length items → item ≡ get_or items place item → drop place items ≡ item ∷ drop (place + 1) items
left_at items place item inside is =
    drop_more items place item inside ∙ ap (λ x. x ∷ drop (place + 1) items) (sym is)

pub hands_from-next : (gateways : ℕ) (others : List Hand) (tasks : List Task) (place : ℕ) (task : Task) → place < length tasks → task ≡ get_or tasks place task → hands_from gateways others place (drop place tasks) ≡ hands_from gateways (with_hands gateways others place task.work) (place + 1) (drop (place + 1) tasks)
unfolding hands_from
hands_from-next gateways others tasks place task inside is =
    ap (hands_from gateways others place) (left_at tasks place task inside is)

pub hands_from-end : (gateways : ℕ) (others : List Hand) (tasks : List Task) (place : ℕ) → length tasks ≤ place → hands_from gateways others place (drop place tasks) ≡ others
unfolding hands_from
hands_from-end gateways others tasks place end =
    ap (hands_from gateways others place) (drop_all place tasks end)

pub places_from-cons : (gateways : ℕ) (hand : Hand) (place : ℕ) (task : Task) (tasks : List Task) (d : Bool) → does gateways hand place task.work ≡ d → places_from gateways hand place (task ∷ tasks) ≡ cond d (place ∷ places_from gateways hand (place + 1) tasks) (places_from gateways hand (place + 1) tasks)
unfolding places_from
places_from-cons gateways hand place task tasks d is =
    ap (λ b. cond b (place ∷ places_from gateways hand (place + 1) tasks) (places_from gateways hand (place + 1) tasks)) is

module _ (gateways : ℕ) (hand : Hand) (tasks : List Task) (place : ℕ) (task : Task) (places after whole : List ℕ) where
  pub places_more : place < length tasks → task ≡ get_or tasks place task → does gateways hand place task.work ≡ true → after ≡ places ++ place ∷ [] → places ++ places_from gateways hand place (drop place tasks) ≡ whole → after ++ places_from gateways hand (place + 1) (drop (place + 1) tasks) ≡ whole
  places_more inside is does_it after_is so_far =
      let left = ap (places_from gateways hand place) (left_at tasks place task inside is) ∙ places_from-cons gateways hand place task (drop (place + 1) tasks) true does_it in
      rw (after_is, append_assoc) (ap (λ rest. places ++ rest) (sym left) ∙ so_far)

  pub places_same : place < length tasks → task ≡ get_or tasks place task → does gateways hand place task.work ≡ false → after ≡ places → places ++ places_from gateways hand place (drop place tasks) ≡ whole → after ++ places_from gateways hand (place + 1) (drop (place + 1) tasks) ≡ whole
  places_same inside is does_it after_is so_far =
      let left = ap (places_from gateways hand place) (left_at tasks place task inside is) ∙ places_from-cons gateways hand place task (drop (place + 1) tasks) false does_it in
      rw after_is (ap (λ rest. places ++ rest) (sym left) ∙ so_far)

pub places_end : (gateways : ℕ) (hand : Hand) (tasks : List Task) (place : ℕ) (places whole : List ℕ) → length tasks ≤ place → places ++ places_from gateways hand place (drop place tasks) ≡ whole → places ≡ whole
unfolding places_from
places_end gateways hand tasks place places whole end so_far =
    sym (ap (λ rest. places ++ rest) (ap (places_from gateways hand place) (drop_all place tasks end)) ∙ append-nil places) ∙ so_far

pub seats_from-next : (gateways before : ℕ) (phases : List Phase) (place : ℕ) (phase : Phase) → place < length phases → phase ≡ get_or phases place phase → seats_from gateways before (drop place phases) ≡ seats_from gateways (seats_after before (length (hands_of gateways phase.tasks))) (drop (place + 1) phases)
unfolding seats_from
seats_from-next gateways before phases place phase inside is =
    ap (seats_from gateways before) (left_at phases place phase inside is)

pub seats_from-end : (gateways before : ℕ) (phases : List Phase) (place : ℕ) → length phases ≤ place → seats_from gateways before (drop place phases) ≡ before
unfolding seats_from
seats_from-end gateways before phases place end =
    ap (seats_from gateways before) (drop_all place phases end)

pub workers_from-next : (gateways before : ℕ) (tasks : List Task) (hands : List Hand) (place : ℕ) (hand : Hand) → place < length hands → hand ≡ get_or hands place hand → workers_from gateways before tasks (drop place hands) ≡ worker_of gateways (seats_after before 1) hand tasks ∷ workers_from gateways (seats_after before 1) tasks (drop (place + 1) hands)
unfolding workers_from
workers_from-next gateways before tasks hands place hand inside is =
    ap (workers_from gateways before tasks) (left_at hands place hand inside is)

pub workers_from-end : (gateways before : ℕ) (tasks : List Task) (hands : List Hand) (place : ℕ) → length hands ≤ place → workers_from gateways before tasks (drop place hands) ≡ []
unfolding workers_from
workers_from-end gateways before tasks hands place end =
    ap (workers_from gateways before tasks) (drop_all place hands end)

module _ (gateways : ℕ) (tasks : List Task) (hands : List Hand) (place before seat : ℕ) (hand : Hand) (worker : Worker) (workers after whole : List Worker) where
  pub workers_more : place < length hands → hand ≡ get_or hands place hand → seat ≡ seats_after before 1 → worker ≡ worker_of gateways seat hand tasks → after ≡ workers ++ worker ∷ [] → workers ++ workers_from gateways before tasks (drop place hands) ≡ whole → after ++ workers_from gateways seat tasks (drop (place + 1) hands) ≡ whole
  workers_more inside is seat_is worker_is after_is so_far =
      let next = workers_from-next gateways before tasks hands place hand inside is in
      rw (after_is, append_assoc, worker_is, seat_is) (ap (λ rest. workers ++ rest) (sym next) ∙ so_far)

pub workers_end : (gateways before : ℕ) (tasks : List Task) (hands : List Hand) (place : ℕ) (workers whole : List Worker) → length hands ≤ place → workers ++ workers_from gateways before tasks (drop place hands) ≡ whole → workers ≡ whole
workers_end gateways before tasks hands place workers whole end so_far =
    sym (ap (λ rest. workers ++ rest) (workers_from-end gateways before tasks hands place end) ∙ append-nil workers) ∙ so_far

seats_cut : (before count : ℕ) → min (before + min count greatest) greatest ≡ seats_after before count
seats_cut before count = omega arith

module _ (gateways before place count cut after whole : ℕ) (phases : List Phase) (phase : Phase) (tasks : List Task) (hands : List Hand) where
  pub seats_more : place < length phases → phase ≡ get_or phases place phase → hands ≡ hands_of gateways tasks → tasks ≡ phase.tasks → count ≡ length hands → cut ≡ min count greatest → after ≡ min (before + cut) greatest → seats_from gateways before (drop place phases) ≡ whole → seats_from gateways after (drop (place + 1) phases) ≡ whole
  seats_more inside is hands_are tasks_are count_is cut_is after_is so_far =
      let length_is : count ≡ length (hands_of gateways phase.tasks) = count_is ∙ ap length (hands_are ∙ ap (hands_of gateways) tasks_are) in
      let seats_are : after ≡ seats_after before (length (hands_of gateways phase.tasks)) = after_is ∙ ap (λ n. min (before + n) greatest) cut_is ∙ seats_cut before count ∙ ap (seats_after before) length_is in
      rw seats_are (sym (seats_from-next gateways before phases place phase inside is) ∙ so_far)

-- ---- lists that grow at their end

-- a list begins with all that it had before
pub record KeepsFront (before after : List Hand) : Type 0 where
  pub front : take (length before) after ≡ before
  pub longer : length before ≤ length after

pub keeps_itself : (hands : List Hand) → KeepsFront hands hands
keeps_itself hands = record { front = take_all (length hands) hands (omega arith); longer = omega arith }

pub keeps_more : (before now after : List Hand) → KeepsFront before now → ((n : ℕ) → n ≤ length now → take n after ≡ take n now) → length now ≤ length after → KeepsFront before after
keeps_more before now after keeps same longer = record { front = same (length before) keeps.longer ∙ keeps.front; longer = omega (arith, keeps.longer, longer) }
