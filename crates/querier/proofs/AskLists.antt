-- What gateways are asked, gateway by gateway.
use Rattle.std.proofs.Common.{◌≡◌, ℕ, suc, ◌+◌, ◌<◌, List, [], ◌∷◌, ◌++◌, length, map, get_or, take, sym, ap, arith, ◌∙◌}
use Rattle.std.proofs.lemmas.List.{take_more, length-take-le}
use Rattle.std.proofs.lemmas.List.Elements.{filter-append}
use Rattle.std.specs.List.{filter, enumerate_from}
use Rattle.moment_core.specs.declared.partition.Partition.{Partition}
use Rattle.querier.specs.declared.asking.Ask.{Ask}
use Rattle.querier.specs.Asks.{ask_of, asks_from, has_times}

-- each gateway of these, numbered from one on
abbrev each : Partition → ℕ → List Partition → List Ask
each times number partitions = map (λ (gateway : ℕ × Partition). ask_of times gateway.0 gateway.1) (enumerate_from number partitions)

each_more : (times : Partition) (number : ℕ) (partitions : List Partition) (one : Partition)
    → each times number (partitions ++ one ∷ []) ≡ each times number partitions ++ ask_of times (number + length partitions) one ∷ []
each_more times number [] one = let none : number ≡ number + 0 = omega arith in ap (λ n. ask_of times n one ∷ []) none
each_more times number (first ∷ partitions) one =
    let next : number + 1 + length partitions ≡ number + suc (length partitions) = omega arith in
    ap (λ asks. ask_of times number first ∷ asks) (each_more times (number + 1) partitions one ∙ ap (λ n. each times (number + 1) partitions ++ ask_of times n one ∷ []) next)

-- what those before a place are asked, and then the one there
pub asks_more : (times : Partition) (partitions : List Partition) (place : ℕ) (none : Partition) (before after : List Ask) → place < length partitions
    → before ≡ asks_from times 0 (take place partitions)
    → after ≡ before ++ filter has_times (ask_of times place (get_or partitions place none) ∷ [])
    → after ≡ asks_from times 0 (take (place + 1) partitions)
asks_more times partitions place none before after lt so is =
    let one = get_or partitions place none in
    let count : 0 + length (take place partitions) ≡ place = let n = length-take-le place partitions (omega (arith, lt)) in omega (arith, n) in
    is ∙ ap (λ asks. asks ++ filter has_times (ask_of times place one ∷ [])) so
    ∙ sym (ap (asks_from times 0) (take_more partitions place none lt)
    ∙ ap (filter has_times) (each_more times 0 (take place partitions) one)
    ∙ filter-append has_times (each times 0 (take place partitions)) (ask_of times (0 + length (take place partitions)) one ∷ [])
    ∙ ap (λ n. asks_from times 0 (take place partitions) ++ filter has_times (ask_of times n one ∷ [])) count)
