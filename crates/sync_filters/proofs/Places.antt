-- Searches among ascending ULIDs, and what a split is made of.
use Rattle.std.proofs.Common.{◌≡◌, ℕ, ◌+◌, ◌-◌, ◌<◌, ◌≤◌, zero, suc, eqb, List, length, get_or, sym, ◌∙◌, ap, arith, inl, inr, Result, Ok, Err}
use Rattle.std.specs.Prelude.{not, is_ok, IfOk}
use Rattle.std.specs.List.{list_any, filter}
use Rattle.std.specs.List.Sorted.{IsStrictlyIncreasing, IsBinarySearchResult, IsPermutation, IsNonDecreasingBy}
use Rattle.std.specs.Ordering.{nat_cmp}
use Rattle.base.specs.declared.memory.NoMemory.{NoMemory}
use Rattle.base.proofs.Rising.{rise_le}
use Rattle.sync_filters.specs.Filters.{is_covered, Splits}
use Rattle.sync_filters.specs.declared.found.Found.{Found}
use Rattle.std.proofs.lemmas.Bool.{ne_eqb, eq-eqb, cases_lt}
use Rattle.std.proofs.lemmas.List.Folds.{list_any_at, list_any_none}
use Rattle.std.proofs.lemmas.List.Sorted.{searched}
use Rattle.std.proofs.lemmas.Grind.{get_or_default_zero}

rises_by : (xs : List ℕ) → IsStrictlyIncreasing xs → (n i : ℕ) → i + n < length xs → get_or xs i 0 ≤ get_or xs (i + n) 0
rises_by xs increase zero i lt = let here : i + 0 ≡ i = omega arith in let same : get_or xs (i + 0) 0 ≡ get_or xs i 0 = ap (λ k. get_or xs k 0) here in omega (arith, same)
rises_by xs increase (suc n) i lt =
    let next : i + suc n ≡ i + n + 1 = omega arith in
    let same : get_or xs (i + suc n) 0 ≡ get_or xs (i + n + 1) 0 = ap (λ k. get_or xs k 0) next in
    let before : get_or xs i 0 ≤ get_or xs (i + n) 0 = rises_by xs increase n i (omega arith) in
    let step : get_or xs (i + n) 0 < get_or xs (i + n + 1) 0 = increase (i + n) (omega arith) in
    omega (arith, same, before, step)

differs : (xs : List ℕ) (x i k : ℕ) → ((k : ℕ) → k < i → get_or xs k 0 < x) → ((k : ℕ) → i ≤ k → k < length xs → x < get_or xs k 0) → k < length xs → get_or xs k 0 ≡ x → ⊥
differs xs x i k below above lt is =
    elim (cases_lt k i) [ inl before ↦ omega (arith, below k before, is) | inr behind ↦ omega (arith, above k behind lt, is) ]

-- a search finds a member of an ascending list, and nothing else
pub found_by : (xs : List ℕ) (x : ℕ) (r : Result ℕ ℕ) → IsStrictlyIncreasing xs → IsBinarySearchResult (λ y. nat_cmp y x) xs r
    → is_ok r ≡ list_any (λ other. eqb other x) xs
found_by xs x (Ok i) increase result =
    let at : (i < length xs) × (get_or xs i 0 ≡ x) = searched xs x (Ok i) result (rise_le xs increase) in
    sym (list_any_at (λ other. eqb other x) xs i 0 at.0 (eq-eqb (get_or xs i 0) x at.1))
found_by xs x (Err i) increase result =
    let past : (i ≤ length xs) × ((k : ℕ) → k < i → get_or xs k 0 < x) × ((k : ℕ) → i ≤ k → k < length xs → x < get_or xs k 0) = searched xs x (Err i) result (rise_le xs increase) in
    sym (list_any_none (λ other. eqb other x) xs
    (λ k d lt. ne_eqb (get_or xs k d) x (λ is. differs xs x i k past.1 past.2 lt (sym (get_or_default_zero xs k d lt) ∙ is))))

pub splits : (r : Result (List Found × List Found) NoMemory) (found listed : List Found) → IsPermutation found listed → IsNonDecreasingBy (λ block. block.ulid) listed
    → IfOk r (λ split. split.0 ≡ filter (λ block. not (is_covered listed block)) listed) → IfOk r (λ split. split.1 ≡ filter (is_covered listed) listed)
    → IfOk r (λ split. Splits found split.0 split.1)
splits (Ok split) found listed same ascend kept covered = record { listed = listed; same = same; ascend = ascend; kept = kept; covered = covered }
splits (Err e) found listed same ascend kept covered = tt
