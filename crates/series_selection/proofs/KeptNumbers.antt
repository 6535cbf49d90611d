-- Numbers that are, or are not, among others, found in one pass over both.
use Rattle.std.proofs.Common.{◌≡◌, ◌≢◌, ℕ, zero, suc, ◌+◌, ◌-◌, ◌<◌, ◌≤◌, Bool, true, false, List, [], ◌∷◌, ◌++◌, length, take, take_all, drop, get_or, refl, sym, ap, subst, ◌∙◌, arith, inl, inr, append_assoc}
use Rattle.std.specs.Prelude.{slice_index, ◌==◌, not, if◌then◌else◌}
use Rattle.std.specs.List.Sorted.{IsNonDecreasing, IsStrictlyIncreasing}
use Rattle.std.proofs.lemmas.Bool.{cases_lt}
use Rattle.std.proofs.lemmas.Bool.Decides.{nat_tests}
use Rattle.std.proofs.lemmas.List.{append-nil, take_more, get_or-drop, length-drop}
use Rattle.std.proofs.lemmas.List.Elements.{filter-append}
use Rattle.std.proofs.lemmas.List.Kept.{AllPairs-from_increasing, IsStrictlyIncreasing-filter}
use Rattle.base.specs.Lists.{is_one_of}
use Rattle.series_selection.specs.SelectionSteps.{kept_numbers}

pub none_found : (numbers : List ℕ) (number : ℕ) → ((k : ℕ) → k < length numbers → get_or numbers k 0 ≢ number) → is_one_of numbers number ≡ false
none_found [] number none = refl
none_found (n ∷ numbers) number none =
    let other : (n == number) ≡ false = (let differs = none 0 (omega arith) in grind (arith, nat_tests)) in
    rw other (none_found numbers number (λ k lt. none (suc k) (omega arith)))

pub not_found : (numbers : List ℕ) (place number : ℕ) → IsNonDecreasing numbers → ((k : ℕ) → k < place → get_or numbers k 0 < number) → (place < length numbers → number < get_or numbers place 0) → is_one_of numbers number ≡ false
not_found numbers place number rise below above =
    none_found numbers number (λ k lt e. elim (cases_lt k place) [
      | inl before ↦ let less = below k before in omega arith
      | inr behind ↦ let far = rise place k 0 behind lt in let greater = above (omega arith) in omega arith
    ])

-- ---- ascending numbers

pub rises_far : (numbers : List ℕ) (i k : ℕ) → IsStrictlyIncreasing numbers → i ≤ k → k < length numbers → get_or numbers i 0 ≤ get_or numbers k 0
rises_far numbers i k rise le lt = elim (cases_lt i k) [
  | inl before ↦ let far = AllPairs-from_increasing numbers rise i k 0 before lt in omega arith
  | inr other ↦ let here : k ≡ i = omega arith in subst (λ (j : ℕ). get_or numbers i 0 ≤ get_or numbers j 0) (sym here) (omega arith)
]

pub never_falls : (numbers : List ℕ) → IsStrictlyIncreasing numbers → IsNonDecreasing numbers
never_falls numbers rise i j d le lt = elim (cases_lt i j) [
  | inl before ↦ let far = AllPairs-from_increasing numbers rise i j d before lt in omega arith
  | inr other ↦ let here : j ≡ i = omega arith in subst (λ (k : ℕ). get_or numbers i d ≤ get_or numbers k d) (sym here) (omega arith)
]

-- ---- what is kept of a front

abbrev passes : Bool → List ℕ → ℕ → Bool
passes wanted others n = if wanted then is_one_of others n else not (is_one_of others n)

-- one number more
front_kept : (wanted : Bool) (others numbers : List ℕ) (place : ℕ) → place < length numbers → kept_numbers wanted others (take (place + 1) numbers) ≡ kept_numbers wanted others (take place numbers) ++ kept_numbers wanted others (get_or numbers place 0 ∷ [])
front_kept wanted others numbers place lt = ap (kept_numbers wanted others) (take_more numbers place 0 lt) ∙ filter-append (passes wanted others) (take place numbers) (get_or numbers place 0 ∷ [])

alone_kept : (wanted : Bool) (others : List ℕ) (n : ℕ) (is : Bool) → passes wanted others n ≡ is → kept_numbers wanted others (n ∷ []) ≡ (if is then n ∷ [] else [])
alone_kept wanted others n true e = rw e refl
alone_kept wanted others n false e = rw e refl

module _ (wanted : Bool) (others numbers : List ℕ) where
  -- a run of which nothing is kept
  run_left : (here count : ℕ) → here + count ≤ length numbers → ((k : ℕ) → here ≤ k → k < here + count → passes wanted others (get_or numbers k 0) ≡ false) → kept_numbers wanted others (take (here + count) numbers) ≡ kept_numbers wanted others (take here numbers)
  run_left here zero within none = ap (λ (n : ℕ). kept_numbers wanted others (take n numbers)) {x = here + zero} {y = here} (omega arith)
  run_left here (suc count) within none =
      let one = alone_kept wanted others (get_or numbers (here + count) 0) false (none (here + count) (omega arith) (omega arith)) in
      ap (λ (n : ℕ). kept_numbers wanted others (take n numbers)) {x = here + suc count} {y = here + count + 1} (omega arith)
      ∙ front_kept wanted others numbers (here + count) (omega arith)
      ∙ ap (λ (xs : List ℕ). kept_numbers wanted others (take (here + count) numbers) ++ xs) one
      ∙ append-nil (kept_numbers wanted others (take (here + count) numbers))
      ∙ run_left here count (omega arith) (λ k le lt. none k le (omega arith))

  -- a run of which all is kept
  run_taken : (here count : ℕ) → here + count ≤ length numbers → ((k : ℕ) → here ≤ k → k < here + count → passes wanted others (get_or numbers k 0) ≡ true) → kept_numbers wanted others (take (here + count) numbers) ≡ kept_numbers wanted others (take here numbers) ++ take count (drop here numbers)
  run_taken here zero within each = ap (λ (n : ℕ). kept_numbers wanted others (take n numbers)) {x = here + zero} {y = here} (omega arith) ∙ sym (append-nil (kept_numbers wanted others (take here numbers)))
  run_taken here (suc count) within each =
      let one = alone_kept wanted others (get_or numbers (here + count) 0) true (each (here + count) (omega arith) (omega arith)) in
      let same : take (suc count) (drop here numbers) ≡ take count (drop here numbers) ++ get_or numbers (here + count) 0 ∷ [] =
      ap (λ (n : ℕ). take n (drop here numbers)) {x = suc count} {y = count + 1} (omega arith)
      ∙ take_more (drop here numbers) count 0 (omega (arith, length-drop here numbers))
      ∙ ap (λ (x : ℕ). take count (drop here numbers) ++ x ∷ []) (get_or-drop here numbers count 0) in
      ap (λ (n : ℕ). kept_numbers wanted others (take n numbers)) {x = here + suc count} {y = here + count + 1} (omega arith)
      ∙ front_kept wanted others numbers (here + count) (omega arith)
      ∙ ap (λ (xs : List ℕ). kept_numbers wanted others (take (here + count) numbers) ++ xs) one
      ∙ ap (λ (xs : List ℕ). xs ++ get_or numbers (here + count) 0 ∷ []) (run_taken here count (omega arith) (λ k le lt. each k le (omega arith)))
      ∙ append_assoc (kept_numbers wanted others (take here numbers)) (take count (drop here numbers)) (get_or numbers (here + count) 0 ∷ [])
      ∙ ap (λ (xs : List ℕ). kept_numbers wanted others (take here numbers) ++ xs) (sym same)

-- what is kept of a run that is apart from the others, and then of one that is among them
abbrev part_of_run : Bool → List ℕ → ℕ → ℕ → ℕ → List ℕ
part_of_run wanted numbers here end behind = if wanted then take (behind - end) (drop end numbers) else take (end - here) (drop here numbers)

runs_kept : (wanted : Bool) (others numbers : List ℕ) (here end behind : ℕ) → here ≤ end → end ≤ behind → behind ≤ length numbers → ((k : ℕ) → here ≤ k → k < end → is_one_of others (get_or numbers k 0) ≡ false) → ((k : ℕ) → end ≤ k → k < behind → is_one_of others (get_or numbers k 0) ≡ true)
    → kept_numbers wanted others (take behind numbers) ≡ kept_numbers wanted others (take here numbers) ++ part_of_run wanted numbers here end behind
runs_kept true others numbers here end behind goes ends within apart among =
    let first : here + (end - here) ≡ end = omega arith in
    let second : end + (behind - end) ≡ behind = omega arith in
    let before : kept_numbers true others (take end numbers) ≡ kept_numbers true others (take here numbers) = ap (λ (n : ℕ). kept_numbers true others (take n numbers)) (sym first) ∙ run_left true others numbers here (end - here) (omega arith) (λ k a b. apart k a (omega arith)) in
    ap (λ (n : ℕ). kept_numbers true others (take n numbers)) (sym second)
    ∙ run_taken true others numbers end (behind - end) (omega arith) (λ k a b. among k a (omega arith))
    ∙ ap (λ (xs : List ℕ). xs ++ take (behind - end) (drop end numbers)) before
runs_kept false others numbers here end behind goes ends within apart among =
    let first : here + (end - here) ≡ end = omega arith in
    let second : end + (behind - end) ≡ behind = omega arith in
    ap (λ (n : ℕ). kept_numbers false others (take n numbers)) (sym second)
    ∙ run_left false others numbers end (behind - end) (omega arith) (λ k a b. ap not (among k a (omega arith)))
    ∙ ap (λ (n : ℕ). kept_numbers false others (take n numbers)) (sym first)
    ∙ run_taken false others numbers here (end - here) (omega arith) (λ k a b. ap not (apart k a (omega arith)))

-- what was kept of the front; and the others before a place are below what is still to come
pub record KeptSoFar (wanted : Bool) (others numbers : List ℕ) (here there : ℕ) (left : List ℕ) : Type 0 where
  pub within : here ≤ length numbers
  pub passed : there ≤ length others
  pub below : (k : ℕ) → k < there → here < length numbers → slice_index others k < slice_index numbers here
  pub left_is : left ≡ kept_numbers wanted others (take here numbers)

module _ (wanted : Bool) (others numbers : List ℕ) (falls : IsNonDecreasing others) (rise : IsStrictlyIncreasing numbers) (here there next end behind : ℕ) (left : List ℕ) (far : KeptSoFar wanted others numbers here there left) (lt : here < length numbers)
    (forth : there ≤ next) (within : next ≤ length others) (passed : (k : ℕ) → there ≤ k → k < next → slice_index others k < slice_index numbers here)
    (goes : here ≤ end) (ends : end ≤ length numbers) (below : (k : ℕ) → here ≤ k → k < end → next < length others → slice_index numbers k < slice_index others next) (some : end < length numbers → next < length others) where
  all_passed : (j k : ℕ) → j < next → here ≤ k → k < length numbers → get_or others j 0 < get_or numbers k 0
  all_passed j k before le in_it =
      let rises = rises_far numbers here k rise le in_it in
      elim (cases_lt j there) [
        | inl old ↦ let less = far.below j old lt in omega arith
        | inr new ↦ let less = passed j new before in omega arith
      ]

  apart : (k : ℕ) → here ≤ k → k < end → is_one_of others (get_or numbers k 0) ≡ false
  apart k le before = not_found others next (get_or numbers k 0) falls (λ j less. all_passed j k less le (omega arith)) (λ more. below k le before more)

  -- the next number of the others is met, or one below it is passed
  moved : end ≤ behind → (next < length others → slice_index numbers here ≤ slice_index others next) → (end < length numbers → slice_index others next ≤ slice_index numbers end)
      → (end < length numbers → next < length others → slice_index numbers end ≡ slice_index others next → end < behind) → here < behind
  moved le least reached moves = elim (cases_lt here end) [
    | inl less ↦ omega arith
    | inr not_less ↦
        let at : end ≡ here = omega arith in
        let more : end < length numbers = omega arith in
        let same = ap (λ (k : ℕ). get_or numbers k 0) at in
        let a = least (some more) in
        let b = reached more in
        let goes_on = moves more (some more) (omega arith) in
        omega arith
  ]

  pub kept_on : (new part : List ℕ) → (next < length others → slice_index numbers here ≤ slice_index others next) → (end < length numbers → slice_index others next ≤ slice_index numbers end)
      → end ≤ behind → behind ≤ length numbers → ((k : ℕ) → end ≤ k → k < behind → is_one_of others (slice_index numbers k) ≡ true) → (end < length numbers → next < length others → slice_index numbers end ≡ slice_index others next → end < behind)
      → part ≡ part_of_run wanted numbers here end behind → new ≡ left ++ part → KeptSoFar wanted others numbers behind next new × (here < behind)
  kept_on new part least reached le in_it among moves p n =
      let forward = moved le least reached moves in (
        record {
          within = in_it;
          passed = within;
          below = λ k before less. all_passed k behind before (omega arith) less;
          left_is = n ∙ (λ i. far.left_is i ++ p i) ∙ sym (runs_kept wanted others numbers here end behind goes le in_it apart among);
        },
        forward,
      )

pub kept_all : (wanted : Bool) (others numbers left : List ℕ) (here there : ℕ) → KeptSoFar wanted others numbers here there left → length numbers ≤ here → left ≡ kept_numbers wanted others numbers
kept_all wanted others numbers left here there far le = far.left_is ∙ ap (kept_numbers wanted others) (take_all here numbers le)

pub kept_rises : (wanted : Bool) (others numbers left made : List ℕ) (here there : ℕ) → IsStrictlyIncreasing numbers → KeptSoFar wanted others numbers here there left → length numbers ≤ here → made ≡ left → IsStrictlyIncreasing made
kept_rises wanted others numbers left made here there rise far le m =
    let same : made ≡ kept_numbers wanted others numbers = m ∙ kept_all wanted others numbers left here there far le in
    rw same (IsStrictlyIncreasing-filter (λ n. if wanted then is_one_of others n else not (is_one_of others n)) numbers rise)
