-- Of places that were numbered, sorted and kept once each, the same is summed as of one chunk of each place.
use Rattle.std.proofs.Common.{◌≡◌, ℕ, ◌+◌, ◌^◌, ◌<◌, ◌≤◌, List, [], ◌∷◌, ◌++◌, length, take, get_or, map, sum_by, Bool, true, false, inl, inr, eqb, refl, sym, ap, subst, ◌∙◌, append_assoc, append-nil, arith}
use Rattle.std.specs.Prelude.{not, ◌==◌, Contains}
use Rattle.std.specs.List.{AllByRecursion, dedup, filter, list_any}
use Rattle.std.specs.List.Sorted.{IsSorted, IsPermutation, IsStrictlySortedBy}
use Rattle.std.specs.Ordering.{nat_cmp}
use Rattle.std.proofs.lemmas.Bool.{cases_Bool, eqb-true, eq-eqb, eqb-false, ne_eqb, true≢false}
use Rattle.std.proofs.lemmas.List.{take_all}
use Rattle.std.proofs.lemmas.List.Kept.{Contains-dedup_nat, Contains-from_dedup, IsStrictlySortedBy-filter}
use Rattle.std.proofs.lemmas.List.Sorted.{Contains-permutation, IsPermutation-sym}
use Rattle.std.proofs.lemmas.List.Sums.{sum_by-cons}
use Rattle.std.proofs.lemmas.Map.Keys.{IsStrictlyIncreasing-dedup, sorted_from_strictly_increasing, sorted_tail}
use Rattle.base.proofs.Lists.{filter_hit, filter_miss, flat_map-push, map-push}
use Rattle.base.proofs.Membership.{no_member, contains_first, contains_later, member_cases, member_of_any, any_of_member, filter_whole, of_filter, member_passes, into_filter, of_map, into_map}
use Rattle.base.proofs.Rising.{above_first}
use Rattle.index_parts.specs.declared.chunk_place.ChunkPlace.{ChunkPlace}
use Rattle.index_parts.specs.declared.index_series.IndexSeries.{IndexSeries}
use Rattle.block_content.specs.StoredPlaces.{place_number, places_of}
use Rattle.block_content.specs.ReadBytes.{stands_with, each_once}
use Rattle.block_content.proofs.ChunkWalks.{front}

-- ---- a number, and the others

differs : ℕ → ℕ → Bool
differs n m = not (n == m)

-- of ascending numbers, all but the first
first_out : (x : ℕ) (xs : List ℕ) → IsStrictlySortedBy nat_cmp (x ∷ xs) → filter (differs x) (x ∷ xs) ≡ xs
unfolding differs
first_out x xs up =
    filter_miss (differs x) x xs (ap not (eq-eqb x x refl)) ∙ filter_whole (differs x) xs (λ m within. ap not (ne_eqb x m (λ e. absurd (omega (arith, above_first x m xs up within, e)))))

split_sum : (f : ℕ → ℕ) (set : List ℕ) (n : ℕ) → IsStrictlySortedBy nat_cmp set → Contains set n → sum_by f set ≡ f n + sum_by f (filter (differs n) set)
unfolding differs
split_sum f [] n up among = absurd (no_member n among)
split_sum f (x ∷ xs) n up among = elim (cases_Bool (n == x)) [
  | inl test ↦
      let same : n ≡ x = eqb-true n x test in
      omega (arith, sum_by-cons f x xs, ap f same, ap (λ k. sum_by f (filter (differs k) (x ∷ xs))) same, ap (sum_by f) (first_out x xs up))
  | inr test ↦ elim (member_cases x n xs among) [
    | inl is ↦ absurd (eqb-false n x test (sym is))
    | inr later ↦
        omega (arith, sum_by-cons f x xs, split_sum f xs n (sorted_tail nat_cmp x xs up) later, ap (sum_by f) (filter_hit (differs n) x xs (ap not test)), sum_by-cons f x (filter (differs n) xs))
  ]
]

not_itself : (n m : ℕ) → n ≡ m → differs n m ≡ true → ⊥
unfolding differs
not_itself n m same e = absurd (true≢false (sym e ∙ ap not (eq-eqb n m same)))

is_other : (n m : ℕ) → (n ≡ m → ⊥) → differs n m ≡ true
unfolding differs
is_other n m never = ap not (ne_eqb n m never)

-- ---- one chunk of each place

once_again : (place : ChunkPlace) (places : List ChunkPlace) → list_any (stands_with place) places ≡ true → each_once (place ∷ places) ≡ each_once places
unfolding each_once
once_again place places test = rw test refl

once_new : (place : ChunkPlace) (places : List ChunkPlace) → list_any (stands_with place) places ≡ false → each_once (place ∷ places) ≡ place ∷ each_once places
unfolding each_once
once_new place places test = rw test refl

pub once_few : (g : ChunkPlace → ℕ) (places : List ChunkPlace) → sum_by g (each_once places) ≤ sum_by g places
unfolding each_once
once_few g [] = omega arith
once_few g (place ∷ places) = elim (cases_Bool (list_any (stands_with place) places)) [
  | inl test ↦ omega (arith, ap (sum_by g) (once_again place places test), once_few g places, sum_by-cons g place places)
  | inr test ↦ omega (arith, ap (sum_by g) (once_new place places test), once_few g places, sum_by-cons g place places, sum_by-cons g place (each_once places))
]

-- where the numbers ascend, and are those of the places
module _ (f : ℕ → ℕ) (g : ChunkPlace → ℕ) where
  once_sum : (places : List ChunkPlace) (set : List ℕ) → AllByRecursion (λ place. f (place_number place) ≡ g place) places → IsStrictlySortedBy nat_cmp set → ((n : ℕ) → Contains set n → Contains (map place_number places) n)
      → ((n : ℕ) → Contains (map place_number places) n → Contains set n) → sum_by f set ≡ sum_by g (each_once places)
  unfolding each_once
  once_sum [] [] are up into back = refl
  once_sum [] (n ∷ set) are up into back = absurd (no_member n (into n (contains_first n set)))
  once_sum (place ∷ places) set are up into back =
      let number = place_number place in
      let numbers = map place_number places in
      elim (cases_Bool (list_any (stands_with place) places)) [
        | inl test ↦
            let other = member_of_any (stands_with place) places test in
            let there : Contains numbers number = subst (Contains numbers) (sym (eqb-true number (place_number other.0) other.2)) (into_map place_number places other.0 other.1) in
            once_sum places set are.1 up
            (λ n within. elim (member_cases number n numbers (into n within)) [ inl same ↦ subst (Contains numbers) same there | inr later ↦ later ])
            (λ n among. back n (contains_later number n numbers among)) ∙ ap (sum_by g) (sym (once_again place places test))
        | inr test ↦
            let never : Contains numbers number → ⊥ = λ among. let other = of_map place_number places number among in
            true≢false (sym (any_of_member (stands_with place) places other.0 other.1 (eq-eqb number (place_number other.0) (sym other.2))) ∙ test) in
            let others = filter (differs number) set in
            let far = once_sum places others are.1 (IsStrictlySortedBy-filter nat_cmp (differs number) set up)
            (λ n within. elim (member_cases number n numbers (into n (of_filter (differs number) set n within))) [ inl same ↦ absurd (not_itself number n same (member_passes (differs number) set n within)) | inr later ↦ later ])
            (λ n among. into_filter (differs number) set n (back n (contains_later number n numbers among)) (is_other number n (λ same. never (subst (Contains numbers) (sym same) among)))) in
            omega (arith, split_sum f set number up (back number (contains_first number numbers)), are.0, far, ap (sum_by g) (once_new place places test), sum_by-cons g place (each_once places))
      ]

  -- numbers that were sorted, and of which each was kept once
  pub kept_sum : (places : List ChunkPlace) (numbers sorted set : List ℕ) → AllByRecursion (λ place. f (place_number place) ≡ g place) places → numbers ≡ map place_number places → IsSorted nat_cmp sorted → IsPermutation numbers sorted → set ≡ dedup eqb sorted
      → sum_by f set ≡ sum_by g (each_once places)
  kept_sum places numbers sorted set are told up same is =
      ap (sum_by f) is ∙ once_sum places (dedup eqb sorted) are (sorted_from_strictly_increasing _ (IsStrictlyIncreasing-dedup sorted up))
      (λ n within. subst (λ (l : List ℕ). Contains l n) told (Contains-permutation sorted numbers n (IsPermutation-sym numbers sorted same) (Contains-from_dedup eqb sorted n within)))
      (λ n among. Contains-dedup_nat sorted n (Contains-permutation numbers sorted n same (subst (λ (l : List ℕ). Contains l n) (sym told) among)))

-- ---- the numbers of all places

abbrev pub HasOffset : ChunkPlace → Type 0
HasOffset place = place.offset < 2 ^ 32

-- the numbers of these places, whose offsets fit
pub record Numbered (places : List ChunkPlace) (numbers : List ℕ) : Type 0 where
  pub are : numbers ≡ map place_number places
  pub fit : AllByRecursion HasOffset places

all_push : (xs : List ChunkPlace) (x : ChunkPlace) → AllByRecursion HasOffset xs → HasOffset x → AllByRecursion HasOffset (xs ++ x ∷ [])
all_push [] x are is = (is, tt)
all_push (y ∷ xs) x are is = (are.0, all_push xs x are.1 is)

numbered_more : (places : List ChunkPlace) (numbers : List ℕ) (place : ChunkPlace) (number : ℕ) → Numbered places numbers → number ≡ place_number place → HasOffset place → Numbered (places ++ place ∷ []) (numbers ++ number ∷ [])
numbered_more places numbers place number far is fits = record {
  are = ap (λ (l : List ℕ). l ++ number ∷ []) far.are ∙ ap (λ (n : ℕ). map place_number places ++ n ∷ []) is ∙ sym (map-push place_number places place);
  fit = all_push places place far.fit fits;
}

-- the places of the first series
abbrev pub places_to : List IndexSeries → ℕ → List ChunkPlace
places_to indexed i = places_of (take i indexed)

pub numbers_start : (indexed : List IndexSeries) → Numbered (places_to indexed 0) []
numbers_start indexed = record { are = refl; fit = tt }

module _ (indexed : List IndexSeries) (i : ℕ) (chunks : List ChunkPlace) (numbers : List ℕ) where
  pub numbers_in : Numbered (places_to indexed i) numbers → Numbered (places_to indexed i ++ take 0 chunks) numbers
  numbers_in far = subst (λ (l : List ChunkPlace). Numbered l numbers) (sym (append-nil (places_to indexed i))) far

  pub numbers_step : (j number : ℕ) (place d : ChunkPlace) → Numbered (places_to indexed i ++ take j chunks) numbers → j < length chunks → place ≡ get_or chunks j d → number ≡ place_number place → HasOffset place → Numbered (places_to indexed i ++ take (j + 1) chunks) (numbers ++ number ∷ [])
  numbers_step j number place d far lt at is fits =
      subst (λ (l : List ChunkPlace). Numbered l (numbers ++ number ∷ [])) (append_assoc (places_to indexed i) (take j chunks) (place ∷ []) ∙ ap (λ (l : List ChunkPlace). places_to indexed i ++ l) (sym (front chunks j place d lt at)))
      (numbered_more (places_to indexed i ++ take j chunks) numbers place number far is fits)

  pub numbers_out : (j : ℕ) (one d : IndexSeries) → Numbered (places_to indexed i ++ take j chunks) numbers → length chunks ≤ j → i < length indexed → one ≡ get_or indexed i d → chunks ≡ one.chunks → Numbered (places_to indexed (i + 1)) numbers
  numbers_out j one d far le lt at are =
      let whole : places_to indexed i ++ take j chunks ≡ places_to indexed (i + 1) = ap (λ (l : List ChunkPlace). places_to indexed i ++ l) (take_all j chunks le ∙ are)
      ∙ sym (ap (λ (l : List IndexSeries). places_of l) (front indexed i one d lt at) ∙ flat_map-push (λ (s : IndexSeries). s.chunks) (take i indexed) one) in
      subst (λ (l : List ChunkPlace). Numbered l numbers) whole far

pub numbers_end : (indexed : List IndexSeries) (i : ℕ) (numbers : List ℕ) → Numbered (places_to indexed i) numbers → length indexed ≤ i → Numbered (places_of indexed) numbers
numbers_end indexed i numbers far le = subst (λ (l : List IndexSeries). Numbered (places_of l) numbers) (take_all i indexed le) far
