-- Which numbers are marked, list by list.
use Rattle.std.proofs.Common.{◌≡◌, ◌≢◌, ℕ, zero, suc, ◌+◌, ◌<◌, ◌≤◌, Bool, true, false, not, cond, ◌||◌, List, [], ◌∷◌, ◌++◌, length, take, take_all, get_or, set, replicate, Ok, Err, refl, sym, ap, ap₂, ◌∙◌, arith, append_assoc, append-nil}
use mathlib.Core.Bool.{beq}
use Rattle.std.specs.Prelude.{◌==◌, if◌then◌else◌}
use Rattle.std.specs.List.{filter}
use Rattle.std.specs.List.Sorted.{IsStrictlyIncreasing, IsBinarySearchResult}
use Rattle.std.specs.Ordering.{nat_cmp}
use Rattle.std.proofs.lemmas.Bool.{eq-eqb, ne_eqb}
use Rattle.std.proofs.lemmas.List.{take_more}
use Rattle.std.proofs.lemmas.List.Elements.{filter-append}
use Rattle.base.specs.Lists.{is_one_of}
use Rattle.index_v2.proofs.Differences.{tells_place}
use Rattle.series_selection.specs.SelectionSteps.{kept_numbers, marks_of}

-- ---- one number more

or_true : (b : Bool) → (b || true) ≡ true
or_true true = refl
or_true false = refl

with_last : (full : List ℕ) (m n : ℕ) → m ≡ n → is_one_of (full ++ m ∷ []) n ≡ true
with_last [] m n e = rw (eq-eqb m n e) refl
with_last (f ∷ full) m n e = rw (with_last full m n e) (or_true (f == n))

without_last : (full : List ℕ) (m n : ℕ) → m ≢ n → is_one_of (full ++ m ∷ []) n ≡ is_one_of full n
without_last [] m n differs = rw (ne_eqb m n differs) refl
without_last (f ∷ full) m n differs = ap (λ (b : Bool). (f == n) || b) (without_last full m n differs)

none_here : (full numbers : List ℕ) (m : ℕ) → ((k : ℕ) → k < length numbers → get_or numbers k 0 ≢ m) → marks_of full numbers ≡ marks_of (full ++ m ∷ []) numbers
none_here full [] m none = refl
none_here full (n ∷ numbers) m none =
    ap₂ (λ (b : Bool) (bs : List Bool). b ∷ bs) (sym (without_last full m n (λ e. none 0 (omega arith) (sym e)))) (none_here full numbers m (λ k lt. none (suc k) (omega (arith, lt))))

one_here : (full numbers : List ℕ) (m place : ℕ) → place < length numbers → get_or numbers place 0 ≡ m → ((k : ℕ) → k < length numbers → k ≢ place → get_or numbers k 0 ≢ m) → set (marks_of full numbers) place true ≡ marks_of (full ++ m ∷ []) numbers
one_here full [] m place lt is others = absurd (omega (arith, lt))
one_here full (n ∷ numbers) m zero lt is others =
    ap₂ (λ (b : Bool) (bs : List Bool). b ∷ bs) (sym (with_last full m n (sym is))) (none_here full numbers m (λ k less. others (suc k) (omega (arith, less)) (omega arith)))
one_here full (n ∷ numbers) m (suc place) lt is others =
    ap₂ (λ (b : Bool) (bs : List Bool). b ∷ bs) (sym (without_last full m n (λ e. others 0 (omega arith) (omega arith) (sym e)))) (one_here full numbers m place (omega (arith, lt)) is (λ k less other. others (suc k) (omega (arith, less)) (omega (arith, other))))

module _ (numbers : List ℕ) (m : ℕ) (rise : IsStrictlyIncreasing numbers) where
  pub marked_found : (place : ℕ) (old new : List Bool) → IsBinarySearchResult (λ y. nat_cmp y m) numbers (Ok place) → new ≡ set old place true → (full : List ℕ) → old ≡ marks_of full numbers → new ≡ marks_of (full ++ m ∷ []) numbers
  marked_found place old new is put full e =
      let at = tells_place numbers m (Ok place) rise is in
      put ∙ ap (λ (bs : List Bool). set bs place true) e ∙ one_here full numbers m place at.0 at.1 at.2

  pub marked_none : (place : ℕ) (old : List Bool) → IsBinarySearchResult (λ y. nat_cmp y m) numbers (Err place) → (full : List ℕ) → old ≡ marks_of full numbers → old ≡ marks_of (full ++ m ∷ []) numbers
  marked_none place old is full e = e ∙ none_here full numbers m (tells_place numbers m (Err place) rise is)

-- ---- a list more

-- what is marked of the front of a list
pub record MarkedSoFar (numbers list : List ℕ) (place : ℕ) (old marks : List Bool) : Type 0 where
  pub many : length marks ≡ length numbers
  pub marked : (full : List ℕ) → old ≡ marks_of full numbers → marks ≡ marks_of (full ++ take place list) numbers

pub marks_start : (numbers list : List ℕ) (old : List Bool) → length old ≡ length numbers → MarkedSoFar numbers list 0 old old
marks_start numbers list old many = record { many = many; marked = λ full e. e ∙ ap (λ (l : List ℕ). marks_of l numbers) (sym (append-nil full)) }

pub marks_step : (numbers list : List ℕ) (place m : ℕ) (old marks new : List Bool) → MarkedSoFar numbers list place old marks → place < length list → m ≡ get_or list place 0 → length new ≡ length numbers → ((full : List ℕ) → marks ≡ marks_of full numbers → new ≡ marks_of (full ++ m ∷ []) numbers) → MarkedSoFar numbers list (place + 1) old new
marks_step numbers list place m old marks new far lt at many put = record {
  many = many;
  marked = λ full e. put (full ++ take place list) (far.marked full e)
      ∙ ap (λ (l : List ℕ). marks_of l numbers) (append_assoc full (take place list) (m ∷ []) ∙ ap (λ (l : List ℕ). full ++ l) (ap (λ (x : ℕ). take place list ++ x ∷ []) at ∙ sym (take_more list place 0 lt)));
}

pub marks_end : (numbers list : List ℕ) (place : ℕ) (old marks : List Bool) → MarkedSoFar numbers list place old marks → length list ≤ place → (full : List ℕ) → old ≡ marks_of full numbers → marks ≡ marks_of (full ++ list) numbers
marks_end numbers list place old marks far le full e = far.marked full e ∙ ap (λ (l : List ℕ). marks_of (full ++ l) numbers) (take_all place list le)

pub nothing_marked : (numbers : List ℕ) → replicate (length numbers) false ≡ marks_of [] numbers
nothing_marked [] = refl
nothing_marked (n ∷ numbers) = ap (λ (bs : List Bool). false ∷ bs) (nothing_marked numbers)

-- ---- what is kept

abbrev passes : Bool → List ℕ → ℕ → Bool
passes wanted full n = if wanted then is_one_of full n else not (is_one_of full n)

told_so : (wanted b : Bool) → beq b wanted ≡ (if wanted then b else not b)
told_so true true = refl
told_so true false = refl
told_so false true = refl
told_so false false = refl

mark_at : (full numbers : List ℕ) (place : ℕ) → place < length numbers → get_or (marks_of full numbers) place false ≡ is_one_of full (get_or numbers place 0)
mark_at full [] place lt = absurd (omega (arith, lt))
mark_at full (n ∷ numbers) zero lt = refl
mark_at full (n ∷ numbers) (suc place) lt = mark_at full numbers place (omega (arith, lt))

at_end : (b : Bool) (n : ℕ) (front : List ℕ) → front ++ cond b (n ∷ []) [] ≡ (if b then front ++ n ∷ [] else front)
at_end true n front = refl
at_end false n front = append-nil front

filter_one : (p : ℕ → Bool) (n : ℕ) (xs : List ℕ) → filter p (xs ++ n ∷ []) ≡ (if p n then filter p xs ++ n ∷ [] else filter p xs)
filter_one p n xs = filter-append p xs (n ∷ []) ∙ at_end (p n) n (filter p xs)

abbrev pub KeptMarked : Bool → List Bool → List ℕ → ℕ → List ℕ → Type 0
KeptMarked wanted marks numbers place left = (full : List ℕ) → marks ≡ marks_of full numbers → left ≡ kept_numbers wanted full (take place numbers)

pub keep_step : (wanted : Bool) (marks : List Bool) (numbers : List ℕ) (place n : ℕ) (mark is : Bool) (left new : List ℕ) → KeptMarked wanted marks numbers place left → place < length numbers → n ≡ get_or numbers place 0 → mark ≡ get_or marks place false → is ≡ beq mark wanted → new ≡ (if is then left ++ n ∷ [] else left) → KeptMarked wanted marks numbers (place + 1) new
keep_step wanted marks numbers place n mark is left new far lt at mark_is is_is put = λ full e.
    let here : mark ≡ is_one_of full n = mark_is ∙ ap (λ (bs : List Bool). get_or bs place false) e ∙ mark_at full numbers place lt ∙ ap (is_one_of full) (sym at) in
    let test : is ≡ passes wanted full n = is_is ∙ told_so wanted mark ∙ ap (λ (b : Bool). if wanted then b else not b) here in
    put ∙ ap₂ (λ (b : Bool) (l : List ℕ). if b then l ++ n ∷ [] else l) test (far full e) ∙ sym (filter_one (passes wanted full) n (take place numbers))
    ∙ ap (filter (passes wanted full)) (ap (λ (x : ℕ). take place numbers ++ x ∷ []) at ∙ sym (take_more numbers place 0 lt))

pub keep_end : (wanted : Bool) (marks : List Bool) (numbers : List ℕ) (place : ℕ) (left : List ℕ) → KeptMarked wanted marks numbers place left → length numbers ≤ place → (full : List ℕ) → marks ≡ marks_of full numbers → left ≡ kept_numbers wanted full numbers
keep_end wanted marks numbers place left far le full e = far full e ∙ ap (kept_numbers wanted full) (take_all place numbers le)
