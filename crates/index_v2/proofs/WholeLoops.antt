-- The loops over listed series and over rows: what was read of the front, and what is left, is the whole.
use Rattle.std.proofs.Common.{◌≡◌, ℕ, zero, suc, ◌+◌, ◌-◌, ◌^◌, ◌<◌, ◌≤◌, List, [], ◌∷◌, ◌++◌, length, take, drop, get_or, Option, Some, None, Result, Ok, Err, refl, sym, ap, subst, ◌∙◌, arith, add-one, drop-cons, ◌⊎◌, inl, inr}
use Rattle.std.specs.Prelude.{slice_get, IfSome, IsErrAnd, MatchResult}
use Rattle.std.specs.List.{All}
use Rattle.std.specs.List.Sorted.{IsStrictlyIncreasing}
use Rattle.std.proofs.lemmas.List.Elements.{All-push}
use Rattle.std.proofs.lemmas.List.{append-nil, drop_all, take_more, length-append}
use Rattle.std.proofs.lemmas.Option.{slice_get_within, get_or_from_slice_get, slice_get_cases}
use Rattle.base.specs.Reading.{◌>>=◌, refused_as, Gives}
use Rattle.index_parts.specs.declared.postings_row.PostingsRow.{PostingsRow}
use Rattle.index_parts.specs.Parts.{Part, list_in}
use Rattle.index_parts.specs.declared.index_series.IndexSeries.{IndexSeries}
use Rattle.index_v2.specs.declared.refusal.IndexRefusal.{IndexRefusal}
use Rattle.index_v2.specs.Opening.{refused_in}
use Rattle.index_v2.specs.WholeReading.{behind_at, all_at, lists_at}
use Rattle.index_v2.proofs.LabelReading.{again, moved}

-- ---- series

abbrev pub last_of : List IndexSeries → Option IndexSeries
last_of made = slice_get made (length made - 1)

pub record SeriesSoFar (index : List ℕ) (symbols : List (List ℕ)) (numbers : List ℕ) (place : ℕ) (last : Option ℕ) (made : List IndexSeries) : Type 0 where
  pub many : length made ≡ place
  pub small : IfSome last (λ n. n < 2 ^ 32)
  pub whole : all_at index symbols None None numbers ≡ (all_at index symbols last (last_of made) (drop place numbers) >>= λ others. Ok (made ++ others))

pub series_start : (index : List ℕ) (symbols : List (List ℕ)) (numbers : List ℕ) → SeriesSoFar index symbols numbers 0 None []
series_start _ _ _ = record { many = refl; small = tt; whole = again _ }

pub series_begin : (index : List ℕ) (symbols : List (List ℕ)) (numbers : List ℕ) (made : List IndexSeries) → made ≡ [] → SeriesSoFar index symbols numbers 0 None made
series_begin index symbols numbers made none = subst (SeriesSoFar index symbols numbers 0 None) (sym none) (series_start index symbols numbers)

slice_get_last : (made : List IndexSeries) (one : IndexSeries) (n : ℕ) → n ≡ length made → slice_get (made ++ one ∷ []) n ≡ Some one
slice_get_last [] _ zero e = refl
slice_get_last [] _ (suc n) e = absurd (omega arith)
slice_get_last (m ∷ made) _ zero e = absurd (omega arith)
slice_get_last (m ∷ made) one (suc n) e = slice_get_last made _ n (omega arith)

last_pushed : (made : List IndexSeries) (one : IndexSeries) → last_of (made ++ one ∷ []) ≡ Some one
last_pushed made one = slice_get_last _ _ (length (made ++ one ∷ []) - 1) (omega (arith, length-append made (one ∷ [])))

pub at_front : (xs : List ℕ) (i x : ℕ) → i < length xs → x ≡ get_or xs i 0 → drop i xs ≡ x ∷ drop (i + 1) xs
at_front _ i x lt e = rw (add-one, e) (drop-cons _ i 0 lt)

one_more : (index : List ℕ) (symbols : List (List ℕ)) (last : Option ℕ) (before : Option IndexSeries) (number : ℕ) (numbers : List ℕ) (one : IndexSeries) → behind_at index symbols last before number ≡ Ok one → all_at index symbols last before (number ∷ numbers) ≡ (all_at index symbols (Some number) (Some one) numbers >>= λ others. Ok (one ∷ others))
unfolding all_at
one_more _ _ _ _ _ _ _ e = rw e refl

none_more : (index : List ℕ) (symbols : List (List ℕ)) (last : Option ℕ) (before : Option IndexSeries) (number : ℕ) (numbers : List ℕ) (refusal : IndexRefusal) → behind_at index symbols last before number ≡ Err refusal → all_at index symbols last before (number ∷ numbers) ≡ Err refusal
unfolding all_at
none_more _ _ _ _ _ _ _ e = rw e refl

pub nothing_left : (index : List ℕ) (symbols : List (List ℕ)) (last : Option ℕ) (before : Option IndexSeries) → all_at index symbols last before [] ≡ Ok []
unfolding all_at
nothing_left _ _ _ _ = refl

pub series_step : (index : List ℕ) (symbols : List (List ℕ)) (numbers : List ℕ) (place next number : ℕ) (last : Option ℕ) (made seen new : List IndexSeries) (one : IndexSeries)
    → SeriesSoFar index symbols numbers place last made → place < length numbers → next ≡ place + 1 → number ≡ get_or numbers place 0 → number < 2 ^ 32 → seen ≡ made → behind_at index symbols last (last_of seen) number ≡ Ok one → new ≡ made ++ one ∷ [] → SeriesSoFar index symbols numbers next (Some number) new
series_step index symbols numbers place _ number last made _ _ one far lt e n small s behind pushed =
    let read = ap (λ xs. behind_at index symbols last (last_of xs) number) (sym s) ∙ behind in
    let front : all_at index symbols last (last_of made) (drop place numbers) ≡ (all_at index symbols (Some number) (Some one) (drop (place + 1) numbers) >>= λ others. Ok (one ∷ others)) = rw (at_front numbers place number lt n) (one_more _ _ _ _ _ _ _ read) in
    let end = ap (λ o. all_at index symbols (Some number) o (drop (place + 1) numbers)) (last_pushed made _) in
    rw (e, pushed) (record {
      many = let m = far.many in omega (arith, length-append made (one ∷ []));
      small = small;
      whole = far.whole ∙ ap (λ (r : Result (List IndexSeries) IndexRefusal). r >>= λ others. Ok (made ++ others)) front ∙ moved _ _ _
          ∙ ap (λ r. r >>= λ others. Ok ((made ++ one ∷ []) ++ others)) (sym end);
    })

pub series_stop : (index : List ℕ) (symbols : List (List ℕ)) (numbers : List ℕ) (place number : ℕ) (last : Option ℕ) (made seen : List IndexSeries) (refusal : IndexRefusal)
    → SeriesSoFar index symbols numbers place last made → place < length numbers → number ≡ get_or numbers place 0 → seen ≡ made → behind_at index symbols last (last_of seen) number ≡ Err refusal → all_at index symbols None None numbers ≡ Err refusal
series_stop index symbols numbers place number last made _ refusal far lt n s behind =
    let read = ap (λ xs. behind_at index symbols last (last_of xs) number) (sym s) ∙ behind in
    let front : all_at index symbols last (last_of made) (drop place numbers) ≡ Err refusal = rw (at_front numbers place number lt n) (none_more _ _ _ _ _ _ _ read) in
    far.whole ∙ ap (λ r. r >>= λ others. Ok (made ++ others)) front

pub series_end : (index : List ℕ) (symbols : List (List ℕ)) (numbers : List ℕ) (place : ℕ) (last : Option ℕ) (made : List IndexSeries) → SeriesSoFar index symbols numbers place last made → length numbers ≤ place → all_at index symbols None None numbers ≡ Ok made
series_end index symbols numbers place last made far le =
    let front : all_at index symbols last (last_of made) (drop place numbers) ≡ Ok [] = rw (drop_all) (nothing_left _ _ _ _) in
    far.whole ∙ ap (λ r. r >>= λ others. Ok (made ++ others)) front ∙ ap Ok (append-nil made)

-- ---- lists of rows

pub record ListsSoFar (part : Part) (rows : List PostingsRow) (place : ℕ) (lists : List (List ℕ)) : Type 0 where
  pub many : length lists ≡ place
  pub rise : All IsStrictlyIncreasing lists
  pub whole : lists_at part rows ≡ (lists_at part (drop place rows) >>= λ others. Ok (lists ++ others))

pub drop_at : (rows : List PostingsRow) (place : ℕ) (row : PostingsRow) → slice_get rows place ≡ Some row → drop place rows ≡ row ∷ drop (place + 1) rows
drop_at rows place row at = rw (add-one, ← get_or_from_slice_get rows place row row at) (drop-cons rows _ _ (slice_get_within _ _ _ at))

one_list : (part : Part) (row : PostingsRow) (rows : List PostingsRow) (list : List ℕ) → refused_as (refused_in 5) (list_in part row.offset) ≡ Ok list → lists_at part (row ∷ rows) ≡ (lists_at part rows >>= λ others. Ok (list ∷ others))
unfolding lists_at
one_list _ _ _ _ e = rw e refl

no_list : (part : Part) (row : PostingsRow) (rows : List PostingsRow) (refusal : IndexRefusal) → refused_as (refused_in 5) (list_in part row.offset) ≡ Err refusal → lists_at part (row ∷ rows) ≡ Err refusal
unfolding lists_at
no_list _ _ _ _ e = rw e refl

no_lists : (part : Part) → lists_at part [] ≡ Ok []
unfolding lists_at
no_lists _ = refl

pub lists_start : (part : Part) (rows : List PostingsRow) → ListsSoFar part rows 0 []
lists_start part rows = record { many = refl; rise = λ k d lt. absurd (omega arith); whole = again _ }

pub lists_step : (part : Part) (rows : List PostingsRow) (place : ℕ) (row : PostingsRow) (lists new : List (List ℕ)) (list : List ℕ)
    → ListsSoFar part rows place lists → slice_get rows place ≡ Some row → refused_as (refused_in 5) (list_in part row.offset) ≡ Ok list → IsStrictlyIncreasing list → new ≡ lists ++ list ∷ [] → ListsSoFar part rows (place + 1) new
lists_step part rows place row lists new list far at read rises pushed =
    let front : lists_at part (drop place rows) ≡ (lists_at part (drop (place + 1) rows) >>= λ others. Ok (list ∷ others)) = rw (drop_at rows place row at) (one_list _ _ _ _ read) in
    rw pushed (record { many = (let m = far.many in omega (arith, length-append lists (list ∷ []))); rise = All-push IsStrictlyIncreasing _ _ far.rise rises; whole = far.whole ∙ ap (λ r. r >>= λ others. Ok (lists ++ others)) front ∙ moved _ _ _ })

pub lists_stop : (part : Part) (rows : List PostingsRow) (place : ℕ) (row : PostingsRow) (lists : List (List ℕ)) (refusal : IndexRefusal)
    → ListsSoFar part rows place lists → slice_get rows place ≡ Some row → refused_as (refused_in 5) (list_in part row.offset) ≡ Err refusal → lists_at part rows ≡ Err refusal
lists_stop part rows place row lists refusal far at read =
    let front : lists_at part (drop place rows) ≡ Err refusal = rw (drop_at rows place row at) (no_list _ _ _ _ read) in
    far.whole ∙ ap (λ r. r >>= λ others. Ok (lists ++ others)) front

pub lists_end : (part : Part) (rows : List PostingsRow) (place : ℕ) (lists : List (List ℕ)) → ListsSoFar part rows place lists → length rows ≤ place → lists_at part rows ≡ Ok lists
lists_end part rows place lists far le =
    let front : lists_at part (drop place rows) ≡ Ok [] = rw (drop_all) (no_lists _) in
    far.whole ∙ ap (λ r. r >>= λ others. Ok (lists ++ others)) front ∙ ap Ok (append-nil lists)

pub row_within : (rows : List PostingsRow) (place : ℕ) {P : Type 0} → place < length rows → slice_get rows place ≡ None → P
row_within rows place lt none =
    elim (slice_get_cases rows place).1 [
      | inl p ↦ let some = p.2 in absurd cc
      | inr p ↦ let past = p.0 in absurd (omega arith)
    ]

-- the front of the rows is one longer
pub front_more : (rows : List PostingsRow) (place : ℕ) (row : PostingsRow) → slice_get rows place ≡ Some row → take (place + 1) rows ≡ take place rows ++ row ∷ []
front_more rows place row at = take_more _ _ row (slice_get_within _ _ _ at) ∙ ap (λ r. take place rows ++ r ∷ []) (get_or_from_slice_get rows place _ row at)

-- ---- an exit by `?`

pub gives_stop : {X Y Z E : Type 0} (no_memory : E) (view : X → Y) (r : Result X E) (e : E) (one : Result Z E) (all : Result Y E) → IsErrAnd r (λ d. d ≡ e) → (e ≡ no_memory) ⊎ (one ≡ Err e) → (one ≡ Err e → all ≡ Err e) → Gives no_memory view r all
gives_stop _ _ (Ok x) e _ _ is why then = absurd is
gives_stop _ _ (Err d) e _ _ is (inl out) then = inl (is ∙ out)
gives_stop _ _ (Err d) e _ _ is (inr refused) then = inr (then refused ∙ ap Err (sym is))

pub stop_refused : {X Z E : Type 0} (P : X → Type 0) (r : Result X E) (e no_memory : E) (one : Result Z E) {A : Type 0} {all : Result A E} → IsErrAnd r (λ d. d ≡ e) → (e ≡ no_memory) ⊎ (one ≡ Err e) → (one ≡ Err e → all ≡ Err e) → MatchResult r P (λ d. (d ≡ no_memory) ⊎ (all ≡ Err d))
stop_refused P (Ok x) e no_memory one is why then = absurd is
stop_refused P (Err d) e no_memory one is (inl out) then = inl (is ∙ out)
stop_refused P (Err d) e no_memory one is (inr refused) then = inr (then refused ∙ ap Err (sym is))
