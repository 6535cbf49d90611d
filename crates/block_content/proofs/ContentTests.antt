-- What testing a block's files comes to.
use Rattle.std.proofs.Common.{◌≡◌, ℕ, List, Option, Some, None, Result, Ok, Err, ℤ, sym, ap, subst, ◌∙◌, ◌⊎◌, inl, inr}
use Rattle.std.specs.Prelude.{MatchOption, IfOk, IfErr, IsErrAnd}
use Rattle.std.specs.List.{AllByRecursion}
use Rattle.std.specs.Result.{IsOkAnd}
use Rattle.base.specs.Grammar.{IsBytes}
use Rattle.base.specs.Reading.{Gives, refused_as}
use Rattle.base.proofs.Binds.{err_is, refused_as_ok, one_answer}
use Rattle.label_sets.specs.Counts.{sample_count}
use Rattle.label_sets.specs.declared.sample.Sample.{Sample}
use Rattle.label_sets.specs.declared.series.Series.{Series}
use Rattle.index_parts.specs.declared.index_series.IndexSeries.{IndexSeries}
use Rattle.index_parts.specs.IndexFile.{IsIndex}
use Rattle.block_meta.specs.declared.meta.Meta.{Meta}
use Rattle.block_meta.specs.declared.block_files.BlockFiles.{BlockFiles}
use Rattle.block_content.specs.Content.{IsContent}
use Rattle.block_content.specs.ContentRefusals.{RefusesContent}
use Rattle.base.specs.Firsts.{each_at, first_at}
use Rattle.block_content.specs.ContentReading.{WalksSeries, AreFew, ListsFew, chunks_at, list_of, first_outside, repeated_in, fitted, refused_index, index_at, contents_at}
use Rattle.block_content.specs.CheckReading.{found_at, IsFirstFound, IsTested}
use Rattle.block_content.specs.declared.check_refusal.CheckRefusal.{CheckRefusal}
use Rattle.block_content.specs.declared.check_refusal.CheckRefusal.TheVariants.{NoMemory}
use Rattle.block_content.proofs.TimesAndOrder.{index_found}
use Rattle.block_content.proofs.ContentLaws.{content_found, content_again, content_refused, content_refuses}
use Rattle.block_content.proofs.ContentSteps.{chunks_refused, list_refused, behind_index, index_stops}
use Rattle.block_content.proofs.CheckSteps.{refused_by, passed_by}
use Rattle.block_content.proofs.ChunkWalks.{SeriesStopped}

-- ---- steps

pub tested_stops : (meta : Meta) (index : List ℕ) (segments : List (List ℕ)) (r : Result (List IndexSeries) CheckRefusal) (e : CheckRefusal) → IsErrAnd r (λ d. d ≡ e) → (e ≡ NoMemory) ⊎ (contents_at meta index segments ≡ Err e) → IsTested meta index segments r
tested_stops meta index segments (Ok x) e is why = absurd is
tested_stops meta index segments (Err d) e is why = subst (λ (c : CheckRefusal). (c ≡ NoMemory) ⊎ (contents_at meta index segments ≡ Err c)) (sym is) why

pub index_refused : (meta : Meta) (index : List ℕ) (segments : List (List ℕ)) (e : CheckRefusal) → (e ≡ NoMemory) ⊎ (refused_as refused_index (index_at index) ≡ Err e) → (e ≡ NoMemory) ⊎ (contents_at meta index segments ≡ Err e)
index_refused meta index segments e (inl none) = inl none
index_refused meta index segments e (inr h) = inr (index_stops meta index segments e h)

module _ (meta : Meta) (index : List ℕ) (segments : List (List ℕ)) (indexed lent : List IndexSeries) (read : refused_as refused_index (index_at index) ≡ Ok indexed) (lends : lent ≡ indexed) where
  pub walk_refused : (e : CheckRefusal) → SeriesStopped segments lent e → (e ≡ NoMemory) ⊎ (contents_at meta index segments ≡ Err e)
  walk_refused e stopped = elim (chunks_refused meta segments indexed e (subst (λ (l : List IndexSeries). SeriesStopped segments l e) lends stopped)) [
    | inl none ↦ inl none
    | inr h ↦ inr (behind_index meta index segments indexed read ∙ h)
  ]

  module _ (samples : ℕ) (outside : Option (ℕ × ℤ)) (repeated : Option ℕ)
      (counted : (parts : List (List (List Sample))) × (each_at (chunks_at segments) lent ≡ Ok parts) × ((samples ≡ sample_count (list_of lent parts)) × IsFirstFound (first_at (first_outside meta) (list_of lent parts)) outside))
      (seen : List IndexSeries) (sees : seen ≡ indexed)
      (order : MatchOption repeated (first_at repeated_in seen ≡ None) (λ found. (place : ℕ) × (first_at repeated_in seen ≡ Some (place, tt)) × (found ≡ fitted place))) where
    parts_read : each_at (chunks_at segments) indexed ≡ Ok counted.0
    parts_read = ap (each_at (chunks_at segments)) (sym lends) ∙ counted.1

    times_told : IsFirstFound (first_at (first_outside meta) (list_of indexed counted.0)) outside
    times_told = subst (λ (l : List IndexSeries). IsFirstFound (first_at (first_outside meta) (list_of l counted.0)) outside) lends counted.2.1

    order_told : MatchOption repeated (first_at repeated_in indexed ≡ None) (λ found. (place : ℕ) × (first_at repeated_in indexed ≡ Some (place, tt)) × (found ≡ fitted place))
    order_told = subst (λ (l : List IndexSeries). MatchOption repeated (first_at repeated_in l ≡ None) (λ found. (place : ℕ) × (first_at repeated_in l ≡ Some (place, tt)) × (found ≡ fitted place))) sees order

    pub found_stops : (e : CheckRefusal) → found_at outside repeated ≡ Err e → (e ≡ NoMemory) ⊎ (contents_at meta index segments ≡ Err e)
    found_stops e h = inr (behind_index meta index segments indexed read ∙ refused_by meta segments indexed counted.0 parts_read outside repeated times_told order_told e h)

    all_held : found_at outside repeated ≡ Ok tt → contents_at meta index segments ≡ Ok (list_of indexed counted.0)
    all_held h = behind_index meta index segments indexed read ∙ passed_by meta segments indexed counted.0 parts_read outside repeated times_told order_told h

    pub all_tested : found_at outside repeated ≡ Ok tt → IsTested meta index segments (Ok indexed)
    all_tested h = (refused_as_ok refused_index (index_at index) indexed read, (list_of indexed counted.0, all_held h))

    -- what is built of the same series is the content
    pub built_is : (items : List IndexSeries) → items ≡ indexed → found_at outside repeated ≡ Ok tt → (r : Result (List Series) CheckRefusal) → WalksSeries segments items (λ made parts. made ≡ list_of items parts) r → Gives NoMemory (λ list. list) r (contents_at meta index segments)
    built_is items moved h (Ok list) (parts, built, is) =
        let same : parts ≡ counted.0 = one_answer parts counted.0 (each_at (chunks_at segments) indexed) (ap (each_at (chunks_at segments)) (sym moved) ∙ built) parts_read in
        all_held h ∙ ap (λ (xs : List Series). Ok xs) (sym (is ∙ ap (λ (xs : List IndexSeries). list_of xs parts) moved ∙ ap (list_of indexed) same))
    built_is items moved h (Err e) why = list_refused meta index segments indexed items read moved e why

-- what is built is few
pub built_few : (index : List ℕ) (segments : List (List ℕ)) (indexed seen : List IndexSeries) (r : Result (List Series) CheckRefusal) → refused_as refused_index (index_at index) ≡ Ok indexed → ListsFew index indexed → seen ≡ indexed → IfOk r (AreFew segments seen)
    → IfOk r (λ list. (indexed : List IndexSeries) × (index_at index ≡ Ok indexed) × ListsFew index indexed × AreFew segments indexed list)
built_few index segments indexed seen (Ok list) read listed lends few = (indexed, refused_as_ok refused_index (index_at index) indexed read, listed, subst (λ (xs : List IndexSeries). AreFew segments xs list) lends few)
built_few index segments indexed seen (Err e) read listed lends few = tt

-- ---- what the call says

ok_not_err : {X : Type 0} (x : X) (e : CheckRefusal) → ◌≡◌ {A = Result X CheckRefusal} (Ok x) (Err e) → ⊥
ok_not_err x e h = cc

module _ (files : BlockFiles) (index : List ℕ) (segments : List (List ℕ)) (index_is : index ≡ files.index) (segments_are : segments ≡ files.segments) (bytes : IsBytes index × AllByRecursion IsBytes segments) where
  pub index_bytes : IsBytes files.index
  index_bytes = subst IsBytes index_is bytes.0

  pub test_few : (r : Result (List IndexSeries) CheckRefusal) → IfOk r (ListsFew index) → IfOk r (ListsFew files.index)
  test_few r given = subst (λ (b : List ℕ). IfOk r (ListsFew b)) index_is given

  all_bytes : AllByRecursion IsBytes files.segments
  all_bytes = subst (AllByRecursion IsBytes) segments_are bytes.1

  of_files : (r : Result (List IndexSeries) CheckRefusal) → IsTested files.meta index segments r → IsTested files.meta files.index files.segments r
  of_files r given = subst (λ (s : List (List ℕ)). IsTested files.meta files.index s r) segments_are (subst (λ (b : List ℕ). IsTested files.meta b segments r) index_is given)

  found_of : (r : Result (List IndexSeries) CheckRefusal) → IsTested files.meta files.index files.segments r → IfOk r (λ indexed. IsIndex files.index indexed × ((list : List Series) × IsContent files list))
  found_of (Ok indexed) (read, (list, held)) = (index_found files.index indexed index_bytes read, (list, content_found files index_bytes all_bytes list held))
  found_of (Err e) why = tt

  only_of : (r : Result (List IndexSeries) CheckRefusal) → IsTested files.meta files.index files.segments r → (list : List Series) → IsContent files list → IsOkAnd r (IsIndex files.index) ⊎ (r ≡ Err NoMemory)
  only_of (Ok indexed) (read, held) list is = inl (index_found files.index indexed index_bytes read)
  only_of (Err e) (inl none) list is = inr (ap Err none)
  only_of (Err e) (inr h) list is = absurd (ok_not_err list e (sym (content_again files index_bytes all_bytes list is) ∙ h))

  refused_of : (r : Result (List IndexSeries) CheckRefusal) → IsTested files.meta files.index files.segments r → IfErr r (λ e. (e ≡ NoMemory) ⊎ RefusesContent files e)
  refused_of (Ok indexed) held = tt
  refused_of (Err e) (inl none) = inl none
  refused_of (Err e) (inr h) = content_refused files index_bytes all_bytes e h

  refuses_of : (r : Result (List IndexSeries) CheckRefusal) → IsTested files.meta files.index files.segments r → (refusal : CheckRefusal) → RefusesContent files refusal → (r ≡ Err refusal) ⊎ (r ≡ Err NoMemory)
  refuses_of (Ok indexed) (read, (list, held)) refusal is = absurd (ok_not_err list refusal (sym held ∙ content_refuses files index_bytes all_bytes refusal is))
  refuses_of (Err e) (inl none) refusal is = inr (ap Err none)
  refuses_of (Err e) (inr h) refusal is = inl (ap Err (err_is {A = List Series} e refusal (sym h ∙ content_refuses files index_bytes all_bytes refusal is)))

  pub test_found : (r : Result (List IndexSeries) CheckRefusal) → IsTested files.meta index segments r → IfOk r (λ indexed. IsIndex files.index indexed × ((list : List Series) × IsContent files list))
  test_found r given = found_of r (of_files r given)

  pub test_only : (r : Result (List IndexSeries) CheckRefusal) → IsTested files.meta index segments r → (list : List Series) → IsContent files list → IsOkAnd r (IsIndex files.index) ⊎ (r ≡ Err NoMemory)
  test_only r given = only_of r (of_files r given)

  pub test_refused : (r : Result (List IndexSeries) CheckRefusal) → IsTested files.meta index segments r → IfErr r (λ e. (e ≡ NoMemory) ⊎ RefusesContent files e)
  test_refused r given = refused_of r (of_files r given)

  pub test_refuses : (r : Result (List IndexSeries) CheckRefusal) → IsTested files.meta index segments r → (refusal : CheckRefusal) → RefusesContent files refusal → (r ≡ Err refusal) ⊎ (r ≡ Err NoMemory)
  test_refuses r given = refuses_of r (of_files r given)
