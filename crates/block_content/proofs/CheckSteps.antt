-- What the steps of checking a block come to.
use Rattle.std.proofs.lemmas.Bool.{true≢false}
use Rattle.std.proofs.lemmas.Bool.Decides.{Decides-eqb}
use Rattle.std.proofs.Common.{◌≡◌, ℕ, suc, arith, List, [], ◌∷◌, length, Bool, true, false, Option, None, Some, Result, Ok, Err, ℤ, refl, sym, ap, subst, ◌∙◌, ◌⊎◌, inl, inr}
use Rattle.base.specs.Reading.{◌>>=◌, ◌>>◌, unless}
use Rattle.base.proofs.Binds.{err_is}
use Rattle.base.proofs.FirstLaws.{each_many}
use Rattle.block_content.proofs.CountsSoFar.{length-list_of}
use Rattle.label_sets.specs.declared.series.Series.{Series}
use Rattle.index_parts.specs.declared.index_series.IndexSeries.{IndexSeries}
use Rattle.block_meta.specs.declared.meta.Meta.{Meta}
use Rattle.std.specs.Prelude.{MatchOption, MatchResult, IsErrAnd, ◌==◌}
use Rattle.label_sets.specs.Counts.{sample_count}
use Rattle.base.specs.Firsts.{each_at, first_at}
use Rattle.block_content.specs.ContentReading.{chunks_at, list_of, first_outside, repeated_in, fitted, chunked_at}
use Rattle.block_content.proofs.ChunkWalks.{SeriesStopped}
use Rattle.block_content.proofs.ContentSteps.{chunks_refused, times_refused, order_refused, all_read}
use Rattle.block_content.specs.Named.{names_few}
use Rattle.block_content.specs.ReadBytes.{reads_few}
use Rattle.block_content.specs.CheckReading.{has_series, some_at, found_at, IsFirstFound, HaveCounts}
use Rattle.label_sets.specs.declared.sample.Sample.{Sample}
use Rattle.block_content.specs.declared.check_refusal.CheckRefusal.{CheckRefusal}
use Rattle.block_content.specs.declared.check_refusal.CheckRefusal.TheVariants.{EmptyBlock, OutsideRange, Repeated, NamesTooMuch, NoMemory}

has_some : (indexed : List IndexSeries) → (indexed ≡ [] → ⊥) → has_series indexed ≡ true
has_some [] some = absurd (some refl)
has_some (one ∷ indexed) some = refl

told_so : {A B : Type 0} (d e : CheckRefusal) → ◌≡◌ {A = Result A CheckRefusal} (Err d) (Err e) → ◌≡◌ {A = Result B CheckRefusal} (Err d) (Err e)
told_so {A} {B} d e h = ap (λ (c : CheckRefusal). Err c) (err_is {A = A} d e h)

module _ (meta : Meta) (segments : List (List ℕ)) (indexed : List IndexSeries) (parts : List (List (List Sample))) (all_parts : each_at (chunks_at segments) indexed ≡ Ok parts) where
  pub refused_by : (outside : Option (ℕ × ℤ)) (repeated : Option ℕ) → IsFirstFound (first_at (first_outside meta) (list_of indexed parts)) outside
      → MatchOption repeated (first_at repeated_in indexed ≡ None) (λ found. (place : ℕ) × (first_at repeated_in indexed ≡ Some (place, tt)) × (found ≡ fitted place)) → (e : CheckRefusal) → found_at outside repeated ≡ Err e → chunked_at meta segments indexed ≡ Err e
  refused_by (Some told) repeated (place, found, is) order e h = times_refused meta segments indexed parts all_parts place told.0 told.1 found is ∙ told_so {B = List Series} (OutsideRange told.0 told.1) e h
  refused_by None (Some series) none (place, found, is) e h = order_refused meta segments indexed parts all_parts place series none found is ∙ told_so {B = List Series} (Repeated series) e h
  refused_by None None none none' e h = absurd cc

  pub passed_by : (outside : Option (ℕ × ℤ)) (repeated : Option ℕ) → IsFirstFound (first_at (first_outside meta) (list_of indexed parts)) outside
      → MatchOption repeated (first_at repeated_in indexed ≡ None) (λ found. (place : ℕ) × (first_at repeated_in indexed ≡ Some (place, tt)) × (found ≡ fitted place)) → found_at outside repeated ≡ Ok tt → chunked_at meta segments indexed ≡ Ok (list_of indexed parts)
  passed_by (Some told) repeated times order h = absurd cc
  passed_by None (Some series) none order h = absurd cc
  passed_by None None none none' h = all_read meta segments indexed parts all_parts none none'

-- what follows on the content: the test that it names little
abbrev pub few_then : List ℕ → List (List ℕ) → List IndexSeries → List Series → Result (List Series) CheckRefusal
few_then index segments indexed list = unless (names_few index segments indexed) NamesTooMuch >> Ok list

module _ (meta : Meta) (index : List ℕ) (segments : List (List ℕ)) (indexed : List IndexSeries) where
  pub empty_stopped : indexed ≡ [] → some_at meta index segments indexed ≡ Err EmptyBlock
  unfolding some_at
  empty_stopped none = let empty : has_series indexed ≡ false = ap has_series none in rw empty refl

  pub read_much : (indexed ≡ [] → ⊥) → reads_few segments indexed ≡ false → some_at meta index segments indexed ≡ Err NamesTooMuch
  unfolding some_at
  read_much some much = rw (has_some indexed some, much) refl

  chunks_follow : (indexed ≡ [] → ⊥) → reads_few segments indexed ≡ true → some_at meta index segments indexed ≡ (chunked_at meta segments indexed >>= few_then index segments indexed)
  unfolding some_at
  chunks_follow some few = rw (has_some indexed some, few) refl

  behind_chunks : (indexed ≡ [] → ⊥) → reads_few segments indexed ≡ true → (r : Result (List Series) CheckRefusal) → chunked_at meta segments indexed ≡ r → some_at meta index segments indexed ≡ (r >>= few_then index segments indexed)
  behind_chunks some few r e = chunks_follow some few ∙ ap (λ (read : Result (List Series) CheckRefusal). read >>= few_then index segments indexed) e

  chunks_stopped : (e : CheckRefusal) → (indexed ≡ [] → ⊥) → reads_few segments indexed ≡ true → (e ≡ NoMemory) ⊎ (chunked_at meta segments indexed ≡ Err e) → (e ≡ NoMemory) ⊎ (some_at meta index segments indexed ≡ Err e)
  chunks_stopped e some few (inl none) = inl none
  chunks_stopped e some few (inr h) = inr (behind_chunks some few (Err e) h)

  pub counts_refused : (indexed ≡ [] → ⊥) → reads_few segments indexed ≡ true → (e : CheckRefusal) → SeriesStopped segments indexed e → (e ≡ NoMemory) ⊎ (some_at meta index segments indexed ≡ Err e)
  counts_refused some few e stopped = chunks_stopped e some few (chunks_refused meta segments indexed e stopped)

  module _ (some : indexed ≡ [] → ⊥) (reads : reads_few segments indexed ≡ true) (samples : ℕ) (outside : Option (ℕ × ℤ)) (repeated : Option ℕ)
      (counted : (parts : List (List (List Sample))) × (each_at (chunks_at segments) indexed ≡ Ok parts) × ((samples ≡ sample_count (list_of indexed parts)) × IsFirstFound (first_at (first_outside meta) (list_of indexed parts)) outside))
      (order : MatchOption repeated (first_at repeated_in indexed ≡ None) (λ found. (place : ℕ) × (first_at repeated_in indexed ≡ Some (place, tt)) × (found ≡ fitted place))) where
    pub found_refused : (e : CheckRefusal) → found_at outside repeated ≡ Err e → some_at meta index segments indexed ≡ Err e
    found_refused e h = behind_chunks some reads (Err e) (refused_by meta segments indexed counted.0 counted.1 outside repeated counted.2.1 order e h)

    all_found : found_at outside repeated ≡ Ok tt → some_at meta index segments indexed ≡ few_then index segments indexed (list_of indexed counted.0)
    all_found h = behind_chunks some reads (Ok (list_of indexed counted.0)) (passed_by meta segments indexed counted.0 counted.1 outside repeated counted.2.1 order h)

    pub found_much : found_at outside repeated ≡ Ok tt → names_few index segments indexed ≡ false → some_at meta index segments indexed ≡ Err NamesTooMuch
    found_much h much = all_found h ∙ ap (λ (b : Bool). unless b NamesTooMuch >> Ok (list_of indexed counted.0)) much

    pub found_passed : (series : ℕ) → found_at outside repeated ≡ Ok tt → names_few index segments indexed ≡ true → series ≡ length indexed → HaveCounts (some_at meta index segments indexed) (series, samples)
    found_passed series h few many = (
      list_of indexed counted.0,
      all_found h ∙ ap (λ (b : Bool). unless b NamesTooMuch >> Ok (list_of indexed counted.0)) few,
      many ∙ sym (length-list_of indexed counted.0 (each_many (chunks_at segments) indexed counted.0 counted.1)),
      counted.2.0,
    )

-- ---- what the calls say

pub count_stops : (read : Result (List Series) CheckRefusal) (r : Result (ℕ × ℕ) CheckRefusal) (e : CheckRefusal) → IsErrAnd r (λ d. d ≡ e) → (e ≡ NoMemory) ⊎ (read ≡ Err e) → MatchResult r (HaveCounts read) (λ d. (d ≡ NoMemory) ⊎ (read ≡ Err d))
count_stops read (Ok counts) e is why = absurd is
count_stops read (Err d) e is why = subst (λ (c : CheckRefusal). (c ≡ NoMemory) ⊎ (read ≡ Err c)) (sym is) why

-- a list is empty exactly where its length is nothing
pub no_members : (indexed : List IndexSeries) (b : Bool) → b ≡ (length indexed == 0) → b ≡ true → indexed ≡ []
no_members [] b is yes' = refl
no_members (one ∷ indexed) b is yes' = let none : suc (length indexed) ≡ 0 = (Decides-eqb (suc (length indexed)) 0).0 (sym is ∙ yes') in absurd (omega (arith, none))

pub some_members : (indexed : List IndexSeries) (b : Bool) → b ≡ (length indexed == 0) → b ≡ false → indexed ≡ [] → ⊥
some_members indexed b is no' none =
    let empty : (length indexed == 0) ≡ true = (Decides-eqb (length indexed) 0).1 (ap length none) in
    true≢false (sym empty ∙ sym is ∙ no')
