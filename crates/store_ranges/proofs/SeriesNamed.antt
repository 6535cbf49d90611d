-- A series that is read in a part of an index, by the symbol numbers that stand there.
use Rattle.std.proofs.Common.{◌≡◌, ℕ, ◌+◌, ◌-◌, ◌*◌, ◌^◌, ◌<◌, ◌≤◌, List, [], length, Option, Some, None, Result, Ok, Err, refl, sym, ap, ap₂, ◌∙◌, arith}
use Rattle.std.specs.Prelude.{IsErr, IfOk, option_map}
use Rattle.std.specs.Result.{result_ok}
use Rattle.base.specs.declared.memory.NoMemory.{NoMemory}
use Rattle.base.specs.Reading.{◌>>=◌, refused_as}
use Rattle.base.proofs.Binds.{by_result}
use Rattle.label_sets.specs.declared.label.Label.{Label}
use Rattle.index_parts.specs.declared.chunk_place.ChunkPlace.{ChunkPlace}
use Rattle.index_parts.specs.declared.raw_series.RawSeries.{RawSeries}
use Rattle.index_parts.specs.SeriesReading.{series_at}
use Rattle.index_parts.specs.declared.index_series.IndexSeries.{IndexSeries}
use Rattle.index_parts.specs.Parts.{Part, known}
use Rattle.index_parts.proofs.Slices.{IsTold}
use Rattle.index_v2.specs.Opening.{refused_of}
use Rattle.index_v2.specs.SeriesLabels.{labels_of, all_unplaced, labelled_at, numbered_at}
use Rattle.index_v2.proofs.LabelledSeries.{StandsRaw, labelled_parts, raw_stands}
use Rattle.index_v2.proofs.Unplaced.{labels_alike}
use Rattle.index_v2.proofs.SeriesSlices.{series_known_told, number_found}
use Rattle.store_ranges.specs.Findings.{ReadsAs}
use Rattle.store_ranges.proofs.Readings.{err_of, is_err}

abbrev with_chunks : List ChunkPlace → List Label → IndexSeries
with_chunks chunks labels = record { labels = labels; chunks = chunks }

some_same : (one other : IndexSeries) → Some one ≡ Some other → other ≡ one
some_same one other same = cc (same)

-- the labels that are read, with chunks
abbrev joined_to : {E : Type 0} → List ChunkPlace → Result (List Label) E → Result IndexSeries E
joined_to chunks r = r >>= λ labels. Ok (with_chunks chunks labels)

joined : {E : Type 0} (r : Result (List Label) E) (chunks : List ChunkPlace) (one : IndexSeries) → Some one ≡ option_map (with_chunks chunks) (result_ok r) → joined_to chunks r ≡ Ok one
joined (Ok labels) chunks one some = ap Ok (some_same one (with_chunks chunks labels) some)
joined (Err fault) chunks one some = absurd (cc (some))

not_joined : {E : Type 0} (r : Result (List Label) E) (chunks : List ChunkPlace) → None ≡ option_map (with_chunks chunks) (result_ok r) → IsErr (joined_to chunks r)
not_joined (Ok labels) chunks none = absurd (cc (none))
not_joined (Err fault) chunks none = refl

module _ (bytes : List ℕ) (symbols : List (List ℕ)) (at : ℕ) where
  module _ (raw : RawSeries) (is : series_at bytes at ≡ Ok raw) where
    placed : StandsRaw bytes symbols at raw
    placed = raw_stands bytes symbols at raw is

    texts_same : option_map (with_chunks raw.chunks) (result_ok (labels_of symbols [] (all_unplaced raw.names raw.values))) ≡ option_map (with_chunks raw.chunks) (result_ok (labels_of symbols [] placed.raws))
    texts_same =
        ap₂ (λ (names values : List ℕ). option_map (with_chunks raw.chunks) (result_ok (labels_of symbols [] (all_unplaced names values)))) (sym placed.names_are) (sym placed.values_are)
        ∙ ap (option_map (with_chunks raw.chunks)) (labels_alike symbols [] placed.raws)

    labelled : (one : IndexSeries) → Some one ≡ option_map (with_chunks raw.chunks) (result_ok (labels_of symbols [] (all_unplaced raw.names raw.values))) → labelled_at bytes symbols at ≡ Ok one
    labelled one named = placed.read_is ∙ joined (labels_of symbols [] placed.raws) raw.chunks one (named ∙ texts_same)

    not_labelled : None ≡ option_map (with_chunks raw.chunks) (result_ok (labels_of symbols [] (all_unplaced raw.names raw.values))) → IsErr (labelled_at bytes symbols at)
    not_labelled none = rw placed.read_is (not_joined (labels_of symbols [] placed.raws) raw.chunks (none ∙ texts_same))

  not_read : IsErr (series_at bytes at) → IsErr (labelled_at bytes symbols at)
  not_read refused = by_result (labelled_at bytes symbols at) (λ one read. absurd (let e = err_of (series_at bytes at) refused in let no = sym e.1 ∙ (labelled_parts bytes symbols at one read).stands in cc)) (λ e is. is_err (labelled_at bytes symbols at) e is)

module _ (here : Part) (symbols : List (List ℕ)) (number : ℕ) (begins : here.begin ≤ 16 * number) (small : number < 2 ^ 32) (fits : here.begin + length here.bytes < 2 ^ 64) where
  told : IsTold here.begin (labelled_at here.bytes symbols (16 * number - here.begin)) (labelled_at (known here) symbols (16 * number))
  told = series_known_told here symbols (16 * number) begins (omega (arith, small)) fits

  refused : IsErr (labelled_at here.bytes symbols (16 * number - here.begin)) → IsErr (numbered_at (known here) symbols number)
  refused is =
      let e = err_of (labelled_at here.bytes symbols (16 * number - here.begin)) is in
      is_err (numbered_at (known here) symbols number) _ (ap (refused_as (refused_of number)) (told.refused e.0 e.1))

  pub series_refused : IsErr (series_at here.bytes (16 * number - here.begin)) → IsErr (numbered_at (known here) symbols number)
  series_refused is = refused (not_read here.bytes symbols (16 * number - here.begin) is)

  pub series_named : (raw : RawSeries) → series_at here.bytes (16 * number - here.begin) ≡ Ok raw → (r : Result (Option IndexSeries) NoMemory)
      → IfOk r (λ found. found ≡ option_map (with_chunks raw.chunks) (result_ok (labels_of symbols [] (all_unplaced raw.names raw.values)))) → IfOk r (ReadsAs (λ (one : IndexSeries). one) (numbered_at (known here) symbols number))
  series_named raw is (Ok (Some one)) named =
      number_found number here.begin _ _ told one (labelled here.bytes symbols (16 * number - here.begin) raw is one named)
  series_named raw is (Ok None) named = refused (not_labelled here.bytes symbols (16 * number - here.begin) raw is named)
  series_named raw is (Err none) named = tt
