-- The parts of an index: how many places there are, and that the text only grows.
use Rattle.std.proofs.Common.{◌≡◌, ℕ, suc, ◌+◌, ◌≤◌, subst, List, length, map, Err, sym, ap, ◌∙◌, arith}
use Rattle.std.proofs.lemmas.List.{length-map}
use Rattle.index_parts.specs.Postings.{postings_text}
use Rattle.index_parts.specs.Turns.{InOrder}
use Rattle.index_parts.specs.SeriesEntry.{StartsAfter}
use Rattle.index_parts.specs.declared.raw_series.RawSeries.{RawSeries}
use Rattle.label_sets.specs.Labels.{compare_texts}
use Rattle.std.specs.List.{AllByRecursion}
use Rattle.std.specs.List.Sorted.{IsStrictlySortedBy}
use Rattle.index_parts.specs.declared.index_series.IndexSeries.{IndexSeries}
use Rattle.index_writing.specs.declared.label_groups.LabelRow.{LabelRow}
use Rattle.index_writing.specs.declared.label_groups.NameValues.{NameValues}
use Rattle.index_writing.specs.declared.parts.Parts.{Parts}
use Rattle.index_writing.specs.SymbolsInUse.{symbols_of, raw_of}
use Rattle.index_writing.specs.Aligned.{each_at}
use Rattle.index_writing.specs.WriteSteps.{greatest, Makes, IsStorable}
use Rattle.index_writing.specs.declared.write_refusal.IndexWriteRefusal.{IndexWriteRefusal}
use Rattle.index_writing.specs.Written.{AreWritable, HaveSmallNumbers, up_to_symbols, numbers_behind, label_index_texts, list_texts, with_series, with_label_indices, with_lists, label_index_places, list_places, parts_of, written}
use Rattle.base.proofs.Lists.{AllByRecursion-map}
use Rattle.index_writing.proofs.AlignedTexts.{places_many}
use Rattle.index_writing.proofs.Standing.{longer}
use Rattle.index_writing.proofs.WrittenIndex.{series_symbols, written_lists}
use Rattle.index_writing.proofs.SortedTexts.{symbols_strict}
use Rattle.index_writing.proofs.SmallNumbers.{parts_small}

pub as_many_indices : (parts : Parts) → length (label_index_places parts) ≡ length parts.names
unfolding label_index_places
as_many_indices _ = places_many 4 _ _ ∙ length-map _ _

pub as_many_lists : (parts : Parts) → length (list_places parts) ≡ length parts.rows + 1
unfolding list_places
as_many_lists parts =
    let lists = ap suc (length-map parts.rows (λ (row : LabelRow). postings_text row.series)) in
    omega (arith, places_many 4 (with_label_indices parts) (list_texts parts.numbers parts.rows), lists)

pub lists_written : (list : List IndexSeries) (parts : Parts) → parts ≡ parts_of list → length (with_lists parts) ≤ length (written list)
lists_written list _ is = omega (arith, ap (λ p. length (with_lists p)) is, longer (written_lists list))

pub end_is : (list : List IndexSeries) (parts : Parts) → parts ≡ parts_of list → parts.symbols_end ≡ length (up_to_symbols parts.symbols)
unfolding parts_of
end_is _ _ is = ap (λ p. p.symbols_end) is ∙ ap (λ p. length (up_to_symbols p.symbols)) (sym is)

-- ---- what is asked of series

raws_storable : (symbols : List (List ℕ)) (list : List IndexSeries) → AllByRecursion (λ series. InOrder StartsAfter series.chunks) list → AllByRecursion IsStorable (map (raw_of symbols) list)
unfolding raw_of
raws_storable symbols list all = AllByRecursion-map _ _ _ (λ series ordered. (length-map _ _ ∙ sym (length-map _ _), ordered)) list all

pub storable : (symbols : List (List ℕ)) (list : List IndexSeries) (series : List RawSeries) → AreWritable list → series ≡ map (raw_of symbols) list → AllByRecursion IsStorable series
storable _ _ _ lawful is = subst (AllByRecursion IsStorable) (sym is) (raws_storable _ _ lawful.chunks)

pub as_many_numbers : (before : List ℕ) (series : List RawSeries) (numbers : List ℕ) → numbers ≡ numbers_behind before series → length series ≡ length numbers
as_many_numbers _ _ _ is =
    sym (ap length is ∙ length-map _ _ ∙ places_many _ _ _ ∙ length-map _ _)

pub strict_as : (list : List IndexSeries) (symbols members : List (List ℕ)) → symbols ≡ symbols_of list → members ≡ symbols → IsStrictlySortedBy compare_texts members
strict_as list symbols members is same = subst (λ (l : List (List ℕ)). IsStrictlySortedBy compare_texts l) (sym (same ∙ is)) (symbols_strict list)

pub small_as : (list : List IndexSeries) (parts : Parts) → parts ≡ parts_of list → length (with_series (parts_of list)) ≤ greatest → HaveSmallNumbers parts
small_as list parts is room = subst HaveSmallNumbers (sym is) (parts_small _ room)

pub indices_as : (parts : Parts) (out new : List ℕ) (names : List NameValues) (e : IndexWriteRefusal) → out ≡ with_series parts → names ≡ parts.names → Makes {A = List ℕ} (Err e) new (each_at 4 out (label_index_texts names)) → Makes {A = List ℕ} (Err e) new (with_label_indices parts)
unfolding with_label_indices
indices_as parts _ new names e so_far same makes =
    let is = ap (λ l. each_at 4 l (label_index_texts names)) so_far ∙ ap (λ l. each_at 4 (with_series parts) (label_index_texts l)) same in
    subst (λ l. Makes {A = List ℕ} (Err e) new l) is makes

pub front_as : (list : List IndexSeries) (symbols : List (List ℕ)) → symbols ≡ symbols_of list → length (up_to_symbols symbols) ≤ length (with_series (parts_of list))
front_as list _ is = omega (arith, longer (series_symbols list), ap (λ l. length (up_to_symbols l)) is)
