-- The index of a block with content names segments, and none that the block has not.
use Rattle.std.proofs.Common.{◌≡◌, ℕ, ◌<◌, ◌≤◌, true, max, fold, List, [], ◌∷◌, ◌++◌, length, map, Some, Ok, sym, ◌∙◌, ap, subst, arith}
use Rattle.std.specs.Prelude.{nat_le}
use Rattle.std.specs.List.{AllZip, flat_map}
use Rattle.std.proofs.lemmas.Bool.{le-leb}
use Rattle.std.proofs.lemmas.List.{map-append}
use Rattle.std.proofs.lemmas.List.Sums.{fold-append}
use Rattle.std.proofs.lemmas.Option.{slice_get_within}
use Rattle.block_merging.specs.PutContent.{AreBytes}
use Rattle.block_content.specs.Content.{HoldsSeries, IsChunkOf, IsContent}
use Rattle.block_content.specs.ContentReading.{index_at}
use Rattle.block_content.proofs.TimesAndOrder.{index_again}
use Rattle.block_meta.specs.declared.block_files.BlockFiles.{BlockFiles}
use Rattle.index_parts.specs.declared.index_series.IndexSeries.{IndexSeries}
use Rattle.index_parts.specs.declared.chunk_place.ChunkPlace.{ChunkPlace}
use Rattle.label_sets.specs.declared.sample.Sample.{Sample}
use Rattle.label_sets.specs.declared.series.Series.{Series}
use Rattle.compactor.specs.Named.{if_few, last_named, named_by, named_segments, segment_number}
use Rattle.compactor.proofs.LastNamed.{few_is}

chunks_within : (segments : List (List ℕ)) (chunks : List ChunkPlace) (parts : List (List Sample)) → AllZip (IsChunkOf segments) chunks parts → (before : ℕ) → before ≤ length segments → fold max before (map segment_number chunks) ≤ length segments
chunks_within segments [] [] all before low = low
chunks_within segments [] (p ∷ parts) all before low = low
chunks_within segments (c ∷ chunks) [] all before low = absurd all
chunks_within segments (c ∷ chunks) (p ∷ parts) all before low =
    let here : c.segment < length segments = slice_get_within segments c.segment all.0.stands.segment all.0.stands.named in
    chunks_within segments chunks parts all.1 (max before (segment_number c)) (omega (arith, low, here))

all_within : (segments : List (List ℕ)) (indexed : List IndexSeries) (list : List Series) → AllZip (HoldsSeries segments) indexed list → (before : ℕ) → before ≤ length segments
    → fold max before (map segment_number (flat_map (λ (one : IndexSeries). one.chunks) indexed)) ≤ length segments
all_within segments [] [] all before low = low
all_within segments [] (s ∷ list) all before low = low
all_within segments (i ∷ indexed) [] all before low = absurd all
all_within segments (i ∷ indexed) (s ∷ list) all before low =
    let places : List ChunkPlace = flat_map (λ (one : IndexSeries). one.chunks) indexed in
    let numbers : map segment_number (i.chunks ++ places) ≡ map segment_number i.chunks ++ map segment_number places = map-append segment_number i.chunks places in
    subst (λ (ns : List ℕ). fold max before ns ≤ length segments) (sym numbers)
    (subst (λ (n : ℕ). n ≤ length segments) (sym (fold-append max before (map segment_number i.chunks) (map segment_number places)))
    (all_within segments indexed list all.1 (fold max before (map segment_number i.chunks)) (chunks_within segments i.chunks all.0.parts all.0.chunks_are before low)))

pub named_some : (files : BlockFiles) (list : List Series) → IsContent files list → AreBytes files → length files.segments ≤ 999_999 → (count : ℕ) × (named_segments files.index ≡ Some count)
named_some files list content bytes few =
    let read : index_at files.index ≡ Ok content.indexed = index_again files.index content.indexed bytes.index content.index_is in
    let low = all_within files.segments content.indexed list content.series_are 0 (omega arith) in
    let test : nat_le (last_named content.indexed) 999_999 ≡ true = le-leb (last_named content.indexed) 999_999 (omega (arith, low, few)) in
    (last_named content.indexed, ap named_by read ∙ ap (λ b. if_few b (last_named content.indexed)) test)

-- no more than the block has
pub named_within : (files : BlockFiles) (list : List Series) → IsContent files list → AreBytes files → (count : ℕ) → named_segments files.index ≡ Some count → count ≤ length files.segments
named_within files list content bytes count is =
    let read : index_at files.index ≡ Ok content.indexed = index_again files.index content.indexed bytes.index content.index_is in
    let told : named_by (Ok content.indexed) ≡ Some count = ap named_by (sym read) ∙ is in
    let same = few_is (nat_le (last_named content.indexed) 999_999) (last_named content.indexed) count told in
    let low = all_within files.segments content.indexed list content.series_are 0 (omega arith) in
    omega (arith, low, same)
