-- A block as it was read, with the segments that its index names, holds what the block holds.
use Rattle.base.proofs.Membership.{contains_first, contains_later}
use Rattle.std.proofs.Common.{◌≡◌, ℕ, ◌<◌, List, [], ◌∷◌, Contains, Some, Ok, sym, ◌∙◌, ap, subst}
use Rattle.std.specs.Prelude.{nat_le, slice_get}
use Rattle.std.specs.List.{AllByRecursion, AllZip}
use Rattle.block_meta.specs.MetaFields.{fields_of}
use Rattle.block_meta.specs.declared.meta.Meta.{Meta}
use Rattle.block_meta.proofs.SameMetas.{same_meta}
use Rattle.block_merging.specs.PutContent.{AreBytes}
use Rattle.block_content.specs.Content.{AreWithin, HoldsSeries, IsChunkOf, IsContent}
use Rattle.block_content.specs.ContentReading.{index_at}
use Rattle.block_content.proofs.TimesAndOrder.{index_again}
use Rattle.block_meta.specs.declared.block_files.BlockFiles.{BlockFiles}
use Rattle.index_parts.specs.IndexFile.{IsIndex}
use Rattle.index_parts.specs.declared.index_series.IndexSeries.{IndexSeries}
use Rattle.index_parts.specs.declared.chunk_place.ChunkPlace.{ChunkPlace}
use Rattle.label_sets.specs.declared.sample.Sample.{Sample}
use Rattle.label_sets.specs.declared.series.Series.{Series}
use Rattle.compactor.specs.Named.{last_named, named_by, named_segments}
use Rattle.compactor.proofs.LastNamed.{few_is, chunk_named}

-- ---- the segments that an index names

-- where an index names so many segments, its chunks stand in these
pub named_last : (files : BlockFiles) (list : List Series) (content : IsContent files list) → AreBytes files → (count : ℕ) → named_segments files.index ≡ Some count → last_named content.indexed ≡ count
named_last files list content bytes count is =
    let read : index_at files.index ≡ Ok content.indexed = index_again files.index content.indexed bytes.index content.index_is in
    let told : named_by (Ok content.indexed) ≡ Some count = ap named_by (sym read) ∙ is in
    few_is (nat_le (last_named content.indexed) 999_999) (last_named content.indexed) count told

-- ---- the content

module _ (whole segments : List (List ℕ)) (n : ℕ) (there : (place : ℕ) → place < n → (s : List ℕ) × (slice_get segments place ≡ Some s) × (slice_get whole place ≡ Some s)) where
  chunk_again : (c : ChunkPlace) (samples : List Sample) → c.segment < n → IsChunkOf whole c samples → IsChunkOf segments c samples
  chunk_again c samples low is =
      let t = there c.segment low in
      let both : Some t.0 ≡ Some is.stands.segment = sym t.2 ∙ is.stands.named in
      let same : t.0 ≡ is.stands.segment = cc (both) in
      record {
        content = is.content;
        stands = record { segment = is.stands.segment; named = t.1 ∙ ap (λ (s : List ℕ). Some s) same; stands = is.stands.stands };
        reads = is.reads;
        timed = is.timed;
      }

  chunks_again : (chunks : List ChunkPlace) (parts : List (List Sample)) → ((c : ChunkPlace) → Contains chunks c → c.segment < n) → AllZip (IsChunkOf whole) chunks parts → AllZip (IsChunkOf segments) chunks parts
  chunks_again [] [] low all = tt
  chunks_again [] (p ∷ parts) low all = absurd all
  chunks_again (c ∷ chunks) [] low all = absurd all
  chunks_again (c ∷ chunks) (p ∷ parts) low all = (chunk_again c p (low c (contains_first c chunks)) all.0, chunks_again chunks parts (λ x among. low x (contains_later c x chunks among)) all.1)

  series_again : (indexed : List IndexSeries) (list : List Series) → ((s : IndexSeries) (c : ChunkPlace) → Contains indexed s → Contains s.chunks c → c.segment < n) → AllZip (HoldsSeries whole) indexed list → AllZip (HoldsSeries segments) indexed list
  series_again [] [] low all = tt
  series_again [] (s ∷ list) low all = absurd all
  series_again (i ∷ indexed) [] low all = absurd all
  series_again (i ∷ indexed) (s ∷ list) low all = (
    record {
      parts = all.0.parts;
      chunks_are = chunks_again i.chunks all.0.parts (λ c own. low i c (contains_first i indexed) own) all.0.chunks_are;
      labels_are = all.0.labels_are;
      samples_are = all.0.samples_are;
    },
    series_again indexed list (λ x c among own. low x c (contains_later i x indexed among) own) all.1,
  )

pub read_content : (files block : BlockFiles) (list : List Series) (content : IsContent files list) → fields_of block.meta ≡ fields_of files.meta → block.index ≡ files.index
    → ((place : ℕ) → place < last_named content.indexed → (s : List ℕ) × (slice_get block.segments place ≡ Some s) × (slice_get files.segments place ≡ Some s)) → IsContent block list
read_content files block list content fields index there = record {
  indexed = content.indexed;
  index_is = subst (λ (i : List ℕ). IsIndex i content.indexed) (sym index) content.index_is;
  series_are = series_again files.segments block.segments (last_named content.indexed) there content.indexed list (chunk_named content.indexed) content.series_are;
  within = subst (λ (m : Meta). AllByRecursion (AreWithin m) list) (sym (same_meta block.meta files.meta fields)) content.within;
  apart = content.apart;
}
