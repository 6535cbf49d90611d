-- A block without the segments that its index does not name holds the same.
use Rattle.std.proofs.Common.{◌≡◌, inl, inr, ℕ, ◌<◌, List, [], ◌∷◌, length, Contains, Option, Some, Ok, nat_le, sym, ◌∙◌, ap, subst, arith}
use Rattle.std.specs.Prelude.{slice_get}
use Rattle.std.specs.List.{AllByRecursion, AllZip}
use Rattle.std.proofs.lemmas.Option.{slice_get_cases}
use Rattle.base.proofs.Membership.{contains_first, contains_later}
use Rattle.label_sets.specs.declared.sample.Sample.{Sample}
use Rattle.label_sets.specs.declared.series.Series.{Series}
use Rattle.index_parts.specs.declared.chunk_place.ChunkPlace.{ChunkPlace}
use Rattle.index_parts.specs.IndexFile.{IsIndex}
use Rattle.index_parts.specs.declared.index_series.IndexSeries.{IndexSeries}
use Rattle.block_meta.specs.declared.meta.Meta.{Meta}
use Rattle.block_meta.specs.declared.block_files.BlockFiles.{BlockFiles}
use Rattle.block_content.specs.Content.{AreWithin, HoldsSeries, IsChunkOf, IsContent, StandsAt}
use Rattle.block_content.specs.ContentReading.{index_at}
use Rattle.block_content.proofs.TimesAndOrder.{index_again}
use Rattle.block_merging.specs.PutContent.{AreBytes}
use Rattle.compactor.specs.Named.{last_named, named_by, named_segments}
use Rattle.compactor.proofs.LastNamed.{few_is, chunk_named}

-- ---- fewer segments

module _ (all few : List (List ℕ)) (of_all : (place : ℕ) (bytes : List ℕ) → slice_get few place ≡ Some bytes → slice_get all place ≡ Some bytes) where
  stands_few : (place : ChunkPlace) (content : List ℕ) → place.segment < length few → StandsAt all place content → StandsAt few place content
  stands_few place content below s = elim (slice_get_cases few place.segment).1 [
    | inl c ↦
        let both : ◌≡◌ {A = Option (List ℕ)} (Some c.0) (Some s.segment) = sym (of_all place.segment c.0 c.2) ∙ s.named in
        let same : c.0 ≡ s.segment = cc (both) in
        record { segment = s.segment; named = c.2 ∙ ap (λ (x : List ℕ). Some x) same; stands = s.stands }
    | inr c ↦ absurd (omega (arith, below, c.0))
  ]

  chunks_few : (chunks : List ChunkPlace) (parts : List (List Sample)) → ((place : ChunkPlace) → Contains chunks place → place.segment < length few) → AllZip (IsChunkOf all) chunks parts → AllZip (IsChunkOf few) chunks parts
  chunks_few [] [] below are = tt
  chunks_few [] (p ∷ parts) below are = absurd are
  chunks_few (c ∷ chunks) [] below are = absurd are
  chunks_few (c ∷ chunks) (p ∷ parts) below are = (
    record { content = are.0.content; stands = stands_few c are.0.content (below c (contains_first c chunks)) are.0.stands; reads = are.0.reads; timed = are.0.timed },
    chunks_few chunks parts (λ place among. below place (contains_later c place chunks among)) are.1,
  )

  series_few : (indexed : List IndexSeries) (list : List Series) → ((one : IndexSeries) (place : ChunkPlace) → Contains indexed one → Contains one.chunks place → place.segment < length few) → AllZip (HoldsSeries all) indexed list
      → AllZip (HoldsSeries few) indexed list
  series_few [] [] below are = tt
  series_few [] (s ∷ list) below are = absurd are
  series_few (i ∷ indexed) [] below are = absurd are
  series_few (i ∷ indexed) (s ∷ list) below are = (
    record {
      parts = are.0.parts;
      chunks_are = chunks_few i.chunks are.0.parts (λ place among. below i place (contains_first i indexed) among) are.0.chunks_are;
      labels_are = are.0.labels_are;
      samples_are = are.0.samples_are;
    },
    series_few indexed list (λ one place among inside. below one place (contains_later i one indexed among) inside) are.1,
  )

-- A block of the same meta and index, with as many of the segments as the index names, holds the same.
pub named_content : (files block : BlockFiles) (list : List Series) → block.meta ≡ files.meta → block.index ≡ files.index → AreBytes files → named_segments files.index ≡ Some (length block.segments)
    → ((place : ℕ) (bytes : List ℕ) → slice_get block.segments place ≡ Some bytes → slice_get files.segments place ≡ Some bytes) → IsContent files list → IsContent block list
named_content files block list metas indexes bytes named of_all content =
    let read : index_at files.index ≡ Ok content.indexed = index_again files.index content.indexed bytes.index content.index_is in
    let told : named_by (Ok content.indexed) ≡ Some (length block.segments) = ap named_by (sym read) ∙ named in
    let count : last_named content.indexed ≡ length block.segments = few_is (nat_le (last_named content.indexed) 999_999) (last_named content.indexed) (length block.segments) told in
    record {
      indexed = content.indexed;
      index_is = subst (λ (b : List ℕ). IsIndex b content.indexed) (sym indexes) content.index_is;
      series_are = series_few files.segments block.segments of_all content.indexed list (λ one place among inside. below (chunk_named content.indexed one place among inside) count) content.series_are;
      within = subst (λ (m : Meta). AllByRecursion (AreWithin m) list) (sym metas) content.within;
      apart = content.apart;
    }
  where
    below : {n m k : ℕ} → n < m → m ≡ k → n < k
    below lt is = omega (arith, lt, is)
