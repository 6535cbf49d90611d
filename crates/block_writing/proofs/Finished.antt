-- What a writer holds when no chunk is left over is a block's index and segments.
use Rattle.std.proofs.Common.{◌≡◌, ◌⊎◌, ℕ, ◌<◌, ◌≤◌, List, [], ◌∷◌, ◌++◌, length, map, Result, Ok, Err, refl, sym, ap, subst, ◌∙◌, inl, inr, arith, ℤ}
use Rattle.std.specs.Prelude.{IfOk}
use Rattle.std.specs.List.{flat_map, AllZip}
use Rattle.std.proofs.lemmas.List.{map-append, length-map, append-nil}
use Rattle.block_meta.specs.declared.block_plan.BlockPlan.{BlockPlan}
use Rattle.index_parts.specs.declared.chunk_place.ChunkPlace.{ChunkPlace}
use Rattle.index_parts.specs.declared.index_series.IndexSeries.{IndexSeries}
use Rattle.index_parts.specs.IndexFile.{IsIndex}
use Rattle.index_writing.specs.Written.{written}
use Rattle.index_writing.specs.WriteSteps.{greatest}
use Rattle.index_writing.specs.declared.write_refusal.IndexWriteRefusal.{IndexWriteRefusal}
use Rattle.index_writing.specs.declared.write_refusal.IndexWriteRefusal.TheVariants as index
use Rattle.block_meta.specs.MetaFields.{fields_of}
use Rattle.block_writing.specs.declared.counts.Counts.{Counts}
use Rattle.block_writing.specs.Segments.{AreSegments}
use Rattle.block_writing.specs.Standing.{content_at}
use Rattle.block_writing.specs.Put.{PutChunk, Put, contents_of, fitted}
use Rattle.block_writing.specs.Writing.{plan_fields, part_of, chunk_in, series_in, put_in, all_places, IsWriting}
use Rattle.block_writing.specs.Files.{place_times, put_times, IsListed, places_in, HaveNoIndex}
use Rattle.block_writing.specs.WrittenMeta.{counts_of, meta_with, IsWritten}
use Rattle.block_writing.specs.Refusals.{build_refusal}
use Rattle.block_writing.proofs.OneText.{one_index}
use Rattle.block_meta.specs.declared.block_files.BlockFiles.{BlockFiles}
use Rattle.block_meta.specs.declared.build_refusal.BuildRefusal.{BuildRefusal}
use Rattle.block_meta.specs.declared.build_refusal.BuildRefusal.TheVariants.{TooLarge, NoMemory}

times_same : (segments : List (List ℕ)) (chunks : List ChunkPlace) → map place_times chunks ≡ map put_times (map (chunk_in segments) chunks)
times_same segments [] = refl
times_same segments (c ∷ chunks) = ap (λ (l : List (ℤ × ℤ)). place_times c ∷ l) (times_same segments chunks)

listed : (segments : List (List ℕ)) (list : List IndexSeries) → AllZip IsListed (map (series_in segments) list) list
listed segments [] = tt
listed segments (s ∷ list) = (record { labels_are = refl; times_are = times_same segments s.chunks }, listed segments list)

chunk_contents : (segments : List (List ℕ)) (chunks : List ChunkPlace) → map (content_at segments) (map part_of chunks) ≡ map (λ (c : PutChunk). c.content) (map (chunk_in segments) chunks)
chunk_contents segments [] = refl
chunk_contents segments (c ∷ chunks) = ap (λ (l : List (List ℕ)). content_at segments (part_of c) ∷ l) (chunk_contents segments chunks)

all_contents : (segments : List (List ℕ)) (list : List IndexSeries) → map (content_at segments) (map part_of (flat_map (λ s. s.chunks) list)) ≡ contents_of (map (series_in segments) list)
all_contents segments [] = refl
all_contents segments (s ∷ list) =
    ap (map (content_at segments)) (map-append part_of s.chunks (flat_map (λ one. one.chunks) list)) ∙ map-append (content_at segments) (map part_of s.chunks) (map part_of (flat_map (λ one. one.chunks) list))
    ∙ ap (λ (l : List (List ℕ)). l ++ map (content_at segments) (map part_of (flat_map (λ one. one.chunks) list))) (chunk_contents segments s.chunks)
    ∙ ap (λ (l : List (List ℕ)). map (λ (c : PutChunk). c.content) (map (chunk_in segments) s.chunks) ++ l) (all_contents segments list)

segments_are_of : (plan : BlockPlan) (segments : List (List ℕ)) (list : List IndexSeries) (counts : Counts) → IsWriting plan segments list [] counts → AreSegments (contents_of (map (series_in segments) list)) (places_in list) segments
segments_are_of plan segments list counts h =
    let all : all_places list [] ≡ flat_map (λ s. s.chunks) list = append-nil (flat_map (λ s. s.chunks) list) in
    let own : AreSegments (map (content_at segments) (map part_of (flat_map (λ s. s.chunks) list))) (places_in list) segments = subst (λ (l : List ChunkPlace). AreSegments (map (content_at segments) (map part_of l)) (map part_of l) segments) all h.segments_are in
    subst (λ (l : List (List ℕ)). AreSegments l (places_in list) segments) (all_contents segments list) own

pub counts_are : (plan : BlockPlan) (segments : List (List ℕ)) (list : List IndexSeries) (counts : Counts) → IsWriting plan segments list [] counts → counts ≡ counts_of (put_in plan segments list [] counts)
counts_are plan segments list counts h =
    let series : counts.series ≡ fitted (length (map (series_in segments) list)) = h.series_counted ∙ ap fitted (sym (length-map list (series_in segments))) in
    let many : length (all_places list []) ≡ length (contents_of (map (series_in segments) list)) =
    ap length (append-nil (flat_map (λ (s : IndexSeries). s.chunks) list)) ∙ sym (length-map (flat_map (λ (s : IndexSeries). s.chunks) list) part_of) ∙ sym (length-map (map part_of (flat_map (λ (s : IndexSeries). s.chunks) list)) (content_at segments)) ∙ ap length (all_contents segments list) in
    let chunks : counts.chunks ≡ fitted (length (contents_of (map (series_in segments) list))) = h.chunks_counted ∙ ap fitted many in
    ap (λ (n : ℕ). record { series = n; samples = counts.samples; chunks = counts.chunks }) series ∙ ap (λ (n : ℕ). record { series = fitted (length (map (series_in segments) list)); samples = counts.samples; chunks = n }) chunks

pub none_left : (segments : List (List ℕ)) (chunks : List ChunkPlace) → map (chunk_in segments) chunks ≡ [] → chunks ≡ []
none_left segments [] e = refl
none_left segments (c ∷ chunks) e = absurd cc

-- ---- what the last call comes to

pub written_is : (plan : BlockPlan) (segments : List (List ℕ)) (list : List IndexSeries) (counts : Counts) (block : BlockFiles) → IsWriting plan segments list [] counts → block.segments ≡ segments → block.index ≡ written list → length (written list) ≤ greatest → IsIndex block.index list
    → fields_of block.meta ≡ meta_with (plan_fields plan) counts block.index block.segments → IsWritten (put_in plan segments list [] counts) block
written_is plan segments list counts block h same is small indexed meta = record {
  lawful = h.lawful;
  files = record {
    listed = list;
    series_are = listed segments list;
    segments_are = subst (AreSegments (contents_of (map (series_in segments) list)) (places_in list)) (sym same) (segments_are_of plan segments list counts h);
    index_is = is;
  };
  indexed = indexed;
  small = subst (λ (l : List ℕ). length l ≤ greatest) (sym is) small;
  meta = meta ∙ ap (λ (n : Counts). meta_with (plan_fields plan) n block.index block.segments) (counts_are plan segments list counts h);
}

pub too_large : (plan : BlockPlan) (segments : List (List ℕ)) (list : List IndexSeries) (counts : Counts) (cause : IndexWriteRefusal) (e : BuildRefusal) → IsWriting plan segments list [] counts → (cause ≡ index.TooLarge → greatest < length (written list)) → e ≡ build_refusal cause → ◌≡◌ {A = Result BlockFiles BuildRefusal} (Err e) (Err TooLarge) → HaveNoIndex (map (series_in segments) list)
too_large plan segments list counts index.TooLarge e h large is same = record { index = written list; segments = segments; files = record { listed = list; series_are = listed segments list; segments_are = segments_are_of plan segments list counts h; index_is = refl }; large = large refl }
too_large plan segments list counts index.NoMemory e h large is same = absurd cc

-- files that were written have no index that is too large
pub refused_where : (r : Result BlockFiles BuildRefusal) (put : Put) → IfOk r (IsWritten put) → HaveNoIndex put.series → (r ≡ Err TooLarge) ⊎ (r ≡ Err NoMemory)
refused_where (Ok block) put is none =
    let same : block.index ≡ none.index = one_index put.series block.index none.index block.segments none.segments is.files none.files in
    absurd (omega (arith, is.small, none.large, ap length same))
refused_where (Err TooLarge) put is none = inl refl
refused_where (Err NoMemory) put is none = inr refl
