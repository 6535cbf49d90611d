-- How much a check reads of chunks: each place counts once, and it is no more than the index names.
use Rattle.std.proofs.Common.{◌≡◌, ℕ, ◌+◌, ◌*◌, ◌^◌, ◌<◌, ◌≤◌, ◌/◌, ◌%◌, List, [], ◌∷◌, ◌++◌, length, drop, map, sum_by, eqb, Bool, true, Option, Ok, refl, sym, ap, ap₂, ◌∙◌, cond, append_assoc, arith}
use Rattle.std.specs.Prelude.{nat_le, slice_get}
use Rattle.std.specs.List.{AllByRecursion, AllZip, dedup}
use Rattle.std.specs.List.Sorted.{IsSorted, IsPermutation}
use Rattle.std.specs.Ordering.{nat_cmp}
use Rattle.std.proofs.lemmas.Bool.{leb-true, le-leb}
use Rattle.std.proofs.lemmas.List.{drop_all}
use Rattle.std.proofs.lemmas.List.Sums.{sum_by-cons, sum_by-append}
use Rattle.base.specs.Grammar.{IsBytes}
use Rattle.base.proofs.Binds.{one_answer}
use Rattle.label_sets.specs.declared.sample.Sample.{Sample}
use Rattle.label_sets.specs.declared.series.Series.{Series}
use Rattle.wire_bytes.specs.Position.{start}
use Rattle.wire_bytes.specs.Fields.{groups_of, uvarint_at}
use Rattle.wire_bytes.proofs.FieldLaws.{uvarint_again}
use Rattle.chunk_files.specs.Layout.{xor}
use Rattle.chunk_files.specs.Chunk.{IsFront}
use Rattle.chunk_files.proofs.ChunkLaws.{front_few}
use Rattle.index_parts.specs.Parts.{told}
use Rattle.index_parts.specs.declared.chunk_place.ChunkPlace.{ChunkPlace}
use Rattle.index_parts.specs.declared.index_series.IndexSeries.{IndexSeries}
use Rattle.index_parts.specs.IndexFile.{IsIndex}
use Rattle.block_meta.specs.declared.block_files.BlockFiles.{BlockFiles}
use Rattle.block_content.specs.Content.{IsChunkOf, HoldsSeries, IsContent}
use Rattle.block_content.specs.ContentReading.{index_at, bytes_in, chunk_bytes, series_bytes}
use Rattle.block_content.specs.Named.{counted, NamesFew}
use Rattle.block_content.specs.StoredPlaces.{place_number, places_of}
use Rattle.block_content.specs.ReadBytes.{if_left, told_behind, told_in, told_bytes, told_there, each_once, read_bytes, reads_few, ReadsFew}
use Rattle.block_content.proofs.ChunksRead.{stands_again}
use Rattle.block_content.proofs.PlacesOnce.{HasOffset, kept_sum, once_few}
use Rattle.block_content.proofs.TimesAndOrder.{index_found, index_again}

-- past the end no length is told
pub none_told : (segment : List ℕ) (offset : ℕ) → length segment ≤ offset → told_behind (drop offset segment) ≡ 0
unfolding uvarint_at groups_of
none_told segment offset past = rw (drop_all offset segment past) refl

-- ---- by numbers

-- a number below 2 ^ 32 behind one that is counted in these
number_parts : (a b : ℕ) → b < 2 ^ 32 → ((a * 2 ^ 32 + b) / 2 ^ 32 ≡ a) × ((a * 2 ^ 32 + b) % 2 ^ 32 ≡ b)
number_parts a b lt = (omega (arith, lt), omega (arith, lt))

there_is : (segments : List (List ℕ)) (place : ChunkPlace) → HasOffset place → told_there segments (place_number place) ≡ told_bytes segments place
there_is segments place fits =
    let parts = number_parts place.segment place.offset fits in
    ap₂ (λ (s o : ℕ). told_in (slice_get segments s) o) parts.0 parts.1

all_there : (segments : List (List ℕ)) (places : List ChunkPlace) → AllByRecursion HasOffset places → AllByRecursion (λ place. told_there segments (place_number place) ≡ told_bytes segments place) places
all_there segments [] fit = tt
all_there segments (place ∷ places) fit = (there_is segments place fit.0, all_there segments places fit.1)

pub once_read : (segments : List (List ℕ)) (places : List ChunkPlace) (numbers sorted set : List ℕ) → AllByRecursion HasOffset places → numbers ≡ map place_number places → IsSorted nat_cmp sorted → IsPermutation numbers sorted → set ≡ dedup eqb sorted
    → sum_by (told_there segments) set ≡ read_bytes segments places
once_read segments places numbers sorted set fit = kept_sum (told_there segments) (told_bytes segments) places numbers sorted set (all_there segments places fit)

-- ---- no more is read than is named

-- the length that is told is that of the data which stands there
told_is : (part content : List ℕ) → IsFront part content → told_behind part ≡ length content
told_is part content h =
    let is = h.1.1 in
    let whole : part ≡ is.size ++ ((xor ∷ content) ++ (is.sum ++ h.0)) =
    h.1.2 ∙ ap (λ (a : List ℕ). a ++ h.0) is.text_is ∙ append_assoc (is.size ++ (xor ∷ content)) is.sum h.0 ∙ append_assoc is.size (xor ∷ content) (is.sum ++ h.0) in
    let read = uvarint_again (start part) is.size (length content) ((xor ∷ content) ++ (is.sum ++ h.0)) is.size_is whole in
    ap (λ r. if_left (told r) (length part)) read ∙ ap (λ (b : Bool). cond b (length content) 0) (le-leb (length content) (length part) (front_few part content h))

module _ (segments : List (List ℕ)) where
  told_few : (place : ChunkPlace) (samples : List Sample) → IsChunkOf segments place samples → told_bytes segments place ≡ chunk_bytes segments place
  told_few place samples is =
      let stands = is.stands in
      let told_as : told_bytes segments place ≡ length is.content = ap (λ (s : Option (List ℕ)). told_in s place.offset) stands.named ∙ told_is (drop place.offset stands.segment) is.content stands.stands.stands in
      told_as ∙ sym (ap bytes_in (stands_again segments place is.content stands))

  chunks_told : (chunks : List ChunkPlace) (parts : List (List Sample)) → AllZip (IsChunkOf segments) chunks parts → sum_by (told_bytes segments) chunks ≡ sum_by (chunk_bytes segments) chunks
  chunks_told [] [] are = refl
  chunks_told [] (part ∷ parts) are = absurd are
  chunks_told (place ∷ chunks) [] are = absurd are
  chunks_told (place ∷ chunks) (part ∷ parts) are =
      omega (arith, told_few place part are.0, chunks_told chunks parts are.1, sum_by-cons (told_bytes segments) place chunks, sum_by-cons (chunk_bytes segments) place chunks)

  all_told : (indexed : List IndexSeries) (list : List Series) → AllZip (HoldsSeries segments) indexed list → sum_by (told_bytes segments) (places_of indexed) ≡ sum_by (series_bytes segments) indexed
  all_told [] [] are = refl
  all_told [] (series ∷ list) are = absurd are
  all_told (one ∷ indexed) [] are = absurd are
  all_told (one ∷ indexed) (series ∷ list) are =
      omega (arith, sum_by-append (told_bytes segments) one.chunks (places_of indexed), chunks_told one.chunks are.0.parts are.0.chunks_are, all_told indexed list are.1, sum_by-cons (series_bytes segments) one indexed)

-- ---- what the test tells

pub reads_told : (segments : List (List ℕ)) (indexed : List IndexSeries) (bytes : ℕ) (r : Bool) → bytes ≡ counted (sum_by length segments) → r ≡ nat_le (counted (read_bytes segments (places_of indexed))) (counted (8 * bytes)) → reads_few segments indexed ≡ r
reads_told segments indexed bytes r is told_so =
    let limit : counted (8 * bytes) ≡ counted (8 * sum_by length segments) = omega (arith, is) in
    sym (told_so ∙ ap (nat_le (counted (read_bytes segments (places_of indexed)))) limit)

-- of no series nothing is read
pub none_read : (files : BlockFiles) → IsIndex files.index [] → ReadsFew files
unfolding each_once
none_read files is = record { indexed = []; index_is = is; bytes = omega arith }

module _ (files : BlockFiles) (bytes : IsBytes files.index) where
  pub reads_found : (indexed : List IndexSeries) → index_at files.index ≡ Ok indexed → reads_few files.segments indexed ≡ true → ReadsFew files
  reads_found indexed read passed = record { indexed = indexed; index_is = index_found files.index indexed bytes read; bytes = leb-true _ _ passed }

  pub reads_again : (indexed : List IndexSeries) → index_at files.index ≡ Ok indexed → ReadsFew files → reads_few files.segments indexed ≡ true
  reads_again indexed read few =
      let same : few.indexed ≡ indexed = one_answer few.indexed indexed (index_at files.index) (index_again files.index few.indexed bytes few.index_is) read in
      ap (reads_few files.segments) (sym same) ∙ le-leb _ _ few.bytes

  -- what is read of content that names little is little
  pub content_reads : (list : List Series) → IsContent files list → NamesFew files → ReadsFew files
  content_reads list is few =
      let same : few.indexed ≡ is.indexed = one_answer few.indexed is.indexed (index_at files.index) (index_again files.index few.indexed bytes few.index_is) (index_again files.index is.indexed bytes is.index_is) in
      let named = ap (sum_by (series_bytes files.segments)) same in
      let told = all_told files.segments is.indexed list is.series_are in
      let once = once_few (told_bytes files.segments) (places_of is.indexed) in
      record { indexed = is.indexed; index_is = is.index_is; bytes = omega (arith, few.chunks, named, told, once) }
