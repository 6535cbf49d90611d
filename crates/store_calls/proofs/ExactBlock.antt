-- The samples that the reads of a block come to are those of the block that the query asks for.
use Rattle.std.proofs.Common.{◌≡◌, ℕ, ℤ, ◌+◌, ◌-◌, ◌^◌, ◌<◌, ◌≤ℤ◌, Bool, true, false, List, [], ◌∷◌, ◌++◌, map, take, drop, length, Option, Some, None, Ok, refl, sym, ap, ap₂, subst, ◌∙◌, arith}
use Rattle.std.specs.Prelude.{Contains, IfSome, option_map, unwrap_or, int_le, ◌&&◌}
use Rattle.std.specs.List.{AllByRecursion, AllZip, filter, flat_map}
use Rattle.std.proofs.lemmas.Int.{ints}
use Rattle.std.proofs.lemmas.List.Elements.{filter-append}
use Rattle.base.proofs.Lists.{filter_hit, filter_miss}
use Rattle.base.proofs.Membership.{contains_first, contains_later, contains_place, each_member, into_filter, into_flat_map, into_map, of_map}
use Rattle.base.specs.Grammar.{IsBytes}
use Rattle.label_sets.specs.declared.label.Label.{Label}
use Rattle.label_sets.specs.declared.sample.Sample.{Sample}
use Rattle.label_sets.specs.declared.series.Series.{Series}
use Rattle.label_sets.specs.Finals.{final_of}
use Rattle.label_sets.specs.Triples.{Triple, triples_under}
use Rattle.label_sets.proofs.LabelValues.{by_bool}
use Rattle.matchers.specs.Selected.{is_between, is_selected, selected}
use Rattle.matchers.specs.Selectors.{is_match}
use Rattle.matchers.specs.SelectorText.{named_replicas}
use Rattle.vertical_merge.proofs.Joining.{triples_under-append}
use Rattle.index_parts.specs.Turns.{AreInTurn}
use Rattle.index_parts.specs.SeriesEntry.{IsNextChunk, reference_of}
use Rattle.index_parts.specs.declared.chunk_place.ChunkPlace.{ChunkPlace}
use Rattle.index_parts.specs.declared.index_series.IndexSeries.{IndexSeries}
use Rattle.block_content.specs.Content.{HoldsSeries, IsChunkOf}
use Rattle.block_content.specs.ContentReading.{LieBetween}
use Rattle.block_content.proofs.Appending.{text_between}
use Rattle.block_keys.specs.KeyText.{key_text}
use Rattle.block_keys.specs.declared.key.Key.{Key}
use Rattle.block_keys.specs.declared.key.Key.TheVariants.{Index, Segment}
use Rattle.bucket_core.specs.Contents.{Contents}
use Rattle.bucket_core.specs.Contents as stored
use Rattle.store_chunks.specs.Taken.{samples_of, shown, taken}
use Rattle.store_ranges.specs.ChunkRanges.{IsSetOf, meets, offset_of, segment_of}
use Rattle.store_chunks.specs.ChunkReads.{Read, in_range, places_at, tests_at}
use Rattle.store_ranges.specs.IndexRanges.{Piece}
use Rattle.store_ranges.specs.Reads.{Block, Query, range_of}
use Rattle.store_calls.specs.Exact.{HoldsBlock, StandsIn, asked_of, held_by}
use Rattle.store_calls.proofs.BlockFindings.{AreChunksRead, AreSeries, IsChunkRead}
use Rattle.store_calls.proofs.ExactChunks.{found_read, offset_of_place, same_offset, segment_of_place, stored_same, tested_read}
use Rattle.store_calls.proofs.ExactIndex.{series_match}

-- ---- samples under labels

between_low_high : (low high min max time : ℤ) → is_between low high time ≡ true → min ≤ℤ time → time ≤ℤ max → (int_le min high && int_le low max) ≡ true
between_low_high low high min max time within from to = grind (arith, ints)

-- the samples of a chunk that does not meet the range lie beside it
none_between : (low high : ℤ) (labels : List Label) (place : ChunkPlace) (part : List Sample) → meets low high place ≡ false → LieBetween place part
    → filter (λ t. is_between low high t.time) (triples_under labels part) ≡ []
unfolding triples_under
none_between low high labels place [] apart lie = refl
none_between low high labels place (s ∷ part) apart lie = by_bool (is_between low high s.time)
    (λ t. let met = between_low_high low high place.min place.max s.time t lie.0.0 lie.0.1 in absurd (cc (met, apart)))
    (λ f. filter_miss (λ (t : Triple). is_between low high t.time) (record { labels = labels; time = s.time; pattern = s.pattern }) (triples_under labels part) f
    ∙ none_between low high labels place part apart lie.1)

-- where the labels match, the time alone decides; where they do not, nothing is asked for
asked_by_time : (query : Query) (labels : List Label) (samples : List Sample) → is_match query.selector labels ≡ true
    → selected query.selector query.low query.high (triples_under labels samples) ≡ filter (λ t. is_between query.low query.high t.time) (triples_under labels samples)
unfolding selected triples_under is_selected
asked_by_time query labels [] matches = refl
asked_by_time query labels (s ∷ samples) matches =
    let one : Triple = record { labels = labels; time = s.time; pattern = s.pattern } in
    let same : (is_match query.selector labels && is_between query.low query.high s.time) ≡ is_between query.low query.high s.time = ap (λ b. b && is_between query.low query.high s.time) matches in
    by_bool (is_between query.low query.high s.time)
    (λ t. filter_hit (is_selected query.selector query.low query.high) one (triples_under labels samples) (same ∙ t) ∙ ap (λ l. one ∷ l) (asked_by_time query labels samples matches)
    ∙ sym (filter_hit (λ (x : Triple). is_between query.low query.high x.time) one (triples_under labels samples) t))
    (λ f. filter_miss (is_selected query.selector query.low query.high) one (triples_under labels samples) (same ∙ f) ∙ asked_by_time query labels samples matches
    ∙ sym (filter_miss (λ (x : Triple). is_between query.low query.high x.time) one (triples_under labels samples) f))

none_asked : (query : Query) (labels : List Label) (samples : List Sample) → is_match query.selector labels ≡ false → selected query.selector query.low query.high (triples_under labels samples) ≡ []
unfolding selected triples_under is_selected
none_asked query labels [] differ = refl
none_asked query labels (s ∷ samples) differ =
    let one : Triple = record { labels = labels; time = s.time; pattern = s.pattern } in
    filter_miss (is_selected query.selector query.low query.high) one (triples_under labels samples) (ap (λ b. b && is_between query.low query.high s.time) differ) ∙ none_asked query labels samples differ

-- those in the range, under labels
range_under : (query : Query) (labels : List Label) (samples : List Sample) → triples_under labels (in_range query samples) ≡ filter (λ t. is_between query.low query.high t.time) (triples_under labels samples)
unfolding triples_under
range_under query labels [] = refl
range_under query labels (s ∷ samples) =
    let one : Triple = record { labels = labels; time = s.time; pattern = s.pattern } in
    by_bool (is_between query.low query.high s.time)
    (λ t. ap (triples_under labels) (filter_hit (λ (x : Sample). is_between query.low query.high x.time) s samples t) ∙ ap (λ l. one ∷ l) (range_under query labels samples)
    ∙ sym (filter_hit (λ (x : Triple). is_between query.low query.high x.time) one (triples_under labels samples) t))
    (λ f. ap (triples_under labels) (filter_miss (λ (x : Sample). is_between query.low query.high x.time) s samples f) ∙ range_under query labels samples
    ∙ sym (filter_miss (λ (x : Triple). is_between query.low query.high x.time) one (triples_under labels samples) f))

-- ---- series

-- the chunks of these places were read, and cut to the range
abbrev AreReadAs : List (List ℕ) → Query → List Read → List ChunkPlace → Type 0
AreReadAs segments query all chunks = (place : ChunkPlace) → Contains chunks place → meets query.low query.high place ≡ true → (part : List Sample) → IsChunkOf segments place part → samples_of all place ≡ in_range query part

module _ (segments : List (List ℕ)) (query : Query) (block : Block) (all : List Read) where
  abbrev within : List Triple → List Triple
  within triples = filter (λ t. is_between query.low query.high t.time) triples

  none_within : (labels : List Label) → triples_under labels [] ≡ within (triples_under labels [])
  unfolding triples_under
  none_within labels = refl

  chunks_within : (labels : List Label) (chunks : List ChunkPlace) (parts : List (List Sample)) → AllZip (IsChunkOf segments) chunks parts → AreReadAs segments query all chunks
      → triples_under labels (flat_map (samples_of all) (filter (meets query.low query.high) chunks)) ≡ within (triples_under labels (flat_map (λ part. part) parts))
  chunks_within labels [] [] zip reads = none_within labels
  chunks_within labels [] (p ∷ parts) zip reads = absurd zip
  chunks_within labels (c ∷ chunks) [] zip reads = absurd zip
  chunks_within labels (c ∷ chunks) (p ∷ parts) zip reads =
      let later = chunks_within labels chunks parts zip.1 (λ place among. reads place (contains_later c place chunks among)) in
      let test : Triple → Bool = λ t. is_between query.low query.high t.time in
      let left : List Sample = flat_map (samples_of all) (filter (meets query.low query.high) chunks) in
      let right : List Sample = flat_map (λ part. part) parts in
      let whole : within (triples_under labels (p ++ right)) ≡ within (triples_under labels p) ++ within (triples_under labels right) =
      ap within (triples_under-append labels p right) ∙ filter-append test (triples_under labels p) (triples_under labels right) in
      by_bool (meets query.low query.high c)
      (λ t. ap (λ l. triples_under labels (flat_map (samples_of all) l)) (filter_hit (meets query.low query.high) c chunks t)
      ∙ ap (λ l. triples_under labels (l ++ left)) (reads c (contains_first c chunks) t p zip.0)
      ∙ triples_under-append labels (in_range query p) left ∙ ap₂ (λ a b. a ++ b) (range_under query labels p) later ∙ sym whole)
      (λ f. ap (λ l. triples_under labels (flat_map (samples_of all) l)) (filter_miss (meets query.low query.high) c chunks f) ∙ later
      ∙ ap (λ l. l ++ within (triples_under labels right)) (sym (none_between query.low query.high labels c p f (text_between c zip.0.content p zip.0.reads zip.0.timed))) ∙ sym whole)

  abbrev matches : IndexSeries → Bool
  matches one = is_match query.selector (final_of one.labels block.external query.replicas)

  abbrev under : Series → List Triple
  under s = triples_under (final_of s.labels block.external query.replicas) s.samples

  one_shown : (one : IndexSeries) (s : Series) → HoldsSeries segments one s → matches one ≡ true → AreReadAs segments query all one.chunks
      → shown query block all one ≡ selected query.selector query.low query.high (under s)
  unfolding shown
  one_shown one s holds match reads =
      let labels : List Label = final_of one.labels block.external query.replicas in
      let same : labels ≡ final_of s.labels block.external query.replicas = ap (λ l. final_of l block.external query.replicas) (sym holds.labels_are) in
      chunks_within labels one.chunks holds.parts holds.chunks_are reads ∙ ap (λ l. within (triples_under labels l)) (sym holds.samples_are)
      ∙ sym (asked_by_time query labels s.samples match) ∙ ap (λ l. selected query.selector query.low query.high (triples_under l s.samples)) same

  selected_both : (one other : List Triple) → selected query.selector query.low query.high (one ++ other) ≡ selected query.selector query.low query.high one ++ selected query.selector query.low query.high other
  unfolding selected
  selected_both one other = filter-append (is_selected query.selector query.low query.high) one other

  none_left : selected query.selector query.low query.high [] ≡ []
  unfolding selected
  none_left = refl

  -- of all series
  all_shown : (indexed : List IndexSeries) (list : List Series) → AllZip (HoldsSeries segments) indexed list
      → ((one : IndexSeries) → Contains indexed one → matches one ≡ true → AreReadAs segments query all one.chunks)
      → flat_map (shown query block all) (filter matches indexed) ≡ asked_of query block list
  all_shown [] [] zip reads = sym none_left
  all_shown [] (s ∷ list) zip reads = absurd zip
  all_shown (one ∷ indexed) [] zip reads = absurd zip
  all_shown (one ∷ indexed) (s ∷ list) zip reads =
      let later = all_shown indexed list zip.1 (λ other among. reads other (contains_later one other indexed among)) in
      let whole = selected_both (under s) (held_by query block list) in
      by_bool (matches one)
      (λ t. ap (flat_map (shown query block all)) (filter_hit matches one indexed t) ∙ ap₂ (λ a b. a ++ b) (one_shown one s zip.0 t (reads one (contains_first one indexed) t)) later ∙ sym whole)
      (λ f. ap (flat_map (shown query block all)) (filter_miss matches one indexed f) ∙ later
      ∙ ap (λ l. l ++ asked_of query block list) (sym (none_asked query (final_of s.labels block.external query.replicas) s.samples
      (ap (λ l. is_match query.selector (final_of l block.external query.replicas)) zip.0.labels_are ∙ f))) ∙ sym whole)

-- ---- places of an index

turn_fits : (before : Option ChunkPlace) (text : List ℕ) (chunks : List ChunkPlace) → AreInTurn IsNextChunk before text chunks → AllByRecursion (λ (c : ChunkPlace). c.offset < 2 ^ 32) chunks
turn_fits before text [] turn = tt
turn_fits before text (c ∷ chunks) turn = (turn.2.offset_fits, turn_fits (Some c) turn.1 chunks turn.3)

-- ---- the block

abbrev pub KnownIn : Contents → Key → Piece → List ℕ → Type 0
KnownIn contents key piece bytes = StandsIn contents (range_of key piece) bytes

abbrev pub WholeIn : Contents → Key → List ℕ → Type 0
WholeIn contents key bytes = contents (key_text key) ≡ Some bytes

module _ (contents : Contents) (query : Query) (block : Block) (list : List Series) (holds : HoldsBlock contents block list) where
  -- a range that stands in an object that is known
  pub range_in : (key : Key) (object : List ℕ) (piece : Piece) (bytes : List ℕ) → contents (key_text key) ≡ Some object → KnownIn contents key piece bytes → take piece.len (drop piece.from object) ≡ bytes
  range_in key object piece bytes is shown =
      let told : ◌≡◌ {A = Option (List ℕ)} (Some (take piece.len (drop piece.from object))) (Some bytes) = subst (λ o. option_map (stored.range_of piece.from piece.len) o ≡ Some bytes) is shown in cc (told)

  place_read : (places : List ChunkPlace) (all : List Read) → AreChunksRead (KnownIn contents) (WholeIn contents) block.ulid (tests_at query block places) all
      → (place : ChunkPlace) → Contains (map (λ (one : Read). one.reference) all) (reference_of place) → place.offset < 2 ^ 32
      → (part : List Sample) → IsChunkOf holds.segments place part → samples_of all place ≡ in_range query part
  place_read places all each place has fits part chunk =
      let found = found_read (IsChunkRead (KnownIn contents) (WholeIn contents) block.ulid (tests_at query block places)) (reference_of place) all each has in
      let one : Read = found.0 in
      let read : IsChunkRead (KnownIn contents) (WholeIn contents) block.ulid (tests_at query block places) one = found.1 in
      let stands = chunk.stands in
      let numbered : segment_of read.first ≡ place.segment + 1 =
      read.same_segment ∙ ap segment_of found.2 ∙ ap (λ n. n + 1) (segment_of_place place.segment place.offset fits) in
      let object : contents (key_text (Segment block.ulid (segment_of read.first))) ≡ Some stands.segment =
      ap (λ n. contents (key_text (Segment block.ulid n))) numbered ∙ holds.segments_stand place.segment stands.segment stands.named in
      let bytes = range_in (Segment block.ulid (segment_of read.first)) stands.segment read.piece read.read_so.bytes object read.read_so.known_so in
      let behind : place.offset ≡ read.piece.from + (one.reference - read.first) =
      sym (offset_of_place place.segment place.offset fits) ∙ ap offset_of (sym found.2) ∙ same_offset read.first one.reference read.same_segment read.behind
      ∙ ap (λ n. n + (one.reference - read.first)) (sym read.from) in
      let tested =
      tested_read query block (places_at places one.reference) (drop (one.reference - read.first) (take read.piece.len (drop read.piece.from stands.segment))) one.samples
      (subst (λ b. tests_at query block places one.reference (drop (one.reference - read.first) b) ≡ Ok one.samples) (sym bytes) read.read_so.reads_as) in
      let same : tested.0 ≡ part =
      stored_same stands.segment read.piece.from read.piece.len (one.reference - read.first) place.offset chunk.content tested.0 part
      (each_member IsBytes holds.segments stands.segment holds.bytes.1 (contains_place holds.segments place.segment stands.segment stands.named)) behind stands.stands.stands chunk.reads tested.1 in
      ap (λ o. unwrap_or (option_map (λ (r : Read). r.samples) o) []) found.3 ∙ tested.2 ∙ ap (in_range query) same

  pub index_bytes : holds.index_is.opened.bytes ≡ holds.index
  index_bytes = holds.index_is.bytes_are

  pub chunk_fits : (one : IndexSeries) → Contains holds.indexed one → (place : ChunkPlace) → Contains one.chunks place → place.offset < 2 ^ 32
  chunk_fits one among place has =
      let listed = of_map (λ (x : ℕ × IndexSeries). x.1) holds.index_is.listed one (subst (λ l. Contains l one) (sym holds.index_is.list_is) among) in
      let stands = holds.index_is.series_are.stand listed.0.0 listed.0.1 listed.1 in
      each_member (λ (c : ChunkPlace). c.offset < 2 ^ 32) one.chunks place
      (subst (λ (x : IndexSeries). AllByRecursion (λ (c : ChunkPlace). c.offset < 2 ^ 32) x.chunks) listed.2 (turn_fits None stands.stands.chunks listed.0.1.chunks stands.stands.chunks_are)) has

  pub share_is : named_replicas query.replicas query.selector ≡ [] → (series : List IndexSeries) (all : List Read) → AreSeries (KnownIn contents) (WholeIn contents) query block series
      → AreChunksRead (KnownIn contents) (WholeIn contents) block.ulid (tests_at query block (flat_map (taken query) series)) all
      → IsSetOf (map reference_of (flat_map (taken query) series)) (map (λ (one : Read). one.reference) all)
      → flat_map (shown query block all) series ≡ asked_of query block list
  share_is unnamed series all are each set =
      let own : IsBytes holds.index_is.opened.bytes = subst IsBytes (sym index_bytes) holds.bytes.0 in
      let stands : contents (key_text (Index block.ulid)) ≡ Some holds.index_is.opened.bytes = holds.index_stands ∙ ap Some (sym index_bytes) in
      let same : series ≡ filter (matches holds.segments query block all) holds.indexed =
      series_match query block holds.index holds.indexed holds.index_is own (KnownIn contents) (WholeIn contents)
      (λ piece bytes shown. range_in (Index block.ulid) holds.index_is.opened.bytes piece bytes stands shown)
      (λ bytes whole. let told = sym whole ∙ stands in cc (told))
      (subst (λ b. IfSome block.index_size (λ size. size ≡ length b)) (sym index_bytes) holds.size_told) unnamed series are in
      ap (flat_map (shown query block all)) same
      ∙ all_shown holds.segments query block all holds.indexed list holds.series_are
      (λ one among match place has met part chunk.
      place_read (flat_map (taken query) series) all each place
      ((set.members (reference_of place)).1
      (into_map reference_of (flat_map (taken query) series) place
      (into_flat_map (taken query) series one place (subst (λ l. Contains l one) (sym same) (into_filter (matches holds.segments query block all) holds.indexed one among match))
      (into_filter (meets query.low query.high) one.chunks place has met))))
      (chunk_fits one among place has) part chunk)
