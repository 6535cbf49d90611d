-- A call misses nothing and finds nothing damaged, where its reads and its cache show the blocks as they stand.
use Rattle.std.proofs.Common.{◌≡◌, ◌≢◌, ℕ, ℤ, ◌+◌, ◌-◌, ◌/◌, ◌%◌, ◌^◌, ◌<◌, ◌≤◌, ◌≤ℤ◌, ◌<ℤ◌, Bool, true, List, [], ◌∷◌, ◌++◌, take, drop, length, Option, Some, None, Ok, refl, sym, ap, subst, ◌∙◌, inl, inr, append-nil, arith}
use Rattle.std.specs.Prelude.{Contains, IsErr, IfSome, int_le, int_lt, nat_le, nat_lt, option_map, slice_get, ◌&&◌, ◌==◌}
use Rattle.std.specs.List.{AllByRecursion, AllZip, flat_map}
use Rattle.std.proofs.lemmas.Bool.{eqb-true, true≢false}
use Rattle.std.proofs.lemmas.Bool.Decides.{Decides-int_eq}
use Rattle.std.proofs.lemmas.Int.{ints}
use Rattle.std.proofs.lemmas.List.{drop-drop, drop-take, length-append, length-drop}
use Rattle.std.proofs.lemmas.List.Elements.{recursion_from_All}
use Rattle.std.proofs.lemmas.Option.{slice_get_within}
use Rattle.std.proofs.Math.Seq.{take-append_seam}
use Rattle.base.proofs.Membership.{all_of_members, contains_place, each_member, into_flat_map, member_passes, of_filter, of_flat_map, of_map}
use Rattle.base.proofs.Pairs.{AllZip-second}
use Rattle.base.specs.Grammar.{IsBytes}
use Rattle.base.proofs.Binds.{ok_is}
use Rattle.label_sets.specs.Triples.{Triple}
use Rattle.label_sets.specs.declared.sample.Sample.{Sample}
use Rattle.label_sets.specs.declared.series.Series.{Series}
use Rattle.label_sets.specs.Times.{times_of}
use Rattle.block_keys.specs.KeyText.{key_text}
use Rattle.block_keys.specs.declared.key.Key.TheVariants.{Index, Segment}
use Rattle.bucket_core.specs.Contents.{Contents}
use Rattle.chunk_files.specs.Chunk.{IsFront}
use Rattle.chunk_files.specs.ChunkReading.{chunk_at}
use Rattle.chunk_files.specs.Layout.{greatest, header_size}
use Rattle.chunk_files.specs.declared.refusal.ChunkRefusal.{ChunkRefusal}
use Rattle.chunk_files.proofs.ChunkLaws.{chunk_again}
use Rattle.xor_chunks.specs.Data.{data_at}
use Rattle.xor_chunks.specs.declared.refusal.XorRefusal.{XorRefusal}
use Rattle.xor_chunks.proofs.TextsRead.{data_again}
use Rattle.index_parts.specs.SeriesEntry.{reference_of}
use Rattle.index_parts.specs.declared.chunk_place.ChunkPlace.{ChunkPlace}
use Rattle.index_parts.specs.declared.index_series.IndexSeries.{IndexSeries}
use Rattle.index_parts.specs.Opened.{Opened}
use Rattle.index_v2.specs.Opening.{opened_at}
use Rattle.index_v2.specs.SeriesLabels.{numbered_at}
use Rattle.store_ranges.specs.Caches.{same_range}
use Rattle.store_ranges.specs.declared.range.Range.{Range}
use Rattle.block_content.specs.Content.{HaveTimesOf, HoldsSeries, IsChunkOf}
use Rattle.block_content.specs.ContentReading.{are_some, have_times_of, is_time}
use Rattle.block_content.proofs.ChunksRead.{times_again, timed_are_there}
use Rattle.base.proofs.FirstLaws.{some_is}
use Rattle.base.specs.Firsts.{each_at}
use Rattle.world_core.specs.Plans.{Runs, ends}
use Rattle.world_core.specs.Standing.{Tells}
use Rattle.world_core.specs.declared.op.Op.{Op}
use Rattle.world_core.specs.declared.op.Op.TheVariants.{Clock, Put, Get, GetRange, Delete, RootPage, BlockPage}
use Rattle.world_core.specs.declared.reply.Reply.{Reply}
use Rattle.world_core.specs.declared.reply.Reply.TheVariants.{Absent}
use Rattle.world_core.specs.declared.entry.Entry.{Entry}
use Rattle.world_core.proofs.PlanLaws.{EndsAre, end_is}
use Rattle.world_core.proofs.PlanParts.{Parts, broken, both, parts}
use Rattle.meta_fetcher.specs.declared.view.View.{View}
use Rattle.store_chunks.specs.Taken.{taken}
use Rattle.store_calls.specs.BlockReads.{BlockEnd, gives, breaks_off, block_call}
use Rattle.store_ranges.specs.ChunkRanges.{group_of, group_piece, meets, offset_of, segment_of}
use Rattle.store_chunks.specs.ChunkReads.{Glimpse, chunk_len_at, chunk_samples_at, glimpse_at, have_keys, in_range, is_chunk_of, places_at, sticks_out, tested_at, tests_at}
use Rattle.store_ranges.specs.IndexReads.{tables_of}
use Rattle.store_ranges.specs.Reads.{Block, Cache, Query, missing, damaged, fault, range_of}
use Rattle.store_ranges.specs.Stretches.{Stretch, members}
use Rattle.store_calls.specs.Exact.{AreShown, HoldsBlock, HoldsWhole, IsCacheOf, IsInBounds, StandsIn}
use Rattle.store_calls.specs.SeriesCalls.{Called, took, broke, CallEnd, Gives, SeriesRun, after_block, reading, sources_of, to_read}
use Rattle.store_calls.specs.declared.series_call.SeriesEnd.TheVariants as ended
use Rattle.store_calls.proofs.BlockFindings.{AreSeries, AreTaken, IsSoughtOf, IsSpoilt, IsWithin, LackLists, LacksChunks, SticksOut, no_chunk, no_index, no_key, no_list, no_series}
use Rattle.store_calls.proofs.BlockWalk.{block_holds}
use Rattle.store_calls.proofs.CacheChanges.{all_kept, all_promoted}
use Rattle.store_calls.proofs.CallLaws.{each_front}
use Rattle.store_calls.proofs.ExactBlock.{KnownIn, WholeIn, chunk_fits, index_bytes, range_in}
use Rattle.store_calls.proofs.ExactCalls.{kept_under, range_shown, whole_shown}
use Rattle.store_calls.proofs.ExactChunks.{offset_of_place, same_offset, segment_of_place}
use Rattle.store_calls.proofs.ExactIndex.{taken_from}
use Rattle.store_calls.proofs.StandingChunks.{chunk_size, glimpse_there, out_there, size_there, stored_front, whole_front}
use Rattle.store_calls.proofs.StandingIndex.{each_read_so, lacks_none, not_refused, opened_so, opens, selects_so, series_read, taken_among}

-- ---- times

time_again : (sample : Option Sample) (time : ℤ) → option_map (λ (s : Sample). s.time) sample ≡ Some time → is_time sample time ≡ true
time_again None time e = absurd (cc (e))
time_again (Some sample) time e = (Decides-int_eq sample.time time).1 (some_is sample.time time e)

-- ---- lists

five : (a b c d e : Bool) → a ≡ true → b ≡ true → c ≡ true → d ≡ true → e ≡ true → (a && b && c && d && e) ≡ true
five a b c d e p q r s t = rw (p, q, r, s, t) refl

-- a time of the samples is that of one of them
sample_at : (part : List Sample) (k : ℕ) (time : ℤ) → slice_get (times_of part) k ≡ Some time → (s : Sample) × Contains part s × (s.time ≡ time)
sample_at part k time is = of_map (λ (s : Sample). s.time) part time (contains_place (times_of part) k time is)

small_front : (text after segment : List ℕ) (offset size most : ℕ) → drop offset segment ≡ text ++ after → size ≤ length text → length segment ≤ most → size ≤ most
small_front text after segment offset size most is le short = omega (arith, le, short, ap length is, length-append text after, length-drop offset segment)

module _ (contents : Contents) (query : Query) (block : Block) (list : List Series) (holds : HoldsBlock contents block list) (bounds : IsInBounds block holds.segments list) where
  abbrev index_own : IsBytes holds.index_is.opened.bytes
  index_own = subst IsBytes (sym (index_bytes contents query block list holds)) holds.bytes.0

  index_there : contents (key_text (Index block.ulid)) ≡ Some holds.index_is.opened.bytes
  index_there = holds.index_stands ∙ ap Some (sym (index_bytes contents query block list holds))

  abbrev Found : List IndexSeries → Type 0
  Found series = AreSeries (KnownIn contents) (WholeIn contents) query block series

  bytes_so : (bytes : List ℕ) → WholeIn contents (Index block.ulid) bytes → bytes ≡ holds.index_is.opened.bytes
  bytes_so bytes shown = let told = sym shown ∙ index_there in cc (told)

  series_among : (series : List IndexSeries) → Found series → (one : IndexSeries) → Contains series one → Contains holds.indexed one
  series_among series are one has =
      taken_among query block holds.index holds.indexed holds.index_is index_own series
      (taken_from query block holds.index holds.indexed holds.index_is index_own (KnownIn contents) (WholeIn contents)
      (λ piece bytes shown. range_in contents query block list holds (Index block.ulid) holds.index_is.opened.bytes piece bytes index_there shown) bytes_so
      (subst (λ b. IfSome block.index_size (λ size. size ≡ length b)) (sym (index_bytes contents query block list holds)) holds.size_told) series are) one has

  -- ---- chunks

  -- a chunk of the block, with what a read of it is tested for
  record IsThere (place : ChunkPlace) : Type 0 where
    part : List Sample
    chunk : IsChunkOf holds.segments place part
    early : block.min_time ≤ℤ place.min
    late : place.max <ℤ block.max_time
    fits : place.offset < 2 ^ 32

  there : (one : IndexSeries) → Contains holds.indexed one → (place : ChunkPlace) → Contains one.chunks place → IsThere place
  there one among place has =
      let s = AllZip-second (HoldsSeries holds.segments) holds.indexed list one holds.series_are among in
      let p = AllZip-second (IsChunkOf holds.segments) one.chunks s.2.parts place s.2.chunks_are has in
      let part : List Sample = p.0 in
      let timed : HaveTimesOf place part = p.2.timed in
      let inside : (x : Sample) → Contains part x → (block.min_time ≤ℤ x.time) × (x.time <ℤ block.max_time) = λ x own.
      each_member (λ (y : Sample). (block.min_time ≤ℤ y.time) × (y.time <ℤ block.max_time)) (s.0).samples x
      (each_member (λ (z : Series). AllByRecursion (λ (y : Sample). (block.min_time ≤ℤ y.time) × (y.time <ℤ block.max_time)) z.samples) list s.0 bounds.within s.1)
      (subst (λ l. Contains l x) (sym s.2.samples_are) (into_flat_map (λ (l : List Sample). l) s.2.parts part x p.1 own)) in
      let first = sample_at part 0 place.min timed.begins in
      let last = sample_at part (length part - 1) place.max timed.ends in
      record {
        part = part;
        chunk = p.2;
        early = subst (λ z. block.min_time ≤ℤ z) first.2 (inside first.0 first.1).0;
        late = subst (λ z. z <ℤ block.max_time) last.2 (inside last.0 last.1).1;
        fits = chunk_fits contents query block list holds one among place has;
      }

  module _ (series : List IndexSeries) (are : Found series) where
    abbrev places : List ChunkPlace
    places = flat_map (taken query) series

    place_there : (place : ChunkPlace) → Contains places place → IsThere place
    place_there place has =
        let one = of_flat_map (taken query) series place has in
        there one.0 (series_among series are one.0 one.1) place (of_filter (meets query.low query.high) (one.0).chunks place one.2)

    -- one chunk stands at a reference
    same_part : (place other : ChunkPlace) (one : IsThere place) (also : IsThere other) → reference_of other ≡ reference_of place → also.part ≡ one.part
    same_part place other one also same =
        let segments : other.segment ≡ place.segment =
        sym (segment_of_place other.segment other.offset also.fits) ∙ ap (λ n. n / 2 ^ 32) same ∙ segment_of_place place.segment place.offset one.fits in
        let offsets : other.offset ≡ place.offset =
        sym (offset_of_place other.segment other.offset also.fits) ∙ ap (λ n. n % 2 ^ 32) same ∙ offset_of_place place.segment place.offset one.fits in
        let named = sym also.chunk.stands.named ∙ ap (slice_get holds.segments) segments ∙ one.chunk.stands.named in
        let bytes : also.chunk.stands.segment ≡ one.chunk.stands.segment = cc (named) in
        let content : also.chunk.content ≡ one.chunk.content =
        ok_is {E = ChunkRefusal} also.chunk.content one.chunk.content
        (sym (chunk_again (drop other.offset also.chunk.stands.segment) also.chunk.content also.chunk.stands.stands.stands)
        ∙ ap (λ b. chunk_at (drop other.offset b)) bytes ∙ ap (λ n. chunk_at (drop n one.chunk.stands.segment)) offsets
        ∙ chunk_again (drop place.offset one.chunk.stands.segment) one.chunk.content one.chunk.stands.stands.stands) in
        ok_is {E = XorRefusal} also.part one.part
        (sym (data_again 8 also.chunk.content also.part also.chunk.reads) ∙ ap (data_at 8) content ∙ data_again 8 one.chunk.content one.part one.chunk.reads)

    passes : (place : ChunkPlace) (one : IsThere place) (other : ChunkPlace) → Contains (places_at places (reference_of place)) other → is_chunk_of block one.part other ≡ true
    passes place one other has =
        let among = of_filter (λ (p : ChunkPlace). reference_of p == reference_of place) places other has in
        let same : reference_of other ≡ reference_of place = eqb-true (reference_of other) (reference_of place) (member_passes (λ (p : ChunkPlace). reference_of p == reference_of place) places other has) in
        let also = place_there other among in
        let timed : HaveTimesOf other one.part = subst (HaveTimesOf other) (same_part place other one also same) also.chunk.timed in
        let early = also.early in
        let late = also.late in
        let behind = also.chunk.stands.stands.behind in
        five (are_some one.part) (have_times_of other one.part) (int_le block.min_time other.min) (int_lt other.max block.max_time) (nat_le header_size other.offset)
        (timed_are_there other one.part timed) (times_again other one.part timed) (grind (arith, ints, early)) (grind (arith, ints, late)) (grind (arith, behind))

    tests_pass : (place : ChunkPlace) (one : IsThere place) (bytes : List ℕ) → IsFront bytes one.chunk.content → tests_at query block places (reference_of place) bytes ≡ Ok (in_range query one.part)
    unfolding chunk_samples_at tested_at
    tests_pass place one bytes front =
        rw (
          stored_front bytes one.chunk.content one.part front one.chunk.reads,
          all_of_members (is_chunk_of block one.part) (places_at places (reference_of place)) (λ other has. passes place one other has),
        ) refl

    -- ---- a chunk in a range of its segment

    module _ (place : ChunkPlace) (one : IsThere place) where
      abbrev segment : List ℕ
      segment = one.chunk.stands.segment

      abbrev front : IsFront (drop place.offset segment) one.chunk.content
      front = one.chunk.stands.stands.stands

      object : (number : ℕ) → number ≡ place.segment + 1 → contents (key_text (Segment block.ulid number)) ≡ Some segment
      object number is = ap (λ n. contents (key_text (Segment block.ulid n))) is ∙ holds.segments_stand place.segment segment one.chunk.stands.named

      numbered : segment_of (reference_of place) ≡ place.segment + 1
      numbered = ap (λ n. n + 1) (segment_of_place place.segment place.offset one.fits)

      content_small : length one.chunk.content ≤ greatest
      content_small =
          let size = chunk_size front.1.0 one.chunk.content front.0 front.1.1 in
          small_front front.1.0 front.0 segment place.offset (length one.chunk.content) greatest front.1.2 (omega (arith, size))
          (each_member (λ (s : List ℕ). length s ≤ greatest) holds.segments segment bounds.short (contains_place holds.segments place.segment segment one.chunk.stands.named))

      -- in the range of its group
      module _ (stretch : Stretch ℕ) (near : IsWithin stretch (reference_of place)) (bytes : List ℕ) (shown : KnownIn contents (Segment block.ulid (segment_of stretch.first)) (group_piece stretch) bytes) where
        abbrev k : ℕ
        k = reference_of place - stretch.first

        abbrev n : ℕ
        n = (group_piece stretch).len - k

        far : 4096 ≤ n
        far = omega (arith, near.behind, near.upto)

        behind_k : drop k bytes ≡ take n (front.1.0 ++ front.0)
        behind_k =
            let own : take (group_piece stretch).len (drop (offset_of stretch.first) segment) ≡ bytes =
            range_in contents query block list holds (Segment block.ulid (segment_of stretch.first)) segment (group_piece stretch) bytes (object (segment_of stretch.first) (near.same_segment ∙ numbered)) shown in
            let long : (group_piece stretch).len ≡ k + n = omega (arith, near.behind, near.upto) in
            let at : offset_of stretch.first + k ≡ place.offset =
            sym (same_offset stretch.first (reference_of place) near.same_segment near.behind) ∙ offset_of_place place.segment place.offset one.fits in
            ap (drop k) (sym own) ∙ ap (λ m. drop k (take m (drop (offset_of stretch.first) segment))) long ∙ drop-take k n (drop (offset_of stretch.first) segment)
            ∙ ap (take n) (drop-drop k (offset_of stretch.first) segment ∙ ap (λ m. drop m segment) at ∙ front.1.2)

        size_seen : chunk_len_at bytes k ≡ Ok (length front.1.0)
        size_seen = size_there front.1.0 one.chunk.content front.0 front.1.1 bytes k n (omega (arith, far)) behind_k content_small

        whole_seen : nat_le (k + length front.1.0) (group_piece stretch).len ≡ true → tests_at query block places (reference_of place) (drop k bytes) ≡ Ok (in_range query one.part)
        whole_seen fits =
            let le : length front.1.0 ≤ n = grind (arith, fits) in
            tests_pass place one (drop k bytes) (subst (λ b. IsFront b one.chunk.content) (sym behind_k) (whole_front front.1.0 one.chunk.content front.0 front.1.1 n le))

        seen : (g : Glimpse) × (glimpse_at (tests_at query block places) (group_of stretch) bytes (reference_of place) ≡ Ok g)
        seen = glimpse_there (tests_at query block places) (group_of stretch) bytes (reference_of place) (length front.1.0) size_seen (in_range query one.part) whole_seen

        -- what sticks out has the chunk's size
        out_is : (len : ℕ) → glimpse_at (tests_at query block places) (group_of stretch) bytes (reference_of place) ≡ Ok (sticks_out len) → length front.1.0 ≡ len
        out_is len is = out_there (tests_at query block places) (group_of stretch) bytes (reference_of place) (length front.1.0) size_seen len is

      -- in a range of its own
      alone_passes : (len : ℕ) → length front.1.0 ≡ len → (bytes : List ℕ) → KnownIn contents (Segment block.ulid (segment_of (reference_of place))) (record { from = offset_of (reference_of place); len = len }) bytes
          → tests_at query block places (reference_of place) bytes ≡ Ok (in_range query one.part)
      alone_passes len size bytes shown =
          let own : take len (drop (offset_of (reference_of place)) segment) ≡ bytes =
          range_in contents query block list holds (Segment block.ulid (segment_of (reference_of place))) segment (record { from = offset_of (reference_of place); len = len }) bytes
          (object (segment_of (reference_of place)) numbered) shown in
          let text : bytes ≡ front.1.0 =
          sym own ∙ ap (λ m. take len (drop m segment)) (offset_of_place place.segment place.offset one.fits) ∙ ap (take len) front.1.2
          ∙ ap (λ m. take m (front.1.0 ++ front.0)) (sym size) ∙ take-append_seam front.1.0 front.0 in
          tests_pass place one bytes ([], (front.1.0, front.1.1, text ∙ sym (append-nil front.1.0)))

    -- ---- what is sought is there

    sought_there : (reference : ℕ) → IsSoughtOf query series reference → (place : ChunkPlace) × Contains places place × (reference_of place ≡ reference)
    sought_there reference sought = of_map reference_of places reference sought

    group_seen : (stretch : Stretch ℕ) (bytes : List ℕ) → KnownIn contents (Segment block.ulid (segment_of stretch.first)) (group_piece stretch) bytes → (reference : ℕ)
        → IsWithin stretch reference → IsSoughtOf query series reference → (g : Glimpse) × (glimpse_at (tests_at query block places) (group_of stretch) bytes reference ≡ Ok g)
    group_seen stretch bytes shown reference near sought =
        let p = sought_there reference sought in
        subst (λ r. (g : Glimpse) × (glimpse_at (tests_at query block places) (group_of stretch) bytes r ≡ Ok g)) p.2
        (seen p.0 (place_there p.0 p.1) stretch (subst (IsWithin stretch) (sym p.2) near) bytes shown)

    out_passes : (stretch : Stretch ℕ) (reference len : ℕ) → SticksOut (KnownIn contents) (WholeIn contents) block.ulid (tests_at query block places) (IsSoughtOf query series) stretch reference len → (bytes : List ℕ)
        → KnownIn contents (Segment block.ulid (segment_of reference)) (record { from = offset_of reference; len = len }) bytes → (part : List Sample) × (tests_at query block places reference bytes ≡ Ok part)
    out_passes stretch reference len out bytes shown =
        let p = sought_there reference out.sought in
        let one = place_there p.0 p.1 in
        let size = out_is p.0 one stretch (subst (IsWithin stretch) (sym p.2) out.within) out.bytes out.known_so len
        (subst (λ r. glimpse_at (tests_at query block places) (group_of stretch) out.bytes r ≡ Ok (sticks_out len)) (sym p.2) out.sees) in (
          in_range query one.part,
          subst (λ r. tests_at query block places r bytes ≡ Ok (in_range query one.part)) p.2
              (alone_passes p.0 one len size bytes (subst (λ r. KnownIn contents (Segment block.ulid (segment_of r)) (record { from = offset_of r; len = len }) bytes) (sym p.2) shown)),
        )

    lacks_no_chunk : (stretch : Stretch ℕ) → LacksChunks (KnownIn contents) (WholeIn contents) block.ulid (tests_at query block places) (IsSoughtOf query series) stretch → ⊥
    lacks_no_chunk stretch (inl (near, bytes, shown, err)) =
        each_read_so (glimpse_at (tests_at query block places) (group_of stretch) bytes) (members stretch)
        (λ reference has.
        let own = each_member (λ r. IsWithin stretch r × IsSoughtOf query series r) (members stretch) reference near has in
        group_seen stretch bytes shown reference own.0 own.1) err
    lacks_no_chunk stretch (inr (reference, len, out, bytes, shown, err)) =
        let part = out_passes stretch reference len out bytes shown in not_refused (tests_at query block places reference bytes) part.0 part.1 err

    keys_there : have_keys places ≡ true
    keys_there = all_of_members (λ (place : ChunkPlace). nat_lt place.segment 999_999) places
        (λ place has.
        let one = place_there place has in
        let below = slice_get_within holds.segments place.segment one.chunk.stands.segment one.chunk.stands.named in
        let few = bounds.few in
        let less : place.segment < 999_999 = omega (arith, below, few) in
        grind (arith, less))

    segment_there : (reference : ℕ) → IsSoughtOf query series reference → (bytes : List ℕ) × (contents (key_text (Segment block.ulid (segment_of reference))) ≡ Some bytes)
    segment_there reference sought =
        let p = sought_there reference sought in
        let one = place_there p.0 p.1 in
        (segment p.0 one, subst (λ r. contents (key_text (Segment block.ulid (segment_of r))) ≡ Some (segment p.0 one)) p.2 (object p.0 one (segment_of (reference_of p.0)) (numbered p.0 one)))

  -- ---- nothing is damaged

  none_spoilt : IsSpoilt (KnownIn contents) (WholeIn contents) query block → ⊥
  none_spoilt (no_index bytes shown err) =
      not_refused (opened_at bytes) holds.index_is.opened (ap opened_at (bytes_so bytes shown) ∙ opens query block holds.index holds.indexed holds.index_is index_own) err
  none_spoilt (no_list bytes opened shown read lack) =
      lacks_none query block holds.index holds.indexed holds.index_is index_own
      (subst (λ (o : Opened). LackLists query block (tables_of o)) (opened_so query block holds.index holds.indexed holds.index_is index_own bytes opened (bytes_so bytes shown) read) lack)
  none_spoilt (no_series bytes opened numbers shown read taken_so err) =
      let same = opened_so query block holds.index holds.indexed holds.index_is index_own bytes opened (bytes_so bytes shown) read in
      let own : AreTaken (KnownIn contents) (WholeIn contents) query block (tables_of holds.index_is.opened) numbers =
      subst (λ (o : Opened). AreTaken (KnownIn contents) (WholeIn contents) query block (tables_of o) numbers) same taken_so in
      let refused : IsErr (each_at (numbered_at holds.index_is.opened.bytes holds.index_is.opened.symbols) numbers) =
      subst (λ b. IsErr (each_at (numbered_at b holds.index_is.opened.symbols) numbers)) (bytes_so bytes shown) (subst (λ (o : Opened). IsErr (each_at (numbered_at bytes o.symbols) numbers)) same err) in
      series_read query block holds.index holds.indexed holds.index_is index_own numbers
      (selects_so query block holds.index holds.indexed holds.index_is index_own numbers own.lists_read own.taken) refused
  none_spoilt (no_key series are none) = true≢false (sym (keys_there series are) ∙ none)
  none_spoilt (no_chunk series stretch are lacks) = lacks_no_chunk series are stretch lacks

  -- ---- the reads of the block

  -- the operation reads what stands
  abbrev ReadsThere : Op → Type 0
  ReadsThere (Get key) = (bytes : List ℕ) × (contents (key_text key) ≡ Some bytes)
  ReadsThere (GetRange key from len) = (bytes : List ℕ) × (contents (key_text key) ≡ Some bytes)
  ReadsThere (Clock moment) = ⊥
  ReadsThere (Put key bytes) = ⊥
  ReadsThere (Delete key) = ⊥
  ReadsThere (RootPage after limit) = ⊥
  ReadsThere (BlockPage ulid after limit) = ⊥

  not_absent : (op : Op) → ReadsThere op → Tells contents op Absent → ⊥
  not_absent (Get key) is none = cc (is.1, none)
  not_absent (GetRange key from len) is none = cc (is.1, none)
  not_absent (Clock moment) is none = is
  not_absent (Put key bytes) is none = is
  not_absent (Delete key) is none = is
  not_absent (RootPage after limit) is none = is
  not_absent (BlockPage ulid after limit) is none = is

  abbrev Shows : Entry → Type 0
  Shows e = Tells contents e.op e.reply

  found_absent : (e : Entry) (op : Op) → ReadsThere op → e.op ≡ op → Shows e → e.reply ≡ Absent → ⊥
  found_absent e op is same shows absent = not_absent op is (subst (λ (r : Reply). Tells contents op r) absent (subst (λ (o : Op). Tells contents o e.reply) same shows))

  abbrev Standing : Range × List ℕ → Type 0
  Standing kept = StandsIn contents kept.0 kept.1

  -- an end of the reads is no miss and no damage
  abbrev IsFound : BlockEnd → Type 0
  IsFound (gives triples cache) = IsCacheOf contents cache
  IsFound (breaks_off (missing number) cache) = ⊥
  IsFound (breaks_off (damaged number) cache) = ⊥
  IsFound (breaks_off (fault number) cache) = Unit {0}

  block_found : (cache : Cache) → IsCacheOf contents cache → EndsAre Shows (λ made end. IsFound end) [] (block_call query block cache)
  block_found cache fine =
      block_holds {E = BlockEnd} breaks_off (EndsAre Shows (λ made end. IsFound end)) ReadsThere Shows (IsCacheOf contents)
      (KnownIn contents) (WholeIn contents)
      (λ made. tt) (λ made op next is on. on) (λ A made Such one next on. on)
      (λ made e op c is same given absent fine. found_absent e op is same given absent) (λ made e landed c given so fine. tt)
      (λ range c fine. all_promoted Standing (same_range range) c.entries fine)
      (λ e key piece bytes c same given found none fine. all_kept Standing same_range c (range_of key piece) bytes none (range_shown contents e key piece bytes same given found) fine)
      (range_shown contents)
      (λ key piece bytes c fine has. kept_under Standing (range_of key piece) c.entries bytes (recursion_from_All Standing c.entries fine) has)
      (whole_shown contents)
      query block (holds.index, holds.index_stands) (λ from len. (holds.index, holds.index_stands)) (λ series are reference sought from len. segment_there series are reference sought)
      (λ made number c spoilt fine. none_spoilt spoilt) (λ after triples. ends (gives triples after))
      (λ made after series all are read_so set fine. fine) [] cache fine

-- ---- calls

abbrev IsToldFound : Contents → Called → Type 0
IsToldFound contents (took taken cache) = Unit {0}
IsToldFound contents (broke (missing number) cache) = ⊥
IsToldFound contents (broke (damaged number) cache) = ⊥
IsToldFound contents (broke (fault number) cache) = Unit {0}

module _ (contents : Contents) (query : Query) where
  abbrev AllFound : List Block → Type 0
  AllFound blocks =
      (taken : List Triple) (before : Cache) (entries : List Entry) (told : Called) → AllByRecursion (λ (e : Entry). Tells contents e.op e.reply) entries → IsCacheOf contents before
      → Runs (reading query blocks taken before) entries (Some told) → IsToldFound contents told

  first_found : (block : Block) (blocks : List Block) (list : List Series) → HoldsWhole contents block list → AllFound blocks → AllFound (block ∷ blocks)
  first_found block blocks list whole later taken before entries told shown fine run =
      by_parts (parts (block_call query block before) (after_block taken (reading query blocks)) entries (Some told) run)
    where
      by_end : (others : List Entry) (last : BlockEnd) → AllByRecursion (λ (e : Entry). Tells contents e.op e.reply) others → IsFound contents query block list whole.holds whole.bounds last
          → Runs (after_block taken (reading query blocks) last) others (Some told) → IsToldFound contents told
      by_end others (gives share next) rest fine run = later (taken ++ share) next others told rest fine run
      by_end others (breaks_off (missing number) next) rest found run = absurd found
      by_end others (breaks_off (damaged number) next) rest found run = absurd found
      by_end others (breaks_off (fault number) next) rest found (none, inl wrong) = absurd (cc (wrong))
      by_end others (breaks_off (fault number) next) rest found (none, inr is) =
          let same : told ≡ broke (fault number) next = cc (is) in subst (IsToldFound contents) (sym same) tt

      by_parts : Parts (block_call query block before) (after_block taken (reading query blocks)) entries (Some told) → IsToldFound contents told
      by_parts (broken first none) = absurd (cc (none))
      by_parts (both own others last is first rest) =
          let each = each_front (λ (e : Entry). Tells contents e.op e.reply) own others (subst (AllByRecursion (λ (e : Entry). Tells contents e.op e.reply)) is shown) in
          by_end others last each.1
          (end_is (λ (e : Entry). Tells contents e.op e.reply) (λ made end. IsFound contents query block list whole.holds whole.bounds end) (block_call query block before) [] own last
          (block_found contents query block list whole.holds whole.bounds before fine) each.0 first) rest

  all_found : (blocks : List Block) (lists : List (List Series)) → AllZip (HoldsWhole contents) blocks lists → AllFound blocks
  all_found [] [] hold taken before entries told shown fine (none, inl wrong) = absurd (cc (wrong))
  all_found [] [] hold taken before entries told shown fine (none, inr is) =
      let same : told ≡ took taken before = cc (is) in subst (IsToldFound contents) (sym same) tt
  all_found [] (list ∷ lists) hold taken before entries told shown fine run = absurd hold
  all_found (block ∷ blocks) [] hold taken before entries told shown fine run = absurd hold
  all_found (block ∷ blocks) (list ∷ lists) hold taken before entries told shown fine run =
      first_found block blocks list hold.0 (all_found blocks lists hold.1) taken before entries told shown fine run

by_told : (contents : Contents) (named : List ℕ) (told : Called) (call : CallEnd) (number : ℕ) → IsToldFound contents told → Gives named told call
    → (call.end ≢ ended.Missing number) × (call.end ≢ ended.Damaged number)
by_told contents named (took taken cache) call number found ((series, set, is, merge, of), same) = ((λ so. cc (is, so)), (λ so. cc (is, so)))
by_told contents named (broke (missing n) cache) call number found (is, same) = absurd found
by_told contents named (broke (damaged n) cache) call number found (is, same) = absurd found
by_told contents named (broke (fault n) cache) call number found (is, same) = ((λ so. cc (is, so)), (λ so. cc (is, so)))

pub finds_blocks : (view : View) (query : Query) (contents : Contents) (lists : List (List Series)) (before : Cache) (entries : List Entry) (call : CallEnd) (number : ℕ)
    → AllZip (HoldsWhole contents) (to_read query view.kept) lists → AreShown contents entries → IsCacheOf contents before → SeriesRun view query before entries (Some call)
    → (call.end ≢ ended.Missing number) × (call.end ≢ ended.Damaged number)
finds_blocks view query contents lists before entries call number hold shown fine (told, run, is) =
    by_told contents (sources_of view.kept) told call number
    (all_found contents query (to_read query view.kept) lists hold [] before entries told (recursion_from_All (λ (e : Entry). Tells contents e.op e.reply) entries shown) fine run) is
