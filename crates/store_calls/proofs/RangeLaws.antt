-- The samples of an answer lie in the range that is asked for.
use Rattle.std.proofs.Common.{◌≡◌, ◌==◌, ℕ, Bool, true, false, List, [], ◌∷◌, ◌++◌, Some, Ok, refl, sym, subst, inl, inr}
use Rattle.std.specs.Prelude.{All, option_map, unwrap_or}
use Rattle.std.specs.List.{AllByRecursion, find, flat_map}
use Rattle.std.proofs.lemmas.List.Elements.{All-append, All-contains, All-from_recursion, All-nil, All-weaker, filter_passes, recursion_from_All}
use Rattle.base.proofs.Binds.{bind_ok, ok_is}
use Rattle.base.proofs.Lists.{AllByRecursion-append}
use Rattle.block_keys.specs.declared.key.Key.{Key}
use Rattle.label_sets.specs.declared.label.Label.{Label}
use Rattle.label_sets.specs.declared.sample.Sample.{Sample}
use Rattle.label_sets.specs.declared.series.Series.{Series}
use Rattle.label_sets.specs.Finals.{final_of}
use Rattle.label_sets.specs.Triples.{Triple, has_same_key, triples_of, triples_under}
use Rattle.matchers.specs.Selected.{is_between}
use Rattle.vertical_merge.specs.Merged.{IsMerge}
use Rattle.vertical_merge.proofs.Laws.{found_contains}
use Rattle.world_core.specs.Plans.{Runs, ends}
use Rattle.world_core.specs.declared.entry.Entry.{Entry}
use Rattle.world_core.proofs.PlanLaws.{EndsAre, end_is, nothing_given}
use Rattle.world_core.proofs.PlanParts.{Parts, broken, both, parts}
use Rattle.index_parts.specs.SeriesEntry.{reference_of}
use Rattle.index_parts.specs.declared.chunk_place.ChunkPlace.{ChunkPlace}
use Rattle.index_parts.specs.declared.index_series.IndexSeries.{IndexSeries}
use Rattle.store_ranges.specs.IndexRanges.{Piece}
use Rattle.meta_fetcher.specs.declared.view.View.{View}
use Rattle.store_chunks.specs.ChunkReads.{Read, chunk_samples_at, in_range, places_at, tested_at, tests_at}
use Rattle.store_ranges.specs.Reads.{Block, Cache, Query, missing, damaged, fault}
use Rattle.store_chunks.specs.Taken.{samples_of, shown, taken}
use Rattle.store_calls.specs.BlockReads.{BlockEnd, gives, breaks_off, block_call}
use Rattle.store_calls.specs.SeriesCalls.{Called, took, broke, CallEnd, Gives, SeriesRun, after_block, reading, sources_of, to_read}
use Rattle.store_calls.specs.declared.series_call.SeriesEnd.TheVariants as ended
use Rattle.store_calls.proofs.BlockFindings.{AreChunksRead}
use Rattle.store_calls.proofs.BlockWalk.{block_holds}

abbrev IsIn : Query → Triple → Type 0
IsIn query t = is_between query.low query.high t.time ≡ true

abbrev AreIn : Query → List Triple → Type 0
AreIn query triples = All (IsIn query) triples

-- ---- of one block

abbrev AreSamplesIn : Query → List Sample → Type 0
AreSamplesIn query samples = AllByRecursion (λ s. is_between query.low query.high s.time ≡ true) samples

cut_in : (query : Query) (block : Block) (places : List ChunkPlace) (bytes : List ℕ) (samples : List Sample) → chunk_samples_at query block places bytes ≡ Ok samples → AreSamplesIn query samples
unfolding chunk_samples_at
cut_in query block places bytes samples read =
    let one = bind_ok (tested_at block places bytes) _ _ read in
    let same : in_range query one.0 ≡ samples = ok_is {E = Unit {0}} (in_range query one.0) samples one.2 in
    subst (AreSamplesIn query) same
    (recursion_from_All (λ (s : Sample). is_between query.low query.high s.time ≡ true) (in_range query one.0) (filter_passes (λ (s : Sample). is_between query.low query.high s.time) one.0))

-- the samples of each chunk that was read
abbrev AreCut : Query → List Read → Type 0
AreCut query found = AllByRecursion (λ (one : Read). AreSamplesIn query one.samples) found

all_cut : (Known : Key → Piece → List ℕ → Type 0) (Whole : Key → List ℕ → Type 0) (query : Query) (block : Block) (places : List ChunkPlace) (found : List Read)
    → AreChunksRead Known Whole block.ulid (tests_at query block places) found → AreCut query found
all_cut Known Whole query block places [] are = tt
all_cut Known Whole query block places (one ∷ found) are =
    let so = are.0.read_so in
    (cut_in query block (places_at places one.reference) _ one.samples so.reads_as, all_cut Known Whole query block places found are.1)

abbrev samples_at : List Read → ℕ → List Sample
samples_at found reference = unwrap_or (option_map (λ (one : Read). one.samples) (find (λ (one : Read). one.reference == reference) found)) []

first_or_later : (query : Query) (reference : ℕ) (one : Read) (found : List Read) (b : Bool) → (one.reference == reference) ≡ b → AreSamplesIn query one.samples → AreSamplesIn query (samples_at found reference)
    → AreSamplesIn query (samples_at (one ∷ found) reference)
first_or_later query reference one found true is own later = rw is own
first_or_later query reference one found false is own later = rw is later

samples_in : (query : Query) (found : List Read) (reference : ℕ) → AreCut query found → AreSamplesIn query (samples_at found reference)
samples_in query [] reference are = tt
samples_in query (one ∷ found) reference are = first_or_later query reference one found (one.reference == reference) refl are.0 (samples_in query found reference are.1)

all_samples_in : (query : Query) (found : List Read) (places : List ChunkPlace) → AreCut query found → AreSamplesIn query (flat_map (samples_of found) places)
all_samples_in query found [] are = tt
all_samples_in query found (place ∷ places) are =
    AllByRecursion-append (λ (s : Sample). is_between query.low query.high s.time ≡ true) (samples_of found place) (flat_map (samples_of found) places)
    (samples_in query found (reference_of place) are) (all_samples_in query found places are)

under_in : (query : Query) (labels : List Label) (samples : List Sample) → AreSamplesIn query samples → AllByRecursion (IsIn query) (triples_under labels samples)
unfolding triples_under
under_in query labels [] are = tt
under_in query labels (s ∷ samples) are = (are.0, under_in query labels samples are.1)

shown_in : (query : Query) (block : Block) (found : List Read) (series : IndexSeries) → AreCut query found → AreIn query (shown query block found series)
unfolding shown
shown_in query block found series are =
    let labels : List Label = final_of series.labels block.external query.replicas in
    All-from_recursion (IsIn query) (triples_under labels (flat_map (samples_of found) (taken query series)))
    (under_in query labels (flat_map (samples_of found) (taken query series)) (all_samples_in query found (taken query series) are))

all_in : (query : Query) (block : Block) (found : List Read) (series : List IndexSeries) → AreCut query found → AreIn query (flat_map (shown query block found) series)
all_in query block found [] are = All-nil (IsIn query)
all_in query block found (s ∷ series) are =
    All-append (IsIn query) (shown query block found s) (flat_map (shown query block found) series) (shown_in query block found s are) (all_in query block found series are)

abbrev EndIn : Query → BlockEnd → Type 0
EndIn query (gives triples cache) = AreIn query triples
EndIn query (breaks_off why cache) = Unit {0}

block_in : (query : Query) (block : Block) (cache : Cache) → EndsAre (λ e. Unit {0}) (λ made end. EndIn query end) [] (block_call query block cache)
block_in query block cache =
    block_holds {E = BlockEnd} breaks_off (EndsAre (λ e. Unit {0}) (λ made end. EndIn query end)) (λ op. Unit {0}) (λ e. Unit {0}) (λ c. Unit {0}) (λ key piece bytes. Unit {0}) (λ key bytes. Unit {0})
    (λ made. tt) (λ made op next is on. on) (λ A made Such one next on. on) (λ made e op c is same given absent fine. tt) (λ made e landed c given so fine. tt) (λ range c fine. tt) (λ e key piece bytes c same given found none fine. tt)
    (λ e key piece bytes same given found. tt) (λ key piece bytes c fine has. tt) (λ e key bytes same given found. tt)
    query block tt (λ from len. tt) (λ series are reference sought from len. tt) (λ made number c spoilt fine. tt) (λ after triples. ends (gives triples after)) (λ made after series all are read_so set fine.
    all_in query block all series (all_cut (λ key piece bytes. Unit {0}) (λ key bytes. Unit {0}) query block (flat_map (taken query) series) all read_so)) [] cache tt

-- ---- of a call

abbrev ToldIn : Query → Called → Type 0
ToldIn query (took taken cache) = AreIn query taken
ToldIn query (broke why cache) = Unit {0}

abbrev AllTakeIn : Query → List Block → Type 0
AllTakeIn query blocks =
    (taken : List Triple) (before : Cache) (entries : List Entry) (told : Called) → AreIn query taken → Runs (reading query blocks taken before) entries (Some told) → ToldIn query told

first_in : (query : Query) (block : Block) (blocks : List Block) → AllTakeIn query blocks → AllTakeIn query (block ∷ blocks)
first_in query block blocks later taken before entries told all run =
    by_parts (parts (block_call query block before) (after_block taken (reading query blocks)) entries (Some told) run)
  where
    by_end : (others : List Entry) (last : BlockEnd) → EndIn query last → Runs (after_block taken (reading query blocks) last) others (Some told) → ToldIn query told
    by_end others (gives share next) own run = later (taken ++ share) next others told (All-append (IsIn query) taken share all own) run
    by_end others (breaks_off why next) own (none, inl wrong) = absurd (cc (wrong))
    by_end others (breaks_off why next) own (none, inr is) = let same : told ≡ broke why next = cc (is) in subst (ToldIn query) (sym same) tt

    by_parts : Parts (block_call query block before) (after_block taken (reading query blocks)) entries (Some told) → ToldIn query told
    by_parts (broken first none) = absurd (cc (none))
    by_parts (both own others last is first rest) =
        by_end others last
        (end_is (λ e. Unit {0}) (λ made end. EndIn query end) (block_call query block before) [] own last (block_in query block before) (nothing_given own) first) rest

reading_in : (query : Query) (blocks : List Block) → AllTakeIn query blocks
reading_in query [] taken before entries told all (none, inl wrong) = absurd (cc (wrong))
reading_in query [] taken before entries told all (none, inr is) = let same : told ≡ took taken before = cc (is) in subst (ToldIn query) (sym same) all
reading_in query (block ∷ blocks) taken before entries told all run = first_in query block blocks (reading_in query blocks) taken before entries told all run

-- what is merged was taken
merged_in : (query : Query) (taken : List Triple) (series : List Series) → AreIn query taken → IsMerge taken series → AreIn query (triples_of series)
merged_in query taken series all merge =
    All-weaker (λ (t : Triple). find (has_same_key t) taken ≡ Some t) (IsIn query) (λ t first. All-contains (IsIn query) taken t all (found_contains (has_same_key t) taken t first)) (triples_of series) merge.first.first

abbrev answer : List Series → List ℕ → Cache → CallEnd
answer series sources after = record { end = ended.Answer series sources; cache = after }

by_told : (query : Query) (all : List ℕ) (told : Called) (series : List Series) (sources : List ℕ) (after : Cache) → ToldIn query told → Gives all told (answer series sources after)
    → AreIn query (triples_of series)
by_told query all (took taken cache) series sources after own ((others, set, is, merge, of), same) =
    let same_series : series ≡ others = cc (is) in
    subst (λ (l : List Series). AreIn query (triples_of l)) (sym same_series) (merged_in query taken others own merge)
by_told query all (broke (missing number) cache) series sources after own (is, same) = absurd (cc (is))
by_told query all (broke (damaged number) cache) series sources after own (is, same) = absurd (cc (is))
by_told query all (broke (fault number) cache) series sources after own (is, same) = absurd (cc (is))

pub answer_in : (view : View) (query : Query) (before after : Cache) (entries : List Entry) (series : List Series) (sources : List ℕ)
    → SeriesRun view query before entries (Some (answer series sources after)) → AreIn query (triples_of series)
answer_in view query before after entries series sources (told, run, is) =
    by_told query (sources_of view.kept) told series sources after (reading_in query (to_read query view.kept) [] before entries told (All-nil (IsIn query)) run) is
