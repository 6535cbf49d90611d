-- How the plan of the reads of chunks goes on, by what was found.
use Rattle.std.proofs.Common.{◌≡◌, Vec, Global, ℕ, ◌+◌, ◌*◌, ◌<◌, ◌≤◌, true, false, List, [], ◌∷◌, ◌++◌, length, map, refl, sym, ap, subst, ◌∙◌, inr, append_assoc, append-nil, Some, Result, Ok, arith}
use Rattle.std.specs.Prelude.{zip, IsErr}
use Rattle.std.specs.List.{flat_map}
use Rattle.std.proofs.lemmas.List.{length-map}
use Rattle.std.specs.List.Sorted.{IsPermutation, IsNonDecreasingBy, IsStrictlyIncreasing}
use Rattle.base.specs.declared.memory.NoMemory.{NoMemory}
use Rattle.label_sets.specs.declared.sample.Sample.{Sample}
use Rattle.label_sets.specs.declared.series.Series.{Series}
use Rattle.label_sets.specs.Triples.{triples_of}
use Rattle.block_keys.specs.declared.key.Key.TheVariants.{Segment}
use Rattle.world_core.specs.Plans.{Plan, Keeps, ends, finds}
use Rattle.world_core.specs.declared.op.Op.TheVariants.{GetRange}
use Rattle.world_core.proofs.PlanLaws.{comes_kept}
use Rattle.index_parts.specs.declared.chunk_place.ChunkPlace.{ChunkPlace}
use Rattle.index_parts.specs.SeriesEntry.{reference_of}
use Rattle.index_parts.specs.declared.index_series.IndexSeries.{IndexSeries}
use Rattle.base.specs.Firsts.{each_at}
use Rattle.base.proofs.FirstLaws.{each_many}
use Rattle.store_ranges.specs.Stretches.{Stretch, members}
use Rattle.store_ranges.specs.OneCut.{one_cut}
use Rattle.store_ranges.specs.OneSet.{one_set}
use Rattle.store_ranges.specs.ChunkRanges.{Group, group_of, AreGroups, IsNear, IsSetOf, offset_of}
use Rattle.store_ranges.specs.Reads.{Query, Block, Cache, damaged}
use Rattle.store_ranges.specs.IndexReads.{reached}
use Rattle.store_chunks.specs.ChunkReads.{Read, read, Tests, Glimpse, shows, sticks_out, glimpse_at, tests_at, reads_out, reads_groups, reads_references, have_keys}
use Rattle.store_chunks.specs.Taken.{taken, shown}
use Rattle.store_calls.specs.BlockReads.{BlockEnd, gives, breaks_off}
use Rattle.store_ranges.specs.Asking.{query_asked, block_asked}
use Rattle.store_ranges.specs.ToRead.{group_read, AreGroupsToRead}
use Rattle.store_chunks.specs.Glimpsed.{pending_chunk, shown_first}
use Rattle.store_chunks.specs.ChunksRead.{reads_of, references_read, references_in}
use Rattle.store_calls.specs.BlockRuns.{Leading, IsEnd}
use Rattle.store_calls.specs.WorkStates.{Where, Leads, most, AreInOrder, IsGroupWork, IsSingleWork, ArePending, references_left, references_pending, shows_all, shows_groups, shows_out, later_groups, with_group, with_single, chunks_left}
use Rattle.store_ranges.specs.declared.asked.Asked.{Asked}
use Rattle.store_calls.specs.declared.block_call.BlockOutcome.TheVariants as outcome
use Rattle.store_ranges.specs.declared.group_read.GroupRead.{GroupRead}
use Rattle.store_chunks.specs.declared.glimpse.Pending.{Pending}
use Rattle.store_chunks.specs.declared.chunk_row.ChunkRow.{ChunkRow}
use Rattle.store_calls.specs.declared.work.ChunkWork.{ChunkWork}
use Rattle.store_calls.specs.declared.work.Work.TheVariants as work
use Rattle.store_calls.specs.ChunkFindings.{ShowsFirst}
use Rattle.store_calls.specs.declared.chunk_steps.Shown.{Shown as Came}
use Rattle.store_calls.specs.declared.chunk_steps.Shown.TheVariants.{SticksOut, All}
use Rattle.store_calls.specs.declared.work.Step.{Step}
use Rattle.store_calls.specs.declared.work.Step.TheVariants.{Wait}
use Rattle.store_calls.proofs.Leading.{keeps_all, keeps_on, keeps_true, keeps_false, keeps_read, keeps_refused, keeps_found, leads_where, leads_held, breaks}
use Rattle.store_calls.proofs.SameTests.{same_tests}

-- ---- lists

abbrev firsts : List (ℕ × Glimpse) → List ℕ
firsts chunks = map (λ (one : ℕ × Glimpse). one.0) chunks

read_push : (found : List Read) (one : Read) → references_read (found ++ one ∷ []) ≡ references_read found ++ one.reference ∷ []
read_push [] one = refl
read_push (x ∷ found) one = ap (λ (l : List ℕ). x.reference ∷ l) (read_push found one)

firsts_zip : (xs : List ℕ) (ys : List Glimpse) → length xs ≡ length ys → firsts (zip xs ys) ≡ xs
firsts_zip [] ys same = refl
firsts_zip (x ∷ xs) [] same = absurd (omega (arith, same))
firsts_zip (x ∷ xs) (y ∷ ys) same = ap (λ (l : List ℕ). x ∷ l) (firsts_zip xs ys (omega (arith, same)))

firsts_pending : (pending : List Pending) → firsts (map pending_chunk pending) ≡ references_pending pending
firsts_pending [] = refl
firsts_pending (one ∷ pending) = ap (λ (l : List ℕ). one.reference ∷ l) (firsts_pending pending)

left_as : (groups : List GroupRead) → references_left groups ≡ flat_map (λ (group : Group). group.references) (map group_read groups)
left_as [] = refl
left_as (group ∷ groups) = ap (λ (l : List ℕ). group.references ++ l) (left_as groups)

cut_as : (cut : List (Stretch ℕ)) → flat_map (λ (group : Group). group.references) (map group_of cut) ≡ flat_map members cut
cut_as [] = refl
cut_as (one ∷ cut) = ap (λ (l : List ℕ). members one ++ l) (cut_as cut)

-- ---- the chunks that were shown

pub out_first : {E : Type 0} (breaking : _) (ulid : ℕ) (tests : Tests) (cache : Cache) (group : Group) (next : List Read → Plan E) (chunks : List (ℕ × Glimpse)) (found : List Read)
    → Keeps (reads_out breaking ulid tests cache group next (shown_first chunks found).1 (shown_first chunks found).0) (reads_out breaking ulid tests cache group next chunks found)
out_first breaking ulid tests cache group next [] found = keeps_all (next found)
out_first breaking ulid tests cache group next ((reference, shows samples) ∷ chunks) found = out_first breaking ulid tests cache group next chunks (found ++ read reference samples ∷ [])
out_first breaking ulid tests cache group next ((reference, sticks_out len) ∷ chunks) found = keeps_all (reads_out breaking ulid tests cache group next ((reference, sticks_out len) ∷ chunks) found)

order_first : (chunks : List (ℕ × Glimpse)) (found : List Read) → references_read (shown_first chunks found).0 ++ firsts (shown_first chunks found).1 ≡ references_read found ++ firsts chunks
order_first [] found = refl
order_first ((reference, shows samples) ∷ chunks) found =
    order_first chunks (found ++ read reference samples ∷ []) ∙ ap (λ (l : List ℕ). l ++ firsts chunks) (read_push found (read reference samples)) ∙ append_assoc (references_read found) (reference ∷ []) (firsts chunks)
order_first ((reference, sticks_out len) ∷ chunks) found = refl

few_first : (chunks : List (ℕ × Glimpse)) (found : List Read) → length (shown_first chunks found).1 ≤ length chunks
few_first [] found = omega (arith)
few_first ((reference, shows samples) ∷ chunks) found = let less = few_first chunks (found ++ read reference samples ∷ []) in omega (arith, less)
few_first ((reference, sticks_out len) ∷ chunks) found = omega (arith)

-- the order of all chunks stays
moved_order : (chunks : List Pending) (old new : List ChunkRow) (rest : List (ℕ × Glimpse)) → shown_first (map pending_chunk chunks) (reads_of old) ≡ (reads_of new, rest)
    → references_in new ++ firsts rest ≡ references_in old ++ references_pending chunks
moved_order chunks old new rest is =
    sym (ap (λ (p : List Read × List (ℕ × Glimpse)). references_read p.0 ++ firsts p.1) is)
    ∙ order_first (map pending_chunk chunks) (reads_of old) ∙ ap (λ (l : List ℕ). references_in old ++ l) (firsts_pending chunks)

still_rise : (chunks : List Pending) (old new : List ChunkRow) (rest : List (ℕ × Glimpse)) (left : List ℕ) → shown_first (map pending_chunk chunks) (reads_of old) ≡ (reads_of new, rest)
    → IsStrictlyIncreasing (references_in old ++ (references_pending chunks ++ left)) → IsStrictlyIncreasing (references_in new ++ (firsts rest ++ left))
still_rise chunks old new rest left is rise =
    subst IsStrictlyIncreasing (sym (append_assoc (references_in old) (references_pending chunks) left) ∙ ap (λ (l : List ℕ). l ++ left) (sym (moved_order chunks old new rest is)) ∙ append_assoc (references_in new) (firsts rest) left) rise

-- fewer chunks are left behind one that sticks out
fewer : (chunks pending : List Pending) (old new : List Read) (one : ℕ × Glimpse) → shown_first (map pending_chunk chunks) old ≡ (new, one ∷ map pending_chunk pending) → length pending < length chunks
fewer chunks pending old new one is =
    let less : length (one ∷ map pending_chunk pending) ≤ length (map pending_chunk chunks) = subst (λ (p : List Read × List (ℕ × Glimpse)). length p.1 ≤ length (map pending_chunk chunks)) is (few_first (map pending_chunk chunks) old) in
    let many : length (map pending_chunk pending) ≡ length pending = length-map pending pending_chunk in
    let all : length (map pending_chunk chunks) ≡ length chunks = length-map chunks pending_chunk in
    omega (arith, less, many, all)

-- the same work with other chunks that were read
abbrev pub with_found : ChunkWork → Vec ChunkRow Global → ChunkWork
with_found one found = record { series = one.series; places = one.places; group = one.group; later = one.later; found = found }

-- ---- the steps

module _ (asked : Asked) where
  abbrev Q : Query
  Q = query_asked asked

  abbrev B : Block
  B = block_asked asked

  -- the next group is asked for
  pub group_asked : (cache : Cache) (groups : List GroupRead) (one : ChunkWork) → groups ≡ one.group ∷ one.later.items
      → Leads asked cache (most * length groups + 1) (Where (AreInOrder one.places.items one.found.items (references_left groups)) (Leading (shows_groups asked cache one.series.items one.places.items groups (reads_of one.found.items))))
      (Ok (Wait (GetRange (Segment asked.ulid one.group.segment) one.group.range.from one.group.range.len) (work.Group one)))
  group_asked cache groups one is =
      subst (λ (gs : List GroupRead). Leads asked cache (most * length gs + 1) (Where (AreInOrder one.places.items one.found.items (references_left gs)) (Leading (shows_groups asked cache one.series.items one.places.items gs (reads_of one.found.items)))) (Ok (Wait (GetRange (Segment asked.ulid one.group.segment) one.group.range.from one.group.range.len) (work.Group one)))) (sym is)
      (record {
        lawful = (one.group.lowest, one.group.highest);
        asks = refl;
        falls = omega (arith);
        onward = λ entries end left run order. run order;
      })

  -- all groups were read
  pub all_read : (cache : Cache) (series : List IndexSeries) (places : List ChunkPlace) (groups : List GroupRead) (found : List ChunkRow) (made : List Series) → groups ≡ []
      → (IsStrictlyIncreasing (references_in found) → triples_of made ≡ flat_map (shown Q B (reads_of found)) series)
      → Where (AreInOrder places found (references_left groups)) (Leading (shows_groups asked cache series places groups (reads_of found))) [] (Some (outcome.Taken made)) cache
  all_read cache series places groups found made is triples =
      subst (λ (gs : List GroupRead). Where (AreInOrder places found (references_left gs)) (Leading (shows_groups asked cache series places gs (reads_of found))) [] (Some (outcome.Taken made)) cache) (sym is)
      (λ order. (gives (flat_map (shown Q B (reads_of found)) series) cache, (refl, inr refl), ((made, refl, triples (subst IsStrictlyIncreasing (append-nil (references_in found)) order.rise)), refl)))

  -- the read of a group shows its chunks
  abbrev pub Shown : ChunkWork → List ℕ → List ChunkRow → List Pending → Type 0
  Shown one bytes found pending =
      (seen : List Glimpse) × (each_at (glimpse_at (tests_at Q B one.places.items) (group_read one.group) bytes) one.group.references ≡ Ok seen)
      × ◌≡◌ {A = List Read × List (ℕ × Glimpse)} (reads_of found, map pending_chunk pending) (shown_first (zip one.group.references seen) (reads_of one.found.items))

  shown_rise : (one : ChunkWork) (bytes : List ℕ) (found : List ChunkRow) (pending : List Pending) → Shown one bytes found pending
      → IsStrictlyIncreasing (references_in one.found.items ++ (one.group.references ++ references_left one.later.items)) → IsStrictlyIncreasing (references_in found ++ (references_pending pending ++ references_left one.later.items))
  shown_rise one bytes found pending are rise =
      let moved : references_in found ++ references_pending pending ≡ references_in one.found.items ++ one.group.references =
      ap (λ (l : List ℕ). references_in found ++ l) (sym (firsts_pending pending))
      ∙ ap (λ (p : List Read × List (ℕ × Glimpse)). references_read p.0 ++ firsts p.1) are.2
      ∙ order_first (zip one.group.references are.0) (reads_of one.found.items)
      ∙ ap (λ (l : List ℕ). references_in one.found.items ++ l) (firsts_zip one.group.references are.0 (each_many _ one.group.references are.0 are.1)) in
      subst IsStrictlyIncreasing
      (sym (append_assoc (references_in one.found.items) one.group.references (references_left one.later.items)) ∙ ap (λ (l : List ℕ). l ++ references_left one.later.items) (sym moved)
      ∙ append_assoc (references_in found) (references_pending pending) (references_left one.later.items)) rise

  pub group_shown : (cache : Cache) (one : ChunkWork) (found : Vec ChunkRow Global) (pending : List Pending) (seq : ℕ) (bytes : List ℕ) (r : Result Step NoMemory) → length pending + 1 ≤ most
      → (IsNonDecreasingBy reference_of one.places.items → Shown one bytes found.items pending)
      → Leads asked cache (most * length one.later.items + length pending + 1) (Where (ArePending (with_found one found) pending) (Leading (shows_out asked cache (with_found one found) (map pending_chunk pending) (reads_of found.items)))) r
      → Leads asked cache (most * length one.later.items + most) (Where (IsGroupWork one) (Leading (with_group asked cache one seq bytes))) r
  group_shown cache one found pending seq bytes r few shown_are leads =
      leads_where asked cache (most * length one.later.items + length pending + 1) (most * length one.later.items + most) (ArePending (with_found one found) pending) (IsGroupWork one)
      (shows_out asked cache (with_found one found) (map pending_chunk pending) (reads_of found.items)) (with_group asked cache one seq bytes) r
      (omega (arith, few))
      (λ order. record { ascend = order.ascend; rise = shown_rise one bytes found.items pending (shown_are order.ascend) order.rise })
      (λ order. let are = shown_are order.ascend in
      subst (λ (p : List Read × List (ℕ × Glimpse)). Keeps (shows_out asked cache one p.1 p.0) (with_group asked cache one seq bytes)) (sym are.2)
      (keeps_on (shows_out asked cache one (shown_first (zip one.group.references are.0) (reads_of one.found.items)).1 (shown_first (zip one.group.references are.0) (reads_of one.found.items)).0)
      (shows_out asked cache one (zip one.group.references are.0) (reads_of one.found.items)) (with_group asked cache one seq bytes)
      (out_first breaks_off B.ulid (tests_at Q B one.places.items) cache (group_read one.group) (later_groups asked one cache) (zip one.group.references are.0) (reads_of one.found.items))
      (keeps_read (each_at (glimpse_at (tests_at Q B one.places.items) (group_read one.group) bytes) one.group.references) are.0 _ _ are.1)))
      leads

  -- it shows none
  pub group_damaged : (cache : Cache) (one : ChunkWork) (seq : ℕ) (bytes : List ℕ)
      → (IsNonDecreasingBy reference_of one.places.items → IsErr (each_at (glimpse_at (tests_at Q B one.places.items) (group_read one.group) bytes) one.group.references))
      → Where (IsGroupWork one) (Leading (with_group asked cache one seq bytes)) [] (Some (outcome.Damaged seq)) cache
  group_damaged cache one seq bytes refused = λ order.
      comes_kept (ends (breaks_off (damaged seq) cache)) (with_group asked cache one seq bytes) (IsEnd cache) (keeps_refused _ _ _ (refused order.ascend)) [] (Some (outcome.Damaged seq)) (breaks cache (damaged seq))

  -- a chunk sticks out
  abbrev AsksSingle : Cache → ChunkWork → List Pending → Came → Type 0
  AsksSingle cache one chunks (SticksOut found reference len pending) =
      Leads asked cache (most * length one.later.items + length chunks + 1) (Where (ArePending one chunks) (Leading (shows_out asked cache one (map pending_chunk chunks) (reads_of one.found.items))))
      (Ok (Wait (GetRange (Segment asked.ulid one.group.segment) (offset_of reference) len) (work.Single (with_found one found) reference len pending)))
  AsksSingle cache one chunks (All found) = Unit {0}

  pub single_asked : (cache : Cache) (one : ChunkWork) (chunks : List Pending) (shown : Came) → ShowsFirst one.found.items chunks shown → AsksSingle cache one chunks shown
  single_asked cache one chunks (All found) is = tt
  single_asked cache one chunks (SticksOut found reference len pending) is =
      let less = fewer chunks pending.items (reads_of one.found.items) (reads_of found.items) (reference, sticks_out len) is in
      record {
        lawful = (one.group.lowest, one.group.highest);
        asks = refl;
        falls = omega (arith, less);
        onward = λ entries end left run order.
            comes_kept (shows_out asked cache one ((reference, sticks_out len) ∷ map pending_chunk pending.items) (reads_of found.items)) (shows_out asked cache one (map pending_chunk chunks) (reads_of one.found.items)) (IsEnd left)
            (subst (λ (p : List Read × List (ℕ × Glimpse)). Keeps (shows_out asked cache one p.1 p.0) (shows_out asked cache one (map pending_chunk chunks) (reads_of one.found.items))) is
            (out_first breaks_off B.ulid (tests_at Q B one.places.items) cache (group_read one.group) (later_groups asked one cache) (map pending_chunk chunks) (reads_of one.found.items))) entries end
            (run (record {
              ascend = order.ascend;
              rise = subst (λ (l : List ℕ). IsStrictlyIncreasing (references_in found.items ++ (reference ∷ (l ++ references_left one.later.items)))) (firsts_pending pending.items)
                  (still_rise chunks one.found.items found.items ((reference, sticks_out len) ∷ map pending_chunk pending.items) (references_left one.later.items) is order.rise);
            }));
      }

  -- all of them were shown
  pub all_shown_on : (cache : Cache) (one : ChunkWork) (found : Vec ChunkRow Global) (chunks : List Pending) (r : Result Step NoMemory)
      → shown_first (map pending_chunk chunks) (reads_of one.found.items) ≡ (reads_of found.items, [])
      → Leads asked cache (most * length one.later.items + 1) (Where (AreInOrder one.places.items found.items (references_left one.later.items)) (Leading (shows_groups asked cache one.series.items one.places.items one.later.items (reads_of found.items)))) r
      → Leads asked cache (most * length one.later.items + length chunks + 1) (Where (ArePending one chunks) (Leading (shows_out asked cache one (map pending_chunk chunks) (reads_of one.found.items)))) r
  all_shown_on cache one found chunks r is leads =
      leads_where asked cache (most * length one.later.items + 1) (most * length one.later.items + length chunks + 1) (AreInOrder one.places.items found.items (references_left one.later.items)) (ArePending one chunks)
      (shows_groups asked cache one.series.items one.places.items one.later.items (reads_of found.items)) (shows_out asked cache one (map pending_chunk chunks) (reads_of one.found.items)) r
      (omega (arith))
      (λ order. record { ascend = order.ascend; rise = still_rise chunks one.found.items found.items [] (references_left one.later.items) is order.rise })
      (λ order. subst (λ (p : List Read × List (ℕ × Glimpse)). Keeps (shows_out asked cache one p.1 p.0) (shows_out asked cache one (map pending_chunk chunks) (reads_of one.found.items))) is
      (out_first breaks_off B.ulid (tests_at Q B one.places.items) cache (group_read one.group) (later_groups asked one cache) (map pending_chunk chunks) (reads_of one.found.items)))
      leads

  -- a chunk that stuck out was read
  pub single_read : (cache : Cache) (one : ChunkWork) (found : Vec ChunkRow Global) (reference : ℕ) (pending : List Pending) (seq : ℕ) (bytes : List ℕ) (r : Result Step NoMemory)
      → (IsNonDecreasingBy reference_of one.places.items
      → (samples : List Sample) × (tests_at Q B one.places.items reference bytes ≡ Ok samples) × (reads_of found.items ≡ reads_of one.found.items ++ read reference samples ∷ []))
      → Leads asked cache (most * length one.later.items + length pending + 1) (Where (ArePending (with_found one found) pending) (Leading (shows_out asked cache (with_found one found) (map pending_chunk pending) (reads_of found.items)))) r
      → Leads asked cache (most * length one.later.items + length pending + 1) (Where (IsSingleWork one reference pending) (Leading (with_single asked cache one reference pending seq bytes))) r
  single_read cache one found reference pending seq bytes r tested leads =
      leads_where asked cache (most * length one.later.items + length pending + 1) (most * length one.later.items + length pending + 1) (ArePending (with_found one found) pending) (IsSingleWork one reference pending)
      (shows_out asked cache (with_found one found) (map pending_chunk pending) (reads_of found.items)) (with_single asked cache one reference pending seq bytes) r
      (omega (arith))
      (λ order. let are = tested order.ascend in record {
        ascend = order.ascend;
        rise = subst IsStrictlyIncreasing
            (sym (append_assoc (references_in one.found.items) (reference ∷ []) (references_pending pending ++ references_left one.later.items))
            ∙ ap (λ (l : List ℕ). l ++ (references_pending pending ++ references_left one.later.items))
            (sym (read_push (reads_of one.found.items) (read reference are.0)) ∙ sym (ap references_read are.2))) order.rise;
      })
      (λ order. let are = tested order.ascend in
      subst (λ (l : List Read). Keeps (shows_out asked cache one (map pending_chunk pending) l) (with_single asked cache one reference pending seq bytes)) (sym are.2)
      (keeps_read (tests_at Q B one.places.items reference bytes) are.0 _ _ are.1))
      leads

  pub single_damaged : (cache : Cache) (one : ChunkWork) (reference : ℕ) (pending : List Pending) (seq : ℕ) (bytes : List ℕ)
      → (IsNonDecreasingBy reference_of one.places.items → IsErr (tests_at Q B one.places.items reference bytes))
      → Where (IsSingleWork one reference pending) (Leading (with_single asked cache one reference pending seq bytes)) [] (Some (outcome.Damaged seq)) cache
  single_damaged cache one reference pending seq bytes refused = λ order.
      comes_kept (ends (breaks_off (damaged seq) cache)) (with_single asked cache one reference pending seq bytes) (IsEnd cache) (keeps_refused _ _ _ (refused order.ascend)) [] (Some (outcome.Damaged seq)) (breaks cache (damaged seq))

  -- ---- the begin

  abbrev places_of : List IndexSeries → List ChunkPlace
  places_of series = flat_map (taken Q) series

  -- a segment has a number that no key can have
  pub no_keys : (cache : Cache) (last : ℕ) (series : List IndexSeries) → have_keys (places_of series) ≡ false → Leading (chunks_left asked (reached last cache) series) [] (Some (outcome.Damaged last)) cache
  no_keys cache last series is =
      comes_kept (ends (breaks_off (damaged last) cache)) (chunks_left asked (reached last cache) series) (IsEnd cache) (keeps_false (have_keys (places_of series)) _ _ is) [] (Some (outcome.Damaged last)) (breaks cache (damaged last))

  abbrev Left : List IndexSeries → Cache → List (Stretch ℕ) → Plan BlockEnd
  Left series cache cut = reads_groups breaks_off B.ulid (tests_at Q B (places_of series)) cache (shows_all Q B cache series) (map group_of cut) []

  abbrev Cut : List IndexSeries → Cache → List ℕ → Plan BlockEnd
  Cut series cache found = reads_references breaks_off B.ulid (tests_at Q B (places_of series)) cache (shows_all Q B cache series) found

  groups_kept : (cache : Cache) (last : ℕ) (series : List IndexSeries) (sorted : List ChunkPlace) (references : List ℕ) (groups : List GroupRead) → have_keys (places_of series) ≡ true
      → IsSetOf (map reference_of (places_of series)) references → AreGroupsToRead references groups → IsPermutation (places_of series) sorted
      → Keeps (shows_groups asked cache series sorted groups []) (chunks_left asked (reached last cache) series)
  groups_kept cache last series sorted references groups keys set (cut, are, same) permuted =
      subst (λ (t : Tests). Keeps (reads_groups breaks_off B.ulid t cache (shows_all Q B cache series) (map group_read groups) []) (chunks_left asked (reached last cache) series)) (same_tests Q B (places_of series) sorted permuted)
      (subst (λ (gs : List Group). Keeps (reads_groups breaks_off B.ulid (tests_at Q B (places_of series)) cache (shows_all Q B cache series) gs []) (chunks_left asked (reached last cache) series)) (sym same)
      (keeps_on (Left series cache cut) (finds (IsSetOf (map reference_of (places_of series))) (one_set (map reference_of (places_of series))) (λ found. Cut series cache found)) (chunks_left asked (reached last cache) series)
      (keeps_on (Left series cache cut) (Cut series cache references) (finds (IsSetOf (map reference_of (places_of series))) (one_set (map reference_of (places_of series))) (λ found. Cut series cache found))
      (keeps_found (AreGroups references) (one_cut IsNear references) (λ found. Left series cache found) cut are)
      (keeps_found (IsSetOf (map reference_of (places_of series))) (one_set (map reference_of (places_of series))) (λ found. Cut series cache found) references set))
      (keeps_true (have_keys (places_of series)) (finds (IsSetOf (map reference_of (places_of series))) (one_set (map reference_of (places_of series))) (λ found. Cut series cache found)) (ends (breaks_off (damaged last) cache)) keys)))

  left_are : (references : List ℕ) (groups : List GroupRead) → AreGroupsToRead references groups → references_left groups ≡ references
  left_are references groups (cut, are, same) = left_as groups ∙ ap (flat_map (λ (group : Group). group.references)) same ∙ cut_as cut ∙ are.whole

  pub chunks_begun : (cache : Cache) (last : ℕ) (series : List IndexSeries) (sorted : List ChunkPlace) (references : List ℕ) (groups : List GroupRead) (found : List ChunkRow) (r : Result Step NoMemory) → have_keys (places_of series) ≡ true
      → IsSetOf (map reference_of (places_of series)) references → AreGroupsToRead references groups → IsPermutation (places_of series) sorted → IsNonDecreasingBy reference_of sorted → found ≡ [] → length groups ≤ most
      → Leads asked cache (most * length groups + 1) (Where (AreInOrder sorted found (references_left groups)) (Leading (shows_groups asked cache series sorted groups (reads_of found)))) r
      → Leads asked cache (3 * most * most) (Leading (chunks_left asked (reached last cache) series)) r
  chunks_begun cache last series sorted references groups found r keys set are permuted ascend none few leads =
      leads_held asked cache (most * length groups + 1) (3 * most * most) (AreInOrder sorted [] (references_left groups)) (shows_groups asked cache series sorted groups []) (chunks_left asked (reached last cache) series) r
      (omega (arith, few)) (record { ascend = ascend; rise = subst IsStrictlyIncreasing (sym (left_are references groups are)) set.increasing })
      (groups_kept cache last series sorted references groups keys set are permuted)
      (subst (λ (l : List ChunkRow). Leads asked cache (most * length groups + 1) (Where (AreInOrder sorted l (references_left groups)) (Leading (shows_groups asked cache series sorted groups (reads_of l)))) r) none leads)
