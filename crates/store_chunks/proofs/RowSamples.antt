-- The samples of a series that has its row.
use Rattle.std.proofs.Common.{◌≡◌, ℕ, zero, suc, ◌+◌, ◌-◌, ◌<◌, ◌≤◌, ◌==◌, Bool, true, false, ◌&&◌, List, [], ◌∷◌, ◌++◌, map, take, drop, length, get_or, filter, Option, Some, refl, sym, ap, ap₂, subst, ◌∙◌, append_assoc, append-nil, arith, length-append}
use Rattle.std.specs.Prelude.{find, option_map, unwrap_or, not}
use Rattle.std.specs.List.{flat_map, list_all}
use Rattle.std.specs.List.Sorted.{IsStrictlyIncreasing}
use Rattle.std.proofs.lemmas.List.{take_more, take_all, drop_more, length-map, map-append, nil_from_length}
use Rattle.std.proofs.lemmas.List.Concat.{flat_map-append}
use Rattle.std.proofs.lemmas.List.Elements.{filter-append}
use Rattle.std.proofs.lemmas.Map.Keys.{sorted_from_strictly_increasing, non_decreasing_from_sorted}
use Rattle.std.proofs.lemmas.Bool.Decides.{nat_tests}
use Rattle.base.proofs.Lists.{filter_hit, filter_miss}
use Rattle.label_sets.specs.declared.sample.Sample.{Sample}
use Rattle.label_sets.specs.declared.series.Series.{Series}
use Rattle.label_sets.specs.Finals.{final_of}
use Rattle.label_sets.specs.Triples.{triples_of}
use Rattle.label_sets.proofs.LabelValues.{by_bool}
use Rattle.index_parts.specs.declared.chunk_place.ChunkPlace.{ChunkPlace}
use Rattle.index_parts.specs.SeriesEntry.{reference_of}
use Rattle.index_parts.specs.declared.index_series.IndexSeries.{IndexSeries}
use Rattle.store_ranges.specs.Reads.{Query, Block}
use Rattle.store_chunks.specs.ChunkReads.{Read}
use Rattle.store_chunks.specs.Taken.{samples_of, taken, shown}
use Rattle.store_chunks.specs.ChunksRead.{row_reads, reads_of, references_read, references_in}
use Rattle.store_chunks.specs.RowsFit.{references_taken, row_names, row_references, Begins, HaveRows, row_begun}
use Rattle.store_chunks.specs.declared.chunk_row.RowChunk.{RowChunk}
use Rattle.store_chunks.specs.declared.chunk_row.ChunkRow.{ChunkRow}
use Rattle.store_chunks.proofs.Rows.{row_joined, row_named}
use Rattle.store_chunks.proofs.ShownSamples.{shown_is, more_shown}

-- ---- the chunk of a reference, among those that ascend

reference_before : (front rest : List Read) (k : ℕ) (d : Read) → k < length front → get_or (references_read (front ++ rest)) k 0 ≡ (get_or front k d).reference
reference_before [] rest k d within = absurd (omega (arith, within))
reference_before (x ∷ front) rest zero d within = refl
reference_before (x ∷ front) rest (suc k) d within = reference_before front rest k d (omega (arith, within))

reference_there : (front back : List Read) (m : Read) → get_or (references_read (front ++ m ∷ back)) (length front) 0 ≡ m.reference
reference_there [] back m = refl
reference_there (x ∷ front) back m = reference_there front back m

lesser : (front back : List Read) (m : Read) → IsStrictlyIncreasing (references_read (front ++ m ∷ back)) → (k : ℕ) (d : Read) → k < length front → (get_or front k d).reference < m.reference
lesser front back m up k d within =
    let l = references_read (front ++ m ∷ back) in
    let many : length front < length l = omega (arith, length-map (front ++ m ∷ back) (λ (one : Read). one.reference), length-append front (m ∷ back)) in
    let next : get_or l k 0 < get_or l (k + 1) 0 = up k (omega (arith, within, many)) in
    let le : get_or l (k + 1) 0 ≤ get_or l (length front) 0 = non_decreasing_from_sorted l (sorted_from_strictly_increasing l up) (k + 1) (length front) 0 (omega (arith, within)) many in
    omega (arith, next, le, reference_before front (m ∷ back) k d within, reference_there front back m)

abbrev found_at : List Read → ℕ → Option Read
found_at found r = find (λ one. one.reference == r) found

passed : (one : Read) (found : List Read) (r : ℕ) → (one.reference == r) ≡ false → found_at (one ∷ found) r ≡ found_at found r
passed one found r is = rw is refl

stops : (one : Read) (found : List Read) (r : ℕ) → (one.reference == r) ≡ true → found_at (one ∷ found) r ≡ Some one
stops one found r is = rw is refl

found_behind : (front back : List Read) (m : Read) (r : ℕ) → ((k : ℕ) (d : Read) → k < length front → (get_or front k d).reference < r) → m.reference ≡ r → found_at (front ++ m ∷ back) r ≡ Some m
found_behind [] back m r below is = stops m back r (grind (arith, nat_tests))
found_behind (x ∷ front) back m r below is =
    let less : x.reference < r = below 0 x (omega arith) in
    let f : (x.reference == r) ≡ false = grind (arith, nat_tests) in
    passed x (front ++ m ∷ back) r f ∙ found_behind front back m r (λ k d a. below (suc k) d (omega (arith, a))) is

abbrev samples_in : Option Read → List Sample
samples_in found = unwrap_or (option_map (λ one. one.samples) found) []

samples_found : (front back : List Read) (m : Read) (place : ChunkPlace) → IsStrictlyIncreasing (references_read (front ++ m ∷ back)) → m.reference ≡ reference_of place → samples_of (front ++ m ∷ back) place ≡ m.samples
samples_found front back m place up is =
    ap samples_in (found_behind front back m (reference_of place) (λ k d a. subst (λ (n : ℕ). (get_or front k d).reference < n) is (lesser front back m up k d a)) is)

-- chunks one behind another, by their places
first_same : (a b : ℕ) (others more : List ℕ) → ◌≡◌ {A = List ℕ} (a ∷ others) (b ∷ more) → a ≡ b
first_same a b others more e = cc

rest_same : (a b : ℕ) (others more : List ℕ) → ◌≡◌ {A = List ℕ} (a ∷ others) (b ∷ more) → others ≡ more
rest_same a b others more e = cc

run_found : (front mid back : List Read) (places : List ChunkPlace) → IsStrictlyIncreasing (references_read (front ++ (mid ++ back))) → map reference_of places ≡ references_read mid
    → flat_map (samples_of (front ++ (mid ++ back))) places ≡ flat_map (λ (one : Read). one.samples) mid
run_found front [] back [] up is = refl
run_found front [] back (p ∷ places) up is = absurd (cc (is))
run_found front (m ∷ mid) back [] up is = absurd (cc (is))
run_found front (m ∷ mid) back (p ∷ places) up is =
    let moved : (front ++ m ∷ []) ++ (mid ++ back) ≡ front ++ (m ∷ (mid ++ back)) = append_assoc front (m ∷ []) (mid ++ back) in
    ap₂ (λ (a b : List Sample). a ++ b)
    (samples_found front (mid ++ back) m p up (sym (first_same (reference_of p) m.reference (map reference_of places) (references_read mid) is)))
    (subst (λ (l : List Read). flat_map (samples_of l) places ≡ flat_map (λ (one : Read). one.samples) mid) moved
    (run_found (front ++ m ∷ []) mid back places (subst (λ (l : List Read). IsStrictlyIncreasing (references_read l)) (sym moved) up)
    (rest_same (reference_of p) m.reference (map reference_of places) (references_read mid) is)))

-- ---- the row of a series

row_taken : (query : Query) (one : IndexSeries) (found front others : List ChunkRow) (row : ChunkRow) → IsStrictlyIncreasing (references_in found) → found ≡ front ++ row ∷ others → row_references row ≡ references_taken query one
    → flat_map (samples_of (reads_of found)) (taken query one) ≡ row.samples.items
row_taken query one found front others row up is same =
    let split : reads_of found ≡ reads_of front ++ (row_reads row ++ reads_of others) = ap reads_of is ∙ flat_map-append row_reads front (row ∷ others) in
    ap (λ (l : List Read). flat_map (samples_of l) (taken query one)) split
    ∙ run_found (reads_of front) (row_reads row) (reads_of others) (taken query one) (subst (λ (l : List Read). IsStrictlyIncreasing (references_read l)) split up)
    (sym same ∙ sym (row_named row.samples.items row.chunks.items))
    ∙ row_joined row.samples.items row.chunks.items row.whole

none_mapped : (places : List ChunkPlace) → map reference_of places ≡ [] → places ≡ []
none_mapped [] e = refl
none_mapped (p ∷ places) e = absurd (cc (e))

begun : (query : Query) (one : IndexSeries) (refs : List ℕ) (found front left others : List ChunkRow) → references_taken query one ≡ refs → IsStrictlyIncreasing (references_in found) → found ≡ front ++ left → Begins refs left others
    → row_begun refs left ≡ flat_map (samples_of (reads_of found)) (taken query one)
begun query one [] found front left others e up is begins = sym (ap (flat_map (samples_of (reads_of found))) (none_mapped (taken query one) e))
begun query one (r ∷ refs) found front left others e up is (row, so, same) =
    ap (row_begun (r ∷ refs)) so ∙ sym (row_taken query one found front others row up (is ∙ ap (λ (l : List ChunkRow). front ++ l) so) (same ∙ sym e))

left_behind : (refs : List ℕ) (found front left others : List ChunkRow) → found ≡ front ++ left → Begins refs left others → (more : List ChunkRow) × (found ≡ more ++ others)
left_behind [] found front left others is begins = (front, is ∙ ap (λ (l : List ChunkRow). front ++ l) begins)
left_behind (r ∷ refs) found front left others is (row, so, same) =
    (front ++ row ∷ [], is ∙ ap (λ (l : List ChunkRow). front ++ l) so ∙ sym (append_assoc front (row ∷ []) others))

-- ---- series after series

-- The series up to a place were made of the rows before those that are left, and the others have their rows among these.
pub record RowsLeft (query : Query) (block : Block) (found : List ChunkRow) (series : List IndexSeries) (made : List Series) (i : ℕ) (left : List ChunkRow) : Type 0 where
  pub behind : (front : List ChunkRow) × (found ≡ front ++ left)
  pub have : HaveRows query (drop i series) left
  pub triples : IsStrictlyIncreasing (references_in found) → triples_of made ≡ flat_map (shown query block (reads_of found)) (take i series)

pub rows_begun : (query : Query) (block : Block) (found : List ChunkRow) (series : List IndexSeries) (made : List Series) → made ≡ [] → HaveRows query series found → RowsLeft query block found series made 0 found
unfolding triples_of
rows_begun query block found series made none have = record { behind = ([], refl); have = have; triples = λ up. ap triples_of none }

pub row_more : (query : Query) (block : Block) (found left new : List ChunkRow) (series : List IndexSeries) (i : ℕ) (d here : IndexSeries) (made more : List Series) (one : Series) (samples : List Sample) → i < length series
    → here ≡ get_or series i d
    → RowsLeft query block found series made i left
    → ((others : List ChunkRow) → Begins (references_taken query here) left others → (new ≡ others) × (samples ≡ row_begun (references_taken query here) left))
    → one.labels ≡ final_of here.labels block.external query.replicas → one.samples ≡ samples → more ≡ made ++ one ∷ []
    → RowsLeft query block found series more (i + 1) new
row_more query block found left new series i d here made more one samples within same was took labels kept so =
    let next : drop i series ≡ here ∷ drop (i + 1) series = drop_more series i d within ∙ ap (λ (x : IndexSeries). x ∷ drop (i + 1) series) (sym same) in
    let have : HaveRows query (here ∷ drop (i + 1) series) left = subst (λ (l : List IndexSeries). HaveRows query l left) next was.have in
    let now = took have.0 have.1 in
    let behind : (front : List ChunkRow) × (found ≡ front ++ have.0) = left_behind (references_taken query here) found was.behind.0 left have.0 was.behind.1 have.1 in
    record {
      behind = (behind.0, behind.1 ∙ ap (λ (l : List ChunkRow). behind.0 ++ l) (sym now.0));
      have = subst (HaveRows query (drop (i + 1) series)) (sym now.0) have.2;
      triples = λ up. more_shown (shown query block (reads_of found)) series i d made more one within (was.triples up)
          (shown_is query block (reads_of found) here one.labels one.samples labels
          (kept ∙ now.1 ∙ begun query here (references_taken query here) found was.behind.0 left have.0 refl up was.behind.1 have.1)
          ∙ ap (shown query block (reads_of found)) same)
          so;
    }

-- ---- the tests

-- the row of one series more
pub series_more : (query : Query) (series : List IndexSeries) (found left others : List ChunkRow) (i : ℕ) (d here : IndexSeries) → i < length series → here ≡ get_or series i d
    → (HaveRows query (drop i series) left → HaveRows query series found) → Begins (references_taken query here) left others → HaveRows query (drop (i + 1) series) others → HaveRows query series found
series_more query series found left others i d here within same was begins have =
    let next : drop i series ≡ here ∷ drop (i + 1) series = drop_more series i d within ∙ ap (λ (x : IndexSeries). x ∷ drop (i + 1) series) (sym same) in
    was (subst (λ (l : List IndexSeries). HaveRows query l left) (sym next) (others, begins, have))

-- the first row and the others, as a pattern takes them
all_taken : (xs : List ChunkRow) → take (length xs) xs ≡ xs
all_taken [] = refl
all_taken (x ∷ xs) = ap (λ (l : List ChunkRow). x ∷ l) (all_taken xs)

pub first_row_and : (rows : List ChunkRow) (first : ChunkRow) → 0 < length rows → first ≡ get_or rows 0 first → rows ≡ first ∷ take (length rows - 1) (drop 1 rows)
first_row_and [] first some at = absurd (omega (arith, some))
first_row_and (x ∷ rows) first some at =
    let size : length (x ∷ rows) - 1 ≡ length rows = omega arith in
    ap (λ (y : ChunkRow). y ∷ rows) (sym at) ∙ ap (λ (l : List ChunkRow). first ∷ l) (sym (ap (λ (n : ℕ). take n rows) size ∙ all_taken rows))

-- the same of the chunks of a row
all_chunks : (xs : List RowChunk) → take (length xs) xs ≡ xs
all_chunks [] = refl
all_chunks (x ∷ xs) = ap (λ (l : List RowChunk). x ∷ l) (all_chunks xs)

pub first_chunk_and : (row : List RowChunk) (d : RowChunk) → 0 < length row → row ≡ get_or row 0 d ∷ take (length row - 1) (drop 1 row)
first_chunk_and [] d some = absurd (omega (arith, some))
first_chunk_and (x ∷ row) d some =
    let size : length (x ∷ row) - 1 ≡ length row = omega arith in ap (λ (l : List RowChunk). x ∷ l) (sym (ap (λ (n : ℕ). take n row) size ∙ all_chunks row))

-- no chunk is left
pub no_chunks : (row : List RowChunk) (empty : Bool) → empty ≡ (length row == 0) → empty ≡ true → row ≡ []
no_chunks row empty is none =
    let t : (length row == 0) ≡ true = sym is ∙ none in
    let zero_is : length row ≡ 0 = grind (arith, nat_tests) in
    nil_from_length row zero_is

-- a first row, whose chunks are those of the references
pub begins_with : (refs : List ℕ) (rows others : List ChunkRow) (row : ChunkRow) → rows ≡ row ∷ others → refs ≡ row_references row → (refs ≡ [] → ⊥) → Begins refs rows others
begins_with [] rows others row is same some = absurd (some refl)
begins_with (r ∷ refs) rows others row is same some = (row, is, sym same)

-- no row, where there is no reference
pub begins_not : (refs : List ℕ) (rows : List ChunkRow) → refs ≡ [] → Begins refs rows rows
begins_not refs rows none = subst (λ (l : List ℕ). Begins l rows rows) (sym none) refl

module _ (p : ChunkPlace → Bool) where
  -- the chunk of one place more
  pub place_more : (names : List RowChunk → List ℕ) (row left others : List RowChunk) (places : List ChunkPlace) (i : ℕ) (d : ChunkPlace) → i < length places
      → names row ≡ map reference_of (filter p (take i places)) ++ names left → names left ≡ map reference_of (filter p (get_or places i d ∷ [])) ++ names others
      → names row ≡ map reference_of (filter p (take (i + 1) places)) ++ names others
  place_more names row left others places i d within was is =
      was ∙ ap (λ (l : List ℕ). map reference_of (filter p (take i places)) ++ l) is
      ∙ sym (append_assoc (map reference_of (filter p (take i places))) (map reference_of (filter p (get_or places i d ∷ []))) (names others))
      ∙ ap (λ (l : List ℕ). l ++ names others)
      (sym (ap (λ (l : List ChunkPlace). map reference_of (filter p l)) (take_more places i d within)
      ∙ ap (map reference_of) (filter-append p (take i places) (get_or places i d ∷ []))
      ∙ map-append reference_of (filter p (take i places)) (filter p (get_or places i d ∷ []))))

  pub place_passed : (names others : List ℕ) (place : ChunkPlace) → p place ≡ false → names ≡ others → names ≡ map reference_of (filter p (place ∷ [])) ++ others
  place_passed names others place f same = same ∙ ap (λ (l : List ChunkPlace). map reference_of l ++ others) (sym (filter_miss p place [] f))

  pub place_taken : (names others : List ℕ) (place : ChunkPlace) → p place ≡ true → names ≡ reference_of place ∷ others → names ≡ map reference_of (filter p (place ∷ [])) ++ others
  place_taken names others place t same = same ∙ ap (λ (l : List ChunkPlace). map reference_of l ++ others) (sym (filter_hit p place [] t))

  -- the first chunk is that of the place
  pub place_met : (row others : List RowChunk) (one : RowChunk) (place : ChunkPlace) → p place ≡ true → row ≡ one ∷ others → one.reference ≡ reference_of place
      → row_names row ≡ map reference_of (filter p (place ∷ [])) ++ row_names others
  place_met row others one place t is same = place_taken (row_names row) (row_names others) place t (ap row_names is ∙ ap (λ (n : ℕ). n ∷ row_names others) same)

  -- the chunks of a row are those of all places
  pub places_all : (row left : List RowChunk) (places : List ChunkPlace) (i : ℕ) → length places ≤ i → left ≡ [] → row_names row ≡ map reference_of (filter p (take i places)) ++ row_names left
      → map reference_of (filter p places) ≡ row_names row
  places_all row left places i all none was =
      sym (was ∙ ap (λ (l : List RowChunk). map reference_of (filter p (take i places)) ++ row_names l) none ∙ append-nil (map reference_of (filter p (take i places)))
      ∙ ap (λ (l : List ChunkPlace). map reference_of (filter p l)) (take_all i places all))

  -- whether any place is taken
  pub takes_no : (places : List ChunkPlace) → list_all (λ place. not (p place)) places ≡ true → filter p places ≡ []
  takes_no [] are = refl
  takes_no (x ∷ places) are = by_bool (p x)
      (λ t. let no : false ≡ true = subst (λ (b : Bool). (not b && list_all (λ place. not (p place)) places) ≡ true) t are in absurd (cc (no)))
      (λ f. filter_miss p x places f ∙ takes_no places (passes x places f are))
    where
      passes : (x : ChunkPlace) (places : List ChunkPlace) → p x ≡ false → list_all (λ place. not (p place)) (x ∷ places) ≡ true → list_all (λ place. not (p place)) places ≡ true
      passes x places f are = subst (λ (b : Bool). (not b && list_all (λ place. not (p place)) places) ≡ true) f are

  pub takes_some : (places : List ChunkPlace) → list_all (λ place. not (p place)) places ≡ false → filter p places ≡ [] → ⊥
  takes_some [] are none = absurd (cc (are))
  takes_some (x ∷ places) are none = by_bool (p x)
      (λ t. let is : x ∷ filter p places ≡ [] = sym (filter_hit p x places t) ∙ none in absurd (cc (is)))
      (λ f. takes_some places (fails x places f are) (sym (filter_miss p x places f) ∙ none))
    where
      fails : (x : ChunkPlace) (places : List ChunkPlace) → p x ≡ false → list_all (λ place. not (p place)) (x ∷ places) ≡ false → list_all (λ place. not (p place)) places ≡ false
      fails x places f are = subst (λ (b : Bool). (not b && list_all (λ place. not (p place)) places) ≡ false) f are

  pub some_named : (places : List ChunkPlace) → list_all (λ place. not (p place)) places ≡ false → map reference_of (filter p places) ≡ [] → ⊥
  some_named places some none = takes_some places some (none_mapped (filter p places) none)

  pub none_named : (places : List ChunkPlace) → list_all (λ place. not (p place)) places ≡ true → map reference_of (filter p places) ≡ []
  none_named places none = ap (map reference_of) (takes_no places none)

-- ---- what is taken of the rows

pub took_none : (refs : List ℕ) (old new others : List ChunkRow) (samples : List Sample) → refs ≡ [] → new ≡ old → samples ≡ [] → Begins refs old others → (new ≡ others) × (samples ≡ row_begun refs old)
took_none refs old new others samples none same empty begins =
    (same ∙ subst (λ (l : List ℕ). Begins l old others) none begins, empty ∙ ap (λ (l : List ℕ). row_begun l old) (sym none))

rest_rows : (a b : ChunkRow) (others more : List ChunkRow) → ◌≡◌ {A = List ChunkRow} (a ∷ others) (b ∷ more) → others ≡ more
rest_rows a b others more e = cc

pub took_first : (refs : List ℕ) (old new others : List ChunkRow) (row : ChunkRow) (samples : List Sample) → (refs ≡ [] → ⊥) → old ≡ row ∷ new → samples ≡ row.samples.items → Begins refs old others → (new ≡ others) × (samples ≡ row_begun refs old)
took_first [] old new others row samples some is same begins = absurd (some refl)
took_first (r ∷ refs) old new others row samples some is same (first, so, named) =
    (rest_rows row first new others (sym is ∙ so), same ∙ sym (ap (row_begun (r ∷ refs)) is))

no_row : (row : ChunkRow) (rows : List ChunkRow) → ◌≡◌ {A = List ChunkRow} [] (row ∷ rows) → ⊥
no_row row rows e = cc

-- there is a row, where there is a reference
pub took_nothing : (refs : List ℕ) (old new others : List ChunkRow) (samples : List Sample) → (refs ≡ [] → ⊥) → old ≡ [] → Begins refs old others → (new ≡ others) × (samples ≡ row_begun refs old)
took_nothing [] old new others samples some is begins = absurd (some refl)
took_nothing (r ∷ refs) old new others samples some is (row, so, named) = absurd (no_row row others (sym is ∙ so))
