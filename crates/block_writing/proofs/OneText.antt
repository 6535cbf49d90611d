-- Series that are put have one index and one list of segments, since runs are cut in one way.
use Rattle.std.proofs.Common.{◌≡◌, ℕ, ◌≤◌, List, [], ◌∷◌, ◌++◌, length, map, Option, None, Some, refl, sym, ap, subst, ◌∙◌, length-append, arith, ◌⊎◌, inl, inr, ℤ}
use Rattle.std.specs.List.{flat_map, AllByRecursion, AllZip}
use Rattle.std.proofs.lemmas.Grind.{flat_map-append}
use Rattle.base.proofs.Lists.{cons_parts}
use Rattle.label_sets.specs.declared.label.Label.{Label}
use Rattle.index_parts.specs.declared.chunk_place.ChunkPlace.{ChunkPlace}
use Rattle.index_parts.specs.Turns.{InOrderAfter}
use Rattle.index_parts.specs.declared.index_series.IndexSeries.{IndexSeries}
use Rattle.index_writing.specs.Written.{written}
use Rattle.chunk_files.specs.Layout.{greatest}
use Rattle.chunk_files.specs.Chunk.{header, frame_text}
use Rattle.block_writing.specs.declared.segments.SegmentPlace.{SegmentPlace}
use Rattle.block_writing.specs.Put.{PutSeries, contents_of}
use Rattle.block_writing.specs.Segments.{segment_text, Begins, AreRuns, places_from}
use Rattle.block_writing.specs.Writing.{part_of}
use Rattle.block_writing.specs.Files.{place_times, IsListed, places_in, AreFilesOf}

-- ---- a list that is cut

module _ {A : Type 0} where
  -- of two fronts of one list, one goes on where the other ends, or both are one
  abbrev Fronts : List A → List A → List A → List A → Type 0
  Fronts xs more ys others =
      ((xs ≡ ys) × (more ≡ others)) ⊎ (((z : A) × (zs : List A) × (ys ≡ xs ++ z ∷ zs) × (more ≡ z ∷ zs ++ others)) ⊎ ((z : A) × (zs : List A) × (xs ≡ ys ++ z ∷ zs) × (others ≡ z ∷ zs ++ more)))

  fronts_more : (x : A) (xs more ys others : List A) → Fronts xs more ys others → Fronts (x ∷ xs) more (x ∷ ys) others
  fronts_more x xs more ys others (inl (same, rest)) = inl (ap (λ (l : List A). x ∷ l) same, rest)
  fronts_more x xs more ys others (inr (inl (z, zs, longer, rest))) = inr (inl (z, zs, ap (λ (l : List A). x ∷ l) longer, rest))
  fronts_more x xs more ys others (inr (inr (z, zs, longer, rest))) = inr (inr (z, zs, ap (λ (l : List A). x ∷ l) longer, rest))

  fronts : (xs more ys others : List A) → xs ++ more ≡ ys ++ others → Fronts xs more ys others
  fronts [] more [] others e = inl (refl, e)
  fronts [] more (y ∷ ys) others e = inr (inl (y, ys, refl, e))
  fronts (x ∷ xs) more [] others e = inr (inr (x, xs, refl, sym e))
  fronts (x ∷ xs) more (y ∷ ys) others e =
      let parts = cons_parts x y (xs ++ more) (ys ++ others) e in
      subst (λ (w : A). Fronts (x ∷ xs) more (w ∷ ys) others) parts.0 (fronts_more x xs more ys others (fronts xs more ys others parts.1))

-- A list is cut in one way, if no run is empty, and a run ends only where one member more would not fit.
module _ {A : Type 0} (MayFollow : Option (List A) → List A → Type 0) (Fits : List A → Type 0) (some : (before : Option (List A)) → MayFollow before [] → ⊥) (full : (run after more : List A) (z : A) → MayFollow (Some run) (z ∷ after) → Fits (run ++ z ∷ more) → ⊥) where
  -- what is left begins with the next run's first member
  next_run : (run : List A) (runs : List (List A)) (z : A) (more rest : List A) → InOrderAfter MayFollow (Some run) runs → flat_map (λ r. r) runs ≡ z ∷ rest → Fits (run ++ z ∷ more) → ⊥
  next_run run [] z more rest order e fits = absurd cc
  next_run run ([] ∷ runs) z more rest order e fits = some (Some run) order.0
  next_run run ((y ∷ next) ∷ runs) z more rest order e fits =
      let first : y ≡ z = (cons_parts y z (next ++ flat_map (λ r. r) runs) rest e).0 in
      full run next more z (subst (λ (w : A). MayFollow (Some run) (w ∷ next)) first order.0) fits

  cut_first : (run next : List A) (runs others : List (List A)) → InOrderAfter MayFollow (Some run) runs → InOrderAfter MayFollow (Some next) others → Fits run → Fits next → (flat_map (λ r. r) runs ≡ flat_map (λ r. r) others → runs ≡ others) → Fronts run (flat_map (λ r. r) runs) next (flat_map (λ r. r) others) → run ∷ runs ≡ next ∷ others
  cut_first run next runs others order other fits too later (inl (same, rest)) = ap (λ (r : List A). r ∷ runs) same ∙ ap (λ (l : List (List A)). next ∷ l) (later rest)
  cut_first run next runs others order other fits too later (inr (inl (z, zs, longer, rest))) = absurd (next_run run runs z zs (zs ++ flat_map (λ r. r) others) order rest (subst Fits longer too))
  cut_first run next runs others order other fits too later (inr (inr (z, zs, longer, rest))) = absurd (next_run next others z zs (zs ++ flat_map (λ r. r) runs) other rest (subst Fits longer fits))

  pub cut_once : (before earlier : Option (List A)) (runs others : List (List A)) → InOrderAfter MayFollow before runs → InOrderAfter MayFollow earlier others → AllByRecursion Fits runs → AllByRecursion Fits others → flat_map (λ r. r) runs ≡ flat_map (λ r. r) others → runs ≡ others
  cut_once before earlier [] [] order other fit too e = refl
  cut_once before earlier [] ([] ∷ others) order other fit too e = absurd (some earlier other.0)
  cut_once before earlier [] ((y ∷ run) ∷ others) order other fit too e = absurd cc
  cut_once before earlier ([] ∷ runs) [] order other fit too e = absurd (some before order.0)
  cut_once before earlier ((x ∷ run) ∷ runs) [] order other fit too e = absurd cc
  cut_once before earlier (run ∷ runs) (next ∷ others) order other fit too e =
      cut_first run next runs others order.1 other.1 fit.0 too.0 (λ rest. cut_once (Some run) (Some next) runs others order.1 other.1 fit.1 too.1 rest) (fronts run (flat_map (λ r. r) runs) next (flat_map (λ r. r) others) e)

-- ---- segments

none_begins : (before : Option (List (List ℕ))) → Begins before [] → ⊥
none_begins None begins = begins
none_begins (Some before) begins = begins

run_full : (run after more : List (List ℕ)) (content : List ℕ) → Begins (Some run) (content ∷ after) → length (segment_text (run ++ content ∷ more)) ≤ greatest → ⊥
run_full run after more content begins fits =
    absurd (omega (
      arith,
      begins,
      fits,
      length-append header (flat_map frame_text (run ++ content ∷ more)),
      ap length (flat_map-append frame_text run (content ∷ more)),
      length-append (flat_map frame_text run) (frame_text content ++ flat_map frame_text more),
      length-append (frame_text content) (flat_map frame_text more),
      length-append header (flat_map frame_text run),
    ))

one_cut : (contents : List (List ℕ)) (runs others : List (List (List ℕ))) → AreRuns contents runs → AreRuns contents others → runs ≡ others
one_cut contents runs others is other =
    cut_once Begins (λ run. length (segment_text run) ≤ greatest) none_begins run_full None None runs others is.begin other.begin is.fit other.fit (is.whole ∙ sym other.whole)

-- ---- places

same_place : (c d : ChunkPlace) → place_times c ≡ place_times d → part_of c ≡ part_of d → c ≡ d
same_place c d times part =
    ap (λ (t : ℤ × ℤ). record { min = t.0; max = t.1; segment = c.segment; offset = c.offset }) times
    ∙ ap (λ (p : SegmentPlace). record { min = d.min; max = d.max; segment = p.segment; offset = p.offset }) part

same_chunks : (xs ys more others : List ChunkPlace) → map place_times xs ≡ map place_times ys → map part_of (xs ++ more) ≡ map part_of (ys ++ others) → (xs ≡ ys) × (map part_of more ≡ map part_of others)
same_chunks [] [] more others times parts = (refl, parts)
same_chunks [] (y ∷ ys) more others times parts = absurd cc
same_chunks (x ∷ xs) [] more others times parts = absurd cc
same_chunks (x ∷ xs) (y ∷ ys) more others times parts =
    let t = cons_parts (place_times x) (place_times y) (map place_times xs) (map place_times ys) times in
    let p = cons_parts (part_of x) (part_of y) (map part_of (xs ++ more)) (map part_of (ys ++ others)) parts in
    let rest = same_chunks xs ys more others t.1 p.1 in
    (ap (λ (c : ChunkPlace). c ∷ xs) (same_place x y t.0 p.0) ∙ ap (λ (l : List ChunkPlace). y ∷ l) rest.0, rest.1)

same_list : (series : List PutSeries) (xs ys : List IndexSeries) → AllZip IsListed series xs → AllZip IsListed series ys → places_in xs ≡ places_in ys → xs ≡ ys
same_list [] [] [] is other parts = refl
same_list [] (x ∷ xs) ys is other parts = absurd is
same_list [] [] (y ∷ ys) is other parts = absurd other
same_list (s ∷ series) [] ys is other parts = absurd is
same_list (s ∷ series) (x ∷ xs) [] is other parts = absurd other
same_list (s ∷ series) (x ∷ xs) (y ∷ ys) is other parts =
    let own = same_chunks x.chunks y.chunks (flat_map (λ (o : IndexSeries). o.chunks) xs) (flat_map (λ (o : IndexSeries). o.chunks) ys) (is.0.times_are ∙ sym other.0.times_are) parts in
    let labels : x.labels ≡ y.labels = is.0.labels_are ∙ sym other.0.labels_are in
    let first : x ≡ y = ap (λ (l : List Label). record { labels = l; chunks = x.chunks }) labels ∙ ap (λ (l : List ChunkPlace). record { labels = y.labels; chunks = l }) own.0 in
    ap (λ (o : IndexSeries). o ∷ xs) first ∙ ap (λ (l : List IndexSeries). y ∷ l) (same_list series xs ys is.1 other.1 own.1)

-- ---- index and segments

one_runs : (series : List PutSeries) (index other : List ℕ) (segments others : List (List ℕ)) (is : AreFilesOf series index segments) (too : AreFilesOf series other others) → is.segments_are.runs ≡ too.segments_are.runs
one_runs series index other segments others is too = one_cut (contents_of series) is.segments_are.runs too.segments_are.runs is.segments_are.runs_are too.segments_are.runs_are

pub one_segments : (series : List PutSeries) (index other : List ℕ) (segments others : List (List ℕ)) → AreFilesOf series index segments → AreFilesOf series other others → segments ≡ others
one_segments series index other segments others is too =
    is.segments_are.segments_are ∙ ap (map segment_text) (one_runs series index other segments others is too) ∙ sym too.segments_are.segments_are

pub one_index : (series : List PutSeries) (index other : List ℕ) (segments others : List (List ℕ)) → AreFilesOf series index segments → AreFilesOf series other others → index ≡ other
one_index series index other segments others is too =
    let places : places_in is.listed ≡ places_in too.listed = is.segments_are.places_are ∙ ap (places_from 0) (one_runs series index other segments others is too) ∙ sym too.segments_are.places_are in
    is.index_is ∙ ap written (same_list series is.listed too.listed is.series_are too.series_are places) ∙ sym too.index_is
