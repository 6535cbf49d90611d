-- The merge of a run's chunks lies where they lie.
use Rattle.std.proofs.Common.{◌≡◌, ◌≢◌, suc, ◌-◌, ◌<◌, List, [], ◌∷◌, length, map, get_or, Option, Some, None, Result, Ok, Err, refl, sym, ap, subst, ◌∙◌, arith, inl, inr, ℤ, true, false, cond}
use Rattle.std.specs.Prelude.{Contains, slice_get, OnOk, ◌≤ℤ◌, ◌<ℤ◌}
use Rattle.std.specs.List.{AllByRecursion, AllZip}
use Rattle.std.proofs.lemmas.Int.{ints}
use Rattle.std.proofs.lemmas.List.Elements.{Contains-append_left, Contains-append_cases}
use Rattle.std.proofs.lemmas.List.{length-map}
use Rattle.block_merging.proofs.Content.{text_once}
use Rattle.base.specs.Ordered.{in_order, placed}
use Rattle.base.proofs.Membership.{no_member, contains_first, contains_later, each_member, all_members, of_in_order, into_in_order, of_map, into_map, contains_place}
use Rattle.base.proofs.Integers.{lt_le}
use Rattle.base.proofs.Lists.{some-length}
use Rattle.base.specs.Lists.{joined}
use Rattle.label_sets.specs.declared.label.Label.{Label}
use Rattle.label_sets.specs.declared.sample.Sample.{Sample}
use Rattle.label_sets.specs.declared.series.Series.{Series}
use Rattle.label_sets.specs.Triples.{triples_under}
use Rattle.label_sets.specs.Times.{IsWithin}
use Rattle.vertical_merge.specs.Merged.{IsMerge}
use Rattle.index_parts.specs.declared.chunk_place.ChunkPlace.{ChunkPlace}
use Rattle.block_content.specs.Content.{HaveTimesOf}
use Rattle.block_content.proofs.Appending.{text_between}
use Rattle.block_writing.specs.Put.{PlanFields, PutChunk, Put, IsStored, IsAfter, IsAfterChunks}
use Rattle.block_writing.specs.Built.{AreOfBlock, BeginAfter, HasParts, StandsFor}
use Rattle.block_writing.proofs.Parts.{texts_of}
use Rattle.block_merging.specs.declared.placed_chunk.PlacedChunk.{PlacedChunk}
use Rattle.block_merging.specs.Placed.{placed_chunk, stands_before}
use Rattle.block_merging.specs.MergedSeries.{AreMerged, Becomes}
use Rattle.block_merging.specs.Steps.{run_in, HasRun}
use Rattle.block_merging.proofs.OneMerge.{first_labels, kept_ascend, kept_given}

le_lt : (a b c : ℤ) → a ≤ℤ b → b <ℤ c → a <ℤ c
le_lt a b c h k = omega (arith, ints)

-- a place with the chunk's times
abbrev place_of : PutChunk → ChunkPlace
place_of chunk = record { min = chunk.min; max = chunk.max; segment = 0; offset = 0 }

abbrev pub IsInside : PutChunk → Sample → Type 0
IsInside chunk s = (chunk.min ≤ℤ s.time) × (s.time ≤ℤ chunk.max)

timed : (chunk : PutChunk) (plan : PlanFields) (part : List Sample) (stored : IsStored plan chunk) → stored.samples ≡ part → HaveTimesOf (place_of chunk) part
timed chunk plan part stored same = subst (HaveTimesOf (place_of chunk)) same (record { begins = stored.begins; ends = stored.ends })

pub part_inside : (plan : PlanFields) (chunk : PutChunk) (part : List Sample) → IsStored plan chunk → StandsFor chunk part → AllByRecursion (IsInside chunk) part
part_inside plan chunk part stored text = text_between (place_of chunk) chunk.content part text (timed chunk plan part stored (text_once chunk.content stored.samples part stored.text_is text))

part_within : (plan : PlanFields) (chunk : PutChunk) (part : List Sample) → IsStored plan chunk → StandsFor chunk part → AllByRecursion (IsWithin plan.min_time plan.max_time) part
part_within plan chunk part stored text = subst (AllByRecursion (IsWithin plan.min_time plan.max_time)) (text_once chunk.content stored.samples part stored.text_is text) stored.within

pub chunk_sample : (plan : PlanFields) (chunk : PutChunk) (part : List Sample) → IsStored plan chunk → StandsFor chunk part → (s : Sample) × Contains part s
chunk_sample plan chunk part stored text =
    let t = timed chunk plan part stored (text_once chunk.content stored.samples part stored.text_is text) in
    let w = of_map (λ (s : Sample). s.time) part chunk.min (contains_place (map (λ (s : Sample). s.time) part) 0 chunk.min t.begins) in (w.0, w.1)

pub samples_inside : (plan : PlanFields) (chunks : List PutChunk) (parts : List (List Sample)) (s : Sample) → AllByRecursion (IsStored plan) chunks → AllZip StandsFor chunks parts → Contains (joined parts) s
    → (c : PutChunk) × Contains chunks c × IsInside c s × IsWithin plan.min_time plan.max_time s
samples_inside plan [] [] s stored each among = absurd (no_member s among)
samples_inside plan [] (p ∷ parts) s stored each among = absurd each
samples_inside plan (c ∷ chunks) [] s stored each among = absurd each
samples_inside plan (c ∷ chunks) (p ∷ parts) s stored each among = elim (Contains-append_cases p (joined parts) s among) [
  | inl own ↦ (c, contains_first c chunks, each_member (IsInside c) p s (part_inside plan c p stored.0 each.0) own, each_member (IsWithin plan.min_time plan.max_time) p s (part_within plan c p stored.0 each.0) own)
  | inr later ↦ let w = samples_inside plan chunks parts s stored.1 each.1 later in (w.0, contains_later c w.0 chunks w.1, w.2, w.3)
]

pub some_inside : (plan : PlanFields) (chunks : List PutChunk) (parts : List (List Sample)) (c : PutChunk) → AllByRecursion (IsStored plan) chunks → AllZip StandsFor chunks parts → Contains chunks c → (s : Sample) × Contains (joined parts) s
some_inside plan [] parts c stored each among = absurd (no_member c among)
some_inside plan (d ∷ chunks) [] c stored each among = absurd each
some_inside plan (d ∷ chunks) (p ∷ parts) c stored each among = let s = chunk_sample plan d p stored.0 each.0 in (s.0, Contains-append_left p (joined parts) s.0 s.1)

-- ---- a run's chunks

pub in_run : (P : PutChunk → Type 0) (run : List PlacedChunk) → AllByRecursion P (map placed_chunk run) → AllByRecursion P (run_in run)
in_run P run all = all_members P (run_in run) (λ c m. let w = of_map placed_chunk (in_order stands_before run) c m in
    subst P w.2 (each_member P (map placed_chunk run) (placed_chunk w.0) all (into_map placed_chunk run w.0 (of_in_order stands_before w.0 run w.1))))

pub first_in_run : (x : PlacedChunk) (xs : List PlacedChunk) → Contains (run_in (x ∷ xs)) (placed_chunk x)
first_in_run x xs = into_map placed_chunk (in_order stands_before (x ∷ xs)) x (into_in_order stands_before x (x ∷ xs) (contains_first x xs))

length_placed : (x : PlacedChunk) (ys : List PlacedChunk) → length (placed stands_before x ys) ≡ suc (length ys)
unfolding placed
length_placed x [] = refl
length_placed x (y ∷ ys) = elim (stands_before y x) as (λ b. length (cond b (y ∷ placed stands_before x ys) (x ∷ y ∷ ys)) ≡ suc (suc (length ys))) [
  | true ↦ ap suc (length_placed x ys)
  | false ↦ refl
]

length_ordered : (xs : List PlacedChunk) → length (in_order stands_before xs) ≡ length xs
unfolding in_order
length_ordered [] = refl
length_ordered (x ∷ xs) = length_placed x (in_order stands_before xs) ∙ ap suc (length_ordered xs)

becomes_many : (labels : List Label) (run made : List PutChunk) → 1 < length run → AreMerged labels run made → Becomes labels run made
becomes_many labels [] made many h = absurd (omega (arith, many))
becomes_many labels (c ∷ []) made many h = absurd (omega (arith, many))
becomes_many labels (c ∷ d ∷ run) made many h = h

run_alone : (run : List PlacedChunk) (d : PlacedChunk) → length run ≡ 1 → run_in run ≡ placed_chunk (get_or run 0 d) ∷ []
unfolding in_order placed
run_alone [] d one = absurd (omega (arith, one))
run_alone (x ∷ []) d one = refl
run_alone (x ∷ y ∷ xs) d one = absurd (omega (arith, one))

pub alone_told : {U E : Type 0} (r : Result U E) (old new : Put) (labels : List Label) (run : List PlacedChunk) (d : PlacedChunk) → length run ≡ 1
    → ((l : List Label) → OnOk r (HasRun old l (placed_chunk (get_or run 0 d) ∷ []) new)) → OnOk r (HasRun old labels (run_in run) new)
alone_told r old new labels run d one ok = subst (λ (l : List PutChunk). OnOk r (HasRun old labels l new)) (sym (run_alone run d one)) (ok labels)

-- ---- what is kept of a run

pub samples_some : (plan : PlanFields) (run : List PlacedChunk) (samples : List Sample) → 1 < length run → AllByRecursion (IsStored plan) (map placed_chunk run)
    → ((parts : List (List Sample)) × AllZip StandsFor (run_in run) parts × (samples ≡ joined parts)) → samples ≢ []
samples_some plan [] samples many stored read none = absurd (omega (arith, many))
samples_some plan (x ∷ xs) samples many stored (parts, each, is) none =
    let s = some_inside plan (run_in (x ∷ xs)) parts (placed_chunk x) (in_run (IsStored plan) (x ∷ xs) stored) each (first_in_run x xs) in
    no_member s.0 (subst (λ (l : List Sample). Contains l s.0) (sym is ∙ none) s.1)

pub kept_inside : (plan : PlanFields) (labels : List Label) (run : List PlacedChunk) (samples : List Sample) (kept : Series) (s : Sample) → AllByRecursion (IsStored plan) (map placed_chunk run)
    → ((parts : List (List Sample)) × AllZip StandsFor (run_in run) parts × (samples ≡ joined parts)) → IsMerge (triples_under labels samples) (kept ∷ []) → Contains kept.samples s
    → (c : PutChunk) × Contains (run_in run) c × IsInside c s × IsWithin plan.min_time plan.max_time s
kept_inside plan labels run samples kept s stored (parts, each, is) merged among =
    let g = kept_given labels samples kept s merged among in
    let w = samples_inside plan (run_in run) parts g.0 (in_run (IsStored plan) run stored) each (subst (λ (l : List Sample). Contains l g.0) is g.1) in
    (w.0, w.1, subst (λ (t : ℤ). ((w.0).min ≤ℤ t) × (t ≤ℤ (w.0).max)) g.2 w.2, subst (λ (t : ℤ). (plan.min_time ≤ℤ t) × (t <ℤ plan.max_time)) g.2 w.3)

pub kept_of_block : (plan : PlanFields) (labels : List Label) (run : List PlacedChunk) (samples : List Sample) (kept : Series) → AllByRecursion (IsStored plan) (map placed_chunk run)
    → ((parts : List (List Sample)) × AllZip StandsFor (run_in run) parts × (samples ≡ joined parts)) → IsMerge (triples_under labels samples) (kept ∷ []) → AreOfBlock plan kept.samples
kept_of_block plan labels run samples kept stored read merged = record {
  some = some-length kept.samples (merged.inhabited 0 kept (omega arith));
  ascend = kept_ascend labels samples kept merged;
  within = all_members (IsWithin plan.min_time plan.max_time) kept.samples (λ s among. (kept_inside plan labels run samples kept s stored read merged among).3);
}

after_later : (before : Option PutChunk) (a b : ℤ) → a ≤ℤ b → IsAfter before a → IsAfter before b
after_later None a b le after = tt
after_later (Some c) a b le after = lt_le c.max a b after le

pub kept_after : (plan : PlanFields) (chunks : List PutChunk) (labels : List Label) (run : List PlacedChunk) (samples : List Sample) (kept : Series) → AllByRecursion (IsStored plan) (map placed_chunk run)
    → AllByRecursion (λ c. IsAfterChunks chunks c.min) (map placed_chunk run)
    → ((parts : List (List Sample)) × AllZip StandsFor (run_in run) parts × (samples ≡ joined parts)) → IsMerge (triples_under labels samples) (kept ∷ []) → BeginAfter chunks kept.samples
kept_after plan chunks labels run samples kept stored after read merged time at =
    let s = of_map (λ (x : Sample). x.time) kept.samples time (contains_place (map (λ (x : Sample). x.time) kept.samples) 0 time at) in
    let w = kept_inside plan labels run samples kept s.0 stored read merged s.1 in
    after_later (slice_get chunks (length chunks - 1)) (w.0).min time (subst (λ (t : ℤ). (w.0).min ≤ℤ t) s.2 w.2.0) (each_member (λ c. IsAfterChunks chunks c.min) (run_in run) w.0 (in_run (λ c. IsAfterChunks chunks c.min) run after) w.1)

merged_put : (old new : Put) (labels : List Label) (run : List PlacedChunk) (samples : List Sample) (kept : Series) → 1 < length run → AllByRecursion (IsStored old.plan) (map placed_chunk run)
    → ((parts : List (List Sample)) × AllZip StandsFor (run_in run) parts × (samples ≡ joined parts)) → IsMerge (triples_under labels samples) (kept ∷ []) → HasParts old kept.samples new → HasRun old labels (run_in run) new
merged_put old new labels run samples kept many stored (parts, each, is) merged has = record {
  made = has.made;
  becomes = becomes_many labels (run_in run) has.made (omega (arith, many, length_ordered run, length-map (in_order stands_before run) placed_chunk)) (record {
    given = record { labels = labels; samples = samples };
    given_is = record { parts = parts; chunks_are = each; labels_are = refl; samples_are = is };
    kept = kept;
    kept_is = merged;
    made_is = record { parts = has.parts; whole = has.whole; cut = has.cut; chunks = has.chunks; labels = sym (first_labels labels samples kept [] merged) };
  });
  parts = has.parts;
  read = texts_of has.parts has.made has.chunks;
  plan_is = has.plan_is;
  series_are = has.series_are;
  chunks_are = has.chunks_are;
  samples_are = omega (arith, has.samples_are, ap length has.whole);
  behind = λ time all. has.behind time (all_members (λ s. s.time <ℤ time) kept.samples (λ s among.
      let w = kept_inside old.plan labels run samples kept s stored (parts, each, is) merged among in
      le_lt s.time (w.0).max time w.2.1 (each_member (λ c. c.max <ℤ time) (run_in run) w.0 all w.1)));
}

pub merged_told : {U E : Type 0} (r : Result U E) (old new : Put) (labels : List Label) (run : List PlacedChunk) (samples list : List Sample) (kept : Series) → 1 < length run → AllByRecursion (IsStored old.plan) (map placed_chunk run)
    → ((parts : List (List Sample)) × AllZip StandsFor (run_in run) parts × (samples ≡ joined parts)) → IsMerge (triples_under labels samples) (kept ∷ []) → list ≡ kept.samples → OnOk r (HasParts old list new) → OnOk r (HasRun old labels (run_in run) new)
merged_told (Err e) old new labels run samples list kept many stored read merged same ok = tt
merged_told (Ok x) old new labels run samples list kept many stored read merged same ok = merged_put old new labels run samples kept many stored read merged (subst (λ (l : List Sample). HasParts old l new) same ok)
