-- What a writer holds after one chunk more, and after one series more.
use Rattle.std.proofs.Common.{◌≡◌, ℕ, zero, suc, ◌+◌, ◌-◌, ◌^◌, ◌<◌, ◌≤◌, List, [], ◌∷◌, ◌++◌, length, map, Option, None, Some, refl, sym, ap, subst, ◌∙◌, append_assoc, length-append, arith, inl, inr, ℤ}
use Rattle.std.specs.Prelude.{slice_get, option_map, ◌≤ℤ◌, ◌<ℤ◌}
use Rattle.std.specs.List.{flat_map, AllByRecursion}
use Rattle.std.proofs.lemmas.Int.{ints}
use Rattle.std.proofs.lemmas.Grind.{flat_map-append}
use Rattle.std.proofs.lemmas.List.{map-append, length-map, append-nil}
use Rattle.base.proofs.Lists.{cons_parts, last_or_none, AllByRecursion-append_right}
use Rattle.label_sets.specs.declared.label.Label.{Label}
use Rattle.block_meta.specs.declared.block_plan.BlockPlan.{BlockPlan}
use Rattle.index_parts.specs.declared.chunk_place.ChunkPlace.{ChunkPlace}
use Rattle.index_parts.specs.Turns.{InOrder, InOrderAfter}
use Rattle.index_parts.specs.SeriesEntry.{StartsAfter}
use Rattle.index_parts.specs.declared.index_series.IndexSeries.{IndexSeries}
use Rattle.index_writing.specs.Written.{IsBehind}
use Rattle.block_writing.specs.declared.counts.Counts.{Counts}
use Rattle.block_writing.specs.declared.segments.SegmentPlace.{SegmentPlace}
use Rattle.block_writing.specs.Segments.{AreSegments}
use Rattle.block_writing.specs.Standing.{content_at}
use Rattle.block_writing.specs.Put.{PutChunk, PutSeries, Put, IsStored, IsAfterChunks, IsAfterSeries, IsPut, fitted, with_chunk, with_series}
use Rattle.block_writing.specs.Writing.{plan_fields, part_of, chunk_in, series_in, put_in, all_places, IsWriting}
use Rattle.block_writing.proofs.Lists.{pushed_parts, all_left}
use Rattle.block_writing.proofs.PutLaws.{after_last, nothing_lawful, chunk_lawful, series_lawful}
use Rattle.block_writing.proofs.Runs.{order_more}
use Rattle.block_writing.proofs.Placed.{read_all}
use Rattle.block_writing.proofs.DataLaws.{data_rise}

-- ---- lists

map_agree : {A B C : Type 0} (f g : B → C) (h : A → B) (xs : List A) → map f (map h xs) ≡ map g (map h xs) → AllByRecursion (λ x. f (h x) ≡ g (h x)) xs
map_agree f g h [] e = tt
map_agree f g h (x ∷ xs) e = let parts = cons_parts (f (h x)) (g (h x)) (map f (map h xs)) (map g (map h xs)) e in (parts.0, map_agree f g h xs parts.1)

-- ---- what is read at places where the same stands

chunks_agree : (old new : List (List ℕ)) (places : List ChunkPlace) → AllByRecursion (λ p. content_at new (part_of p) ≡ content_at old (part_of p)) places → map (chunk_in new) places ≡ map (chunk_in old) places
chunks_agree old new [] all = refl
chunks_agree old new (p ∷ places) all =
    ap (λ (content : List ℕ). record { content = content; min = p.min; max = p.max } ∷ map (chunk_in new) places) all.0 ∙ ap (λ (l : List PutChunk). chunk_in old p ∷ l) (chunks_agree old new places all.1)

series_agree : (old new : List (List ℕ)) (list : List IndexSeries) → AllByRecursion (λ p. content_at new (part_of p) ≡ content_at old (part_of p)) (flat_map (λ s. s.chunks) list) → map (series_in new) list ≡ map (series_in old) list
series_agree old new [] all = refl
series_agree old new (s ∷ list) all =
    let own = chunks_agree old new s.chunks (all_left (λ p. content_at new (part_of p) ≡ content_at old (part_of p)) s.chunks (flat_map (λ one. one.chunks) list) all) in
    let others = series_agree old new list (AllByRecursion-append_right (λ p. content_at new (part_of p) ≡ content_at old (part_of p)) s.chunks (flat_map (λ one. one.chunks) list) all) in
    ap (λ (l : List PutChunk). record { labels = s.labels; chunks = l } ∷ map (series_in new) list) own ∙ ap (λ (l : List PutSeries). series_in old s ∷ l) others

-- ---- nothing yet

pub none_held : (plan : BlockPlan) (segments : List (List ℕ)) (list : List IndexSeries) (chunks : List ChunkPlace) (counts : Counts) → segments ≡ [] → list ≡ [] → chunks ≡ [] → counts ≡ record { series = 0; samples = 0; chunks = 0 } → IsWriting plan segments list chunks counts
none_held plan segments list chunks counts no_segments no_list no_chunks no_counts =
    let none : IsWriting plan [] [] [] (record { series = 0; samples = 0; chunks = 0 }) = record {
      segments_are = record { runs = []; runs_are = record { whole = refl; fit = tt; begin = tt }; places_are = refl; segments_are = refl };
      few = omega arith;
      ordered = tt;
      series_counted = refl;
      chunks_counted = refl;
      lawful = nothing_lawful (plan_fields plan);
    } in
    subst (λ (l : List (List ℕ)). IsWriting plan l list chunks counts) (sym no_segments)
    (subst (λ (l : List IndexSeries). IsWriting plan [] l chunks counts) (sym no_list)
    (subst (λ (l : List ChunkPlace). IsWriting plan [] [] l counts) (sym no_chunks)
    (subst (λ (n : Counts). IsWriting plan [] [] [] n) (sym no_counts) none)))

-- ---- one chunk more

starts_low : (before : Option ChunkPlace) (p : ChunkPlace) → StartsAfter before p → p.segment < 2 ^ 31
starts_low None p h = h.1
starts_low (Some before) p h = h.2

last_starts : (front : List ChunkPlace) (before : Option ChunkPlace) (last : ChunkPlace) → InOrderAfter StartsAfter before (front ++ last ∷ []) → last.segment < 2 ^ 31
last_starts [] before last order = starts_low before last order.0
last_starts (x ∷ front) before last order = last_starts front (Some x) last order.1

order_put : (segments : List (List ℕ)) (chunks : List ChunkPlace) (p : ChunkPlace) → InOrder StartsAfter chunks → IsAfterChunks (map (chunk_in segments) chunks) p.min → p.min ≤ℤ p.max → p.segment < 2 ^ 31 → InOrder StartsAfter (chunks ++ p ∷ [])
order_put segments chunks p order after rises low = elim (last_or_none chunks) [
  | inl none ↦ subst (λ (l : List ChunkPlace). InOrder StartsAfter (l ++ p ∷ [])) (sym none) ((rises, low), tt)
  | inr (front, last, e) ↦
      let split : map (chunk_in segments) chunks ≡ map (chunk_in segments) front ++ chunk_in segments last ∷ [] = ap (map (chunk_in segments)) e ∙ map-append (chunk_in segments) front (last ∷ []) in
      let before : last.max <ℤ p.min = after_last (map (chunk_in segments) front) (chunk_in segments last) p.min (subst (λ (l : List PutChunk). IsAfterChunks l p.min) split after) in
      let ordered : InOrder StartsAfter (front ++ last ∷ []) = subst (InOrder StartsAfter) e order in
      let number : last.segment < 2 ^ 31 = last_starts front None last ordered in
      let weak : last.max ≤ℤ p.min = omega (arith, ints) in
      subst (λ (l : List ChunkPlace). InOrder StartsAfter (l ++ p ∷ [])) (sym e) (order_more StartsAfter front None last p ordered (weak, rises, low, number))
]

-- what a writer holds, and what was put into it
pub record Holds (plan : BlockPlan) (segments : List (List ℕ)) (list : List IndexSeries) (chunks : List ChunkPlace) (counts : Counts) (put : Put) : Type 0 where
  pub writing : IsWriting plan segments list chunks counts
  pub view_is : put_in plan segments list chunks counts ≡ put

abbrev counts_with : Counts → ℕ → Counts
counts_with counts count = record { series = counts.series; samples = fitted (counts.samples + count); chunks = fitted (counts.chunks + 1) }

pub chunk_put : (plan : BlockPlan) (old new : List (List ℕ)) (list : List IndexSeries) (chunks more : List ChunkPlace) (counts after : Counts) (content : List ℕ) (min max : ℤ) (segment offset count : ℕ) → IsWriting plan old list chunks counts
    → ((contents : List (List ℕ)) (places : List SegmentPlace) → AreSegments contents places old → AreSegments (contents ++ content ∷ []) (places ++ record { segment = segment; offset = offset } ∷ []) new)
    → length new ≤ 999_999 → segment < 999_999 → IsStored (plan_fields plan) (record { content = content; min = min; max = max }) → IsAfterChunks (map (chunk_in old) chunks) min
    → more ≡ chunks ++ record { min = min; max = max; segment = segment; offset = offset } ∷ [] → after ≡ counts_with counts count
    → Holds plan new list more after (with_chunk (put_in plan old list chunks counts) (record { content = content; min = min; max = max }) count)
chunk_put plan old new list chunks more counts after content min max segment offset count h appends few low stored behind more_is after_is =
    let p : ChunkPlace = record { min = min; max = max; segment = segment; offset = offset } in
    let all : List ChunkPlace = all_places list chunks in
    let longer : AreSegments (map (content_at old) (map part_of all) ++ content ∷ []) (map part_of all ++ part_of p ∷ []) new = appends (map (content_at old) (map part_of all)) (map part_of all) h.segments_are in
    let read : map (content_at new) (map part_of all ++ part_of p ∷ []) ≡ map (content_at old) (map part_of all) ++ content ∷ [] = read_all _ _ new longer in
    let parts = pushed_parts (map (content_at new) (map part_of all)) (map (content_at old) (map part_of all)) (content_at new (part_of p)) content (sym (map-append (content_at new) (map part_of all) (part_of p ∷ [])) ∙ read) in
    let agree : AllByRecursion (λ q. content_at new (part_of q) ≡ content_at old (part_of q)) all = map_agree (content_at new) (content_at old) part_of all parts.0 in
    let places : map part_of all ++ part_of p ∷ [] ≡ map part_of (all_places list (chunks ++ p ∷ [])) =
    sym (map-append part_of all (p ∷ [])) ∙ ap (map part_of) (append_assoc (flat_map (λ s. s.chunks) list) chunks (p ∷ [])) in
    let contents : map (content_at old) (map part_of all) ++ content ∷ [] ≡ map (content_at new) (map part_of (all_places list (chunks ++ p ∷ []))) = sym read ∙ ap (map (content_at new)) places in
    let segments_are : AreSegments (map (content_at new) (map part_of (all_places list (chunks ++ p ∷ [])))) (map part_of (all_places list (chunks ++ p ∷ []))) new =
    subst (λ (l : List (List ℕ)). AreSegments l (map part_of (all_places list (chunks ++ p ∷ []))) new) contents (subst (λ (l : List SegmentPlace). AreSegments (map (content_at old) (map part_of all) ++ content ∷ []) l new) places longer) in
    let series_same : map (series_in new) list ≡ map (series_in old) list = series_agree old new list (all_left (λ q. content_at new (part_of q) ≡ content_at old (part_of q)) (flat_map (λ s. s.chunks) list) chunks agree) in
    let chunks_same : map (chunk_in new) (chunks ++ p ∷ []) ≡ map (chunk_in old) chunks ++ record { content = content; min = min; max = max } ∷ [] =
    map-append (chunk_in new) chunks (p ∷ []) ∙ ap (λ (l : List PutChunk). l ++ chunk_in new p ∷ []) (chunks_agree old new chunks (AllByRecursion-append_right (λ q. content_at new (part_of q) ≡ content_at old (part_of q)) (flat_map (λ s. s.chunks) list) chunks agree))
    ∙ ap (λ (l : List ℕ). map (chunk_in old) chunks ++ record { content = l; min = min; max = max } ∷ []) parts.1 in
    let many : length (all_places list (chunks ++ p ∷ [])) ≡ length all + 1 = omega (arith, length-append (flat_map (λ s. s.chunks) list) (chunks ++ p ∷ []), length-append chunks (p ∷ []), length-append (flat_map (λ s. s.chunks) list) chunks) in
    let counted : fitted (counts.chunks + 1) ≡ fitted (length (all_places list (chunks ++ p ∷ []))) = omega (arith, many, h.chunks_counted) in
    let view : put_in plan new list (chunks ++ p ∷ []) (counts_with counts count) ≡ with_chunk (put_in plan old list chunks counts) (record { content = content; min = min; max = max }) count =
    ap (λ (s : List PutSeries). record { plan = (put_in plan old list chunks counts).plan; series = s; chunks = map (chunk_in new) (chunks ++ p ∷ []); samples = fitted (counts.samples + count) }) series_same
    ∙ ap (λ (s : List PutChunk). record { plan = (put_in plan old list chunks counts).plan; series = map (series_in old) list; chunks = s; samples = fitted (counts.samples + count) }) chunks_same in
    let made : Holds plan new list (chunks ++ p ∷ []) (counts_with counts count) (with_chunk (put_in plan old list chunks counts) (record { content = content; min = min; max = max }) count) = record {
      writing = record {
        segments_are = segments_are;
        few = few;
        ordered = order_put old chunks p h.ordered behind (data_rise (plan_fields plan) (record { content = content; min = min; max = max }) stored) (omega (arith, low));
        series_counted = h.series_counted;
        chunks_counted = counted;
        lawful = subst IsPut (sym view) (chunk_lawful (put_in plan old list chunks counts) (record { content = content; min = min; max = max }) count h.lawful stored behind);
      };
      view_is = view;
    } in
    subst (λ (l : List ChunkPlace). Holds plan new list l after (with_chunk (put_in plan old list chunks counts) (record { content = content; min = min; max = max }) count)) (sym more_is)
    (subst (λ (n : Counts). Holds plan new list (chunks ++ p ∷ []) n (with_chunk (put_in plan old list chunks counts) (record { content = content; min = min; max = max }) count)) (sym after_is) made)

-- ---- one series more

got_in : (segments : List (List ℕ)) (list : List IndexSeries) (place : ℕ) (one : IndexSeries) → slice_get list place ≡ Some one → slice_get (map (series_in segments) list) place ≡ Some (series_in segments one)
got_in segments [] place one e = absurd cc
got_in segments (s ∷ list) zero one e = ap (λ (o : Option IndexSeries). option_map (series_in segments) o) e
got_in segments (s ∷ list) (suc place) one e = got_in segments list place one e

pub behind_put : (segments : List (List ℕ)) (list : List IndexSeries) (labels : List Label) → IsAfterSeries (map (series_in segments) list) labels → IsBehind list labels
behind_put segments list labels after last at =
    let same : length (map (series_in segments) list) ≡ length list = length-map list (series_in segments) in
    after (series_in segments last) (ap (λ (n : ℕ). slice_get (map (series_in segments) list) (n - 1)) same ∙ got_in segments list (length list - 1) last at)

all_same : (list : List IndexSeries) (chunks : List ChunkPlace) (labels : List Label) → all_places (list ++ record { labels = labels; chunks = chunks } ∷ []) [] ≡ all_places list chunks
all_same list chunks labels =
    let one : IndexSeries = record { labels = labels; chunks = chunks } in
    append-nil (flat_map (λ (s : IndexSeries). s.chunks) (list ++ one ∷ []))
    ∙ flat_map-append (λ (s : IndexSeries). s.chunks) list (one ∷ [])
    ∙ ap (λ (l : List ChunkPlace). flat_map (λ (s : IndexSeries). s.chunks) list ++ l) (append-nil chunks)

abbrev counts_with_series : Counts → Counts
counts_with_series counts = record { series = fitted (counts.series + 1); samples = counts.samples; chunks = counts.chunks }

pub series_put : (plan : BlockPlan) (segments : List (List ℕ)) (list more : List IndexSeries) (chunks left : List ChunkPlace) (counts after : Counts) (labels : List Label) → IsWriting plan segments list chunks counts
    → (map (chunk_in segments) chunks ≡ [] → ⊥) → IsAfterSeries (map (series_in segments) list) labels
    → more ≡ list ++ record { labels = labels; chunks = chunks } ∷ [] → left ≡ [] → after ≡ counts_with_series counts
    → Holds plan segments more left after (with_series (put_in plan segments list chunks counts) labels)
series_put plan segments list more chunks left counts after labels h some behind more_is left_is after_is =
    let one : IndexSeries = record { labels = labels; chunks = chunks } in
    let same : all_places (list ++ one ∷ []) [] ≡ all_places list chunks = all_same list chunks labels in
    let view : put_in plan segments (list ++ one ∷ []) [] (counts_with_series counts) ≡ with_series (put_in plan segments list chunks counts) labels =
    ap (λ (s : List PutSeries). record { plan = plan_fields plan; series = s; chunks = []; samples = counts.samples }) (map-append (series_in segments) list (one ∷ [])) in
    let many : length (list ++ one ∷ []) ≡ length list + 1 = length-append list (one ∷ []) in
    let counted : fitted (counts.series + 1) ≡ fitted (length (list ++ one ∷ [])) = omega (arith, many, h.series_counted) in
    let made : Holds plan segments (list ++ one ∷ []) [] (counts_with_series counts) (with_series (put_in plan segments list chunks counts) labels) = record {
      writing = record {
        segments_are = subst (λ (l : List ChunkPlace). AreSegments (map (content_at segments) (map part_of l)) (map part_of l) segments) (sym same) h.segments_are;
        few = h.few;
        ordered = tt;
        series_counted = counted;
        chunks_counted = h.chunks_counted ∙ ap (λ (l : List ChunkPlace). fitted (length l)) (sym same);
        lawful = subst IsPut (sym view) (series_lawful (put_in plan segments list chunks counts) labels h.lawful some behind);
      };
      view_is = view;
    } in
    subst (λ (l : List IndexSeries). Holds plan segments l left after (with_series (put_in plan segments list chunks counts) labels)) (sym more_is)
    (subst (λ (l : List ChunkPlace). Holds plan segments (list ++ one ∷ []) l after (with_series (put_in plan segments list chunks counts) labels)) (sym left_is)
    (subst (λ (n : Counts). Holds plan segments (list ++ one ∷ []) [] n (with_series (put_in plan segments list chunks counts) labels)) (sym after_is) made))
