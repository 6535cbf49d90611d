-- A list of series that a writer takes, with one more behind it.
use Rattle.std.proofs.Common.{◌≡◌, ◌-◌, List, [], ◌∷◌, ◌++◌, length, Some, refl, sym, ap, ◌∙◌, subst, arith}
use Rattle.std.specs.Prelude.{slice_get}
use Rattle.std.specs.List.{AllByRecursion}
use Rattle.std.specs.List.Sorted.{IsStrictlySortedBy}
use Rattle.std.specs.declared.cmp.Ordering.TheVariants.{Less}
use Rattle.label_sets.specs.declared.label.Label.{Label}
use Rattle.index_parts.specs.declared.chunk_place.ChunkPlace.{ChunkPlace}
use Rattle.index_parts.specs.Turns.{InOrder}
use Rattle.index_parts.specs.SeriesEntry.{StartsAfter}
use Rattle.index_parts.specs.declared.index_series.IndexSeries.{IndexSeries}
use Rattle.index_parts.specs.IndexFile.{compare_series}
use Rattle.index_parts.proofs.SeriesOrder.{series_total}
use Rattle.index_writing.specs.Written.{AreWritable, IsBehind}
use Rattle.base.proofs.Lists.{AllByRecursion-push}

-- ---- one more at the end

behind_from : (x : IndexSeries) (list : List IndexSeries) (one : IndexSeries) → IsStrictlySortedBy compare_series (x ∷ list) → ((last : IndexSeries) → slice_get (x ∷ list) (length list) ≡ Some last → compare_series last one ≡ Less) → AllByRecursion (λ s. compare_series s one ≡ Less) (x ∷ list)
unfolding IsStrictlySortedBy
behind_from x [] _ up behind = (behind x refl, tt)
behind_from x (y ∷ list) one up behind =
    let others = behind_from y list one up.1 (λ last at. behind last at) in
    (series_total.trans x y one up.0.0 others.0, others)

behind_all : (list : List IndexSeries) (one : IndexSeries) → IsStrictlySortedBy compare_series list → IsBehind list one.labels → AllByRecursion (λ s. compare_series s one ≡ Less) list
behind_all [] one up behind = tt
behind_all (x ∷ list) one up behind =
    let place : length (x ∷ list) - 1 ≡ length list = omega arith in
    behind_from x _ one up (λ last at. behind last (ap (slice_get (x ∷ list)) place ∙ at))

ascend_more : (list : List IndexSeries) (one : IndexSeries) → IsStrictlySortedBy compare_series list → AllByRecursion (λ s. compare_series s one ≡ Less) list → IsStrictlySortedBy compare_series (list ++ one ∷ [])
unfolding IsStrictlySortedBy
ascend_more [] _ up behind = (tt, tt)
ascend_more (x ∷ list) _ up behind = (AllByRecursion-push _ _ _ up.0 behind.0, ascend_more list _ up.1 behind.1)

writable_more : (list new : List IndexSeries) (one : IndexSeries) → AreWritable list → IsBehind list one.labels → InOrder StartsAfter one.chunks → new ≡ list ++ one ∷ [] → AreWritable new
writable_more list new one lawful behind chunks is = subst AreWritable (sym is) (record {
  ascend = ascend_more _ _ lawful.ascend (behind_all _ one lawful.ascend behind);
  chunks = AllByRecursion-push _ _ _ lawful.chunks chunks;
})

pub writable_added : (list view new : List IndexSeries) (labels given : List Label) (chunks apart : List ChunkPlace) → AreWritable list → list ≡ view → IsBehind view given → labels ≡ given → InOrder StartsAfter apart → chunks ≡ apart → new ≡ list ++ record { labels = labels; chunks = chunks } ∷ [] → AreWritable new
writable_added list view new labels _ chunks _ lawful seen behind same ordered alike is =
    let one : IndexSeries = record { labels = labels; chunks = chunks } in
    let greater : IsBehind list labels = subst (λ (l : List IndexSeries). IsBehind l labels) (sym seen) (subst (λ l. IsBehind view l) (sym same) behind) in
    writable_more _ _ _ lawful greater (subst (λ l. InOrder StartsAfter l) (sym alike) ordered) is

pub none_writable : AreWritable []
unfolding IsStrictlySortedBy
none_writable = record { ascend = tt; chunks = tt }
