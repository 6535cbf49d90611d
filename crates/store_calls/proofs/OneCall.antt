-- A call comes to one end, and leaves one cache.
use Rattle.std.proofs.Common.{◌≡◌, ℕ, List, Some, sym, ap₂, subst, ◌∙◌}
use Rattle.label_sets.specs.declared.series.Series.{Series}
use Rattle.world_core.specs.declared.entry.Entry.{Entry}
use Rattle.world_core.proofs.PlanLaws.{one_end}
use Rattle.meta_fetcher.specs.declared.view.View.{View}
use Rattle.store_ranges.specs.OneSet.{one_set}
use Rattle.store_ranges.specs.Reads.{Query, Cache}
use Rattle.store_calls.specs.SeriesCalls.{Called, took, broke, CallEnd, Gives, SeriesRun, series_call, sources_of}
use Rattle.store_calls.specs.declared.series_call.SeriesEnd.{SeriesEnd}
use Rattle.store_calls.specs.declared.series_call.SeriesEnd.TheVariants as ended
use Rattle.vertical_merge.proofs.OneMerge.{one_merge}

abbrev call_end : SeriesEnd → Cache → CallEnd
call_end end cache = record { end = end; cache = cache }

same_end : (sources : List ℕ) (told : Called) (one other : CallEnd) → Gives sources told one → Gives sources told other → one ≡ other
same_end sources (took taken cache) one other ((series, set, is, merge, of), left) ((others, more, so, merges, is_of), leaves) =
    let ends : one.end ≡ other.end =
    is ∙ ap₂ (λ (x : List Series) (y : List ℕ). ended.Answer x y) (one_merge taken series others merge merges) (one_set sources set more of is_of) ∙ sym so in
    ap₂ call_end ends (left ∙ sym leaves)
same_end sources (broke why cache) one other (is, left) (so, leaves) = ap₂ call_end (is ∙ sym so) (left ∙ sym leaves)

pub call_tells : (view : View) (query : Query) (cache : Cache) (entries : List Entry) (one other : CallEnd)
    → SeriesRun view query cache entries (Some one) → SeriesRun view query cache entries (Some other) → one ≡ other
call_tells view query cache entries one other (told, run, is) (also, same, so) =
    let e : told ≡ also = one_end (series_call view query cache) entries told also run same in
    same_end (sources_of view.kept) told one other is (subst (λ (t : Called). Gives (sources_of view.kept) t other) (sym e) so)
