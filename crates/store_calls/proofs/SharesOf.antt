-- A call that took samples is a run of each block's reads, one after another.
use Rattle.std.proofs.Common.{◌≡◌, ℕ, List, [], ◌∷◌, ◌++◌, Some, refl, sym, subst, inl, inr, ◌∙◌, append_assoc, append-nil}
use Rattle.std.specs.List.Sorted.{IsStrictlyIncreasing}
use Rattle.label_sets.specs.Triples.{Triple}
use Rattle.label_sets.specs.declared.series.Series.{Series}
use Rattle.world_core.specs.Plans.{Runs}
use Rattle.world_core.specs.declared.entry.Entry.{Entry}
use Rattle.world_core.proofs.PlanParts.{Parts, broken, both, parts}
use Rattle.meta_fetcher.specs.declared.view.View.{View}
use Rattle.vertical_merge.specs.Merged.{IsMerge}
use Rattle.store_ranges.specs.Reads.{Query, Block, Cache, missing, damaged, fault}
use Rattle.store_calls.specs.BlockReads.{BlockEnd, gives, breaks_off, block_call}
use Rattle.store_calls.specs.SeriesCalls.{Called, took, broke, CallEnd, Gives, SeriesRun, after_block, reading, series_call, sources_of, to_read}
use Rattle.store_calls.specs.Shares.{AreShares, all_shares}
use Rattle.store_calls.specs.declared.series_call.SeriesEnd.TheVariants as ended

abbrev Shared : Query → List Block → List Triple → Cache → List Entry → List Triple → Cache → Type 0
Shared query blocks taken before entries all after =
    (shares : List (List Triple)) × AreShares query blocks before entries shares after × (all ≡ taken ++ all_shares shares)

abbrev FallsApart : Query → List Block → Type 0
FallsApart query blocks =
    (taken : List Triple) (before after : Cache) (entries : List Entry) (all : List Triple)
    → Runs (reading query blocks taken before) entries (Some (took all after)) → Shared query blocks taken before entries all after

first_apart : (query : Query) (block : Block) (blocks : List Block) → FallsApart query blocks → FallsApart query (block ∷ blocks)
first_apart query block blocks later taken before after entries all run =
    by_parts (parts (block_call query block before) (after_block taken (reading query blocks)) entries (Some (took all after)) run)
  where
    by_end : (own others : List Entry) (last : BlockEnd) → entries ≡ own ++ others → Runs (block_call query block before) own (Some last)
        → Runs (after_block taken (reading query blocks) last) others (Some (took all after)) → Shared query (block ∷ blocks) taken before entries all after
    by_end own others (gives share next) is first rest =
        let so = later (taken ++ share) next after others all rest in
        (share ∷ so.0, (own, others, next, is, first, so.1), so.2 ∙ append_assoc taken share (all_shares so.0))
    by_end own others (breaks_off why next) is first (none, inl wrong) = absurd (cc (wrong))
    by_end own others (breaks_off why next) is first (none, inr wrong) = absurd (cc (wrong))

    by_parts : Parts (block_call query block before) (after_block taken (reading query blocks)) entries (Some (took all after)) → Shared query (block ∷ blocks) taken before entries all after
    by_parts (broken first none) = absurd (cc (none))
    by_parts (both own others last is first rest) = by_end own others last is first rest

shares_of : (query : Query) (blocks : List Block) → FallsApart query blocks
shares_of query [] taken before after entries all (none, inl wrong) = absurd (cc (wrong))
shares_of query [] taken before after entries all (none, inr is) =
    let samples : all ≡ taken = cc (is) in
    let cache : after ≡ before = cc (is) in
    ([], (none, refl, cache), samples ∙ sym (append-nil taken))
shares_of query (block ∷ blocks) taken before after entries all run =
    first_apart query block blocks (shares_of query blocks) taken before after entries all run

-- ---- answers

pub record Answered (view : View) (query : Query) (before after : Cache) (entries : List Entry) (series : List Series) (sources : List ℕ) : Type 0 where
  pub shares : List (List Triple)
  pub are : AreShares query (to_read query view.kept) before entries shares after
  pub merged : IsMerge (all_shares shares) series
  pub ascend : IsStrictlyIncreasing sources

abbrev answer : List Series → List ℕ → Cache → CallEnd
answer series sources after = record { end = ended.Answer series sources; cache = after }

by_told : (view : View) (query : Query) (before after : Cache) (entries : List Entry) (series : List Series) (sources : List ℕ) (told : Called)
    → Runs (series_call view query before) entries (Some told) → Gives (sources_of view.kept) told (answer series sources after) → Answered view query before after entries series sources
by_told view query before after entries series sources (took taken cache) run ((others, set, is, merge, of), same) =
    let so = shares_of query (to_read query view.kept) [] before cache entries taken run in
    let same_series : series ≡ others = cc (is) in
    let same_sources : sources ≡ set = cc (is) in
    record {
      shares = so.0;
      are = subst (AreShares query (to_read query view.kept) before entries so.0) (sym same) so.1;
      merged = subst (λ all. IsMerge all series) so.2 (subst (IsMerge taken) (sym same_series) merge);
      ascend = subst IsStrictlyIncreasing (sym same_sources) of.increasing;
    }
by_told view query before after entries series sources (broke (missing number) cache) run (is, same) = absurd (cc (is))
by_told view query before after entries series sources (broke (damaged number) cache) run (is, same) = absurd (cc (is))
by_told view query before after entries series sources (broke (fault number) cache) run (is, same) = absurd (cc (is))

pub answered : (view : View) (query : Query) (before after : Cache) (entries : List Entry) (series : List Series) (sources : List ℕ)
    → SeriesRun view query before entries (Some (answer series sources after)) → Answered view query before after entries series sources
answered view query before after entries series sources (told, run, is) = by_told view query before after entries series sources told run is
