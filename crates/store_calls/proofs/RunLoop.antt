-- Runs of series that the cache has, one after another.
use Rattle.std.proofs.Common.{◌≡◌, ℕ, List, [], ◌∷◌, map, subst, Some, None}
use Rattle.std.specs.Map.{lookup}
use Rattle.world_core.specs.Plans.{Plan, Keeps}
use Rattle.block_keys.specs.declared.key.Key.TheVariants.{Index}
use Rattle.store_ranges.specs.Caches.{same_range}
use Rattle.index_parts.specs.declared.index_series.IndexSeries.{IndexSeries}
use Rattle.store_ranges.specs.Reads.{Cache, used, range_of}
use Rattle.store_ranges.specs.IndexReads.{reached}
use Rattle.store_calls.specs.BlockReads.{BlockEnd}
use Rattle.store_ranges.specs.Asking.{piece_of}
use Rattle.store_ranges.specs.ToRead.{run_read}
use Rattle.store_calls.specs.WorkStates.{runs_left, chunks_left, whole_left, with_run, sized_left, range_left}
use Rattle.store_calls.specs.RunFindings.{TakesRun}
use Rattle.store_ranges.specs.declared.asked.Asked.{Asked}
use Rattle.store_ranges.specs.declared.run_read.RunRead.{RunRead}
use Rattle.store_calls.proofs.Leading.{keeps_on, keeps_cached}
use Rattle.store_calls.proofs.IndexPlans.{run_read_on, run_refused}

module _ (asked : Asked) (symbols : List (List ℕ)) (last : ℕ) (all : Plan BlockEnd) (later rest : List RunRead) (run : RunRead) (old new : Cache) (series : List IndexSeries) where
  abbrev Stands : List RunRead → Cache → List IndexSeries → Type 0
  Stands runs cache taken = Keeps (runs_left asked symbols (map run_read runs) (reached last cache) taken) all

  -- the next of them is at hand
  pub next_run : later ≡ run ∷ rest → Stands later old series → Stands (run ∷ rest) old series
  next_run is stands = subst (λ (l : List RunRead). Stands l old series) is stands

  abbrev behind_run : Plan BlockEnd
  behind_run = range_left asked (piece_of run.range) (reached last old) (with_run asked symbols (run_read run) (map run_read rest) series)

  -- it was taken
  pub run_goes_on : (bytes : List ℕ) (more : List IndexSeries) → later ≡ run ∷ rest → Stands later old series
      → lookup (same_range (range_of (Index asked.ulid) (piece_of run.range))) old.entries ≡ Some bytes → new ≡ used (range_of (Index asked.ulid) (piece_of run.range)) old
      → TakesRun symbols (run_read run) bytes series (Some more) → Stands rest new more
  run_goes_on bytes more is stands has same takes =
      keeps_on _ behind_run all
      (keeps_on _ _ behind_run (run_read_on asked symbols (run_read run) (map run_read rest) bytes series more (reached last new) takes)
      (keeps_cached asked old new last (piece_of run.range) (with_run asked symbols (run_read run) (map run_read rest) series) bytes has same))
      (next_run is stands)

  -- it was refused
  pub run_breaks : (bytes : List ℕ) → later ≡ run ∷ rest → Stands later old series
      → lookup (same_range (range_of (Index asked.ulid) (piece_of run.range))) old.entries ≡ Some bytes → new ≡ used (range_of (Index asked.ulid) (piece_of run.range)) old
      → TakesRun symbols (run_read run) bytes series None → Keeps (whole_left asked new) all
  run_breaks bytes is stands has same takes =
      keeps_on (whole_left asked new) behind_run all
      (keeps_on (whole_left asked new) (sized_left asked (piece_of run.range) (reached last new) (with_run asked symbols (run_read run) (map run_read rest) series) bytes) behind_run (run_refused asked symbols (run_read run) (map run_read rest) bytes series (reached last new) takes)
      (keeps_cached asked old new last (piece_of run.range) (with_run asked symbols (run_read run) (map run_read rest) series) bytes has same))
      (next_run is stands)

  -- there is none left
  pub none_left : later ≡ [] → Stands later old series → Keeps (chunks_left asked (reached last old) series) all
  none_left is stands = subst (λ (l : List RunRead). Stands l old series) is stands
