-- What a sync reads of a block, and the view that it comes to.
use Rattle.std.specs.Prelude.{◌≡◌, ℕ, List, map, Option, option_map, not}
use Rattle.std.specs.List.{filter}
use Rattle.std.specs.List.Sorted.{IsStrictlyIncreasing}
use Rattle.moment_core.specs.declared.moment.Moment.{Moment}
use Rattle.block_meta.specs.MetaFields.{MetaFields, MarkFields, fields_of, mark_fields_of}
use Rattle.sync_filters.specs.Filters.{is_consistent, is_covered, is_in_partition, is_unmarked}
use Rattle.sync_filters.specs.declared.found.Found.{Found}
use Rattle.meta_fetcher.specs.declared.rules.SyncRules.{SyncRules}
use Rattle.meta_fetcher.specs.declared.view.View.{View}

-- what was read of a block whose meta stands, and when
pub record Sighting : Type 0 where
  pub ulid : ℕ
  pub mark : Option MarkFields
  pub mark_read : Moment
  pub meta : MetaFields
  pub meta_read : Moment

abbrev pub sighting_of : Found → Sighting
sighting_of block = record { ulid = block.ulid; mark = option_map mark_fields_of block.mark; mark_read = block.mark_read; meta = fields_of block.meta; meta_read = block.meta_read }

-- the blocks that pass the filters by times and by marks, one filter after another
abbrev pub passed_by : SyncRules → List Found → List Found
passed_by rules found =
    let in_time = filter (λ block. is_in_partition block.meta rules.partition) found in
    let old = filter (λ block. is_consistent block rules.consistency) in_time in
    filter (λ block. is_unmarked block rules.mark_delay) old

-- the blocks that pass and are kept: none that passes is better
abbrev pub kept_by : SyncRules → List Found → List Found
kept_by rules found =
    let passed = passed_by rules found in
    filter (λ block. not (is_covered passed block)) passed

-- the others that pass: one that passes is better
abbrev pub covered_by : SyncRules → List Found → List Found
covered_by rules found =
    let passed = passed_by rules found in
    filter (is_covered passed) passed

-- The view of a sync whose first entry has that number, which began and ended at these moments, and which read this of the
-- blocks that it found.
pub record IsView (rules : SyncRules) (number : ℕ) (begun ended : Moment) (sightings : List Sighting) (view : View) : Type 0 where
  pub first : view.first ≡ number
  pub begin : view.begin ≡ begun
  pub end : view.end ≡ ended
  pub found : List Found
  pub sighted : map sighting_of found ≡ sightings
  pub kept : view.kept ≡ kept_by rules found
  pub covered : view.covered ≡ covered_by rules found
  -- in both, each ULID is greater than the one before it
  pub kept_ascend : IsStrictlyIncreasing (map (λ block. block.ulid) view.kept)
  pub covered_ascend : IsStrictlyIncreasing (map (λ block. block.ulid) view.covered)
