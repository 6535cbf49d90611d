-- The blocks that are merged, and their series as a merge takes them.
use Rattle.std.specs.Prelude.{◌≡◌, ℕ, ◌≤ℤ◌, List, [], ◌∷◌, ◌++◌, map}
use Rattle.label_sets.specs.declared.label.Label.{Label}
use Rattle.label_sets.specs.declared.series.Series.{Series}
use Rattle.label_sets.specs.Finals.{reduced_of}
use Rattle.index_parts.specs.declared.index_series.IndexSeries.{IndexSeries}
use Rattle.index_parts.specs.IndexFile.{IsIndex}
use Rattle.block_meta.specs.declared.block_plan.BlockPlan.{BlockPlan}
use Rattle.block_meta.specs.declared.block_files.BlockFiles.{BlockFiles}
use Rattle.block_writing.specs.Put.{PutSeries}
use Rattle.block_writing.specs.Writing.{chunk_in}
use Rattle.base.specs.Firsts.{IsFirstAt}
use Rattle.block_content.specs.Content.{IsContent}
use Rattle.block_content.specs.ContentRefusals.{RefusesContent}
use Rattle.block_content.specs.declared.check_refusal.CheckRefusal.{CheckRefusal}

-- The block's times lie within the plan's.
pub record LiesWithin (plan : BlockPlan) (block : BlockFiles) : Type 0 where
  pub begin : plan.min_time ≤ℤ block.meta.min_time
  pub end : block.meta.max_time ≤ℤ plan.max_time

-- The block's files hold something that can be read.
abbrev pub HasContent : BlockFiles → Type 0
HasContent block = (list : List Series) × IsContent block list

-- The block at this place is the first whose files hold nothing that can be read, and this is why.
abbrev pub IsFirstRefused : List BlockFiles → ℕ → CheckRefusal → Type 0
IsFirstRefused blocks place cause = IsFirstAt HasContent (λ block. RefusesContent block cause) blocks place

-- a series of a block under its reduced labels, with the chunks at its places
abbrev pub taken : List Label → List (List ℕ) → List (List ℕ) → IndexSeries → PutSeries
taken external replicas segments series = record { labels = reduced_of series.labels external replicas; chunks = map (chunk_in segments) series.chunks }

-- the series of all blocks, one block after another
abbrev pub AreTaken : List Label → List (List ℕ) → List BlockFiles → List PutSeries → Type 0
AreTaken external replicas [] all = all ≡ []
AreTaken external replicas (block ∷ blocks) all =
    (series : List IndexSeries) × (others : List PutSeries) × IsIndex block.index series × AreTaken external replicas blocks others
    × (all ≡ map (taken external replicas block.segments) series ++ others)
