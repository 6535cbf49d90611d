-- The names of blocks that were found.
use Rattle.std.specs.Prelude.{ℕ, List, map, Option}
use Rattle.std.specs.List.{filter}
use Rattle.moment_core.specs.declared.moment.Moment.{Moment}
use Rattle.moment_core.specs.declared.span.Span.{Span}
use Rattle.sync_filters.specs.Filters.{is_expired}
use Rattle.sync_filters.specs.declared.found.Found.{Found}

abbrev pub names_of : List Found → List ℕ
names_of blocks = map (λ block. block.ulid) blocks

-- the blocks that had expired at a moment
abbrev pub expired_at : Option Span → Moment → List Found → List Found
expired_at retention begun blocks = filter (λ block. is_expired block.meta retention begun) blocks
