-- The deletion marks that a compaction puts.
use Rattle.std.specs.Prelude.{ℕ, ◌/◌, List}
use Rattle.block_meta.specs.MetaFields.{MarkFields}
use Rattle.block_meta.specs.MetaValue.{mark_text}
use Rattle.moment_core.specs.declared.moment.Moment.{Moment}
use Rattle.moment_core.specs.Limits.{one_second}

-- The mark of a block that was found without one at a moment. It counts from the second of that moment.
abbrev pub new_mark : ℕ → Moment → List ℕ → MarkFields
new_mark ulid looked details = record { id = ulid; deletion_time = looked.ms / one_second; details = details }

abbrev pub new_mark_text : ℕ → Moment → List ℕ → List ℕ
new_mark_text ulid looked details = mark_text (new_mark ulid looked details)
