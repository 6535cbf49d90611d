-- What is known of a pass.
use Rattle.atomic_table.specs.Seated.{TableId}
use Rattle.world_turn.specs.Resting.{view_in}
use Rattle.world_turn.specs.declared.pass.Pass.{Pass}
use Rattle.world_turn.specs.declared.view.View.{View}

-- what a pass knows: its own entries, the front that it has seen, the length that it has heard of, and, of the root, what
-- was joined
abbrev pub view_of : Pass → View
view_of pass = view_in pass.badge

-- the table of the shared world whose pass it is
abbrev pub table_of : Pass → TableId
table_of pass = pass.badge.table_id
