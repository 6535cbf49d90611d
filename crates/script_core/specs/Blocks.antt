-- The blocks that a script declares.
use Rattle.std.specs.Prelude.{ℕ, List, Bool, ◌==◌}
use Rattle.std.specs.List.{list_any}
use Rattle.script_core.specs.declared.block.Block.{Block}

-- whether some block has this ULID
abbrev pub declares : List Block → ℕ → Bool
declares blocks ulid = list_any (λ block. block.ulid == ulid) blocks
