-- The bytes that a blob keeps.
use Rattle.std.specs.Prelude.{List, ℕ}
use Rattle.wire_bytes.specs.declared.blob.Kept.{Kept}
use Rattle.wire_bytes.specs.declared.blob.Kept.TheVariants as kept

-- those of one owner, or those that are counted
abbrev pub kept_bytes : Kept → List ℕ
kept_bytes (kept.Alone bytes) = bytes.items
kept_bytes (kept.Shared bytes) = bytes
