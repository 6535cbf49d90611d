-- How much a journal keeps, and when it is full.
use Rattle.std.specs.Prelude.{ℕ, ◌+◌, ◌≤◌, ◌⊎◌, List, length, sum_by}
use Rattle.world_core.specs.Limits.{most_entries, most_kept}
use Rattle.world_core.specs.declared.op.Op.{Op}
use Rattle.world_core.specs.declared.op.Op.TheVariants.{Put}
use Rattle.world_core.specs.declared.reply.Reply.{Reply}
use Rattle.world_core.specs.declared.reply.Reply.TheVariants.{Found, Names}
use Rattle.world_core.specs.declared.entry.Entry.{Entry}

-- the bytes that an operation brings
abbrev pub bytes_put : Op → ℕ
bytes_put (Put key bytes) = length bytes
bytes_put op = 0

-- the bytes that a reply brings
abbrev pub bytes_told : Reply → ℕ
bytes_told (Found bytes) = length bytes
bytes_told (Names names) = sum_by length names
bytes_told reply = 0

-- the bytes of puts, of found objects and of the names of pages
abbrev pub kept_bytes : List Entry → ℕ
kept_bytes entries = sum_by (λ e. bytes_put e.op + bytes_told e.reply) entries

-- a journal takes no more entries: it has as many as it may, or keeps as many bytes as it may
abbrev pub IsFull : List Entry → Type 0
IsFull entries = (most_entries ≤ length entries) ⊎ (most_kept ≤ kept_bytes entries)
