-- The meta and the deletion mark of a block: those that name it.
use Rattle.std.specs.Prelude.{ℕ, ◌==◌, if◌then◌else◌, List, Option, Some, None, Result, Ok, Err}
use Rattle.block_meta.specs.MetaFields.{MetaFields, MarkFields}
use Rattle.block_meta.specs.MetaReading.{meta_of_text, mark_of_text}
use Rattle.block_meta.specs.declared.refusal.MetaRefusal.{MetaRefusal}

-- the meta that bytes are read as, where it is this block's
abbrev pub named_meta : ℕ → Result MetaFields MetaRefusal → Option MetaFields
named_meta ulid (Ok meta) = if meta.ulid == ulid then Some meta else None
named_meta ulid (Err refusal) = None

abbrev pub block_meta : ℕ → List ℕ → Option MetaFields
block_meta ulid bytes = named_meta ulid (meta_of_text bytes)

-- the mark that bytes are read as, where it is this block's
abbrev pub named_mark : ℕ → Result MarkFields MetaRefusal → Option MarkFields
named_mark ulid (Ok mark) = if mark.id == ulid then Some mark else None
named_mark ulid (Err refusal) = None

abbrev pub block_mark : ℕ → List ℕ → Option MarkFields
block_mark ulid bytes = named_mark ulid (mark_of_text bytes)
