-- How many members the lists of a journal have together.
use Rattle.std.specs.Prelude.{ℕ, ◌+◌, List, length, sum_by}
use Rattle.world_core.specs.declared.reply.Reply.{Reply}
use Rattle.world_core.specs.declared.reply.Reply.TheVariants.{Names}
use Rattle.world_core.specs.declared.entry.Entry.{Entry}
use Rattle.world_core.specs.Keeping.{kept_bytes}

-- the names that a reply lists
abbrev pub listed : Reply → ℕ
listed (Names names) = length names
listed reply = 0

-- the entries, the names of their pages, and the bytes of these, of puts and of found objects
abbrev pub member_count : List Entry → ℕ
member_count entries = length entries + sum_by (λ e. listed e.reply) entries + kept_bytes entries
