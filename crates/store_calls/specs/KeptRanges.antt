-- Where the ranges come from that a cache has.
use Rattle.std.specs.Prelude.{◌≡◌, ℕ, List, All, Contains}
use Rattle.world_core.specs.declared.op.Op.TheVariants.{GetRange}
use Rattle.world_core.specs.declared.reply.Reply.TheVariants.{Found}
use Rattle.world_core.specs.declared.entry.Entry.{Entry}
use Rattle.store_ranges.specs.declared.range.Range.{Range}
use Rattle.store_ranges.specs.Reads.{Cache}

-- Some entry of these read the range so.
abbrev pub IsReadIn : List Entry → Range → List ℕ → Type 0
IsReadIn entries range bytes =
    (e : Entry) × Contains entries e × (e.op ≡ GetRange range.key range.from range.len) × (e.reply ≡ Found bytes)

-- What the cache has was read so by entries of these.
abbrev pub IsOfReads : List Entry → Cache → Type 0
IsOfReads entries cache = All (λ (kept : Range × List ℕ). IsReadIn entries kept.0 kept.1) cache.entries
