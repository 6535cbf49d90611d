use Rattle.std.proofs.Common.{refl}
use Rattle.xor_chunks.proofs.BitPlaces.{reader_passed, reader_long}
use Rattle.xor_chunks.proofs.passing.reader_at.Goals as goal

pub returns : goal.returns
returns c = reader_passed _ _ _ _ _ c.new-reader.ensures c.in-Ok.ensures.taken

pub unreachable-requires : goal.unreachable-requires
unreachable-requires c = reader_long _ _ _ c.requires c.new-reader.ensures (c.in-Err.ensures.short.0 refl)
