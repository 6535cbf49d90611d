use Rattle.std.proofs.Common.{sym}
use Rattle.compactor.proofs.Refusing.{shown_at, names_chunk, segment_there}
use Rattle.compactor.proofs.merging.number_of.Goals as goal

pub place_of-requires : goal.place_of-requires
place_of-requires c = names_chunk c.args.block.now c.args.cause c.in-BadChunk.series c.in-BadChunk.chunk c.in-BadChunk.cause c.bytes.result.now c.in-BadChunk.is c.requires.refused c.bytes.ensures

pub returns : goal.returns
returns c =
    shown_at c.args.read.now c.args.block.now c.args.cause c.in-BadChunk.series c.in-BadChunk.chunk c.in-BadChunk.cause c.in_ok-place.place c.in-Some.number.now
    c.in-BadChunk.is c.requires.refused c.bytes.result.now c.bytes.ensures c.in_ok-place.ensures.place (sym c.in-Some.ensures)

pub unreachable-requires : goal.unreachable-requires
unreachable-requires c =
    segment_there c.args.block.now c.args.read.now c.in-BadChunk.series c.in-BadChunk.chunk c.bytes.result.now c.in_ok-place.place c.bytes.ensures c.in_ok-place.ensures.bytes
    (names_chunk c.args.block.now c.args.cause c.in-BadChunk.series c.in-BadChunk.chunk c.in-BadChunk.cause c.bytes.result.now c.in-BadChunk.is c.requires.refused c.bytes.ensures) c.in_ok-place.ensures.place c.requires.named (sym c.in-None.ensures)
