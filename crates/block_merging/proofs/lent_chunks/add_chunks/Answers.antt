use Rattle.std.proofs.Common.{map, refl}
use Rattle.block_writing.specs.Writing.{chunk_in}
use Rattle.block_writing.proofs.Tested.{refused_at}
use Rattle.block_merging.specs.Placed.{chunk_of}
use Rattle.block_merging.specs.Queues.{IsStanding}
use Rattle.block_merging.proofs.InputWalks.{mapped_none, mapped_more, mapped_all}
use Rattle.block_merging.proofs.lent_chunks.add_chunks.Goals as goal

pub loop-place-init : goal.loop-place-init
loop-place-init c = mapped_none chunk_of (chunk_in c.args.segments.now) c.args.made.items c.args.places.now

pub input_chunk-requires : goal.input_chunk-requires
input_chunk-requires c = refused_at (IsStanding c.args.segments.now) c.args.places.now c.loop-place.place-index _ _ c.loop-place-test.true refl c.requires

pub loop-place-preserved : goal.loop-place-preserved
loop-place-preserved c =
    mapped_more chunk_of (chunk_in c.args.segments.now) (map chunk_of c.args.made.items) c.loop-place.all.items c.push.new.self.items c.input_chunk.result c.args.places.now c.loop-place.place-index _ c.loop-place-test.true c.loop-place.invariant c.input_chunk.ensures
    c.in_ok-push.ensures.items

pub returns : goal.returns
returns c = mapped_all chunk_of (chunk_in c.args.segments.now) (map chunk_of c.args.made.items) c.loop-place.all.items c.args.places.now c.args.places.now c.loop-place.place-index refl c.loop-place-test.false c.loop-place.invariant
