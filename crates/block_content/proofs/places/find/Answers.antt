use Rattle.std.proofs.Common.{arith}
use Rattle.block_content.proofs.FoundPlaces.{one_kept}
use Rattle.block_content.proofs.places.find.Goals as goal

pub returns-clause-kept : goal.returns-clause-kept
returns-clause-kept c = one_kept c.args.meta.now c.args.segments.now c.args.places.now c.keep.new.places c.args.place c.in_ok-found.found c.requires (omega arith) c.in_ok-found.ensures c.in_ok-keep.ensures
