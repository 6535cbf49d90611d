use Rattle.std.proofs.Common.{ap}
use Rattle.label_sets.specs.Triples.{triples_of}
use Rattle.vertical_merge.proofs.merger.Merger.new.Goals as goal

pub returns : goal.returns
unfolding triples_of
returns c = ap triples_of c.new.ensures.items
