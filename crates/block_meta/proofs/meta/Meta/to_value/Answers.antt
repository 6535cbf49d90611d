use Rattle.std.proofs.lemmas.List.Elements.{recursion_from_All}
use Rattle.block_meta.specs.Bounds.{FitsParent}
use Rattle.block_meta.proofs.Again.{meta_again, thanos_written}
use Rattle.block_meta.proofs.Rising.{ascending_already, lawful_passes}
use Rattle.block_meta.proofs.meta.Meta.to_value.Goals as goal

pub returns-clause-again : goal.returns-clause-again
returns-clause-again c =
    let m = c.args.self.now in
    meta_again _ c.in_ok-write_ulid.ensures.written (lawful_passes _ _ m.times) (ascending_already _ m.distinct) c.in_ok-compaction.ensures.again (thanos_written _ c.in_ok-write_thanos.ensures.fits c.in_ok-write_thanos.ensures.labels_again)

pub returns-clause-numbers : goal.returns-clause-numbers
returns-clause-numbers c = let fit = c.in_ok-stats.ensures.fit in record {
  series = fit.0;
  samples = fit.1;
  chunks = fit.2;
  parents = recursion_from_All FitsParent c.args.self.now.parents c.in_ok-compaction.ensures.fit;
}
