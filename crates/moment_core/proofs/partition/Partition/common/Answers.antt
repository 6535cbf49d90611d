use Rattle.moment_core.proofs.PartitionLaws.{shared}
use Rattle.moment_core.proofs.partition.Partition.common.Goals as goal

pub returns-clause-shared : goal.returns-clause-shared
returns-clause-shared c =
    shared c.args.self.now c.args.other.now c.common_times.result c.common_times.ensures
