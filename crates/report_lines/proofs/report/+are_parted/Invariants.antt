use Rattle.std.proofs.Common.{length}
use Rattle.report_lines.proofs.report.+are_parted.Given as goal

abbrev pub decreases-are_parted : goal.decreases-are_parted
decreases-are_parted l = length l.partitions.now
