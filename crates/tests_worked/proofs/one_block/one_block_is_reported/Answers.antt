use Rattle.tests_worked.proofs.one.OneGuaranteed.{guaranteed}
use Rattle.std.proofs.Common.{None, append-nil, sym}
use Rattle.tests_worked.specs.OneBlock.{ends, report}
use Rattle.tests_worked.proofs.one.OneBlock.{run, finished}
use Rattle.tests_worked.proofs.one.OneOutcomes.{one_report}
use Rattle.tests_worked.proofs.one.OneReport.{reports}
use Rattle.tests_worked.proofs.one.OneUnbroken.{unbroken_over}
use Rattle.tests_worked.proofs.one_block.one_block_is_reported.Goals as goal

pub returns : goal.returns
returns c = record { finished = finished; report = reports; only = one_report; whole = record { ends = ends; run = run; finished = finished; lines = report; report = reports; breach = None; breaks = unbroken_over; text_is = sym (append-nil report); guaranteed = guaranteed } }
