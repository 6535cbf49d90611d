use Rattle.compactor.specs.InputFiles.{AreSegments}
use Rattle.compactor.proofs.input_files.segment_files.Given as goal

abbrev pub invariant-loop-segment : goal.invariant-loop-segment
invariant-loop-segment l = AreSegments l.yielded l.files l.entries
