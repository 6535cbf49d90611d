use Rattle.compactor.specs.InputFiles.{AreFiles}
use Rattle.compactor.proofs.input_files.all_files.Given as goal

abbrev pub invariant-loop-input : goal.invariant-loop-input
invariant-loop-input l = AreFiles l.yielded l.blocks l.numbers
