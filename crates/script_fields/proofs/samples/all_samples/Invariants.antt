use Rattle.std.proofs.Common.{◌≡◌}
use Rattle.std.specs.Option.{option_copied}
use Rattle.script_fields.specs.Samples.{samples_of, samples_from}
use Rattle.script_fields.proofs.SampleLists.{after, texts_left, size_left}
use Rattle.script_fields.proofs.samples.all_samples.Given as goal

-- the samples so far, with those that are left, are all
abbrev pub invariant-loop-left : goal.invariant-loop-left
invariant-loop-left l = after l.samples (samples_from (texts_left (option_copied l.left))) ≡ samples_of l.texts

abbrev pub decreases-loop-left : goal.decreases-loop-left
decreases-loop-left l = size_left (option_copied l.left)
