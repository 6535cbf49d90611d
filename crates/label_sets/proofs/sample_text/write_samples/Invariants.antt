use Rattle.std.proofs.Common.{◌≡◌, ◌≤◌, ◌*◌, length, drop}
use Rattle.std.specs.List.{flat_map}
use Rattle.label_sets.specs.SampleText.{spaced_sample_text}
use Rattle.label_sets.proofs.sample_text.write_samples.Given as goal

-- the samples from a place on stand, and each before it has room
abbrev pub invariant-loop-place : goal.invariant-loop-place
invariant-loop-place l = record {
  size : length l.field ≡ 480;
  some : l.place ≤ length l.samples;
  room : 40 * l.place ≤ l.start;
  within : l.start ≤ 480;
  written : drop l.start l.field ≡ flat_map spaced_sample_text (drop l.place l.samples);
}
