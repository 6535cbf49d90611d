use Rattle.std.proofs.Common.{◌≡◌, ◌≤◌, ◌+◌, ◌++◌, drop, length}
use Rattle.label_sets.specs.SampleText.{pattern_text}
use Rattle.label_sets.proofs.Signs.{Stands}
use Rattle.label_sets.proofs.sample_text.write_pattern.Given as goal

-- the signs that are still to come and those that stand are the pattern's, before what stood behind them
abbrev pub invariant-loop-pair : goal.invariant-loop-pair
invariant-loop-pair l = record {
  size : length l.field ≡ 480;
  few : l.pair ≤ 8;
  whole : Stands (pattern_text l.pattern ++ drop (l.place + 16) l.initial.field) l.field l.place l.pair l.rest;
}
