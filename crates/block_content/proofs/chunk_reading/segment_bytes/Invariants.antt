use Rattle.std.proofs.Common.{◌≡◌, take, length, sum_by}
use Rattle.std.specs.List.{AllByRecursion}
use Rattle.base.specs.Grammar.{IsBytes}
use Rattle.block_content.specs.Named.{counted}
use Rattle.block_content.proofs.chunk_reading.segment_bytes.Given as goal

abbrev pub invariant-loop-segment : goal.invariant-loop-segment
invariant-loop-segment l = record {
  value : l.bytes ≡ counted (sum_by length (take l.segment-index l.segments));
  are : AllByRecursion IsBytes (take l.segment-index l.segments);
}
