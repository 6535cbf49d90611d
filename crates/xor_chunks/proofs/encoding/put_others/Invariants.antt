use Rattle.std.proofs.Common.{◌^◌, ◌<◌}
use Rattle.std.specs.List.{AllWithin}
use Rattle.xor_chunks.proofs.PutLoops.{HasPut}
use Rattle.xor_chunks.proofs.encoding.put_others.Given as goal

abbrev pub invariant-loop-sample : goal.invariant-loop-sample
invariant-loop-sample l = record {
  put : HasPut l.fn.writer l.fn.second l.samples l.sample-index l.writer (record { time = l.time; delta = l.delta; pattern = l.pattern; window = l.window });
  patterns : AllWithin (λ s. s.pattern < 2 ^ 64) l.samples 0 l.sample-index;
}
