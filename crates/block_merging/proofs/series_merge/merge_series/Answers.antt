use Rattle.std.proofs.Common.{map}
use Rattle.block_merging.specs.Placed.{chunk_of}
use Rattle.block_merging.proofs.Sweeping.{mapped_some, after_same, series_told}
use Rattle.block_merging.proofs.series_merge.merge_series.Goals as goal

pub series-requires-clause-some : goal.series-requires-clause-some
series-requires-clause-some c = mapped_some c.args.writer.now c.put_runs.new.writer c.args.labels c.args.chunks.now c.in_ok-put_runs.ensures c.requires.some

pub series-requires-clause-greater : goal.series-requires-clause-greater
series-requires-clause-greater c = after_same c.args.writer.now c.put_runs.new.writer c.args.labels (map chunk_of c.args.chunks.now) c.in_ok-put_runs.ensures c.requires.greater

pub returns : goal.returns
returns c = series_told c.series.result c.args.writer.now c.put_runs.new.writer c.series.new.self c.args.labels (map chunk_of c.args.chunks.now) c.in_ok-put_runs.ensures c.series.ensures.ok
