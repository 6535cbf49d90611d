use Rattle.std.proofs.Common.{◌<◌, List, length, subst, sym}
use Rattle.label_sets.specs.declared.sample.Sample.{Sample}
use Rattle.block_writing.specs.Built.{AreOfBlock}
use Rattle.block_writing.specs.Put.{PutSeries, IsAfterSeries}
use Rattle.block_writing.proofs.Parts.{begin_after, have_chunks, series_more}
use Rattle.block_writing.proofs.builder.put_series.Goals as goal

pub put_parts-requires-clause-samples : goal.put_parts-requires-clause-samples
put_parts-requires-clause-samples c = subst (AreOfBlock c.args.writer.now.plan) (sym c.members.ensures) c.requires.samples

pub put_parts-requires-clause-after : goal.put_parts-requires-clause-after
put_parts-requires-clause-after c = begin_after c.args.writer.now.chunks c.members.result.now c.requires.nothing_left

pub series-requires-clause-some : goal.series-requires-clause-some
series-requires-clause-some c empty =
    have_chunks c.args.writer.now c.members.result.now c.put_parts.new.writer c.in_ok-put_parts.ensures.ok c.requires.nothing_left (subst (λ (l : List Sample). 0 < length l) (sym c.members.ensures) c.requires.samples.some) empty

pub series-requires-clause-greater : goal.series-requires-clause-greater
series-requires-clause-greater c =
    subst (IsAfterSeries c.put_parts.new.writer.series) (sym c.in_ok-copy.ensures) (subst (λ (l : List PutSeries). IsAfterSeries l c.args.series.now.labels) (sym c.in_ok-put_parts.ensures.ok.series_are) c.requires.greater)

pub returns : goal.returns
returns c =
    series_more c.series.result c.args.writer.now c.put_parts.new.writer c.series.new.self c.args.series.now c.members.result.now _ c.members.ensures c.in_ok-copy.ensures c.requires.nothing_left c.in_ok-put_parts.ensures.ok c.series.ensures.ok
