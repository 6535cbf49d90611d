use Rattle.std.proofs.Common.{arith}
use Rattle.store_ranges.specs.IndexReads.{part_at}
use Rattle.store_ranges.specs.Asking.{piece_of}
use Rattle.store_ranges.proofs.Readings.{some_read, none_read}
use Rattle.store_ranges.proofs.SeriesNamed.{series_named, series_refused}
use Rattle.store_ranges.proofs.series_reads.series_in.Goals as goal

pub returns-in-Some : goal.returns-in-Some
returns-in-Some c =
    series_named (part_at (piece_of c.args.run.now.range) c.args.bytes.now) c.args.symbols.now c.args.number c.requires.begins c.requires.small
    (omega (arith, c.requires.begins, c.requires.small, c.in_ok-raw.ensures.fits)) c.in-Some.raw
    (some_read (λ raw. raw) _ c.in_ok-raw.field-0 c.in-Some.raw c.in-Some.is c.in_ok-raw.ensures.reads) c.named_series.result c.named_series.ensures

pub returns-in-None : goal.returns-in-None
returns-in-None c =
    series_refused (part_at (piece_of c.args.run.now.range) c.args.bytes.now) c.args.symbols.now c.args.number c.requires.begins c.requires.small
    (omega (arith, c.requires.begins, c.requires.small, c.in_ok-raw.ensures.fits)) (none_read (λ raw. raw) _ c.in_ok-raw.field-0 c.in-None.is c.in_ok-raw.ensures.reads)
