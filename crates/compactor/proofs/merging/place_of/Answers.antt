use Rattle.std.proofs.Common.{List, sym, ap, ◌∙◌, arith}
use Rattle.std.specs.Prelude.{slice_get}
use Rattle.index_parts.specs.declared.chunk_place.ChunkPlace.{ChunkPlace}
use Rattle.compactor.proofs.Refusing.{series_there, chunk_there, place_is}
use Rattle.compactor.proofs.merging.place_of.Goals as goal

pub returns-clause-place : goal.returns-clause-place
returns-clause-place c =
    place_is c.args.index.now c.in_ok-indexed.ensures.bytes c.in_ok-indexed.indexed c.args.series c.args.chunk c.in-Some.one.now c.in-Some-member_at.place c.in_ok-indexed.ensures.read
    (omega (arith, c.if-series-eq4294967295.false, c.ranges.series.fits)) (omega (arith, c.if-chunk-eq4294967295.false, c.ranges.chunk.fits)) (sym c.in-Some.ensures) (ap (λ (l : List ChunkPlace). slice_get l c.args.chunk) (sym c.chunks.ensures) ∙ sym c.in-Some-member_at.ensures)

pub unreachable-requires : goal.unreachable-requires
unreachable-requires c =
    series_there c.args.index.now c.in_ok-indexed.ensures.bytes c.in_ok-indexed.indexed c.args.series c.args.chunk c.in_ok-indexed.ensures.read c.requires
    (omega (arith, c.if-series-eq4294967295.false, c.ranges.series.fits)) (sym c.in_default.ensures)

pub unreachable-requires-in-None : goal.unreachable-requires-in-None
unreachable-requires-in-None c =
    chunk_there c.args.index.now c.in_ok-indexed.ensures.bytes c.in_ok-indexed.indexed c.in-Some.one.now c.args.series c.args.chunk c.in_ok-indexed.ensures.read c.requires
    (omega (arith, c.if-series-eq4294967295.false, c.ranges.series.fits)) (omega (arith, c.if-chunk-eq4294967295.false, c.ranges.chunk.fits)) (sym c.in-Some.ensures) (ap (λ (l : List ChunkPlace). slice_get l c.args.chunk) (sym c.chunks.ensures) ∙ sym c.in-None.ensures)
