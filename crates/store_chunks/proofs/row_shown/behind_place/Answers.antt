use Rattle.std.proofs.Common.{◌∙◌, ◌<◌, length, refl, sym, arith}
use Rattle.store_ranges.specs.ChunkRanges.{meets}
use Rattle.store_chunks.specs.RowsFit.{row_names}
use Rattle.store_chunks.proofs.RowSamples.{place_passed, place_met, first_chunk_and}
use Rattle.store_chunks.proofs.row_shown.behind_place.Goals as goal

pub returns-then-not-meets : goal.returns-then-not-meets
returns-then-not-meets c = place_passed (meets c.args.asked.now.low c.args.asked.now.high) (row_names c.args.row.now) (row_names c.args.row.now) c.args.place.now (sym c.meets.ensures ∙ c.if-not-meets.true) refl

pub returns-then-one-reference_of : goal.returns-then-one-reference_of
returns-then-one-reference_of c =
    let some : 0 < length c.args.row.now = omega (arith, c.in-len1-up.len_at_least) in
    place_met (meets c.args.asked.now.low c.args.asked.now.high) c.args.row.now _ _ c.args.place.now (sym c.meets.ensures ∙ c.if-not-meets.false) (first_chunk_and c.args.row.now _ some)
    (c.if-one-reference_of.true ∙ c.reference_of.ensures.value)
