use Rattle.std.proofs.Common.{length, refl, inr}
use Rattle.block_content.specs.declared.chunk_cause.ChunkCause.TheVariants.{File, Data}
use Rattle.block_content.proofs.FoundPlaces.{stops, no_data, no_samples, found_there}
use Rattle.block_content.proofs.places.read_place.Goals as goal

pub returns-in_err-content : goal.returns-in_err-content
returns-in_err-content c = stops c.args.meta.now c.args.segments.now c.args.place c.from_residual.result (File c.in_err-content.field-0.0) c.from_residual.ensures.1 (inr (no_data c.args.segments.now c.args.place c.in_err-content.field-0.0 c.in_err-content.ensures))

pub returns-in_err-span : goal.returns-in_err-span
returns-in_err-span c =
    stops c.args.meta.now c.args.segments.now c.args.place c.from_residual-in_err-span.result (Data c.in_err-span.field-0.0) c.from_residual-in_err-span.ensures.1
    (inr (no_samples c.args.segments.now c.args.place c.in_ok-content.content.now c.in_ok-content.ensures c.in_err-span.field-0.0 c.in_err-span.ensures.exact))

pub returns : goal.returns
returns c =
    found_there c.args.segments.now c.args.place c.in_ok-content.content.now c.in_ok-content.ensures c.args.meta.now (record { bytes = length c.in_ok-content.content.now; span = c.in_ok-span.span; outside = c.in_ok-outside.outside }) c.in_ok-span.ensures.found c.in_ok-outside.ensures.time refl
