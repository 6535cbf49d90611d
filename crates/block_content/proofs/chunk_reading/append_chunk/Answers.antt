use Rattle.std.proofs.Common.{sym, subst, inr, Result, List}
use Rattle.base.specs.Reading.{Gives}
use Rattle.xor_chunks.specs.declared.refusal.XorRefusal.TheVariants as xor
use Rattle.block_content.specs.declared.chunk_cause.ChunkCause.TheVariants.{File, Data}
use Rattle.label_sets.specs.declared.sample.Sample.{Sample}
use Rattle.xor_chunks.specs.Data.{with_samples}
use Rattle.block_content.specs.ContentReading.{chunk_at}
use Rattle.block_content.specs.declared.chunk_cause.ChunkCause.{ChunkCause}
use Rattle.block_content.proofs.Appending.{stops, refused_behind, chunk_stops, chunk_follows}
use Rattle.block_content.proofs.chunk_reading.append_chunk.Goals as goal

pub returns-in_err-content-clause-exact : goal.returns-in_err-content-clause-exact
returns-in_err-content-clause-exact c = stops (λ all. all.items) (with_samples c.args.samples.items (chunk_at c.args.segments.now c.args.place)) c.from_residual.result (File c.in_err-content.field-0.0) c.from_residual.ensures.1
    (inr (refused_behind c.args.samples.items (chunk_at c.args.segments.now c.args.place) (File c.in_err-content.field-0.0) (chunk_stops c.args.segments.now c.args.place c.in_err-content.field-0.0 c.in_err-content.ensures)))

pub returns-clause-exact : goal.returns-clause-exact
returns-clause-exact c =
    subst (λ (read : Result (List Sample) ChunkCause). Gives (Data xor.NoMemory) (λ all. all.items) c.append_samples.result (with_samples c.args.samples.items read)) (sym (chunk_follows c.args.segments.now c.args.place c.in_ok-content.content.now c.in_ok-content.ensures)) c.append_samples.ensures.exact
