use Rattle.std.proofs.Common.{◌∙◌, ap, drop, refl, List}
use Rattle.block_content.specs.declared.chunk_cause.ChunkCause.TheVariants.{Data}
use Rattle.label_sets.specs.declared.sample.Sample.{Sample}
use Rattle.xor_chunks.specs.Data.{with_samples}
use Rattle.block_content.specs.ContentReading.{samples_at}
use Rattle.block_content.proofs.Appending.{stops, data_stopped, test_stopped, test_passed}
use Rattle.std.proofs.Common.{inr}
use Rattle.block_content.proofs.chunk_reading.append_samples.Goals as goal

pub returns-in_err-all-clause-exact : goal.returns-in_err-all-clause-exact
returns-in_err-all-clause-exact c = stops (λ all. all.items) (with_samples c.args.samples.items (samples_at c.args.place.now c.args.content.now)) c.from_residual.result (Data c.in_err-all.field-0.0) c.from_residual.ensures.1
    (data_stopped c.args.place.now c.args.content.now c.args.samples.items c.in_err-all.field-0.0 (Data c.in_err-all.field-0.0) refl c.in_err-all.ensures.exact)

pub returns-in_err-test_part-clause-exact : goal.returns-in_err-test_part-clause-exact
returns-in_err-test_part-clause-exact c = stops (λ all. all.items) (with_samples c.args.samples.items (samples_at c.args.place.now c.args.content.now)) c.from_residual-in_err-test_part.result c.in_err-test_part.field-0.0 c.from_residual-in_err-test_part.ensures.1
    (inr (test_stopped c.args.place.now c.args.content.now c.args.samples.items c.in_ok-all.all.items c.members_behind.result.now c.len-before.result c.in_ok-all.ensures.exact (c.len-before.ensures ∙ c.args.samples.ok.0)
    (c.members_behind.ensures ∙ ap (λ (xs : List Sample). drop c.len-before.result xs) c.as_slice.ensures.value) c.in_err-test_part.field-0.0 c.in_err-test_part.ensures))

pub returns-clause-exact : goal.returns-clause-exact
returns-clause-exact c =
    (test_passed c.args.place.now c.args.content.now c.args.samples.items c.in_ok-all.all.items c.members_behind.result.now c.len-before.result c.in_ok-all.ensures.exact (c.len-before.ensures ∙ c.args.samples.ok.0)
    (c.members_behind.ensures ∙ ap (λ (xs : List Sample). drop c.len-before.result xs) c.as_slice.ensures.value) c.in_ok-test_part.ensures).0
