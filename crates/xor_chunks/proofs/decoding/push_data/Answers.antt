use Rattle.std.proofs.Common.{inr}
use Rattle.xor_chunks.proofs.Appending.{gives_stop, no_count, samples_stopped, left_over, all_read}
use Rattle.xor_chunks.proofs.decoding.push_data.Goals as goal

pub returns-in_err-count-clause-exact : goal.returns-in_err-count-clause-exact
returns-in_err-count-clause-exact c = gives_stop _ _ _ _ c.from_residual.ensures.1
    (inr (no_count _ _ _ _ c.in_err-count.ensures))

pub returns-in_err-samples-clause-exact : goal.returns-in_err-samples-clause-exact
returns-in_err-samples-clause-exact c = gives_stop _ _ _ _ c.from_residual-in_err-samples.ensures.1
    (samples_stopped c.args.most c.args.samples.items c.args.bytes.now c.in_ok-count.count c.in_ok-count.rest.now c.in_ok-count.ensures c.in_err-samples.field-0.0 c.in_err-samples.ensures)

pub returns-then-not-is_filling-clause-exact : goal.returns-then-not-is_filling-clause-exact
returns-then-not-is_filling-clause-exact c =
    inr (left_over c.args.most c.args.samples.items c.args.bytes.now c.in_ok-count.count c.in_ok-count.rest.now c.in_ok-count.ensures c.in_ok-samples.samples.items c.in_ok-samples.reader c.is_filling.result c.in_ok-samples.ensures c.is_filling.ensures c.if-not-is_filling.true)

pub returns-clause-exact : goal.returns-clause-exact
returns-clause-exact c =
    all_read c.args.most c.args.samples.items c.args.bytes.now c.in_ok-count.count c.in_ok-count.rest.now c.in_ok-count.ensures c.in_ok-samples.samples.items c.in_ok-samples.reader c.is_filling.result c.in_ok-samples.ensures c.is_filling.ensures c.if-not-is_filling.false
