use Rattle.std.proofs.lemmas.Result.{err_from_is_err_and}
use Rattle.xor_chunks.proofs.SpansRead.{span_no_count, span_stops, span_left_over, span_whole}
use Rattle.xor_chunks.proofs.spanning.span_data.Goals as goal

pub returns-in_err-count-clause-exact : goal.returns-in_err-count-clause-exact
returns-in_err-count-clause-exact c =
    let p = err_from_is_err_and c.from_residual.result c.from_residual.ensures.1 in
    rw (p.1, p.2) (span_no_count c.args.most c.args.bytes.now _ c.in_err-count.ensures)

pub returns-in_err-span-clause-exact : goal.returns-in_err-span-clause-exact
returns-in_err-span-clause-exact c =
    let p = err_from_is_err_and c.from_residual-in_err-span.result c.from_residual-in_err-span.ensures.1 in
    rw (p.1, p.2) (span_stops c.args.most c.args.bytes.now c.in_ok-count.count c.in_ok-count.rest.now c.in_ok-count.ensures c.in_err-span.field-0.0 c.in_err-span.ensures)

pub returns-then-not-is_filling-clause-exact : goal.returns-then-not-is_filling-clause-exact
returns-then-not-is_filling-clause-exact c =
    span_left_over c.args.most c.args.bytes.now c.in_ok-count.count c.in_ok-count.rest.now c.in_ok-count.ensures c.in_ok-span.span c.in_ok-span.reader c.is_filling.result c.in_ok-span.ensures c.is_filling.ensures c.if-not-is_filling.true

pub returns-clause-exact : goal.returns-clause-exact
returns-clause-exact c =
    span_whole c.args.most c.args.bytes.now c.in_ok-count.count c.in_ok-count.rest.now c.in_ok-count.ensures c.in_ok-span.span c.in_ok-span.reader c.is_filling.result c.in_ok-span.ensures c.is_filling.ensures c.if-not-is_filling.false
