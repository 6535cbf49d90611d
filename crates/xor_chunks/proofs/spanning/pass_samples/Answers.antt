use Rattle.std.proofs.Common.{ap, sym, ◌∙◌, Some, Ok}
use Rattle.std.proofs.lemmas.Result.{err_from_is_err_and}
use Rattle.xor_chunks.proofs.SpansRead.{no_span, span_no_first, span_stopped, span_reads}
use Rattle.xor_chunks.proofs.spanning.pass_samples.Goals as goal

pub returns-then-count-eq0 : goal.returns-then-count-eq0
returns-then-count-eq0 c = no_span _ _ _ c.if-count-eq0.true c.new.ensures

pub returns-in_err-first : goal.returns-in_err-first
returns-in_err-first c =
    let p = err_from_is_err_and c.from_residual.result c.from_residual.ensures.1 in
    rw (p.1, p.2) (span_no_first c.args.count c.args.bytes.now _ c.if-count-eq0.false c.in_err-first.ensures)

pub returns-in_err-last : goal.returns-in_err-last
returns-in_err-last c =
    let p = err_from_is_err_and c.from_residual-in_err-last.result c.from_residual-in_err-last.ensures.1 in
    rw (p.1, p.2) (span_stopped c.args.count c.in_ok-first.first _ _ _ c.if-count-eq0.false c.in_ok-first.ensures c.of_first.ensures _ c.in_err-last.ensures)

pub returns : goal.returns
returns c =
    span_reads _ _ _ _ _ c.if-count-eq0.false c.in_ok-first.ensures c.of_first.ensures _ _ c.in_ok-last.ensures
    ∙ ap (λ s. Ok (Some s, c.in_ok-last.reader)) (sym c.span.ensures)
