use Rattle.std.proofs.Common.{◌≡◌, length, inr, arith}
use Rattle.std.proofs.lemmas.Result.{err_from_is_err_and}
use Rattle.block_content.proofs.SpanTests.{stored_refused, found_refused, found_passes, found_bytes}
use Rattle.block_content.proofs.counting.count_one.Goals as goal

pub returns-in_err-found-clause-counted : goal.returns-in_err-found-clause-counted
returns-in_err-found-clause-counted c =
    let p = err_from_is_err_and c.from_residual.result c.from_residual.ensures.1 in
    rw (p.1, p.2) (stored_refused c.args.segments.now c.args.place c.in_err-found.field-0.0 c.in_err-found.ensures.found)

pub returns-in_err-count-clause-counted : goal.returns-in_err-count-clause-counted
returns-in_err-count-clause-counted c =
    let p = err_from_is_err_and c.from_residual-in_err-count.result c.from_residual-in_err-count.ensures.1 in
    rw (p.1, p.2) (inr (found_refused c.args.segments.now c.args.place c.args.meta.now c.in_ok-found.found c.in_ok-found.ensures.found c.in_err-count.field-0.0 c.in_err-count.ensures))

pub returns-clause-counted : goal.returns-clause-counted
returns-clause-counted c =
    let told = found_passes c.args.segments.now c.args.place c.args.meta.now c.in_ok-found.found c.in_ok-found.ensures.found c.in_ok-count.count c.in_ok-count.ensures in
    let many : c.from.result ≡ length told.0 = omega (arith, c.from.ensures, told.2.0) in
    (told.0, told.1, (many, told.2.1))

pub returns-clause-bytes : goal.returns-clause-bytes
returns-clause-bytes c = found_bytes c.args.segments.now c.args.place c.args.meta.now c.in_ok-found.found c.in_ok-found.ensures.found
