use Rattle.std.proofs.Common.{ap, ◌∙◌, refl}
use Rattle.std.proofs.lemmas.Result.{err_from_is_err_and}
use Rattle.xor_chunks.specs.Steps.{take_at}
use Rattle.xor_chunks.proofs.Takes.{take_again, take_short}
use Rattle.xor_chunks.proofs.step.take.Goals as goal

pub returns-in_err-take_bits-clause-read : goal.returns-in_err-take_bits-clause-read
returns-in_err-take_bits-clause-read c =
    let p = err_from_is_err_and c.from_residual.result c.from_residual.ensures.1 in
    rw (p.1, p.2) (take_short c.args.count c.args.reader.now (c.in_err-take_bits.ensures.short.0 refl))

pub returns-clause-read : goal.returns-clause-read
returns-clause-read c =
    let e = c.in_ok-take_bits.ensures in
    ap (take_at c.args.count) e.taken ∙ take_again _ _ _ e.number
