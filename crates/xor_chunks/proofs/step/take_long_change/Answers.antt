use Rattle.std.proofs.Common.{◌∙◌, rules}
use Rattle.std.proofs.lemmas.Result.{err_from_is_err_and}
use Rattle.xor_chunks.proofs.Takes.{row_1111_found, row_1111_known_short, row_1111_short, cast_is}
use Rattle.xor_chunks.proofs.step.take_long_change.Goals as goal

pub returns-in_err-take : goal.returns-in_err-take
returns-in_err-take c =
    let p = err_from_is_err_and c.from_residual.result c.from_residual.ensures.1 in
    rw (p.1, p.2) (row_1111_known_short c.args.reader.now _ c.requires c.in_err-take.ensures.read)

pub returns-in_err-field : goal.returns-in_err-field
returns-in_err-field c =
    let p = err_from_is_err_and c.from_residual-in_err-field.result c.from_residual-in_err-field.ensures.1 in
    rw (p.1, p.2) (row_1111_short c.args.reader.now c.take.new.reader _ _ c.requires c.in_ok-take.ensures.read c.in_err-field.ensures.read)

pub returns : goal.returns
returns c =
    row_1111_found _ _ _ _ _ c.requires c.in_ok-take.ensures.read c.in_ok-field.ensures.read
    ∙ cast_is _ _ _ (search rules) c.cast_signed.ensures
