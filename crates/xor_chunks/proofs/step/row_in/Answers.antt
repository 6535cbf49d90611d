use Rattle.std.proofs.Common.{◌≡◌, ap, sym, ◌∙◌, arith, rules}
use Rattle.std.specs.Int.{w64, cast_signed, cast_unsigned}
use Rattle.wire_bytes.specs.Fields.{field_value}
use Rattle.xor_chunks.proofs.Takes.{masked}
use Rattle.xor_chunks.proofs.step.row_in.Goals as goal

pub returns-clause-change : goal.returns-clause-change
returns-clause-change c =
    let same : c.field_value.result ≡ cast_signed w64 (cast_unsigned w64 c.field_value.result) = search rules in
    sym same ∙ c.field_value.ensures ∙ ap (field_value c.args.width) (masked _ _ (omega arith))
