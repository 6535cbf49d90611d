use Rattle.std.proofs.Common.{◌++◌, ap, sym, subst, ◌∙◌}
use Rattle.std.proofs.lemmas.Result.{IfOk-weaker}
use Rattle.wire_bytes.specs.Bits.{bits_in}
use Rattle.xor_chunks.specs.Written.{put_first, rest_bits, ArePatterns}
use Rattle.xor_chunks.proofs.encoding.put_rest.Goals as goal

pub returns-in-Some-clause-bits : goal.returns-in-Some-clause-bits
returns-in-Some-clause-bits c = IfOk-weaker c.put_from_second.result _ _ (λ w h. h ∙ ap (λ ss. bits_in c.args.bytes.items ++ rest_bits (put_first c.args.first) ss) (sym c.in-Some.ensures.cases.0)) c.put_from_second.ensures.bits

pub returns-in-Some-clause-patterns : goal.returns-in-Some-clause-patterns
returns-in-Some-clause-patterns c = IfOk-weaker c.put_from_second.result _ _ (λ _ ps. subst ArePatterns (sym c.in-Some.ensures.cases.0) ps) c.put_from_second.ensures.patterns
