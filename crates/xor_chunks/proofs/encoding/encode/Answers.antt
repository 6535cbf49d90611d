use Rattle.std.proofs.Common.{ap, ◌∙◌}
use Rattle.wire_bytes.specs.Bits.{filled}
use Rattle.xor_chunks.proofs.SamplesWritten.{text_written, all_patterns}
use Rattle.xor_chunks.proofs.PutTexts.{whole_put, rest_to_come}
use Rattle.xor_chunks.proofs.encoding.encode.Goals as goal

pub put_rest-requires : goal.put_rest-requires
put_rest-requires c = rest_to_come _ _ c.requires

pub returns-clause-exact : goal.returns-clause-exact
returns-clause-exact c = c.finish.ensures.bits ∙ ap filled (whole_put _ _ _ _ c.requires.some c.in_ok-bytes.ensures.bits c.in_ok-writer.ensures.bits)

pub returns-clause-text : goal.returns-clause-text
returns-clause-text c =
    let bits = c.finish.ensures.bits ∙ ap filled (whole_put _ _ _ _ c.requires.some c.in_ok-bytes.ensures.bits c.in_ok-writer.ensures.bits) in
    text_written _ _ c.requires (all_patterns _ _ c.requires.some c.in_ok-bytes.ensures.pattern c.in_ok-writer.ensures.patterns) c.finish.ensures.bytes bits
