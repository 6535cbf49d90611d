use Rattle.std.proofs.Common.{ap, ◌∙◌, ◌++◌, take}
use Rattle.wire_bytes.specs.Bits.{bits_in, filled}
use Rattle.wire_bytes.proofs.Writers.{finished}
use Rattle.wire_bytes.proofs.bit_writer.BitWriter.finish.Goals as goal

pub returns-clause-bits : goal.returns-clause-bits
returns-clause-bits c =
    let i = c.self.inside in
    let items = rw c.unwrap.ensures at c.extend_from_slice.ensures.items in
    let bytes = c.blob_of.ensures.same ∙ items in
    ap bits_in (bytes ∙ ap (λ a. i.bytes.items ++ take c.div_ceil.result a) c.to_be_bytes-last.ensures) ∙ finished _ _ _ _ c.self.invariant.buffer c.div_ceil.ensures ∙ ap filled c.self.view_is
