use Rattle.std.proofs.Common.{length, refl}
use Rattle.std.specs.Int.{w32, to_be_bytes}
use Rattle.wire_bytes.specs.FieldTexts.{IsFixed}
use Rattle.index_parts.specs.Framed.{section_text}
use Rattle.index_writing.proofs.Stands.{framed_written}
use Rattle.index_writing.proofs.section_writing.append_section.Goals as goal

pub returns-clause-stands : goal.returns-clause-stands
unfolding section_text
returns-clause-stands c = λ after. framed_written (IsFixed w32) c.cut_on_err.result c.put_section-put.result c.args.out.now.items c.put_section-put.new.out.items c.cut_on_err.new.list.items (to_be_bytes w32 (length c.args.content.now)) c.args.content.now after c.crc_of.result c.cut_on_err.ensures.same c.cut_on_err.ensures.ok c.put_section-put.ensures.ok (record { digits = refl; fits = c.requires }) c.crc_of.ensures c.crc_of.type_inv
