use Rattle.std.proofs.Common.{length}
use Rattle.wire_bytes.specs.FieldTexts.{IsUvarint}
use Rattle.wire_bytes.specs.Written.{uvarint_text}
use Rattle.wire_bytes.proofs.GroupTexts.{uvarint_text_is}
use Rattle.index_parts.specs.Framed.{entry_text}
use Rattle.index_writing.proofs.Stands.{framed_written}
use Rattle.index_writing.proofs.section_writing.append_entry.Goals as goal

pub returns-clause-stands : goal.returns-clause-stands
unfolding entry_text
returns-clause-stands c = λ after. framed_written IsUvarint c.cut_on_err.result c.put_entry-put.result c.args.out.now.items c.put_entry-put.new.out.items c.cut_on_err.new.list.items (uvarint_text (length c.args.content.now)) c.args.content.now after c.crc_of.result c.cut_on_err.ensures.same c.cut_on_err.ensures.ok c.put_entry-put.ensures.ok (uvarint_text_is _ c.put_entry-put.ensures.fits) c.crc_of.ensures c.crc_of.type_inv
