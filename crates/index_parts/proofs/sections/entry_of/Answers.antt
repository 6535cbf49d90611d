use Rattle.std.proofs.Common.{rules}
use Rattle.wire_bytes.specs.Fields.{uvarint_at}
use Rattle.index_parts.proofs.Moves.{uvarint_size, framed_past, framed_answers, framed_within}
use Rattle.index_parts.proofs.sections.entry_of.Goals as goal

pub returns-then-at-index : goal.returns-then-at-index
returns-then-at-index c = framed_past uvarint_at uvarint_size _ _ c.if-at-index.true

pub summed_content-requires : goal.summed_content-requires
summed_content-requires c = search (rules, framed_within uvarint_at uvarint_size)

pub returns : goal.returns
returns c = search (rules, framed_answers uvarint_at uvarint_size)
