use Rattle.std.proofs.Common.{rules}
use Rattle.std.specs.Int.{w32}
use Rattle.wire_bytes.specs.Fields.{number_at}
use Rattle.index_parts.proofs.Moves.{number_size, framed_past, framed_answers, framed_within}
use Rattle.index_parts.proofs.sections.section_of.Goals as goal

pub returns-then-at-index : goal.returns-then-at-index
returns-then-at-index c = framed_past (number_at w32) number_size _ _ c.if-at-index.true

pub summed_content-requires : goal.summed_content-requires
summed_content-requires c = search (rules, framed_within (number_at w32) number_size)

pub returns : goal.returns
returns c = search (rules, framed_answers (number_at w32) number_size)
