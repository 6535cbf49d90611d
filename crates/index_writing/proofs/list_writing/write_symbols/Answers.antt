use Rattle.std.proofs.Common.{◌++◌, length}
use Rattle.std.specs.Str.{IsUtf8}
use Rattle.base.specs.Order.{ComesAfter}
use Rattle.label_sets.specs.Labels.{compare_texts}
use Rattle.index_parts.specs.Framed.{text_field}
use Rattle.index_parts.specs.Symbols.{IsNextSymbol}
use Rattle.index_writing.proofs.Writing.{count_fits, list_written, symbol_writing}
use Rattle.index_writing.proofs.list_writing.write_symbols.Goals as goal

pub write_list-requires-clause-count : goal.write_list-requires-clause-count
write_list-requires-clause-count c = rw c.members.ensures (count_fits _ symbol_writing.some _ c.requires)

pub returns-clause-stands : goal.returns-clause-stands
returns-clause-stands c = λ order after. list_written IsNextSymbol (ComesAfter compare_texts) IsUtf8 text_field symbol_writing c.write_list.result (c.write_list.new.out.items ++ after) (length c.args.out.now.items) _ _ c.members.ensures c.requires c.write_list.ensures.fit order (c.write_list.ensures.stands after)
